-- The search for the first name that agrees.
-- Assumes nothing.
use mathlib.Core.Path.{◌≡◌, refl, sym, ◌∙◌}
use mathlib.Core.Bool.{true, false, cond, ◌&&◌, and-false}
use mathlib.Core.List.{List, [], ◌∷◌, map}
use Prim.Native.Nat.{ℕ, ◌+◌, ◌≤◌, ◌<◌}
use native.Mathlib.Numerals.{add-one}
use native.Mathlib.Omega.{arith}
use denote.Ref.{Bor}
use lib.Dec.{eqb}
use borrow.Author.Tests.{eq-eqb, ne_eqb}
use lib.ListN.{length, get_or, drop, drop_of_length-le}
use lib.Seq.{drop-cons}
use Rattle.std.specs.Prelude.{Some, None}
use Rattle.std.specs.Char as letters
use Rattle.std.proofs.lemmas.Bool.Decides.{nat_tests}
use Rattle.special_properties.specs.SpecialProperties.{same, same_spelling, to_ascii_lowercase, names, first_from, get_special_property}

-- the library's folding of letters is the definition's
folded : (b : ℕ) → letters.to_ascii_lowercase b ≡ to_ascii_lowercase b
unfolding to_ascii_lowercase
folded b = grind (arith, nat_tests)

pub lengths_differ : (a b : List ℕ) → (length b ≡ length a → ⊥) → same_spelling a b ≡ false
unfolding same
lengths_differ [] [] h = absurd (h refl)
lengths_differ [] (y ∷ b) h = refl
lengths_differ (x ∷ a) [] h = refl
lengths_differ (x ∷ a) (y ∷ b) h = rw (lengths_differ a b (λ e. h (omega arith))) (and-false (eqb (to_ascii_lowercase x) (to_ascii_lowercase y)))

-- a and b are as long, and agree in their first k letters: the rest decides
pub record Agree (a b : List ℕ) (k : ℕ) : Type 0 where
  pub lengths : length b ≡ length a
  pub rest : same_spelling (drop k a) (drop k b) ≡ same_spelling a b

pub agree_none : {a b : List ℕ} → length b ≡ length a → Agree a b 0
agree_none e = record { lengths = e; rest = refl }

module _ {a b : List ℕ} {k : ℕ} (v : Agree a b k) where
  module _ (p : k < length a) where
    letter : same_spelling (drop k a) (drop k b) ≡ (eqb (letters.to_ascii_lowercase (get_or a k 0)) (letters.to_ascii_lowercase (get_or b k 0)) && same_spelling (drop (k + 1) a) (drop (k + 1) b))
    unfolding same
    letter = rw (folded (get_or a k 0), folded (get_or b k 0), add-one, drop-cons a k 0 p, drop-cons b k 0 (omega (arith, v.lengths)))

    pub agree_more : letters.to_ascii_lowercase (get_or a k 0) ≡ letters.to_ascii_lowercase (get_or b k 0) → Agree a b (k + 1)
    agree_more e = record { lengths = v.lengths; rest = sym (letter ∙ simp (eq-eqb _ _ e)) ∙ v.rest }

    pub agree_not : (letters.to_ascii_lowercase (get_or a k 0) ≡ letters.to_ascii_lowercase (get_or b k 0) → ⊥) → same_spelling a b ≡ false
    agree_not e = sym v.rest ∙ letter ∙ simp (ne_eqb _ _ e)

  pub agree_all : length a ≤ k → same_spelling a b ≡ true
  unfolding same
  agree_all p = sym v.rest ∙ rw (drop_of_length-le a {i = k} p, drop_of_length-le b {i = k} (omega (arith, v.lengths)))

-- property i, as a loop over the table reads it
abbrev property : List (Bor (List ℕ)) → ℕ → List ℕ
property ps i = (get_or ps i (record { ref_ptr = (0, 0); now = [] })).now

-- none of the first i names agrees: the search goes on from i
pub record Passed (ps : List (Bor (List ℕ))) (s : List ℕ) (i : ℕ) : Type 0 where
  pub rest : first_from i (map (λ p. 95 ∷ p.now) (drop i ps)) (95 ∷ s) ≡ get_special_property (95 ∷ s)

pub passed_none : {ps : List (Bor (List ℕ))} {s : List ℕ} → map (λ p. 95 ∷ p.now) ps ≡ names → Passed ps s 0
unfolding get_special_property
passed_none e = record { rest = rw e }

module _ {ps : List (Bor (List ℕ))} {s : List ℕ} {i : ℕ} (v : Passed ps s i) where
  module _ (p : i < length ps) where
    name : first_from i (map (λ p. 95 ∷ p.now) (drop i ps)) (95 ∷ s) ≡ cond (same_spelling s (property ps i)) (Some i) (first_from (i + 1) (map (λ p. 95 ∷ p.now) (drop (i + 1) ps)) (95 ∷ s))
    unfolding first_from same to_ascii_lowercase
    name = rw (add-one, drop-cons ps i (record { ref_ptr = (0, 0); now = [] }) p)

    pub passed_more : same_spelling s (property ps i) ≡ false → Passed ps s (i + 1)
    passed_more e = record { rest = sym (name ∙ simp e) ∙ v.rest }

    pub passed_found : same_spelling s (property ps i) ≡ true → Some i ≡ get_special_property (95 ∷ s)
    passed_found e = sym (name ∙ simp e) ∙ v.rest

  pub passed_all : length ps ≤ i → None ≡ get_special_property (95 ∷ s)
  unfolding first_from
  passed_all p = sym (rw (drop_of_length-le ps {i = i} p)) ∙ v.rest

-- only the underscore is folded to an underscore
folds_other : (b : ℕ) → (b ≡ 95 → ⊥) → to_ascii_lowercase b ≡ 95 → ⊥
unfolding to_ascii_lowercase
folds_other b h e = grind (arith, nat_tests)

-- each name begins with an underscore
pub none_other : (s : List ℕ) → (0 < length s → get_or s 0 0 ≡ 95 → ⊥) → None ≡ get_special_property s
unfolding get_special_property first_from names same to_ascii_lowercase
none_other [] h = refl
none_other (b ∷ s) h = simp (ne_eqb (to_ascii_lowercase b) (to_ascii_lowercase 95) (folds_other b (h (omega arith))))
