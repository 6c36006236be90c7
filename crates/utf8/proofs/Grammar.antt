-- `utf8` is the grammar: it holds of the strings that are chars in a row, each of which has one of the forms, and of no others.
-- Assumes nothing.
use mathlib.Core.Path.{◌≡◌, refl, sym, ◌∙◌, subst}
use mathlib.Core.Bool.{true, false, false≢true, and-eq-true_iff}
use mathlib.Core.List.{List, [], ◌∷◌, ◌++◌, Memᴰ}
use mathlib.Core.Logic.{◌↔◌}
use mathlib.Core.Option.{Option, none, some, Option-elim, none-ne-some}
use Prim.Native.Nat.{ℕ}
use native.Mathlib.Omega.{arith}
use lib.Dec.{leb}
use borrow.Author.Tests.{leb-true}
use Rattle.utf8.specs.Utf8.{Range, chars, in_range, started, next, completes, utf8}
use Rattle.utf8.proofs.Forms.{by_test, decided, starts}

-- as many bytes as the form has ranges, each in its own
pub data Matches : List Range → List ℕ → Type 0 where
  end : Matches [] []
  byte : {r : Range} {form : List Range} {b : ℕ} {c : List ℕ} → in_range b r ≡ true → Matches form c → Matches (r ∷ form) (b ∷ c)

-- UTF8-octets = *( UTF8-char )
pub data Octets : List ℕ → Type 0 where
  empty : Octets []
  char : {form : List Range} {c s : List ℕ} → Memᴰ form chars → Matches form c → Octets s → Octets (c ++ s)

abbrev All : (List Range → Type 0) → List (List Range) → Type 0
All P [] = Unit {0}
All P (x ∷ xs) = P x × All P xs

all_at : (P : List Range → Type 0) {form : List Range} {forms : List (List Range)} → All P forms → Memᴰ form forms → P form
all_at P p (Memᴰ.head e) = subst P (sym e) p.0
all_at P p (Memᴰ.tail m) = all_at P p.1 m

-- each byte of a form's first range starts that form and no other
abbrev Own : List Range → Type 0
Own [] = ⊥
Own (r ∷ owed) = decided r.low r.high chars ≡ some (some owed)

owns : All Own chars
owns = (refl, (refl, (refl, (refl, (refl, (refl, (refl, (refl, (refl, tt)))))))))

completes_owed : (s : List ℕ) {form : List Range} {c : List ℕ} → Matches form c → completes form (c ++ s) ≡ completes [] s
unfolding completes next Option-elim
completes_owed s end = refl
completes_owed s (byte w m) = simp w (completes_owed s m)

next_own : (r : Range) (owed : List Range) (b : ℕ) → Own (r ∷ owed) → in_range b r ≡ true → next [] b ≡ some owed
next_own r owed b e w =
    let p = (and-eq-true_iff (leb r.low b) (leb b r.high)).0 w in
    starts r.low r.high (omega (arith, leb-true)) (omega (arith, leb-true)) (some owed) e

completes_char : (s : List ℕ) {form : List Range} {c : List ℕ} → Own form → Matches form c → completes [] (c ++ s) ≡ completes [] s
unfolding completes Option-elim
completes_char s o end = absurd o
completes_char s o (byte {r} {form} {b} w m) = simp (next_own r form b o w) (completes_owed s m)

complete : {s : List ℕ} → Octets s → utf8 s ≡ true
unfolding utf8 completes
complete empty = refl
complete (char {s = s} form m rest) = completes_char s (all_at Own owns form) m ∙ complete rest

started_own : (b : ℕ) (o : List Range) (forms : List (List Range)) → started b forms ≡ some o → (r : Range) × Memᴰ (r ∷ o) forms × (in_range b r ≡ true)
unfolding started
started_own b o [] e = absurd (none-ne-some o e)
started_own b o ([] ∷ forms) e =
    let p = started_own b o forms e in
    (p.0, Memᴰ.tail p.1, p.2)
started_own b o ((r ∷ owed) ∷ forms) e =
    by_test (in_range b r)
    (λ t. let e' : some owed ≡ some o = simp t at e in (r, Memᴰ.head (cc), t))
    (λ t. let p = started_own b o forms (simp t at e) in (p.0, Memᴰ.tail p.1, p.2))

-- what a char owes, and chars after it
abbrev Split : List Range → List ℕ → Type 0
Split form s = (c : List ℕ) × (t : List ℕ) × (s ≡ c ++ t) × Matches form c × Octets t

split_byte : (form : List Range) (b : ℕ) (s : List ℕ) (o : List Range) → next form b ≡ some o → Split o s → Split form (b ∷ s)
unfolding next
split_byte [] b s o e (c, t, p, m, rest) =
    let q = started_own b o chars e in
    ([], b ∷ s, refl, end, rw p (char q.1 (byte q.2 m) rest))
split_byte (r ∷ form) b s o e (c, t, p, m, rest) =
    by_test (in_range b r)
    (λ w.
    let e' : some form ≡ some o = simp w at e in
    let f : form ≡ o = cc in
    (b ∷ c, t, rw p refl, byte w (rw f m), rest))
    (λ w. absurd (none-ne-some o (simp w at e)))

split_next : (form : List Range) (b : ℕ) (s : List ℕ) → ((o : List Range) → completes o s ≡ true → Split o s) → (n : Option (List Range)) → next form b ≡ n → Option-elim n false (λ rest. completes rest s) ≡ true → Split form (b ∷ s)
unfolding Option-elim
split_next form b s below none n e = absurd (false≢true e)
split_next form b s below (some o) n e = split_byte form b s o n (below o e)

split : (s : List ℕ) (form : List Range) → completes form s ≡ true → Split form s
unfolding completes
split [] [] e = ([], [], refl, end, empty)
split [] (r ∷ form) e = absurd (false≢true e)
split (b ∷ s) form e = split_next form b s (λ o. split s o) (next form b) refl e

sound : (s : List ℕ) → utf8 s ≡ true → Octets s
unfolding utf8
sound s e = whole (split s [] e)
  where
    whole : Split [] s → Octets s
    whole (c, t, p, end, rest) = rw p rest

pub grammar : (s : List ℕ) → utf8 s ≡ true ↔ Octets s
grammar s = (sound s, complete)
