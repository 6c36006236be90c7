-- The string of a reference, and the search of the pool along the strings of one hash.
use Prim.Native.Nat.{ℕ, zero, suc, ◌+◌, ◌-◌, ◌≤◌, ◌<◌}
use mathlib.Core.Path.{◌≡◌, refl, sym, ap, ◌∙◌}
use mathlib.Core.List.{List, ◌∷◌, map}
use mathlib.Core.Bool.{Bool, true, false, cond}
use mathlib.Core.Option.{none, some}
use mathlib.Core.Option as math
use native.Mathlib.Omega.{arith}
use lib.ListN.{length, get_or, take, drop, length-take, length-drop, drop_of_length-le}
use lib.Seq.{drop-cons, get_or-take, get_or-drop}
use lib.Dec.{eqb}
use borrow.Author.Tests.{eqb-false}
use Rattle.std.specs.Prelude.{Option, None}
use Rattle.hir.specs.Hir.{Str}
use Rattle.special_properties.specs.SpecialProperties.{same_bytes}
use Rattle.lowering.specs.Strings.{find}
use Rattle.list_slice.specs.File.{text_in}
use Rattle.codegen_state.specs.Index.{hash, latest, hash_at, Indexed}
use Rattle.codegen_state.proofs.Index.{latest_le, latest_again, latest_has}
use Rattle.special_properties.proofs.Laws.{same_bytes_equal}
use Rattle.constants.specs.Pool.{place, found_of}

-- the same reference is the same string
pub same_reference : (F : List ℕ) {s t : ℕ} → t ≡ s → true ≡ same_bytes (text_in F s) (text_in F t)
same_reference F {s} {t} e = sym ((same_bytes_equal (text_in F s) (text_in F t)).1 (ap (text_in F) (sym e)))

find_here : (p : Str → Bool) (i : ℕ) (x : Str) (xs : List Str) → find p i (x ∷ xs) ≡ cond (p x) (some i) (find p (suc i) xs)
find_here p i x xs = go (p x)
  where
    go : (b : Bool) → ◌≡◌ {A = math.Option ℕ} (elim b [ true ↦ some i | false ↦ find p (suc i) xs ]) (cond b (some i) (find p (suc i) xs))
    go true = refl
    go false = refl

-- strings of other hashes are other strings
other_hash : (x y : List ℕ) → eqb (hash y) (hash x) ≡ false → same_bytes x y ≡ false
other_hash x y e = go (same_bytes x y) refl
  where
    go : (b : Bool) → same_bytes x y ≡ b → b ≡ false
    go false q = refl
    go true q = absurd (eqb-false (hash y) (hash x) e (ap hash (sym ((same_bytes_equal x y).0 q))))

-- the first n words of the pool
abbrev pool : List ℕ → ℕ → List ℕ
pool w n = take n (drop 14336 w)

module _ (F w : List ℕ) (n s : ℕ) where
  -- the first place from i on
  abbrev place_from : ℕ → math.Option ℕ
  place_from i = find (same_bytes (text_in F s)) i (map (text_in F) (drop i (pool w n)))

  abbrev sought_hash : ℕ
  sought_hash = hash (text_in F s)

  -- the loop of `find`: of the strings from `next` on, it was found
  pub record Searching (next : ℕ) (f : Option ℕ) : Type 0 where
    pub within : next ≤ n
    pub latest_is : next ≡ latest (hash_at F w) sought_hash next
    pub rest : found_of f ≡ place_from next

  module _ (long : 14336 + n ≤ length w) where
    place_at_index : (i : ℕ) → i < n → place_from i ≡ cond (same_bytes (text_in F s) (text_in F (get_or w (14336 + i) 0))) (some i) (place_from (suc i))
    place_at_index i h =
        let e : drop i (pool w n) ≡ get_or w (14336 + i) 0 ∷ drop (suc i) (pool w n) =
        rw (drop-cons (pool w n) i 0 (simp (length-take, length-drop) (omega arith)), get_or-take n (drop 14336 w) i 0 h, get_or-drop 14336 w i 0) in
        rw e (find_here (same_bytes (text_in F s)) i (text_in F (get_or w (14336 + i) 0)) (map (text_in F) (drop (suc i) (pool w n))))

    -- what lies between a place and the latest string of the hash before it is passed over
    passed_over : (m : ℕ) → m ≤ n → place_from (latest (hash_at F w) sought_hash m) ≡ place_from m
    unfolding latest
    passed_over zero h = refl
    passed_over (suc m) h = go (eqb (hash_at F w m) sought_hash) refl (passed_over m (omega arith))
      where
        go : (b : Bool) → eqb (hash_at F w m) sought_hash ≡ b → place_from (latest (hash_at F w) sought_hash m) ≡ place_from m →
            place_from (cond b (suc m) (latest (hash_at F w) sought_hash m)) ≡ place_from (suc m)
        go true e q = refl
        go false e q = q ∙ place_at_index m (omega arith) ∙ rw (other_hash (text_in F s) (text_in F (get_or w (14336 + m) 0)) e)

    none_from : place_from n ≡ none
    none_from = rw (drop_of_length-le (pool w n) {i = n} (simp length-take (omega arith)), find)

    module _ (x : Indexed F n w) where
      pub search_starts : {h next : ℕ} → (h ≡ sought_hash) × (h < 2048) → next ≡ get_or w (16384 + h) 0 → Searching next None
      search_starts {h} {next} p e =
          let q : next ≡ latest (hash_at F w) sought_hash n = e ∙ x.heads h p.1 ∙ ap (λ (k : ℕ). latest (hash_at F w) k n) p.0 in
          record {
            within = rw q (latest_le (hash_at F w) sought_hash n);
            latest_is = rw q (sym (latest_again (hash_at F w) sought_hash n));
            rest = rw q (sym (passed_over n (omega arith) ∙ none_from));
          }

      pub search_goes_on : {next : ℕ} {f g : Option ℕ} {t : Bool} {i after : ℕ} → Searching next f → (1 ≤ next) × (i ≡ next - 1) →
          t ≡ same_bytes (text_in F s) (text_in F (get_or w (14336 + i) 0)) → found_of g ≡ cond t (some i) (found_of f) → after ≡ get_or w (18432 + i) 0 → Searching after g
      search_goes_on {next} {f} {g} {t} {i} {after} v d u r a =
          let m : next ≡ suc i = omega (arith, d.0, d.1) in
          let less : i < n = omega (arith, m, v.within) in
          let has : hash_at F w i ≡ sought_hash = latest_has (hash_at F w) sought_hash i (sym m ∙ v.latest_is ∙ ap (latest (hash_at F w) sought_hash) m) in
          let q : after ≡ latest (hash_at F w) sought_hash i = a ∙ x.links i less ∙ ap (λ (k : ℕ). latest (hash_at F w) k i) has in
          record {
            within = rw q (omega (arith, latest_le (hash_at F w) sought_hash i));
            latest_is = rw q (sym (latest_again (hash_at F w) sought_hash i));
            rest = rw q (r ∙ rw (u, v.rest, m) (sym (passed_over i (omega arith) ∙ place_at_index i less)));
          }

      pub search_falls : {next : ℕ} {f : Option ℕ} {i after : ℕ} → Searching next f → (1 ≤ next) × (i ≡ next - 1) → after ≡ get_or w (18432 + i) 0 → after < next
      search_falls {next} {f} {i} v d a = omega (arith, d.0, d.1, a ∙ x.links i (omega (arith, v.within, d.0, d.1)), latest_le (hash_at F w) (hash_at F w i) i)

    pub search_ends : {next : ℕ} {f : Option ℕ} → Searching next f → (1 ≤ next → ⊥) → found_of f ≡ place F (pool w n) s
    search_ends {next} v z = let e : next ≡ 0 = omega arith in v.rest ∙ ap place_from e
