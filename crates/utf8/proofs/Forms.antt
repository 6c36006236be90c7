-- Which form a first byte starts, said once for a whole range of bytes.
-- Assumes nothing.
use mathlib.Core.Path.{◌≡◌, refl}
use mathlib.Core.Bool.{Bool, true, false, cond, ◌&&◌, and-false, and-eq-true_iff}
use mathlib.Core.List.{List, [], ◌∷◌}
use mathlib.Core.Option.{Option, none, some}
use Prim.Native.Nat.{ℕ, ◌≤◌}
use native.Mathlib.Omega.{arith}
use lib.Dec.{eqb, leb, ltb}
use borrow.Author.Tests.{eqb-true, eqb-false, leb-true, ltb-true, ltb-false, le-leb, lt-leb}
use Rattle.utf8.specs.Utf8.{Range, tail, chars, started, next}
use Rattle.utf8.specs.Chars.{second}

-- The two answers of a test, each with what it says. The library's `cases_Bool` gives a sum, whose cases each use would have to take apart.
pub by_test : {P : Type 0} (t : Bool) → (t ≡ true → P) → (t ≡ false → P) → P
by_test true y n = y refl
by_test false y n = n refl

-- what every byte from low to high starts: the first form that has them all, where each form before it has none of them
abbrev pub decided : ℕ → ℕ → List (List Range) → Option (Option (List Range))
decided low high [] = some none
decided low high ([] ∷ forms) = decided low high forms
decided low high ((r ∷ owed) ∷ forms) =
    cond (leb r.low low && leb high r.high) (some (some owed))
    (cond (ltb r.high low) (decided low high forms) (cond (ltb high r.low) (decided low high forms) none))

module _ (low high : ℕ) {b : ℕ} (above : low ≤ b) (below : b ≤ high) where
  among : (forms : List (List Range)) (o : Option (List Range)) → decided low high forms ≡ some o → started b forms ≡ o
  unfolding started
  among [] o e = cc
  among ([] ∷ forms) o e = among forms o e
  among ((r ∷ owed) ∷ forms) o e =
      by_test (leb r.low low && leb high r.high)
      (λ t.
      let p = (and-eq-true_iff (leb r.low low) (leb high r.high)).0 t in
      let e' : some (some owed) ≡ some o = simp t at e in
      simp (le-leb r.low b (omega (arith, leb-true)), le-leb b r.high (omega (arith, leb-true))) (cc))
      (λ t.
      by_test (ltb r.high low)
      (λ u. simp (lt-leb b r.high (omega (arith, ltb-true)), and-false) (among forms o (simp (t, u) at e)))
      (λ u.
      by_test (ltb high r.low)
      (λ v. simp (lt-leb r.low b (omega (arith, ltb-true))) (among forms o (simp (t, u, v) at e)))
      (λ v. let e' : none ≡ some o = simp (t, u, v) at e in cc)))

  pub starts : (o : Option (List Range)) → decided low high chars ≡ some o → next [] b ≡ o
  unfolding next
  starts o e = among chars o e

-- what a first byte owes after the second
abbrev pub more : ℕ → List Range
more b = cond (ltb b 0xE0) [] (cond (ltb b 0xF0) (tail ∷ []) (tail ∷ tail ∷ []))

pub second_tail : (b : ℕ) → eqb b 0xE0 ≡ false → eqb b 0xED ≡ false → eqb b 0xF0 ≡ false → eqb b 0xF4 ≡ false → second b ≡ tail
second_tail b e f g h = simp (e, f, g, h)

-- every first byte of a char of several bytes
pub opened : (b : ℕ) → 0xC2 ≤ b → b ≤ 0xF4 → next [] b ≡ some (second b ∷ more b)
unfolding next started
opened b h k =
    by_test (eqb b 0xE0) (λ t. let e = eqb-true b 0xE0 t in rw e refl)
    (λ e.
    by_test (eqb b 0xED) (λ t. let f = eqb-true b 0xED t in rw f refl)
    (λ f.
    by_test (eqb b 0xF0) (λ t. let g = eqb-true b 0xF0 t in rw g refl)
    (λ g.
    by_test (eqb b 0xF4) (λ t. let g = eqb-true b 0xF4 t in rw g refl)
    (λ d.
    let p = second_tail b e f g d in
    rw p
    (by_test (ltb b 0xE0) (λ t. simp t (starts 0xC2 0xDF {b = b} h (omega (arith, ltb-true)) (some (tail ∷ [])) refl))
    (λ t.
    by_test (ltb b 0xF0)
    (λ u.
    simp (t, u)
    (by_test (ltb b 0xED) (λ v. starts 0xE1 0xEC {b = b} (omega (arith, eqb-false, ltb-false)) (omega (arith, ltb-true)) (some (tail ∷ tail ∷ [])) refl)
    (λ v. starts 0xEE 0xEF {b = b} (omega (arith, eqb-false, ltb-false)) (omega (arith, ltb-true)) (some (tail ∷ tail ∷ [])) refl)))
    (λ u. simp (t, u) (starts 0xF1 0xF3 {b = b} (omega (arith, eqb-false, ltb-false)) (omega (arith, eqb-false)) (some (tail ∷ tail ∷ tail ∷ [])) refl))))))))
