-- What a binary search finds is what is sought from the first position on.
use Prim.Native.Nat.{ℕ, zero, suc, ◌+◌, ◌<◌, ◌≤◌}
use mathlib.Core.Path.{◌≡◌, refl, ap, sym, ◌∙◌}
use mathlib.Core.List.{List, [], ◌∷◌, ◌++◌}
use mathlib.Core.Option.{Option, none, some, map}
use native.Mathlib.Omega.{arith}
use native.Mathlib.Decide.{dec_lt}
use lib.ListN.{length, get_or}
use borrow.Author.Tests.{eq-eqb, ne_eqb}
use Rattle.std.specs.Prelude.{None, Err}
use Rattle.std.specs.List.Sorted.{IsBinarySearchResult}
use Rattle.std.specs.Ordering.{nat_cmp}
use Rattle.std.proofs.lemmas.List.Sorted.{searched}
use Rattle.action_reader.specs.Walk.{seek}
use Rattle.action_reader.specs.Places.{Rises, IsSeek}

-- what is at index i and nowhere before
seek_at : (x : ℕ) (xs ys : List ℕ) (i : ℕ) → i < length xs → ((j : ℕ) → j < i → get_or xs j 0 < x) → get_or xs i 0 ≡ x → seek x (xs ++ ys) ≡ some i
unfolding seek
seek_at x [] ys i h b e = absurd (omega arith)
seek_at x (y ∷ xs) ys zero h b e = rw (eq-eqb x y (sym e))
seek_at x (y ∷ xs) ys (suc i) h b e =
    rw (ne_eqb x y (λ q. omega (arith, b 0 (omega arith), q)), seek_at x xs ys i (omega arith) (λ j k. b (suc j) (omega arith)) e)

seek_past : (x : ℕ) (xs ys : List ℕ) → ((j : ℕ) → j < length xs → get_or xs j 0 ≡ x → ⊥) → seek x (xs ++ ys) ≡ map (λ (n : ℕ). length xs + n) (seek x ys)
unfolding seek
seek_past x [] ys h = go (seek x ys)
  where
    go : (o : Option ℕ) → o ≡ map (λ (n : ℕ). 0 + n) o
    go none = refl
    go (some n) = ap some (omega arith)
seek_past x (y ∷ xs) ys h = rw (ne_eqb x y (λ q. h 0 (omega arith) (sym q)), seek_past x xs ys (λ j k. h (suc j) (omega arith))) (go (seek x ys))
  where
    go : (o : Option ℕ) → map suc (map (λ (n : ℕ). length xs + n) o) ≡ map (λ (n : ℕ). suc (length xs) + n) o
    go none = refl
    go (some n) = ap some (omega arith)

-- what a binary search finds

abbrev pub Rest : List ℕ → (x : ℕ) → Type 0
Rest ps x = (k : ℕ) → k < length ps → get_or ps k 0 ≡ x → ⊥

module _ (ps : List ℕ) (stop x : ℕ) where
  pub seek_there : (i : ℕ) → Rises ps → i < length ps → get_or ps i 0 ≡ x → seek x (ps ++ (stop ∷ [])) ≡ some i
  seek_there i o h e = seek_at x ps (stop ∷ []) i h (λ j b. omega (arith, o j i (omega arith) b h, e)) e

  pub seek_stop : Rest ps x → x ≡ stop → seek x (ps ++ (stop ∷ [])) ≡ some (length ps)
  unfolding seek
  seek_stop n e = seek_past x ps (stop ∷ []) n ∙ rw (eq-eqb x stop e) (ap some (omega arith))

  pub seek_nowhere : Rest ps x → (x ≡ stop → ⊥) → seek x (ps ++ (stop ∷ [])) ≡ none
  unfolding seek
  seek_nowhere n e = seek_past x ps (stop ∷ []) n ∙ rw (ne_eqb x stop e)

pub rises_all : (ps : List ℕ) → Rises ps → (i j : ℕ) → i ≤ j → j < length ps → get_or ps i 0 ≤ get_or ps j 0
rises_all ps o i j h l = go (dec_lt i j)
  where
    go : Dec (i < j) → get_or ps i 0 ≤ get_or ps j 0
    go (yes k) = omega (arith, o i j (omega arith) k l)
    go (no k) = let e : i ≡ j = omega arith in rw e (omega arith)

pub rest_of : (ps : List ℕ) (x i : ℕ) → (i ≤ length ps) × ((k : ℕ) → k < i → get_or ps k 0 < x) × ((k : ℕ) → i ≤ k → k < length ps → x < get_or ps k 0) → Rest ps x
rest_of ps x i h k l e = go (dec_lt k i)
  where
    go : Dec (k < i) → ⊥
    go (yes z) = omega (arith, h.1 k z, e)
    go (no z) = omega (arith, h.2 k (omega arith) l, e)

-- neither an action's position nor where the list stops: whatever the index that the search gives
pub found_nowhere : (ps : List ℕ) (stop x i : ℕ) → Rises ps → IsBinarySearchResult (λ y. nat_cmp y x) ps (Err i) → (x ≡ stop → ⊥) → IsSeek ps stop x None
found_nowhere ps stop x i o h e = rw (seek_nowhere ps stop x (rest_of _ _ _ (searched ps x (Err i) h (rises_all _ o))) e)
