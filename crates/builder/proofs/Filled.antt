-- A part of the words set to 0.
use Prim.Native.Nat.{ℕ, ◌+◌, ◌-◌, ◌≤◌, ◌<◌}
use mathlib.Core.Path.{◌≡◌}
use mathlib.Core.List.{List, ◌++◌}
use native.Mathlib.Omega.{arith}
use lib.ListN.{length, get_or, take, drop, replicate, length-append, length-take, length-drop, length-replicate, get_or-append, get_or-replicate}
use lib.Seq.{get_or-take, get_or-drop}
use borrow.Rule.Slice.PartMut.{put_mid}
use Rattle.std.proofs.lemmas.List.{get_or-append_right}

pub record Filled (w : List ℕ) (from end : ℕ) (w' : List ℕ) : Type 0 where
  pub long : length w' ≡ length w
  pub below : (j : ℕ) → j < from → get_or w' j 0 ≡ get_or w j 0
  pub zeros : (j : ℕ) → from ≤ j → j < end → get_or w' j 0 ≡ 0
  pub behind : (j : ℕ) → end ≤ j → get_or w' j 0 ≡ get_or w j 0

-- k words from a on
module _ (w : List ℕ) (a k : ℕ) (room : a + k ≤ length w) {ys : List ℕ} (e : ys ≡ replicate (length (take k (drop a w))) 0) where
  part_long : length (take k (drop a w)) ≡ k
  part_long = simp (length-take, length-drop) (omega arith)

  below_long : length (take a w) ≡ a
  below_long = simp length-take (omega arith)

  abbrev rest : List ℕ
  rest = replicate k 0 ++ drop k (drop a w)

  within : (j : ℕ) → a ≤ j → j < a + k → get_or (take a w ++ rest) j 0 ≡ 0
  within j h q =
      rw (
        get_or-append_right (take a w) rest a j 0 below_long h,
        get_or-append (replicate k 0) (drop k (drop a w)) 0 (j - a) (rw (length-replicate {A = ℕ} k 0) (omega arith)),
        get_or-replicate {A = ℕ} k (j - a) 0 0 (omega arith),
      )

  outside : (j : ℕ) → a + k ≤ j → get_or (take a w ++ rest) j 0 ≡ get_or w j 0
  outside j h =
      let i : a + (k + (j - a - k)) ≡ j = omega arith in
      rw (
        get_or-append_right (take a w) rest a j 0 below_long (omega arith),
        get_or-append_right (replicate k 0) (drop k (drop a w)) k (j - a) 0 (length-replicate {A = ℕ} k 0) (omega arith),
        get_or-drop k (drop a w) (j - a - k) 0,
        get_or-drop a w (k + (j - a - k)) 0,
        i,
      )

  pub fills : Filled w a (a + k) (put_mid a k w ys)
  fills = rw (e, part_long) (record {
    long = simp (length-append, length-take, length-drop, length-replicate) (omega arith);
    below = λ j h. rw (get_or-append (take a w) rest 0 j (rw below_long h), get_or-take a w j 0 h);
    zeros = within;
    behind = outside;
  })
