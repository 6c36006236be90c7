-- An entry written changes that entry alone.
use Prim.Native.Nat.{ℕ, ◌+◌, ◌*◌, ◌<◌}
use mathlib.Core.Path.{◌≡◌}
use mathlib.Core.Logic.{◌≢◌}
use mathlib.Core.List.{List}
use native.Mathlib.Omega.{arith}
use lib.ListN.{get_or, set, length, drop, length-set}
use lib.Seq.{get_or-set_same, get_or-set_other, drop-set-lt}
use Rattle.list_slice.specs.Entry.{entry}
use Rattle.list_slice.specs.Words.{entry_at}
use Rattle.builder.specs.Entries.{put3}

pub length_put : (w : List ℕ) (i c a b : ℕ) → length (put3 w i c a b) ≡ length w
unfolding put3
length_put w i c a b = simp length-set

pub entry_same : (w : List ℕ) (i c a b : ℕ) → i * 3 + 2 < length w → entry_at (put3 w i c a b) i ≡ entry c a b
unfolding put3 entry_at
entry_same w i c a b h =
    rw (
      get_or-set_other (set (set w (i * 3) c) (i * 3 + 1) a) (i * 3 + 2) (i * 3) b 0 (λ e. omega arith),
      get_or-set_other (set w (i * 3) c) (i * 3 + 1) (i * 3) a 0 (λ e. omega arith),
      get_or-set_same w (i * 3) c 0 (omega arith),
      get_or-set_other (set (set w (i * 3) c) (i * 3 + 1) a) (i * 3 + 2) (i * 3 + 1) b 0 (λ e. omega arith),
      get_or-set_same (set w (i * 3) c) (i * 3 + 1) a 0 (rw length-set (omega arith)),
      get_or-set_same (set (set w (i * 3) c) (i * 3 + 1) a) (i * 3 + 2) b 0 (simp length-set (omega arith)),
    )

pub getD_put : (w : List ℕ) (i c a b j : ℕ) → j ≢ i * 3 → j ≢ i * 3 + 1 → j ≢ i * 3 + 2 → get_or (put3 w i c a b) j 0 ≡ get_or w j 0
unfolding put3
getD_put w i c a b j p q r =
    rw (get_or-set_other (set (set w (i * 3) c) (i * 3 + 1) a) (i * 3 + 2) j b 0 r, get_or-set_other (set w (i * 3) c) (i * 3 + 1) j a 0 q, get_or-set_other w (i * 3) j c 0 p)

pub entry_other : (w : List ℕ) (i c a b j : ℕ) → j ≢ i → entry_at (put3 w i c a b) j ≡ entry_at w j
unfolding entry_at
entry_other w i c a b j h =
    rw (
      getD_put w i c a b (j * 3) (λ e. h (omega arith)) (λ e. h (omega arith)) (λ e. h (omega arith)),
      getD_put w i c a b (j * 3 + 1) (λ e. h (omega arith)) (λ e. h (omega arith)) (λ e. h (omega arith)),
      getD_put w i c a b (j * 3 + 2) (λ e. h (omega arith)) (λ e. h (omega arith)) (λ e. h (omega arith)),
    )

pub side_put : (w : List ℕ) (i c a b k : ℕ) → i * 3 + 2 < k → drop k (put3 w i c a b) ≡ drop k w
unfolding put3
side_put w i c a b k h =
    rw (drop-set-lt k (set (set w (i * 3) c) (i * 3 + 1) a) (i * 3 + 2) b, drop-set-lt k (set w (i * 3) c) (i * 3 + 1) a (omega arith), drop-set-lt k w (i * 3) c (omega arith))

-- and so does a word written after the entries

pub entry_side : (w : List ℕ) (j v i : ℕ) → i * 3 + 2 < j → entry_at (set w j v) i ≡ entry_at w i
unfolding entry_at
entry_side w j v i h =
    rw (get_or-set_other w j (i * 3) v 0 (λ e. omega arith), get_or-set_other w j (i * 3 + 1) v 0 (λ e. omega arith), get_or-set_other w j (i * 3 + 2) v 0 (λ e. omega arith))
