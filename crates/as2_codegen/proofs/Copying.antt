-- The words of the list slice as they are left: copied from others, or with those behind them cleared.
use Prim.Native.Nat.{ℕ, ◌+◌, ◌-◌, ◌≤◌}
use mathlib.Core.Path.{◌≡◌, refl, ap, ◌∙◌}
use mathlib.Core.List.{List, ◌++◌}
use mathlib.Core.Bool.{Bool, true, false}
use native.Mathlib.Omega.{arith}
use lib.Dec.{ltb}
use lib.ListN.{length, get_or, take, drop, replicate, length-append, length-take, length-drop, length-replicate, get_or-append, get_or-replicate, get_or-eq_default}
use lib.Seq.{get_or-take, get_or-drop}
use borrow.Author.Tests.{ltb-true, ltb-false}
use borrow.Rule.Slice.PartMut.{put_mid}
use Rattle.std.proofs.lemmas.List.{get_or-append_right}
use Rattle.list_slice.specs.Words.{zeros_of}
use Rattle.builder.specs.Places.{Copied}
use Rattle.as2_codegen.proofs.First.{zeros_at}

pub all_zeros : (n : ℕ) → replicate n 0 ≡ zeros_of n
unfolding zeros_of
all_zeros n = refl

-- the first words, in place of those of a slice of zeros
module _ (w v : List ℕ) (long : length w ≡ 20480) (room : 16384 ≤ length v) (zeros : v ≡ zeros_of (length v)) {x : List ℕ} (e : x ≡ take 16384 w) where
  x_long : length x ≡ 16384
  x_long = ap length e ∙ simp length-take (omega arith)

  pub copied : Copied w (x ++ drop 16384 v)
  copied = record {
    room = simp length-append (omega (arith, x_long));
    same = λ j h. get_or-append x (drop 16384 v) 0 j (rw x_long h) ∙ rw e (get_or-take 16384 w j 0 h);
    rest = λ j h.
        let s : 16384 + (j - 16384) ≡ j = omega arith in
        rw (get_or-append_right x (drop 16384 v) 16384 j 0 x_long h, get_or-drop 16384 v (j - 16384) 0, s) (ap (λ (y : List ℕ). get_or y j 0) zeros ∙ zeros_at (length v) j);
  }

  pub copied_long : length (x ++ drop 16384 v) ≡ length v
  copied_long = simp (length-append, length-drop) (omega (arith, x_long))

-- the words behind the slice's are zeros
module _ (w : List ℕ) (room : 16384 ≤ length w) {ys : List ℕ} (e : ys ≡ replicate (length (take (length w - 16384) (drop 16384 w))) 0) where
  abbrev behind : ℕ
  behind = length w - 16384

  part_long : length (take behind (drop 16384 w)) ≡ behind
  part_long = simp (length-take, length-drop) (omega arith)

  slice_long : length (take 16384 w) ≡ 16384
  slice_long = simp length-take (omega arith)

  abbrev rest : List ℕ
  rest = replicate behind 0 ++ drop behind (drop 16384 w)

  all_long : length (take 16384 w ++ rest) ≡ length w
  all_long = simp (length-append, length-take, length-drop, length-replicate) (omega arith)

  zero_at_lem : (j : ℕ) → 16384 ≤ j → (b : Bool) → ltb j (length w) ≡ b → get_or (take 16384 w ++ rest) j 0 ≡ 0
  zero_at_lem j h true t =
      let l = ltb-true j (length w) t in
      rw (
        get_or-append_right (take 16384 w) rest 16384 j 0 slice_long h,
        get_or-append (replicate behind 0) (drop behind (drop 16384 w)) 0 (j - 16384) (rw (length-replicate {A = ℕ} behind 0) (omega arith)),
        get_or-replicate {A = ℕ} behind (j - 16384) 0 0 (omega arith),
      )
  zero_at_lem j h false t = get_or-eq_default (take 16384 w ++ rest) 0 (omega (arith, ltb-false j (length w) t, all_long))

  pub cleared : Copied w (put_mid 16384 (length w - 16384) w ys)
  cleared = rw (e, part_long) (record {
    room = omega (arith, all_long);
    same = λ j h. get_or-append (take 16384 w) rest 0 j (rw slice_long h) ∙ get_or-take 16384 w j 0 h;
    rest = λ j h. zero_at_lem j h (ltb j (length w)) refl;
  })

  pub cleared_long : length (put_mid 16384 (length w - 16384) w ys) ≡ length w
  cleared_long = rw (e, part_long) all_long
