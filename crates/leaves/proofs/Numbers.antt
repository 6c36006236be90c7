-- Numbers in two's complement: one less, the negative, the sign of a float.
use Prim.Native.Nat.{ℕ, zero, suc, ◌+◌, ◌-◌, ◌*◌, ◌%◌, ◌<◌}
use mathlib.Core.Path.{◌≡◌, refl}
use mathlib.Core.Bool.{Bool, true, false}
use native.Mathlib.Omega.{arith}
use lib.Dec.{eqb}
use lib.IntN.{ℤ, pos, negsuc, neg_ℤ}
use borrow.Author.Tests.{eqb-false, ne_eqb}
use mir.Syntax.{w32}
use mir.Val.{SFits, of_z}
use Rattle.decode.specs.Numbers.{unsigned}
use Rattle.lowering.specs.Statement.{frame}

-- the bits of a number are its word
word_is : (z : ℤ) → of_z w32 z ≡ unsigned z
word_is (pos n) = refl
word_is (negsuc n) = omega arith

-- only the least number has no negative

neg_fits : (z : ℤ) → SFits w32 z → (unsigned z ≡ 0x8000_0000 → ⊥) → SFits w32 (neg_ℤ z)
neg_fits (pos zero) f h = record { sfits = omega arith }
neg_fits (pos (suc n)) f h = record { sfits = omega (arith, f.sfits) }
neg_fits (negsuc n) f h = record { sfits = omega (arith, f.sfits, more) }
  where
    more : (suc n ≡ 0x8000_0000 → ⊥)
    more e = h (omega arith)

least_unfit : (z : ℤ) → SFits w32 z → SFits w32 (neg_ℤ z) → unsigned z ≡ 0x8000_0000 → ⊥
least_unfit (pos n) f g e = omega (arith, f.sfits)
least_unfit (negsuc n) f g e = omega (arith, g.sfits)

pub is_least : (z : ℤ) → SFits w32 z → (SFits w32 (neg_ℤ z) → ⊥) → eqb (unsigned z) 0x8000_0000 ≡ true
is_least z f h = by (eqb (unsigned z) 0x8000_0000) refl
  where
    by : (b : Bool) → eqb (unsigned z) 0x8000_0000 ≡ b → b ≡ true
    by true e = refl
    by false e = absurd (h (neg_fits z f (eqb-false _ _ e)))

pub not_least : (z : ℤ) → SFits w32 z → SFits w32 (neg_ℤ z) → eqb (unsigned z) 0x8000_0000 ≡ false
not_least z f g = ne_eqb (unsigned z) 0x8000_0000 (least_unfit z f g)

pub negative_word : (z : ℤ) → SFits w32 z → unsigned (neg_ℤ z) ≡ (0x1_0000_0000 - unsigned z) % 0x1_0000_0000
negative_word (pos zero) f = refl
negative_word (pos (suc n)) f = omega (arith, f.sfits)
negative_word (negsuc n) f = omega (arith, f.sfits)

-- a frame's number

frame_at : (n : ℕ) → (n - 1) % 65536 ≡ frame n
frame_at zero = refl
frame_at (suc n) = let e : suc n - 1 ≡ n = omega arith in rw e

pub frame_is : (z : ℤ) {u v : ℕ} → u ≡ of_z w32 z → v ≡ u - 1 → v % 65536 ≡ frame (unsigned z)
frame_is z e q = rw (q, e, word_is z) (frame_at (unsigned z))

-- The highest bit of a float changes. The library has no lemma of a carry out of the upper of two words.

pub sign_flipped : (low high : ℕ) → low < 0x1_0000_0000 → high < 0x1_0000_0000 →
    low + 0x1_0000_0000 * ((high + 0x8000_0000) % 0x1_0000_0000) ≡ (low + 0x1_0000_0000 * high + 0x8000_0000_0000_0000) % 0x1_0000_0000_0000_0000
sign_flipped low high h k = omega arith
