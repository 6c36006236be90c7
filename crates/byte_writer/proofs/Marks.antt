-- The marks as bits.
use Prim.Native.Nat.{ℕ, zero, suc, ◌+◌, ◌-◌, ◌*◌, ◌<◌, ◌≤◌, ◌^◌}
use mathlib.Core.Path.{◌≡◌, refl, sym, ap, ◌∙◌}
use mathlib.Core.List.{List, [], ◌∷◌}
use mathlib.Core.Bool.{Bool, true, false}
use native.Mathlib.Omega.{arith}
use Rattle.std.proofs.lemmas.List.{take_all, get_or-take, get_or_push}
use Rattle.std.specs.List.{push}
use lib.ListN.{get_or, length, take, length-append}
use lib.Seq.{take-append_seam, take-take}
use Rattle.std.specs.Int.{from_bool}
use Rattle.std.proofs.Math.Pow.{pow_mono}
use Rattle.decode.specs.Numbers.{bit}
use Rattle.byte_writer.specs.Header.{marks_word}

from_is : (b : Bool) → from_bool b ≡ bit b
from_is true = refl
from_is false = refl

-- n marks from mark i on
abbrev pub bits : List Bool → (n i : ℕ) → ℕ
bits ms zero i = 0
bits ms (suc n) i = bit (get_or ms i false) + 2 * bits ms n (i + 1)

bit_small : (b : Bool) → bit b ≤ 1
bit_small true = omega arith
bit_small false = omega arith

bits_small : (ms : List Bool) (n i : ℕ) → bits ms n i < 2 ^ n
bits_small ms zero i = omega arith
bits_small ms (suc n) i = let a = bit_small (get_or ms i false) in let b = bits_small ms n (i + 1) in grind arith

bits_fit : (ms : List Bool) (i : ℕ) → bits ms (9 - i) i < 512
bits_fit ms i = omega (arith, bits_small ms (9 - i) i, pow_mono {i = 9 - i} {j = 9} (omega arith))

bits_more : (ms : List Bool) (i : ℕ) → i < 9 → bits ms (9 - i) i ≡ 2 * bits ms (9 - (i + 1)) (i + 1) + bit (get_or ms i false)
bits_more ms i h =
    let e : 9 - i ≡ suc (9 - (i + 1)) = omega arith in
    rw e (omega arith)

bits_all : (ms : List Bool) → bits ms 9 0 ≡ marks_word ms
unfolding marks_word
bits_all ms = omega arith

-- those of rest are still to come
pub record MarksLeft (ms rest : List Bool) (word : ℕ) : Type 0 where
  pub few : length rest ≤ 9
  pub first : rest ≡ take (length rest) ms
  pub bits_so_far : word ≡ bits ms (9 - length rest) (length rest)

module _ {ms rest : List Bool} (front : List Bool) {word : ℕ} (b : Bool) (v : MarksLeft ms rest word) (s : rest ≡ push front b) where
  longer : length rest ≡ length front + 1
  longer = ap length s ∙ length-append front (b ∷ [])

  mark_is : get_or ms (length front) false ≡ b
  mark_is =
      sym (get_or-take (length rest) ms (length front) false (omega (arith, longer)))
      ∙ ap (λ (z : List Bool). get_or z (length front) false) (sym v.first ∙ s)
      ∙ get_or_push front b false (length front) refl

  front_is : front ≡ take (length front) ms
  front_is =
      sym (take-append_seam front (b ∷ []))
      ∙ ap (take (length front)) (sym s ∙ v.first)
      ∙ take-take (length front) (length rest) ms (omega (arith, longer))

  word_is : 2 * word + bit b ≡ bits ms (9 - length front) (length front)
  word_is =
      sym (rw (← longer, ← v.bits_so_far, mark_is) at (bits_more ms (length front) (omega (arith, longer, v.few))))

  pub marks_fit : 2 * word + from_bool b < 512
  marks_fit = omega (arith, word_is, from_is b, bits_fit ms (length front))

  pub marks_next : MarksLeft ms front (2 * word + from_bool b)
  marks_next = record { few = omega (arith, longer, v.few); first = front_is; bits_so_far = rw (from_is b) word_is }

pub marks_start : (ms : List Bool) → length ms ≡ 9 → MarksLeft ms ms 0
marks_start ms h = record { few = omega (arith, h); first = sym (take_all (length ms) ms (omega arith)); bits_so_far = rw h refl }

pub marks_done : {ms rest : List Bool} {word : ℕ} → MarksLeft ms rest word → length rest ≡ 0 → word ≡ marks_word ms
marks_done {ms} v h = rw h at v.bits_so_far ∙ bits_all ms
