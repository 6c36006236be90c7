-- The highest bits of bytes that a number has as its digits, and where the lowest of them that is set stands.
-- Assumes nothing.
use mathlib.Core.Path.{◌≡◌, refl, sym, ◌∙◌, ap}
use Prim.Native.Nat.{ℕ, zero, suc, ◌+◌, ◌*◌, ◌/◌, ◌%◌, ◌^◌, ◌≤◌, ◌<◌}
use native.Mathlib.Nat.{pow-suc, mul-one, mul_assoc, zero-add, mod-eq_of_lt}
use native.Mathlib.Omega.{arith}
use lib.ListN.{get_or}
use mathlib.Core.List.{List}
use Rattle.std.specs.Int.{from_le_bytes}
use Rattle.utf8.specs.Chars.{Ascii}
use lib.Bits.{bit_and, and_block, and_high, and_lt}
use mir.Syntax.{w64}
use lib.Count.{count_trailing_zeros, under, trailing_le}

-- n bytes as a number, the first one lowest
abbrev digits : (ℕ → ℕ) → ℕ → ℕ
digits g zero = 0
digits g (suc n) = g 0 + 256 * digits (λ k. g (suc k)) n

-- the highest bit of each of n bytes
abbrev highest : ℕ → ℕ
highest zero = 0
highest (suc n) = 0x80 + 256 * highest n

-- n has z zeros below its lowest set bit: it is a multiple of 2 ^ z, and of its t zeros the others are those of the quotient
abbrev Shifted : ℕ → ℕ → ℕ → ℕ → Type 0
Shifted z k n t = (q : ℕ) × (n ≡ q * 2 ^ z) × (t ≡ z + count_trailing_zeros k q)

shifted_bit : (z k n d t : ℕ) → n % 2 ≡ d → (z ≤ t → Shifted z k (n / 2) t) → suc z ≤ under d t → Shifted (suc z) k n (under d t)
shifted_bit z k n zero t e below h =
    let (q, p, u) = below (omega arith) in
    let m : n ≡ n / 2 * 2 = omega arith in
    (q, m ∙ ap (λ (x : ℕ). x * 2) p ∙ mul_assoc q (2 ^ z) 2 ∙ ap (λ (x : ℕ). q * x) (sym (pow-suc 2 z)), omega arith)
shifted_bit z k n (suc d) t e below h = absurd (omega arith)

shifted : (z k m n : ℕ) → m ≡ z + k → z ≤ count_trailing_zeros m n → Shifted z k n (count_trailing_zeros m n)
unfolding count_trailing_zeros
shifted zero k m n e h = let f : m ≡ k = omega arith in (n, sym (mul-one n), rw f (sym (zero-add (count_trailing_zeros k n))))
shifted (suc z) k zero n e h = absurd (omega arith)
shifted (suc z) k (suc m) n e h = shifted_bit z k n (n % 2) (count_trailing_zeros m (n / 2)) refl (shifted z k m (n / 2) (omega arith)) h

-- the highest bits of a number's first byte and of the others
parted : (b v m : ℕ) → b < 256 → bit_and (b + 256 * v) (0x80 + 256 * m) ≡ bit_and v m * 256 + bit_and b 0x80
parted b v m h =
    let x : b + 256 * v ≡ v * 256 + b = omega arith in
    let y : 0x80 + 256 * m ≡ m * 256 + 0x80 = omega arith in
    rw (x, y) (and_block 8 v m b 0x80 h (omega arith))

not_set : (b : ℕ) → b < 256 → bit_and b 0x80 ≡ 0 → b < 0x80
not_set b h e =
    let f : bit_and b 0x80 ≡ b / 128 % 2 * 128 = and_high b 1 7 in
    let l : b / 128 < 2 = omega arith in
    let m = mod-eq_of_lt l in
    omega arith

-- a byte below the lowest highest bit that is set is ASCII
below_set : (n : ℕ) (g : ℕ → ℕ) → ((k : ℕ) → g k < 256) → (j : ℕ) → 8 * j + 8 ≤ count_trailing_zeros (8 * n) (bit_and (digits g n) (highest n)) → g j < 0x80
below_set zero g small j h = absurd (let l = trailing_le (8 * 0) (bit_and (digits g 0) (highest 0)) in omega arith)
below_set (suc n) g small j h =
    let v = bit_and (digits (λ k. g (suc k)) n) (highest n) in
    let r = bit_and (g 0) 0x80 in
    let e : bit_and (digits g (suc n)) (highest (suc n)) ≡ v * 256 + r = parted (g 0) (digits (λ k. g (suc k)) n) (highest n) (small 0) in
    let h' : 8 * j + 8 ≤ count_trailing_zeros (8 * suc n) (v * 256 + r) = rw (← e) h in
    let (q, p, u) = shifted 8 (8 * n) (8 * suc n) (v * 256 + r) (omega arith) (omega arith) in
    let l = and_lt 8 (g 0) 0x80 (small 0) (omega arith) in
    let z : r ≡ 0 = omega arith in
    let w : q ≡ v = omega arith in
    by_first j (not_set (g 0) (small 0) z) (λ i a. below_set n (λ k. g (suc k)) (λ k. small (suc k)) i (rw (← w) (omega arith)))
  where
    by_first : (j : ℕ) → g 0 < 0x80 → ((i : ℕ) → j ≡ suc i → g (suc i) < 0x80) → g j < 0x80
    by_first zero a b = a
    by_first (suc i) a b = b i refl

-- the same of eight bytes
pub ascii_below : (s : List ℕ) (x : ℕ) → ((k : ℕ) → get_or s k 0 < 256) → x ≡ from_le_bytes w64 s → Ascii s 0 (count_trailing_zeros 64 (bit_and x 0x8080808080808080) / 8)
ascii_below s x small e =
    let f : x ≡ digits (λ k. get_or s k 0) 8 = omega arith in
    record { each = λ k l. rw zero-add (below_set 8 (λ k. get_or s k 0) small k (rw (← f) (omega arith))) }
