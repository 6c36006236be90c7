-- What the readers read at the front of bytes.
use Rattle.std.proofs.Common.{ℕ, zero, suc, ◌+◌, ◌-◌, ◌*◌, ◌≤◌, ◌<◌, ◌≡◌, refl, ap, sym, [], ◌∷◌, Bool, true, false, ltb, arith, length, take, drop, get_or, Fits, w8, Some, None, ◌==◌, cond, add-one}
use mathlib.Core.Option.{none, some}
use native.Mathlib.Nat.{not-suc-le-zero}
use lib.Seq.{drop-cons}
use borrow.Author.Tests.{eqb-true, ltb-false}
use Rattle.std.specs.List.{position, position_or_len}
use Rattle.std.proofs.lemmas.List.Sums.{fails_before_first}
use Rattle.std.proofs.lemmas.List.{take_rest}
use Rattle.std.proofs.lemmas.List.Quantifiers.{position-Some}
use Rattle.utf8.specs.Utf8.{utf8}
use Rattle.record_reader.specs.Steps.{judged}
use Rattle.action_format.specs.Bytes.{Bytes}
use Rattle.action_format.specs.Readers.{bind, ◌>>=◌, pure, given, read_byte, word_reader, read_string}
use Rattle.action_format.proofs.Readers.{byte_law}

abbrev pub Small : Bytes → Type 0
Small b = (k : ℕ) → Fits w8 (get_or b k 0)

pub byte_at : (b : Bytes) (p : ℕ) → p < length b → Small b → read_byte (drop p b) ≡ some (get_or b p 0, drop (suc p) b)
byte_at b p h s = rw (drop-cons b p 0 h) (byte_law (get_or b p 0) (drop (suc p) b) (let h : get_or b p 0 < 256 = omega (arith, s p) in h))

-- fewer bytes than a number has
pub short : (k : ℕ) (d : Bytes) → length d < k → none ≡ word_reader k d
unfolding word_reader read_byte
short zero d h = absurd (not-suc-le-zero h)
short (suc k) [] h = refl
short (suc k) (x ∷ d) h = go (ltb x 256) (short k d (omega arith))
  where
    go : (t : Bool) → none ≡ word_reader k d → none ≡ bind (given t (some (x, d))) (λ b. word_reader k >>= λ n. pure (b + 256 * n))
    go true e = rw (← e)
    go false e = refl

pub byte_none : (b : Bytes) → length b < 1 → none ≡ read_byte b
unfolding read_byte
byte_none [] h = refl
byte_none (x ∷ r) h = absurd (omega arith)

-- numbers, and the bytes left

module _ (b : Bytes) (s : Small b) where
  pub byte_some : 1 ≤ length b → some (get_or b 0 0, take (length b - 1) (drop 1 b)) ≡ read_byte b
  byte_some h = rw (take_rest b 1) (sym (byte_at b 0 h s))

  pub word_some : {n : ℕ} → 2 ≤ length b → n ≡ get_or b 0 0 + get_or b 1 0 * 256 → some (n, take (length b - 2) (drop 2 b)) ≡ word_reader 2 b
  unfolding word_reader
  word_some {n} h e = rw (take_rest b 2, byte_at b 0 (omega arith) s, byte_at b 1 (omega arith) s)
      (ap (λ (m : ℕ). some (m, drop 2 b)) (omega arith))

  pub long_some : {n : ℕ} → 4 ≤ length b → n ≡ get_or b 0 0 + get_or b 1 0 * 256 + get_or b 2 0 * 65536 + get_or b 3 0 * 16777216 →
      some (n, take (length b - 4) (drop 4 b)) ≡ word_reader 4 b
  unfolding word_reader
  long_some {n} h e = rw (take_rest b 4, byte_at b 0 (omega arith) s, byte_at b 1 (omega arith) s, byte_at b 2 (omega arith) s, byte_at b 3 (omega arith) s)
      (ap (λ (m : ℕ). some (m, drop 4 b)) (omega arith))

-- a string ends at its first zero byte

string_at : (b : Bytes) (i : ℕ) → i < length b → get_or b i 0 ≡ 0 → ((k : ℕ) → k < i → get_or b k 0 ≡ 0 → ⊥) → read_string b ≡ some (take i b, drop (suc i) b)
unfolding read_string
string_at [] i h z n = absurd (omega arith)
string_at (zero ∷ r) zero h z n = refl
string_at (zero ∷ r) (suc i) h z n = absurd (n 0 (omega arith) refl)
string_at (suc x ∷ r) zero h z n = absurd (omega arith)
string_at (suc x ∷ r) (suc i) h z n = rw (string_at r i (omega arith) z (λ k l. n (suc k) (omega arith)))

string_none : (b : Bytes) → ((k : ℕ) → k < length b → get_or b k 0 ≡ 0 → ⊥) → read_string b ≡ none
unfolding read_string
string_none [] n = refl
string_none (zero ∷ r) n = absurd (n 0 (omega arith) refl)
string_none (suc x ∷ r) n = rw (string_none r (λ k l. n (suc k) (omega arith)))

abbrev is_zero : ℕ → Bool
is_zero x = x == 0

not_zero : (x : ℕ) → is_zero x ≡ false → x ≡ 0 → ⊥
not_zero x e z = let f : is_zero 0 ≡ false = rw z at e in cc

pub string_ends : (b : Bytes) (i : ℕ) {t : Bool} → Some i ≡ position (λ x. x == 0) b → t ≡ utf8 (take i b) → some (t, take (length b - (i + 1)) (drop (i + 1) b)) ≡ judged utf8 (read_string b)
string_ends b i {t} e u =
    let h = position-Some is_zero b i 0 (sym e) in
    let z : get_or b i 0 ≡ 0 = eqb-true (get_or b i 0) 0 h.1 in
    let r = string_at b i h.0 z (λ k l. not_zero (get_or b k 0) (h.2 k l)) in
    rw (take_rest b (i + 1), r, add-one i, u)

-- The library says what a place found by `position` is (`position-Some`), and nothing of a search that finds none.
found_none : (t : Bool) (x : ℕ) → None ≡ cond t (Some x) None → t ≡ false
found_none true x e = cc
found_none false x e = refl

pub string_open : (b : Bytes) → None ≡ position (λ x. x == 0) b → read_string b ≡ none
string_open b e =
    let f = found_none (ltb (position_or_len is_zero b) (length b)) (position_or_len is_zero b) e in
    let l : length b ≤ position_or_len is_zero b = ltb-false (position_or_len is_zero b) (length b) f in
    string_none b (λ k h. not_zero (get_or b k 0) (fails_before_first is_zero b k 0 (omega arith)))
