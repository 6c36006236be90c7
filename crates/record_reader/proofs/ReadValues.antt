-- Pushed values, by their types.
use Rattle.std.proofs.Common.{ℕ, zero, suc, ◌+◌, ◌-◌, ◌*◌, ◌/◌, ◌%◌, ◌^◌, ◌<◌, ◌≤◌, ◌≡◌, refl, ap, sym, ◌∙◌, true, Some, None, arith, length, take, drop, ◌++◌, ◌⊎◌, inl, inr, length-append, length-drop, suc-add, zero-add, one-mul, mul-add, mul_assoc, add_assoc, pow-suc, mul_left_comm}
use mathlib.Core.Option as math
use mathlib.Core.Option.{none, some}
use lib.ListN.{drop_of_length-le}
use Rattle.std.proofs.lemmas.List.{take_rest}
use borrow.Author.Tests.{lt-ltb}
use Rattle.action_format.specs.Bytes.{Bytes, stored}
use Rattle.action_format.specs.Readers.{P, bind, ◌>>=◌, pure, read_byte, word_reader, dispatch}
use Rattle.action_format.specs.Decode.{value_readers, read_value}
use Rattle.action_format.proofs.Readers.{reads_word}
use Rattle.action_format.proofs.Values.{reads_value}
use Rattle.record_reader.specs.declared.PushedValue.{PushedValue}
use Rattle.record_reader.specs.Heads.{pushed_value, value_at}
use Rattle.record_reader.specs.Steps.{pushed_of}
use Rattle.record_reader.proofs.Judged.{got, got_none}

-- a number in two parts, the lower one first

module _ (k : ℕ) where
  abbrev in_parts : (j : ℕ) → P ℕ
  in_parts j = word_reader j >>= λ low. word_reader k >>= λ high. pure (low + 256 ^ j * high)

  parts : (j : ℕ) (d : Bytes) → word_reader (j + k) d ≡ in_parts j d
  unfolding word_reader
  parts zero d = go (word_reader (0 + k) d) (word_reader k d) (rw (zero-add k))
    where
      go : (o u : math.Option (ℕ × Bytes)) → o ≡ u → o ≡ bind u (λ high. pure (0 + 256 ^ 0 * high))
      go o none e = e
      go o (some x) e = rw (e, zero-add (256 ^ 0 * x.0), one-mul x.0)
  parts (suc j) d = rw (suc-add j k) (go (read_byte d) (parts j))
    where
      sum : (b low high : ℕ) → b + 256 * (low + 256 ^ j * high) ≡ b + 256 * low + 256 ^ suc j * high
      sum b low high = rw (pow-suc 256 j, mul-add 256 low (256 ^ j * high), add_assoc, mul_assoc, mul_left_comm)

      inner : (b low : ℕ) (o : math.Option (ℕ × Bytes)) → bind (bind o (λ high. pure (low + 256 ^ j * high))) (λ n. pure (b + 256 * n)) ≡ bind o (λ high. pure (b + 256 * low + 256 ^ suc j * high))
      inner b low none = refl
      inner b low (some x) = rw (sum b low x.0)

      mid : (b : ℕ) (o : math.Option (ℕ × Bytes)) → bind (bind o (λ low. word_reader k >>= λ high. pure (low + 256 ^ j * high))) (λ n. pure (b + 256 * n))
          ≡ bind (bind o (λ low. pure (b + 256 * low))) (λ low. word_reader k >>= λ high. pure (low + 256 ^ suc j * high))
      mid b none = refl
      mid b (some x) = inner b x.0 (word_reader k x.1)

      go : (o : math.Option (ℕ × Bytes)) → ((r : Bytes) → word_reader (j + k) r ≡ in_parts j r) →
          bind o (λ b. word_reader (j + k) >>= λ n. pure (b + 256 * n)) ≡ bind (bind o (λ b. word_reader j >>= λ n. pure (b + 256 * n))) (λ low. word_reader k >>= λ high. pure (low + 256 ^ suc j * high))
      go none h = refl
      go (some x) h = rw (h x.1) (mid x.0 (word_reader j x.1))

-- a float's low and high word

module _ (at pool : ℕ) (d : Bytes) where
  abbrev float : math.Option (PushedValue × Bytes)
  float = pushed_of at pool (dispatch value_readers 6 d)

  pub no_low : none ≡ word_reader 4 d → none ≡ float
  no_low e = rw (parts 4 4 d, ← e)

  module _ {low : ℕ} {r : Bytes} (e : some (low, r) ≡ word_reader 4 d) where
    pub no_high : none ≡ word_reader 4 r → none ≡ float
    no_high f = rw (parts 4 4 d, ← e, ← f)

    pub float_value : {high : ℕ} {s : Bytes} → some (high, s) ≡ word_reader 4 r →
        some (record { code = 6; first = low; second = high; fits = true }, s) ≡ float
    unfolding stored
    float_value {high} {s} f =
        let h : low < 2 ^ 32 = ((reads_word 4).run d low r (sym e)).fact.1 in
        let k : high < 2 ^ 32 = ((reads_word 4).run r high s (sym f)).fact.1 in
        let m : (low + 2 ^ 32 * high) % 2 ^ 32 ≡ low = omega arith in
        let q : (low + 2 ^ 32 * high) / 2 ^ 32 ≡ high = omega arith in
        rw (parts 4 4 d, ← e, ← f, m, q, lt-ltb (low + 2 ^ 32 * high) (2 ^ 64) (omega arith))

-- a value's type and what follows it

pub value_past : (b : Bytes) (p pool : ℕ) → (length b < p) ⊎ (length b < length b) → None ≡ value_at b p pool
unfolding value_at read_value read_byte
value_past b p pool (inl h) = let k : length b ≤ p = omega arith in rw (drop_of_length-le b k)
value_past b p pool (inr h) = absurd (omega arith)

module _ (b : Bytes) (p pool : ℕ) {d : Bytes} (e : d ≡ take (length b - p) (drop p b)) where
  there : drop p b ≡ d
  there = sym (e ∙ take_rest b p)

  pub value_untyped : none ≡ read_byte d → None ≡ value_at b p pool
  unfolding value_at read_value
  value_untyped f = rw (there, ← f)

  module _ {k : ℕ} {r : Bytes} (f : some (k, r) ≡ read_byte d) where
    typed : read_value (drop p b) ≡ dispatch value_readers k r
    unfolding read_value
    typed = rw (there, ← f)

    pub value_none : none ≡ pushed_of (p + 1) pool (dispatch value_readers k r) → None ≡ value_at b p pool
    unfolding value_at
    value_none g = rw (typed, got_none (pushed_value (p + 1) pool) (dispatch value_readers k r) g)

    module _ {v : PushedValue} {rest : Bytes} (g : some (v, rest) ≡ pushed_of (p + 1) pool (dispatch value_readers k r)) where
      pub value_some : Some (record { value = v; next = length b - length rest }) ≡ value_at b p pool
      unfolding value_at
      value_some = let x = got g in rw (typed, x.is, x.tested)

      pub value_rest : length rest ≤ length b
      value_rest =
          let x = got g in
          let s = reads_value.run (drop p b) x.value rest (typed ∙ x.is) in
          let l : length (drop p b) ≡ length (s.own ++ rest) = ap length s.is in
          omega (arith, length-append s.own rest, length-drop p b)
