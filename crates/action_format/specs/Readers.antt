-- Readers: what is read, and the bytes after it.
use Rattle.std.specs.Prelude.{ℕ, zero, suc, ◌+◌, ◌*◌, List, [], ◌∷◌, Bool, true, false, leb, ltb, eqb, length, take, drop}
use Rattle.std.proofs.Math.Option.{Option, none, some}
use Rattle.hir.specs.Hir.{Str}
use Rattle.action_format.specs.Bytes.{Bytes}

abbrev pub P : Type 0 → Type 0
P A = Bytes → Option (A × Bytes)

abbrev pub bind : {A B : Type 0} → Option (A × Bytes) → (A → P B) → Option (B × Bytes)
bind none f = none
bind (some x) f = f x.0 x.1

infixl 20 ◌>>=◌
abbrev pub ◌>>=◌ : {A B : Type 0} → P A → (A → P B) → P B
◌>>=◌ p f r = bind (p r) f

abbrev pub pure : {A : Type 0} → A → P A
pure a r = some (a, r)

abbrev pub fail : {A : Type 0} → P A
fail r = none

abbrev pub given : {A : Type 0} → Bool → Option A → Option A
given true x = x
given false x = none

abbrev pub pure_if : {A : Type 0} → Bool → A → P A
pure_if t a r = given t (some (a, r))

-- a byte, a number in k bytes, a string up to its zero byte, a flag of 0 or 1

unfoldable pub read_byte : P ℕ
read_byte [] = none
read_byte (b ∷ r) = pure_if (ltb b 256) b r

unfoldable pub word_reader : (k : ℕ) → P ℕ
word_reader zero = pure 0
word_reader (suc k) = do
  b ← read_byte
  n ← word_reader k
  pure (b + 256 * n)

unfoldable pub read_string : P Str
read_string [] = none
read_string (zero ∷ r) = some ([], r)
read_string (suc b ∷ r) = bind (read_string r) (λ s. pure (suc b ∷ s))

abbrev pub read_flag : P Bool
read_flag [] = none
read_flag (zero ∷ r) = some (false, r)
read_flag (suc zero ∷ r) = some (true, r)
read_flag (suc (suc b) ∷ r) = none

-- n bytes; a reader that must use all the bytes that it is given

unfoldable pub read_bytes : (n : ℕ) → P Bytes
read_bytes n r = given (leb n (length r)) (some (take n r, drop n r))

abbrev pub spent : {A : Type 0} → A → Bytes → P A
spent a [] r = some (a, r)
spent a (b ∷ left) r = none

abbrev pub read_inside : {A : Type 0} → P A → Bytes → P A
read_inside p d r = bind (p d) (λ a left. spent a left r)

-- n things; as many as can be read, n at most

abbrev pub read_many : {A : Type 0} → P A → (n : ℕ) → P (List A)
read_many p zero = pure []
read_many p (suc n) = do
  x ← p
  xs ← read_many p n
  pure (x ∷ xs)

abbrev pub read_more : {A : Type 0} → P (List A) → Option (A × Bytes) → P (List A)
read_more read none r = some ([], r)
read_more read (some x) r = bind (read x.1) (λ xs. pure (x.0 ∷ xs))

abbrev pub read_all : {A : Type 0} → P A → (n : ℕ) → P (List A)
read_all p zero r = some ([], r)
read_all p (suc n) r = read_more (read_all p n) (p r) r

-- the reader that a table has for a tag
abbrev pub dispatch : {A : Type 0} → List (ℕ × P A) → ℕ → P A
dispatch [] tag = fail
dispatch (x ∷ rest) tag = elim (eqb tag x.0) [ true ↦ x.1 | false ↦ dispatch rest tag ]
