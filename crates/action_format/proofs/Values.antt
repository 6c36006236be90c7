-- Pushed values, written and read.
use Prim.Native.Nat.{ℕ, zero, suc, ◌^◌, ◌<◌}
use mathlib.Core.Path.{◌≡◌, refl, ap, sym, ◌∙◌, subst}
use mathlib.Core.List.{[], ◌∷◌, ◌++◌, append-nil}
use mathlib.Core.Option.{none, some}
use mathlib.Core.Bool.{Bool, true, false}
use native.Mathlib.Omega.{arith}
use lib.Dec.{T, leb, lit<, leb→le, ltb→lt}
use lib.ListN.{length}
use Rattle.hir.specs.Hir.{Str}
use Rattle.pcode.specs.Pcode.{Value, Null, Undefined, True, False, String, Integer, Float, Register, Constant}
use Rattle.action_format.specs.Lists.{all}
use Rattle.action_format.specs.Strings.{value_strings, no_zero}
use Rattle.action_format.specs.Rules.{value_fits}
use Rattle.action_format.specs.Bytes.{Bytes, word, zero_ended, stored, constant_bytes, flag, value_bytes}
use Rattle.action_format.specs.Readers.{read_byte, read_flag, dispatch}
use Rattle.action_format.specs.Decode.{truth, value_readers, read_value}
use Rattle.action_format.proofs.Tests.{is_true, is_false, and_first, All, never, some_of}
use Rattle.action_format.proofs.Readers.{byte_law, word_law, string_law, Split, Reads, reads_pure, reads_if, reads_weaker, reads_bind, reads_byte, reads_word, reads_string, ◌also◌, RowReads, reads_dispatch}

-- the order of a float's bytes: to and fro

stored_small : (v : ℕ) → v < 2 ^ 64 → stored v < 2 ^ 64
unfolding stored
stored_small v h = omega arith

stored_back : (v : ℕ) → v < 2 ^ 64 → stored (stored v) ≡ v
unfolding stored
stored_back v h = omega arith

-- a value within its ranges
pub record ValueOk (v : Value) : Type 0 where
  pub fits : T (value_fits 65536 v)
  pub no_zeros : T (all no_zero (value_strings v))

value_tag : (c : ℕ) (s : Bytes) → c < 256 → read_value (c ∷ s) ≡ dispatch value_readers c s
unfolding read_value
value_tag c s h = rw (byte_law c s h)

constant_law : (i : ℕ) (t : Bool) → leb 256 i ≡ t → (r : Bytes) → i < 65536 → read_value (constant_bytes i t ++ r) ≡ some (Constant i, r)
constant_law i false q r h = value_tag 8 (i ∷ r) (lit< tt) ∙ rw (byte_law i r (is_false 256 i q))
constant_law i true q r h = value_tag 9 (word 2 i ++ r) (lit< tt) ∙ simp (word_law 2 i r h, q)

pub first_string : (s : Str) → T (all no_zero (s ∷ [])) → T (no_zero s)
first_string s h = and_first (no_zero s) true h

pub value_law : (v : Value) (r : Bytes) → ValueOk v → read_value (value_bytes v ++ r) ≡ some (v, r)
value_law (String s) r h = value_tag 0 (zero_ended s ++ r) (lit< tt) ∙ rw (string_law s r (first_string s h.no_zeros))
value_law Null r h = value_tag 2 r (lit< tt)
value_law Undefined r h = value_tag 3 r (lit< tt)
value_law (Register n) r h = value_tag 4 (n ∷ r) (lit< tt) ∙ rw (byte_law n r (ltb→lt n 256 h.fits))
value_law False r h = value_tag 5 (0 ∷ r) (lit< tt)
value_law True r h = value_tag 5 (1 ∷ r) (lit< tt)
value_law (Float v) r h =
    let l : v < 2 ^ 64 = ltb→lt v (2 ^ 64) h.fits in
    value_tag 6 (word 8 (stored v) ++ r) (lit< tt) ∙ rw (word_law 8 (stored v) r (stored_small v l), stored_back v l)
value_law (Integer v) r h = value_tag 7 (word 4 v ++ r) (lit< tt) ∙ rw (word_law 4 v r (ltb→lt v (2 ^ 32) h.fits))
value_law (Constant i) r h = constant_law i (leb 256 i) refl r (ltb→lt i 65536 h.fits)

pub value_fills : (v : Value) → 0 < length (value_bytes v)
value_fills (String s) = omega arith
value_fills Null = omega arith
value_fills Undefined = omega arith
value_fills (Register n) = omega arith
value_fills False = omega arith
value_fills True = omega arith
value_fills (Float v) = omega arith
value_fills (Integer v) = omega arith
value_fills (Constant i) = go (leb 256 i)
  where
    go : (t : Bool) → 0 < length (constant_bytes i t)
    go true = omega arith
    go false = omega arith

pub nothing_there : read_value [] ≡ none
unfolding read_value read_byte
nothing_there = refl

-- what is read was written

pub reads_flag : Reads read_flag (λ p w. w ≡ flag p ∷ [])
reads_flag = record { run = go }
  where
    go : (b : Bytes) (x : Bool) (r : Bytes) → read_flag b ≡ some (x, r) → Split (λ p w. w ≡ flag p ∷ []) b x r
    go [] x r e = never (x, r) e
    go (zero ∷ s) x r e =
        let t : ◌≡◌ {A = Bool × Bytes} (false, s) (x, r) = some_of e in
        record { own = 0 ∷ []; is = ap (λ (z : Bool × Bytes). 0 ∷ z.1) t; fact = ap (λ (z : Bool × Bytes). flag z.0 ∷ []) t }
    go (suc zero ∷ s) x r e =
        let t : ◌≡◌ {A = Bool × Bytes} (true, s) (x, r) = some_of e in
        record { own = 1 ∷ []; is = ap (λ (z : Bool × Bytes). 1 ∷ z.1) t; fact = ap (λ (z : Bool × Bytes). flag z.0 ∷ []) t }
    go (suc (suc b) ∷ s) x r e = never (x, r) e

truth_bytes : (p : Bool) → 5 ∷ flag p ∷ [] ≡ value_bytes (truth p)
truth_bytes false = refl
truth_bytes true = refl

narrow : (i : ℕ) → i < 256 → 8 ∷ i ∷ [] ≡ value_bytes (Constant i)
narrow i h = go (leb 256 i) refl
  where
    go : (t : Bool) → leb 256 i ≡ t → 8 ∷ i ∷ [] ≡ constant_bytes i t
    go false q = refl
    go true q = let w : ⊥ = omega (arith, leb→le 256 i (subst T (sym q) tt)) in absurd w

pub reads_value : Reads read_value (λ v w. w ≡ value_bytes v)
unfolding read_value
reads_value = reads_bind reads_byte (λ c u hu. reads_weaker (λ v w k. rw hu.0 k) (reads_dispatch (λ v w. w ≡ value_bytes v) value_readers rows c))
  where
    rows : All (RowReads (λ v w. w ≡ value_bytes v)) value_readers
    rows =
        reads_bind reads_string (λ s u h. reads_pure (rw (append-nil u, h))) also
        reads_pure refl also
        reads_pure refl also
        reads_bind reads_byte (λ n u h. reads_pure (rw (append-nil u, h.0))) also
        reads_bind reads_flag (λ p u h. reads_pure (rw (append-nil u, h, truth_bytes p))) also
        reads_bind (reads_word 8) (λ v u h. reads_pure (rw (append-nil u, h.0, stored_back v h.1))) also
        reads_bind (reads_word 4) (λ v u h. reads_pure (rw (append-nil u, h.0))) also
        reads_bind reads_byte (λ i u h. reads_pure (rw (append-nil u, h.0, narrow i h.1))) also
        reads_bind (reads_word 2) (λ i u h. reads_if (leb 256 i) (Constant i) (λ t. rw (append-nil u, h.0, is_true (leb 256 i) t))) also
        tt
