-- Decoding: tables and two's complement.
use Prim.Native.Nat.{ℕ, zero, suc, ◌-◌, ◌/◌, ◌%◌, ◌^◌, ◌≤◌, ◌<◌}
use mathlib.Core.Path.{◌≡◌, refl, sym, ap, ◌∙◌}
use mathlib.Core.List.{List}
use lib.ListN.{length, get_or}
use Rattle.hir.specs.declared.Record.TheVariants as kind
use mathlib.Core.Bool.{Bool, false}
use native.Mathlib.Omega.{arith}
use lib.IntN.{pos, negsuc}
use mir.Syntax.{w32}
use mir.Val.{to_z}
use Rattle.std.proofs.Math.Facts.{to_z_pos, to_z-neg}
use Rattle.std.proofs.Common.{inl, inr}
use Rattle.std.proofs.lemmas.Bool.{cases_lt}
use lib.Dec.{eqb-suc-zero}
use borrow.Author.Tests.{lt-ltb, le-ltb, ne_eqb}
use Rattle.std.specs.Prelude.{◌⊎◌, Option, Some, None, SomeIff, Err}
use Rattle.std.proofs.Math.Nat.{div-one}
use Rattle.std.proofs.lemmas.List.FromFn.{fill_by_all}
use Rattle.script_records.specs.declared.kind.UnknownKind.{UnknownKind}
use Rattle.script_records.specs.Kind.{kind_from}
use Rattle.script_records.proofs.KindLaws.{unknown_from}
use Rattle.script_records.proofs.LayoutLaws.{supported_high}
use Rattle.decode.specs.Decode.{signed, is_one, plain_of, record_of, name_of, marks_of}
use Rattle.script_records.specs.Layout.{Words}

pub signed_low : (w : ℕ) → w < 2 ^ 31 → pos w ≡ signed w
unfolding signed
signed_low w h = rw (lt-ltb w (2 ^ 31) h)

pub signed_high : (w : ℕ) → 2 ^ 31 ≤ w → negsuc (2 ^ 32 - 1 - w) ≡ signed w
unfolding signed
signed_high w h = rw (le-ltb w (2 ^ 31) h)

pub cast_is_signed : (w : ℕ) → w < 2 ^ 32 → to_z w32 w ≡ signed w
cast_is_signed w h =
    elim (cases_lt w (2 ^ 31)) [
      | inl low ↦ to_z_pos w32 low ∙ signed_low w low
      | inr high ↦
          let e : w ≡ 2 ^ 32 - suc (2 ^ 32 - 1 - w) = omega arith in
          ap (to_z w32) e ∙ (to_z-neg w32 (2 ^ 32 - 1 - w) (omega arith) ∙ signed_high w high)
    ]

-- kinds behind the expressions that are not named
plain_high : (k : ℕ) → 78 ≤ k → (k ≡ 96 → ⊥) → (k ≡ 100 → ⊥) → (k ≡ 101 → ⊥) → plain_of k ≡ kind.Other
unfolding plain_of
plain_high k h p q r =
    rw (← supported_high k (λ e. omega arith) (omega arith), le-ltb k 16 (omega arith), le-ltb k 32 (omega arith), le-ltb k 78 h, ne_eqb k 96 p, ne_eqb k 100 q, ne_eqb k 101 r)

-- kinds between the statements and the expressions
pub plain_gap : (k : ℕ) → 16 ≤ k → k < 32 → plain_of k ≡ kind.Other
unfolding plain_of
plain_gap k h l = rw (← supported_high k (λ e. omega arith) (omega arith), le-ltb k 16 h, lt-ltb k 32 l)

-- a record whose words' kind is none of those with words of their own
record_plain : (w : Words) → (w.kind ≡ 0 → ⊥) → (w.kind ≡ 5 → ⊥) → (w.kind ≡ 32 → ⊥) → (w.kind ≡ 40 → ⊥) → (w.kind ≡ 41 → ⊥) → (w.kind ≡ 49 → ⊥) → (w.kind ≡ 52 → ⊥)
    → (w.kind ≡ 69 → ⊥) → (w.kind ≡ 75 → ⊥) → (w.kind ≡ 76 → ⊥) → (w.kind ≡ 97 → ⊥) → (w.kind ≡ 98 → ⊥) → (w.kind ≡ 99 → ⊥) → plain_of w.kind ≡ record_of w
unfolding record_of
record_plain w a b c d e f g h i j k l m =
    rw (
      ne_eqb w.kind 0 a,
      ne_eqb w.kind 5 b,
      ne_eqb w.kind 32 c,
      ne_eqb w.kind 40 d,
      ne_eqb w.kind 41 e,
      ne_eqb w.kind 49 f,
      ne_eqb w.kind 52 g,
      ne_eqb w.kind 69 h,
      ne_eqb w.kind 75 i,
      ne_eqb w.kind 76 j,
      ne_eqb w.kind 97 k,
      ne_eqb w.kind 98 l,
      ne_eqb w.kind 99 m,
    )

-- the kinds with words of their own are up to 5, from 32 to 76 and from 97 to 99
none_of_them : (w : Words) → 5 < w.kind → (w.kind < 32) ⊎ (76 < w.kind) → (w.kind < 97) ⊎ (99 < w.kind) → plain_of w.kind ≡ record_of w
none_of_them w a b c =
    record_plain w (λ e. omega arith) (λ e. omega arith) (λ e. omega arith) (λ e. omega arith) (λ e. omega arith) (λ e. omega arith) (λ e. omega arith) (λ e. omega arith)
    (λ e. omega arith) (λ e. omega arith) (λ e. omega arith) (λ e. omega arith) (λ e. omega arith)

-- a record of no kind
pub record_unknown : (w : Words) {e : UnknownKind} → kind_from w.kind ≡ Err e → kind.Other ≡ record_of w
record_unknown w h = elim (unknown_from w.kind h) [
  | inl low ↦ sym (plain_gap w.kind low.0 low.1) ∙ none_of_them w (omega arith) (inl low.1) (inl (omega arith))
  | inr rest ↦ elim rest [
    | inl high ↦ sym (plain_high w.kind high.0 (λ e. omega arith) (λ e. omega arith) (λ e. omega arith)) ∙ none_of_them w (omega arith) (inr (omega arith)) (inl (omega arith))
    | inr past ↦ sym (plain_high w.kind (omega arith) (λ e. omega arith) (λ e. omega arith) (λ e. omega arith)) ∙ none_of_them w (omega arith) (inr (omega arith)) (inr (omega arith))
  ]
]

-- a name by its number
pub name_found : (a : ℕ) (o : Option ℕ) → SomeIff o (1 ≤ a) (a - 1) → o ≡ name_of a
name_found zero None h = refl
name_found (suc a) None h = absurd (h (omega arith))
name_found zero (Some i) h = absurd (omega arith)
name_found (suc a) (Some i) h = rw eqb-suc-zero (ap Some h.1)

-- nine marks, each of which is its bit
pub marks_listed : (c : ℕ) (ms : List Bool) → length ms ≡ 9 → ((k : ℕ) → k < 9 → get_or ms k false ≡ is_one (c / 2 ^ k % 2)) → ms ≡ marks_of c
marks_listed c ms n h = fill_by_all (λ k. is_one (c / 2 ^ k % 2)) ms 9 false n h ∙ rw div-one
