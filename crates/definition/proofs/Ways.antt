-- The ways through the two calls: what each outcome says of the steps before it.
use Prim.Native.Nat.{ℕ, zero, suc, ◌<◌, ◌≤◌}
use mathlib.Core.Path.{◌≡◌, refl, subst}
use mathlib.Core.Logic.{◌↔◌}
use mathlib.Core.List.{List}
use mathlib.Core.Bool.{Bool, true, false}
use mathlib.Core.Option.{Option, none, some}
use lib.Dec.{ltb}
use lib.ListN.{length}
use borrow.Author.Tests.{ltb-true, ltb-false, lt-ltb, le-ltb}
use Rattle.pcode.specs.Pcode.{Item}
use Rattle.script.specs.Rules.{check_of}
use Rattle.lowering.specs.Builder.{Limits}
use Rattle.lowering.specs.Statement as lowering
use Rattle.action_format.specs.Lists.{Lists}
use Rattle.action_format.specs.Encode as action_format
use Rattle.action_format.specs.Encode.{encode}
use Rattle.action_format.specs.Decode.{decode}
use Rattle.list_slice.specs.Words.{slice_length}
use Rattle.definition.specs.Outcome.{Outcome, compiled, refused, Reading, read, by_place, byte_limits}
use Rattle.definition.specs.Outcome as outcome
use Rattle.definition.specs.Compile.{lists_of, in_slice, if_accepted, lowered_with, if_lowered, written, compile_with}
use Rattle.definition.specs.Read as reading
use Rattle.definition.specs.Read.{read_with}

module _ (lim : Limits) (file : List ℕ) (list_words : ℕ) where
  pub data LoweredWay : lowering.Lists → Type 0 where
    short_slice : list_words < slice_length lim → LoweredWay (lowering.refusal 13)
    not_accepted : {n : ℕ} → slice_length lim ≤ list_words → check_of file ≡ suc n → LoweredWay (lowering.refusal (suc n))
    lowered : {l : lowering.Lists} → slice_length lim ≤ list_words → check_of file ≡ 0 → lists_of lim file ≡ l → LoweredWay l

  pub lowered_way : LoweredWay (lowered_with lim file list_words)
  unfolding lowered_with
  lowered_way = slice (ltb list_words (slice_length lim)) refl
    where
      check : slice_length lim ≤ list_words → (n : ℕ) → check_of file ≡ n → LoweredWay (if_accepted n (lists_of lim file))
      check s zero e = lowered s e refl
      check s (suc n) e = not_accepted s e

      slice : (b : Bool) → ltb list_words (slice_length lim) ≡ b → LoweredWay (in_slice b (if_accepted (check_of file) (lists_of lim file)))
      slice true e = short_slice (ltb-true list_words (slice_length lim) e)
      slice false e = check (ltb-false list_words (slice_length lim) e) (check_of file) refl

  pub record Lowered (ls : List (List Item)) : Type 0 where
    pub in_slice_lem : slice_length lim ≤ list_words
    pub accepted : check_of file ≡ 0
    pub from : lists_of lim file ≡ lowering.lists ls

  pub lowered_by : (ls : List (List Item)) → lowered_with lim file list_words ≡ lowering.lists ls → Lowered ls
  lowered_by ls e = go (subst LoweredWay e lowered_way)
    where
      go : LoweredWay (lowering.lists ls) → Lowered ls
      go (lowered s c l) = record { in_slice_lem = s; accepted = c; from = l }

module _ (lim : Limits) (file : List ℕ) (list_words room : ℕ) where
  pub data Way : Outcome → Type 0 where
    short_slice : list_words < slice_length lim → Way (refused 13)
    not_accepted : {n : ℕ} → slice_length lim ≤ list_words → check_of file ≡ suc n → Way (refused (suc n))
    not_lowered : {n : ℕ} → slice_length lim ≤ list_words → check_of file ≡ 0 → lists_of lim file ≡ lowering.refusal n → Way (refused n)
    not_written : {n : ℕ} {ls : List (List Item)} → slice_length lim ≤ list_words → check_of file ≡ 0 → lists_of lim file ≡ lowering.lists ls →
        encode (by_place ls) room ≡ action_format.refused n → Way (refused n)
    written_out : {b : List ℕ} {ls : List (List Item)} → slice_length lim ≤ list_words → check_of file ≡ 0 → lists_of lim file ≡ lowering.lists ls →
        encode (by_place ls) room ≡ action_format.bytes b → Way (compiled b ls)

  pub way : Way (compile_with lim file list_words room)
  unfolding compile_with
  way = go (lowered_with lim file list_words) (lowered_way lim file list_words)
    where
      answer : slice_length lim ≤ list_words → check_of file ≡ 0 → (ls : List (List Item)) → lists_of lim file ≡ lowering.lists ls →
          (a : action_format.Answer) → encode (by_place ls) room ≡ a → Way (written ls a)
      answer s c ls l (action_format.bytes b) e = written_out s c l e
      answer s c ls l (action_format.refused n) e = not_written s c l e

      lists : slice_length lim ≤ list_words → check_of file ≡ 0 → (l : lowering.Lists) → lists_of lim file ≡ l → Way (if_lowered l room)
      lists s c (lowering.refusal n) e = not_lowered s c e
      lists s c (lowering.lists ls) e = answer s c ls e (encode (by_place ls) room) refl

      go : (l : lowering.Lists) → LoweredWay lim file list_words l → Way (if_lowered l room)
      go _ (LoweredWay.short_slice h) = short_slice h
      go _ (LoweredWay.not_accepted s c) = not_accepted s c
      go l (lowered s c e) = lists s c l e

  -- and each way leads to its outcome
  pub outcome_of : {o : Outcome} → Way o → compile_with lim file list_words room ≡ o
  unfolding compile_with lowered_with
  outcome_of (short_slice h) = rw (lt-ltb list_words (slice_length lim) h)
  outcome_of (not_accepted s c) = rw (le-ltb list_words (slice_length lim) s, c)
  outcome_of (not_lowered s c l) = rw (le-ltb list_words (slice_length lim) s, c, l)
  outcome_of (not_written s c l e) = rw (le-ltb list_words (slice_length lim) s, c, l, e)
  outcome_of (written_out s c l e) = rw (le-ltb list_words (slice_length lim) s, c, l, e)

  pub record Compiled (b : List ℕ) (ls : List (List Item)) : Type 0 where
    pub in_slice_lem : slice_length lim ≤ list_words
    pub accepted : check_of file ≡ 0
    pub lowered : lists_of lim file ≡ lowering.lists ls
    pub encoded : encode (by_place ls) room ≡ action_format.bytes b

  pub compiled_by : (b : List ℕ) (ls : List (List Item)) → compile_with lim file list_words room ≡ compiled b ls → Compiled b ls
  compiled_by b ls e = go (subst Way e way)
    where
      go : Way (compiled b ls) → Compiled b ls
      go (written_out s c l q) = record { in_slice_lem = s; accepted = c; lowered = l; encoded = q }

  pub compiled_exactly : (b : List ℕ) (ls : List (List Item)) → (compile_with lim file list_words room ≡ compiled b ls) ↔
      ((slice_length lim ≤ list_words) × (check_of file ≡ 0) × (lists_of lim file ≡ lowering.lists ls) × (encode (by_place ls) room ≡ action_format.bytes b))
  compiled_exactly b ls = (
    λ e. let c = compiled_by b ls e in (c.in_slice_lem, c.accepted, c.lowered, c.encoded),
    λ h. outcome_of (written_out h.0 h.1 h.2 h.3),
  )

module _ (lim : Limits) (bytes : List ℕ) (list_words : ℕ) where
  pub data ReadWay : Reading → Type 0 where
    short_slice : list_words < slice_length lim → ReadWay (outcome.Reading.refused 13)
    not_found : slice_length lim ≤ list_words → decode (byte_limits lim) bytes ≡ none → ReadWay (outcome.Reading.refused 14)
    found : {l : Lists} → slice_length lim ≤ list_words → decode (byte_limits lim) bytes ≡ some l → ReadWay (read l (length bytes))

  pub read_way : ReadWay (read_with lim bytes list_words)
  unfolding read_with
  read_way = slice (ltb list_words (slice_length lim)) refl
    where
      lists : slice_length lim ≤ list_words → (o : Option Lists) → decode (byte_limits lim) bytes ≡ o → ReadWay (reading.if_found o (length bytes))
      lists s none e = not_found s e
      lists s (some l) e = found s e

      slice : (b : Bool) → ltb list_words (slice_length lim) ≡ b → ReadWay (reading.in_slice b (reading.if_found (decode (byte_limits lim) bytes) (length bytes)))
      slice true e = short_slice (ltb-true list_words (slice_length lim) e)
      slice false e = lists (ltb-false list_words (slice_length lim) e) (decode (byte_limits lim) bytes) refl

  pub reading_of : {r : Reading} → ReadWay r → read_with lim bytes list_words ≡ r
  unfolding read_with
  reading_of (short_slice h) = rw (lt-ltb list_words (slice_length lim) h)
  reading_of (not_found s e) = rw (le-ltb list_words (slice_length lim) s, e)
  reading_of (found s e) = rw (le-ltb list_words (slice_length lim) s, e)
