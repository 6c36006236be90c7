-- Each refusal is given just for its condition.
use Prim.Native.Nat.{ℕ, zero, suc, ◌<◌, ◌≤◌}
use mathlib.Core.Path.{◌≡◌, refl, ap, sym, ◌∙◌, subst}
use mathlib.Core.Logic.{◌⊎◌, inl, inr, ◌↔◌}
use mathlib.Core.List.{List, [], ◌∷◌}
use mathlib.Core.Bool.{Bool, true, false, cond, not}
use native.Mathlib.Omega.{arith}
use lib.Dec.{ltb, leb}
use lib.ListN.{length}
use borrow.Author.Tests.{ltb-true, ltb-false, lt-ltb, le-ltb, lt-leb, leb-false}
use Rattle.hir.specs.Tree.{depth}
use Rattle.pcode.specs.Pcode.{Item}
use Rattle.script_records.specs.Layout.{layout_of, strings_of, rows_of}
use Rattle.script.specs.Rules.{rules_hold, all_utf8, all_supported, tree_in, max_bytes, max_depth, check_of}
use Rattle.lowering.specs.Builder.{Limits, State}
use Rattle.lowering.specs.Builder as builder
use Rattle.lowering.specs.Statement as lowering
use Rattle.lowering.specs.Statement.{generate_actions}
use Rattle.lowering.proofs.Theorems.Facts.{Cause, Somewhere, Full}
use Rattle.lowering.proofs.Theorems.{refusal_why, refusal_number}
use Rattle.action_format.specs.Lists.{Lists}
use Rattle.action_format.specs.Strings.{zero_free}
use Rattle.action_format.specs.Rules.{IsLists}
use Rattle.action_format.specs.Code.{code}
use Rattle.action_format.specs.Offsets.{all_near}
use Rattle.action_format.specs.Encode as action_format
use Rattle.action_format.specs.Encode.{short, unless_refused, encode}
use Rattle.action_format.proofs.Sound.{exactly_read, no_list}
use Rattle.list_slice.specs.Words.{slice_length}
use Rattle.definition.specs.Outcome.{refused, Reading, read, by_place, byte_limits, Outcome, compiled, number_of}
use Rattle.definition.specs.Outcome as outcome
use Rattle.definition.specs.Compile.{statements_of, lists_of, compile_with}
use Rattle.definition.specs.Read.{read_with}
use Rattle.definition.specs.Refusals.{NotAccepted, too_long, rule_broken, not_utf8, unsupported, too_deep, NotWritten, zero_byte, too_much_data, too_far, no_room, RefusedFor, list_slice, script_file, in_lowering, in_writing}
use Rattle.definition.proofs.Ways.{Way, way, outcome_of, short_slice, not_accepted, not_lowered, not_written, ReadWay, read_way, reading_of, not_found, found}
use Rattle.definition.proofs.Ways as ways

-- 4 (bytes), 1, 2, 3, 4 (depth): the maker of the script file

module _ (file : List ℕ) where
  abbrev texts : Bool
  texts = all_utf8 (strings_of file (layout_of file))

  abbrev kinds : Bool
  kinds = all_supported (rows_of file (layout_of file)) (layout_of file).count

  abbrev deep : Bool
  deep = ltb max_depth (depth (tree_in file (layout_of file)))

  checked : (n : ℕ) (a b c d e : Bool) → ltb max_bytes (length file) ≡ a → rules_hold file ≡ b → texts ≡ c → kinds ≡ d → deep ≡ e →
      cond a 4 (cond (not b) 1 (cond (not c) 2 (cond (not d) 3 (cond e 4 0)))) ≡ suc n → NotAccepted file (suc n)
  checked n true b c d e p q r s t z = subst (NotAccepted file) z (too_long (ltb-true max_bytes (length file) p))
  checked n false false c d e p q r s t z = subst (NotAccepted file) z (rule_broken (ltb-false max_bytes (length file) p) q)
  checked n false true false d e p q r s t z = subst (NotAccepted file) z (not_utf8 (ltb-false max_bytes (length file) p) q r)
  checked n false true true false e p q r s t z = subst (NotAccepted file) z (unsupported (ltb-false max_bytes (length file) p) q r s)
  checked n false true true true true p q r s t z =
      subst (NotAccepted file) z (too_deep (ltb-false max_bytes (length file) p) q r s (ltb-true max_depth (depth (tree_in file (layout_of file))) t))
  checked n false true true true false p q r s t z = absurd (omega arith)

  pub check_exactly : (n : ℕ) → (check_of file ≡ suc n) ↔ NotAccepted file (suc n)
  unfolding check_of
  check_exactly n = (checked n (ltb max_bytes (length file)) (rules_hold file) texts kinds deep refl refl refl refl refl, back (suc n))
    where
      back : (n : ℕ) → NotAccepted file n → check_of file ≡ n
      back n (too_long h) = rw (lt-ltb max_bytes (length file) h)
      back n (rule_broken h q) = rw (le-ltb max_bytes (length file) h, q)
      back n (not_utf8 h q r) = rw (le-ltb max_bytes (length file) h, q, r)
      back n (unsupported h q r s) = rw (le-ltb max_bytes (length file) h, q, r, s)
      back n (too_deep h q r s t) = rw (le-ltb max_bytes (length file) h, q, r, s, lt-ltb max_depth (depth (tree_in file (layout_of file))) t)

-- 9, 10, 11, 12, each over all records

module _ (l : Lists) (room : ℕ) where
  abbrev long : ℕ
  long = length (action_format.written (code l))

  number : {m n : ℕ} → action_format.refused m ≡ action_format.refused n → m ≡ n
  number e = cc

  tested : (n : ℕ) (a b c d : Bool) → zero_free l ≡ a → short (code l) ≡ b → all_near (code l) ≡ c → leb long room ≡ d →
      unless_refused ((a, 9) ∷ (b, 10) ∷ (c, 11) ∷ (d, 12) ∷ []) (action_format.bytes (action_format.written (code l))) ≡ action_format.refused n →
      NotWritten l room n
  tested n false b c d p q r s e = subst (NotWritten l room) (number e) (zero_byte p)
  tested n true false c d p q r s e = subst (NotWritten l room) (number e) (too_much_data p q)
  tested n true true false d p q r s e = subst (NotWritten l room) (number e) (too_far p q r)
  tested n true true true false p q r s e = subst (NotWritten l room) (number e) (no_room p q r (leb-false long room s))
  tested n true true true true p q r s e = let z : ◌≡◌ {A = ℕ} 0 1 = cc in absurd (omega arith)

  pub write_exactly : (n : ℕ) → (encode l room ≡ action_format.refused n) ↔ NotWritten l room n
  unfolding encode
  write_exactly n = (tested n (zero_free l) (short (code l)) (all_near (code l)) (leb long room) refl refl refl refl, back n)
    where
      back : (n : ℕ) → NotWritten l room n → encode l room ≡ action_format.refused n
      back n (zero_byte p) = rw p
      back n (too_much_data p q) = rw (p, q)
      back n (too_far p q r) = rw (p, q, r)
      back n (no_room p q r s) = rw (p, q, r, lt-leb long room s)

-- 13; then the maker of the script file; then its author: 5 to 8 from lowering, 9 to 11 and the caller's 12 from writing
module _ (lim : Limits) (file : List ℕ) (list_words room : ℕ) where
  abbrev For : ℕ → Type 0
  For = RefusedFor lim file list_words room

  why : (n : ℕ) → Way lim file list_words room (refused n) → For n
  why n (short_slice h) = list_slice h
  why n (not_accepted {n = m} s c) = script_file s ((check_exactly file m).0 c)
  why n (not_lowered s c l) = in_lowering s c l
  why n (not_written {ls = ls} s c l e) = in_writing s c l ((write_exactly (by_place ls) room n).0 e)

  not_zero : NotAccepted file 0 → ⊥
  not_zero h = elim h [ ]

  by_file : (n : ℕ) → slice_length lim ≤ list_words → NotAccepted file n → Way lim file list_words room (refused n)
  by_file zero s h = absurd (not_zero h)
  by_file (suc n) s h = not_accepted s ((check_exactly file n).1 h)

  by_way : (n : ℕ) → For n → Way lim file list_words room (refused n)
  by_way n (list_slice h) = short_slice h
  by_way n (script_file s h) = by_file n s h
  by_way n (in_lowering s c l) = not_lowered s c l
  by_way n (in_writing {ls = ls} s c l h) = not_written s c l ((write_exactly (by_place ls) room n).1 h)

  -- a refusal is given exactly for its condition, after those that come before it
  pub refused_exactly : (n : ℕ) → (compile_with lim file list_words room ≡ refused n) ↔ For n
  refused_exactly n = (λ e. why n (subst (Way lim file list_words room) e (way lim file list_words room)), λ h. outcome_of lim file list_words room (by_way n h))

  -- the numbers of each

  file_number : {n : ℕ} → NotAccepted file n → n ≤ 4
  file_number (too_long h) = omega arith
  file_number (rule_broken h q) = omega arith
  file_number (not_utf8 h q r) = omega arith
  file_number (unsupported h q r s) = omega arith
  file_number (too_deep h q r s t) = omega arith

  writing_number : {l : Lists} {n : ℕ} → NotWritten l room n → (9 ≤ n) × (n ≤ 12)
  writing_number (zero_byte p) = (omega arith, omega arith)
  writing_number (too_much_data p q) = (omega arith, omega arith)
  writing_number (too_far p q r) = (omega arith, omega arith)
  writing_number (no_room p q r s) = (omega arith, omega arith)

  module _ (some_action : 1 ≤ lim.actions) where
    lowering_number : {n : ℕ} → lists_of lim file ≡ lowering.refusal n → (5 ≤ n) × (n ≤ 8)
    lowering_number {n} l = go (refusal_number lim some_action (statements_of file) n l)
      where
        go : (n ≡ 5) ⊎ ((n ≡ 6) ⊎ ((n ≡ 7) ⊎ (n ≡ 8))) → (5 ≤ n) × (n ≤ 8)
        go (inl e) = (omega arith, omega arith)
        go (inr (inl e)) = (omega arith, omega arith)
        go (inr (inr (inl e))) = (omega arith, omega arith)
        go (inr (inr (inr e))) = (omega arith, omega arith)

    pub thirteen_exactly : (compile_with lim file list_words room ≡ refused 13) ↔ (list_words < slice_length lim)
    thirteen_exactly = (λ e. go 13 refl ((refused_exactly 13).0 e), λ h. (refused_exactly 13).1 (list_slice h))
      where
        go : (n : ℕ) → n ≡ 13 → For n → list_words < slice_length lim
        go n z (list_slice h) = h
        go n z (script_file s h) = absurd (omega (arith, file_number h))
        go n z (in_lowering s c l) = absurd (omega (arith, (lowering_number l).1))
        go n z (in_writing s c l h) = absurd (omega (arith, (writing_number h).1))

    pub file_exactly : (n : ℕ) → n ≤ 4 → (compile_with lim file list_words room ≡ refused n) ↔ ((slice_length lim ≤ list_words) × NotAccepted file n)
    file_exactly n k = (λ e. go n k ((refused_exactly n).0 e), λ h. (refused_exactly n).1 (script_file h.0 h.1))
      where
        go : (n : ℕ) → n ≤ 4 → For n → (slice_length lim ≤ list_words) × NotAccepted file n
        go n k (list_slice h) = absurd (omega arith)
        go n k (script_file s h) = (s, h)
        go n k (in_lowering s c l) = absurd (omega (arith, (lowering_number l).0))
        go n k (in_writing s c l h) = absurd (omega (arith, (writing_number h).0))

    pub lowering_exactly : (n : ℕ) → 5 ≤ n → n ≤ 8 → (compile_with lim file list_words room ≡ refused n) ↔
        ((slice_length lim ≤ list_words) × (check_of file ≡ 0) × (lists_of lim file ≡ lowering.refusal n))
    lowering_exactly n j k = (λ e. go n j k ((refused_exactly n).0 e), λ h. (refused_exactly n).1 (in_lowering h.0 h.1 h.2))
      where
        go : (n : ℕ) → 5 ≤ n → n ≤ 8 → For n → (slice_length lim ≤ list_words) × (check_of file ≡ 0) × (lists_of lim file ≡ lowering.refusal n)
        go n j k (list_slice h) = absurd (omega arith)
        go n j k (script_file s h) = absurd (omega (arith, file_number h))
        go n j k (in_lowering s c l) = (s, c, l)
        go n j k (in_writing s c l h) = absurd (omega (arith, (writing_number h).0))

    pub writing_exactly : (n : ℕ) → 9 ≤ n → n ≤ 12 → (compile_with lim file list_words room ≡ refused n) ↔
        ((slice_length lim ≤ list_words) × (check_of file ≡ 0) × (ls : List (List Item)) × (lists_of lim file ≡ lowering.lists ls) × NotWritten (by_place ls) room n)
    writing_exactly n j k = (λ e. go n j k ((refused_exactly n).0 e), λ h. (refused_exactly n).1 (in_writing h.0 h.1 h.3 h.4))
      where
        go : (n : ℕ) → 9 ≤ n → n ≤ 12 → For n → (slice_length lim ≤ list_words) × (check_of file ≡ 0) × (ls : List (List Item)) × (lists_of lim file ≡ lowering.lists ls) × NotWritten (by_place ls) room n
        go n j k (list_slice h) = absurd (omega arith)
        go n j k (script_file s h) = absurd (omega (arith, file_number h))
        go n j k (in_lowering s c l) = absurd (omega (arith, (lowering_number l).1))
        go n j k (in_writing {ls = ls} s c l h) = (s, c, ls, l, h)

    -- a refusal has a number from 1 to 13
    pub refusal_numbers : (n : ℕ) → compile_with lim file list_words room ≡ refused n → (1 ≤ n) × (n ≤ 13)
    refusal_numbers n e = go n ((refused_exactly n).0 e)
      where
        go : (n : ℕ) → For n → (1 ≤ n) × (n ≤ 13)
        go n (list_slice h) = (omega arith, omega arith)
        go zero (script_file s h) = absurd (not_zero h)
        go (suc n) (script_file s h) = (omega arith, omega (arith, file_number h))
        go n (in_lowering s c l) = (omega (arith, (lowering_number l).0), omega (arith, (lowering_number l).1))
        go n (in_writing s c l h) = (omega (arith, (writing_number h).0), omega (arith, (writing_number h).1))

    -- the number 0 says that the file is compiled
    pub number_0_exactly : (number_of (compile_with lim file list_words room) ≡ 0) ↔
        ((b : List ℕ) × (ls : List (List Item)) × (compile_with lim file list_words room ≡ compiled b ls))
    number_0_exactly = (λ e. go (compile_with lim file list_words room) refl e, λ h. ap number_of h.2)
      where
        go : (o : Outcome) → compile_with lim file list_words room ≡ o → number_of o ≡ 0 →
            (b : List ℕ) × (ls : List (List Item)) × (compile_with lim file list_words room ≡ compiled b ls)
        go (compiled b ls) q e = (b, ls, q)
        go (refused n) q e = absurd (omega (arith, (refusal_numbers n q).0))

    -- 5, 6 and 7 are given where some record of the script is a cause for them; 8, and nothing else, where a count stands at its limit
    pub lowering_why : (n : ℕ) → 5 ≤ n → n ≤ 8 → compile_with lim file list_words room ≡ refused n →
        (s : State) × (generate_actions lim (statements_of file) ≡ builder.refused n s) × (Somewhere (Cause n) (statements_of file) ⊎ ((n ≡ 8) × Full lim s))
    lowering_why n j k e = refusal_why lim some_action (statements_of file) n ((lowering_exactly n j k).0 e).2

-- reading: 13, then 14

module _ (lim : Limits) (bytes : List ℕ) (list_words : ℕ) where
  pub read_thirteen_exactly : (read_with lim bytes list_words ≡ outcome.Reading.refused 13) ↔ (list_words < slice_length lim)
  read_thirteen_exactly = (λ e. go 13 refl (subst (ReadWay lim bytes list_words) e (read_way lim bytes list_words)), λ h. reading_of lim bytes list_words (ways.ReadWay.short_slice h))
    where
      go : (n : ℕ) → n ≡ 13 → ReadWay lim bytes list_words (outcome.Reading.refused n) → list_words < slice_length lim
      go n z (ways.ReadWay.short_slice h) = h
      go n z (not_found s e) = absurd (omega arith)

  pub fourteen_exactly : (read_with lim bytes list_words ≡ outcome.Reading.refused 14) ↔
      ((slice_length lim ≤ list_words) × ((l : Lists) (room : ℕ) → IsLists (byte_limits lim) l → encode l room ≡ action_format.bytes bytes → ⊥))
  fourteen_exactly = (
    λ e. go 14 refl (subst (ReadWay lim bytes list_words) e (read_way lim bytes list_words)),
    λ h. reading_of lim bytes list_words (not_found h.0 ((no_list (byte_limits lim) bytes).1 h.1)),
  )
    where
      go : (n : ℕ) → n ≡ 14 → ReadWay lim bytes list_words (outcome.Reading.refused n) →
          (slice_length lim ≤ list_words) × ((l : Lists) (room : ℕ) → IsLists (byte_limits lim) l → encode l room ≡ action_format.bytes bytes → ⊥)
      go n z (ways.ReadWay.short_slice h) = absurd (omega arith)
      go n z (not_found s e) = (s, (no_list (byte_limits lim) bytes).0 e)

  -- accepted are exactly the bytes that lists within the limits write to, and all of them are read
  pub read_exactly : (l : Lists) (n : ℕ) → (read_with lim bytes list_words ≡ read l n) ↔
      ((slice_length lim ≤ list_words) × IsLists (byte_limits lim) l × (encode l (length bytes) ≡ action_format.bytes bytes) × (n ≡ length bytes))
  read_exactly l n = (
    λ e. go l n (subst (ReadWay lim bytes list_words) e (read_way lim bytes list_words)),
    λ h. reading_of lim bytes list_words (found h.0 ((exactly_read (byte_limits lim) bytes l).1 (h.1, h.2))) ∙ ap (read l) (sym h.3),
  )
    where
      go : (l : Lists) (n : ℕ) → ReadWay lim bytes list_words (read l n) →
          (slice_length lim ≤ list_words) × IsLists (byte_limits lim) l × (encode l (length bytes) ≡ action_format.bytes bytes) × (n ≡ length bytes)
      go l n (found s e) = let x = (exactly_read (byte_limits lim) bytes l).0 e in (s, x.0, x.1, refl)
