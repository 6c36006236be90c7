-- The condition of each refusal of the compile call, after those that come before it.
use Rattle.std.specs.Prelude.{ℕ, ◌<◌, ◌≤◌, ◌≡◌, List, true, false, length}
use Rattle.hir.specs.Tree.{depth}
use Rattle.pcode.specs.Pcode.{Action, Item}
use Rattle.script_records.specs.Layout.{layout_of, strings_of, rows_of}
use Rattle.script.specs.Rules.{rules_hold, all_utf8, all_supported, tree_in, max_bytes, max_depth, check_of}
use Rattle.lowering.specs.Builder.{Limits}
use Rattle.lowering.specs.Statement as lowering
use Rattle.action_format.specs.Lists.{Lists, all}
use Rattle.action_format.specs.Strings.{strings, no_zero, zero_free}
use Rattle.action_format.specs.Code.{code}
use Rattle.action_format.specs.Offsets.{all_near}
use Rattle.action_format.specs.Encode as action_format
use Rattle.action_format.specs.Encode.{short}
use Rattle.action_format.specs.ByList.{action_short, action_near}
use Rattle.list_slice.specs.Words.{slice_length}
use Rattle.definition.specs.Outcome.{by_place}
use Rattle.definition.specs.Compile.{lists_of}

-- 4 (bytes), 1, 2, 3, 4 (depth): the maker of the script file
pub data NotAccepted (file : List ℕ) : ℕ → Type 0 where
  too_long : max_bytes < length file → NotAccepted file 4
  rule_broken : length file ≤ max_bytes → rules_hold file ≡ false → NotAccepted file 1
  not_utf8 : length file ≤ max_bytes → rules_hold file ≡ true → all_utf8 (strings_of file (layout_of file)) ≡ false → NotAccepted file 2
  unsupported : length file ≤ max_bytes → rules_hold file ≡ true → all_utf8 (strings_of file (layout_of file)) ≡ true →
      all_supported (rows_of file (layout_of file)) (layout_of file).count ≡ false → NotAccepted file 3
  too_deep : length file ≤ max_bytes → rules_hold file ≡ true → all_utf8 (strings_of file (layout_of file)) ≡ true →
      all_supported (rows_of file (layout_of file)) (layout_of file).count ≡ true → max_depth < depth (tree_in file (layout_of file)) → NotAccepted file 4

-- 9, 10, 11, 12, each over all records
pub data NotWritten (l : Lists) (room : ℕ) : ℕ → Type 0 where
  zero_byte : zero_free l ≡ false → NotWritten l room 9
  too_much_data : zero_free l ≡ true → short (code l) ≡ false → NotWritten l room 10
  too_far : zero_free l ≡ true → short (code l) ≡ true → all_near (code l) ≡ false → NotWritten l room 11
  no_room : zero_free l ≡ true → short (code l) ≡ true → all_near (code l) ≡ true → room < length (action_format.written (code l)) → NotWritten l room 12

-- 13 comes first; then the file's refusals; then 5, 6, 7 and 8, the first in emission order; then those of writing
pub data RefusedFor (lim : Limits) (file : List ℕ) (list_words room : ℕ) : ℕ → Type 0 where
  list_slice : list_words < slice_length lim → RefusedFor lim file list_words room 13
  script_file : {n : ℕ} → slice_length lim ≤ list_words → NotAccepted file n → RefusedFor lim file list_words room n
  in_lowering : {n : ℕ} → slice_length lim ≤ list_words → check_of file ≡ 0 → lists_of lim file ≡ lowering.refusal n → RefusedFor lim file list_words room n
  in_writing : {n : ℕ} {ls : List (List Item)} → slice_length lim ≤ list_words → check_of file ≡ 0 → lists_of lim file ≡ lowering.lists ls →
      NotWritten (by_place ls) room n → RefusedFor lim file list_words room n

-- the record of which 9, 10 or 11 speaks: action i of list k
pub data BrokenAt (l : Lists) (k i : ℕ) (a : Action) : ℕ → Type 0 where
  zero_byte : all no_zero (strings a) ≡ false → BrokenAt l k i a 9
  data_or_body : action_short l a ≡ false → BrokenAt l k i a 10
  offset : action_near l k i a ≡ false → BrokenAt l k i a 11
