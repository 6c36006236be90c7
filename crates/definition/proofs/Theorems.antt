-- What holds of the two calls, at document 01's limits. Every file is of bytes; nothing else is assumed.
use Prim.Native.Nat.{ℕ, ◌<◌, ◌≤◌}
use mathlib.Core.Path.{◌≡◌}
use mathlib.Core.Logic.{◌↔◌}
use mathlib.Core.List.{List, [], ◌∷◌, ◌++◌}
use mathlib.Core.Option.{some}
use lib.Dec.{lit≤}
use lib.ListN.{length, get_elem?}
use Rattle.pcode.specs.Pcode.{Header, Branching, Action, branch, define, Item}
use Rattle.script.specs.Rules.{check_of}
use Rattle.script.specs.Write.{Bytes}
use Rattle.lowering.specs.Builder.{limits01, State}
use Rattle.lowering.specs.Builder as builder
use Rattle.lowering.specs.Statement as lowering
use Rattle.lowering.specs.Statement.{generate_actions}
use Rattle.lowering.proofs.Theorems.Facts.{Cause, Somewhere, Full}
use Rattle.action_format.specs.ByPlace.{actions}
use Rattle.action_format.specs.Lists.{Lists}
use Rattle.action_format.specs.Rules.{limits_01, IsLists}
use Rattle.action_format.specs.Bytes.{header_bytes}
use Rattle.action_format.specs.ByList.{list_of, body_bytes}
use Rattle.action_format.specs.Landing.{Stands}
use Rattle.action_format.specs.Encode as action_format
use Rattle.action_format.specs.Encode.{encode}
use Rattle.definition.specs.Outcome.{compiled, refused, read, by_place, number_of, read_number_of, read_length_of}
use Rattle.definition.specs.Outcome as outcome
use Rattle.definition.specs.Compile.{statements_of, lists_of, compile_of}
use Rattle.definition.specs.Read.{read_of}
use Rattle.definition.specs.Demand3.{Begins, AreSameLists, list_at, LandsAtItsMark}
use Rattle.definition.specs.Refusals.{NotAccepted, NotWritten, RefusedFor, BrokenAt}
use Rattle.definition.proofs.Ways as ways
use Rattle.definition.proofs.SameLists as same
use Rattle.definition.proofs.Branches as branches
use Rattle.definition.proofs.Refusals as refusals
use Rattle.definition.proofs.Records as records
use Rattle.definition.proofs.Causes as causes
use Rattle.definition.proofs.Causes.{TwoDefaults, NegatesLeast}
use Rattle.definition.proofs.Outputs as outputs
use Rattle.definition.proofs.Outputs.{LeavesBytes, LeavesZeros}

some_action : 1 ≤ limits01.actions
some_action = lit≤ tt

-- Whichever two scripts compile, each in a call of its own, one's bytes are the beginning of the other's, or all of it, exactly if the definition
-- gives both the same lists, by place; the bytes are then equal.
pub two_scripts : (file file' : List ℕ) → Bytes file → Bytes file' → (list_words room listWords' room' : ℕ) (b b' : List ℕ) (ls ls' : List (List Item)) →
    compile_of file list_words room ≡ compiled b ls → compile_of file' listWords' room' ≡ compiled b' ls' →
    (Begins b b' ↔ AreSameLists ls ls') × (AreSameLists ls ls' → b ≡ b')
two_scripts file file' h h' w r w' r' b b' ls ls' e e' = (
  same.begins_exactly limits01 some_action file w r b ls h e file' w' r' b' ls' h' e',
  same.then_equal limits01 some_action file w r b ls h e file' w' r' b' ls' h' e',
)

module _ (file : List ℕ) (list_words room : ℕ) where
  module _ (bytes : Bytes file) (b : List ℕ) (ls : List (List Item)) (e : compile_of file list_words room ≡ compiled b ls) where
    -- In whatever compiles, for every Jump and If of every list, function bodies included, its own list marks its label at exactly one place, and the
    -- branch lands there, in its own body: on the first byte of one of that list's actions or at that body's end.
    pub branches_land : (k i : ℕ) (j : Branching) (label : ℕ) → get_elem? (actions (list_at ls k)) i ≡ some (branch j label) →
        LandsAtItsMark ls k i j label
    branches_land = branches.branches_land limits01 some_action file list_words room b ls bytes e

    -- The top list's body is all the call's bytes before its End byte; a function's is those its record counts, and stands after that record.
    pub top_list_body : b ≡ body_bytes (by_place ls) 0 ++ (0 ∷ [])
    top_list_body = branches.top_list_body limits01 some_action file list_words room b ls bytes e

    pub function_body : (k i : ℕ) (h : Header) (j : ℕ) → get_elem? (list_of (by_place ls) k) i ≡ some (define h j) →
        Stands (by_place ls) k i (header_bytes h (length (body_bytes (by_place ls) j)) ++ body_bytes (by_place ls) j)
    function_body = branches.function_body limits01 some_action file list_words room b ls bytes e

    -- Reading what we wrote yields that list, branches by place.
    pub read_back : (words : ℕ) → 16384 ≤ words → read_of b words ≡ read (by_place ls) (length b)
    read_back = same.read_back limits01 some_action file list_words room b ls bytes e

  -- A file compiles exactly if no arrow of the call refuses it.
  pub compiled_exactly : (b : List ℕ) (ls : List (List Item)) → (compile_of file list_words room ≡ compiled b ls) ↔
      ((16384 ≤ list_words) × (check_of file ≡ 0) × (lists_of limits01 file ≡ lowering.lists ls) × (encode (by_place ls) room ≡ action_format.bytes b))
  compiled_exactly = ways.compiled_exactly limits01 file list_words room

  -- Its number is then 0, and only then.
  pub number_0_exactly : (number_of (compile_of file list_words room) ≡ 0) ↔
      ((b : List ℕ) × (ls : List (List Item)) × (compile_of file list_words room ≡ compiled b ls))
  number_0_exactly = refusals.number_0_exactly limits01 file list_words room some_action

  -- After success the first bytes of the output, as many as the length, are the call's bytes, and the rest is zeros.
  pub compiled_leaves : (b : List ℕ) (ls : List (List Item)) → compile_of file list_words room ≡ compiled b ls →
      LeavesBytes (compile_of file list_words room) room b
  compiled_leaves = outputs.compiled_leaves limits01 file list_words room

  -- A refusal has length 0 and leaves only zeros in the output.
  pub refused_leaves : (n : ℕ) → compile_of file list_words room ≡ refused n → LeavesZeros (compile_of file list_words room) room n
  refused_leaves = outputs.refused_leaves limits01 file list_words room

  -- Each refusal is given just for its condition, after those that come before it.
  pub refused_exactly : (n : ℕ) → (compile_of file list_words room ≡ refused n) ↔ RefusedFor limits01 file list_words room n
  refused_exactly = refusals.refused_exactly limits01 file list_words room

  -- Its number is one from 1 to 13.
  pub refusal_numbers : (n : ℕ) → compile_of file list_words room ≡ refused n → (1 ≤ n) × (n ≤ 13)
  refusal_numbers = refusals.refusal_numbers limits01 file list_words room some_action

  -- 13: list slice below 16,384 words
  pub refused_13 : (compile_of file list_words room ≡ refused 13) ↔ (list_words < 16384)
  refused_13 = refusals.thirteen_exactly limits01 file list_words room some_action

  -- 4 (bytes), 1, 2, 3, 4 (depth)
  pub refused_1_to_4 : (n : ℕ) → n ≤ 4 → (compile_of file list_words room ≡ refused n) ↔ ((16384 ≤ list_words) × NotAccepted file n)
  refused_1_to_4 = refusals.file_exactly limits01 file list_words room some_action

  -- 5 to 8
  pub refused_5_to_8 : (n : ℕ) → 5 ≤ n → n ≤ 8 →
      (compile_of file list_words room ≡ refused n) ↔ ((16384 ≤ list_words) × (check_of file ≡ 0) × (lists_of limits01 file ≡ lowering.refusal n))
  refused_5_to_8 = refusals.lowering_exactly limits01 file list_words room some_action

  -- 5: only where a direct value is set, or a property deleted, called or constructed
  pub refused_5 : compile_of file list_words room ≡ refused 5 → Somewhere (Cause 5) (statements_of file)
  refused_5 = causes.five limits01 some_action file list_words room

  -- 6: only from a second Default about to be marked. It is the refusal of `mark_default` alone, which only a Default calls; any other label that is
  -- marked already would give 24, and `refusal_numbers` shows that none does. So the tree has a switch with more than one Default
  pub refused_6 : compile_of file list_words room ≡ refused 6 → Somewhere TwoDefaults (statements_of file)
  refused_6 = causes.six limits01 some_action file list_words room

  -- 7: only from negating -2147483648
  pub refused_7 : compile_of file list_words room ≡ refused 7 → Somewhere NegatesLeast (statements_of file)
  refused_7 = causes.seven limits01 some_action file list_words room

  -- 8: only where there are 1,024 actions, 2,048 push values or 1,024 labels already
  pub refused_8 : compile_of file list_words room ≡ refused 8 →
      (s : State) × (generate_actions limits01 (statements_of file) ≡ builder.refused 8 s) × Full limits01 s
  refused_8 = causes.eight limits01 some_action file list_words room

  -- 9, 10, 11, 12, each over all records
  pub refused_9_to_12 : (n : ℕ) → 9 ≤ n → n ≤ 12 →
      (compile_of file list_words room ≡ refused n) ↔
      ((16384 ≤ list_words) × (check_of file ≡ 0) × (ls : List (List Item)) × (lists_of limits01 file ≡ lowering.lists ls) × NotWritten (by_place ls) room n)
  refused_9_to_12 = refusals.writing_exactly limits01 file list_words room some_action

  -- 9, 10 and 11 speak of an action of a list: a string with a zero byte, too much data or too long a body, an offset out of range
  pub refused_9_to_11 : Bytes file → (n : ℕ) → 9 ≤ n → n ≤ 11 → compile_of file list_words room ≡ refused n →
      (ls : List (List Item)) × (lists_of limits01 file ≡ lowering.lists ls) × (k : ℕ) × (i : ℕ) × (a : Action) ×
      (get_elem? (list_of (by_place ls) k) i ≡ some a) × BrokenAt (by_place ls) k i a n
  refused_9_to_11 bytes = records.broken_record limits01 some_action file bytes list_words room

-- reading: 13, then 14, which is given exactly where no list within the limits writes to the bytes
module _ (bytes : List ℕ) (list_words : ℕ) where
  pub read_refused_13 : (read_of bytes list_words ≡ outcome.Reading.refused 13) ↔ (list_words < 16384)
  read_refused_13 = refusals.read_thirteen_exactly limits01 bytes list_words

  pub read_refused_14 : (read_of bytes list_words ≡ outcome.Reading.refused 14) ↔
      ((16384 ≤ list_words) × ((l : Lists) (room : ℕ) → IsLists limits_01 l → encode l room ≡ action_format.bytes bytes → ⊥))
  read_refused_14 = refusals.fourteen_exactly limits01 bytes list_words

  -- what is read: lists within the limits that write to these bytes, all of them
  pub read_exactly : (l : Lists) (n : ℕ) → (read_of bytes list_words ≡ read l n) ↔
      ((16384 ≤ list_words) × IsLists limits_01 l × (encode l (length bytes) ≡ action_format.bytes bytes) × (n ≡ length bytes))
  read_exactly = refusals.read_exactly limits01 bytes list_words

  -- length is the bytes read, 0 after a refusal
  pub read_leaves : (n : ℕ) (l : Lists) → read_of bytes list_words ≡ read l n →
      (read_number_of (read_of bytes list_words) ≡ 0) × (read_length_of (read_of bytes list_words) ≡ length bytes)
  read_leaves = outputs.read_leaves limits01 bytes list_words

  pub read_refused_leaves : (n : ℕ) → read_of bytes list_words ≡ outcome.Reading.refused n →
      (read_number_of (read_of bytes list_words) ≡ n) × (read_length_of (read_of bytes list_words) ≡ 0)
  read_refused_leaves = outputs.read_refused_leaves limits01 bytes list_words
