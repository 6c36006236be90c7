-- The call that compiles a script file, as the arrows of document 01 in their order.
use Rattle.std.specs.Prelude.{ℕ, zero, suc, List, Bool, true, false, ltb}
use Rattle.hir.specs.Hir.{Rec}
use Rattle.hir.specs.Tree.{Forest}
use Rattle.pcode.specs.Pcode.{Item}
use Rattle.script.specs.Rules.{check_of}
use Rattle.script.specs.Resolve.{script_of}
use Rattle.lowering.specs.Builder.{Limits, limits01}
use Rattle.lowering.specs.Meaning.{list}
use Rattle.lowering.specs.Statement as lowering
use Rattle.lowering.specs.Statement.{script_to_actions}
use Rattle.action_format.specs.Encode as action_format
use Rattle.action_format.specs.Encode.{encode}
use Rattle.list_slice.specs.Words.{slice_length}
use Rattle.definition.specs.Outcome.{Outcome, compiled, refused, by_place}

-- the statements of a script file: the children of its one root
abbrev pub statements_of : List ℕ → Forest Rec
statements_of file = list 0 (script_of file)

-- the lists of a script file, or refusal 5, 6, 7 or 8
abbrev pub lists_of : Limits → List ℕ → lowering.Lists
lists_of lim file = script_to_actions lim (statements_of file)

-- 13 if the list slice is too short
abbrev pub in_slice : (short : Bool) → lowering.Lists → lowering.Lists
in_slice true l = lowering.refusal 13
in_slice false l = l

-- the check's refusal; its number is 0 if it has none
abbrev pub if_accepted : (number : ℕ) → lowering.Lists → lowering.Lists
if_accepted zero l = l
if_accepted (suc n) l = lowering.refusal (suc n)

-- 13; then 4 (bytes), 1, 2, 3, 4 (depth); then the first of 5 to 8
unfoldable pub lowered_with : Limits → (file : List ℕ) → (list_words : ℕ) → lowering.Lists
lowered_with lim file list_words =
    in_slice (ltb list_words (slice_length lim))
    (if_accepted (check_of file)
    (lists_of lim file))

-- the bytes of lists, or refusal 9, 10, 11 or 12
abbrev pub written : List (List Item) → action_format.Answer → Outcome
written ls (action_format.bytes b) = compiled b ls
written ls (action_format.refused n) = refused n

abbrev pub if_lowered : lowering.Lists → (room : ℕ) → Outcome
if_lowered (lowering.refusal n) room = refused n
if_lowered (lowering.lists ls) room = written ls (encode (by_place ls) room)

-- lowering, and then 9, 10, 11, 12
unfoldable pub compile_with : Limits → (file : List ℕ) → (list_words room : ℕ) → Outcome
compile_with lim file list_words room = if_lowered (lowered_with lim file list_words) room

-- at document 01's limits
abbrev pub compile_of : (file : List ℕ) → (list_words room : ℕ) → Outcome
compile_of = compile_with limits01
