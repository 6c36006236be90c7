-- The words of demand 3, of what calls leave: a call's bytes are the first of its output, as many as its length; its lists are the definition's for its file
-- and whatever else it takes.
use Rattle.std.specs.Prelude.{ℕ, List, [], take}
use Rattle.pcode.specs.Pcode.{Item}
use Rattle.script.specs.Write.{Bytes}
use Rattle.lowering.specs.Builder.{limits01}
use Rattle.definition.specs.Outcome.{Outcome, compiled, refused}
use Rattle.definition.specs.Compile.{compile_of}
use Rattle.definition.specs.Left.{Compiles}

-- a compile call that was not refused: what it took and what it left
pub record Call : Type 0 where
  pub file : List ℕ
  pub list_words : ℕ
  pub room : ℕ
  pub length' : ℕ
  pub output : List ℕ
  pub list : List ℕ
  pub of_bytes : Bytes file
  pub compiles : Compiles limits01 file list_words room 0 length' output list

abbrev pub call_bytes : Call → List ℕ
call_bytes c = take c.length' c.output

abbrev pub lists_of_outcome : Outcome → List (List Item)
lists_of_outcome (compiled b ls) = ls
lists_of_outcome (refused n) = []

abbrev pub call_lists : Call → List (List Item)
call_lists c = lists_of_outcome (compile_of c.file c.list_words c.room)
