-- Where lowering begins: the builder, the words, and the trees of the file that are walked.
use Rattle.std.specs.Prelude.{ℕ, ◌-◌, ◌≡◌, List, IsNone}
use Rattle.script_records.specs.declared.layout.Layout.{Layout}
use Rattle.script_records.specs.declared.part.Part.{Part}
use Rattle.script_records.specs.Layout.{layout_of}
use Rattle.script.specs.Rules.{check_of}
use Rattle.lowering.specs.Builder.{limits01}
use Rattle.lowering.specs.Statement.{start, no_loop, gen_statements}
use Rattle.codegen_state.specs.declared.BuilderState.{BuilderState}
use Rattle.codegen_state.specs.View.{state}
use Rattle.codegen_state.specs.Does.{Fine, Named, Does}
use Rattle.tree.specs.declared.Trees.{Trees}
use Rattle.tree.specs.Handle.{file_of, meanings_of}

-- the definition's first state, with no list waiting
pub record Begun (F : List ℕ) (b : BuilderState) (w : List ℕ) : Type 0 where
  pub fine : Fine b w
  pub named : Named F b w
  pub starts : state F b w ≡ start limits01
  pub base : b.base ≡ 4096
  pub unrefused : IsNone b.refused

-- the state and the words after all statements of the trees, from the first ones
pub record Made (t : Trees) (r : BuilderState) (w' : List ℕ) : Type 0 where
  pub b : BuilderState
  pub w : List ℕ
  pub begun : Begun (file_of t) b w
  pub does : Does (file_of t) (gen_statements no_loop (meanings_of t)) b w tt r w'

-- the trees of the root list: all records before the root, which is the last
abbrev pub statements_part : Layout → Part
statements_part l = record { end = l.count - 1; n = l.count - 1 }

-- all statements of an accepted file
pub record Statements (t : Trees) : Type 0 where
  pub accepted : check_of (file_of t) ≡ 0
  pub part : t.part ≡ statements_part (layout_of (file_of t))
