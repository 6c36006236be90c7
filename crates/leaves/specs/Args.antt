-- Arguments run from the last to the first.
use Rattle.std.specs.Prelude.{ℕ, ◌≤◌, ◌≡◌, List, length}
use Rattle.script_records.specs.declared.layout.Layout.{Layout}
use Rattle.script_records.specs.declared.part.Part.{Part}
use Rattle.lowering.specs.Statement.{exprs_reversed}
use Rattle.codegen_state.specs.declared.BuilderState.{BuilderState}
use Rattle.codegen_state.specs.View.{held, after}
use Rattle.codegen_state.specs.Does.{Fine, Named}
use Rattle.tree.specs.declared.Trees.{Trees}
use Rattle.tree.specs.Within.{Within, meanings_at}
use Rattle.tree.specs.Handle.{file_of}
use Rattle.builder.specs.Runs.{SameList}
use Rattle.constants.specs.declared.context.ScriptContext.{ScriptContext}

-- of the arguments of p, those in `left` are still to be generated
pub record Args (F : List ℕ) (l : Layout) (w0 : List ℕ) (p : Part) (b0 : BuilderState) (w : List ℕ) (left : Part) (b : BuilderState) : Type 0 where
  pub same : after (held F (tt {0}) b w) (exprs_reversed (meanings_at F left)) ≡ after (held F (tt {0}) b0 w0) (exprs_reversed (meanings_at F p))
  pub fine : Fine b w
  pub named : Named F b0 w0 → Named F b w
  pub within : Within F l left
  pub fewer : left.n ≤ p.n
  pub list : length w ≡ length w0

-- from one context to another, some arguments of t are generated, and those in `left` are not
pub record Pushes (t : Trees) (c : ScriptContext) (left : Trees) (r : ScriptContext) : Type 0 where
  pub trees : left.script ≡ t.script
  pub script : r.script ≡ c.script
  pub same_list : SameList c.builder r.builder
  pub args : Args (file_of t) t.script.layout c.builder.list.now t.part c.builder.state r.builder.list.now left.part r.builder.state
