-- What each function of the ring asks and gives.
use Rattle.std.specs.Prelude.{ℕ, ◌≤◌, ◌≡◌}
use Rattle.lowering.specs.Builder.{M}
use Rattle.codegen_state.specs.Does.{Does}
use Rattle.tree.specs.declared.Trees.{Trees}
use Rattle.tree.specs.Handle.{file_of}
use Rattle.builder.specs.Runs.{SameList}
use Rattle.constants.specs.declared.context.ScriptContext.{ScriptContext}

-- trees of the context's file, and room in the scratch slice for their records
pub record Walk (t : Trees) (c : ScriptContext) (room : ℕ) : Type 0 where
  pub script : c.script ≡ t.script
  pub fits : t.part.n ≤ room

-- from one context to another, over the same file and words, a step of the trees' file is done, with the value a
pub record Walks {A : Type 0} (t : Trees) (m : M A) (c : ScriptContext) (a : A) (r : ScriptContext) : Type 0 where
  pub script : r.script ≡ c.script
  pub same_list : SameList c.builder r.builder
  pub does : Does (file_of t) m c.builder.state c.builder.list.now a r.builder.state r.builder.list.now
