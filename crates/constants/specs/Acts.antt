-- What it means that a method of a ScriptContext does a step.
use Rattle.std.specs.Prelude.{◌≡◌}
use Rattle.lowering.specs.Builder.{M}
use Rattle.codegen_state.specs.Does.{Does}
use Rattle.builder.specs.Runs.{SameList}
use Rattle.constants.specs.declared.context.ScriptContext.{ScriptContext}

-- from one context to another, over the same file and words, the step m is done, with the value a
pub record Acts {A : Type 0} (m : M A) (c : ScriptContext) (a : A) (r : ScriptContext) : Type 0 where
  pub script : r.script ≡ c.script
  pub same_list : SameList c.builder r.builder
  pub does : Does c.script.bytes.now m c.builder.state c.builder.list.now a r.builder.state r.builder.list.now
