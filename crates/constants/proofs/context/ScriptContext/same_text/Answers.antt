use mathlib.Core.Path.{◌∙◌}
use borrow.Author.Tests.{eq-eqb}
use Rattle.constants.proofs.SearchLaws.{same_reference}
use Rattle.constants.proofs.context.ScriptContext.same_text.Goals as goal

pub returns-then-held-s : goal.returns-then-held-s
returns-then-held-s c = eq-eqb _ _ c.if-held-s.true ∙ same_reference _ c.if-held-s.true
