use Rattle.std.proofs.Common.{sym, ◌∙◌}
use Rattle.std.proofs.lemmas.Bool.{eqb-false}
use Rattle.action_reader.proofs.Closing.{in_body, close_step}
use Rattle.action_reader.proofs.walk.Walk.step.Goals as goal

pub close-requires-clause-first_nonzero : goal.close-requires-clause-first_nonzero
close-requires-clause-first_nonzero c = (in_body c.requires.stands (eqb-false _ _ (sym c.is_empty.ensures ∙ c.if-not-is_empty.true))).first

pub returns-then-self : goal.returns-then-self
returns-then-self c = close_step c.requires.stands c.if-self.true (eqb-false _ _ (sym c.is_empty.ensures ∙ c.if-not-is_empty.true)) _ _ _ c.close.ensures c.close.auto.list
