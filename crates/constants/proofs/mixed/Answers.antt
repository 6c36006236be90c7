use borrow.Author.Rules.{rules}
use Rattle.codegen_state.specs.Index.{mixed}
use Rattle.constants.proofs.mixed.Goals as goal

pub returns : goal.returns
unfolding mixed
returns c = search rules
