use Rattle.resolver.proofs.Texts.{zero_free}
use Rattle.resolver.proofs.text.Data.string.Goals as goal

pub returns : goal.returns
returns c = rw (c.contains.ensures.value, zero_free)
