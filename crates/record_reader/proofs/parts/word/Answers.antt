use Rattle.std.proofs.Common.{arith}
use Rattle.record_reader.proofs.Front.{short, word_some}
use Rattle.record_reader.proofs.parts.word.Goals as goal

pub returns-in_default : goal.returns-in_default
returns-in_default c = short 2 _ c.in_default.len_below

pub returns : goal.returns
returns c = word_some _ c.type_inv.b c.in-len2-up.len_at_least (omega arith)
