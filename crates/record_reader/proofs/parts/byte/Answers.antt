use Rattle.record_reader.proofs.Front.{byte_none, byte_some}
use Rattle.record_reader.proofs.parts.byte.Goals as goal

pub returns-in_default : goal.returns-in_default
returns-in_default c = byte_none _ c.in_default.len_below

pub returns : goal.returns
returns c = byte_some _ c.type_inv.b c.in-len1-up.len_at_least
