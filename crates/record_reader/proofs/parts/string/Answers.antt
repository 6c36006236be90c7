use Rattle.record_reader.proofs.Front.{string_ends, string_open}
use Rattle.record_reader.proofs.parts.string.Goals as goal

pub returns-in_err-end : goal.returns-in_err-end
returns-in_err-end c = rw (c.from_residual.ensures, string_open _ c.in_err-end.ensures)

pub returns : goal.returns
returns c = let m = c.is_utf8.ensures in string_ends _ _ c.in_ok-end.ensures m
