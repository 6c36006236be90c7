use borrow.Author.Tests.{lt-leb, le-leb}
use Rattle.byte_writer.proofs.Writes.{writes_then}
use Rattle.byte_writer.proofs.Writer.constant.Goals as goal

pub returns-then-index-lt256 : goal.returns-then-index-lt256
returns-then-index-lt256 c = rw (lt-leb 256 c.args.index c.if-index-lt256.true) (writes_then c.byte.ensures c.byte-then-index-lt256.ensures)

pub returns-else-index-lt256 : goal.returns-else-index-lt256
returns-else-index-lt256 c = rw (le-leb 256 c.args.index c.if-index-lt256.false) (writes_then c.byte-else-index-lt256.ensures c.word.ensures)
