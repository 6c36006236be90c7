use Rattle.byte_writer.specs.Data.{operand_data}
use Rattle.byte_writer.proofs.Writes.{writes_then}
use Rattle.byte_writer.proofs.Writer.operand.Goals as goal

pub returns-in-6 : goal.returns-in-6
unfolding operand_data
returns-in-6 c = rw c.in-6.is (writes_then c.word-in-6.ensures c.word-in-6-2.ensures)
