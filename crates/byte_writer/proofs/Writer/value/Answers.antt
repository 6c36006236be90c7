use borrow.Author.Tests.{ne_eqb}
use Rattle.script_records.specs.declared.layout.ScriptFile.{ScriptFile}
use Rattle.byte_writer.specs.Data.{operand_data, value_data}
use Rattle.byte_writer.proofs.Writes.{writes_next}
use Rattle.byte_writer.proofs.Writer.value.Goals as goal

pub returns-else-kind-eq-CONSTANT : goal.returns-else-kind-eq-CONSTANT
unfolding value_data
returns-else-kind-eq-CONSTANT c =
    rw (ne_eqb c.args.kind 8 c.if-kind-eq-CONSTANT.false)
    (writes_next (λ (s : ScriptFile). operand_data s.bytes.now s.layout c.args.kind c.args.entry.first c.args.entry.second) c.byte.ensures c.operand.ensures)
