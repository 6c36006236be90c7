use Rattle.std.proofs.Common.{[], ◌∷◌}
use Rattle.action_format.specs.Bytes.{zero_ended}
use Rattle.byte_writer.proofs.Writes.{writes_then, has_first, has_rest}
use Rattle.byte_writer.proofs.Writer.text.Goals as goal

pub part-requires : goal.part-requires
unfolding zero_ended
part-requires c = has_first c.args.self.now c.text.result.now (0 ∷ []) (rw (← c.text.ensures.by_layout) at c.requires)

pub byte-requires : goal.byte-requires
unfolding zero_ended
byte-requires c = has_rest (0 ∷ []) c.part.ensures (rw (← c.text.ensures.by_layout) at c.requires)

pub returns : goal.returns
unfolding zero_ended
returns c = rw (← c.text.ensures.by_layout) (writes_then c.part.ensures c.byte.ensures)
