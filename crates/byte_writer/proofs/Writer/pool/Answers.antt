use Rattle.std.proofs.Common.{◌≡◌, ◌+◌, ◌-◌, length, take, drop, arith}
use Rattle.action_format.specs.Bytes.{word}
use Rattle.byte_writer.specs.Data.{texts_from, pool_data}
use Rattle.byte_writer.proofs.Writes.{has_first}
use Rattle.byte_writer.proofs.Pool.{texts_room, texts_next, pool_rest, pool_done}
use Rattle.byte_writer.proofs.Writer.pool.Goals as goal

pub word-requires : goal.word-requires
unfolding pool_data
word-requires c = has_first c.args.self.now (word 2 c.args.n) (texts_from c.args.self.now.script.bytes.now c.args.self.now.script.layout c.args.list.now 14336 c.args.n) c.requires.room

pub text-requires : goal.text-requires
unfolding pool_data texts_from
text-requires c = texts_room c.loop-reference.invariant c.loop-reference-test.true ((pool_rest c.args.n c.args.list.now c.word.ensures c.requires.room))

pub loop-reference-preserved : goal.loop-reference-preserved
loop-reference-preserved c = texts_next c.loop-reference.invariant c.loop-reference-test.true c.text.ensures

pub returns : goal.returns
returns c =
    let rs = take (14336 + c.args.n - 14336) (drop 14336 c.args.list.now) in
    let e : c.loop-reference.reference-index ≡ length rs = omega arith in
    pool_done c.args.n c.args.list.now c.word.ensures (rw e at c.loop-reference.invariant)
