use Rattle.std.proofs.Common.{arith}
use lib.ListN.{length-take}
use Rattle.resolver.proofs.Texts.{pool_start, pool_few, pool_again, pool_done, pool_words}
use Rattle.resolver.proofs.lists.Lists.pool_text.Goals as goal

pub loop-reference-init : goal.loop-reference-init
loop-reference-init c =
    rw (c.into_iter-reference-iterator.ensures.into_iter_gives, c.rev-reference-items.ensures.source, c.iter.ensures.rest, pool_words c.args.self.now.list.now c.args.n c.requires)
    (pool_start c.args.self.now.script.bytes.now _)

pub with-t-requires-clause-few : goal.with-t-requires-clause-few
with-t-requires-clause-few c = pool_few c.loop-reference.invariant c.args.self.now.ready (simp length-take (omega (arith, c.requires)))

pub loop-reference-preserved : goal.loop-reference-preserved
loop-reference-preserved c = pool_again c.loop-reference.invariant _ c.in-Some.ensures.steps (rw (c.text.ensures.in_file c.args.self.now.ready.layout) at c.with-t.ensures)

pub returns : goal.returns
returns c = pool_done _ c.loop-reference.invariant c.in-None.ensures.steps.0
