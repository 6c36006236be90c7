use Rattle.std.proofs.Common.{take}
use Rattle.lowering.specs.Builder.{limits01}
use Rattle.list_slice.specs.Words.{pool_in}
use Rattle.resolver.proofs.Texts.{PoolInv}
use Rattle.resolver.proofs.lists.Lists.pool_text.Given as goal

abbrev pub invariant-loop-reference : goal.invariant-loop-reference
invariant-loop-reference l = PoolInv l.self.script.bytes.now (take l.fn.n (pool_in limits01 l.self.list.now)) l.reference-iterator.iter.rest.now l.t
