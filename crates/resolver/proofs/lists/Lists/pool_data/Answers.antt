use Rattle.std.proofs.Common.{arith}
use Rattle.resolver.proofs.Texts.{pool_small}
use Rattle.resolver.proofs.lists.Lists.pool_data.Goals as goal

pub overflow_add-result : goal.overflow_add-result
overflow_add-result c = omega (arith, pool_small c.args.self.now.ready c.args.self.now.list.now _ c.requires c.pool_text-t.ensures)
