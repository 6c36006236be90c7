use Rattle.std.proofs.Common.{rules, sym, arith}
use Rattle.lowering.specs.Builder.{limits01}
use Rattle.list_slice.specs.Words.{ends_in}
use Rattle.resolver.specs.Walk.{count_of}
use Rattle.resolver.proofs.Counting.{last_at, none_at}
use Rattle.resolver.proofs.lists.count_lists.Goals as goal

pub returns-in-Some : goal.returns-in-Some
unfolding count_of
returns-in-Some c = omega (arith, last_at (ends_in limits01 c.args.list.now) c.in-Some.last (search rules) (search rules) (search rules))

pub returns-in-None : goal.returns-in-None
unfolding count_of
returns-in-None c = sym (none_at (ends_in limits01 c.args.list.now) (search rules))
