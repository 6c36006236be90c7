use Rattle.std.proofs.Common.{arith}
use Rattle.tree.proofs.Accepted.{accepted_short}
use Rattle.resolver.proofs.Stand.{stands}
use Rattle.resolver.proofs.Whole.{long_slice}
use Rattle.resolver.proofs.lists.Lists.new.Goals as goal

pub count_lists-count-requires : goal.count_lists-count-requires
count_lists-count-requires c = long_slice c.requires

pub invariant_of-result : goal.invariant_of-result
invariant_of-result c = record {
  bytes = rw c.new-script.ensures.bytes (λ i. omega (arith, c.type_inv.file i));
  ready = rw c.new-script.ensures.bytes (record { layout = c.new-script.ensures.layout; accepted = c.requires.accepted });
  short = rw c.new-script.ensures.bytes (accepted_short c.args.file.now c.requires.accepted);
  counted = omega (arith, c.count_lists-count.ensures);
  stands = rw c.new-script.ensures.bytes (stands c.requires (λ i. omega (arith, c.type_inv.file i)));
}
