use mathlib.Core.Path.{refl}
use native.Mathlib.Omega.{arith}
use Rattle.special_properties.specs.SpecialProperties.{names}
use Rattle.special_properties.proofs.Search.{lengths_differ, agree_none, agree_more, agree_not, agree_all, passed_none, passed_more, passed_found, passed_all}
use Rattle.special_properties.proofs.number_of.Goals as goal

pub names-init : goal.names-init
unfolding names
names-init c = passed_none refl

pub names-preserved-then-property-letters : goal.names-preserved-then-property-letters
names-preserved-then-property-letters c = passed_more c.names.invariant (omega arith) (lengths_differ _ _ (λ e. omega arith))

pub loop-k-init : goal.loop-k-init
loop-k-init c = agree_none (omega arith)

pub names-preserved : goal.names-preserved
names-preserved c = passed_more c.names.invariant (omega arith) (agree_not c.loop-k.invariant (omega arith) (λ e. omega arith))

pub loop-k-preserved : goal.loop-k-preserved
loop-k-preserved c = agree_more c.loop-k.invariant (omega arith) (cc)

pub returns-in-names : goal.returns-in-names
returns-in-names c = passed_found c.names.invariant (omega arith) (agree_all c.loop-k.invariant (omega arith))

pub returns : goal.returns
returns c = passed_all c.names.invariant (omega arith)
