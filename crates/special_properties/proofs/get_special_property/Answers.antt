use native.Mathlib.Omega.{arith}
use Rattle.special_properties.proofs.Search.{none_other}
use Rattle.special_properties.proofs.get_special_property.Goals as goal

pub returns-in_default : goal.returns-in_default
returns-in_default c = none_other _ (λ p e. omega arith)

pub returns-in_default-2 : goal.returns-in_default-2
returns-in_default-2 c = none_other _ (λ _. c.if-first-eq95.false)
