use Rattle.pcode.specs.declared.Op.TheVariants.{Pop}
use Rattle.lowering.specs.Builder.{action}
use Rattle.lowering.specs.Access.{store_register}
use Rattle.access.proofs.Chains.{runs_row}
use Rattle.access.proofs.Access.set_value.Goals as goal

pub returns-in-Variable : goal.returns-in-Variable
returns-in-Variable c = λ F. rw c.in-Variable.is (c.action.ensures F)

pub returns-in-Object : goal.returns-in-Object
returns-in-Object c = λ F. rw c.in-Object.is (c.action-in-Object.ensures F)

pub returns-in-Direct : goal.returns-in-Direct
returns-in-Direct c = λ F. rw c.in-Direct.is (c.refuse.ensures.runs F)

pub returns-in-SpecialProperty : goal.returns-in-SpecialProperty
returns-in-SpecialProperty c = λ F. rw c.in-SpecialProperty.is (c.action-in-SpecialProperty.ensures F)

pub returns-in-Register : goal.returns-in-Register
returns-in-Register c = λ F. rw c.in-Register.is (runs_row (store_register _) (action Pop) (c.store_register.ensures F) (c.action-in-Register.ensures F))
