use Rattle.access.proofs.Accesses.{through_0, sets}
use Rattle.access.proofs.Access.get_and_set_value.Goals as goal

pub returns-in-Variable : goal.returns-in-Variable
returns-in-Variable c = λ F. rw (through_0 c.in-Variable.is) (sets _ (c.store_register.ensures F) (c.set_value.ensures F) (c.push.ensures.runs F tt))

pub returns-in-Direct : goal.returns-in-Direct
returns-in-Direct c = λ F. rw c.in-Direct.is (c.refuse.ensures.runs F)

pub returns-in-Register : goal.returns-in-Register
returns-in-Register c = λ F. rw c.in-Register.is (c.store_register-in-Register.ensures F)
