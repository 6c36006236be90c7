use mathlib.Core.Logic.{inl, inr}
use Rattle.access.proofs.Access.delete.Goals as goal

pub returns-in-Variable : goal.returns-in-Variable
returns-in-Variable c = λ F. elim c.in-Variable.is [ inl e ↦ rw e (c.action.ensures F) | inr e ↦ rw e (c.action.ensures F) ]

pub returns-in-Object : goal.returns-in-Object
returns-in-Object c = λ F. rw c.in-Object.is (c.action-in-Object.ensures F)

pub returns-in-SpecialProperty : goal.returns-in-SpecialProperty
returns-in-SpecialProperty c = λ F. rw c.in-SpecialProperty.is (c.refuse.ensures.runs F)

pub returns-in-Register : goal.returns-in-Register
returns-in-Register c = λ F. rw c.in-Register.is (c.push.ensures.runs F tt)
