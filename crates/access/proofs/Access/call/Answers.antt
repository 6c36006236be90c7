use mathlib.Core.Logic.{inl, inr}
use Rattle.pcode.specs.Pcode.{op}
use Rattle.pcode.specs.declared.Op.TheVariants.{CallFunction, CallMethod}
use Rattle.access.proofs.Accesses.{falls}
use Rattle.access.proofs.Access.call.Goals as goal

-- The arm says which access it is, and what is called does its step: a lemma would say no more.
pub returns-in-Variable : goal.returns-in-Variable
returns-in-Variable c = λ F. let x = falls (op CallFunction) _ c.saturating_add.ensures (c.action_down.ensures F) in elim c.in-Variable.is [ inl e ↦ rw e x | inr e ↦ rw e x ]

pub returns-in-Object : goal.returns-in-Object
returns-in-Object c = λ F. rw c.in-Object.is (falls (op CallMethod) _ c.saturating_add-in-Object.ensures (c.action_down-in-Object.ensures F))

pub returns-in-SpecialProperty : goal.returns-in-SpecialProperty
returns-in-SpecialProperty c = λ F. rw c.in-SpecialProperty.is (c.refuse.ensures.runs F)

pub returns-in-Register : goal.returns-in-Register
returns-in-Register c = λ F. rw c.in-Register.is (c.call_register.ensures F)
