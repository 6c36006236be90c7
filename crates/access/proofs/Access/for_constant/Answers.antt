use mathlib.Core.Path.{refl}
use mir.Syntax.{w32}
use mir.ValLaws.{to_z-of_z}
use borrow.Author.Rules.{rules}
use Rattle.codegen_state.proofs.Steps.{returned}
use Rattle.access.proofs.Accesses.{string_acts, identifier_acts, boolean}
use Rattle.access.proofs.Access.for_constant.Goals as goal

pub returns-in-String : goal.returns-in-String
returns-in-String c = λ h t. string_acts h t c.in-String.is (search rules)

pub returns-in-Identifier : goal.returns-in-Identifier
returns-in-Identifier c = λ h t. identifier_acts h t c.in-Identifier.is (search rules)

pub returns-in-Float : goal.returns-in-Float
returns-in-Float c = λ h t. rw c.in-Float.is (c.direct.ensures tt)

pub returns-in-Integer : goal.returns-in-Integer
returns-in-Integer c = λ h t. rw c.in-Integer.is (rw (to_z-of_z w32 c.in-Integer.n (search rules)) at (c.direct-in-Integer.ensures tt))

pub returns-in-Boolean : goal.returns-in-Boolean
returns-in-Boolean c = λ h t. let a = c.direct-in-Boolean.ensures tt in record { script = a.script; same_list = a.same_list; does = boolean c.args.context.now.script.bytes.now c.in-Boolean.is a.does }

pub returns-in-Register : goal.returns-in-Register
returns-in-Register c = λ h t. record { script = refl; same_list = record { name = refl; long = refl }; does = rw c.in-Register.is (returned c.args.context.now.builder.fine) }
