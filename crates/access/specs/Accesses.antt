-- The access of the definition that the code's enum stands for.
use Rattle.std.specs.Prelude.{ℕ, ◌+◌}
use Rattle.pcode.specs.declared.Op.{Op}
use Rattle.pcode.specs.Pcode.{Value, Delta, op, Undefined}
use Rattle.lowering.specs.Builder.{M, Step, ◌>>◌, plain_action, push}
use Rattle.lowering.specs.Access as access
use Rattle.lowering.specs.Access.{◌gives◌, store_register}
use Rattle.access.specs.declared.Access.{Access}
use Rattle.access.specs.declared.Access.TheVariants.{Variable, Object, Direct, SpecialProperty, Register}

abbrev pub access_of : Access → access.Access
access_of Variable = access.Variable
access_of Object = access.Object
access_of Direct = access.Direct
access_of SpecialProperty = access.SpecialProperty
access_of (Register r) = access.Register r

-- a value that is pushed is direct
abbrev pub pushed_direct : Value → M access.Access
pushed_direct v = push v gives access.Direct

-- a register holds the object itself: it is called without a name
abbrev pub call_register : Op → (n register : ℕ) → Step
call_register o n r = push (Value.Register r) >> push Undefined >> plain_action (op o) (Delta.down (n + 2))
