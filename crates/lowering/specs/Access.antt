-- `access.rs`: how a value is reached, and what is done with it there.
use Rattle.std.specs.Prelude.{ℕ, ◌+◌, [], Bool, true, false, Option, Some, None}
use Rattle.hir.specs.Hir.{Str, ConstantKind}
use Rattle.pcode.specs.declared.Op.TheVariants.{GetVariable, GetMember, GetProperty, SetVariable, SetMember, SetProperty, Pop, Delete, Delete2, NewObject, NewMethod, CallFunction, CallMethod}
use Rattle.pcode.specs.Pcode.{Value, Null, Undefined, True, False, Integer, Float, op, StoreRegister, up, down}
use Rattle.special_properties.specs.SpecialProperties.{get_special_property, null, undefined, same_bytes}
use Rattle.lowering.specs.Builder.{M, Step, ◌>>◌, pure, refuse, done, action, plain_action, push, push_string}

pub data Access : Type 0 where
  Variable Object Direct SpecialProperty : Access
  Register : ℕ → Access

-- a step, and the access that it leaves
infixl 15 ◌gives◌
abbrev pub ◌gives◌ : Step → Access → M Access
m gives a = m >> pure a

-- a direct value is set; a property is deleted, called or constructed
abbrev pub refuse_direct : Step
refuse_direct = refuse 5

abbrev pub refuse_property : Step
refuse_property = refuse 5

abbrev pub store_register : ℕ → Step
store_register r = plain_action (StoreRegister r) (up 0)

-- the fixed names come before the pool
abbrev pub for_name : (null undefined : Bool) → Str → M Access
for_name true u name = push Null gives Direct
for_name false true name = push Undefined gives Direct
for_name false false name = push_string name gives Variable

abbrev pub for_property : Str → Option ℕ → M Access
for_property name (Some p) = push_string [] >> push (Integer p) gives SpecialProperty
for_property name None = for_name (same_bytes name null) (same_bytes name undefined) name

abbrev pub for_identifier : Str → M Access
for_identifier name = for_property name (get_special_property name)

abbrev pub boolean : Bool → Value
boolean true = True
boolean false = False

abbrev pub for_constant : ConstantKind → M Access
for_constant (ConstantKind.String s) = push_string s gives Direct
for_constant (ConstantKind.Identifier s) = for_identifier s
for_constant (ConstantKind.Float v) = push (Float v) gives Direct
for_constant (ConstantKind.Integer v) = push (Integer v) gives Direct
for_constant (ConstantKind.Boolean v) = push (boolean v) gives Direct
for_constant (ConstantKind.Register r) = pure (Register r)

abbrev pub get_value : Access → Step
get_value Variable = action GetVariable
get_value Object = action GetMember
get_value Direct = done
get_value SpecialProperty = action GetProperty
get_value (Register r) = push (Value.Register r)

abbrev pub set_value : Access → Step
set_value Variable = action SetVariable
set_value Object = action SetMember
set_value Direct = refuse_direct
set_value SpecialProperty = action SetProperty
set_value (Register r) = store_register r >> action Pop

abbrev pub get_and_set_value : Access → Step
get_and_set_value Variable = store_register 0 >> action SetVariable >> push (Value.Register 0)
get_and_set_value Object = store_register 0 >> action SetMember >> push (Value.Register 0)
get_and_set_value Direct = refuse_direct
get_and_set_value SpecialProperty = store_register 0 >> action SetProperty >> push (Value.Register 0)
get_and_set_value (Register r) = store_register r

abbrev pub delete : Access → Step
delete Variable = action Delete2
delete Object = action Delete
delete Direct = action Delete2
delete SpecialProperty = refuse_property
delete (Register r) = push False

abbrev pub call_new : ℕ → Access → Step
call_new n Variable = plain_action (op NewObject) (down (n + 1))
call_new n Object = plain_action (op NewMethod) (down (n + 2))
call_new n Direct = plain_action (op NewMethod) (down (n + 2))
call_new n SpecialProperty = refuse_property
call_new n (Register r) = push (Value.Register r) >> push Undefined >> plain_action (op NewMethod) (down (n + 2))

abbrev pub call : ℕ → Access → Step
call n Variable = plain_action (op CallFunction) (down (n + 1))
call n Object = plain_action (op CallMethod) (down (n + 2))
call n Direct = plain_action (op CallFunction) (down (n + 1))
call n SpecialProperty = refuse_property
call n (Register r) = push (Value.Register r) >> push Undefined >> plain_action (op CallMethod) (down (n + 2))
