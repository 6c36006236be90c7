-- The strings of the lists.
use Rattle.std.specs.Prelude.{zero, suc, List, [], ◌∷◌, ◌++◌, map, Bool, true, false}
use Rattle.hir.specs.Hir.{Str}
use Rattle.pcode.specs.Pcode.{Value, Param, Header, Plain, Action, Null, Undefined, True, False, String, Integer, Float, Register, Constant, DefineFunction, DefineFunction2, op, ConstantPool, StoreRegister, GotoFrame, GotoFrame2, GotoLabel, plain, push, branch, define}
use Rattle.utf8.specs.Utf8.{utf8}
use Rattle.action_format.specs.Lists.{Lists, all, all_actions}

-- the strings of an action

abbrev pub value_strings : Value → List Str
value_strings (String s) = s ∷ []
value_strings Null = []
value_strings Undefined = []
value_strings True = []
value_strings False = []
value_strings (Integer v) = []
value_strings (Float v) = []
value_strings (Register r) = []
value_strings (Constant i) = []

abbrev pub values_strings : List Value → List Str
values_strings [] = []
values_strings (v ∷ vs) = value_strings v ++ values_strings vs

abbrev pub plain_strings : Plain → List Str
plain_strings (op o) = []
plain_strings (ConstantPool ss) = ss
plain_strings (StoreRegister r) = []
plain_strings (GotoFrame n) = []
plain_strings (GotoFrame2 p) = []
plain_strings (GotoLabel s) = s ∷ []

abbrev pub header_strings : Header → List Str
header_strings (DefineFunction n ps) = n ∷ ps
header_strings (DefineFunction2 n ps r m) = n ∷ map (λ (p : Param). p.name) ps

abbrev pub strings : Action → List Str
strings (plain p) = plain_strings p
strings (push vs) = values_strings vs
strings (branch b p) = []
strings (define h n) = header_strings h

-- refusal 9's test: no string to be written has a zero byte

abbrev pub no_zero : Str → Bool
no_zero [] = true
no_zero (zero ∷ s) = false
no_zero (suc b ∷ s) = no_zero s

abbrev pub zero_free : Lists → Bool
zero_free = all_actions (λ (a : Action). all no_zero (strings a))

abbrev pub lists_are_utf8 : Lists → Bool
lists_are_utf8 = all_actions (λ (a : Action). all utf8 (strings a))
