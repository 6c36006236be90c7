-- The starred scripts of document 01, and scripts for 'Where a port goes astray': one table.
use Prim.Native.String.{String}
use Prim.Native.Nat.{ℕ, zero, suc, ◌-◌, ◌^◌, ◌<◌}
use mathlib.Core.Path.{◌≡◌, refl}
use mathlib.Core.List.{List, [], ◌∷◌, map}
use mathlib.Core.Option.{Option, some, none}
use mathlib.Core.Bool.{Bool, true, false}
use native.Mathlib.Omega.{arith}
use lib.ListN.{length}
use Rattle.hir.specs.declared.BinaryOperator.TheVariants.{Assign, AddAssign, LogicalAnd}
use Rattle.hir.specs.declared.UnaryOperator.TheVariants as unary
use Rattle.hir.specs.declared.Affix.{Affix}
use Rattle.hir.specs.declared.Affix.TheVariants.{Postfix, Prefix}
use Rattle.hir.specs.declared.SimpleKind.TheVariants.{GetTime, Stop}
use Rattle.hir.specs.Hir.{Str, Rec, ExprKind, StatementKind, ConstantKind, ForCondition, EnumeratorTarget}
use Rattle.hir.specs.Tree.{Forest, more}
use Rattle.pcode.specs.declared.Op.{Op}
use Rattle.pcode.specs.declared.Op.TheVariants as op
use Rattle.pcode.specs.Pcode.{Value, Integer, Constant, Null, Item, Action, Plain, Branching, Header, DefineFunction, DefineFunction2, ConstantPool, GotoFrame, GotoLabel, StoreRegister}
use Rattle.special_properties.specs.Text.{bytes}
use Rattle.special_properties.specs.SpecialProperties.{names, same, to_ascii_lowercase, first_from, get_special_property}
use Rattle.lowering.specs.Builder.{limits01, ◌>>=◌, ◌>>◌, pure, refuse, create_label, stack_size, assume_stack_delta, action_with_stack_delta, mark_label, mark_default, push, add, define_function}
use Rattle.lowering.proofs.Theorems.Facts.{All, InRange}
use Rattle.lowering.specs.Statement.{Lists, lists, refusal, meanings, generate_actions, script_to_actions}

-- trees in a row, first to last

abbrev pub Tree : Type 0
Tree = Forest Rec → Forest Rec

infixl 40 ◌and◌
abbrev pub ◌and◌ : Forest Rec → Tree → Forest Rec
before and t = t before

abbrev pub no_tree : Forest Rec
no_tree = Forest.none

abbrev pub one : Tree → Forest Rec
one t = no_tree and t

abbrev pub node : Rec → Forest Rec → Tree
node r kids before = more before r kids

abbrev pub expr : ExprKind → Forest Rec → Tree
expr k = node (Rec.Expr k)

abbrev pub statement : StatementKind → Forest Rec → Tree
statement k = node (Rec.Statement k)

abbrev pub vec : Forest Rec → Tree
vec = node Rec.List

abbrev pub whole : Tree → Tree
whole x = statement StatementKind.Expr (one x)

abbrev pub constant : ConstantKind → Tree
constant c = expr (ExprKind.Constant c) no_tree

abbrev pub name : String → Tree
name t = constant (ConstantKind.Identifier (bytes t))

abbrev pub text : String → Tree
text t = constant (ConstantKind.String (bytes t))

abbrev pub number : ℕ → Tree
number n = constant (ConstantKind.Integer n)

abbrev pub assign : Tree → Tree → Tree
assign a b = expr (ExprKind.Binary Assign) (one a and b)

abbrev pub call : Tree → Forest Rec → Tree
call f args = expr ExprKind.Call (one f and vec args)

abbrev pub ternary : Tree → Tree → Tree → Tree
ternary c y n = expr ExprKind.Ternary (one c and y and n)

abbrev pub function : Option Str → (registers marks : ℕ) → Forest Rec → Forest Rec → Tree
function n r m ps body = expr (ExprKind.Function n r m) (one (vec ps) and vec body)

abbrev pub goto : Tree → Tree
goto t = whole (expr (ExprKind.GotoFrame false) (one t))

abbrev pub minus : Tree → Tree
minus t = expr (ExprKind.Unary unary.Sub) (one t)

abbrev pub increment : Affix → Tree → Tree
increment a t = expr (ExprKind.Unary (unary.Increment a)) (one t)

abbrev pub block : Tree
block = statement StatementKind.Block (one (vec no_tree))

abbrev pub break : Tree
break = statement StatementKind.Break no_tree

abbrev pub continue : Tree
continue = statement StatementKind.Continue no_tree

abbrev pub for_in : String → Bool → Tree
for_in n declare = statement (StatementKind.ForIn (ForCondition.Enumerate (EnumeratorTarget.Variable (bytes n) declare))) (one (name "o") and block)

abbrev pub switch : Forest Rec → Tree
switch xs = statement StatementKind.Switch (one (name "a") and vec xs)

abbrev pub case : Tree → Tree
case t = node Rec.Case (one t)

abbrev pub default : Tree
default = node Rec.Default no_tree

-- items

abbrev pub act : Op → Item
act o = Item.action (Action.plain (Plain.op o))

abbrev pub plain : Plain → Item
plain p = Item.action (Action.plain p)

abbrev pub pool : List String → Item
pool ss = plain (ConstantPool (map bytes ss))

abbrev pub pushes : List Value → Item
pushes vs = Item.action (Action.push vs)

abbrev pub jump : ℕ → Item
jump l = Item.action (Action.branch Branching.Jump l)

abbrev pub if : ℕ → Item
if l = Item.action (Action.branch Branching.If l)

abbrev pub define : Header → ℕ → Item
define h n = Item.action (Action.define h n)

abbrev pub mark : ℕ → Item
mark = Item.mark

-- a script and what it gives

pub record Row : Type 0 where
  pub script : Forest Rec
  pub expected : Lists

abbrev pub row : Forest Rec → List Item → Row
row f is = record { script = f; expected = lists (is ∷ []) }

abbrev pub row_of_lists : Forest Rec → List (List Item) → Row
row_of_lists f ls = record { script = f; expected = lists ls }

abbrev pub refused : ℕ → Forest Rec → Row
refused n f = record { script = f; expected = refusal n }

-- the starred scripts

abbrev pub S1 : Row
S1 = row no_tree (pool [] ∷ [])

abbrev pub S2 : Row
S2 = row (one (whole (assign (name "a") (number 80))))
    (pool ("a" ∷ []) ∷ pushes (Constant 0 ∷ Integer 80 ∷ []) ∷ act op.SetVariable ∷ [])

abbrev pub S3 : Row
S3 = row (one (statement StatementKind.While (one (name "b") and block)))
    (pool ("b" ∷ []) ∷ mark 0 ∷ pushes (Constant 0 ∷ []) ∷ act op.GetVariable ∷ act op.Not ∷ if 1 ∷ jump 0 ∷ mark 1 ∷ [])

abbrev pub S4 : Row
S4 = row (one (goto (number 0)) and goto (number 1) and goto (number 2) and goto (number (2 ^ 32 - 1)) and goto (number (2 ^ 31)))
    (pool [] ∷ plain (GotoFrame 0) ∷ plain (GotoFrame 0) ∷ plain (GotoFrame 1) ∷ plain (GotoFrame 65534) ∷ plain (GotoFrame 65535) ∷ [])

abbrev pub S5 : Row
S5 = row (one break) (pool [] ∷ [])

abbrev pub S6 : Row
S6 = row (one (switch (one block and break))) (pool [] ∷ [])

abbrev pub S7 : Row
S7 = refused 6 (one (switch (one default and default)))

abbrev pub S8 : Row
S8 = refused 7 (one (whole (minus (number (2 ^ 31)))))

abbrev pub S9 : Row
S9 = refused 5 (one (whole (assign (name "null") (number 1))))

abbrev pub S10 : Row
S10 = row (one (whole (call (name "f") (one (number 1) and number 2))))
    (pool ("f" ∷ []) ∷ pushes (Integer 2 ∷ Integer 1 ∷ Integer 2 ∷ Constant 0 ∷ []) ∷ act op.CallFunction ∷ act op.Pop ∷ [])

abbrev pub S11 : Row
S11 = row (one (whole (ternary (name "c") (number 1) (number 2))))
    (pool ("c" ∷ []) ∷ pushes (Constant 0 ∷ []) ∷ act op.GetVariable ∷ if 1 ∷ pushes (Integer 2 ∷ []) ∷ jump 0 ∷
    mark 1 ∷ pushes (Integer 1 ∷ []) ∷ mark 0 ∷ act op.Pop ∷ [])

abbrev pub S12 : Row
S12 = row (one (whole (name "_X")))
    (pool ("" ∷ []) ∷ pushes (Constant 0 ∷ Integer 0 ∷ []) ∷ act op.GetProperty ∷ act op.Pop ∷ [])

-- where a port goes astray

-- `f(c ? 1 : 2);`: the count of arguments does not join the push before the ternary's end
abbrev pub across_a_mark : Row
across_a_mark = row (one (whole (call (name "f") (one (ternary (name "c") (number 1) (number 2))))))
    (pool ("c" ∷ "f" ∷ []) ∷ pushes (Constant 0 ∷ []) ∷ act op.GetVariable ∷ if 1 ∷ pushes (Integer 2 ∷ []) ∷ jump 0 ∷
    mark 1 ∷ pushes (Integer 1 ∷ []) ∷ mark 0 ∷ pushes (Integer 1 ∷ Constant 1 ∷ []) ∷ act op.CallFunction ∷ act op.Pop ∷ [])

-- `switch (a) { default: (function () { break; }); break; }`: the function's Break has no label
abbrev pub function_in_switch : Row
function_in_switch = row_of_lists (one (switch (one default and whole (function none 0 0 no_tree (one break)) and break)))
    ((pool [] ∷ jump 1 ∷ mark 1 ∷ define (DefineFunction [] []) 1 ∷ act op.Pop ∷ jump 0 ∷ mark 0 ∷ []) ∷ [] ∷ [])

-- `gotoAndStop("l"); "m";`: the pool has the second string only
abbrev pub goto_label : Row
goto_label = row (one (goto (text "l")) and whole (text "m"))
    (pool ("m" ∷ []) ∷ plain (GotoLabel (bytes "l")) ∷ pushes (Constant 0 ∷ []) ∷ act op.Pop ∷ [])

-- other corners

-- `switch (a) { break; case 1: break; default: case 2: }`: the first Break is skipped, and the tests end in a jump to the default
abbrev pub cases_and_default : Row
cases_and_default = row (one (switch (one break and case (number 1) and break and default and case (number 2))))
    (pool ("a" ∷ []) ∷ pushes (Constant 0 ∷ []) ∷ act op.GetVariable ∷ plain (StoreRegister 0) ∷
    pushes (Integer 1 ∷ []) ∷ act op.StrictEquals ∷ if 1 ∷ pushes (Value.Register 0 ∷ Integer 2 ∷ []) ∷ act op.StrictEquals ∷ if 3 ∷
    jump 2 ∷ mark 1 ∷ jump 0 ∷ mark 2 ∷ mark 3 ∷ mark 0 ∷ [])

-- `1; function g(p) { (function () {}); }`: g goes first, and its list finishes after the one inside it
abbrev pub hoisting : Row
hoisting = row_of_lists
    (one (whole (number 1)) and
    whole (function (some (bytes "g")) 2 5 (one (node (Rec.Parameter (bytes "p") 2) no_tree)) (one (whole (function none 0 0 no_tree no_tree)))))
    ((pool [] ∷ define (DefineFunction2 (bytes "g") (record { name = bytes "p"; register = 1 } ∷ []) 2 5) 2 ∷
    pushes (Integer 1 ∷ []) ∷ act op.Pop ∷ []) ∷
    [] ∷
    (define (DefineFunction [] []) 1 ∷ act op.Pop ∷ []) ∷ [])

-- `for (i = 0; a, b; i++) continue;`
abbrev pub classic_loop : Row
classic_loop = row
    (one (statement (StatementKind.ForIn ForCondition.Classic) (one (whole (assign (name "i") (number 0))) and
    vec (one (name "a") and name "b") and vec (one (increment Postfix (name "i"))) and continue)))
    (pool ("i" ∷ "a" ∷ "b" ∷ []) ∷ pushes (Constant 0 ∷ Integer 0 ∷ []) ∷ act op.SetVariable ∷
    mark 2 ∷ pushes (Constant 1 ∷ []) ∷ act op.GetVariable ∷ act op.Pop ∷ pushes (Constant 2 ∷ []) ∷ act op.GetVariable ∷ act op.Not ∷ if 0 ∷
    jump 1 ∷ mark 1 ∷ pushes (Constant 0 ∷ Constant 0 ∷ []) ∷ act op.GetVariable ∷ act op.Increment ∷ act op.SetVariable ∷ jump 2 ∷ mark 0 ∷ [])

-- `for (var k in o) {}`
abbrev pub for_in_loop : Row
for_in_loop = row (one (for_in "k" true))
    (pool ("o" ∷ "k" ∷ []) ∷ pushes (Constant 0 ∷ []) ∷ act op.GetVariable ∷ act op.Enumerate2 ∷
    mark 1 ∷ plain (StoreRegister 0) ∷ pushes (Null ∷ []) ∷ act op.Equals2 ∷ if 0 ∷
    pushes (Constant 1 ∷ Value.Register 0 ∷ []) ∷ act op.DefineLocal ∷ jump 1 ∷ mark 0 ∷ [])

-- `if (1 && 2) {} else 3;`: the label of the else is made after the condition, which makes one itself
abbrev pub if_else : Row
if_else = row (one (statement StatementKind.If (one (expr (ExprKind.Binary LogicalAnd) (one (number 1) and number 2)) and block and whole (number 3))))
    (pool [] ∷ pushes (Integer 1 ∷ []) ∷ act op.PushDuplicate ∷ act op.Not ∷ if 1 ∷ act op.Pop ∷ pushes (Integer 2 ∷ []) ∷ mark 1 ∷ act op.Not ∷ if 2 ∷
    jump 0 ∷ mark 2 ∷ pushes (Integer 3 ∷ []) ∷ act op.Pop ∷ mark 0 ∷ [])

-- `f(a += 1);`: an assignment whose value is wanted
abbrev pub wanted_value : Row
wanted_value = row (one (whole (call (name "f") (one (expr (ExprKind.Binary AddAssign) (one (name "a") and number 1))))))
    (pool ("a" ∷ "f" ∷ []) ∷ pushes (Constant 0 ∷ Constant 0 ∷ []) ∷ act op.GetVariable ∷ pushes (Integer 1 ∷ []) ∷ act op.Add2 ∷
    plain (StoreRegister 0) ∷ act op.SetVariable ∷ pushes (Value.Register 0 ∷ Integer 1 ∷ Constant 1 ∷ []) ∷ act op.CallFunction ∷ act op.Pop ∷ [])

-- refusal 5 in its other forms
abbrev pub direct_or_property : List Row
direct_or_property = map (refused 5)
    (one (for_in "undefined" false) ∷ one (whole (increment Prefix (number 1))) ∷ one (whole (call (name "_X") no_tree)) ∷
    one (whole (expr ExprKind.New (one (name "_X") and vec no_tree))) ∷ one (whole (expr ExprKind.Delete (one (name "_X")))) ∷ [])

-- `delete _X; -(-2147483648);`: the first refusal in emission order
abbrev pub first_refusal : Row
first_refusal = refused 5 (one (whole (expr ExprKind.Delete (one (name "_X")))) and whole (minus (number (2 ^ 31))))

abbrev pub rows : List Row
rows = S1 ∷ S2 ∷ S3 ∷ S4 ∷ S5 ∷ S6 ∷ S7 ∷ S8 ∷ S9 ∷ S10 ∷ S11 ∷ S12 ∷
    across_a_mark ∷ function_in_switch ∷ goto_label ∷
    cases_and_default ∷ hoisting ∷ classic_loop ∷ for_in_loop ∷ if_else ∷ wanted_value ∷ first_refusal ∷ direct_or_property

-- every script of the table gives what its row says
pub table : map (λ (r : Row). script_to_actions limits01 r.script) rows ≡ map (λ (r : Row). r.expected) rows
unfolding names same to_ascii_lowercase first_from get_special_property ◌>>=◌ ◌>>◌ pure refuse create_label stack_size assume_stack_delta action_with_stack_delta mark_label mark_default push add define_function meanings generate_actions script_to_actions
table = refl

-- the limits: the count of items of a script's top list, or its refusal

abbrev pub many : ℕ → Tree → Forest Rec
many zero t = no_tree
many (suc n) t = many n t and t

abbrev pub size : Lists → ℕ
size (refusal n) = n
size (lists []) = 0
size (lists (l ∷ ls)) = length l

-- `getTime();` has two actions, `stop();` has one; an array of n numbers pushes n + 1 values; an empty switch makes a label
abbrev pub get_time : Tree
get_time = whole (expr (ExprKind.Simple GetTime) no_tree)

abbrev pub stop : Tree
stop = whole (expr (ExprKind.Simple Stop) no_tree)

abbrev pub array : ℕ → Tree
array n = whole (expr ExprKind.InitArray (one (vec (many n (number 7)))))

abbrev pub edges : List (Forest Rec)
edges = (many 511 get_time and stop) ∷ (many 511 get_time and stop and stop) ∷ one (array 2047) ∷ one (array 2048) ∷ many 1024
    (switch no_tree) ∷ many 1025 (switch no_tree) ∷ []

limits : map (λ (f : Forest Rec). size (script_to_actions limits01 f)) edges ≡ 1024 ∷ 8 ∷ 4 ∷ 8 ∷ 1 ∷ 8 ∷ []
unfolding names same to_ascii_lowercase first_from get_special_property ◌>>=◌ ◌>>◌ pure refuse create_label stack_size assume_stack_delta action_with_stack_delta mark_label mark_default push add define_function meanings generate_actions script_to_actions
limits = refl

-- scalars in range are no empty premise
met : InRange (All (λ (b : ℕ). b < 256)) hoisting.script
met = omega arith
