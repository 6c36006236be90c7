-- What the theorems say of a list, of a state and of a tree.
use Prim.Native.Nat.{ℕ, suc, ◌+◌, ◌^◌, ◌<◌, ◌≤◌}
use mathlib.Core.Path.{◌≡◌}
use mathlib.Core.Logic.{◌⊎◌}
use mathlib.Core.List.{List, [], ◌∷◌, ◌++◌, Memᴰ}
use mathlib.Core.Option.{Option, none, some}
use mathlib.Core.Bool.{Bool, true, false}
use lib.Dec.{eqb}
use lib.ListN.{length}
use Rattle.hir.specs.declared.Affix.{Affix}
use Rattle.hir.specs.declared.BinaryOperator.{BinaryOperator}
use Rattle.hir.specs.declared.UnaryOperator.TheVariants as unary
use Rattle.hir.specs.Hir.{Str, ConstantKind, EnumeratorTarget, ForCondition, ExprKind, StatementKind, Rec}
use Rattle.hir.specs.Tree.{Forest, more}
use Rattle.pcode.specs.declared.Op.{Op}
use Rattle.pcode.specs.Pcode.{Value, Null, Undefined, True, False, String, Integer, Float, Constant, Param, Header, DefineFunction, DefineFunction2, Plain, op, ConstantPool, StoreRegister, GotoFrame, GotoFrame2, GotoLabel, Action, Item}
use Rattle.std.specs.Prelude as found
use Rattle.special_properties.specs.SpecialProperties.{get_special_property, null, undefined, same_bytes}
use Rattle.lowering.specs.Builder.{State, Limits}
use Rattle.lowering.specs.Access.{Access, Variable, Object, Direct, SpecialProperty}
use Rattle.lowering.specs.Operators.{trivial-assign, assign, plan}
use Rattle.lowering.specs.Meaning.{Shape, constant, field, named-function, other, shape_of, integer, literal, nth, list, width, Element, case, default, statement, element}

abbrev pub All : {A : Type 0} → (A → Type 0) → List A → Type 0
All Q [] = Unit
All Q (x ∷ xs) = Q x × All Q xs

-- branches and marks of a list

abbrev pub label_of_item : Item → List ℕ
label_of_item (Item.action (Action.branch b l)) = l ∷ []
label_of_item (Item.action (Action.plain p)) = []
label_of_item (Item.action (Action.push vs)) = []
label_of_item (Item.action (Action.define h n)) = []
label_of_item (Item.mark l) = []

abbrev pub branches : List Item → List ℕ
branches [] = []
branches (i ∷ is) = label_of_item i ++ branches is

-- how often a label is marked
abbrev pub counted : Bool → ℕ → ℕ
counted true n = suc n
counted false n = n

abbrev pub count : ℕ → List Item → ℕ
count x [] = 0
count x (Item.action a ∷ is) = count x is
count x (Item.mark l ∷ is) = counted (eqb l x) (count x is)

-- every Jump and If names a label that its own list marks at exactly one place
abbrev pub Closed : List Item → Type 0
Closed l = (x : ℕ) → Memᴰ x (branches l) → count x l ≡ 1

-- actions and values of a list, and of lists

-- every Jump and If names a label below this number
abbrev pub LabelsBelow : ℕ → List Item → Type 0
LabelsBelow n l = (x : ℕ) → Memᴰ x (branches l) → x < n

abbrev pub is_action : Item → ℕ
is_action (Item.action a) = 1
is_action (Item.mark l) = 0

abbrev pub pushed_by : Item → ℕ
pushed_by (Item.action (Action.push vs)) = length vs
pushed_by (Item.action (Action.plain p)) = 0
pushed_by (Item.action (Action.branch b l)) = 0
pushed_by (Item.action (Action.define h n)) = 0
pushed_by (Item.mark l) = 0

abbrev pub sum : {A : Type 0} → (A → ℕ) → List A → ℕ
sum f [] = 0
sum f (x ∷ xs) = sum f xs + f x

abbrev pub actions_in : List (List Item) → ℕ
actions_in = sum (sum is_action)

abbrev pub values_in : List (List Item) → ℕ
values_in = sum (sum pushed_by)

-- the functions of a list

abbrev pub function_list : Item → Option ℕ
function_list (Item.action (Action.define h n)) = some n
function_list (Item.action (Action.plain p)) = none
function_list (Item.action (Action.push vs)) = none
function_list (Item.action (Action.branch b l)) = none
function_list (Item.mark l) = none

-- the list at a place, from 0
pub data At (l : List Item) : List (List Item) → ℕ → Type 0 where
  here : {ls : List (List Item)} → At l (l ∷ ls) 0
  there : {k : List Item} {ls : List (List Item)} {n : ℕ} → At l ls n → At l (k ∷ ls) (suc n)

-- numbered as they finish: from n finished lists to m, a list names each as it finishes
pub data Goes (ls : List (List Item)) : ℕ → List Item → ℕ → Type 0 where
  stop : {n : ℕ} → Goes ls n [] n
  plain : {i : Item} {is : List Item} {n m : ℕ} → function_list i ≡ none → Goes ls n is m → Goes ls n (i ∷ is) m
  function : {i : Item} {is l : List Item} {n m k : ℕ} → function_list i ≡ some (suc k) → At l ls k →
      Goes ls n l k → Goes ls (suc k) is m → Goes ls n (i ∷ is) m

-- ranges

-- T: what holds of every string of the tree, and of the empty one; k: the pool's length
abbrev pub ValueOk : (Str → Type 0) → ℕ → Value → Type 0
ValueOk T k Null = Unit
ValueOk T k Undefined = Unit
ValueOk T k True = Unit
ValueOk T k False = Unit
ValueOk T k (String s) = T s
ValueOk T k (Integer n) = n < 2 ^ 32
ValueOk T k (Float n) = n < 2 ^ 64
ValueOk T k (Value.Register r) = r < 256
ValueOk T k (Constant i) = i < k

abbrev pub ParamOk : (Str → Type 0) → Param → Type 0
ParamOk T p = T p.name × (p.register < 256)

abbrev pub HeaderOk : (Str → Type 0) → Header → Type 0
HeaderOk T (DefineFunction name ps) = T name × All T ps
HeaderOk T (DefineFunction2 name ps r m) = T name × All (ParamOk T) ps × (1 < r) × (r < 256) × (m < 512)

-- a pool stands only where the top list begins
abbrev pub PlainOk : (Str → Type 0) → Plain → Type 0
PlainOk T (op o) = Unit
PlainOk T (ConstantPool ss) = ⊥
PlainOk T (StoreRegister r) = r < 256
PlainOk T (GotoFrame n) = n < 2 ^ 16
PlainOk T (GotoFrame2 p) = Unit
PlainOk T (GotoLabel s) = T s

abbrev pub ItemOk : (Str → Type 0) → ℕ → Item → Type 0
ItemOk T k (Item.action (Action.plain p)) = PlainOk T p
ItemOk T k (Item.action (Action.push vs)) = (0 < length vs) × All (ValueOk T k) vs
ItemOk T k (Item.action (Action.branch b l)) = Unit
ItemOk T k (Item.action (Action.define h n)) = HeaderOk T h
ItemOk T k (Item.mark l) = Unit

-- a pool's strings, each with its zero byte, and 2 for their number
abbrev pub tag_of : List Str → ℕ
tag_of ss = sum (λ (s : Str). length s + 1) ss + 2

-- scalars of a tree in their ranges

abbrev pub ConstantOk : (Str → Type 0) → ConstantKind → Type 0
ConstantOk T (ConstantKind.String s) = T s
ConstantOk T (ConstantKind.Identifier s) = T s
ConstantOk T (ConstantKind.Float v) = v < 2 ^ 64
ConstantOk T (ConstantKind.Integer v) = v < 2 ^ 32
ConstantOk T (ConstantKind.Boolean b) = Unit
ConstantOk T (ConstantKind.Register r) = r < 256

abbrev pub NameOk : (Str → Type 0) → Option Str → Type 0
NameOk T none = Unit
NameOk T (some s) = T s

abbrev pub ExprOk : (Str → Type 0) → ExprKind → Type 0
ExprOk T (ExprKind.Constant c) = ConstantOk T c
ExprOk T (ExprKind.Function name r m) = NameOk T name × (r < 256) × (m < 512)
ExprOk T (ExprKind.GetProperty p) = p < 2 ^ 32
ExprOk T (ExprKind.SetProperty p) = p < 2 ^ 32
ExprOk T (ExprKind.Simple k) = Unit
ExprOk T (ExprKind.Binary o) = Unit
ExprOk T (ExprKind.Unary o) = Unit
ExprOk T ExprKind.Call = Unit
ExprOk T ExprKind.New = Unit
ExprOk T ExprKind.DuplicateMovieClip = Unit
ExprOk T ExprKind.Ternary = Unit
ExprOk T ExprKind.InitObject = Unit
ExprOk T ExprKind.InitArray = Unit
ExprOk T ExprKind.Field = Unit
ExprOk T ExprKind.Delete = Unit
ExprOk T ExprKind.Void = Unit
ExprOk T (ExprKind.GotoFrame p) = Unit
ExprOk T (ExprKind.StartDrag l) = Unit

abbrev pub TargetOk : (Str → Type 0) → EnumeratorTarget → Type 0
TargetOk T (EnumeratorTarget.Variable name declare) = T name
TargetOk T (EnumeratorTarget.Register r) = r < 256

abbrev pub ForOk : (Str → Type 0) → ForCondition → Type 0
ForOk T (ForCondition.Enumerate t) = TargetOk T t
ForOk T ForCondition.Classic = Unit

abbrev pub StatementOk : (Str → Type 0) → StatementKind → Type 0
StatementOk T (StatementKind.Declare name) = T name
StatementOk T (StatementKind.ForIn c) = ForOk T c
StatementOk T StatementKind.Return = Unit
StatementOk T StatementKind.Throw = Unit
StatementOk T StatementKind.Expr = Unit
StatementOk T StatementKind.Block = Unit
StatementOk T StatementKind.While = Unit
StatementOk T StatementKind.If = Unit
StatementOk T StatementKind.Break = Unit
StatementOk T StatementKind.Continue = Unit
StatementOk T StatementKind.Switch = Unit

abbrev pub RecOk : (Str → Type 0) → Rec → Type 0
RecOk T (Rec.Expr k) = ExprOk T k
RecOk T (Rec.Statement k) = StatementOk T k
RecOk T (Rec.ObjectField key) = T key
RecOk T (Rec.Parameter name r) = T name × (r ≤ 256)
RecOk T Rec.Absent = Unit
RecOk T Rec.List = Unit
RecOk T Rec.Case = Unit
RecOk T Rec.Default = Unit
RecOk T Rec.Other = Unit

-- and no row of 2^32 trees
abbrev pub InRange : (Str → Type 0) → Forest Rec → Type 0
InRange T Forest.none = Unit
InRange T (more before r kids) = InRange T before × RecOk T r × (width kids < 2 ^ 32) × InRange T kids

-- what a refusal needs in the tree

-- how an identifier, a constant and an expression are reached
abbrev pub name_access : Bool → Bool → Access
name_access true u = Direct
name_access false true = Direct
name_access false false = Variable

abbrev pub property_access : Str → found.Option ℕ → Access
property_access name (found.Some p) = SpecialProperty
property_access name found.None = name_access (same_bytes name null) (same_bytes name undefined)

abbrev pub identifier_access : Str → Access
identifier_access name = property_access name (get_special_property name)

abbrev pub constant_access : ConstantKind → Access
constant_access (ConstantKind.Identifier s) = identifier_access s
constant_access (ConstantKind.Register r) = Access.Register r
constant_access (ConstantKind.String s) = Direct
constant_access (ConstantKind.Float v) = Direct
constant_access (ConstantKind.Integer v) = Direct
constant_access (ConstantKind.Boolean b) = Direct

abbrev pub shape_access : Shape → Access
shape_access (constant c) = constant_access c
shape_access field = Object
shape_access named-function = Direct
shape_access other = Direct

abbrev pub access_of_rec : Rec → Access
access_of_rec r = shape_access (shape_of r)

-- the child n places before the last
abbrev pub rec_at : ℕ → Forest Rec → Rec
rec_at n f = nth Rec.Absent n f

abbrev pub is_default : Element → ℕ
is_default default = 1
is_default case = 0
is_default statement = 0

abbrev pub defaults : Forest Rec → ℕ
defaults Forest.none = 0
defaults (more before r kids) = defaults before + is_default (element r)

-- a record, with its children, that can be refused with a number
pub data Cause : ℕ → Rec → Forest Rec → Type 0 where
  sets_direct : {o : BinaryOperator} {kids : Forest Rec} → plan o ≡ assign → access_of_rec (rec_at 1 kids) ≡ Direct →
      Cause 5 (Rec.Expr (ExprKind.Binary o)) kids
  sets_direct_by : {o : BinaryOperator} {a : Op} {kids : Forest Rec} → plan o ≡ trivial-assign a → access_of_rec (rec_at 1 kids) ≡ Direct →
      Cause 5 (Rec.Expr (ExprKind.Binary o)) kids
  increments_direct : {affix : Affix} {kids : Forest Rec} → access_of_rec (rec_at 0 kids) ≡ Direct →
      Cause 5 (Rec.Expr (ExprKind.Unary (unary.Increment affix))) kids
  decrements_direct : {affix : Affix} {kids : Forest Rec} → access_of_rec (rec_at 0 kids) ≡ Direct →
      Cause 5 (Rec.Expr (ExprKind.Unary (unary.Decrement affix))) kids
  enumerates_direct : {name : Str} {kids : Forest Rec} → identifier_access name ≡ Direct →
      Cause 5 (Rec.Statement (StatementKind.ForIn (ForCondition.Enumerate (EnumeratorTarget.Variable name false)))) kids
  deletes_property : {kids : Forest Rec} → access_of_rec (rec_at 0 kids) ≡ SpecialProperty → Cause 5 (Rec.Expr ExprKind.Delete) kids
  calls_property : {kids : Forest Rec} → access_of_rec (rec_at 1 kids) ≡ SpecialProperty → Cause 5 (Rec.Expr ExprKind.Call) kids
  constructs_property : {kids : Forest Rec} → access_of_rec (rec_at 1 kids) ≡ SpecialProperty → Cause 5 (Rec.Expr ExprKind.New) kids
  second_default : {kids : Forest Rec} → 1 < defaults (list 0 kids) → Cause 6 (Rec.Statement StatementKind.Switch) kids
  negates_least : {kids : Forest Rec} → literal (shape_of (rec_at 0 kids)) ≡ integer (2 ^ 31) → Cause 7 (Rec.Expr (ExprKind.Unary unary.Sub)) kids

-- some record of the trees, with its children
pub data Somewhere (Q : Rec → Forest Rec → Type 0) : Forest Rec → Type 0 where
  here : {f kids : Forest Rec} {r : Rec} → Q r kids → Somewhere Q (more f r kids)
  earlier : {f kids : Forest Rec} {r : Rec} → Somewhere Q f → Somewhere Q (more f r kids)
  below : {f kids : Forest Rec} {r : Rec} → Somewhere Q kids → Somewhere Q (more f r kids)

-- one of the three counts stands at its limit
abbrev pub Full : Limits → State → Type 0
Full limits s = (s.actions ≡ limits.actions) ⊎ ((s.values ≡ limits.values) ⊎ (length s.labels ≡ limits.labels))
