-- `statement.rs` and `script_to_actions`: what each record generates, from what its children generate.
-- Children are counted from the last, `kid 0`; a list's trees are taken apart from the last one too.
use Rattle.std.specs.Prelude.{ℕ, zero, suc, ◌+◌, ◌-◌, ◌%◌, ◌^◌, List, [], ◌∷◌, ◌++◌, map, reverse, Bool, true, false, not, ◌&&◌, ◌||◌, leb, eqb, drop}
use Rattle.std.proofs.Math.Option.{Option, none, some, get_or}
use Rattle.hir.specs.declared.Affix.{Affix}
use Rattle.hir.specs.declared.Affix.TheVariants.{Prefix, Postfix}
use Rattle.hir.specs.declared.UnaryOperator.{UnaryOperator}
use Rattle.hir.specs.declared.UnaryOperator.TheVariants as unary
use Rattle.hir.specs.Hir.{Str, EnumeratorTarget, ForCondition, ExprKind, StatementKind, Rec}
use Rattle.hir.specs.Tree.{Forest, more}
use Rattle.pcode.specs.declared.Op.{Op}
use Rattle.pcode.specs.declared.Op.TheVariants.{Add2, BitXor, CloneSprite, Decrement, DefineLocal, DefineLocal2, Enumerate2, Equals2, GetProperty, Increment, InitArray, InitObject, Not, Play, Pop, PushDuplicate, Return, SetProperty, StartDrag, StrictEquals, Subtract, Throw}
use Rattle.pcode.specs.Pcode.{Value, Null, Undefined, Integer, Float, Param, Header, DefineFunction, DefineFunction2, Branching, Action, Item, op, ConstantPool, GotoFrame, GotoFrame2, GotoLabel, up, down}
use Rattle.lowering.specs.Builder.{M, Step, State, Result, ok, refused, Limits, ◌>>=◌, ◌>>◌, pure, refuse, done, when, create_label, stack_size, assume_stack_delta, action_with_stack_delta, plain_action, mark_label, mark_default, action, push, push_string, truncate_stack, define_function}
use Rattle.lowering.specs.Access.{Access, Direct, Object, ◌gives◌, store_register, for_identifier, for_constant, get_value, set_value, get_and_set_value, delete, call_new, call}
use Rattle.lowering.specs.Operators.{Plan, trivial, trivial-not, trivial-assign, assign, logical-and, logical-or, plan, simple_action}
use Rattle.lowering.specs.Meaning.{Loop, Meaning, kid, list, width, Shape, shape_of, Literal, string, integer, float, no_literal, literal, present, param, Element, element, hoisted}

abbrev pub jump : ℕ → Step
jump l = action_with_stack_delta (Action.branch Branching.Jump l) (up 0)

abbrev pub branch : ℕ → Step
branch l = action_with_stack_delta (Action.branch Branching.If l) (down 1)

abbrev pub no_loop : Loop
no_loop = record { break_label = none; continue_label = none }

abbrev pub jump_to : Option ℕ → Step
jump_to (some l) = jump l
jump_to none = done

-- a value, and an expression for its effect
abbrev pub expr : Meaning → Step
expr e = e.gen_expr false

abbrev pub discarded : Meaning → Step
discarded e = do
  size ← stack_size
  e.gen_expr true
  truncate_stack size

-- expressions first to last, last to first, and for their effects
abbrev pub exprs : Forest Meaning → Step
exprs Forest.none = done
exprs (more es e kids) = exprs es >> expr e

abbrev pub exprs_reversed : Forest Meaning → Step
exprs_reversed Forest.none = done
exprs_reversed (more es e kids) = expr e >> exprs_reversed es

abbrev pub all_discarded : Forest Meaning → Step
all_discarded Forest.none = done
all_discarded (more es e kids) = all_discarded es >> discarded e

-- statements

-- those that are hoisted, or the others
abbrev pub gen_those : Bool → Loop → Forest Meaning → Step
gen_those true loop Forest.none = done
gen_those false loop Forest.none = done
gen_those true loop (more ss s kids) = gen_those true loop ss >> when (hoisted s.rec kids) (s.gen_statement loop)
gen_those false loop (more ss s kids) = gen_those false loop ss >> when (not (hoisted s.rec kids)) (s.gen_statement loop)

abbrev pub gen_statements : Loop → Forest Meaning → Step
gen_statements loop statements = gen_those true loop statements >> gen_those false loop statements

abbrev pub gen_block : Loop → Forest Meaning → Step
gen_block loop statements = do
  size ← stack_size
  gen_statements loop statements
  truncate_stack size

-- Return and Throw
abbrev pub gen_values : Forest Meaning → Op → Step
gen_values Forest.none o = push Undefined >> action o
gen_values (more es e kids) o = exprs (more es e kids) >> action o

abbrev pub gen_declaration : Str → Meaning → Bool → Step
gen_declaration name value true = push_string name >> expr value >> action DefineLocal
gen_declaration name value false = push_string name >> action DefineLocal2

-- a switch's elements, the last one first, with a label for each Case and Default
pub data SwitchElement : Type 0 where
  Case : (label : ℕ) → Meaning → SwitchElement
  Default : (label : ℕ) → SwitchElement
  Statement : Meaning → SwitchElement

abbrev pub with_label : Meaning → Element → M SwitchElement
with_label m Element.case = create_label >>= λ l. pure (Case l m)
with_label m Element.default = create_label >>= λ l. pure (Default l)
with_label m Element.statement = pure (Statement m)

abbrev pub with_labels : Forest Meaning → M (List SwitchElement)
with_labels Forest.none = pure []
with_labels (more ms m kids) = do
  xs ← with_labels ms
  x ← with_label m (element m.rec)
  pure (x ∷ xs)

abbrev pub has_case : List SwitchElement → Bool
has_case [] = false
has_case (Case l v ∷ xs) = true
has_case (Default l ∷ xs) = has_case xs
has_case (Statement s ∷ xs) = has_case xs

abbrev pub has_default : List SwitchElement → Bool
has_default [] = false
has_default (Case l v ∷ xs) = has_default xs
has_default (Default l ∷ xs) = true
has_default (Statement s ∷ xs) = has_default xs

-- the last Default's label, else the break label
abbrev pub default_label : ℕ → List SwitchElement → ℕ
default_label end [] = end
default_label end (Case l v ∷ xs) = default_label end xs
default_label end (Default l ∷ xs) = l
default_label end (Statement s ∷ xs) = default_label end xs

abbrev pub gen_conditionals : List SwitchElement → Step
gen_conditionals [] = done
gen_conditionals (Case label value ∷ xs) = do
  gen_conditionals xs
  when (has_case xs) (push (Value.Register 0))
  expr value
  action StrictEquals
  branch label
gen_conditionals (Default label ∷ xs) = gen_conditionals xs
gen_conditionals (Statement s ∷ xs) = gen_conditionals xs

-- statements before the first Case or Default are skipped; every Default marks the one label
abbrev pub gen_elements : Loop → ℕ → List SwitchElement → Step
gen_elements loop default [] = done
gen_elements loop default (Case label value ∷ xs) = gen_elements loop default xs >> mark_label label
gen_elements loop default (Default label ∷ xs) = gen_elements loop default xs >> mark_default default
gen_elements loop default (Statement s ∷ xs) = gen_elements loop default xs >> when (has_case xs || has_default xs) (s.gen_statement loop)

abbrev pub gen_cases : Loop → Meaning → ℕ → List SwitchElement → Step
gen_cases loop target end-switch xs = do
  when (has_case xs) (expr target >> store_register 0 >> gen_conditionals xs)
  jump (default_label end-switch xs)
  gen_elements (record { break_label = some end-switch; continue_label = loop.continue_label }) (default_label end-switch xs) xs
  mark_label end-switch

abbrev pub gen_switch : Loop → Meaning → Forest Meaning → Step
gen_switch loop target elements = do
  end-switch ← create_label
  xs ← with_labels elements
  when (has_case xs || has_default xs) (gen_cases loop target end-switch xs)

abbrev pub gen_while_loop : Meaning → Meaning → Step
gen_while_loop condition body = do
  start-while ← create_label
  end-while ← create_label
  mark_label start-while
  expr condition
  action Not
  branch end-while
  body.gen_statement (record { break_label = some end-while; continue_label = some start-while })
  jump start-while
  mark_label end-while

abbrev pub gen_target : EnumeratorTarget → Step
gen_target (EnumeratorTarget.Variable name true) = push_string name >> push (Value.Register 0) >> action DefineLocal
gen_target (EnumeratorTarget.Variable name false) = do
  access ← for_identifier name
  push (Value.Register 0)
  set_value access
gen_target (EnumeratorTarget.Register r) = push (Value.Register 0) >> store_register r >> action Pop

-- the last condition decides
abbrev pub gen_condition : ℕ → Forest Meaning → Step
gen_condition end Forest.none = done
gen_condition end (more es e kids) = all_discarded es >> expr e >> action Not >> branch end

-- the two halves of `gen_for_loop`
abbrev pub gen_enumerate : EnumeratorTarget → Meaning → Meaning → Step
gen_enumerate target object body = do
  size ← stack_size
  end-each ← create_label
  next-each ← create_label
  expr object
  action Enumerate2
  mark_label next-each
  store_register 0
  push Null
  action Equals2
  branch end-each
  gen_target target
  body.gen_statement (record { break_label = some end-each; continue_label = some next-each })
  jump next-each
  truncate_stack size
  mark_label end-each

abbrev pub gen_classic : Meaning → Forest Meaning → Forest Meaning → Meaning → Step
gen_classic initialize condition update body = do
  size ← stack_size
  end-for ← create_label
  next-for ← create_label
  let loop : Loop = record { break_label = some end-for; continue_label = some next-for }
  when (present initialize.rec) (initialize.gen_statement loop)
  start-for ← create_label
  mark_label start-for
  gen_condition end-for condition
  body.gen_statement loop
  mark_label next-for
  all_discarded update
  jump start-for
  truncate_stack size
  mark_label end-for

abbrev pub gen_for_loop : ForCondition → Forest Meaning → Step
gen_for_loop (ForCondition.Enumerate target) ms = gen_enumerate target (kid 1 ms) (kid 0 ms)
gen_for_loop ForCondition.Classic ms = gen_classic (kid 3 ms) (list 2 ms) (list 1 ms) (kid 0 ms)

abbrev pub gen_branches : Loop → ℕ → Meaning → Meaning → Bool → Step
gen_branches loop end yes' no' true = do
  no_label ← create_label
  branch no_label
  yes'.gen_statement loop
  jump end
  mark_label no_label
  no'.gen_statement loop
gen_branches loop end yes' no' false = branch end >> yes'.gen_statement loop

abbrev pub gen_if : Loop → Meaning → Meaning → Meaning → Step
gen_if loop condition yes' no' = do
  end-if ← create_label
  expr condition
  action Not
  gen_branches loop end-if yes' no' (present no'.rec)
  mark_label end-if

abbrev pub gen_statement : StatementKind → Forest Meaning → Loop → Step
gen_statement (StatementKind.Declare name) ms loop = gen_declaration name (kid 0 ms) (present (kid 0 ms).rec)
gen_statement StatementKind.Return ms loop = gen_values (list 0 ms) Return
gen_statement StatementKind.Throw ms loop = gen_values (list 0 ms) Throw
gen_statement StatementKind.Expr ms loop = discarded (kid 0 ms)
gen_statement StatementKind.Block ms loop = gen_block loop (list 0 ms)
gen_statement (StatementKind.ForIn condition) ms loop = gen_for_loop condition ms
gen_statement StatementKind.While ms loop = gen_while_loop (kid 1 ms) (kid 0 ms)
gen_statement StatementKind.If ms loop = gen_if loop (kid 2 ms) (kid 1 ms) (kid 0 ms)
gen_statement StatementKind.Break ms loop = jump_to loop.break_label
gen_statement StatementKind.Continue ms loop = jump_to loop.continue_label
gen_statement StatementKind.Switch ms loop = gen_switch loop (kid 1 ms) (list 0 ms)

-- expressions

-- an assignment whose value is discarded, or wanted
abbrev pub assign_value : Bool → Access → Step
assign_value true access = set_value access
assign_value false access = get_and_set_value access

abbrev pub gen_trivial : Op → Forest Meaning → Step
gen_trivial o ms = exprs ms >> action o

abbrev pub gen_binary_op : Plan → Forest Meaning → Bool → Step
gen_binary_op (trivial o) ms discard = gen_trivial o ms
gen_binary_op (trivial-not o) ms discard = gen_trivial o ms >> action Not
gen_binary_op (trivial-assign o) ms discard = do
  access ← (kid 1 ms).for_expr
  gen_trivial o ms
  assign_value discard access
gen_binary_op assign ms discard = do
  access ← (kid 1 ms).for_expr
  expr (kid 0 ms)
  assign_value discard access
gen_binary_op logical-and ms discard = do
  end_and ← create_label
  expr (kid 1 ms)
  action PushDuplicate
  action Not
  branch end_and
  action Pop
  expr (kid 0 ms)
  mark_label end_and
gen_binary_op logical-or ms discard = do
  end-or ← create_label
  expr (kid 1 ms)
  action PushDuplicate
  branch end-or
  action Pop
  expr (kid 0 ms)
  mark_label end-or

abbrev pub is_prefix : Affix → Bool
is_prefix Prefix = true
is_prefix Postfix = false

-- a postfix operator leaves the old value, a prefix operator the new one
abbrev pub adjust_in_place : Meaning → Op → Affix → Bool → Step
adjust_in_place e o affix discard = do
  when (not discard && not (is_prefix affix)) (e.for_expr >>= get_value)
  _ ← e.for_expr
  access ← e.for_expr
  get_value access
  action o
  assign_value (discard || not (is_prefix affix)) access

-- -2147483648 has no negative
abbrev pub negate_integer : ℕ → Bool → Step
negate_integer v true = refuse 7
negate_integer v false = push (Integer ((2 ^ 32 - v) % 2 ^ 32))

abbrev pub gen_negated : Meaning → Literal → Step
gen_negated e (integer v) = negate_integer v (eqb v (2 ^ 31))
gen_negated e (float v) = push (Float ((v + 2 ^ 63) % 2 ^ 64))
gen_negated e (string s) = push (Integer 0) >> expr e >> action Subtract
gen_negated e no_literal = push (Integer 0) >> expr e >> action Subtract

-- BitNot: `u32::MAX as f64`
abbrev pub gen_unary_op : UnaryOperator → Meaning → Bool → Step
gen_unary_op unary.Sub e discard = gen_negated e (literal (shape_of e.rec))
gen_unary_op unary.Add e discard = e.gen_expr discard
gen_unary_op unary.BitNot e discard = expr e >> push (Float 0x41EF_FFFF_FFE0_0000) >> action BitXor
gen_unary_op unary.LogicalNot e discard = expr e >> action Not
gen_unary_op (unary.Increment affix) e discard = adjust_in_place e Increment affix discard
gen_unary_op (unary.Decrement affix) e discard = adjust_in_place e Decrement affix discard

abbrev pub gen_ternary : Meaning → Meaning → Meaning → Step
gen_ternary condition yes' no' = do
  end-ternary ← create_label
  yes-label ← create_label
  expr condition
  branch yes-label
  expr no'
  jump end-ternary
  mark_label yes-label
  expr yes'
  mark_label end-ternary
  assume_stack_delta (down 1)

abbrev pub gen_arguments : Forest Meaning → Step
gen_arguments args = exprs_reversed args >> push (Integer (width args))

abbrev pub gen_call : Meaning → Forest Meaning → Step
gen_call name args = gen_arguments args >> (name.for_expr >>= call (width args))

abbrev pub gen_new : Meaning → Forest Meaning → Step
gen_new name args = gen_arguments args >> (name.for_expr >>= call_new (width args))

abbrev pub gen_fields : Forest Meaning → Step
gen_fields Forest.none = done
gen_fields (more fs f kids) = gen_fields fs >> push_string (param f.rec).name >> expr f

abbrev pub gen_init_object : Forest Meaning → Step
gen_init_object fields = do
  gen_fields fields
  push (Integer (width fields))
  plain_action (op InitObject) (down (width fields + width fields))

abbrev pub gen_init_array : Forest Meaning → Step
gen_init_array values = gen_arguments values >> plain_action (op InitArray) (down (width values))

abbrev pub gen_duplicate : Meaning → Meaning → Meaning → Step
gen_duplicate source target depth = do
  expr source
  expr target
  push (Integer 16384)
  expr depth
  action Add2
  action CloneSprite

-- a GotoFrame's number
abbrev pub frame : ℕ → ℕ
frame zero = 0
frame (suc n) = n % 2 ^ 16

abbrev pub gen_goto_frame : Meaning → Bool → Literal → Step
gen_goto_frame e play (string s) = plain_action (GotoLabel s) (up 0) >> when play (action Play)
gen_goto_frame e play (integer n) = plain_action (GotoFrame (frame n)) (up 0) >> when play (action Play)
gen_goto_frame e play (float v) = expr e >> plain_action (GotoFrame2 play) (down 1)
gen_goto_frame e play no_literal = expr e >> plain_action (GotoFrame2 play) (down 1)

abbrev pub bit : Bool → ℕ
bit true = 1
bit false = 0

abbrev pub gen_start_drag : Meaning → Bool → Forest Meaning → Step
gen_start_drag target lock Forest.none = do
  push (Integer 0)
  push (Integer (bit lock))
  expr target
  plain_action (op StartDrag) (down 3)
gen_start_drag target lock (more cs c kids) = do
  exprs (more cs c kids)
  push (Integer 1)
  push (Integer (bit lock))
  expr target
  plain_action (op StartDrag) (down 7)

abbrev pub params : Forest Meaning → List Param
params Forest.none = []
params (more ps p kids) = params ps ++ (param p.rec ∷ [])

abbrev pub header : Str → ℕ → ℕ → List Param → Bool → Header
header name registers marks ps true = DefineFunction name (map (λ (p : Param). p.name) ps)
header name registers marks ps false = DefineFunction2 name ps registers marks

-- a body starts with no label to break or continue to
abbrev pub gen_function : Str → ℕ → ℕ → Forest Meaning → Forest Meaning → Step
gen_function name registers marks ps body = define_function (header name registers marks (params ps) (leb registers 1)) (gen_statements no_loop body)

abbrev pub gen_expr : ExprKind → Forest Meaning → Bool → Step
gen_expr (ExprKind.Constant c) ms discard = for_constant c >>= get_value
gen_expr (ExprKind.Simple k) ms discard = gen_trivial (simple_action k) ms
gen_expr (ExprKind.Binary o) ms discard = gen_binary_op (plan o) ms discard
gen_expr (ExprKind.Unary o) ms discard = gen_unary_op o (kid 0 ms) discard
gen_expr ExprKind.Call ms discard = gen_call (kid 1 ms) (list 0 ms)
gen_expr ExprKind.New ms discard = gen_new (kid 1 ms) (list 0 ms)
gen_expr ExprKind.DuplicateMovieClip ms discard = gen_duplicate (kid 2 ms) (kid 1 ms) (kid 0 ms)
gen_expr ExprKind.Ternary ms discard = gen_ternary (kid 2 ms) (kid 1 ms) (kid 0 ms)
gen_expr ExprKind.InitObject ms discard = gen_init_object (list 0 ms)
gen_expr ExprKind.InitArray ms discard = gen_init_array (list 0 ms)
gen_expr ExprKind.Field ms discard = exprs ms >> get_value Object
gen_expr ExprKind.Delete ms discard = (kid 0 ms).for_expr >>= delete
gen_expr ExprKind.Void ms discard = done
gen_expr (ExprKind.Function name registers marks) ms discard = gen_function (get_or name []) registers marks (list 1 ms) (list 0 ms)
gen_expr (ExprKind.GotoFrame play) ms discard = gen_goto_frame (kid 0 ms) play (literal (shape_of (kid 0 ms).rec))
gen_expr (ExprKind.StartDrag lock) ms discard = gen_start_drag (kid 1 ms) lock (list 0 ms)
gen_expr (ExprKind.GetProperty p) ms discard = expr (kid 0 ms) >> push (Integer p) >> action GetProperty
gen_expr (ExprKind.SetProperty p) ms discard = expr (kid 1 ms) >> push (Integer p) >> expr (kid 0 ms) >> action SetProperty

-- `for_expr`
abbrev pub for_shape : Shape → Forest Meaning → Step → M Access
for_shape (Shape.constant c) ms e = for_constant c
for_shape Shape.field ms e = exprs ms gives Object
for_shape Shape.named-function ms e = e gives Direct
for_shape Shape.other ms e = e gives Direct

-- a Case and an object field stand for their value; a file's rules put no other record in an expression's or a statement's place
abbrev pub expr_of : Rec → Forest Meaning → Bool → Step
expr_of (Rec.Expr k) ms discard = gen_expr k ms discard
expr_of Rec.Case ms discard = (kid 0 ms).gen_expr discard
expr_of (Rec.ObjectField key) ms discard = (kid 0 ms).gen_expr discard
expr_of (Rec.Statement k) ms discard = done
expr_of Rec.Absent ms discard = done
expr_of Rec.List ms discard = done
expr_of Rec.Default ms discard = done
expr_of Rec.Other ms discard = done
expr_of (Rec.Parameter name r) ms discard = done

abbrev pub statement_of : Rec → Forest Meaning → Loop → Step
statement_of (Rec.Statement k) ms loop = gen_statement k ms loop
statement_of (Rec.Expr k) ms loop = done
statement_of Rec.Absent ms loop = done
statement_of Rec.List ms loop = done
statement_of Rec.Case ms loop = done
statement_of Rec.Default ms loop = done
statement_of Rec.Other ms loop = done
statement_of (Rec.ObjectField key) ms loop = done
statement_of (Rec.Parameter name r) ms loop = done

abbrev pub meaning : Rec → Forest Meaning → Meaning
meaning r ms = record {
  rec = r;
  gen_expr = expr_of r ms;
  for_expr = for_shape (shape_of r) ms (expr_of r ms false);
  gen_statement = statement_of r ms;
}

abbrev pub above : Forest Meaning → Rec → Forest Meaning → Forest Meaning
above before r kids = more before (meaning r kids) kids

unfoldable pub meanings : Forest Rec → Forest Meaning
meanings Forest.none = Forest.none
meanings (more before r kids) = above (meanings before) r (meanings kids)

-- as2_codegen.rs

abbrev pub pool : List Str → Item
pool strings = Item.action (Action.plain (ConstantPool strings))

-- the pool's place is kept, as action 1
abbrev pub start : Limits → State
start limits = record {
  limits = limits;
  labels = [];
  actions = 1;
  values = 0;
  constants = [];
  tag_length = 2;
  lists = [];
  builder = record { items = pool [] ∷ []; size = 0 };
}

-- the statements of a script: the children of the file's root
unfoldable pub generate_actions : Limits → Forest Rec → Result (Unit {0})
generate_actions limits statements = gen_statements no_loop (meanings statements) (start limits)

-- the top list and the functions' lists, numbered as they finish, each in order; or the refusal
pub data Lists : Type 0 where
  lists : List (List Item) → Lists
  refusal : ℕ → Lists

abbrev pub with_pool : List Str → List Item → List Item
with_pool strings items = pool strings ∷ drop 1 items

abbrev pub finish : Result (Unit {0}) → Lists
finish (ok a s) = lists (with_pool s.constants (reverse s.builder.items) ∷ map reverse s.lists)
finish (refused n s) = refusal n

unfoldable pub script_to_actions : Limits → Forest Rec → Lists
script_to_actions limits statements = finish (generate_actions limits statements)
