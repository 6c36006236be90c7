-- Every construct keeps the invariant.
use Prim.Native.Nat.{ℕ, zero, suc, ◌+◌, ◌-◌, ◌%◌, ◌^◌, ◌<◌}
use mathlib.Core.Path.{◌≡◌, refl, ap, sym, ◌∙◌}
use mathlib.Core.Logic.{◌⊎◌, inl, inr}
use mathlib.Core.List.Memᴰ
use mathlib.Core.List.{List, [], ◌∷◌, map, Memᴰ}
use mathlib.Core.Option.{Option, none, some, get_or}
use mathlib.Core.Bool.{Bool, true, false, cond, not, ◌&&◌, ◌||◌}
use native.Mathlib.Omega.{arith}
use borrow.Author.Tests.{eqb-true, leb-false}
use lib.Dec.{leb, eqb, lit<}
use lib.ListN.{length}
use Rattle.hir.specs.declared.Affix.{Affix}
use Rattle.hir.specs.declared.UnaryOperator.{UnaryOperator}
use Rattle.hir.specs.declared.UnaryOperator.TheVariants as unary
use Rattle.hir.specs.Hir.{Str, ConstantKind, EnumeratorTarget, ExprKind, Rec}
use Rattle.hir.specs.Tree.{Forest, more}
use Rattle.pcode.specs.declared.Op.{Op}
use Rattle.pcode.specs.declared.Op.TheVariants as op
use Rattle.pcode.specs.Pcode as pcode
use Rattle.pcode.specs.Pcode.{Integer, Float, Param, GotoFrame, row_of, up}
use Rattle.std.specs.Prelude as found
use Rattle.special_properties.specs.SpecialProperties.{names, same_spelling, first_from, get_special_property, null, undefined, same_bytes}
use Rattle.lowering.specs.Builder.{M, Step, Result, ok, refused, bind, ◌>>=◌, ◌>>◌, pure, when, create_label, pops, truncate_stack}
use Rattle.lowering.specs.Access.{Access, Variable, Object, Direct, SpecialProperty, for_name, for_property, for_constant, get_value, set_value, get_and_set_value, delete, call, call_new, ◌gives◌}
use Rattle.lowering.specs.Operators.{Plan, trivial, trivial-not, trivial-assign, assign, logical-and, logical-or}
use Rattle.lowering.specs.Meaning.{Loop, Meaning, missing, kid, list, width, Shape, constant, field, named-function, other, shape, shape_of, Literal, string, integer, float, no_literal, literal, present, param, hoisted}
use Rattle.lowering.specs.Statement
use Rattle.lowering.proofs.Theorems.Facts.{All, ParamOk, HeaderOk, ConstantOk, NameOk, ExprOk, TargetOk, RecOk, name_access, property_access, identifier_access, constant_access, shape_access, access_of_rec}
use Rattle.lowering.proofs.Theorems.Invariant.{Context, Good, Yields, ValueIs}
use Rattle.lowering.proofs.Theorems.Steps.{all_append, good, good_pure, good_refuse, good_bind, good_value, good_then, good_make, good_order, good_plain, good_push, good_push_string, good_stack_size, good_define}

-- ranges that a record gives

abbrev pub ShapeOk : (Str → Type 0) → Shape → Type 0
ShapeOk T (constant c) = ConstantOk T c
ShapeOk T field = Unit
ShapeOk T named-function = Unit
ShapeOk T other = Unit

shape_ok : (T : Str → Type 0) (k : ExprKind) → ExprOk T k → ShapeOk T (shape k)
shape_ok T (ExprKind.Constant c) h = h
shape_ok T ExprKind.Field h = tt
shape_ok T (ExprKind.Function (some n) r m) h = tt
shape_ok T (ExprKind.Function none r m) h = tt
shape_ok T (ExprKind.Simple k) h = tt
shape_ok T (ExprKind.Binary o) h = tt
shape_ok T (ExprKind.Unary o) h = tt
shape_ok T ExprKind.Call h = tt
shape_ok T ExprKind.New h = tt
shape_ok T ExprKind.DuplicateMovieClip h = tt
shape_ok T ExprKind.Ternary h = tt
shape_ok T ExprKind.InitObject h = tt
shape_ok T ExprKind.InitArray h = tt
shape_ok T ExprKind.Delete h = tt
shape_ok T ExprKind.Void h = tt
shape_ok T (ExprKind.GotoFrame p) h = tt
shape_ok T (ExprKind.StartDrag l) h = tt
shape_ok T (ExprKind.GetProperty p) h = tt
shape_ok T (ExprKind.SetProperty p) h = tt

pub rec_shape_ok : (T : Str → Type 0) (r : Rec) → RecOk T r → ShapeOk T (shape_of r)
rec_shape_ok T (Rec.Expr k) h = shape_ok T k h
rec_shape_ok T (Rec.Statement k) h = tt
rec_shape_ok T Rec.Absent h = tt
rec_shape_ok T Rec.List h = tt
rec_shape_ok T Rec.Case h = tt
rec_shape_ok T Rec.Default h = tt
rec_shape_ok T Rec.Other h = tt
rec_shape_ok T (Rec.ObjectField key) h = tt
rec_shape_ok T (Rec.Parameter name r) h = tt

abbrev pub AccessOk : Access → Type 0
AccessOk (Access.Register r) = r < 256
AccessOk Variable = Unit
AccessOk Object = Unit
AccessOk Direct = Unit
AccessOk SpecialProperty = Unit

name_ok : (a b : Bool) → AccessOk (name_access a b)
name_ok true b = tt
name_ok false true = tt
name_ok false false = tt

property_ok : (name : Str) (p : found.Option ℕ) → AccessOk (property_access name p)
property_ok name (found.Some p) = tt
property_ok name found.None = name_ok (same_bytes name null) (same_bytes name undefined)

pub shape_access_ok : (T : Str → Type 0) (s : Shape) → ShapeOk T s → AccessOk (shape_access s)
shape_access_ok T (constant (ConstantKind.Identifier s)) h = property_ok s (get_special_property s)
shape_access_ok T (constant (ConstantKind.Register r)) h = h
shape_access_ok T (constant (ConstantKind.String s)) h = tt
shape_access_ok T (constant (ConstantKind.Float v)) h = tt
shape_access_ok T (constant (ConstantKind.Integer v)) h = tt
shape_access_ok T (constant (ConstantKind.Boolean b)) h = tt
shape_access_ok T field h = tt
shape_access_ok T named-function h = tt
shape_access_ok T other h = tt

abbrev pub LiteralOk : (Str → Type 0) → Literal → Type 0
LiteralOk T (string s) = T s
LiteralOk T (integer v) = Unit
LiteralOk T (float v) = Unit
LiteralOk T no_literal = Unit

pub literal_ok : (T : Str → Type 0) (s : Shape) → ShapeOk T s → LiteralOk T (literal s)
literal_ok T (constant (ConstantKind.String s)) h = h
literal_ok T (constant (ConstantKind.Identifier s)) h = tt
literal_ok T (constant (ConstantKind.Register r)) h = tt
literal_ok T (constant (ConstantKind.Float v)) h = tt
literal_ok T (constant (ConstantKind.Integer v)) h = tt
literal_ok T (constant (ConstantKind.Boolean b)) h = tt
literal_ok T field h = tt
literal_ok T named-function h = tt
literal_ok T other h = tt

param_ok : (T : Str → Type 0) → T [] → (r : Rec) → RecOk T r → ParamOk T (param r)
param_ok T z (Rec.Parameter name r) h = (h.0, omega (arith, h.1))
param_ok T z (Rec.ObjectField key) h = (h, lit< tt)
param_ok T z (Rec.Expr k) h = (z, lit< tt)
param_ok T z (Rec.Statement k) h = (z, lit< tt)
param_ok T z Rec.Absent h = (z, lit< tt)
param_ok T z Rec.List h = (z, lit< tt)
param_ok T z Rec.Case h = (z, lit< tt)
param_ok T z Rec.Default h = (z, lit< tt)
param_ok T z Rec.Other h = (z, lit< tt)

-- a property's number is below 22
first_in : (i : ℕ) (xs : List Str) (name : Str) (p : ℕ) → first_from i xs name ≡ found.Some p → p < i + length xs
unfolding first_from
first_in i [] name p e = let z : ◌≡◌ {A = ℕ} 0 1 = cc in omega arith
first_in i (x ∷ xs) name p e = go (same_spelling name x) e (first_in (suc i) xs name p)
  where
    go : (b : Bool) → cond b (found.Some i) (first_from (suc i) xs name) ≡ found.Some p → (first_from (suc i) xs name ≡ found.Some p → p < suc i + length xs) →
        p < i + suc (length xs)
    go true e h = let q : i ≡ p = cc in omega arith
    go false e h = omega (arith, h e)

property_small : (name : Str) (p : ℕ) → get_special_property name ≡ found.Some p → p < 22
unfolding get_special_property names
property_small name p e = first_in 0 names name p e

-- the values that accesses leave

yields_gives : (m : Step) (a : Access) → Yields (λ (b : Access). b ≡ a) (m gives a)
unfolding ◌>>◌ pure
yields_gives m a = record { run = λ s. go (m s) }
  where
    go : (r : Result (Unit {0})) → ValueIs (λ (b : Access). b ≡ a) (bind r (λ _ s. ok a s))
    go (ok x t) = refl
    go (refused n t) = tt

yields_pure : {a : Access} → Yields (λ (b : Access). b ≡ a) (pure a)
unfolding pure
yields_pure = record { run = λ s. refl }

yields_name : (a b : Bool) (name : Str) → Yields (λ (x : Access). x ≡ name_access a b) (for_name a b name)
yields_name true b name = yields_gives _ _
yields_name false true name = yields_gives _ _
yields_name false false name = yields_gives _ _

yields_property : (name : Str) (p : found.Option ℕ) → Yields (λ (x : Access). x ≡ property_access name p) (for_property name p)
yields_property name (found.Some p) = yields_gives _ _
yields_property name found.None = yields_name (same_bytes name null) (same_bytes name undefined) name

pub yields_constant : (c : ConstantKind) → Yields (λ (x : Access). x ≡ constant_access c) (for_constant c)
yields_constant (ConstantKind.String s) = yields_gives _ _
yields_constant (ConstantKind.Identifier s) = yields_property s (get_special_property s)
yields_constant (ConstantKind.Float v) = yields_gives _ _
yields_constant (ConstantKind.Integer v) = yields_gives _ _
yields_constant (ConstantKind.Boolean v) = yields_gives _ _
yields_constant (ConstantKind.Register r) = yields_pure

pub yields_shape : (s : Shape) (ms : Forest Meaning) (e : Step) → Yields (λ (x : Access). x ≡ shape_access s) (Statement.for_shape s ms e)
yields_shape (constant c) ms e = yields_constant c
yields_shape field ms e = yields_gives _ _
yields_shape named-function ms e = yields_gives _ _
yields_shape other ms e = yields_gives _ _

abbrev pub Within : List ℕ → Option ℕ → Type 0
Within O none = Unit
Within O (some l) = Memᴰ l O

pub within_tail : (O : List ℕ) (l : ℕ) (o : Option ℕ) → Within O o → Within (l ∷ O) o
within_tail O l none h = tt
within_tail O l (some x) h = Memᴰ.tail h

pub record Fine (K : Context) (m : Meaning) : Type 0 where
  pub in_range_lem : K.ranges → RecOk K.text m.rec
  pub expr_good : {O : List ℕ} (d : Bool) → Good K O [] (m.gen_expr d)
  pub access_good : {O : List ℕ} → Good K O [] m.for_expr
  pub access_is : Yields (λ (a : Access). a ≡ access_of_rec m.rec) m.for_expr
  pub statement_good : {O : List ℕ} (loop : Loop) → Within O loop.break_label → Within O loop.continue_label →
      Good K O [] (m.gen_statement loop)

-- all the trees, and no row of 2^32 of them
pub data AllFine (K : Context) : Forest Meaning → Type 0 where
  no_tree : AllFine K Forest.none
  one_more : {before kids : Forest Meaning} {m : Meaning} → AllFine K before → Fine K m → (K.ranges → width kids < 2 ^ 32) → AllFine K kids →
      AllFine K (more before m kids)

module _ {K : Context} where
  missing_fine : Fine K missing
  missing_fine = record {
    in_range_lem = λ r. tt;
    expr_good = λ d. good_pure tt;
    access_good = search good;
    access_is = yields_gives _ _;
    statement_good = λ loop b c. good_pure tt;
  }

  pub kid_fine : (n : ℕ) {ms : Forest Meaning} → AllFine K ms → Fine K (kid n ms)
  kid_fine n no_tree = missing_fine
  kid_fine zero (one_more b m w k) = m
  kid_fine (suc n) (one_more b m w k) = kid_fine n b

  pub list_fine : (n : ℕ) {ms : Forest Meaning} → AllFine K ms → AllFine K (list n ms)
  list_fine n no_tree = no_tree
  list_fine zero (one_more b m w k) = k
  list_fine (suc n) (one_more b m w k) = list_fine n b

  pub list_width : (n : ℕ) {ms : Forest Meaning} → AllFine K ms → K.ranges → width (list n ms) < 2 ^ 32
  list_width n no_tree = λ r. lit< tt
  list_width zero (one_more b m w k) = w
  list_width (suc n) (one_more b m w k) = list_width n b

  module _ {O : List ℕ} where
    good_pops : (n : ℕ) → Good K O [] (pops n)
    good_pops zero = search good
    good_pops (suc n) = good_then (search good) (good_pops n)

    good_truncate : (n : ℕ) → Good K O [] (truncate_stack n)
    good_truncate n = search (good, good_pops)

    pub good_when : (b : Bool) (m : Step) → Good K O [] m → Good K O [] (when b m)
    good_when true m h = h
    good_when false m h = search good

    -- access.rs

    good_name : (a b : Bool) (name : Str) → (K.ranges → K.text name) → Good K O [] (for_name a b name)
    good_name true b name h = search good
    good_name false true name h = search good
    good_name false false name h = search good

    good_property : (name : Str) (p : found.Option ℕ) → get_special_property name ≡ p → (K.ranges → K.text name) → Good K O [] (for_property name p)
    good_property name (found.Some p) e h =
        let no_name : K.ranges → K.text [] = K.empty in
        let small : K.ranges → p < 2 ^ 32 = λ r. omega (arith, property_small name p e) in
        search good
    good_property name found.None e h = good_name (same_bytes name null) (same_bytes name undefined) name h

    pub good_constant : (c : ConstantKind) → (K.ranges → ConstantOk K.text c) → Good K O [] (for_constant c)
    good_constant (ConstantKind.String s) h = search good
    good_constant (ConstantKind.Identifier s) h = good_property s (get_special_property s) refl h
    good_constant (ConstantKind.Float v) h = search good
    good_constant (ConstantKind.Integer v) h = search good
    good_constant (ConstantKind.Boolean true) h = search good
    good_constant (ConstantKind.Boolean false) h = search good
    good_constant (ConstantKind.Register r) h = search good

    pub good_get : (a : Access) → (K.ranges → AccessOk a) → Good K O [] (get_value a)
    good_get Variable h = search good
    good_get Object h = search good
    good_get Direct h = search good
    good_get SpecialProperty h = search good
    good_get (Access.Register r) h = search good

    good_set : (a : Access) → (K.ranges → AccessOk a) → (a ≡ Direct → K.cause 5) → Good K O [] (set_value a)
    good_set Variable h p = search good
    good_set Object h p = search good
    good_set Direct h p = good_refuse 5 (p refl)
    good_set SpecialProperty h p = search good
    good_set (Access.Register r) h p = search good

    good_get_and_set : (a : Access) → (K.ranges → AccessOk a) → (a ≡ Direct → K.cause 5) → Good K O [] (get_and_set_value a)
    good_get_and_set Variable h p = search good
    good_get_and_set Object h p = search good
    good_get_and_set Direct h p = good_refuse 5 (p refl)
    good_get_and_set SpecialProperty h p = search good
    good_get_and_set (Access.Register r) h p = search good

    pub good_delete : (a : Access) → (K.ranges → AccessOk a) → (a ≡ SpecialProperty → K.cause 5) → Good K O [] (delete a)
    good_delete Variable h p = search good
    good_delete Object h p = search good
    good_delete Direct h p = search good
    good_delete SpecialProperty h p = good_refuse 5 (p refl)
    good_delete (Access.Register r) h p = search good

    good_call : (n : ℕ) (a : Access) → (K.ranges → AccessOk a) → (a ≡ SpecialProperty → K.cause 5) → Good K O [] (call n a)
    good_call n Variable h p = search good
    good_call n Object h p = search good
    good_call n Direct h p = search good
    good_call n SpecialProperty h p = good_refuse 5 (p refl)
    good_call n (Access.Register r) h p = search good

    good_call_new : (n : ℕ) (a : Access) → (K.ranges → AccessOk a) → (a ≡ SpecialProperty → K.cause 5) → Good K O [] (call_new n a)
    good_call_new n Variable h p = search good
    good_call_new n Object h p = search good
    good_call_new n Direct h p = search good
    good_call_new n SpecialProperty h p = good_refuse 5 (p refl)
    good_call_new n (Access.Register r) h p = search good

    -- a child as an access
    pub good_access : {F : List ℕ} {B : Type 0} {m : Meaning} {f : Access → M B} → Fine K m →
        ((a : Access) → a ≡ access_of_rec m.rec → (K.ranges → AccessOk a) → Good K O F (f a)) → Good K O F (m.for_expr >>= f)
    good_access {m = m} x g = good_value x.access_good x.access_is
        (λ a e. g a e (λ r. rw e (shape_access_ok K.text (shape_of m.rec) (rec_shape_ok K.text m.rec (x.in_range_lem r)))))

    good_assign : (d : Bool) (a : Access) → (K.ranges → AccessOk a) → (a ≡ Direct → K.cause 5) → Good K O [] (Statement.assign_value d a)
    good_assign true a h p = good_set a h p
    good_assign false a h p = good_get_and_set a h p

    -- statement.rs

    pub good_jump_to : (o : Option ℕ) → Within O o → Good K O [] (Statement.jump_to o)
    good_jump_to none h = search good
    good_jump_to (some l) h = search good

    pub good_discarded : {e : Meaning} → Fine K e → Good K O [] (Statement.discarded e)
    good_discarded x = search (good, x.expr_good, good_pops) depth 8

    pub good_exprs : {ms : Forest Meaning} → AllFine K ms → Good K O [] (Statement.exprs ms)
    good_exprs no_tree = search good
    good_exprs (one_more b m w k) = good_then (good_exprs b) (m.expr_good false)

    good_exprs_reversed : {ms : Forest Meaning} → AllFine K ms → Good K O [] (Statement.exprs_reversed ms)
    good_exprs_reversed no_tree = search good
    good_exprs_reversed (one_more b m w k) = good_then (m.expr_good false) (good_exprs_reversed b)

    good_all_discarded : {ms : Forest Meaning} → AllFine K ms → Good K O [] (Statement.all_discarded ms)
    good_all_discarded no_tree = search good
    good_all_discarded (one_more b m w k) = good_then (good_all_discarded b) (good_discarded m)

    module _ (loop : Loop) (b : Within O loop.break_label) (c : Within O loop.continue_label) where
      good_those : (h : Bool) {ms : Forest Meaning} → AllFine K ms → Good K O [] (Statement.gen_those h loop ms)
      good_those true no_tree = search good
      good_those false no_tree = search good
      good_those true (one_more {kids = ks} {m = s} ms m w k) = good_then (good_those true ms)
          (good_when (hoisted s.rec ks) (s.gen_statement loop) (m.statement_good loop b c))
      good_those false (one_more {kids = ks} {m = s} ms m w k) = good_then (good_those false ms)
          (good_when (not (hoisted s.rec ks)) (s.gen_statement loop) (m.statement_good loop b c))

      pub good_statements : {ms : Forest Meaning} → AllFine K ms → Good K O [] (Statement.gen_statements loop ms)
      good_statements ms = search (good, good_those)

      pub good_block : {ms : Forest Meaning} → AllFine K ms → Good K O [] (Statement.gen_block loop ms)
      good_block ms = good_bind good_stack_size (λ size. good_then (good_statements ms) (good_truncate size))

    pub good_values : (o : Op) {ms : Forest Meaning} → AllFine K ms → Good K O [] (Statement.gen_values ms o)
    good_values o no_tree = search good
    good_values o (one_more b m w k) = good_then (good_exprs (one_more b m w k)) (search good)

    pub good_declaration : (name : Str) → (K.ranges → K.text name) → (b : Bool) {v : Meaning} → Fine K v →
        Good K O [] (Statement.gen_declaration name v b)
    good_declaration name h true x = search (good, x.expr_good)
    good_declaration name h false x = search good

    good_target : (t : EnumeratorTarget) → (K.ranges → TargetOk K.text t) →
        ((name : Str) → t ≡ EnumeratorTarget.Variable name false → identifier_access name ≡ Direct → K.cause 5) →
        Good K O [] (Statement.gen_target t)
    good_target (EnumeratorTarget.Variable name true) h p = search good
    good_target (EnumeratorTarget.Variable name false) h p =
        good_value (good_property name (get_special_property name) refl h) (yields_property name (get_special_property name))
        (λ a e. good_then (search good)
        (good_set a (λ r. rw e (property_ok name (get_special_property name))) (λ q. p name refl (sym e ∙ q))))
    good_target (EnumeratorTarget.Register r) h p = search good

    good_condition : (end : ℕ) → Memᴰ end O → {ms : Forest Meaning} → AllFine K ms → Good K O [] (Statement.gen_condition end ms)
    good_condition end h no_tree = search good
    good_condition end h (one_more b m w k) = search (good, good_all_discarded, m.expr_good) depth 8

    pub good_trivial : (o : Op) {ms : Forest Meaning} → AllFine K ms → Good K O [] (Statement.gen_trivial o ms)
    good_trivial o ms = good_then (good_exprs ms) (search good)

    good_adjust : {e : Meaning} (o : Op) (affix : Affix) (d : Bool) → Fine K e → (access_of_rec e.rec ≡ Direct → K.cause 5) →
        Good K O [] (Statement.adjust_in_place e o affix d)
    good_adjust {e} o affix d x p =
        good_then (good_when (not d && not (Statement.is_prefix affix)) (e.for_expr >>= get_value) (good_access x (λ a q h. good_get a h)))
        (good_access x (λ _ q h. good_access x (λ a q h. good_then (good_get a h)
        (good_then (good_plain (pcode.op o) (row_of o).delta (λ r. tt))
        (good_assign (d || not (Statement.is_prefix affix)) a h (λ r. p (sym q ∙ r)))))))

    good_negate : (v : ℕ) (b : Bool) → eqb v (2 ^ 31) ≡ b → (v ≡ 2 ^ 31 → K.cause 7) → Good K O [] (Statement.negate_integer v b)
    good_negate v true e p = good_refuse 7 (p (eqb-true v (2 ^ 31) e))
    good_negate v false e p = good_push (Integer ((2 ^ 32 - v) % 2 ^ 32)) (λ r. omega arith)

    good_negated : {e : Meaning} (l : Literal) → Fine K e → (l ≡ integer (2 ^ 31) → K.cause 7) → Good K O [] (Statement.gen_negated e l)
    good_negated (integer v) x p = good_negate v (eqb v (2 ^ 31)) refl (λ q. p (ap integer q))
    good_negated (float v) x p = good_push (Float ((v + 2 ^ 63) % 2 ^ 64)) (λ r. omega arith)
    good_negated (string s) x p = search (good, x.expr_good)
    good_negated no_literal x p = search (good, x.expr_good)

    good_arguments : {ms : Forest Meaning} → (K.ranges → width ms < 2 ^ 32) → AllFine K ms → Good K O [] (Statement.gen_arguments ms)
    good_arguments w ms = search (good, good_exprs_reversed)

    pub good_gen_call : {name : Meaning} {ms : Forest Meaning} → Fine K name → (K.ranges → width ms < 2 ^ 32) → AllFine K ms →
        (access_of_rec name.rec ≡ SpecialProperty → K.cause 5) → Good K O [] (Statement.gen_call name ms)
    good_gen_call x w ms p = good_then (good_arguments w ms) (good_access x (λ a e h. good_call _ a h (λ q. p (sym e ∙ q))))

    pub good_gen_new : {name : Meaning} {ms : Forest Meaning} → Fine K name → (K.ranges → width ms < 2 ^ 32) → AllFine K ms →
        (access_of_rec name.rec ≡ SpecialProperty → K.cause 5) → Good K O [] (Statement.gen_new name ms)
    good_gen_new x w ms p = good_then (good_arguments w ms) (good_access x (λ a e h. good_call_new _ a h (λ q. p (sym e ∙ q))))

    pub good_duplicate : {a b c : Meaning} → Fine K a → Fine K b → Fine K c → Good K O [] (Statement.gen_duplicate a b c)
    good_duplicate x y z = search (good, x.expr_good, y.expr_good, z.expr_good) depth 12

    pub good_goto_frame : {e : Meaning} (play : Bool) (l : Literal) → (K.ranges → LiteralOk K.text l) → Fine K e →
        Good K O [] (Statement.gen_goto_frame e play l)
    good_goto_frame play (string s) h x = search (good, good_when)
    good_goto_frame play (integer zero) h x = search (good, good_when)
    good_goto_frame play (integer (suc n)) h x = good_then (good_plain (GotoFrame (n % 2 ^ 16)) (up 0) (λ r. omega arith))
        (search (good, good_when))
    good_goto_frame play (float v) h x = search (good, x.expr_good)
    good_goto_frame play no_literal h x = search (good, x.expr_good)

    pub good_drag : {t : Meaning} (lock : Bool) {ms : Forest Meaning} → Fine K t → AllFine K ms → Good K O [] (Statement.gen_start_drag t lock ms)
    good_drag true x no_tree = search (good, x.expr_good) depth 8
    good_drag false x no_tree = search (good, x.expr_good) depth 8
    good_drag true x (one_more b m w k) = good_then (good_exprs (one_more b m w k)) (search (good, x.expr_good) depth 8)
    good_drag false x (one_more b m w k) = good_then (good_exprs (one_more b m w k)) (search (good, x.expr_good) depth 8)

-- constructs with labels

module _ {K : Context} where
  good_logical_and : {O : List ℕ} {ms : Forest Meaning} → AllFine K ms → (d : Bool) → Good K O [] (Statement.gen_binary_op logical-and ms d)
  good_logical_and ms d = good_make (λ end n. search (good, (kid_fine 1 ms).expr_good, (kid_fine 0 ms).expr_good) depth 20)

  good_logical_or : {O : List ℕ} {ms : Forest Meaning} → AllFine K ms → (d : Bool) → Good K O [] (Statement.gen_binary_op logical-or ms d)
  good_logical_or ms d = good_make (λ end n. search (good, (kid_fine 1 ms).expr_good, (kid_fine 0 ms).expr_good) depth 20)

  pub good_ternary : {O : List ℕ} {c y n : Meaning} → Fine K c → Fine K y → Fine K n → Good K O [] (Statement.gen_ternary c y n)
  good_ternary c y n = good_make (λ end _. good_make (λ yes' a. search (good, c.expr_good, y.expr_good, n.expr_good) depth 20))

  -- two labels, the first made of which is marked first
  good_make2 : {O : List ℕ} {B : Type 0} {f : ℕ → ℕ → M B} → ((a b : ℕ) → (Memᴰ a (b ∷ []) → ⊥) → Good K (b ∷ a ∷ O) (a ∷ b ∷ []) (f a b)) →
      Good K O [] (create_label >>= λ a. create_label >>= λ b. f a b)
  good_make2 g = good_make (λ a _. good_make (λ b n. good_order (b ∷ a ∷ []) (λ l q. swap l (Memᴰ.cases_cons q))
      (λ l q. swap l (Memᴰ.cases_cons q))
      (g a b (λ q. n (Memᴰ.head (sym (Memᴰ.eq_of_singleton q)))))))
    where
      swap : {a b : ℕ} (l : ℕ) → (l ≡ a) ⊎ Memᴰ l (b ∷ []) → Memᴰ l (b ∷ a ∷ [])
      swap l (inl e) = Memᴰ.tail (Memᴰ.head e)
      swap l (inr q) = Memᴰ.head (Memᴰ.eq_of_singleton q)

  pub good_while : {O : List ℕ} {c b : Meaning} → Fine K c → Fine K b → Good K O [] (Statement.gen_while_loop c b)
  good_while c b = good_make2 (λ start end n. search (good, c.expr_good, b.statement_good) depth 20)

  pub good_enumerate : {O : List ℕ} (t : EnumeratorTarget) {x b : Meaning} → (K.ranges → TargetOk K.text t) →
      ((name : Str) → t ≡ EnumeratorTarget.Variable name false → identifier_access name ≡ Direct → K.cause 5) →
      Fine K x → Fine K b → Good K O [] (Statement.gen_enumerate t x b)
  good_enumerate t h p x b = good_bind good_stack_size (λ size. good_make
      (λ end _. good_make (λ next n. search (good, x.expr_good, b.statement_good, good_target, good_truncate) depth 30)))

  pub good_classic : {O : List ℕ} {i b : Meaning} {cs us : Forest Meaning} → Fine K i → AllFine K cs → AllFine K us → Fine K b →
      Good K O [] (Statement.gen_classic i cs us b)
  good_classic {i = i} {b = b} x cs us y = good_bind good_stack_size (λ size. good_make (λ end _. good_make (λ next m.
      good_then (good_when (present i.rec) (i.gen_statement (record { break_label = some end; continue_label = some next }))
      (search (good, x.statement_good)))
      (good_make (λ start n. search (good, good_condition, good_all_discarded, y.statement_good, good_truncate) depth 30)))))

  module _ (loop : Loop) where
    good_branches : {O : List ℕ} (end : ℕ) {y n : Meaning} (b : Bool) → Memᴰ end O → Within O loop.break_label →
        Within O loop.continue_label → Fine K y → Fine K n →
        Good K O [] (Statement.gen_branches loop end y n b)
    good_branches end true h b c y n = good_make (λ l m. search (good, y.statement_good, n.statement_good, within_tail) depth 20)
    good_branches end false h b c y n = search (good, y.statement_good)

    pub good_gen_if : {O : List ℕ} {c y n : Meaning} → Within O loop.break_label → Within O loop.continue_label → Fine K c → Fine K y →
        Fine K n → Good K O [] (Statement.gen_if loop c y n)
    good_gen_if b k c y n = good_make (λ end m. search (good, c.expr_good, good_branches, within_tail) depth 20)

  pub good_binary : {O : List ℕ} (p : Plan) {ms : Forest Meaning} (d : Bool) → AllFine K ms →
      (p ≡ assign → access_of_rec (kid 1 ms).rec ≡ Direct → K.cause 5) →
      ((o : Op) → p ≡ trivial-assign o → access_of_rec (kid 1 ms).rec ≡ Direct → K.cause 5) → Good K O [] (Statement.gen_binary_op p ms d)
  good_binary (trivial o) d x p q = good_trivial o x
  good_binary (trivial-not o) d x p q = good_then (good_trivial o x) (search good)
  good_binary (trivial-assign o) d x p q = good_access (kid_fine 1 x) (λ a e h. good_then (good_trivial o x)
      (good_assign d a h (λ r. q o refl (sym e ∙ r))))
  good_binary assign d x p q = good_access (kid_fine 1 x) (λ a e h. good_then ((kid_fine 0 x).expr_good false)
      (good_assign d a h (λ r. p refl (sym e ∙ r))))
  good_binary logical-and d x p q = good_logical_and x d
  good_binary logical-or d x p q = good_logical_or x d

  pub good_unary : {O : List ℕ} (o : UnaryOperator) {e : Meaning} (d : Bool) → Fine K e →
      (o ≡ unary.Sub → literal (shape_of e.rec) ≡ integer (2 ^ 31) → K.cause 7) →
      ((affix : Affix) → (o ≡ unary.Increment affix) ⊎ (o ≡ unary.Decrement affix) → access_of_rec e.rec ≡ Direct → K.cause 5) →
      Good K O [] (Statement.gen_unary_op o e d)
  good_unary unary.Sub {e = e} d x p q = good_negated (literal (shape_of e.rec)) x (p refl)
  good_unary unary.Add d x p q = x.expr_good d
  good_unary unary.BitNot d x p q = search (good, x.expr_good)
  good_unary unary.LogicalNot d x p q = search (good, x.expr_good)
  good_unary (unary.Increment affix) d x p q = good_adjust op.Increment affix d x (q affix (inl refl))
  good_unary (unary.Decrement affix) d x p q = good_adjust op.Decrement affix d x (q affix (inr refl))

  good_fields : {O : List ℕ} {ms : Forest Meaning} → AllFine K ms → Good K O [] (Statement.gen_fields ms)
  good_fields no_tree = search good
  good_fields (one_more {m = f} ms m w k) = good_then (good_then (good_fields ms)
      (good_push_string (param f.rec).name (λ r. (param_ok K.text (K.empty r) f.rec (m.in_range_lem r)).0))) (m.expr_good false)

  pub good_init_object : {O : List ℕ} {ms : Forest Meaning} → (K.ranges → width ms < 2 ^ 32) → AllFine K ms →
      Good K O [] (Statement.gen_init_object ms)
  good_init_object w ms = good_then (good_fields ms) (search good)

  pub good_init_array : {O : List ℕ} {ms : Forest Meaning} → (K.ranges → width ms < 2 ^ 32) → AllFine K ms →
      Good K O [] (Statement.gen_init_array ms)
  good_init_array w ms = good_then (good_arguments w ms) (search good)

all_params : {K : Context} {ms : Forest Meaning} → AllFine K ms → K.ranges → All (ParamOk K.text) (Statement.params ms)
all_params no_tree z = tt
all_params {K} (one_more {before = ps} {m = p} ms m w k) z = all_append (ParamOk K.text) (Statement.params ps) (param p.rec) (all_params ms z)
    (param_ok K.text (K.empty z) p.rec (m.in_range_lem z))

param_names_lem : (T : Str → Type 0) (ps : List Param) → All (ParamOk T) ps → All T (map (λ (p : Param). p.name) ps)
param_names_lem T [] h = tt
param_names_lem T (p ∷ ps) h = (h.0.0, param_names_lem T ps h.1)

header_ok : (T : Str → Type 0) (name : Str) (r m : ℕ) (ps : List Param) (b : Bool) → leb r 1 ≡ b → T name → r < 256 → m < 512 → All (ParamOk T) ps →
    HeaderOk T (Statement.header name r m ps b)
header_ok T name r m ps true e n h k p = (n, param_names_lem T ps p)
header_ok T name r m ps false e n h k p = (n, p, leb-false r 1 e, h, k)

pub name_str : (T : Str → Type 0) → T [] → (n : Option Str) → NameOk T n → T (get_or n [])
name_str T z none h = z
name_str T z (some s) h = h

pub good_function : {K : Context} {O : List ℕ} (name : Str) (r m : ℕ) {ps ms : Forest Meaning} → (K.ranges → K.text name × (r < 256) × (m < 512)) →
    AllFine K ps → AllFine K ms →
    Good K O [] (Statement.gen_function name r m ps ms)
good_function {K} name r m {ps} h x y =
    good_define (Statement.header name r m (Statement.params ps) (leb r 1))
    (λ z. header_ok K.text name r m (Statement.params ps) (leb r 1) refl (h z).0 (h z).1 (h z).2 (all_params x z)) _
    (good_statements Statement.no_loop tt tt y)
