-- A record of the tree (`hir.rs`), its strings resolved to their bytes. Types, spans and scopes are dropped.
use Rattle.std.specs.Prelude.{ℕ, Bool}
use mathlib.Core.List as L
use Rattle.std.proofs.Math.Option.{Option}
use Rattle.hir.specs.declared.BinaryOperator as binary
use Rattle.hir.specs.declared.UnaryOperator as unary
use Rattle.hir.specs.declared.SimpleKind as simple

-- a string is its bytes
abbrev pub Str : Type 0
Str = L.List ℕ

-- a Float is its 64 bits, an Integer its word in two's complement
pub data ConstantKind : Type 0 where
  String Identifier : Str → ConstantKind
  Float Integer : ℕ → ConstantKind
  Boolean : Bool → ConstantKind
  Register : ℕ → ConstantKind

pub data EnumeratorTarget : Type 0 where
  Variable : (name : Str) → (declare : Bool) → EnumeratorTarget
  Register : ℕ → EnumeratorTarget

pub data ForCondition : Type 0 where
  Enumerate : EnumeratorTarget → ForCondition
  Classic : ForCondition

-- Simple: the kinds whose children are generated in order and followed by one action. A function's marks are bits 0 to 8; a property is its word
pub data ExprKind : Type 0 where
  Constant : ConstantKind → ExprKind
  Simple : simple.SimpleKind → ExprKind
  Binary : binary.BinaryOperator → ExprKind
  Unary : unary.UnaryOperator → ExprKind
  Call New DuplicateMovieClip Ternary InitObject InitArray Field Delete Void : ExprKind
  Function : (name : Option Str) → (registers marks : ℕ) → ExprKind
  GotoFrame : (play : Bool) → ExprKind
  StartDrag : (lock : Bool) → ExprKind
  GetProperty SetProperty : (property : ℕ) → ExprKind

pub data StatementKind : Type 0 where
  Declare : (name : Str) → StatementKind
  Return Throw Expr Block : StatementKind
  ForIn : ForCondition → StatementKind
  While If Break Continue Switch : StatementKind

-- Absent stands for a missing optional child, List for a `Vec`; a parameter has its register plus 1, or 0 for none. Other is a record that refusal 3
-- names, or that no kind has
pub data Rec : Type 0 where
  Statement : StatementKind → Rec
  Expr : ExprKind → Rec
  Absent List Case Default Other : Rec
  ObjectField : (key : Str) → Rec
  Parameter : (name : Str) → (register : ℕ) → Rec
