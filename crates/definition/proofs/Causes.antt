-- What a script that lowering refuses has in it.
use Prim.Native.Nat.{ℕ, ◌^◌, ◌<◌, ◌≤◌}
use mathlib.Core.Path.{◌≡◌, refl}
use mathlib.Core.Logic.{◌⊎◌, inl, inr}
use mathlib.Core.List.{List}
use native.Mathlib.Omega.{arith}
use Rattle.hir.specs.declared.UnaryOperator.TheVariants as unary
use Rattle.hir.specs.Hir.{ExprKind, StatementKind, Rec}
use Rattle.hir.specs.Tree.{Forest}
use Rattle.lowering.specs.Builder.{Limits, State}
use Rattle.lowering.specs.Builder as builder
use Rattle.lowering.specs.Meaning.{shape_of, integer, literal, list}
use Rattle.lowering.specs.Statement.{generate_actions}
use Rattle.lowering.proofs.Theorems.Facts.{rec_at, defaults, Cause, second_default, negates_least, Somewhere, here, earlier, below, Full}
use Rattle.definition.specs.Outcome.{refused}
use Rattle.definition.specs.Compile.{statements_of, compile_with}
use Rattle.definition.proofs.Refusals.{lowering_why}

-- a switch whose list has more than one Default
abbrev pub TwoDefaults : Rec → Forest Rec → Type 0
TwoDefaults r kids = (r ≡ Rec.Statement StatementKind.Switch) × (1 < defaults (list 0 kids))

-- the negation of the integer constant -2147483648
abbrev pub NegatesLeast : Rec → Forest Rec → Type 0
NegatesLeast r kids = (r ≡ Rec.Expr (ExprKind.Unary unary.Sub)) × (literal (shape_of (rec_at 0 kids)) ≡ integer (2 ^ 31))

elsewhere : {P Q : Rec → Forest Rec → Type 0} {f : Forest Rec} → ((r : Rec) (kids : Forest Rec) → P r kids → Q r kids) → Somewhere P f → Somewhere Q f
elsewhere g (here {kids = kids} {r = r} q) = here (g r kids q)
elsewhere g (earlier q) = earlier (elsewhere g q)
elsewhere g (below q) = below (elsewhere g q)

cause_6 : (r : Rec) (kids : Forest Rec) → Cause 6 r kids → TwoDefaults r kids
cause_6 r kids (second_default q) = (refl, q)

cause_7 : (r : Rec) (kids : Forest Rec) → Cause 7 r kids → NegatesLeast r kids
cause_7 r kids (negates_least q) = (refl, q)

no_cause_8 : {f : Forest Rec} → Somewhere (Cause 8) f → ⊥
no_cause_8 (here q) = elim q [ ]
no_cause_8 (earlier q) = no_cause_8 q
no_cause_8 (below q) = no_cause_8 q

module _ (lim : Limits) (some_action : 1 ≤ lim.actions) (file : List ℕ) (list_words room : ℕ) where
  some_cause : (n : ℕ) → 5 ≤ n → n ≤ 7 → compile_with lim file list_words room ≡ refused n → Somewhere (Cause n) (statements_of file)
  some_cause n j k e = let x = lowering_why lim file list_words room some_action n j (omega arith) e in go x.0 x.2
    where
      go : (s : State) → Somewhere (Cause n) (statements_of file) ⊎ ((n ≡ 8) × Full lim s) → Somewhere (Cause n) (statements_of file)
      go s (inl q) = q
      go s (inr q) = absurd (omega (arith, q.0))

  -- 5: a direct value is set, or a property deleted, called or constructed
  pub five : compile_with lim file list_words room ≡ refused 5 → Somewhere (Cause 5) (statements_of file)
  five e = some_cause 5 (omega arith) (omega arith) e

  pub six : compile_with lim file list_words room ≡ refused 6 → Somewhere TwoDefaults (statements_of file)
  six e = elsewhere cause_6 (some_cause 6 (omega arith) (omega arith) e)

  pub seven : compile_with lim file list_words room ≡ refused 7 → Somewhere NegatesLeast (statements_of file)
  seven e = elsewhere cause_7 (some_cause 7 (omega arith) (omega arith) e)

  -- 8: the state in which it is given has as many actions, push values or labels as the limit
  pub eight : compile_with lim file list_words room ≡ refused 8 →
      (s : State) × (generate_actions lim (statements_of file) ≡ builder.refused 8 s) × Full lim s
  eight e = let x = lowering_why lim file list_words room some_action 8 (omega arith) (omega arith) e in (x.0, x.1, full 8 refl x.0 x.2)
    where
      full : (n : ℕ) → n ≡ 8 → (s : State) → Somewhere (Cause 8) (statements_of file) ⊎ ((n ≡ 8) × Full lim s) → Full lim s
      full n z s (inl q) = absurd (no_cause_8 q)
      full n z s (inr q) = q.1
