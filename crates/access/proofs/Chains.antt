-- What code does in two calls is what their steps do in a row.
use mathlib.Core.List.{List}
use Prim.Native.Nat.{ℕ}
use mathlib.Core.Path.{refl}
use Rattle.lowering.specs.Builder.{M, Step, ◌>>=◌, ◌>>◌, pure, done}
use Rattle.codegen_state.specs.declared.BuilderState.{BuilderState}
use Rattle.codegen_state.specs.Does.{Does}
use Rattle.codegen_state.proofs.Steps.{after_then, after_bind, carry_held, idle, returned}
use Rattle.builder.specs.declared.builder.CodeBuilder.{CodeBuilder}
use Rattle.builder.specs.Runs.{Runs}
use Rattle.builder.proofs.Runs.{keeps_then, kept}

module _ {F : List ℕ} {b b1 r : BuilderState} {w w1 w' : List ℕ} where
  -- a step, and then another
  pub row : {A : Type 0} {a : A} (m : Step) (k : M A) → Does F m b w tt b1 w1 → Does F k b1 w1 a r w' → Does F (m >> k) b w a r w'
  row m k d e = record { same = rw (after_then, ← d.same) e.same; fine = e.fine; named = λ n. e.named (d.named n) }

  -- a step whose value the next one takes
  pub bound : {A B : Type 0} {a : A} {x : B} (m : M A) (k : A → M B) → Does F m b w a b1 w1 → Does F (k a) b1 w1 x r w' → Does F (m >>= k) b w x r w'
  bound {a = a} m k d e = record { same = rw (after_bind, ← d.same, carry_held) e.same; fine = e.fine; named = λ n. e.named (d.named n) }

-- a step that leaves a value
pub leaves : {A : Type 0} {F : List ℕ} {b r : BuilderState} {w w' : List ℕ} (m : Step) (a : A) → Does F m b w tt r w' → Does F (m >> pure a) b w a r w'
leaves m a d = row m (pure a) d (returned d.fine)

-- steps of a builder

module _ {F : List ℕ} {b c d : CodeBuilder} where
  pub runs_row : {A : Type 0} {a : A} (m : Step) (k : M A) → Runs F m b tt c → Runs F k c a d → Runs F (m >> k) b a d
  runs_row m k x y = record { keeps = keeps_then x.keeps y.keeps; does = row m k x.does y.does }

pub runs_idle : {F : List ℕ} {b : CodeBuilder} → Runs F done b tt b
runs_idle {b = b} = record { keeps = kept refl; does = idle b.fine }
