-- Statements as rows: those that are hoisted, and the others.
use Prim.Native.Nat.{ℕ}
use mathlib.Core.Path.{refl}
use mathlib.Core.Bool.{true, false, not}
use Rattle.hir.specs.Tree.{Forest, more}
use Rattle.lowering.specs.Builder.{when}
use Rattle.lowering.specs.Meaning.{Loop, Meaning, hoisted}
use Rattle.lowering.specs.Statement.{gen_those}
use Rattle.codegen_state.proofs.Steps.{after_then}
use Rattle.rows.specs.declared.Each.TheVariants.{Hoisted, Unhoisted}
use Rattle.rows.specs.Rows.{each_of}
use Rattle.rows.specs.Innermost.{Same}

module _ (lp : Loop) (f d : ℕ) where
  pub hoisted_each : (ms : Forest Meaning) → Same (gen_those true lp ms) (each_of Hoisted lp f d ms)
  unfolding each_of
  hoisted_each Forest.none v = refl
  hoisted_each (more ms m kids) v =
      rw (after_then v (gen_those true lp ms) (when (hoisted m.rec kids) (m.gen_statement lp)), after_then v (each_of Hoisted lp f d ms) (when (hoisted m.rec kids) (m.gen_statement lp)), hoisted_each ms v)

  pub others_each : (ms : Forest Meaning) → Same (gen_those false lp ms) (each_of Unhoisted lp f d ms)
  unfolding each_of
  others_each Forest.none v = refl
  others_each (more ms m kids) v =
      rw (after_then v (gen_those false lp ms) (when (not (hoisted m.rec kids)) (m.gen_statement lp)), after_then v (each_of Unhoisted lp f d ms) (when (not (hoisted m.rec kids)) (m.gen_statement lp)), others_each ms v)
