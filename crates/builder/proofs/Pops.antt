-- The loop of pops.
use Prim.Native.Nat.{ℕ, suc, ◌-◌}
use mathlib.Core.Path.{◌≡◌, refl}
use mathlib.Core.List.{List, []}
use Rattle.pcode.specs.declared.Op.TheVariants.{Pop}
use Rattle.lowering.specs.Builder.{action, pops, truncate_stack}
use Rattle.codegen_state.specs.View.{held, after}
use Rattle.codegen_state.specs.Does.{Named}
use Rattle.codegen_state.proofs.Steps.{after_then, after_size, after_done}
use Rattle.builder.specs.declared.builder.CodeBuilder.{CodeBuilder}
use Rattle.builder.specs.Runs.{Keeps, Runs}
use Rattle.builder.proofs.Runs.{keeps_then, kept}

-- of n pops so many are left
pub record PopsInv (n : ℕ) (b0 b : CodeBuilder) (left : ℕ) : Type 0 where
  pub same : (F : List ℕ) → after (held F (tt {0}) b.state b.list.now) (pops left) ≡ after (held F (tt {0}) b0.state b0.list.now) (pops n)
  pub named : (F : List ℕ) → Named F b0.state b0.list.now → Named F b.state b.list.now
  pub keeps : Keeps b0 b

pub pops_hold : (n : ℕ) (b : CodeBuilder) → PopsInv n b b n
pops_hold n b = record { same = λ F. refl; named = λ F x. x; keeps = kept refl }

module _ {n left : ℕ} {b0 b : CodeBuilder} (v : PopsInv n b0 b left) where
  pub pops_again : {next : ℕ} → left ≡ suc next → {b1 : CodeBuilder} → ((F : List ℕ) → Runs F (action Pop) b tt b1) → PopsInv n b0 b1 next
  pops_again {next} e d = record {
    same = λ F. rw ((d F).does.same, ← after_then (held F (tt {0}) b.state b.list.now) (action Pop) (pops next)) (rw e at (v.same F));
    named = λ F x. (d F).does.named (v.named F x);
    keeps = keeps_then v.keeps (d []).keeps;
  }

  pub pops_done : left ≡ 0 → (z : ℕ) → n ≡ b0.state.size - z → (F : List ℕ) → Runs F (truncate_stack z) b0 tt b
  pops_done o z e F = record {
    keeps = v.keeps;
    does = record {
      same = rw (after_size F b0.state b0.list.now (λ now. pops (now - z)), ← e, ← v.same F, o, after_done (held F (tt {0}) b.state b.list.now));
      fine = b.fine;
      named = v.named F;
    };
  }
