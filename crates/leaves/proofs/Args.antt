-- Arguments, from the last to the first, one expression at a time.
use Prim.Native.Nat.{ℕ, ◌-◌, ◌<◌}
use mathlib.Core.Path.{◌≡◌, refl, sym, ap, ◌∙◌}
use mathlib.Core.Bool.{Bool, false}
use mathlib.Core.List.{List}
use native.Mathlib.Omega.{arith}
use lib.Dec.{T}
use lib.ListN.{length}
use Rattle.std.specs.Prelude.{IsSome}
use Rattle.hir.specs.declared.ConstantKind.{ConstantKind}
use Rattle.hir.specs.declared.ExprKind.{ExprKind}
use Rattle.hir.specs.declared.ExprKind.TheVariants as expr-kind
use Rattle.hir.specs.declared.Record.TheVariants as kind
use Rattle.pcode.specs.Pcode.{Integer}
use Rattle.script_records.specs.declared.layout.Layout.{Layout}
use Rattle.script_records.specs.declared.layout.Row.{Row}
use Rattle.script_records.specs.declared.part.Part.{Part}
use Rattle.script_records.specs.Layout.{words_of, rows_of, row_in, layout_of, string_at}
use Rattle.script_records.specs.Parts.{last_tree}
use Rattle.decode.specs.Decode.{constant_of, record_of}
use Rattle.script.specs.Rules as rules
use Rattle.script.specs.Resolve.{resolved, expr_over}
use Rattle.lowering.specs.Builder.{◌>>◌, push}
use Rattle.lowering.specs.Meaning.{Meaning, width}
use Rattle.lowering.specs.Statement.{meanings, expr, exprs_reversed, expr_of, gen_expr, gen_arguments}
use Rattle.lowering.proofs.Laws.{width_law}
use Rattle.codegen_state.specs.declared.BuilderState.{BuilderState}
use Rattle.codegen_state.specs.View.{Held, held, after}
use Rattle.codegen_state.specs.Does.{Fine, Does}
use Rattle.codegen_state.proofs.Steps.{after_then, after_done, stays}
use Rattle.tree.specs.declared.Node.{Node}
use Rattle.tree.specs.Trees.{trees, rec_of, node_of, kind_at}
use Rattle.tree.specs.Within.{Within, IsNode, constant_named, meanings_at, kid_at}
use Rattle.tree.proofs.Nodes.{is_node, node_made, trees_more, trees_none}
use Rattle.tree.proofs.ByKind.{last_kind}
use Rattle.tree.proofs.Meanings.{kid_zero}
use Rattle.rows.proofs.Passed.{void_root}
use Rattle.leaves.specs.Args.{Args}
use Rattle.leaves.proofs.Constants.{Reads}

-- what a part's last tree generates as an expression
module _ {F : List ℕ} {l : Layout} {p : Part} {t : Node Part} (n : IsNode F l p t) where
  pub expr_any : (d : Bool) → (kid_at F p 0).gen_expr d ≡ expr_of (rec_of F t.root) (meanings_at F t.children) d
  expr_any d = ap (λ (m : Meaning). m.gen_expr d) (kid_zero F l p n)

  pub expr_at : {k : ExprKind} (d : Bool) → t.root ≡ kind.Expr k → (kid_at F p 0).gen_expr d ≡ gen_expr (expr_over (string_at F (layout_of F)) k) (meanings_at F t.children) d
  unfolding resolved
  expr_at d e = expr_any d ∙ rw e

pub args_holds : (F : List ℕ) (l : Layout) (w : List ℕ) (p : Part) (b : BuilderState) → Within F l p → Fine b w → Args F l w p b w p b
args_holds F l w p b i f = record { same = refl; fine = f; named = λ n. n; within = i; fewer = omega arith; list = refl }

-- no trees, before the first of a part
pub before_all : {F : List ℕ} {l : Layout} {p : Part} → Within F l p → Within F l (record { end = p.end - p.n; n = 0 })
unfolding rules.parted rules.parted_in
before_all w = record { layout = w.layout; inside = omega arith; known = omega (arith, w.inside, w.known); whole = refl; sound = w.sound }

pub reversed_more : (F : List ℕ) (l : Layout) (p : Part) {t : Node Part} → IsNode F l p t → 0 < p.n → exprs_reversed (meanings_at F p) ≡ expr (kid_at F p 0) >> exprs_reversed (meanings_at F t.before)
unfolding meanings
reversed_more F l p i h = rw (trees_more F l p i h)

module _ {F : List ℕ} {l : Layout} {w0 : List ℕ} {p : Part} {b0 : BuilderState} {w : List ℕ} {left : Part} {b : BuilderState} (i : Args F l w0 p b0 w left b) where
  args_again_at : (left.n ≡ 0 → ⊥) → {t : Node Part} → t ≡ node_of F l left → {b1 : BuilderState} {w1 : List ℕ} → Does F ((kid_at F left 0).gen_expr false) b w tt b1 w1 → length w1 ≡ length w →
      Args F l w0 p b0 w1 t.before b1
  args_again_at z {t} e {b1} {w1} o q =
      let g = is_node F l left i.within e in
      record {
        same = rw (o.same, ← after_then (held F (tt {0}) b w) (expr (kid_at F left 0)) (exprs_reversed (meanings_at F t.before)), ← reversed_more F l left g (omega arith)) i.same;
        fine = o.fine;
        named = λ n. o.named (i.named n);
        within = g.rest_within;
        fewer = omega (arith, g.apart, i.fewer);
        list = q ∙ i.list;
      }

  pub args_again : (left.n ≡ 0 → ⊥) → {before : Part} → before ≡ (node_of F l left).before → {b1 : BuilderState} {w1 : List ℕ} → Does F ((kid_at F left 0).gen_expr false) b w tt b1 w1 → length w1 ≡ length w →
      Args F l w0 p b0 w1 before b1
  args_again z e o q = rw e (args_again_at z {t = node_of F l left} refl o q)

  -- after a refusal nothing more is done
  pub args_stopped : IsSome b.refused → Does F (gen_arguments (meanings_at F p)) b0 w0 tt b w
  args_stopped h = record {
    same = rw (after_then, ← i.same, ← (stays {F = F} {m = exprs_reversed (meanings_at F left)} {a = tt {0}} h i.fine).same) (stays {F = F} h i.fine).same;
    fine = i.fine;
    named = i.named;
  }

  pub args_done : left.n ≡ 0 → (n : ℕ) → n ≡ width (trees F p) → {r : BuilderState} {w' : List ℕ} → Does F (push (Integer n)) b w tt r w' → Does F (gen_arguments (meanings_at F p)) b0 w0 tt r w'
  unfolding meanings
  args_done z n e {r} {w'} o = record {
    same = rw (width_law (trees F p), ← e, after_then, ← i.same, trees_none F left z, after_done (held F (tt {0}) b w), o.same);
    fine = o.fine;
    named = λ v. o.named (i.named v);
  }

  -- a record of the kind 32 is a constant
  module _ (z : left.n ≡ 0 → ⊥) (h : kind_at F l left ≡ 32) {row : Row} (e : row ≡ row_in (rows_of F l) (left.end - 1)) {c : ConstantKind} (q : c ≡ constant_of (words_of row)) where
    root_is : (node_of F l left).root ≡ kind.Expr (expr-kind.Constant c)
    unfolding record_of last_tree
    root_is = ap (λ (n : Node Part). n.root) (sym (node_made F l left z {t = last_tree (rows_of F l) left} refl refl)) ∙ rw (← e, q, last_kind F l left z e ∙ h)

    pub args_named : T (constant_named F c)
    args_named = rw root_is at (is_node F l left i.within refl).named

    pub args_constant : {before : Part} → before ≡ (node_of F l left).before → {b1 : BuilderState} {w1 : List ℕ} → Reads F c b w b1 w1 → length w1 ≡ length w → Args F l w0 p b0 w1 before b1
    args_constant q o k = args_again z q (rw (expr_at (is_node F l left i.within refl) false root_is) o) k

  -- a record of the kind 48 is a Void, which generates nothing
  pub args_void : (left.n ≡ 0 → ⊥) → kind_at F l left ≡ 48 → {before : Part} → before ≡ (node_of F l left).before → Args F l w0 p b0 w before b
  args_void z h q =
      let g = is_node F l left i.within refl in
      let void = void_root F l left h in
      let nothing : (v : Held (Unit {0})) → after v ((kid_at F left 0).gen_expr false) ≡ v = λ v. rw (expr_at g false void) (after_done v) in
      rw q (record {
        same = sym (rw (reversed_more F l left g (omega (arith, z)), after_then, nothing (held F (tt {0}) b w)) refl) ∙ i.same;
        fine = i.fine;
        named = i.named;
        within = g.rest_within;
        fewer = omega (arith, g.apart, i.fewer);
        list = i.list;
      })

  -- no argument is left
  pub args_none : left.n ≡ 0 → {none : Part} → none.n ≡ 0 → Within F l none → Args F l w0 p b0 w none b
  unfolding meanings
  args_none z {none} n g = record {
    same = rw (trees_none F none n) (rw (trees_none F left z) at i.same);
    fine = i.fine;
    named = i.named;
    within = g;
    fewer = omega (arith, n);
    list = i.list;
  }
