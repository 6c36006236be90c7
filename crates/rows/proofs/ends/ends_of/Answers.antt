use mathlib.Core.Bool.{true, false, false≢true}
use mathlib.Core.Path.{◌≡◌, refl}
use lib.Dec.{ltb, eqb}
use Rattle.std.proofs.lemmas.List.{length-take-le}
use Rattle.std.proofs.Common.{rules, ◌⊎◌, inl, inr}
use Rattle.std.specs.Option.{is_none}
use Rattle.tree.specs.Trees.{kind_at}
use Rattle.rows.specs.declared.Each.{Each}
use Rattle.rows.specs.declared.Each.TheVariants.{Expr, Discarded, Statement, Hoisted, Unhoisted, Conditional, Element}
use Rattle.rows.specs.Rows.{loop_of}
use Rattle.rows.specs.Kept.{of_passed}
use Rattle.rows.proofs.Passed.{of_statements, expr_out, discarded_out, conditional_out, passed_out}
use Rattle.rows.proofs.Kept.{no_label, kept_taken, kept_take, down_all, down_unlabelled, element_silent, conditional_silent}
use Rattle.rows.proofs.ends.ends_of.Goals as goal

-- One lemma of three cases, each rewritten by its own equation.
statements : {what : Each} → (what ≡ Statement) ⊎ (what ≡ Hoisted) ⊎ (what ≡ Unhoisted) → of_statements what ≡ true
statements (inl e) = rw e
statements (inr (inl e)) = rw e
statements (inr (inr e)) = rw e

pub returns-in-Expr : goal.returns-in-Expr
returns-in-Expr c =
    let s = c.args.row.now.script in
    let k = c.ends_but.ensures.kept (λ q. eqb (kind_at s.bytes.now s.layout q) 48) (λ t r e p. let h : r ≡ eqb (kind_at t.script.bytes.now t.script.layout t.part) 48 = search rules in rw e at h) in
    elim c.in-Expr.is [
      | inl e ↦ rw e (down_all _ _ _ _ _ _ k Expr _ (λ q w z h. expr_out _ _ q w h (loop_of c.args.lp)))
      | inr e ↦ rw e (down_all _ _ _ _ _ _ k Discarded _ (λ q w z h. discarded_out _ _ q w h (loop_of c.args.lp)))
    ]

pub returns-in-Field : goal.returns-in-Field
returns-in-Field c = down_all _ _ _ _ _ _ (c.ends_but-in-Field.ensures.kept (λ q. false) (λ t r e p. search rules)) _ _ (λ q w z h. absurd (false≢true h))

pub returns-in-Statement : goal.returns-in-Statement
returns-in-Statement c =
    let s = c.args.row.now.script in
    let b = is_none c.args.lp.exit in
    let n = is_none c.args.lp.next in
    let k = c.ends_but-in-Statement.ensures.kept (of_passed s.bytes.now s.layout 128 b n) (λ t r e p. let h : r ≡ of_passed t.script.bytes.now t.script.layout 128 b n t.part = search rules in rw e at h) in
    down_all _ _ _ _ _ _ k c.args.what _ (λ q w z h. passed_out _ _ q w z 128 b n h c.args.what (statements c.in-Statement.is) _ (no_label c.args.lp.exit) (no_label c.args.lp.next))

pub returns-in-Conditional : goal.returns-in-Conditional
returns-in-Conditional c =
    let s = c.args.row.now.script in
    let k = c.ends_but-in-Conditional.ensures.kept (λ q. ltb (kind_at s.bytes.now s.layout q) 100) (λ t r e p. let h : r ≡ ltb (kind_at t.script.bytes.now t.script.layout t.part) 100 = search rules in rw e at h) in
    rw c.in-Conditional.is
    (down_unlabelled _ _ _ _ _ _ _ k c.first_label-stop.ensures.2 Conditional _ (conditional_silent (loop_of c.args.lp)) (λ q w z h. conditional_out _ _ q w h (loop_of c.args.lp)))

pub from_label-requires : goal.from_label-requires
from_label-requires c =
    let s = c.args.row.now.script in
    let b = is_none c.args.lp.exit in
    let n = is_none c.args.lp.next in
    let k = c.ends_but-top.ensures.kept (of_passed s.bytes.now s.layout 128 b n) (λ t r e p. let h : r ≡ of_passed t.script.bytes.now t.script.layout 128 b n t.part = search rules in rw e at h) in
    kept_take _ _ _ _ _ _ _ _ _ c.ends_but-top.ensures.few
    (down_unlabelled _ _ _ _ _ _ _ k c.first_label-stop-in-Element.ensures.2 Element (loop_of c.args.lp) (element_silent (loop_of c.args.lp))
    (λ q w z h. passed_out _ _ q w z 128 b n h Element refl _ (no_label c.args.lp.exit) (no_label c.args.lp.next)))

pub returns-in-Element : goal.returns-in-Element
returns-in-Element c =
    let n = c.from_label.ensures.few in
    rw c.in-Element.is (kept_taken _ _ _ _ _ _ c.ends_but-top.result _ _ _ (rw (length-take-le _ _ c.ends_but-top.ensures.few) at n) c.from_label.ensures.kept)
