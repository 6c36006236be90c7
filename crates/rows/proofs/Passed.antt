-- Statements that generate nothing: the way down passes them.
use Prim.Native.Nat.{ℕ, zero, suc, ◌-◌, ◌≤◌, ◌<◌}
use mathlib.Core.Path.{◌≡◌, refl, sym, ap, ◌∙◌}
use mathlib.Core.List.{List}
use mathlib.Core.Bool.{Bool, true, false, false≢true, not}
use mathlib.Core.Option.{none}
use native.Mathlib.Omega.{arith}
use native.Mathlib.Numerals.{sub-one}
use lib.Dec.{ltb, eqb}
use borrow.Author.Tests.{eqb-true, eqb-false, ne_eqb, ltb-true, le-leb, lt-leb}
use Rattle.hir.specs.Hir.{Rec}
use Rattle.hir.specs.Tree.{Forest, more}
use Rattle.hir.specs.declared.Record.TheVariants as kind
use Rattle.hir.specs.declared.StatementKind.TheVariants as code
use Rattle.hir.specs.declared.ExprKind.TheVariants as expr
use Rattle.script_records.specs.declared.layout.Layout.{Layout}
use Rattle.script_records.specs.declared.layout.Row.{Row}
use Rattle.script_records.specs.declared.part.Part.{Part}
use Rattle.script_records.specs.Layout.{Words, layout_of, string_at, rows_of, row_in}
use Rattle.script_records.specs.Parts.{last_tree}
use Rattle.script_records.proofs.Trees.{span_le, span_pos}
use Rattle.decode.specs.Decode.{record_of, plain_of, statement_kinds, expr_kinds}
use Rattle.script.specs.Resolve.{resolved}
use Rattle.lowering.specs.Builder.{State, Step, ◌>>=◌, ◌>>◌, pure, done, when, stack_size, truncate_stack}
use Rattle.lowering.specs.Meaning.{Loop, Meaning, kid, list, hoisted, element}
use Rattle.lowering.specs.Meaning as meaning
use Rattle.lowering.specs.Statement.{meanings, gen_those, gen_block}
use Rattle.codegen_state.specs.View.{Waiting, Held, holds, stopped, carry, after}
use Rattle.codegen_state.proofs.Steps.{after_then, after_done}
use Rattle.tree.specs.Trees.{rows_in, rec_of, node_of, kind_at, meant}
use Rattle.tree.specs.Within.{Within, IsNode, meanings_at, kid_at, list_at}
use Rattle.tree.proofs.Nodes.{is_node, span_is, trees_none, trees_more}
use Rattle.tree.proofs.ByKind.{kind_none, kind_made, last_kind, kids_none, kids_made, no_label}
use Rattle.tree.proofs.Counting.{element_is}
use Rattle.tree.proofs.Meanings.{kid_zero, list_zero}
use Rattle.rows.specs.declared.Each.{Each}
use Rattle.rows.specs.declared.Each.TheVariants.{Expr, Discarded, Field, Statement, Hoisted, Unhoisted, Conditional, Element}
use Rattle.rows.specs.Rows.{one_of}
use Rattle.std.specs.Prelude.{Option, Some, None, option_map, unwrap_or}
use Rattle.std.specs.Bool.{then_some}
use Rattle.rows.specs.Passed.{passes, passes_at, passed}
use Rattle.rows.specs.Kept.{Quiet, of_passed}

-- steps that change nothing
abbrev pub Still : Step → Type 0
Still m = (v : Held (Unit {0})) → after v m ≡ v

pub then_still : (m k : Step) → Still m → Still k → Still (m >> k)
then_still m k a b v = after_then v m k ∙ rw (a v) (b v)

pub when_still : (b : Bool) (m : Step) → Still m → Still (when b m)
when_still true m a = a
when_still false m a = after_done

truncate_same : (a : Unit {0}) (s : State) (r : Waiting) → after (holds a s r) (truncate_stack s.builder.size) ≡ holds a s r
unfolding after carry stack_size ◌>>=◌ pure
truncate_same a s r = let z : s.builder.size - s.builder.size ≡ 0 = omega arith in rw z

-- between noting the stack's size and truncating the stack to it
pub framed : (m : Step) → Still m → Still (stack_size >>= λ size. m >> truncate_stack size)
unfolding after carry stack_size ◌>>=◌
framed m q (stopped n) = refl
framed m q (holds a s r) = after_then (holds a s r) m (truncate_stack s.builder.size) ∙ rw (q (holds a s r)) (truncate_same a s r)

-- rows whose trees are generated as statements
abbrev pub of_statements : Each → Bool
of_statements Expr = false
of_statements Discarded = false
of_statements Field = false
of_statements Statement = true
of_statements Hoisted = true
of_statements Unhoisted = true
of_statements Conditional = false
of_statements Element = true

-- a statement that generates nothing: neither does a row's step for it
module _ (lp : Loop) (f d s c : ℕ) (m : Meaning) (kids : Forest Meaning) (quiet : Still (m.gen_statement lp)) (no_label : element m.rec ≡ meaning.statement) where
  one_quiet : (e : Each) → of_statements e ≡ true → (v : Held (Unit {0})) → after v (one_of e lp f d s c m kids) ≡ v
  one_quiet Expr h v = absurd (false≢true h)
  one_quiet Discarded h v = absurd (false≢true h)
  one_quiet Field h v = absurd (false≢true h)
  one_quiet Statement h v = quiet v
  one_quiet Hoisted h v = when_still (hoisted m.rec kids) _ quiet v
  one_quiet Unhoisted h v = when_still (not (hoisted m.rec kids)) _ quiet v
  one_quiet Conditional h v = absurd (false≢true h)
  one_quiet Element h v = rw no_label (when_still (ltb 0 s) _ quiet v)

-- the records of some kinds
module _ (F : List ℕ) (l : Layout) (p : Part) where
  abbrev words : ℕ → Words
  words k = let r = (last_tree (rows_of F l) p).row in record { kind = k; a = r.a; b = r.b; c = r.c }

  root_is : (k : ℕ) → (k ≡ 96 → ⊥) → kind_at F l p ≡ k → (node_of F l p).root ≡ record_of (words k)
  unfolding kind_at node_of
  root_is k h e =
      let z = ne_eqb p.n 0 (λ x. h (sym e ∙ sym (kind_none F l p x))) in
      let r = rw z at e in
      rw (z, r)

  break_root : kind_at F l p ≡ 8 → (node_of F l p).root ≡ kind.Statement code.Break
  unfolding record_of plain_of statement_kinds
  break_root e = root_is 8 (λ h. omega (arith, h)) e

  continue_root : kind_at F l p ≡ 9 → (node_of F l p).root ≡ kind.Statement code.Continue
  unfolding record_of plain_of statement_kinds
  continue_root e = root_is 9 (λ h. omega (arith, h)) e

  expr_root : kind_at F l p ≡ 3 → (node_of F l p).root ≡ kind.Statement code.Expr
  unfolding record_of plain_of statement_kinds
  expr_root e = root_is 3 (λ h. omega (arith, h)) e

  pub block_root : kind_at F l p ≡ 4 → (node_of F l p).root ≡ kind.Statement code.Block
  unfolding record_of plain_of statement_kinds
  block_root e = root_is 4 (λ h. omega (arith, h)) e

  list_root : kind_at F l p ≡ 97 → rec_of F (node_of F l p).root ≡ Rec.List
  unfolding record_of resolved
  list_root e = rw (root_is 97 (λ h. omega (arith, h)) e)

  pub void_root : kind_at F l p ≡ 48 → (node_of F l p).root ≡ kind.Expr expr.Void
  unfolding record_of plain_of expr_kinds
  void_root e = root_is 48 (λ h. omega (arith, h)) e

-- the last tree of a part
module _ (F : List ℕ) (l : Layout) (p : Part) (w : Within F l p) where
  abbrev pub node_is : IsNode F l p (node_of F l p)
  node_is = is_node F l p w refl

  pub unlabelled : kind_at F l p < 100 → element (kid_at F p 0).rec ≡ meaning.statement
  unlabelled h =
      ap (λ (x : Meaning). element x.rec) (kid_zero F l p node_is) ∙ element_is (string_at F (layout_of F)) (node_of F l p).root ∙ ap meant (sym (no_label F l p h))

  -- an expression that generates nothing
  void_still : kind_at F l p ≡ 3 → (kid 0 (list_at F p 0)).gen_expr true ≡ done → (lp : Loop) → Still ((kid_at F p 0).gen_statement lp)
  unfolding resolved
  void_still k h lp =
      let d = rw (list_zero F l p node_is) at h in
      rw (kid_zero F l p node_is, expr_root F l p k, d) (framed done after_done)

  block_still : kind_at F l p ≡ 4 → (lp : Loop) → Still (gen_block lp (list 0 (list_at F p 0))) → Still ((kid_at F p 0).gen_statement lp)
  unfolding resolved
  block_still k lp s = rw (kid_zero F l p node_is, block_root F l p k) (rw (list_zero F l p node_is) at s)

  list_still : kind_at F l p ≡ 97 → (lp : Loop) → Still ((kid_at F p 0).gen_statement lp)
  list_still k lp = rw (kid_zero F l p node_is, list_root F l p k) after_done

  break_still : kind_at F l p ≡ 8 → (lp : Loop) → lp.break_label ≡ none → Still ((kid_at F p 0).gen_statement lp)
  unfolding resolved
  break_still k lp b = rw (kid_zero F l p node_is, break_root F l p k, b) after_done

  continue_still : kind_at F l p ≡ 9 → (lp : Loop) → lp.continue_label ≡ none → Still ((kid_at F p 0).gen_statement lp)
  unfolding resolved
  continue_still k lp b = rw (kid_zero F l p node_is, continue_root F l p k, b) after_done

  -- rows in which trees of some kinds generate nothing
  pub expr_out : eqb (kind_at F l p) 48 ≡ true → (lp : Loop) → Quiet F p Expr lp
  unfolding resolved
  expr_out h lp =
      let k = eqb-true (kind_at F l p) 48 h in
      (λ f d s c. rw (kid_zero F l p node_is, void_root F l p k) after_done, unlabelled (omega (arith, k)))

  pub discarded_out : eqb (kind_at F l p) 48 ≡ true → (lp : Loop) → Quiet F p Discarded lp
  unfolding resolved
  discarded_out h lp =
      let k = eqb-true (kind_at F l p) 48 h in
      (λ f d s c. rw (kid_zero F l p node_is, void_root F l p k) (framed done after_done), unlabelled (omega (arith, k)))

  pub conditional_out : ltb (kind_at F l p) 100 ≡ true → (lp : Loop) → Quiet F p Conditional lp
  conditional_out h lp = let n = unlabelled (ltb-true (kind_at F l p) 100 h) in (λ f d s c. rw n after_done, n)

-- the record before a tree's own is that of its last child
module _ (F : List ℕ) (l : Layout) (p : Part) (w : Within F l p) where
  abbrev pub below : Part
  below = (node_of F l p).children

  pub none_below : p.n ≡ 0 → below.n ≡ 0
  none_below q = ap (λ (k : Part). k.n) (sym (kids_none F l p q)) ∙ q

  pub below_end : (p.n ≡ 0 → ⊥) → below.end ≡ p.end - 1
  unfolding last_tree
  below_end z = ap (λ (k : Part). k.end) (sym (kids_made F l p z refl))

  pub child_kind : (below.n ≡ 0 → ⊥) → kind_at F l below ≡ (row_in (rows_of F l) (p.end - 2)).kind
  unfolding last_tree
  child_kind h =
      let a : below.end - 1 ≡ p.end - 2 = omega (arith, below_end (λ q. h (none_below q))) in
      sym (kind_made F l below h refl) ∙ ap (λ (n : ℕ). (row_in (rows_of F l) n).kind) a

  pub void_below : (row_in (rows_of F l) (p.end - 2)).kind ≡ 48 → (kid 0 (list_at F p 0)).gen_expr true ≡ done
  unfolding resolved meanings
  void_below k = by (eqb below.n 0) refl
    where
      by : (b : Bool) → eqb below.n 0 ≡ b → (kid 0 (list_at F p 0)).gen_expr true ≡ done
      by true x = rw (list_zero F l p (node_is F l p w), trees_none F below (eqb-true _ 0 x))
      by false x =
          let v = void_root F l below (child_kind (eqb-false _ 0 x) ∙ k) in
          rw (list_zero F l p (node_is F l p w), kid_zero F l below (node_is F l below (node_is F l p w).kids_within), v)

-- where a tree, its children and the trees before it start
module _ (F : List ℕ) (l : Layout) (p : Part) (w : Within F l p) where
  tree_start : (p.n ≡ 0 → ⊥) → (node_of F l p).children.end - (node_of F l p).children.n ≡ (node_of F l p).before.end
  unfolding node_of last_tree
  tree_start z =
      let a = span_le (rows_of F l) p.end p.n in
      let b = span_pos (rows_of F l) p.end p.n (omega arith) in
      let c = w.inside in
      rw (ne_eqb p.n 0 z) (omega arith)

  start_inside : p.end - p.n ≤ (node_of F l p).before.end
  start_inside = let a = span_le (rows_in F) p.end p.n in let b = w.inside in omega (arith, (node_is F l p w).end)

  row_start : (node_of F l p).before.end - (node_of F l p).before.n ≡ p.end - p.n
  row_start =
      let i = node_is F l p w in
      let a = span_le (rows_in F) p.end p.n in
      let b = w.inside in
      omega (arith, i.end, i.n)

-- the way down comes to record lo
record Way (rs : List Row) (lo e : ℕ) (breaks continues : Bool) : Type 0 where
  steps : ℕ
  holds : passed steps rs lo e breaks continues ≡ true

-- a step of the way down
record Down (rs : List Row) (lo e : ℕ) (breaks continues : Bool) : Type 0 where
  passes : ℕ
  is : passes_at rs e breaks continues ≡ Some passes
  below : Way rs lo (e - passes) breaks continues

module _ {rs : List Row} {lo e : ℕ} {breaks continues : Bool} where
  onward_in : (k : ℕ) → passed k rs lo e breaks continues ≡ true → lo < e → Down rs lo e breaks continues
  unfolding passed
  onward_in zero h u = absurd (false≢true h)
  onward_in (suc k) h u = by (passes_at rs e breaks continues) refl (rw (lt-leb e lo u) at h)
    where
      by : (o : Option ℕ) → passes_at rs e breaks continues ≡ o → unwrap_or (option_map (λ n. passed k rs lo (e - n) breaks continues) o) false ≡ true → Down rs lo e breaks continues
      by None q x = absurd (false≢true x)
      by (Some n) q x = record { passes = n; is = q; below = record { steps = k; holds = x } }

  onward : Way rs lo e breaks continues → lo < e → Down rs lo e breaks continues
  onward t u = onward_in t.steps t.holds u

-- When `then_some` gives a value, and which: the library has lemmas of `option_and_then` of that kind, and none of `then_some`.
some_passed : (b : Bool) (size : ℕ) {n : ℕ} → then_some b size ≡ Some n → (b ≡ true) × (n ≡ size)
some_passed true size h = (refl, cc)
some_passed false size h = cc

-- the kinds that are passed
module _ (k size under : ℕ) (breaks continues : Bool) {n : ℕ} (h : passes k size under breaks continues ≡ Some n) where
  passes_cases : {P : Type 0} → (k ≡ 3 → under ≡ 48 → n ≡ size → P) → (k ≡ 8 → breaks ≡ true → n ≡ 1 → P) → (k ≡ 9 → continues ≡ true → n ≡ 1 → P) → (k ≡ 4 → under ≡ 97 → n ≡ 1 → P) → (k ≡ 97 → n ≡ 1 → P) → P
  passes_cases {P} void break continue block list' = by (eqb k 3) refl (eqb k 8) refl (eqb k 9) refl (eqb k 4) refl
    where
      by : (a : Bool) → eqb k 3 ≡ a → (b : Bool) → eqb k 8 ≡ b → (c : Bool) → eqb k 9 ≡ c → (d : Bool) → eqb k 4 ≡ d → P
      by true x b y c z d u = let t = some_passed (eqb under 48) size (rw x at h) in void (eqb-true k 3 x) (eqb-true under 48 t.0) t.1
      by false x true y c z d u = let t = some_passed breaks 1 (rw (x, y) at h) in break (eqb-true k 8 y) t.0 t.1
      by false x false y true z d u = let t = some_passed continues 1 (rw (x, y, z) at h) in continue (eqb-true k 9 z) t.0 t.1
      by false x false y false z true u = let t = some_passed (eqb under 97) 1 (rw (x, y, z, u) at h) in block (eqb-true k 4 u) (eqb-true under 97 t.0) t.1
      by false x false y false z false u = let t = some_passed (eqb k 97) 1 (rw (x, y, z, u) at h) in list' (eqb-true k 97 t.0) t.1

module _ (rs : List Row) (e : ℕ) (breaks continues : Bool) {n : ℕ} (h : passes_at rs e breaks continues ≡ Some n) where
  abbrev at : ℕ
  at = (row_in rs (e - 1)).kind

  abbrev under : ℕ
  under = (row_in rs (e - 2)).kind

  cases_at : {P : Type 0} → (at ≡ 3 → under ≡ 48 → n ≡ (row_in rs (e - 1)).size → P) → (at ≡ 8 → breaks ≡ true → n ≡ 1 → P) →
      (at ≡ 9 → continues ≡ true → n ≡ 1 → P) → (at ≡ 4 → under ≡ 97 → n ≡ 1 → P) → (at ≡ 97 → n ≡ 1 → P) → P
  unfolding passes_at
  cases_at = passes_cases at (row_in rs (e - 1)).size under breaks continues h

  low_at : at < 100
  low_at = cases_at (λ j u m. omega arith) (λ j u m. omega arith) (λ j u m. omega arith) (λ j u m. omega arith) (λ j m. omega arith)

-- statements that are passed
module _ (F : List ℕ) (l : Layout) {breaks continues : Bool} (lp : Loop) (no-break : breaks ≡ true → lp.break_label ≡ none) (no-continue : continues ≡ true → lp.continue_label ≡ none) (lo : ℕ) where
  abbrev To : ℕ → Type 0
  To e = Way (rows_of F l) lo e breaks continues

  abbrev Those : Part → Type 0
  Those p = (b : Bool) → Still (gen_those b lp (meanings_at F p))

  those_none : (p : Part) → p.n ≡ 0 → Those p
  unfolding meanings
  those_none p h true = rw (trees_none F p h) after_done
  those_none p h false = rw (trees_none F p h) after_done

  none_left : (p : Part) → p.n ≡ 0 → To p.end → Those p × To (p.end - p.n)
  none_left p z t = let e : p.end - p.n ≡ p.end = omega arith in (those_none p z, rw e t)

  those_more : (b : Bool) (ms : Forest Meaning) (m : Meaning) (kids : Forest Meaning) → Still (gen_those b lp ms) → Still (m.gen_statement lp) → Still (gen_those b lp (more ms m kids))
  those_more true ms m kids x y = then_still _ _ x (when_still (hoisted m.rec kids) _ y)
  those_more false ms m kids x y = then_still _ _ x (when_still (not (hoisted m.rec kids)) _ y)

  those_last : (p : Part) (w : Within F l p) → (p.n ≡ 0 → ⊥) → Still ((kid_at F p 0).gen_statement lp) → Those (node_of F l p).before → Those p
  unfolding meanings
  those_last p w z s t b = rw (trees_more F l p (node_is F l p w) (omega arith)) (those_more b _ _ _ (t b) (rw (kid_zero F l p (node_is F l p w)) at s))

  -- the last tree, if so much holds of shorter parts
  module _ (n : ℕ) (shorter : (q : Part) → q.n ≤ n → Within F l q → lo ≤ q.end - q.n → To q.end → Those q × To (q.end - q.n)) (p : Part) (w : Within F l p) (few : p.n ≤ suc n) (z : p.n ≡ 0 → ⊥) (low : lo ≤ (node_of F l p).before.end) where
    abbrev kids : Part
    kids = (node_of F l p).children

    abbrev kids_within : Within F l kids
    kids_within = (node_is F l p w).kids_within

    through : To (p.end - 1) → To (node_of F l p).before.end
    through t =
        let r = (shorter kids (omega (arith, (node_is F l p w).apart, z, few)) kids_within (rw (tree_start F l p w z) low) (rw (below_end F l p w z) t)).1 in
        rw (tree_start F l p w z) at r

    in_list : (row_in (rows_of F l) (p.end - 2)).kind ≡ 97 → To (p.end - 1) → Those (node_of F l kids).children
    in_list k t = by (eqb kids.n 0) refl
      where
        by : (b : Bool) → eqb kids.n 0 ≡ b → Those (node_of F l kids).children
        by true x = those_none _ (none_below F l kids kids_within (eqb-true kids.n 0 x))
        by false x =
            let y = eqb-false kids.n 0 x in
            let e = below_end F l p w z in
            let s = tree_start F l p w z in
            let e2 : p.end - 1 - 1 ≡ p.end - 2 = omega arith in
            let o = onward t (omega (arith, e, s, low, kids_within.inside)) in
            let g = node_is F l kids kids_within in
            let a : (row_in (rows_of F l) (p.end - 1 - 1)).kind ≡ 97 = rw e2 k in
            let d : To (p.end - 1 - 1) = cases_at _ _ _ _ o.is (λ j u m. absurd (omega (arith, j, a))) (λ j u m. absurd (omega (arith, j, a))) (λ j u m. absurd (omega (arith, j, a)))
            (λ j u m. absurd (omega (arith, j, a))) (λ j m. rw m at o.below) in
            (shorter (node_of F l kids).children (omega (arith, g.apart, (node_is F l p w).apart, z, few)) g.kids_within
            (rw (tree_start F l kids kids_within y) (omega (arith, low, s, start_inside F l kids kids_within)))
            (rw (below_end F l kids kids_within y, e) d)).0

    in_block : (row_in (rows_of F l) (p.end - 2)).kind ≡ 97 → To (p.end - 1) → Still (gen_block lp (list 0 (list_at F p 0)))
    in_block k t =
        let i = in_list k t in
        rw (list_zero F l p (node_is F l p w), list_zero F l kids (node_is F l kids kids_within)) (framed _ (then_still _ _ (i true) (i false)))

    tree_still : To p.end → Still ((kid_at F p 0).gen_statement lp) × To (node_of F l p).before.end
    tree_still t =
        let s = tree_start F l p w z in
        let o = onward t (omega (arith, below_end F l p w z, s, low, w.inside)) in
        let q : (k : ℕ) → (row_in (rows_of F l) (p.end - 1)).kind ≡ k → kind_at F l p ≡ k = λ k e. sym (last_kind F l p z refl) ∙ e in
        cases_at _ _ _ _ o.is
        (λ k u m. (void_still F l p w (q 3 k) (void_below F l p w u) lp, rw ((node_is F l p w).end, span_is F l p w (omega arith) refl) (rw m at o.below)))
        (λ k b m. (break_still F l p w (q 8 k) lp (no-break b), through (rw m at o.below)))
        (λ k b m. (continue_still F l p w (q 9 k) lp (no-continue b), through (rw m at o.below)))
        (λ k u m. let r = rw m at o.below in (block_still F l p w (q 4 k) lp (in_block u r), through r))
        (λ k m. (list_still F l p w (q 97 k) lp, through (rw m at o.below)))

  abbrev Passed : ℕ → Type 0
  Passed n = (p : Part) → p.n ≤ n → Within F l p → lo ≤ p.end - p.n → To p.end → Those p × To (p.end - p.n)

  one_more : (n : ℕ) → Passed n → Passed (suc n)
  one_more n shorter p h w u t = by (eqb p.n 0) refl
    where
      by : (b : Bool) → eqb p.n 0 ≡ b → Those p × To (p.end - p.n)
      by true q = none_left p (eqb-true p.n 0 q) t
      by false q =
          let z = eqb-false p.n 0 q in
          let g = node_is F l p w in
          let s = tree_still n shorter p w h z (omega (arith, u, start_inside F l p w)) t in
          let r = shorter (node_of F l p).before (omega (arith, g.apart)) g.rest_within (omega (arith, u, row_start F l p w)) s.1 in
          (those_last p w z s.0 r.0, rw (row_start F l p w) at r.1)

  all_still : (n : ℕ) → Passed n
  all_still zero = λ p h w u t. none_left p (omega arith) t
  all_still (suc n) = one_more n (all_still n)

-- a statement of a row
module _ (F : List ℕ) (l : Layout) (p : Part) (w : Within F l p) (z : p.n ≡ 0 → ⊥) (k : ℕ) (breaks continues : Bool) (h : passed k (rows_of F l) (node_of F l p).before.end p.end breaks continues ≡ true) where
  passed_still : (lp : Loop) → (breaks ≡ true → lp.break_label ≡ none) → (continues ≡ true → lp.continue_label ≡ none) → Still ((kid_at F p 0).gen_statement lp)
  passed_still lp no-break no-continue =
      (tree_still F l lp no-break no-continue (node_of F l p).before.end p.n (all_still F l lp no-break no-continue (node_of F l p).before.end p.n) p w (omega arith) z (omega arith)
      (record { steps = k; holds = h })).0

  passed_label : element (kid_at F p 0).rec ≡ meaning.statement
  passed_label =
      let o = onward_in k h (omega (arith, below_end F l p w z, tree_start F l p w z, w.inside)) in
      unlabelled F l p w (rw (← last_kind F l p z refl) (low_at _ _ _ _ o.is))

  pub passed_out : (e : Each) → of_statements e ≡ true → (lp : Loop) → (breaks ≡ true → lp.break_label ≡ none) → (continues ≡ true → lp.continue_label ≡ none) → Quiet F p e lp
  passed_out e s lp no-break no-continue = (λ f d t c. one_quiet lp f d t c _ _ (passed_still lp no-break no-continue) passed_label e s, passed_label)

-- What `is_none` says: the library has no lemma that turns an equation with `not` round.
pub not_some : {b x : Bool} → x ≡ not b → b ≡ not x
not_some {b = true} h = rw h
not_some {b = false} h = rw h

-- one step of the way
module _ (rs : List Row) (e : ℕ) (breaks continues : Bool) {row : Row} (is : row ≡ row_in rs (e - 1)) where
  pub at_expr : row.kind ≡ 3 → {b : Bool} → b ≡ eqb (row_in rs (e - 2)).kind 48 → {o : Option ℕ} → o ≡ then_some b row.size → o ≡ passes_at rs e breaks continues
  unfolding passes_at
  at_expr k u q = rw (← is, k, ← u) q

  pub at_break : row.kind ≡ 8 → {o : Option ℕ} → o ≡ then_some breaks 1 → o ≡ passes_at rs e breaks continues
  unfolding passes_at
  at_break k q = rw (← is, k) q

  pub at_continue : row.kind ≡ 9 → {o : Option ℕ} → o ≡ then_some continues 1 → o ≡ passes_at rs e breaks continues
  unfolding passes_at
  at_continue k q = rw (← is, k) q

  pub at_block : row.kind ≡ 4 → {b : Bool} → b ≡ eqb (row_in rs (e - 2)).kind 97 → {o : Option ℕ} → o ≡ then_some b 1 → o ≡ passes_at rs e breaks continues
  unfolding passes_at
  at_block k u q = rw (← is, k, ← u) q

  pub at_list : (row.kind ≡ 3 → ⊥) → (row.kind ≡ 8 → ⊥) → (row.kind ≡ 9 → ⊥) → (row.kind ≡ 4 → ⊥) → {o : Option ℕ} → o ≡ then_some (eqb row.kind 97) 1 → o ≡ passes_at rs e breaks continues
  unfolding passes_at
  at_list a b c d q = rw (← is, ne_eqb row.kind 3 a, ne_eqb row.kind 8 b, ne_eqb row.kind 9 c, ne_eqb row.kind 4 d) q

-- the way, step by step
module _ (rs : List Row) (lo e : ℕ) (breaks continues : Bool) where
  pub passed_none : (k : ℕ) → k ≡ 0 → false ≡ passed k rs lo e breaks continues
  unfolding passed
  passed_none k h = rw h

  module _ (k : ℕ) (z : 0 < k) where
    pub passed_end : e ≤ lo → true ≡ passed k rs lo e breaks continues
    unfolding passed
    passed_end h = by k z
      where
        by : (k : ℕ) → 0 < k → true ≡ passed k rs lo e breaks continues
        by zero z = absurd (omega arith)
        by (suc k) z = rw (le-leb e lo h)

    module _ (h : lo < e) {o : Option ℕ} (q : o ≡ passes_at rs e breaks continues) where
      passed_step : passed k rs lo e breaks continues ≡ unwrap_or (option_map (λ n. passed (k - 1) rs lo (e - n) breaks continues) o) false
      unfolding passed
      passed_step = by k z
        where
          by : (k : ℕ) → 0 < k → passed k rs lo e breaks continues ≡ unwrap_or (option_map (λ n. passed (k - 1) rs lo (e - n) breaks continues) o) false
          by zero z = absurd (omega arith)
          by (suc k) z = rw (lt-leb e lo h, ← q, sub-one)

      pub passed_stop : o ≡ None → false ≡ passed k rs lo e breaks continues
      passed_stop x = rw (passed_step, x)

      pub passed_on : {n : ℕ} → o ≡ Some n → passed k rs lo e breaks continues ≡ passed (k - 1) rs lo (e - n) breaks continues
      passed_on x = rw (passed_step, x)

-- a statement that is an expression: a Void, or not
module _ (F : List ℕ) (l : Layout) (p : Part) (w : Within F l p) (k : kind_at F l p ≡ 3) (breaks continues : Bool) where
  pub expr_there : p.n ≡ 0 → ⊥
  expr_there h = omega (arith, kind_none F l p h ∙ k)

  abbrev rs : List Row
  rs = rows_of F l

  expr_at : (row_in rs (p.end - 1)).kind ≡ 3
  expr_at = last_kind F l p expr_there refl ∙ k

  abbrev tree_at : ℕ
  tree_at = (node_of F l p).before.end

  below_it : tree_at < p.end
  below_it = let z = expr_there in omega (arith, z, below_end F l p w expr_there, tree_start F l p w expr_there, w.inside)

  by_test : (b : Bool) → b ≡ eqb (row_in rs (p.end - 2)).kind 48 → b ≡ passed 128 rs tree_at p.end breaks continues
  by_test true u =
      let n = at_expr rs p.end breaks continues {row = row_in rs (p.end - 1)} refl expr_at u refl in
      let e : p.end - (row_in rs (p.end - 1)).size ≡ tree_at = rw ((node_is F l p w).end, span_is F l p w (omega (arith, expr_there)) refl) in
      passed_end rs tree_at (p.end - (row_in rs (p.end - 1)).size) breaks continues 127 (omega arith) (omega (arith, e)) ∙ sym (passed_on rs tree_at p.end breaks continues 128 (omega arith) below_it n refl)
  by_test false u =
      passed_stop rs tree_at p.end breaks continues 128 (omega arith) below_it (at_expr rs p.end breaks continues {row = row_in rs (p.end - 1)} refl expr_at u refl) refl

  pub expr_passed : {b : Bool} → b ≡ eqb (row_in rs (p.end - 2)).kind 48 → b ≡ of_passed F l 128 breaks continues p
  expr_passed {b} u = by_test b u

-- a Break of one record
module _ (F : List ℕ) (l : Layout) (p : Part) (w : Within F l p) (k : kind_at F l p ≡ 8) (breaks continues : Bool) where
  break_there : p.n ≡ 0 → ⊥
  break_there h = omega (arith, kind_none F l p h ∙ k)

  abbrev break_start : ℕ
  break_start = (node_of F l p).before.end

  below_break : break_start < p.end
  below_break = let z = break_there in omega (arith, z, below_end F l p w break_there, tree_start F l p w break_there, w.inside)

  by_breaks : p.end - 1 ≤ break_start → (b : Bool) → then_some b 1 ≡ passes_at (rows_of F l) p.end breaks continues → b ≡ passed 128 (rows_of F l) break_start p.end breaks continues
  by_breaks h true q =
      passed_end (rows_of F l) break_start (p.end - 1) breaks continues 127 (omega arith) h ∙ sym (passed_on (rows_of F l) break_start p.end breaks continues 128 (omega arith) below_break q refl)
  by_breaks h false q = passed_stop (rows_of F l) break_start p.end breaks continues 128 (omega arith) below_break q refl

  pub break_passed : p.end - 1 ≤ break_start → breaks ≡ of_passed F l 128 breaks continues p
  break_passed h = by_breaks h breaks (at_break (rows_of F l) p.end breaks continues {row = row_in (rows_of F l) (p.end - 1)} refl (last_kind F l p break_there refl ∙ k) refl)
