-- The walk along a row that keeps where its trees end, and leaves out those that generate nothing.
use Prim.Native.Nat.{ℕ, zero, suc, ◌+◌, ◌-◌, ◌≤◌, ◌<◌}
use mathlib.Core.Path.{◌≡◌, refl, sym, ap, ◌∙◌, subst}
use mathlib.Core.List.{List}
use mathlib.Core.Bool.{Bool, true, false, false≢true, not}
use Rattle.std.specs.Int.{from_bool}
use mathlib.Core.Option.{none}
use Rattle.std.specs.Prelude as std
use Rattle.std.specs.Option.{is_none}
use Rattle.pcode.specs.declared.Label.{Label}
use native.Mathlib.Omega.{arith}
use native.Mathlib.Nat.{add-zero}
use native.Mathlib.Numerals.{add-one, sub-one}
use lib.ListN.{length, get_or, set, take}
use Rattle.std.proofs.lemmas.List.{get_or-take, length-take-le}
use lib.Seq.{get_or-set_same, get_or-set_other}
use Rattle.script_records.specs.declared.layout.Layout.{Layout}
use Rattle.script_records.specs.declared.part.Part.{Part}
use Rattle.script_records.specs.Layout.{rows_of, row_in}
use Rattle.script_records.proofs.Trees.{span_le}
use Rattle.hir.specs.Tree.{Forest}
use Rattle.lowering.specs.Builder.{◌>>◌}
use Rattle.lowering.specs.Meaning.{Loop, Meaning, element}
use Rattle.lowering.specs.Meaning as meaning
use Rattle.lowering.specs.Statement.{meanings}
use Rattle.codegen_state.specs.View.{Held, after}
use Rattle.codegen_state.proofs.Steps.{after_then, after_done}
use Rattle.tree.specs.declared.Node.{Node}
use Rattle.tree.specs.Trees.{rows_in, rec_of, node_of}
use Rattle.tree.specs.Within.{Within, IsNode, meanings_at, kid_at, list_at}
use Rattle.tree.proofs.Nodes.{is_node, trees_none, trees_more}
use Rattle.tree.proofs.Meanings.{kid_zero}
use Rattle.builder.specs.Labels.{labels_of_forest, one_label}
use Rattle.rows.specs.declared.Each.{Each}
use Rattle.rows.specs.declared.Each.TheVariants.{Conditional, Element}
use Rattle.rows.specs.Rows.{label_of, one_of, each_of, cases_of, one_case}
use Rattle.rows.specs.Kept.{Quiet, upto, start_of, Idle, Kept, Unlabelled, KeptDown, KeptOf}
use Rattle.rows.proofs.Passed.{unlabelled}
use Rattle.tree.proofs.ByKind.{last_kind}
use lib.Dec.{ltb}
use borrow.Author.Tests.{ltb-true, ltb-false}

pub no_label : (o : std.Option Label) → is_none o ≡ true → label_of o ≡ none
no_label std.None h = refl
no_label (std.Some label) h = absurd (false≢true h)

-- a row, by its last tree
module _ (F : List ℕ) (l : Layout) (p : Part) {t : Node Part} (i : IsNode F l p t) (h : 0 < p.n) where
  pub each_more : (e : Each) (lp : Loop) (f d : ℕ) → each_of e lp f d (meanings_at F p) ≡
      each_of e lp f d (meanings_at F t.before) >> one_of e lp f d (labels_of_forest (meanings_at F t.before)) (cases_of (meanings_at F t.before)) (kid_at F p 0) (list_at F p 0)
  unfolding meanings each_of
  each_more e lp f d = rw (trees_more F l p i h)

  pub labels_more : labels_of_forest (meanings_at F p) ≡ labels_of_forest (meanings_at F t.before) + one_label (element (rec_of F t.root))
  unfolding meanings labels_of_forest
  labels_more = rw (trees_more F l p i h)

  pub cases_more : cases_of (meanings_at F p) ≡ cases_of (meanings_at F t.before) + one_case (element (rec_of F t.root))
  unfolding meanings cases_of
  cases_more = rw (trees_more F l p i h)

-- trees that generate nothing, one after the other
module _ {F : List ℕ} {e : Each} {lp : Loop} {lo : ℕ} where
  pub idle_none : (q : ℕ) → Idle F e lp lo q q
  idle_none q = record { up = omega arith; same = λ f d v. refl; labels = refl; cases = refl }

  pub idle_then : {q r s : ℕ} → Idle F e lp lo q r → Idle F e lp lo r s → Idle F e lp lo q s
  idle_then a b = record { up = omega (arith, a.up, b.up); same = λ f d v. b.same f d v ∙ a.same f d v; labels = b.labels ∙ a.labels; cases = b.cases ∙ a.cases }

pub part_is : (p : Part) (e n : ℕ) → p.end ≡ e → p.n ≡ n → p ≡ record { end = e; n = n }
part_is p e n a b = rw (← a, ← b)

-- the trees before the last of those up to j
pub before_is : (F : List ℕ) (l : Layout) (lo j : ℕ) {t : Node Part} → IsNode F l (upto lo j) t → lo ≤ start_of F lo j → start_of F lo j < j → t.before ≡ upto lo (start_of F lo j)
before_is F l lo j g a u = part_is _ _ _ g.end (g.n ∙ omega (arith, a, u))

module _ (F : List ℕ) (l : Layout) (lo j : ℕ) (w : Within F l (upto lo j)) (a : lo ≤ start_of F lo j) (u : start_of F lo j < j) (e : Each) (lp : Loop) where
  abbrev before : Part
  before = upto lo (start_of F lo j)

  tree_idle : ((f d : ℕ) (v : Held (Unit {0})) → after v (one_of e lp f d (labels_of_forest (meanings_at F before)) (cases_of (meanings_at F before)) (kid_at F (upto lo j) 0) (list_at F (upto lo j) 0)) ≡ v) →
      element (kid_at F (upto lo j) 0).rec ≡ meaning.statement → Idle F e lp lo (start_of F lo j) j
  tree_idle q n =
      let g = is_node F l (upto lo j) w refl in
      let z : 0 < j - lo = omega (arith, a, u) in
      let m = before_is F l lo j g a u in
      let r : element (rec_of F (node_of F l (upto lo j)).root) ≡ meaning.statement = sym (ap (λ (x : Meaning). element x.rec) (kid_zero F l (upto lo j) g)) ∙ n in
      record {
        up = omega (arith, u);
        same = λ f d v. rw (each_more F l (upto lo j) g z e lp f d, m, after_then) (q f d _);
        labels = let x = labels_more F l (upto lo j) g z in rw (m, r) at x ∙ add-zero _;
        cases = let x = cases_more F l (upto lo j) g z in rw (m, r) at x ∙ add-zero _;
      }

-- the ends that are kept
module _ (F : List ℕ) (l : Layout) (e : Each) (lp : Loop) (lo : ℕ) where
  pub kept_same : (x y : List ℕ) (top q last : ℕ) → ((k : ℕ) → k < top → get_or x k 0 ≡ get_or y k 0) → Kept F l e lp lo x top q last → Kept F l e lp lo y top q last
  unfolding Kept
  kept_same x y zero q last h c = c
  kept_same x y (suc u) q last h c =
      let c' = kept_same x y u (get_or x u 0) last (λ k p. h k (omega arith)) c.4 in
      rw (← h u (omega arith)) (c.0, c.1, c.2, c.3, c')

  -- those among the first of x
  pub kept_taken : (x : List ℕ) (n top q last : ℕ) → top ≤ n → Kept F l e lp lo (take n x) top q last → Kept F l e lp lo x top q last
  kept_taken x n top q last h = kept_same (take n x) x top q last (λ k p. get_or-take n x k 0 (omega arith))

  pub kept_take : (x : List ℕ) (n q last : ℕ) → n ≤ length x → Kept F l e lp lo x n q last → Kept F l e lp lo (take n x) (length (take n x)) q last
  kept_take x n q last h c = rw (length-take-le n x h) (kept_same x (take n x) n q last (λ k p. sym (get_or-take n x k 0 p)) c)

  -- a tree that generates nothing stands before them
  pub kept_skip : (x : List ℕ) (top q1 q last : ℕ) → Idle F e lp lo q1 q → Kept F l e lp lo x top q last → Kept F l e lp lo x top q1 last
  unfolding Kept
  kept_skip x zero q1 q last i c = idle_then i c
  kept_skip x (suc u) q1 q last i c = (idle_then i c.0, c.1, c.2, c.3, c.4)

  -- one more
  pub kept_push : (x : List ℕ) (top q last : ℕ) → top < length x → start_of F lo q < q → top + q ≤ last → Within F l (upto lo q) → Kept F l e lp lo x top q last
      → Kept F l e lp lo (set x top q) (top + 1) (start_of F lo q) last
  unfolding Kept
  kept_push x top q last b u r w c =
      let g : get_or (set x top q) top 0 ≡ q = get_or-set_same x top q 0 b in
      let c' = kept_same x (set x top q) top q last (λ k p. sym (get_or-set_other x top k q 0 (omega arith))) c in
      rw (add-one, g) (idle_none (start_of F lo q), u, r, w, c')

pub same_part : (lo : ℕ) (g : Part) → g.end ≡ lo + g.n → upto lo g.end ≡ g
same_part lo g e = let d : g.end - lo ≡ g.n = omega arith in rw d

-- the walk: g is a part of g0 from its start on
pub record Going (F : List ℕ) (l : Layout) (g0 g : Part) (top : ℕ) : Type 0 where
  pub end : g.end ≡ g0.end - g0.n + g.n
  pub start : g0.n ≤ g0.end
  pub within : Within F l g
  pub less : top + g.n ≤ g0.n

pub going_start : {F : List ℕ} {l : Layout} {g : Part} → Within F l g → Going F l g g 0
going_start {g = g} i = record { end = omega (arith, i.inside); start = i.inside; within = i; less = omega arith }

-- of the trees after g, the ends are in x
pub record Noted (F : List ℕ) (l : Layout) (out : Part → Bool) (g0 : Part) (x : List ℕ) (g : Part) (top : ℕ) : Type 0 where
  pub kept : (e : Each) (lp : Loop) → ((q : Part) → Within F l q → (q.n ≡ 0 → ⊥) → out q ≡ true → Quiet F q e lp) → Kept F l e lp (g0.end - g0.n) x top g.end g0.end

pub noted_start : {F : List ℕ} {l : Layout} {out : Part → Bool} {x : List ℕ} {g : Part} → Noted F l out g x g 0
unfolding Kept
noted_start {g = g} = record { kept = λ e lp o. idle_none g.end }

module _ {F : List ℕ} {l : Layout} {g0 g : Part} {top : ℕ} (i : Going F l g0 g top) (h : 0 < g.n) where
  node : IsNode F l g (node_of F l g)
  node = is_node F l g i.within refl

  abbrev lo : ℕ
  lo = g0.end - g0.n

  before_end : (node_of F l g).before.end ≡ lo + (node_of F l g).before.n
  before_end = omega (arith, i.end, span_le (rows_in F) g.end g.n, node.end, node.n)

  start_is : start_of F lo g.end ≡ (node_of F l g).before.end
  start_is = let d : g.end - lo ≡ g.n = omega (arith, i.end) in rw d (sym node.end)

  in_row : Within F l (upto lo g.end)
  in_row = rw (same_part lo g i.end) i.within

  down : start_of F lo g.end < g.end
  down = rw start_is (omega (arith, i.end, before_end, node.apart, h))

  low : lo ≤ start_of F lo g.end
  low = rw start_is (omega (arith, before_end))

  module _ {rest : Part} (e : rest ≡ (node_of F l g).before) where
    pub going_on : {r : ℕ} → r ≤ 1 → Going F l g0 rest (top + r)
    going_on {r} c = rw e (record { end = before_end; start = i.start; within = node.rest_within; less = omega (arith, node.apart, h, i.less, c) })

    -- the last tree of g is left out, or its end is noted
    pub noted_out : {out : Part → Bool} {x : List ℕ} → Noted F l out g0 x g top → out g ≡ true → Noted F l out g0 x rest top
    noted_out {out} {x} n k = rw e (record {
      kept = λ o lp a.
          let q : Quiet F (upto lo g.end) o lp = rw (same_part lo g i.end) (a g i.within (λ z. omega (arith, z)) k) in
          let t = tree_idle F l lo g.end in_row low down o lp (λ f d. q.0 f d _ _) q.1 in
          rw (← start_is) (kept_skip F l o lp lo x top _ g.end g0.end t (n.kept o lp a));
    })

    pub noted_in : {out : Part → Bool} {x : List ℕ} → Noted F l out g0 x g top → top < length x → Noted F l out g0 (set x top g.end) rest (top + 1)
    noted_in {out} {x} n r =
        rw e (record { kept = λ o lp a. rw (← start_is) (kept_push F l o lp lo x top g.end g0.end r down (omega (arith, i.end, i.start, i.less)) in_row (n.kept o lp a)) })

    -- the same as one step
    pub noted_more : {out : Part → Bool} {x : List ℕ} → Noted F l out g0 x g top → top < length x → {b : Bool} → b ≡ out g → {r : ℕ} → r ≡ from_bool (not b) → Noted F l out g0 (set x top g.end) rest (top + r)
    noted_more {out} {x} n r {b = true} q k =
        let m = noted_out n (sym q) in
        rw (k, add-zero top)
        (record { kept = λ o lp a. kept_same F l o lp lo x (set x top g.end) top rest.end g0.end (λ k p. sym (get_or-set_other x top k g.end 0 (omega arith))) (m.kept o lp a) })
    noted_more n r {b = false} q k = rw k (noted_in n r)

-- where the walk stops
pub noted_down : {F : List ℕ} {l : Layout} {out : Part → Bool} {g0 : Part} {x : List ℕ} {g : Part} {top stop : ℕ} → Going F l g0 g top → Noted F l out g0 x g top → g.end ≤ stop →
    KeptDown F l out stop g0 x top
noted_down {g0 = g0} {g = g} i n h e lp a = (g.end, h, omega (arith, i.end), rw (same_part (g0.end - g0.n) g i.end) i.within, n.kept e lp a)

pub noted_all : {F : List ℕ} {l : Layout} {out : Part → Bool} {g0 : Part} {x : List ℕ} {g : Part} {top : ℕ} → Going F l g0 g top → Noted F l out g0 x g top → g.n ≡ 0 →
    (e : Each) (lp : Loop) → ((q : Part) → Within F l q → (q.n ≡ 0 → ⊥) → out q ≡ true → Quiet F q e lp) → KeptOf F l e lp g0 x top
noted_all {g0 = g0} {g = g} i n z e lp a =
    let d : g.end ≡ g0.end - g0.n = omega (arith, i.end) in
    rw d at (n.kept e lp a)

pub down_all : (F : List ℕ) (l : Layout) (out : Part → Bool) (p : Part) (x : List ℕ) (top : ℕ) → KeptDown F l out (p.end - p.n) p x top →
    (e : Each) (lp : Loop) → ((q : Part) → Within F l q → (q.n ≡ 0 → ⊥) → out q ≡ true → Quiet F q e lp) → KeptOf F l e lp p x top
down_all F l out p x top k e lp a =
    let (q, h, g, w, c) = k e lp a in
    let d : q ≡ p.end - p.n = omega arith in
    subst (λ (q : ℕ). Kept F l e lp (p.end - p.n) x top q p.end) d c

-- a statement before the first label generates nothing
abbrev Silent : Each → Loop → Type 0
Silent e lp = (c : ℕ) (m : Meaning) (ms : Forest Meaning) → element m.rec ≡ meaning.statement → (f d : ℕ) (v : Held (Unit {0})) → after v (one_of e lp f d 0 c m ms) ≡ v

pub element_silent : (lp : Loop) → Silent Element lp
element_silent lp c m ms n f d v = rw n (after_done v)

pub conditional_silent : (lp : Loop) → Silent Conditional lp
conditional_silent lp c m ms n f d v = rw n (after_done v)

pub none_before : {F : List ℕ} {lp : Loop} {lo : ℕ} {e : Each} {q : ℕ} → Idle F e lp lo lo q → labels_of_forest (meanings_at F (upto lo q)) ≡ 0
unfolding meanings labels_of_forest
none_before {F} {lo = lo} i = i.labels ∙ rw (trees_none F (upto lo lo) (omega arith))

-- the first of a switch's elements that are kept has no label, so it generates nothing
module _ (F : List ℕ) (l : Layout) (lp : Loop) (lo : ℕ) (x : List ℕ) (last : ℕ) where
  pub kept_row : (e : Each) (n : ℕ) → (n ≡ 0 → ⊥) → Kept F l e lp lo x n lo last → Within F l (upto lo (get_or x (n - 1) 0))
  unfolding Kept
  kept_row e zero z c = absurd (z refl)
  kept_row e (suc u) z c = rw sub-one c.3

  pub kept_some : (e : Each) (n : ℕ) → (n ≡ 0 → ⊥) → Kept F l e lp lo x n lo last → lo < get_or x (n - 1) 0
  unfolding Kept
  kept_some e zero z c = absurd (z refl)
  kept_some e (suc u) z c = rw sub-one (omega (arith, c.0.up, c.1))

  pub kept_pop : (n : ℕ) → (n ≡ 0 → ⊥) → Kept F l Element lp lo x n lo last → (row_in (rows_of F l) (get_or x (n - 1) 0 - 1)).kind < 100 → Kept F l Element lp lo x (n - 1) lo last
  unfolding Kept
  kept_pop zero z c h = absurd (z refl)
  kept_pop (suc u) z c h =
      let p = upto lo (get_or x u 0) in
      let z : p.n ≡ 0 → ⊥ = λ e. omega (arith, c.0.up, c.1) in
      let n = unlabelled F l p c.3 (rw (← last_kind F l p z refl) (let e : suc u - 1 ≡ u = omega arith in rw e at h)) in
      let t = tree_idle F l lo (get_or x u 0) c.3 c.0.up c.1 Element lp (λ f d. rw (n, none_before c.0) after_done) n in
      rw sub-one (kept_skip F l Element lp lo x u lo _ last (idle_then c.0 t) c.4)

-- records without a label, from a row's start on
module _ (F : List ℕ) (l : Layout) (lp : Loop) (lo : ℕ) (e : Each) (s : Silent e lp) where
  idle_tree : (j : ℕ) → lo < j → (w : Within F l (upto lo j)) → Unlabelled F l lo j →
      ((r : ℕ) → r < j → lo ≤ r → Within F l (upto lo r) → Idle F e lp lo lo r) → Idle F e lp lo lo j
  idle_tree j g w u before =
      let p = upto lo j in
      let d = is_node F l p w refl in
      let m = span_le (rows_in F) j (j - lo) in
      let h : lo ≤ start_of F lo j = omega arith in
      let k : start_of F lo j < j = omega (arith, d.apart, d.n) in
      let z : p.n ≡ 0 → ⊥ = λ z. omega arith in
      let i = before (start_of F lo j) k h (rw (← before_is F l lo j d h k) d.rest_within) in
      let n = unlabelled F l p w (rw (← last_kind F l p z refl) (u.each (j - 1) (omega arith) (omega arith))) in
      idle_then i (tree_idle F l lo j w h k e lp (λ f d v. rw (none_before i) (s _ _ _ n f d v)) n)

  idle_before : (k j : ℕ) → j ≤ k + lo → lo ≤ j → Within F l (upto lo j) → Unlabelled F l lo j → Idle F e lp lo lo j
  idle_before zero j h g w u = let d : j ≡ lo = omega arith in rw d (idle_none lo)
  idle_before (suc k) j h g w u = by_test (ltb lo j) refl (λ r v o a. idle_before k r (omega arith) o v (record { each = λ i y z. u.each i y (omega arith) }))
    where
      by_test : (t : Bool) → ltb lo j ≡ t → ((r : ℕ) → Within F l (upto lo r) → lo ≤ r → r < j → Idle F e lp lo lo r) → Idle F e lp lo lo j
      by_test true t before = idle_tree j (ltb-true lo j t) w u (λ r a o v. before r v o a)
      by_test false t before = let d : j ≡ lo = omega (arith, ltb-false lo j t) in rw d (idle_none lo)

pub down_unlabelled : (F : List ℕ) (l : Layout) (out : Part → Bool) (stop : ℕ) (p : Part) (x : List ℕ) (top : ℕ) → KeptDown F l out stop p x top → Unlabelled F l (p.end - p.n) stop →
    (e : Each) (lp : Loop) → Silent e lp → ((q : Part) → Within F l q → (q.n ≡ 0 → ⊥) → out q ≡ true → Quiet F q e lp) → KeptOf F l e lp p x top
down_unlabelled F l out stop p x top k u e lp s a =
    let (q, h, g, w, c) = k e lp a in
    kept_skip F l e lp (p.end - p.n) x top (p.end - p.n) q p.end
    (idle_before F l lp (p.end - p.n) e s q q (omega arith) g w (record { each = λ i y z. u.each i y (omega arith) })) c
