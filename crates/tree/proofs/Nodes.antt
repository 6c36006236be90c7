-- The node of a part is its last tree.
use Prim.Native.Nat.{ℕ, ◌+◌, ◌-◌, ◌≤◌, ◌<◌, min}
use mathlib.Core.Path.{◌≡◌, refl, sym, ◌∙◌}
use mathlib.Core.List.{List, []}
use mathlib.Core.Bool.{Bool, true, false, ◌&&◌}
use mathlib.Core.Option.{get_or}
use Rattle.std.specs.Prelude.{Option, Some, None}
use Rattle.std.specs.Option.{option_map_or}
use lib.Dec.{T, leb, eqb}
use native.Mathlib.Omega.{arith}
use borrow.Author.Tests.{false-eqb, eqb-true, eqb-false, eq-eqb, ne_eqb, leb-true}
use Rattle.hir.specs.Hir.{Str}
use Rattle.hir.specs.Tree.{Forest, more, map_forest}
use Rattle.hir.specs.declared.ExprKind.TheVariants as expr
use Rattle.hir.specs.declared.Record.{Record}
use Rattle.hir.specs.declared.Record.TheVariants as kind
use Rattle.script_records.specs.declared.layout.Layout.{Layout}
use Rattle.script_records.specs.declared.part.Part.{Part}
use Rattle.script_records.specs.declared.part.Tree.{Tree}
use Rattle.script_records.specs.Layout.{words_of, layout_of, string_at, rows_of, row_in, HasRow, span_at}
use Rattle.script_records.specs.Parts.{last_tree}
use Rattle.decode.specs.Decode.{record_of}
use Rattle.script_records.proofs.Trees.{span_le, span_pos, tree_more}
use Rattle.script_records.proofs.Trees as records
use Rattle.script.specs.Resolve.{resolved, name_over}
use Rattle.script.specs.Rules.{parted}
use Rattle.script.proofs.RecordLaws.{parted_law}
use Rattle.script.proofs.WrittenRows.{first, second}
use Rattle.lowering.specs.Meaning.{list}
use Rattle.lowering.specs.Statement.{header}
use Rattle.list_slice.specs.File.{rec_in, record_in, children_in, header_in, params_of}
use Rattle.tree.specs.declared.Node.{Node}
use Rattle.tree.specs.Trees.{rows_in, trees, rec_of, made_node, no_node, node_of}
use Rattle.tree.specs.Within.{Within, IsNode, live, record_named}

-- What `is_empty` answers where trees are left. The library's `false-eqb` says no more than that it is not 0.
pub some_trees : {n : ℕ} → false ≡ eqb n 0 → 0 < n
some_trees {n} h = omega (arith, false-eqb n 0 h)

module _ (F : List ℕ) (l : Layout) (p : Part) where
  pub node_none : p.n ≡ 0 → no_node p ≡ node_of F l p
  unfolding node_of
  node_none h = rw (eq-eqb p.n 0 h)

  pub node_made : (p.n ≡ 0 → ⊥) → {t : Tree} → t ≡ last_tree (rows_of F l) p → {root : Record} → root ≡ record_of (words_of t.row) →
      ◌≡◌ {A = Node Part} (record { root = root; number = t.children.end; children = t.children; before = t.before }) (node_of F l p)
  unfolding node_of
  node_made h e q = rw (ne_eqb p.n 0 h, q, e)

module _ (F : List ℕ) (p : Part) where
  pub trees_none : p.n ≡ 0 → trees F p ≡ Forest.none
  unfolding trees map_forest
  trees_none h = rw (records.trees_none (rows_in F) p h)

  abbrev last : Tree
  last = last_tree (rows_in F) p

  trees_last : 0 < p.n → trees F p ≡ more (trees F last.before) (rec_of F (record_of (words_of last.row))) (trees F last.children)
  unfolding trees map_forest rec_in
  trees_last h = rw (tree_more (rows_in F) p {t = last} refl h)

-- a name's bytes, none where there is no name
pub name_bytes : (text : ℕ → Str) (n : Option ℕ) → get_or (name_over text n) [] ≡ option_map_or text n []
name_bytes text None = refl
name_bytes text (Some i) = refl

live_one : (r : Record) → live r ≤ 1
live_one (kind.Statement k) = omega arith
live_one (kind.Expr k) = omega arith
live_one kind.Absent = omega arith
live_one (kind.List n) = omega arith
live_one (kind.ObjectField n) = omega arith
live_one (kind.Parameter n r) = omega arith
live_one kind.Case = omega arith
live_one kind.Default = omega arith
live_one kind.Other = omega arith

-- the records before the end of a part that the walk has come to
pub row_known : (F : List ℕ) (l : Layout) (p : Part) → Within F l p → (i : ℕ) → i < p.end → HasRow F l i
row_known F l p w i h = rw w.layout (omega (arith, w.known), omega (arith, w.known, w.sound.areas))

-- the sizes of a part that the walk has come to
module _ (F : List ℕ) (l : Layout) (p : Part) (w : Within F l p) (some_left : 0 < p.n) where
  abbrev size : ℕ
  size = (row_in (rows_in F) (p.end - 1)).size

  abbrev span : ℕ
  span = span_at (rows_in F) p.end p.n

  law : ((leb 1 size && leb size p.n) && parted (rows_in F) (p.end - span) (p.n - span)) ≡ true
  law = sym (parted_law (rows_in F) p.end p.n some_left) ∙ w.whole

  size_some : 1 ≤ size
  size_some = leb-true 1 size (first (leb 1 size) _ (first (leb 1 size && leb size p.n) _ law))

  size_inside : size ≤ p.n
  size_inside = leb-true size p.n (second (leb 1 size) _ (first (leb 1 size && leb size p.n) _ law))

  span_size : span ≡ size
  unfolding span_at
  span_size = let a = size_some in let b = size_inside in omega arith

  last_known : p.end - 1 < (layout_of F).count
  last_known = let a = w.inside in let b = w.known in omega arith

  abbrev made : Node Part
  made = made_node (last F p)

  kids_within : Within F l made.children
  unfolding last_tree
  kids_within =
      let a = w.inside in
      let b = w.known in
      let d = span_le (rows_in F) p.end p.n in
      record {
        layout = w.layout;
        inside = omega arith;
        known = omega arith;
        whole = rw span_size (w.sound.whole (p.end - 1) last_known);
        sound = w.sound;
      }

  rest_within : Within F l made.before
  unfolding last_tree
  rest_within =
      let a = w.inside in
      let b = w.known in
      let d = span_le (rows_in F) p.end p.n in
      record {
        layout = w.layout;
        inside = omega arith;
        known = omega arith;
        whole = second (leb 1 size && leb size p.n) _ law;
        sound = w.sound;
      }

  header_is : (n : Option ℕ) (g m : ℕ) → made.root ≡ kind.Expr (expr.Function n g m) →
      header_in F made.number ≡ header (option_map_or (string_at F (layout_of F)) n []) g m (params_of (list 1 (trees F made.children))) (leb g 1)
  unfolding last_tree header_in record_in children_in rec_in trees resolved
  header_is n g m e = rw (e, span_size, name_bytes (string_at F (layout_of F)) n)

  apart_last : min 1 p.n + made.children.n + made.before.n ≤ p.n
  unfolding last_tree
  apart_last =
      let d = span_le (rows_in F) p.end p.n in
      let s = span_pos (rows_in F) p.end p.n some_left in
      omega arith

  before_is : (made.before.end ≡ p.end - span) × (made.before.n ≡ p.n - span)
  unfolding last_tree
  before_is = (refl, refl)

  named_last : T (record_named F made.number made.root)
  unfolding last_tree
  named_last = w.sound.named (p.end - 1) last_known

  is_made : IsNode F l p made
  is_made =
      let t = trees_last F p some_left in
      record {
        root = rw t;
        kids = rw t;
        rest = rw t;
        kids_within = kids_within;
        rest_within = rest_within;
        real = omega (arith, live_one made.root);
        apart = apart_last;
        end = before_is.0;
        n = before_is.1;
        named = named_last;
        function_header = header_is;
      }

is_none : (F : List ℕ) (l : Layout) (p : Part) → Within F l p → p.n ≡ 0 → IsNode F l p (no_node p)
unfolding resolved span_at
is_none F l p w h =
    let t = trees_none F p h in
    record {
      root = rw t;
      kids = rw t;
      rest = rw t;
      kids_within = w;
      rest_within = w;
      real = omega arith;
      apart = omega arith;
      end = omega arith;
      n = omega arith;
      named = tt;
      function_header = λ n g m e. cc;
    }

pub is_node : (F : List ℕ) (l : Layout) (p : Part) {r : Node Part} → Within F l p → r ≡ node_of F l p → IsNode F l p r
is_node F l p {r} w e = by (eqb p.n 0) refl
  where
    by : (t : Bool) → eqb p.n 0 ≡ t → IsNode F l p r
    by true q = let h = eqb-true p.n 0 q in rw (e, ← node_none F l p h) (is_none F l p w h)
    by false q =
        let h = eqb-false p.n 0 q in
        let m : node_of F l p ≡ made_node (last F p) = rw w.layout (sym (node_made F (layout_of F) p h {t = last F p} refl refl)) in
        rw (e, m) (is_made F l p w (omega arith))

-- the parts round the last tree, by its size
module _ (F : List ℕ) (l : Layout) (p : Part) (w : Within F l p) (h : 0 < p.n) {s : ℕ} (is : s ≡ (row_in (rows_of F l) (p.end - 1)).size) where
  same_size : s ≡ size F l p w h
  same_size = rw (is, w.layout)

  pub size_most : s ≤ p.n
  size_most = rw same_size (size_inside F l p w h)

  pub size_least : 1 ≤ s
  size_least = rw same_size (size_some F l p w h)

  pub span_is : span_at (rows_in F) p.end p.n ≡ s
  span_is = span_size F l p w h ∙ sym same_size

  pub rest_is : ◌≡◌ {A = Part} (record { end = p.end - s; n = p.n - s }) (node_of F l p).before
  rest_is = let i = is_node F l p w refl in rw (← span_is, ← i.end, ← i.n)

  pub children_are : ◌≡◌ {A = Part} (record { end = p.end - 1; n = s - 1 }) (node_of F l p).children
  unfolding node_of last_tree
  children_are = rw (ne_eqb p.n 0 (λ e. omega arith), ← span_is, w.layout)

-- the trees of a part by its node
module _ (F : List ℕ) (l : Layout) (p : Part) {r : Node Part} (i : IsNode F l p r) where
  pub trees_more : 0 < p.n → trees F p ≡ more (trees F r.before) (rec_of F r.root) (trees F r.children)
  trees_more h =
      let t = trees_last F p h in
      t ∙ rw (i.rest, i.kids, ← i.root, t)
