-- The search of a row for a tree that is hoisted.
use Prim.Native.Nat.{ℕ, ◌<◌}
use mathlib.Core.Path.{◌≡◌, refl}
use mathlib.Core.Bool.{Bool, true, false, ◌||◌}
use mathlib.Core.List.{List}
use Rattle.script_records.specs.declared.layout.Layout.{Layout}
use Rattle.script_records.specs.declared.part.Part.{Part}
use Rattle.lowering.specs.Meaning.{hoisted}
use Rattle.lowering.specs.Statement.{meanings}
use Rattle.tree.specs.Trees.{node_of}
use Rattle.tree.specs.Within.{Within, meanings_at, kid_at, list_at}
use Rattle.tree.proofs.Nodes.{is_node, trees_more, trees_none}
use Rattle.rows.specs.Rows.{any_hoisted}

-- none of the trees after `left` is hoisted
module _ (F : List ℕ) (left : Part) {b : Bool} (same : any_hoisted (meanings_at F left) ≡ b) where
  pub looked_all : left.n ≡ 0 → false ≡ b
  unfolding meanings any_hoisted
  looked_all z = rw (trees_none F left z) at same

  module _ {l : Layout} (w : Within F l left) (z : 0 < left.n) {h : Bool} (e : h ≡ hoisted (kid_at F left 0).rec (list_at F left 0)) where
    more : any_hoisted (meanings_at F left) ≡ (hoisted (kid_at F left 0).rec (list_at F left 0) || any_hoisted (meanings_at F (node_of F l left).before))
    unfolding meanings any_hoisted
    more = rw (trees_more F l left (is_node F l left w refl) z)

    pub looked_found : h ≡ true → true ≡ b
    looked_found t = rw (more, ← e, t) at same

    pub looked_more : h ≡ false → {r : Part} → r ≡ (node_of F l left).before → any_hoisted (meanings_at F r) ≡ b
    looked_more f q = rw q (rw (more, ← e, f) at same)
