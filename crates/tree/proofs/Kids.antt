-- The kids of a part, counted from the last.
use Prim.Native.Nat.{ℕ, suc, ◌+◌, ◌-◌, ◌≤◌, ◌<◌}
use mathlib.Core.Path.{◌≡◌, refl, ◌∙◌}
use mathlib.Core.List.{List}
use native.Mathlib.Omega.{arith}
use Rattle.script_records.specs.declared.layout.Layout.{Layout}
use Rattle.script_records.specs.declared.part.Part.{Part}
use Rattle.tree.specs.Trees.{node_of}
use Rattle.tree.specs.Within.{Within, IsKid, IsList, kid_at, list_at}
use Rattle.tree.proofs.Nodes.{is_node}
use Rattle.tree.proofs.Meanings.{kid_next, list_zero, list_next}

-- the loop: so many places are left to go
pub record KidInv (F : List ℕ) (l : Layout) (p : Part) (n : ℕ) (left : Part) (i : ℕ) : Type 0 where
  pub le : i ≤ n
  pub meaning : kid_at F p n ≡ kid_at F left (n - i)
  pub means : list_at F p n ≡ list_at F left (n - i)
  pub within : Within F l left
  pub fewer : left.n ≤ p.n

pub kid_on : {F : List ℕ} {l : Layout} {p : Part} {n : ℕ} {left : Part} {i : ℕ} → KidInv F l p n left i → i < n → {rest : Part} → rest ≡ (node_of F l left).before → KidInv F l p n rest (i + 1)
kid_on {F} {l} {p} {n} {left} {i} v h e =
    let k = is_node F l left v.within refl in
    let o : n - i ≡ suc (n - (i + 1)) = omega arith in
    rw e
    (record {
      le = omega arith;
      meaning = rw o at v.meaning ∙ kid_next F l left k (n - (i + 1));
      means = rw o at v.means ∙ list_next F l left k (n - (i + 1));
      within = k.rest_within;
      fewer = omega (arith, k.apart, v.fewer);
    })

pub list_found : {F : List ℕ} {l : Layout} {p kid : Part} {n : ℕ} → IsKid F l p n kid → {kids : Part} → kids ≡ (node_of F l kid).children → IsList F l p n kids
list_found {F} {l} {p} {kid} {n} k e =
    let i = is_node F l kid k.within refl in
    rw e (record { means = k.means ∙ list_zero F l kid i; within = i.kids_within; fewer = omega (arith, i.apart, k.fewer) })
