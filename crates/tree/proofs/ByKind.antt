-- What a record's kind alone says of it.
use Prim.Native.Nat.{ℕ, ◌-◌, ◌<◌}
use mathlib.Core.Path.{◌≡◌, refl, sym}
use mathlib.Core.Bool.{Bool, true, false, cond, not}
use mathlib.Core.List.{List}
use native.Mathlib.Omega.{arith}
use lib.Dec.{ltb, eqb}
use borrow.Author.Tests.{eq-eqb, ne_eqb}
use Rattle.hir.specs.declared.Record.{Record}
use Rattle.script_records.specs.declared.layout.Layout.{Layout}
use Rattle.script_records.specs.declared.layout.Row.{Row}
use Rattle.script_records.specs.declared.part.Part.{Part}
use Rattle.script_records.specs.declared.part.Tree.{Tree}
use Rattle.script_records.specs.Layout.{Words, words_of, supported, rows_of, row_in}
use Rattle.script_records.specs.Parts.{last_tree}
use Rattle.decode.specs.Decode.{record_of, plain_of}
use Rattle.tree.specs.declared.Element.TheVariants.{Statement}
use Rattle.tree.specs.Trees.{node_of, kind_at, element_of}

-- what holds of both choices
pub either : (P : Record → Type 0) (b : Bool) (x y : Record) → P x → P y → P (cond b x y)
either P true x y p q = p
either P false x y p q = q

module _ (F : List ℕ) (l : Layout) (p : Part) where
  pub kind_none : p.n ≡ 0 → 96 ≡ kind_at F l p
  unfolding kind_at
  kind_none h = rw (eq-eqb p.n 0 h)

  pub kind_made : (p.n ≡ 0 → ⊥) → {t : Tree} → t ≡ last_tree (rows_of F l) p → t.row.kind ≡ kind_at F l p
  unfolding kind_at
  kind_made h e = rw (ne_eqb p.n 0 h, e)

  pub last_kind : (p.n ≡ 0 → ⊥) → {row : Row} → row ≡ row_in (rows_of F l) (p.end - 1) → row.kind ≡ kind_at F l p
  unfolding kind_at last_tree
  last_kind h e = rw (ne_eqb p.n 0 h, e)

  pub rest_none : p.n ≡ 0 → p ≡ (node_of F l p).before
  unfolding node_of
  rest_none h = rw (eq-eqb p.n 0 h)

  pub kids_none : p.n ≡ 0 → p ≡ (node_of F l p).children
  unfolding node_of
  kids_none h = rw (eq-eqb p.n 0 h)

  pub kids_made : (p.n ≡ 0 → ⊥) → {t : Tree} → t ≡ last_tree (rows_of F l) p → t.children ≡ (node_of F l p).children
  unfolding node_of
  kids_made h e = rw (ne_eqb p.n 0 h, e)

-- Case and Default have the kinds 100 and 101
abbrev IsStatement : Record → Type 0
IsStatement r = element_of r ≡ Statement

below_100 : (w : Words) → w.kind < 100 → IsStatement (record_of w)
unfolding record_of plain_of
below_100 w h =
    let p = either IsStatement in
    let k = w.kind in
    p (eqb k 0) _ _ refl
    (p (eqb k 5) _ _ refl
    (p (eqb k 32) _ _ refl
    (p (eqb k 40) _ _ refl
    (p (eqb k 41) _ _ refl
    (p (eqb k 49) _ _ refl
    (p (eqb k 52) _ _ refl
    (p (eqb k 69) _ _ refl
    (p (eqb k 75) _ _ refl
    (p (eqb k 76) _ _ refl
    (p (eqb k 97) _ _ refl
    (p (eqb k 98) _ _ refl
    (p (eqb k 99) _ _ refl
    (p (not (supported k)) _ _ refl
    (p (ltb k 16) _ _ refl
    (p (ltb k 32) _ _ refl
    (p (ltb k 78) _ _ refl
    (p (eqb k 96) _ _ refl (rw (ne_eqb k 100 (λ e. omega arith), ne_eqb k 101 (λ e. omega arith))))))))))))))))))))

pub no_label : (F : List ℕ) (l : Layout) (p : Part) → kind_at F l p < 100 → Statement ≡ element_of (node_of F l p).root
unfolding kind_at node_of
no_label F l p h = by (eqb p.n 0) refl
  where
    by : (b : Bool) → eqb p.n 0 ≡ b → Statement ≡ element_of (node_of F l p).root
    by true e = rw e
    by false e = rw e (sym (below_100 (words_of (last_tree (rows_of F l) p).row) (rw e at h)))
