-- Laws of the subtrees of a part of the records.
use Prim.Native.Nat.{ℕ, zero, suc, ◌-◌, ◌≤◌, ◌<◌, min, max}
use mathlib.Core.Path.{◌≡◌, refl, ◌∙◌}
use mathlib.Core.List.{List}
use native.Mathlib.Omega.{arith}
use Rattle.hir.specs.Tree.{none, more}
use Rattle.script_records.specs.declared.layout.Row.{Row}
use Rattle.script_records.specs.declared.part.Part.{Part}
use Rattle.script_records.specs.declared.part.Tree.{Tree}
use Rattle.script_records.specs.Parts.{trees_in, last_tree}
use Rattle.script_records.specs.Layout.{words_of, row_in, span_at, forest_in, forest}

pub span_le : (rs : List Row) (e n : ℕ) → span_at rs e n ≤ n
unfolding span_at
span_le rs e n = omega arith

pub span_pos : (rs : List Row) (e n : ℕ) → 0 < n → 0 < span_at rs e n
unfolding span_at
span_pos rs e n h = omega arith

-- more steps than records change nothing
fuel : (k j : ℕ) (rs : List Row) (e n : ℕ) → n ≤ k → n ≤ j → forest_in k rs e n ≡ forest_in j rs e n
unfolding forest_in
fuel zero zero rs e n p q = refl
fuel zero (suc j) rs e zero p q = refl
fuel (suc k) zero rs e zero p q = refl
fuel (suc k) (suc j) rs e zero p q = refl
fuel zero (suc j) rs e (suc n) p q = absurd (omega arith)
fuel (suc k) zero rs e (suc n) p q = absurd (omega arith)
fuel (suc k) (suc j) rs e (suc n) p q =
    let a = span_le rs e (suc n) in
    let b = span_pos rs e (suc n) (omega arith) in
    rw (
      fuel k j rs (e - span_at rs e (suc n)) (suc n - span_at rs e (suc n)) (omega arith) (omega arith),
      fuel k j rs (e - 1) (span_at rs e (suc n) - 1) (omega arith) (omega arith),
    )

pub forest_none : (rs : List Row) (e : ℕ) → forest rs e 0 ≡ none
unfolding forest forest_in
forest_none rs e = refl

pub forest_more : (rs : List Row) (e n : ℕ) → 0 < n →
    forest rs e n ≡ more (forest rs (e - span_at rs e n) (n - span_at rs e n)) (words_of (row_in rs (e - 1))) (forest rs (e - 1) (span_at rs e n - 1))
unfolding forest forest_in
forest_more rs e zero p = absurd (omega arith)
forest_more rs e (suc n) p =
    let a = span_le rs e (suc n) in
    let b = span_pos rs e (suc n) (omega arith) in
    rw (
      fuel n (suc n - span_at rs e (suc n)) rs (e - span_at rs e (suc n)) (suc n - span_at rs e (suc n)) (omega arith) (omega arith),
      fuel n (span_at rs e (suc n) - 1) rs (e - 1) (span_at rs e (suc n) - 1) (omega arith) (omega arith),
    )

-- the last subtree of a part, as the walk has it
module _ (rs : List Row) (p : Part) {t : Tree} (e : t ≡ last_tree rs p) where
  pub tree_less : 0 < p.n → (t.children.n < p.n) × (t.before.n < p.n)
  unfolding last_tree
  tree_less h =
      let a = span_le rs p.end p.n in
      let b = span_pos rs p.end p.n h in
      rw e (omega arith, omega arith)

  pub tree_more : 0 < p.n → trees_in rs p ≡ more (trees_in rs t.before) (words_of t.row) (trees_in rs t.children)
  unfolding last_tree
  tree_more h = rw e (forest_more rs p.end p.n h)

pub trees_none : (rs : List Row) (p : Part) → p.n ≡ 0 → trees_in rs p ≡ none
trees_none rs p h = rw h (forest_none rs p.end)

pub tree_made : (rs : List Row) (p : Part) {row : Row} {at s : ℕ} → at ≡ p.end - 1 → row ≡ row_in rs at → s ≡ min (max row.size 1) p.n →
    ◌≡◌ {A = Tree} (record { row = row; children = record { end = at; n = s - 1 }; before = record { end = p.end - s; n = p.n - s } }) (last_tree rs p)
unfolding last_tree span_at
tree_made rs p {row} {at} {s} a b c = let e : s ≡ min p.n (max 1 row.size) = omega arith in cc

-- a tree as large as its record says
pub tree_sized : (rs : List Row) (p : Part) (s : ℕ) {row : Row} {at : ℕ} {t : Tree} → at ≡ p.end - 1 → row ≡ row_in rs at → row.size ≡ s → 1 ≤ s → s ≤ p.n →
    t ≡ record { row = row; children = record { end = at; n = s - 1 }; before = record { end = p.end - s; n = p.n - s } } → t ≡ last_tree rs p
tree_sized rs p s a b size some room e = e ∙ tree_made rs p {s = s} a b (omega arith)
