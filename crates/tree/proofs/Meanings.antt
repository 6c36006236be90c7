-- What the trees of a part mean, by the part's node, and how many trees there can be.
use Prim.Native.Nat.{ℕ, suc, ◌+◌, ◌≤◌}
use mathlib.Core.Path.{◌≡◌, refl, ◌∙◌}
use mathlib.Core.List.{List}
use native.Mathlib.Omega.{arith}
use Rattle.std.specs.Prelude.{Option, None, Some, IfSome}
use Rattle.hir.specs.Hir.{Rec}
use Rattle.hir.specs.Tree.{Forest, more, count}
use Rattle.hir.proofs.Laws.{map_count}
use Rattle.script_records.specs.declared.layout.Layout.{Layout}
use Rattle.script_records.specs.declared.part.Part.{Part}
use Rattle.script_records.specs.Parts.{trees_in}
use Rattle.script.proofs.WrittenRows.{forest_count}
use Rattle.lowering.specs.Meaning as meaning
use Rattle.lowering.specs.Meaning.{kid, list, width}
use Rattle.lowering.specs.Statement.{meaning, meanings}
use Rattle.lowering.proofs.Laws.{kid_law, list_law}
use Rattle.list_slice.specs.File.{rec_in}
use Rattle.tree.specs.declared.Node.{Node}
use Rattle.tree.specs.Trees.{rows_in, trees, rec_of, is_labelled, is_case, labelled, cases, from_default_at, from_default_of}
use Rattle.tree.specs.Within.{but_last, IsNode}

kid_before : (n : ℕ) (f : Forest Rec) → kid (suc n) (meanings f) ≡ kid n (meanings (but_last f))
unfolding meanings
kid_before n Forest.none = refl
kid_before n (more before r kids) = refl

list_before : (n : ℕ) (f : Forest Rec) → list (suc n) (meanings f) ≡ list n (meanings (but_last f))
unfolding meanings
list_before n Forest.none = refl
list_before n (more before r kids) = refl

module _ (F : List ℕ) (l : Layout) (p : Part) {r : Node Part} (i : IsNode F l p r) where
  pub kid_zero : kid 0 (meanings (trees F p)) ≡ meaning (rec_of F r.root) (meanings (trees F r.children))
  kid_zero = kid_law 0 (trees F p) ∙ rw (i.root, i.kids)

  pub kid_next : (n : ℕ) → kid (suc n) (meanings (trees F p)) ≡ kid n (meanings (trees F r.before))
  kid_next n = kid_before n (trees F p) ∙ rw i.rest

  pub list_zero : list 0 (meanings (trees F p)) ≡ meanings (trees F r.children)
  list_zero = list_law 0 (trees F p) ∙ rw i.kids

  pub list_next : (n : ℕ) → list (suc n) (meanings (trees F p)) ≡ list n (meanings (trees F r.before))
  list_next n = list_before n (trees F p) ∙ rw i.rest

pub width_count : {A : Type 0} (f : Forest A) → width f ≤ count f
unfolding count
width_count Forest.none = omega arith
width_count (more before r kids) = let h = width_count before in omega arith

one_label : (e : meaning.Element) → (is_case e ≤ is_labelled e) × (is_labelled e ≤ 1)
one_label meaning.case = (omega arith, omega arith)
one_label meaning.default = (omega arith, omega arith)
one_label meaning.statement = (omega arith, omega arith)

from_label : (e : meaning.Element) (o : Option ℕ) (m : ℕ) → IfSome o (λ k. k ≤ m) → IfSome (from_default_at e o) (λ k. k ≤ m + is_labelled e)
from_label meaning.case None m h = h
from_label meaning.case (Some k) m h = omega arith
from_label meaning.default o m h = omega arith
from_label meaning.statement None m h = h
from_label meaning.statement (Some k) m h = omega arith

pub labelled_width : (f : Forest Rec) → labelled f ≤ width f
unfolding labelled
labelled_width Forest.none = omega arith
labelled_width (more before r kids) = let h = labelled_width before in let k = one_label (meaning.element r) in omega arith

pub cases_labelled : (f : Forest Rec) → cases f ≤ labelled f
unfolding labelled cases
cases_labelled Forest.none = omega arith
cases_labelled (more before r kids) = let h = cases_labelled before in let k = one_label (meaning.element r) in omega arith

pub default_labelled : (f : Forest Rec) → IfSome (from_default_of f) (λ k. k ≤ labelled f)
unfolding labelled from_default_of
default_labelled Forest.none = tt
default_labelled (more before r kids) = from_label (meaning.element r) (from_default_of before) (labelled before) (default_labelled before)

module _ (F : List ℕ) (p : Part) where
  pub trees_count : count (trees F p) ≡ p.n
  unfolding trees
  trees_count = map_count (rec_in F) (trees_in (rows_in F) p) ∙ forest_count (rows_in F) p.end p.n

  pub width_less : width (trees F p) ≤ p.n
  width_less = let h = trees_count in omega (arith, width_count (trees F p))

  pub labelled_less : labelled (trees F p) ≤ p.n
  labelled_less = let h = width_less in omega (arith, labelled_width (trees F p))

  pub cases_less : cases (trees F p) ≤ labelled (trees F p)
  cases_less = cases_labelled (trees F p)

  pub default_less : IfSome (from_default_of (trees F p)) (λ k. k ≤ labelled (trees F p))
  default_less = default_labelled (trees F p)
