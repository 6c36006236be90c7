-- What the handle of trees in a row stands for.
use Rattle.std.specs.Prelude.{ℕ, ◌<◌, ◌≡◌, List, Option, MatchOption}
use Rattle.hir.specs.Hir.{Rec}
use Rattle.hir.specs.Tree.{Forest}
use Rattle.script_records.specs.declared.part.Part.{Part}
use Rattle.lowering.specs.Meaning.{Meaning}
use Rattle.tree.specs.declared.Node.{Node}
use Rattle.tree.specs.declared.Trees.{Trees}
use Rattle.tree.specs.Trees.{trees, node_of}
use Rattle.tree.specs.Within.{meanings_at, kid_at, list_at}

-- the file, and the trees with their strings resolved
abbrev pub file_of : Trees → List ℕ
file_of t = t.script.bytes.now

abbrev pub trees_of : Trees → Forest Rec
trees_of t = trees (file_of t) t.part

-- a node by its parts of the records
abbrev pub parts_of : Node Trees → Node Part
parts_of r = record { root = r.root; number = r.number; children = r.children.part; before = r.before.part }

-- what the trees generate; the one n places before the last; the children of that one
abbrev pub meanings_of : Trees → Forest Meaning
meanings_of t = meanings_at (file_of t) t.part

abbrev pub kid_of : Trees → ℕ → Meaning
kid_of t n = kid_at (file_of t) t.part n

abbrev pub list_of : Trees → ℕ → Forest Meaning
list_of t n = list_at (file_of t) t.part n

-- the trees before the last
pub record IsRest (t rest : Trees) : Type 0 where
  pub script : rest.script ≡ t.script
  pub part : rest.part ≡ (node_of (file_of t) t.script.layout t.part).before

-- going through them from the last to the first: each is given as the trees up to it
abbrev pub GivesLast : Trees → Option Trees → Trees → Type 0
GivesLast s r t = MatchOption r ((s.part.n ≡ 0) × (t ≡ s)) (λ x. (x ≡ s) × (0 < s.part.n) × IsRest s t)
