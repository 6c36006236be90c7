-- The walk over a part's subtrees, and what it answers.
use Rattle.std.specs.Prelude.{ℕ, ◌<◌, ◌≡◌, List, cond, Option, Some, None, MatchOption}
use Rattle.script_records.specs.declared.layout.Row.{Row}
use Rattle.script_records.specs.declared.part.Part.{Part}
use Rattle.script_records.specs.declared.part.Tree.{Tree}
use Rattle.script_records.specs.Layout.{rows_of}
use Rattle.script.specs.declared.record_rules.Siblings.{Siblings}
use Rattle.script_records.specs.Parts.{trees_in, last_tree}
use Rattle.script.specs.Forms.{trees}
use Rattle.script.specs.Rules.{parted}

-- how many subtrees a part has, if it is parted
abbrev pub siblings_of : List Row → Part → Option ℕ
siblings_of rs p = cond (parted rs p.end p.n) (Some (trees (trees_in rs p))) None

-- a step takes the last subtree x, and leaves those before it
pub record Takes (s : Siblings) (x : Tree) (t : Siblings) : Type 0 where
  pub some : 0 < s.part.n
  pub last : x ≡ last_tree (rows_of s.script.bytes.now s.script.layout) s.part
  pub script : t.script ≡ s.script
  pub part : t.part ≡ x.before

abbrev pub GivesLast : Siblings → Option Tree → Siblings → Type 0
GivesLast s r t = MatchOption r ((s.part.n ≡ 0) × (t ≡ s)) (λ x. Takes s x t)
