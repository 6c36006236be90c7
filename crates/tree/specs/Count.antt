-- How the counts of trees in a row grow by one tree before them.
use Rattle.std.specs.Prelude.{◌+◌, ◌<◌, Some}
use Rattle.std.specs.Option.{option_or}
use Rattle.tree.specs.declared.Element.{Element}
use Rattle.tree.specs.declared.Element.TheVariants.{Case, Default, Statement}
use Rattle.tree.specs.declared.Counts.{Counts}

-- counts that can grow
pub record Few (c : Counts) : Type 0 where
  pub trees : c.trees < 65536
  pub labels : c.labels < 65536
  pub cases : c.cases < 65536

-- only the last Default says where to count from
abbrev pub with_tree : Element → Counts → Counts
with_tree Case c = record { trees = c.trees + 1; labels = c.labels + 1; cases = c.cases + 1; from_default = c.from_default }
with_tree Default c =
    record { trees = c.trees + 1; labels = c.labels + 1; cases = c.cases; from_default = option_or c.from_default (Some (c.labels + 1)) }
with_tree Statement c = record { trees = c.trees + 1; labels = c.labels; cases = c.cases; from_default = c.from_default }
