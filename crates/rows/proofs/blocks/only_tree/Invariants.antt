use Rattle.std.specs.Option.{is_none}
use Rattle.rows.proofs.Innermost.{OnlyInv}
use Rattle.rows.proofs.blocks.only_tree.Given as goal

abbrev pub invariant-loop : goal.invariant-loop
invariant-loop l = OnlyInv l.row.script (is_none l.lp.exit) (is_none l.lp.next) l.row.part l.found l.left
