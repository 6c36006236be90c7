-- `root_holds` meets its contract.
use Rattle.script_records.specs.Layout.{rows_of}
use borrow.Author.Tests.{ne_eqb}
use Rattle.script.proofs.RuleLaws.{root_none, root_size, root_list}
use Rattle.script.proofs.rules.root_holds.Goals as goal

pub returns-then-n-eq0 : goal.returns-then-n-eq0
returns-then-n-eq0 c = root_none (rows_of c.args.script.now.bytes.now c.args.script.now.layout) c.args.script.now.layout.count c.if-n-eq0.true

pub returns-then-t-n : goal.returns-then-t-n
returns-then-t-n c = root_list (rows_of c.args.script.now.bytes.now c.args.script.now.layout) c.args.script.now.layout.count c.if-n-eq0.false c.last_tree-t.ensures c.if-t-n.true c.is_list.ensures

pub returns-else-t-n : goal.returns-else-t-n
returns-else-t-n c = rw (ne_eqb _ _ c.if-t-n.false) (root_size (rows_of c.args.script.now.bytes.now c.args.script.now.layout) c.args.script.now.layout.count c.if-n-eq0.false c.last_tree-t.ensures c.if-t-n.false)
