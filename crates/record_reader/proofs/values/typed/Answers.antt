use Rattle.record_reader.proofs.values.typed.Goals as goal

pub returns-in-3 : goal.returns-in-3
returns-in-3 c = rw (c.in-3.is, c.pushed-in-3.ensures)

pub returns-in-6 : goal.returns-in-6
returns-in-6 c = rw c.in-6.is (c.float.ensures c.args.at c.args.pool)

pub returns-in-9 : goal.returns-in-9
returns-in-9 c = rw c.in-9.is (c.wide_constant.ensures c.args.at)
