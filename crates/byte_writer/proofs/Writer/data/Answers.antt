use Rattle.std.proofs.Common.{arith}
use borrow.Author.Tests.{ne_eqb}
use Rattle.byte_writer.specs.Data.{action_data}
use Rattle.byte_writer.proofs.Writes.{writes_none}
use Rattle.byte_writer.proofs.Writer.data.Goals as goal

pub returns-in_default : goal.returns-in_default
unfolding action_data
returns-in_default c = rw (ne_eqb c.args.entry.code 136 (λ e. omega arith), ne_eqb c.args.entry.code 140 (λ e. omega arith), ne_eqb c.args.entry.code 135 (λ e. omega arith), ne_eqb c.args.entry.code 159 (λ e. omega arith), ne_eqb c.args.entry.code 129 (λ e. omega arith), ne_eqb c.args.entry.code 153 (λ e. grind arith), ne_eqb c.args.entry.code 157 (λ e. grind arith)) (writes_none c.args.self.now)
