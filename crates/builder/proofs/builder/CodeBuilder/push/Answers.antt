use mathlib.Core.Path.{refl, sym}
use Rattle.codegen_state.proofs.Steps.{stays}
use Rattle.builder.proofs.Leaves.{room_value}
use Rattle.builder.proofs.Pushes.{push_full, push_no_action, joins_fine, push_joins, begins_fine, push_begins}
use Rattle.builder.proofs.Runs.{grown_pool, kept, wrote, counts, words}
use Rattle.builder.proofs.builder.CodeBuilder.push.Goals as goal

pub returns-then-is_some : goal.returns-then-is_some
returns-then-is_some c = record { keeps = kept refl; runs = λ F n. counts refl (stays (sym c.if-is_some.ensures) c.args.self.now.fine) }

pub returns-then-self-ge-MAX_VALUES : goal.returns-then-self-ge-MAX_VALUES
returns-then-self-ge-MAX_VALUES c = record { keeps = kept refl; runs = λ F n. counts refl (push_full F c.args.v c.args.self.now.fine (sym c.if-is_some.ensures) c.if-self-ge-MAX_VALUES.true) }

pub grow-requires-clause-low_lt_top : goal.grow-requires-clause-low_lt_top
grow-requires-clause-low_lt_top c = room_value c.args.self.now.fine c.if-self-ge-MAX_VALUES.false

pub invariant_of-self-then-joins : goal.invariant_of-self-then-joins
invariant_of-self-then-joins c = record { fine = joins_fine c.args.self.now.fine c.value_entry-x.ensures c.if-self-ge-MAX_VALUES.false c.joins.ensures c.if-joins.true c.grow.ensures }

pub returns-then-joins : goal.returns-then-joins
returns-then-joins c = record { keeps = wrote c.grow.auto.list (grown_pool c.args.self.now.fine (room_value c.args.self.now.fine c.if-self-ge-MAX_VALUES.false) c.grow.ensures); runs = λ F n. words c.grow.auto.list (grown_pool c.args.self.now.fine (room_value c.args.self.now.fine c.if-self-ge-MAX_VALUES.false) c.grow.ensures) (push_joins c.args.self.now.fine c.value_entry-x.ensures c.if-self-ge-MAX_VALUES.false c.joins.ensures c.if-joins.true c.grow.ensures F n (sym c.if-is_some.ensures)) }

pub returns-then-self-ge-MAX_ACTIONS : goal.returns-then-self-ge-MAX_ACTIONS
returns-then-self-ge-MAX_ACTIONS c = record { keeps = kept refl; runs = λ F n. counts refl (push_no_action F c.args.v c.args.self.now.fine (sym c.if-is_some.ensures) c.if-self-ge-MAX_VALUES.false (c.joins.ensures F) c.if-joins.false c.if-self-ge-MAX_ACTIONS.true) }

pub grow-requires-2-clause-low_lt_top : goal.grow-requires-2-clause-low_lt_top
grow-requires-2-clause-low_lt_top c = room_value c.args.self.now.fine c.if-self-ge-MAX_VALUES.false

pub invariant_of-self-2 : goal.invariant_of-self-2
invariant_of-self-2 c = record { fine = begins_fine c.args.self.now.fine c.value_entry-x.ensures c.if-self-ge-MAX_VALUES.false c.joins.ensures c.if-joins.false c.if-self-ge-MAX_ACTIONS.false c.grow-2.ensures }

pub returns : goal.returns
returns c = record { keeps = wrote c.grow-2.auto.list (grown_pool c.args.self.now.fine (room_value c.args.self.now.fine c.if-self-ge-MAX_VALUES.false) c.grow-2.ensures); runs = λ F n. words c.grow-2.auto.list (grown_pool c.args.self.now.fine (room_value c.args.self.now.fine c.if-self-ge-MAX_VALUES.false) c.grow-2.ensures) (push_begins c.args.self.now.fine c.value_entry-x.ensures c.if-self-ge-MAX_VALUES.false c.joins.ensures c.if-joins.false c.if-self-ge-MAX_ACTIONS.false c.grow-2.ensures F n (sym c.if-is_some.ensures)) }
