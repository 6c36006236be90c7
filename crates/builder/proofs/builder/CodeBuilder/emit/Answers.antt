use mathlib.Core.Path.{refl, sym}
use Rattle.codegen_state.proofs.Steps.{stays}
use Rattle.builder.proofs.Leaves.{room_action, emit_full, emit_fine, emit_done}
use Rattle.builder.proofs.Runs.{grown_pool, kept, wrote, counts, words}
use Rattle.builder.proofs.builder.CodeBuilder.emit.Goals as goal

pub returns-then-is_some : goal.returns-then-is_some
returns-then-is_some c = record { keeps = kept refl; runs = λ F a d s e. counts refl (stays (sym c.if-is_some.ensures) c.args.self.now.fine) }

pub returns-then-self-ge-MAX_ACTIONS : goal.returns-then-self-ge-MAX_ACTIONS
returns-then-self-ge-MAX_ACTIONS c = record { keeps = kept refl; runs = λ F a d s e. counts refl (emit_full F a d c.args.self.now.fine (sym c.if-is_some.ensures) c.if-self-ge-MAX_ACTIONS.true) }

pub grow-requires-clause-low_lt_top : goal.grow-requires-clause-low_lt_top
grow-requires-clause-low_lt_top c = room_action c.args.self.now.fine c.if-self-ge-MAX_ACTIONS.false

pub invariant_of-self-2 : goal.invariant_of-self-2
invariant_of-self-2 c = record { fine = emit_fine c.args.self.now.fine c.requires.size_bound c.if-self-ge-MAX_ACTIONS.false c.grow.ensures c.requires.entry }

pub returns : goal.returns
returns c = record { keeps = wrote c.grow.auto.list (grown_pool c.args.self.now.fine (room_action c.args.self.now.fine c.if-self-ge-MAX_ACTIONS.false) c.grow.ensures); runs = λ F a d s e. words c.grow.auto.list (grown_pool c.args.self.now.fine (room_action c.args.self.now.fine c.if-self-ge-MAX_ACTIONS.false) c.grow.ensures) (emit_done c.args.self.now.fine c.requires.size_bound c.if-self-ge-MAX_ACTIONS.false c.grow.ensures F a d (sym c.if-is_some.ensures) s e) }
