use mathlib.Core.Path.{refl}
use native.Mathlib.Omega.{arith}
use Rattle.constants.proofs.HashLaws.{headed}
use Rattle.constants.proofs.SearchLaws.{search_starts, search_goes_on, search_falls, search_ends}
use Rattle.constants.proofs.context.ScriptContext.find.Goals.{then-same_text, else-same_text}
use Rattle.constants.proofs.context.ScriptContext.find.Goals as goal

pub bounds-list-h : goal.bounds-list-h
bounds-list-h c = omega (arith, (headed _ c.requires).1, c.args.self.now.builder.fine.long)

pub loop-i-init : goal.loop-i-init
loop-i-init c = search_starts c.args.self.now.script.bytes.now c.args.self.now.builder.list.now c.args.self.now.builder.state.constants c.args.s (omega (arith, c.args.self.now.builder.fine.long, c.args.self.now.builder.fine.constants, c.args.self.now.builder.fine.values)) c.args.self.now.indexed (headed _ c.requires) refl

pub loop-i-smaller : goal.loop-i-smaller
loop-i-smaller c = search_falls c.args.self.now.script.bytes.now c.args.self.now.builder.list.now c.args.self.now.builder.state.constants c.args.s (omega (arith, c.args.self.now.builder.fine.long, c.args.self.now.builder.fine.constants, c.args.self.now.builder.fine.values)) c.args.self.now.indexed c.loop-i.invariant c.in-Some.ensures refl

pub loop-i-preserved : goal.loop-i-preserved
loop-i-preserved c =
    search_goes_on c.args.self.now.script.bytes.now c.args.self.now.builder.list.now c.args.self.now.builder.state.constants c.args.s (omega (arith, c.args.self.now.builder.fine.long, c.args.self.now.builder.fine.constants, c.args.self.now.builder.fine.values)) c.args.self.now.indexed c.loop-i.invariant c.in-Some.ensures c.same_text.ensures
    (elim c.if-same_text.branch [ then-same_text w ↦ rw (w.if-same_text.true, w.found-is) refl | else-same_text w ↦ rw (w.if-same_text.false, w.found-is) refl ])
    refl

pub returns : goal.returns
returns c = search_ends c.args.self.now.script.bytes.now c.args.self.now.builder.list.now c.args.self.now.builder.state.constants c.args.s (omega (arith, c.args.self.now.builder.fine.long, c.args.self.now.builder.fine.constants, c.args.self.now.builder.fine.values)) c.loop-i.invariant c.in_default.ensures
