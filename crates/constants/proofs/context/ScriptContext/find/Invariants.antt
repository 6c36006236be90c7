use Rattle.constants.proofs.SearchLaws.{Searching}
use Rattle.constants.proofs.context.ScriptContext.find.Given as goal

abbrev pub invariant-loop-i : goal.invariant-loop-i
invariant-loop-i l = Searching l.self.script.bytes.now l.list l.self.builder.state.constants l.s l.next l.found

abbrev pub decreases-loop-i : goal.decreases-loop-i
decreases-loop-i l = l.next
