-- The measure is what is left of the text.
use Rattle.std.proofs.Common.{length, ◌≡◌}
use Rattle.text_lines.proofs.Decoder.run.Given as goal

abbrev pub invariant-loop-self : goal.invariant-loop-self
invariant-loop-self l = l.self.file.ghost_name ≡ l.fn.self.file.ghost_name

abbrev pub decreases-loop-self : goal.decreases-loop-self
decreases-loop-self l = length l.self.rest.now
