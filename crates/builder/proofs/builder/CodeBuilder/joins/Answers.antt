use borrow.Author.Tests.{le-ltb}
use Rattle.builder.proofs.Pushes.{joins_none, joins_code}
use Rattle.builder.proofs.builder.CodeBuilder.joins.Goals as goal

pub returns-then-top-self : goal.returns-then-top-self
returns-then-top-self c = λ F. rw c.entry_at.ensures (joins_code F c.args.self.now.fine c.if-top-self.true)

pub returns-else-top-self : goal.returns-else-top-self
returns-else-top-self c = λ F. rw (le-ltb _ _ c.if-top-self.false) (joins_none F c.args.self.now.fine c.if-top-self.false)
