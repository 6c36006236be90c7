use Rattle.action_reader.proofs.Ends.{close_law}
use Rattle.action_reader.proofs.walk.Walk.close.Goals as goal

pub returns : goal.returns
returns c = λ low xs up ends g n. close_law c.requires.ready g n (c.in_ok-self.ensures low xs up ends g n) c.requires.base_nonzero c.truncate.ensures.items c.in_ok-self-2.ensures.items (rw c.deref.ensures.0 at c.put.ensures)
