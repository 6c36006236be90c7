use Rattle.std.proofs.Common.{refl}
use Rattle.action_reader.proofs.Ends.{end_law}
use Rattle.action_reader.proofs.walk.Walk.end_list.Goals as goal

pub returns : goal.returns
returns c = λ low xs up ends g n. end_law c.requires g n (c.in_ok-low.ensures.settled_as low xs up ends g) refl
