use Rattle.utf8.proofs.Reading.{ascii_lanes}
use Rattle.utf8.proofs.ascii.is_ascii.Goals as goal

pub returns : goal.returns
returns g c e = ascii_lanes _ _ _ c.requires.0 c.requires.1 e
