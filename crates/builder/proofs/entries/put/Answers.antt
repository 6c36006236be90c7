use mathlib.Core.Path.{refl}
use Rattle.builder.specs.Entries.{put3}
use Rattle.builder.proofs.entries.put.Goals as goal

pub returns : goal.returns
unfolding put3
returns c = refl
