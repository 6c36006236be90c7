use Rattle.slice_words.proofs.Entries.{entry_law}
use Rattle.slice_words.proofs.entry_at.Goals as goal

pub returns : goal.returns
returns c = entry_law c.args.list.now c.args.e c.requires c.as_chunks.ensures.front
