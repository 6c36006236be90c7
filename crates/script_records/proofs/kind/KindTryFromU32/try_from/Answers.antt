use mathlib.Core.Path.{◌≡◌, ap, ◌∙◌}
use Rattle.std.specs.Prelude.{None}
use Rattle.std.specs.Option.{option_flatten}
use lib.ListN.{get_or}
use Rattle.script_records.specs.Kind.{kinds, kind_from}
use Rattle.script_records.proofs.TableReads.{item_in}
use Rattle.script_records.proofs.kind.KindTryFromU32.try_from.Goals as goal

pub returns : goal.returns
unfolding kind_from
returns c =
    let found : c.flatten.result ≡ get_or kinds c.args.word None = c.flatten.ensures ∙ ap option_flatten c.copied.ensures ∙ item_in kinds c.args.word c.get.result c.get.ensures.lookup in
    rw found at c.ok_or.ensures.value
