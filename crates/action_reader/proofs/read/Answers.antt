use Rattle.std.proofs.Common.{arith, ap, ◌∙◌}
use Rattle.list_slice.specs.Words.{zeros_of}
use Rattle.action_reader.proofs.Ending.{too_short, lists_read, no_lists}
use Rattle.action_reader.proofs.read.Goals as goal

pub returns-then-list-lt-LIST_WORDS : goal.returns-then-list-lt-LIST_WORDS
returns-then-list-lt-LIST_WORDS c = too_short _ _ (omega arith) c.clear_words.ensures

pub returns-in_default : goal.returns-in_default
returns-in_default c = no_lists _ (omega arith) c.in_default.ensures (c.clear_words-in_default.ensures ∙ ap zeros_of (c.read_lists.auto.list ∙ c.clear_words.auto.words))

pub returns : goal.returns
returns c = lists_read _ (omega arith) (c.read_lists.auto.list ∙ c.clear_words.auto.words) c.in-Some.ensures
