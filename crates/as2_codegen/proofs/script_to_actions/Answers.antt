use Rattle.as2_codegen.proofs.Meets.{too_short, refused_by_check}
use Rattle.as2_codegen.proofs.script_to_actions.Goals as goal

pub returns-then-list-lt-LIST_WORDS : goal.returns-then-list-lt-LIST_WORDS
returns-then-list-lt-LIST_WORDS c = rw c.clear_words.ensures (too_short _ _ (rw c.clear_words.auto.words at c.if-list-lt-LIST_WORDS.true))

pub returns-in_err-check : goal.returns-in_err-check
returns-in_err-check c =
    rw c.clear_words.ensures (refused_by_check _ _ _ (rw c.clear_words.auto.words at c.if-list-lt-LIST_WORDS.false) c.in_err-check.ensures _ c.from_residual.ensures.1)
