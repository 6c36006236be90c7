-- `check` meets its contract: the refusals in document 01's order.
use Rattle.script.proofs.RuleLaws.{check_long, check_strings, check_kinds, check_deep, check_accepted}
use Rattle.script.proofs.check.Goals as goal

pub returns-then-file-gt1048576 : goal.returns-then-file-gt1048576
returns-then-file-gt1048576 c = check_long _ c.if-file-gt1048576.true

pub returns-then-not-strings_hold : goal.returns-then-not-strings_hold
returns-then-not-strings_hold c =
    let here = c.new-script.ensures.bytes in
    check_strings _ c.if-file-gt1048576.false c.new-script.ensures.layout (rw here at c.rules_hold.ensures) c.if-not-rules_hold.false (rw here at c.strings_hold.ensures) c.if-not-strings_hold.true

pub returns-then-not-kinds_supported : goal.returns-then-not-kinds_supported
returns-then-not-kinds_supported c =
    let here = c.new-script.ensures.bytes in
    check_kinds _ c.if-file-gt1048576.false c.new-script.ensures.layout (rw here at c.rules_hold.ensures) c.if-not-rules_hold.false (rw here at c.strings_hold.ensures) c.if-not-strings_hold.false (rw here at c.kinds_supported.ensures) c.if-not-kinds_supported.true

pub returns-then-too_deep : goal.returns-then-too_deep
returns-then-too_deep c =
    let here = c.new-script.ensures.bytes in
    check_deep _ c.if-file-gt1048576.false c.new-script.ensures.layout (rw here at c.rules_hold.ensures) c.if-not-rules_hold.false (rw here at c.strings_hold.ensures) c.if-not-strings_hold.false (rw here at c.kinds_supported.ensures) c.if-not-kinds_supported.false (rw here at c.too_deep.ensures) c.if-too_deep.true

pub returns : goal.returns
returns c =
    let here = c.new-script.ensures.bytes in
    check_accepted _ c.if-file-gt1048576.false c.new-script.ensures.layout (rw here at c.rules_hold.ensures) c.if-not-rules_hold.false (rw here at c.strings_hold.ensures) c.if-not-strings_hold.false (rw here at c.kinds_supported.ensures) c.if-not-kinds_supported.false (rw here at c.too_deep.ensures) c.if-too_deep.false
