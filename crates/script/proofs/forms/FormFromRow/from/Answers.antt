-- `Form::from` meets its contract.
use mathlib.Core.Path.{sym, ◌∙◌}
use Rattle.script_records.specs.Layout.{words_of}
use Rattle.script_records.proofs.KindLaws.{number_from}
use Rattle.script.proofs.FormLaws.{form_unknown}
use Rattle.script.proofs.forms.FormFromRow.from.Goals as goal

pub returns-in-Ok : goal.returns-in-Ok
returns-in-Ok c = rw (number_from c.args.r.kind (sym c.try_from.ensures ∙ c.in-Ok.is)) c.form_of_kind.ensures

pub returns-in-Err : goal.returns-in-Err
returns-in-Err c = sym (form_unknown (words_of c.args.r) (sym c.try_from.ensures ∙ c.in-Err.is))
