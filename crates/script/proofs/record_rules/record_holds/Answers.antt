-- `record_holds` meets its contract.
use Rattle.script_records.specs.Layout.{rows_of}
use Rattle.script.proofs.RecordLaws.{record_large, record_broken, record_form}
use Rattle.std.proofs.Common.{inl, inr}
use Rattle.script.proofs.record_rules.record_holds.Goals as goal
use Rattle.script.proofs.record_rules.record_holds.Goals.{then-size-eq0-via-then-size-eq0, then-size-eq0-via-else-size-eq0+then-i-size}

pub returns-then-size-eq0 : goal.returns-then-size-eq0
returns-then-size-eq0 c =
    let large = record_large c.args.script.now.layout.strings (rows_of c.args.script.now.bytes.now c.args.script.now.layout) c.args.i c.row_at-r.ensures in
    elim c.then-size-eq0.branch [
      | then-size-eq0-via-then-size-eq0 w ↦ large (inl w.if-size-eq0.true)
      | then-size-eq0-via-else-size-eq0+then-i-size w ↦ large (inr (w.if-size-eq0.false, w.if-i-size.true))
    ]

pub returns-in-None : goal.returns-in-None
returns-in-None c = record_broken c.args.script.now.layout.strings (rows_of c.args.script.now.bytes.now c.args.script.now.layout) c.args.i c.row_at-r.ensures c.if-size-eq0.false c.if-i-size.false c.in-None.ensures

pub returns-in-Some : goal.returns-in-Some
returns-in-Some c = record_form c.args.script.now.layout.strings (rows_of c.args.script.now.bytes.now c.args.script.now.layout) c.args.i c.row_at-r.ensures c.if-size-eq0.false c.if-i-size.false c.in-Some.ensures c.form_fits.ensures
