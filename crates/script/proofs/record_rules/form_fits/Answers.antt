-- `form_fits` meets its contract.
use Rattle.script.proofs.RecordLaws.{fits_unknown, fits_unsupported, fits_counted, fits_scalars, fits_children}
use Rattle.script.proofs.record_rules.form_fits.Goals as goal

pub returns-then-scalars_fit : goal.returns-then-scalars_fit
returns-then-scalars_fit c = fits_children c.args.script.now.layout.strings _ c.args.r _ c.from.ensures c.in-Words.is c.scalars_fit.ensures c.if-scalars_fit.true c.children_match.ensures

pub returns-else-scalars_fit : goal.returns-else-scalars_fit
returns-else-scalars_fit c = fits_scalars c.args.script.now.layout.strings _ c.args.r _ c.from.ensures c.in-Words.is c.scalars_fit.ensures c.if-scalars_fit.false

pub returns-in-Counted : goal.returns-in-Counted
returns-in-Counted c = fits_counted c.args.script.now.layout.strings _ c.args.r _ c.from.ensures c.in-Counted.is c.requires c.is_counted.ensures

pub returns-in-Unsupported : goal.returns-in-Unsupported
returns-in-Unsupported c = fits_unsupported c.args.script.now.layout.strings _ c.args.r _ c.from.ensures c.in-Unsupported.is

pub returns-in-Unknown : goal.returns-in-Unknown
returns-in-Unknown c = fits_unknown c.args.script.now.layout.strings _ c.args.r _ c.from.ensures c.in-Unknown.is
