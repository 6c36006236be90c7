use mathlib.Core.Path.{refl}
use Rattle.builder.proofs.builder.CodeBuilder.create_label.Goals as goal

pub returns-clause-list : goal.returns-clause-list
returns-clause-list c = c.create_labels.ensures.list

pub returns-clause-label : goal.returns-clause-label
returns-clause-label c = c.create_labels.ensures.label

pub returns-clause-runs : goal.returns-clause-runs
returns-clause-runs c = c.create_labels.ensures.one refl
