-- A switch's elements, with labels that follow each other.
use Rattle.std.specs.Prelude.{ℕ, ◌+◌, List, [], ◌∷◌}
use Rattle.hir.specs.Tree.{Forest, more}
use Rattle.lowering.specs.Meaning.{Meaning, Element, case, default, statement, element}
use Rattle.lowering.specs.Statement.{SwitchElement, Case, Default, Statement}

abbrev pub one_label : Element → ℕ
one_label case = 1
one_label default = 1
one_label statement = 0

-- how many elements have a label
unfoldable pub labels_of_forest : Forest Meaning → ℕ
labels_of_forest Forest.none = 0
labels_of_forest (more ms m kids) = labels_of_forest ms + one_label (element m.rec)

abbrev pub with_number : ℕ → Meaning → Element → SwitchElement
with_number l m case = Case l m
with_number l m default = Default l
with_number l m statement = Statement m

-- the elements, the last one first, the first label being n
unfoldable pub elements_from : ℕ → Forest Meaning → List SwitchElement
elements_from n Forest.none = []
elements_from n (more ms m kids) = with_number (n + labels_of_forest ms) m (element m.rec) ∷ elements_from n ms
