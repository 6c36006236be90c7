-- What is known of a list's entries and items has one proof at most.
use Rattle.std.specs.Prelude.{List, [], ◌∷◌, Bool, true, false, T}
use Rattle.std.specs.Coded.{×_prop, Unit-prop, le_prop}
use Rattle.pcode.specs.Pcode.{Item, plain, push, branch, define, action, mark}
use Rattle.action_format.proofs.Tests.{All}
use Rattle.list_slice.specs.Entry.{Piece}
use Rattle.resolver.specs.Texts.{Operand}
use Rattle.resolver.specs.Steps.{Fine}

pub operand_prop : (p : Piece) → IsProp (Operand p)
operand_prop (Piece.ConstantPool n) = le_prop
operand_prop (Piece.branch b l) = le_prop
operand_prop (Piece.function n f) = le_prop
operand_prop (Piece.op o) = Unit-prop
operand_prop (Piece.StoreRegister n) = Unit-prop
operand_prop (Piece.GotoFrame n) = Unit-prop
operand_prop (Piece.GotoFrame2 p) = Unit-prop
operand_prop (Piece.GotoLabel s) = Unit-prop
operand_prop (Piece.mark l) = Unit-prop
operand_prop (Piece.value first v) = Unit-prop

⊥_prop : IsProp ⊥
⊥_prop a b = absurd a

fine_prop : (i : Item) → IsProp (Fine i)
fine_prop (action (plain p)) = Unit-prop
fine_prop (action (push [])) = ⊥_prop
fine_prop (action (push (v ∷ vs))) = Unit-prop
fine_prop (action (branch b l)) = le_prop
fine_prop (action (define h n)) = le_prop
fine_prop (mark l) = Unit-prop

pub all_fine_prop : (is : List Item) → IsProp (All Fine is)
all_fine_prop [] = Unit-prop
all_fine_prop (i ∷ is) = ×_prop (fine_prop i) (all_fine_prop is)

pub truth_prop : (b : Bool) → IsProp (T b)
truth_prop true = Unit-prop
truth_prop false = ⊥_prop
