-- An entry says its piece, so that different pieces have different entries.
use Prim.Native.Nat.{ℕ, ◌^◌}
use native.Mathlib.Nat.{mod-add-div}
use mathlib.Core.Path.{◌≡◌, refl, ap}
use mathlib.Core.List.{List, [], ◌∷◌, map}
use mathlib.Core.Bool.{Bool, true, false}
use Rattle.pcode.specs.Pcode.{Jump, If}
use Rattle.list_slice.specs.Entry.{Pushed, Piece, Null, Undefined, Boolean, String, Register, Float, Integer, Constant, op, ConstantPool, StoreRegister, GotoFrame, GotoLabel, GotoFrame2, branch, function, mark, value, entry_of, entries_of, piece_of}
use Rattle.list_slice.proofs.Ops.{op_back}

-- a float's two words are its 64 bits
float_back : (first : Bool) (v : ℕ) → piece_of (entry_of (value first (Float v))) ≡ value first (Float v)
unfolding piece_of
float_back true v = ap (λ (n : ℕ). value true (Float n)) (mod-add-div v (2 ^ 32))
float_back false v = ap (λ (n : ℕ). value false (Float n)) (mod-add-div v (2 ^ 32))

value_back : (first : Bool) (v : Pushed) → piece_of (entry_of (value first v)) ≡ value first v
unfolding piece_of
value_back f (Float v) = float_back f v
value_back true Null = refl
value_back true Undefined = refl
value_back true (Boolean true) = refl
value_back true (Boolean false) = refl
value_back true (String r) = refl
value_back true (Register r) = refl
value_back true (Integer v) = refl
value_back true (Constant i) = refl
value_back false Null = refl
value_back false Undefined = refl
value_back false (Boolean true) = refl
value_back false (Boolean false) = refl
value_back false (String r) = refl
value_back false (Register r) = refl
value_back false (Integer v) = refl
value_back false (Constant i) = refl

pub piece_back : (p : Piece) → piece_of (entry_of p) ≡ p
unfolding piece_of
piece_back (op o) = op_back o
piece_back (value f v) = value_back f v
piece_back (ConstantPool n) = refl
piece_back (StoreRegister r) = refl
piece_back (GotoFrame n) = refl
piece_back (GotoLabel r) = refl
piece_back (GotoFrame2 true) = refl
piece_back (GotoFrame2 false) = refl
piece_back (branch Jump l) = refl
piece_back (branch If l) = refl
piece_back (function n r) = refl
piece_back (mark l) = refl

pub pieces_back : (ps : List Piece) → map piece_of (entries_of ps) ≡ ps
unfolding entries_of
pieces_back [] = refl
pieces_back (p ∷ ps) = rw (piece_back p) (ap (λ (r : List Piece). p ∷ r) (pieces_back ps))
