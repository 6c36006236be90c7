-- Which codes the entries of values have.
use Prim.Native.Nat.{ℕ, ◌+◌, ◌≤◌, ◌<◌}
use mathlib.Core.Path.{◌≡◌, refl, sym, ap}
use mathlib.Core.List.{List, [], ◌∷◌}
use mathlib.Core.Bool.{Bool, true, false, cond, ◌&&◌, true≢false}
use native.Mathlib.Omega.{arith}
use lib.Dec.{leb, eqb}
use borrow.Author.Tests.{eqb-true, leb-true, lt-leb, le-leb}
use Rattle.std.proofs.lemmas.Bool.{and_parts}
use Rattle.pcode.specs.declared.Op.{Op}
use Rattle.pcode.specs.Pcode.{Jump, If, row_of}
use Rattle.list_slice.specs.Entry.{Pushed, Piece, Null, Undefined, Boolean, String, Register, Float, Integer, Constant, op, ConstantPool, StoreRegister, GotoFrame, GotoLabel, GotoFrame2, branch, function, mark, value, value_entry, entry_of, by_code, find, piece_of}
use Rattle.list_slice.proofs.Pieces.{piece_back}

abbrev pub is_value : Piece → Bool
is_value (value f v) = true
is_value (op o) = false
is_value (ConstantPool n) = false
is_value (StoreRegister r) = false
is_value (GotoFrame n) = false
is_value (GotoLabel r) = false
is_value (GotoFrame2 p) = false
is_value (branch b l) = false
is_value (function n r) = false
is_value (mark l) = false

abbrev is_op : Piece → Bool
is_op (op o) = true
is_op (value f v) = false
is_op (ConstantPool n) = false
is_op (StoreRegister r) = false
is_op (GotoFrame n) = false
is_op (GotoLabel r) = false
is_op (GotoFrame2 p) = false
is_op (branch b l) = false
is_op (function n r) = false
is_op (mark l) = false

-- in the table of codes an action without operands has a code below 0x110
abbrev small : Bool → ℕ → Bool
small true k = leb k 0x10F
small false k = true

small_ops : List (ℕ × Piece) → Bool
small_ops [] = true
small_ops (x ∷ t) = small (is_op x.1) x.0 && small_ops t

small_op : (b : Bool) (k : ℕ) → small b k ≡ true → b ≡ true → k < 0x110
small_op true k h e = omega (arith, leb-true k 0x10F h)
small_op false k h e = absurd (true≢false (sym e))

found_op : (c a : ℕ) (t : List (ℕ × Piece)) → small_ops t ≡ true → is_op (find c a t) ≡ true → c < 0x110
unfolding small_ops
found_op c a [] h e = absurd (true≢false (sym e))
found_op c a (x ∷ t) h e = go (eqb c x.0) refl e (found_op c a t (and_parts (small (is_op x.1) x.0) (small_ops t) h).1)
  where
    go : (b : Bool) → eqb c x.0 ≡ b → is_op (cond b x.1 (find c a t)) ≡ true → (is_op (find c a t) ≡ true → c < 0x110) → c < 0x110
    go true q r k = omega (arith, eqb-true c x.0 q, small_op (is_op x.1) x.0 (and_parts (small (is_op x.1) x.0) (small_ops t) h).0 r)
    go false q r k = k r

pub op_code : (o : Op) → (row_of o).code < 0x110
unfolding piece_of small_ops
op_code o = found_op (row_of o).code 0 (by_code 0 0) refl (ap is_op (piece_back (op o)))

-- a value's code is one of the nine from its base on
pub value_from : (n : ℕ) (v : Pushed) → n ≤ (value_entry n v).code
value_from n Null = omega arith
value_from n Undefined = omega arith
value_from n (Boolean b) = omega arith
value_from n (String r) = omega arith
value_from n (Register r) = omega arith
value_from n (Float v) = omega arith
value_from n (Integer v) = omega arith
value_from n (Constant i) = omega arith

pub value_to : (n : ℕ) (v : Pushed) → (value_entry n v).code ≤ n + 8
value_to n Null = omega arith
value_to n Undefined = omega arith
value_to n (Boolean b) = omega arith
value_to n (String r) = omega arith
value_to n (Register r) = omega arith
value_to n (Float v) = omega arith
value_to n (Integer v) = omega arith
value_to n (Constant i) = omega arith

-- the codes from 0x110 on are those of values
pub value_code : (p : Piece) → leb 0x110 (entry_of p).code ≡ is_value p
value_code (value true v) = le-leb 0x110 (value_entry 0x110 v).code (value_from 0x110 v)
value_code (value false v) = le-leb 0x110 (value_entry 0x120 v).code (omega (arith, value_from 0x120 v))
value_code (op o) = lt-leb 0x110 (row_of o).code (op_code o)
value_code (ConstantPool n) = refl
value_code (StoreRegister r) = refl
value_code (GotoFrame n) = refl
value_code (GotoLabel r) = refl
value_code (GotoFrame2 p) = refl
value_code (branch Jump l) = refl
value_code (branch If l) = refl
value_code (function n r) = refl
value_code (mark l) = refl
