-- The data of an entry is that of its piece.
use Prim.Native.Nat.{ℕ, ◌+◌, ◌*◌, ◌≤◌, ◌<◌}
use mathlib.Core.Path.{◌≡◌, refl, sym, ap, ap₂, ◌∙◌, subst}
use mathlib.Core.List.{List, map}
use mathlib.Core.Bool.{Bool, true, false, cond, ◌&&◌, and-true}
use native.Mathlib.Omega.{arith}
use lib.Dec.{T, ltb, leb}
use lib.ListN.{length, get_or, take, length-append}
use borrow.Author.Tests.{ltb-true, ltb-false, lt-ltb, ne_eqb, lt-leb, le-leb}
use Rattle.pcode.specs.declared.Op.{Op}
use Rattle.pcode.specs.Pcode.{Jump, If, Plain, row_of}
use Rattle.lowering.specs.Builder.{limits01}
use Rattle.action_format.specs.Lists.{all}
use Rattle.action_format.specs.Bytes.{word, zero_ended, value_bytes, constant_bytes, plain_data}
use Rattle.action_format.specs.Strings.{no_zero}
use Rattle.list_slice.specs.Entry.{Entry, Piece, Null, Undefined, Boolean, String, Register, Float, Integer, Constant, op, ConstantPool, StoreRegister, GotoFrame, GotoLabel, GotoFrame2, branch, function, mark, value, entry_of}
use Rattle.list_slice.specs.Words.{entry_at, pool_in}
use Rattle.list_slice.specs.Items.{value_of}
use Rattle.list_slice.specs.File.{text_in}
use Rattle.list_slice.specs.Compiled.{piece_named}
use Rattle.resolver.specs.declared.text.Data.{Data}
use Rattle.resolver.specs.Walk.{piece_at, references_in}
use Rattle.resolver.specs.Sizes.{piece_data, piece_clear}
use Rattle.resolver.specs.Texts.{data_of, string_data, pool_data, constant_data, fixed_data, kind_of, data_in, Operands, entry_data, Operand, Known}
use Rattle.resolver.proofs.OpCodes.{op_code, OpCode, op_says}
use Rattle.resolver.proofs.Texts.{join_size, texts_clear}

low_kind : (c : ℕ) → c < 0x120 → kind_of c ≡ c
low_kind c h = rw (lt-ltb c 0x120 h)

op_data : (F w : List ℕ) (o : Op) → data_in F w (kind_of (row_of o).code) 0 0 ≡ fixed_data 0
op_data F w o = go (row_of o).code (op_says (row_of o).code (op_code o))
  where
    go : (c : ℕ) → OpCode c → data_in F w (kind_of c) 0 0 ≡ fixed_data 0
    go c q =
        rw (
          low_kind c (omega (arith, q.small)),
          ne_eqb c 0x81 q.not_frame,
          ne_eqb c 0x87 q.not_store,
          ne_eqb c 0x88 q.not_pool,
          ne_eqb c 0x8C q.not_label,
          ne_eqb c 0x99 q.not_jump,
          ne_eqb c 0x9D q.not_if,
          ne_eqb c 0x9F q.not_frame2,
          ne_eqb c 256 (λ e. omega (arith, q.small)),
          ne_eqb c 0x110 (λ e. omega (arith, q.small)),
          ne_eqb c 0x112 (λ e. omega (arith, q.small)),
          ne_eqb c 0x113 (λ e. omega (arith, q.small)),
          ne_eqb c 0x114 (λ e. omega (arith, q.small)),
          ne_eqb c 0x115 (λ e. omega (arith, q.small)),
          ne_eqb c 0x116 (λ e. omega (arith, q.small)),
          ne_eqb c 0x117 (λ e. omega (arith, q.small)),
          ne_eqb c 0x118 (λ e. omega (arith, q.small)),
        )

-- operands in range, by the piece
operands_of : (F w : List ℕ) (p : Piece) → Operand p → T (piece_named F p) → 16384 ≤ length w →
    Operands F w (kind_of (entry_of p).code) (entry_of p).first (entry_of p).second
operands_of F w (ConstantPool n) h t l = record { long = l; pool = λ e. h; function = λ e. absurd (omega arith) }
operands_of F w (function n f) h t l = record { long = l; pool = λ e. absurd (omega arith); function = λ e. t }
operands_of F w (op o) h t l =
    let q = op_says (row_of o).code (op_code o) in
    let k = low_kind (row_of o).code (omega (arith, q.small)) in
    record { long = l; pool = λ e. absurd (q.not_pool (sym k ∙ e)); function = λ e. absurd (omega (arith, k, q.small)) }
operands_of F w (StoreRegister n) h t l = record { long = l; pool = λ e. absurd (omega arith); function = λ e. absurd (omega arith) }
operands_of F w (GotoFrame n) h t l = record { long = l; pool = λ e. absurd (omega arith); function = λ e. absurd (omega arith) }
operands_of F w (GotoFrame2 p) h t l = record { long = l; pool = λ e. absurd (omega arith); function = λ e. absurd (omega arith) }
operands_of F w (GotoLabel s) h t l = record { long = l; pool = λ e. absurd (omega arith); function = λ e. absurd (omega arith) }
operands_of F w (branch Jump n) h t l = record { long = l; pool = λ e. absurd (omega arith); function = λ e. absurd (omega arith) }
operands_of F w (branch If n) h t l = record { long = l; pool = λ e. absurd (omega arith); function = λ e. absurd (omega arith) }
operands_of F w (mark n) h t l = record { long = l; pool = λ e. absurd (omega arith); function = λ e. absurd (omega arith) }
operands_of F w (value true Null) h t l = record { long = l; pool = λ e. absurd (omega arith); function = λ e. absurd (omega arith) }
operands_of F w (value true Undefined) h t l = record { long = l; pool = λ e. absurd (omega arith); function = λ e. absurd (omega arith) }
operands_of F w (value true (Boolean b)) h t l = record { long = l; pool = λ e. absurd (omega arith); function = λ e. absurd (omega arith) }
operands_of F w (value true (String n)) h t l = record { long = l; pool = λ e. absurd (omega arith); function = λ e. absurd (omega arith) }
operands_of F w (value true (Register n)) h t l = record { long = l; pool = λ e. absurd (omega arith); function = λ e. absurd (omega arith) }
operands_of F w (value true (Float n)) h t l = record { long = l; pool = λ e. absurd (omega arith); function = λ e. absurd (omega arith) }
operands_of F w (value true (Integer n)) h t l = record { long = l; pool = λ e. absurd (omega arith); function = λ e. absurd (omega arith) }
operands_of F w (value true (Constant n)) h t l = record { long = l; pool = λ e. absurd (omega arith); function = λ e. absurd (omega arith) }
operands_of F w (value false Null) h t l = record { long = l; pool = λ e. absurd (omega arith); function = λ e. absurd (omega arith) }
operands_of F w (value false Undefined) h t l = record { long = l; pool = λ e. absurd (omega arith); function = λ e. absurd (omega arith) }
operands_of F w (value false (Boolean b)) h t l = record { long = l; pool = λ e. absurd (omega arith); function = λ e. absurd (omega arith) }
operands_of F w (value false (String n)) h t l = record { long = l; pool = λ e. absurd (omega arith); function = λ e. absurd (omega arith) }
operands_of F w (value false (Register n)) h t l = record { long = l; pool = λ e. absurd (omega arith); function = λ e. absurd (omega arith) }
operands_of F w (value false (Float n)) h t l = record { long = l; pool = λ e. absurd (omega arith); function = λ e. absurd (omega arith) }
operands_of F w (value false (Integer n)) h t l = record { long = l; pool = λ e. absurd (omega arith); function = λ e. absurd (omega arith) }
operands_of F w (value false (Constant n)) h t l = record { long = l; pool = λ e. absurd (omega arith); function = λ e. absurd (omega arith) }

pub entry_operands : {F w : List ℕ} {e : ℕ} → Known F w e → {k : ℕ} → k ≡ kind_of (get_or w (e * 3) 0) → Operands F w k (get_or w (e * 3 + 1) 0) (get_or w (e * 3 + 2) 0)
unfolding entry_at
entry_operands {F} {w} {e} h q =
    rw q (subst (λ (x : Entry). Operands F w (kind_of x.code) x.first x.second) h.written (operands_of F w (piece_at w e) h.operand h.named h.long))

pub entry_done : (F w : List ℕ) (e : ℕ) {k : ℕ} {d : Data} → d ≡ data_in F w k (get_or w (e * 3 + 1) 0) (get_or w (e * 3 + 2) 0) → k ≡ kind_of (get_or w (e * 3) 0) → d ≡ entry_data F w (entry_at w e)
unfolding entry_data entry_at
entry_done F w e p q = p ∙ rw q

-- the data of a value
module _ (F w : List ℕ) where
  abbrev text_value : ℕ → Data
  text_value s = data_of (length (value_bytes (value_of (references_in F w) (String s)))) (no_zero (text_in F s) && true)

  string_value : (s : ℕ) → string_data (text_in F s) 1 ≡ text_value s
  unfolding zero_ended
  string_value s = ap₂ data_of (simp length-append (omega arith)) (sym (and-true (no_zero (text_in F s))))

  string_label : (s : ℕ) → string_data (text_in F s) 0 ≡ data_of (length (zero_ended (text_in F s))) (no_zero (text_in F s) && true)
  unfolding zero_ended
  string_label s = ap₂ data_of (simp length-append (omega arith)) (sym (and-true (no_zero (text_in F s))))

  constant_value : (i : ℕ) → constant_data i ≡ data_of (length (constant_bytes i (leb 256 i))) true
  unfolding word
  constant_value i = go (ltb i 256) refl
    where
      go : (t : Bool) → ltb i 256 ≡ t → data_of (cond t 2 3) true ≡ data_of (length (constant_bytes i (leb 256 i))) true
      go true e = rw (lt-leb 256 i (ltb-true i 256 e))
      go false e = rw (le-leb 256 i (ltb-false i 256 e))

  pool_piece : (ss : List (List ℕ)) → pool_data ss ≡ data_of (length (plain_data (Plain.ConstantPool ss))) (all no_zero ss)
  unfolding word
  pool_piece ss = ap₂ data_of (let e = join_size ss in omega arith) (texts_clear ss)

  piece_is : (p : Piece) → entry_data F w (entry_of p) ≡ data_of (piece_data (references_in F w) p) (piece_clear (references_in F w) p)
  unfolding entry_data piece_data piece_clear word
  piece_is (op o) = op_data F w o
  piece_is (ConstantPool n) = pool_piece (map (text_in F) (take n (pool_in limits01 w)))
  piece_is (StoreRegister n) = refl
  piece_is (GotoFrame n) = refl
  piece_is (GotoFrame2 p) = refl
  piece_is (GotoLabel s) = string_label s
  piece_is (branch Jump l) = refl
  piece_is (branch If l) = refl
  piece_is (function n f) = refl
  piece_is (mark l) = refl
  piece_is (value true Null) = refl
  piece_is (value true Undefined) = refl
  piece_is (value true (Boolean true)) = refl
  piece_is (value true (Boolean false)) = refl
  piece_is (value true (String n)) = string_value n
  piece_is (value true (Register n)) = refl
  piece_is (value true (Float n)) = refl
  piece_is (value true (Integer n)) = refl
  piece_is (value true (Constant n)) = constant_value n
  piece_is (value false Null) = refl
  piece_is (value false Undefined) = refl
  piece_is (value false (Boolean true)) = refl
  piece_is (value false (Boolean false)) = refl
  piece_is (value false (String n)) = string_value n
  piece_is (value false (Register n)) = refl
  piece_is (value false (Float n)) = refl
  piece_is (value false (Integer n)) = refl
  piece_is (value false (Constant n)) = constant_value n

  pub entry_piece : {e : ℕ} → Known F w e → {d : Data} → d ≡ entry_data F w (entry_at w e) →
      (d.bytes ≡ piece_data (references_in F w) (piece_at w e)) × (d.clear ≡ piece_clear (references_in F w) (piece_at w e))
  entry_piece {e} h {d} q =
      let z : d ≡ data_of (piece_data (references_in F w) (piece_at w e)) (piece_clear (references_in F w) (piece_at w e)) =
      q ∙ ap (entry_data F w) (sym h.written) ∙ piece_is (piece_at w e) in
      (ap (λ (x : Data). x.bytes) z, ap (λ (x : Data). x.clear) z)
