-- The actions that codes and their first words say, and the stack sizes after them.
use Prim.Native.Nat.{ℕ}
use mathlib.Core.Path.{◌≡◌, refl}
use mathlib.Core.List.{List}
use mathlib.Core.Bool.{Bool, true, false}
use lib.Dec.{T}
use mir.Val.{bool_byte}
use Rattle.std.proofs.Math.Bool.{and-true}
use Rattle.pcode.specs.declared.Op.{Op}
use Rattle.pcode.specs.Pcode.{Plain, Branching, Action, row_of}
use Rattle.list_slice.specs.Entry.{Piece, bit, branch_code}
use Rattle.list_slice.specs.File.{names_string, text_in}
use Rattle.codegen_state.specs.Does.{Says}

pub bit_byte : (x : Bool) → bool_byte x ≡ bit x
bit_byte true = refl
bit_byte false = refl

module _ (F : List ℕ) where
  pub op_says : (o : Op) {c : ℕ} → c ≡ (row_of o).code → Says F c 0 (Action.plain (Plain.op o))
  op_says o e = rw e (record { piece = Piece.op o; entry_is = refl; adds = λ is. refl; is_good = tt })

  pub store_says : (r : ℕ) {x : ℕ} → x ≡ r → Says F 0x87 x (Action.plain (Plain.StoreRegister r))
  store_says r e = rw e (record { piece = Piece.StoreRegister r; entry_is = refl; adds = λ is. refl; is_good = tt })

  pub frame_says : (n : ℕ) → Says F 0x81 n (Action.plain (Plain.GotoFrame n))
  frame_says n = record { piece = Piece.GotoFrame n; entry_is = refl; adds = λ is. refl; is_good = tt }

  pub frame2_says : (play : Bool) {x : ℕ} → x ≡ bool_byte play → Says F 0x9F x (Action.plain (Plain.GotoFrame2 play))
  frame2_says play e = rw (e, bit_byte play) (record { piece = Piece.GotoFrame2 play; entry_is = refl; adds = λ is. refl; is_good = tt })

  pub label_says : (s : ℕ) → T (names_string F s) → Says F 0x8C s (Action.plain (Plain.GotoLabel (text_in F s)))
  label_says s h = record { piece = Piece.GotoLabel s; entry_is = refl; adds = λ is. refl; is_good = rw (and-true (names_string F s)) h }

  pub branch_says : (k : Branching) (l : ℕ) → Says F (branch_code k) l (Action.branch k l)
  branch_says k l = record { piece = Piece.branch k l; entry_is = refl; adds = λ is. refl; is_good = tt }
