-- The codes of records: the actions that are a code alone, and the readers of the data that follow any other code.
use Rattle.std.specs.Prelude.{ℕ, List, [], ◌∷◌, Bool, true, false, eqb, take}
use Rattle.std.proofs.Math.Option.{Option, none, some}
use Rattle.pcode.specs.declared.Op.{Op}
use Rattle.pcode.specs.declared.Op.TheVariants.{Call}
use Rattle.pcode.specs.Pcode.{Jump, If, op, StoreRegister, GotoFrame, GotoFrame2, GotoLabel, row_of, all_ops}
use Rattle.action_format.specs.Lists.{simple}
use Rattle.action_format.specs.Readers.{P, ◌>>=◌, pure, read_byte, word_reader, read_string, read_flag, dispatch}
use Rattle.action_format.specs.Decode.{Record, alone, read_pool, read_push, read_branch, read_function, read_function2}

abbrev pub find_op : List Op → (code : ℕ) → Option Op
find_op [] c = none
find_op (o ∷ os) c = elim (eqb c (row_of o).code) [ true ↦ some o | false ↦ find_op os c ]

-- all actions without operands but Call, which carries a length
unfoldable pub short_ops : List Op
short_ops = take 73 all_ops

-- whether the code is a whole record
unfoldable pub is_short : (code : ℕ) → Bool
is_short c = elim (find_op short_ops c) [ none ↦ false | some o ↦ true ]

-- the data of the records with a length

abbrev pub read_call : P Record
read_call = pure (alone (simple (op Call)))

abbrev pub read_frame : P Record
read_frame = do
  n ← word_reader 2
  pure (alone (simple (GotoFrame n)))

abbrev pub read_register : P Record
read_register = do
  r ← read_byte
  pure (alone (simple (StoreRegister r)))

abbrev pub read_label : P Record
read_label = do
  s ← read_string
  pure (alone (simple (GotoLabel s)))

abbrev pub read_play : P Record
read_play = do
  p ← read_flag
  pure (alone (simple (GotoFrame2 p)))

abbrev pub data_table : List (ℕ × P Record)
data_table =
    (0x9E, read_call) ∷
    (0x81, read_frame) ∷
    (0x87, read_register) ∷
    (0x88, read_pool) ∷
    (0x8C, read_label) ∷
    (0x8E, read_function2) ∷
    (0x96, read_push) ∷
    (0x99, read_branch Jump) ∷
    (0x9B, read_function) ∷
    (0x9D, read_branch If) ∷
    (0x9F, read_play) ∷ []

unfoldable pub data_reader : (code : ℕ) → P Record
data_reader = dispatch data_table
