-- How many bytes pieces and items take, and which of their strings have a zero byte.
use Rattle.std.specs.Prelude.{ℕ, ◌+◌, List, [], ◌∷◌, ◌++◌, Bool, true, ◌&&◌, leb, length}
use Rattle.pcode.specs.Pcode.{Plain, Action, Item, plain, push, branch, define, action, mark}
use Rattle.action_format.specs.Lists.{all, simple, pushing}
use Rattle.action_format.specs.Strings.{value_strings, header_strings, strings, no_zero}
use Rattle.action_format.specs.Bytes.{value_bytes, plain_data, single_data, single_bytes, data_of_header, header_bytes}
use Rattle.list_slice.specs.Entry.{Piece}
use Rattle.list_slice.specs.Items.{References, value_of}

-- the data bytes that a piece adds to a record: a value of a Push its own, a function's header all but its body
unfoldable pub piece_data : References → Piece → ℕ
piece_data r (Piece.op o) = 0
piece_data r (Piece.ConstantPool n) = length (plain_data (Plain.ConstantPool (r.strings n)))
piece_data r (Piece.StoreRegister n) = 1
piece_data r (Piece.GotoFrame n) = 2
piece_data r (Piece.GotoFrame2 p) = 1
piece_data r (Piece.GotoLabel s) = length (plain_data (Plain.GotoLabel (r.text s)))
piece_data r (Piece.branch b l) = 2
piece_data r (Piece.function n f) = length (data_of_header (r.header f) 0)
piece_data r (Piece.mark l) = 0
piece_data r (Piece.value first v) = length (value_bytes (value_of r v))

-- refusal 9's test of a piece
unfoldable pub piece_clear : References → Piece → Bool
piece_clear r (Piece.op o) = true
piece_clear r (Piece.ConstantPool n) = all no_zero (r.strings n)
piece_clear r (Piece.StoreRegister n) = true
piece_clear r (Piece.GotoFrame n) = true
piece_clear r (Piece.GotoFrame2 p) = true
piece_clear r (Piece.GotoLabel s) = no_zero (r.text s) && true
piece_clear r (Piece.branch b l) = true
piece_clear r (Piece.function n f) = all no_zero (header_strings (r.header f))
piece_clear r (Piece.mark l) = true
piece_clear r (Piece.value first v) = all no_zero (value_strings (value_of r v))

-- the bytes of an action, given those of each list's body
abbrev pub size_of : (ℕ → ℕ) → Action → ℕ
size_of B (plain p) = length (single_bytes (simple p))
size_of B (push vs) = length (single_bytes (pushing vs))
size_of B (branch b p) = 5
size_of B (define h j) = length (header_bytes h (B j)) + B j

-- of items, the last item first, the bytes of each action in order
unfoldable pub measures : (ℕ → ℕ) → List Item → List ℕ
measures B [] = []
measures B (action a ∷ is) = measures B is ++ (size_of B a ∷ [])
measures B (mark l ∷ is) = measures B is

-- refusal 10's test, given the bytes of each list's body
abbrev pub short_of : (ℕ → ℕ) → Action → Bool
short_of B (plain p) = leb (length (single_data (simple p))) 65535
short_of B (push vs) = leb (length (single_data (pushing vs))) 65535
short_of B (branch b p) = true
short_of B (define h j) = leb (length (data_of_header h (B j))) 65535 && leb (B j) 65535

unfoldable pub all_short : (ℕ → ℕ) → List Item → Bool
all_short B [] = true
all_short B (action a ∷ is) = short_of B a && all_short B is
all_short B (mark l ∷ is) = all_short B is

unfoldable pub all_clear : List Item → Bool
all_clear [] = true
all_clear (action a ∷ is) = all no_zero (strings a) && all_clear is
all_clear (mark l ∷ is) = all_clear is
