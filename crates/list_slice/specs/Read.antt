-- The words of a read slice: lists by place, with the byte positions of records and strings for references.
use Rattle.std.specs.Prelude.{ℕ, suc, ◌+◌, List, [], ◌∷◌, ◌++◌, map, reverse, length, drop}
use Rattle.std.proofs.Math.Option.{Option, none, some}
use Rattle.hir.specs.Hir.{Str}
use Rattle.pcode.specs.Pcode.{Value, Plain, Header, Action, Item, DefineFunction, define}
use Rattle.lowering.specs.Builder.{Limits}
use Rattle.action_format.specs.Lists.{Lists, Single, simple, pushing, branching, single}
use Rattle.action_format.specs.Code.{Code, end, act, fun, code}
use Rattle.action_format.specs.Bytes.{Bytes, value_bytes, single_bytes, header_bytes, code_bytes}
use Rattle.action_format.specs.Readers.{read_string}
use Rattle.action_format.specs.Decode.{Record, alone, header, read_record}
use Rattle.list_slice.specs.Entry.{Entry, Pushed, Piece, entries_of, piece_of}
use Rattle.list_slice.specs.Words.{slice_words, entries_in}
use Rattle.list_slice.specs.Items.{Chosen, References, pushed_of, item_pieces, items_of}
use Rattle.list_slice.specs.Compiled.{numbered}

-- an action and the byte position of its record
pub record Placed : Type 0 where
  pub action : Action
  pub position : ℕ

abbrev pub at : Action → ℕ → Placed
at a p = record { action = a; position = p }

-- a list's own actions, and the lists that finish in it
pub record PlacedLists : Type 0 where
  pub own : List Placed
  pub lists : List (List Placed)

-- where a function's body begins, and what follows the body
abbrev pub body_at_code : ℕ → Header → Code → ℕ
body_at_code p h b = p + length (header_bytes h (length (code_bytes b)))

abbrev pub after_body : ℕ → Header → Code → ℕ
after_body p h b = body_at_code p h b + length (code_bytes b)

-- a list from byte p on, n lists having finished before
unfoldable pub placed : (n p : ℕ) → Code → PlacedLists
placed n p end = record { own = []; lists = [] }
placed n p (act a c) =
    record { own = at (single a) p ∷ (placed n (p + length (single_bytes a)) c).own; lists = (placed n (p + length (single_bytes a)) c).lists }
placed n p (fun h b c) =
    let inner = placed n (body_at_code p h b) b in
    let k = suc (n + length inner.lists) in
    let rest = placed k (after_body p h b) c in
    record { own = at (define h k) p ∷ rest.own; lists = inner.lists ++ (inner.own ∷ rest.lists) }

-- a record of code and length has its data 3 bytes on: there a GotoLabel's string begins, and a pushed one after its type

unfoldable pub values_from : ℕ → List Value → List Pushed
values_from p [] = []
values_from p (v ∷ vs) = pushed_of (λ s. p + 1) v ∷ values_from (p + length (value_bytes v)) vs

abbrev pub chosen_at : (position : ℕ) → Chosen
chosen_at p = record { text = λ s. p + 3; strings = λ ss. p; header = λ h n. p; values = values_from (p + 3) }

unfoldable pub placed_in_order : List Placed → List Piece
placed_in_order [] = []
placed_in_order (a ∷ as') = item_pieces (chosen_at a.position) (Item.action a.action) ++ placed_in_order as'

-- in the order in which the lists finish, each with its last piece first
abbrev pub all_placed : PlacedLists → List (List Placed)
all_placed l = l.lists ++ (l.own ∷ [])

unfoldable pub pieces_read : Lists → List (List Piece)
pieces_read l = map (λ (xs : List Placed). reverse (placed_in_order xs)) (all_placed (placed 0 0 (code l)))

unfoldable pub entries_read : Lists → List (List Entry)
entries_read l = map entries_of (pieces_read l)

unfoldable pub read_words : Limits → Lists → (length : ℕ) → List ℕ
read_words limits l n = slice_words limits (entries_read l) [] [] n

-- what the references name in the bytes

abbrev pub string_read : Option (Str × Bytes) → Str
string_read none = []
string_read (some x) = x.0

abbrev pub plain_strings : Plain → List Str
plain_strings (Plain.ConstantPool ss) = ss
plain_strings (Plain.op o) = []
plain_strings (Plain.StoreRegister r) = []
plain_strings (Plain.GotoFrame n) = []
plain_strings (Plain.GotoFrame2 p) = []
plain_strings (Plain.GotoLabel s) = []

abbrev pub single_strings : Single → List Str
single_strings (simple p) = plain_strings p
single_strings (pushing vs) = []
single_strings (branching b p) = []

abbrev pub record_strings : Option (Record × Bytes) → List Str
record_strings none = []
record_strings (some x) = elim x.0 [ alone a ↦ single_strings a | header h n ↦ [] ]

abbrev pub record_header : Option (Record × Bytes) → Header
record_header none = DefineFunction [] []
record_header (some x) = elim x.0 [ alone a ↦ DefineFunction [] [] | header h n ↦ h ]

abbrev pub in_bytes : Bytes → References
in_bytes b = record {
  text = λ r. string_read (read_string (drop r b));
  strings = λ r. record_strings (read_record (drop r b));
  header = λ r. record_header (read_record (drop r b));
}

-- and back: the lists that words say, by the bytes and the words alone
unfoldable pub lists_read : Limits → Bytes → List ℕ → List (List Item)
lists_read limits b w = numbered (map (λ (es : List Entry). items_of (in_bytes b) (map piece_of es)) (entries_in limits w))
