-- The words of a compiled slice: what it holds for the lists that lowering gives.
use Rattle.std.specs.Prelude.{ℕ, zero, suc, ◌≡◌, List, [], ◌∷◌, ◌++◌, map, reverse, Bool, true, ◌&&◌, T, length}
use Rattle.pcode.specs.Pcode.{Item}
use Rattle.lowering.specs.Builder.{Limits}
use Rattle.action_format.specs.ByPlace.{marked}
use Rattle.action_format.specs.Lists.{all}
use Rattle.list_slice.specs.Entry.{Pushed, Piece, Null, Undefined, Boolean, String, Register, Float, Integer, Constant, op, ConstantPool, StoreRegister, GotoFrame, GotoLabel, GotoFrame2, branch, function, mark, value, Entry, entries_of, piece_of}
use Rattle.list_slice.specs.Words.{Fits, slice_words, joined, entries_in, pool_in}
use Rattle.list_slice.specs.Items.{items_of}
use Rattle.list_slice.specs.File.{names_string, names_function, in_file}

-- the lists in the order in which they finish: the top list, number 0, is the last
abbrev pub finishing : {A : Type 0} → List (List A) → List (List A)
finishing [] = []
finishing (top ∷ functions) = functions ++ (top ∷ [])

-- and back, by number
abbrev pub last_to_front : {A : Type 0} → List (List A) → List (List A)
last_to_front [] = []
last_to_front (top ∷ before) = top ∷ reverse before

abbrev pub numbered : {A : Type 0} → List (List A) → List (List A)
numbered ls = last_to_front (reverse ls)

-- a label's word: the place where its own list marks it, plus 1; 0 if none does

abbrev pub place_word : (places : List ℕ) → (otherwise : ℕ) → ℕ
place_word [] n = n
place_word (p ∷ ps) n = suc p

unfoldable pub label_word : List (List Item) → (label : ℕ) → ℕ
label_word [] l = 0
label_word (is ∷ ls) l = place_word (marked 0 l is) (label_word ls l)

-- from label l on, n label words
unfoldable pub labels_from : List (List Item) → (l n : ℕ) → List ℕ
labels_from ls l zero = []
labels_from ls l (suc n) = label_word ls l ∷ labels_from ls (suc l) n

abbrev pub label_words : (n : ℕ) → List (List Item) → List ℕ
label_words n ls = labels_from ls 0 n

-- the references name strings and functions of the file

abbrev pub value_named : List ℕ → Pushed → Bool
value_named F (String r) = names_string F r
value_named F Null = true
value_named F Undefined = true
value_named F (Boolean b) = true
value_named F (Register r) = true
value_named F (Float v) = true
value_named F (Integer v) = true
value_named F (Constant i) = true

abbrev pub piece_named : List ℕ → Piece → Bool
piece_named F (GotoLabel r) = names_string F r
piece_named F (function n r) = names_function F r
piece_named F (value first v) = value_named F v
piece_named F (op o) = true
piece_named F (ConstantPool n) = true
piece_named F (StoreRegister r) = true
piece_named F (GotoFrame n) = true
piece_named F (GotoFrame2 p) = true
piece_named F (branch b l) = true
piece_named F (mark l) = true

-- how many strings each ConstantPool of a list has
abbrev pub pool_count : Piece → List ℕ
pool_count (ConstantPool n) = n ∷ []
pool_count (op o) = []
pool_count (StoreRegister r) = []
pool_count (GotoFrame n) = []
pool_count (GotoLabel r) = []
pool_count (GotoFrame2 p) = []
pool_count (branch b l) = []
pool_count (function n r) = []
pool_count (mark l) = []
pool_count (value first v) = []

-- the words are the slice of pieces that read as the lists. Left free is which of several equal strings of the file, and which of several equal
-- functions, a reference names: the empty string has no_string too. The pool has one word for each string of the one ConstantPool
pub record Holds (limits : Limits) (F : List ℕ) (lists : List (List Item)) (w : List ℕ) : Type 0 where
  pub pieces : List (List Piece)
  pub pool : List ℕ
  pub fits : Fits limits (map entries_of pieces) (label_words limits.labels lists) pool (length w)
  pub words : w ≡ slice_words limits (map entries_of pieces) (label_words limits.labels lists) pool (length w)
  pub reads : map (items_of (in_file F pool)) pieces ≡ finishing lists
  pub counted : joined (map pool_count (joined pieces)) ≡ length pool ∷ []
  pub named : T (all (piece_named F) (joined pieces) && all (names_string F) pool)

-- and back: the lists that words say, by the file and the words alone
unfoldable pub lists_in : Limits → List ℕ → List ℕ → List (List Item)
lists_in limits F w = numbered (map (λ (es : List Entry). items_of (in_file F (pool_in limits w)) (map piece_of es)) (entries_in limits w))
