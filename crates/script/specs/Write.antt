-- The writer of a script file of edition 1 (document 01, 'The script file'), and which strings and trees it is for.
use Rattle.std.specs.Prelude.{ℕ, suc, ◌+◌, ◌*◌, ◌/◌, ◌%◌, ◌^◌, ◌<◌, ◌≡◌, List, [], ◌∷◌, ◌++◌, Bool, true, false, ◌&&◌, ltb, length, get_or}
use Rattle.hir.specs.Hir.{Str}
use Rattle.hir.specs.Tree.{Forest, none, more, count}
use Rattle.script_records.specs.declared.layout.Row.{Row}
use Rattle.script_records.specs.Layout.{Words}
use Rattle.script.specs.Forms.{statement, is_list, fits}

-- a word is 32 bits, least significant byte first
abbrev pub word4 : ℕ → List ℕ
word4 n = n % 256 ∷ n / 256 % 256 ∷ n / 65536 % 256 ∷ n / 16777216 % 256 ∷ []

unfoldable pub bytes_of : List ℕ → List ℕ
bytes_of [] = []
bytes_of (n ∷ ns) = word4 n ++ bytes_of ns

-- string bytes end to end
unfoldable pub text : List Str → List ℕ
text [] = []
text (s ∷ ss) = s ++ text ss

-- one end offset for each string, the first of which starts at p
unfoldable pub ends_from : ℕ → List Str → List ℕ
ends_from p [] = []
ends_from p (s ∷ ss) = (p + length s) ∷ ends_from (p + length s) ss

abbrev pub row_of : Words → ℕ → Row
row_of w n = record { kind = w.kind; a = w.a; b = w.b; c = w.c; size = n }

-- children come before their parent, each subtree directly after the one before; a size counts the subtree's records, itself included
unfoldable pub rows_of_trees : Forest Words → List Row
rows_of_trees none = []
rows_of_trees (more before w kids) = rows_of_trees before ++ (rows_of_trees kids ++ (row_of w (suc (count kids)) ∷ []))

-- a record is five words
unfoldable pub record_words : List Row → List ℕ
record_words [] = []
record_words (r ∷ rs) = r.kind ∷ r.a ∷ r.b ∷ r.c ∷ r.size ∷ record_words rs

-- the distances from its start to the first record and to the first end offset, the numbers of records n and strings m, edition 1
abbrev pub trailer : ℕ → ℕ → List ℕ
trailer n m = 20 * n ∷ (20 * n + 4 * m) ∷ n ∷ m ∷ 1 ∷ []

-- the words after the string bytes
abbrev pub words_after : List Str → Forest Words → List ℕ
words_after ss t = ends_from 0 ss ++ (record_words (rows_of_trees t) ++ trailer (count t) (length ss))

unfoldable pub write : List Str → Forest Words → List ℕ
write ss t = text ss ++ bytes_of (words_after ss t)

-- every byte is below 256; past the end get_or gives 0
abbrev pub Bytes : List ℕ → Type 0
Bytes F = (i : ℕ) → get_or F i 0 < 256

-- one tree, whose root is a list of statements
unfoldable pub is_script : Forest Words → Bool
is_script none = false
is_script (more none w kids) = is_list statement w kids
is_script (more (more f v ks) w kids) = false

-- the words of a kind that refusal 3 names are free, but are words
abbrev pub are_words : Words → Bool
are_words w = ltb w.a (2 ^ 32) && (ltb w.b (2 ^ 32) && ltb w.c (2 ^ 32))

-- every record's words and children are of its kind's form, in a file of m strings
unfoldable pub all_fit : ℕ → Forest Words → Bool
all_fit m none = true
all_fit m (more before w kids) = all_fit m before && (all_fit m kids && (fits m w kids && are_words w))

pub record WellFormed (ss : List Str) (t : Forest Words) : Type 0 where
  pub root : is_script t ≡ true
  pub records : all_fit (length ss) t ≡ true
  pub strings : Bytes (text ss)
