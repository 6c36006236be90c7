-- The areas of a script file (document 01, 'The script file'): string bytes, end offsets, records, trailer.
use Rattle.std.specs.Prelude.{ℕ, zero, suc, ◌+◌, ◌-◌, ◌*◌, ◌<◌, ◌≤◌, min, max, List, [], ◌∷◌, Bool, cond, not, ◌&&◌, ◌||◌, leb, eqb, length, get_or, take, drop}
use Rattle.hir.specs.Hir.{Str}
use Rattle.hir.specs.Tree.{Forest, none, more}
use Rattle.script_records.specs.declared.layout.Layout.{Layout}
use Rattle.script_records.specs.declared.layout.Row.{Row}

-- the word at a byte position: 32 bits, least significant byte first
unfoldable pub word_at : List ℕ → ℕ → ℕ
word_at F p = get_or F p 0 + 256 * (get_or F (p + 1) 0 + 256 * (get_or F (p + 2) 0 + 256 * get_or F (p + 3) 0))

-- where the trailer's five words start; they point back
abbrev pub trailer_at : List ℕ → ℕ
trailer_at F = length F - 20

abbrev pub record_distance : List ℕ → ℕ
record_distance F = word_at F (trailer_at F)

abbrev pub end_distance : List ℕ → ℕ
end_distance F = word_at F (trailer_at F + 4)

abbrev pub record_count : List ℕ → ℕ
record_count F = word_at F (trailer_at F + 8)

abbrev pub string_count : List ℕ → ℕ
string_count F = word_at F (trailer_at F + 12)

abbrev pub edition : List ℕ → ℕ
edition F = word_at F (trailer_at F + 16)

-- a trailer of five words, edition 1
abbrev pub has_trailer : List ℕ → Bool
has_trailer F = leb 20 (length F) && eqb (edition F) 1

-- the areas touch: five words a record up to the trailer, before them a word a string
abbrev pub areas_touch : List ℕ → Bool
areas_touch F =
    (eqb (record_distance F) (20 * record_count F) && eqb (end_distance F) (20 * record_count F + 4 * string_count F)) && leb (end_distance F) (trailer_at F)

-- where the areas are; all zeros in a file that is too short for a trailer
unfoldable pub layout_of : List ℕ → Layout
layout_of F =
    cond (leb 20 (length F))
    (record { records = trailer_at F - record_distance F; ends = trailer_at F - end_distance F; count = record_count F; strings = string_count F })
    (record { records = 0; ends = 0; count = 0; strings = 0 })

-- the end offset of string i, and the string's bytes: from the end of the one before it. Past the file's end there is nothing
unfoldable pub end_at : List ℕ → Layout → ℕ → ℕ
end_at F l i = cond (leb (l.ends + 4 * i + 4) (length F)) (word_at F (l.ends + 4 * i)) 0

abbrev pub start_at : List ℕ → Layout → ℕ → ℕ
start_at F l zero = 0
start_at F l (suc i) = end_at F l i

unfoldable pub string_at : List ℕ → Layout → ℕ → Str
string_at F l i = take (end_at F l i - start_at F l i) (drop (start_at F l i) F)

-- from string i on, n strings
unfoldable pub strings_from : List ℕ → Layout → ℕ → ℕ → List Str
strings_from F l i zero = []
strings_from F l i (suc n) = string_at F l i ∷ strings_from F l (suc i) n

unfoldable pub strings_of : List ℕ → Layout → List Str
strings_of F l = strings_from F l 0 l.strings

abbrev pub no_row : Row
no_row = record { kind = 0; a = 0; b = 0; c = 0; size = 0 }

-- the record at a byte position, all zeros where it does not lie whole in the file
unfoldable pub row_at : List ℕ → ℕ → Row
row_at F p =
    cond (leb (p + 20) (length F))
    (record { kind = word_at F p; a = word_at F (p + 4); b = word_at F (p + 8); c = word_at F (p + 12); size = word_at F (p + 16) })
    no_row

-- from byte position p on, n records
unfoldable pub rows_from : List ℕ → ℕ → ℕ → List Row
rows_from F p zero = []
rows_from F p (suc n) = row_at F p ∷ rows_from F (p + 20) n

unfoldable pub rows_of : List ℕ → Layout → List Row
rows_of F l = rows_from F l.records l.count

-- what a record says beside its size
pub record Words : Type 0 where
  pub kind : ℕ
  pub a : ℕ
  pub b : ℕ
  pub c : ℕ

abbrev pub words_of : Row → Words
words_of r = record { kind = r.kind; a = r.a; b = r.b; c = r.c }

abbrev pub row_in : List Row → ℕ → Row
row_in rs i = get_or rs i no_row

-- record i is one of the records, and lies whole in the file
abbrev pub HasRow : List ℕ → Layout → ℕ → Type 0
HasRow F l i = (i < l.count) × (l.records + 20 * i + 20 ≤ length F)

-- how many records the last subtree has, of the n records that end before record e: its size, but at least 1 and at most n
unfoldable pub span_at : List Row → ℕ → ℕ → ℕ
span_at rs e n = min n (max 1 (row_in rs (e - 1)).size)

-- the subtrees of the n records that end before record e. Children come before their parent, each subtree directly after the one before
unfoldable pub forest_in : ℕ → List Row → ℕ → ℕ → Forest Words
forest_in zero rs e n = none
forest_in (suc k) rs e zero = none
forest_in (suc k) rs e (suc m) =
    more (forest_in k rs (e - span_at rs e (suc m)) (suc m - span_at rs e (suc m))) (words_of (row_in rs (e - 1)))
    (forest_in k rs (e - 1) (span_at rs e (suc m) - 1))

unfoldable pub forest : List Row → ℕ → ℕ → Forest Words
forest rs e n = forest_in n rs e n

-- the children of record i
abbrev pub children_of : List Row → ℕ → Forest Words
children_of rs i = forest rs i ((row_in rs i).size - 1)

-- refusal 3 names statement kinds 10 to 14, and GetUrl
abbrev pub supported : ℕ → Bool
supported k = not ((leb 10 k && leb k 14) || eqb k 53)
