-- The rules of the script file, and which of the refusals 4 (bytes), 1, 2, 3, 4 (depth) a file gets.
use Rattle.std.specs.Prelude.{ℕ, zero, suc, ◌+◌, ◌-◌, List, [], ◌∷◌, Bool, true, cond, not, ◌&&◌, ltb, leb, eqb, length}
use Rattle.hir.specs.Hir.{Str}
use Rattle.hir.specs.Tree.{Forest, depth}
use Rattle.utf8.specs.Utf8.{utf8}
use Rattle.script_records.specs.declared.layout.Layout.{Layout}
use Rattle.script_records.specs.declared.layout.Row.{Row}
use Rattle.script_records.specs.Layout.{Words, words_of, has_trailer, areas_touch, supported, layout_of, end_at, start_at, strings_of, rows_of, row_in, span_at, forest, children_of}
use Rattle.script.specs.Forms.{statement, is_list, fits}

-- every number below n passes
unfoldable pub all_below : (ℕ → Bool) → ℕ → Bool
all_below t zero = true
all_below t (suc n) = all_below t n && t n

-- ends never fall, and the last end is the length of the string bytes (no strings, no bytes)
abbrev pub ends_hold : List ℕ → Layout → Bool
ends_hold F l = all_below (λ i. leb (start_at F l i) (end_at F l i)) l.strings && eqb (start_at F l l.strings) l.ends

-- the n records that end before record e are subtrees in a row: each size is at least 1 and no larger than what is left
unfoldable pub parted_in : ℕ → List Row → ℕ → ℕ → Bool
parted_in zero rs e n = true
parted_in (suc k) rs e zero = true
parted_in (suc k) rs e (suc m) =
    (leb 1 (row_in rs (e - 1)).size && leb (row_in rs (e - 1)).size (suc m)) &&
    parted_in k rs (e - span_at rs e (suc m)) (suc m - span_at rs e (suc m))

unfoldable pub parted : List Row → ℕ → ℕ → Bool
parted rs e n = parted_in n rs e n

-- record i holds, in a file of m strings: its size counts itself and subtrees in a row, and its words and children have its kind's form
unfoldable pub record_holds : ℕ → List Row → ℕ → Bool
record_holds m rs i =
    ((leb 1 (row_in rs i).size && leb (row_in rs i).size (i + 1)) && parted rs i ((row_in rs i).size - 1)) &&
    fits m (words_of (row_in rs i)) (children_of rs i)

-- the last record is the root, a list of statements, with size equal to the record count
unfoldable pub root_holds : List Row → ℕ → Bool
root_holds rs n = leb 1 n && (eqb (row_in rs (n - 1)).size n && is_list statement (words_of (row_in rs (n - 1))) (children_of rs (n - 1)))

abbrev pub records_hold : List ℕ → Layout → Bool
records_hold F l = all_below (record_holds l.strings (rows_of F l)) l.count && root_holds (rows_of F l) l.count

-- refusal 1 is given where this is false
unfoldable pub rules_hold : List ℕ → Bool
rules_hold F = (has_trailer F && areas_touch F) && (ends_hold F (layout_of F) && records_hold F (layout_of F))

-- refusal 2 where this is false: every string of the table is UTF-8 by itself
unfoldable pub all_utf8 : List Str → Bool
all_utf8 [] = true
all_utf8 (s ∷ ss) = utf8 s && all_utf8 ss

-- refusal 3 where this is false
unfoldable pub all_supported : List Row → ℕ → Bool
all_supported rs n = all_below (λ i. supported (row_in rs i).kind) n

-- a script file has at most so many bytes, and its tree at most that depth
abbrev pub max_bytes : ℕ
max_bytes = 1048576

abbrev pub max_depth : ℕ
max_depth = 128

-- the tree of the file: the forest of all its records, whose one root is the last
unfoldable pub tree_in : List ℕ → Layout → Forest Words
tree_in F l = forest (rows_of F l) l.count l.count

-- the refusal's number, 0 for an accepted file
unfoldable pub check_of : List ℕ → ℕ
check_of F =
    cond (ltb max_bytes (length F)) 4
    (cond (not (rules_hold F)) 1
    (cond (not (all_utf8 (strings_of F (layout_of F)))) 2
    (cond (not (all_supported (rows_of F (layout_of F)) (layout_of F).count)) 3
    (cond (ltb max_depth (depth (tree_in F (layout_of F)))) 4 0))))
