-- The rules and the writer agree: a file is accepted by rule 1 exactly if it is what the writer of a tree writes.
use Prim.Native.Nat.{ℕ, zero, suc, ◌+◌, ◌-◌, ◌*◌, ◌^◌, ◌≤◌, ◌<◌}
use mathlib.Core.Path.{◌≡◌, refl, sym, ap, ◌∙◌}
use mathlib.Core.Logic.{◌↔◌}
use mathlib.Core.List.{List, [], ◌∷◌, ◌++◌, append-nil}
use mathlib.Core.Bool.{Bool, true, false, ◌&&◌, cond}
use lib.Dec.{eqb, leb, ltb}
use lib.ListN.{length, take, drop, take-append-drop, length-append, get_or-eq_default}
use lib.Seq.{take_all}
use native.Mathlib.Nat.{zero-add}
use native.Mathlib.Numerals.{sub-one}
use native.Mathlib.Omega.{arith}
use borrow.Author.Tests.{leb-true, eqb-true, ltb-true, ltb-false, lt-ltb, le-leb, eq-eqb, ne_eqb}
use Rattle.hir.specs.Hir.{Str}
use Rattle.hir.specs.Tree.{Forest, none, more, count}
use Rattle.script_records.specs.declared.layout.Layout.{Layout}
use Rattle.script_records.specs.declared.layout.Row.{Row}
use Rattle.script_records.specs.Layout.{Words, words_of, word_at, layout_of, start_at, end_at, strings_of, row_at, rows_from, rows_of, row_in, no_row, forest, children_of}
use Rattle.script.specs.Forms.{form_of, fits, kind_forms, unknown}
use Rattle.script_records.specs.Layout.{has_trailer, areas_touch}
use Rattle.script.specs.Rules.{all_below, ends_hold, parted, record_holds, root_holds, records_hold, rules_hold, tree_in, max_bytes}
use Rattle.script.specs.Write.{text, ends_from, record_words, rows_of_trees, trailer, bytes_of, write, Bytes, is_script, are_words, all_fit, WellFormed, word4, row_of, words_after}
use Rattle.script_records.proofs.Trees.{forest_none}
use Rattle.script.proofs.RecordLaws.{parted_none}
use Rattle.script_records.proofs.LayoutLaws.{rows_length}
use Rattle.script.proofs.WrittenRows.{forest_step, parted_step, forest_count, rows_part, rows_tree, tree_size, fits_part, At, at_left, at_right, rows_count, rows_forest, rows_hold, root_written}
use Rattle.script.proofs.WrittenBytes.{words_from, words_add, word_small, drop_words, record_words_lem, Small, small_append, bytes_length, words_at, same_rows, record_append, record_length, strings_length, ends_written, text_written, Tabled, tabled_strings, tabled_last, tabled_rises, Areas, areas_of, areas_hold, areas_layout}
use Rattle.std.proofs.lemmas.Bool.{and_parts, and_from}

pub below_at : (t : ℕ → Bool) (n i : ℕ) → all_below t n ≡ true → i < n → t i ≡ true
unfolding all_below
below_at t zero i h k = absurd (omega arith)
below_at t (suc n) i h k = by (ltb i n) refl (below_at t n i ((and_parts (all_below t n) (t n) h).0))
  where
    by : (x : Bool) → ltb i n ≡ x → (i < n → t i ≡ true) → t i ≡ true
    by true e f = f (ltb-true i n e)
    by false e f =
        let low : n ≤ i = ltb-false i n e in
        let q : n ≡ i = omega arith in
        rw q at ((and_parts (all_below t n) (t n) h).1)

bytes_take : (n : ℕ) (F : List ℕ) → Bytes F → Bytes (take n F)
bytes_take zero F h i = omega arith
bytes_take (suc n) [] h i = omega arith
bytes_take (suc n) (x ∷ xs) h zero = h zero
bytes_take (suc n) (x ∷ xs) h (suc i) = bytes_take n xs (λ j. h (suc j)) i

-- the root is the only tree of all records
module _ (rs : List Row) where
  root_one : (b : ℕ) → (row_in rs b).size ≡ suc b → (forest rs (suc b) (suc b) ≡ more none (words_of (row_in rs b)) (forest rs b b)) × (parted rs (suc b) (suc b) ≡ true)
  root_one b h =
      let e : 0 + 0 + b ≡ b = omega arith in
      let size : (row_in rs (0 + 0 + b)).size ≡ suc b = rw e h in
      (simp (zero-add, forest_none) at (forest_step rs 0 0 b size), simp (zero-add, parted_none) at (parted_step rs 0 0 b size))

  root_tree : (n : ℕ) → root_holds rs n ≡ true → (is_script (forest rs n n) ≡ true) × (parted rs n n ≡ true)
  unfolding root_holds is_script
  root_tree zero h = (cc, cc)
  root_tree (suc b) h =
      let tests = rw sub-one at ((and_parts (leb 1 (suc b)) _ h).1) in
      let size = eqb-true (row_in rs b).size (suc b) ((and_parts (eqb (row_in rs b).size (suc b)) _ tests).0) in
      let list = (and_parts (eqb (row_in rs b).size (suc b)) _ tests).1 in
      let one = root_one b size in
      (rw one.0 (rw (size, sub-one) at list), one.1)

-- words of a file are words
module _ (F : List ℕ) (bytes : Bytes F) where
  row_words : (p : ℕ) → are_words (words_of (row_at F p)) ≡ true
  unfolding row_at
  row_words p = by (leb (p + 20) (length F))
    where
      by : (x : Bool) → are_words (words_of (cond x (record { kind = word_at F p; a = word_at F (p + 4); b = word_at F (p + 8); c = word_at F (p + 12); size = word_at F (p + 16) }) no_row)) ≡ true
      by true = rw (lt-ltb _ _ (word_small F bytes (p + 4)), lt-ltb _ _ (word_small F bytes (p + 8)), lt-ltb _ _ (word_small F bytes (p + 12)))
      by false = refl

  rows_words : (n p i : ℕ) → are_words (words_of (row_in (rows_from F p n) i)) ≡ true
  unfolding rows_from
  rows_words zero p i = refl
  rows_words (suc n) p zero = row_words p
  rows_words (suc n) p (suc i) = rows_words n (p + 20) i

-- what each rule says
module _ (F : List ℕ) (rules : rules_hold F ≡ true) where
  abbrev l : Layout
  l = layout_of F

  abbrev rows : List Row
  rows = rows_of F l

  parts : ((has_trailer F && areas_touch F) && (ends_hold F l && records_hold F l)) ≡ true
  unfolding rules_hold
  parts = rules

  areas : Areas F l
  areas = areas_of F ((and_parts (has_trailer F && areas_touch F) _ parts).0)

  ends : ends_hold F l ≡ true
  ends = (and_parts (ends_hold F l) (records_hold F l) ((and_parts (has_trailer F && areas_touch F) _ parts).1)).0

  records : records_hold F l ≡ true
  records = (and_parts (ends_hold F l) (records_hold F l) ((and_parts (has_trailer F && areas_touch F) _ parts).1)).1

  rise : (i : ℕ) → i < l.strings → start_at F l i ≤ end_at F l i
  rise i h = leb-true (start_at F l i) (end_at F l i) (below_at (λ j. leb (start_at F l j) (end_at F l j)) l.strings i ((and_parts (all_below (λ j. leb (start_at F l j) (end_at F l j)) l.strings) _ ends).0) h)

  last : start_at F l l.strings ≡ l.ends
  last = eqb-true (start_at F l l.strings) l.ends ((and_parts (all_below (λ j. leb (start_at F l j) (end_at F l j)) l.strings) _ ends).1)

  pub all_hold : (i : ℕ) → i < l.count → record_holds l.strings rows i ≡ true
  all_hold i = below_at (record_holds l.strings rows) l.count i ((and_parts (all_below (record_holds l.strings rows) l.count) _ records).0)

  root : (is_script (tree_in F l) ≡ true) × (parted rows l.count l.count ≡ true)
  unfolding tree_in
  root = root_tree rows l.count ((and_parts (all_below (record_holds l.strings rows) l.count) _ records).1)

  pub rows_long : length (rows_of F (layout_of F)) ≡ l.count
  unfolding rows_of
  rows_long = rows_length F l.records l.count

  strings_inside : l.ends + 4 * l.strings ≤ length F
  strings_inside = omega (arith, areas.total)

  strings_number : length (strings_of F l) ≡ l.strings
  unfolding strings_of
  strings_number = strings_length F l 0 l.strings

  tree_count : count (tree_in F l) ≡ l.count
  unfolding tree_in
  tree_count = forest_count rows l.count l.count

  tree_rows : rows_of_trees (tree_in F l) ≡ rows
  unfolding tree_in
  tree_rows =
      let long : l.count ≤ length rows = omega (arith, rows_long) in
      let parted0 : parted rows (0 + l.count) l.count ≡ true = rw zero-add root.1 in
      rw zero-add at (rows_part l.strings rows l.count all_hold long l.count 0 (omega arith) parted0)
      ∙ take_all l.count rows (omega (arith, rows_long))

  tree_words : record_words (rows_of_trees (tree_in F l)) ≡ words_from F (l.ends + 4 * l.strings) (5 * l.count)
  unfolding rows_of
  tree_words =
      let at : l.records ≡ l.ends + 4 * l.strings = areas.records in
      ap record_words tree_rows ∙ record_words_lem F l.count l.records (omega (arith, areas.total)) ∙ rw at

  pub written_as : Bytes F → F ≡ write (strings_of F l) (tree_in F l)
  unfolding write
  written_as bytes =
      let e = ends_written F l strings_inside rise last in
      let t = text_written F l strings_inside rise last in
      let w = drop_words F bytes (l.strings + (5 * l.count + 5)) l.ends areas.total in
      sym (take-append-drop l.ends F)
      ∙ rw (w, words_add F l.ends l.strings (5 * l.count + 5), words_add F (l.ends + 4 * l.strings) (5 * l.count) 5, areas.tail, e, t, tree_words, strings_number, tree_count)

  pub well_formed : Bytes F → WellFormed (strings_of F l) (tree_in F l)
  unfolding tree_in rows_of
  well_formed bytes =
      let parted0 : parted rows (0 + l.count) l.count ≡ true = rw zero-add root.1 in
      record {
        root = root.0;
        records = rw (strings_number) (rw zero-add at (fits_part l.strings rows l.count all_hold (rows_words F bytes l.count l.records) l.count 0 (omega arith) parted0));
        strings = rw (text_written F l strings_inside rise last) (bytes_take l.ends F bytes);
      }

below_all : (t : ℕ → Bool) (n : ℕ) → ((i : ℕ) → i < n → t i ≡ true) → all_below t n ≡ true
unfolding all_below
below_all t zero h = refl
below_all t (suc n) h = and_from _ _ (below_all t n (λ i k. h i (omega arith))) (h n (omega arith))

-- bytes of what is written
bytes_both : (xs ys : List ℕ) → Bytes xs → Bytes ys → Bytes (xs ++ ys)
bytes_both [] ys h k i = k i
bytes_both (x ∷ xs) ys h k zero = h zero
bytes_both (x ∷ xs) ys h k (suc i) = bytes_both xs ys (λ j. h (suc j)) k i

bytes_word : (n : ℕ) → Bytes (word4 n)
bytes_word n zero = omega arith
bytes_word n (suc zero) = omega arith
bytes_word n (suc (suc zero)) = omega arith
bytes_word n (suc (suc (suc zero))) = omega arith
bytes_word n (suc (suc (suc (suc i)))) = omega arith

bytes_words : (ns : List ℕ) → Bytes (bytes_of ns)
unfolding bytes_of
bytes_words [] i = omega arith
bytes_words (n ∷ ns) i = bytes_both (word4 n) (bytes_of ns) (bytes_word n) (bytes_words ns) i

bytes_append : (xs ys : List ℕ) → bytes_of (xs ++ ys) ≡ bytes_of xs ++ bytes_of ys
unfolding bytes_of
bytes_append [] ys = refl
bytes_append (x ∷ xs) ys = rw (bytes_append xs ys)

-- a kind that has a form is one of the table's
no_form : (m : ℕ) (w : Words) (kids : Forest Words) → 102 ≤ w.kind → fits m w kids ≡ false
unfolding fits form_of
no_form m w kids k =
    rw (
      ne_eqb w.kind 5 (λ e. omega arith),
      ne_eqb w.kind 32 (λ e. omega arith),
      ne_eqb w.kind 41 (λ e. omega arith),
      get_or-eq_default kind_forms unknown {n = w.kind} k,
    )

kind_small : (m : ℕ) (w : Words) (kids : Forest Words) → fits m w kids ≡ true → w.kind < 2 ^ 32
kind_small m w kids h = by (ltb w.kind 102) refl
  where
    by : (x : Bool) → ltb w.kind 102 ≡ x → w.kind < 2 ^ 32
    by true e = omega (arith, ltb-true w.kind 102 e)
    by false e =
        let f = no_form m w kids (ltb-false w.kind 102 e) in
        let z : ◌≡◌ {A = ℕ} 0 1 = cc in
        omega arith

small_rows : (m : ℕ) (f : Forest Words) → all_fit m f ≡ true → count f < 2 ^ 32 → Small (record_words (rows_of_trees f))
unfolding all_fit count rows_of_trees record_words Small
small_rows m none h k = tt
small_rows m (more f w kids) h k =
    let q = (and_parts (all_fit m f) _ h).1 in
    let r = (and_parts (all_fit m kids) _ q).1 in
    let s = (and_parts (fits m w kids) (are_words w) r).1 in
    let t = (and_parts (ltb w.a (2 ^ 32)) _ s).1 in
    let xs : List ℕ = record_words (rows_of_trees f) in
    let ys : List ℕ = record_words (rows_of_trees kids) in
    let zs : List ℕ = record_words (row_of w (suc (count kids)) ∷ []) in
    let last : Small zs =
    (kind_small m w kids ((and_parts (fits m w kids) _ r).0), (ltb-true _ _ ((and_parts (ltb w.a (2 ^ 32)) _ s).0), (ltb-true _ _ ((and_parts (ltb w.b (2 ^ 32)) _ t).0), (ltb-true _ _ ((and_parts (ltb w.b (2 ^ 32)) _ t).1), (omega arith, tt))))) in
    rw (record_append, record_append)
    (small_append xs (ys ++ zs) (small_rows m f ((and_parts (all_fit m f) _ h).0) (omega arith))
    (small_append ys zs (small_rows m kids ((and_parts (all_fit m kids) _ q).0) (omega arith)) last))

small_ends : (ss : List Str) (p : ℕ) → p + length (text ss) < 2 ^ 32 → Small (ends_from p ss)
unfolding text ends_from Small
small_ends [] p h = tt
small_ends (s ∷ ss) p h = let e = length-append s (text ss) in (omega arith, small_ends ss (p + length s) (omega arith))

ends_length : (p : ℕ) (ss : List Str) → length (ends_from p ss) ≡ length ss
unfolding ends_from
ends_length p [] = refl
ends_length p (s ∷ ss) = ap suc (ends_length (p + length s) ss)

-- the file that is written, and where its areas are
module _ (ss : List Str) (t : Forest Words) (wf : WellFormed ss t) (short : length (write ss t) ≤ max_bytes) where
  abbrev F : List ℕ
  F = write ss t

  abbrev E : ℕ
  E = length (text ss)

  abbrev made : Layout
  made = record { records = E + 4 * length ss; ends = E; count = count t; strings = length ss }

  total : length F ≡ E + 4 * (length ss + (5 * count t + 5))
  unfolding write
  total = rw (length-append, bytes_length, length-append, length-append, ends_length, record_length, rows_count)

  abbrev ends_part : List ℕ
  ends_part = ends_from 0 ss

  abbrev records_part : List ℕ
  records_part = record_words (rows_of_trees t)

  abbrev trailer_part : List ℕ
  trailer_part = trailer (count t) (length ss)

  at_ends : At F E (bytes_of ends_part ++ bytes_of (records_part ++ trailer_part))
  unfolding write
  at_ends = record { front = text ss; back = []; whole = rw (append-nil, bytes_append ends_part (records_part ++ trailer_part)); place = refl }

  at_records : At F (E + 4 * length ss) (bytes_of records_part ++ bytes_of trailer_part)
  at_records = rw (bytes_length, ends_length, bytes_append records_part trailer_part) at (at_right (bytes_of ends_part) (bytes_of (records_part ++ trailer_part)) at_ends)

  at_trailer : At F (E + 4 * length ss + 4 * (5 * count t)) (bytes_of trailer_part)
  at_trailer = rw (bytes_length, record_length, rows_count) at (at_right (bytes_of records_part) (bytes_of trailer_part) at_records)

  ends_words : words_from F E (length ss) ≡ ends_part
  ends_words = rw (ends_length 0 ss) at (words_at F ends_part E (at_left _ _ at_ends) (small_ends ss 0 (omega (arith, total))))

  records_words : words_from F (E + 4 * length ss) (5 * count t) ≡ records_part
  records_words =
      rw (record_length, rows_count) at
      (words_at F records_part (E + 4 * length ss) (at_left _ _ at_records) (small_rows (length ss) t wf.records (omega (arith, total))))

  small_trailer : Small (trailer (count t) (length ss))
  unfolding Small
  small_trailer = omega (arith, total)

  made_areas : Areas F made
  made_areas = record { total = total; records = refl; tail = words_at F (trailer (count t) (length ss)) _ at_trailer small_trailer }

  layout : layout_of F ≡ made
  layout = areas_layout F made made_areas

  tabled : Tabled F made 0 0 ss
  unfolding write
  tabled =
      let e : E + 4 * 0 ≡ E = omega arith in
      let z : 0 + length ss ≡ length ss = omega arith in
      record { start = refl; bytes = record { front = []; back = bytes_of (words_after ss t); whole = refl; place = refl }; ends = rw e ends_words; inside = rw z (omega (arith, total)) }

  made_rows : rows_of F made ≡ rows_of_trees t
  unfolding rows_of
  made_rows = same_rows _ _ (record_words_lem F (count t) (E + 4 * length ss) (omega (arith, total)) ∙ records_words)

  at_rows : At (rows_of F made) 0 (rows_of_trees t)
  at_rows = record { front = []; back = []; whole = made_rows ∙ sym (append-nil (rows_of_trees t)); place = refl }

  ends_hold_lem : ends_hold F made ≡ true
  ends_hold_lem =
      and_from _ _ (below_all _ (length ss) (λ i h. le-leb _ _ (rw zero-add at (tabled_rises F made ss 0 0 tabled i h))))
      (eq-eqb _ _ (simp zero-add at (tabled_last F made ss 0 0 tabled)))

  records_hold_lem : records_hold F made ≡ true
  records_hold_lem =
      and_from _ _ (below_all _ (count t) (λ i h. rw zero-add at (rows_hold (rows_of F made) (length ss) t 0 at_rows wf.records i h)))
      (root_written (rows_of F made) t at_rows wf.root)

  pub accepted : rules_hold (write ss t) ≡ true
  unfolding rules_hold
  accepted = rw layout (and_from _ _ (areas_hold F made made_areas) (and_from _ _ ends_hold_lem records_hold_lem))

  pub strings_read : strings_of (write ss t) (layout_of (write ss t)) ≡ ss
  unfolding strings_of
  strings_read = rw layout (tabled_strings F made ss 0 0 tabled)

  pub tree_read : tree_in (write ss t) (layout_of (write ss t)) ≡ t
  unfolding tree_in
  tree_read = rw layout (rw zero-add at (rows_forest (rows_of F made) t 0 at_rows))

pub bytes_written : (ss : List Str) (t : Forest Words) → WellFormed ss t → Bytes (write ss t)
unfolding write
bytes_written ss t wf = bytes_both (text ss) (bytes_of (words_after ss t)) wf.strings (bytes_words (words_after ss t))

-- what a file holds
abbrev pub strings_in : List ℕ → List Str
strings_in F = strings_of F (layout_of F)

abbrev pub tree_of : List ℕ → Forest Words
tree_of F = tree_in F (layout_of F)

abbrev pub rows_in : List ℕ → List Row
rows_in F = rows_of F (layout_of F)

-- a file that rule 1 accepts is what is written of its strings and its tree
pub accepted_written : (F : List ℕ) → Bytes F → rules_hold F ≡ true → (F ≡ write (strings_in F) (tree_of F)) × WellFormed (strings_in F) (tree_of F)
accepted_written F bytes rules = (written_as F rules bytes, well_formed F rules bytes)

-- what is written is accepted, and its strings and its tree are read back
pub written_accepted : (ss : List Str) (t : Forest Words) → WellFormed ss t → length (write ss t) ≤ max_bytes
    → (rules_hold (write ss t) ≡ true) × (strings_in (write ss t) ≡ ss) × (tree_of (write ss t) ≡ t)
written_accepted ss t wf short = (accepted ss t wf short, strings_read ss t wf short, tree_read ss t wf short)

-- rule 1 accepts exactly what the writer of a tree writes
pub accepted_exactly : (F : List ℕ) → Bytes F → length F ≤ max_bytes
    → (rules_hold F ≡ true) ↔ ((ss : List Str) × (t : Forest Words) × WellFormed ss t × (F ≡ write ss t))
accepted_exactly F bytes short = (
  λ rules. (strings_in F, tree_of F, well_formed F rules bytes, written_as F rules bytes),
  λ w. rw w.3 (accepted w.0 w.1 w.2 (rw w.3 at short)),
)

-- the same strings and the same tree are the same bytes
pub same_bytes_lem : (F G : List ℕ) → Bytes F → Bytes G → rules_hold F ≡ true → rules_hold G ≡ true → strings_in F ≡ strings_in G → tree_of F ≡ tree_of G → F ≡ G
same_bytes_lem F G f g p q strings tree = written_as F p f ∙ rw (strings, tree) (sym (written_as G q g))

-- in an accepted file the size of record i counts the records of its tree, which are those up to it
module _ (F : List ℕ) (rules : rules_hold F ≡ true) (i : ℕ) (inside : i < (layout_of F).count) where
  pub size_counts : 1 + count (children_of (rows_in F) i) ≡ (row_in (rows_in F) i).size
  size_counts = tree_size (layout_of F).strings (rows_in F) (layout_of F).count (all_hold F rules) i inside

  pub subtree_rows : rows_of_trees (more none (words_of (row_in (rows_in F) i)) (children_of (rows_in F) i))
      ≡ take (row_in (rows_in F) i).size (drop (i + 1 - (row_in (rows_in F) i).size) (rows_in F))
  subtree_rows = rows_tree (layout_of F).strings (rows_in F) (layout_of F).count (all_hold F rules) (omega (arith, rows_long F rules)) i inside
