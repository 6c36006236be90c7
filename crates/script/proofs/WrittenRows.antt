-- The records of a tree, and the tree of records: facts about lists of records alone.
use Prim.Native.Nat.{ℕ, zero, suc, ◌+◌, ◌-◌, ◌≤◌, ◌<◌}
use mathlib.Core.Path.{◌≡◌, refl, sym, ap, ◌∙◌, subst}
use mathlib.Core.List.{List, [], ◌∷◌, ◌++◌, append_assoc}
use mathlib.Core.Bool.{Bool, true, false, ◌&&◌}
use lib.Dec.{ltb, leb}
use lib.ListN.{length, get_or, take, drop, length-append, length-drop}
use lib.Seq.{get_or_at, take-add, drop-drop, take-suc, get_or-drop}
use native.Mathlib.Nat.{zero-add}
use native.Mathlib.Numerals.{add-one, sub-one}
use native.Mathlib.Omega.{arith}
use borrow.Author.Tests.{leb-true, ltb-true, ltb-false, le-leb, eq-eqb}
use Rattle.hir.specs.Tree.{Forest, none, more, count}
use Rattle.script_records.specs.declared.layout.Row.{Row}
use Rattle.script_records.specs.Layout.{Words, words_of, row_in, no_row, span_at, forest, children_of}
use Rattle.script.specs.Forms.{fits}
use Rattle.script.specs.Rules.{parted, record_holds, root_holds}
use Rattle.script.specs.Write.{row_of, rows_of_trees, is_script, are_words, all_fit}
use Rattle.script_records.proofs.Trees.{forest_none, forest_more, span_le, span_pos}
use Rattle.script.proofs.RecordLaws.{parted_none, parted_law}
use Rattle.std.proofs.lemmas.Bool.{and_parts, and_from}

-- one half of what the library's `and_parts` gives, for the proofs of other crates, which need one at a time
pub first : (a b : Bool) → (a && b) ≡ true → a ≡ true
first a b h = (and_parts a b h).0

pub second : (a b : Bool) → (a && b) ≡ true → b ≡ true
second a b h = (and_parts a b h).1

-- a list stands in another from place p on
pub record At {A : Type 0} (l : List A) (p : ℕ) (xs : List A) : Type 0 where
  pub front : List A
  pub back : List A
  pub whole : l ≡ front ++ (xs ++ back)
  pub place : length front ≡ p

module _ {A : Type 0} {l : List A} {p : ℕ} (xs ys : List A) (h : At l p (xs ++ ys)) where
  pub at_left : At l p xs
  at_left = record { front = h.front; back = ys ++ h.back; whole = h.whole ∙ rw append_assoc; place = h.place }

  pub at_right : At l (p + length xs) ys
  at_right =
      record { front = h.front ++ xs; back = h.back; whole = h.whole ∙ simp append_assoc; place = length-append h.front xs ∙ ap (λ (n : ℕ). n + length xs) h.place }

pub at_one : {A : Type 0} {l : List A} {p : ℕ} {x : A} {xs : List A} (d : A) → At l p (x ∷ xs) → get_or l p d ≡ x
at_one {p} {x} {xs} d h = rw h.whole (get_or_at h.front x (xs ++ h.back) d p h.place)

-- a tree of suc b records stands after a others, from record p on
module _ (rs : List Row) (p a b : ℕ) (size : (row_in rs (p + a + b)).size ≡ suc b) where
  last : p + (a + suc b) - 1 ≡ p + a + b
  last = omega arith

  span_here : span_at rs (p + (a + suc b)) (a + suc b) ≡ suc b
  unfolding span_at
  span_here = rw (last, size) (omega arith)

  before_end : p + (a + suc b) - suc b ≡ p + a
  before_end = omega arith

  before_size : a + suc b - suc b ≡ a
  before_size = omega arith

  pub forest_step : forest rs (p + (a + suc b)) (a + suc b) ≡ more (forest rs (p + a) a) (words_of (row_in rs (p + a + b))) (forest rs (p + a + b) b)
  forest_step = forest_more rs (p + (a + suc b)) (a + suc b) (omega arith) ∙ rw (span_here, last, before_end, before_size, sub-one)

  pub parted_step : parted rs (p + (a + suc b)) (a + suc b) ≡ parted rs (p + a) a
  parted_step =
      parted_law rs (p + (a + suc b)) (a + suc b) (omega arith)
      ∙ rw (span_here, last, size, before_end, before_size, le-leb 1 (suc b) (omega arith), le-leb (suc b) (a + suc b) (omega arith))

pub rows_count : (f : Forest Words) → length (rows_of_trees f) ≡ count f
unfolding rows_of_trees count
rows_count none = refl
rows_count (more f w kids) = rw (length-append, length-append, rows_count f, rows_count kids, add-one)

-- the parts of a forest's records, which stand from record p on
record Placed (rs : List Row) (p : ℕ) (f : Forest Words) (w : Words) (kids : Forest Words) : Type 0 where
  before : At rs p (rows_of_trees f)
  inner : At rs (p + count f) (rows_of_trees kids)
  root : row_in rs (p + count f + count kids) ≡ row_of w (suc (count kids))

placed : {rs : List Row} {p : ℕ} {f : Forest Words} {w : Words} {kids : Forest Words} → At rs p (rows_of_trees (more f w kids)) → Placed rs p f w kids
unfolding rows_of_trees
placed {f} {w} {kids} h =
    let row : List Row = row_of w (suc (count kids)) ∷ [] in
    let rest = at_right (rows_of_trees f) (rows_of_trees kids ++ row) h in
    let end = at_right (rows_of_trees kids) row rest in
    record {
      before = at_left (rows_of_trees f) (rows_of_trees kids ++ row) h;
      inner = rw (rows_count f) at (at_left (rows_of_trees kids) row rest);
      root = rw (rows_count f, rows_count kids) at (at_one no_row end);
    }

-- The library has no lemma of this shape: of three parts in a row, of which the last is one place, every place passes
three : (t : ℕ → Bool) (p a b : ℕ) → ((i : ℕ) → i < a → t (p + i) ≡ true) → ((i : ℕ) → i < b → t (p + a + i) ≡ true) → t (p + a + b) ≡ true
    → (i : ℕ) → i < a + suc b → t (p + i) ≡ true
three t p a b f g h i l = by (ltb i a) refl (ltb i (a + b)) refl
  where
    by : (x : Bool) → ltb i a ≡ x → (y : Bool) → ltb i (a + b) ≡ y → t (p + i) ≡ true
    by true e y d = f i (ltb-true i a e)
    by false e true d =
        let low : a ≤ i = ltb-false i a e in
        let high : i < a + b = ltb-true i (a + b) d in
        let q : p + a + (i - a) ≡ p + i = omega arith in
        rw q at (g (i - a) (omega arith))
    by false e false d =
        let low : a + b ≤ i = ltb-false i (a + b) d in
        let q : p + a + b ≡ p + i = omega arith in
        rw q at h

-- the records of a forest give that forest, and they hold if it fits
module _ (rs : List Row) where
  pub rows_forest : (f : Forest Words) (p : ℕ) → At rs p (rows_of_trees f) → forest rs (p + count f) (count f) ≡ f
  unfolding count
  rows_forest none p h = forest_none rs (p + 0)
  rows_forest (more f w kids) p h =
      let l = placed h in
      forest_step rs p (count f) (count kids) (ap (λ (r : Row). r.size) l.root)
      ∙ rw (rows_forest f p l.before, l.root, rows_forest kids (p + count f) l.inner)

  pub rows_parted : (f : Forest Words) (p : ℕ) → At rs p (rows_of_trees f) → parted rs (p + count f) (count f) ≡ true
  unfolding count
  rows_parted none p h = parted_none rs (p + 0)
  rows_parted (more f w kids) p h =
      let l = placed h in
      parted_step rs p (count f) (count kids) (ap (λ (r : Row). r.size) l.root) ∙ rows_parted f p l.before

  root_holds_lem : (m : ℕ) (f : Forest Words) (w : Words) (kids : Forest Words) (p : ℕ) → Placed rs p f w kids → fits m w kids ≡ true
      → record_holds m rs (p + count f + count kids) ≡ true
  unfolding record_holds
  root_holds_lem m f w kids p l h =
      rw (
        l.root,
        sub-one,
        le-leb 1 (suc (count kids)) (omega arith),
        le-leb (suc (count kids)) (p + count f + count kids + 1) (omega arith),
        rows_parted kids (p + count f) l.inner,
        rows_forest kids (p + count f) l.inner,
      ) h

  pub rows_hold : (m : ℕ) (f : Forest Words) (p : ℕ) → At rs p (rows_of_trees f) → all_fit m f ≡ true → (i : ℕ) → i < count f → record_holds m rs (p + i) ≡ true
  unfolding count all_fit
  rows_hold m none p h k i u = absurd (omega arith)
  rows_hold m (more f w kids) p h k i u =
      let l = placed h in
      let q = (and_parts (all_fit m f) _ k).1 in
      let r = (and_parts (all_fit m kids) _ q).1 in
      three (record_holds m rs) p (count f) (count kids) (rows_hold m f p l.before ((and_parts (all_fit m f) _ k).0))
      (rows_hold m kids (p + count f) l.inner ((and_parts (all_fit m kids) _ q).0))
      (root_holds_lem m f w kids p l ((and_parts (fits m w kids) (are_words w) r).0)) i u

  pub root_written : (t : Forest Words) → At rs 0 (rows_of_trees t) → is_script t ≡ true → root_holds rs (count t) ≡ true
  unfolding is_script count root_holds
  root_written none h k = k
  root_written (more (more f v ks) w kids) h k = cc
  root_written (more none w kids) h k =
      let l = placed h in
      let e : 0 + count kids ≡ count kids = zero-add (count kids) in
      let root : row_in rs (count kids) ≡ row_of w (suc (count kids)) = rw e at l.root in
      let below : forest rs (count kids) (count kids) ≡ kids = rw e at (rows_forest kids 0 l.inner) in
      rw (zero-add (suc (count kids)), sub-one, root, sub-one, below, le-leb 1 (suc (count kids)) (omega arith), eq-eqb (suc (count kids)) (suc (count kids)) refl) k

-- the spans of a forest add up, whatever the sizes
count_forest : (k : ℕ) (rs : List Row) (e n : ℕ) → n ≤ k → count (forest rs e n) ≡ n
unfolding count
count_forest zero rs e zero h = rw forest_none
count_forest zero rs e (suc n) h = absurd (omega arith)
count_forest (suc k) rs e zero h = rw forest_none
count_forest (suc k) rs e (suc n) h =
    let a = span_le rs e (suc n) in
    let b = span_pos rs e (suc n) (omega arith) in
    rw (
      forest_more rs e (suc n) (omega arith),
      count_forest k rs (e - span_at rs e (suc n)) (suc n - span_at rs e (suc n)) (omega arith),
      count_forest k rs (e - 1) (span_at rs e (suc n) - 1) (omega arith),
    ) (omega arith)

pub forest_count : (rs : List Row) (e n : ℕ) → count (forest rs e n) ≡ n
forest_count rs e n = count_forest n rs e n (omega arith)

-- what a record that holds says of itself
module _ (m : ℕ) (rs : List Row) (i : ℕ) (h : record_holds m rs i ≡ true) where
  abbrev sizes : Bool
  sizes = leb 1 (row_in rs i).size && leb (row_in rs i).size (i + 1)

  held : ((sizes && parted rs i ((row_in rs i).size - 1)) && fits m (words_of (row_in rs i)) (children_of rs i)) ≡ true
  unfolding record_holds
  held = h

  sizes_held : sizes ≡ true
  sizes_held = (and_parts sizes _ ((and_parts (sizes && parted rs i ((row_in rs i).size - 1)) _ held).0)).0

  pub held_some : 1 ≤ (row_in rs i).size
  held_some = leb-true 1 (row_in rs i).size ((and_parts (leb 1 (row_in rs i).size) _ sizes_held).0)

  pub held_inside : (row_in rs i).size ≤ i + 1
  held_inside = leb-true (row_in rs i).size (i + 1) ((and_parts (leb 1 (row_in rs i).size) _ sizes_held).1)

  pub held_parted : parted rs i ((row_in rs i).size - 1) ≡ true
  held_parted = (and_parts sizes _ ((and_parts (sizes && parted rs i ((row_in rs i).size - 1)) _ held).0)).1

  pub held_fits : fits m (words_of (row_in rs i)) (children_of rs i) ≡ true
  held_fits = (and_parts (sizes && parted rs i ((row_in rs i).size - 1)) _ held).1

-- the last tree of n records from record p on: it has inner records below its root, and before records before it
record Cut (rs : List Row) (p n : ℕ) : Type 0 where
  before : ℕ
  inner : ℕ
  sum : n ≡ before + suc inner
  size : (row_in rs (p + before + inner)).size ≡ suc inner
  sizes : parted rs (p + before) before ≡ true

cut : (rs : List Row) (p n : ℕ) → 0 < n → parted rs (p + n) n ≡ true → Cut rs p n
cut rs p n some_left h =
    let s : ℕ = (row_in rs (p + n - 1)).size in
    let law = sym (parted_law rs (p + n) n some_left) ∙ h in
    let tests = (and_parts (leb 1 s && leb s n) _ law).0 in
    let low : 1 ≤ s = leb-true 1 s ((and_parts (leb 1 s) _ tests).0) in
    let high : s ≤ n = leb-true s n ((and_parts (leb 1 s) _ tests).1) in
    let sum : n ≡ n - s + suc (s - 1) = omega arith in
    let place : p + (n - s) + (s - 1) ≡ p + n - 1 = omega arith in
    let size : (row_in rs (p + (n - s) + (s - 1))).size ≡ suc (s - 1) = rw place (omega arith) in
    record { before = n - s; inner = s - 1; sum = sum; size = size; sizes = sym (parted_step rs p (n - s) (s - 1) size) ∙ ap (λ (x : ℕ). parted rs (p + x) x) (sym sum) ∙ h }

same_row : (r : Row) (n : ℕ) → r.size ≡ n → row_of (words_of r) n ≡ r
same_row r n e = rw (← e)

-- a part of N records that hold, by its last tree: what is before that, and what is below its root
module _ (m : ℕ) (rs : List Row) (N : ℕ) (all : (i : ℕ) → i < N → record_holds m rs i ≡ true) where
  module _ (P : ℕ → ℕ → Type 0) (base : (p : ℕ) → P p 0) (step : (p a b : ℕ) → p + (a + suc b) ≤ N → (row_in rs (p + a + b)).size ≡ suc b → P p a → P (p + a) b → P p (a + suc b)) where
    part_go : (k n p : ℕ) → n ≤ k → p + n ≤ N → parted rs (p + n) n ≡ true → P p n
    part_go zero zero p l q h = base p
    part_go zero (suc n) p l q h = absurd (omega arith)
    part_go (suc k) zero p l q h = base p
    part_go (suc k) (suc n) p l q h =
        let c = cut rs p (suc n) (omega arith) h in
        let e : suc n ≡ c.before + suc c.inner = c.sum in
        let held = held_parted m rs (p + c.before + c.inner) (all (p + c.before + c.inner) (omega arith)) in
        subst (λ (x : ℕ). P p x) (sym e)
        (step p c.before c.inner (omega arith) c.size (part_go k c.before p (omega arith) (omega arith) c.sizes)
        (part_go k c.inner (p + c.before) (omega arith) (omega arith) (rw (c.size, sub-one) at held)))

    pub part_induct : (n p : ℕ) → p + n ≤ N → parted rs (p + n) n ≡ true → P p n
    part_induct n p = part_go n n p (omega arith)

  module _ (long : N ≤ length rs) where
    -- the records of a part's trees are the part
    rows_step : (p a b : ℕ) → p + (a + suc b) ≤ N → (row_in rs (p + a + b)).size ≡ suc b → rows_of_trees (forest rs (p + a) a) ≡ take a (drop p rs)
        → rows_of_trees (forest rs (p + a + b) b) ≡ take b (drop (p + a) rs) → rows_of_trees (forest rs (p + (a + suc b)) (a + suc b)) ≡ take (a + suc b) (drop p rs)
    unfolding rows_of_trees
    rows_step p a b l size f g =
        let inside : b < length (drop (p + a) rs) = rw length-drop (omega arith) in
        rw (forest_step rs p a b size, f, g, forest_count, same_row (row_in rs (p + a + b)) (suc b) size, take-add, drop-drop, take-suc (drop (p + a) rs) b no_row inside, get_or-drop)

    pub rows_part : (n p : ℕ) → p + n ≤ N → parted rs (p + n) n ≡ true → rows_of_trees (forest rs (p + n) n) ≡ take n (drop p rs)
    unfolding rows_of_trees
    rows_part = part_induct (λ p n. rows_of_trees (forest rs (p + n) n) ≡ take n (drop p rs)) (λ p. rw forest_none) rows_step

    -- the tree of a record is the records that its size counts
    root_rows : (p b : ℕ) → p + b < N → (row_in rs (p + b)).size ≡ suc b → rows_of_trees (more none (words_of (row_in rs (p + b))) (children_of rs (p + b))) ≡ take (suc b) (drop p rs)
    unfolding rows_of_trees
    root_rows p b l size =
        let inside : b < length (drop p rs) = rw length-drop (omega arith) in
        let sizes = rw (size, sub-one) at (held_parted m rs (p + b) (all (p + b) l)) in
        rw (size, sub-one, rows_part b p (omega arith) sizes, forest_count, same_row (row_in rs (p + b)) (suc b) size, take-suc (drop p rs) b no_row inside, get_or-drop)

    pub rows_tree : (i : ℕ) → i < N → rows_of_trees (more none (words_of (row_in rs i)) (children_of rs i)) ≡ take (row_in rs i).size (drop (i + 1 - (row_in rs i).size) rs)
    rows_tree i h = go (row_in rs i).size refl (held_some m rs i (all i h)) (held_inside m rs i (all i h))
      where
        go : (s : ℕ) → (row_in rs i).size ≡ s → 1 ≤ s → s ≤ i + 1 → rows_of_trees (more none (words_of (row_in rs i)) (children_of rs i)) ≡ take s (drop (i + 1 - s) rs)
        go s e low high =
            let place : i + 1 - s + (s - 1) ≡ i = omega arith in
            let size : suc (s - 1) ≡ s = omega arith in
            rw (place, size) at (root_rows (i + 1 - s) (s - 1) (omega arith) (rw (place, size) e))

  pub tree_size : (i : ℕ) → i < N → 1 + count (children_of rs i) ≡ (row_in rs i).size
  tree_size i h = let low = held_some m rs i (all i h) in rw forest_count (omega arith)

  module _ (words : (i : ℕ) → are_words (words_of (row_in rs i)) ≡ true) where
    fits_step : (p a b : ℕ) → p + (a + suc b) ≤ N → (row_in rs (p + a + b)).size ≡ suc b → all_fit m (forest rs (p + a) a) ≡ true
        → all_fit m (forest rs (p + a + b) b) ≡ true → all_fit m (forest rs (p + (a + suc b)) (a + suc b)) ≡ true
    unfolding all_fit
    fits_step p a b l size f g =
        let fit = held_fits m rs (p + a + b) (all (p + a + b) (omega arith)) in
        rw (forest_step rs p a b size) (and_from _ _ f (and_from _ _ g (and_from _ _ (rw (size, sub-one) at fit) (words (p + a + b)))))

    pub fits_part : (n p : ℕ) → p + n ≤ N → parted rs (p + n) n ≡ true → all_fit m (forest rs (p + n) n) ≡ true
    unfolding all_fit
    fits_part = part_induct (λ p n. all_fit m (forest rs (p + n) n) ≡ true) (λ p. rw forest_none) fits_step
