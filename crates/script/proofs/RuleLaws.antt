-- The rules of the whole file: what each step of the walks over records and strings gives.
use Prim.Native.Nat.{ℕ, zero, suc, ◌+◌, ◌-◌, ◌≤◌, ◌<◌, max}
use mathlib.Core.Path.{◌≡◌, refl, sym, ap, ◌∙◌}
use mathlib.Core.List.{List, [], ◌∷◌, ◌++◌, reverse}
use mathlib.Core.Bool.{Bool, true, false, ◌&&◌, and-true, and-false}
use Rattle.std.proofs.Math.Bool.{and_assoc}
use Rattle.std.specs.List.{list_all, range_with_len}
use lib.Dec.{ltb}
use Rattle.std.proofs.lemmas.Bool.Decides.{nat_tests}
use lib.ListN.{length, length-append}
use Rattle.std.proofs.lemmas.List.{reverse-append, length-reverse}
use native.Mathlib.Nat.{add-zero}
use native.Mathlib.Numerals.{add-one}
use native.Mathlib.Omega.{arith}
use native.Mathlib.Nat.{sub-zero}
use borrow.Author.Tests.{eq-eqb, ne_eqb, lt-ltb, le-ltb, le-leb}
use Rattle.hir.specs.Tree.{depth}
use Rattle.script_records.specs.declared.layout.Layout.{Layout}
use Rattle.script_records.specs.declared.layout.Row.{Row}
use Rattle.script_records.specs.declared.part.Tree.{Tree}
use Rattle.script_records.specs.Layout.{words_of, row_in, span_at, forest, strings_from, strings_of, string_at, rows_of, layout_of}
use Rattle.script_records.specs.Parts.{trees_in, last_tree}
use Rattle.script.specs.Forms.{statement, is_list}
use Rattle.script.specs.Rules.{all_below, rules_hold, check_of, max_depth, root_holds, all_utf8, all_supported, tree_in}
use Rattle.utf8.specs.Utf8.{utf8}
use Rattle.script_records.proofs.Trees.{forest_none, forest_more, span_le, span_pos}
use Rattle.script.proofs.RecordLaws.{turned}

-- a test of every number below n, as `all` over a range makes it
module _ (t : ℕ → Bool) where
  below_from : (i n : ℕ) → all_below t (i + n) ≡ (all_below t i && list_all t (range_with_len i n))
  unfolding all_below
  below_from i zero = rw (add-zero, and-true)
  below_from i (suc n) =
      let e : i + suc n ≡ suc i + n = omega arith in
      rw add-one (ap (all_below t) e ∙ below_from (suc i) n ∙ and_assoc (all_below t i) (t i) (list_all t (range_with_len (suc i) n)))

  pub below_range : (n : ℕ) → list_all t (range_with_len 0 n) ≡ all_below t n
  unfolding all_below
  below_range n = let e : 0 + n ≡ n = omega arith in sym (rw e at (below_from 0 n))

whole_span : (rs : List Row) (n : ℕ) → (row_in rs (n - 1)).size ≡ n → 0 < n → span_at rs n n ≡ n
unfolding span_at
whole_span rs n s h = omega arith

-- the root, the last tree of all records
module _ (rs : List Row) (n : ℕ) where
  pub root_none : n ≡ 0 → false ≡ root_holds rs n
  unfolding root_holds
  root_none h = rw h

  module _ (some_left : n ≡ 0 → ⊥) {t : Tree} (e : t ≡ last_tree rs (record { end = n; n = n })) where
    pub root_size : (t.row.size ≡ n → ⊥) → false ≡ root_holds rs n
    unfolding root_holds last_tree
    root_size h = rw (le-leb 1 n (omega arith), ne_eqb (row_in rs (n - 1)).size n (rw e at h))

    pub root_list : {b : Bool} → t.row.size ≡ n → b ≡ is_list statement (words_of t.row) (trees_in rs t.children) → b ≡ root_holds rs n
    unfolding root_holds last_tree
    root_list {b} h q =
        let s : (row_in rs (n - 1)).size ≡ n = rw e at h in
        let k : b ≡ is_list statement (words_of (row_in rs (n - 1))) (forest rs (n - 1) (span_at rs n n - 1)) = rw e at q in
        rw (le-leb 1 n (omega arith), eq-eqb (row_in rs (n - 1)).size n s, s) (rw (whole_span rs n s (omega arith)) at k)

-- the strings from i on
module _ (F : List ℕ) (l : Layout) where
  strings_range : (i n : ℕ) → list_all (λ j. utf8 (string_at F l j)) (range_with_len i n) ≡ all_utf8 (strings_from F l i n)
  unfolding all_utf8 strings_from
  strings_range i zero = refl
  strings_range i (suc n) = rw (add-one, strings_range (suc i) n)

  pub strings_all : list_all (λ j. utf8 (string_at F l j)) (range_with_len 0 l.strings) ≡ all_utf8 (strings_of F l)
  unfolding strings_of
  strings_all = strings_range 0 l.strings

-- The depth of what is left of the records, from the last to the first: each open ancestor, the innermost first, has the records
-- from its start on still before it.
unfoldable pub deepest : List Row → List ℕ → ℕ → ℕ
deepest rs [] i = 0
deepest rs (s ∷ ss) i = max (length ss + depth (forest rs i (i - s))) (deepest rs ss s)

-- no ancestor starts after an inner one
unfoldable pub Ordered : List ℕ → ℕ → Type 0
Ordered [] i = Unit
Ordered (s ∷ ss) i = (s ≤ i) × Ordered ss s

-- what the walk knows of the starts of the open ancestors, the innermost last: the file's depth is d
pub record Deep (rs : List Row) (d : ℕ) (starts : List ℕ) (i : ℕ) : Type 0 where
  pub few : length starts ≤ 129
  pub ordered : Ordered (reverse starts) i
  pub same : ltb 128 d ≡ ltb 128 (deepest rs (reverse starts) i)

pub deep_start : (rs : List Row) (n : ℕ) → Deep rs (depth (forest rs n n)) (0 ∷ []) n
unfolding Ordered deepest
deep_start rs n = record { few = omega arith; ordered = (omega arith, tt); same = rw sub-zero (ap (ltb 128) (omega arith)) }

-- no ancestor is open
pub deep_end : (rs : List Row) (d : ℕ) (starts : List ℕ) (i : ℕ) → Deep rs d starts i → length starts ≡ 0 → false ≡ ltb 128 d
unfolding deepest
deep_end rs d [] i f h = sym f.same
deep_end rs d (s ∷ ss) i f h = absurd (omega arith)

-- the innermost ancestor starts at s, the others at ss
module _ (rs : List Row) (s : ℕ) (ss : List ℕ) (i : ℕ) where
  -- it has no more records
  deepest_pop : length ss ≤ 128 → s ≡ i → ltb 128 (deepest rs (s ∷ ss) i) ≡ ltb 128 (deepest rs ss i)
  unfolding deepest depth
  deepest_pop h e =
      let z : i - i ≡ 0 = omega arith in
      let y : length ss + 0 ≡ length ss = omega arith in
      rw (e, z, forest_none, y) (grind (arith, nat_tests))

  module _ (below : s ≤ i) (apart : s ≡ i → ⊥) where
    left_some : 0 < i - s
    left_some = omega arith

    over_full : 128 ≤ length ss → ltb 128 (deepest rs (s ∷ ss) i) ≡ true
    unfolding deepest depth
    over_full h = rw (forest_more rs i (i - s) left_some) (lt-ltb 128 _ (omega arith))

    abbrev span : ℕ
    span = span_at rs i (i - s)

    deepest_push : deepest rs (s ∷ ss) i ≡ deepest rs ((i - span) ∷ s ∷ ss) (i - 1)
    unfolding deepest depth
    deepest_push =
        let a = span_le rs i (i - s) in
        let b = span_pos rs i (i - s) left_some in
        let p : i - 1 - (i - span) ≡ span - 1 = omega arith in
        let q : i - span - s ≡ i - s - span = omega arith in
        rw (forest_more rs i (i - s) left_some, p, q) (omega arith)

    ordered_push : Ordered ss s → Ordered ((i - span) ∷ s ∷ ss) (i - 1)
    unfolding Ordered
    ordered_push o =
        let a = span_le rs i (i - s) in
        let b = span_pos rs i (i - s) left_some in
        (omega arith, (omega arith, o))

-- the innermost ancestor, which starts at s, is taken from the others
module _ (rs : List Row) (d : ℕ) {starts : List ℕ} (others : List ℕ) (s i : ℕ) (e : starts ≡ others ++ s ∷ []) (f : Deep rs d starts i) where
  count : length others + 1 ≤ 129
  count = let l : length starts ≡ length others + 1 = ap length e ∙ length-append others (s ∷ []) in omega (arith, f.few)

  still_open : Ordered (s ∷ reverse others) i
  still_open = rw (turned others s e) at f.ordered

  same_open : ltb 128 d ≡ ltb 128 (deepest rs (s ∷ reverse others) i)
  same_open = rw (turned others s e) at f.same

  pub deep_below : s ≤ i
  unfolding Ordered
  deep_below = still_open.0

  pub deep_pop : s ≡ i → Deep rs d others i
  unfolding Ordered
  deep_pop h = record {
    few = omega (arith, count);
    ordered = rw h at still_open.1;
    same = same_open ∙ deepest_pop rs s (reverse others) i (rw length-reverse (omega (arith, count))) h;
  }

  module _ (apart : s ≡ i → ⊥) where
    pub deep_full : 128 ≤ length others → ltb 128 d ≡ true
    deep_full h = same_open ∙ over_full rs s (reverse others) i deep_below apart (rw length-reverse h)

    -- the record before i becomes an open ancestor
    pub deep_push : length others ≤ 127 → {t : Tree} → t ≡ last_tree rs (record { end = i; n = i - s }) → Deep rs d ((others ++ s ∷ []) ++ t.before.end ∷ []) (i - 1)
    unfolding Ordered last_tree
    deep_push h q = rw q (record {
      few = rw (length-append, length-append) (omega (arith, count));
      ordered = rw (reverse-append (others ++ s ∷ []), turned others s refl) (ordered_push rs s (reverse others) i deep_below apart still_open.1);
      same = same_open ∙ rw (reverse-append (others ++ s ∷ []), turned others s refl) (ap (ltb 128) (deepest_push rs s (reverse others) i deep_below apart));
    })

pub check_long : (F : List ℕ) → 1048576 < length F → 4 ≡ check_of F
unfolding check_of
check_long F h = rw (lt-ltb 1048576 (length F) h)

-- the order of the refusals, in a file that is not too long
module _ (F : List ℕ) (short : length F ≤ 1048576) {l : Layout} (e : l ≡ layout_of F) {r : Bool} (p : r ≡ rules_hold F) where
  pub check_rules : r ≡ false → 1 ≡ check_of F
  unfolding check_of
  check_rules h = rw (le-ltb 1048576 (length F) short, ← p, h)

  module _ (rules : r ≡ true) {s : Bool} (q : s ≡ all_utf8 (strings_of F l)) where
    pub check_strings : s ≡ false → 2 ≡ check_of F
    unfolding check_of
    check_strings h = rw (le-ltb 1048576 (length F) short, ← p, rules, ← e, ← q, h)

    module _ (strings : s ≡ true) {k : Bool} (u : k ≡ all_supported (rows_of F l) l.count) where
      pub check_kinds : k ≡ false → 3 ≡ check_of F
      unfolding check_of
      check_kinds h = rw (le-ltb 1048576 (length F) short, ← p, rules, ← e, ← q, strings, ← u, h)

      module _ (kinds : k ≡ true) {d : Bool} (v : d ≡ ltb max_depth (depth (tree_in F l))) where
        pub check_deep : d ≡ true → 4 ≡ check_of F
        unfolding check_of
        check_deep h = rw (le-ltb 1048576 (length F) short, ← p, rules, ← e, ← q, strings, ← u, kinds, ← v, h)

        pub check_accepted : d ≡ false → 0 ≡ check_of F
        unfolding check_of
        check_accepted h = rw (le-ltb 1048576 (length F) short, ← p, rules, ← e, ← q, strings, ← u, kinds, ← v, h)
