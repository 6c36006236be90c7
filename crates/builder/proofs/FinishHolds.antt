-- The top list has joined the finished ones, and each label has its word: the words hold the script's lists.
use Prim.Native.Nat.{ℕ, suc, ◌+◌, ◌-◌, ◌*◌, ◌≤◌, ◌<◌}
use mathlib.Core.Path.{◌≡◌, refl, sym, ap, ◌∙◌}
use mathlib.Core.Logic.{◌≢◌}
use mathlib.Core.List.{List, [], ◌∷◌, ◌++◌, map, reverse}
use mathlib.Core.Bool.{Bool, true, false}
use native.Mathlib.Omega.{arith}
use lib.Dec.{T, eqb, ltb}
use lib.ListN.{length, get_or, set, take, drop, replicate, length-take, length-drop, length-append, length-set, get_or-replicate, get_or-eq_default}
use lib.Seq.{take-length, get_or-set_same, get_or-set_other, get_or-drop, get_or-take, ext_get_or}
use borrow.Rule.Slice.PartMut.{put_mid}
use borrow.Author.Tests.{eqb-true, eqb-false, ltb-true, ltb-false}
use Rattle.pcode.specs.Pcode.{Plain, Item}
use Rattle.lowering.specs.Builder.{limits01}
use Rattle.lowering.specs.Statement.{with_pool}
use Rattle.action_format.specs.Lists.{all}
use Rattle.action_format.proofs.Tests.{and_both, all_both}
use Rattle.list_slice.specs.Entry.{Piece, ConstantPool, Entry, entry, entry_of, piece_of}
use Rattle.list_slice.specs.Words.{zeros_of, area, joined, LastFilled, entry_at, run, cut}
use Rattle.list_slice.specs.Items.{plain, items_of}
use Rattle.list_slice.specs.File.{text_in, names_string, in_file}
use Rattle.list_slice.specs.Compiled.{finishing, label_word, label_words, piece_named, pool_count, Holds}
use Rattle.list_slice.proofs.Areas.{length_area, area_at, zeros_length}
use Rattle.list_slice.proofs.Pieces.{piece_back}
use Rattle.list_slice.proofs.Laid.{Rising, entries_are}
use Rattle.list_slice.proofs.Labels.{label_word_at}
use Rattle.list_slice.proofs.Read.{map_append}
use Rattle.list_slice.proofs.Determined.{counts_append}
use Rattle.list_slice.proofs.Finish.{Filled, filled_holds}
use Rattle.codegen_state.specs.declared.BuilderState.{BuilderState}
use Rattle.codegen_state.specs.View.{gather, ends_of, pool_of, open_of, state, good}
use Rattle.codegen_state.specs.Does.{Written, Fine, Named}
use Rattle.builder.specs.Entries.{put3}
use Rattle.builder.specs.Move.{Moved}
use Rattle.builder.specs.Places.{Copied, Cleared, Located, list_at, lists_at, Standing, Finished, finished}
use Rattle.builder.proofs.Leaves.{cut_same}
use Rattle.builder.proofs.Words.{getD_put, entry_same, entry_other, entry_side}
use Rattle.builder.proofs.Move.{same_inside, side_word, part_more}
use Rattle.builder.proofs.Ended.{rising_snoc, cut_snoc, run_moved, run_snoc}
use Rattle.builder.proofs.Filled.{fills}
use Rattle.builder.proofs.FinishWords.{cleared, same_entries, located_append}
use Rattle.builder.proofs.FinishReads.{cut_written, no_counts, all_named, run_reads, joined_map, cut_reads, pool_first, all_taken}

-- a table of words, and zeros after it

table : (w : List ℕ) (a n : ℕ) (ws : List ℕ) → a + n ≤ length w → ((j : ℕ) → j < n → get_or w (a + j) 0 ≡ get_or ws j 0) → take n (drop a w) ≡ area n ws
table w a n ws l h =
    let long : length (take n (drop a w)) ≡ n = simp (length-take, length-drop) (omega arith) in
    ext_get_or 0 (take n (drop a w)) (area n ws) (long ∙ sym (length_area n ws))
    (λ j k. let o : j < n = omega arith in rw (get_or-take n (drop a w) j 0 o, get_or-drop a w j 0, area_at n ws j o) (h j o))

part_table : (w : List ℕ) (a k n : ℕ) → a + n ≤ length w → ((j : ℕ) → k ≤ j → j < n → get_or w (a + j) 0 ≡ 0) → take n (drop a w) ≡ area n (take k (drop a w))
part_table w a k n l h = table w a n (take k (drop a w)) l (λ j o. at j o (ltb j k) refl)
  where
    at : (j : ℕ) → j < n → (c : Bool) → ltb j k ≡ c → get_or w (a + j) 0 ≡ get_or (take k (drop a w)) j 0
    at j o true z = let q = ltb-true j k z in rw (get_or-take k (drop a w) j 0 q, get_or-drop a w j 0)
    at j o false z = let q = ltb-false j k z in h j q o ∙ sym (get_or-eq_default (take k (drop a w)) 0 {n = j} (simp length-take (omega arith)))

zeros_from : (w : List ℕ) (a : ℕ) → a ≤ length w → ((j : ℕ) → a ≤ j → get_or w j 0 ≡ 0) → drop a w ≡ zeros_of (length w - a)
unfolding zeros_of
zeros_from w a l h =
    ext_get_or 0 (drop a w) (zeros_of (length w - a)) (length-drop a w ∙ sym (zeros_length (length w - a)))
    (λ j k. let o : j < length w - a = omega (arith, length-drop a w) in
    rw (get_or-drop a w j 0, h (a + j) (omega arith), get_or-replicate {A = ℕ} (length w - a) j 0 0 o))

last_filled : (xs : List (List Entry)) (ys : List Entry) → 0 < length ys → LastFilled (xs ++ (ys ∷ []))
last_filled [] ys h = h
last_filled (x ∷ []) ys h = h
last_filled (x ∷ z ∷ xs) ys h = last_filled (z ∷ xs) ys h

module _ (w0 : List ℕ) (b : BuilderState) (f : Fine b w0) (bottom : b.base ≡ 4096) {low : ℕ} {w1 : List ℕ} (m : Moved w0 b.low b.top low 4096 w1) where
  low_is : low ≡ b.low + (4096 - b.top)
  low_is = omega (arith, m.step, f.bottom)

  inside : low - 1 < 4096
  inside = omega (arith, low_is, f.low, f.bottom)

  -- words with the moved list, the pool's count, and the list's end
  module _ (count : ℕ) (w : List ℕ) (long : 16384 ≤ length w) (entries : (j : ℕ) → j ≢ low - 1 → j < 4096 → entry_at w j ≡ entry_at w1 j)
      (own : entry_at w (low - 1) ≡ entry 0x88 count 0) (behind : (j : ℕ) → 13312 ≤ j → j < 16384 → get_or w j 0 ≡ get_or (set w1 (13312 + b.lists) low) j 0) where
    below : (j : ℕ) → j < b.low → entry_at w j ≡ entry_at w0 j
    below j h = entries j (λ e. omega (arith, low_is, f.bottom)) (omega (arith, f.low, f.bottom)) ∙ m.below j h

    moved : (k : ℕ) → b.low + k < low - 1 → entry_at w (b.low + k) ≡ entry_at w0 (b.top + k)
    moved k h = entries (b.low + k) (λ e. omega arith) (omega (arith, inside)) ∙ m.moved k (omega arith)

    gap : (j : ℕ) → low ≤ j → j < 4096 → entry_at w j ≡ entry 0 0 0
    gap j h k = entries j (λ e. omega (arith, low_is, f.bottom)) k ∙ m.gap j h k

    word : (j : ℕ) → 13312 ≤ j → j < 16384 → j ≢ 13312 + b.lists → get_or w j 0 ≡ get_or w0 j 0
    word j h k q = behind j h k ∙ get_or-set_other w1 (13312 + b.lists) j low 0 q ∙ side_word w0 w1 m.side j (omega arith)

    each : (P : Entry → Type 0) → ((j : ℕ) → j < b.low → P (entry_at w0 j)) → ((j : ℕ) → b.top ≤ j → j < 4095 → P (entry_at w0 j)) → (j : ℕ) → j < low - 1 → P (entry_at w j)
    each P p q j h = at (ltb j b.low) refl
      where
        at : (c : Bool) → ltb j b.low ≡ c → P (entry_at w j)
        at true z = let o = ltb-true j b.low z in rw (below j o) (p j o)
        at false z =
            let o = ltb-false j b.low z in
            let e : j ≡ b.low + (j - b.low) = omega arith in
            rw (e, moved (j - b.low) (omega arith)) (q (b.top + (j - b.low)) (omega arith) (omega (arith, low_is)))

    pub written : (j : ℕ) → j < low → Written w j
    written j h = at (eqb j (low - 1)) refl
      where
        at : (c : Bool) → eqb j (low - 1) ≡ c → Written w j
        at true z = rw (eqb-true j (low - 1) z, own) (ap entry_of (piece_back (ConstantPool count)))
        at false z =
            let o = eqb-false j (low - 1) z in
            each (λ (e : Entry). entry_of (piece_of e) ≡ e) f.written_low (λ i p q. f.written_top i p (omega arith)) j (omega arith)

    -- the ends and the lists

    abbrev ends : List ℕ
    ends = take (b.lists + 1) (drop 13312 w)

    lists_few : b.lists < 1024
    lists_few = omega (arith, f.lists, f.actions)

    pub ends_before : take b.lists (drop 13312 w) ≡ ends_of b w0
    ends_before = same_inside w0 w 13312 b.lists (omega (arith, f.long, lists_few)) (omega (arith, lists_few)) (λ j k. word (13312 + j) (omega arith) (omega (arith, lists_few)) (λ e. omega arith))

    ends_are : ends ≡ ends_of b w0 ++ (low ∷ [])
    ends_are =
        rw (
          part_more w 13312 b.lists (omega (arith, lists_few)),
          ends_before,
          behind (13312 + b.lists) (omega arith) (omega (arith, lists_few)),
          get_or-set_same w1 (13312 + b.lists) low 0 (omega (arith, m.long, f.long, lists_few)),
        )

    pub before_low : cut w 0 (ends_of b w0) ≡ cut w0 0 (ends_of b w0)
    before_low = cut_same w0 w 0 (ends_of b w0) b.low f.ends (λ j p q. below j q)

    abbrev own_entries : List Entry
    own_entries = run w0 b.top (4095 - b.top)

    pub top_list : run w b.low (low - b.low) ≡ own_entries ++ (entry 0x88 count 0 ∷ [])
    top_list =
        let n : low - b.low ≡ suc (4095 - b.top) = omega (arith, low_is, f.bottom) in
        let k : b.low + (4095 - b.top) ≡ low - 1 = omega (arith, low_is, f.bottom) in
        rw (n, run_snoc w b.low (4095 - b.top), k, own, run_moved w0 w b.low b.top (4095 - b.top) (λ j h. moved j (omega (arith, low_is, f.bottom))))

    all_lists : cut w 0 ends ≡ cut w0 0 (ends_of b w0) ++ ((own_entries ++ (entry 0x88 count 0 ∷ [])) ∷ [])
    all_lists = rw (ends_are, cut_snoc w 0 (ends_of b w0) b.low low f.ends, before_low, top_list)

    rising : Rising 0 ends low
    rising = rw ends_are (rising_snoc 0 (ends_of b w0) b.low low f.ends (omega (arith, low_is)))

    pub top_standing : Standing w b.low low
    top_standing = record {
      long = long;
      whole = omega (arith, low_is);
      cap = omega (arith, low_is, f.low, f.bottom);
      written = λ j p q. written j q;
    }

    pub lists_standing : Finished w b.lists
    lists_standing = record {
      low = b.low;
      standing = record {
        long = long;
        whole = omega arith;
        cap = omega (arith, f.low, f.bottom);
        written = λ j p q. written j (omega (arith, low_is));
      };
      few = omega (arith, lists_few);
      rising = rw ends_before f.ends;
    }

    module _ (F : List ℕ) where
      abbrev own_items : List Item
      own_items = items_of (in_file F []) (map piece_of own_entries)

      pub list_at_lem : list_at F w b.low low ≡ plain (Plain.ConstantPool (map (text_in F) (take count []))) ∷ own_items
      unfolding gather items_of
      list_at_lem = rw top_list (pool_first F [] own_entries count)

      pub lists_at_lem : lists_at F w b.lists ≡ map reverse (map (gather F) (cut w0 0 (ends_of b w0)))
      lists_at_lem = rw (ends_before, before_low)

      state_top : with_pool (map (text_in F) (pool_of b w0)) (reverse (gather F (open_of b w0))) ≡ plain (Plain.ConstantPool (map (text_in F) (pool_of b w0))) ∷ own_items
      unfolding gather items_of
      state_top =
          let n : b.base - b.top ≡ suc (4095 - b.top) = omega (arith, f.bottom) in
          let k : b.top + (4095 - b.top) ≡ 4095 = omega (arith, f.bottom) in
          rw (n, run_snoc w0 b.top (4095 - b.top), k, f.pool_entry, pool_first F [] own_entries 0)

      pub final_lists : finished (state F b w0) ≡ (plain (Plain.ConstantPool (map (text_in F) (pool_of b w0))) ∷ own_items) ∷ map reverse (map (gather F) (cut w0 0 (ends_of b w0)))
      unfolding state
      final_lists = rw state_top

      module _ (whole : count ≡ b.constants) (n : Named F b w0) (labels : (l : ℕ) → l < 1024 → get_or w (12288 + l) 0 ≡ label_word (finished (state F b w0)) l)
          (rest : (j : ℕ) → 16384 ≤ j → get_or w j 0 ≡ 0) where
        pool_same : pool_of b w ≡ pool_of b w0
        pool_same = same_inside w0 w 14336 b.constants (omega (arith, f.long, f.constants, f.values)) (omega (arith, f.constants, f.values))
            (λ j k. word (14336 + j) (omega arith) (omega (arith, f.constants, f.values)) (λ e. omega (arith, lists_few)))

        pool_length : length (pool_of b w) ≡ b.constants
        pool_length = simp (length-take, length-drop) (omega (arith, long, f.constants, f.values))

        filled : Filled limits01 (finished (state F b w0)) w ends (pool_of b w) low
        filled = record {
          room = long;
          rising = rising;
          below = omega (arith, low_is, f.low, f.bottom);
          gap = gap;
          labels_are = table w 12288 1024 (label_words 1024 (finished (state F b w0))) (omega (arith, long))
              (λ j h. labels j h ∙ sym (label_word_at (finished (state F b w0)) 1024 j h));
          ends_are = part_table w 13312 (b.lists + 1) 1024 (omega (arith, long))
              (λ j p q. word (13312 + j) (omega arith) (omega arith) (λ e. omega arith) ∙ f.no_end j (omega arith) q);
          pool_is = part_table w 14336 b.constants 2048 (omega (arith, long))
              (λ j p q. word (14336 + j) (omega arith) (omega arith) (λ e. omega (arith, lists_few)) ∙ f.no_string_lem j p q);
          rest_is = zeros_from w 16384 long rest;
          ends_fit = omega (arith, length-take (b.lists + 1) (drop 13312 w), lists_few);
          pool_fits = omega (arith, pool_length, f.constants, f.values);
          last_filled = rw all_lists (last_filled (cut w0 0 (ends_of b w0)) (own_entries ++ (entry 0x88 count 0 ∷ [])) (rw length-append (omega arith)));
        }

        abbrev pieces : List (List Piece)
        pieces = map (map piece_of) (cut w 0 ends)

        own_reads : items_of (in_file F (pool_of b w)) (map piece_of own_entries) ≡ own_items
        unfolding items_of gather
        own_reads = ap reverse (run_reads F w0 (pool_of b w) b.top (4095 - b.top) (λ j p q. n.unfinished j p (omega (arith, f.bottom))))

        whole_pool : take count (pool_of b w) ≡ pool_of b w
        whole_pool = ap (λ (k : ℕ). take k (pool_of b w)) (whole ∙ sym pool_length) ∙ take-length (pool_of b w)

        pieces_read_lem : map (items_of (in_file F (pool_of b w))) pieces ≡
            map reverse (map (gather F) (cut w0 0 (ends_of b w0))) ++ ((plain (Plain.ConstantPool (map (text_in F) (pool_of b w0))) ∷ own_items) ∷ [])
        pieces_read_lem =
            rw (
              all_lists,
              map_append (map piece_of) (cut w0 0 (ends_of b w0)) ((own_entries ++ (entry 0x88 count 0 ∷ [])) ∷ []),
              map_append (items_of (in_file F (pool_of b w))) (map (map piece_of) (cut w0 0 (ends_of b w0))) (map piece_of (own_entries ++ (entry 0x88 count 0 ∷ [])) ∷ []),
              cut_reads F w0 (pool_of b w) 0 (ends_of b w0) b.low f.ends (λ j p q. n.finished j q),
              pool_first F (pool_of b w) own_entries count,
              own_reads,
              whole_pool,
              pool_same,
            )

        reads : map (items_of (in_file F (pool_of b w))) pieces ≡ finishing (finished (state F b w0))
        reads = pieces_read_lem ∙ ap finishing (sym final_lists)

        good_entries : (j : ℕ) → 0 ≤ j → j < 0 + (low - 1) → T (good F (piece_of (entry_at w j)))
        good_entries j p q = each (λ (e : Entry). T (good F (piece_of e))) n.finished n.unfinished j (omega arith)

        last_entry : run w 0 low ≡ run w 0 (low - 1) ++ (entry_at w (low - 1) ∷ [])
        last_entry =
            let k : low ≡ suc (low - 1) = omega (arith, low_is, f.bottom) in
            let z : 0 + (low - 1) ≡ low - 1 = omega arith in
            ap (run w 0) k ∙ run_snoc w 0 (low - 1) ∙ ap (λ (i : ℕ). run w 0 (low - 1) ++ (entry_at w i ∷ [])) z

        all_pieces : joined pieces ≡ map piece_of (run w 0 (low - 1)) ++ (ConstantPool count ∷ [])
        all_pieces =
            rw (
              joined_map piece_of (cut w 0 ends),
              entries_are limits01 w ends [] [] low long rising (omega (arith, low_is, f.low, f.bottom)) gap,
              last_entry,
              own,
              map_append piece_of (run w 0 (low - 1)) (entry 0x88 count 0 ∷ []),
              piece_back (ConstantPool count),
            )

        counted : joined (map pool_count (joined pieces)) ≡ length (pool_of b w) ∷ []
        unfolding joined
        counted = rw (all_pieces, counts_append (map piece_of (run w 0 (low - 1))) (ConstantPool count ∷ []), no_counts F w 0 (low - 1) good_entries, pool_length, whole)

        strings_named : T (all (names_string F) (pool_of b w))
        strings_named = rw pool_same (all_taken (names_string F) b.constants (drop 14336 w0) (λ i p. rw (get_or-drop 14336 w0 i 0) (n.strings i p)))

        pieces_named : T (all (piece_named F) (joined pieces))
        pieces_named = rw all_pieces (all_both (piece_named F) (map piece_of (run w 0 (low - 1))) (ConstantPool count ∷ []) (all_named F w 0 (low - 1) good_entries) tt)

        pub done : Holds limits01 F (finished (state F b w0)) w
        done = filled_holds limits01 F (finished (state F b w0)) w ends (pool_of b w) low filled pieces (cut_written w 0 ends low rising (λ j p q. written j q)) reads counted
            (and_both (all (piece_named F) (joined pieces)) (all (names_string F) (pool_of b w)) pieces_named strings_named)

copied_entry : {w v : List ℕ} → Copied w v → (j : ℕ) → j < 4096 → entry_at v j ≡ entry_at w j
unfolding entry_at
copied_entry k j h = rw (k.same (j * 3) (omega arith), k.same (j * 3 + 1) (omega arith), k.same (j * 3 + 2) (omega arith))

-- the first action is no mark, whatever it is
first_action : (a c : Plain) (is : List Item) (ls : List (List Item)) (l : ℕ) → label_word ((plain a ∷ is) ∷ ls) l ≡ label_word ((plain c ∷ is) ∷ ls) l
unfolding label_word
first_action a c is ls l = refl

pub labels_cleared : {w0 : List ℕ} {b : BuilderState} {low : ℕ} {w1 ys : List ℕ} → Fine b w0 → Moved w0 b.low b.top low 4096 w1 →
    ys ≡ replicate (length (take 1024 (drop 12288 (set w1 (13312 + b.lists) low)))) 0 → Cleared (set w1 (13312 + b.lists) low) (put_mid 12288 1024 (set w1 (13312 + b.lists) low) ys)
labels_cleared {b = b} {low} {w1} f m e = cleared (fills (set w1 (13312 + b.lists) low) 12288 1024 (omega (arith, length-set w1 (13312 + b.lists) low, m.long, f.long)) e)

module _ (w0 : List ℕ) (b : BuilderState) (f : Fine b w0) (bottom : b.base ≡ 4096) {low : ℕ} {w1 : List ℕ} (m : Moved w0 b.low b.top low 4096 w1)
    {w2 : List ℕ} (c : Cleared (set w1 (13312 + b.lists) low) w2) where
  pool_moved : entry_at w1 (low - 1) ≡ entry 0x88 0 0
  pool_moved =
      let s = m.step in
      let k : low - 1 ≡ b.low + (4095 - b.top) = omega (arith, f.bottom) in
      let z : b.top + (4095 - b.top) ≡ 4095 = omega (arith, f.bottom) in
      rw (k, m.moved (4095 - b.top) (omega (arith, f.bottom)), z) f.pool_entry

  last_inside : low - 1 < 4096
  last_inside = omega (arith, m.step, f.low, f.bottom)

  cleared_long : length w2 ≡ length w0
  cleared_long = c.long ∙ length-set w1 (13312 + b.lists) low ∙ m.long

  cleared_room : 16384 ≤ length w2
  cleared_room = omega (arith, cleared_long, f.long)

  cleared_entry : (j : ℕ) → j < 4096 → entry_at w2 j ≡ entry_at w1 j
  cleared_entry j k = same_entries (set w1 (13312 + b.lists) low) w2 c.before j k ∙ entry_side w1 (13312 + b.lists) low j (omega arith)

  pub top_stands : Standing w2 b.low low
  top_stands = top_standing w0 b f bottom m 0 w2 cleared_room (λ j q k. cleared_entry j k) (cleared_entry (low - 1) last_inside ∙ pool_moved) (λ j h k. c.behind j h)

  module _ {w3 : List ℕ} (d : (F : List ℕ) → Located w2 (list_at F w2 b.low low ∷ []) w3) where
    top_long : length w3 ≡ length w0
    top_long = (d []).long ∙ cleared_long

    top_room : 16384 ≤ length w3
    top_room = omega (arith, top_long, f.long)

    top_entry : (j : ℕ) → j < 4096 → entry_at w3 j ≡ entry_at w1 j
    top_entry j k = same_entries w2 w3 (d []).before j k ∙ cleared_entry j k

    behind : (j : ℕ) → 13312 ≤ j → get_or w3 j 0 ≡ get_or (set w1 (13312 + b.lists) low) j 0
    behind j h = (d []).behind j h ∙ c.behind j h

    pub lists_stand : Finished w3 b.lists
    lists_stand = lists_standing w0 b f bottom m 0 w3 top_room (λ j q k. top_entry j k) (top_entry (low - 1) last_inside ∙ pool_moved) (λ j h k. behind j h)

    module _ {w4 : List ℕ} (e : (F : List ℕ) → Located w3 (lists_at F w3 b.lists) w4) (F : List ℕ) where
      abbrev final_words : List ℕ
      final_words = put3 w4 (low - 1) 0x88 b.constants 0

      after_entries : (j : ℕ) → 12288 ≤ j → get_or final_words j 0 ≡ get_or w4 j 0
      after_entries j h =
          let k = last_inside in
          getD_put w4 (low - 1) 0x88 b.constants 0 j (λ e. omega arith) (λ e. omega arith) (λ e. omega arith)

      all_labels : (l : ℕ) → l < 1024 → get_or final_words (12288 + l) 0 ≡ label_word (finished (state F b w0)) l
      all_labels l h =
          rw (
            after_entries (12288 + l) (omega arith),
            (located_append (d F) (e F)).places l h,
            c.zeros l h,
            list_at_lem w0 b f bottom m 0 w2 cleared_room (λ j q k. cleared_entry j k) (cleared_entry (low - 1) last_inside ∙ pool_moved) (λ j h k. c.behind j h) F,
            lists_at_lem w0 b f bottom m 0 w3 top_room (λ j q k. top_entry j k) (top_entry (low - 1) last_inside ∙ pool_moved) (λ j h k. behind j h) F,
            final_lists w0 b f bottom m 0 w3 top_room (λ j q k. top_entry j k) (top_entry (low - 1) last_inside ∙ pool_moved) (λ j h k. behind j h) F,
          ) (first_action _ _ _ _ l)

      -- in whatever words they are copied to
      pub finish_done : Named F b w0 → {v : List ℕ} → Copied final_words v → Holds limits01 F (finished (state F b w0)) v
      finish_done n {v} k =
          done w0 b f bottom m b.constants v k.room
          (λ j q h. copied_entry k j h ∙ entry_other w4 (low - 1) 0x88 b.constants 0 j q ∙ same_entries w3 w4 (e []).before j h ∙ top_entry j h)
          (copied_entry k (low - 1) last_inside ∙ entry_same w4 (low - 1) 0x88 b.constants 0 (omega (arith, (e []).long, top_long, f.long, last_inside)))
          (λ j h q. k.same j q ∙ after_entries j (omega arith) ∙ (e []).behind j h ∙ behind j h) F refl n
          (λ l h. k.same (12288 + l) (omega arith) ∙ all_labels l h) k.rest
