-- Words that are zeros where no list and no table stands are the slice of what they say.
use Prim.Native.Nat.{ℕ, zero, suc, ◌+◌, ◌-◌, ◌*◌, ◌≤◌, ◌<◌}
use mathlib.Core.Path.{◌≡◌, refl, sym, ap, ◌∙◌}
use mathlib.Core.List.{List, [], ◌∷◌, ◌++◌}
use native.Mathlib.Nat.{zero-add, suc-add, add-zero}
use native.Mathlib.Omega.{arith}
use lib.ListN.{length, get_or, take, drop, take-append-drop}
use lib.Seq.{drop-cons}
use Rattle.lowering.specs.Builder.{Limits}
use Rattle.list_slice.specs.Entry.{Entry, entry}
use Rattle.list_slice.specs.Words.{units, slice_length, labels_at, ends_at, pool_at, zeros_of, area, entry_words, joined, ends_from, slice_words, entry_at, run, cut, labels_in, ends_in, pool_in}
use Rattle.list_slice.proofs.Areas.{area_is, drop_more, slice_parts}
use Rattle.list_slice.proofs.Parse.{words_length, words_append}

-- ends that never fall, from p to low
abbrev pub Rising : ℕ → List ℕ → ℕ → Type 0
Rising p [] low = p ≡ low
Rising p (e ∷ es) low = (p ≤ e) × Rising e es low

pub rising_le : (p : ℕ) (es : List ℕ) (low : ℕ) → Rising p es low → p ≤ low
rising_le p [] low h = omega arith
rising_le p (e ∷ es) low h = omega (arith, h.0, rising_le e es low h.1)

pub run_length : (w : List ℕ) (i n : ℕ) → length (run w i n) ≡ n
unfolding run
run_length w i zero = refl
run_length w i (suc n) = ap suc (run_length w (suc i) n)

run_more : (w : List ℕ) (i m n : ℕ) → run w i (m + n) ≡ run w i m ++ run w (i + m) n
unfolding run
run_more w i zero n = rw (zero-add n, add-zero i)
run_more w i (suc m) n = ap (run w i) (suc-add m n) ∙ ap (λ (r : List Entry). entry_at w i ∷ r) (run_more w (suc i) m n ∙ ap (λ (k : ℕ). run w (suc i) m ++ run w k n) (next i m))
  where
    next : (a b : ℕ) → suc a + b ≡ a + suc b
    next a b = omega arith

pub length_cut : (w : List ℕ) (p : ℕ) (es : List ℕ) → length (cut w p es) ≡ length es
unfolding cut
length_cut w p [] = refl
length_cut w p (e ∷ es) = ap suc (length_cut w e es)

pub ends_of_cut : (w : List ℕ) (p : ℕ) (es : List ℕ) (low : ℕ) → Rising p es low → ends_from p (cut w p es) ≡ es
unfolding ends_from cut
ends_of_cut w p [] low h = refl
ends_of_cut w p (e ∷ es) low h = rw (run_length w p (e - p), there p e h.0) (ap (λ (r : List ℕ). e ∷ r) (ends_of_cut w e es low h.1))
  where
    there : (a b : ℕ) → a ≤ b → a + (b - a) ≡ b
    there a b k = omega arith

joined_cut : (w : List ℕ) (p : ℕ) (es : List ℕ) (low : ℕ) → Rising p es low → joined (cut w p es) ≡ run w p (low - p)
unfolding joined cut run
joined_cut w p [] low h = ap (run w p) (none_left p low h)
  where
    none_left : (a b : ℕ) → a ≡ b → 0 ≡ b - a
    none_left a b k = omega arith
joined_cut w p (e ∷ es) low h =
    let k = rising_le e es low h.1 in
    ap (λ (r : List Entry). run w p (e - p) ++ r) (joined_cut w e es low h.1 ∙ ap (λ (i : ℕ). run w i (low - e)) (there p e h.0))
    ∙ sym (run_more w p (e - p) (low - e)) ∙ ap (run w p) (whole p e low h.0 k)
  where
    there : (a b : ℕ) → a ≤ b → b ≡ a + (b - a)
    there a b k = omega arith

    whole : (a b c : ℕ) → a ≤ b → b ≤ c → b - a + (c - b) ≡ c - a
    whole a b c k m = omega arith

-- entries that are zeros are zeros
run_gap : (w : List ℕ) (i n : ℕ) → ((j : ℕ) → i ≤ j → j < i + n → entry_at w j ≡ entry 0 0 0) → entry_words (run w i n) ≡ zeros_of (n * 3)
unfolding run entry_words zeros_of
run_gap w i zero h = refl
run_gap w i (suc n) h =
    rw (h i (omega arith) (omega arith), run_gap w (suc i) n (λ j a b. h j (omega arith) (omega arith))) (ap zeros_of (three n))
  where
    three : (a : ℕ) → suc (suc (suc (a * 3))) ≡ suc a * 3
    three a = omega arith

-- the entries of some words are those words

three_from : (w : List ℕ) (j : ℕ) → suc (suc j) < length w → drop j w ≡ get_or w j 0 ∷ get_or w (suc j) 0 ∷ get_or w (suc (suc j)) 0 ∷ drop (suc (suc (suc j))) w
three_from w j h =
    drop-cons w j 0 (omega arith) ∙ ap (λ (r : List ℕ). get_or w j 0 ∷ r) (drop-cons w (suc j) 0 (omega arith)
    ∙ ap (λ (r : List ℕ). get_or w (suc j) 0 ∷ r) (drop-cons w (suc (suc j)) 0 (omega arith)))

three_at : (w : List ℕ) {a b c d : ℕ} → b ≡ suc a → c ≡ suc b → d ≡ suc c → c < length w → drop a w ≡ get_or w a 0 ∷ get_or w b 0 ∷ get_or w c 0 ∷ drop d w
three_at w {a} {b} {c} {d} p q r h = rw (r, q, p) (three_from w a (omega arith))

run_words : (w : List ℕ) (i n : ℕ) → (i + n) * 3 ≤ length w → entry_words (run w i n) ≡ take (n * 3) (drop (i * 3) w)
unfolding run entry_words entry_at
run_words w i zero h = refl
run_words w i (suc n) h =
    ap (λ (r : List ℕ). get_or w (i * 3) 0 ∷ get_or w (i * 3 + 1) 0 ∷ get_or w (i * 3 + 2) 0 ∷ r) (run_words w (suc i) n (omega arith))
    ∙ ap (take (suc (suc (suc (n * 3))))) (sym (three_at w {a = i * 3} {b = i * 3 + 1} {c = i * 3 + 2} {d = suc i * 3} (omega arith) (omega arith) (omega arith) (omega arith)))
    ∙ ap (λ (k : ℕ). take k (drop (i * 3) w)) (three n)
  where
    three : (a : ℕ) → suc (suc (suc (a * 3))) ≡ suc a * 3
    three a = omega arith

module _ (l : Limits) (w ends labels pool : List ℕ) (low : ℕ) (room : slice_length l ≤ length w) (rising : Rising 0 ends low) (below : low ≤ units l)
    (gap : (i : ℕ) → low ≤ i → i < units l → entry_at w i ≡ entry 0 0 0) where
  abbrev es : List (List Entry)
  es = cut w 0 ends

  whole_area : units l ≡ low + (units l - low)
  whole_area = omega arith

  entries_end : low - 0 ≡ low
  entries_end = omega arith

  pub entries_are : joined es ≡ run w 0 low
  entries_are = joined_cut w 0 ends low rising ∙ ap (run w 0) entries_end

  gap_length : labels_at l - length (entry_words (joined es)) ≡ (units l - low) * 3
  gap_length = rw (words_length (joined es), entries_are, run_length w 0 low) (omega arith)

  all_words : units l * 3 ≡ labels_at l
  all_words = omega arith

  entry_area : area (labels_at l) (entry_words (joined es)) ≡ take (labels_at l) w
  entry_area =
      area_is (labels_at l) (entry_words (joined es)) (rw (words_length (joined es), entries_are, run_length w 0 low) (omega arith))
      ∙ ap (λ (k : ℕ). entry_words (joined es) ++ zeros_of k) gap_length
      ∙ ap (λ (r : List ℕ). entry_words (joined es) ++ r) (sym (run_gap w low (units l - low) (λ j a b. gap j a (omega arith))))
      ∙ ap (λ (r : List Entry). entry_words r ++ entry_words (run w low (units l - low))) entries_are
      ∙ sym (words_append (run w 0 low) (run w low (units l - low)))
      ∙ ap entry_words (ap (λ (k : ℕ). run w 0 low ++ run w k (units l - low)) (sym (zero-add low)) ∙ sym (run_more w 0 low (units l - low)) ∙ ap (run w 0) (sym whole_area))
      ∙ run_words w 0 (units l) (omega arith)
      ∙ ap (λ (k : ℕ). take k w) all_words

  whole : slice_length l ≡ pool_at l + l.values
  whole = omega arith

  -- the lists are those between the ends, and each table is what it was given, then zeros
  pub laid : labels_in l w ≡ area l.labels labels → ends_in l w ≡ area l.actions ends → pool_in l w ≡ area l.values pool →
      drop (slice_length l) w ≡ zeros_of (length w - slice_length l) → w ≡ slice_words l es labels pool (length w)
  laid in-labels in-ends in-pool in_rest =
      sym (take-append-drop (labels_at l) w)
      ∙ ap (λ (r : List ℕ). take (labels_at l) w ++ r) (sym (take-append-drop l.labels (drop (labels_at l) w))
      ∙ ap (λ (r : List ℕ). labels_in l w ++ r) (sym (drop_more (labels_at l) l.labels w) ∙ sym (take-append-drop l.actions (drop (ends_at l) w))
      ∙ ap (λ (r : List ℕ). ends_in l w ++ r) (sym (drop_more (ends_at l) l.actions w) ∙ sym (take-append-drop l.values (drop (pool_at l) w))
      ∙ ap (λ (r : List ℕ). pool_in l w ++ r) (sym (drop_more (pool_at l) l.values w) ∙ ap (λ (k : ℕ). drop k w) (sym whole) ∙ in_rest))))
      ∙ sym (slice_parts l es labels pool (length w) room ∙ rw (entry_area, ends_of_cut w 0 ends low rising, ← in-labels, ← in-ends, ← in-pool))
