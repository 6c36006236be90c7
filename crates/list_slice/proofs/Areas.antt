-- The areas of the slice: their lengths, and where each is found.
use Prim.Native.Nat.{ℕ, zero, suc, ◌+◌, ◌-◌, ◌≤◌, ◌<◌}
use mathlib.Core.Path.{◌≡◌, refl, sym, ap, ◌∙◌}
use mathlib.Core.List.{List, [], ◌∷◌, ◌++◌, append_assoc}
use native.Mathlib.Nat.{zero-add, suc-add}
use native.Mathlib.Omega.{arith}
use lib.ListN.{length, take, drop, get_or, length-append, length-replicate}
use lib.Seq.{take-append_seam, drop-append_seam, drop-nil}
use Rattle.lowering.specs.Builder.{Limits}
use Rattle.list_slice.specs.Entry.{Entry}
use Rattle.list_slice.specs.Words.{slice_length, labels_at, ends_at, pool_at, zeros_of, area, entry_words, joined, ends_from, slice_words, labels_in, ends_in, pool_in}

pub length_area : (n : ℕ) (ws : List ℕ) → length (area n ws) ≡ n
unfolding area
length_area zero ws = refl
length_area (suc n) [] = ap suc (length_area n [])
length_area (suc n) (w ∷ ws) = ap suc (length_area n ws)

-- the slice has the length that is asked for
pub slice_length_lem : (l : Limits) (es : List (List Entry)) (labels pool : List ℕ) (n : ℕ) → length (slice_words l es labels pool n) ≡ n
unfolding slice_words
slice_length_lem l es labels pool n = length_area n _

pub zeros_length : (n : ℕ) → length (zeros_of n) ≡ n
unfolding zeros_of
zeros_length n = length-replicate n 0

area_empty : (n : ℕ) → area n [] ≡ zeros_of n
unfolding area zeros_of
area_empty zero = refl
area_empty (suc n) = ap (λ (r : List ℕ). 0 ∷ r) (area_empty n)

-- what has room stands whole, then zeros
pub area_is : (n : ℕ) (ws : List ℕ) → length ws ≤ n → area n ws ≡ ws ++ zeros_of (n - length ws)
unfolding area
area_is n [] h = area_empty n ∙ ap zeros_of (omega arith)
area_is zero (w ∷ ws) h = absurd (omega arith)
area_is (suc n) (w ∷ ws) h = ap (λ (r : List ℕ). w ∷ r) (area_is n ws (omega arith) ∙ ap (λ (k : ℕ). ws ++ zeros_of k) (omega arith))

-- a word inside the area is the list's, or the 0 that is read past its end
pub area_at : (n : ℕ) (ws : List ℕ) (j : ℕ) → j < n → get_or (area n ws) j 0 ≡ get_or ws j 0
unfolding area
area_at zero ws j h = absurd (omega arith)
area_at (suc n) [] zero h = refl
area_at (suc n) [] (suc j) h = area_at n [] j (omega arith)
area_at (suc n) (x ∷ ws) zero h = refl
area_at (suc n) (x ∷ ws) (suc j) h = area_at n ws j (omega arith)

drop_at : (k : ℕ) (xs ys : List ℕ) → length xs ≡ k → drop k (xs ++ ys) ≡ ys
drop_at k xs ys e = rw (← e) (drop-append_seam xs ys)

take_at : (k : ℕ) (xs ys : List ℕ) → length xs ≡ k → take k (xs ++ ys) ≡ xs
take_at k xs ys e = rw (← e) (take-append_seam xs ys)

pub drop_more : (j k : ℕ) (xs : List ℕ) → drop (j + k) xs ≡ drop k (drop j xs)
drop_more zero k xs = ap (λ (i : ℕ). drop i xs) (zero-add k)
drop_more (suc j) k [] = drop-nil (suc j + k) ∙ sym (drop-nil k)
drop_more (suc j) k (x ∷ xs) = ap (λ (i : ℕ). drop i (x ∷ xs)) (suc-add j k) ∙ drop_more j k xs

module _ (l : Limits) (es : List (List Entry)) (labels pool : List ℕ) (n : ℕ) (room : slice_length l ≤ n) where
  abbrev entry_area : List ℕ
  entry_area = area (labels_at l) (entry_words (joined es))

  abbrev label_area : List ℕ
  label_area = area l.labels labels

  abbrev end_area : List ℕ
  end_area = area l.actions (ends_from 0 es)

  abbrev pool_area : List ℕ
  pool_area = area l.values pool

  abbrev rest : List ℕ
  rest = zeros_of (n - slice_length l)

  parts_length : length (entry_area ++ (label_area ++ (end_area ++ pool_area))) ≡ slice_length l
  parts_length =
      simp (length-append, length_area) (omega arith)

  pub slice_parts : slice_words l es labels pool n ≡ entry_area ++ (label_area ++ (end_area ++ (pool_area ++ rest)))
  unfolding slice_words
  slice_parts =
      area_is n _ (rw parts_length room) ∙ ap (λ (k : ℕ). entry_area ++ (label_area ++ (end_area ++ pool_area)) ++ zeros_of (n - k)) parts_length
      ∙ append_assoc entry_area (label_area ++ (end_area ++ pool_area)) rest
      ∙ ap (λ (r : List ℕ). entry_area ++ r) (append_assoc label_area (end_area ++ pool_area) rest
      ∙ ap (λ (r : List ℕ). label_area ++ r) (append_assoc end_area pool_area rest))

  after_entries : drop (labels_at l) (slice_words l es labels pool n) ≡ label_area ++ (end_area ++ (pool_area ++ rest))
  after_entries = rw slice_parts (drop_at (labels_at l) entry_area _ (length_area _ _))

  after_labels : drop (ends_at l) (slice_words l es labels pool n) ≡ end_area ++ (pool_area ++ rest)
  after_labels = drop_more (labels_at l) l.labels _ ∙ rw after_entries (drop_at l.labels label_area _ (length_area _ _))

  after_ends : drop (pool_at l) (slice_words l es labels pool n) ≡ pool_area ++ rest
  after_ends = drop_more (ends_at l) l.actions _ ∙ rw after_labels (drop_at l.actions end_area _ (length_area _ _))

  -- each table is what it was given, then zeros
  pub labels_in_lem : labels_in l (slice_words l es labels pool n) ≡ label_area
  labels_in_lem = rw after_entries (take_at l.labels label_area _ (length_area _ _))

  pub ends_in_lem : ends_in l (slice_words l es labels pool n) ≡ end_area
  ends_in_lem = rw after_labels (take_at l.actions end_area _ (length_area _ _))

  pub pool_in_lem : pool_in l (slice_words l es labels pool n) ≡ pool_area
  pool_in_lem = rw after_ends (take_at l.values pool_area _ (length_area _ _))

  all_areas : slice_length l ≡ pool_at l + l.values
  all_areas = omega arith

  -- whatever is left of a longer slice is zeros
  pub rest_in : drop (slice_length l) (slice_words l es labels pool n) ≡ zeros_of (n - slice_length l)
  rest_in =
      ap (λ (k : ℕ). drop k (slice_words l es labels pool n)) all_areas ∙ drop_more (pool_at l) l.values _
      ∙ rw after_ends (drop_at l.values pool_area _ (length_area _ _))
