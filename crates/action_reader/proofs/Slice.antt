-- How the words change as lists grow, move and end.
use Prim.Native.Nat.{ℕ, suc, ◌+◌, ◌-◌, ◌*◌, ◌≤◌, ◌<◌}
use mathlib.Core.Path.{◌≡◌, refl, sym, ap, ◌∙◌}
use mathlib.Core.List.{List, [], ◌∷◌, ◌++◌, append_assoc}
use native.Mathlib.Omega.{arith}
use lib.ListN.{length, get_or, set, length-append, replicate-append-replicate}
use lib.Seq.{set_at, get_or-append-add}
use Rattle.lowering.specs.Builder.{limits01}
use Rattle.list_slice.specs.Entry.{Entry, entry}
use Rattle.list_slice.specs.Words.{zeros_of, area, entry_words, joined, ends_from, slice_words}
use Rattle.list_slice.proofs.Areas.{zeros_length, area_is, slice_parts}
use Rattle.list_slice.proofs.Parse.{words_length, words_append}
use Rattle.builder.specs.Entries.{put3}
use Rattle.action_reader.specs.Layout.{layout}

put_at : (xs ys : List ℕ) (i a b d c x y : ℕ) → length xs ≡ i * 3 → put3 (xs ++ (a ∷ b ∷ d ∷ ys)) i c x y ≡ xs ++ (c ∷ x ∷ y ∷ ys)
unfolding put3
put_at xs ys i a b d c x y e =
    rw (set_at xs a (b ∷ d ∷ ys) c (i * 3) e)
    (ap (λ (r : List ℕ). set (set r (i * 3 + 1) x) (i * 3 + 2) y) (sym (append_assoc xs (c ∷ []) (b ∷ d ∷ ys)))
    ∙ rw (set_at (xs ++ (c ∷ [])) b (d ∷ ys) x (i * 3 + 1) (rw (length-append xs (c ∷ [])) (omega arith)))
    (ap (λ (r : List ℕ). set r (i * 3 + 2) y) (sym (append_assoc (xs ++ (c ∷ [])) (x ∷ []) (d ∷ ys)))
    ∙ rw (set_at ((xs ++ (c ∷ [])) ++ (x ∷ [])) d ys y (i * 3 + 2) (rw (length-append (xs ++ (c ∷ [])) (x ∷ []), length-append xs (c ∷ [])) (omega arith)))
    (append_assoc (xs ++ (c ∷ [])) (x ∷ []) (y ∷ ys) ∙ append_assoc xs (c ∷ []) (x ∷ y ∷ ys))))

pub zeros_join : (m n : ℕ) → zeros_of m ++ zeros_of n ≡ zeros_of (m + n)
unfolding zeros_of
zeros_join m n = replicate-append-replicate m n 0

three_zeros : zeros_of 3 ≡ 0 ∷ 0 ∷ 0 ∷ []
unfolding zeros_of
three_zeros = refl

zeros_last : (g : ℕ) → zeros_of (suc g * 3) ≡ zeros_of (g * 3) ++ (0 ∷ 0 ∷ 0 ∷ [])
zeros_last g = sym (ap (λ (r : List ℕ). zeros_of (g * 3) ++ r) (sym three_zeros) ∙ zeros_join (g * 3) 3 ∙ ap zeros_of (omega arith))

zeros_first : (g : ℕ) → zeros_of (suc g * 3) ≡ 0 ∷ 0 ∷ 0 ∷ zeros_of (g * 3)
zeros_first g = sym (ap (λ (r : List ℕ). r ++ zeros_of (g * 3)) (sym three_zeros) ∙ zeros_join 3 (g * 3) ∙ ap zeros_of (omega arith))

abbrev side : List ℕ → ℕ → List ℕ
side ends n = zeros_of 1024 ++ (area 1024 ends ++ zeros_of (n - 14336))

module _ (low up : List Entry) (ends : List ℕ) (n i : ℕ) (there : i + suc (length up) ≡ 4096) (room : length low + suc (length up) ≤ 4096) where
  abbrev gap : ℕ
  gap = 4096 - (length low + suc (length up))

  gap_more : 4096 - (length low + length up) ≡ suc gap
  gap_more = omega arith

  before_length : length (entry_words low ++ zeros_of (gap * 3)) ≡ i * 3
  before_length = rw (length-append (entry_words low) (zeros_of (gap * 3)), words_length low, zeros_length (gap * 3)) (omega arith)

  -- with an entry's place between the zeros and the open lists
  open_place : layout low up ends n ≡ (entry_words low ++ zeros_of (gap * 3)) ++ (0 ∷ 0 ∷ 0 ∷ (entry_words up ++ side ends n))
  unfolding layout
  open_place = rw (
    gap_more,
    zeros_last gap,
    append_assoc (zeros_of (gap * 3)) (0 ∷ 0 ∷ 0 ∷ []) (entry_words up ++ side ends n),
    append_assoc (entry_words low) (zeros_of (gap * 3)) (0 ∷ 0 ∷ 0 ∷ (entry_words up ++ side ends n)),
  )

  filled_place : (e : Entry) → layout low (e ∷ up) ends n ≡ (entry_words low ++ zeros_of (gap * 3)) ++ (e.code ∷ e.first ∷ e.second ∷ (entry_words up ++ side ends n))
  unfolding layout entry_words
  filled_place e = sym (append_assoc (entry_words low) (zeros_of (gap * 3)) (e.code ∷ e.first ∷ e.second ∷ (entry_words up ++ side ends n)))

  -- an entry more
  pub grows : (c x y : ℕ) → put3 (layout low up ends n) i c x y ≡ layout low (entry c x y ∷ up) ends n
  grows c x y = rw (open_place, put_at (entry_words low ++ zeros_of (gap * 3)) (entry_words up ++ side ends n) i 0 0 0 c x y before_length) (sym (filled_place (entry c x y)))

  -- the first open entry moves to the finished ones
  pub moves : (e : Entry) (c x y : ℕ) → put3 (put3 (layout low (e ∷ up) ends n) i 0 0 0) (length low) c x y ≡ layout (low ++ (entry c x y ∷ [])) up ends n
  unfolding layout entry_words
  moves e c x y =
      let j : 4096 - (length (low ++ (entry c x y ∷ [])) + length up) ≡ gap = rw (length-append low (entry c x y ∷ [])) (omega arith) in
      rw (
        filled_place e,
        put_at (entry_words low ++ zeros_of (gap * 3)) (entry_words up ++ side ends n) i e.code e.first e.second 0 0 0 before_length,
        ← open_place,
        gap_more,
        zeros_first gap,
        put_at (entry_words low) (zeros_of (gap * 3) ++ (entry_words up ++ side ends n)) (length low) 0 0 0 c x y (words_length low),
        j,
        words_append low (entry c x y ∷ []),
        append_assoc (entry_words low) (c ∷ x ∷ y ∷ []) (zeros_of (gap * 3) ++ (entry_words up ++ side ends n)),
      )

  read_at : (e : Entry) (k : ℕ) → get_or (layout low (e ∷ up) ends n) (i * 3 + k) 0 ≡ get_or (e.code ∷ e.first ∷ e.second ∷ (entry_words up ++ side ends n)) k 0
  read_at e k = rw (filled_place e, ← before_length) (get_or-append-add (entry_words low ++ zeros_of (gap * 3)) (e.code ∷ e.first ∷ e.second ∷ (entry_words up ++ side ends n)) k 0)

  pub reads_code : (e : Entry) → get_or (layout low (e ∷ up) ends n) (i * 3) 0 ≡ e.code
  reads_code e = ap (λ (k : ℕ). get_or (layout low (e ∷ up) ends n) k 0) (omega arith) ∙ read_at e 0

  pub reads_first : (e : Entry) → get_or (layout low (e ∷ up) ends n) (i * 3 + 1) 0 ≡ e.first
  reads_first e = read_at e 1

  pub reads_second : (e : Entry) → get_or (layout low (e ∷ up) ends n) (i * 3 + 2) 0 ≡ e.second
  reads_second e = read_at e 2

-- a list's end is written
module _ (low up : List Entry) (ends : List ℕ) (n v : ℕ) (room : length low + length up ≤ 4096) (few : length ends < 1024) where
  abbrev left : ℕ
  left = 1024 - suc (length ends)

  abbrev front : List ℕ
  front = entry_words low ++ (zeros_of ((4096 - (length low + length up)) * 3) ++ (entry_words up ++ zeros_of 1024))

  regroup : (xs zs us ks r : List ℕ) → xs ++ (zs ++ (us ++ (ks ++ r))) ≡ (xs ++ (zs ++ (us ++ ks))) ++ r
  regroup xs zs us ks r = rw (append_assoc xs (zs ++ (us ++ ks)) r, append_assoc zs (us ++ ks) r, append_assoc us ks r)

  front_length : length (front ++ ends) ≡ 13312 + length ends
  front_length =
      rw (
        length-append front ends,
        length-append (entry_words low) (zeros_of ((4096 - (length low + length up)) * 3) ++ (entry_words up ++ zeros_of 1024)),
        length-append (zeros_of ((4096 - (length low + length up)) * 3)) (entry_words up ++ zeros_of 1024),
        length-append (entry_words up) (zeros_of 1024),
        words_length low,
        words_length up,
        zeros_length ((4096 - (length low + length up)) * 3),
        zeros_length 1024,
      ) (omega arith)

  zeros_one : (k : ℕ) → zeros_of (suc k) ≡ 0 ∷ zeros_of k
  unfolding zeros_of
  zeros_one k = refl

  at_end : layout low up ends n ≡ (front ++ ends) ++ (0 ∷ (zeros_of left ++ zeros_of (n - 14336)))
  unfolding layout
  at_end =
      let k : 1024 - length ends ≡ suc left = omega arith in
      rw (area_is 1024 ends (omega arith), k, zeros_one left, append_assoc ends (0 ∷ zeros_of left) (zeros_of (n - 14336)))
      (regroup (entry_words low) (zeros_of ((4096 - (length low + length up)) * 3)) (entry_words up) (zeros_of 1024) (ends ++ (0 ∷ (zeros_of left ++ zeros_of (n - 14336))))
      ∙ sym (append_assoc front ends (0 ∷ (zeros_of left ++ zeros_of (n - 14336)))))

  with_end : layout low up (ends ++ (v ∷ [])) n ≡ (front ++ ends) ++ (v ∷ (zeros_of left ++ zeros_of (n - 14336)))
  unfolding layout
  with_end =
      let k : 1024 - length (ends ++ (v ∷ [])) ≡ left = rw (length-append ends (v ∷ [])) (omega arith) in
      rw (
        area_is 1024 (ends ++ (v ∷ [])) (rw (length-append ends (v ∷ [])) (omega arith)),
        k,
        append_assoc (ends ++ (v ∷ [])) (zeros_of left) (zeros_of (n - 14336)),
        append_assoc ends (v ∷ []) (zeros_of left ++ zeros_of (n - 14336)),
      )
      (regroup (entry_words low) (zeros_of ((4096 - (length low + length up)) * 3)) (entry_words up) (zeros_of 1024) (ends ++ (v ∷ (zeros_of left ++ zeros_of (n - 14336))))
      ∙ sym (append_assoc front ends (v ∷ (zeros_of left ++ zeros_of (n - 14336)))))

  pub ends_more : set (layout low up ends n) (13312 + length ends) v ≡ layout low up (ends ++ (v ∷ [])) n
  ends_more = rw (at_end, set_at (front ++ ends) 0 (zeros_of left ++ zeros_of (n - 14336)) v (13312 + length ends) front_length) (sym with_end)

-- nothing read yet
pub layout_start : (n : ℕ) → 14336 ≤ n → zeros_of n ≡ layout [] [] [] n
unfolding layout entry_words
layout_start n h =
    sym (rw (area_is 1024 [] (omega arith), zeros_join 1024 (n - 14336), zeros_join 1024 (1024 + (n - 14336)), zeros_join 12288 (1024 + (1024 + (n - 14336)))) (ap zeros_of (omega arith)))

-- all lists finished
pub layout_end : (es : List (List Entry)) (n : ℕ) → length (joined es) ≤ 4096 → 16384 ≤ n → layout (joined es) [] (ends_from 0 es) n ≡ slice_words limits01 es [] [] n
unfolding layout entry_words
layout_end es n room h =
    let j : (4096 - (length (joined es) + 0)) * 3 ≡ 12288 - length (entry_words (joined es)) = rw (words_length (joined es)) (omega arith) in
    let k : 2048 + (n - 16384) ≡ n - 14336 = omega arith in
    rw (
      slice_parts limits01 es [] [] n h,
      area_is 12288 (entry_words (joined es)) (rw (words_length (joined es)) (omega arith)),
      area_is 1024 [] (omega arith),
      area_is 2048 [] (omega arith),
      zeros_join 2048 (n - 16384),
      k,
      append_assoc (entry_words (joined es)) (zeros_of (12288 - length (entry_words (joined es)))) (zeros_of 1024 ++ (area 1024 (ends_from 0 es) ++ zeros_of (n - 14336))),
      j,
    )
