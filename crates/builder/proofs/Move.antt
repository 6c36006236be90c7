-- The move of a list to the finished ones.
use Prim.Native.Nat.{ℕ, ◌+◌, ◌-◌, ◌*◌, ◌≤◌, ◌<◌, min, max}
use mathlib.Core.Path.{◌≡◌, refl, ap, sym, ◌∙◌}
use mathlib.Core.Logic.{◌≢◌}
use mathlib.Core.List.{List, [], ◌∷◌, ◌++◌}
use mathlib.Core.Bool.{Bool, true, false}
use native.Mathlib.Omega.{arith}
use native.Mathlib.Numerals.{add-one}
use lib.Dec.{ltb}
use lib.ListN.{length, get_or, set, take, drop, replicate, length-set, length-take, length-drop}
use lib.Seq.{get_or-set_same, get_or-set_other, get_or-take, get_or-drop, take-suc, ext_get_or}
use borrow.Author.Tests.{ltb-true, ltb-false}
use borrow.Rule.Slice.PartMut.{put_mid}
use Rattle.std.specs.List.{CopiedTo, SameBelow, SameFrom}
use Rattle.list_slice.specs.Entry.{entry}
use Rattle.list_slice.specs.Words.{entry_at}
use Rattle.builder.specs.Entries.{put3}
use Rattle.builder.specs.Move.{Movable, Moved}
use Rattle.builder.proofs.Filled.{Filled, fills}
use Rattle.builder.proofs.Words.{entry_same, entry_other, entry_side, getD_put, length_put}

same_three : (w w' : List ℕ) (i i' : ℕ) → get_or w' (i * 3) 0 ≡ get_or w (i' * 3) 0 → get_or w' (i * 3 + 1) 0 ≡ get_or w (i' * 3 + 1) 0 → get_or w' (i * 3 + 2) 0 ≡ get_or w (i' * 3 + 2) 0 →
    entry_at w' i ≡ entry_at w i'
unfolding entry_at
same_three w w' i i' p q r = rw (p, q, r)

no_entry : (w : List ℕ) (i : ℕ) → get_or w (i * 3) 0 ≡ 0 → get_or w (i * 3 + 1) 0 ≡ 0 → get_or w (i * 3 + 2) 0 ≡ 0 → entry_at w i ≡ entry 0 0 0
unfolding entry_at
no_entry w i p q r = rw (p, q, r)

module _ (w w1 ys : List ℕ) (to from end left : ℕ) (m : Movable w to from end) (l : left ≡ max (to + (end - from)) from) (len : length w1 ≡ length w)
    (c : CopiedTo w w1 (from * 3) (to * 3) (end * 3 - from * 3) × SameBelow w w1 (to * 3) × SameFrom w w1 (to * 3 + (end * 3 - from * 3)))
    (e : ys ≡ replicate (length (take (end * 3 - left * 3) (drop (left * 3) w1))) 0) where
  abbrev low : ℕ
  low = to + (end - from)

  abbrev w' : List ℕ
  w' = put_mid (left * 3) (end * 3 - left * 3) w1 ys

  filled : Filled w1 (left * 3) (end * 3) w'
  filled = let n : left * 3 + (end * 3 - left * 3) ≡ end * 3 = omega (arith, m.down, m.whole, l) in rw n at (fills w1 (left * 3) (end * 3 - left * 3) (omega (arith, m.long, m.cap, m.down, m.whole, l, len)) e)

  copied : (j : ℕ) → to * 3 ≤ j → j < low * 3 → get_or w' j 0 ≡ get_or w (from * 3 + (j - to * 3)) 0
  copied j p q = filled.below j (omega (arith, l)) ∙ c.0 j 0 p (omega (arith, m.whole))

  moved : (k : ℕ) → to + k < low → entry_at w' (to + k) ≡ entry_at w (from + k)
  moved k h =
      let p : from * 3 + ((to + k) * 3 - to * 3) ≡ (from + k) * 3 = omega arith in
      let q : from * 3 + ((to + k) * 3 + 1 - to * 3) ≡ (from + k) * 3 + 1 = omega arith in
      let r : from * 3 + ((to + k) * 3 + 2 - to * 3) ≡ (from + k) * 3 + 2 = omega arith in
      same_three w w' (to + k) (from + k)
      (rw p at (copied ((to + k) * 3) (omega arith) (omega arith)))
      (rw q at (copied ((to + k) * 3 + 1) (omega arith) (omega arith)))
      (rw r at (copied ((to + k) * 3 + 2) (omega arith) (omega arith)))

  above : (j : ℕ) → end * 3 ≤ j → get_or w' j 0 ≡ get_or w j 0
  above j h = filled.behind j h ∙ c.2 j 0 (omega (arith, m.down, m.whole))

  below : (j : ℕ) → j < to * 3 → get_or w' j 0 ≡ get_or w j 0
  below j h = filled.below j (omega (arith, l)) ∙ c.1 j 0 h

  -- what lies between is as it was, or was filled
  between : (j : ℕ) → low * 3 ≤ j → j < left * 3 → get_or w' j 0 ≡ get_or w j 0
  between j p q = filled.below j q ∙ c.2 j 0 (omega (arith, m.whole))

  gap : (i : ℕ) → (t : Bool) → ltb i left ≡ t → low ≤ i → i < end → entry_at w' i ≡ entry 0 0 0
  gap i true z p q =
      let h = ltb-true i left z in
      same_three w w' i i (between (i * 3) (omega arith) (omega arith)) (between (i * 3 + 1) (omega arith) (omega arith)) (between (i * 3 + 2) (omega arith) (omega arith))
      ∙ m.gap i (omega arith) (omega (arith, l))
  gap i false z p q =
      let h = ltb-false i left z in
      no_entry w' i (filled.zeros (i * 3) (omega arith) (omega arith)) (filled.zeros (i * 3 + 1) (omega arith) (omega arith)) (filled.zeros (i * 3 + 2) (omega arith) (omega arith))

  pub move_done : Moved w to from low end w'
  move_done = record {
    moved = moved;
    above = λ i h. same_three w w' i i (above (i * 3) (omega arith)) (above (i * 3 + 1) (omega arith)) (above (i * 3 + 2) (omega arith));
    below = λ i h. same_three w w' i i (below (i * 3) (omega arith)) (below (i * 3 + 1) (omega arith)) (below (i * 3 + 2) (omega arith));
    side = ext_get_or 0 (drop 12288 w') (drop 12288 w) (simp length-drop (rw (filled.long, len)))
        (λ j h. rw (get_or-drop 12288 w' j 0, get_or-drop 12288 w j 0) (above (12288 + j) (omega (arith, m.cap))));
    gap = λ i p q. gap i (ltb i left) refl p q;
    step = omega (arith, m.whole);
    started = m.whole;
    long = filled.long ∙ len;
  }

-- the list's end is written, and an entry

abbrev pub with_end : List ℕ → (lists low i code first second : ℕ) → List ℕ
with_end w n low i c x y = put3 (set w (13312 + n) low) i c x y

module _ (w : List ℕ) (n low i c x y : ℕ) (k : i < 4096) where
  pub end_long : length (with_end w n low i c x y) ≡ length w
  end_long = rw (length_put, length-set)

  pub end_entry : (j : ℕ) → j ≢ i → j < 4096 → entry_at (with_end w n low i c x y) j ≡ entry_at w j
  end_entry j q h = rw (entry_other (set w (13312 + n) low) i c x y j q, entry_side w (13312 + n) low j (omega arith))

  pub end_own : 12288 ≤ length w → entry_at (with_end w n low i c x y) i ≡ entry c x y
  end_own l = entry_same (set w (13312 + n) low) i c x y (rw length-set (omega arith))

  pub end_word : (j : ℕ) → 12288 ≤ j → j ≢ 13312 + n → get_or (with_end w n low i c x y) j 0 ≡ get_or w j 0
  end_word j h q =
      rw (getD_put (set w (13312 + n) low) i c x y j (λ e. omega arith) (λ e. omega arith) (λ e. omega arith), get_or-set_other w (13312 + n) j low 0 q)

  pub end_is : 13312 + n < length w → get_or (with_end w n low i c x y) (13312 + n) 0 ≡ low
  end_is l =
      rw (getD_put (set w (13312 + n) low) i c x y (13312 + n) (λ e. omega arith) (λ e. omega arith) (λ e. omega arith), get_or-set_same w (13312 + n) low 0 l)

pub side_word : (w w' : List ℕ) → drop 12288 w' ≡ drop 12288 w → (j : ℕ) → 12288 ≤ j → get_or w' j 0 ≡ get_or w j 0
side_word w w' e j h =
    let k : j ≡ 12288 + (j - 12288) = omega arith in
    rw (k, ← get_or-drop 12288 w' (j - 12288) 0, e, get_or-drop 12288 w (j - 12288) 0)

-- a part of the words after the entries is the same, by its words
pub same_part : (w w' : List ℕ) (a n : ℕ) → length w' ≡ length w → ((j : ℕ) → j < n → get_or w' (a + j) 0 ≡ get_or w (a + j) 0) → take n (drop a w') ≡ take n (drop a w)
same_part w w' a n l h =
    ext_get_or 0 (take n (drop a w')) (take n (drop a w)) (simp (length-take, length-drop) (ap (λ (k : ℕ). min n (k - a)) l)) at
  where
    at : (j : ℕ) → j < length (take n (drop a w')) → get_or (take n (drop a w')) j 0 ≡ get_or (take n (drop a w)) j 0
    at j k =
        let o : j < n = omega (arith, length-take n (drop a w')) in
        rw (get_or-take n (drop a w') j 0 o, get_or-take n (drop a w) j 0 o, get_or-drop a w' j 0, get_or-drop a w j 0) (h j o)

-- and where the lengths differ
pub same_inside : (w w' : List ℕ) (a n : ℕ) → a + n ≤ length w → a + n ≤ length w' → ((j : ℕ) → j < n → get_or w' (a + j) 0 ≡ get_or w (a + j) 0) → take n (drop a w') ≡ take n (drop a w)
same_inside w w' a n l l' h =
    let long : length (take n (drop a w)) ≡ n = simp (length-take, length-drop) (omega arith) in
    let long' : length (take n (drop a w')) ≡ n = simp (length-take, length-drop) (omega arith) in
    ext_get_or 0 (take n (drop a w')) (take n (drop a w)) (long' ∙ sym long)
    (λ j k. let o : j < n = omega arith in rw (get_or-take n (drop a w') j 0 o, get_or-take n (drop a w) j 0 o, get_or-drop a w' j 0, get_or-drop a w j 0) (h j o))

-- the library's take-suc, for a part that begins at a: the ends and the pool grow so
pub part_more : (w : List ℕ) (a n : ℕ) → a + n < length w → take (n + 1) (drop a w) ≡ take n (drop a w) ++ (get_or w (a + n) 0 ∷ [])
part_more w a n h = rw (add-one, take-suc (drop a w) n 0 (simp length-drop (omega arith)), get_or-drop a w n 0)
