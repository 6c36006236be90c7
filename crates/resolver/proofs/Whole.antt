-- What lowering's lists give the walks: each list stands between its ends, and says the list of its number.
use Prim.Native.Nat.{ℕ, zero, suc, ◌+◌, ◌-◌, ◌≤◌, ◌<◌}
use mathlib.Core.Path.{◌≡◌, refl, sym, ap, ◌∙◌, subst}
use mathlib.Core.Logic.{◌⊎◌, inl, inr}
use mathlib.Core.List.{List, [], ◌∷◌, ◌++◌, map, reverse, reverse-reverse, concat, eq-nil-or-concat, concat-eq-append}
use native.Mathlib.Omega.{arith}
use native.Mathlib.Numerals.{add-one}
use native.Mathlib.Decide.{dec_lt}
use lib.ListN.{length, get_or, drop, length-append, get_or-append, get_or-map, length-map}
use lib.Seq.{get_or-take, get_or-drop, get_or-append_seam}
use borrow.Author.Tests.{eq-eqb, ne_eqb}
use Rattle.pcode.specs.Pcode.{Item}
use Rattle.lowering.specs.Builder.{limits01}
use Rattle.lowering.proofs.Theorems.{top_first}
use Rattle.list_slice.specs.Entry.{Entry, Piece, entries_of, piece_of}
use Rattle.list_slice.specs.Words.{area, joined, ends_from, run, cut, keep, trimmed, ends_in, entries_in}
use Rattle.list_slice.specs.Items.{gathered, items_of}
use Rattle.list_slice.specs.Compiled.{finishing, numbered, label_words, lists_in}
use Rattle.list_slice.proofs.Laid.{length_cut}
use Rattle.list_slice.proofs.Areas.{area_at, ends_in_lem}
use Rattle.list_slice.proofs.Parse.{recovered}
use Rattle.list_slice.proofs.Determined.{numbered_finishing, read_back}
use Rattle.definition.specs.Compile.{statements_of}
use Rattle.definition.specs.Demand3.{list_at}
use Rattle.resolver.specs.Lowered.{Lowered}
use Rattle.resolver.specs.Walk.{count_of, end_of, start_of, references_in, walked}
use Rattle.resolver.specs.Passes.{walked_at, number_at}

-- where the list at place j begins, by the ends

abbrev from_at : ℕ → List ℕ → ℕ → ℕ
from_at p es zero = p
from_at p es (suc j) = get_or es j 0

shifted : (p : ℕ) (es : List ℕ) (j : ℕ) → get_or (p ∷ es) j 0 ≡ from_at p es j
shifted p es zero = refl
shifted p es (suc j) = refl

ends_up : (p : ℕ) (es : List (List Entry)) (j : ℕ) → j < length es →
    (from_at p (ends_from p es) j ≤ get_or (ends_from p es) j 0) × (get_or (ends_from p es) j 0 ≤ p + length (joined es))
unfolding ends_from joined
ends_up p [] j h = absurd (omega arith)
ends_up p (xs ∷ ls) zero h = (omega arith, omega (arith, length-append xs (joined ls)))
ends_up p (xs ∷ ls) (suc j) h =
    let r = ends_up (p + length xs) ls j (omega arith) in
    (subst (λ (n : ℕ). n ≤ get_or (ends_from (p + length xs) ls) j 0) (sym (shifted (p + length xs) (ends_from (p + length xs) ls) j)) r.0, omega (arith, r.1, length-append xs (joined ls)))

cut_at : (w : List ℕ) (p : ℕ) (es : List ℕ) (j : ℕ) → j < length es → get_or (cut w p es) j [] ≡ run w (from_at p es j) (get_or es j 0 - from_at p es j)
unfolding cut
cut_at w p [] j h = absurd (omega arith)
cut_at w p (e ∷ es) zero h = refl
cut_at w p (e ∷ es) (suc j) h = cut_at w e es j (omega arith) ∙ ap (λ (n : ℕ). run w n (get_or es j 0 - n)) (sym (shifted e es j))

trimmed_at : (ns : List ℕ) (j : ℕ) → j < length (trimmed ns) → get_or (trimmed ns) j 0 ≡ get_or ns j 0
unfolding trimmed
trimmed_at [] j h = refl
trimmed_at (n ∷ ns) j h = go n (trimmed ns) (λ i. trimmed_at ns i) j h
  where
    go : (n : ℕ) (ts : List ℕ) → ((i : ℕ) → i < length ts → get_or ts i 0 ≡ get_or ns i 0) → (j : ℕ) → j < length (keep n ts) → get_or (keep n ts) j 0 ≡ get_or (n ∷ ns) j 0
    go zero [] f j h = absurd (omega arith)
    go (suc n) [] f zero h = refl
    go (suc n) [] f (suc j) h = absurd (omega arith)
    go zero (t ∷ ts) f zero h = refl
    go (suc n) (t ∷ ts) f zero h = refl
    go zero (t ∷ ts) f (suc j) h = f j (omega arith)
    go (suc n) (t ∷ ts) f (suc j) h = f j (omega arith)

-- finishing order, from numbers and back
finishing_numbered : {A : Type 0} (xs : List (List A)) → 0 < length xs → finishing (numbered xs) ≡ xs
finishing_numbered {A} xs h = go (eq-nil-or-concat xs)
  where
    go : (xs ≡ []) ⊎ ((ys : List (List A)) × (y : List A) × (xs ≡ concat ys y)) → finishing (numbered xs) ≡ xs
    go (inl e) = absurd (omega (arith, ap length e))
    go (inr r) =
        let e : xs ≡ r.0 ++ (r.1 ∷ []) = r.2 ∙ concat-eq-append r.0 r.1 in
        ap (λ (l : List (List A)). finishing (numbered l)) e ∙ ap finishing (numbered_finishing (r.1 ∷ r.0)) ∙ sym e

module _ {F w : List ℕ} (h : Lowered F w) where
  abbrev es : List (List Entry)
  es = map entries_of h.holds.pieces

  entries_are : entries_in limits01 w ≡ es
  entries_are = ap (entries_in limits01) h.holds.words ∙ recovered limits01 es (label_words 1024 h.lists) h.holds.pool (length w) h.holds.fits

  ends_are : ends_in limits01 w ≡ area 1024 (ends_from 0 es)
  ends_are = ap (ends_in limits01) h.holds.words ∙ ends_in_lem limits01 es (label_words 1024 h.lists) h.holds.pool (length w) h.holds.fits.slice_fits

  count_is : count_of w ≡ length es
  unfolding count_of entries_in
  count_is = sym (length_cut w 0 (trimmed (ends_in limits01 w))) ∙ ap length entries_are

  pub few_lists : count_of w ≤ 1024
  few_lists = omega (arith, count_is, h.holds.fits.lists_fit)

  pub long_slice : 16384 ≤ length w
  long_slice = h.holds.fits.slice_fits

  end_word : (j : ℕ) → j < 1024 → end_of w j ≡ get_or (ends_in limits01 w) j 0
  end_word j k = sym (get_or-take 1024 (drop 13312 w) j 0 k ∙ get_or-drop 13312 w j 0)

  end_is : (j : ℕ) → j < 1024 → end_of w j ≡ get_or (ends_from 0 es) j 0
  end_is j k = end_word j k ∙ ap (λ (xs : List ℕ). get_or xs j 0) ends_are ∙ area_at 1024 (ends_from 0 es) j k

  start_is : (j : ℕ) → j ≤ 1024 → start_of w j ≡ from_at 0 (ends_from 0 es) j
  start_is zero k = refl
  start_is (suc j) k = end_is j (omega arith)

  module _ (j : ℕ) (below : j < count_of w) where
    small : j < 1024
    small = omega (arith, few_lists)

    pub order_at : start_of w j ≤ end_of w j
    order_at = rw (start_is j (omega (arith, small)), end_is j small) (ends_up 0 es j (omega (arith, count_is))).0

    pub cap_at : end_of w j ≤ 4096
    cap_at = let c = h.holds.fits.entries_fit in rw (end_is j small) (omega (arith, (ends_up 0 es j (omega (arith, count_is))).1, c))

    trimmed_word : (i : ℕ) → i ≤ j → get_or (trimmed (ends_in limits01 w)) i 0 ≡ end_of w i
    unfolding count_of
    trimmed_word i k = trimmed_at (ends_in limits01 w) i (omega arith) ∙ sym (end_word i (omega (arith, small)))

    trimmed_start : (i : ℕ) → i ≤ j → from_at 0 (trimmed (ends_in limits01 w)) i ≡ start_of w i
    trimmed_start zero k = refl
    trimmed_start (suc i) k = trimmed_word i (omega arith)

    run_is : get_or (entries_in limits01 w) j [] ≡ run w (start_of w j) (end_of w j - start_of w j)
    unfolding entries_in count_of
    run_is = cut_at w 0 (trimmed (ends_in limits01 w)) j below ∙ rw (trimmed_word j (omega arith), trimmed_start j (omega arith))

    abbrev pieces_at : List Piece
    pieces_at = get_or h.holds.pieces j []

    pub run_pieces : run w (start_of w j) (end_of w j - start_of w j) ≡ entries_of pieces_at
    unfolding entries_of
    run_pieces = sym run_is ∙ ap (λ (xs : List (List Entry)). get_or xs j []) entries_are ∙ get_or-map entries_of h.holds.pieces j []

  abbrev said : List Entry → List Item
  said es = items_of (references_in F w) (map piece_of es)

  all_said : map said (entries_in limits01 w) ≡ finishing h.lists
  unfolding lists_in
  all_said = sym (finishing_numbered (map said (entries_in limits01 w)) some_said) ∙ ap finishing (read_back h.holds)
    where
      some_said : 0 < length (map said (entries_in limits01 w))
      some_said = go (entries_in limits01 w) (read_back h.holds)
        where
          go : (xs : List (List Entry)) → numbered (map said xs) ≡ h.lists → 0 < length (map said xs)
          go [] e =
              let t = top_first limits01 (omega arith) (statements_of F) h.lists h.from in
              let z : 0 ≡ suc (length t.1) = ap length (e ∙ t.2) in absurd (omega arith)
          go (x ∷ xs) e = omega arith

  said_at : (j : ℕ) → j < count_of w → reverse (walked_at F w j) ≡ get_or (finishing h.lists) j []
  unfolding items_of walked gathered
  said_at j below = sym (ap (λ (xs : List (List Item)). get_or xs j []) (sym all_said) ∙ get_or-map said (entries_in limits01 w) j [] ∙ ap said (run_is j below))

  -- the top list, number 0, finishes last
  abbrev pub split : (t : List Item) × (fs : List (List Item)) × (h.lists ≡ t ∷ fs)
  split = top_first limits01 (omega arith) (statements_of F) h.lists h.from

  pub lists_count : count_of w ≡ suc (length split.1)
  lists_count =
      count_is ∙ ap length (sym entries_are) ∙ sym (length-map (entries_in limits01 w) said) ∙ ap length (all_said ∙ ap finishing split.2)
      ∙ length-append split.1 (split.0 ∷ []) ∙ omega arith

  number_list : (j : ℕ) → j < count_of w → get_or (finishing h.lists) j [] ≡ list_at h.lists (number_at (count_of w) j)
  number_list j below = go (dec_lt j (length split.1))
    where
      fs : List (List Item)
      fs = split.1

      go : Dec (j < length fs) → get_or (finishing h.lists) j [] ≡ list_at h.lists (number_at (count_of w) j)
      go (yes y) =
          rw (ne_eqb (j + 1) (count_of w) (λ e. omega (arith, lists_count)), split.2, add-one j) (get_or-append fs (split.0 ∷ []) [] j y)
      go (no y) =
          let e : j ≡ length fs = omega (arith, lists_count) in
          rw (eq-eqb (j + 1) (count_of w) (omega (arith, lists_count)), split.2, e) (get_or-append_seam fs split.0 [] [])

  -- what the walk of a list says is the list of its number
  pub walked_list : (j : ℕ) → j < count_of w → reverse (walked_at F w j) ≡ list_at h.lists (number_at (count_of w) j)
  walked_list j below = said_at j below ∙ number_list j below

  pub walked_back : (j : ℕ) → j < count_of w → walked_at F w j ≡ reverse (list_at h.lists (number_at (count_of w) j))
  walked_back j below = sym (reverse-reverse (walked_at F w j)) ∙ ap reverse (walked_list j below)
