-- The label words, written one by one, and the lists that they come from.
use Prim.Native.Nat.{ℕ, zero, suc, ◌+◌, ◌-◌, ◌*◌, ◌≤◌, ◌<◌}
use mathlib.Core.Path.{◌≡◌, refl, sym, ap, ◌∙◌}
use mathlib.Core.Logic.{◌≢◌}
use mathlib.Core.List.{List, [], ◌∷◌, ◌++◌, map, reverse}
use mathlib.Core.Bool.{Bool, true, false, cond}
use native.Mathlib.Omega.{arith}
use lib.Dec.{eqb, ltb, leb}
use lib.ListN.{length, get_or, set, take, drop, length-set}
use lib.Seq.{get_or-set_same, get_or-set_other, drop-cons}
use borrow.Author.Tests.{eqb-true, eqb-false, ltb-true, lt-ltb}
use Rattle.pcode.specs.Pcode.{Item}
use Rattle.lowering.specs.Builder.{ends_in_push}
use Rattle.action_format.specs.ByPlace.{actions, marked}
use Rattle.list_slice.specs.Entry.{Entry, entry_of, piece_of}
use Rattle.list_slice.specs.Words.{entry_at, run, cut}
use Rattle.list_slice.specs.File.{in_file}
use Rattle.list_slice.specs.Items.{added, gathered}
use Rattle.list_slice.specs.Compiled.{place_word, label_word}
use Rattle.list_slice.proofs.Laid.{Rising, rising_le}
use Rattle.list_slice.proofs.Read.{map_append}
use Rattle.codegen_state.specs.View.{gather}
use Rattle.builder.specs.Places.{Cleared, placed, placed_at, actions_added, either, Located, list_at, lists_at, Standing, Finished}
use Rattle.builder.proofs.Filled.{Filled}
use Rattle.builder.proofs.Leaves.{run_same, gather_more}
use Rattle.builder.proofs.Move.{part_more}
use Rattle.builder.proofs.Ended.{rising_snoc, cut_snoc, run_cons}
use Rattle.builder.proofs.FinishItems.{either_zero, either_more, place_else, place, own_word, step_place, step_before, step_count}

pub cleared : {w w' : List ℕ} → Filled w 12288 13312 w' → Cleared w w'
cleared f = record { long = f.long; before = f.below; zeros = λ l h. f.zeros (12288 + l) (omega arith) (omega arith); behind = f.behind }

-- one label word

either_kept : (m n : ℕ) → m ≢ 0 → either m n ≡ m
either_kept zero n h = absurd (h refl)
either_kept (suc m) n h = refl

module _ (w : List ℕ) (l p : ℕ) (long : 13312 ≤ length w) where
  pub placed_long : length (placed w l p) ≡ length w
  placed_long = go (ltb l 1024) (eqb (get_or w (12288 + l) 0) 0)
    where
      go : (s t : Bool) → length (cond s (cond t (set w (12288 + l) (p + 1)) w) w) ≡ length w
      go true true = length-set w (12288 + l) (p + 1)
      go true false = refl
      go false t = refl

  pub placed_other : (j : ℕ) → (l < 1024 → j ≢ 12288 + l) → get_or (placed w l p) j 0 ≡ get_or w j 0
  placed_other j h = go (ltb l 1024) (eqb (get_or w (12288 + l) 0) 0) refl
    where
      go : (s t : Bool) → ltb l 1024 ≡ s → get_or (cond s (cond t (set w (12288 + l) (p + 1)) w) w) j 0 ≡ get_or w j 0
      go true true z = get_or-set_other w (12288 + l) j (p + 1) 0 (h (ltb-true l 1024 z))
      go true false z = refl
      go false t z = refl

  pub placed_word : (m : ℕ) → m < 1024 → get_or (placed w l p) (12288 + m) 0 ≡ either (get_or w (12288 + m) 0) (cond (eqb l m) (suc p) 0)
  placed_word m k = at (eqb l m) refl
    where
      one : suc p ≡ p + 1
      one = omega arith

      own : l ≡ m → (t : Bool) → eqb (get_or w (12288 + l) 0) 0 ≡ t → get_or (cond t (set w (12288 + l) (p + 1)) w) (12288 + m) 0 ≡ either (get_or w (12288 + m) 0) (suc p)
      own e true z =
          let o : get_or w (12288 + m) 0 ≡ 0 = rw e at (eqb-true (get_or w (12288 + l) 0) 0 z) in
          rw (o, e, one) (get_or-set_same w (12288 + m) (p + 1) 0 (omega arith))
      own e false z =
          let o : get_or w (12288 + m) 0 ≢ 0 = rw e at (eqb-false (get_or w (12288 + l) 0) 0 z) in
          sym (either_kept (get_or w (12288 + m) 0) (suc p) o)

      at : (c : Bool) → eqb l m ≡ c → get_or (placed w l p) (12288 + m) 0 ≡ either (get_or w (12288 + m) 0) (cond c (suc p) 0)
      at true z = let e = eqb-true l m z in rw (lt-ltb l 1024 (omega arith)) (own e (eqb (get_or w (12288 + l) 0) 0) refl)
      at false z =
          let o = eqb-false l m z in
          placed_other (12288 + m) (λ x e. omega arith) ∙ sym (either_zero (get_or w (12288 + m) 0))

-- the label word that an entry gives

module _ (w : List ℕ) (i p : ℕ) (long : 13312 ≤ length w) where
  at_long : length (placed_at w i p) ≡ length w
  at_long = go (eqb (get_or w (i * 3) 0) 257)
    where
      go : (t : Bool) → length (cond t (placed w (get_or w (i * 3 + 1) 0) p) w) ≡ length w
      go true = placed_long w (get_or w (i * 3 + 1) 0) p long
      go false = refl

  at_other : (j : ℕ) → ((l : ℕ) → l < 1024 → j ≢ 12288 + l) → get_or (placed_at w i p) j 0 ≡ get_or w j 0
  at_other j h = go (eqb (get_or w (i * 3) 0) 257)
    where
      go : (t : Bool) → get_or (cond t (placed w (get_or w (i * 3 + 1) 0) p) w) j 0 ≡ get_or w j 0
      go true = placed_other w (get_or w (i * 3 + 1) 0) p long j (h (get_or w (i * 3 + 1) 0))
      go false = refl

  at_word : (m : ℕ) → m < 1024 → get_or (placed_at w i p) (12288 + m) 0 ≡ either (get_or w (12288 + m) 0) (own_word (entry_at w i) m p)
  unfolding entry_at
  at_word m k = go (eqb (get_or w (i * 3) 0) 257)
    where
      go : (t : Bool) → get_or (cond t (placed w (get_or w (i * 3 + 1) 0) p) w) (12288 + m) 0
          ≡ either (get_or w (12288 + m) 0) (cond t (cond (eqb (get_or w (i * 3 + 1) 0) m) (suc p) 0) 0)
      go true = placed_word w (get_or w (i * 3 + 1) 0) p long m k
      go false = sym (either_zero (get_or w (12288 + m) 0))

-- the entries are read from the words before the label words
pub same_entries : (w w' : List ℕ) → ((j : ℕ) → j < 12288 → get_or w' j 0 ≡ get_or w j 0) → (i : ℕ) → i < 4096 → entry_at w' i ≡ entry_at w i
unfolding entry_at
same_entries w w' h i k = rw (h (i * 3) (omega arith), h (i * 3 + 1) (omega arith), h (i * 3 + 2) (omega arith))

code_at : (w : List ℕ) (i : ℕ) → get_or w (i * 3) 0 ≡ (entry_at w i).code
unfolding entry_at
code_at w i = refl

added_few : (c before : ℕ) → actions_added c before ≤ 1
added_few c before = go (eqb c 257) (ltb c 0x120) (ltb before 0x110)
  where
    go : (x y z : Bool) → cond x 0 (cond y 1 (cond z 1 0)) ≤ 1
    go true y z = omega arith
    go false true z = omega arith
    go false false true = omega arith
    go false false false = omega arith

-- one list

pub record PlacesInv (w0 : List ℕ) (from end : ℕ) (w : List ℕ) (i position before : ℕ) : Type 0 where
  pub to : i ≤ end
  pub down : from ≤ i
  pub few : position + i ≤ end
  pub counts : (F : List ℕ) → position ≡ length (actions (gather F (run w0 i (end - i))))
  pub pushes : (F : List ℕ) → leb 0x110 before ≡ ends_in_push (gather F (run w0 i (end - i)))
  pub located : (F : List ℕ) → Located w0 (list_at F w0 i end ∷ []) w

word_place : (l : ℕ) (is : List Item) → label_word (reverse is ∷ []) l ≡ place l is
unfolding label_word
word_place l is = refl

pub places_holds : {w : List ℕ} {from end : ℕ} → from ≤ end → PlacesInv w from end w end 0 0
unfolding run gather gathered label_word
places_holds {w} {from} {end} h =
    let e : end - end ≡ 0 = omega arith in
    record {
      to = omega arith;
      down = h;
      few = omega arith;
      counts = λ F. rw e;
      pushes = λ F. rw e;
      located = λ F. rw e (record { long = refl; before = λ j k. refl; places = λ l k. sym (either_zero (get_or w (12288 + l) 0)); behind = λ j k. refl });
    }

module _ {w0 : List ℕ} {from end : ℕ} (s : Standing w0 from end) {w : List ℕ} {i position before : ℕ} (v : PlacesInv w0 from end w i position before) (more : from < i) where
  this : entry_at w (i - 1) ≡ entry_at w0 (i - 1)
  this = same_entries w0 w (v.located []).before (i - 1) (omega (arith, v.to, v.down, s.cap))

  long : 13312 ≤ length w
  long = omega (arith, (v.located []).long, s.long)

  items_more : (F : List ℕ) → gather F (run w0 (i - 1) (end - (i - 1))) ≡ added (in_file F []) (piece_of (entry_at w0 (i - 1))) (gather F (run w0 i (end - i)))
  items_more F =
      let n : end - (i - 1) ≡ suc (end - i) = omega (arith, v.to, v.down) in
      let m : suc (i - 1) ≡ i = omega (arith, v.down) in
      rw (n, run_cons w0 (i - 1) (end - i), m, gather_more F (entry_at w0 (i - 1)) (run w0 i (end - i)))

  written : entry_of (piece_of (entry_at w0 (i - 1))) ≡ entry_at w0 (i - 1)
  written = s.written (i - 1) (omega (arith, v.down)) (omega (arith, v.to, v.down))

  code_is : get_or (placed_at w (i - 1) position) ((i - 1) * 3) 0 ≡ (entry_of (piece_of (entry_at w0 (i - 1)))).code
  code_is =
      let k : i - 1 < 4096 = omega (arith, v.to, v.down, s.cap) in
      at_other w (i - 1) position long ((i - 1) * 3) (λ l h e. omega arith) ∙ code_at w (i - 1) ∙ ap (λ (e : Entry). e.code) (this ∙ sym written)

  module _ (F : List ℕ) where
    abbrev is : List Item
    is = gather F (run w0 i (end - i))

    counted : position + actions_added (entry_of (piece_of (entry_at w0 (i - 1)))).code before ≡ length (actions (gather F (run w0 (i - 1) (end - (i - 1)))))
    counted = rw (items_more F, step_count (in_file F []) is before (piece_of (entry_at w0 (i - 1))) (v.pushes F), ← v.counts F)

    word_more : (l : ℕ) → label_word (list_at F w0 (i - 1) end ∷ []) l ≡ either (label_word (list_at F w0 i end ∷ []) l) (own_word (entry_at w0 (i - 1)) l position)
    word_more l =
        rw (word_place l (gather F (run w0 (i - 1) (end - (i - 1)))), items_more F, step_place (in_file F []) l is (piece_of (entry_at w0 (i - 1))), written, word_place l is, v.counts F)

    located_more : Located w0 (list_at F w0 (i - 1) end ∷ []) (placed_at w (i - 1) position)
    located_more = let d = v.located F in record {
      long = at_long w (i - 1) position long ∙ d.long;
      before = λ j h. at_other w (i - 1) position long j (λ l k e. omega arith) ∙ d.before j h;
      places = λ l h. rw (at_word w (i - 1) position long l h, d.places l h, this, word_more l) (either_more (get_or w0 (12288 + l) 0) (label_word (list_at F w0 i end ∷ []) l) (own_word (entry_at w0 (i - 1)) l position));
      behind = λ j h. at_other w (i - 1) position long j (λ l k e. omega arith) ∙ d.behind j h;
    }

  pub places_again : {w1 : List ℕ} {code n : ℕ} → w1 ≡ placed_at w (i - 1) position → code ≡ get_or w1 ((i - 1) * 3) 0 → n ≡ actions_added code before →
      PlacesInv w0 from end w1 (i - 1) (position + n) code
  places_again {w1} {code} {n} e c a =
      let c1 : code ≡ (entry_of (piece_of (entry_at w0 (i - 1)))).code = c ∙ ap (λ (x : List ℕ). get_or x ((i - 1) * 3) 0) e ∙ code_is in
      record {
        to = omega (arith, v.to);
        down = omega (arith, v.down);
        few = omega (arith, v.few, added_few code before, v.down);
        counts = λ F. rw (a, c1) (counted F);
        pushes = λ F. rw (c1, items_more F) (step_before (in_file F []) (is F) (piece_of (entry_at w0 (i - 1))));
        located = λ F. rw e (located_more F);
      }

pub places_done : {w0 w : List ℕ} {from end i position before : ℕ} → PlacesInv w0 from end w i position before → i ≤ from → (F : List ℕ) → Located w0 (list_at F w0 from end ∷ []) w
places_done {from = from} {i = i} v h F = let e : i ≡ from = omega (arith, v.down) in rw e at (v.located F)

-- lists one after the other

words_append : (xs ys : List (List Item)) (l : ℕ) → label_word (xs ++ ys) l ≡ either (label_word xs l) (label_word ys l)
unfolding label_word
words_append [] ys l = refl
words_append (is ∷ xs) ys l =
    rw (words_append xs ys l, place_else (marked 0 l is) (either (label_word xs l) (label_word ys l)), place_else (marked 0 l is) (label_word xs l))
    (sym (either_more (place_word (marked 0 l is) 0) (label_word xs l) (label_word ys l)))

pub located_append : {w w1 w2 : List ℕ} {xs ys : List (List Item)} → Located w xs w1 → Located w1 ys w2 → Located w (xs ++ ys) w2
located_append {w} {w1} {w2} {xs} {ys} a b = record {
  long = b.long ∙ a.long;
  before = λ j h. b.before j h ∙ a.before j h;
  places = λ l h. rw (b.places l h, a.places l h, words_append xs ys l) (either_more (get_or w (12288 + l) 0) (label_word xs l) (label_word ys l));
  behind = λ j h. b.behind j h ∙ a.behind j h;
}

pub record FunctionsInv (w0 : List ℕ) (n : ℕ) (w : List ℕ) (i from : ℕ) : Type 0 where
  pub low : ℕ
  pub standing : Standing w0 0 low
  pub few : n ≤ 1024
  pub to : i ≤ n
  pub so_far : Rising 0 (take i (drop 13312 w0)) from
  pub rest : Rising from (take (n - i) (drop (13312 + i) w0)) low
  pub located : (F : List ℕ) → Located w0 (lists_at F w0 i) w

pub functions_holds : {w : List ℕ} {n : ℕ} → Finished w n → FunctionsInv w n w 0 0
unfolding cut label_word
functions_holds {w} {n} s = record {
  low = s.low;
  standing = s.standing;
  few = s.few;
  to = omega arith;
  so_far = refl;
  rest = let e : n - 0 ≡ n = omega arith in rw e s.rising;
  located = λ F. record { long = refl; before = λ j k. refl; places = λ l k. sym (either_zero (get_or w (12288 + l) 0)); behind = λ j k. refl };
}

module _ {w0 : List ℕ} {n : ℕ} {w : List ℕ} {i from : ℕ} (v : FunctionsInv w0 n w i from) (more : i < n) where
  abbrev end : ℕ
  end = get_or w (13312 + i) 0

  end_is : end ≡ get_or w0 (13312 + i) 0
  end_is = (v.located []).behind (13312 + i) (omega arith)

  rest_is : take (n - i) (drop (13312 + i) w0) ≡ end ∷ take (n - (i + 1)) (drop (13312 + (i + 1)) w0)
  rest_is =
      let m : n - i ≡ suc (n - (i + 1)) = omega (arith, v.to) in
      let k : 13312 + (i + 1) ≡ suc (13312 + i) = omega arith in
      rw (m, k, end_is, drop-cons w0 (13312 + i) 0 (omega (arith, v.to, v.few, v.standing.long)))

  rest_rising : (from ≤ end) × Rising end (take (n - (i + 1)) (drop (13312 + (i + 1)) w0)) v.low
  rest_rising = rw rest_is at v.rest

  so_far_is : take (i + 1) (drop 13312 w0) ≡ take i (drop 13312 w0) ++ (end ∷ [])
  so_far_is =
      rw (part_more w0 13312 i (omega (arith, v.to, v.few, v.standing.long)), end_is)

  below : end ≤ 4096
  below = omega (arith, rising_le end (take (n - (i + 1)) (drop (13312 + (i + 1)) w0)) v.low rest_rising.1, v.standing.cap)

  same : (j : ℕ) → j < 4096 → entry_at w j ≡ entry_at w0 j
  same j h = same_entries w0 w (v.located []).before j h

  pub next_standing : Standing w from end
  next_standing = record {
    long = omega (arith, (v.located []).long, v.standing.long);
    whole = rest_rising.0;
    cap = below;
    written = λ j h k. rw (same j (omega (arith, below)))
        (v.standing.written j (omega arith) (omega (arith, rising_le end (take (n - (i + 1)) (drop (13312 + (i + 1)) w0)) v.low rest_rising.1)));
  }

  lists_more : (F : List ℕ) → lists_at F w0 (i + 1) ≡ lists_at F w0 i ++ (list_at F w from end ∷ [])
  lists_more F =
      rw (
        so_far_is,
        cut_snoc w0 0 (take i (drop 13312 w0)) from end v.so_far,
        map_append (gather F) (cut w0 0 (take i (drop 13312 w0))) (run w0 from (end - from) ∷ []),
        map_append reverse (map (gather F) (cut w0 0 (take i (drop 13312 w0)))) (gather F (run w0 from (end - from)) ∷ []),
        run_same w0 w from (end - from) (λ j h k. same j (omega (arith, below, rest_rising.0))),
      )

  pub functions_again : {w1 : List ℕ} → ((F : List ℕ) → Located w (list_at F w from end ∷ []) w1) → FunctionsInv w0 n w1 (i + 1) end
  functions_again d = record {
    low = v.low;
    standing = v.standing;
    few = v.few;
    to = omega (arith, v.to);
    so_far = rw so_far_is (rising_snoc 0 (take i (drop 13312 w0)) from end v.so_far rest_rising.0);
    rest = rest_rising.1;
    located = λ F. rw (lists_more F) (located_append (v.located F) (d F));
  }

pub functions_done : {w0 w : List ℕ} {n i from : ℕ} → FunctionsInv w0 n w i from → n ≤ i → (F : List ℕ) → Located w0 (lists_at F w0 n) w
functions_done {n = n} {i = i} v h F = let e : i ≡ n = omega (arith, v.to) in rw e at (v.located F)
