-- The bytes of a file: words, records as words, strings with their end offsets, and where the areas are.
use Prim.Native.Nat.{ℕ, zero, suc, ◌+◌, ◌-◌, ◌*◌, ◌/◌, ◌%◌, ◌^◌, ◌≤◌, ◌<◌}
use mathlib.Core.Path.{◌≡◌, refl, sym, ap, ◌∙◌}
use mathlib.Core.List.{List, [], ◌∷◌, ◌++◌, head-eq_of_cons-eq, tail-eq_of_cons-eq}
use mathlib.Core.Bool.{Bool, true, ◌&&◌}
use lib.Dec.{eqb, leb}
use lib.ListN.{length, get_or, take, drop, length-append, length-drop, drop_of_length-le}
use lib.Seq.{drop-cons, get_or-append-add, get_or-append_seam, drop_at, take-append_seam, take-add, drop-drop, length-take-le}
use native.Mathlib.Nat.{zero-add, add-zero}
use native.Mathlib.Numerals.{add-one, add-two, add-three, add-four}
use native.Mathlib.Omega.{arith}
use borrow.Author.Tests.{le-leb, leb-true, eqb-true, eq-eqb}
use Rattle.hir.specs.Hir.{Str}
use Rattle.script_records.specs.declared.layout.Layout.{Layout}
use Rattle.script_records.specs.declared.layout.Row.{Row}
use Rattle.script_records.specs.Layout.{word_at, end_at, start_at, string_at, strings_from, row_at, rows_from, strings_of, trailer_at, record_distance, end_distance, record_count, string_count, edition, layout_of}
use Rattle.script_records.specs.Layout.{has_trailer, areas_touch}
use Rattle.script.specs.Rules.{}
use Rattle.script.specs.Write.{word4, bytes_of, text, ends_from, record_words, Bytes, trailer}
use Rattle.script.proofs.WrittenRows.{At, at_left, at_right}
use Rattle.std.proofs.lemmas.Bool.{and_parts}

-- from byte position p on, n words; `words_add` is of this definition
unfoldable pub words_from : List ℕ → ℕ → ℕ → List ℕ
words_from F p zero = []
words_from F p (suc n) = word_at F p ∷ words_from F (p + 4) n

pub words_add : (F : List ℕ) (p a b : ℕ) → words_from F p (a + b) ≡ words_from F p a ++ words_from F (p + 4 * a) b
unfolding words_from
words_add F p zero b = rw (zero-add, add-zero)
words_add F p (suc a) b =
    let e : suc a + b ≡ suc (a + b) = omega arith in
    let q : p + 4 + 4 * a ≡ p + 4 * suc a = omega arith in
    rw (e, words_add F (p + 4) a b, q)

-- a word and its four digits
digits : (a b c d : ℕ) → a < 256 → b < 256 → c < 256 → d < 256 → word4 (a + 256 * (b + 256 * (c + 256 * d))) ≡ a ∷ b ∷ c ∷ d ∷ []
digits a b c d p q r s =
    let n : ℕ = a + 256 * (b + 256 * (c + 256 * d)) in
    let e0 : n % 256 ≡ a = omega arith in
    let e1 : n / 256 % 256 ≡ b = omega arith in
    let e2 : n / 65536 % 256 ≡ c = omega arith in
    let e3 : n / 16777216 % 256 ≡ d = omega arith in
    rw (e0, e1, e2, e3)

four : (F : List ℕ) (p : ℕ) → p + 4 ≤ length F → drop p F ≡ get_or F p 0 ∷ get_or F (p + 1) 0 ∷ get_or F (p + 2) 0 ∷ get_or F (p + 3) 0 ∷ drop (p + 4) F
four F p h =
    rw (
      add-one,
      add-two,
      add-three,
      add-four,
      drop-cons F p 0 (omega arith),
      drop-cons F (suc p) 0 (omega arith),
      drop-cons F (suc (suc p)) 0 (omega arith),
      drop-cons F (suc (suc (suc p))) 0 (omega arith),
    )

-- bytes are the bytes of their words
module _ (F : List ℕ) (bytes : Bytes F) where
  pub word_small : (p : ℕ) → word_at F p < 2 ^ 32
  unfolding word_at
  word_small p = omega (arith, bytes p, bytes (p + 1), bytes (p + 2), bytes (p + 3))

  drop_four : (p : ℕ) → p + 4 ≤ length F → drop p F ≡ word4 (word_at F p) ++ drop (p + 4) F
  unfolding word_at
  drop_four p h =
      four F p h
      ∙ ap (λ (r : List ℕ). r ++ drop (p + 4) F)
      (sym (digits (get_or F p 0) (get_or F (p + 1) 0) (get_or F (p + 2) 0) (get_or F (p + 3) 0) (bytes p) (bytes (p + 1)) (bytes (p + 2)) (bytes (p + 3))))

  pub drop_words : (n p : ℕ) → length F ≡ p + 4 * n → drop p F ≡ bytes_of (words_from F p n)
  unfolding bytes_of words_from
  drop_words zero p h = drop_of_length-le F {i = p} (omega arith)
  drop_words (suc n) p h = drop_four p (omega arith) ∙ rw (drop_words n (p + 4) (omega arith))

-- each of them is a word
unfoldable pub Small : List ℕ → Type 0
Small [] = Unit
Small (n ∷ ns) = (n < 2 ^ 32) × Small ns

-- of this file's `Small`
pub small_append : (xs ys : List ℕ) → Small xs → Small ys → Small (xs ++ ys)
unfolding Small
small_append [] ys h k = k
small_append (x ∷ xs) ys h k = (h.0, small_append xs ys h.1 k)

pub bytes_length : (ns : List ℕ) → length (bytes_of ns) ≡ 4 * length ns
unfolding bytes_of
bytes_length [] = refl
bytes_length (n ∷ ns) = rw (bytes_length ns) (omega arith)

-- words are the words of their bytes, where these stand in a file
module _ (F : List ℕ) where
  word_at_lem : (p n : ℕ) → At F p (word4 n) → n < 2 ^ 32 → word_at F p ≡ n
  unfolding word_at
  word_at_lem p n h k =
      let f = h.front in
      let r : List ℕ = word4 n ++ h.back in
      rw (h.whole, ← h.place, get_or-append_seam, get_or-append-add f r 1 0, get_or-append-add f r 2 0, get_or-append-add f r 3 0) (omega arith)

  pub words_at : (ns : List ℕ) (p : ℕ) → At F p (bytes_of ns) → Small ns → words_from F p (length ns) ≡ ns
  unfolding bytes_of words_from Small
  words_at [] p h k = refl
  words_at (n ∷ ns) p h k = rw (word_at_lem p n (at_left (word4 n) (bytes_of ns) h) k.0, words_at ns (p + 4) (at_right (word4 n) (bytes_of ns) h) k.1)

  -- five words a record
  pub record_words_lem : (n p : ℕ) → p + 20 * n ≤ length F → record_words (rows_from F p n) ≡ words_from F p (5 * n)
  unfolding record_words rows_from row_at words_from
  record_words_lem zero p h = refl
  record_words_lem (suc n) p h =
      let five : 5 * suc n ≡ suc (suc (suc (suc (suc (5 * n))))) = omega arith in
      let e8 : p + 4 + 4 ≡ p + 8 = omega arith in
      let e12 : p + 8 + 4 ≡ p + 12 = omega arith in
      let e16 : p + 12 + 4 ≡ p + 16 = omega arith in
      let e20 : p + 16 + 4 ≡ p + 20 = omega arith in
      rw (le-leb (p + 20) (length F) (omega arith), five, e8, e12, e16, e20, record_words_lem n (p + 20) (omega arith))

same_row : (x y : Row) → x.kind ≡ y.kind → x.a ≡ y.a → x.b ≡ y.b → x.c ≡ y.c → x.size ≡ y.size → x ≡ y
same_row x y k a b c s = λ i. record { kind = k i; a = a i; b = b i; c = c i; size = s i }

pub same_rows : (xs ys : List Row) → record_words xs ≡ record_words ys → xs ≡ ys
unfolding record_words
same_rows [] [] h = refl
same_rows [] (y ∷ ys) h = cc
same_rows (x ∷ xs) [] h = cc
same_rows (x ∷ xs) (y ∷ ys) h =
    let h1 = tail-eq_of_cons-eq h in
    let h2 = tail-eq_of_cons-eq h1 in
    let h3 = tail-eq_of_cons-eq h2 in
    let h4 = tail-eq_of_cons-eq h3 in
    let r : x ≡ y = same_row x y (head-eq_of_cons-eq h) (head-eq_of_cons-eq h1) (head-eq_of_cons-eq h2) (head-eq_of_cons-eq h3) (head-eq_of_cons-eq h4) in
    rw (r, same_rows xs ys (tail-eq_of_cons-eq h4))

pub record_append : (xs ys : List Row) → record_words (xs ++ ys) ≡ record_words xs ++ record_words ys
unfolding record_words
record_append [] ys = refl
record_append (x ∷ xs) ys = rw (record_append xs ys)

pub record_length : (rs : List Row) → length (record_words rs) ≡ 5 * length rs
unfolding record_words
record_length [] = refl
record_length (r ∷ rs) = rw (record_length rs) (omega arith)

pub strings_length : (F : List ℕ) (l : Layout) (i n : ℕ) → length (strings_from F l i n) ≡ n
unfolding strings_from
strings_length F l i zero = refl
strings_length F l i (suc n) = ap suc (strings_length F l (suc i) n)

-- two parts of a list that touch
join : (F : List ℕ) (s e x : ℕ) → s ≤ e → e ≤ x → take (e - s) (drop s F) ++ take (x - e) (drop e F) ≡ take (x - s) (drop s F)
join F s e x h k =
    let n : x - s ≡ e - s + (x - e) = omega arith in
    let p : s + (e - s) ≡ e = omega arith in
    rw (n, take-add, drop-drop, p)

-- where the end offsets lie in the file, never fall, and the last is where the string bytes end
module _ (F : List ℕ) (l : Layout) (inside : l.ends + 4 * l.strings ≤ length F) (rise : (i : ℕ) → i < l.strings → start_at F l i ≤ end_at F l i) (last : start_at F l l.strings ≡ l.ends) where
  end_word : (i : ℕ) → i < l.strings → end_at F l i ≡ word_at F (l.ends + 4 * i)
  unfolding end_at
  end_word i h = rw (le-leb (l.ends + 4 * i + 4) (length F) (omega arith))

  start_le : (n i : ℕ) → i + n ≡ l.strings → start_at F l i ≤ l.ends
  start_le zero i h = let e : i ≡ l.strings = omega arith in rw (e, last) (omega arith)
  start_le (suc n) i h =
      let a : start_at F l i ≤ end_at F l i = rise i (omega arith) in
      let b : end_at F l i ≤ l.ends = start_le n (suc i) (omega arith) in
      omega arith

  string_end : (n i : ℕ) → i + suc n ≡ l.strings → start_at F l i + length (string_at F l i) ≡ end_at F l i
  unfolding string_at
  string_end n i h =
      let a : start_at F l i ≤ end_at F l i = rise i (omega arith) in
      let b : end_at F l i ≤ l.ends = start_le n (suc i) (omega arith) in
      rw (length-take-le (end_at F l i - start_at F l i) (drop (start_at F l i) F) (rw length-drop (omega arith))) (omega arith)

  ends_from_lem : (n i : ℕ) → i + n ≡ l.strings → ends_from (start_at F l i) (strings_from F l i n) ≡ words_from F (l.ends + 4 * i) n
  unfolding ends_from strings_from words_from
  ends_from_lem zero i h = refl
  ends_from_lem (suc n) i h =
      let q : l.ends + 4 * suc i ≡ l.ends + 4 * i + 4 = omega arith in
      rw (string_end n i h, ends_from_lem n (suc i) (omega arith), q, end_word i (omega arith))

  text_from : (n i : ℕ) → i + n ≡ l.strings → text (strings_from F l i n) ≡ take (l.ends - start_at F l i) (drop (start_at F l i) F)
  unfolding text strings_from string_at
  text_from zero i h =
      let e : i ≡ l.strings = omega arith in
      let z : l.ends - l.ends ≡ 0 = omega arith in
      rw (e, last, z)
  text_from (suc n) i h = rw (text_from n (suc i) (omega arith)) (join F (start_at F l i) (end_at F l i) l.ends (rise i (omega arith)) (start_le n (suc i) (omega arith)))

  pub ends_written : ends_from 0 (strings_of F l) ≡ words_from F l.ends l.strings
  unfolding strings_of
  ends_written = let e : l.ends + 4 * 0 ≡ l.ends = omega arith in rw e at (ends_from_lem l.strings 0 (omega arith))

  pub text_written : text (strings_of F l) ≡ take l.ends F
  unfolding strings_of
  text_written = let e : l.ends - 0 ≡ l.ends = omega arith in rw e at (text_from l.strings 0 (omega arith))

at_take : {A : Type 0} {l : List A} {p : ℕ} (xs : List A) → At l p xs → take (length xs) (drop p l) ≡ xs
at_take {p} xs h = rw (h.whole, drop_at h.front (xs ++ h.back) p h.place, take-append_seam)

-- from string i on, which starts at byte p, the file holds the strings ss and their end offsets
pub record Tabled (F : List ℕ) (l : Layout) (i p : ℕ) (ss : List Str) : Type 0 where
  pub start : start_at F l i ≡ p
  pub bytes : At F p (text ss)
  pub ends : words_from F (l.ends + 4 * i) (length ss) ≡ ends_from p ss
  pub inside : l.ends + 4 * (i + length ss) ≤ length F

module _ {F : List ℕ} {l : Layout} {i p : ℕ} {s : Str} {ss : List Str} (t : Tabled F l i p (s ∷ ss)) where
  table_words : word_at F (l.ends + 4 * i) ∷ words_from F (l.ends + 4 * i + 4) (length ss) ≡ (p + length s) ∷ ends_from (p + length s) ss
  unfolding words_from ends_from
  table_words = t.ends

  tabled_end : end_at F l i ≡ p + length s
  unfolding end_at
  tabled_end = rw (le-leb (l.ends + 4 * i + 4) (length F) (omega (arith, t.inside))) (head-eq_of_cons-eq table_words)

  tabled_bytes : At F p (s ++ text ss)
  unfolding text
  tabled_bytes = t.bytes

  tabled_next : Tabled F l (suc i) (p + length s) ss
  tabled_next =
      let q : l.ends + 4 * suc i ≡ l.ends + 4 * i + 4 = omega arith in
      record { start = tabled_end; bytes = at_right s (text ss) tabled_bytes; ends = rw q (tail-eq_of_cons-eq table_words); inside = omega (arith, t.inside) }

  tabled_string : string_at F l i ≡ s
  unfolding string_at
  tabled_string =
      let q : p + length s - p ≡ length s = omega arith in
      rw (tabled_end, t.start, q) (at_take s (at_left s (text ss) tabled_bytes))

  tabled_rise : start_at F l i ≤ end_at F l i
  tabled_rise = rw (tabled_end, t.start) (omega arith)

module _ (F : List ℕ) (l : Layout) where
  pub tabled_strings : (ss : List Str) (i p : ℕ) → Tabled F l i p ss → strings_from F l i (length ss) ≡ ss
  unfolding strings_from
  tabled_strings [] i p t = refl
  tabled_strings (s ∷ ss) i p t = rw (tabled_string t, tabled_strings ss (suc i) (p + length s) (tabled_next t))

  pub tabled_last : (ss : List Str) (i p : ℕ) → Tabled F l i p ss → start_at F l (i + length ss) ≡ p + length (text ss)
  unfolding text
  tabled_last [] i p t = rw (add-zero i, add-zero p) t.start
  tabled_last (s ∷ ss) i p t =
      let e : i + suc (length ss) ≡ suc i + length ss = omega arith in
      rw (e, length-append, tabled_last ss (suc i) (p + length s) (tabled_next t)) (omega arith)

  pub tabled_rises : (ss : List Str) (i p : ℕ) → Tabled F l i p ss → (k : ℕ) → k < length ss → start_at F l (i + k) ≤ end_at F l (i + k)
  tabled_rises [] i p t k h = absurd (omega arith)
  tabled_rises (s ∷ ss) i p t zero h = rw (add-zero) (tabled_rise t)
  tabled_rises (s ∷ ss) i p t (suc k) h =
      let e : i + suc k ≡ suc i + k = omega arith in
      rw e (tabled_rises ss (suc i) (p + length s) (tabled_next t) k (omega arith))

-- the end offsets, the records and the trailer fill the file from the string bytes' end on
pub record Areas (F : List ℕ) (l : Layout) : Type 0 where
  pub total : length F ≡ l.ends + 4 * (l.strings + (5 * l.count + 5))
  pub records : l.records ≡ l.ends + 4 * l.strings
  pub tail : words_from F (l.ends + 4 * l.strings + 4 * (5 * l.count)) 5 ≡ trailer l.count l.strings

five : (F : List ℕ) (t : ℕ) → words_from F t 5 ≡ word_at F t ∷ word_at F (t + 4) ∷ word_at F (t + 8) ∷ word_at F (t + 12) ∷ word_at F (t + 16) ∷ []
unfolding words_from
five F t =
    let e8 : t + 4 + 4 ≡ t + 8 = omega arith in
    let e12 : t + 8 + 4 ≡ t + 12 = omega arith in
    let e16 : t + 12 + 4 ≡ t + 16 = omega arith in
    rw (e8, e12, e16)

module _ (F : List ℕ) where
  abbrev found : Layout
  found = record { records = trailer_at F - record_distance F; ends = trailer_at F - end_distance F; count = record_count F; strings = string_count F }

  found_law : 20 ≤ length F → layout_of F ≡ found
  unfolding layout_of
  found_law h = rw (le-leb 20 (length F) h)

  -- the rules of the trailer
  module _ (rules : (has_trailer F && areas_touch F) ≡ true) where
    has : has_trailer F ≡ true
    has = (and_parts (has_trailer F) (areas_touch F) rules).0

    touch : areas_touch F ≡ true
    touch = (and_parts (has_trailer F) (areas_touch F) rules).1

    long : 20 ≤ length F
    long = leb-true 20 (length F) ((and_parts (leb 20 (length F)) _ has).0)

    edition_one : edition F ≡ 1
    edition_one = eqb-true (edition F) 1 ((and_parts (leb 20 (length F)) _ has).1)

    abbrev distances : Bool
    distances = eqb (record_distance F) (20 * record_count F) && eqb (end_distance F) (20 * record_count F + 4 * string_count F)

    distance_one : record_distance F ≡ 20 * record_count F
    distance_one = eqb-true (record_distance F) _ ((and_parts (eqb (record_distance F) (20 * record_count F)) _ ((and_parts distances _ touch).0)).0)

    distance_two : end_distance F ≡ 20 * record_count F + 4 * string_count F
    distance_two = eqb-true (end_distance F) _ ((and_parts (eqb (record_distance F) (20 * record_count F)) _ ((and_parts distances _ touch).0)).1)

    room : end_distance F ≤ trailer_at F
    room = leb-true (end_distance F) (trailer_at F) ((and_parts distances _ touch).1)

    pub areas_of : Areas F (layout_of F)
    areas_of =
        let end : trailer_at F - end_distance F + 4 * string_count F + 4 * (5 * record_count F) ≡ trailer_at F = omega (arith, distance_two, room) in
        rw (found_law long)
        (record {
          total = omega (arith, long, distance_two, room);
          records = omega (arith, distance_one, distance_two, room);
          tail = rw end (five F (trailer_at F) ∙ rw (distance_one, distance_two, edition_one));
        })

  -- and the other way round
  module _ (l : Layout) (areas : Areas F l) where
    abbrev start : ℕ
    start = l.ends + 4 * l.strings + 4 * (5 * l.count)

    trailer_at_lem : trailer_at F ≡ start
    trailer_at_lem = omega (arith, areas.total)

    words : word_at F start ∷ word_at F (start + 4) ∷ word_at F (start + 8) ∷ word_at F (start + 12) ∷ word_at F (start + 16) ∷ [] ≡ trailer l.count l.strings
    words = sym (five F start) ∙ areas.tail

    -- the trailer's words, by their use
    record Trailer : Type 0 where
      enough : 20 ≤ length F
      to_records : record_distance F ≡ 20 * l.count
      to_ends : end_distance F ≡ 20 * l.count + 4 * l.strings
      records : record_count F ≡ l.count
      strings : string_count F ≡ l.strings
      first_edition : edition F ≡ 1

    trailer_words : Trailer
    trailer_words =
        let w1 = tail-eq_of_cons-eq words in
        let w2 = tail-eq_of_cons-eq w1 in
        let w3 = tail-eq_of_cons-eq w2 in
        let w4 = tail-eq_of_cons-eq w3 in
        record {
          enough = omega (arith, areas.total);
          to_records = rw trailer_at_lem (head-eq_of_cons-eq words);
          to_ends = rw trailer_at_lem (head-eq_of_cons-eq w1);
          records = rw trailer_at_lem (head-eq_of_cons-eq w2);
          strings = rw trailer_at_lem (head-eq_of_cons-eq w3);
          first_edition = rw trailer_at_lem (head-eq_of_cons-eq w4);
        }

    pub areas_hold : (has_trailer F && areas_touch F) ≡ true
    areas_hold =
        let w = trailer_words in
        rw (
          le-leb 20 (length F) w.enough,
          w.first_edition,
          w.to_records,
          w.to_ends,
          w.records,
          w.strings,
          eq-eqb (20 * l.count) (20 * l.count) refl,
          eq-eqb (20 * l.count + 4 * l.strings) (20 * l.count + 4 * l.strings) refl,
          trailer_at_lem,
        )
        (le-leb (20 * l.count + 4 * l.strings) start (omega arith))

    pub areas_layout : layout_of F ≡ l
    areas_layout =
        let w = trailer_words in
        let r : start - 20 * l.count ≡ l.records = omega (arith, areas.records) in
        let e : start - (20 * l.count + 4 * l.strings) ≡ l.ends = omega arith in
        found_law w.enough ∙ rw (w.to_records, w.to_ends, w.records, w.strings, trailer_at_lem, r, e)
