-- What the bytes at a position say of those from it on.
-- Assumes nothing.
use mathlib.Core.Path.{◌≡◌, refl, sym, ◌∙◌}
use mathlib.Core.Bool.{Bool, true, false, cond, ◌&&◌, and-false, and-eq-true_iff, false≢true}
use mathlib.Core.List.{List, [], ◌∷◌}
use mathlib.Core.Option.{Option, none, some, Option-elim, none-ne-some}
use Prim.Native.Nat.{ℕ, zero, suc, ◌+◌, ◌-◌, ◌≤◌, ◌<◌}
use native.Mathlib.Numerals.{add-one}
use native.Mathlib.Nat.{zero-add}
use native.Mathlib.Omega.{arith}
use lib.Dec.{eqb, leb, ltb}
use lib.ListN.{length, get_or, drop, drop_of_length-le}
use lib.Seq.{drop-cons}
use borrow.Author.Tests.{eqb-true, eqb-false, leb-true, leb-false, ltb-true, ltb-false, le-leb, lt-leb, le-ltb, lt-ltb}
use Rattle.std.proofs.lemmas.Simd.{get_or-chunk}
use Rattle.std.specs.List.{list_all}
use Rattle.std.proofs.Math.Bool.{and_assoc}
use Rattle.std.specs.Prelude.{map, take, replicate, ◌%◌, ◌^◌}
use Rattle.std.specs.Array.{IsFirstChunk}
use Rattle.std.proofs.lemmas.Grind.{common_steps}
use Rattle.std.proofs.lemmas.Simd.{none_from_empty_mask, tops_compared, mask_l-mod, zip2_splat_left}
use Rattle.std.proofs.lemmas.List.{length-map, get_or-take, drop-drop}
use mir.Syntax.{w8}
use lib.Lanes.{zip2, chunk, mask_l, top}
use Rattle.utf8.specs.Utf8.{Range, ◌to◌, tail, chars, in_range, started, next, completes, utf8}
use Rattle.utf8.specs.Chars.{from, Ascii, Passed, Ran, Stands, second, firsts}
use Rattle.utf8.proofs.Forms.{by_test, decided, starts, more, opened}

pub byte : (s : List ℕ) (i : ℕ) (o : List Range) → i < length s → completes o (drop i s) ≡ Option-elim (next o (get_or s i 0)) false (λ rest. completes rest (drop (suc i) s))
unfolding completes
byte s i o h = rw (drop-cons s i 0 h)

picked : (t : Bool) (o : List Range) (k : List Range → Bool) → Option-elim (cond t (some o) none) false k ≡ (t && k o)
unfolding Option-elim
picked true o k = refl
picked false o k = refl

-- a byte that is owed
owed : (s : List ℕ) (i : ℕ) {j : ℕ} (r : Range) (o : List Range) → i < length s → j ≡ suc i → completes (r ∷ o) (drop i s) ≡ (in_range (get_or s i 0) r && completes o (drop j s))
unfolding next
owed s i r o h e = byte s i (r ∷ o) h ∙ picked (in_range (get_or s i 0) r) o (λ rest. completes rest (drop (suc i) s)) ∙ rw e

module _ (s : List ℕ) (i : ℕ) (r : Range) (h : i < length s) where
  pub refuses : (o : List Range) → in_range (get_or s i 0) r ≡ false → false ≡ completes (r ∷ o) (drop i s)
  refuses o w = sym (owed s i r o h refl ∙ simp w)

  module _ (j : ℕ) (e : j ≡ suc i) where
    pub takes : (o : List Range) → in_range (get_or s i 0) r ≡ true → completes o (drop j s) ≡ completes (r ∷ o) (drop i s)
    takes o w = sym (owed s i r o h e ∙ simp w)

    pub ends : {t : Bool} → t ≡ in_range (get_or s i 0) r → (t && from s j) ≡ completes (r ∷ []) (drop i s)
    ends w = rw w (sym (owed s i r [] h e))

-- a first byte, by what every byte of its range starts
module _ (s : List ℕ) (i : ℕ) (h : i < length s) (low high : ℕ) (above : low ≤ get_or s i 0) (below : get_or s i 0 ≤ high) where
  pub first : (o : List Range) → decided low high chars ≡ some (some o) → completes o (drop (i + 1) s) ≡ from s i
  unfolding Option-elim
  first o d = rw add-one (sym (byte s i [] h ∙ simp (starts low high above below (some o) d)))

  pub no_first : decided low high chars ≡ some none → from s i ≡ false
  unfolding Option-elim
  no_first d = byte s i [] h ∙ simp (starts low high above below none d)

-- a first byte of a char of several bytes, by how many it owes after the second
pub opens : (s : List ℕ) (i : ℕ) (o : List Range) → i < length s → 0xC2 ≤ get_or s i 0 → get_or s i 0 ≤ 0xF4 → more (get_or s i 0) ≡ o → completes (second (get_or s i 0) ∷ o) (drop (i + 1) s) ≡ from s i
unfolding Option-elim
opens s i o h a k e = rw (← e, add-one) (sym (byte s i [] h ∙ simp (opened (get_or s i 0) a k)))

pub bounds : (low high b : ℕ) → in_range b (low to high) ≡ true → (low ≤ b) × (b ≤ high)
bounds low high b e =
    let p = (and-eq-true_iff (leb low b) (leb b high)).0 e in
    (leb-true low b p.0, leb-true b high p.1)

pub outside : (low high b : ℕ) → in_range b (low to high) ≡ false → low ≤ b → high < b
outside low high b e h = leb-false b high (simp (le-leb low b h) at e)

-- too few bytes for what is owed
short : (o : List Range) (s : List ℕ) (i : ℕ) → i ≤ length s → length s < i + length o → completes o (drop i s) ≡ false
unfolding completes
short [] s i h k = absurd (omega arith)
short (r ∷ o) s i h k =
    by_test (ltb i (length s))
    (λ t. owed s i r o (omega (arith, ltb-true)) refl ∙ simp (short o s (suc i) (omega (arith, ltb-true)) (omega arith), and-false))
    (λ t. rw (drop_of_length-le s {i = i} (omega (arith, ltb-false))))

-- each form that a byte of x and above can start has n bytes at least
abbrev long : ℕ → ℕ → List (List Range) → Bool
long n x [] = true
long n x ([] ∷ forms) = long n x forms
long n x ((r ∷ rest) ∷ forms) = cond (ltb r.high x) (long n x forms) (leb n (suc (length rest)) && long n x forms)

module _ (n x : ℕ) {b : ℕ} (above : x ≤ b) where
  started_long : (forms : List (List Range)) (o : List Range) → long n x forms ≡ true → started b forms ≡ some o → n ≤ suc (length o)
  unfolding started
  started_long [] o l e = absurd (none-ne-some o e)
  started_long ([] ∷ forms) o l e = started_long forms o l e
  started_long ((r ∷ rest) ∷ forms) o l e =
      by_test (ltb r.high x)
      (λ u. started_long forms o (simp u at l) (simp (lt-leb b r.high (omega (arith, ltb-true)), and-false) at e))
      (λ u.
      let l' : (leb n (suc (length rest)) && long n x forms) ≡ true = simp u at l in
      let p = (and-eq-true_iff (leb n (suc (length rest))) (long n x forms)).0 l' in
      by_test (in_range b r)
      (λ t.
      let e' : some rest ≡ some o = simp t at e in
      let f : rest ≡ o = cc in
      rw (← f) (leb-true n (suc (length rest)) p.0))
      (λ t. started_long forms o p.1 (simp t at e)))

-- a char that is cut off at the end
cut : (n x : ℕ) → long n x chars ≡ true → (s : List ℕ) (i : ℕ) → i < length s → x ≤ get_or s i 0 → length s < i + n → from s i ≡ false
unfolding next Option-elim
cut n x l s i h above k = byte s i [] h ∙ go (next [] (get_or s i 0)) refl
  where
    go : (m : Option (List Range)) → next [] (get_or s i 0) ≡ m → Option-elim m false (λ rest. completes rest (drop (suc i) s)) ≡ false
    go none e = refl
    go (some o) e = let p = started_long n x above chars o l e in short o s (suc i) (omega arith) (omega arith)

pub at_end : (s : List ℕ) (i : ℕ) → length s ≤ i → true ≡ from s i
unfolding completes
at_end s i h = rw (drop_of_length-le s {i = i} h)

pub ascii_byte : (s : List ℕ) (i : ℕ) → i < length s → get_or s i 0 < 0x80 → from s (i + 1) ≡ from s i
ascii_byte s i h b = first s i h 0 0x7F (omega arith) (omega arith) [] refl

ascii_run : (s : List ℕ) (i n : ℕ) → i + n ≤ length s → Ascii s i n → from s (i + n) ≡ from s i
ascii_run s i zero h a = let e : i + 0 ≡ i = omega arith in rw e
ascii_run s i (suc n) h a =
    let e : i + suc n ≡ i + n + 1 = omega arith in
    rw e (ascii_byte s (i + n) (omega arith) (a.each n (omega arith)) ∙ ascii_run s i n (omega arith) (record { each = λ k l. a.each k (omega arith) }))

-- the first eight bytes from a position on
pub ascii_word : (s : List ℕ) (i : ℕ) {w : List ℕ} {n : ℕ} → IsFirstChunk (take (length s - i) (drop i s)) w 8 → n ≤ 8 → Ascii w 0 n → (i + n ≤ length s) × Ascii s i n
ascii_word s i {w} {n} e h a =
    let m : 8 + i ≤ length s = let l = e.enough in grind (arith, common_steps) in (
      omega arith,
      record {
        each = λ k l.
            let q : k < length s - i = omega arith in
            let r : get_or (take 8 (take (length s - i) (drop i s))) k 0 ≡ get_or s (i + k) 0 = get_or-take 8 (take (length s - i) (drop i s)) k 0 (omega arith) ∙ get_or-chunk i (length s - i) s k 0 q in
            let b : get_or w k 0 < 0x80 = rw zero-add at (a.each k l) in
            rw (← r, ← e.same) b;
      },
    )

-- lanes of which none is 0x80 or more
abbrev compared : ℕ → ℕ → ℕ
compared a b = cond (leb a b) 0xFF 0

pub ascii_lanes : (s : List ℕ) (i n : ℕ) → i + n ≤ length s → n ≤ 64 → eqb (mask_l (map (top 7) (zip2 compared (replicate n 0x80) (chunk i n s))) % 2 ^ 64) 0 ≡ true → Ascii s i n
ascii_lanes s i n h k e =
    let l : length (chunk i n s) ≡ n = grind (arith, common_steps) in
    let x : map (top 7) (zip2 compared (replicate n 0x80) (chunk i n s)) ≡ map (leb 0x80) (chunk i n s) = tops_compared w8 leb _ _ ∙ zip2_splat_left leb 0x80 n (chunk i n s) l in
    let m : mask_l (map (leb 0x80) (chunk i n s)) ≡ 0 = sym (mask_l-mod _ 64 (omega (arith, length-map (chunk i n s) (leb 0x80)))) ∙ rw x at (eqb-true _ 0 e) in
    record { each = λ j q. leb-false 0x80 _ (none_from_empty_mask (leb 0x80) s i n 0 h m (i + j) (omega arith) (omega arith)) }

pub passed_none : (s : List ℕ) (i : ℕ) → i ≤ length s → Passed s i i
passed_none s i h = record { onward = omega arith; within = h; same = refl }

pub passed_on : {s : List ℕ} {i j k : ℕ} → Passed s i j → Passed s j k → Passed s i k
passed_on p q = record { onward = let a = p.onward in let b = q.onward in omega arith; within = q.within; same = q.same ∙ p.same }

pub passed_char : {s : List ℕ} {i j : ℕ} (n : ℕ) → Passed s i j → j + n ≤ length s → from s (j + n) ≡ from s j → Passed s i (j + n)
passed_char {s} {i} {j} n p h e = passed_on p (record { onward = omega arith; within = h; same = e })

pub passed_ascii : {s : List ℕ} {i j : ℕ} (n : ℕ) → Passed s i j → j + n ≤ length s → Ascii s j n → Passed s i (j + n)
passed_ascii {s} {i} {j} n p h a = passed_char n p h (ascii_run s j n h a)

module _ {s : List ℕ} {i j : ℕ} (p : Passed s i j) where
  pub ran_further : i < j → Ran s i j
  ran_further h = record { passed = p; refused = λ e. absurd (omega arith) }

module _ {s : List ℕ} {i : ℕ} (n : ℕ) where
  pub stands_not : from s i ≡ false → Stands s i n false
  stands_not e = record { yes = λ w. absurd (false≢true w); no = λ w. e }

  -- the char is cut off at the end
  pub stands_cut : (x high : ℕ) → long n x chars ≡ true → i < length s → in_range (get_or s i 0) (x to high) ≡ true → length s < i + n → Stands s i n false
  stands_cut x high l h a k = stands_not (cut n x l s i h (bounds x high (get_or s i 0) a).0 k)

  pub stands_tested : (t : Bool) → i + n ≤ length s → (t && from s (i + n)) ≡ from s i → Stands s i n t
  stands_tested t h e = record { yes = λ w. record { onward = omega arith; within = h; same = simp w at e }; no = λ w. sym (simp w at e) }

by_length : (P : ℕ → Type 0) (n : ℕ) → 2 ≤ n → n ≤ 4 → P 2 → P 3 → P 4 → P n
by_length P n l h two three four =
    by_test (eqb n 2) (λ t. rw (eqb-true n 2 t) two)
    (λ t.
    by_test (eqb n 3) (λ u. rw (eqb-true n 3 u) three)
    (λ u. let e : n ≡ 4 = omega (arith, eqb-false) in rw e four))

-- tails that are owed
tails_owed : (m : ℕ) (s : List ℕ) → m ≤ length s → completes (replicate m tail) s ≡ (list_all (λ b. in_range b tail) (take m s) && completes [] (drop m s))
unfolding completes next
tails_owed zero s h = refl
tails_owed (suc m) [] h = absurd (omega arith)
tails_owed (suc m) (b ∷ s) h =
    picked (in_range b tail) (replicate m tail) (λ rest. completes rest s) ∙ rw (tails_owed m s (omega arith)) (sym (and_assoc (in_range b tail) (list_all (λ x. in_range x tail) (take m s)) (completes [] (drop m s))))

-- a char of two, three or four bytes, by its first one
module _ (s : List ℕ) (i n : ℕ) (low : 2 ≤ n) (high : n ≤ 4) (h : i < length s) (w : in_range (get_or s i 0) (firsts n) ≡ true) where
  abbrev b : ℕ
  b = get_or s i 0

  char_owes : completes (second b ∷ replicate (n - 2) tail) (drop (i + 1) s) ≡ from s i
  char_owes =
      by_length (λ n. in_range b (firsts n) ≡ true → completes (second b ∷ replicate (n - 2) tail) (drop (i + 1) s) ≡ from s i) n low high
      (λ w. let (l, k) = bounds 0xC2 0xDF b w in opens s i [] h l (omega arith) (simp (lt-ltb b 0xE0 (omega arith))))
      (λ w. let (l, k) = bounds 0xE0 0xEF b w in opens s i (tail ∷ []) h (omega arith) (omega arith) (simp (le-ltb b 0xE0 l, lt-ltb b 0xF0 (omega arith))))
      (λ w. let (l, k) = bounds 0xF0 0xF4 b w in opens s i (tail ∷ tail ∷ []) h (omega arith) k (simp (le-ltb b 0xE0 (omega arith), le-ltb b 0xF0 l)))
      w

  pub char_cut : length s < i + n → Stands s i n false
  char_cut k =
      by_length (λ n. in_range b (firsts n) ≡ true → length s < i + n → Stands s i n false) n low high
      (stands_cut 2 0xC2 0xDF refl h) (stands_cut 3 0xE0 0xEF refl h) (stands_cut 4 0xF0 0xF4 refl h) w k

  module _ (e : i + n ≤ length s) where
    pub char_refused : false ≡ in_range (get_or s (i + 1) 0) (second b) → Stands s i n false
    char_refused u = stands_tested n false e (refuses s (i + 1) _ (omega arith) _ (sym u) ∙ char_owes)

    pub char_tested : true ≡ in_range (get_or s (i + 1) 0) (second b) → {r : Bool} → r ≡ list_all (λ x. in_range x tail) (take (i + n - (i + 2)) (drop (i + 2) s)) → Stands s i n r
    char_tested u {r} q =
        let m : i + n - (i + 2) ≡ n - 2 = omega arith in
        let j : i + 2 + (n - 2) ≡ i + n = omega arith in
        let l : n - 2 ≤ length (drop (i + 2) s) = grind (arith, common_steps) in
        let d : drop (n - 2) (drop (i + 2) s) ≡ drop (i + n) s = drop-drop (n - 2) (i + 2) s ∙ rw j refl in
        let o : (r && from s (i + n)) ≡ completes (replicate (n - 2) tail) (drop (i + 2) s) = sym (rw (q, m, ← d) (tails_owed (n - 2) (drop (i + 2) s) l)) in
        stands_tested n r e (o ∙ takes s (i + 1) _ (omega arith) (i + 2) (omega arith) _ (sym u) ∙ char_owes)

pub answer : {s : List ℕ} {i : ℕ} {t : Bool} → Passed s 0 i → t ≡ from s i → t ≡ utf8 s
unfolding utf8
answer p e = e ∙ p.same
