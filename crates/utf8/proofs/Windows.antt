-- Bytes of which each can stand after the three before it are whole chars, but for one that is open at their end.
-- Assumes nothing.
use mathlib.Core.Path.{◌≡◌, refl, sym, ◌∙◌, ap, subst}
use mathlib.Core.Bool.{true, false, cond}
use mathlib.Core.List.{List, [], ◌∷◌}
use mathlib.Core.Option.{some, Option-elim}
use Prim.Native.Nat.{ℕ, zero, suc, ◌+◌, ◌-◌, ◌≤◌, ◌<◌}
use native.Mathlib.Omega.{arith}
use lib.Dec.{eqb, leb, ltb}
use lib.ListN.{length, get_or, drop}
use borrow.Author.Count.{below_more}
use borrow.Author.Tests.{eqb-true, eqb-false, leb-true, leb-false, ltb-true, ltb-false, le-leb, lt-leb, lt-ltb, le-ltb, ne_eqb}
use Rattle.utf8.specs.Utf8.{Range, tail, in_range, next, completes}
use Rattle.utf8.specs.Chars.{from, Ascii, second, is_first, may_follow, Follows, last_start, Closed, Past}
use Rattle.utf8.proofs.Forms.{by_test, more, second_tail, opened, starts}
use Rattle.utf8.proofs.Reading.{byte, bounds}

-- what is owed after three bytes
abbrev owing : ℕ → ℕ → ℕ → List Range
owing third prior last = cond (leb 0xC0 last) (second last ∷ more last) (cond (leb 0xE0 prior) (more prior) (cond (leb 0xF0 third) (tail ∷ []) []))

second_high : (b : ℕ) → (second b).high ≤ 0xBF
second_high b =
    by_test (eqb b 0xED) (λ t. simp t (omega arith))
    (λ t. simp t (by_test (eqb b 0xF4) (λ u. simp u (omega arith)) (λ u. simp u (omega arith))))

-- a byte that goes on with a char starts none
within_second : (b c : ℕ) → in_range c (second b) ≡ true → c < 0xC0
within_second b c w =
    let h = bounds (second b).low (second b).high c w in
    let k = second_high b in
    omega arith

second_below : (b : ℕ) → b < 0xC0 → second b ≡ tail
second_below b h = second_tail b (ne_eqb b _ (λ e. omega arith)) (ne_eqb b _ (λ e. omega arith)) (ne_eqb b _ (λ e. omega arith)) (ne_eqb b _ (λ e. omega arith))

-- a first byte stands where nothing is owed
closed : (third prior last b : ℕ) → may_follow third prior last b ≡ true → 0xC0 ≤ b → (last < 0xC0) × (prior < 0xE0) × (third < 0xF0)
closed third prior last b m h =
    by_test (leb 0xC0 last) (λ t. let w = within_second last b (simp t at m) in absurd (omega arith))
    (λ t.
    by_test (leb 0xE0 prior) (λ u. let w = within_second last b (simp (t, u) at m) in absurd (omega arith))
    (λ u.
    by_test (leb 0xF0 third) (λ v. let w = within_second last b (simp (t, u, v) at m) in absurd (omega arith))
    (λ v. (leb-false 0xC0 last t, leb-false 0xE0 prior u, leb-false 0xF0 third v))))

nothing : (third prior last : ℕ) → last < 0xC0 → prior < 0xE0 → third < 0xF0 → owing third prior last ≡ []
nothing third prior last a b c = simp (lt-leb 0xC0 last a, lt-leb 0xE0 prior b, lt-leb 0xF0 third c)

module _ (third prior last b : ℕ) (m : may_follow third prior last b ≡ true) where
  -- after a first byte
  after_first : leb 0xC0 last ≡ true → prior < 0xF0 → next (owing third prior last) b ≡ some (owing prior last b)
  unfolding next
  after_first t k =
      let w : in_range b (second last) ≡ true = simp t at m in
      let h = within_second last b w in
      simp (t, w, lt-leb 0xC0 b h)
      (by_test (leb 0xE0 last) (λ u. simp u refl)
      (λ u. simp (u, lt-ltb last 0xE0 (leb-false 0xE0 last u), lt-leb 0xF0 prior k) refl))

  module _ (t : leb 0xC0 last ≡ false) where
    below : last < 0xC0
    below = leb-false 0xC0 last t

    -- a byte that goes on with a char after its second
    goes_on : in_range b (second last) ≡ true → (in_range b tail ≡ true) × (leb 0xC0 b ≡ false) × (leb 0xE0 last ≡ false)
    goes_on w = (
      subst (λ (r : Range). in_range b r ≡ true) (second_below last below) w,
      lt-leb 0xC0 b (within_second last b w),
      lt-leb 0xE0 last (omega (arith, below)),
    )

    after_second : leb 0xE0 prior ≡ true → next (owing third prior last) b ≡ some (owing prior last b)
    unfolding next
    after_second u =
        let (x, y, z) = goes_on (simp (t, u) at m) in
        let e = le-ltb prior 0xE0 (leb-true 0xE0 prior u) in
        by_test (ltb prior 0xF0) (λ v. simp (t, u, v, x, y, z, e, lt-leb 0xF0 prior (ltb-true prior 0xF0 v)) refl)
        (λ v. simp (t, u, v, x, y, z, e, le-leb 0xF0 prior (ltb-false prior 0xF0 v)) refl)

    module _ (u : leb 0xE0 prior ≡ false) where
      not_four : leb 0xF0 prior ≡ false
      not_four = lt-leb 0xF0 prior (let h = leb-false 0xE0 prior u in omega arith)

      after_third : leb 0xF0 third ≡ true → next (owing third prior last) b ≡ some (owing prior last b)
      unfolding next
      after_third v = let (x, y, z) = goes_on (simp (t, u, v) at m) in simp (t, u, v, x, y, z, not_four) refl

      after_char : leb 0xF0 third ≡ false → next (owing third prior last) b ≡ some (owing prior last b)
      after_char v =
          let f : is_first b ≡ true = simp (t, u, v) at m in
          let z = lt-leb 0xE0 last (omega (arith, below)) in
          simp (t, u, v)
          (by_test (ltb b 0x80)
          (λ w. simp (lt-leb 0xC0 b (let h = ltb-true b 0x80 w in omega arith), z, not_four) (starts 0 0x7F {b = b} (omega arith) (omega (arith, ltb-true)) (some []) refl))
          (λ w.
          let (l, h) = bounds 0xC2 0xF4 b (simp w at f) in
          simp (le-leb 0xC0 b (omega arith)) (opened b l h)))

  follow : (0xC0 ≤ last → prior < 0xF0) → next (owing third prior last) b ≡ some (owing prior last b)
  follow k =
      by_test (leb 0xC0 last) (λ t. after_first t (k (leb-true 0xC0 last t)))
      (λ t.
      by_test (leb 0xE0 prior) (after_second t)
      (λ u. by_test (leb 0xF0 third) (after_third t u) (after_char t u)))

abbrev May : List ℕ → ℕ → ℕ → Type 0
May s i k = may_follow (get_or s (i + k) 0) (get_or s (i + k + 1) 0) (get_or s (i + k + 2) 0) (get_or s (i + k + 3) 0) ≡ true

pub follows_more : {s : List ℕ} {i n : ℕ} → Follows s i n → May s i n → Follows s i (n + 1)
follows_more {s} {i} {n} f m = record { each = below_more (May s i) n f.each m }

pub follows_on : {s : List ℕ} {i j : ℕ} (n : ℕ) → i ≤ j → Follows s i (j - i) → Follows s j n → Follows s i (j + n - i)
follows_on {s} {i} {j} n h f g =
    record {
      each = λ k l.
          by_test (ltb k (j - i)) (λ t. f.each k (ltb-true k (j - i) t))
          (λ t.
          let t' = ltb-false k (j - i) t in
          let e : i + k ≡ j + (k - (j - i)) = omega arith in
          subst (λ (q : ℕ). may_follow (get_or s q 0) (get_or s (q + 1) 0) (get_or s (q + 2) 0) (get_or s (q + 3) 0) ≡ true) (sym e) (g.each (k - (j - i)) (omega arith)));
    }

-- what is owed at i + 3
abbrev owing_at : List ℕ → ℕ → List Range
owing_at s i = owing (get_or s i 0) (get_or s (i + 1) 0) (get_or s (i + 2) 0)

-- no char is open at i + 3, byte by byte
abbrev Shut : List ℕ → ℕ → Type 0
Shut s i = (get_or s (i + 2) 0 < 0xC0) × (get_or s (i + 1) 0 < 0xE0) × (get_or s i 0 < 0xF0)

shut_at : (s : List ℕ) (i : ℕ) → last_start s i ≡ i + 3 → Shut s i
shut_at s i e =
    by_test (leb 0xC0 (get_or s (i + 2) 0)) (λ t. let f : i + 2 ≡ i + 3 = simp t at e in absurd (omega arith))
    (λ t.
    by_test (leb 0xE0 (get_or s (i + 1) 0)) (λ u. let f : i + 1 ≡ i + 3 = simp (t, u) at e in absurd (omega arith))
    (λ u.
    by_test (leb 0xF0 (get_or s i 0)) (λ v. let f : i ≡ i + 3 = simp (t, u, v) at e in absurd (omega arith))
    (λ v. (leb-false 0xC0 _ t, leb-false 0xE0 _ u, leb-false 0xF0 _ v))))

closed_by : (s : List ℕ) (i j : ℕ) → j ≡ i + 3 → last_start s i ≡ j → Closed s j
closed_by s i j h l = record { none = λ m e. let d : m ≡ i = omega arith in rw d l }

closed_shut : (s : List ℕ) (i j : ℕ) → j ≡ i + 3 → Shut s i → Closed s j
closed_shut s i j h c = closed_by s i j h (simp (lt-leb 0xC0 _ c.0, lt-leb 0xE0 _ c.1, lt-leb 0xF0 _ c.2) (sym h))

pub closed_ascii : {s : List ℕ} {i : ℕ} (n : ℕ) → 3 ≤ n → Ascii s i n → Closed s (i + n)
closed_ascii {s} {i} n h a =
    let byte_at : (k : ℕ) → k < 3 → get_or s (i + (n - 3) + k) 0 < 0x80 = λ k l. let e : i + (n - 3) + k ≡ i + (n - 3 + k) = omega arith in rw e (a.each (n - 3 + k) (omega arith)) in
    let x = byte_at 2 (omega arith) in
    let y = byte_at 1 (omega arith) in
    let z = a.each (n - 3) (omega arith) in
    closed_shut s (i + (n - 3)) (i + n) (omega arith) (omega arith, omega arith, omega arith)

module _ (s : List ℕ) (i : ℕ) (c : Shut s i) where
  -- none of the three bytes before opens a char
  before : (j b : ℕ) → i ≤ j → j < i + 3 → b ≤ get_or s j 0 → 0xC0 ≤ b → (j < i + 2 → 0xE0 ≤ b) → (j < i + 1 → 0xF0 ≤ b) → ⊥
  before j b h k g x y z =
      by_test (eqb j (i + 2)) (λ t. let g' : b ≤ get_or s (i + 2) 0 = rw (eqb-true j (i + 2) t) at g in omega (arith, c.0))
      (λ t.
      by_test (eqb j (i + 1)) (λ u. let e = eqb-true j (i + 1) u in let g' : b ≤ get_or s (i + 1) 0 = rw e at g in let y' = y (omega arith) in omega (arith, c.1))
      (λ u.
      let e : j ≡ i = omega (arith, eqb-false) in
      let g' : b ≤ get_or s i 0 = rw e at g in
      let z' = z (omega arith) in
      omega (arith, c.2)))

  -- where a first byte stands among bytes that follow each other, nothing is owed
  shut_before : (n m : ℕ) → Follows s i n → m < n → 0xC0 ≤ get_or s (i + m + 3) 0 → Shut s (i + m)
  shut_before n m f h = closed (get_or s (i + m) 0) (get_or s (i + m + 1) 0) (get_or s (i + m + 2) 0) (get_or s (i + m + 3) 0) (f.each m h)

  -- a first byte that is the last one stands after none of four bytes
  apart : (n k : ℕ) → Follows s i n → k < n → 0xC0 ≤ get_or s (i + k + 2) 0 → get_or s (i + k + 1) 0 < 0xF0
  apart n zero f h l = let e : i + 0 + 2 ≡ i + 2 = omega arith in absurd (let l' : 0xC0 ≤ get_or s (i + 2) 0 = rw e at l in omega arith)
  apart n (suc m) f h l =
      let e : i + suc m + 2 ≡ i + m + 3 = omega arith in
      let d : i + suc m + 1 ≡ i + m + 2 = omega arith in
      let q = shut_before n m f (omega arith) (rw e at l) in
      rw d (omega arith)

  -- the bytes owe what their last three say
  owed_after : (n k : ℕ) → Follows s i n → k ≤ n → i + n + 3 ≤ length s → completes (owing_at s (i + k)) (drop (i + k + 3) s) ≡ from s (i + 3)
  unfolding Option-elim
  owed_after n zero f h l =
      let e : i + 0 ≡ i = omega arith in
      rw e (ap (λ (o : List Range). completes o (drop (i + 3) s)) (nothing _ _ _ c.0 c.1 c.2))
  owed_after n (suc k) f h l =
      let a : i + suc k ≡ i + k + 1 = omega arith in
      let b : i + k + 1 + 1 ≡ i + k + 2 = omega arith in
      let d : i + k + 1 + 2 ≡ i + k + 3 = omega arith in
      let e : i + k + 1 + 3 ≡ suc (i + k + 3) = omega arith in
      let m = follow (get_or s (i + k) 0) (get_or s (i + k + 1) 0) (get_or s (i + k + 2) 0) (get_or s (i + k + 3) 0) (f.each k (omega arith)) (apart n k f (omega arith)) in
      rw (a, b, d, e) (sym (byte s (i + k + 3) (owing_at s (i + k)) (omega arith) ∙ ap (λ o. Option-elim o false (λ rest. completes rest (drop (suc (i + k + 3)) s))) m) ∙ owed_after n k f (omega arith) l)

  module _ (n : ℕ) (f : Follows s i n) (l : i + n + 3 ≤ length s) where
    -- from a position at which nothing is owed the bytes decide
    same_at : (k j : ℕ) → k ≤ n → j ≡ i + k + 3 → Shut s (i + k) → Past s (i + 3) j
    same_at k j h e q =
        let w = owed_after n k f h l in
        let z = nothing (get_or s (i + k) 0) (get_or s (i + k + 1) 0) (get_or s (i + k + 2) 0) q.0 q.1 q.2 in
        record {
          passed = record { onward = omega arith; within = omega arith; same = rw e (subst (λ (o : List Range). completes o (drop (i + k + 3) s) ≡ from s (i + 3)) z w) };
          closed = closed_shut s (i + k) j e q;
        }

    at_first : (k j : ℕ) → k < n → j ≡ i + k + 3 → 0xC0 ≤ get_or s j 0 → Past s (i + 3) j
    at_first k j h e b = same_at k j (omega arith) e (shut_before n k f h (rw e at b))

    -- a first byte that opens a char at the end is none of the three bytes before
    last : (j b : ℕ) → i ≤ j → j < i + n + 3 → b ≤ get_or s j 0 → 0xC0 ≤ b → (j < i + 2 → 0xE0 ≤ b) → (j < i + 1 → 0xF0 ≤ b) → Past s (i + 3) j
    last j b h k g x y z =
        by_test (ltb j (i + 3)) (λ t. absurd (before j b h (ltb-true j (i + 3) t) g x y z))
        (λ t. at_first (j - (i + 3)) j (omega (arith, ltb-false)) (omega (arith, ltb-false)) (omega arith))

    past_windows : Past s (i + 3) (last_start s (i + n))
    past_windows =
        by_test (leb 0xC0 (get_or s (i + n + 2) 0)) (λ t. simp t (last (i + n + 2) 0xC0 (omega arith) (omega arith) (leb-true _ _ t) (omega arith) (λ h. omega arith) (λ h. omega arith)))
        (λ t.
        by_test (leb 0xE0 (get_or s (i + n + 1) 0)) (λ u. simp (t, u) (last (i + n + 1) 0xE0 (omega arith) (omega arith) (leb-true _ _ u) (omega arith) (λ h. omega arith) (λ h. omega arith)))
        (λ u.
        by_test (leb 0xF0 (get_or s (i + n) 0)) (λ v. simp (t, u, v) (last (i + n) 0xF0 (omega arith) (omega arith) (leb-true _ _ v) (omega arith) (λ h. omega arith) (λ h. omega arith)))
        (λ v. simp (t, u, v) (same_at n (i + n + 3) (omega arith) refl (leb-false 0xC0 _ t, leb-false 0xE0 _ u, leb-false 0xF0 _ v)))))

pub past_to : (s : List ℕ) (i j : ℕ) {r : ℕ} → last_start s i ≡ i + 3 → i ≤ j → j + 3 ≤ length s → Follows s i (j - i) → r ≡ last_start s j → Past s (i + 3) r
past_to s i j c h l f e =
    let d : i + (j - i) ≡ j = omega arith in
    rw e (subst (λ (q : ℕ). Past s (i + 3) (last_start s q)) d (past_windows s i (shut_at s i c) (j - i) f (omega arith)))
