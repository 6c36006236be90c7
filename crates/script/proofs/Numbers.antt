-- Decoding loses nothing: the words of a decoded record are the record's, for every record that keeps the rules.
use Prim.Native.Nat.{ℕ, zero, suc, ◌%◌, ◌^◌, ◌<◌}
use mathlib.Core.Path.{◌≡◌, refl}
use mathlib.Core.Bool.{Bool, true, false, not, ◌&&◌, ◌||◌}
use lib.Dec.{ltb, eqb, eqb-suc-zero}
use lib.ListN.{get_or, get_or-eq_default}
use native.Mathlib.Omega.{arith}
use native.Mathlib.Nat.{mod-eq_of_lt}
use borrow.Author.Tests.{ltb-true, ltb-false, eqb-true, ne_eqb}
use Rattle.hir.specs.Tree.{Forest}
use Rattle.hir.specs.declared.BinaryOperator.TheVariants as binary
use Rattle.script_records.specs.Layout.{Words, supported}
use Rattle.decode.specs.Decode.{signed, is_one, affix_of, binary_operators, unary_of, constant_of, condition_of, statement_kinds, expr_kinds, plain_of, record_of, name_of, marks_of, function_of}
use Rattle.decode.specs.Numbers.{words, bit, unsigned, affix_place, binary_place, words_for, marks_number, name_number, function_words}
use Rattle.script.specs.Forms.{Scalar, below, string, optional-string, limit, Form, form, counted, unsupported, unknown, kind_forms, form_of, has_form, fits}
use Rattle.script.specs.Rules.{all_below}
use Rattle.std.proofs.lemmas.Bool.{and_parts}
use Rattle.utf8.proofs.Forms.{by_test}
use Rattle.script.proofs.Written.{below_at}

-- what a form says of the words, in a file of m strings
abbrev Bounded : ℕ → Form → ℕ → ℕ → ℕ → Type 0
Bounded m (form sa sb sc sorts) a b c = (a < limit m sa) × ((b < limit m sb) × (c < limit m sc))
Bounded m counted a b c = Unit × ((b < 1) × (c < 1))
Bounded m unsupported a b c = Unit
Bounded m unknown a b c = ⊥

bounded : (m : ℕ) (f : Form) (w : Words) (kids : Forest Words) → has_form m f w kids ≡ true → Bounded m f w.a w.b w.c
bounded m (form sa sb sc sorts) w kids h =
    let all = (and_parts (ltb w.a (limit m sa) && (ltb w.b (limit m sb) && ltb w.c (limit m sc))) _ h).0 in
    let rest = (and_parts (ltb w.a (limit m sa)) _ all).1 in
    (ltb-true _ _ ((and_parts (ltb w.a (limit m sa)) _ all).0), (ltb-true _ _ ((and_parts (ltb w.b (limit m sb)) _ rest).0), ltb-true _ _ ((and_parts (ltb w.b (limit m sb)) _ rest).1)))
bounded m counted w kids h =
    let all = (and_parts (eqb w.b 0 && eqb w.c 0) _ h).0 in
    let b = eqb-true w.b 0 ((and_parts (eqb w.b 0) _ all).0) in
    let c = eqb-true w.c 0 ((and_parts (eqb w.b 0) _ all).1) in
    (tt, (omega arith, omega arith))
bounded m unsupported w kids h = tt
bounded m unknown w kids h = let z : ◌≡◌ {A = ℕ} 0 1 = cc in omega arith

scalars : (m : ℕ) (w : Words) (kids : Forest Words) → fits m w kids ≡ true → Bounded m (form_of w) w.a w.b w.c
unfolding fits
scalars m w kids h = bounded m (form_of w) w kids h

-- a function that a test found to change no number below n
unchanged : (f : ℕ → ℕ) (n : ℕ) → all_below (λ i. eqb (f i) i) n ≡ true → (i : ℕ) → i < n → f i ≡ i
unchanged f n h i l = eqb-true (f i) i (below_at (λ j. eqb (f j) j) n i h l)

bit_of : (a : ℕ) → a < 2 → bit (is_one a) ≡ a
unfolding all_below
bit_of = unchanged (λ a. bit (is_one a)) 2 refl

affix_of_lem : (b : ℕ) → b < 2 → affix_place (affix_of b) ≡ b
unfolding all_below
affix_of_lem = unchanged (λ b. affix_place (affix_of b)) 2 refl

place_of_label : (a : ℕ) → a < 43 → binary_place (get_or binary_operators a binary.Add) ≡ a
unfolding all_below binary_operators
place_of_label = unchanged (λ a. binary_place (get_or binary_operators a binary.Add)) 43 refl

marks_of_lem : (c : ℕ) → c < 512 → marks_number (marks_of c) ≡ c
unfolding all_below marks_number
marks_of_lem = unchanged (λ c. marks_number (marks_of c)) 512 refl

name_of_lem : (a : ℕ) → name_number (name_of a) ≡ a
name_of_lem zero = refl
name_of_lem (suc a) = rw eqb-suc-zero (omega arith)

unsigned_signed : (n : ℕ) → n < 2 ^ 32 → unsigned (signed n) ≡ n
unfolding signed
unsigned_signed n h = by_test (ltb n (2 ^ 31)) (λ e. rw e) (λ e. rw e (omega arith))

-- decoding the words k a b c, of a record whose form they keep, loses nothing
abbrev Kept : (m k a b c : ℕ) → Type 0
Kept m k a b c =
    Bounded m (form_of (words k a b c)) a b c → a < 2 ^ 32 → b < 2 ^ 32 → c < 2 ^ 32 → words_for (record_of (words k a b c)) ≡ words k a b c

rest_zero : (k a b c : ℕ) → (b < 1) × (c < 1) → words k a 0 0 ≡ words k a b c
rest_zero k a b c h = let p : b ≡ 0 = omega arith in let q : c ≡ 0 = omega arith in rw (p, q)

last_zero : (k a b c : ℕ) → c < 1 → words k a b 0 ≡ words k a b c
last_zero k a b c h = let q : c ≡ 0 = omega arith in rw q

-- the kinds that have words
module _ (m a b c : ℕ) where
  declare_kept : Kept m 0 a b c
  unfolding form_of record_of words_for
  declare_kept h la lb lc = rest_zero 0 a b c h.1

  binary_kept : Kept m 40 a b c
  unfolding form_of record_of words_for
  binary_kept h la lb lc = rw (place_of_label a h.0) (rest_zero 40 a b c h.1)

  function_kept : Kept m 49 a b c
  unfolding form_of record_of words_for
  function_kept h la lb lc = rw (name_of_lem a, mod-eq_of_lt {n = b} {m = 256} h.1.0, mod-eq_of_lt {n = c} {m = 512} h.1.1)

  goto_kept : Kept m 52 a b c
  unfolding form_of record_of words_for
  goto_kept h la lb lc = rw (bit_of a h.0) (rest_zero 52 a b c h.1)

  drag_kept : Kept m 69 a b c
  unfolding form_of record_of words_for
  drag_kept h la lb lc = rw (bit_of a h.0) (rest_zero 69 a b c h.1)

  get_kept : Kept m 75 a b c
  unfolding form_of record_of words_for
  get_kept h la lb lc = rw (unsigned_signed a la) (rest_zero 75 a b c h.1)

  set_kept : Kept m 76 a b c
  unfolding form_of record_of words_for
  set_kept h la lb lc = rw (unsigned_signed a la) (rest_zero 76 a b c h.1)

  list_kept : Kept m 97 a b c
  unfolding form_of record_of words_for
  list_kept h la lb lc = rest_zero 97 a b c h.1

  field_kept : Kept m 98 a b c
  unfolding form_of record_of words_for
  field_kept h la lb lc = rest_zero 98 a b c h.1

  parameter_kept : Kept m 99 a b c
  unfolding form_of record_of words_for
  parameter_kept h la lb lc = let p : b % 512 ≡ b = omega arith in rw p (last_zero 99 a b c h.1.1)

for_in_kept : (m a b c : ℕ) → Kept m 5 a b c
unfolding form_of record_of words_for condition_of
for_in_kept m zero zero c h la lb lc = refl
for_in_kept m zero (suc zero) c h la lb lc = refl
for_in_kept m zero (suc (suc zero)) c h la lb lc = rw (mod-eq_of_lt {n = c} {m = 256} h.1.1)
for_in_kept m zero (suc (suc (suc b))) c h la lb lc = absurd h
for_in_kept m (suc zero) b c h la lb lc = rest_zero 5 1 b c h.1
for_in_kept m (suc (suc a)) b c h la lb lc = absurd (rw (ne_eqb (suc (suc a)) 0 (λ e. omega arith), ne_eqb (suc (suc a)) 1 (λ e. omega arith)) at h)

constant_kept : (m a b c : ℕ) → Kept m 32 a b c
unfolding form_of record_of words_for constant_of
constant_kept m zero b c h la lb lc = last_zero 32 0 b c h.1.1
constant_kept m (suc zero) b c h la lb lc = last_zero 32 1 b c h.1.1
constant_kept m (suc (suc zero)) b c h la lb lc = refl
constant_kept m (suc (suc (suc zero))) b c h la lb lc = rw (unsigned_signed b lb) (last_zero 32 3 b c h.1.1)
constant_kept m (suc (suc (suc (suc zero)))) b c h la lb lc = rw (bit_of b h.1.0) (last_zero 32 4 b c h.1.1)
constant_kept m (suc (suc (suc (suc (suc zero))))) b c h la lb lc = rw (mod-eq_of_lt {n = b} {m = 256} h.1.0) (last_zero 32 5 b c h.1.1)
constant_kept m (suc (suc (suc (suc (suc (suc a)))))) b c h la lb lc = absurd h

unary_kept : (m a b c : ℕ) → Kept m 41 a b c
unfolding form_of record_of words_for unary_of
unary_kept m zero b c h la lb lc = rest_zero 41 0 b c h.1
unary_kept m (suc zero) b c h la lb lc = rest_zero 41 1 b c h.1
unary_kept m (suc (suc zero)) b c h la lb lc = rest_zero 41 2 b c h.1
unary_kept m (suc (suc (suc zero))) b c h la lb lc = rw (affix_of_lem b h.1.0) (last_zero 41 3 b c h.1.1)
unary_kept m (suc (suc (suc (suc zero)))) b c h la lb lc = rw (affix_of_lem b h.1.0) (last_zero 41 4 b c h.1.1)
unary_kept m (suc (suc (suc (suc (suc zero))))) b c h la lb lc = rest_zero 41 5 b c h.1
unary_kept m (suc (suc (suc (suc (suc (suc a)))))) b c h la lb lc = absurd h

-- the kinds above
has_words : ℕ → Bool
has_words k =
    eqb k 0 || (eqb k 5 || (eqb k 32 || (eqb k 40 || (eqb k 41 || (eqb k 49 || (eqb k 52 || (eqb k 69 || (eqb k 75 || (eqb k 76 || (eqb k 97 || (eqb k 98 || eqb k 99)))))))))))

same : Words → Words → Bool
same v w = eqb v.kind w.kind && (eqb v.a w.a && (eqb v.b w.b && eqb v.c w.c))

same_true : (v w : Words) → same v w ≡ true → v ≡ w
unfolding same
same_true v w h =
    let abc = (and_parts (eqb v.kind w.kind) _ h).1 in
    let bc = (and_parts (eqb v.a w.a) _ abc).1 in
    let k = eqb-true v.kind w.kind ((and_parts (eqb v.kind w.kind) _ h).0) in
    let a = eqb-true v.a w.a ((and_parts (eqb v.a w.a) _ abc).0) in
    let b = eqb-true v.b w.b ((and_parts (eqb v.b w.b) _ bc).0) in
    let c = eqb-true v.c w.c ((and_parts (eqb v.b w.b) _ bc).1) in
    λ i. record { kind = k i; a = a i; b = b i; c = c i }

is_unused : Scalar → Bool
is_unused (below n) = eqb n 1
is_unused string = false
is_unused optional-string = false

-- no form, or s and a form without words
without_words : Form → Bool → Bool
without_words (form sa sb sc sorts) s = (is_unused sa && (is_unused sb && is_unused sc)) && s
without_words counted s = false
without_words unsupported s = false
without_words unknown s = true

-- a test of this file and no lemma: a kind that has words, is not supported, is none, or that decoding keeps
plain_kept : ℕ → Bool
plain_kept k = has_words k || (not (supported k) || without_words (get_or kind_forms k unknown) (same (words_for (plain_of k)) (words k 0 0 0)))

plain_all : all_below plain_kept 102 ≡ true
unfolding all_below plain_kept has_words without_words is_unused same words_for plain_of statement_kinds expr_kinds
plain_all = refl

unused_zero : (m : ℕ) (s : Scalar) → is_unused s ≡ true → (a : ℕ) → a < limit m s → a ≡ 0
unfolding is_unused
unused_zero m (below n) h a l = let e = eqb-true n 1 h in omega arith
unused_zero m string h a l = cc
unused_zero m optional-string h a l = cc

module _ (m k a b c : ℕ) (v : Words) where
  without_words_lem : (f : Form) → without_words f (same v (words k 0 0 0)) ≡ true → Bounded m f a b c → v ≡ words k a b c
  unfolding without_words
  without_words_lem (form sa sb sc sorts) h l =
      let all = (and_parts (is_unused sa && (is_unused sb && is_unused sc)) _ h).0 in
      let rest = (and_parts (is_unused sa) _ all).1 in
      let p = unused_zero m sa ((and_parts (is_unused sa) _ all).0) a l.0 in
      let q = unused_zero m sb ((and_parts (is_unused sb) _ rest).0) b l.1.0 in
      let r = unused_zero m sc ((and_parts (is_unused sb) _ rest).1) c l.1.1 in
      rw (p, q, r) (same_true v (words k 0 0 0) ((and_parts (is_unused sa && (is_unused sb && is_unused sc)) _ h).1))
  without_words_lem counted h l = cc
  without_words_lem unsupported h l = cc
  without_words_lem unknown h l = absurd l

-- The library has no lemma of this shape: what is left of a disjunction of three tests
left_over : (s t u : Bool) → (s || (not t || u)) ≡ true → s ≡ false → t ≡ true → u ≡ true
left_over true t u h p q = cc
left_over false true u h p q = h
left_over false false u h p q = cc

module _ (m k a b c : ℕ) (s : supported k ≡ true) where
  plain_kept_lem : has_words k ≡ false → Bounded m (get_or kind_forms k unknown) a b c → words_for (plain_of k) ≡ words k a b c
  unfolding plain_kept
  plain_kept_lem n l =
      by_test (ltb k 102)
      (λ e. without_words_lem m k a b c (words_for (plain_of k)) (get_or kind_forms k unknown) (left_over (has_words k) (supported k) _ (below_at plain_kept 102 k plain_all (ltb-true k 102 e)) n s) l)
      (λ e. absurd (rw (get_or-eq_default kind_forms unknown (ltb-false k 102 e)) at l))

  kept : Kept m k a b c
  unfolding form_of record_of has_words
  kept =
      by_test (eqb k 0) (λ e. rw (eqb-true k 0 e) (declare_kept m a b c)) (λ n0.
      by_test (eqb k 5) (λ e. rw (eqb-true k 5 e) (for_in_kept m a b c)) (λ n5.
      by_test (eqb k 32) (λ e. rw (eqb-true k 32 e) (constant_kept m a b c)) (λ n32.
      by_test (eqb k 40) (λ e. rw (eqb-true k 40 e) (binary_kept m a b c)) (λ n40.
      by_test (eqb k 41) (λ e. rw (eqb-true k 41 e) (unary_kept m a b c)) (λ n41.
      by_test (eqb k 49) (λ e. rw (eqb-true k 49 e) (function_kept m a b c)) (λ n49.
      by_test (eqb k 52) (λ e. rw (eqb-true k 52 e) (goto_kept m a b c)) (λ n52.
      by_test (eqb k 69) (λ e. rw (eqb-true k 69 e) (drag_kept m a b c)) (λ n69.
      by_test (eqb k 75) (λ e. rw (eqb-true k 75 e) (get_kept m a b c)) (λ n75.
      by_test (eqb k 76) (λ e. rw (eqb-true k 76 e) (set_kept m a b c)) (λ n76.
      by_test (eqb k 97) (λ e. rw (eqb-true k 97 e) (list_kept m a b c)) (λ n97.
      by_test (eqb k 98) (λ e. rw (eqb-true k 98 e) (field_kept m a b c)) (λ n98.
      by_test (eqb k 99) (λ e. rw (eqb-true k 99 e) (parameter_kept m a b c)) (λ n99.
      λ h la lb lc. rw (n0, n5, n32, n40, n41, n49, n52, n69, n75, n76, n97, n98, n99) (plain_kept_lem (rw (n0, n5, n32, n40, n41, n49, n52, n69, n75, n76, n97, n98, n99)) (rw (n5, n32, n41) at h)))))))))))))))

function_49 : (m a b c : ℕ) → Bounded m (form_of (words 49 a b c)) a b c → function_words (function_of (words 49 a b c)) ≡ words 49 a b c
unfolding form_of function_of
function_49 m a b c h = rw (name_of_lem a, mod-eq_of_lt {n = b} {m = 256} h.1.0, marks_of_lem c h.1.1)

function_words_lem : (m k a b c : ℕ) → k ≡ 49 → Bounded m (form_of (words k a b c)) a b c → function_words (function_of (words k a b c)) ≡ words k a b c
function_words_lem m k a b c e = rw e (function_49 m a b c)

module _ (m : ℕ) (w : Words) (kids : Forest Words) (f : fits m w kids ≡ true) (s : supported w.kind ≡ true) (la : w.a < 2 ^ 32) (lb : w.b < 2 ^ 32) (lc : w.c < 2 ^ 32) where
  pub kept_words : words_for (record_of w) ≡ w
  kept_words = kept m w.kind w.a w.b w.c s (scalars m w kids f) la lb lc

  pub kept_function : w.kind ≡ 49 → function_words (function_of w) ≡ w
  kept_function e = function_words_lem m w.kind w.a w.b w.c e (scalars m w kids f)
