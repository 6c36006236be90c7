-- What readers read: each law says that a reader gives back what was written, and that what it reads was written so.
use Prim.Native.Nat.{ℕ, zero, suc, ◌+◌, ◌*◌, ◌/◌, ◌%◌, ◌^◌, ◌<◌, ◌≤◌}
use mathlib.Core.Path.{◌≡◌, refl, ap, sym, ◌∙◌, subst}
use mathlib.Core.List.{List, [], ◌∷◌, ◌++◌, append_assoc, append-nil}
use mathlib.Core.Option.{Option, none, some}
use mathlib.Core.Bool.{Bool, true, false}
use native.Mathlib.Omega.{arith}
use native.Mathlib.Nat.{not-suc-le-zero}
use lib.Dec.{T, leb, ltb, eqb, leb→le, ltb→lt, le→leb, lt→ltb, eqb→eq}
use lib.ListN.{length, take, drop, length-append, length-take, take-append-drop}
use lib.Seq.{take-append_seam, drop-append_seam}
use Rattle.hir.specs.Hir.{Str}
use Rattle.action_format.specs.Strings.{no_zero}
use Rattle.action_format.specs.Bytes.{Bytes, word, zero_ended, join}
use Rattle.action_format.specs.Readers.{P, bind, ◌>>=◌, pure, fail, pure_if, read_byte, word_reader, read_string, read_bytes, spent, read_inside, read_many, read_more, read_all, dispatch}
use Rattle.action_format.proofs.Tests.{All, given_true, never, some_of, given_some}

pub word_length : (k n : ℕ) → length (word k n) ≡ k
unfolding word
word_length zero n = refl
word_length (suc k) n = ap suc (word_length k (n / 256))

-- what was written is read

pub byte_law : (b : ℕ) (r : Bytes) → b < 256 → read_byte (b ∷ r) ≡ some (b, r)
unfolding read_byte
byte_law b r h = given_true (ltb b 256) (some (b, r)) (lt→ltb b 256 h)

pub word_law : (k n : ℕ) (r : Bytes) → n < 256 ^ k → word_reader k (word k n ++ r) ≡ some (n, r)
unfolding word word_reader
word_law zero n r h = ap (λ (m : ℕ). some (m, r)) (omega arith)
word_law (suc k) n r h =
    rw (byte_law (n % 256) (word k (n / 256) ++ r) (omega arith), word_law k (n / 256) r (omega arith)) (ap (λ (m : ℕ). some (m, r)) (omega arith))

pub string_law : (s : Str) (r : Bytes) → T (no_zero s) → read_string (zero_ended s ++ r) ≡ some (s, r)
unfolding zero_ended read_string
string_law [] r h = refl
string_law (zero ∷ s) r h = absurd h
string_law (suc b ∷ s) r h = rw (string_law s r h)

pub bytes_law : (d r : Bytes) → read_bytes (length d) (d ++ r) ≡ some (d, r)
unfolding read_bytes
bytes_law d r =
    let l : length d ≤ length (d ++ r) = rw (length-append d r) (omega arith) in
    given_true (leb (length d) (length (d ++ r))) (some (take (length d) (d ++ r), drop (length d) (d ++ r))) (le→leb (length d) (length (d ++ r)) l)
    ∙ rw (take-append_seam d r, drop-append_seam d r)

module _ {A : Type 0} (p : P A) (f : A → Bytes) (Ok : A → Type 0) (law : (x : A) (r : Bytes) → Ok x → p (f x ++ r) ≡ some (x, r)) where
  pub many_law : (xs : List A) (r : Bytes) → All Ok xs → read_many p (length xs) (join f xs ++ r) ≡ some (xs, r)
  many_law [] r h = refl
  many_law (x ∷ xs) r h = rw (append_assoc (f x) (join f xs) r, law x (join f xs ++ r) h.0, many_law xs r h.1)

  pub all_law : (xs : List A) (n : ℕ) → length xs ≤ n → p [] ≡ none → All Ok xs → read_all p n (join f xs) ≡ some (xs, [])
  all_law [] zero h e k = refl
  all_law [] (suc n) h e k = rw e
  all_law (x ∷ xs) zero h e k = absurd (not-suc-le-zero h)
  all_law (x ∷ xs) (suc n) h e k = rw (law x (join f xs) k.0, all_law xs n (omega arith) e k.1)

pub word_end : (k n : ℕ) → n < 256 ^ k → word_reader k (word k n) ≡ some (n, [])
word_end k n h = rw append-nil at (word_law k n [] h)

pub string_end : (s : Str) → T (no_zero s) → read_string (zero_ended s) ≡ some (s, [])
string_end s h = rw append-nil at (string_law s [] h)

-- no list is longer than its bytes
pub as_many : {A : Type 0} (f : A → Bytes) → ((x : A) → 0 < length (f x)) → (xs : List A) → length xs ≤ length (join f xs)
as_many f h [] = omega arith
as_many f h (x ∷ xs) = rw (length-append (f x) (join f xs)) (omega (arith, h x, as_many f h xs))

-- what is read was written: Q says which bytes are read as x

pub record Split {A : Type 0} (Q : A → Bytes → Type 0) (b : Bytes) (x : A) (r : Bytes) : Type 0 where
  pub own : Bytes
  pub is : b ≡ own ++ r
  pub fact : Q x own

pub record Reads {A : Type 0} (p : P A) (Q : A → Bytes → Type 0) : Type 0 where
  pub run : (b : Bytes) (x : A) (r : Bytes) → p b ≡ some (x, r) → Split Q b x r

module _ {A : Type 0} {Q : A → Bytes → Type 0} where
  pub reads_pure : {x : A} → Q x [] → Reads (pure x) Q
  reads_pure {x} q = record {
    run = λ b y r e. record {
      own = [];
      is = ap (λ (z : A × Bytes). z.1) (some_of e);
      fact = subst (λ (z : A). Q z []) (ap (λ (z : A × Bytes). z.0) (some_of e)) q;
    };
  }

  pub reads_fail : Reads fail Q
  reads_fail = record { run = λ b y r e. never (y, r) e }

  pub reads_if : (t : Bool) (x : A) → (T t → Q x []) → Reads (pure_if t x) Q
  reads_if t x q = record { run = λ b y r e. let g = given_some t (some (x, b)) (y, r) e in (reads_pure (q g.0)).run b y r g.1 }

  pub reads_weaker : {R : A → Bytes → Type 0} {p : P A} → ((x : A) (w : Bytes) → R x w → Q x w) → Reads p R → Reads p Q
  reads_weaker h k = record { run = λ b x r e. let s = k.run b x r e in record { own = s.own; is = s.is; fact = h x s.own s.fact } }

module _ {A B : Type 0} {R : A → Bytes → Type 0} {Q : B → Bytes → Type 0} {p : P A} {f : A → P B} where
  pub reads_bind : Reads p R → ((x : A) (u : Bytes) → R x u → Reads (f x) (λ y v. Q y (u ++ v))) → Reads (p >>= f) Q
  reads_bind hp hf = record { run = λ b y r e. go b y r (p b) refl e }
    where
      go : (b : Bytes) (y : B) (r : Bytes) (o : Option (A × Bytes)) → p b ≡ o → bind o f ≡ some (y, r) → Split Q b y r
      go b y r none q e = never (y, r) e
      go b y r (some x) q e =
          let h = hp.run b x.0 x.1 q in
          let k = (hf x.0 h.own h.fact).run x.1 y r e in
          record { own = h.own ++ k.own; is = h.is ∙ ap (λ (z : Bytes). h.own ++ z) k.is ∙ sym (append_assoc h.own k.own r); fact = k.fact }

pub reads_byte : Reads read_byte (λ n w. (w ≡ n ∷ []) × (n < 256))
unfolding read_byte
reads_byte = record { run = go }
  where
    go : (b : Bytes) (x : ℕ) (r : Bytes) → read_byte b ≡ some (x, r) → Split (λ n w. (w ≡ n ∷ []) × (n < 256)) b x r
    go [] x r e = never (x, r) e
    go (b ∷ s) x r e =
        let g : T (ltb b 256) × ◌≡◌ {A = Option (ℕ × Bytes)} (some (b, s)) (some (x, r)) = given_some (ltb b 256) (some (b, s)) (x, r) e in
        let p : ◌≡◌ {A = ℕ × Bytes} (b, s) (x, r) = some_of g.1 in
        record {
          own = b ∷ [];
          is = ap (λ (z : ℕ × Bytes). b ∷ z.1) p;
          fact = (ap (λ (z : ℕ × Bytes). z.0 ∷ []) p, subst (λ (z : ℕ × Bytes). z.0 < 256) p (ltb→lt b 256 g.0));
        }

pub reads_word : (k : ℕ) → Reads (word_reader k) (λ n w. (w ≡ word k n) × (n < 256 ^ k))
unfolding word_reader word
reads_word zero = reads_pure (refl, omega arith)
reads_word (suc k) =
    reads_bind reads_byte (λ b u h. reads_bind (reads_word k) (λ n v l. reads_pure (spelt b u h n v l, omega arith)))
  where
    spelt : (b : ℕ) (u : Bytes) → (u ≡ b ∷ []) × (b < 256) → (n : ℕ) (v : Bytes) → (v ≡ word k n) × (n < 256 ^ k) →
        u ++ (v ++ []) ≡ (b + 256 * n) % 256 ∷ word k ((b + 256 * n) / 256)
    spelt b u h n v l =
        let p : (b + 256 * n) % 256 ≡ b = omega arith in
        let q : (b + 256 * n) / 256 ≡ n = omega arith in
        rw (p, q, h.0, append-nil v, l.0)

pub reads_string : Reads read_string (λ s w. w ≡ zero_ended s)
unfolding read_string zero_ended
reads_string = record { run = go }
  where
    more : (b : ℕ) (t : Bytes) (x : Str) (r : Bytes) (o : Option (Str × Bytes)) → ((y : Str) → o ≡ some (y, r) → Split (λ s w. w ≡ zero_ended s) t y r) →
        bind o (λ s. pure (suc b ∷ s)) ≡ some (x, r) → Split (λ s w. w ≡ zero_ended s) (suc b ∷ t) x r
    more b t x r none h e = never (x, r) e
    more b t x r (some y) h e =
        let p : ◌≡◌ {A = Str × Bytes} (suc b ∷ y.0, y.1) (x, r) = some_of e in
        let k = h y.0 (ap (λ (z : Bytes). some (y.0, z)) (ap (λ (z : Str × Bytes). z.1) p)) in
        record {
          own = suc b ∷ k.own;
          is = ap (λ (z : Bytes). suc b ∷ z) k.is;
          fact = ap (λ (z : Bytes). suc b ∷ z) k.fact ∙ ap (λ (z : Str × Bytes). z.0 ++ (0 ∷ [])) p;
        }

    go : (b : Bytes) (x : Str) (r : Bytes) → read_string b ≡ some (x, r) → Split (λ s w. w ≡ zero_ended s) b x r
    go [] x r e = never (x, r) e
    go (zero ∷ t) x r e =
        let p : ◌≡◌ {A = Str × Bytes} ([], t) (x, r) = some_of e in
        record { own = 0 ∷ []; is = ap (λ (z : Str × Bytes). 0 ∷ z.1) p; fact = ap (λ (z : Str × Bytes). z.0 ++ (0 ∷ [])) p }
    go (suc b ∷ t) x r e = more b t x r (read_string t) (λ y q. go t y r q) e

pub reads_bytes : (n : ℕ) → Reads (read_bytes n) (λ d w. (w ≡ d) × (length d ≡ n))
unfolding read_bytes
reads_bytes n = record { run = go }
  where
    go : (b x r : Bytes) → read_bytes n b ≡ some (x, r) → Split (λ d w. (w ≡ d) × (length d ≡ n)) b x r
    go b x r e =
        let g : T (leb n (length b)) × ◌≡◌ {A = Option (Bytes × Bytes)} (some (take n b, drop n b)) (some (x, r)) =
        given_some (leb n (length b)) (some (take n b, drop n b)) (x, r) e in
        let p : ◌≡◌ {A = Bytes × Bytes} (take n b, drop n b) (x, r) = some_of g.1 in
        let l : n ≤ length b = leb→le n (length b) g.0 in
        record {
          own = take n b;
          is = sym (take-append-drop n b) ∙ ap (λ (z : Bytes × Bytes). take n b ++ z.1) p;
          fact = (ap (λ (z : Bytes × Bytes). z.0) p, sym (ap (λ (z : Bytes × Bytes). length z.0) p) ∙ rw (length-take n b) (omega arith));
        }

module _ {A : Type 0} {p : P A} {Q : A → Bytes → Type 0} (h : Reads p Q) where
  pub reads_inside : (d : Bytes) → Reads (read_inside p d) (λ x w. (w ≡ []) × Q x d)
  reads_inside d = record { run = λ b x r e. go b x r (p d) refl e }
    where
      last : (b : Bytes) (x : A) (r : Bytes) (a : A) (left : Bytes) → p d ≡ some (a, left) → spent a left b ≡ some (x, r) → Split (λ x w. (w ≡ []) × Q x d) b x r
      last b x r a [] q e =
          let s = h.run d a [] q in
          let t : ◌≡◌ {A = A × Bytes} (a, b) (x, r) = some_of e in
          record {
            own = [];
            is = ap (λ (z : A × Bytes). z.1) t;
            fact = (refl, subst (λ (z : A × Bytes). Q z.0 d) t (subst (λ (z : Bytes). Q a z) (sym (s.is ∙ append-nil s.own)) s.fact));
          }
      last b x r a (y ∷ ys) q e = never (x, r) e

      go : (b : Bytes) (x : A) (r : Bytes) (o : Option (A × Bytes)) → p d ≡ o → bind o (λ a left. spent a left b) ≡ some (x, r) → Split (λ x w. (w ≡ []) × Q x d) b x r
      go b x r none q e = never (x, r) e
      go b x r (some y) q e = last b x r y.0 y.1 q e

module _ {A : Type 0} {p : P A} {f : A → Bytes} (h : Reads p (λ x w. w ≡ f x)) where
  pub reads_many : (n : ℕ) → Reads (read_many p n) (λ xs w. (w ≡ join f xs) × (length xs ≡ n))
  reads_many zero = reads_pure (refl, refl)
  reads_many (suc n) = reads_bind h (λ x u hu. reads_bind (reads_many n) (λ xs v hv. reads_pure (rw (hu, append-nil v, hv.0), rw hv.1)))

  pub reads_all : (n : ℕ) → Reads (read_all p n) (λ xs w. w ≡ join f xs)
  reads_all zero = reads_pure refl
  reads_all (suc n) = record { run = λ b xs r e. go b xs r (p b) refl (reads_all n) e }
    where
      go : (b : Bytes) (xs : List A) (r : Bytes) (o : Option (A × Bytes)) → p b ≡ o →
          Reads (read_all p n) (λ xs w. w ≡ join f xs) → read_more (read_all p n) o b ≡ some (xs, r) → Split (λ xs w. w ≡ join f xs) b xs r
      go b xs r none q k e =
          let t : ◌≡◌ {A = List A × Bytes} ([], b) (xs, r) = some_of e in
          record { own = []; is = ap (λ (z : List A × Bytes). z.1) t; fact = ap (λ (z : List A × Bytes). join f z.0) t }
      go b xs r (some x) q k e =
          let s = h.run b x.0 x.1 q in
          let rest : Reads (read_all p n >>= λ ys. pure (x.0 ∷ ys)) (λ ys w. s.own ++ w ≡ join f ys) = reads_bind k (λ ys v hv. reads_pure (rw (s.fact, append-nil v, hv))) in
          let t = rest.run x.1 xs r e in
          record { own = s.own ++ t.own; is = s.is ∙ ap (λ (z : Bytes). s.own ++ z) t.is ∙ sym (append_assoc s.own t.own r); fact = t.fact }

-- a table's reader, if each row's bytes begin with its tag

infixr 30 ◌also◌
abbrev pub ◌also◌ : {A B : Type 0} → A → B → A × B
◌also◌ a b = (a, b)

module _ {A : Type 0} (Q : A → Bytes → Type 0) where
  abbrev pub RowReads : ℕ × P A → Type 0
  RowReads row = Reads row.1 (λ x w. Q x (row.0 ∷ w))

  pub reads_dispatch : (table : List (ℕ × P A)) → All RowReads table → (tag : ℕ) → Reads (dispatch table tag) (λ x w. Q x (tag ∷ w))
  reads_dispatch [] h tag = reads_fail
  reads_dispatch (row ∷ rows) h tag = go (eqb tag row.0) refl (reads_dispatch rows h.1 tag)
    where
      go : (t : Bool) → eqb tag row.0 ≡ t → Reads (dispatch rows tag) (λ x w. Q x (tag ∷ w)) →
          Reads (elim t as (λ _. P A) [ true ↦ row.1 | false ↦ dispatch rows tag ]) (λ x w. Q x (tag ∷ w))
      go true q k = subst (λ (n : ℕ). Reads row.1 (λ x w. Q x (n ∷ w))) (sym (eqb→eq tag row.0 (subst T (sym q) tt))) h.0
      go false q k = k
