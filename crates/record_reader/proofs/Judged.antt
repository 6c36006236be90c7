-- What the answer of a test says of what was read.
use Rattle.std.proofs.Common.{ℕ, zero, suc, ◌+◌, ◌-◌, ◌<◌, ◌≡◌, refl, ap, sym, ◌∙◌, List, [], ◌∷◌, Bool, ◌&&◌, Some, None, arith}
use mathlib.Core.Option as math
use mathlib.Core.Option.{none, some}
use Rattle.action_format.specs.Lists.{all}
use Rattle.action_format.specs.Bytes.{Bytes}
use Rattle.action_format.specs.Readers.{P, bind, pure, read_many}
use Rattle.action_format.proofs.Tests.{some_of}
use Rattle.record_reader.specs.Steps as steps
use Rattle.record_reader.specs.Steps.{judged, itself, whole}
use Rattle.std.proofs.Math.Bool.{and_assoc}

-- x was read, and the test answers y

pub record Got {A B : Type 0} (t : A → B) (o : math.Option (A × Bytes)) (y : B) (r : Bytes) : Type 0 where
  pub value : A
  pub is : o ≡ some (value, r)
  pub tested : t value ≡ y

module _ {A B : Type 0} {t : A → B} {o : math.Option (A × Bytes)} where
  pub got : {y : B} {r : Bytes} → some (y, r) ≡ judged t o → Got t o y r
  got {y} {r} e = go o refl e
    where
      go : (u : math.Option (A × Bytes)) → o ≡ u → some (y, r) ≡ judged t u → Got t o y r
      go none q e = cc
      go (some x) q e =
          let p = some_of e in
          record { value = x.0; is = q ∙ ap (λ (z : B × Bytes). some (x.0, z.1)) (sym p); tested = ap (λ (z : B × Bytes). z.0) (sym p) }

pub got_none : {A B : Type 0} (t : A → B) (o : math.Option (A × Bytes)) → none ≡ judged t o → o ≡ none
got_none t none e = refl
got_none t (some x) e = cc

-- all the bytes were used

pub all_used : {A : Type 0} {o : math.Option A} {x : A} → Some x ≡ steps.some_of o → o ≡ some x
all_used {o = none} e = cc
all_used {o = some y} {x} e = ap some (let f : y ≡ x = cc in f)

pub not_used : {A : Type 0} {o : math.Option A} → None ≡ steps.some_of o → o ≡ none
not_used {o = none} e = refl
not_used {o = some y} e = cc

pub whole_pure : {A B : Type 0} (o : math.Option (A × Bytes)) (f : A → B) → whole (bind o (λ n. pure (f n))) ≡ math.map f (whole o)
whole_pure none f = refl
whole_pure (some (x, [])) f = refl
whole_pure (some (x, b ∷ r)) f = refl

-- so many things: those that were read before, and then the rest

pub record Left (p : P Bool) (b : Bytes) (count : ℕ) (fits : Bool) (i : ℕ) (rest : Bytes) : Type 0 where
  pub is : judged (all itself) (read_many p count b) ≡ judged (λ t. fits && t) (judged (all itself) (read_many p (count - i) rest))

module _ {p : P Bool} {b : Bytes} {count : ℕ} where
  module _ {fits : Bool} {i : ℕ} {rest : Bytes} (l : Left p b count fits i rest) where
    pub left_more : i < count → {one : Bool} {after : Bytes} → some (one, after) ≡ p rest → Left p b count (fits && one) (i + 1) after
    left_more h {one} {after} e =
        let k : count - i ≡ suc (count - (i + 1)) = omega arith in
        record { is = l.is ∙ rw (k, ← e) (go (read_many p (count - (i + 1)) after)) }
      where
        go : (o : math.Option (List Bool × Bytes)) → judged (λ t. fits && t) (judged (all itself) (bind o (λ xs. pure (one ∷ xs)))) ≡ judged (λ t. (fits && one) && t) (judged (all itself) o)
        go none = refl
        go (some x) = rw (← and_assoc fits one (all itself x.0))

pub many_judged : {A : Type 0} (t : A → Bool) (p : P A) (n : ℕ) (b : Bytes) → judged (all itself) (read_many (λ d. judged t (p d)) n b) ≡ judged (all t) (read_many p n b)
many_judged t p zero b = refl
many_judged {A = A} t p (suc n) b = go (p b) (many_judged t p n)
  where
    inner : (x : A) (u : math.Option (List Bool × Bytes)) (o : math.Option (List A × Bytes)) → judged (all itself) u ≡ judged (all t) o →
        judged (all itself) (bind u (λ xs. pure (t x ∷ xs))) ≡ judged (all t) (bind o (λ xs. pure (x ∷ xs)))
    inner x none none e = refl
    inner x none (some y) e = cc
    inner x (some y) none e = cc
    inner x (some y) (some z) e =
        let q = some_of e in
        let h : all itself y.0 ≡ all t z.0 = ap (λ (v : Bool × Bytes). v.0) q in
        let k : y.1 ≡ z.1 = ap (λ (v : Bool × Bytes). v.1) q in
        rw (h, k)

    go : (o : math.Option (A × Bytes)) → ((r : Bytes) → judged (all itself) (read_many (λ d. judged t (p d)) n r) ≡ judged (all t) (read_many p n r)) →
        judged (all itself) (bind (judged t o) (λ y r. bind (read_many (λ d. judged t (p d)) n r) (λ xs. pure (y ∷ xs)))) ≡ judged (all t) (bind o (λ x r. bind (read_many p n r) (λ xs. pure (x ∷ xs))))
    go none k = refl
    go (some x) k = inner x.0 (read_many (λ d. judged t (p d)) n x.1) (read_many p n x.1) (k x.1)
