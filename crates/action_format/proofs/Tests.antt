-- Tests and what they say.
use Prim.Native.Nat.{ℕ, zero, suc, ◌<◌}
use mathlib.Core.Path.{◌≡◌, refl, sym, subst}
use mathlib.Core.List.{List, [], ◌∷◌, ◌++◌}
use mathlib.Core.Option.{Option, none, some}
use mathlib.Core.Bool.{Bool, true, false, not, ◌&&◌}
use native.Mathlib.Omega.{arith}
use lib.Dec.{T, leb, nleb→lt}
use lib.ListN.{get_or, get_elem?}
use Rattle.action_format.specs.Lists.{all}
use Rattle.action_format.specs.Readers.{given}

pub is_true : (b : Bool) → T b → b ≡ true
is_true true h = refl
is_true false h = absurd h

pub is_false : (m n : ℕ) → leb m n ≡ false → n < m
is_false m n e = nleb→lt m n (subst (λ (b : Bool). T (not b)) (sym e) tt)

pub and_first : (a b : Bool) → T (a && b) → T a
and_first true b h = tt
and_first false b h = absurd h

pub and_second : (a b : Bool) → T (a && b) → T b
and_second true b h = h
and_second false b h = absurd h

pub and_both : (a b : Bool) → T a → T b → T (a && b)
and_both true b h k = k
and_both false b h k = absurd h

abbrev pub All : {A : Type 0} → (A → Type 0) → List A → Type 0
All Q [] = Unit
All Q (x ∷ xs) = Q x × All Q xs

pub all_both : {A : Type 0} (f : A → Bool) (xs ys : List A) → T (all f xs) → T (all f ys) → T (all f (xs ++ ys))
all_both f [] ys h k = k
all_both f (x ∷ xs) ys h k = and_both (f x) (all f (xs ++ ys)) (and_first (f x) (all f xs) h) (all_both f xs ys (and_second (f x) (all f xs) h) k)

pub all_append : {A : Type 0} (f : A → Bool) (xs ys : List A) → T (all f (xs ++ ys)) → T (all f xs) × T (all f ys)
all_append f [] ys h = (tt, h)
all_append f (x ∷ xs) ys h =
    let k : T (all f xs) × T (all f ys) = all_append f xs ys (and_second (f x) (all f (xs ++ ys)) h) in
    (and_both (f x) (all f xs) (and_first (f x) (all f (xs ++ ys)) h) k.0, k.1)

pub all_at : {A : Type 0} (f : List A → Bool) (ls : List (List A)) (k : ℕ) → T (f []) → T (all f ls) → T (f (get_or ls k []))
all_at f [] k e h = e
all_at f (x ∷ ls) zero e h = and_first (f x) (all f ls) h
all_at f (x ∷ ls) (suc k) e h = all_at f ls k e (and_second (f x) (all f ls) h)

-- an answer behind a test

pub given_true : {A : Type 0} (t : Bool) (x : Option A) → T t → given t x ≡ x
given_true true x h = refl
given_true false x h = absurd h

pub never : {A : Type 0} {B : Type 0} (a : A) → ◌≡◌ {A = Option A} none (some a) → B
never a e = let z : ◌≡◌ {A = ℕ} 0 1 = cc in let w : ⊥ = omega arith in absurd w

pub some_of : {A : Type 0} {a b : A} → ◌≡◌ {A = Option A} (some a) (some b) → a ≡ b
some_of e = cc

pub given_some : {A : Type 0} (t : Bool) (x : Option A) (a : A) → given t x ≡ some a → T t × (x ≡ some a)
given_some true x a e = (tt, e)
given_some false x a e = never a e

pub elem : {A : Type 0} (Q : A → Type 0) (xs : List A) (i : ℕ) (a : A) → All Q xs → get_elem? xs i ≡ some a → Q a
elem Q [] i a h e = never a e
elem Q (x ∷ xs) zero a h e = subst Q (some_of e) h.0
elem Q (x ∷ xs) (suc i) a h e = elem Q xs i a h.1 e

pub all_true : {A : Type 0} (f : A → Bool) (xs : List A) → T (all f xs) → All (λ x. T (f x)) xs
all_true f [] h = tt
all_true f (x ∷ xs) h = (and_first (f x) (all f xs) h, all_true f xs (and_second (f x) (all f xs) h))

pub true_all : {A : Type 0} (f : A → Bool) (xs : List A) → All (λ x. T (f x)) xs → T (all f xs)
true_all f [] h = tt
true_all f (x ∷ xs) h = and_both (f x) (all f xs) h.0 (true_all f xs h.1)
