-- Tests of several things at once.
use mathlib.Core.Path.{◌≡◌, refl, sym, ◌∙◌}
use mathlib.Core.List.{List, [], ◌∷◌, ◌++◌}
use mathlib.Core.Bool.{Bool, true, false, ◌&&◌}
use Rattle.std.proofs.Math.Bool.{and_assoc, and-true}
use Rattle.action_format.specs.Lists.{all}

-- The library has the order of two tests and the brackets of three. Here the middle two of four change places.
pub and_four : (a b c e : Bool) → ((a && b) && (c && e)) ≡ ((a && c) && (b && e))
and_four true true c e = refl
and_four true false true e = refl
and_four true false false e = refl
and_four false b c e = refl

pub all_append : {A : Type 0} (f : A → Bool) (xs ys : List A) → all f (xs ++ ys) ≡ (all f xs && all f ys)
all_append f [] ys = refl
all_append f (x ∷ xs) ys = rw (all_append f xs ys) (sym (and_assoc (f x) (all f xs) (all f ys)))

pub all_snoc : {A : Type 0} (f : A → Bool) (xs : List A) (v : A) → all f (xs ++ (v ∷ [])) ≡ (all f xs && f v)
all_snoc f xs v = all_append f xs (v ∷ []) ∙ rw (and-true (f v))
