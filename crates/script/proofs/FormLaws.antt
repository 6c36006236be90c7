-- The form of a record of no kind.
use Prim.Native.Nat.{ℕ, zero, suc}
use mathlib.Core.Path.{◌≡◌, refl}
use mathlib.Core.Bool.{Bool, true, false}
use mathlib.Core.List.{List, [], ◌∷◌}
use lib.ListN.{get_or}
use native.Mathlib.Omega.{arith}
use borrow.Author.Tests.{ne_eqb}
use Rattle.std.specs.Prelude.{Option, Some, None, Err}
use Rattle.script_records.specs.Kind.{kinds, kind_from}
use Rattle.script_records.specs.declared.kind.Kind.{Kind}
use Rattle.script_records.specs.declared.kind.UnknownKind.{UnknownKind}
use Rattle.script_records.specs.Layout.{Words}
use Rattle.script_records.proofs.KindLaws.{none_from, unknown_from}
use Rattle.script.specs.Forms.{Form, form, counted, unsupported, unknown, kind_forms, form_of}

-- where no kind stands, no form does
agree : List (Option Kind) → List Form → Bool
agree [] [] = true
agree [] (f ∷ fs) = false
agree (k ∷ ks) [] = false
agree (Some k ∷ ks) (f ∷ fs) = agree ks fs
agree (None ∷ ks) (unknown ∷ fs) = agree ks fs
agree (None ∷ ks) (form a b c ss ∷ fs) = false
agree (None ∷ ks) (counted ∷ fs) = false
agree (None ∷ ks) (unsupported ∷ fs) = false

unknown_in : (ks : List (Option Kind)) (fs : List Form) (n : ℕ) → agree ks fs ≡ true → get_or ks n None ≡ None → get_or fs n unknown ≡ unknown
unfolding agree
unknown_in ks [] n t e = refl
unknown_in [] (f ∷ fs) n t e = cc
unknown_in (Some k ∷ ks) (f ∷ fs) zero t e = cc
unknown_in (None ∷ ks) (unknown ∷ fs) zero t e = refl
unknown_in (None ∷ ks) (form a b c ss ∷ fs) zero t e = cc
unknown_in (None ∷ ks) (counted ∷ fs) zero t e = cc
unknown_in (None ∷ ks) (unsupported ∷ fs) zero t e = cc
unknown_in (Some k ∷ ks) (f ∷ fs) (suc n) t e = unknown_in ks fs n t e
unknown_in (None ∷ ks) (unknown ∷ fs) (suc n) t e = unknown_in ks fs n t e
unknown_in (None ∷ ks) (form a b c ss ∷ fs) (suc n) t e = cc
unknown_in (None ∷ ks) (counted ∷ fs) (suc n) t e = cc
unknown_in (None ∷ ks) (unsupported ∷ fs) (suc n) t e = cc

unknown_at : (n : ℕ) → get_or kinds n None ≡ None → get_or kind_forms n unknown ≡ unknown
unfolding agree
unknown_at n e = unknown_in kinds kind_forms n refl e

pub form_unknown : (w : Words) {e : UnknownKind} → kind_from w.kind ≡ Err e → form_of w ≡ unknown
unfolding form_of
form_unknown w h =
    let gap = unknown_from w.kind h in
    rw (ne_eqb w.kind 5 (λ e. omega (arith, gap)), ne_eqb w.kind 32 (λ e. omega (arith, gap)), ne_eqb w.kind 41 (λ e. omega (arith, gap))) (unknown_at w.kind (none_from w.kind h))
