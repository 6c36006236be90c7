-- The kinds and their numbers.
use Prim.Native.Nat.{ℕ, zero, suc, ◌+◌, ◌≤◌, ◌<◌}
use mathlib.Core.Path.{◌≡◌, refl, sym, ap, ◌∙◌}
use mathlib.Core.Bool.{Bool, true, ◌&&◌, ◌||◌}
use mathlib.Core.List.{List, [], ◌∷◌}
use native.Mathlib.Omega.{arith}
use lib.Dec.{eqb, leb, ltb}
use lib.ListN.{length, get_or}
use borrow.Author.Tests.{eqb-true, ltb-true, leb-true}
use Rattle.std.proofs.lemmas.Bool.{and_parts, or_cases}
use Rattle.std.proofs.Common.{inl, inr}
use Rattle.std.specs.Prelude.{◌⊎◌, Option, Some, None, Ok, Err, ok_or}
use Rattle.script_records.specs.declared.kind.Kind.{Kind}
use Rattle.script_records.specs.declared.kind.Kind.TheVariants as kind
use Rattle.script_records.specs.declared.kind.UnknownKind.{UnknownKind}
use Rattle.script_records.specs.Kind.{number_of, kinds, kind_from}

-- from place i on, each kind stands at its own number
own : List (Option Kind) → ℕ → Bool
own [] i = true
own (None ∷ ks) i = own ks (suc i)
own (Some k ∷ ks) i = eqb (number_of k) i && own ks (suc i)

number_in : (ks : List (Option Kind)) (i n : ℕ) {k : Kind} → own ks i ≡ true → get_or ks n None ≡ Some k → number_of k ≡ n + i
unfolding own
number_in [] i n t e = cc
number_in (None ∷ ks) i zero t e = cc
number_in (None ∷ ks) i (suc n) t e = number_in ks (suc i) n t e ∙ omega arith
number_in (Some j ∷ ks) i zero {k} t e = let h : j ≡ k = cc in rw (← h) (eqb-true (number_of j) i (and_parts (eqb (number_of j) i) (own ks (suc i)) t).0 ∙ omega arith)
number_in (Some j ∷ ks) i (suc n) t e = number_in ks (suc i) n (and_parts (eqb (number_of j) i) (own ks (suc i)) t).1 e ∙ omega arith

found : (o : Option Kind) (e : UnknownKind) {k : Kind} → ok_or o e ≡ Ok k → o ≡ Some k
found None e h = cc
found (Some j) e h = cc

missed : (o : Option Kind) (e : UnknownKind) {x : UnknownKind} → ok_or o e ≡ Err x → o ≡ None
missed None e h = refl
missed (Some j) e h = cc

-- a word that is no kind has no place of its own
pub none_from : (n : ℕ) {e : UnknownKind} → kind_from n ≡ Err e → get_or kinds n None ≡ None
unfolding kind_from
none_from n h = missed (get_or kinds n None) _ h

-- a word that is a kind is its number
pub number_from : (n : ℕ) {k : Kind} → kind_from n ≡ Ok k → n ≡ number_of k
unfolding kind_from own
number_from n h = sym (number_in kinds 0 n refl (found (get_or kinds n None) _ h) ∙ omega arith)

-- a kind is found by its number
pub kind_numbered : (k : Kind) → kind_from (number_of k) ≡ Ok k
unfolding kind_from
kind_numbered kind.Declare = refl
kind_numbered kind.Return = refl
kind_numbered kind.Throw = refl
kind_numbered kind.Expr = refl
kind_numbered kind.Block = refl
kind_numbered kind.ForIn = refl
kind_numbered kind.While = refl
kind_numbered kind.If = refl
kind_numbered kind.Break = refl
kind_numbered kind.Continue = refl
kind_numbered kind.Try = refl
kind_numbered kind.WaitForFrame = refl
kind_numbered kind.TellTarget = refl
kind_numbered kind.InlinePcode = refl
kind_numbered kind.With = refl
kind_numbered kind.Switch = refl
kind_numbered kind.Constant = refl
kind_numbered kind.Call = refl
kind_numbered kind.New = refl
kind_numbered kind.DuplicateMovieClip = refl
kind_numbered kind.AsciiToChar = refl
kind_numbered kind.MBAsciiToChar = refl
kind_numbered kind.CallFrame = refl
kind_numbered kind.GetTime = refl
kind_numbered kind.Binary = refl
kind_numbered kind.Unary = refl
kind_numbered kind.Ternary = refl
kind_numbered kind.InitObject = refl
kind_numbered kind.InitArray = refl
kind_numbered kind.Field = refl
kind_numbered kind.TypeOf = refl
kind_numbered kind.Delete = refl
kind_numbered kind.Void = refl
kind_numbered kind.Function = refl
kind_numbered kind.GetVariable = refl
kind_numbered kind.SetVariable = refl
kind_numbered kind.GotoFrame = refl
kind_numbered kind.GetUrl = refl
kind_numbered kind.CastToInteger = refl
kind_numbered kind.CastToNumber = refl
kind_numbered kind.CastToString = refl
kind_numbered kind.CastToObject = refl
kind_numbered kind.StringLength = refl
kind_numbered kind.MBStringLength = refl
kind_numbered kind.CharToAscii = refl
kind_numbered kind.MBCharToAscii = refl
kind_numbered kind.Substring = refl
kind_numbered kind.MBSubstring = refl
kind_numbered kind.NextFrame = refl
kind_numbered kind.PreviousFrame = refl
kind_numbered kind.Play = refl
kind_numbered kind.Stop = refl
kind_numbered kind.StopSounds = refl
kind_numbered kind.StartDrag = refl
kind_numbered kind.EndDrag = refl
kind_numbered kind.GetTargetPath = refl
kind_numbered kind.Trace = refl
kind_numbered kind.RemoveSprite = refl
kind_numbered kind.GetRandomNumber = refl
kind_numbered kind.GetProperty = refl
kind_numbered kind.SetProperty = refl
kind_numbered kind.ToggleQuality = refl
kind_numbered kind.Absent = refl
kind_numbered kind.List = refl
kind_numbered kind.ObjectField = refl
kind_numbered kind.Parameter = refl
kind_numbered kind.Case = refl
kind_numbered kind.Default = refl

-- a test of this file and no lemma: the numbers that no kind has, between the statements and the expressions, or between the expressions and the others
between : ℕ → Bool
between n = (leb 16 n && ltb n 32) || (leb 78 n && ltb n 96)

gaps : List (Option Kind) → ℕ → Bool
gaps [] i = true
gaps (None ∷ ks) i = between i && gaps ks (suc i)
gaps (Some k ∷ ks) i = gaps ks (suc i)

gap_in : (ks : List (Option Kind)) (i n : ℕ) → gaps ks i ≡ true → get_or ks n None ≡ None → (between (n + i) ≡ true) ⊎ (length ks ≤ n)
unfolding gaps
gap_in [] i n t e = inr (omega arith)
gap_in (None ∷ ks) i zero t e = inl (ap between (omega arith) ∙ (and_parts (between i) (gaps ks (suc i)) t).0)
gap_in (None ∷ ks) i (suc n) t e = elim (gap_in ks (suc i) n (and_parts (between i) (gaps ks (suc i)) t).1 e) [
  | inl h ↦ inl (ap between (omega arith) ∙ h)
  | inr h ↦ inr (omega arith)
]
gap_in (Some k ∷ ks) i zero t e = cc
gap_in (Some k ∷ ks) i (suc n) t e = elim (gap_in ks (suc i) n t e) [
  | inl h ↦ inl (ap between (omega arith) ∙ h)
  | inr h ↦ inr (omega arith)
]

between_bounds : (n : ℕ) → between n ≡ true → ((16 ≤ n) × (n < 32)) ⊎ ((78 ≤ n) × (n < 96))
unfolding between
between_bounds n t = elim (or_cases (leb 16 n && ltb n 32) (leb 78 n && ltb n 96) t) [
  | inl h ↦ let p = and_parts (leb 16 n) (ltb n 32) h in inl (leb-true 16 n p.0, ltb-true n 32 p.1)
  | inr h ↦ let p = and_parts (leb 78 n) (ltb n 96) h in inr (leb-true 78 n p.0, ltb-true n 96 p.1)
]

-- a word that is no kind
pub unknown_from : (n : ℕ) {e : UnknownKind} → kind_from n ≡ Err e → ((16 ≤ n) × (n < 32)) ⊎ (((78 ≤ n) × (n < 96)) ⊎ (102 ≤ n))
unfolding kind_from gaps between
unknown_from n h = elim (gap_in kinds 0 n refl (missed (get_or kinds n None) _ h)) [
  | inl t ↦ elim (let e : n ≡ n + 0 = omega arith in between_bounds n (ap between e ∙ t)) [ inl low ↦ inl low | inr high ↦ inr (inl high) ]
  | inr past ↦ inr (inr past)
]
