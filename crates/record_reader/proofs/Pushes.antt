-- A Push's data: as many values as they are.
use Rattle.std.proofs.Common.{ℕ, zero, suc, ◌+◌, ◌-◌, ◌≤◌, ◌<◌, ◌≡◌, refl, ap, sym, ◌∙◌, List, [], ◌∷◌, ◌++◌, Bool, ◌&&◌, Some, None, ltb, arith, length, drop, length-append}
use mathlib.Core.Option as math
use mathlib.Core.Option.{none, some}
use mathlib.Core.List.{append_assoc, append-nil}
use lib.ListN.{drop_of_length-le}
use lib.Seq.{drop-cons}
use borrow.Author.Tests.{lt-ltb}
use Rattle.std.proofs.lemmas.Option.{same_Some}
use Rattle.utf8.specs.Utf8.{utf8}
use Rattle.pcode.specs.Pcode as pcode
use Rattle.action_format.specs.Lists.{all, pushing}
use Rattle.action_format.specs.Strings.{value_strings, values_strings}
use Rattle.action_format.specs.Rules.{value_fits, filled}
use Rattle.action_format.specs.Bytes.{Bytes, value_bytes}
use Rattle.action_format.specs.Readers.{bind, pure, read_all}
use Rattle.action_format.specs.Decode.{alone, read_value, read_push}
use Rattle.action_format.proofs.Values.{value_fills, nothing_there, reads_value}
use Rattle.record_reader.specs.declared.Kind.TheVariants as kind
use Rattle.record_reader.specs.declared.ReadValue.{ReadValue}
use Rattle.record_reader.specs.Heads.{pushed_value, value_of, value_at, value_holds}
use Rattle.record_reader.specs.Steps.{whole, content_of}
use Rattle.std.proofs.Math.Bool.{and_assoc}
use Rattle.record_reader.proofs.Bools.{and_four, all_append, all_snoc}
use Rattle.record_reader.proofs.Rests.{rest_of}

-- what was said of a value

pub record ValueWas (b : Bytes) (p pool : ℕ) (r : ReadValue) : Type 0 where
  pub value : pcode.Value
  pub is : read_value (drop p b) ≡ some (value, drop r.next b)
  pub tested : value_holds pool value ≡ r.value.fits
  pub later : p < r.next
  pub inside : r.next ≤ length b

module _ (b : Bytes) (p pool : ℕ) where
  pub value_failed : None ≡ value_at b p pool → read_value (drop p b) ≡ none
  unfolding value_at
  value_failed e = go (read_value (drop p b)) e
    where
      go : (o : math.Option (pcode.Value × Bytes)) → None ≡ value_of p (length b) pool o → o ≡ none
      go none q = refl
      go (some x) q = cc

  pub value_was : {r : ReadValue} → p ≤ length b → Some r ≡ value_at b p pool → ValueWas b p pool r
  unfolding value_at
  value_was {r} h e = go (read_value (drop p b)) refl e
    where
      go : (o : math.Option (pcode.Value × Bytes)) → read_value (drop p b) ≡ o → Some r ≡ value_of p (length b) pool o → ValueWas b p pool r
      go none q f = cc
      go (some x) q f =
          let s = reads_value.run (drop p b) x.0 x.1 q in
          let k = rest_of b s.own x.1 p h s.is in
          let i = same_Some r (record { value = pushed_value (p + 1) pool x.0; next = length b - length x.1 }) f in
          let n : r.next ≡ p + length s.own = ap (λ (v : ReadValue). v.next) i ∙ k.next in
          let l : length s.own ≡ length (value_bytes x.0) = ap length s.fact in
          record {
            value = x.0;
            is = q ∙ ap (λ (z : Bytes). some (x.0, z)) k.is ∙ rw n;
            tested = sym (ap (λ (v : ReadValue). v.value.fits) i);
            later = omega (arith, value_fills x.0);
            inside = omega (arith, k.inside);
          }

-- the values that were read before, and then the rest

pub record Values (d : Bytes) (pool next : ℕ) (fits : Bool) (count : ℕ) : Type 0 where
  pub before : List pcode.Value
  pub is : read_all read_value (length d) d ≡ bind (read_all read_value (length d - count) (drop next d)) (λ xs. pure (before ++ xs))
  pub tested : all (value_holds pool) before ≡ fits
  pub counted : length before ≡ count
  pub from : count ≤ next
  pub to : next ≤ length d

pub after_one : {A : Type 0} (o : math.Option (List A × Bytes)) (pre : List A) (v : A) →
    bind (bind o (λ xs. pure (v ∷ xs))) (λ xs. pure (pre ++ xs)) ≡ bind o (λ xs. pure ((pre ++ (v ∷ [])) ++ xs))
after_one none pre v = refl
after_one (some x) pre v = rw (append_assoc pre (v ∷ []) x.0)

none_left : (n : ℕ) → read_all read_value n [] ≡ some ([], [])
none_left zero = refl
none_left (suc n) = rw nothing_there

module _ {d : Bytes} {pool next : ℕ} {fits : Bool} {count : ℕ} (v : Values d pool next fits count) where
  module _ (h : next < length d) where
    one_more : length d - count ≡ suc (length d - (count + 1))
    one_more = omega (arith, v.from)

    pub values_more : {r : ReadValue} → Some r ≡ value_at d next pool → Values d pool r.next (fits && r.value.fits) (count + 1)
    values_more {r} e =
        let w = value_was d next pool v.to e in
        record {
          before = v.before ++ (w.value ∷ []);
          is = v.is ∙ rw (one_more, w.is) (after_one (read_all read_value (length d - (count + 1)) (drop r.next d)) v.before w.value);
          tested = all_snoc (value_holds pool) v.before w.value ∙ rw (v.tested, w.tested);
          counted = length-append v.before (w.value ∷ []) ∙ rw v.counted;
          from = omega (arith, v.from, w.later);
          to = w.inside;
        }

    pub values_fail : None ≡ value_at d next pool → (p : ℕ) → None ≡ content_of p pool (whole (read_push d))
    values_fail e p = rw (v.is, one_more, value_failed d next pool e, drop-cons d next 0 h)

  values_end : length d ≤ next → whole (read_push d) ≡ some (alone (pushing v.before))
  values_end h = rw (v.is, drop_of_length-le d h, none_left (length d - count), append-nil v.before)

-- the rules on values

values_hold : (pool : ℕ) (vs : List pcode.Value) → all (value_holds pool) vs ≡ (all (value_fits pool) vs && all utf8 (values_strings vs))
values_hold pool [] = refl
values_hold pool (v ∷ vs) =
    rw (values_hold pool vs, all_append utf8 (value_strings v) (values_strings vs))
    (and_four (value_fits pool v) (all utf8 (value_strings v)) (all (value_fits pool) vs) (all utf8 (values_strings vs)))

some_filled : (vs : List pcode.Value) → ltb 0 (length vs) ≡ filled vs
some_filled [] = refl
some_filled (v ∷ vs) = lt-ltb 0 (suc (length vs)) (omega arith)

pub values_content : {d : Bytes} {pool next : ℕ} {fits : Bool} {count : ℕ} → Values d pool next fits count → length d ≤ next → (p : ℕ) →
    Some (record { kind = kind.Push count; fits = ltb 0 count && fits }) ≡ content_of p pool (whole (read_push d))
values_content {d} {pool} {next} {fits} {count} v h p =
    rw (values_end v h, ← v.counted, ← v.tested, some_filled v.before, values_hold pool v.before)
    (ap (λ (t : Bool). Some (record { kind = kind.Push (length v.before); fits = t })) (sym (and_assoc (filled v.before) (all (value_fits pool) v.before) (all utf8 (values_strings v.before)))))
