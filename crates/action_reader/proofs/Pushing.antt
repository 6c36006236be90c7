-- The loop over the values of a Push.
use Prim.Native.Nat.{ℕ, ◌+◌, ◌-◌, ◌≤◌, ◌<◌}
use mathlib.Core.Path.{◌≡◌, refl, sym, ap, ap₂, ◌∙◌, subst}
use mathlib.Core.List.{List, [], ◌∷◌, ◌++◌, map, reverse, reverse_aux}
use mathlib.Core.Bool.{Bool, true, false}
use mathlib.Core.Option.{some}
use native.Mathlib.Omega.{arith}
use lib.ListN.{length, drop, length-append, length-map, drop_of_length-le}
use Rattle.std.proofs.Common.{Some, None}
use Rattle.std.proofs.lemmas.Option.{same_Some}
use Rattle.pcode.specs.Pcode.{Value}
use Rattle.action_format.specs.Bytes.{Bytes, value_bytes}
use Rattle.action_format.specs.Readers.{read_byte}
use Rattle.action_format.specs.Decode.{read_value}
use Rattle.action_format.proofs.Tests.{some_of}
use Rattle.list_slice.specs.Entry.{Entry, Piece, entry, entry_of, value, value_entry, base}
use Rattle.list_slice.specs.Items.{pushed_of, push_pieces}
use Rattle.list_slice.specs.Read.{values_from}
use Rattle.builder.specs.Entries.{put3}
use Rattle.builder.proofs.Words.{length_put}
use Rattle.record_reader.specs.declared.ReadValue.{ReadValue}
use Rattle.record_reader.specs.Heads.{pushed_value, value_of, value_at}
use Rattle.record_reader.proofs.Laws.{ValueAt, ValuesAt, value_base, value_code, value_small}
use Rattle.action_reader.specs.Layout.{layout}
use Rattle.action_reader.specs.Pushes.{Values, Pushed}
use Rattle.action_reader.proofs.Slice.{grows}

-- the pieces of the values from byte i on; the first of a Push says so
abbrev pieces : Bool → ℕ → List Value → List Piece
pieces f i [] = []
pieces f i (v ∷ vs) = value f (pushed_of (λ s. i + 1) v) ∷ map (value false) (values_from (i + length (value_bytes v)) vs)

all_pieces : (i : ℕ) (vs : List Value) → push_pieces (values_from i vs) ≡ pieces true i vs
unfolding values_from
all_pieces i [] = refl
all_pieces i (v ∷ vs) = refl

later_pieces : (i : ℕ) (vs : List Value) → map (value false) (values_from i vs) ≡ pieces false i vs
unfolding values_from
later_pieces i [] = refl
later_pieces i (v ∷ vs) = refl

pub record Pushing (d : Bytes) (from above : ℕ) (vs : List Value) (w₀ w : List ℕ) (i top b : ℕ) : Type 0 where
  pub left : List Value
  pub done : List Piece
  pub first : Bool
  pub base_is : b ≡ base first
  pub there : ValuesAt d i left
  pub whole : reverse_aux (pieces first i left) done ≡ reverse (push_pieces (values_from from vs))
  pub count : length left + length done ≡ length vs
  pub top_is : top + length done ≡ above
  pub words : (low up : List Entry) (ends : List ℕ) → w₀ ≡ layout low up ends (length w₀) → length up + above ≡ 4096 → length low + length vs ≤ above →
      w ≡ layout low (map entry_of done ++ up) ends (length w)

pub record Loop (d : Bytes) (from above : ℕ) (w₀ w : List ℕ) (i top b : ℕ) : Type 0 where
  pub long : length w ≡ length w₀
  pub pushing : (vs : List Value) → ValuesAt d from vs → Pushing d from above vs w₀ w i top b

pub push_holds : {d : Bytes} {from above : ℕ} {w : List ℕ} → Loop d from above w w from above 0x110
push_holds {d} {from} = record {
  long = refl;
  pushing = λ vs h. record {
    left = vs;
    done = [];
    first = true;
    base_is = refl;
    there = h;
    whole = ap reverse (sym (all_pieces from vs));
    count = omega arith;
    top_is = omega arith;
    words = λ low up ends e a r. e;
  };
}

-- a value is there as long as the end is not reached

record Step (d : Bytes) (i pool : ℕ) (v : Value) (r : ReadValue) : Type 0 where
  code_is : r.value.code ≡ (value_entry 0 (pushed_of (λ s. i + 1) v)).code
  first_is : r.value.first ≡ (value_entry 0 (pushed_of (λ s. i + 1) v)).first
  second_is : r.value.second ≡ (value_entry 0 (pushed_of (λ s. i + 1) v)).second
  next_is : r.next ≡ i + length (value_bytes v)

step_of : (d : Bytes) (i pool : ℕ) (v : Value) → ValueAt d i v → (r : ReadValue) → Some r ≡ value_at d i pool → Step d i pool v r
unfolding value_at
step_of d i pool v h r e =
    let n : ℕ = i + length (value_bytes v) in
    let z = same_Some r (record { value = pushed_value (i + 1) pool v; next = length d - length (drop n d) }) (e ∙ ap (value_of i (length d) pool) h.is) in
    record {
      code_is = ap (λ (x : ReadValue). x.value.code) z;
      first_is = ap (λ (x : ReadValue). x.value.first) z;
      second_is = ap (λ (x : ReadValue). x.value.second) z;
      next_is = ap (λ (x : ReadValue). x.next) z ∙ h.next;
    }

-- no value is at the end, and one before it
pub all_read : (d : Bytes) (i pool : ℕ) (vs : List Value) → ValuesAt d i vs → None ≡ value_at d i pool → vs ≡ []
unfolding value_at
all_read d i pool [] h e = refl
all_read d i pool (v ∷ vs) h e =
    let z : None ≡ value_of i (length d) pool (some (v, drop (i + length (value_bytes v)) d)) = e ∙ ap (value_of i (length d) pool) h.0.is in
    cc

pub not_ended : (d : Bytes) (i pool : ℕ) {r : ReadValue} → Some r ≡ value_at d i pool → i ≡ length d → ⊥
unfolding value_at read_value read_byte
not_ended d i pool e l =
    let h : length d ≤ i = omega arith in
    let z = rw (drop_of_length-le d h) at e in
    cc

-- what a step needs
pub record Safe (d : Bytes) (i top b above : ℕ) (r : ReadValue) : Type 0 where
  pub code : b + r.value.code < 4294967296
  pub first : r.value.first < 4294967296
  pub later : i < r.next
  pub inside : r.next ≤ length d
  pub room : 0 < top
  pub in_place : top ≤ above

base_small : (f : Bool) → base f ≤ 0x120
base_small true = omega arith
base_small false = omega arith

pub push_safe : {d : Bytes} {from above : ℕ} {vs : List Value} {w₀ w : List ℕ} {i top b : ℕ} → Pushing d from above vs w₀ w i top b → (i ≡ length d → ⊥) → length d < 4294967295 → length vs ≤ above →
    (pool : ℕ) (r : ReadValue) → Some r ≡ value_at d i pool → Safe d i top b above r
push_safe {d} {from} {above} {vs} {i = i} {top = top} {b = b} h n small few pool r e = go h.left h.there h.count
  where
    go : (left : List Value) → ValuesAt d i left → length left + length h.done ≡ length vs → Safe d i top b above r
    go [] t q = absurd (n t)
    go (v ∷ left) t q =
        let s = step_of d i pool v t.0 r e in
        record {
          code = omega (arith, s.code_is, value_code (pushed_of (λ s. i + 1) v), h.base_is, base_small h.first);
          first = rw s.first_is (value_small d i v (drop (i + length (value_bytes v)) d) t.0.is (omega (arith, t.0.inside, t.0.later)));
          later = omega (arith, s.next_is, t.0.later);
          inside = omega (arith, s.next_is, t.0.inside);
          room = omega (arith, h.top_is);
          in_place = omega (arith, h.top_is);
        }

entry_is : (i : ℕ) (f : Bool) (v : Value) → entry_of (value f (pushed_of (λ s. i + 1) v)) ≡
    entry (base f + (value_entry 0 (pushed_of (λ s. i + 1) v)).code) (value_entry 0 (pushed_of (λ s. i + 1) v)).first (value_entry 0 (pushed_of (λ s. i + 1) v)).second
entry_is i true v = value_base 0x110 (pushed_of (λ s. i + 1) v)
entry_is i false v = value_base 0x120 (pushed_of (λ s. i + 1) v)

module _ {d : Bytes} {from above : ℕ} {vs : List Value} {w₀ w : List ℕ} {i top b : ℕ} where
  push_next : Pushing d from above vs w₀ w i top b → (i ≡ length d → ⊥) → length vs ≤ above → (pool : ℕ) (r : ReadValue) → Some r ≡ value_at d i pool → {w' : List ℕ} →
      w' ≡ put3 w (top - 1) (b + r.value.code) r.value.first r.value.second → Pushing d from above vs w₀ w' r.next (top - 1) 0x120
  push_next h n few pool r e {w'} q = go h.left h.there h.count h.whole
    where
      go : (left : List Value) → ValuesAt d i left → length left + length h.done ≡ length vs → reverse_aux (pieces h.first i left) h.done ≡ reverse (push_pieces (values_from from vs)) →
          Pushing d from above vs w₀ w' r.next (top - 1) 0x120
      go [] t c z = absurd (n t)
      go (v ∷ left) t c z =
          let s = step_of d i pool v t.0 r e in
          let p : Piece = value h.first (pushed_of (λ s. i + 1) v) in
          let entry_same : entry (b + r.value.code) r.value.first r.value.second ≡ entry_of p = rw (h.base_is, s.code_is, s.first_is, s.second_is) (sym (entry_is i h.first v)) in
          record {
            left = left;
            done = p ∷ h.done;
            first = false;
            base_is = refl;
            there = rw s.next_is t.1;
            whole = rw (s.next_is, ← later_pieces (i + length (value_bytes v)) left) z;
            count = omega arith;
            top_is = omega (arith, h.top_is);
            words = λ low up ends a u l.
                let k : length (map entry_of h.done ++ up) ≡ length h.done + length up = length-append (map entry_of h.done) up ∙ ap (λ (m : ℕ). m + length up) (length-map h.done entry_of) in
                q ∙ ap (λ (x : List ℕ). put3 x (top - 1) (b + r.value.code) r.value.first r.value.second) (h.words low up ends a u l)
                ∙ grows low (map entry_of h.done ++ up) ends (length w) (top - 1) (omega (arith, h.top_is, k)) (omega (arith, h.top_is, k)) (b + r.value.code) r.value.first r.value.second
                ∙ ap₂ (λ (x : Entry) (m : ℕ). layout low (x ∷ (map entry_of h.done ++ up)) ends m) entry_same (sym (ap length q ∙ length_put w (top - 1) (b + r.value.code) r.value.first r.value.second));
          }

pub push_again : {d : Bytes} {from above : ℕ} {w₀ w : List ℕ} {i top b : ℕ} → Loop d from above w₀ w i top b → (i ≡ length d → ⊥) → (few : (vs : List Value) → ValuesAt d from vs → length vs ≤ above) →
    (pool : ℕ) (r : ReadValue) → Some r ≡ value_at d i pool → {w' : List ℕ} → w' ≡ put3 w (top - 1) (b + r.value.code) r.value.first r.value.second → Loop d from above w₀ w' r.next (top - 1) 0x120
push_again {w = w} {top = top} {b = b} h n few pool r e q = record {
  long = ap length q ∙ length_put w (top - 1) (b + r.value.code) r.value.first r.value.second ∙ h.long;
  pushing = λ vs t. push_next (h.pushing vs t) n (few vs t) pool r e q;
}

-- the same bytes are the same values
same_values : (d : Bytes) (i : ℕ) (us vs : List Value) → ValuesAt d i us → ValuesAt d i vs → us ≡ vs
same_values d i [] [] h k = refl
same_values d i [] (v ∷ vs) h k = absurd (omega (arith, h, k.0.inside, k.0.later))
same_values d i (u ∷ us) [] h k = absurd (omega (arith, k, h.0.inside, h.0.later))
same_values d i (u ∷ us) (v ∷ vs) h k =
    let e : u ≡ v = ap (λ (z : Value × Bytes). z.0) (some_of (sym h.0.is ∙ k.0.is)) in
    let t : ValuesAt d (i + length (value_bytes v)) us = subst (λ (x : Value). ValuesAt d (i + length (value_bytes x)) us) e h.1 in
    ap₂ (λ (x : Value) (xs : List Value). x ∷ xs) e (same_values d (i + length (value_bytes v)) us vs t k.1)

pub few_values : {b : Bytes} {from above : ℕ} → Values b from above → (vs : List Value) → ValuesAt b from vs → length vs ≤ above
few_values {b} {from} h vs t = rw (same_values b from vs h.values t h.there) h.few

pub push_done : {b : Bytes} {from above : ℕ} {w₀ w : List ℕ} {i top k : ℕ} → Loop b from above w₀ w i top k → (pool : ℕ) → None ≡ value_at b i pool → (vs : List Value) → Pushed b from vs above w₀ top w
push_done {b} {from} {w = w} {i = i} h pool e vs = record {
  top = λ t.
      let p = h.pushing vs t in
      omega (arith, p.top_is, p.count, ap length (all_read b i pool p.left p.there e));
  words = λ t low up ends a u l.
      let p = h.pushing vs t in
      let done_is : p.done ≡ reverse (push_pieces (values_from from vs)) = ap (λ (z : List Value). reverse_aux (pieces p.first i z) p.done) (sym (all_read b i pool p.left p.there e)) ∙ p.whole in
      p.words low up ends a u l ∙ ap (λ (z : List Piece). layout low (map entry_of z ++ up) ends (length w)) done_is;
}

-- a step of the loop

module _ {b : Bytes} {from above : ℕ} {w₀ w : List ℕ} {i top k : ℕ} (h : Loop b from above w₀ w i top k) (v : Values b from above) (pool : ℕ) (r : ReadValue) (e : Some r ≡ value_at b i pool) where
  pub loop_safe : length b < 4294967295 → Safe b i top k above r
  loop_safe small = push_safe (h.pushing v.values v.there) (not_ended b i pool e) small v.few pool r e

  pub loop_more : {w' : List ℕ} → w' ≡ put3 w (top - 1) (k + r.value.code) r.value.first r.value.second → Loop b from above w₀ w' r.next (top - 1) 0x120
  loop_more q = push_again h (not_ended b i pool e) (few_values v) pool r e q

pub top_left : {b : Bytes} {from above : ℕ} {vs : List Value} {w w' : List ℕ} {r n : ℕ} → Pushed b from vs above w r w' → ValuesAt b from vs → length vs ≡ n → r ≡ above - n
top_left h t e = omega (arith, h.top t)
