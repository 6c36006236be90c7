-- The passes over all lists.
use Prim.Native.Nat.{ℕ, zero, suc, ◌+◌, ◌-◌, ◌≤◌, ◌<◌}
use mathlib.Core.Path.{◌≡◌, refl, sym, ap, ◌∙◌, subst}
use mathlib.Core.Logic.{inl}
use mathlib.Core.List.{List, [], ◌∷◌}
use mathlib.Core.Bool.{Bool, true, false, cond, ◌&&◌}
use native.Mathlib.Omega.{arith}
use native.Mathlib.Numerals.{add-one}
use native.Mathlib.Decide.{dec_lt}
use lib.Dec.{eqb}
use lib.ListN.{length, get_or, set, length-append, length-set}
use lib.Seq.{get_or-set_same, get_or-set_other}
use borrow.Author.Tests.{ne_eqb, eqb-false}
use Rattle.std.specs.Prelude.{Option, Some, None, Result, Ok, Err, IsErrAnd}
use Rattle.std.specs.Option.{ok_or}
use Rattle.refusal.specs.declared.Refusal.{Refusal}
use Rattle.refusal.specs.declared.Refusal.TheVariants.{ZeroByte, TooLong, TooFar}
use Rattle.pcode.specs.Pcode.{Branching, Item, action, mark}
use Rattle.action_format.specs.ByPlace.{actions}
use Rattle.action_format.specs.Offsets.{sum, position, offset}
use Rattle.list_slice.specs.Entry.{Piece}
use Rattle.resolver.specs.declared.walk.Walk.{Walk}
use Rattle.resolver.specs.declared.passes.Body.{Body}
use Rattle.resolver.specs.Walk.{count_of, end_of, start_of, piece_at, walked}
use Rattle.resolver.specs.Sizes.{size_of, measures, all_short}
use Rattle.resolver.specs.Steps.{Standing, bodies, Measured, Walked, Placed, all_near_in, ReadyList, Offsets}
use Rattle.resolver.specs.Passes.{walked_at, number_at, Stands, Sized, sizes_at, nearLists, ListDone, Tried, SizesTo, Done, Passed, too_long, too_far, resolved, clear_lists, Answered, zero_byte, refused, passed}

pub measures_length : (B : ℕ → ℕ) (is : List Item) → length (measures B is) ≡ length (actions is)
unfolding measures
measures_length B [] = refl
measures_length B (action a ∷ is) = length-append (measures B is) (size_of B a ∷ []) ∙ omega (arith, measures_length B is)
measures_length B (mark l ∷ is) = measures_length B is

-- numbers of lists

number_early : (n i : ℕ) → i + 1 < n → number_at n i ≡ i + 1
number_early n i h = rw (ne_eqb (i + 1) n (λ e. omega arith))

pub number_below : (n j : ℕ) → j < n → number_at n j < n
number_below n j h = go (eqb (j + 1) n) refl
  where
    go : (t : Bool) → eqb (j + 1) n ≡ t → cond t 0 (j + 1) < n
    go true e = omega arith
    go false e = let k = eqb-false (j + 1) n e in omega arith

number_apart : (n i j : ℕ) → i < j → j < n → number_at n i ≡ number_at n j → ⊥
number_apart n i j h k e = go (eqb (j + 1) n) (sym (number_early n i (omega arith)) ∙ e)
  where
    go : (t : Bool) → i + 1 ≡ cond t 0 (j + 1) → ⊥
    go true e = omega arith
    go false e = omega arith

module _ {F w : List ℕ} (s : Sized F w) (j : ℕ) (below : j < count_of w) (sizes : List ℕ) (known : SizesTo s j sizes) where
  sizes_known : (k : ℕ) → 1 ≤ k → k ≤ j → bodies sizes k ≡ s.body k
  sizes_known k a b =
      let i : ℕ = k - 1 in
      let e : number_at (count_of w) i ≡ k = number_early (count_of w) i (omega arith) ∙ omega arith in
      subst (λ (m : ℕ). get_or sizes m 0 ≡ s.body m) e (known i (omega arith))

  module _ {r : Option Walk} {starts : List ℕ} (v : Walked (bodies sizes) (walked_at F w j) r starts) where
    pub list_long : r ≡ None → (before offsets : List ℕ) (x : Option Body) → x ≡ None → Tried s j before offsets x
    list_long z before offsets x e = record {
      good = λ b y. absurd cc;
      bad = λ y. sym (s.earlier j below (bodies sizes) sizes_known).1 ∙ v.bad z;
    }

    module _ {k : Walk} (z : r ≡ Some k) (stands : Standing F w (start_of w j) (end_of w j)) where
      measured : Measured (bodies sizes) (walked_at F w j) k starts
      measured = v.good k z

      same_sizes : measures (bodies sizes) (walked_at F w j) ≡ sizes_at s j
      same_sizes = (s.earlier j below (bodies sizes) sizes_known).0

      ready : {places : List ℕ} → Placed (walked_at F w j) places → ReadyList F w (start_of w j) (end_of w j) (sizes_at s j) (s.place j) starts places
      ready {places} h = record {
        as_many = measures_length s.body (walked_at F w j);
        begins = λ x y. measured.begins x (rw same_sizes y) ∙ ap (λ (ss : List ℕ). position ss x) same_sizes;
        at = λ e b l lo hi c. let m = s.marked j e b l below lo hi c in (h l (s.place j l) [] m.0 m.1, m.2);
      }

      pub list_good : {places : List ℕ} → ((F : List ℕ) → Standing F w (start_of w j) (end_of w j) → Placed (walked_at F w j) places) → {near : Bool} {before offsets : List ℕ} →
          ((F ss : List ℕ) (f : ℕ → ℕ) → Standing F w (start_of w j) (end_of w j) → ReadyList F w (start_of w j) (end_of w j) ss f starts places →
          (near ≡ all_near_in ss f (walked_at F w j)) × Offsets F w (start_of w j) (end_of w j) ss f before offsets) →
          Tried s j before offsets (Some (record { bytes = k.bytes; near = near }))
      list_good h {near} {before} {offsets} r =
          let x = r F (sizes_at s j) (s.place j) stands (ready (h F stands)) in
          let d : ListDone s j before offsets k.bytes near = record {
            bytes_are = measured.bytes ∙ ap sum same_sizes ∙ sym (s.sum_is j below);
            short = sym (s.earlier j below (bodies sizes) sizes_known).1 ∙ measured.short;
            near_is = x.0;
            offsets_are = x.1;
          } in
          record {
            good = λ b y. let e : record { bytes = k.bytes; near = near } ≡ b = cc in subst (λ (b : Body). ListDone s j before offsets b.bytes b.near) e d;
            bad = λ y. absurd cc;
          }

-- the lists stand one after the other
ends_order : {F w : List ℕ} → Stands F w → (i j : ℕ) → i < j → j ≤ count_of w → end_of w i ≤ start_of w j
ends_order t i zero h k = absurd (omega arith)
ends_order {F} {w} t i (suc m) h k = go (dec_lt i m) (λ y. ends_order t i m y (omega arith))
  where
    go : Dec (i < m) → (i < m → end_of w i ≤ start_of w m) → end_of w i ≤ end_of w m
    go (yes y) f = omega (arith, f y, (t.standing m (omega arith)).order)
    go (no y) f = let e : i ≡ m = omega arith in rw e (omega arith)

pub record PassInv (F w : List ℕ) (j : ℕ) (near : Bool) (sizes offsets : List ℕ) : Type 0 where
  pub sizes_long : length sizes ≡ 1024
  pub done : (s : Sized F w) → Done s j near sizes offsets

pub pass_start : (F w sizes offsets : List ℕ) → length sizes ≡ 1024 → PassInv F w 0 true sizes offsets
unfolding nearLists
pass_start F w sizes offsets a = record {
  sizes_long = a;
  done = λ s. record { sized = λ i h. absurd (omega arith); short = λ i h. absurd (omega arith); at = λ i e b l h. absurd (omega arith); near_are = refl };
}

module _ {F w : List ℕ} (t : Stands F w) {j : ℕ} (below : j < count_of w) {near : Bool} {sizes offsets : List ℕ} (v : PassInv F w j near sizes offsets) where
  pub number_small : number_at (count_of w) j < 1024
  number_small = omega (arith, number_below (count_of w) j below, t.few)

  module _ {offsets' : List ℕ} {r : Option Body} (tried : (s : Sized F w) → SizesTo s j sizes → Tried s j offsets offsets' r) where
    this : (s : Sized F w) → Tried s j offsets offsets' r
    this s = tried s (v.done s).sized

    -- the exit of a `?`
    pub pass_long : r ≡ None → {x : Refusal} → Err x ≡ ok_or r TooLong → (a : Result (Unit {0}) Refusal) → IsErrAnd a (λ y. y ≡ x) →
        (sizes' offsets'' : List ℕ) (s : Sized F w) → Passed s sizes' offsets'' a
    pass_long y e (Ok tt) h sizes' offsets'' s = absurd h
    pass_long y {x} e (Err z) h sizes' offsets'' s =
        let q : ◌≡◌ {A = Result Body Refusal} (Err x) (Err TooLong) = e ∙ ap (λ (o : Option Body). ok_or o TooLong) y in
        let k : z ≡ TooLong = cc in
        rw k (too_long j below ((this s).bad y))

    module _ {x : Body} (y : r ≡ Some x) (s : Sized F w) where
      abbrev now_done : ListDone s j offsets offsets' x.bytes x.near
      now_done = (this s).good x y

      abbrev number : ℕ
      number = number_at (count_of w) j

      sized_at : (i : ℕ) → i < j + 1 → Dec (i < j) → get_or (set sizes number x.bytes) (number_at (count_of w) i) 0 ≡ s.body (number_at (count_of w) i)
      sized_at i h (yes z) =
          get_or-set_other sizes number (number_at (count_of w) i) x.bytes 0 (number_apart (count_of w) i j z below) ∙ (v.done s).sized i z
      sized_at i h (no z) =
          let e : i ≡ j = omega arith in
          rw e (get_or-set_same sizes number x.bytes 0 (omega (arith, v.sizes_long, number_small)) ∙ now_done.bytes_are)

      short_at : (i : ℕ) → i < j + 1 → Dec (i < j) → all_short s.body (walked_at F w i) ≡ true
      short_at i h (yes z) = (v.done s).short i z
      short_at i h (no z) = let e : i ≡ j = omega arith in rw e now_done.short

      branch_at : (i e : ℕ) (b : Branching) (l : ℕ) → i < j + 1 → start_of w i ≤ e → e < end_of w i → piece_at w e ≡ Piece.branch b l → Dec (i < j) →
          get_or offsets' e 0 ≡ offset (position (sizes_at s i) (suc (length (actions (walked F w (suc e) (end_of w i - suc e)))))) (position (sizes_at s i) (s.place i l))
      branch_at i e b l h lo hi c (yes z) =
          now_done.offsets_are.others e (inl (omega (arith, ends_order t i j z (omega (arith, below))))) ∙ (v.done s).at i e b l z lo hi c
      branch_at i e b l h lo hi c (no z) =
          let u : j ≡ i = omega arith in
          subst (λ (i : ℕ). start_of w i ≤ e → e < end_of w i →
          get_or offsets' e 0 ≡ offset (position (sizes_at s i) (suc (length (actions (walked F w (suc e) (end_of w i - suc e)))))) (position (sizes_at s i) (s.place i l))) u
          (λ lo hi. now_done.offsets_are.at e b l lo hi c) lo hi

      near_next : (x.near && near) ≡ nearLists s (j + 1)
      unfolding nearLists
      near_next = rw (add-one j, now_done.near_is, (v.done s).near_are)

      next_done : Done s (j + 1) (x.near && near) (set sizes number x.bytes) offsets'
      next_done = record {
        sized = λ i h. sized_at i h (dec_lt i j);
        short = λ i h. short_at i h (dec_lt i j);
        at = λ i e b l h lo hi c. branch_at i e b l h lo hi c (dec_lt i j);
        near_are = near_next;
      }

    pub pass_again : {x : Body} → r ≡ Some x → {sizes' : List ℕ} → sizes' ≡ set sizes (number_at (count_of w) j) x.bytes → PassInv F w (j + 1) (x.near && near) sizes' offsets'
    pass_again {x} y q = rw q (record { sizes_long = length-set sizes (number_at (count_of w) j) x.bytes ∙ v.sizes_long; done = λ s. next_done y s })

module _ {F w : List ℕ} {j : ℕ} (z : j ≡ count_of w) {near : Bool} {sizes offsets : List ℕ} (v : PassInv F w j near sizes offsets) where
  pub pass_near : near ≡ true → (s : Sized F w) → Passed s sizes offsets (Ok tt)
  pass_near y s = resolved (subst (λ (t : Bool). Done s (count_of w) t sizes offsets) y (subst (λ (i : ℕ). Done s i near sizes offsets) z (v.done s)))

  pub pass_far : near ≡ false → (s : Sized F w) → Passed s sizes offsets (Err TooFar)
  pass_far y s = too_far (subst (λ (t : Bool). Done s (count_of w) t sizes offsets) y (subst (λ (i : ℕ). Done s i near sizes offsets) z (v.done s)))

-- the answer

module _ (F w : List ℕ) {clear : Bool} (e : clear ≡ clear_lists F w (count_of w)) where
  pub answer_zero : clear ≡ false → (s : Sized F w) (sizes offsets : List ℕ) → Answered s sizes offsets (Err ZeroByte)
  answer_zero z s sizes offsets = zero_byte (sym e ∙ z)

  pub answer_refused : clear ≡ true → {sizes offsets : List ℕ} {r : Result (Unit {0}) Refusal} → ((s : Sized F w) → Passed s sizes offsets r) → {x : Refusal} → r ≡ Err x →
      (a : Result ℕ Refusal) → IsErrAnd a (λ y. y ≡ x) → (s : Sized F w) → Answered s sizes offsets a
  answer_refused z f u (Ok n) h s = absurd h
  answer_refused z f u (Err y) h s = refused (sym e ∙ z) (rw (u ∙ ap Err (sym h)) at (f s))

  pub answer_passed : clear ≡ true → {sizes offsets : List ℕ} {r : Result (Unit {0}) Refusal} → ((s : Sized F w) → Passed s sizes offsets r) → r ≡ Ok tt →
      (s : Sized F w) → Answered s sizes offsets (Ok (get_or sizes 0 0))
  answer_passed z f u s = passed (sym e ∙ z) (rw u at (f s))
