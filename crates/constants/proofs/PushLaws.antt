-- A string pushed: the value, and then the pool's word.
use Prim.Native.Nat.{ℕ, ◌+◌, ◌-◌, ◌≤◌, ◌<◌}
use mathlib.Core.Path.{◌≡◌, refl, sym, ap, ◌∙◌}
use mathlib.Core.List.{List, [], ◌∷◌, ◌++◌, map}
use mathlib.Core.Bool.{Bool, true, false}
use mathlib.Core.Option.{none, some}
use native.Mathlib.Omega.{arith}
use lib.Dec.{T, ltb}
use lib.ListN.{length, length-take, length-drop, length-map}
use borrow.Author.Tests.{lt-ltb, le-leb, lt-leb}
use Rattle.std.specs.Prelude.{Option, Some, None, IsSome, IsNone}
use Rattle.hir.specs.Hir.{Str}
use Rattle.pcode.specs.Pcode.{Value}
use Rattle.lowering.specs.Builder.{State, Result, ok, refused, ◌>>=◌, allow, with_constants, push_joined, ends_in_push, push, add, push_string}
use Rattle.list_slice.specs.File.{text_in, names_string}
use Rattle.codegen_state.specs.declared.BuilderState.{BuilderState}
use Rattle.codegen_state.specs.View.{pool_of, state, Waiting, waiting, Held, holds, stopped, held, back, carry, after}
use Rattle.codegen_state.specs.Does.{Fine, Does}
use Rattle.codegen_state.proofs.Steps.{held_stopped, held_holds}
use Rattle.codegen_state.specs.Index.{hash, Indexed}
use Rattle.constants.specs.Pool.{place, found_of, added, joining, Added}
use Rattle.constants.proofs.Added.{state_added, waiting_added, added_fine, added_indexed, added_named}

-- the pool alone is replaced
abbrev with_pool : {A : Type 0} → List Str → ℕ → Result A → Result A
with_pool pool t (ok a s) = ok a (with_constants pool t s)
with_pool pool t (refused n s) = refused n (with_constants pool t s)

abbrev held_with : {A : Type 0} → List Str → ℕ → Held A → Held A
held_with pool t (holds a s r) = holds a (with_constants pool t s) r
held_with pool t (stopped n) = stopped n

back_with : {A : Type 0} (pool : List Str) (t : ℕ) (r : Waiting) (x : Result A) → back r (with_pool pool t x) ≡ held_with pool t (back r x)
back_with pool t r (ok a s) = refl
back_with pool t r (refused n s) = refl

-- a push does not look at it
allow_with : {A : Type 0} (pool : List Str) (t : ℕ) (b : Bool) (n : ℕ) (s : State) (x : Result A) →
    allow b n (with_constants pool t s) (with_pool pool t x) ≡ with_pool pool t (allow b n s x)
allow_with pool t true n s x = refl
allow_with pool t false n s x = refl

joined_with : (pool : List Str) (t : ℕ) (v : Value) (s : State) (j : Bool) → push_joined v (with_constants pool t s) j ≡ with_pool pool t (push_joined v s j)
joined_with pool t v s true = refl
joined_with pool t v s false = allow_with pool t (ltb s.actions s.limits.actions) 8 s _

push_with : (pool : List Str) (t : ℕ) (v : Value) (s : State) → push v (with_constants pool t s) ≡ with_pool pool t (push v s)
unfolding push
push_with pool t v s =
    rw (joined_with pool t v s (ends_in_push s.builder.items)) (allow_with pool t (ltb s.values s.limits.values) 8 s _)

-- what it leaves of the counts
record Kept (s x : State) : Type 0 where
  constants : x.constants ≡ s.constants
  total : x.tag_length ≡ s.tag_length
  values : x.values ≡ s.values + 1

kept_ok : {r r' : Waiting} {s x y : State} → Kept s y → holds (tt {0}) x r' ≡ holds (tt {0}) y r → Kept s x
kept_ok {x = x} {y = y} k e = let q : x ≡ y = cc in rw q k

kept_allow : (r : Waiting) {r' : Waiting} {s x y : State} (b : Bool) → Kept s y → holds (tt {0}) x r' ≡ back r (allow b 8 s (ok (tt {0}) y)) → Kept s x
kept_allow r true k e = kept_ok k e
kept_allow r false k e = absurd (let z : ◌≡◌ {A = ℕ} 0 1 = cc in omega arith)

kept_joined : (r : Waiting) {r' : Waiting} (v : Value) (s : State) {x : State} (j : Bool) → holds (tt {0}) x r' ≡ back r (push_joined v s j) → Kept s x
kept_joined r v s true e = kept_ok (record { constants = refl; total = refl; values = refl }) e
kept_joined r v s false e = kept_allow r (ltb s.actions s.limits.actions) (record { constants = refl; total = refl; values = refl }) e

kept_values : (r : Waiting) {r' : Waiting} (v : Value) (s : State) {x : State} (b : Bool) →
    holds (tt {0}) x r' ≡ back r (allow b 8 s (push_joined v s (ends_in_push s.builder.items))) → Kept s x
kept_values r v s true e = kept_joined r v s (ends_in_push s.builder.items) e
kept_values r v s false e = absurd (let z : ◌≡◌ {A = ℕ} 0 1 = cc in omega arith)

kept : (r : Waiting) {r' : Waiting} (v : Value) (s : State) {x : State} → holds (tt {0}) x r' ≡ back r (push v s) → Kept s x
unfolding push
kept r v s e = kept_values r v s (ltb s.values s.limits.values) e

pool_length : (F : List ℕ) {b : BuilderState} {w : List ℕ} → Fine b w → length (map (text_in F) (pool_of b w)) ≡ b.constants
pool_length F f = simp (length-map, length-take, length-drop) (omega (arith, f.long, f.constants, f.values))

-- the pool and its total after a string joins
abbrev new_pool : List ℕ → BuilderState → (w : List ℕ) → ℕ → List Str
new_pool F b w s = map (text_in F) (pool_of b w) ++ (text_in F s ∷ [])

abbrev new_total : List ℕ → BuilderState → ℕ → ℕ
new_total F b s = b.total + (length (text_in F s) + 1)

module _ (F : List ℕ) (b : BuilderState) (w : List ℕ) (s : ℕ) (f : Fine b w) (h : IsNone b.refused) where
  -- the string is known
  known : (i : ℕ) → some i ≡ place F (pool_of b w) s → after (held F tt b w) (push_string (text_in F s)) ≡ after (held F tt b w) (push (Value.Constant i))
  unfolding after carry ◌>>=◌ add state
  known i e = rw (held_holds F (tt {0}) b w h, ← e)

  -- it is not, and does not join
  unpooled : place F (pool_of b w) s ≡ none → 65535 < b.total + (length (text_in F s) + 1) →
      after (held F tt b w) (push_string (text_in F s)) ≡ after (held F tt b w) (push (Value.String (text_in F s)))
  unfolding after carry ◌>>=◌ add state
  unpooled e k = rw (held_holds F (tt {0}) b w h, e, lt-leb _ _ k)

  -- it joins
  pooled : place F (pool_of b w) s ≡ none → (new_total F b s) ≤ 65535 →
      after (held F tt b w) (push_string (text_in F s)) ≡ held_with (new_pool F b w s) (new_total F b s) (after (held F tt b w) (push (Value.Constant b.constants)))
  unfolding after carry ◌>>=◌ add state
  pooled e k =
      rw (
        held_holds F (tt {0}) b w h,
        e,
        le-leb _ _ k,
        pool_length F f,
        lt-ltb b.constants 65535 (omega (arith, f.constants, f.values)),
        pool_length F f,
        push_with (new_pool F b w s) (new_total F b s) (Value.Constant b.constants) (state F b w),
      ) (back_with (new_pool F b w s) (new_total F b s) (waiting b w) (push (Value.Constant b.constants) (state F b w)))

-- what a push that is not refused leaves, so that a string can be added
module _ {F : List ℕ} {b : BuilderState} {w : List ℕ} {r : BuilderState} {w₁ : List ℕ} (f : Fine b w) (h : IsNone b.refused)
    (d : Does F (push (Value.Constant b.constants)) b w tt r w₁) (q : IsNone r.refused) where
  kept_here : Kept (state F b w) (state F r w₁)
  unfolding after carry
  kept_here = kept (waiting b w) (Value.Constant b.constants) (state F b w) (rw (held_holds F (tt {0}) b w h, held_holds F (tt {0}) r w₁ q) at d.same)

  same_pool : map (text_in F) (pool_of r w₁) ≡ map (text_in F) (pool_of b w)
  unfolding state
  same_pool = kept_here.constants

  same_total : r.total ≡ b.total
  unfolding state
  same_total = kept_here.total

  one_value : r.values ≡ b.values + 1
  unfolding state
  one_value = kept_here.values

  pub room : r.constants < r.values
  room = omega (arith, pool_length F d.fine, pool_length F f, ap length same_pool, one_value, f.constants)

  pub total_fits : {n : ℕ} → n < 65535 - b.total → r.total + (n + 1) ≤ 65535
  total_fits k = omega (arith, same_total)

-- the index after it
pub pushed_indexed : {F : List ℕ} {s n h : ℕ} {r r' : BuilderState} {w w' : List ℕ} → Fine r w → r.constants < r.values → (h ≡ hash (text_in F s)) × (h < 2048) → Added r w s n h r' w' →
    Indexed F r.constants w → Indexed F r'.constants w'
pushed_indexed {F} {s} {n} {h} {r} {w = w} f few g a x = rw (a.new, a.words) (added_indexed F r w s n h f few g.1 g.0 x)

-- what `push_string` does in each case
module _ (F : List ℕ) (s : ℕ) {b : BuilderState} {w : List ℕ} (f : Fine b w) (h : IsNone b.refused) where
  pub push_known : {g : Option ℕ} {i : ℕ} → g ≡ Some i → found_of g ≡ place F (pool_of b w) s → {r : BuilderState} {w' : List ℕ} → Does F (push (Value.Constant i)) b w tt r w' →
      Does F (push_string (text_in F s)) b w tt r w'
  push_known {i = i} e p d = record { same = rw (known F b w s f h i (rw e at p), d.same); fine = d.fine; named = d.named }

  pub not_known : {g : Option ℕ} → g ≡ None → found_of g ≡ place F (pool_of b w) s → place F (pool_of b w) s ≡ none
  not_known e p = sym (rw e at p)

  module _ {x : List ℕ} (text : x ≡ text_in F s) (e : place F (pool_of b w) s ≡ none) where
    pub push_unpooled : 65535 - b.total ≤ length x → {r : BuilderState} {w' : List ℕ} → Does F (push (Value.String (text_in F s))) b w tt r w' →
        Does F (push_string (text_in F s)) b w tt r w'
    push_unpooled k d = record { same = rw (unpooled F b w s f h e (rw (← text) (omega (arith, f.total))), d.same); fine = d.fine; named = d.named }

    module _ (k : length x < 65535 - b.total) {r : BuilderState} {w₁ : List ℕ} (d : Does F (push (Value.Constant b.constants)) b w tt r w₁) where
      joined : after (held F tt b w) (push_string (text_in F s)) ≡ held_with (new_pool F b w s) (new_total F b s) (held F tt r w₁)
      joined = pooled F b w s f h e (rw (← text) (omega arith)) ∙ simp d.same

      pub push_refused : IsSome r.refused → Does F (push_string (text_in F s)) b w tt r w₁
      push_refused q = record { same = rw (joined, held_stopped F (tt {0}) r w₁ q); fine = d.fine; named = d.named }

      module _ (q : IsNone r.refused) {r' : BuilderState} {w' : List ℕ} {h' : ℕ} (g : (h' ≡ hash (text_in F s)) × (h' < 2048)) (a : Added r w₁ s (length x + 1) h' r' w') where
        pub push_added : T (names_string F s) → Does F (push_string (text_in F s)) b w tt r' w'
        push_added t =
            let fits = room f h d q in
            rw (a.new, a.words) (record {
              same =
                  rw (
                    joined,
                    held_holds F (tt {0}) r w₁ q,
                    held_holds F (tt {0}) (added r (length x + 1)) (joining w₁ r.constants s h') q,
                    state_added F r w₁ s (length x + 1) h' d.fine fits g.1,
                    waiting_added F r w₁ s (length x + 1) h' d.fine fits g.1,
                    same_pool f h d q,
                    same_total f h d q,
                    ← text,
                  );
              fine = added_fine F r w₁ s (length x + 1) h' d.fine fits g.1 (omega (arith, same_total f h d q));
              named = λ n. added_named F r w₁ s (length x + 1) h' d.fine fits g.1 g.0 t (d.named n);
            })
