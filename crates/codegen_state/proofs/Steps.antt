-- Steps in a row: what code does, step by step, is what the steps do together.
use Prim.Native.Nat.{ℕ}
use mathlib.Core.Path.{◌≡◌, refl, sym}
use mathlib.Core.List.{List}
use mathlib.Core.Bool.{true≢false}
use Rattle.std.specs.Prelude.{Option, Some, None, IsSome, IsNone}
use Rattle.lowering.specs.Builder.{State, Result, ok, refused, bind, M, Step, ◌>>=◌, ◌>>◌, pure, done, stack_size}
use Rattle.codegen_state.specs.declared.Stop.{Stop}
use Rattle.codegen_state.specs.declared.BuilderState.{BuilderState}
use Rattle.codegen_state.specs.Stop.{refusal_of}
use Rattle.codegen_state.specs.View.{state, Waiting, waiting, Held, holds, stopped, unless, held, back, carry, after}
use Rattle.codegen_state.specs.Does.{Fine, Does}

-- a builder that has refused holds the refusal, another one its state
stops : {A : Type 0} (o : Option Stop) (h : Held A) → IsSome o → unless o h ≡ stopped (refusal_of o)
stops (Some s) h e = refl
stops None h e = absurd (true≢false (sym e))

goes_on : {A : Type 0} (o : Option Stop) (h : Held A) → IsNone o → unless o h ≡ h
goes_on None h e = refl
goes_on (Some s) h e = absurd (true≢false e)

pub held_stopped : {A : Type 0} (F : List ℕ) (a : A) (b : BuilderState) (w : List ℕ) → IsSome b.refused → held F a b w ≡ stopped (refusal_of b.refused)
unfolding held
held_stopped F a b w h = stops b.refused _ h

pub held_holds : {A : Type 0} (F : List ℕ) (a : A) (b : BuilderState) (w : List ℕ) → IsNone b.refused → held F a b w ≡ holds a (state F b w) (waiting b w)
unfolding held
held_holds F a b w h = goes_on b.refused _ h

back_bind : {A B : Type 0} (r : Waiting) (x : Result A) (k : A → M B) → back r (bind x k) ≡ carry (back r x) k
unfolding carry
back_bind r (ok a s) k = refl
back_bind r (refused n s) k = refl

pub after_then : {B : Type 0} (v : Held (Unit {0})) (m : Step) (k : M B) → after v (m >> k) ≡ after (after v m) k
unfolding after carry ◌>>◌
after_then (stopped n) m k = refl
after_then (holds a s r) m k = back_bind r (m s) (λ _. k)

pub after_bind : {A B : Type 0} (v : Held (Unit {0})) (m : M A) (k : A → M B) → after v (m >>= k) ≡ carry (after v m) k
unfolding after carry ◌>>=◌
after_bind (stopped n) m k = refl
after_bind (holds a s r) m k = back_bind r (m s) k

carry_unless : {A B : Type 0} (o : Option Stop) (a : A) (s : State) (r : Waiting) (k : A → M B) →
    carry (unless o (holds a s r)) k ≡ carry (unless o (holds (tt {0}) s r)) (λ _. k a)
unfolding carry
carry_unless None a s r k = refl
carry_unless (Some x) a s r k = refl

pub carry_held : {A B : Type 0} (F : List ℕ) (a : A) (b : BuilderState) (w : List ℕ) (k : A → M B) → carry (held F a b w) k ≡ after (held F tt b w) (k a)
unfolding after held
carry_held F a b w k = carry_unless b.refused a (state F b w) (waiting b w) k

pub after_done : (v : Held (Unit {0})) → after v (pure tt) ≡ v
unfolding after carry pure
after_done (stopped n) = refl
after_done (holds a s r) = refl

pure_unless : {A : Type 0} (o : Option Stop) (a : A) (s : State) (r : Waiting) →
    unless o (holds a s r) ≡ carry (unless o (holds (tt {0}) s r)) (λ _. pure a)
unfolding carry pure
pure_unless None a s r = refl
pure_unless (Some x) a s r = refl

size_unless : {B : Type 0} (o : Option Stop) (s : State) (r : Waiting) (k : ℕ → M B) →
    carry (unless o (holds (tt {0}) s r)) (λ _. stack_size >>= k) ≡ carry (unless o (holds (tt {0}) s r)) (λ _. k s.builder.size)
unfolding carry stack_size ◌>>=◌
size_unless None s r k = refl
size_unless (Some x) s r k = refl

pub after_size : {B : Type 0} (F : List ℕ) (b : BuilderState) (w : List ℕ) (k : ℕ → M B) → after (held F tt b w) (stack_size >>= k) ≡ after (held F tt b w) (k b.size)
unfolding after held stack_size ◌>>=◌ state
after_size F b w k = size_unless b.refused (state F b w) (waiting b w) k

module _ {F : List ℕ} {b : BuilderState} {w : List ℕ} where
  -- nothing is done
  pub idle : Fine b w → Does F done b w tt b w
  idle f = record { same = sym (after_done (held F tt b w)); fine = f; named = λ n. n }

  pub returned : {A : Type 0} {a : A} → Fine b w → Does F (pure a) b w a b w
  unfolding after held
  returned {a = a} f = record { same = pure_unless b.refused a (state F b w) (waiting b w); fine = f; named = λ n. n }

  -- after a refusal any step leaves everything as it is, whatever its value
  pub stays : {A : Type 0} {m : M A} {a : A} → IsSome b.refused → Fine b w → Does F m b w a b w
  unfolding after carry
  stays {a = a} h f = record { same = rw (held_stopped F (tt {0}) b w h, held_stopped F a b w h); fine = f; named = λ n. n }
