-- A function's list: from what its code and its statements do to what the function does.
use Prim.Native.Nat.{ℕ, zero, suc, ◌+◌, ◌-◌, ◌≤◌, ◌<◌}
use mathlib.Core.Path.{◌≡◌, refl, sym, ap, ◌∙◌}
use mathlib.Core.List.{List, ◌∷◌}
use mathlib.Core.Bool.{Bool, true, false}
use native.Mathlib.Omega.{arith}
use lib.ListN.{length, get_or, take, drop}
use Rattle.std.specs.Prelude.{Option, Some, None, is_some, IsNone}
use Rattle.pcode.specs.Pcode.{Header}
use Rattle.lowering.specs.Builder.{State, Result, ok, refused, Step, close, define_function, in_new_list}
use Rattle.list_slice.specs.Entry.{Entry, entry}
use Rattle.list_slice.specs.Words.{entry_at, run}
use Rattle.list_slice.specs.Items.{gathered}
use Rattle.list_slice.proofs.Laid.{run_length}
use Rattle.codegen_state.specs.declared.Stop.{Stop}
use Rattle.codegen_state.specs.declared.BuilderState.{BuilderState}
use Rattle.codegen_state.specs.Stop.{refusal_of}
use Rattle.codegen_state.specs.View.{gather, state, Waiting, waiting, Held, holds, stopped, unless, held, back, carry, after, shut}
use Rattle.codegen_state.specs.Does.{Begins, Fine, Named, Does, Ready, Ends}
use Rattle.codegen_state.proofs.Steps.{held_stopped, held_holds}
use Rattle.builder.specs.Entries.{begun}

pub begun_fine : (b : BuilderState) (w : List ℕ) → Fine b w → Fine (begun b) w
begun_fine b w f = record {
  long = f.long;
  low = f.low;
  base = omega arith;
  cap = omega (arith, f.bottom);
  bottom = f.bottom;
  used = f.used;
  actions = f.actions;
  values = f.values;
  labels = f.labels;
  marks = f.marks;
  size = omega (arith, f.size);
  lists = f.lists;
  constants = f.constants;
  total = f.total;
  ends = f.ends;
  gap = f.gap;
  pool_entry = f.pool_entry;
  no_label = f.no_label;
  no_end = f.no_end;
  no_string_lem = f.no_string_lem;
  written_low = f.written_low;
  written_top = f.written_top;
  later = f.later;
  first = λ h. absurd (omega arith);
}

pub begun_named : (F : List ℕ) (b : BuilderState) (w : List ℕ) → Named F b w → Named F (begun b) w
begun_named F b w n = record { finished = n.finished; unfinished = n.unfinished; strings = n.strings; indexed = n.indexed }

pub take_run : (w : List ℕ) (i n k : ℕ) → k ≤ n → take k (run w i n) ≡ run w i k
unfolding run
take_run w i n zero h = refl
take_run w i zero (suc k) h = absurd (omega arith)
take_run w i (suc n) (suc k) h = ap (λ (es : List Entry). entry_at w i ∷ es) (take_run w (suc i) n k (omega arith))

pub drop_run : (w : List ℕ) (i n k : ℕ) → k ≤ n → drop k (run w i n) ≡ run w (i + k) (n - k)
unfolding run
drop_run w i n zero h = let e : i + 0 ≡ i = omega arith in let d : n - 0 ≡ n = omega arith in rw (e, d)
drop_run w i zero (suc k) h = absurd (omega arith)
drop_run w i (suc n) (suc k) h =
    let e : i + suc k ≡ suc i + k = omega arith in
    let d : suc n - suc k ≡ n - k = omega arith in
    rw (e, d) (drop_run w (suc i) n k (omega arith))

run_at : (w : List ℕ) (i n k : ℕ) → k < n → get_or (run w i n) k (entry 0 0 0) ≡ entry_at w (i + k)
unfolding run
run_at w i zero k h = absurd (omega arith)
run_at w i (suc n) zero h = let e : i + 0 ≡ i = omega arith in rw e
run_at w i (suc n) (suc k) h = let e : i + suc k ≡ suc i + k = omega arith in rw e (run_at w (suc i) n k (omega arith))

-- equal runs have equal entries
pub same_entry : (v w : List ℕ) (i i' n k : ℕ) → run v i n ≡ run w i' n → k < n → entry_at v (i + k) ≡ entry_at w (i' + k)
same_entry v w i i' n k e h = sym (run_at v i n k h) ∙ ap (λ (es : List Entry). get_or es k (entry 0 0 0)) e ∙ run_at w i' n k h

-- what waits, where nothing was refused
abbrev Waits : Held (Unit {0}) → Waiting → Type 0
Waits (holds a s r) x = r ≡ x
Waits (stopped n) x = Unit

waits_unless : (o : Option Stop) (s : State) (r : Waiting) → Waits (unless o (holds (tt {0}) s r)) r
waits_unless None s r = refl
waits_unless (Some x) s r = tt

waits_back : (r : Waiting) (x : Result (Unit {0})) → Waits (back r x) r
waits_back r (ok a s) = refl
waits_back r (refused n s) = tt

waits_after : (v : Held (Unit {0})) (x : Waiting) (m : Step) → Waits v x → Waits (after v m) x
unfolding after carry
waits_after (holds a s r) x m h = rw (← h) (waits_back r (m s))
waits_after (stopped n) x m h = tt

waits_held : (F : List ℕ) (b : BuilderState) (w : List ℕ) → Waits (held F (tt {0}) b w) (waiting b w)
unfolding held
waits_held F b w = waits_unless b.refused (state F b w) (waiting b w)

-- the same lists wait after a step as before, where it was not refused
pub same_waiting : (F : List ℕ) (m : Step) (b r : BuilderState) (w w' : List ℕ) → Does F m b w tt r w' → IsNone r.refused → waiting r w' ≡ waiting b w
same_waiting F m b r w w' d h =
    let p : Waits (held F (tt {0}) r w') (waiting b w) = rw d.same (waits_after (held F (tt {0}) b w) (waiting b w) m (waits_held F b w)) in
    rw (held_holds F (tt {0}) r w' h) at p

same_lengths : (F : List ℕ) (m : Step) (b r : BuilderState) (w w' : List ℕ) → Does F m b w tt r w' → IsNone r.refused → 4096 - r.base ≡ 4096 - b.base
same_lengths F m b r w w' d h =
    sym (run_length w' r.base (4096 - r.base)) ∙ ap (λ (x : Waiting). length x.entries) (same_waiting F m b r w w' d h) ∙ run_length w b.base (4096 - b.base)

-- and where none waited before, none does after
pub top_base : (F : List ℕ) (m : Step) (b r : BuilderState) (w w' : List ℕ) → b.base ≡ 4096 → Does F m b w tt r w' → IsNone r.refused → r.base ≡ 4096
top_base F m b r w w' e d h =
    let l : 4096 - r.base ≡ 4096 - b.base = same_lengths F m b r w w' d h in
    omega (arith, d.fine.cap)

unless_none : (o : Option Stop) (s t : State) (x y : Waiting) (a : Unit {0}) → unless o (holds (tt {0}) s x) ≡ holds a t y → IsNone o
unless_none None s t x y a e = refl
unless_none (Some z) s t x y a e = let o : ◌≡◌ {A = ℕ} 0 1 = cc in absurd (omega arith)

held_none : (F : List ℕ) (b : BuilderState) (w : List ℕ) (a : Unit {0}) (s : State) (x : Waiting) → held F (tt {0}) b w ≡ holds a s x → IsNone b.refused
unfolding held
held_none F b w a s x e = unless_none b.refused (state F b w) s (waiting b w) x a e

module _ (F : List ℕ) (m : Step) (b : BuilderState) (w : List ℕ) (f : Fine b w) {b2 : BuilderState} {w2 : List ℕ} (d : Does F m (begun b) w tt b2 w2) where
  same_base : IsNone b2.refused → (b2.base ≡ b.top) × (b2.sizes ≡ b.sizes + b.size)
  same_base h =
      let e = same_waiting F m (begun b) b2 w w2 d h in
      let l : 4096 - b2.base ≡ 4096 - b.top = same_lengths F m (begun b) b2 w w2 d h in
      (omega (arith, d.fine.cap, f.bottom), ap (λ (x : Waiting). x.sizes) e)

  -- the list before begins where it began
  begins : IsNone b2.refused → b2.base < b.base → Begins w2 b.base
  begins h k =
      let p = same_base h in
      let e : run w2 b.top (4096 - b.top) ≡ run w b.top (4096 - b.top) = rw p.0 at (ap (λ (x : Waiting). x.entries) (same_waiting F m (begun b) b2 w w2 d h)) in
      let i : b.base - 1 ≡ b.top + (b.base - 1 - b.top) = omega (arith, p.0) in
      let same = same_entry w2 w b.top b.top (4096 - b.top) (b.base - 1 - b.top) e (omega (arith, p.0, f.cap)) in
      rw (i, same, ← i) (f.first (omega (arith, p.0)))

  pub ready : Ready b2 w2 b.base b.size
  ready h = let p = same_base h in (omega (arith, p.0, f.base), f.cap, omega (arith, p.1), omega (arith, p.0, f.bottom), begins h)

  begun_state : state F (begun b) w ≡ in_new_list (state F b w)
  unfolding state gather gathered run
  begun_state = let e : b.top - b.top ≡ 0 = omega arith in rw e

  -- the list before, and what waits behind it
  before_take : take (b.base - b.top) (run w b.top (4096 - b.top)) ≡ run w b.top (b.base - b.top)
  before_take = take_run w b.top (4096 - b.top) (b.base - b.top) (omega (arith, f.cap))

  before_drop : drop (b.base - b.top) (run w b.top (4096 - b.top)) ≡ run w b.base (4096 - b.base)
  before_drop =
      let e : b.top + (b.base - b.top) ≡ b.base = omega (arith, f.base) in
      let n : 4096 - b.top - (b.base - b.top) ≡ 4096 - b.base = omega (arith, f.base, f.cap) in
      rw (drop_run w b.top (4096 - b.top) (b.base - b.top) (omega (arith, f.cap)), e, n)

  module _ (h : Header) where
    -- where the body did not refuse, or did
    shut_back : (k : ℕ) (x : Result (Unit {0})) → held F (tt {0}) b2 w2 ≡ back (waiting (begun b) w) x → k ≡ b.base - b2.base →
        shut F h k b.size (back (waiting (begun b) w) x) ≡ back (waiting b w) (close h (state F b w).builder x)
    unfolding shut state
    shut_back k (refused n s) v q = refl
    shut_back k (ok a s) v q =
        let z : IsNone b2.refused = held_none F b2 w2 a s (waiting (begun b) w) v in
        let p = same_base z in
        let i : k ≡ b.base - b.top = omega (arith, p.0) in
        let j : b.sizes + b.size - b.size ≡ b.sizes = omega arith in
        rw (i, before_take, before_drop, j)

    body_held : IsNone b.refused → held F (tt {0}) b2 w2 ≡ back (waiting (begun b) w) (m (state F (begun b) w))
    unfolding after carry
    body_held n = d.same ∙ rw (held_holds F (tt {0}) (begun b) w n)

    shut_stopped : (k z n : ℕ) → shut F h k z (after (stopped n) m) ≡ after (stopped n) (define_function h m)
    unfolding shut after carry
    shut_stopped k z n = refl

    shut_holds : (k : ℕ) → k ≡ b.base - b2.base → held F (tt {0}) b2 w2 ≡ back (waiting (begun b) w) (m (state F (begun b) w)) →
        shut F h k b.size (back (waiting (begun b) w) (m (state F (begun b) w))) ≡ after (holds (tt {0}) (state F b w) (waiting b w)) (define_function h m)
    unfolding after carry define_function
    shut_holds k q v = shut_back k (m (state F (begun b) w)) v q ∙ rw begun_state

    pub function_done : {r : BuilderState} {w' : List ℕ} → Ends F h b2 w2 b.base b.size r w' → Does F (define_function h m) b w tt r w'
    function_done {r} {w'} e = record { same = same_as (is_some b.refused) refl; fine = e.fine; named = λ n. e.named (d.named (begun_named F b w n)) }
      where
        same_as : (c : Bool) → is_some b.refused ≡ c → held F (tt {0}) r w' ≡ after (held F (tt {0}) b w) (define_function h m)
        same_as true n =
            rw (e.same, d.same, held_stopped F (tt {0}) b w n, held_stopped F (tt {0}) (begun b) w n) (shut_stopped (b.base - b2.base) b.size (refusal_of b.refused))
        same_as false n =
            rw (e.same, body_held n, held_holds F (tt {0}) b w n) (shut_holds (b.base - b2.base) refl (body_held n))
