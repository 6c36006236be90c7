-- What the code leaves after all statements, and what the definition gives.
use Prim.Native.Nat.{ℕ, suc, ◌-◌, ◌≤◌, ◌<◌}
use mathlib.Core.Path.{◌≡◌, refl, ap, sym, ◌∙◌}
use mathlib.Core.List.{List}
use mathlib.Core.Logic.{◌⊎◌, inl, inr}
use native.Mathlib.Omega.{arith}
use Rattle.std.proofs.Common.{lit≤}
use lib.ListN.{length}
use borrow.Author.Tests.{lt-ltb, le-ltb}
use Rattle.std.specs.Prelude as code
use Rattle.std.specs.Prelude.{Ok, Err, IsErrAnd, IsNone, IsSome}
use Rattle.refusal.specs.declared.Refusal.{Refusal}
use Rattle.refusal.specs.declared.Refusal.TheVariants.{BrokenRule, NotUtf8, Unsupported, OverLimit, NotAssignable, SecondDefault, Negation, TooMany, ZeroByte, TooLong, TooFar, ShortOutput, ShortList, NotActions}
use Rattle.refusal.specs.Refusal.{number_of}
use Rattle.script.specs.Rules.{check_of}
use Rattle.script_records.specs.Layout.{layout_of}
use Rattle.script_records.specs.declared.layout.Layout.{Layout}
use Rattle.script_records.specs.declared.part.Part.{Part}
use Rattle.lowering.specs.Builder.{limits01, Result, ok, refused}
use Rattle.lowering.specs.Statement.{lists, refusal, no_loop, gen_statements, start, generate_actions, finish, script_to_actions}
use Rattle.list_slice.specs.Words.{zeros_of}
use Rattle.list_slice.specs.Compiled.{Holds}
use Rattle.list_slice.proofs.Areas.{zeros_length}
use Rattle.zeros.proofs.Clearing.{zeros_zeros}
use Rattle.lowering.proofs.Theorems.{refusal_number}
use Rattle.definition.specs.Compile.{lists_of, lowered_with, statements_of}
use Rattle.codegen_state.specs.declared.BuilderState.{BuilderState}
use Rattle.codegen_state.specs.Stop.{refusal_of}
use Rattle.codegen_state.specs.View.{state, Waiting, waiting, holds, stopped, held, back, carry, after}
use Rattle.codegen_state.specs.Does.{Does}
use Rattle.codegen_state.proofs.Steps.{held_stopped, held_holds}
use Rattle.tree.specs.Within.{Within, meanings_at}
use Rattle.tree.proofs.Accepted.{statements_in, accepted_within, accepted_trees}
use Rattle.builder.specs.Places.{Copied, finished}
use Rattle.builder.proofs.Body.{top_base}
use Rattle.as2_codegen.specs.Begin.{Begun, statements_part}
use Rattle.as2_codegen.specs.Lowering.{Lowers, Generated}

-- case by case: the lists of the state, or the refusal
module _ (F : List ℕ) (r : BuilderState) (w : List ℕ) (x : Waiting) where
  lists_at_lem : (y : Result (Unit {0})) → held F tt r w ≡ back x y → IsNone r.refused → finish y ≡ lists (finished (state F r w))
  lists_at_lem (ok u s) e h =
      let p : holds tt (state F r w) (waiting r w) ≡ holds u s x = sym (held_holds F tt r w h) ∙ e in
      let q : state F r w ≡ s = cc in
      rw q
  lists_at_lem (refused n s) e h =
      let p : holds tt (state F r w) (waiting r w) ≡ stopped n = sym (held_holds F tt r w h) ∙ e in
      let q : ◌≡◌ {A = ℕ} 0 1 = cc in
      absurd (omega arith)

  refusal_at : (y : Result (Unit {0})) → held F tt r w ≡ back x y → IsSome r.refused → finish y ≡ refusal (refusal_of r.refused)
  refusal_at (ok u s) e h =
      let p : stopped (refusal_of r.refused) ≡ holds u s x = sym (held_stopped F tt r w h) ∙ e in
      let q : ◌≡◌ {A = ℕ} 0 1 = cc in
      absurd (omega arith)
  refusal_at (refused n s) e h =
      let p : stopped (refusal_of r.refused) ≡ stopped n = sym (held_stopped F tt r w h) ∙ e in
      let q : refusal_of r.refused ≡ n = cc in
      rw q

refuses : (F : List ℕ) (n : ℕ) (e : Refusal) → lowered_with limits01 F n ≡ refusal (number_of e) → Lowers limits01 F n (Err e) (zeros_of n)
refuses F n e q = record { answer = q; number = rw q; list_length = zeros_length n; whole_list = rw q (zeros_zeros n) }

pub whole_within : (F : List ℕ) → check_of F ≡ 0 → {l : Layout} {p : Part} → l ≡ layout_of F → p ≡ statements_part (layout_of F) → Within F l p
whole_within F a e q = rw (e, q) (accepted_within F a)

-- The numbers that lowering gives. The library has no lemma that bounds one of four numbers.
low : (n : ℕ) → (n ≡ 5) ⊎ ((n ≡ 6) ⊎ ((n ≡ 7) ⊎ (n ≡ 8))) → (5 ≤ n) × (n ≤ 8)
low n (inl e) = (omega arith, omega arith)
low n (inr (inl e)) = (omega arith, omega arith)
low n (inr (inr (inl e))) = (omega arith, omega arith)
low n (inr (inr (inr e))) = (omega arith, omega arith)

-- an accepted file, and what generating its statements leaves
module _ {F : List ℕ} (accepted : check_of F ≡ 0) {p : Part} (is-part : p ≡ statements_part (layout_of F))
    {b : BuilderState} {w : List ℕ} (g : Begun F b w) {r : BuilderState} {w' : List ℕ} (d : Does F (gen_statements no_loop (meanings_at F p)) b w tt r w') where
  abbrev generated : Result (Unit {0})
  generated = gen_statements no_loop (meanings_at F (statements_in F)) (start limits01)

  same : held F tt r w' ≡ back (waiting b w) generated
  unfolding after carry
  same = (rw is-part at d).same ∙ rw (held_holds F (tt {0}) b w g.unrefused, g.starts)

  result : lists_of limits01 F ≡ finish generated
  unfolding script_to_actions generate_actions
  result = rw (sym (accepted_trees F accepted))

  lists_are : IsNone r.refused → lists_of limits01 F ≡ lists (finished (state F r w'))
  lists_are h = result ∙ lists_at_lem F r w' (waiting b w) generated same h

  refusal_is : IsSome r.refused → lists_of limits01 F ≡ refusal (refusal_of r.refused)
  refusal_is h = result ∙ refusal_at F r w' (waiting b w) generated same h

  pub refused_low : IsSome r.refused → (5 ≤ refusal_of r.refused) × (refusal_of r.refused ≤ 8)
  refused_low h = low (refusal_of r.refused) (refusal_number limits01 (lit≤ tt) (statements_of F) (refusal_of r.refused) (refusal_is h))

  pub base_is : IsNone r.refused → r.base ≡ 4096
  base_is h = top_base F (gen_statements no_loop (meanings_at F p)) b r w w' g.base d h

  lowered_is : (n : ℕ) → 16384 ≤ n → lowered_with limits01 F n ≡ lists_of limits01 F
  unfolding lowered_with
  lowered_is n room = rw (le-ltb n 16384 room, accepted)

  lowers_lists : IsNone r.refused → (v : List ℕ) → 16384 ≤ length v → Holds limits01 F (finished (state F r w')) v → Lowers limits01 F (length v) (Ok tt) v
  lowers_lists h v room k =
      let e : lowered_with limits01 F (length v) ≡ lists (finished (state F r w')) = lowered_is (length v) room ∙ lists_are h in
      record { answer = (_, e); number = rw e; list_length = refl; whole_list = rw e k }

  pub generated_lists : {w'' : List ℕ} → IsNone r.refused → ((v : List ℕ) → Copied w'' v → Holds limits01 F (finished (state F r w')) v) → Generated F (Ok tt) w''
  generated_lists h k = λ v c. lowers_lists h v c.room (k v c)

  pub generated_refusal : (w'' : List ℕ) → IsSome r.refused → {e : Refusal} → number_of e ≡ refusal_of r.refused → Generated F (Err e) w''
  generated_refusal w'' h {e} q = λ n room. refuses F n e (lowered_is n room ∙ refusal_is h ∙ ap refusal (sym q))

pub the_words : {w w' v : List ℕ} → w' ≡ w → Copied w' v → Copied w v
the_words e c = rw e at c

-- the refusals before any statement

short_slice : (F : List ℕ) (n : ℕ) → n < 16384 → lowered_with limits01 F n ≡ refusal 13
unfolding lowered_with
short_slice F n h = rw (lt-ltb n 16384 h)

refused_file : (F : List ℕ) (n k : ℕ) → 16384 ≤ n → check_of F ≡ suc k → lowered_with limits01 F n ≡ refusal (suc k)
unfolding lowered_with
refused_file F n k h e = rw (le-ltb n 16384 h, e)

pub too_short : (F : List ℕ) (n : ℕ) → n < 16384 → Lowers limits01 F n (Err ShortList) (zeros_of n)
too_short F n h = refuses F n ShortList (short_slice F n h)

not_accepted_at : (F : List ℕ) (n k : ℕ) (e : Refusal) → 16384 ≤ n → number_of e ≡ suc k → check_of F ≡ number_of e → Lowers limits01 F n (Err e) (zeros_of n)
not_accepted_at F n k e room s q = refuses F n e (refused_file F n k room (q ∙ s) ∙ ap refusal (sym s))

-- each refusal's number is there
some_number : (e : Refusal) → number_of e ≡ suc (number_of e - 1)
some_number BrokenRule = refl
some_number NotUtf8 = refl
some_number Unsupported = refl
some_number OverLimit = refl
some_number NotAssignable = refl
some_number SecondDefault = refl
some_number Negation = refl
some_number TooMany = refl
some_number ZeroByte = refl
some_number TooLong = refl
some_number TooFar = refl
some_number ShortOutput = refl
some_number ShortList = refl
some_number NotActions = refl

not_accepted : (F : List ℕ) (n : ℕ) (e : Refusal) → 16384 ≤ n → number_of e ≡ check_of F → Lowers limits01 F n (Err e) (zeros_of n)
not_accepted F n e room q = not_accepted_at F n _ e room (some_number e) (sym q)

pub refused_by_check : (F : List ℕ) (n : ℕ) (e : Refusal) → 16384 ≤ n → number_of e ≡ check_of F → (a : code.Result (Unit {0}) Refusal) → IsErrAnd a (λ y. y ≡ e) → Lowers limits01 F n a (zeros_of n)
refused_by_check F n e room q (Err y) p = rw p (not_accepted F n e room q)
refused_by_check F n e room q (Ok u) p = absurd p
