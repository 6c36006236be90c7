-- Lowering and writing joined: what they leave is what the compile call's definition says.
use Prim.Native.Nat.{ℕ, ◌-◌, ◌≤◌, ◌<◌}
use mathlib.Core.Path.{◌≡◌, refl, ap, sym, ◌∙◌}
use mathlib.Core.List.{List, [], ◌∷◌, ◌++◌}
use mathlib.Core.Bool.{Bool, true, false}
use native.Mathlib.Omega.{arith}
use lib.Dec.{leb}
use lib.ListN.{length, length-append, replicate, length-replicate}
use borrow.Author.Tests.{le-ltb}
use Rattle.lowering.specs.Builder.{limits01}
use Rattle.list_slice.specs.Words.{zeros_of}
use Rattle.list_slice.proofs.Areas.{zeros_length}
use Rattle.zeros.proofs.Clearing.{zeros_zeros}
use Rattle.action_format.specs.Lists.{Lists}
use Rattle.action_format.specs.Strings.{zero_free}
use Rattle.action_format.specs.Code.{code}
use Rattle.action_format.specs.Bytes.{code_bytes}
use Rattle.action_format.specs.Offsets.{by_offset, all_near}
use Rattle.action_format.specs.Encode as action_format
use Rattle.action_format.specs.Encode.{encode, short, unless_refused}
use Rattle.definition.specs.Outcome.{Outcome, compiled, refused, by_place, output_of}
use Rattle.definition.specs.Outcome as definition
use Rattle.definition.specs.Compile.{lists_of, lowered_with, written, if_lowered, compile_with}
use Rattle.definition.specs.Left.{Compiles, LeftList, outcome_lists}
use Rattle.definition.proofs.Ways.{lowered_by}
use Rattle.as2_codegen.specs.Lowering.{Lowers}
use Rattle.resolver.specs.Lowered.{Lowered}
use Rattle.std.specs.Prelude.{Result, Ok, Err, IfOk}
use Rattle.refusal.specs.declared.Refusal.{Refusal}
use Rattle.refusal.specs.Refusal.{number_of, refusal_of}
use Rattle.action_reader.specs.Answers.{length_of}
use Rattle.action_writer.specs.Outcomes.{Leaves}

-- what writing gives: bytes, of which there are some, or a refusal from 9 on
module _ where
  pub record Known (y : action_format.Answer) : Type 0 where
    pub filled : (b : List ℕ) → y ≡ action_format.bytes b → 0 < length b
    pub late : (k : ℕ) → y ≡ action_format.refused k → 9 ≤ k

  known_refused : (k : ℕ) → 9 ≤ k → Known (action_format.refused k)
  known_refused k h = record {
    filled = λ b e. let z : ◌≡◌ {A = ℕ} 0 1 = cc in absurd (omega arith);
    late = λ m e. let q : k ≡ m = cc in omega arith;
  }

  by_tests : (a b c d : Bool) (y : action_format.Answer) → Known y → Known (unless_refused ((a, 9) ∷ (b, 10) ∷ (c, 11) ∷ (d, 12) ∷ []) y)
  by_tests false b c d y h = known_refused 9 (omega arith)
  by_tests true false c d y h = known_refused 10 (omega arith)
  by_tests true true false d y h = known_refused 11 (omega arith)
  by_tests true true true false y h = known_refused 12 (omega arith)
  by_tests true true true true y h = h

  some_bytes : (c b : List ℕ) → action_format.bytes (c ++ (0 ∷ [])) ≡ action_format.bytes b → 0 < length b
  some_bytes c b e =
      let q : c ++ (0 ∷ []) ≡ b = cc in
      rw (← q, length-append c (0 ∷ [])) (omega arith)

  known : (l : Lists) (room : ℕ) → Known (encode l room)
  unfolding encode
  known l room = by_tests (zero_free l) (short (code l)) (all_near (code l)) (leb (length (action_format.written (code l))) room) (action_format.bytes (action_format.written (code l)))
      (record { filled = λ b e. some_bytes (code_bytes (by_offset (code l))) b e; late = λ k e. let z : ◌≡◌ {A = ℕ} 0 1 = cc in absurd (omega arith) })

module _ (F : List ℕ) (n : ℕ) (w : List ℕ) where
  -- lists were made: what the writer asks
  pub lowered_lists : {u : Unit {0}} → Lowers limits01 F n (Ok u) w → Lowered F w
  lowered_lists l =
      let y = lowered_by limits01 F n l.answer.0 l.answer.1 in
      record { lists = l.answer.0; holds = rw l.answer.1 at l.whole_list; from = y.from; accepted = y.accepted }

  pub lowered_room : {u : Unit {0}} → Lowers limits01 F n (Ok u) w → 16384 ≤ n
  lowered_room l = (lowered_by limits01 F n l.answer.0 l.answer.1).in_slice_lem

  -- none were made
  pub refused_lowering : (room : ℕ) (e : Refusal) (out : List ℕ) → out ≡ zeros_of room → Lowers limits01 F n (Err e) w → Compiles limits01 F n room (number_of e) 0 out w
  unfolding zeros_of compile_with
  refused_lowering room e out zeros l =
      let q : compile_with limits01 F n room ≡ refused (number_of e) = rw l.answer in
      record { answer = rw q; bytes = rw q; whole_output = rw q zeros; list_length = l.list_length; whole_list = rw q (rw l.answer at l.whole_list) }

-- lists that were made, and what the writer left
module _ (F w : List ℕ) (h : Lowered F w) (n room : ℕ) (long : 16384 ≤ n) where
  abbrev outcome : Outcome
  outcome = if_lowered (lists_of limits01 F) room

  is : compile_with limits01 F n room ≡ outcome
  unfolding compile_with lowered_with
  is = rw (le-ltb n 16384 long, h.accepted)

  of_lists : outcome ≡ written h.lists (encode (by_place h.lists) room)
  of_lists = rw h.from

  holding : (y : action_format.Answer) → Known y → 0 ≡ definition.number_of (written h.lists y) → LeftList limits01 F (outcome_lists (written h.lists y)) w
  holding (action_format.bytes b) k e = h.holds
  holding (action_format.refused m) k e = absurd (omega (arith, k.late m refl))

  cleared : (y : action_format.Answer) → Known y → 0 ≡ definition.length_of (written h.lists y) → LeftList limits01 F (outcome_lists (written h.lists y)) (zeros_of n)
  cleared (action_format.bytes b) k e = absurd (omega (arith, k.filled b refl))
  cleared (action_format.refused m) k e = zeros_zeros n

  pub wrote_bytes : (k : ℕ) (out : List ℕ) → 0 ≡ definition.number_of outcome → k ≡ definition.length_of outcome → out ≡ output_of outcome room → length w ≡ n →
      Compiles limits01 F n room 0 k out w
  wrote_bytes k out a b c l = record {
    answer = a ∙ ap definition.number_of (sym is);
    bytes = b ∙ ap definition.length_of (sym is);
    whole_output = c ∙ ap (λ (o : Outcome). output_of o room) (sym is);
    list_length = l;
    whole_list = rw (is, of_lists) (holding (encode (by_place h.lists) room) (known (by_place h.lists) room) (rw of_lists at a));
  }

  pub refused_writing : (k : ℕ) (out : List ℕ) → k ≡ definition.number_of outcome → 0 ≡ definition.length_of outcome → out ≡ output_of outcome room →
      Compiles limits01 F n room k 0 out (zeros_of n)
  refused_writing k out a b c = record {
    answer = a ∙ ap definition.number_of (sym is);
    bytes = b ∙ ap definition.length_of (sym is);
    whole_output = c ∙ ap (λ (o : Outcome). output_of o room) (sym is);
    list_length = zeros_length n;
    whole_list = rw (is, of_lists) (cleared (encode (by_place h.lists) room) (known (by_place h.lists) room) (rw of_lists at b));
  }

  module _ (r : Result ℕ Refusal) (out : List ℕ) (left : Leaves outcome room r out) where
    pub when_written : {k : ℕ} → r ≡ Ok k → length w ≡ n → Compiles limits01 F n room 0 k out w
    when_written {k} e l = let h = rw e at left in wrote_bytes k out h.number h.count h.whole l

    pub when_refused : {e : Refusal} → r ≡ Err e → Compiles limits01 F n room (number_of e) 0 out (zeros_of n)
    when_refused {e} q = let h = rw q at left in refused_writing (number_of e) out h.number h.count h.whole

-- by the answer of lowering
module _ (F : List ℕ) (n : ℕ) (w : List ℕ) (r : Result (Unit {0}) Refusal) (l : Lowers limits01 F n r w) where
  pub when_lists : {u : Unit {0}} → r ≡ Ok u → Lowered F w
  when_lists e = lowered_lists F n w (rw e at l)

  pub when_room : {u : Unit {0}} → r ≡ Ok u → 16384 ≤ length w
  when_room e = rw l.list_length (lowered_room F n w (rw e at l))

  pub when_stopped : (room : ℕ) (e : Refusal) (out : List ℕ) → out ≡ zeros_of room → r ≡ Err e → Compiles limits01 F n room (number_of e) 0 out w
  when_stopped room e out z q = refused_lowering F n w room e out z (rw q at l)

-- a call's bytes lie in its output
module _ (F : List ℕ) (n room : ℕ) where
  in_room : (o : Outcome) (k : ℕ) (out : List ℕ) → k ≡ definition.length_of o → out ≡ output_of o room → length out ≡ room → k ≤ room
  in_room (compiled b ls) k out e q l = omega (arith, ap length q, length-append b (replicate (room - length b) 0), length-replicate {A = ℕ} (room - length b) 0)
  in_room (refused m) k out e q l = omega arith

  pub in_output : (r : Result ℕ Refusal) (out w : List ℕ) → Compiles limits01 F n room (refusal_of r) (length_of r) out w → length out ≡ room → IfOk r (λ k. k ≤ length out)
  in_output (Ok k) out w c l = rw l (in_room (compile_with limits01 F n room) k out c.bytes c.whole_output l)
  in_output (Err e) out w c l = tt
