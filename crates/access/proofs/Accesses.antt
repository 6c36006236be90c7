-- The ways through the functions of this crate.
use Prim.Native.Nat.{ℕ, ◌+◌, ◌-◌, ◌^◌, ◌≤◌, min}
use mathlib.Core.Path.{◌≡◌, refl, ◌∙◌}
use mathlib.Core.Logic.{◌⊎◌, inl, inr}
use mathlib.Core.Bool.{Bool, true, false}
use mathlib.Core.List.{List, []}
use native.Mathlib.Omega.{arith}
use Rattle.std.specs.Prelude.{Option, None, Some}
use lib.Dec.{T}
use lib.ListN.{length}
use Rattle.pcode.specs.declared.Op.{Op}
use Rattle.pcode.specs.Pcode.{Value, Null, Undefined, Integer, Plain, Delta, op}
use Rattle.pcode.specs.declared.PushValue.TheVariants as pushing
use Rattle.hir.specs.declared.ConstantKind.{ConstantKind}
use Rattle.hir.specs.declared.ConstantKind.TheVariants as constant
use Rattle.special_properties.specs.SpecialProperties.{same_bytes, null, undefined, get_special_property}
use Rattle.script_records.specs.Layout.{layout_of, string_at}
use Rattle.script.specs.Resolve.{constant_over}
use Rattle.lowering.specs.Builder.{State, Step, ◌>>◌, action_with_stack_delta, plain_action, push, push_string}
use Rattle.lowering.specs.Access.{Access, Variable, Direct, SpecialProperty, for_name, for_identifier, for_constant, set_value, get_and_set_value, store_register}
use Rattle.list_slice.specs.File.{text_in, names_string}
use Rattle.slice_words.proofs.Strings.{text_is}
use Rattle.codegen_state.specs.declared.Stop.{Stop}
use Rattle.codegen_state.specs.declared.BuilderState.{BuilderState}
use Rattle.codegen_state.specs.View.{state, Waiting, waiting, holds, unless, held, carry, after, value_in}
use Rattle.codegen_state.specs.Does.{Does}
use Rattle.builder.specs.declared.builder.CodeBuilder.{CodeBuilder}
use Rattle.builder.specs.Runs.{Runs}
use Rattle.tree.specs.Within.{constant_named}
use Rattle.constants.specs.declared.context.ScriptContext.{ScriptContext}
use Rattle.constants.specs.Acts.{Acts}
use Rattle.access.specs.Accesses.{access_of, pushed_direct, call_register}
use Rattle.access.specs.declared.Access as code
use Rattle.access.proofs.Chains.{row, leaves, runs_row}
use Rattle.access.proofs.Texts.{no_text_lem}

module _ (F : List ℕ) {b r : BuilderState} {w w' : List ℕ} where
  pub null_name : (s : ℕ) → same_bytes (text_in F s) null ≡ true → Does F (push Null) b w tt r w' →
      Does F (for_name (same_bytes (text_in F s) null) (same_bytes (text_in F s) undefined) (text_in F s)) b w Direct r w'
  null_name s e d = rw e (leaves (push Null) Direct d)

  pub undefined_name : (s : ℕ) → same_bytes (text_in F s) null ≡ false → same_bytes (text_in F s) undefined ≡ true → Does F (push Undefined) b w tt r w' →
      Does F (for_name (same_bytes (text_in F s) null) (same_bytes (text_in F s) undefined) (text_in F s)) b w Direct r w'
  undefined_name s e q d = rw (e, q) (leaves (push Undefined) Direct d)

  pub other_name : (s : ℕ) → same_bytes (text_in F s) null ≡ false → same_bytes (text_in F s) undefined ≡ false → Does F (push_string (text_in F s)) b w tt r w' →
      Does F (for_name (same_bytes (text_in F s) null) (same_bytes (text_in F s) undefined) (text_in F s)) b w Variable r w'
  other_name s e q d = rw (e, q) (leaves (push_string (text_in F s)) Variable d)

  pub property : {b1 : BuilderState} {w1 : List ℕ} (s : ℕ) {n : ℕ} → Some n ≡ get_special_property (text_in F s) →
      Does F (push_string (text_in F 4294967295)) b w tt b1 w1 → Does F (push (Integer n)) b1 w1 tt r w' → Does F (for_identifier (text_in F s)) b w SpecialProperty r w'
  property s {n} e d k = rw (← e) (leaves (push_string [] >> push (Integer n)) SpecialProperty (row (push_string []) (push (Integer n)) (rw (no_text_lem F) at d) k))

  pub no_property : (s : ℕ) {a : Access} → None ≡ get_special_property (text_in F s) →
      Does F (for_name (same_bytes (text_in F s) null) (same_bytes (text_in F s) undefined) (text_in F s)) b w a r w' → Does F (for_identifier (text_in F s)) b w a r w'
  no_property s e d = rw (← e) d

  pub string : {c : ConstantKind} {s : ℕ} → c ≡ constant.String s → length F ≤ 1048576 → T (constant_named F c) → (T (names_string F s) → Does F (push_string (text_in F s)) b w tt r w') →
      Does F (for_constant (constant_over (string_at F (layout_of F)) c)) b w Direct r w'
  string {s = s} e h t d = rw (e, ← text_is F s h) (leaves (push_string (text_in F s)) Direct (d (rw e at t)))

  pub identifier : {c : ConstantKind} {s : ℕ} {a : Access} → c ≡ constant.Identifier s → length F ≤ 1048576 → T (constant_named F c) →
      (T (names_string F s) → Does F (for_identifier (text_in F s)) b w a r w') → Does F (for_constant (constant_over (string_at F (layout_of F)) c)) b w a r w'
  identifier {s = s} e h t d = rw (e, ← text_is F s h) (d (rw e at t))

  pub boolean : {c : ConstantKind} {x : Bool} {a : Access} → c ≡ constant.Boolean x → Does F (pushed_direct (value_in F (pushing.Boolean x))) b w a r w' →
      Does F (for_constant (constant_over (string_at F (layout_of F)) c)) b w a r w'
  boolean {x = true} e d = rw e d
  boolean {x = false} e d = rw e d

  pub calls : {b1 b2 : BuilderState} {w1 w2 : List ℕ} (o : Op) (n s : ℕ) → Does F (push (Value.Register s)) b w tt b1 w1 → Does F (push Undefined) b1 w1 tt b2 w2 →
      Does F (plain_action (op o) (Delta.down (n + 2))) b2 w2 tt r w' → Does F (call_register o n s) b w tt r w'
  calls o n s d e k = row (push (Value.Register s) >> push Undefined) (plain_action (op o) (Delta.down (n + 2))) (row (push (Value.Register s)) (push Undefined) d e) k

-- the two constants that are strings, from the step that a context did
module _ {x y : ScriptContext} {c : ConstantKind} {s : ℕ} (h : length x.script.bytes.now ≤ 1048576) (t : T (constant_named x.script.bytes.now c)) where
  pub string_acts : c ≡ constant.String s → (T (names_string x.script.bytes.now s) → Acts (push_string (text_in x.script.bytes.now s)) x tt y) →
      Acts (for_constant (constant_over (string_at x.script.bytes.now (layout_of x.script.bytes.now)) c)) x Direct y
  string_acts e d = let a = d (rw e at t) in record { script = a.script; same_list = a.same_list; does = string x.script.bytes.now e h t (λ n. a.does) }

  pub identifier_acts : {a : Access} → c ≡ constant.Identifier s → (T (names_string x.script.bytes.now s) → Acts (for_identifier (text_in x.script.bytes.now s)) x a y) →
      Acts (for_constant (constant_over (string_at x.script.bytes.now (layout_of x.script.bytes.now)) c)) x a y
  identifier_acts e d = let a = d (rw e at t) in record { script = a.script; same_list = a.same_list; does = identifier x.script.bytes.now e h t (λ n. a.does) }

-- two falls of which both empty the stack are one
same_fall : (o : Option Stop) (s : State) (x : Waiting) (p : Plain) (d k : ℕ) → s.builder.size - d ≡ s.builder.size - k →
    after (unless o (holds (tt {0}) s x)) (plain_action p (Delta.down d)) ≡ after (unless o (holds (tt {0}) s x)) (plain_action p (Delta.down k))
unfolding after carry action_with_stack_delta
same_fall None s x p d k e = rw e
same_fall (Some n) s x p d k e = refl

-- a count with 1 or 2 more, at the largest word where it doesn't fit
pub falls : {F : List ℕ} {b r : CodeBuilder} (p : Plain) (k : ℕ) {d : ℕ} → d ≡ min k (2 ^ 32 - 1) → Runs F (plain_action p (Delta.down d)) b tt r → Runs F (plain_action p (Delta.down k)) b tt r
unfolding held state
falls {F} {b} p k {d} e x = record {
  keeps = x.keeps;
  does = record {
    same = x.does.same ∙ same_fall b.state.refused (state F b.state b.list.now) (waiting b.state b.list.now) p d k (omega (arith, b.fine.size, b.fine.actions, b.fine.values));
    fine = x.does.fine;
    named = x.does.named;
  };
}

-- what is set through register 0 is set, and left
pub through_0 : {a : code.Access} → (a ≡ code.TheVariants.Variable) ⊎ ((a ≡ code.TheVariants.Object) ⊎ (a ≡ code.TheVariants.SpecialProperty)) →
    get_and_set_value (access_of a) ≡ (store_register 0 >> set_value (access_of a) >> push (Value.Register 0))
through_0 (inl e) = rw e refl
through_0 (inr (inl e)) = rw e refl
through_0 (inr (inr e)) = rw e refl

pub sets : {F : List ℕ} {b c d r : CodeBuilder} (s : Step) → Runs F (store_register 0) b tt c → Runs F s c tt d → Runs F (push (Value.Register 0)) d tt r →
    Runs F (store_register 0 >> s >> push (Value.Register 0)) b tt r
sets s x y z = runs_row (store_register 0 >> s) (push (Value.Register 0)) (runs_row (store_register 0) s x y) z
