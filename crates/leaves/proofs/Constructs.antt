-- What the steps of a loop's target do together.
use Prim.Native.Nat.{ℕ, ◌≤◌}
use mathlib.Core.Path.{◌≡◌}
use mathlib.Core.Bool.{Bool, true, false}
use mathlib.Core.List.{List}
use lib.ListN.{length}
use Rattle.pcode.specs.declared.Op.TheVariants.{DefineLocal, Pop}
use Rattle.pcode.specs.Pcode.{Value}
use Rattle.hir.specs.declared.EnumeratorTarget.{EnumeratorTarget}
use Rattle.hir.specs.declared.EnumeratorTarget.TheVariants as target
use Rattle.script_records.specs.Layout.{layout_of, string_at}
use Rattle.script.specs.Resolve.{target_over}
use Rattle.lowering.specs.Builder.{◌>>◌, action, push, push_string}
use Rattle.lowering.specs.Access.{Access, for_identifier, set_value, store_register}
use Rattle.lowering.specs.Statement.{gen_target}
use Rattle.list_slice.specs.File.{text_in}
use Rattle.codegen_state.specs.declared.BuilderState.{BuilderState}
use Rattle.codegen_state.specs.Does.{Does}
use Rattle.access.proofs.Chains.{row, bound}
use Rattle.slice_words.proofs.Strings.{text_is}

module _ (F : List ℕ) {b b1 b2 r : BuilderState} {w w1 w2 w' : List ℕ} {t : EnumeratorTarget} where
  pub declared : {s : ℕ} {d : Bool} → t ≡ target.Variable s d → d ≡ true → length F ≤ 1048576 → Does F (push_string (text_in F s)) b w tt b1 w1 →
      Does F (push (Value.Register 0)) b1 w1 tt b2 w2 → Does F (action DefineLocal) b2 w2 tt r w' → Does F (gen_target (target_over (string_at F (layout_of F)) t)) b w tt r w'
  declared {s = s} e q h x y z =
      rw (e, q, ← text_is F s h)
      (row (push_string (text_in F s) >> push (Value.Register 0)) (action DefineLocal) (row (push_string (text_in F s)) (push (Value.Register 0)) x y) z)

  pub variable : {s : ℕ} {d : Bool} {a : Access} → t ≡ target.Variable s d → d ≡ false → length F ≤ 1048576 → Does F (for_identifier (text_in F s)) b w a b1 w1 →
      Does F (push (Value.Register 0)) b1 w1 tt b2 w2 → Does F (set_value a) b2 w2 tt r w' → Does F (gen_target (target_over (string_at F (layout_of F)) t)) b w tt r w'
  variable {s = s} {a = a} e q h x y z =
      rw (e, q, ← text_is F s h)
      (bound (for_identifier (text_in F s)) (λ (a : Access). push (Value.Register 0) >> set_value a) x (row (push (Value.Register 0)) (set_value a) y z))

  pub register : {n : ℕ} → t ≡ target.Register n → Does F (push (Value.Register 0)) b w tt b1 w1 → Does F (store_register n) b1 w1 tt b2 w2 →
      Does F (action Pop) b2 w2 tt r w' → Does F (gen_target (target_over (string_at F (layout_of F)) t)) b w tt r w'
  register {n = n} e x y z =
      rw e (row (push (Value.Register 0) >> store_register n) (action Pop) (row (push (Value.Register 0)) (store_register n) x y) z)
