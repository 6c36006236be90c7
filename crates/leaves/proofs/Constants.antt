-- What a constant's steps do as an expression.
use Prim.Native.Nat.{ℕ, ◌+◌, ◌*◌, ◌≤◌}
use mathlib.Core.Path.{◌≡◌}
use mathlib.Core.Bool.{Bool}
use mathlib.Core.List.{List}
use lib.Dec.{T}
use lib.IntN.{ℤ}
use lib.ListN.{length}
use Rattle.pcode.specs.Pcode.{Value, Integer, Float}
use Rattle.hir.specs.declared.ConstantKind.{ConstantKind}
use Rattle.hir.specs.declared.ConstantKind.TheVariants as constant
use Rattle.script_records.specs.Layout.{layout_of, string_at}
use Rattle.decode.specs.Numbers.{unsigned}
use Rattle.script.specs.Resolve.{constant_over}
use Rattle.lowering.specs.Builder.{Step, ◌>>=◌, push, push_string}
use Rattle.lowering.specs.Access.{Access, Direct, ◌gives◌, boolean, for_identifier, for_constant, get_value}
use Rattle.list_slice.specs.File.{text_in, names_string}
use Rattle.codegen_state.specs.declared.BuilderState.{BuilderState}
use Rattle.codegen_state.specs.Does.{Fine, Does}
use Rattle.codegen_state.proofs.Steps.{idle, returned}
use Rattle.tree.specs.Within.{constant_named}
use Rattle.access.proofs.Chains.{bound, leaves}
use Rattle.slice_words.proofs.Strings.{text_is}

abbrev pub Reads : List ℕ → ConstantKind → BuilderState → List ℕ → BuilderState → List ℕ → Type 0
Reads F c b w r w' = Does F (for_constant (constant_over (string_at F (layout_of F)) c) >>= get_value) b w tt r w'

module _ (F : List ℕ) {b r : BuilderState} {w w' : List ℕ} where
  -- a value that is pushed is direct: nothing more is done to read it
  direct : (m : Step) → Does F m b w tt r w' → Does F ((m gives Direct) >>= get_value) b w tt r w'
  direct m d = bound (m gives Direct) get_value (leaves m Direct d) (idle d.fine)

module _ (F : List ℕ) {b r : BuilderState} {w w' : List ℕ} {c : ConstantKind} where
  pub string : {s : ℕ} → c ≡ constant.String s → length F ≤ 1048576 → T (constant_named F c) → (T (names_string F s) → Does F (push_string (text_in F s)) b w tt r w') → Reads F c b w r w'
  string {s} e h t d = rw (e, ← text_is F s h) (direct F (push_string (text_in F s)) (d (rw e at t)))

  pub identifier : {s : ℕ} {a : Access} {b1 : BuilderState} {w1 : List ℕ} → c ≡ constant.Identifier s → length F ≤ 1048576 → T (constant_named F c) →
      (T (names_string F s) → Does F (for_identifier (text_in F s)) b w a b1 w1) → Does F (get_value a) b1 w1 tt r w' → Reads F c b w r w'
  identifier {s} e h t d k = rw (e, ← text_is F s h) (bound (for_identifier (text_in F s)) get_value (d (rw e at t)) k)

  pub float : {low high : ℕ} → c ≡ constant.Float low high → Does F (push (Float (low + 0x1_0000_0000 * high))) b w tt r w' → Reads F c b w r w'
  float {low} {high} e d = rw e (direct F (push (Float (low + 0x1_0000_0000 * high))) d)

  pub integer : {n : ℤ} → c ≡ constant.Integer n → Does F (push (Integer (unsigned n))) b w tt r w' → Reads F c b w r w'
  integer {n} e d = rw e (direct F (push (Integer (unsigned n))) d)

  pub truth : {x : Bool} → c ≡ constant.Boolean x → Does F (push (boolean x)) b w tt r w' → Reads F c b w r w'
  truth {x} e d = rw e (direct F (push (boolean x)) d)

  pub register : {n : ℕ} → c ≡ constant.Register n → Fine b w → Does F (push (Value.Register n)) b w tt r w' → Reads F c b w r w'
  register {n} e f d = rw e (bound (for_constant (constant_over (string_at F (layout_of F)) (constant.Register n))) get_value (returned f) d)
