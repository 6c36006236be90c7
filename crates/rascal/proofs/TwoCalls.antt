-- Demand 3, of what two calls leave.
use Prim.Native.Nat.{ℕ, ◌-◌}
use mathlib.Core.Path.{◌≡◌, ap, sym, ◌∙◌, subst}
use mathlib.Core.Logic.{◌↔◌}
use mathlib.Core.List.{List, [], ◌∷◌, ◌++◌}
use mathlib.Core.Option.{some}
use lib.ListN.{length, get_elem?, take, replicate}
use lib.Seq.{take-append_seam}
use Rattle.pcode.specs.Pcode.{Header, Branching, branch, define, Item}
use Rattle.lowering.specs.Builder.{limits01}
use Rattle.action_format.specs.ByPlace.{actions}
use Rattle.action_format.specs.Bytes.{header_bytes}
use Rattle.action_format.specs.ByList.{list_of, body_bytes}
use Rattle.action_format.specs.Landing.{Stands}
use Rattle.list_slice.specs.Compiled.{Holds}
use Rattle.definition.specs.Outcome.{Outcome, compiled, by_place, length_of, output_of}
use Rattle.definition.specs.Compile.{compile_of}
use Rattle.definition.specs.Demand3.{Begins, AreSameLists, list_at, LandsAtItsMark}
use Rattle.definition.specs.Left.{LeftList, outcome_lists}
use Rattle.definition.proofs.Theorems as definition
use Rattle.rascal.specs.TwoCalls.{Call, call_bytes, lists_of_outcome, call_lists}

-- the call's outcome, in its own words
record Success (c : Call) : Type 0 where
  bytes : List ℕ
  lists : List (List Item)
  is : compile_of c.file c.list_words c.room ≡ compiled bytes lists

success : (c : Call) → Success c
success c =
    let x = (definition.number_0_exactly c.file c.list_words c.room).0 (sym c.compiles.answer) in
    record { bytes = x.0; lists = x.1; is = x.2 }

module _ (c : Call) where
  abbrev s : Success c
  s = success c

  bytes_are : call_bytes c ≡ s.bytes
  bytes_are =
      let long : c.length' ≡ length s.bytes = c.compiles.bytes ∙ ap length_of s.is in
      let out : c.output ≡ s.bytes ++ replicate (c.room - length s.bytes) 0 = c.compiles.whole_output ∙ ap (λ (o : Outcome). output_of o c.room) s.is in
      ap (λ (k : ℕ). take k c.output) long ∙ ap (take (length s.bytes)) out ∙ take-append_seam s.bytes (replicate (c.room - length s.bytes) 0)

  lists_are : call_lists c ≡ s.lists
  lists_are = ap lists_of_outcome s.is

  outcome_is : compile_of c.file c.list_words c.room ≡ compiled (call_bytes c) (call_lists c)
  outcome_is = s.is ∙ ap (λ (b : List ℕ). compiled b s.lists) (sym bytes_are) ∙ ap (compiled (call_bytes c)) (sym lists_are)

  -- the list slice holds the call's lists
  pub slice_holds : Holds limits01 c.file (call_lists c) c.list
  slice_holds =
      subst (λ (ls : List (List Item)). Holds limits01 c.file ls c.list) (sym lists_are)
      (subst (λ (o : Outcome). LeftList limits01 c.file (outcome_lists o) c.list) s.is c.compiles.whole_list)

  -- for every Jump and If of every list, function bodies included, its own list marks its label at exactly one place, and the branch lands there, in its own
  -- body: on the first byte of one of that list's actions or at that body's end
  pub branches_land : (k i : ℕ) (j : Branching) (label : ℕ) → get_elem? (actions (list_at (call_lists c) k)) i ≡ some (branch j label) →
      LandsAtItsMark (call_lists c) k i j label
  branches_land = definition.branches_land c.file c.list_words c.room c.of_bytes (call_bytes c) (call_lists c) outcome_is

  -- the top list's body is all the call's bytes before its End byte; a function's is those its record counts, and stands after that record
  pub top_list_body : call_bytes c ≡ body_bytes (by_place (call_lists c)) 0 ++ (0 ∷ [])
  top_list_body = definition.top_list_body c.file c.list_words c.room c.of_bytes (call_bytes c) (call_lists c) outcome_is

  pub function_body : (k i : ℕ) (h : Header) (j : ℕ) → get_elem? (list_of (by_place (call_lists c)) k) i ≡ some (define h j) →
      Stands (by_place (call_lists c)) k i (header_bytes h (length (body_bytes (by_place (call_lists c)) j)) ++ body_bytes (by_place (call_lists c)) j)
  function_body = definition.function_body c.file c.list_words c.room c.of_bytes (call_bytes c) (call_lists c) outcome_is

-- of two calls that compile, one's bytes are the beginning of the other's, or all of it, exactly if their lists are the same by place; the bytes are then equal
pub two_calls : (c d : Call) → (Begins (call_bytes c) (call_bytes d) ↔ AreSameLists (call_lists c) (call_lists d)) ×
    (AreSameLists (call_lists c) (call_lists d) → call_bytes c ≡ call_bytes d)
two_calls c d =
    definition.two_scripts c.file d.file c.of_bytes d.of_bytes c.list_words c.room d.list_words d.room (call_bytes c) (call_bytes d)
    (call_lists c) (call_lists d) (outcome_is c) (outcome_is d)
