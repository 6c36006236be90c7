-- The writer's answer, and what it leaves.
use Rattle.std.specs.Prelude.{ℕ, ◌-◌, ◌≤◌, ◌≡◌, List, [], ◌∷◌, ◌++◌, cond, leb, length, get_or, Result, Ok, Err}
use Rattle.refusal.specs.declared.Refusal.{Refusal}
use Rattle.refusal.specs.Refusal.{refusal_of}
use Rattle.lowering.specs.Builder.{limits01}
use Rattle.action_format.specs.Bytes.{Bytes}
use Rattle.list_slice.specs.Compiled.{lists_in}
use Rattle.definition.specs.Outcome.{Outcome, compiled, refused, number_of, length_of, output_of}
use Rattle.resolver.specs.Walk.{count_of}
use Rattle.action_writer.specs.Bodies.{body_at}

-- how many bytes were written, 0 after a refusal
abbrev pub length_is : Result ℕ Refusal → ℕ
length_is (Ok n) = n
length_is (Err e) = 0

-- the answer and the whole output are those of an outcome
pub record Leaves (o : Outcome) (room : ℕ) (r : Result ℕ Refusal) (output : List ℕ) : Type 0 where
  pub number : refusal_of r ≡ number_of o
  pub count : length_is r ≡ length_of o
  pub whole : output ≡ output_of o room

-- the top list's body and End
unfoldable pub top_bytes : List ℕ → List ℕ → Bytes
top_bytes F w = body_at F w (count_of w - 1) ++ (0 ∷ [])

unfoldable pub top_outcome : List ℕ → List ℕ → (room : ℕ) → Outcome
top_outcome F w room = cond (leb (length (top_bytes F w)) room) (compiled (top_bytes F w) (lists_in limits01 F w)) (refused 12)

-- the top list's bytes are known
pub record Measured (F w sizes : List ℕ) : Type 0 where
  pub some : 1 ≤ count_of w
  pub top : get_or sizes 0 0 ≡ length (body_at F w (count_of w - 1))
