-- Where records stand and branches land (document 01, 'The words of demand 3').
use Rattle.std.specs.Prelude.{ℕ, suc, ◌≤◌, ◌≡◌, ◌++◌, length}
use Rattle.std.proofs.Math.Option.{some}
use Rattle.pcode.specs.Pcode.{Branching}
use Rattle.action_format.specs.Lists.{Lists, branching}
use Rattle.action_format.specs.Bytes.{Bytes, single_bytes}
use Rattle.action_format.specs.Offsets.{moved}
use Rattle.action_format.specs.ByList.{list_of, body_bytes, begins}

-- in the body of list k these bytes go from where place i begins to where the next one does
pub record Stands (l : Lists) (k i : ℕ) (own : Bytes) : Type 0 where
  pub before : Bytes
  pub after : Bytes
  pub in_body : body_bytes l k ≡ before ++ (own ++ after)
  pub starts : length before ≡ begins l k i
  pub ends : length (before ++ own) ≡ begins l k (suc i)

-- the branch that is action i of list k lands where place p begins in its own body: the byte after its record, moved by its offset
pub record Lands (l : Lists) (k i : ℕ) (b : Branching) (p : ℕ) : Type 0 where
  pub offset_is : ℕ
  pub stands : Stands l k i (single_bytes (branching b offset_is))
  pub lands : moved (length (stands.before ++ single_bytes (branching b offset_is))) offset_is ≡ some (begins l k p)
  pub inside : p ≤ length (list_of l k)
