-- Where a branch leads.
use Rattle.std.specs.Prelude.{ℕ, Option, Some, None, cond}
use Rattle.action_reader.specs.Walk.{aim, aimable}

abbrev pub target_of : (position offset : ℕ) → Option ℕ
target_of p o = cond (aimable p o) (Some (aim p o)) None
