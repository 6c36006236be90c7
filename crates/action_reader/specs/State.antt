-- The states that come of a step.
use Rattle.std.specs.Prelude.{ℕ, zero, suc, ◌+◌, ◌-◌, ◌<◌, [], ◌∷◌, ◌++◌, Bool, true, false, ◌&&◌, eqb, length, get_or, take, drop}
use Rattle.std.specs.Borrow.{Bor}
use Rattle.action_format.specs.Bytes.{Bytes}
use Rattle.action_reader.specs.declared.walk.Span.{Span}
use Rattle.action_reader.specs.declared.walk.Walk.{Walk}

-- End, and nothing after it
abbrev pub is_end : Bytes → Bool
is_end [] = false
is_end (zero ∷ []) = true
is_end (zero ∷ (b ∷ r)) = false
is_end (suc b ∷ r) = false

-- how many lists are around the present one
abbrev pub depth : Walk → ℕ
depth s = length s.outer.items

abbrev pub is_over : Walk → Bool
is_over s = eqb (depth s) 0 && is_end (drop s.at s.bytes.now)

-- there is room for one more action
pub record Roomy (s : Walk) : Type 0 where
  pub places : length s.table.items < 1024
  pub actions : s.actions < 1024
  pub near : s.at < 4294967296

-- an action's record is read
abbrev pub advanced : Walk → (next : ℕ) → Walk
advanced s next = record s { at = next; actions = s.actions + 1; table = record { items = s.table.items ++ (s.at ∷ []) } }

-- an action of one entry
abbrev pub single_after : Walk → (next : ℕ) → Walk
single_after s next = advanced (record s { top = s.top - 1 }) next

-- a function's body begins
abbrev pub open_after : Walk → (size next : ℕ) → Walk
open_after s size next = record (advanced s next) {
  span = record { end = next + size; base = s.top; first = length s.table.items + 1 };
  outer = record { items = s.outer.items ++ (s.span ∷ []) };
}

-- so many values of one Push, whose entries end below `top`
abbrev pub push_after : Walk → (values next : ℕ) → Walk
push_after s n next = advanced (record s { top = s.top - n; values = s.values + n }) next

abbrev pub no_span : Span
no_span = record { end = 0; base = 0; first = 0 }

-- a body has ended; its list's entries end below entry `low`
abbrev pub close_after : Walk → (low : ℕ) → Walk
close_after s low = record s {
  span = get_or s.outer.items (depth s - 1) no_span;
  low = low;
  top = s.span.base - 1;
  lists = s.lists + 1;
  table = record { items = take s.span.first s.table.items };
  outer = record { items = take (depth s - 1) s.outer.items };
}

-- after the pool
abbrev pub fresh_walk : Bor Bytes → (next pool : ℕ) → Walk
fresh_walk b next pool = record {
  bytes = b;
  at = next;
  span = record { end = length b.now; base = 4096; first = 0 };
  actions = 1;
  values = 0;
  low = 0;
  top = 4095;
  lists = 0;
  pool = pool;
  table = record { items = 0 ∷ [] };
  outer = record { items = [] };
}
