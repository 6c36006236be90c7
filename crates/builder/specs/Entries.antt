-- Entries written, and the builders that come of it.
use Rattle.std.specs.Prelude.{ℕ, ◌+◌, ◌-◌, ◌*◌, ◌≡◌, List, Some, set}
use Rattle.codegen_state.specs.declared.Stop.{Stop}
use Rattle.codegen_state.specs.declared.BuilderState.{BuilderState}
use Rattle.builder.specs.Move.{Moved}

-- entry i is written
unfoldable pub put3 : List ℕ → (i code first second : ℕ) → List ℕ
put3 w i c x y = set (set (set w (i * 3) c) (i * 3 + 1) x) (i * 3 + 2) y

-- after a refusal
abbrev pub refused_with : BuilderState → Stop → BuilderState
refused_with b n = record {
  refused = Some n;
  actions = b.actions;
  values = b.values;
  labels = b.labels;
  marks = b.marks;
  constants = b.constants;
  total = b.total;
  lists = b.lists;
  size = b.size;
  sizes = b.sizes;
  low = b.low;
  top = b.top;
  base = b.base;
}

-- an entry more in the list under construction
abbrev pub grown : BuilderState → (actions values marks size : ℕ) → BuilderState
grown b n v m z = record {
  refused = b.refused;
  actions = b.actions + n;
  values = b.values + v;
  labels = b.labels;
  marks = b.marks + m;
  constants = b.constants;
  total = b.total;
  lists = b.lists;
  size = z;
  sizes = b.sizes;
  low = b.low;
  top = b.top - 1;
  base = b.base;
}

pub record Grown (b : BuilderState) (w : List ℕ) (code first second n v m z : ℕ) (r : BuilderState) (w' : List ℕ) : Type 0 where
  pub new : r ≡ grown b n v m z
  pub words : w' ≡ put3 w (b.top - 1) code first second

-- a mark more, and its label's word
pub record Marked (b : BuilderState) (w : List ℕ) (l : ℕ) (r : BuilderState) (w' : List ℕ) : Type 0 where
  pub new : r ≡ grown b 0 0 1 b.size
  pub words : w' ≡ set (put3 w (b.top - 1) 257 l 0) (12288 + l) 1

-- a function's list begins: the list before waits
abbrev pub begun : BuilderState → BuilderState
begun b = record {
  refused = b.refused;
  actions = b.actions;
  values = b.values;
  labels = b.labels;
  marks = b.marks;
  constants = b.constants;
  total = b.total;
  lists = b.lists;
  size = 0;
  sizes = b.sizes + b.size;
  low = b.low;
  top = b.top;
  base = b.top;
}

-- it ends: its list has moved to the finished ones, and the list before has an entry more
abbrev pub ended : BuilderState → (base size up low : ℕ) → BuilderState
ended b base size up low = record {
  refused = b.refused;
  actions = b.actions + 1;
  values = b.values;
  labels = b.labels;
  marks = b.marks;
  constants = b.constants;
  total = b.total;
  lists = b.lists + 1;
  size = size + up;
  sizes = b.sizes - size;
  low = low;
  top = b.base - 1;
  base = base;
}

pub record Closed (b : BuilderState) (w : List ℕ) (base size number up : ℕ) (r : BuilderState) (w' : List ℕ) : Type 0 where
  pub low : ℕ
  pub moved : List ℕ
  pub moves : Moved w b.low b.top low b.base moved
  pub new : r ≡ ended b base size up low
  pub words : w' ≡ put3 (set moved (13312 + b.lists) low) (b.base - 1) 256 (b.lists + 1) number
