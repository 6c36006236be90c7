-- The search of the pool, and the builder after a string is added.
use Rattle.std.specs.Prelude.{ℕ, ◌+◌, ◌≡◌, List, map, get_or, set, Option, Some, None}
use Rattle.std.proofs.Math.Option as math
use Rattle.special_properties.specs.SpecialProperties.{same_bytes}
use Rattle.lowering.specs.Strings.{find}
use Rattle.list_slice.specs.File.{text_in}
use Rattle.codegen_state.specs.declared.BuilderState.{BuilderState}
use Rattle.codegen_state.specs.View.{pool_from}
use Rattle.codegen_state.specs.Index.{heads_from, links_from}

-- the place of the first string of a pool that has the bytes of the string s
abbrev pub place : List ℕ → (pool : List ℕ) → (s : ℕ) → math.Option ℕ
place F pool s = find (same_bytes (text_in F s)) 0 (map (text_in F) pool)

abbrev pub found_of : Option ℕ → math.Option ℕ
found_of (Some i) = math.some i
found_of None = math.none

-- a string more in the pool, which adds n to the total
abbrev pub added : BuilderState → (n : ℕ) → BuilderState
added b n = record {
  refused = b.refused;
  actions = b.actions;
  values = b.values;
  labels = b.labels;
  marks = b.marks;
  constants = b.constants + 1;
  total = b.total + n;
  lists = b.lists;
  size = b.size;
  sizes = b.sizes;
  low = b.low;
  top = b.top;
  base = b.base;
}

-- the words with it: its word, its link to the latest string with its hash h, and itself as the latest
abbrev pub joining : List ℕ → (n s h : ℕ) → List ℕ
joining w n s h = set (set (set w (pool_from + n) s) (links_from + n) (get_or w (heads_from + h) 0)) (heads_from + h) (n + 1)

pub record Added (b : BuilderState) (w : List ℕ) (s n h : ℕ) (r : BuilderState) (w' : List ℕ) : Type 0 where
  pub new : r ≡ added b n
  pub words : w' ≡ joining w b.constants s h
