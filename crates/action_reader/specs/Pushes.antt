-- The values of a Push at their positions, and the entries that they leave.
use Rattle.std.specs.Prelude.{ℕ, ◌+◌, ◌≤◌, ◌≡◌, List, ◌++◌, map, reverse, length}
use Rattle.pcode.specs.Pcode.{Value}
use Rattle.action_format.specs.Bytes.{Bytes}
use Rattle.list_slice.specs.Entry.{Entry, entry_of}
use Rattle.list_slice.specs.Items.{push_pieces}
use Rattle.list_slice.specs.Read.{values_from}
use Rattle.record_reader.proofs.Laws.{ValuesAt}
use Rattle.action_reader.specs.Layout.{layout}

-- values stand from a byte to the end, as many as there is room for below an entry
pub record Values (b : Bytes) (from above : ℕ) : Type 0 where
  pub values : List Value
  pub there : ValuesAt b from values
  pub few : length values ≤ above

abbrev pub value_entries : ℕ → List Value → List Entry
value_entries p vs = map entry_of (reverse (push_pieces (values_from p vs)))

-- their entries stand above those that were there
pub record Pushed (b : Bytes) (from : ℕ) (vs : List Value) (above : ℕ) (w : List ℕ) (r : ℕ) (w' : List ℕ) : Type 0 where
  pub top : ValuesAt b from vs → r + length vs ≡ above
  pub words : ValuesAt b from vs → (low up : List Entry) (ends : List ℕ) → w ≡ layout low up ends (length w) → length up + above ≡ 4096 → length low + length vs ≤ above →
      w' ≡ layout low (value_entries from vs ++ up) ends (length w')
