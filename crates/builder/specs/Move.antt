-- A list that moves down to the finished ones.
use Rattle.std.specs.Prelude.{ℕ, ◌+◌, ◌≤◌, ◌<◌, ◌≡◌, List, length, drop}
use Rattle.list_slice.specs.Entry.{entry}
use Rattle.list_slice.specs.Words.{entry_at}

-- zeros between where the list goes and where it stands
pub record Movable (w : List ℕ) (to from end : ℕ) : Type 0 where
  pub long : 12288 ≤ length w
  pub down : to ≤ from
  pub whole : from ≤ end
  pub cap : end ≤ 4096
  pub gap : (i : ℕ) → to ≤ i → i < from → entry_at w i ≡ entry 0 0 0

-- the entries from `from` to `top` now stand from `to` to `low`, and zeros between
pub record Moved (w : List ℕ) (to from low top : ℕ) (w' : List ℕ) : Type 0 where
  pub moved : (k : ℕ) → to + k < low → entry_at w' (to + k) ≡ entry_at w (from + k)
  pub above : (i : ℕ) → top ≤ i → entry_at w' i ≡ entry_at w i
  pub below : (i : ℕ) → i < to → entry_at w' i ≡ entry_at w i
  pub side : drop 12288 w' ≡ drop 12288 w
  pub gap : (i : ℕ) → low ≤ i → i < top → entry_at w' i ≡ entry 0 0 0
  pub step : low + from ≡ top + to
  pub started : from ≤ top
  pub long : length w' ≡ length w
