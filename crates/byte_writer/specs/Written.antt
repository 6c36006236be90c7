-- Bytes written into an output from a position on.
use Rattle.std.specs.Prelude.{ℕ, ◌+◌, ◌≤◌, ◌≡◌, List, [], ◌∷◌, length, set}

unfoldable pub written_at : List ℕ → (at : ℕ) → (bytes : List ℕ) → List ℕ
written_at o at [] = o
written_at o at (b ∷ bs) = written_at (set o at b) (at + 1) bs

-- there is room for them
abbrev pub Room : List ℕ → (at : ℕ) → (bytes : List ℕ) → Type 0
Room o at bs = at + length bs ≤ length o

-- the position after them, and the output with them
pub record Wrote (o : List ℕ) (at : ℕ) (bytes : List ℕ) (next : ℕ) (o' : List ℕ) : Type 0 where
  pub after : next ≡ at + length bytes
  pub output : o' ≡ written_at o at bytes
  pub long : length o' ≡ length o
