-- What a writer has room for, and what it has written.
use Rattle.std.specs.Prelude.{ℕ, ◌+◌, ◌-◌, ◌≡◌, List}
use Rattle.byte_writer.specs.declared.Writer.{Writer}
use Rattle.byte_writer.specs.Written.{written_at, Room, Wrote}
use Rattle.byte_writer.specs.Data.{frame}

abbrev pub HasRoom : Writer → (bytes : List ℕ) → Type 0
HasRoom w bs = Room w.output.now w.at bs

-- from where it stood on, into the same output
pub record Writes (w : Writer) (bytes : List ℕ) (w' : Writer) : Type 0 where
  pub same_script : w'.script ≡ w.script
  pub same_output : w'.output.ghost_name ≡ w.output.ghost_name
  pub wrote : Wrote w.output.now w.at bytes w'.at w'.output.now

-- the code and the length of a record that began there, and whose data ends where it stands
pub record Frames (w : Writer) (begun code : ℕ) (w' : Writer) : Type 0 where
  pub same_script : w'.script ≡ w.script
  pub same_output : w'.output.ghost_name ≡ w.output.ghost_name
  pub same_place : w'.at ≡ w.at
  pub output : w'.output.now ≡ written_at w.output.now begun (frame code (w.at - (begun + 3)))
