-- What it means that a method of a CodeBuilder does a step.
use Rattle.std.specs.Prelude.{ℕ, ◌≡◌, ◌≤◌, ◌<◌, List, length, get_or}
use Rattle.pcode.specs.Pcode.{Header}
use Rattle.lowering.specs.Builder.{M}
use Rattle.list_slice.specs.Entry.{Piece, entry, entry_of}
use Rattle.codegen_state.specs.declared.BuilderState.{BuilderState}
use Rattle.codegen_state.specs.Does.{Does, Ends}
use Rattle.builder.specs.declared.builder.CodeBuilder.{CodeBuilder}

-- the words lent are the same ones
pub record SameList (b r : CodeBuilder) : Type 0 where
  pub name : r.list.ghost_name ≡ b.list.ghost_name
  pub long : length r.list.now ≡ length b.list.now

-- the pool and its index stay
pub record SamePool (b : BuilderState) (w : List ℕ) (r : BuilderState) (w' : List ℕ) : Type 0 where
  pub constants : r.constants ≡ b.constants
  pub words : (i : ℕ) → 14336 ≤ i → get_or w' i 0 ≡ get_or w i 0

-- what every method of a builder keeps
pub record Keeps (b r : CodeBuilder) : Type 0 where
  pub list : SameList b r
  pub pool : SamePool b.state b.list.now r.state r.list.now

-- from one builder to another the step m is done, with the value a
pub record Runs {A : Type 0} (F : List ℕ) (m : M A) (b : CodeBuilder) (a : A) (r : CodeBuilder) : Type 0 where
  pub keeps : Keeps b r
  pub does : Does F m b.state b.list.now a r.state r.list.now

-- a function's list ends
pub record EndsList (F : List ℕ) (h : Header) (b : CodeBuilder) (base size : ℕ) (r : CodeBuilder) : Type 0 where
  pub keeps : Keeps b r
  pub ends : Ends F h b.state b.list.now base size r.state r.list.now

-- a code and its first word are the entry of an action that is no value of a Push
pub record Emits (code first : ℕ) : Type 0 where
  pub piece : Piece
  pub entry_is : entry_of piece ≡ entry code first 0
  pub low : code < 0x120
