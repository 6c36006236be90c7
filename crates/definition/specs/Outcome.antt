-- What a call gives: its lists, or the number of the one refusal; and what it leaves, its length and its output.
use Rattle.std.specs.Prelude.{ℕ, ◌-◌, List, [], ◌∷◌, ◌++◌, length, replicate}
use Rattle.pcode.specs.Pcode.{Item}
use Rattle.lowering.specs.Builder.{Limits}
use Rattle.action_format.specs.Lists.{Lists, lists_by_place}
use Rattle.action_format.specs.Rules as bytes

-- compiled: a call's bytes, and its lists, list 0 first, each branch with its label and each mark in its place
pub data Outcome : Type 0 where
  compiled : (bytes : List ℕ) → (lists : List (List Item)) → Outcome
  refused : (number : ℕ) → Outcome

-- read: the lists by place, and how many bytes were read
pub data Reading : Type 0 where
  read : (lists : Lists) → (length' : ℕ) → Reading
  refused : (number : ℕ) → Reading

-- by place: each Jump and If names, instead of its label, the place where its own list marks that label; marks go, all else stays
abbrev pub by_place : List (List Item) → Lists
by_place [] = record { top = []; functions = [] }
by_place (t ∷ fs) = lists_by_place t fs

-- the refusal's number, 0 for none
abbrev pub number_of : Outcome → ℕ
number_of (compiled b ls) = 0
number_of (refused n) = n

-- length is the bytes written
abbrev pub length_of : Outcome → ℕ
length_of (compiled b ls) = length b
length_of (refused n) = 0

-- the output as a call leaves it, in all its room: the bytes, then zeros
abbrev pub output_of : Outcome → (room : ℕ) → List ℕ
output_of (compiled b ls) room = b ++ replicate (room - length b) 0
output_of (refused n) room = replicate room 0

abbrev pub read_number_of : Reading → ℕ
read_number_of (read ls n) = 0
read_number_of (refused n) = n

-- length is the bytes read
abbrev pub read_length_of : Reading → ℕ
read_length_of (read ls n) = n
read_length_of (refused n) = 0

-- the limits of lists without labels
abbrev pub byte_limits : Limits → bytes.Limits
byte_limits lim = record { actions = lim.actions; values = lim.values }
