-- What the two calls leave for every input: the answer's number, the length, the whole output and the whole list slice.
use Rattle.std.specs.Prelude.{ℕ, ◌≡◌, List, length}
use Rattle.lowering.specs.Builder.{Limits}
use Rattle.lowering.specs.Statement as lowering
use Rattle.list_slice.specs.Words.{zeros_of}
use Rattle.list_slice.specs.Compiled.{Holds}
use Rattle.list_slice.specs.Read.{read_words}
use Rattle.definition.specs.Outcome.{Outcome, compiled, refused, Reading, read, number_of, length_of, output_of, read_number_of, read_length_of}
use Rattle.definition.specs.Compile.{compile_with}
use Rattle.definition.specs.Read.{read_with}

-- the list slice after lowering: it holds the lists, or zeros. Which of several equal strings, and which of several equal functions of the
-- file, a reference in it names is left free
abbrev pub LeftList : Limits → (file : List ℕ) → lowering.Lists → (list : List ℕ) → Type 0
LeftList lim file (lowering.lists ls) list = Holds lim file ls list
LeftList lim file (lowering.refusal n) list = list ≡ zeros_of (length list)

-- the lists of a compile call, or its refusal, which may be that of writing
abbrev pub outcome_lists : Outcome → lowering.Lists
outcome_lists (compiled b ls) = lowering.lists ls
outcome_lists (refused n) = lowering.refusal n

pub record Compiles (lim : Limits) (file : List ℕ) (list_words room number length' : ℕ) (output list : List ℕ) : Type 0 where
  pub answer : number ≡ number_of (compile_with lim file list_words room)
  pub bytes : length' ≡ length_of (compile_with lim file list_words room)
  pub whole_output : output ≡ output_of (compile_with lim file list_words room) room
  pub list_length : length list ≡ list_words
  pub whole_list : LeftList lim file (outcome_lists (compile_with lim file list_words room)) list

-- after a read call everything is determined
abbrev pub list_read : Limits → Reading → (list_words : ℕ) → List ℕ
list_read lim (read ls n) list_words = read_words lim ls list_words
list_read lim (refused n) list_words = zeros_of list_words

pub record Reads (lim : Limits) (bytes : List ℕ) (list_words number length' : ℕ) (list : List ℕ) : Type 0 where
  pub answer : number ≡ read_number_of (read_with lim bytes list_words)
  pub count : length' ≡ read_length_of (read_with lim bytes list_words)
  pub whole_list : list ≡ list_read lim (read_with lim bytes list_words) list_words
