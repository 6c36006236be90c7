-- The call that lowers a script file: its lists, or the one refusal among 13, 4, 1, 2, 3, 4, 5, 6, 7, 8.
use Rattle.std.specs.Prelude.{ℕ, ◌≤◌, ◌≡◌, List, length, Result, Ok, Err}
use Rattle.pcode.specs.Pcode.{Item}
use Rattle.refusal.specs.declared.Refusal.{Refusal}
use Rattle.refusal.specs.Refusal as code
use Rattle.refusal.specs.Refusal.{refusal_of}
use Rattle.lowering.specs.Builder.{Limits, limits01}
use Rattle.lowering.specs.Statement.{Lists, lists, refusal}
use Rattle.list_slice.specs.Words.{zeros_of}
use Rattle.builder.specs.Places.{Copied}
use Rattle.definition.specs.Compile.{lowered_with}
use Rattle.definition.specs.Left.{LeftList}

abbrev pub number_of : Lists → ℕ
number_of (lists ls) = 0
number_of (refusal n) = n

-- the definition gives lists, or the same refusal
abbrev pub Answers : Lists → Result (Unit {0}) Refusal → Type 0
Answers o (Ok u) = (ls : List (List Item)) × (o ≡ lists ls)
Answers o (Err e) = o ≡ refusal (code.number_of e)

pub record Lowers (lim : Limits) (file : List ℕ) (list_words : ℕ) (r : Result (Unit {0}) Refusal) (list : List ℕ) : Type 0 where
  pub answer : Answers (lowered_with lim file list_words) r
  pub number : refusal_of r ≡ number_of (lowered_with lim file list_words)
  pub list_length : length list ≡ list_words
  pub whole_list : LeftList lim file (lowered_with lim file list_words) list

-- what generating the statements gives: words from which the lists can be copied, or the refusal, for a list slice of any length that suffices
abbrev pub Generated : (file : List ℕ) → Result (Unit {0}) Refusal → (words : List ℕ) → Type 0
Generated file (Ok u) words = (list : List ℕ) → Copied words list → Lowers limits01 file (length list) (Ok u) list
Generated file (Err e) words = (n : ℕ) → 16384 ≤ n → Lowers limits01 file n (Err e) (zeros_of n)
