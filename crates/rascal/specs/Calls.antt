-- The answers of the two calls, as the one word that programs in other languages get.
use Rattle.std.specs.Prelude.{ℕ, ◌-◌, ◌≡◌, List, Result, Ok, Err}
use Rattle.lowering.specs.Builder.{limits01}
use Rattle.refusal.specs.declared.Refusal.{Refusal}
use Rattle.refusal.specs.Refusal.{number_of, refusal_of}
use Rattle.definition.specs.Left.{Compiles, Reads}
use Rattle.action_reader.specs.Answers.{length_of}

-- the length, or 2^64 - 1 less the refusal's number
abbrev pub word_of : Result ℕ Refusal → ℕ
word_of (Ok n) = n
word_of (Err e) = 0xFFFF_FFFF_FFFF_FFFF - number_of e

pub record CompilesTo (file : List ℕ) (list_words room word : ℕ) (output list : List ℕ) : Type 0 where
  pub result : Result ℕ Refusal
  pub word_is : word ≡ word_of result
  pub compiles : Compiles limits01 file list_words room (refusal_of result) (length_of result) output list

pub record ReadsTo (bytes : List ℕ) (list_words word : ℕ) (list : List ℕ) : Type 0 where
  pub result : Result ℕ Refusal
  pub word_is : word ≡ word_of result
  pub reads : Reads limits01 bytes list_words (refusal_of result) (length_of result) list
