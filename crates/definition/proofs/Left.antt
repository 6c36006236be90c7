-- What the calls leave, taken apart: of a call that compiles its bytes and lists, of a refusal nothing but its number.
use Prim.Native.Nat.{ℕ}
use mathlib.Core.Path.{◌≡◌, ap, ◌∙◌}
use mathlib.Core.List.{List}
use lib.ListN.{length, take, replicate}
use lib.Seq.{take-append_seam}
use Rattle.pcode.specs.Pcode.{Item}
use Rattle.lowering.specs.Builder.{Limits}
use Rattle.action_format.specs.Lists.{Lists}
use Rattle.list_slice.specs.Words.{zeros_of}
use Rattle.list_slice.specs.Compiled.{Holds, lists_in}
use Rattle.list_slice.specs.Read.{read_words}
use Rattle.list_slice.proofs.Determined.{read_back}
use Rattle.definition.specs.Outcome.{Outcome, compiled, refused, Reading, read, number_of, length_of, output_of, read_number_of, read_length_of}
use Rattle.definition.specs.Compile.{compile_with}
use Rattle.definition.specs.Read.{read_with}
use Rattle.definition.specs.Left.{Compiles, list_read, Reads}

module _ (lim : Limits) (file : List ℕ) (list_words room number length' : ℕ) (output list : List ℕ)
    (left : Compiles lim file list_words room number length' output list) where
  -- the bytes are the first of the output, as many as the length, and the list slice reads as the lists
  pub left_compiled : {b : List ℕ} {ls : List (List Item)} → compile_with lim file list_words room ≡ compiled b ls →
      (number ≡ 0) × (length' ≡ length b) × (take length' output ≡ b) × (lists_in lim file list ≡ ls)
  left_compiled {b} {ls} e =
      let n : length' ≡ length b = left.bytes ∙ ap length_of e in
      let h : Holds lim file ls list = rw e at left.whole_list in
      (left.answer ∙ ap number_of e, n, rw (n, left.whole_output, e) (take-append_seam b _), read_back h)

  -- a refusal has length 0 and leaves only zeros
  pub left_refused : {n : ℕ} → compile_with lim file list_words room ≡ refused n →
      (number ≡ n) × (length' ≡ 0) × (output ≡ replicate room 0) × (list ≡ zeros_of list_words)
  left_refused {n} e =
      let z : list ≡ zeros_of (length list) = rw e at left.whole_list in
      (left.answer ∙ ap number_of e, left.bytes ∙ ap length_of e, left.whole_output ∙ ap (λ (o : Outcome). output_of o room) e, z ∙ ap zeros_of left.list_length)

module _ (lim : Limits) (bytes : List ℕ) (list_words number length' : ℕ) (list : List ℕ) (left : Reads lim bytes list_words number length' list) where
  pub left_read : {l : Lists} {n : ℕ} → read_with lim bytes list_words ≡ read l n → (number ≡ 0) × (length' ≡ n) × (list ≡ read_words lim l list_words)
  left_read e = (left.answer ∙ ap read_number_of e, left.count ∙ ap read_length_of e, left.whole_list ∙ ap (λ (r : Reading). list_read lim r list_words) e)

  pub left_unread : {n : ℕ} → read_with lim bytes list_words ≡ Reading.refused n → (number ≡ n) × (length' ≡ 0) × (list ≡ zeros_of list_words)
  left_unread e = (left.answer ∙ ap read_number_of e, left.count ∙ ap read_length_of e, left.whole_list ∙ ap (λ (r : Reading). list_read lim r list_words) e)
