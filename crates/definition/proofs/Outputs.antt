-- What a call leaves: its length, and its whole output.
use Prim.Native.Nat.{ℕ, ◌-◌, ◌≤◌}
use mathlib.Core.Path.{◌≡◌, refl, ap, ◌∙◌, subst}
use mathlib.Core.List.{List, [], ◌∷◌, ◌++◌}
use native.Mathlib.Omega.{arith}
use lib.ListN.{length, take, drop, replicate, length-append, length-replicate}
use Rattle.pcode.specs.Pcode.{Item}
use Rattle.lowering.specs.Builder.{Limits}
use Rattle.action_format.specs.Lists.{Lists}
use Rattle.action_format.proofs.Complete.{encoded}
use Rattle.definition.specs.Outcome.{Outcome, compiled, refused, by_place, number_of, length_of, output_of, Reading, read, read_number_of, read_length_of}
use Rattle.definition.specs.Compile.{compile_with}
use Rattle.definition.specs.Read.{read_with}
use Rattle.definition.proofs.Ways.{compiled_by, ReadWay, read_way, found}

take_front : {A : Type 0} (xs ys : List A) → take (length xs) (xs ++ ys) ≡ xs
take_front [] ys = refl
take_front (x ∷ xs) ys = ap (λ zs. x ∷ zs) (take_front xs ys)

drop_front : {A : Type 0} (xs ys : List A) → drop (length xs) (xs ++ ys) ≡ ys
drop_front [] ys = refl
drop_front (x ∷ xs) ys = drop_front xs ys

-- a call that compiles: no number; its bytes are the first of its output, as many as its length, and the rest is zeros
pub record LeavesBytes (o : Outcome) (room : ℕ) (b : List ℕ) : Type 0 where
  pub number : number_of o ≡ 0
  pub in_room : length_of o ≤ room
  pub first : take (length_of o) (output_of o room) ≡ b
  pub rest : drop (length_of o) (output_of o room) ≡ replicate (room - length_of o) 0
  pub whole : length (output_of o room) ≡ room

-- a refusal: its number, length 0, and zeros in all the room
pub record LeavesZeros (o : Outcome) (room n : ℕ) : Type 0 where
  pub number : number_of o ≡ n
  pub length_is_lem : length_of o ≡ 0
  pub zeros : output_of o room ≡ replicate room 0

module _ (lim : Limits) (file : List ℕ) (list_words room : ℕ) where
  pub compiled_leaves : (b : List ℕ) (ls : List (List Item)) → compile_with lim file list_words room ≡ compiled b ls →
      LeavesBytes (compile_with lim file list_words room) room b
  compiled_leaves b ls e =
      let c = compiled_by lim file list_words room b ls e in
      let x = encoded (by_place ls) room b c.encoded in
      let fits : length b ≤ room = rw (← x.bytes_are) x.has_room in
      rw e (record {
        number = refl;
        in_room = fits;
        first = take_front b (replicate (room - length b) 0);
        rest = drop_front b (replicate (room - length b) 0);
        whole = length-append b (replicate (room - length b) 0) ∙ omega (arith, length-replicate {A = ℕ} (room - length b) 0);
      })

  pub refused_leaves : (n : ℕ) → compile_with lim file list_words room ≡ refused n → LeavesZeros (compile_with lim file list_words room) room n
  refused_leaves n e = rw e (record { number = refl; length_is_lem = refl; zeros = refl })

-- a refusal of the reading call has length 0
pub read_refused_leaves : (lim : Limits) (bytes : List ℕ) (list_words n : ℕ) → read_with lim bytes list_words ≡ Reading.refused n →
    (read_number_of (read_with lim bytes list_words) ≡ n) × (read_length_of (read_with lim bytes list_words) ≡ 0)
read_refused_leaves lim bytes list_words n e = (ap read_number_of e, ap read_length_of e)

-- and success has the number 0 and the length of all the bytes
pub read_leaves : (lim : Limits) (bytes : List ℕ) (list_words n : ℕ) (l : Lists) → read_with lim bytes list_words ≡ read l n →
    (read_number_of (read_with lim bytes list_words) ≡ 0) × (read_length_of (read_with lim bytes list_words) ≡ length bytes)
read_leaves lim bytes list_words n l e = (ap read_number_of e, ap read_length_of e ∙ whole l n (subst (ReadWay lim bytes list_words) e (read_way lim bytes list_words)))
  where
    whole : (l : Lists) (n : ℕ) → ReadWay lim bytes list_words (read l n) → n ≡ length bytes
    whole l n (found s e) = refl
