-- What has been read is part of what the whole gives.
use Prim.Native.Nat.{ℕ, zero, suc, ◌+◌, ◌≤◌}
use mathlib.Core.Path.{◌≡◌, refl, ap}
use mathlib.Core.List.{List, [], ◌∷◌, ◌++◌}
use mathlib.Core.Option.{Option, none, some, map}
use native.Mathlib.Omega.{arith}
use lib.ListN.{length}
use Rattle.pcode.specs.Pcode.{Header, define}
use Rattle.action_format.specs.Rules.{total}
use Rattle.action_format.specs.Code.{Code, end}
use Rattle.action_format.specs.Bytes.{Bytes, code_bytes}
use Rattle.action_format.specs.Offsets.{and_then}
use Rattle.action_format.specs.Decode.{read_list, ended, read_top}
use Rattle.action_format.proofs.Tests.{never, some_of}
use Rattle.list_slice.specs.Read.{Placed, at}
use Rattle.action_reader.specs.Walk.{Ended, ended_at, Spread, spread, Open, Rest, defined, spread_of, finish, after_list, ending, resume, total_open}

pub total_append : {A : Type 0} (f : A → ℕ) (xs ys : List A) → total f (xs ++ ys) ≡ total f xs + total f ys
total_append f [] ys = omega arith
total_append f (x ∷ xs) ys = rw (total_append f xs ys) (omega arith)

module _ (f : Placed → ℕ) (g : Ended → ℕ) (same : (h : Header) (p k : ℕ) → f (at (define h k) p) ≡ f (at (define h 0) p))
    (more : (xs : List Placed) (e : ℕ) → total f xs ≤ g (ended_at xs e)) (L : Spread) where
  abbrev whole : ℕ
  whole = total f L.own + total g L.lists

  list_rises : (k : Rest) (w : ℕ) → ((own : List Placed) (ls : List Ended) (p : ℕ) (r : Bytes) → k own ls p r ≡ some L → w + (total f own + total g ls) ≤ whole) →
      (own : List Placed) (ls : List Ended) (p : ℕ) (r : Bytes) → after_list k own ls p r ≡ some L → w + (total f own + total g ls) ≤ whole
  list_rises k w ih own ls p r e = go (read_list r) e
    where
      go : (o : Option (Code × Bytes)) →
          and_then o (λ x. k (own ++ (spread (length ls) p x.0).own) (ls ++ (spread (length ls) p x.0).lists) (p + length (code_bytes x.0)) x.1) ≡ some L →
          w + (total f own + total g ls) ≤ whole
      go none q = never L q
      go (some x) q =
          let z = ih (own ++ (spread (length ls) p x.0).own) (ls ++ (spread (length ls) p x.0).lists) (p + length (code_bytes x.0)) x.1 q in
          let a = total_append f own (spread (length ls) p x.0).own in
          let b = total_append g ls (spread (length ls) p x.0).lists in
          omega (arith, z, a, b)

  ending_rises : (fs : List Open) (own : List Placed) (ls : List Ended) (p : ℕ) (r : Bytes) → ending fs own ls p r ≡ some L →
      total_open f fs + (total f own + total g ls) ≤ whole
  ending_rises [] own ls p r e = go (ended end r) e
    where
      go : (o : Option Code) → map (λ (c : Code). spread_of own ls) o ≡ some L → 0 + (total f own + total g ls) ≤ whole
      go none q = never L q
      go (some c) q =
          let z : spread_of own ls ≡ L = some_of q in
          let a : total f own + total g ls ≡ whole = ap (λ (s : Spread). total f s.own + total g s.lists) z in
          omega arith
  ending_rises (o ∷ fs) own ls p [] e =
      let z = list_rises (ending fs) (total_open f fs) (ending_rises fs) (o.around ++ (defined o (suc (length ls)) ∷ [])) (ls ++ (ended_at own p ∷ [])) p o.rest e in
      let a = total_append f o.around (defined o (suc (length ls)) ∷ []) in
      let b = total_append g ls (ended_at own p ∷ []) in
      omega (arith, z, a, b, same o.header o.position (suc (length ls)), more own p)
  ending_rises (o ∷ fs) own ls p (y ∷ r) e = never L e

  -- the weights of what has been read are not above those of the whole
  pub rises : (fs : List Open) (own : List Placed) (ls : List Ended) (p : ℕ) (r : Bytes) → resume fs own ls p r ≡ some L →
      total_open f fs + (total f own + total g ls) ≤ whole
  rises fs own ls p r e = list_rises (ending fs) (total_open f fs) (ending_rises fs) own ls p r e

-- reading from the first byte on
pub from_start : (b : Bytes) → resume [] [] [] 0 b ≡ map (spread 0 0) (read_top b)
from_start b = go (read_list b)
  where
    last : (c : Code) (r : Bytes) → finish (spread 0 0 c).own (spread 0 0 c).lists (0 + length (code_bytes c)) r ≡ map (spread 0 0) (ended c r)
    last c [] = refl
    last c (zero ∷ []) = refl
    last c (zero ∷ (y ∷ r)) = refl
    last c (suc y ∷ r) = refl

    go : (o : Option (Code × Bytes)) →
        and_then o (λ x. finish ([] ++ (spread 0 0 x.0).own) ([] ++ (spread 0 0 x.0).lists) (0 + length (code_bytes x.0)) x.1) ≡
        map (spread 0 0) (and_then o (λ x. ended x.0 x.1))
    go none = refl
    go (some x) = last x.0 x.1
