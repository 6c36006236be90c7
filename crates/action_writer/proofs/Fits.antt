-- The items of a list are in their ranges, their records short, and their functions' lists finished before.
use Prim.Native.Nat.{ℕ, suc, ◌≤◌}
use mathlib.Core.Path.{◌≡◌, refl, ap}
use mathlib.Core.List.{List, [], ◌∷◌, map}
use mathlib.Core.Bool.{true, false}
use mathlib.Core.Option.{some}
use native.Mathlib.Omega.{arith}
use lib.Dec.{T, leb, leb→le}
use lib.ListN.{length, get_elem?, length-append}
use Rattle.pcode.specs.Pcode.{Value, Action, Item, plain, push, branch, define, action, mark}
use Rattle.action_format.specs.ByPlace.{actions, rebranch}
use Rattle.action_format.specs.Lists.{Lists, all, Single, simple, pushing, branching, Numbered, stop, one, function}
use Rattle.action_format.specs.Bytes.{value_bytes, plain_data, data_of_header, join}
use Rattle.action_format.specs.ByList.{body_bytes, action_short}
use Rattle.action_format.specs.Rules.{value_fits, plain_fits, header_fits, fits}
use Rattle.action_format.proofs.Tests.{All, and_first, and_second, all_append}
use Rattle.action_format.proofs.Finished.{same_depth}
use Rattle.byte_writer.proofs.ParamLoops.{join_append}
use Rattle.list_slice.specs.Entry.{Piece, op, ConstantPool, StoreRegister, GotoFrame, GotoLabel, GotoFrame2, function, value}
use Rattle.list_slice.specs.Entry as entry
use Rattle.list_slice.specs.Items.{References, value_of, extended, added}

module _ (l : Lists) (pool j : ℕ) where
  abbrev pub OkAction : Action → Type 0
  OkAction (plain p) = T (plain_fits p) × (length (plain_data p) ≤ 65535)
  OkAction (push []) = ⊥
  OkAction (push (v ∷ vs)) = T (all (value_fits pool) (v ∷ vs)) × (length (join value_bytes (v ∷ vs)) ≤ 65535)
  OkAction (branch b p) = Unit
  OkAction (define h n) = T (header_fits h) × (1 ≤ n) × (n ≤ j) × (length (data_of_header h (length (body_bytes l n))) ≤ 65535)

  abbrev pub Ok : Item → Type 0
  Ok (action a) = OkAction a
  Ok (mark m) = Unit

  -- what is so with an entry was so before it

  pub ok_later : (v : Value) (is : List Item) → All Ok (extended v is) → All Ok is
  ok_later v [] h = absurd h.0
  ok_later v (action (push []) ∷ is) h = absurd h.0
  ok_later v (action (push (u ∷ us)) ∷ is) h =
      let a = all_append (value_fits pool) (u ∷ us) (v ∷ []) h.0.0 in
      let b = ap length (join_append value_bytes (u ∷ us) (v ∷ [])) in
      let c = length-append (join value_bytes (u ∷ us)) (join value_bytes (v ∷ [])) in
      ((a.0, omega (arith, h.0.1)), h.1)
  ok_later v (action (plain p) ∷ is) h = absurd h.0
  ok_later v (action (branch b p) ∷ is) h = absurd h.0
  ok_later v (action (define x n) ∷ is) h = absurd h.0
  ok_later v (mark m ∷ is) h = absurd h.0

  pub ok_before : (r : References) (p : Piece) (is : List Item) → All Ok (added r p is) → All Ok is
  ok_before r (op o) is h = h.1
  ok_before r (ConstantPool n) is h = h.1
  ok_before r (StoreRegister n) is h = h.1
  ok_before r (GotoFrame n) is h = h.1
  ok_before r (GotoLabel n) is h = h.1
  ok_before r (GotoFrame2 b) is h = h.1
  ok_before r (entry.branch b n) is h = h.1
  ok_before r (Piece.function n f) is h = h.1
  ok_before r (entry.mark m) is h = h.1
  ok_before r (value true v) is h = h.1
  ok_before r (value false v) is h = ok_later (value_of r v) is h

  -- from the actions of a list to its items

  pub lifted : (f : ℕ → ℕ) (is : List Item) → All OkAction (map (rebranch f) (actions is)) → All Ok is
  lifted f [] h = tt
  lifted f (action (plain p) ∷ is) h = (h.0, lifted f is h.1)
  lifted f (action (push []) ∷ is) h = absurd h.0
  lifted f (action (push (v ∷ vs)) ∷ is) h = (h.0, lifted f is h.1)
  lifted f (action (branch b p) ∷ is) h = (tt, lifted f is h.1)
  lifted f (action (define x n) ∷ is) h = (h.0, lifted f is h.1)
  lifted f (mark m ∷ is) h = (tt, lifted f is h)

  -- the number of a function's list
  abbrev pub Before : Action → Type 0
  Before (plain p) = Unit
  Before (push vs) = Unit
  Before (branch b p) = Unit
  Before (define h n) = (1 ≤ n) × (n ≤ j)

  pub ok_action : (n : ℕ) (a : Action) → T (fits pool n a) → T (action_short l a) → Before a → OkAction a
  ok_action n (plain p) f s b = (f, leb→le (length (plain_data p)) 65535 s)
  ok_action n (push []) f s b = absurd f
  ok_action n (push (v ∷ vs)) f s b = (f, leb→le (length (join value_bytes (v ∷ vs))) 65535 s)
  ok_action n (branch x p) f s b = tt
  ok_action n (define h k) f s b =
      (f, b.0, b.1, leb→le (length (data_of_header h (length (body_bytes l k)))) 65535 (and_first (leb (length (data_of_header h (length (body_bytes l k)))) 65535) (leb (length (body_bytes l k)) 65535) s))

  pub ok_actions : (n : ℕ) (xs : List Action) → T (all (fits pool n) xs) → ((i : ℕ) (a : Action) → get_elem? xs i ≡ some a → T (action_short l a)) → All Before xs → All OkAction xs
  ok_actions n [] f s b = tt
  ok_actions n (x ∷ xs) f s b =
      (ok_action n x (and_first (fits pool n x) (all (fits pool n) xs) f) (s 0 x refl) b.0, ok_actions n xs (and_second (fits pool n x) (all (fits pool n) xs) f) (λ i a e. s (suc i) a e) b.1)

-- functions are numbered as they finish
single_before : (l : Lists) (pool m : ℕ) (a : Single) {b : Action} → b ≡ Rattle.action_format.specs.Lists.single a → Before l pool m b
single_before l pool m (simple p) e = rw e tt
single_before l pool m (pushing vs) e = rw e tt
single_before l pool m (branching b p) e = rw e tt

pub all_before : (l : Lists) (pool : ℕ) (ls : List (List Action)) {n m : ℕ} {xs : List Action} → Numbered ls n xs m → All (Before l pool m) xs
all_before l pool ls stop = tt
all_before l pool ls {m = m} (one a g) = (single_before l pool m a refl, all_before l pool ls g)
all_before l pool ls {m = m} (function {xs = ys} {k = k} q g r) =
    ((omega arith, omega (arith, (same_depth ls m m (suc k) m ys r (omega arith) (omega arith)).0)), all_before l pool ls r)
