-- Refusals 9, 10 and 11 speak of a record.
use Prim.Native.Nat.{ℕ, zero, suc, ◌≤◌}
use mathlib.Core.Path.{◌≡◌, refl, subst}
use mathlib.Core.Logic.{◌⊎◌, inl, inr}
use mathlib.Core.List.{List, [], ◌∷◌}
use mathlib.Core.Option.{some}
use mathlib.Core.Bool.{Bool, true, false}
use native.Mathlib.Omega.{arith}
use lib.Dec.{T}
use lib.ListN.{length, get_or, get_elem?}
use Rattle.pcode.specs.Pcode.{Action, Item}
use Rattle.script.specs.Write.{Bytes}
use Rattle.lowering.specs.Builder.{Limits}
use Rattle.lowering.specs.Statement as lowering
use Rattle.action_format.specs.Lists.{Lists, all_lists, all, Numbered}
use Rattle.action_format.specs.Strings.{strings, no_zero, zero_free}
use Rattle.action_format.specs.Code.{code}
use Rattle.action_format.specs.Offsets.{all_near}
use Rattle.action_format.specs.Encode.{short}
use Rattle.action_format.specs.ByList.{list_of, action_short, action_near}
use Rattle.action_format.proofs.Tests.{and_both, never, some_of}
use Rattle.action_format.proofs.Refusals.{near_by_actions, short_by_actions}
use Rattle.definition.specs.Outcome.{refused, by_place}
use Rattle.definition.specs.Compile.{lists_of, compile_with}
use Rattle.definition.specs.Refusals as conditions
use Rattle.definition.specs.Refusals.{NotWritten, too_much_data, too_far, no_room, BrokenAt, data_or_body, offset}
use Rattle.definition.proofs.Kept.{kept_lists}
use Rattle.definition.proofs.Refusals.{writing_exactly}

-- a test passes at every element of a list, or fails at one
in_list : {A : Type 0} (f : ℕ → A → Bool) (xs : List A) → ((i : ℕ) (a : A) → get_elem? xs i ≡ some a → T (f i a)) ⊎ ((i : ℕ) × (a : A) × (get_elem? xs i ≡ some a) × (f i a ≡ false))
in_list f [] = inl (λ i a e. never a e)
in_list {A} f (x ∷ xs) = go (f 0 x) refl (in_list (λ i. f (suc i)) xs)
  where
    rest : T (f 0 x) → ((i : ℕ) (a : A) → get_elem? xs i ≡ some a → T (f (suc i) a)) → (i : ℕ) (a : A) → get_elem? (x ∷ xs) i ≡ some a → T (f i a)
    rest t h zero a e = subst (λ (z : A). T (f 0 z)) (some_of e) t
    rest t h (suc i) a e = h i a e

    go : (b : Bool) → f 0 x ≡ b → ((i : ℕ) (a : A) → get_elem? xs i ≡ some a → T (f (suc i) a)) ⊎ ((i : ℕ) × (a : A) × (get_elem? xs i ≡ some a) × (f (suc i) a ≡ false)) →
        ((i : ℕ) (a : A) → get_elem? (x ∷ xs) i ≡ some a → T (f i a)) ⊎ ((i : ℕ) × (a : A) × (get_elem? (x ∷ xs) i ≡ some a) × (f i a ≡ false))
    go false e r = inr (0, x, refl, e)
    go true e (inr y) = inr (suc y.0, y.1, y.2, y.3)
    go true e (inl h) = inl (rest (rw e tt) h)

in_lists : (f : ℕ → ℕ → Action → Bool) (ls : List (List Action)) → ((k i : ℕ) (a : Action) → get_elem? (get_or ls k []) i ≡ some a → T (f k i a))
    ⊎ ((k : ℕ) × (i : ℕ) × (a : Action) × (get_elem? (get_or ls k []) i ≡ some a) × (f k i a ≡ false))
in_lists f [] = inl (λ k i a e. never a e)
in_lists f (x ∷ ls) = go (in_list (f 0) x) (in_lists (λ k. f (suc k)) ls)
  where
    rest : ((i : ℕ) (a : Action) → get_elem? x i ≡ some a → T (f 0 i a)) → ((k i : ℕ) (a : Action) → get_elem? (get_or ls k []) i ≡ some a → T (f (suc k) i a)) →
        (k i : ℕ) (a : Action) → get_elem? (get_or (x ∷ ls) k []) i ≡ some a → T (f k i a)
    rest g h zero i a e = g i a e
    rest g h (suc k) i a e = h k i a e

    go : ((i : ℕ) (a : Action) → get_elem? x i ≡ some a → T (f 0 i a)) ⊎ ((i : ℕ) × (a : Action) × (get_elem? x i ≡ some a) × (f 0 i a ≡ false)) →
        ((k i : ℕ) (a : Action) → get_elem? (get_or ls k []) i ≡ some a → T (f (suc k) i a)) ⊎
        ((k : ℕ) × (i : ℕ) × (a : Action) × (get_elem? (get_or ls k []) i ≡ some a) × (f (suc k) i a ≡ false)) →
        ((k i : ℕ) (a : Action) → get_elem? (get_or (x ∷ ls) k []) i ≡ some a → T (f k i a)) ⊎
        ((k : ℕ) × (i : ℕ) × (a : Action) × (get_elem? (get_or (x ∷ ls) k []) i ≡ some a) × (f k i a ≡ false))
    go (inr y) r = inr (0, y.0, y.1, y.2, y.3)
    go (inl g) (inr y) = inr (suc y.0, y.1, y.2, y.3, y.4)
    go (inl g) (inl h) = inl (rest g h)

-- a test of all actions that fails, fails at one
module _ (l : Lists) (f : ℕ → ℕ → Action → Bool) where
  failing : (b : Bool) → b ≡ false → (((k i : ℕ) (a : Action) → get_elem? (list_of l k) i ≡ some a → T (f k i a)) → T b) →
      (k : ℕ) × (i : ℕ) × (a : Action) × (get_elem? (list_of l k) i ≡ some a) × (f k i a ≡ false)
  failing b e h = go (in_lists f (all_lists l))
    where
      go : ((k i : ℕ) (a : Action) → get_elem? (list_of l k) i ≡ some a → T (f k i a)) ⊎
          ((k : ℕ) × (i : ℕ) × (a : Action) × (get_elem? (list_of l k) i ≡ some a) × (f k i a ≡ false)) →
          (k : ℕ) × (i : ℕ) × (a : Action) × (get_elem? (list_of l k) i ≡ some a) × (f k i a ≡ false)
      go (inr y) = y
      go (inl g) = let z : ⊥ = subst (λ (c : Bool). T c) e (h g) in absurd z

pub by_elem : {A : Type 0} (f : A → Bool) (xs : List A) → ((i : ℕ) (a : A) → get_elem? xs i ≡ some a → T (f a)) → T (all f xs)
by_elem f [] h = tt
by_elem f (x ∷ xs) h = and_both (f x) (all f xs) (h 0 x refl) (by_elem f xs (λ i a e. h (suc i) a e))

every_list : (f : Action → Bool) (ls : List (List Action)) → ((k i : ℕ) (a : Action) → get_elem? (get_or ls k []) i ≡ some a → T (f a)) → T (all (all f) ls)
every_list f [] h = tt
every_list f (x ∷ ls) h = and_both (all f x) (all (all f) ls) (by_elem f x (h 0)) (every_list f ls (λ k i a e. h (suc k) i a e))

broken : (l : Lists) → Numbered l.functions 0 l.top (length l.functions) → (room n : ℕ) → n ≤ 11 → NotWritten l room n →
    (k : ℕ) × (i : ℕ) × (a : Action) × (get_elem? (list_of l k) i ≡ some a) × BrokenAt l k i a n
broken l g room n s (conditions.NotWritten.zero_byte p) =
    let test : Action → Bool = λ (a : Action). all no_zero (strings a) in
    let y = failing l (λ k i a. test a) (zero_free l) p (λ h. every_list test (all_lists l) h) in
    (y.0, y.1, y.2, y.3, conditions.BrokenAt.zero_byte y.4)
broken l g room n s (too_much_data p q) =
    let y = failing l (λ k i a. action_short l a) (short (code l)) q (λ h. (short_by_actions l g).1 h) in
    (y.0, y.1, y.2, y.3, data_or_body y.4)
broken l g room n s (too_far p q r) =
    let y = failing l (action_near l) (all_near (code l)) r (λ h. (near_by_actions l g).1 h) in
    (y.0, y.1, y.2, y.3, offset y.4)
broken l g room n s (no_room p q r t) = absurd (omega arith)

module _ (lim : Limits) (some_action : 1 ≤ lim.actions) (file : List ℕ) (bytes : Bytes file) (list_words room : ℕ) where
  pub broken_record : (n : ℕ) → 9 ≤ n → n ≤ 11 → compile_with lim file list_words room ≡ refused n →
      (ls : List (List Item)) × (lists_of lim file ≡ lowering.lists ls) × (k : ℕ) × (i : ℕ) × (a : Action) ×
      (get_elem? (list_of (by_place ls) k) i ≡ some a) × BrokenAt (by_place ls) k i a n
  broken_record n j k e =
      let x = (writing_exactly lim file list_words room some_action n j (omega arith)).0 e in
      let y = broken (by_place x.2) (kept_lists lim some_action file bytes x.1 x.2 x.3).numbered room n k x.4 in
      (x.2, x.3, y.0, y.1, y.2, y.3, y.4)
