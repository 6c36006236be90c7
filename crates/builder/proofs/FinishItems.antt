-- An entry more after a list's items: how many actions there are, and where labels are marked.
use Prim.Native.Nat.{ℕ, zero, suc, ◌+◌, ◌<◌}
use mathlib.Core.Path.{◌≡◌, refl, sym, ap, ◌∙◌}
use mathlib.Core.List.{List, [], ◌∷◌, ◌++◌, reverse, reverse-cons, append-nil}
use mathlib.Core.Bool.{Bool, true, false, cond, true≢false}
use native.Mathlib.Nat.{zero-add}
use native.Mathlib.Omega.{arith}
use lib.Dec.{eqb, leb, ltb}
use lib.ListN.{length}
use borrow.Author.Tests.{ne_eqb, lt-ltb, le-ltb, leb-true, leb-false}
use Rattle.pcode.specs.declared.Op.{Op}
use Rattle.pcode.specs.Pcode.{Jump, If, row_of, Value, Action, Item}
use Rattle.lowering.specs.Builder.{ends_in_push}
use Rattle.action_format.specs.ByPlace.{actions, marked}
use Rattle.action_format.proofs.ByPlace.{actions_reverse, marked_append}
use Rattle.list_slice.specs.Entry.{Pushed, Piece, op, ConstantPool, StoreRegister, GotoFrame, GotoLabel, GotoFrame2, branch, function, mark, value, Entry, entry, value_entry, entry_of, piece_of}
use Rattle.list_slice.specs.Items.{References, value_of, extended, added}
use Rattle.list_slice.specs.Compiled.{place_word}
use Rattle.list_slice.proofs.Pieces.{piece_back}
use Rattle.builder.specs.Places.{actions_added, either}
use Rattle.builder.proofs.Codes.{is_value, op_code, value_from, value_to, value_code}

pub either_zero : (n : ℕ) → either n 0 ≡ n
either_zero zero = refl
either_zero (suc n) = refl

pub either_more : (a b c : ℕ) → either (either a b) c ≡ either a (either b c)
either_more zero b c = refl
either_more (suc a) b c = refl

-- lists, the first item first

place_append : (xs ys : List ℕ) (n : ℕ) → place_word (xs ++ ys) n ≡ either (place_word xs 0) (place_word ys n)
place_append [] ys n = refl
place_append (x ∷ xs) ys n = refl

pub place_else : (xs : List ℕ) (n : ℕ) → place_word xs n ≡ either (place_word xs 0) n
place_else [] n = refl
place_else (x ∷ xs) n = refl

-- the word of a label in a list with its last item first
abbrev pub place : (label : ℕ) → List Item → ℕ
place l is = place_word (marked 0 l (reverse is)) 0

place_action : (l : ℕ) (a : Action) (is : List Item) → place l (Item.action a ∷ is) ≡ place l is
place_action l a is = rw (reverse-cons (Item.action a) is, marked_append 0 l (reverse is) (Item.action a ∷ []), append-nil (marked 0 l (reverse is)))

place_mark : (l m : ℕ) (is : List Item) → place l (Item.mark m ∷ is) ≡ either (place l is) (cond (eqb m l) (suc (length (actions is))) 0)
place_mark l m is =
    rw (reverse-cons (Item.mark m) is, marked_append 0 l (reverse is) (Item.mark m ∷ []), actions_reverse is, zero-add (length (actions is))) (go (eqb m l))
  where
    go : (t : Bool) → place_word (marked 0 l (reverse is) ++ (elim t as (λ _. List ℕ) [ true ↦ length (actions is) ∷ [] | false ↦ [] ])) 0
        ≡ either (place l is) (cond t (suc (length (actions is))) 0)
    go true = place_append (marked 0 l (reverse is)) (length (actions is) ∷ []) 0
    go false = place_append (marked 0 l (reverse is)) [] 0

-- no action without operands has the code of a mark
abbrev is_mark : Piece → Bool
is_mark (mark l) = true
is_mark (op o) = false
is_mark (ConstantPool n) = false
is_mark (StoreRegister r) = false
is_mark (GotoFrame n) = false
is_mark (GotoLabel r) = false
is_mark (GotoFrame2 p) = false
is_mark (branch b l) = false
is_mark (function n r) = false
is_mark (value f v) = false

op_no_mark : (o : Op) → (row_of o).code ≡ 257 → ⊥
unfolding piece_of
op_no_mark o e = true≢false (sym (ap (λ (n : ℕ). is_mark (piece_of (entry n 0 0))) e) ∙ ap is_mark (piece_back (op o)))

value_no_mark : (n : ℕ) (v : Pushed) → 257 < n → eqb (value_entry n v).code 257 ≡ false
value_no_mark n v h = ne_eqb (value_entry n v).code 257 (λ e. omega (arith, value_from n v))

-- what an entry adds to a label's word, after so many actions
abbrev pub own_word : Entry → (label before : ℕ) → ℕ
own_word e l n = cond (eqb e.code 257) (cond (eqb e.first l) (suc n) 0) 0

module _ (r : References) (l : ℕ) (is : List Item) where
  abbrev same_place : Piece → Type 0
  same_place p = place l (added r p is) ≡ either (place l is) (own_word (entry_of p) l (length (actions is)))

  by_action : (a : Action) → place l (Item.action a ∷ is) ≡ either (place l is) 0
  by_action a = place_action l a is ∙ sym (either_zero (place l is))

  by_later : (v : Value) (js : List Item) → place l (extended v js) ≡ place l js
  by_later v [] = refl
  by_later v (Item.action (Action.push []) ∷ js) = refl
  by_later v (Item.action (Action.push (u ∷ us)) ∷ js) = place_action l _ js ∙ sym (place_action l _ js)
  by_later v (Item.action (Action.plain p) ∷ js) = place_action l _ (Item.action (Action.plain p) ∷ js)
  by_later v (Item.action (Action.branch b m) ∷ js) = place_action l _ (Item.action (Action.branch b m) ∷ js)
  by_later v (Item.action (Action.define h n) ∷ js) = place_action l _ (Item.action (Action.define h n) ∷ js)
  by_later v (Item.mark m ∷ js) = place_action l _ (Item.mark m ∷ js)

  pub step_place : (p : Piece) → same_place p
  step_place (mark m) = place_mark l m is
  step_place (op o) = rw (ne_eqb (row_of o).code 257 (op_no_mark o)) (by_action _)
  step_place (ConstantPool n) = by_action _
  step_place (StoreRegister n) = by_action _
  step_place (GotoFrame n) = by_action _
  step_place (GotoLabel n) = by_action _
  step_place (GotoFrame2 b) = by_action _
  step_place (branch Jump m) = by_action _
  step_place (branch If m) = by_action _
  step_place (function n m) = by_action _
  step_place (value true v) = rw (value_no_mark 0x110 v (omega arith)) (by_action _)
  step_place (value false v) = rw (value_no_mark 0x120 v (omega arith)) (by_later (value_of r v) is ∙ sym (either_zero (place l is)))

module _ (r : References) (is : List Item) where
  is_push : (v : Value) (js : List Item) → true ≡ ends_in_push (extended v js)
  is_push v [] = refl
  is_push v (Item.action (Action.push []) ∷ js) = refl
  is_push v (Item.action (Action.push (u ∷ us)) ∷ js) = refl
  is_push v (Item.action (Action.plain p) ∷ js) = refl
  is_push v (Item.action (Action.branch b m) ∷ js) = refl
  is_push v (Item.action (Action.define h n) ∷ js) = refl
  is_push v (Item.mark m ∷ js) = refl

  ends_in_value : (p : Piece) → is_value p ≡ ends_in_push (added r p is)
  ends_in_value (mark m) = refl
  ends_in_value (op o) = refl
  ends_in_value (ConstantPool n) = refl
  ends_in_value (StoreRegister n) = refl
  ends_in_value (GotoFrame n) = refl
  ends_in_value (GotoLabel n) = refl
  ends_in_value (GotoFrame2 b) = refl
  ends_in_value (branch b m) = refl
  ends_in_value (function n m) = refl
  ends_in_value (value true v) = refl
  ends_in_value (value false v) = is_push (value_of r v) is

  pub step_before : (p : Piece) → leb 0x110 (entry_of p).code ≡ ends_in_push (added r p is)
  step_before p = value_code p ∙ ends_in_value p

  module _ (before : ℕ) where
    one_more : (n : ℕ) → suc n ≡ n + 1
    one_more n = omega arith

    later_count : (v : Value) (js : List Item) → leb 0x110 before ≡ ends_in_push js → length (actions (extended v js)) ≡ length (actions js) + cond (ltb before 0x110) 1 0
    later_count v [] e = rw (lt-ltb before 0x110 (leb-false 0x110 before e))
    later_count v (Item.action (Action.push []) ∷ js) e = rw (le-ltb before 0x110 (leb-true 0x110 before e)) (omega arith)
    later_count v (Item.action (Action.push (u ∷ us)) ∷ js) e = rw (le-ltb before 0x110 (leb-true 0x110 before e)) (omega arith)
    later_count v (Item.action (Action.plain p) ∷ js) e = rw (lt-ltb before 0x110 (leb-false 0x110 before e)) (omega arith)
    later_count v (Item.action (Action.branch b m) ∷ js) e = rw (lt-ltb before 0x110 (leb-false 0x110 before e)) (omega arith)
    later_count v (Item.action (Action.define h n) ∷ js) e = rw (lt-ltb before 0x110 (leb-false 0x110 before e)) (omega arith)
    later_count v (Item.mark m ∷ js) e = rw (lt-ltb before 0x110 (leb-false 0x110 before e)) (omega arith)

    pub step_count : (p : Piece) → leb 0x110 before ≡ ends_in_push is → length (actions (added r p is)) ≡ length (actions is) + actions_added (entry_of p).code before
    step_count (mark m) e = omega arith
    step_count (op o) e = rw (ne_eqb (row_of o).code 257 (op_no_mark o), lt-ltb (row_of o).code 0x120 (omega (arith, op_code o))) (one_more _)
    step_count (ConstantPool n) e = one_more _
    step_count (StoreRegister n) e = one_more _
    step_count (GotoFrame n) e = one_more _
    step_count (GotoLabel n) e = one_more _
    step_count (GotoFrame2 b) e = one_more _
    step_count (branch Jump m) e = one_more _
    step_count (branch If m) e = one_more _
    step_count (function n m) e = one_more _
    step_count (value true v) e = rw (value_no_mark 0x110 v (omega arith), lt-ltb (value_entry 0x110 v).code 0x120 (omega (arith, value_to 0x110 v))) (one_more _)
    step_count (value false v) e = rw (value_no_mark 0x120 v (omega arith), le-ltb (value_entry 0x120 v).code 0x120 (value_from 0x120 v)) (later_count (value_of r v) is e)
