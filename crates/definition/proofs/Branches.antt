-- In whatever compiles, every Jump and If of every list lands where its own list marks its label.
use Prim.Native.Nat.{ℕ, zero, suc, ◌≤◌}
use mathlib.Core.Path.{◌≡◌, refl, ap, sym, ◌∙◌, subst}
use mathlib.Core.Logic.{◌⊎◌, inl, inr}
use mathlib.Core.List.Memᴰ
use mathlib.Core.List.{List, [], ◌∷◌, ◌++◌, Memᴰ}
use mathlib.Core.Option.{some}
use mathlib.Core.Bool.{Bool, true, false}
use native.Mathlib.Omega.{arith}
use lib.Dec.{eqb}
use lib.ListN.{length, get_elem?, get_or-map}
use Rattle.pcode.specs.Pcode.{Header, Branching, Action, branch, define, Item, action, mark}
use Rattle.script.specs.Write.{Bytes}
use Rattle.lowering.specs.Builder.{Limits}
use Rattle.lowering.proofs.Theorems.Facts.{All, label_of_item, branches, counted, count, Closed}
use Rattle.action_format.specs.ByPlace.{actions, marked, place_of_label, items_by_place}
use Rattle.action_format.specs.Lists.{Lists}
use Rattle.action_format.specs.Rules.{OfLowering}
use Rattle.action_format.specs.Bytes.{header_bytes}
use Rattle.action_format.specs.ByList.{list_of, body_bytes, begins, action_bytes_at}
use Rattle.action_format.specs.Landing.{Stands, Lands}
use Rattle.action_format.proofs.Tests.{never, some_of}
use Rattle.action_format.proofs.ByPlace.{marked_once, by_place_at}
use Rattle.action_format.proofs.Landing.{stands, end_begins, top_body, branch_lands}
use Rattle.definition.specs.Outcome.{compiled, by_place, byte_limits}
use Rattle.definition.specs.Compile.{compile_with}
use Rattle.definition.specs.Demand3.{list_at, LandsAtItsMark}
use Rattle.definition.proofs.Ways.{Compiled, compiled_by}
use Rattle.definition.proofs.Kept.{kept, closed}

-- a branch's label is one of its list's labels

first_label : (a : Action) (rest : List ℕ) (b : Branching) (label : ℕ) → a ≡ branch b label → Memᴰ label (label_of_item (action a) ++ rest)
first_label a rest b label e = subst (λ (a : Action). Memᴰ label (label_of_item (action a) ++ rest)) (sym e) (Memᴰ.head refl)

label_in : (is : List Item) (i : ℕ) (b : Branching) (label : ℕ) → get_elem? (actions is) i ≡ some (branch b label) → Memᴰ label (branches is)
label_in [] i b label e = never (branch b label) e
label_in (action a ∷ is) zero b label e = first_label a (branches is) b label (some_of e)
label_in (action a ∷ is) (suc i) b label e = Memᴰ.append_right (label_of_item (action a)) (label_in is i b label e)
label_in (mark l ∷ is) i b label e = label_in is i b label e

-- a label is marked as often as it is counted

as_often : (n label : ℕ) (is : List Item) → length (marked n label is) ≡ count label is
as_often n label [] = refl
as_often n label (action a ∷ is) = as_often (suc n) label is
as_often n label (mark m ∷ is) = go (eqb m label) (as_often n label is)
  where
    go : (t : Bool) → length (marked n label is) ≡ count label is →
        length {A = ℕ} (elim t as (λ _. List ℕ) [ true ↦ n ∷ marked n label is | false ↦ marked n label is ]) ≡ counted t (count label is)
    go true h = ap suc h
    go false h = h

only_one : (ps : List ℕ) → length ps ≡ 1 → (p : ℕ) × (ps ≡ p ∷ [])
only_one [] e = absurd (omega arith)
only_one (p ∷ []) e = (p, refl)
only_one (p ∷ (q ∷ ps)) e = absurd (omega arith)

closed_at : (ls : List (List Item)) (k : ℕ) → All Closed ls → Closed (list_at ls k)
closed_at [] k h = λ x q. elim q [ ]
closed_at (l ∷ ls) zero h = h.0
closed_at (l ∷ ls) (suc k) h = closed_at ls k h.1

pub marked_there : (is : List Item) → Closed is → (i : ℕ) (b : Branching) (label : ℕ) → get_elem? (actions is) i ≡ some (branch b label) →
    (place : ℕ) × (marked 0 label is ≡ place ∷ [])
marked_there is h i b label e = only_one (marked 0 label is) (as_often 0 label is ∙ h label (label_in is i b label e))

-- list k by place
pub list_by_place : (ls : List (List Item)) (k : ℕ) → list_of (by_place ls) k ≡ items_by_place (list_at ls k)
list_by_place [] zero = refl
list_by_place [] (suc k) = refl
list_by_place (t ∷ fs) zero = refl
list_by_place (t ∷ fs) (suc k) = get_or-map items_by_place fs k []

-- a place inside a list is an action's or the list's length
at_place : (xs : List Action) (p : ℕ) → p ≤ length xs → ((a : Action) × (get_elem? xs p ≡ some a)) ⊎ (p ≡ length xs)
at_place [] p h = inr (omega arith)
at_place (x ∷ xs) zero h = inl (x, refl)
at_place (x ∷ xs) (suc p) h = go (at_place xs p (omega arith))
  where
    go : ((a : Action) × (get_elem? xs p ≡ some a)) ⊎ (p ≡ length xs) → ((a : Action) × (get_elem? xs p ≡ some a)) ⊎ (suc p ≡ suc (length xs))
    go (inl y) = inl y
    go (inr e) = inr (ap suc e)

module _ (lim : Limits) (some_action : 1 ≤ lim.actions) (file : List ℕ) (list_words room : ℕ) (bs : List ℕ) (ls : List (List Item)) (bytes : Bytes file)
    (e : compile_with lim file list_words room ≡ compiled bs ls) where
  abbrev c : Compiled lim file list_words room bs ls
  c = compiled_by lim file list_words room bs ls e

  abbrev l : Lists
  l = by_place ls

  rules : OfLowering (byte_limits lim) l
  rules = kept lim some_action file list_words room bs ls bytes c

  -- the top list's body is all the call's bytes before its End byte
  pub top_list_body : bs ≡ body_bytes l 0 ++ (0 ∷ [])
  top_list_body = top_body (byte_limits lim) l rules room bs c.encoded

  -- a function's body is the bytes that its record counts, and follows the record in the body of the list around it
  pub function_body : (k i : ℕ) (h : Header) (j : ℕ) → get_elem? (list_of l k) i ≡ some (define h j) →
      Stands l k i (header_bytes h (length (body_bytes l j)) ++ body_bytes l j)
  function_body k i h j q = stands l rules.numbered k i (define h j) q

  pub branches_land : (k i : ℕ) (b : Branching) (label : ℕ) → get_elem? (actions (list_at ls k)) i ≡ some (branch b label) → LandsAtItsMark ls k i b label
  branches_land k i b label q =
      let is : List Item = list_at ls k in
      let m = marked_there is (closed_at ls k (closed lim some_action file list_words room bs ls c)) i b label q in
      let p : ℕ = m.0 in
      let at : get_elem? (items_by_place is) i ≡ some (branch b (place_of_label is label)) = by_place_at is i (branch b label) q in
      let there : get_elem? (list_of l k) i ≡ some (branch b p) =
      ap (λ (xs : List Action). get_elem? xs i) (list_by_place ls k) ∙ at ∙ ap (λ (n : ℕ). some (branch b n)) (marked_once is label p m.1) in
      let lands : Lands l k i b p = branch_lands (byte_limits lim) l rules room bs c.encoded k i b p there in
      record { place = p; marked_once = m.1; lands = lands; on = where_it_is k p (at_place (list_of l k) p lands.inside) }
    where
      where_it_is : (k p : ℕ) → ((a : Action) × (get_elem? (list_of l k) p ≡ some a)) ⊎ (p ≡ length (list_of l k)) →
          ((a : Action) × (get_elem? (list_of l k) p ≡ some a) × Stands l k p (action_bytes_at l k p a)) ⊎ (begins l k p ≡ length (body_bytes l k))
      where_it_is k p (inl x) = inl (x.0, x.1, stands l rules.numbered k p x.0 x.1)
      where_it_is k p (inr z) = inr (ap (begins l k) z ∙ end_begins l rules.numbered k)
