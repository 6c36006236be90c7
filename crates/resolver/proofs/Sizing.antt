-- The bytes of bodies and the places of labels, as the walks count them.
use Prim.Native.Nat.{ℕ, zero, suc, ◌+◌, ◌-◌, ◌≤◌, ◌<◌}
use mathlib.Core.Path.{◌≡◌, refl, sym, ap, ap₂, ◌∙◌, subst}
use mathlib.Core.List.{List, [], ◌∷◌, ◌++◌, map, reverse, reverse_aux, append_assoc, append-nil, reverse-append, reverse-reverse}
use mathlib.Core.Bool.{Bool, true, false, cond}
use mathlib.Core.Option.{some}
use native.Mathlib.Omega.{arith}
use native.Mathlib.Nat.{zero-add}
use lib.Dec.{eqb}
use lib.ListN.{length, get_or, get_elem?, length-map}
use lib.Seq.{take_all}
use borrow.Author.Tests.{eqb-true, eqb-false}
use Rattle.pcode.specs.Pcode.{Header, Branching, Jump, If, Action, Item, plain, push, branch, define, action, mark, Value}
use Rattle.script.specs.Write.{Bytes}
use Rattle.lowering.specs.Builder.{limits01}
use Rattle.lowering.specs.Statement as lowering
use Rattle.lowering.proofs.Theorems.Facts as facts
use Rattle.lowering.proofs.Theorems.Facts.{Closed}
use Rattle.lowering.proofs.Theorems.{branches_land}
use Rattle.action_format.specs.ByPlace.{actions, marked, place_of_label, rebranch, items_by_place}
use Rattle.action_format.specs.Lists.{Lists, Single, simple, pushing, branching, single, Numbered, stop, one, function}
use Rattle.action_format.specs.Code.{Code, nest_list, nest}
use Rattle.action_format.specs.Bytes.{word, single_bytes, header_bytes, code_bytes}
use Rattle.action_format.specs.Offsets.{sizes, sum, position}
use Rattle.action_format.specs.ByList.{list_of, body, body_bytes}
use Rattle.action_format.proofs.Tests.{All}
use Rattle.action_format.proofs.ByPlace.{actions_append, actions_reverse, marked_append, marked_once, place_inside}
use Rattle.action_format.proofs.Offsets.{same_length}
use Rattle.action_format.proofs.Finished.{same_depth, finished, Named}
use Rattle.action_format.proofs.Landing.{inner, are_named, same_body, end_begins}
use Rattle.list_slice.specs.Entry.{Piece, value}
use Rattle.list_slice.specs.Items.{References, value_of, extended, added}
use Rattle.list_slice.proofs.Read.{map_append}
use Rattle.definition.specs.Compile.{statements_of}
use Rattle.definition.specs.Outcome.{by_place}
use Rattle.definition.specs.Demand3.{list_at}
use Rattle.definition.proofs.Branches.{list_by_place, marked_there}
use Rattle.resolver.specs.Lowered.{Lowered}
use Rattle.resolver.specs.Walk.{count_of, end_of, start_of, piece_at, references_in, walked}
use Rattle.resolver.specs.Sizes.{size_of, measures, short_of, all_short}
use Rattle.resolver.specs.Texts.{Operand}
use Rattle.resolver.specs.Steps.{Fine, Standing, spots}
use Rattle.resolver.specs.Passes.{walked_at, number_at, Sized}
use Rattle.resolver.proofs.Walking.{walked_more, fine_next}
use Rattle.resolver.proofs.Whole.{split, lists_count, walked_list, walked_back}
use Rattle.resolver.proofs.Stand.{made, standing_at}

-- items in order

pub reverse_more : (x : Item) (xs : List Item) → reverse (x ∷ xs) ≡ reverse xs ++ (x ∷ [])
reverse_more x xs = reverse-append (x ∷ []) xs

pub measures_is : (B : ℕ → ℕ) (is : List Item) → measures B is ≡ map (size_of B) (actions (reverse is))
unfolding measures
measures_is B [] = refl
measures_is B (action a ∷ is) =
    ap (λ (l : List ℕ). l ++ (size_of B a ∷ [])) (measures_is B is) ∙ sym (map_append (size_of B) (actions (reverse is)) (a ∷ []))
    ∙ ap (map (size_of B)) (sym (ap actions (reverse_more (action a) is) ∙ actions_append (reverse is) (action a ∷ [])))
measures_is B (mark l ∷ is) =
    measures_is B is ∙ ap (map (size_of B)) (sym (ap actions (reverse_more (mark l) is) ∙ actions_append (reverse is) (mark l ∷ []) ∙ append-nil (actions (reverse is))))

same_size : (B : ℕ → ℕ) (f : ℕ → ℕ) (a : Action) → size_of B (rebranch f a) ≡ size_of B a
same_size B f (plain p) = refl
same_size B f (push vs) = refl
same_size B f (branch b l) = refl
same_size B f (define h n) = refl

same_sizes : (B : ℕ → ℕ) (f : ℕ → ℕ) (xs : List Action) → map (size_of B) (map (rebranch f) xs) ≡ map (size_of B) xs
same_sizes B f [] = refl
same_sizes B f (a ∷ xs) = ap₂ ◌∷◌ (same_size B f a) (same_sizes B f xs)

-- the functions of a list have finished before it

abbrev pub Upto : ℕ → Action → Type 0
Upto m (plain p) = Unit
Upto m (push vs) = Unit
Upto m (branch b l) = Unit
Upto m (define h k) = (1 ≤ k) × (k ≤ m)

single_upto : (m : ℕ) (a : Single) → Upto m (single a)
single_upto m (simple p) = tt
single_upto m (pushing vs) = tt
single_upto m (branching b p) = tt

upto : (ls : List (List Action)) (n m : ℕ) (xs : List Action) → Numbered ls n xs m → All (Upto m) xs
upto ls n m xs stop = tt
upto ls n m xs (one a {xs = ys} g) = (single_upto m a, upto ls n m ys g)
upto ls n m xs (function {xs = ys} {k = k} l g r) = ((omega arith, (same_depth ls m m (suc k) m ys r (omega arith) (omega arith)).0), upto ls (suc k) m ys r)

abbrev pub ItemUpto : ℕ → Item → Type 0
ItemUpto m (action a) = Upto m a
ItemUpto m (mark l) = Unit

items_upto : (m : ℕ) (f : ℕ → ℕ) (is : List Item) → All (Upto m) (map (rebranch f) (actions is)) → All (ItemUpto m) is
items_upto m f [] h = tt
items_upto m f (mark l ∷ is) h = (tt, items_upto m f is h)
items_upto m f (action (plain p) ∷ is) h = (tt, items_upto m f is h.1)
items_upto m f (action (push vs) ∷ is) h = (tt, items_upto m f is h.1)
items_upto m f (action (branch b l) ∷ is) h = (tt, items_upto m f is h.1)
items_upto m f (action (define x k) ∷ is) h = (h.0, items_upto m f is h.1)

upto_aux : (m : ℕ) (xs ys : List Item) → All (ItemUpto m) xs → All (ItemUpto m) ys → All (ItemUpto m) (reverse_aux xs ys)
upto_aux m [] ys h k = k
upto_aux m (x ∷ xs) ys h k = upto_aux m xs (x ∷ ys) h.1 (h.0, k)

module _ (B C : ℕ → ℕ) (m : ℕ) (same : (k : ℕ) → 1 ≤ k → k ≤ m → B k ≡ C k) where
  agree_action : (a : Action) → Upto m a → (size_of B a ≡ size_of C a) × (short_of B a ≡ short_of C a)
  agree_action (plain p) h = (refl, refl)
  agree_action (push vs) h = (refl, refl)
  agree_action (branch b l) h = (refl, refl)
  agree_action (define x k) h = let e = same k h.0 h.1 in (rw e, rw e)

  pub agree : (is : List Item) → All (ItemUpto m) is → (measures B is ≡ measures C is) × (all_short B is ≡ all_short C is)
  unfolding measures all_short
  agree [] h = (refl, refl)
  agree (mark l ∷ is) h = agree is h.1
  agree (action a ∷ is) h =
      let x = agree_action a h.0 in
      let y = agree is h.1 in
      (rw (x.0, y.0), rw (x.1, y.1))

-- marks

spots_are : (l : ℕ) (is : List Item) → marked 0 l (reverse is) ≡ reverse (spots l is)
unfolding spots
spots_are l [] = refl
spots_are l (action a ∷ is) = ap (marked 0 l) (reverse_more (action a) is) ∙ marked_append 0 l (reverse is) (action a ∷ []) ∙ append-nil (marked 0 l (reverse is)) ∙ spots_are l is
spots_are l (mark m ∷ is) =
    ap (marked 0 l) (reverse_more (mark m) is) ∙ marked_append 0 l (reverse is) (mark m ∷ []) ∙ go (eqb m l) (spots_are l is) (zero-add (length (actions (reverse is))) ∙ actions_reverse is)
  where
    go : (t : Bool) → marked 0 l (reverse is) ≡ reverse (spots l is) → 0 + length (actions (reverse is)) ≡ length (actions is) →
        marked 0 l (reverse is) ++ (elim t as (λ _. List ℕ) [ true ↦ (0 + length (actions (reverse is))) ∷ [] | false ↦ [] ])
        ≡ reverse (cond t (length (actions is) ∷ spots l is) (spots l is))
    go true e n = ap₂ (λ (xs : List ℕ) (k : ℕ). xs ++ (k ∷ [])) e n ∙ sym (reverse-append (length (actions is) ∷ []) (spots l is))
    go false e n = append-nil (marked 0 l (reverse is)) ∙ e

one_spot : (l p : ℕ) (is : List Item) → marked 0 l (reverse is) ≡ p ∷ [] → spots l is ≡ p ∷ []
one_spot l p is e = sym (reverse-reverse (spots l is)) ∙ ap reverse (sym (spots_are l is) ∙ e)

-- a branch that has been walked stays where it is

module _ (r : References) (b : Branching) (l : ℕ) (rest : List Item) where
  abbrev After : List Item → Type 0
  After is = (xs : List Item) × (is ≡ xs ++ (action (branch b l) ∷ rest))

  later_after : (v : Value) (xs : List Item) → All Fine (extended v (xs ++ (action (branch b l) ∷ rest))) → After (extended v (xs ++ (action (branch b l) ∷ rest)))
  later_after v [] h = absurd h.0
  later_after v (action (push []) ∷ xs) h = absurd h.0
  later_after v (action (push (u ∷ us)) ∷ xs) h = (action (push (u ∷ (us ++ (v ∷ [])))) ∷ xs, refl)
  later_after v (action (plain p) ∷ xs) h = absurd h.0
  later_after v (action (branch c m) ∷ xs) h = absurd h.0
  later_after v (action (define x n) ∷ xs) h = absurd h.0
  later_after v (mark m ∷ xs) h = absurd h.0

  added_after : (p : Piece) (xs : List Item) → All Fine (added r p (xs ++ (action (branch b l) ∷ rest))) → After (added r p (xs ++ (action (branch b l) ∷ rest)))
  added_after (Piece.op o) xs h = (_ ∷ xs, refl)
  added_after (Piece.ConstantPool n) xs h = (_ ∷ xs, refl)
  added_after (Piece.StoreRegister n) xs h = (_ ∷ xs, refl)
  added_after (Piece.GotoFrame n) xs h = (_ ∷ xs, refl)
  added_after (Piece.GotoFrame2 t) xs h = (_ ∷ xs, refl)
  added_after (Piece.GotoLabel s) xs h = (_ ∷ xs, refl)
  added_after (Piece.branch c m) xs h = (_ ∷ xs, refl)
  added_after (Piece.function n f) xs h = (_ ∷ xs, refl)
  added_after (Piece.mark m) xs h = (_ ∷ xs, refl)
  added_after (value true v) xs h = (_ ∷ xs, refl)
  added_after (value false v) xs h = later_after (value_of r v) xs h

stays_down : {F w : List ℕ} {from end : ℕ} → Standing F w from end → (b : Branching) (l : ℕ) (rest : List Item) (n i : ℕ) → from + n ≡ i → i ≤ end →
    After (references_in F w) b l rest (walked F w i (end - i)) → After (references_in F w) b l rest (walked F w from (end - from))
stays_down {F} {w} {from} {end} s b l rest zero i e h a = let z : i ≡ from = omega arith in subst (λ (k : ℕ). After (references_in F w) b l rest (walked F w k (end - k))) z a
stays_down {F} {w} {from} {end} s b l rest (suc n) i e h a =
    let m = walked_more F w i end (omega arith) h in
    let f : All Fine (added (references_in F w) (piece_at w (i - 1)) (a.0 ++ (action (branch b l) ∷ rest))) =
    subst (λ (is : List Item). All Fine (added (references_in F w) (piece_at w (i - 1)) is)) a.1 (fine_next s i (omega arith) h) in
    let x = added_after (references_in F w) b l rest (piece_at w (i - 1)) a.0 f in
    stays_down s b l rest n (i - 1) (omega arith) (omega arith) (x.0, m ∙ ap (added (references_in F w) (piece_at w (i - 1))) a.1 ∙ x.1)

elem_seam : (xs : List Action) (a : Action) (ys : List Action) → get_elem? (xs ++ (a ∷ ys)) (length xs) ≡ some a
elem_seam [] a ys = refl
elem_seam (x ∷ xs) a ys = elem_seam xs a ys

branch_elem : (xs : List Item) (a : Action) (rest : List Item) → get_elem? (actions (reverse (xs ++ (action a ∷ rest)))) (length (actions (reverse rest))) ≡ some a
branch_elem xs a rest =
    ap (λ (l : List Action). get_elem? l (length (actions (reverse rest))))
    (ap actions (reverse-append xs (action a ∷ rest)) ∙ actions_append (reverse (action a ∷ rest)) (reverse xs)
    ∙ ap (λ (l : List Action). l ++ actions (reverse xs)) (ap actions (reverse_more (action a) rest) ∙ actions_append (reverse rest) (action a ∷ []))
    ∙ append_assoc (actions (reverse rest)) (a ∷ []) (actions (reverse xs)))
    ∙ elem_seam (actions (reverse rest)) a (actions (reverse xs))

closed_at : (ls : List (List Item)) (k : ℕ) → facts.All Closed ls → Closed (list_at ls k)
closed_at [] k h = λ x q. elim q [ ]
closed_at (l ∷ ls) zero h = h.0
closed_at (l ∷ ls) (suc k) h = closed_at ls k h.1

-- the sizes of a body's actions

module _ (l : Lists) (g : Numbered l.functions 0 l.top (length l.functions)) where
  abbrev pub answer_bytes : ℕ → ℕ
  answer_bytes k = length (body_bytes l k)

  inner_size : (x : Header) (j : ℕ) → Named l.functions (define x j) → length (code_bytes (inner l g j)) ≡ answer_bytes j
  inner_size x j q = ap (λ (c : Code). length (code_bytes c)) (same_body l g x j q) ∙ sym (same_length (sizes (body l j)) 0 (body l j))

  sizes_go : (xs : List Action) → All (Named l.functions) xs → sizes (nest_list (inner l g) xs) ≡ map (size_of answer_bytes) xs
  unfolding word
  sizes_go [] q = refl
  sizes_go (plain p ∷ xs) q = ap (λ (ss : List ℕ). length (single_bytes (simple p)) ∷ ss) (sizes_go xs q.1)
  sizes_go (push vs ∷ xs) q = ap (λ (ss : List ℕ). length (single_bytes (pushing vs)) ∷ ss) (sizes_go xs q.1)
  sizes_go (branch Jump p ∷ xs) q = ap (λ (ss : List ℕ). 5 ∷ ss) (sizes_go xs q.1)
  sizes_go (branch If p ∷ xs) q = ap (λ (ss : List ℕ). 5 ∷ ss) (sizes_go xs q.1)
  sizes_go (define x j ∷ xs) q = ap₂ ◌∷◌ (ap (λ (n : ℕ). length (header_bytes x n) + n) (inner_size x j q.0)) (sizes_go xs q.1)

  pub body_sizes : (k : ℕ) → sizes (body l k) ≡ map (size_of answer_bytes) (list_of l k)
  unfolding nest
  body_sizes k = sizes_go (list_of l k) (are_named l g k)

  pub body_sum : (k : ℕ) → answer_bytes k ≡ sum (map (size_of answer_bytes) (list_of l k))
  unfolding position
  body_sum k =
      sym (end_begins l g k) ∙ ap (λ (ss : List ℕ). position ss (length (list_of l k))) (body_sizes k)
      ∙ ap sum (take_all (length (list_of l k)) (map (size_of answer_bytes) (list_of l k)) (omega (arith, length-map (list_of l k) (size_of answer_bytes))))

module _ {F w : List ℕ} (h : Lowered F w) (bytes : Bytes F) where
  abbrev pub lists : Lists
  lists = by_place h.lists

  abbrev pub rules : Numbered lists.functions 0 lists.top (length lists.functions)
  rules = (made h bytes).numbered

  abbrev pub body_of : ℕ → ℕ
  body_of = answer_bytes lists rules

  module _ (j : ℕ) (below : j < count_of w) where
    abbrev k : ℕ
    k = number_at (count_of w) j

    pub sizes_at_lem : (B : ℕ → ℕ) → measures B (walked_at F w j) ≡ map (size_of B) (list_of lists k)
    sizes_at_lem B =
        measures_is B (walked_at F w j) ∙ ap (λ (is : List Item). map (size_of B) (actions is)) (walked_list h j below)
        ∙ sym (ap (map (size_of B)) (list_by_place h.lists k) ∙ same_sizes B (place_of_label (list_at h.lists k)) (actions (list_at h.lists k)))

    own_upto : All (Upto j) (list_of lists k)
    own_upto = go (eqb (j + 1) (count_of w)) refl
      where
        deep : ℕ
        deep = length lists.functions

        many : count_of w ≡ suc deep
        many = lists_count h ∙ ap suc (sym (ap (λ (ls : List (List Item)). length (by_place ls).functions) (split h).2 ∙ length-map (split h).1 items_by_place))

        go : (t : Bool) → eqb (j + 1) (count_of w) ≡ t → All (Upto j) (list_of lists (cond t 0 (j + 1)))
        go true e = let z : deep ≡ j = omega (arith, many, eqb-true (j + 1) (count_of w) e) in subst (λ (m : ℕ). All (Upto m) lists.top) z (upto lists.functions 0 deep lists.top rules)
        go false e =
            let y = eqb-false (j + 1) (count_of w) e in
            let f = finished lists.functions deep 0 deep lists.top rules (omega arith) (omega arith) j (omega arith) (omega (arith, many)) in
            let z : j + 1 ≡ suc j = omega arith in
            subst (λ (m : ℕ). All (Upto j) (list_of lists m)) (sym z) (upto lists.functions f.from j (get_or lists.functions j []) f.numbered)

    pub walked_upto : All (ItemUpto j) (walked_at F w j)
    walked_upto =
        rw (walked_back h j below) (upto_aux j (list_at h.lists k) []
        (items_upto j (place_of_label (list_at h.lists k)) (list_at h.lists k) (rw (list_by_place h.lists k) at own_upto)) tt)

    closed_list : Closed (list_at h.lists k)
    closed_list =
        closed_at h.lists k (subst (facts.All Closed) (sym (split h).2)
        (branches_land limits01 (omega arith) (statements_of F) (split h).0 (split h).1 (h.from ∙ ap lowering.lists (split h).2)))

    pub branch_marked : (e : ℕ) (b : Branching) (l : ℕ) → start_of w j ≤ e → e < end_of w j → piece_at w e ≡ Piece.branch b l →
        (l < 1024) × (spots l (walked_at F w j) ≡ place_of_label (list_at h.lists k) l ∷ []) × (place_of_label (list_at h.lists k) l ≤ length (measures body_of (walked_at F w j)))
    branch_marked e b l lo hi q =
        let s = standing_at h bytes j below in
        let u : suc e - 1 ≡ e = omega arith in
        let rest : List Item = walked F w (suc e) (end_of w j - suc e) in
        let here : walked F w e (end_of w j - e) ≡ action (branch b l) ∷ rest =
        rw u at (walked_more F w (suc e) (end_of w j) (omega arith) hi) ∙ ap (λ (p : Piece). added (references_in F w) p rest) q in
        let a = stays_down s b l rest (e - start_of w j) e (omega arith) (omega arith) ([], here) in
        let is : List Item = list_at h.lists k in
        let x : get_elem? (actions is) (length (actions (reverse rest))) ≡ some (branch b l) =
        ap (λ (js : List Item). get_elem? (actions js) (length (actions (reverse rest)))) (sym (walked_list h j below) ∙ ap reverse a.1) ∙ branch_elem a.0 (branch b l) rest in
        let m = marked_there is closed_list (length (actions (reverse rest))) b l x in
        let place : place_of_label is l ≡ m.0 = marked_once is l m.0 m.1 in
        let many : length (measures body_of (walked_at F w j)) ≡ length (items_by_place is) =
        ap length (sizes_at_lem body_of) ∙ length-map (list_of lists k) (size_of body_of) ∙ ap length (list_by_place h.lists k) in (
          subst Operand q (s.known e lo hi).operand,
          one_spot l (place_of_label is l) (walked_at F w j) (ap (marked 0 l) (walked_list h j below) ∙ m.1 ∙ ap (λ (p : ℕ). p ∷ []) (sym place)),
          rw many (place_inside is l),
        )

  abbrev pub sized : Sized F w
  sized = record {
    body = body_of;
    place = λ j. place_of_label (list_at h.lists (number_at (count_of w) j));
    sum_is = λ j below. body_sum lists rules (number_at (count_of w) j) ∙ ap sum (sym (sizes_at_lem j below body_of));
    earlier = λ j below B same. agree B body_of j same (walked_at F w j) (walked_upto j below);
    marked = λ j e b l below lo hi q. branch_marked j below e b l lo hi q;
  }
