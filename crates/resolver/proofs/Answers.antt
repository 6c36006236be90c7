-- What the passes find is what the definition says: refusal 9, 10 or 11, or the tables.
use Prim.Native.Nat.{ℕ, zero, suc, ◌+◌, ◌-◌, ◌≤◌, ◌<◌}
use mathlib.Core.Path.{◌≡◌, refl, sym, ap, ap₂, ◌∙◌, subst}
use mathlib.Core.List.{List, [], ◌∷◌, ◌++◌, map, reverse, append-nil}
use mathlib.Core.Bool.{Bool, true, false, ◌&&◌}
use mathlib.Core.Option.{some}
use native.Mathlib.Omega.{arith}
use native.Mathlib.Nat.{zero-add}
use native.Mathlib.Decide.{dec_lt}
use lib.Dec.{T}
use lib.ListN.{length, get_or, get_elem?, length-map, get_or-eq_default}
use borrow.Author.Tests.{eq-eqb, ne_eqb, both_ways}
use Rattle.std.specs.Prelude.{Result}
use Rattle.std.specs.Cmp.Derive.{both_true}
use Rattle.std.proofs.lemmas.Float.{T_from_true}
use Rattle.refusal.specs.declared.Refusal.{Refusal}
use Rattle.pcode.specs.Pcode.{Branching, Action, Item, plain, push, branch, define, action, mark}
use Rattle.script.specs.Write.{Bytes}
use Rattle.script.proofs.WrittenRows.{first, second}
use Rattle.action_format.specs.ByPlace.{actions, place_of_label, rebranch, items_by_place}
use Rattle.action_format.specs.Lists.{Lists, all_lists, all}
use Rattle.action_format.specs.Strings.{strings, no_zero, zero_free}
use Rattle.action_format.specs.Code.{code}
use Rattle.action_format.specs.Offsets.{sizes, position, offset, all_near}
use Rattle.action_format.specs.Encode.{short, encode}
use Rattle.action_format.specs.ByList.{list_of, body, body_bytes, begins, action_short, action_near}
use Rattle.action_format.proofs.Tests.{All, is_true, all_at, all_true, true_all, elem, never, some_of}
use Rattle.action_format.proofs.Refusals.{short_by_actions, near_by_actions}
use Rattle.list_slice.specs.Entry.{Piece}
use Rattle.definition.specs.Outcome.{by_place}
use Rattle.definition.specs.Demand3.{list_at}
use Rattle.resolver.specs.Lowered.{Lowered}
use Rattle.resolver.specs.Walk.{count_of, index_of, list_from, list_end, piece_at}
use Rattle.resolver.specs.Sizes.{short_of, all_short, all_clear}
use Rattle.resolver.specs.Steps.{near_item, all_near_in}
use Rattle.resolver.specs.Passes as answered
use Rattle.resolver.specs.Passes.{walked_at, number_at, sizes_at, near_list, nearLists, Done, too_long, too_far, resolved, clear_lists, Answered, zero_byte, passed}
use Rattle.resolver.specs.Resolved.{place_at, Tables, Resolves, refused, good}
use Rattle.resolver.proofs.Whole.{split, lists_count, walked_list}
use Rattle.definition.proofs.Branches.{list_by_place}
use Rattle.definition.proofs.Records.{by_elem}
use Rattle.action_format.proofs.ByPlace.{actions_append, actions_reverse}
use Rattle.resolver.proofs.Sizing.{reverse_more, body_sizes, lists, rules, body_of, sizes_at_lem, sized}

-- tests over a row

all_last : {A : Type 0} (f : A → Bool) (xs : List A) (a : A) → all f (xs ++ (a ∷ [])) ≡ (f a && all f xs)
all_last f [] a = refl
all_last f (x ∷ xs) a = ap (λ (b : Bool). f x && b) (all_last f xs a) ∙ swap (f x) (f a) (all f xs)
  where
    swap : (a b c : Bool) → a && (b && c) ≡ b && (a && c)
    swap true b c = refl
    swap false true c = refl
    swap false false c = refl

-- The library's `false_from_ne_true` refutes an equation; what is refuted here is a T.
not-truth : (b : Bool) → (T b → ⊥) → b ≡ false
not-truth true h = absurd (h tt)
not-truth false h = refl

-- tests of items, the last item first, as tests of actions in order

abbrev clear_of : Action → Bool
clear_of a = all no_zero (strings a)

clear-is : (is : List Item) → all_clear is ≡ all clear_of (actions (reverse is))
unfolding all_clear
clear-is [] = refl
clear-is (action a ∷ is) =
    ap (λ (b : Bool). clear_of a && b) (clear-is is) ∙ sym (ap (λ (l : List Item). all clear_of (actions l)) (reverse_more (action a) is)
    ∙ ap (all clear_of) (actions_append (reverse is) (action a ∷ [])) ∙ all_last clear_of (actions (reverse is)) a)
clear-is (mark l ∷ is) =
    clear-is is ∙ sym (ap (λ (k : List Item). all clear_of (actions k)) (reverse_more (mark l) is)
    ∙ ap (all clear_of) (actions_append (reverse is) (mark l ∷ []) ∙ append-nil (actions (reverse is))))

short-is : (B : ℕ → ℕ) (is : List Item) → all_short B is ≡ all (short_of B) (actions (reverse is))
unfolding all_short
short-is B [] = refl
short-is B (action a ∷ is) =
    ap (λ (b : Bool). short_of B a && b) (short-is B is) ∙ sym (ap (λ (l : List Item). all (short_of B) (actions l)) (reverse_more (action a) is)
    ∙ ap (all (short_of B)) (actions_append (reverse is) (action a ∷ [])) ∙ all_last (short_of B) (actions (reverse is)) a)
short-is B (mark l ∷ is) =
    short-is B is ∙ sym (ap (λ (k : List Item). all (short_of B) (actions k)) (reverse_more (mark l) is)
    ∙ ap (all (short_of B)) (actions_append (reverse is) (mark l ∷ []) ∙ append-nil (actions (reverse is))))

abbrev near-from : List ℕ → (ℕ → ℕ) → ℕ → List Action → Bool
near-from ss f i [] = true
near-from ss f i (a ∷ xs) = near_item ss f i a && near-from ss f (suc i) xs

near_last : (ss : List ℕ) (f : ℕ → ℕ) (i : ℕ) (xs : List Action) (a : Action) → near-from ss f i (xs ++ (a ∷ [])) ≡ (near_item ss f (i + length xs) a && near-from ss f i xs)
near_last ss f i [] a = let z : i + 0 ≡ i = omega arith in rw z
near_last ss f i (x ∷ xs) a =
    let z : i + suc (length xs) ≡ suc i + length xs = omega arith in
    ap (λ (b : Bool). near_item ss f i x && b) (near_last ss f (suc i) xs a) ∙ swap (near_item ss f i x) (near_item ss f (suc i + length xs) a) (near-from ss f (suc i) xs)
    ∙ ap (λ (n : ℕ). near_item ss f n a && (near_item ss f i x && near-from ss f (suc i) xs)) (sym z)
  where
    swap : (a b c : Bool) → a && (b && c) ≡ b && (a && c)
    swap true b c = refl
    swap false true c = refl
    swap false false c = refl

near_is : (ss : List ℕ) (f : ℕ → ℕ) (is : List Item) → all_near_in ss f is ≡ near-from ss f 0 (actions (reverse is))
unfolding all_near_in
near_is ss f [] = refl
near_is ss f (action a ∷ is) =
    ap₂ (λ (n : ℕ) (b : Bool). near_item ss f n a && b) (sym (zero-add (length (actions (reverse is))) ∙ actions_reverse is)) (near_is ss f is)
    ∙ sym (ap (λ (l : List Item). near-from ss f 0 (actions l)) (reverse_more (action a) is)
    ∙ ap (near-from ss f 0) (actions_append (reverse is) (action a ∷ [])) ∙ near_last ss f 0 (actions (reverse is)) a)
near_is ss f (mark l ∷ is) =
    near_is ss f is ∙ sym (ap (λ (k : List Item). near-from ss f 0 (actions k)) (reverse_more (mark l) is)
    ∙ ap (near-from ss f 0) (actions_append (reverse is) (mark l ∷ []) ∙ append-nil (actions (reverse is))))

-- with places for labels

clear-places : (f : ℕ → ℕ) (xs : List Action) → all clear_of (map (rebranch f) xs) ≡ all clear_of xs
clear-places f [] = refl
clear-places f (plain p ∷ xs) = ap (λ (b : Bool). clear_of (plain p) && b) (clear-places f xs)
clear-places f (push vs ∷ xs) = ap (λ (b : Bool). clear_of (push vs) && b) (clear-places f xs)
clear-places f (branch c l ∷ xs) = clear-places f xs
clear-places f (define h n ∷ xs) = ap (λ (b : Bool). clear_of (define h n) && b) (clear-places f xs)

short-places : (B f : ℕ → ℕ) (xs : List Action) → all (short_of B) (map (rebranch f) xs) ≡ all (short_of B) xs
short-places B f [] = refl
short-places B f (plain p ∷ xs) = ap (λ (b : Bool). short_of B (plain p) && b) (short-places B f xs)
short-places B f (push vs ∷ xs) = ap (λ (b : Bool). short_of B (push vs) && b) (short-places B f xs)
short-places B f (branch c l ∷ xs) = short-places B f xs
short-places B f (define h n ∷ xs) = ap (λ (b : Bool). short_of B (define h n) && b) (short-places B f xs)

-- numbers and places in the finishing order
pub number-index : (n k : ℕ) → k < n → (index_of n k < n) × (number_at n (index_of n k) ≡ k)
number-index n zero h = (omega arith, rw (eq-eqb (n - 1 + 1) n (omega arith)))
number-index n (suc k) h = (omega arith, rw (ne_eqb (k + 1) n (λ e. omega arith)) (omega arith))

module _ {F w : List ℕ} (h : Lowered F w) (bytes : Bytes F) where
  abbrev l : Lists
  l = lists h bytes

  many : count_of w ≡ length (all_lists l)
  many = lists_count h ∙ ap suc (sym (ap (λ (ls : List (List Item)). length (by_place ls).functions) (split h).2 ∙ length-map (split h).1 items_by_place))

  module _ (j : ℕ) (below : j < count_of w) where
    abbrev k : ℕ
    k = number_at (count_of w) j

    clear_at : all_clear (walked_at F w j) ≡ all clear_of (list_of l k)
    clear_at =
        clear-is (walked_at F w j) ∙ ap (λ (is : List Item). all clear_of (actions is)) (walked_list h j below)
        ∙ sym (ap (all clear_of) (list_by_place h.lists k) ∙ clear-places (place_of_label (list_at h.lists k)) (actions (list_at h.lists k)))

    short_at : all_short (body_of h bytes) (walked_at F w j) ≡ all (short_of (body_of h bytes)) (list_of l k)
    short_at =
        short-is (body_of h bytes) (walked_at F w j) ∙ ap (λ (is : List Item). all (short_of (body_of h bytes)) (actions is)) (walked_list h j below)
        ∙ sym (ap (all (short_of (body_of h bytes))) (list_by_place h.lists k) ∙ short-places (body_of h bytes) (place_of_label (list_at h.lists k)) (actions (list_at h.lists k)))

    sizes-are : sizes_at (sized h bytes) j ≡ sizes (body l k)
    sizes-are = sizes_at_lem h bytes j below (body_of h bytes) ∙ sym (body_sizes l (rules h bytes) k)

  -- all lists, by their places

  clear-lists : (m : ℕ) → m ≤ count_of w → clear_lists F w m ≡ true → (i : ℕ) → i < m → all_clear (walked_at F w i) ≡ true
  unfolding clear_lists
  clear-lists zero le e i q = absurd (omega arith)
  clear-lists (suc m) le e i q = go (dec_lt i m) (clear-lists m (omega arith) (second (all_clear (walked_at F w m)) (clear_lists F w m) e))
    where
      go : Dec (i < m) → ((i : ℕ) → i < m → all_clear (walked_at F w i) ≡ true) → all_clear (walked_at F w i) ≡ true
      go (yes y) f = f i y
      go (no y) f = let z : i ≡ m = omega arith in rw z (first (all_clear (walked_at F w m)) (clear_lists F w m) e)

  clear-every : (m : ℕ) → ((i : ℕ) → i < m → all_clear (walked_at F w i) ≡ true) → clear_lists F w m ≡ true
  unfolding clear_lists
  clear-every zero f = refl
  clear-every (suc m) f = both_true (f m (omega arith)) (clear-every m (λ i q. f i (omega arith)))

  near-lists : (m : ℕ) → nearLists (sized h bytes) m ≡ true → (i : ℕ) → i < m → near_list (sized h bytes) i ≡ true
  unfolding nearLists
  near-lists zero e i q = absurd (omega arith)
  near-lists (suc m) e i q = go (dec_lt i m) (near-lists m (second (near_list (sized h bytes) m) (nearLists (sized h bytes) m) e))
    where
      go : Dec (i < m) → ((i : ℕ) → i < m → near_list (sized h bytes) i ≡ true) → near_list (sized h bytes) i ≡ true
      go (yes y) f = f i y
      go (no y) f = let z : i ≡ m = omega arith in rw z (first (near_list (sized h bytes) m) (nearLists (sized h bytes) m) e)

  near-every : (m : ℕ) → ((i : ℕ) → i < m → near_list (sized h bytes) i ≡ true) → nearLists (sized h bytes) m ≡ true
  unfolding nearLists
  near-every zero f = refl
  near-every (suc m) f = both_true (f m (omega arith)) (near-every m (λ i q. f i (omega arith)))

  no_list : (k : ℕ) → count_of w ≤ k → list_of l k ≡ []
  no_list k y = get_or-eq_default (all_lists l) [] {n = k} (omega (arith, many))

  -- what holds of each list by its place holds by its number, and of lists that are not there
  by_number : (g : List Action → Bool) → T (g []) → ((j : ℕ) → j < count_of w → T (g (list_of l (number_at (count_of w) j)))) → (k : ℕ) → T (g (list_of l k))
  by_number g e f k = go (dec_lt k (count_of w))
    where
      go : Dec (k < count_of w) → T (g (list_of l k))
      go (yes y) = let x = number-index (count_of w) k y in subst (λ (m : ℕ). T (g (list_of l m))) x.1 (f (index_of (count_of w) k) x.0)
      go (no y) = let z : list_of l k ≡ [] = no_list k (omega arith) in subst (λ (xs : List Action). T (g xs)) (sym z) e

  every : (g : List Action → Bool) → T (g []) → ((k : ℕ) → T (g (list_of l k))) → T (all g (all_lists l))
  every g e f = true_all g (all_lists l) (go (all_lists l) f)
    where
      go : (ls : List (List Action)) → ((k : ℕ) → T (g (get_or ls k []))) → All (λ xs. T (g xs)) ls
      go [] f = tt
      go (x ∷ ls) f = (f 0, go ls (λ k. f (suc k)))

  clear-true : clear_lists F w (count_of w) ≡ true → T (zero_free l)
  clear-true e =
      every (all clear_of) tt (by_number (all clear_of) tt (λ j b. T_from_true (all clear_of (list_of l (number_at (count_of w) j))) (sym (clear_at j b) ∙ clear-lists (count_of w) (omega arith) e j b)))

  clear-false : clear_lists F w (count_of w) ≡ false → zero_free l ≡ false
  clear-false e = not-truth (zero_free l) (λ t. both_ways (clear_lists F w (count_of w)) e
      (clear-every (count_of w) (λ i q. clear_at i q ∙ is_true (all clear_of (list_of l (number_at (count_of w) i))) (all_at (all clear_of) (all_lists l) (number_at (count_of w) i) tt t))))

  same_short : (a : Action) → T (short_of (body_of h bytes) a) → T (action_short l a)
  same_short (plain p) t = t
  same_short (push vs) t = t
  same_short (branch b p) t = t
  same_short (define x j) t = t

  same_back : (a : Action) → T (action_short l a) → T (short_of (body_of h bytes) a)
  same_back (plain p) t = t
  same_back (push vs) t = t
  same_back (branch b p) t = t
  same_back (define x j) t = t

  short_true : ((j : ℕ) → j < count_of w → all_short (body_of h bytes) (walked_at F w j) ≡ true) → T (short (code l))
  short_true f = (short_by_actions l (rules h bytes)).1 (λ k i a q. same_short a (elem (λ x. T (short_of (body_of h bytes) x)) (list_of l k) i a
      (all_true (short_of (body_of h bytes)) (list_of l k) (by_number (all (short_of (body_of h bytes))) tt
      (λ j b. T_from_true (all (short_of (body_of h bytes)) (list_of l (number_at (count_of w) j))) (sym (short_at j b) ∙ f j b)) k)) q))

  short-false : (j : ℕ) → j < count_of w → all_short (body_of h bytes) (walked_at F w j) ≡ false → short (code l) ≡ false
  short-false j b e = not-truth (short (code l)) (λ t. both_ways (all_short (body_of h bytes) (walked_at F w j)) e (short_at j b ∙ is_true (all (short_of (body_of h bytes)) (list_of l (number_at (count_of w) j)))
      (by_elem (short_of (body_of h bytes)) (list_of l (number_at (count_of w) j)) (λ i a q. same_back a ((short_by_actions l (rules h bytes)).0 t (number_at (count_of w) j) i a q)))))

  -- refusal 11's test of a list
  module _ (j : ℕ) (below : j < count_of w) where
    abbrev is : List Item
    is = list_at h.lists (number_at (count_of w) j)

    abbrev f : ℕ → ℕ
    f = place_of_label is

    abbrev ss : List ℕ
    ss = sizes (body l (number_at (count_of w) j))

    near_at_lem : near_list (sized h bytes) j ≡ near-from ss f 0 (actions is)
    near_at_lem =
        ap (λ (zs : List ℕ). all_near_in zs f (walked_at F w j)) (sizes-are j below) ∙ near_is ss f (walked_at F w j)
        ∙ ap (λ (js : List Item). near-from ss f 0 (actions js)) (walked_list h j below)

    near-go : (i : ℕ) (xs : List Action) → T (near-from ss f i xs) → (m : ℕ) (a : Action) → get_elem? (map (rebranch f) xs) m ≡ some a →
        T (action_near l (number_at (count_of w) j) (i + m) a)
    near-go i [] t m a q = never a q
    near-go i (x ∷ xs) t zero a q =
        let z : i + 0 ≡ i = omega arith in
        subst (λ (y : Action). T (action_near l (number_at (count_of w) j) (i + 0) y)) (some_of q) (rw z (one x (T_from_true (near_item ss f i x) (first (near_item ss f i x) (near-from ss f (suc i) xs) (is_true (near-from ss f i (x ∷ xs)) t)))))
      where
        one : (x : Action) → T (near_item ss f i x) → T (action_near l (number_at (count_of w) j) i (rebranch f x))
        one (plain p) t = tt
        one (push vs) t = tt
        one (branch b p) t = t
        one (define y n) t = tt
    near-go i (x ∷ xs) t (suc m) a q =
        let z : i + suc m ≡ suc i + m = omega arith in
        rw z (near-go (suc i) xs (T_from_true (near-from ss f (suc i) xs) (second (near_item ss f i x) (near-from ss f (suc i) xs) (is_true (near-from ss f i (x ∷ xs)) t))) m a q)

    near-back : (i : ℕ) (xs : List Action) → ((m : ℕ) (a : Action) → get_elem? (map (rebranch f) xs) m ≡ some a → T (action_near l (number_at (count_of w) j) (i + m) a)) →
        near-from ss f i xs ≡ true
    near-back i [] g = refl
    near-back i (x ∷ xs) g =
        both_true (one x (let z : i + 0 ≡ i = omega arith in rw z at (g 0 (rebranch f x) refl)))
        (near-back (suc i) xs (λ m a q. let z : i + suc m ≡ suc i + m = omega arith in rw z at (g (suc m) a q)))
      where
        one : (x : Action) → T (action_near l (number_at (count_of w) j) i (rebranch f x)) → near_item ss f i x ≡ true
        one (plain p) t = refl
        one (push vs) t = refl
        one (branch b p) t = is_true (near_item ss f i (branch b p)) t
        one (define y n) t = refl

  near-true : nearLists (sized h bytes) (count_of w) ≡ true → T (all_near (code l))
  near-true e = (near_by_actions l (rules h bytes)).1 (λ k i a q. go k i a q (dec_lt k (count_of w)))
    where
      go : (k i : ℕ) (a : Action) → get_elem? (list_of l k) i ≡ some a → Dec (k < count_of w) → T (action_near l k i a)
      go k i a q (no y) = let z : list_of l k ≡ [] = no_list k (omega arith) in never a (ap (λ (xs : List Action). get_elem? xs i) (sym z) ∙ q)
      go k i a q (yes y) =
          let x = number-index (count_of w) k y in
          let j : ℕ = index_of (count_of w) k in
          let t : T (near-from (ss j x.0) (f j x.0) 0 (actions (is j x.0))) =
          T_from_true (near-from (ss j x.0) (f j x.0) 0 (actions (is j x.0))) (sym (near_at_lem j x.0) ∙ near-lists (count_of w) e j x.0) in
          let q' : get_elem? (map (rebranch (f j x.0)) (actions (is j x.0))) i ≡ some a =
          ap (λ (xs : List Action). get_elem? xs i) (sym (list_by_place h.lists (number_at (count_of w) j)) ∙ ap (list_of l) x.1) ∙ q in
          let u : 0 + i ≡ i = omega arith in
          subst (λ (m : ℕ). T (action_near l m i a)) x.1 (rw u at (near-go j x.0 0 (actions (is j x.0)) t i a q'))

  near-false : nearLists (sized h bytes) (count_of w) ≡ false → all_near (code l) ≡ false
  near-false e = not-truth (all_near (code l)) (λ t. both_ways (nearLists (sized h bytes) (count_of w)) e
      (near-every (count_of w) (λ j b. near_at_lem j b ∙ near-back j b 0 (actions (is j b))
      (λ m a q. let u : 0 + m ≡ m = omega arith in rw u ((near_by_actions l (rules h bytes)).0 t (number_at (count_of w) j) m a
      (ap (λ (xs : List Action). get_elem? xs m) (list_by_place h.lists (number_at (count_of w) j)) ∙ q))))))

  -- the tables
  module _ {near : Bool} {sizes offsets : List ℕ} (d : Done (sized h bytes) (count_of w) near sizes offsets) where
    size-of-list : (k : ℕ) → k < count_of w → get_or sizes k 0 ≡ length (body_bytes l k)
    size-of-list k b = let x = number-index (count_of w) k b in subst (λ (m : ℕ). get_or sizes m 0 ≡ length (body_bytes l m)) x.1 (d.sized (index_of (count_of w) k) x.0)

    branch-of-list : (k e : ℕ) (b : Branching) (label : ℕ) → k < count_of w → list_from w k ≤ e → e < list_end w k → piece_at w e ≡ Piece.branch b label →
        get_or offsets e 0 ≡ offset (begins l k (suc (place_at F w k e))) (begins l k (place_of_label (list_at h.lists k) label))
    branch-of-list k e b label c lo hi q =
        let x = number-index (count_of w) k c in
        let j : ℕ = index_of (count_of w) k in
        let p : ℕ = place_at F w k e in
        d.at j e b label x.0 lo hi q
        ∙ ap (λ (zs : List ℕ). offset (position zs (suc p)) (position zs (place_of_label (list_at h.lists (number_at (count_of w) j)) label))) (sizes-are j x.0)
        ∙ ap (λ (m : ℕ). offset (begins l m (suc p)) (begins l m (place_of_label (list_at h.lists m) label))) x.1

    tables : Tables F w h.lists sizes offsets
    tables = record { body_size = size-of-list; at_branch = branch-of-list }

  some-list : 0 < count_of w
  some-list = omega (arith, lists_count h)

  -- the answer is the definition's
  pub resolves : {sizes offsets : List ℕ} {r : Result ℕ Refusal} → Answered (sized h bytes) sizes offsets r → Resolves F w h.lists sizes offsets r
  unfolding encode
  resolves (zero_byte e) = refused (λ room. rw (clear-false e))
  resolves (answered.refused c (too_long j b e)) = refused (λ room. rw (is_true (zero_free l) (clear-true c), short-false j b e))
  resolves (answered.refused c (too_far d)) =
      refused (λ room. rw (is_true (zero_free l) (clear-true c), is_true (short (code l)) (short_true d.short), near-false (sym d.near_are)))
  resolves (passed c (resolved d)) =
      good (record { tables = tables d; no_zeros = clear-true c; is_short = short_true d.short; is_near = near-true (sym d.near_are) }) (size-of-list d 0 some-list)
