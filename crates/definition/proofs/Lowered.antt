-- What lowering gives for a tree in range keeps the rules of lists, all but the one on zero bytes.
use Prim.Native.Nat.{ℕ, suc, ◌^◌, ◌<◌, ◌≤◌}
use mathlib.Core.Path.{◌≡◌, refl, sym, ◌∙◌, subst}
use mathlib.Core.List.{List, [], ◌∷◌, map}
use mathlib.Core.Bool.{Bool, true, ◌&&◌}
use native.Mathlib.Omega.{arith}
use lib.Dec.{T, leb, ltb, le→leb, lt→ltb}
use lib.ListN.{length, get_or, length-map}
use Rattle.hir.specs.Hir.{Str, Rec}
use Rattle.hir.specs.Tree.{Forest}
use Rattle.utf8.specs.Utf8.{completes, utf8}
use Rattle.pcode.specs.Pcode.{Value, Null, Undefined, True, False, String, Integer, Float, Constant, Param, Header, DefineFunction, DefineFunction2, Plain, op, ConstantPool, StoreRegister, GotoFrame, GotoFrame2, GotoLabel, Action, plain, push, branch, define, Item, action, mark}
use Rattle.lowering.specs.Builder.{Limits}
use Rattle.lowering.specs.Statement.{lists, pool, script_to_actions}
use Rattle.lowering.proofs.Theorems.Facts.{All, is_action, pushed_by, sum, actions_in, values_in, At, here, there, Goes, ValueOk, ParamOk, HeaderOk, PlainOk, ItemOk, InRange}
use Rattle.lowering.proofs.Theorems.Facts as facts
use Rattle.lowering.proofs.Theorems.{Ranges, in_order, within_limits, in_range_lem}
use Rattle.action_format.specs.ByPlace.{actions, place_of_label, rebranch, items_by_place}
use Rattle.action_format.specs.Lists.{Lists, all_lists, lists_by_place, all, simple, pushing, branching, Numbered, stop, one, function}
use Rattle.action_format.specs.Strings.{value_strings, values_strings, plain_strings, header_strings, strings, lists_are_utf8}
use Rattle.action_format.specs.Rules.{value_fits, plain_fits, header_fits, filled, fits, list_fits, no_pool, pool_first, total, action_values, within, shaped, OfLowering}
use Rattle.action_format.proofs.Tests.{and_both, all_both, never, some_of}
use Rattle.action_format.proofs.ByPlace.{place_inside}
use Rattle.definition.specs.Outcome.{byte_limits}

-- a string is UTF-8
abbrev pub Utf8 : Str → Type 0
Utf8 s = T (utf8 s)

-- every test of a list, from what holds of its items

each : {A : Type 0} {Q : A → Type 0} (f : A → Bool) → ((a : A) → Q a → T (f a)) → (xs : List A) → All Q xs → T (all f xs)
each f k [] h = tt
each f k (x ∷ xs) h = and_both (f x) (all f xs) (k x h.0) (each f k xs h.1)

module _ (Q : Item → Type 0) where
  each_action : (f : Action → Bool) (g : ℕ → ℕ) → ((a : Action) → Q (action a) → T (f (rebranch g a))) → (is : List Item) → All Q is →
      T (all f (map (rebranch g) (actions is)))
  each_action f g k [] h = tt
  each_action f g k (action a ∷ is) h =
      and_both (f (rebranch g a)) (all f (map (rebranch g) (actions is))) (k a h.0) (each_action f g k is h.1)
  each_action f g k (mark l ∷ is) h = each_action f g k is h.1

  each_list : (f : List Action → Bool) → ((is : List Item) → All Q is → T (f (items_by_place is))) → (ls : List (List Item)) → All (All Q) ls →
      T (all f (map items_by_place ls))
  each_list f k [] h = tt
  each_list f k (is ∷ ls) h = and_both (f (items_by_place is)) (all f (map items_by_place ls)) (k is h.0) (each_list f k ls h.1)

-- operands in their ranges

value_in_lem : (n : ℕ) (v : Value) → ValueOk Utf8 n v → T (value_fits n v)
value_in_lem n Null h = tt
value_in_lem n Undefined h = tt
value_in_lem n True h = tt
value_in_lem n False h = tt
value_in_lem n (String s) h = tt
value_in_lem n (Integer v) h = lt→ltb v (2 ^ 32) h
value_in_lem n (Float v) h = lt→ltb v (2 ^ 64) h
value_in_lem n (Value.Register r) h = lt→ltb r 256 h
value_in_lem n (Constant i) h = lt→ltb i n h

plain_in : (p : Plain) → PlainOk Utf8 p → T (plain_fits p)
plain_in (op o) h = tt
plain_in (ConstantPool ss) h = tt
plain_in (StoreRegister r) h = lt→ltb r 256 h
plain_in (GotoFrame n) h = lt→ltb n 65536 h
plain_in (GotoFrame2 p) h = tt
plain_in (GotoLabel s) h = tt

header_in_lem : (h : Header) → HeaderOk Utf8 h → T (header_fits h)
header_in_lem (DefineFunction n ps) k = tt
header_in_lem (DefineFunction2 n ps r m) k =
    and_both (leb 2 r && ltb r 256 && ltb m 512) (all (λ (p : Param). ltb p.register 256) ps)
    (and_both (leb 2 r && ltb r 256) (ltb m 512) (and_both (leb 2 r) (ltb r 256) (le→leb 2 r k.2) (lt→ltb r 256 k.3)) (lt→ltb m 512 k.4))
    (each (λ (p : Param). ltb p.register 256) (λ p q. lt→ltb p.register 256 q.1) ps k.1)

not_empty : (vs : List Value) → 0 < length vs → T (filled vs)
not_empty [] h = absurd (omega arith)
not_empty (v ∷ vs) h = tt

action_in : (n : ℕ) (is : List Item) (a : Action) → ItemOk Utf8 n (action a) → T (fits n (length (items_by_place is)) (rebranch (place_of_label is) a))
action_in n is (plain p) h = plain_in p h
action_in n is (push vs) h = and_both (filled vs) (all (value_fits n) vs) (not_empty vs h.0) (each (value_fits n) (value_in_lem n) vs h.1)
action_in n is (branch b l) h = le→leb (place_of_label is l) (length (items_by_place is)) (place_inside is l)
action_in n is (define x k) h = header_in_lem x h

-- no pool but the first

plain_no_pool : (p : Plain) → PlainOk Utf8 p → T (no_pool (plain p))
plain_no_pool (op o) h = tt
plain_no_pool (ConstantPool ss) h = absurd h
plain_no_pool (StoreRegister r) h = tt
plain_no_pool (GotoFrame n) h = tt
plain_no_pool (GotoFrame2 p) h = tt
plain_no_pool (GotoLabel s) h = tt

action_no_pool : (n : ℕ) (g : ℕ → ℕ) (a : Action) → ItemOk Utf8 n (action a) → T (no_pool (rebranch g a))
action_no_pool n g (plain p) h = plain_no_pool p h
action_no_pool n g (push vs) h = tt
action_no_pool n g (branch b l) h = tt
action_no_pool n g (define x k) h = tt

-- strings

value_text : (n : ℕ) (v : Value) → ValueOk Utf8 n v → T (all utf8 (value_strings v))
value_text n Null h = tt
value_text n Undefined h = tt
value_text n True h = tt
value_text n False h = tt
value_text n (String s) h = and_both (utf8 s) true h tt
value_text n (Integer v) h = tt
value_text n (Float v) h = tt
value_text n (Value.Register r) h = tt
value_text n (Constant i) h = tt

values_text : (n : ℕ) (vs : List Value) → All (ValueOk Utf8 n) vs → T (all utf8 (values_strings vs))
values_text n [] h = tt
values_text n (v ∷ vs) h = all_both utf8 (value_strings v) (values_strings vs) (value_text n v h.0) (values_text n vs h.1)

plain_text : (p : Plain) → PlainOk Utf8 p → T (all utf8 (plain_strings p))
plain_text (op o) h = tt
plain_text (ConstantPool ss) h = absurd h
plain_text (StoreRegister r) h = tt
plain_text (GotoFrame n) h = tt
plain_text (GotoFrame2 p) h = tt
plain_text (GotoLabel s) h = and_both (utf8 s) true h tt

texts_in : (ss : List Str) → All Utf8 ss → T (all utf8 ss)
texts_in ss h = each utf8 (λ s q. q) ss h

names_in : (ps : List Param) → All (ParamOk Utf8) ps → T (all utf8 (map (λ (p : Param). p.name) ps))
names_in [] h = tt
names_in (p ∷ ps) h = and_both (utf8 p.name) (all utf8 (map (λ (p : Param). p.name) ps)) h.0.0 (names_in ps h.1)

header_text : (h : Header) → HeaderOk Utf8 h → T (all utf8 (header_strings h))
header_text (DefineFunction n ps) k = and_both (utf8 n) (all utf8 ps) k.0 (texts_in ps k.1)
header_text (DefineFunction2 n ps r m) k = and_both (utf8 n) (all utf8 (map (λ (p : Param). p.name) ps)) k.0 (names_in ps k.1)

action_text : (n : ℕ) (g : ℕ → ℕ) (a : Action) → ItemOk Utf8 n (action a) → T (all utf8 (strings (rebranch g a)))
action_text n g (plain p) h = plain_text p h
action_text n g (push vs) h = values_text n vs h.1
action_text n g (branch b l) h = tt
action_text n g (define x k) h = header_text x h

-- limits

actions_counted : (is : List Item) → length (items_by_place is) ≡ sum is_action is
actions_counted is = length-map (actions is) (rebranch (place_of_label is)) ∙ go is
  where
    go : (is : List Item) → length (actions is) ≡ sum is_action is
    go [] = refl
    go (action a ∷ is) = omega (arith, go is)
    go (mark l ∷ is) = omega (arith, go is)

values_counted : (g : ℕ → ℕ) (is : List Item) → total action_values (map (rebranch g) (actions is)) ≡ sum pushed_by is
values_counted g [] = refl
values_counted g (action (plain p) ∷ is) = omega (arith, values_counted g is)
values_counted g (action (push vs) ∷ is) = omega (arith, values_counted g is)
values_counted g (action (branch b l) ∷ is) = omega (arith, values_counted g is)
values_counted g (action (define h n) ∷ is) = omega (arith, values_counted g is)
values_counted g (mark l ∷ is) = omega (arith, values_counted g is)

all_actions_counted : (ls : List (List Item)) → total length (map items_by_place ls) ≡ actions_in ls
all_actions_counted [] = refl
all_actions_counted (is ∷ ls) = omega (arith, actions_counted is, all_actions_counted ls)

all_values_counted : (ls : List (List Item)) → total (total action_values) (map items_by_place ls) ≡ values_in ls
all_values_counted [] = refl
all_values_counted (is ∷ ls) = omega (arith, values_counted (place_of_label is) is, all_values_counted ls)

-- function lists are numbered as they finish

at_length : {l : List Item} {ls : List (List Item)} {k : ℕ} → At l ls k → k < length (map items_by_place ls)
at_length (here {ls = ls}) = omega arith
at_length (there q) = omega (arith, at_length q)

at_list : {l : List Item} {ls : List (List Item)} {k : ℕ} → At l ls k → get_or (map items_by_place ls) k [] ≡ items_by_place l
at_list here = refl
at_list (there q) = at_list q

numbered_by_place : {ls : List (List Item)} {n m : ℕ} {is : List Item} (g : ℕ → ℕ) → Goes ls n is m →
    Numbered (map items_by_place ls) n (map (rebranch g) (actions is)) m
numbered_by_place g facts.stop = stop
numbered_by_place g (facts.plain {i = mark l} e r) = numbered_by_place g r
numbered_by_place g (facts.plain {i = action (plain p)} e r) = one (simple p) (numbered_by_place g r)
numbered_by_place g (facts.plain {i = action (push vs)} e r) = one (pushing vs) (numbered_by_place g r)
numbered_by_place g (facts.plain {i = action (branch b l)} e r) = one (branching b (g l)) (numbered_by_place g r)
numbered_by_place g (facts.plain {i = action (define h k)} e r) = never k (sym e)
numbered_by_place g (facts.function {i = mark l} {k = k} e at body r) = never (suc k) e
numbered_by_place g (facts.function {i = action (plain p)} {k = k} e at body r) = never (suc k) e
numbered_by_place g (facts.function {i = action (push vs)} {k = k} e at body r) = never (suc k) e
numbered_by_place g (facts.function {i = action (branch b l)} {k = k} e at body r) = never (suc k) e
numbered_by_place {ls} {n} {m} g (facts.function {i = action (define h j)} {is = is} {l = l} {k = k} e at body r) =
    subst (λ (x : ℕ). Numbered (map items_by_place ls) n (define h x ∷ map (rebranch g) (actions is)) m) (sym (some_of e))
    (function (at_length at)
    (subst (λ (xs : List Action). Numbered (map items_by_place ls) n xs k) (sym (at_list at)) (numbered_by_place (place_of_label l) body))
    (numbered_by_place g r))

-- the rules that a test decides
module _ (lim : Limits) (ss : List Str) (rest : List Item) (fs : List (List Item)) where
  abbrev top : List Item
  top = pool ss ∷ rest

  abbrev l : Lists
  l = lists_by_place top fs

  tested : All Utf8 ss → All (ItemOk Utf8 (length ss)) rest → All (All (ItemOk Utf8 (length ss))) fs →
      (actions_in (top ∷ fs) ≤ lim.actions) × (values_in (top ∷ fs) ≤ lim.values) → T (shaped (byte_limits lim) l)
  tested texts items functions few =
      let n : ℕ = length ss in
      let items_ok : Item → Type 0 = ItemOk Utf8 n in
      let xs : List Action = map (rebranch (place_of_label top)) (actions rest) in
      let a : T (pool_first l) = and_both (all no_pool xs) (all (all no_pool) (map items_by_place fs))
      (each_action items_ok no_pool (place_of_label top) (action_no_pool n (place_of_label top)) rest items)
      (each_list items_ok (all no_pool) (λ is h. each_action items_ok no_pool (place_of_label is) (action_no_pool n (place_of_label is)) is h) fs functions) in
      let b : T (all (list_fits n) (all_lists l)) = and_both (list_fits n (items_by_place top)) (all (list_fits n) (map items_by_place fs))
      (each_action items_ok (fits n (length (items_by_place top))) (place_of_label top) (action_in n top) rest items)
      (each_list items_ok (list_fits n) (λ is h. each_action items_ok (fits n (length (items_by_place is))) (place_of_label is) (action_in n is) is h) fs functions) in
      let f : Action → Bool = λ (a : Action). all utf8 (strings a) in
      let c : T (lists_are_utf8 l) = and_both (all f (items_by_place top)) (all (all f) (map items_by_place fs))
      (and_both (all utf8 ss) (all f xs) (texts_in ss texts) (each_action items_ok f (place_of_label top) (action_text n (place_of_label top)) rest items))
      (each_list items_ok (all f) (λ is h. each_action items_ok f (place_of_label is) (action_text n (place_of_label is)) is h) fs functions) in
      let d : T (within (byte_limits lim) l) = and_both (leb (total length (all_lists l)) lim.actions) (leb (total (total action_values) (all_lists l)) lim.values)
      (le→leb (total length (all_lists l)) lim.actions (omega (arith, all_actions_counted (top ∷ fs), few.0)))
      (le→leb (total (total action_values) (all_lists l)) lim.values (omega (arith, all_values_counted (top ∷ fs), few.1))) in
      and_both (pool_first l && all (list_fits n) (all_lists l) && lists_are_utf8 l) (within (byte_limits lim) l)
      (and_both (pool_first l && all (list_fits n) (all_lists l)) (lists_are_utf8 l) (and_both (pool_first l) (all (list_fits n) (all_lists l)) a b) c) d

-- what compiles keeps the rules of lists: of a tree with strings of UTF-8 and scalars in their ranges
module _ (lim : Limits) (room : 1 ≤ lim.actions) (f : Forest Rec) (h : InRange Utf8 f) (t : List Item) (fs : List (List Item))
    (e : script_to_actions lim f ≡ lists (t ∷ fs)) where
  empty_text : Utf8 []
  unfolding utf8 completes
  empty_text = tt

  pub of_lowering : OfLowering (byte_limits lim) (lists_by_place t fs)
  of_lowering =
      let r : Ranges Utf8 t fs = in_range_lem lim room f t fs e Utf8 empty_text h in
      let w = within_limits lim room f t fs e in
      record {
        tested = subst (λ (t : List Item). T (shaped (byte_limits lim) (lists_by_place t fs))) (sym r.pool_first)
            (tested lim r.strings r.rest fs r.texts r.top_items r.function_items
            (subst (λ (t : List Item). (actions_in (t ∷ fs) ≤ lim.actions) × (values_in (t ∷ fs) ≤ lim.values)) r.pool_first w));
        numbered = subst (Numbered (map items_by_place fs) 0 (items_by_place t)) (sym (length-map fs items_by_place)) (numbered_by_place (place_of_label t) (in_order lim room f t fs e));
      }
