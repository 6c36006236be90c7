-- The theorems over every tree: branches land, function lists are numbered as they finish, values are in range,
-- limits are kept, and each refusal is given just for its condition.
pub mod Facts
pub mod Invariant
pub mod Steps
pub mod Constructs
pub mod Switch
pub mod Script
use Prim.Native.Nat.{ℕ, ◌+◌, ◌≤◌}
use mathlib.Core.Path.{◌≡◌, refl, ap, sym, ◌∙◌, subst}
use mathlib.Core.Logic.{◌⊎◌, inl, inr}
use mathlib.Core.List.Memᴰ
use mathlib.Core.List.{List, [], ◌∷◌, map, reverse, reverse_aux, Memᴰ}
use mathlib.Core.Option.{some}
use mathlib.Core.Bool.{Bool, true, false}
use native.Mathlib.Omega.{arith}
use lib.Dec.{eqb}
use lib.ListN.{length, drop, length-map}
use Rattle.hir.specs.Hir.{Str, Rec}
use Rattle.hir.specs.Tree.{Forest}
use Rattle.pcode.specs.Pcode.{Item}
use Rattle.lowering.specs.Builder.{Limits, State, Result, ok, refused}
use Rattle.lowering.specs.Statement.{lists, refusal, finish, with_pool, start, pool, generate_actions, script_to_actions}
use Rattle.lowering.proofs.Theorems.Facts.{All, label_of_item, branches, counted, count, Closed, LabelsBelow, is_action, pushed_by, sum, actions_in, values_in, At, here, there, Goes, ItemOk, tag_of, InRange, Cause, sets_direct, sets_direct_by, increments_direct, decrements_direct, enumerates_direct, deletes_property, calls_property, constructs_property, second_default, negates_least, Somewhere, earlier, below, Full}
use Rattle.lowering.proofs.Theorems.Facts as facts
use Rattle.lowering.proofs.Theorems.Invariant.{After, Post, Covered, top, after, Runs, Ranged, begin, begin_top, plain, function, next}
use Rattle.lowering.proofs.Theorems.Steps.{either, closed_one, below_one}
use Rattle.lowering.proofs.Theorems.Script.{context, none_waiting, lowered}

-- lists in order

count_reverse : (x : ℕ) (a b : List Item) → count x (reverse_aux a b) ≡ count x a + count x b
count_reverse x [] b = omega arith
count_reverse x (Item.action i ∷ a) b = count_reverse x a (Item.action i ∷ b)
count_reverse x (Item.mark l ∷ a) b = count_reverse x a (Item.mark l ∷ b) ∙ shift (eqb l x)
  where
    shift : (c : Bool) → count x a + counted c (count x b) ≡ counted c (count x a) + count x b
    shift true = omega arith
    shift false = refl

branches_reverse : (x : ℕ) (a b : List Item) → Memᴰ x (branches (reverse_aux a b)) → Memᴰ x (branches a) ⊎ Memᴰ x (branches b)
branches_reverse x [] b q = inr q
branches_reverse x (i ∷ a) b q = either (λ r. inl (Memᴰ.append_right (label_of_item i) r))
    (λ r. either (λ s. inl (Memᴰ.append_left (branches a) s)) inr (Memᴰ.append_cases (label_of_item i) r)) (branches_reverse x a (i ∷ b) q)

closed_reverse : (l : List Item) → Closed l → Closed (reverse l)
closed_reverse l c x q = omega (arith, count_reverse x l [], c x (either (λ r. r) (λ r. elim r [ ]) (branches_reverse x l [] q)))

closed_all : (ls : List (List Item)) → All Closed ls → All Closed (map reverse ls)
closed_all [] h = tt
closed_all (l ∷ ls) h = (closed_reverse l h.0, closed_all ls h.1)

below_reverse : (n : ℕ) (l : List Item) → LabelsBelow n l → LabelsBelow n (reverse l)
below_reverse n l c x q = c x (either (λ r. r) (λ r. elim r [ ]) (branches_reverse x l [] q))

below_all : (n : ℕ) (ls : List (List Item)) → All (LabelsBelow n) ls → All (LabelsBelow n) (map reverse ls)
below_all n [] h = tt
below_all n (l ∷ ls) h = (below_reverse n l h.0, below_all n ls h.1)

sum_reverse : (f : Item → ℕ) (a b : List Item) → sum f (reverse_aux a b) ≡ sum f a + sum f b
sum_reverse f [] b = omega arith
sum_reverse f (i ∷ a) b = omega (arith, sum_reverse f a (i ∷ b))

sums_reverse : (f : Item → ℕ) (ls : List (List Item)) → sum (sum f) (map reverse ls) ≡ sum (sum f) ls
sums_reverse f [] = refl
sums_reverse f (l ∷ ls) = omega (arith, sums_reverse f ls, sum_reverse f l [])

all_reverse : (Q : Item → Type 0) (a b : List Item) → All Q a → All Q b → All Q (reverse_aux a b)
all_reverse Q [] b h k = k
all_reverse Q (i ∷ a) b h k = all_reverse Q a (i ∷ b) h.1 (h.0, k)

fit_all : (Q : Item → Type 0) (ls : List (List Item)) → All (All Q) ls → All (All Q) (map reverse ls)
fit_all Q [] h = tt
fit_all Q (l ∷ ls) h = (all_reverse Q l [] h.0 tt, fit_all Q ls h.1)

at_reverse : {l : List Item} {ls : List (List Item)} {k : ℕ} → At l ls k → At (reverse l) (map reverse ls) k
at_reverse here = here
at_reverse (there q) = there (at_reverse q)

goes : {ls : List (List Item)} {n m p : ℕ} {is js : List Item} → Runs ls (after n) is m → Goes (map reverse ls) m js p →
    Goes (map reverse ls) n (reverse_aux is js) p
goes begin g = g
goes (plain e r) g = goes r (facts.plain e g)
goes (function e at body r) g = goes r (facts.function e (at_reverse at) (goes body facts.stop) g)

-- the top list begins with the pool's place
goes_top : {ls : List (List Item)} {m p : ℕ} {is js : List Item} → Runs ls top is m → Goes (map reverse ls) m js p →
    (rest : List Item) × (reverse_aux is js ≡ pool [] ∷ rest) × Goes (map reverse ls) 0 rest p
goes_top {js = js} begin_top g = (js, refl, g)
goes_top (plain e r) g = goes_top r (facts.plain e g)
goes_top (function e at body r) g = goes_top r (facts.function e (at_reverse at) (goes body facts.stop) g)

ranged_top : {T : Str → Type 0} {k : ℕ} {is : List Item} (js : List Item) → Ranged T k top is → All (ItemOk T k) js →
    All (ItemOk T k) (drop 1 (reverse_aux is js))
ranged_top js Ranged.begin_top h = h
ranged_top js (next {i = i} q r) h = ranged_top (i ∷ js) r (q, h)

-- what holds of a script's lists, the top list first

pub record Ranges (T : Str → Type 0) (t : List Item) (fs : List (List Item)) : Type 0 where
  pub strings : List Str
  pub rest : List Item
  pub pool_first : t ≡ pool strings ∷ rest
  pub texts : All T strings
  pub fewer : length strings ≤ 65535
  pub total : tag_of strings ≤ 65535
  pub top_items : All (ItemOk T (length strings)) rest
  pub function_items : All (All (ItemOk T (length strings))) fs

abbrev any_text : Str → Type 0
any_text s = Unit

module _ (lim : Limits) (room : 1 ≤ lim.actions) (f : Forest Rec) where
  module _ (t : List Item) (fs : List (List Item)) (e : script_to_actions lim f ≡ lists (t ∷ fs)) where
    -- the state in which a script ends
    module _ (T : Str → Type 0) where
      record Ended : Type 0 where
        state : State
        covered : Covered (context lim f T) [] top none_waiting state
        top_is : with_pool state.constants (reverse state.builder.items) ≡ t
        functions_are : map reverse state.lists ≡ fs

      ended : Ended
      unfolding script_to_actions
      ended = go (generate_actions lim f) (lowered lim f T room) e
        where
          go : (r : Result (Unit {0})) → Post (context lim f T) (λ a s. After (context lim f T) [] [] top none_waiting (start lim) s) r →
              finish r ≡ lists (t ∷ fs) → Ended
          go (ok a s) h e = record { state = s; covered = h.covered; top_is = cc; functions_are = cc }
          go (refused n s) h e = let z : ◌≡◌ {A = ℕ} 0 1 = cc in absurd (omega arith)

      abbrev s : State
      s = ended.state

      -- the top list after its first item
      first : (rest : List Item) × (reverse s.builder.items ≡ pool [] ∷ rest) × Goes (map reverse s.lists) 0 rest (length s.lists)
      first = goes_top ended.covered.listed.numbered facts.stop

      top_list : pool s.constants ∷ first.0 ≡ t
      top_list = sym (rw first.1) ∙ ended.top_is

    -- every Jump and If of every list names a label that its own list marks at exactly one place
    pub branches_land : All Closed (t ∷ fs)
    branches_land =
        let x = ended any_text in (
          subst Closed (top_list any_text) (subst Closed (first any_text).1 (closed_reverse x.state.builder.items (closed_one x.covered))),
          subst (All Closed) x.functions_are (closed_all x.state.lists x.covered.finished.closed),
        )

    -- and that label's number is below the limit on labels
    pub labels_below : All (LabelsBelow lim.labels) (t ∷ fs)
    labels_below =
        let x = ended any_text in
        let n = lim.labels in (
          subst (LabelsBelow n) (top_list any_text) (subst (LabelsBelow n) (first any_text).1 (below_reverse n x.state.builder.items (below_one x.covered))),
          subst (All (LabelsBelow n)) x.functions_are (below_all n x.state.lists x.covered.finished.below),
        )

    -- the function lists are numbered as they finish, and there are no others
    pub in_order : Goes fs 0 t (length fs)
    in_order =
        let ls : List (List Item) = (s any_text).lists in
        subst (λ (ks : List (List Item)). Goes ks 0 t (length ks)) (ended any_text).functions_are
        (subst (λ (is : List Item). Goes (map reverse ls) 0 is (length (map reverse ls))) (top_list any_text)
        (facts.plain refl (rw (length-map ls reverse) (first any_text).2)))

    -- all lists together keep the limits
    pub within_limits : (actions_in (t ∷ fs) ≤ lim.actions) × (values_in (t ∷ fs) ≤ lim.values)
    within_limits =
        let c = (ended any_text).covered in (
          omega (arith, counts is_action refl, c.counted.actions, c.counted.few_actions),
          omega (arith, counts pushed_by refl, c.counted.values, c.counted.few_values),
        )
      where
        counts : (g : Item → ℕ) → g (pool (s any_text).constants) ≡ g (pool []) →
            sum (sum g) (t ∷ fs) ≡ sum (sum g) (s any_text).lists + sum g (s any_text).builder.items
        counts g p = omega (
          arith,
          ap (sum g) (top_list any_text),
          ap (sum g) (first any_text).1,
          ap (sum (sum g)) (ended any_text).functions_are,
          sums_reverse g (s any_text).lists,
          sum_reverse g (s any_text).builder.items [],
        )

    -- scalars in range give actions in range; what holds of the tree's strings, and of the empty one, holds of the strings in the lists
    pub in_range_lem : (T : Str → Type 0) → T [] → InRange T f → Ranges T t fs
    in_range_lem T z h =
        let k : ℕ = length (s T).constants in
        let c = (ended T).covered in
        record {
          strings = (s T).constants;
          rest = (first T).0;
          pool_first = sym (top_list T);
          texts = c.pooled.strings (z, h);
          fewer = c.pooled.fewer;
          total = omega (arith, c.pooled.total, c.pooled.small);
          top_items = subst (λ (is : List Item). All (ItemOk T k) (drop 1 is)) (first T).1 (ranged_top [] (c.listed.ranged (z, h)) tt);
          function_items = subst (All (All (ItemOk T k))) (ended T).functions_are (fit_all (ItemOk T k) (s T).lists (c.finished.fit (z, h)));
        }

  -- there is always a top list
  pub top_first : (ls : List (List Item)) → script_to_actions lim f ≡ lists ls → (t : List Item) × (fs : List (List Item)) × (ls ≡ t ∷ fs)
  unfolding script_to_actions
  top_first ls e = go (generate_actions lim f) e
    where
      go : (r : Result (Unit {0})) → finish r ≡ lists ls → (t : List Item) × (fs : List (List Item)) × (ls ≡ t ∷ fs)
      go (ok a s) e = (with_pool s.constants (reverse s.builder.items), map reverse s.lists, cc)
      go (refused n s) e = let z : ◌≡◌ {A = ℕ} 0 1 = cc in absurd (omega arith)

  -- a refusal is given where some record of the tree is a cause for its number, or, as 8, in a state in which a count stands at its limit
  pub refused_why : (n : ℕ) (s : State) → generate_actions lim f ≡ refused n s → Somewhere (Cause n) f ⊎ ((n ≡ 8) × Full lim s)
  refused_why n s e = subst (Post {A = Unit {0}} (context lim f any_text)
      (λ a s. After (context lim f any_text) [] [] top none_waiting (start lim) s)) e (lowered lim f any_text room)

  pub refusal_why : (n : ℕ) → script_to_actions lim f ≡ refusal n → (s : State) × (generate_actions lim f ≡ refused n s) ×
      (Somewhere (Cause n) f ⊎ ((n ≡ 8) × Full lim s))
  unfolding script_to_actions
  refusal_why n e = go (generate_actions lim f) refl e
    where
      go : (r : Result (Unit {0})) → generate_actions lim f ≡ r → finish r ≡ refusal n →
          (s : State) × (generate_actions lim f ≡ refused n s) × (Somewhere (Cause n) f ⊎ ((n ≡ 8) × Full lim s))
      go (ok a s) q e = let z : ◌≡◌ {A = ℕ} 0 1 = cc in absurd (omega arith)
      go (refused m s) q e = let p : generate_actions lim f ≡ refused n s = cc in (s, p, refused_why n s p)

cause_number : {n : ℕ} {r : Rec} {kids : Forest Rec} → Cause n r kids → (n ≡ 5) ⊎ ((n ≡ 6) ⊎ (n ≡ 7))
cause_number (sets_direct p q) = inl refl
cause_number (sets_direct_by p q) = inl refl
cause_number (increments_direct q) = inl refl
cause_number (decrements_direct q) = inl refl
cause_number (enumerates_direct q) = inl refl
cause_number (deletes_property q) = inl refl
cause_number (calls_property q) = inl refl
cause_number (constructs_property q) = inl refl
cause_number (second_default q) = inr (inl refl)
cause_number (negates_least q) = inr (inr refl)

somewhere_number : {n : ℕ} {f : Forest Rec} → Somewhere (Cause n) f → (n ≡ 5) ⊎ ((n ≡ 6) ⊎ (n ≡ 7))
somewhere_number (Somewhere.here q) = cause_number q
somewhere_number (earlier q) = somewhere_number q
somewhere_number (below q) = somewhere_number q

-- and it is one of four
pub refusal_number : (lim : Limits) → 1 ≤ lim.actions → (f : Forest Rec) (n : ℕ) → script_to_actions lim f ≡ refusal n →
    (n ≡ 5) ⊎ ((n ≡ 6) ⊎ ((n ≡ 7) ⊎ (n ≡ 8)))
refusal_number lim room f n e = either (λ q. either inl (λ r. inr (either inl (λ s. inr (inl s)) r)) (somewhere_number q))
    (λ q. inr (inr (inr q.0))) (refusal_why lim room f n e).2
