-- The rules by which steps in sequence, and each step of the builder, keep the invariant.
use Prim.Native.Nat.{ℕ, zero, suc, ◌+◌, ◌<◌, ◌≤◌}
use mathlib.Core.Path.{◌≡◌, refl, ap, sym, ◌∙◌, subst}
use mathlib.Core.Logic.{◌⊎◌, inl, inr}
use mathlib.Core.List.Memᴰ
use mathlib.Core.List.{List, [], ◌∷◌, ◌++◌, Memᴰ}
use mathlib.Core.Option.{Option, none, some}
use mathlib.Core.Bool.{Bool, true, false, ◌&&◌}
use native.Mathlib.Omega.{arith}
use native.Mathlib.Numerals.{add-one}
use borrow.Author.Tests.{ltb-true, ltb-false, leb-true, eqb-true, eqb-false}
use lib.Dec.{ltb, leb, eqb, T, eqb_refl, lit<, lit≤}
use lib.ListN.{length, get_or, set, length-append, length-set, get_or-append, get_or-eq_default}
use lib.Seq.{get_or-set_same, get_or-set_other, get_or-append_seam}
use Rattle.hir.specs.Hir.{Str}
use Rattle.pcode.specs.Pcode.{Value, Header, Action, Item, Plain, Branching, Delta, moved}
use Rattle.special_properties.specs.SpecialProperties.{same_bytes}
use Rattle.lowering.specs.Strings.{find}
use Rattle.lowering.specs.Builder.{Limits, M, Step, State, Result, ok, refused, bind, allow, ◌>>=◌, ◌>>◌, pure, refuse, with_items, with_labels, with_constants, create_label, stack_size, assume_stack_delta, action_with_stack_delta, mark_or, mark_label, mark_default, push, push_joined, join, ends_in_push, add, add_new, add_found, joins, potential_length, in_new_list, defined, close, define_function}
use Rattle.lowering.proofs.Theorems.Facts.{All, label_of_item, branches, counted, count, Closed, LabelsBelow, is_action, pushed_by, sum, function_list, At, here, there, ValueOk, HeaderOk, PlainOk, ItemOk, Full}
use Rattle.lowering.proofs.Theorems.Invariant.{Each, Origin, after, Runs, begin, begin_top, plain, function, Ranged, next, Waiting, Marked, Free, Context, Pooled, Covered, Grows, After, Post, Good, ValueIs, Yields}

-- small facts

pub either : {A B C : Type 0} → (A → C) → (B → C) → A ⊎ B → C
either f g (inl a) = f a
either f g (inr b) = g b

not_none : {A B : Type 0} {x : A} → none ≡ some x → B
not_none e = let z : ◌≡◌ {A = ℕ} 0 1 = cc in let w : ⊥ = omega arith in absurd w

pub free_in : (l : List ℕ) (x : ℕ) → get_or l x 1 ≡ 0 → x < length l
free_in [] x e = let w : ⊥ = omega arith in absurd w
free_in (a ∷ l) zero e = omega arith
free_in (a ∷ l) (suc x) e = omega (arith, free_in l x e)

free_zero : (l : List ℕ) (x : ℕ) → get_or l x 1 ≡ 0 → get_or l x 0 ≡ 0
free_zero [] x e = refl
free_zero (a ∷ l) zero e = e
free_zero (a ∷ l) (suc x) e = free_zero l x e

pub all_append : {A : Type 0} (Q : A → Type 0) (xs : List A) (y : A) → All Q xs → Q y → All Q (xs ++ (y ∷ []))
all_append Q [] y h q = (q, tt)
all_append Q (x ∷ xs) y h q = (h.0, all_append Q xs y h.1 q)

pub all_map : {A : Type 0} (Q R : A → Type 0) → ((a : A) → Q a → R a) → (xs : List A) → All Q xs → All R xs
all_map Q R f [] h = tt
all_map Q R f (x ∷ xs) h = (f x h.0, all_map Q R f xs h.1)

sum_append : {A : Type 0} (f : A → ℕ) (xs : List A) (y : A) → sum f (xs ++ (y ∷ [])) ≡ sum f xs + f y
sum_append f [] y = refl
sum_append f (x ∷ xs) y = omega (arith, sum_append f xs y)

-- a longer pool leaves what is in range there

module _ (T : Str → Type 0) {j k : ℕ} (l : j ≤ k) where
  value_more : (v : Value) → ValueOk T j v → ValueOk T k v
  value_more Value.Null h = tt
  value_more Value.Undefined h = tt
  value_more Value.True h = tt
  value_more Value.False h = tt
  value_more (Value.String s) h = h
  value_more (Value.Integer n) h = h
  value_more (Value.Float n) h = h
  value_more (Value.Register r) h = h
  value_more (Value.Constant i) h = omega arith

  item_more : (i : Item) → ItemOk T j i → ItemOk T k i
  item_more (Item.action (Action.plain p)) h = h
  item_more (Item.action (Action.push vs)) h = (h.0, all_map (ValueOk T j) (ValueOk T k) value_more vs h.1)
  item_more (Item.action (Action.branch b x)) h = tt
  item_more (Item.action (Action.define x n)) h = h
  item_more (Item.mark x) h = tt

  items_more : (is : List Item) → All (ItemOk T j) is → All (ItemOk T k) is
  items_more = all_map (ItemOk T j) (ItemOk T k) item_more

  ranged_more : {o : Origin} {is : List Item} → Ranged T j o is → Ranged T k o is
  ranged_more begin = begin
  ranged_more begin_top = begin_top
  ranged_more (next {i = i} h r) = next (item_more i h) (ranged_more r)

runs_more : (ls ks : List (List Item)) → ((l : List Item) (k : ℕ) → At l ls k → At l ks k) → {o : Origin} {m : ℕ} {is : List Item} → Runs ls o is m →
    Runs ks o is m
runs_more ls ks h begin = begin
runs_more ls ks h begin_top = begin_top
runs_more ls ks h (plain e r) = plain e (runs_more ls ks h r)
runs_more ls ks h (function {l = l} {k = k} e at body r) = function e (h l k at) (runs_more ls ks h body) (runs_more ls ks h r)

at_more : (l : List Item) (ls ks : List (List Item)) (k : ℕ) → At l ls k → At l (ls ++ ks) k
at_more l ls ks k here = here
at_more l ls ks k (there q) = there (at_more l _ ks _ q)

at_last : (l : List Item) (ls : List (List Item)) → At l (ls ++ (l ∷ [])) (length ls)
at_last l [] = here
at_last l (k ∷ ls) = there (at_last l ls)

pub grows_same : {s : State} → Grows [] s s
grows_same = record { still = λ x q. q; kept = λ l k q. q; pool = omega arith; longer = omega arith; table = λ x d l n. refl }

none_spent : (Q : ℕ → Type 0) → Each [] Q
none_spent Q l q = elim q [ ]

any : {A : Type 0} (m : M A) → Yields (λ _. Unit {0}) m
any {A} m = record { run = λ s. go (m s) }
  where
    go : (r : Result A) → ValueIs (λ _. Unit {0}) r
    go (ok a t) = tt
    go (refused n t) = tt

-- a limit's test
limit : {A : Type 0} (K : Context) (Q : A → State → Type 0) (n l : ℕ) (s : State) (r : Result A) (b : Bool) → ltb n l ≡ b →
    (l ≤ n → Full K.limits s) → (n < l → Post K Q r) →
    Post K Q (allow b 8 s r)
limit K Q n l s r true e f k = k (ltb-true n l e)
limit K Q n l s r false e f k = inr (refl, f (ltb-false n l e))

-- the invariant with other promises
pub with_each : {K : Context} {O N : List ℕ} {o : Origin} {w : Waiting} {s : State} → Covered K O o w s →
    ((x : ℕ) → Marked x s ⊎ Memᴰ x O → Marked x s ⊎ Memᴰ x N) → Covered K N o w s
with_each c h = record {
  limited = c.limited;
  listed = record { numbered = c.listed.numbered; ranged = c.listed.ranged; tabled = c.listed.tabled; each = λ x q. h x (c.listed.each x q) };
  finished = c.finished;
  labels = c.labels;
  pooled = c.pooled;
  counted = c.counted;
}

-- the rules of sequence

module _ {K : Context} where
  module _ {O : List ℕ} where
    pub good_pure : {A : Type 0} (a : A) → Good K O [] (pure a)
    unfolding pure
    good_pure a = record { run = λ o w s c f. record { covered = c; grows = grows_same; spent = none_spent _ } }

    pub good_refuse : {A : Type 0} (n : ℕ) → K.cause n → Good K O [] (refuse {A = A} n)
    unfolding refuse
    good_refuse n p = record { run = λ o w s c f. inl p }

    -- one step after another: each marks its own labels
    module _ {A B : Type 0} (F G : List ℕ) (m : M A) (f : A → M B) (Q : A → Type 0)
        (g : Good K O F m) (y : Yields Q m) (h : (a : A) → Q a → Good K O G (f a)) (apart : (x : ℕ) → Memᴰ x F → Memᴰ x G → ⊥) where
      onward : (o : Origin) (w : Waiting) (s t : State) → After K O F o w s t → (r : Result B) → Post K (λ a u. After K O G o w t u) r →
          Post K (λ a u. After K O (F ++ G) o w s u) r
      onward o w s t a (refused n u) b = b
      onward o w s t a (ok v u) b = record {
        covered = b.covered;
        grows = record {
          still = λ x q. b.grows.still x (a.grows.still x q);
          kept = λ l k q. b.grows.kept l k (a.grows.kept l k q);
          pool = omega (arith, a.grows.pool, b.grows.pool);
          longer = omega (arith, a.grows.longer, b.grows.longer);
          table = λ x d l n. b.grows.table x d (omega (arith, a.grows.longer)) (λ q. n (Memᴰ.append_right F q))
              ∙ a.grows.table x d l (λ q. n (Memᴰ.append_left G q));
        };
        spent = λ l q. either (λ m. b.grows.still l (a.spent l m)) (λ m. b.spent l m) (Memᴰ.append_cases F q);
      }

      went : (o : Origin) (w : Waiting) (s : State) → Each (F ++ G) (Free s) → (r : Result A) → ValueIs Q r → Post K (λ a t. After K O F o w s t) r →
          Post K (λ a u. After K O (F ++ G) o w s u) (bind r f)
      went o w s e (refused n t) v b = b
      went o w s e (ok a t) v b = onward o w s t b (f a t) ((h a v).run o w t b.covered (λ l q.
          b.grows.table l 1 (free_in s.labels l (e l (Memᴰ.append_right F q))) (λ p. apart l p q) ∙ e l (Memᴰ.append_right F q)))

      pub good_seq : Good K O (F ++ G) (m >>= f)
      unfolding ◌>>=◌
      good_seq = record { run = λ o w s c e. went o w s e (m s) (y.run s) (g.run o w s c (λ l q. e l (Memᴰ.append_left G q))) }

    pub good_bind : {F : List ℕ} {A B : Type 0} {m : M A} {f : A → M B} → Good K O [] m → ((a : A) → Good K O F (f a)) → Good K O F (m >>= f)
    good_bind {F} {A} {B} {m} {f} g h = good_seq [] F m f (λ _. Unit {0}) g (any m) (λ a _. h a) (λ x q. elim q [ ])

    -- the value is known
    pub good_value : {F : List ℕ} {A B : Type 0} {Q : A → Type 0} {m : M A} {f : A → M B} → Good K O [] m → Yields Q m →
        ((a : A) → Q a → Good K O F (f a)) → Good K O F (m >>= f)
    good_value {F} {A} {B} {Q} {m} {f} g y h = good_seq [] F m f Q g y h (λ x q. elim q [ ])

    pub good_both : {F G : List ℕ} {B : Type 0} {m : Step} {k : M B} → Good K O F m → Good K O G k → ((x : ℕ) → Memᴰ x F → Memᴰ x G → ⊥) →
        Good K O (F ++ G) (m >> k)
    unfolding ◌>>◌ ◌>>=◌
    good_both {F} {G} {B} {m} {k} g h a = record { run = (good_seq F G m (λ _. k) (λ _. Unit {0}) g (any m) (λ _ _. h) a).run }

    pub good_then : {F : List ℕ} {B : Type 0} {m : Step} {k : M B} → Good K O [] m → Good K O F k → Good K O F (m >> k)
    good_then g h = good_both g h (λ x q. elim q [ ])

-- labels

more_zero : (l : List ℕ) (x : ℕ) → get_or (l ++ (0 ∷ [])) x 0 ≡ get_or l x 0
more_zero [] zero = refl
more_zero [] (suc x) = refl
more_zero (a ∷ l) zero = refl
more_zero (a ∷ l) (suc x) = more_zero l x

abbrev pub made : State → State
made s = with_labels (s.labels ++ (0 ∷ [])) s

pub covered_made : {K : Context} {O : List ℕ} {o : Origin} {w : Waiting} {s : State} → length s.labels < K.limits.labels → Covered K O o w s →
    Covered K O o w (made s)
covered_made {s = s} l c = record {
  limited = c.limited;
  listed = record {
    numbered = c.listed.numbered;
    ranged = c.listed.ranged;
    tabled = λ x. rw (more_zero s.labels x)
        (c.listed.tabled x);
    each = c.listed.each;
  };
  finished = c.finished;
  labels = record { bits = λ x. rw (more_zero s.labels x) (c.labels.bits x); few = omega (arith, length-append s.labels (0 ∷ [])) };
  pooled = c.pooled;
  counted = c.counted;
}

pub full_labels : {K : Context} {O : List ℕ} {o : Origin} {w : Waiting} {s : State} → Covered K O o w s → s.limits.labels ≤ length s.labels →
    Full K.limits s
full_labels c l = inr (inr (omega (arith, c.labels.few, ap (λ (k : Limits). k.labels) c.limited)))

full_actions : {K : Context} {O : List ℕ} {o : Origin} {w : Waiting} {s : State} → Covered K O o w s → s.limits.actions ≤ s.actions →
    Full K.limits s
full_actions c l = inl (omega (arith, c.counted.few_actions, ap (λ (k : Limits). k.actions) c.limited))

full_values : {K : Context} {O : List ℕ} {o : Origin} {w : Waiting} {s : State} → Covered K O o w s → s.limits.values ≤ s.values →
    Full K.limits s
full_values c l = inr (inl (omega (arith, c.counted.few_values, ap (λ (k : Limits). k.values) c.limited)))

-- a label that is made is free, and no label before it changes
pub made_free : (s : State) → Free (made s) (length s.labels)
made_free s = get_or-append_seam s.labels 0 [] 1

pub made_kept : (s : State) (x d : ℕ) → x < length s.labels → get_or (made s).labels x d ≡ get_or s.labels x d
made_kept s x d l = get_or-append s.labels (0 ∷ []) d x l

pub made_longer : (s : State) → length (made s).labels ≡ suc (length s.labels)
made_longer s = length-append s.labels (0 ∷ []) ∙ add-one (length s.labels)

-- a construct makes a label, promises it and marks it
module _ {K : Context} {O F : List ℕ} {B : Type 0} {f : ℕ → M B} (g : (l : ℕ) → (Memᴰ l F → ⊥) → Good K (l ∷ O) (l ∷ F) (f l)) where
  closed_after : (o : Origin) (w : Waiting) (s : State) (r : Result B) →
      Post K (λ a t. After K (length s.labels ∷ O) (length s.labels ∷ F) o w (made s) t) r →
      Post K (λ a t. After K O F o w s t) r
  closed_after o w s (refused n t) b = b
  closed_after o w s (ok v t) b = record {
    covered = with_each b.covered narrow;
    grows = record {
      still = b.grows.still;
      kept = b.grows.kept;
      pool = b.grows.pool;
      longer = omega (arith, b.grows.longer, made_longer s);
      table = λ x d l n. b.grows.table x d (omega (arith, made_longer s)) (λ q. other x l n (Memᴰ.cases_cons q)) ∙ made_kept s x d l;
    };
    spent = λ l q. b.spent l (Memᴰ.tail q);
  }
    where
      narrow' : (x : ℕ) → (x ≡ length s.labels) ⊎ Memᴰ x O → Marked x t ⊎ Memᴰ x O
      narrow' x (inl e) = inl (b.spent x (Memᴰ.head e))
      narrow' x (inr q) = inr q

      narrow : (x : ℕ) → Marked x t ⊎ Memᴰ x (length s.labels ∷ O) → Marked x t ⊎ Memᴰ x O
      narrow x (inl q) = inl q
      narrow x (inr q) = narrow' x (Memᴰ.cases_cons q)

      other : (x : ℕ) → x < length s.labels → (Memᴰ x F → ⊥) → (x ≡ length s.labels) ⊎ Memᴰ x F → ⊥
      other x l n (inl e) = omega arith
      other x l n (inr q) = n q

  making : (o : Origin) (w : Waiting) (s : State) → Covered K O o w s → Each F (Free s) → (b : Bool) →
      ltb (length s.labels) s.limits.labels ≡ b →
      Post K (λ a t. After K O F o w s t) (bind (allow b 8 s (ok (length s.labels) (made s))) f)
  making o w s c e false q = inr (refl, full_labels c (ltb-false _ _ q))
  making o w s c e true q = closed_after o w s (f (length s.labels) (made s))
      ((g (length s.labels) (λ m. let z = free_in s.labels (length s.labels) (e (length s.labels) m) in omega arith)).run o w (made s)
      (with_each (covered_made (omega (arith, ltb-true (length s.labels) s.limits.labels q, ap (λ (k : Limits). k.labels) c.limited)) c)
      wide) (λ l m. free l (Memᴰ.cases_cons m)))
    where
      wide : (x : ℕ) → Marked x s ⊎ Memᴰ x O → Marked x s ⊎ Memᴰ x (length s.labels ∷ O)
      wide x (inl q) = inl q
      wide x (inr q) = inr (Memᴰ.tail q)

      free : (l : ℕ) → (l ≡ length s.labels) ⊎ Memᴰ l F → Free (made s) l
      free l (inl p) = rw p (made_free s)
      free l (inr m) = made_kept s l 1 (free_in s.labels l (e l m)) ∙ e l m

  pub good_make : Good K O F (create_label >>= f)
  unfolding create_label ◌>>=◌
  good_make = record { run = λ o w s c e. making o w s c e (ltb (length s.labels) s.limits.labels) refl }

-- a mark

abbrev marks_it : ℕ → State → State
marks_it l s = with_items (Item.mark l ∷ s.builder.items) s.builder.size 0 0 (with_labels (set s.labels l 1) s)

pub grown : (b : Bool) (n : ℕ) → 0 < n → 0 < counted b n
grown true n h = omega arith
grown false n h = h

now : (l x n : ℕ) → x ≡ l → 0 < counted (eqb l x) n
now l x n e = go (eqb l x) (rw e (eqb_refl l))
  where
    go : (b : Bool) → T b → 0 < counted b n
    go true t = omega arith
    go false t = absurd t

module _ {K : Context} {O : List ℕ} (l : ℕ) where
  marked_after : (o : Origin) (w : Waiting) (s : State) → Covered K O o w s → Free s l → After K O (l ∷ []) o w s (marks_it l s)
  marked_after o w s c f = record {
    covered = record {
      limited = c.limited;
      listed = record {
        numbered = plain refl c.listed.numbered;
        ranged = λ r. next tt (c.listed.ranged r);
        tabled = λ x. tabled x
            (eqb l x) refl;
        each = λ x q. wide x (c.listed.each x q);
      };
      finished = c.finished;
      labels = record { bits = λ x. bits x (eqb l x) refl; few = rw (length-set s.labels l 1) c.labels.few };
      pooled = c.pooled;
      counted = record {
        actions = omega (arith, c.counted.actions);
        values = omega (arith, c.counted.values);
        few_actions = omega (arith, c.counted.few_actions);
        few_values = omega (arith, c.counted.few_values);
      };
    };
    grows = record {
      still = λ x q. grown (eqb l x) (count x s.builder.items) q;
      kept = λ l k q. q;
      pool = omega arith;
      longer = rw (length-set s.labels l 1) (omega arith);
      table = λ x d k n. get_or-set_other s.labels l x 1 d (λ e. n (Memᴰ.head e));
    };
    spent = λ x q. now l x (count x s.builder.items) (Memᴰ.eq_of_singleton q);
  }
    where
      one : get_or (set s.labels l 1) l 0 ≡ 1
      one = get_or-set_same s.labels l 1 0 (free_in s.labels l f)

      tabled : (x : ℕ) (b : Bool) → eqb l x ≡ b → counted b (count x s.builder.items) ≤ get_or (set s.labels l 1) x 0
      tabled x true e = rw (← (eqb-true l x e), one) (omega (arith, c.listed.tabled l, free_zero s.labels l f))
      tabled x false e = rw (get_or-set_other s.labels l x 1 0 (λ p. eqb-false l x e (sym p))) (c.listed.tabled x)

      bits : (x : ℕ) (b : Bool) → eqb l x ≡ b → get_or (set s.labels l 1) x 0 ≤ 1
      bits x true e = rw (← (eqb-true l x e), one) (lit≤ tt)
      bits x false e = rw (get_or-set_other s.labels l x 1 0 (λ p. eqb-false l x e (sym p))) (c.labels.bits x)

      wide : (x : ℕ) → Marked x s ⊎ Memᴰ x O → (0 < counted (eqb l x) (count x s.builder.items)) ⊎ Memᴰ x O
      wide x (inl q) = inl (grown (eqb l x) (count x s.builder.items) q)
      wide x (inr q) = inr q

good_mark_or : {K : Context} {O : List ℕ} (n l : ℕ) → Good K O (l ∷ []) (mark_or n l)
good_mark_or n l = record { run = λ o w s c f. rw (f l (Memᴰ.head refl)) (marked_after l o w s c (f l (Memᴰ.head refl))) }

pub good_mark : {K : Context} {O : List ℕ} (l : ℕ) → Good K O (l ∷ []) (mark_label l)
unfolding mark_label
good_mark l = good_mark_or 24 l

pub good_first : {K : Context} {O : List ℕ} (l : ℕ) → Good K O (l ∷ []) (mark_default l)
unfolding mark_default
good_first l = good_mark_or 6 l

pub good_mark_then : {K : Context} {O F : List ℕ} {B : Type 0} (l : ℕ) {k : M B} → (Memᴰ l F → ⊥) → Good K O F k →
    Good K O (l ∷ F) (mark_label l >> k)
good_mark_then {F = F} l n g = good_both (good_mark l) g (λ x p q. n (Memᴰ.cast (sym (Memᴰ.eq_of_singleton p)) q))

-- a label that the step before has marked: the one refusal 6
pub good_second : {K : Context} {O F : List ℕ} {m : Step} (l : ℕ) → Memᴰ l F → K.cause 6 → Good K O F m → Good K O F (m >> mark_default l)
unfolding ◌>>◌ mark_default
good_second {K} {O} {F} {m} l i p g = record { run = λ o w s c f. go o w s (m s) (g.run o w s c f) }
  where
    second : (o : Origin) (w : Waiting) (s t : State) → After K O F o w s t → (b : Bool) → eqb (get_or t.labels l 1) 0 ≡ b →
        Post {A = Unit {0}} K (λ a t. After K O F o w s t) (allow b 6 t (ok tt (marks_it l t)))
    second o w s t a false e = inl p
    second o w s t a true e =
        let z : get_or t.labels l 0 ≡ 0 = free_zero t.labels l (eqb-true _ _ e) in
        absurd (omega (arith, a.spent l i, a.covered.listed.tabled l))

    go : (o : Origin) (w : Waiting) (s : State) (r : Result (Unit {0})) → Post K (λ a t. After K O F o w s t) r →
        Post {A = Unit {0}} K (λ a t. After K O F o w s t) (bind r (λ _ t. allow (eqb (get_or t.labels l 1) 0) 6 t (ok tt (marks_it l t))))
    go o w s (refused n t) b = b
    go o w s (ok v t) b = second o w s t b (eqb (get_or t.labels l 1) 0) refl

-- the labels to be marked in another order
pub good_order : {K : Context} {O F : List ℕ} (G : List ℕ) {A : Type 0} {m : M A} → Each F (λ (l : ℕ). Memᴰ l G) →
    Each G (λ (l : ℕ). Memᴰ l F) → Good K O F m → Good K O G m
good_order {K} {O} {F} G {A} {m} a b g = record { run = λ o w s c f. go o w s (m s) (g.run o w s c (λ l q. f l (a l q))) }
  where
    go : (o : Origin) (w : Waiting) (s : State) (r : Result A) → Post K (λ a t. After K O F o w s t) r → Post K (λ a t. After K O G o w s t) r
    go o w s (refused n t) h = h
    go o w s (ok v t) h = record {
      covered = h.covered;
      grows = record {
        still = h.grows.still;
        kept = h.grows.kept;
        pool = h.grows.pool;
        longer = h.grows.longer;
        table = λ x d l n. h.grows.table x d l (λ q. n (a x q));
      };
      spent = λ l q. h.spent l (b l q);
    }

-- actions

abbrev with_action : Action → Delta → State → State
with_action a d s = with_items (Item.action a ∷ s.builder.items) (moved d s.builder.size) 1 0 s

module _ {K : Context} {O : List ℕ} where
  acted : (a : Action) (d : Delta) → function_list (Item.action a) ≡ none → (K.ranges → (k : ℕ) → ItemOk K.text k (Item.action a)) →
      pushed_by (Item.action a) ≡ 0 → Each (label_of_item (Item.action a)) (λ (l : ℕ). Memᴰ l O) →
      (o : Origin) (w : Waiting) (s : State) → Covered K O o w s → s.actions < K.limits.actions → After K O [] o w s (with_action a d s)
  acted a d e k v m o w s c r = record {
    covered = record {
      limited = c.limited;
      listed = record {
        numbered = plain e c.listed.numbered;
        ranged = λ z. next (k z (length s.constants))
            (c.listed.ranged z);
        tabled = c.listed.tabled;
        each = λ x q. wide x (Memᴰ.append_cases (label_of_item (Item.action a)) q);
      };
      finished = c.finished;
      labels = c.labels;
      pooled = c.pooled;
      counted = record {
        actions = omega (arith, c.counted.actions);
        values = omega (arith, c.counted.values);
        few_actions = omega arith;
        few_values = omega (arith, c.counted.few_values);
      };
    };
    grows = record { still = λ x q. q; kept = λ l k q. q; pool = omega arith; longer = omega arith; table = λ x d l n. refl };
    spent = none_spent _;
  }
    where
      wide : (x : ℕ) → Memᴰ x (label_of_item (Item.action a)) ⊎ Memᴰ x (branches s.builder.items) → Marked x s ⊎ Memᴰ x O
      wide x (inl q) = inr (m x q)
      wide x (inr q) = c.listed.each x q

module _ {K : Context} {O : List ℕ} where
  good_act : (a : Action) (d : Delta) → function_list (Item.action a) ≡ none → (K.ranges → (k : ℕ) → ItemOk K.text k (Item.action a)) →
      pushed_by (Item.action a) ≡ 0 → Each (label_of_item (Item.action a)) (λ (l : ℕ). Memᴰ l O) →
      Good K O [] (action_with_stack_delta a d)
  unfolding action_with_stack_delta
  good_act a d e k v m = record {
    run = λ o w s c f. limit K _ s.actions s.limits.actions s (ok tt (with_action a d s)) (ltb s.actions s.limits.actions) refl
        (full_actions c)
        (λ r. acted a d e k v m o w s c (omega (arith, ap (λ (k : Limits). k.actions) c.limited)));
  }

  pub good_plain : (p : Plain) (d : Delta) → (K.ranges → PlainOk K.text p) → Good K O [] (action_with_stack_delta (Action.plain p) d)
  good_plain p d h = good_act (Action.plain p) d refl (λ r k. h r) refl (none_spent _)

  pub good_branch : (b : Branching) (l : ℕ) (d : Delta) → Memᴰ l O → Good K O [] (action_with_stack_delta (Action.branch b l) d)
  good_branch b l d m = good_act (Action.branch b l) d refl (λ r k. tt) refl (λ x q. Memᴰ.cast (Memᴰ.eq_of_singleton q) m)

  pub good_stack_size : Good K O [] stack_size
  unfolding stack_size
  good_stack_size = record { run = λ o w s c f. record { covered = c; grows = grows_same; spent = none_spent _ } }

  pub good_assume : (d : Delta) → Good K O [] (assume_stack_delta d)
  unfolding assume_stack_delta
  good_assume d = record {
    run = λ o w s c f. record {
      covered = record {
        limited = c.limited;
        listed = c.listed;
        finished = c.finished;
        labels = c.labels;
        pooled = c.pooled;
        counted = record {
          actions = omega (arith, c.counted.actions);
          values = omega (arith, c.counted.values);
          few_actions = omega (arith, c.counted.few_actions);
          few_values = omega (arith, c.counted.few_values);
        };
      };
      grows = record { still = λ x q. q; kept = λ l k q. q; pool = omega arith; longer = omega arith; table = λ x d l n. refl };
      spent = none_spent _;
    };
  }

-- values

-- where a value joins: onto a Push, or else as a Push of its own
data Ending : List Item → Type 0 where
  in_push : (vs : List Value) (rest : List Item) → Ending (Item.action (Action.push vs) ∷ rest)
  elsewhere : {is : List Item} → ends_in_push is ≡ false → ((v : Value) → join v is ≡ Item.action (Action.push (v ∷ [])) ∷ is) → Ending is

ending : (is : List Item) → Ending is
ending [] = elsewhere refl (λ v. refl)
ending (Item.action (Action.push vs) ∷ rest) = in_push vs rest
ending (Item.action (Action.plain p) ∷ rest) = elsewhere refl (λ v. refl)
ending (Item.action (Action.branch b l) ∷ rest) = elsewhere refl (λ v. refl)
ending (Item.action (Action.define h n) ∷ rest) = elsewhere refl (λ v. refl)
ending (Item.mark l ∷ rest) = elsewhere refl (λ v. refl)

abbrev new_action : Bool → ℕ
new_action true = 0
new_action false = 1

-- what joining a value leaves of a list
record Joined (T : Str → Type 0) (v : Value) (is js : List Item) (b : Bool) : Type 0 where
  same_branches : branches js ≡ branches is
  same_marks : (x : ℕ) → count x js ≡ count x is
  same_lists : (ls : List (List Item)) (o : Origin) (m : ℕ) → Runs ls o is m → Runs ls o js m
  in_range_lem : (k : ℕ) (o : Origin) → ValueOk T k v → Ranged T k o is → Ranged T k o js
  one_action : sum is_action js ≡ sum is_action is + new_action b
  one_value : sum pushed_by js ≡ sum pushed_by is + 1

unpush : {ls : List (List Item)} {vs : List Value} {rest : List Item} {o : Origin} {m : ℕ} → Runs ls o (Item.action (Action.push vs) ∷ rest) m →
    Runs ls o rest m
unpush (plain e r) = r
unpush (function e at body r) = not_none e

more_values : {T : Str → Type 0} {k : ℕ} {o : Origin} {vs : List Value} {rest : List Item} (v : Value) → ValueOk T k v →
    Ranged T k o (Item.action (Action.push vs) ∷ rest) → Ranged T k o (Item.action (Action.push (vs ++ (v ∷ []))) ∷ rest)
more_values {T} {k} {o} {vs} v h (next q r) = next {i = Item.action (Action.push (vs ++ (v ∷ [])))}
    (omega (arith, length-append vs (v ∷ [])), all_append (ValueOk T k) vs v q.1 h) r

joined : (T : Str → Type 0) (v : Value) {is : List Item} → Ending is → Joined T v is (join v is) (ends_in_push is)
joined T v (in_push vs rest) = record {
  same_branches = refl;
  same_marks = λ x. refl;
  same_lists = λ ls o m r. plain refl (unpush r);
  in_range_lem = λ k o h r. more_values v h r;
  one_action = omega arith;
  one_value = omega (arith, length-append vs (v ∷ []));
}
joined T v (elsewhere {is = is} e j) = rw (j v, e) (record {
  same_branches = refl;
  same_marks = λ x. refl;
  same_lists = λ ls o m r. plain refl r;
  in_range_lem = λ k o h r. next {i = Item.action (Action.push (v ∷ []))} (lit< tt, (h, tt)) r;
  one_action = refl;
  one_value = refl;
})

module _ {K : Context} {O : List ℕ} where
  pushed_after : (v : Value) (o : Origin) (w : Waiting) (s : State) (b : Bool) → (K.ranges → ValueOk K.text (length s.constants) v) →
      Covered K O o w s → s.actions + new_action b ≤ K.limits.actions → s.values < K.limits.values →
      Joined K.text v s.builder.items (join v s.builder.items) b → (z : ℕ) → After K O [] o w s
      (with_items (join v s.builder.items) z (new_action b) 1 s)
  pushed_after v o w s b h c a q j z = record {
    covered = record {
      limited = c.limited;
      listed = record {
        numbered = j.same_lists s.lists o (length s.lists) c.listed.numbered;
        ranged = λ r. j.in_range_lem (length s.constants) o (h r) (c.listed.ranged r);
        tabled = λ x. rw (j.same_marks x) (c.listed.tabled x);
        each = λ x q. rw (j.same_marks x) (c.listed.each x (rw j.same_branches at q));
      };
      finished = c.finished;
      labels = c.labels;
      pooled = c.pooled;
      counted = record {
        actions = omega (arith, c.counted.actions, j.one_action);
        values = omega (arith, c.counted.values, j.one_value);
        few_actions = a;
        few_values = omega arith;
      };
    };
    grows = record { still = λ x q. rw (j.same_marks x) q; kept = λ l k q. q; pool = omega arith; longer = omega arith; table = λ x d l n. refl };
    spent = none_spent _;
  }

push_run : (K : Context) (O : List ℕ) (v : Value) (o : Origin) (w : Waiting) (s : State) →
    (K.ranges → ValueOk K.text (length s.constants) v) → Covered K O o w s → Post K (λ a t. After K O [] o w s t) (push v s)
unfolding push
push_run K O v o w s h c = limit K _ s.values s.limits.values s (push_joined v s (ends_in_push s.builder.items))
    (ltb s.values s.limits.values) refl (full_values c)
    (λ r. go (ends_in_push s.builder.items) (joined K.text v (ending s.builder.items))
    (omega (arith, ap (λ (k : Limits). k.values) c.limited)))
  where
    go : (b : Bool) → Joined K.text v s.builder.items (join v s.builder.items) b → s.values < K.limits.values →
        Post K (λ a t. After K O [] o w s t) (push_joined v s b)
    go true j q = pushed_after v o w s true h c (omega (arith, c.counted.few_actions)) q j (s.builder.size + 1)
    go false j q = limit K _ s.actions s.limits.actions s (ok tt (with_items (join v s.builder.items) (s.builder.size + 1) 1 1 s))
        (ltb s.actions s.limits.actions) refl (full_actions c)
        (λ r. pushed_after v o w s false h c (omega (arith, ap (λ (k : Limits). k.actions) c.limited)) q j (s.builder.size + 1))

-- a value that needs no pool
pub good_push : {K : Context} {O : List ℕ} (v : Value) → (K.ranges → ValueOk K.text 0 v) → Good K O [] (push v)
good_push {K} {O} v h = record { run = λ o w s c f. push_run K O v o w s (λ r. value_more K.text (omega arith) v (h r)) c }

-- the pool

pub found_in : (p : Str → Bool) (n : ℕ) (ss : List Str) (i : ℕ) → find p n ss ≡ some i → i < n + length ss
found_in p n [] i e = not_none e
found_in p n (s ∷ ss) i e = go (p s) e (λ q. found_in p (suc n) ss i q)
  where
    go : (b : Bool) → elim b [ true ↦ some n | false ↦ find p (suc n) ss ] ≡ some i → (find p (suc n) ss ≡ some i → i < suc n + length ss) →
        i < n + suc (length ss)
    go true e k = let z : n ≡ i = cc in omega arith
    go false e k = omega (arith, k e)

record Added (K : Context) (O : List ℕ) (o : Origin) (w : Waiting) (s : State) (v : Value) (t : State) : Type 0 where
  after' : After K O [] o w s t
  fine : K.ranges → ValueOk K.text (length t.constants) v

both : (a b : Bool) → a && b ≡ true → (a ≡ true) × (b ≡ true)
both true true e = (refl, refl)
both true false e = (refl, e)
both false true e = (e, refl)
both false false e = (e, e)

module _ (K : Context) (O : List ℕ) (str : Str) (h : K.ranges → K.text str) (o : Origin) (w : Waiting) (s : State) (c : Covered K O o w s) where
  as_is : (v : Value) → (K.ranges → ValueOk K.text (length s.constants) v) → Added K O o w s v s
  as_is v k = record { after' = record { covered = c; grows = grows_same; spent = none_spent _ }; fine = k }

  abbrev one_more : State
  one_more = with_constants (s.constants ++ (str ∷ [])) (potential_length s str) s

  room : joins s str ≡ true → (potential_length s str ≤ 65535) × (length s.constants < 65535)
  room e = let q = both (leb (potential_length s str) 65535) (ltb (length s.constants) 65535) e in
      (leb-true (potential_length s str) 65535 q.0, ltb-true (length s.constants) 65535 q.1)

  pools : joins s str ≡ true → Pooled K (s.constants ++ (str ∷ [])) (potential_length s str)
  pools e = record {
    strings = λ r. all_append K.text s.constants str (c.pooled.strings r) (h r);
    fewer = omega (arith, length-append s.constants (str ∷ []), (room e).1);
    total = omega (arith, sum_append (λ (s : Str). length s + 1) s.constants str, c.pooled.total);
    small = (room e).0;
  }

  longer_pool : length s.constants ≤ length (s.constants ++ (str ∷ []))
  longer_pool = omega (arith, length-append s.constants (str ∷ []))

  new : (b : Bool) → joins s str ≡ b → Post K (λ v t. Added K O o w s v t) (add_new str s b)
  new false e = as_is (Value.String str) h
  new true e = record {
    after' = record {
      covered = record {
        limited = c.limited;
        listed = record {
          numbered = c.listed.numbered;
          ranged = λ r. ranged_more K.text longer_pool
              (c.listed.ranged r);
          tabled = c.listed.tabled;
          each = c.listed.each;
        };
        finished = record {
          closed = c.finished.closed;
          below = c.finished.below;
          fit = λ r. all_map (All (ItemOk K.text (length s.constants)))
              (All (ItemOk K.text (length (s.constants ++ (str ∷ [])))))
              (items_more K.text longer_pool) s.lists (c.finished.fit r);
        };
        labels = c.labels;
        pooled = pools e;
        counted = c.counted;
      };
      grows = record { still = λ x q. q; kept = λ l k q. q; pool = longer_pool; longer = omega arith; table = λ x d l n. refl };
      spent = none_spent _;
    };
    fine = λ r. omega (arith, length-append s.constants (str ∷ []));
  }

  found : (i : Option ℕ) → find (same_bytes str) 0 s.constants ≡ i → Post K (λ v t. Added K O o w s v t) (add_found str s i)
  found (some i) e = as_is (Value.Constant i) (λ r. omega (arith, found_in (same_bytes str) 0 s.constants i e))
  found none e = new (joins s str) refl

  onward_push : (r : Result Value) → Post K (λ v t. Added K O o w s v t) r → Post K (λ a t. After K O [] o w s t) (bind r push)
  onward_push (refused n t) a = a
  onward_push (ok v t) a = go (push v t) (push_run K O v o w t a.fine a.after'.covered)
    where
      go : (r : Result (Unit {0})) → Post K (λ a u. After K O [] o w t u) r → Post K (λ a u. After K O [] o w s u) r
      go (refused n u) b = b
      go (ok x u) b = record {
        covered = b.covered;
        grows = record {
          still = λ x q. b.grows.still x (a.after'.grows.still x q);
          kept = λ l k q. b.grows.kept l k (a.after'.grows.kept l k q);
          pool = omega (arith, a.after'.grows.pool, b.grows.pool);
          longer = omega (arith, a.after'.grows.longer, b.grows.longer);
          table = λ x d l n. b.grows.table x d (omega (arith, a.after'.grows.longer)) n ∙ a.after'.grows.table x d l n;
        };
        spent = none_spent _;
      }

pub good_add : {K : Context} {O : List ℕ} (str : Str) → (K.ranges → K.text str) → Good K O [] (add str)
unfolding add
good_add {K} {O} str h = record {
  run = λ o w s c f. go o w s (add_found str s (find (same_bytes str) 0 s.constants))
      (found K O str h o w s c (find (same_bytes str) 0 s.constants) refl);
}
  where
    go : (o : Origin) (w : Waiting) (s : State) (r : Result Value) → Post K (λ v t. Added K O o w s v t) r → Post K (λ v t. After K O [] o w s t) r
    go o w s (refused n t) a = a
    go o w s (ok v t) a = a.after'

pub good_push_string : {K : Context} {O : List ℕ} (str : Str) → (K.ranges → K.text str) → Good K O [] (add str >>= push)
unfolding add ◌>>=◌
good_push_string {K} {O} str h = record {
  run = λ o w s c f. onward_push K O str h o w s c (add_found str s (find (same_bytes str) 0 s.constants))
      (found K O str h o w s c (find (same_bytes str) 0 s.constants) refl);
}

-- a function

pub closed_one : {K : Context} {o : Origin} {w : Waiting} {s : State} → Covered K [] o w s → Closed s.builder.items
closed_one {s = s} c x q = one (c.listed.each x q)
  where
    one : Marked x s ⊎ Memᴰ x [] → count x s.builder.items ≡ 1
    one (inl p) = omega (arith, c.listed.tabled x, c.labels.bits x)
    one (inr p) = elim p [ ]

-- a label that is marked has been made
made_below : (l : List ℕ) (x : ℕ) → 0 < get_or l x 0 → x < length l
made_below [] x h = absurd (omega arith)
made_below (y ∷ l) zero h = omega arith
made_below (y ∷ l) (suc x) h = omega (arith, made_below l x h)

pub below_one : {K : Context} {o : Origin} {w : Waiting} {s : State} → Covered K [] o w s → LabelsBelow K.limits.labels s.builder.items
below_one {K} {s = s} c x q = one (c.listed.each x q)
  where
    one : Marked x s ⊎ Memᴰ x [] → x < K.limits.labels
    one (inl p) = omega (arith, c.labels.few, made_below s.labels x (omega (arith, c.listed.tabled x)))
    one (inr p) = elim p [ ]

ranged_all : {T : Str → Type 0} {k n : ℕ} {is : List Item} → Ranged T k (after n) is → All (ItemOk T k) is
ranged_all begin = tt
ranged_all (next h r) = (h, ranged_all r)

abbrev inner : Waiting → State → Waiting
inner w s = record { actions = w.actions + sum is_action s.builder.items; values = w.values + sum pushed_by s.builder.items }

module _ {K : Context} {O : List ℕ} (h : Header) (hk : K.ranges → HeaderOk K.text h) (m : Step) (g : Good K [] [] m) where
  begins : (o : Origin) (w : Waiting) (s : State) → Covered K O o w s → Covered K [] (after (length s.lists)) (inner w s) (in_new_list s)
  begins o w s c = record {
    limited = c.limited;
    listed = record { numbered = begin; ranged = λ r. begin; tabled = λ x. omega arith; each = λ x q. elim q [ ] };
    finished = c.finished;
    labels = c.labels;
    pooled = c.pooled;
    counted = record {
      actions = omega (arith, c.counted.actions);
      values = omega (arith, c.counted.values);
      few_actions = c.counted.few_actions;
      few_values = c.counted.few_values;
    };
  }

  ends : (o : Origin) (w : Waiting) (s t : State) → Covered K O o w s → After K [] [] (after (length s.lists)) (inner w s) (in_new_list s) t →
      t.actions < K.limits.actions → After K O [] o w s (defined h s.builder t)
  ends o w s t c a r =
      let l : List Item = t.builder.items in
      let ls : List (List Item) = t.lists ++ (l ∷ []) in
      record {
        covered = record {
          limited = a.covered.limited;
          listed = record {
            numbered = subst (Runs ls o (Item.action (Action.define h (suc (length t.lists))) ∷ s.builder.items))
                (sym (length-append t.lists (l ∷ []) ∙ add-one (length t.lists)))
                (function refl (at_last l t.lists) (runs_more t.lists ls (λ k i q. at_more k t.lists (l ∷ []) i q)
                a.covered.listed.numbered)
                (runs_more s.lists ls (λ k i q. at_more k t.lists (l ∷ []) i (a.grows.kept k i q)) c.listed.numbered));
            ranged = λ z. next
                (hk z) (ranged_more K.text a.grows.pool (c.listed.ranged z));
            tabled = λ x. tabled x;
            each = c.listed.each;
          };
          finished = record {
            closed = all_append Closed t.lists l a.covered.finished.closed (closed_one a.covered);
            below = all_append (LabelsBelow K.limits.labels) t.lists l a.covered.finished.below (below_one a.covered);
            fit = λ z. all_append
                (All (ItemOk K.text (length t.constants))) t.lists l (a.covered.finished.fit z)
                (ranged_all (a.covered.listed.ranged z));
          };
          labels = a.covered.labels;
          pooled = a.covered.pooled;
          counted = record {
            actions = omega (arith, a.covered.counted.actions, sum_append (sum is_action) t.lists l);
            values = omega (arith, a.covered.counted.values, sum_append (sum pushed_by) t.lists l);
            few_actions = omega arith;
            few_values = a.covered.counted.few_values;
          };
        };
        grows = record {
          still = λ x q. q;
          kept = λ k i q. at_more k t.lists (l ∷ []) i (a.grows.kept k i q);
          pool = a.grows.pool;
          longer = a.grows.longer;
          table = a.grows.table;
        };
        spent = none_spent _;
      }
    where
      in_table : (x : ℕ) (b : Bool) → ltb x (length s.labels) ≡ b → get_or s.labels x 0 ≤ get_or t.labels x 0
      in_table x true e = rw (a.grows.table x 0 (ltb-true x (length s.labels) e) (λ q. elim q [ ])) (omega arith)
      in_table x false e = rw (get_or-eq_default s.labels 0 (ltb-false x (length s.labels) e)) (omega arith)

      tabled : (x : ℕ) → count x s.builder.items ≤ get_or t.labels x 0
      tabled x = omega (arith, c.listed.tabled x, in_table x (ltb x (length s.labels)) refl)

  ended : (o : Origin) (w : Waiting) (s : State) → Covered K O o w s → (r : Result (Unit {0})) →
      Post K (λ a t. After K [] [] (after (length s.lists)) (inner w s) (in_new_list s) t) r →
      Post K (λ a t. After K O [] o w s t) (close h s.builder r)
  ended o w s c (refused n t) a = a
  ended o w s c (ok v t) a = limit K _ t.actions t.limits.actions t (ok tt (defined h s.builder t))
      (ltb t.actions t.limits.actions) refl (full_actions a.covered)
      (λ r. ends o w s t c a (omega (arith, ap (λ (k : Limits). k.actions) a.covered.limited)))

  pub good_define : Good K O [] (define_function h m)
  unfolding define_function
  good_define = record {
    run = λ o w s c f. ended o w s c (m (in_new_list s))
        (g.run (after (length s.lists)) (inner w s) (in_new_list s) (begins o w s c) (none_spent _));
  }

pub nothing : Unit {0}
nothing = tt

pub ruleset good = (
  good_then,
  good_bind,
  good_mark_then,
  good_mark,
  good_pure,
  good_stack_size,
  good_assume,
  good_push,
  good_push_string,
  good_add,
  good_plain,
  good_branch,
  Memᴰ.head,
  Memᴰ.tail,
  Memᴰ.not-nil,
  nothing,
  lit<,
)
