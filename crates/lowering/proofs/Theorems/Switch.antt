-- A switch keeps the invariant: it marks each label that it branches to, and is refused 6 only at a second Default.
use Prim.Native.Nat.{ℕ, suc, ◌+◌, ◌<◌, ◌≤◌}
use mathlib.Core.Path.{◌≡◌, refl, ap, sym, ◌∙◌, subst}
use mathlib.Core.Logic.{◌⊎◌, inl, inr}
use mathlib.Core.List.Memᴰ
use mathlib.Core.List.{List, [], ◌∷◌, ◌++◌, append-nil, Memᴰ}
use mathlib.Core.Option.{Option, none, some}
use mathlib.Core.Bool.{Bool, true, false, ◌||◌}
use native.Mathlib.Omega.{arith}
use borrow.Author.Tests.{ltb-true, ltb-false}
use lib.Dec.{ltb}
use lib.ListN.{length}
use Rattle.hir.specs.Tree.{Forest, more}
use Rattle.pcode.specs.Pcode.{Branching, up}
use Rattle.pcode.specs.Pcode as pcode
use Rattle.lowering.specs.Builder.{Limits, M, Step, State, Result, ok, refused, bind, allow, ◌>>=◌, ◌>>◌, pure, when, create_label, mark_default, push}
use Rattle.lowering.specs.Access.{store_register}
use Rattle.lowering.specs.Meaning.{Loop, Meaning, Element, case, default, statement, element}
use Rattle.lowering.specs.Statement
use Rattle.lowering.specs.Statement.{SwitchElement, Case, Default, Statement, has_case, has_default, default_label, with_label, with_labels}
use Rattle.lowering.proofs.Theorems.Facts.{is_default}
use Rattle.lowering.proofs.Theorems.Invariant.{Context, Each, Origin, Waiting, Covered, Grows, After, Post, Free, Marked, Good}
use Rattle.lowering.proofs.Theorems.Steps.{either, made, made_free, made_kept, made_longer, covered_made, full_labels, with_each, grows_same, free_in, good, good_pure, good_then, good_both, good_mark, good_first, good_second, good_branch}
use Rattle.lowering.proofs.Theorems.Constructs.{Within, Fine, AllFine, no_tree, one_more, good_when}

-- the labels of the elements, and of the cases alone
abbrev labels : List SwitchElement → List ℕ
labels [] = []
labels (Case l v ∷ xs) = l ∷ labels xs
labels (Default l ∷ xs) = l ∷ labels xs
labels (Statement s ∷ xs) = labels xs

abbrev cases : List SwitchElement → List ℕ
cases [] = []
cases (Case l v ∷ xs) = l ∷ cases xs
cases (Default l ∷ xs) = cases xs
cases (Statement s ∷ xs) = cases xs

abbrev Distinct : List ℕ → Type 0
Distinct [] = Unit
Distinct (l ∷ ls) = (Memᴰ l ls → ⊥) × Distinct ls

abbrev defaults_in : List SwitchElement → ℕ
defaults_in [] = 0
defaults_in (Case l v ∷ xs) = defaults_in xs
defaults_in (Default l ∷ xs) = suc (defaults_in xs)
defaults_in (Statement s ∷ xs) = defaults_in xs

abbrev pub defaults_of : Forest Meaning → ℕ
defaults_of Forest.none = 0
defaults_of (more ms m kids) = defaults_of ms + is_default (element m.rec)

data Elements (K : Context) : List SwitchElement → Type 0 where
  nothing_more : Elements K []
  a_case : {l : ℕ} {m : Meaning} {xs : List SwitchElement} → Fine K m → Elements K xs → Elements K (Case l m ∷ xs)
  a_default : {l : ℕ} {xs : List SwitchElement} → Elements K xs → Elements K (Default l ∷ xs)
  a_statement : {m : Meaning} {xs : List SwitchElement} → Fine K m → Elements K xs → Elements K (Statement m ∷ xs)

-- making the labels

record Labelled (K : Context) (O : List ℕ) (o : Origin) (w : Waiting) (s : State) (n : ℕ) (xs : List SwitchElement) (t : State) : Type 0 where
  covered : Covered K O o w t
  grows : Grows [] s t
  free : Each (labels xs) (Free t)
  new : Each (labels xs) (λ (l : ℕ). length s.labels ≤ l)
  distinct : Distinct (labels xs)
  fine : Elements K xs
  as_many : defaults_in xs ≡ n

module _ (K : Context) (O : List ℕ) (o : Origin) (w : Waiting) (s : State) where
  -- one label more, for an element
  more_labels : (n k : ℕ) (xs : List SwitchElement) (t : State) (x : SwitchElement) → Labelled K O o w s n xs t →
      labels (x ∷ xs) ≡ length t.labels ∷ labels xs → defaults_in (x ∷ xs) ≡ n + k →
      (Elements K xs → Elements K (x ∷ xs)) → length t.labels < K.limits.labels → Labelled K O o w s (n + k) (x ∷ xs) (made t)
  more_labels n k xs t x h e d f r = record {
    covered = covered_made r h.covered;
    grows = record {
      still = h.grows.still;
      kept = h.grows.kept;
      pool = h.grows.pool;
      longer = omega (arith, h.grows.longer, made_longer t);
      table = λ y c l q. made_kept t y c (omega (arith, h.grows.longer)) ∙ h.grows.table y c l q;
    };
    free = λ l q. free l (Memᴰ.cases_cons (rw e at q));
    new = λ l q. new l (Memᴰ.cases_cons (rw e at q));
    distinct = rw e (λ q. let z = free_in t.labels (length t.labels) (h.free (length t.labels) q) in omega arith, h.distinct);
    fine = f h.fine;
    as_many = d;
  }
    where
      free : (l : ℕ) → (l ≡ length t.labels) ⊎ Memᴰ l (labels xs) → Free (made t) l
      free l (inl p) = rw p (made_free t)
      free l (inr q) = made_kept t l 1 (free_in t.labels l (h.free l q)) ∙ h.free l q

      new : (l : ℕ) → (l ≡ length t.labels) ⊎ Memᴰ l (labels xs) → length s.labels ≤ l
      new l (inl p) = omega (arith, h.grows.longer)
      new l (inr q) = h.new l q

  labelled_element : (m : Meaning) → Fine K m → (e : Element) (n : ℕ) (xs : List SwitchElement) (t : State) → Labelled K O o w s n xs t →
      Post K (λ ys u. Labelled K O o w s (n + is_default e) ys u) (bind (with_label m e t) (λ x u. ok (x ∷ xs) u))
  unfolding ◌>>=◌ pure create_label
  labelled_element m x case n xs t h = go (ltb (length t.labels) t.limits.labels) refl
    where
      go : (b : Bool) → ltb (length t.labels) t.limits.labels ≡ b →
          Post K (λ ys u. Labelled K O o w s (n + 0) ys u) (bind (bind (allow b 8 t (ok (length t.labels) (made t))) (λ l u. ok (Case l m) u))
          (λ x u. ok (x ∷ xs) u))
      go false e = inr (refl, full_labels h.covered (ltb-false _ _ e))
      go true e = more_labels n 0 xs t (Case (length t.labels) m) h refl (omega (arith, h.as_many)) (λ q. a_case x q)
          (omega (arith, ltb-true (length t.labels) t.limits.labels e, ap (λ (k : Limits). k.labels) h.covered.limited))
  labelled_element m x default n xs t h = go (ltb (length t.labels) t.limits.labels) refl
    where
      go : (b : Bool) → ltb (length t.labels) t.limits.labels ≡ b →
          Post K (λ ys u. Labelled K O o w s (n + 1) ys u) (bind (bind (allow b 8 t (ok (length t.labels) (made t))) (λ l u. ok (Default l) u))
          (λ x u. ok (x ∷ xs) u))
      go false e = inr (refl, full_labels h.covered (ltb-false _ _ e))
      go true e = more_labels n 1 xs t (Default (length t.labels)) h refl (omega (arith, h.as_many)) (λ q. a_default q)
          (omega (arith, ltb-true (length t.labels) t.limits.labels e, ap (λ (k : Limits). k.labels) h.covered.limited))
  labelled_element m x statement n xs t h = record {
    covered = h.covered;
    grows = h.grows;
    free = h.free;
    new = h.new;
    distinct = h.distinct;
    fine = a_statement x h.fine;
    as_many = omega (arith, h.as_many);
  }

  labelled : {ms : Forest Meaning} → AllFine K ms → Covered K O o w s → Post K (λ xs t. Labelled K O o w s (defaults_of ms) xs t) (with_labels ms s)
  unfolding ◌>>=◌ pure
  labelled no_tree c = record {
    covered = c;
    grows = grows_same;
    free = λ l q. elim q [ ];
    new = λ l q. elim q [ ];
    distinct = tt;
    fine = nothing_more;
    as_many = refl;
  }
  labelled (one_more {before = ms} {m = m} b x k ks) c = go (with_labels ms s) (labelled b c)
    where
      go : (r : Result (List SwitchElement)) → Post K (λ xs t. Labelled K O o w s (defaults_of ms) xs t) r →
          Post K (λ xs t. Labelled K O o w s (defaults_of ms + is_default (element m.rec)) xs t)
          (bind r (λ xs t. bind (with_label m (element m.rec) t) (λ y u. ok (y ∷ xs) u)))
      go (refused n t) h = h
      go (ok xs t) h = labelled_element m x (element m.rec) (defaults_of ms) xs t h

-- some of the labels that were made are promised and marked
record Chosen (K : Context) (O L : List ℕ) (m : Step) : Type 0 where
  F : List ℕ
  among : Each F (λ (l : ℕ). Memᴰ l L)
  marks_them : Good K (F ++ O) F m

module _ {K : Context} {O : List ℕ} {ms : Forest Meaning} (fine : AllFine K ms) (k : ℕ → List SwitchElement → Step)
    (g : (end : ℕ) (xs : List SwitchElement) → Distinct (labels xs) → (Memᴰ end (labels xs) → ⊥) → Elements K xs →
    defaults_in xs ≡ defaults_of ms → Chosen K O (end ∷ labels xs) (k end xs)) where
  module _ (o : Origin) (w : Waiting) (s t : State) (xs : List SwitchElement) (h : Labelled K O o w (made s) (defaults_of ms) xs t) where
    first : ℕ
    first = length s.labels

    inside : first < length (made s).labels
    unfolding first
    inside = omega (arith, made_longer s)

    apart : Memᴰ first (labels xs) → ⊥
    unfolding first
    apart q = omega (arith, h.new first q, inside)

    pick : Chosen K O (first ∷ labels xs) (k first xs)
    pick = g first xs h.distinct apart h.fine h.as_many

    free' : (l : ℕ) → (l ≡ first) ⊎ Memᴰ l (labels xs) → Free t l
    unfolding first
    free' l (inl e) = rw e (h.grows.table first 1 inside (λ q. elim q [ ]) ∙ made_free s)
    free' l (inr q) = h.free l q

    -- a label of before is none of them
    old : (x : ℕ) → x < first → (x ≡ first) ⊎ Memᴰ x (labels xs) → ⊥
    unfolding first
    old x l (inl e) = omega arith
    old x l (inr q) = omega (arith, h.new x q, inside)

    wide : (x : ℕ) → Marked x t ⊎ Memᴰ x O → Marked x t ⊎ Memᴰ x (pick.F ++ O)
    wide x (inl q) = inl q
    wide x (inr q) = inr (Memᴰ.append_right pick.F q)

    finally : (r : Result (Unit {0})) → Post K (λ a u. After K (pick.F ++ O) pick.F o w t u) r → Post K (λ a u. After K O [] o w s u) r
    unfolding first
    finally (refused n u) a = a
    finally (ok v u) a = record {
      covered = with_each a.covered narrow;
      grows = record {
        still = λ x q. a.grows.still x (h.grows.still x q);
        kept = λ l i q. a.grows.kept l i (h.grows.kept l i q);
        pool = omega (arith, a.grows.pool, h.grows.pool);
        longer = omega (arith, a.grows.longer, h.grows.longer, made_longer s);
        table = λ x d l n. a.grows.table x d (omega (arith, h.grows.longer, made_longer s))
            (λ q. old x l (Memᴰ.cases_cons (pick.among x q)))
            ∙ h.grows.table x d (omega (arith, made_longer s)) n ∙ made_kept s x d l;
      };
      spent = λ l q. elim q [ ];
    }
      where
        narrow' : (x : ℕ) → Memᴰ x pick.F ⊎ Memᴰ x O → Marked x u ⊎ Memᴰ x O
        narrow' x (inl q) = inl (a.spent x q)
        narrow' x (inr q) = inr q

        narrow : (x : ℕ) → Marked x u ⊎ Memᴰ x (pick.F ++ O) → Marked x u ⊎ Memᴰ x O
        narrow x (inl q) = inl q
        narrow x (inr q) = narrow' x (Memᴰ.append_cases pick.F q)

    with_them : Post K (λ a u. After K O [] o w s u) (k first xs t)
    with_them = finally (k first xs t) (pick.marks_them.run o w t (with_each h.covered wide)
        (λ l q. free' l (Memᴰ.cases_cons (pick.among l q))))

  abbrev rest : ℕ → Step
  rest end = with_labels ms >>= λ xs. k end xs

  labelled_after : (o : Origin) (w : Waiting) (s : State) (r : Result (List SwitchElement)) →
      Post K (λ xs t. Labelled K O o w (made s) (defaults_of ms) xs t) r → Post K (λ a u. After K O [] o w s u) (bind r (k (length s.labels)))
  unfolding with_them first
  labelled_after o w s (refused n t) h = h
  labelled_after o w s (ok xs t) h = with_them o w s t xs h

  making : (o : Origin) (w : Waiting) (s : State) → Covered K O o w s → (b : Bool) → ltb (length s.labels) s.limits.labels ≡ b →
      Post K (λ a u. After K O [] o w s u) (bind (allow b 8 s (ok (length s.labels) (made s))) rest)
  unfolding ◌>>=◌
  making o w s c false e = inr (refl, full_labels c (ltb-false _ _ e))
  making o w s c true e = labelled_after o w s (with_labels ms (made s)) (labelled K O o w (made s) fine
      (covered_made (omega (arith, ltb-true (length s.labels) s.limits.labels e, ap (λ (k : Limits). k.labels) c.limited)) c))

  good_labelled : Good K O [] (create_label >>= λ end. with_labels ms >>= λ xs. k end xs)
  unfolding ◌>>=◌ create_label
  good_labelled = record { run = λ o w s c f. making o w s c (ltb (length s.labels) s.limits.labels) refl }

-- the elements: every case's label is marked, and the default label by the first Default

abbrev with_default : Bool → ℕ → List ℕ → List ℕ
with_default true d F = F
with_default false d F = F ++ (d ∷ [])

abbrev spends : ℕ → List SwitchElement → List ℕ
spends d [] = []
spends d (Case l v ∷ xs) = spends d xs ++ (l ∷ [])
spends d (Default l ∷ xs) = with_default (has_default xs) d (spends d xs)
spends d (Statement s ∷ xs) = spends d xs

case_spent : (d l : ℕ) (xs : List SwitchElement) → Memᴰ l (cases xs) → Memᴰ l (spends d xs)
case_spent d l [] q = q
case_spent d l (Case k v ∷ xs) q = either (λ e. Memᴰ.append_right (spends d xs) (Memᴰ.head e))
    (λ r. Memᴰ.append_left (k ∷ []) (case_spent d l xs r)) (Memᴰ.cases_cons q)
case_spent d l (Default k ∷ xs) q = go (has_default xs) (case_spent d l xs q)
  where
    go : (b : Bool) → Memᴰ l (spends d xs) → Memᴰ l (with_default b d (spends d xs))
    go true q = q
    go false q = Memᴰ.append_left (d ∷ []) q
case_spent d l (Statement s ∷ xs) q = case_spent d l xs q

default_spent : (d : ℕ) (xs : List SwitchElement) → has_default xs ≡ true → Memᴰ d (spends d xs)
default_spent d [] e = let z : ◌≡◌ {A = ℕ} 0 1 = cc in absurd (omega arith)
default_spent d (Case k v ∷ xs) e = Memᴰ.append_left (k ∷ []) (default_spent d xs e)
default_spent d (Default k ∷ xs) e = go (has_default xs) refl (λ q. default_spent d xs q)
  where
    go : (b : Bool) → has_default xs ≡ b → (has_default xs ≡ true → Memᴰ d (spends d xs)) → Memᴰ d (with_default b d (spends d xs))
    go true q h = h q
    go false q h = Memᴰ.append_right (spends d xs) (Memᴰ.head refl)
default_spent d (Statement s ∷ xs) e = default_spent d xs e

-- nothing else is marked
abbrev Spent : ℕ → ℕ → List SwitchElement → Type 0
Spent d l xs = Memᴰ l (cases xs) ⊎ ((l ≡ d) × (has_default xs ≡ true))

spent_is : (d l : ℕ) (xs : List SwitchElement) → Memᴰ l (spends d xs) → Spent d l xs
spent_is d l [] q = inl q
spent_is d l (Case k v ∷ xs) q = either (λ r. either (λ m. inl (Memᴰ.tail m)) inr (spent_is d l xs r))
    (λ r. inl (Memᴰ.head (Memᴰ.eq_of_singleton r))) (Memᴰ.append_cases (spends d xs) q)
spent_is d l (Default k ∷ xs) q = go (has_default xs) q (λ r. either inl (λ m. inr (m.0, refl)) (spent_is d l xs r))
  where
    go : (b : Bool) → Memᴰ l (with_default b d (spends d xs)) → (Memᴰ l (spends d xs) → Spent d l (Default k ∷ xs)) →
        Spent d l (Default k ∷ xs)
    go true q h = h q
    go false q h = either h (λ r. inr (Memᴰ.eq_of_singleton r, refl)) (Memᴰ.append_cases (spends d xs) q)
spent_is d l (Statement s ∷ xs) q = spent_is d l xs q

case_label : (l : ℕ) (xs : List SwitchElement) → Memᴰ l (cases xs) → Memᴰ l (labels xs)
case_label l [] q = q
case_label l (Case k v ∷ xs) q = either (λ e. Memᴰ.head e) (λ r. Memᴰ.tail (case_label l xs r)) (Memᴰ.cases_cons q)
case_label l (Default k ∷ xs) q = Memᴰ.tail (case_label l xs q)
case_label l (Statement s ∷ xs) q = case_label l xs q

default_in : (end : ℕ) (xs : List SwitchElement) → has_default xs ≡ true → Memᴰ (default_label end xs) (labels xs)
default_in end [] e = let z : ◌≡◌ {A = ℕ} 0 1 = cc in absurd (omega arith)
default_in end (Case k v ∷ xs) e = Memᴰ.tail (default_in end xs e)
default_in end (Default k ∷ xs) e = Memᴰ.head refl
default_in end (Statement s ∷ xs) e = default_in end xs e

no_default : (end : ℕ) (xs : List SwitchElement) → has_default xs ≡ false → default_label end xs ≡ end
no_default end [] e = refl
no_default end (Case k v ∷ xs) e = no_default end xs e
no_default end (Default k ∷ xs) e = cc
no_default end (Statement s ∷ xs) e = no_default end xs e

-- the default label is no case's
default_apart : (end : ℕ) (xs : List SwitchElement) → Distinct (labels xs) → (Memᴰ end (labels xs) → ⊥) →
    Memᴰ (default_label end xs) (cases xs) → ⊥
default_apart end [] h n q = elim q [ ]
default_apart end (Case k v ∷ xs) h n q = either (which (has_default xs) refl) (λ r. default_apart end xs h.1 (λ m. n (Memᴰ.tail m)) r)
    (Memᴰ.cases_cons q)
  where
    which : (b : Bool) → has_default xs ≡ b → default_label end xs ≡ k → ⊥
    which true e p = h.0 (Memᴰ.cast (sym p) (default_in end xs e))
    which false e p = n (Memᴰ.head (sym (no_default end xs e) ∙ p))
default_apart end (Default k ∷ xs) h n q = h.0 (case_label k xs q)
default_apart end (Statement s ∷ xs) h n q = default_apart end xs h n q

some_default : (xs : List SwitchElement) → has_default xs ≡ true → 0 < defaults_in xs
some_default [] e = let z : ◌≡◌ {A = ℕ} 0 1 = cc in omega arith
some_default (Case k v ∷ xs) e = some_default xs e
some_default (Default k ∷ xs) e = omega arith
some_default (Statement s ∷ xs) e = some_default xs e

module _ {K : Context} {O : List ℕ} where
  good_before : {F : List ℕ} {m k : Step} → Good K O F m → Good K O [] k → Good K O F (m >> k)
  good_before {F} {m} {k} g h = subst (λ (G : List ℕ). Good K O G (m >> k)) (append-nil F) (good_both g h (λ x p q. elim q [ ]))

  good_conditionals : {xs : List SwitchElement} → Elements K xs → Each (cases xs) (λ (l : ℕ). Memᴰ l O) →
      Good K O [] (Statement.gen_conditionals xs)
  good_conditionals nothing_more h = good_pure tt
  good_conditionals (a_case {l = l} {xs = xs} x r) h =
      good_then (good_conditionals r (λ k q. h k (Memᴰ.tail q))) (good_then
      (good_when (has_case xs) (push (pcode.Value.Register 0)) (search good)) (good_then (x.expr_good false)
      (good_then (search good) (good_branch Branching.If l (pcode.down 1) (h l (Memᴰ.head refl))))))
  good_conditionals (a_default r) h = good_conditionals r h
  good_conditionals (a_statement x r) h = good_conditionals r h

  module _ (loop : Loop) (b : Within O loop.break_label) (c : Within O loop.continue_label) (d : ℕ) where
    good_elements : {xs : List SwitchElement} → Elements K xs → Distinct (labels xs) → (Memᴰ d (cases xs) → ⊥) →
        (1 < defaults_in xs → K.cause 6) → Good K O (spends d xs) (Statement.gen_elements loop d xs)
    good_elements nothing_more h n p = good_pure tt
    good_elements (a_case {l = l} {xs = xs} x r) h n p = good_both (good_elements r h.1 (λ q. n (Memᴰ.tail q)) p) (good_mark l)
        (λ y q e. either (λ m. h.0 (case_label l xs m)) (λ m. n (Memᴰ.head (sym m.0)))
        (spent_is d l xs (Memᴰ.cast (sym (Memᴰ.eq_of_singleton e)) q)))
    good_elements (a_default {l = l} {xs = xs} r) h n p = go (has_default xs) refl (good_elements r h.1 n (λ q. p (omega arith)))
      where
        never : has_default xs ≡ false → has_default xs ≡ true → ⊥
        never e q = let z : ◌≡◌ {A = ℕ} 0 1 = cc in omega arith

        go : (y : Bool) → has_default xs ≡ y → Good K O (spends d xs) (Statement.gen_elements loop d xs) →
            Good K O (with_default y d (spends d xs)) (Statement.gen_elements loop d xs >> mark_default d)
        go true e g = good_second d (default_spent d xs e) (p (omega (arith, some_default xs e))) g
        go false e g = good_both g (good_first d) (λ y q r. either n (λ m. never e m.1)
            (spent_is d d xs (Memᴰ.cast (sym (Memᴰ.eq_of_singleton r)) q)))
    good_elements (a_statement {m = m} {xs = xs} x r) h n p = good_before (good_elements r h n p)
        (good_when (has_case xs || has_default xs) (m.gen_statement loop) (x.statement_good loop b c))

within_wide : (M O : List ℕ) (o : Option ℕ) → Within O o → Within (M ++ O) o
within_wide M O none h = tt
within_wide M O (some l) h = Memᴰ.append_right M h

module _ (end : ℕ) (xs : List SwitchElement) where
  abbrev marked_all : List ℕ
  marked_all = spends (default_label end xs) xs ++ (end ∷ [])

  among_them : (l : ℕ) → Memᴰ l marked_all → Memᴰ l (end ∷ labels xs)
  among_them l q = either (λ r. either (λ m. Memᴰ.tail (case_label l xs m)) (λ m. Memᴰ.tail (Memᴰ.cast m.0 (default_in end xs m.1)))
      (spent_is (default_label end xs) l xs r))
      (λ r. Memᴰ.head (Memᴰ.eq_of_singleton r)) (Memᴰ.append_cases (spends (default_label end xs) xs) q)

  end_marked : (O : List ℕ) → Memᴰ end (marked_all ++ O)
  end_marked O = Memᴰ.append_left O (Memᴰ.append_right (spends (default_label end xs) xs) (Memᴰ.head refl))

  default_marked : (O : List ℕ) (b : Bool) → has_default xs ≡ b → Memᴰ (default_label end xs) (marked_all ++ O)
  default_marked O true e = Memᴰ.append_left O (Memᴰ.append_left (end ∷ []) (default_spent (default_label end xs) xs e))
  default_marked O false e = Memᴰ.cast (no_default end xs e) (end_marked O)

  end_apart : (Memᴰ end (labels xs) → ⊥) → Memᴰ end (spends (default_label end xs) xs) → ⊥
  end_apart n q = either (λ m. n (case_label end xs m)) (λ m. n (Memᴰ.cast m.0 (default_in end xs m.1)))
      (spent_is (default_label end xs) end xs q)

module _ {K : Context} (O : List ℕ) (loop : Loop) (c : Within O loop.continue_label) {t : Meaning} (x : Fine K t) where
  good_cases : (end : ℕ) {xs : List SwitchElement} → Elements K xs → Distinct (labels xs) → (Memᴰ end (labels xs) → ⊥) →
      (1 < defaults_in xs → K.cause 6) →
      Good K (marked_all end xs ++ O) (marked_all end xs) (Statement.gen_cases loop t end xs)
  good_cases end {xs} r h n p =
      let d : ℕ = default_label end xs in
      good_then
      (good_when (has_case xs) (Statement.expr t >> store_register 0 >> Statement.gen_conditionals xs)
      (good_then (search (good, x.expr_good)) (good_conditionals r (λ l q. Memᴰ.append_left O (Memᴰ.append_left (end ∷ []) (case_spent d l xs q))))))
      (good_then (good_branch Branching.Jump d (up 0) (default_marked end xs O (has_default xs) refl))
      (good_both (good_elements (record { break_label = some end; continue_label = loop.continue_label }) (end_marked end xs O)
      (within_wide (marked_all end xs) O loop.continue_label c) d r h (default_apart end xs h n) p)
      (good_mark end) (λ y q e. end_apart end xs n (Memᴰ.cast (sym (Memᴰ.eq_of_singleton e)) q))))

  choose : (end : ℕ) {xs : List SwitchElement} → Elements K xs → Distinct (labels xs) → (Memᴰ end (labels xs) → ⊥) →
      (1 < defaults_in xs → K.cause 6) → (b : Bool) →
      Chosen K O (end ∷ labels xs) (when b (Statement.gen_cases loop t end xs))
  choose end {xs} r h n p true = record { F = marked_all end xs; among = among_them end xs; marks_them = good_cases end r h n p }
  choose end {xs} r h n p false = record { F = []; among = λ l q. elim q [ ]; marks_them = good_pure tt }

  pub good_switch : {ms : Forest Meaning} → AllFine K ms → (1 < defaults_of ms → K.cause 6) → Good K O [] (Statement.gen_switch loop t ms)
  good_switch {ms} m p = good_labelled m (λ end xs. when (has_case xs || has_default xs) (Statement.gen_cases loop t end xs))
      (λ end xs h n r e. choose end r h n (λ q. p (omega (arith, e))) (has_case xs || has_default xs))
