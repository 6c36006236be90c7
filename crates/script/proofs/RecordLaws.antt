-- The rules of one record: what each step of the walks over its children gives.
use Prim.Native.Nat.{ℕ, zero, suc, ◌+◌, ◌-◌, ◌≤◌, ◌<◌, min, max}
use mathlib.Core.Path.{◌≡◌, refl, sym, ap, ◌∙◌}
use mathlib.Core.List.{List, [], ◌∷◌, ◌++◌, reverse}
use Rattle.std.proofs.lemmas.List.{reverse-append}
use mathlib.Core.Bool.{Bool, true, false, true≢false, not, ◌&&◌}
use Rattle.std.specs.Prelude.{◌⊎◌, Option, Some, None}
use Rattle.std.specs.Option.{is_some}
use Rattle.std.proofs.Common.{inl, inr}
use Rattle.std.proofs.lemmas.Bool.{false_from_ne_true}
use Rattle.std.proofs.lemmas.Option.{cond_some}
use lib.ListN.{length}
use denote.Ref.{Bor}
use lib.Dec.{eqb, ltb, leb, eqb-suc-zero}
use native.Mathlib.Nat.{zero-add}
use native.Mathlib.Omega.{arith}
use borrow.Author.Tests.{eq-eqb, ne_eqb, le-leb, lt-leb}
use Rattle.std.proofs.lemmas.Bool.Decides.{nat_tests}
use Rattle.hir.specs.Tree.{Forest}
use Rattle.script_records.specs.declared.layout.Row.{Row}
use Rattle.script_records.specs.declared.part.Part.{Part}
use Rattle.script_records.specs.declared.part.Tree.{Tree}
use Rattle.script_records.specs.Layout.{Words, words_of, row_in, span_at, forest}
use Rattle.script_records.specs.Parts.{trees_in, last_tree}
use Rattle.script.specs.Forms.{Scalar, limit, Class, Sort, is_class, is_sort, all_of, matches, trees, fits, form_of}
use Rattle.script.specs.declared.forms.Form.TheVariants as code
use Rattle.script.specs.declared.forms.Form as code_form
use Rattle.script.specs.FormCode.{form_as}
use Rattle.script.specs.Rules.{parted_in, parted, record_holds}
use Rattle.script.specs.declared.record_rules.Siblings.{Siblings}
use Rattle.script.specs.Siblings.{siblings_of, GivesLast}
use Rattle.script_records.proofs.Trees.{forest_none, forest_more, trees_none, tree_more, tree_less, span_le, span_pos}

-- a part without subtrees, and one whose last subtree is t
module _ (rs : List Row) (p : Part) where
  pub all_done : (c : Class) → p.n ≡ 0 → all_of c (trees_in rs p) ≡ true
  unfolding all_of
  all_done c h = rw (trees_none rs p h)

  module _ {t : Tree} (e : t ≡ last_tree rs p) (some_left : 0 < p.n) where
    pub all_not : (c : Class) {b : Bool} → b ≡ is_class c t.row.kind → b ≡ false → all_of c (trees_in rs p) ≡ false
    unfolding all_of
    all_not c q h = rw (tree_more rs p e some_left, ← q, h)

    pub all_next : (c : Class) {b : Bool} → b ≡ is_class c t.row.kind → b ≡ true → all_of c (trees_in rs p) ≡ all_of c (trees_in rs t.before)
    unfolding all_of
    all_next c q h = rw (tree_more rs p e some_left, ← q, h)

-- the sizes of a part's subtrees: more steps than records change nothing
fuel : (k j : ℕ) (rs : List Row) (e n : ℕ) → n ≤ k → n ≤ j → parted_in k rs e n ≡ parted_in j rs e n
unfolding parted_in
fuel zero zero rs e n p q = refl
fuel zero (suc j) rs e zero p q = refl
fuel (suc k) zero rs e zero p q = refl
fuel (suc k) (suc j) rs e zero p q = refl
fuel zero (suc j) rs e (suc n) p q = absurd (omega arith)
fuel (suc k) zero rs e (suc n) p q = absurd (omega arith)
fuel (suc k) (suc j) rs e (suc n) p q =
    let a = span_le rs e (suc n) in
    let b = span_pos rs e (suc n) (omega arith) in
    rw (fuel k j rs (e - span_at rs e (suc n)) (suc n - span_at rs e (suc n)) (omega arith) (omega arith))

pub parted_none : (rs : List Row) (e : ℕ) → parted rs e 0 ≡ true
unfolding parted parted_in
parted_none rs e = refl

pub parted_law : (rs : List Row) (e n : ℕ) → 0 < n → parted rs e n ≡ ((leb 1 (row_in rs (e - 1)).size && leb (row_in rs (e - 1)).size n) && parted rs (e - span_at rs e n) (n - span_at rs e n))
unfolding parted parted_in
parted_law rs e zero h = absurd (omega arith)
parted_law rs e (suc m) h =
    let a = span_le rs e (suc m) in
    let b = span_pos rs e (suc m) (omega arith) in
    rw (fuel m (suc m - span_at rs e (suc m)) rs (e - span_at rs e (suc m)) (suc m - span_at rs e (suc m)) (omega arith) (omega arith))

abbrev pub parted_part : List Row → Part → Bool
parted_part rs p = parted rs p.end p.n

module _ (rs : List Row) (p : Part) {t : Tree} (e : t ≡ last_tree rs p) (some_left : 0 < p.n) where
  tree_parted : parted_part rs p ≡ ((leb 1 t.row.size && leb t.row.size p.n) && parted_part rs t.before)
  unfolding last_tree
  tree_parted = rw e (parted_law rs p.end p.n some_left)

  -- the children and their record are as many as its size says, where that is at least 1 and no more than the part holds
  held : t.children.n + 1 ≡ min (max t.row.size 1) p.n
  unfolding last_tree span_at
  held = rw e (omega arith)

  pub parted_not : (t.row.size ≡ t.children.n + 1 → ⊥) → parted_part rs p ≡ false
  parted_not h = rw tree_parted (grind (arith, nat_tests, held))

  pub parted_next : t.row.size ≡ t.children.n + 1 → parted_part rs p ≡ parted_part rs t.before
  parted_next h = rw (tree_parted, le-leb 1 t.row.size (omega arith), le-leb t.row.size p.n (omega (arith, held)))

  pub trees_next : trees (trees_in rs p) ≡ trees (trees_in rs t.before) + 1
  unfolding trees
  trees_next = rw (tree_more rs p e some_left)

pub trees_done : (rs : List Row) (p : Part) → p.n ≡ 0 → (parted_part rs p ≡ true) × (trees (trees_in rs p) ≡ 0)
unfolding trees
trees_done rs p h = (rw (h, parted_none), rw (trees_none rs p h))

-- what the walk knows when so many subtrees were passed
pub record Passed (rs : List Row) (whole part : Part) (count : ℕ) : Type 0 where
  pub sizes : parted_part rs whole ≡ parted_part rs part
  pub number : trees (trees_in rs whole) ≡ trees (trees_in rs part) + count
  pub few : count + part.n ≤ whole.n

pub passed_none : (rs : List Row) (p : Part) → Passed rs p p 0
passed_none rs p = record { sizes = refl; number = omega arith; few = omega arith }

module _ (rs : List Row) (whole part : Part) (n : ℕ) (before : Passed rs whole part n) where
  pub siblings_broken : parted_part rs part ≡ false → None ≡ siblings_of rs whole
  siblings_broken h = rw (before.sizes, h)

  pub siblings_counted : part.n ≡ 0 → Some n ≡ siblings_of rs whole
  siblings_counted h = let d = trees_done rs part h in rw (before.sizes, d.0, before.number, d.1, zero-add)

  pub passed_one : {t : Tree} → t ≡ last_tree rs part → 0 < part.n → t.row.size ≡ t.children.n + 1 → Passed rs whole t.before (n + 1)
  passed_one e l h =
      record {
        sizes = before.sizes ∙ parted_next rs part e l h;
        number = omega (arith, before.number, trees_next rs part e l);
        few = omega (arith, before.few, (tree_less rs part e l).1);
      }

match_empty : (rs : List Row) (e n : ℕ) → eqb n 0 ≡ matches [] (forest rs e n)
unfolding matches
match_empty rs e zero = rw forest_none
match_empty rs e (suc n) = rw (forest_more rs e (suc n) (omega arith), eqb-suc-zero)

abbrev pub matching : List Row → List Sort → Part → Bool
matching rs ss p = matches (reverse ss) (trees_in rs p)

match_done : (rs : List Row) (ss : List Sort) (p : Part) → length ss ≡ 0 → eqb p.n 0 ≡ matching rs ss p
match_done rs [] p h = match_empty rs p.end p.n
match_done rs (s ∷ ss) p h = absurd (omega arith)

-- the walk ends where no subtree is left
module _ (s t : Siblings) where
  walk_ended : (o : Option Tree) (b : Bool) → is_some o ≡ not b → GivesLast s o t → b ≡ eqb s.part.n 0
  walk_ended None true e g = sym (eq-eqb s.part.n 0 g.0)
  walk_ended None false e g = absurd (true≢false (sym e))
  walk_ended (Some x) true e g = absurd (true≢false e)
  walk_ended (Some x) false e g = sym (ne_eqb s.part.n 0 (λ z. omega (arith, g.some, z)))

  pub match_ended : (rs : List Row) (ss : List Sort) (o : Option Tree) {b : Bool} → length ss ≡ 0 → is_some o ≡ not b → GivesLast s o t → b ≡ matching rs ss s.part
  match_ended rs ss o {b} h e g = walk_ended o b e g ∙ match_done rs ss s.part h

-- the library's `reverse-append`, where the last element is one
pub turned : {A : Type 0} {xs : List A} (others : List A) (x : A) → xs ≡ others ++ x ∷ [] → reverse xs ≡ x ∷ reverse others
turned others x last = ap reverse last ∙ reverse-append others (x ∷ [])

-- sorts ss, of which s is the last
module _ (rs : List Row) {ss : List Sort} (left : List Sort) (s : Sort) (p : Part) (last : ss ≡ left ++ s ∷ []) where
  pub match_short : p.n ≡ 0 → matching rs ss p ≡ false
  unfolding matches
  match_short z = rw (turned left s last, trees_none rs p z)

  module _ {t : Tree} (e : t ≡ last_tree rs p) (some_left : 0 < p.n) {b : Bool} (q : b ≡ is_sort s (words_of t.row) (trees_in rs t.children)) where
    pub match_not : b ≡ false → matching rs ss p ≡ false
    unfolding matches
    match_not h = rw (turned left s last, tree_more rs p e some_left, ← q, h)

    pub match_next : b ≡ true → matching rs ss p ≡ matching rs left t.before
    unfolding matches
    match_next h = rw (turned left s last, tree_more rs p e some_left, ← q, h)

-- a record's words r and children kids against its form, which the code has as f
module _ (m : ℕ) (f : code_form.Form) (r : Row) (kids : Forest Words) (e : form_as f ≡ form_of (words_of r)) where
  pub fits_unknown : f ≡ code.Unknown → false ≡ fits m (words_of r) kids
  unfolding fits
  fits_unknown h = rw (← e, h)

  pub fits_unsupported : f ≡ code.Unsupported → true ≡ fits m (words_of r) kids
  unfolding fits
  fits_unsupported h = rw (← e, h)

  pub fits_counted : {n : ℕ} {b : Bool} → f ≡ code.Counted → n ≡ trees kids → b ≡ ((eqb r.b 0 && eqb r.c 0) && eqb n r.a) → b ≡ fits m (words_of r) kids
  unfolding fits
  fits_counted h k q = rw (← e, h, ← k) q

  -- the words and the children
  module _ {a b c : Scalar} {ss : Bor (List Sort)} (h : f ≡ code.Words a b c ss) {s : Bool} (q : s ≡ (ltb r.a (limit m a) && (ltb r.b (limit m b) && ltb r.c (limit m c)))) where
    pub fits_scalars : s ≡ false → s ≡ fits m (words_of r) kids
    unfolding fits
    fits_scalars k = rw (← e, h, ← q, k)

    pub fits_children : s ≡ true → {d : Bool} → d ≡ matches (reverse ss.now) kids → d ≡ fits m (words_of r) kids
    unfolding fits
    fits_children k p = rw (← e, h, ← q, k) p

-- record i, whose row is r and whose children are the records before it that its size counts
module _ (m : ℕ) (rs : List Row) (i : ℕ) {r : Row} (e : r ≡ row_in rs i) where
  pub record_large : (r.size ≡ 0) ⊎ ((r.size ≡ 0 → ⊥) × (i < r.size - 1)) → false ≡ record_holds m rs i
  unfolding record_holds
  record_large (inl h) = rw (← e, h)
  record_large (inr h) = rw (← e, le-leb 1 r.size (omega arith), lt-leb r.size (i + 1) (omega arith))

  module _ (full : r.size ≡ 0 → ⊥) (inside : r.size - 1 ≤ i) where
    holds_law : record_holds m rs i ≡ (parted rs i (r.size - 1) && fits m (words_of r) (forest rs i (r.size - 1)))
    unfolding record_holds
    holds_law = rw (← e, le-leb 1 r.size (omega arith), le-leb r.size (i + 1) (omega arith))

    pub record_broken : None ≡ siblings_of rs (record { end = i; n = r.size - 1 }) → false ≡ record_holds m rs i
    record_broken q = rw (holds_law, false_from_ne_true (parted rs i (r.size - 1)) (λ h. let e = rw h at q in cc))

    module _ {n : ℕ} (q : Some n ≡ siblings_of rs (record { end = i; n = r.size - 1 })) where
      counted_both : (parted rs i (r.size - 1) ≡ true) × (n ≡ trees (forest rs i (r.size - 1)))
      counted_both = let h = cond_some (parted rs i (r.size - 1)) _ _ (sym q) in (h.0, sym h.1)

      pub record_form : {b : Bool} → b ≡ fits m (words_of r) (forest rs i (r.size - 1)) → b ≡ record_holds m rs i
      record_form k = rw (holds_law, counted_both.0) k
