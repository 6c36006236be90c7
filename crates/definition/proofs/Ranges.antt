-- In an accepted file every string is UTF-8 and every scalar of the tree is in its range.
use Prim.Native.Nat.{ℕ, zero, suc, ◌+◌, ◌-◌, ◌%◌, ◌^◌, ◌<◌, ◌≤◌}
use mathlib.Core.Path.{◌≡◌, refl, subst}
use mathlib.Core.List.{List, [], ◌∷◌}
use Rattle.std.specs.Prelude.{Some, None}
use mathlib.Core.Bool.{Bool, true, false, cond, not, ◌&&◌}
use native.Mathlib.Omega.{arith}
use lib.IntN.{pos, negsuc}
use lib.Dec.{eqb, ltb, leb}
use lib.ListN.{length, get_or, take, drop}
use borrow.Author.Tests.{eqb-true, eqb-false, ltb-true, ltb-false, not-false}
use Rattle.hir.specs.Hir.{Str, Rec}
use Rattle.hir.specs.Tree as tree
use Rattle.hir.specs.Tree.{Forest, more, map_forest, count, depth}
use Rattle.hir.specs.declared.ConstantKind.{ConstantKind}
use Rattle.hir.specs.declared.ConstantKind.TheVariants as constant
use Rattle.hir.specs.declared.ExprKind.{ExprKind}
use Rattle.hir.specs.declared.ExprKind.TheVariants as expr
use Rattle.hir.specs.declared.StatementKind.{StatementKind}
use Rattle.hir.specs.declared.StatementKind.TheVariants as statement
use Rattle.hir.specs.declared.EnumeratorTarget.TheVariants as target
use Rattle.hir.specs.declared.ForCondition.TheVariants as loop
use Rattle.hir.specs.declared.Record.{Record}
use Rattle.hir.specs.declared.Record.TheVariants as kind
use Rattle.utf8.specs.Utf8.{utf8}
use Rattle.script_records.specs.declared.layout.Layout.{Layout}
use Rattle.script_records.specs.Layout.{Words, supported, trailer_at, record_distance, end_distance, record_count, string_count, layout_of, string_at, strings_from, strings_of, rows_of}
use Rattle.decode.specs.Decode.{signed, is_one, constant_of, condition_of, statement_kinds, expr_kinds, plain_of, when, record_of, name_of}
use Rattle.script.specs.declared.forms.Scalar.TheVariants.{Below as below, String as string}
use Rattle.script.specs.Forms.{Form, form, for_in_form, constant_forms, unknown, form_of, has_form, fits}
use Rattle.script.specs.Rules.{rules_hold, all_utf8, all_supported, max_bytes, max_depth, tree_in, check_of}
use Rattle.decode.specs.Numbers.{unsigned}
use Rattle.script.specs.Resolve.{constant_over, name_over, expr_over, statement_over, resolved, script_of}
use Rattle.script.specs.Write.{Bytes, all_fit, are_words, WellFormed}
use Rattle.script.proofs.WrittenRows.{first, second, forest_count}
use Rattle.script.proofs.WrittenBytes.{word_small, strings_length}
use Rattle.script.proofs.Written.{accepted_written}
use Rattle.lowering.specs.Meaning.{list, width}
use Rattle.lowering.proofs.Theorems.Facts.{All, ConstantOk, NameOk, ExprOk, StatementOk, RecOk, InRange}
use Rattle.definition.specs.Compile.{statements_of}
use Rattle.definition.proofs.Lowered.{Utf8}

getD_in : {A : Type 0} (Q : A → Type 0) (xs : List A) (d : A) → All Q xs → Q d → (k : ℕ) → Q (get_or xs k d)
getD_in Q [] d h z k = z
getD_in Q (x ∷ xs) d h z zero = h.0
getD_in Q (x ∷ xs) d h z (suc k) = getD_in Q xs d h.1 z k

all_join : {A : Type 0} (Q : A → Type 0) (n : ℕ) (xs : List A) → All Q (take n xs) → All Q (drop n xs) → All Q xs
all_join Q zero xs h k = k
all_join Q (suc n) [] h k = tt
all_join Q (suc n) (x ∷ xs) h k = (h.0, all_join Q n xs h.1 k)

unsigned_small : (n : ℕ) → unsigned (signed n) < 2 ^ 32
unfolding signed
unsigned_small n = go (ltb n (2 ^ 31)) refl
  where
    go : (b : Bool) → ltb n (2 ^ 31) ≡ b → unsigned (cond b (pos n) (negsuc (2 ^ 32 - 1 - n))) < 2 ^ 32
    go true e = omega (arith, ltb-true n (2 ^ 31) e)
    go false e = omega arith

-- in a file of m strings, of which `text` has each at its index
module _ (m : ℕ) (text : ℕ → Str) (texts : (i : ℕ) → i < m → Utf8 (text i)) where
  abbrev Ok : Record → Type 0
  Ok r = RecOk Utf8 (resolved text r)

  record In (r : Record) : Type 0 where
    holds : Ok r

  by_test : (b : Bool) (r o : Record) → (b ≡ true → Ok r) → In o → In (cond b r o)
  by_test true r o h z = record { holds = h refl }
  by_test false r o h z = z

  by_kind : (n k : ℕ) (r o : Record) → (k ≡ n → Ok r) → In o → In (when n k r o)
  by_kind n k r o h z = by_test (eqb k n) r o (λ e. h (eqb-true k n e)) z

  -- the words that a form bounds
  module _ (w : Words) (kids : Forest Words) where
    declared_name : w.kind ≡ 0 → fits m w kids ≡ true → w.a < m
    unfolding fits form_of
    declared_name e h = ltb-true w.a m (first (ltb w.a m) _ (first _ _ (rw e at h)))

    field_name : w.kind ≡ 98 → fits m w kids ≡ true → w.a < m
    unfolding fits form_of
    field_name e h = ltb-true w.a m (first (ltb w.a m) _ (first _ _ (rw e at h)))

    parameter_name : w.kind ≡ 99 → fits m w kids ≡ true → (w.a < m) × (w.b < 257)
    unfolding fits form_of
    parameter_name e h =
        let t = first _ _ (rw e at h) in
        (ltb-true w.a m (first (ltb w.a m) _ t), ltb-true w.b 257 (first (ltb w.b 257) _ (second (ltb w.a m) _ t)))

    function_name_lem : w.kind ≡ 49 → fits m w kids ≡ true → w.a < m + 1
    unfolding fits form_of
    function_name_lem e h = ltb-true w.a (m + 1) (first (ltb w.a (m + 1)) _ (first _ _ (rw e at h)))

    condition_name : (a b : ℕ) → eqb a 0 ≡ true → b < 2 → has_form m (for_in_form a b) w kids ≡ true → w.c < m
    condition_name a zero e l h =
        let t = first _ _ (rw e at h) in
        ltb-true w.c m (second (ltb w.b (2 ^ 32)) (ltb w.c m) (second (ltb w.a (2 ^ 32)) _ t))
    condition_name a (suc zero) e l h =
        let t = first _ _ (rw e at h) in
        ltb-true w.c m (second (ltb w.b (2 ^ 32)) (ltb w.c m) (second (ltb w.a (2 ^ 32)) _ t))
    condition_name a (suc (suc b)) e l h = absurd (omega arith)

    for_form : w.kind ≡ 5 → form_of w ≡ for_in_form w.a w.b
    unfolding form_of
    for_form e = rw e

    condition_in : w.kind ≡ 5 → fits m w kids ≡ true → Ok (kind.Statement (statement.ForIn (condition_of w)))
    unfolding fits resolved condition_of
    condition_in e h = go (eqb w.a 0) refl
      where
        held : has_form m (for_in_form w.a w.b) w kids ≡ true
        held = subst (λ (x : Form). has_form m x w kids ≡ true) (for_form e) h

        aim : (b : Bool) → ltb w.b 2 ≡ b → eqb w.a 0 ≡ true →
            Ok (kind.Statement (statement.ForIn (loop.Enumerate (cond b (target.Variable w.c (is_one w.b)) (target.Register (w.c % 256))))))
        aim true q z = texts w.c (condition_name w.a w.b z (ltb-true w.b 2 q) held)
        aim false q z = omega arith

        go : (b : Bool) → eqb w.a 0 ≡ b →
            Ok (kind.Statement (statement.ForIn (cond (not b) loop.Classic
            (loop.Enumerate (cond (ltb w.b 2) (target.Variable w.c (is_one w.b)) (target.Register (w.c % 256)))))))
        go true z = aim (ltb w.b 2) refl z
        go false z = tt

    -- ConstantKind, by its place
    abbrev constants : List ConstantKind
    constants = constant.String w.b ∷ constant.Identifier w.b ∷ constant.Float w.b w.c ∷ constant.Integer (signed w.b) ∷
        constant.Boolean (is_one w.b) ∷ []

    constant_name : has_form m (form (below (2 ^ 32)) string (below 1) []) w kids ≡ true → Utf8 (text w.b)
    constant_name h = texts w.b (ltb-true w.b m (first (ltb w.b m) _ (second (ltb w.a (2 ^ 32)) _ (first _ _ h))))

    constant_at : (a : ℕ) → has_form m (get_or constant_forms a unknown) w kids ≡ true →
        ConstantOk Utf8 (constant_over text (get_or constants a (constant.Register (w.b % 256))))
    constant_at zero h = constant_name h
    constant_at (suc zero) h = constant_name h
    constant_at (suc (suc zero)) h =
        let t = second (ltb w.a (2 ^ 32)) _ (first _ _ h) in
        omega (arith, ltb-true w.b (2 ^ 32) (first (ltb w.b (2 ^ 32)) (ltb w.c (2 ^ 32)) t), ltb-true w.c (2 ^ 32) (second (ltb w.b (2 ^ 32)) (ltb w.c (2 ^ 32)) t))
    constant_at (suc (suc (suc zero))) h = unsigned_small w.b
    constant_at (suc (suc (suc (suc zero)))) h = tt
    constant_at (suc (suc (suc (suc (suc a))))) h = omega arith

    constant_form : w.kind ≡ 32 → form_of w ≡ get_or constant_forms w.a unknown
    unfolding form_of
    constant_form e = rw e

    constant_in_lem : w.kind ≡ 32 → fits m w kids ≡ true → Ok (kind.Expr (expr.Constant (constant_of w)))
    unfolding fits resolved constant_of
    constant_in_lem e h = constant_at w.a (subst (λ (x : Form). has_form m x w kids ≡ true) (constant_form e) h)

    name_in : (n : ℕ) → n < m + 1 → NameOk Utf8 (name_over text (name_of n))
    name_in n l = go (eqb n 0) refl
      where
        positive : (n : ℕ) → n < m + 1 → (n ≡ 0 → ⊥) → n - 1 < m
        positive zero l z = absurd (z refl)
        positive (suc n) l z = omega arith

        go : (b : Bool) → eqb n 0 ≡ b → NameOk Utf8 (name_over text (cond b None (Some (n - 1))))
        go true e = tt
        go false e = let z : n ≡ 0 → ⊥ = eqb-false n 0 e in texts (n - 1) (positive n l z)

  plain_statements : All (λ (k : StatementKind). StatementOk Utf8 (statement_over text k)) statement_kinds
  unfolding statement_kinds
  plain_statements = omega arith

  plain_exprs : All (λ (k : ExprKind). ExprOk Utf8 (expr_over text k)) expr_kinds
  unfolding expr_kinds
  plain_exprs = all_join (λ (k : ExprKind). ExprOk Utf8 (expr_over text k)) 24 expr_kinds (omega arith) (omega arith)

  plain_in : (k : ℕ) → In (plain_of k)
  unfolding plain_of resolved
  plain_in k =
      by_test (not (supported k)) _ _ (λ e. tt)
      (by_test (ltb k 16) _ _ (λ e. getD_in (λ (s : StatementKind). StatementOk Utf8 (statement_over text s)) statement_kinds statement.Break plain_statements tt k)
      (by_test (ltb k 32) _ _ (λ e. tt)
      (by_test (ltb k 78) _ _ (λ e. getD_in (λ (x : ExprKind). ExprOk Utf8 (expr_over text x)) expr_kinds expr.Call plain_exprs tt (k - 32))
      (by_kind 96 k _ _ (λ e. tt) (by_kind 100 k _ _ (λ e. tt) (by_kind 101 k _ _ (λ e. tt) (record { holds = tt })))))))

  record_in_lem : (w : Words) (kids : Forest Words) → fits m w kids ≡ true → In (record_of w)
  unfolding record_of resolved
  record_in_lem w kids h =
      by_kind 0 w.kind _ _ (λ e. texts w.a (declared_name w kids e h))
      (by_kind 5 w.kind _ _ (λ e. condition_in w kids e h)
      (by_kind 32 w.kind _ _ (λ e. constant_in_lem w kids e h)
      (by_kind 40 w.kind _ _ (λ e. tt)
      (by_kind 41 w.kind _ _ (λ e. tt)
      (by_kind 49 w.kind _ _ (λ e. (name_in w kids w.a (function_name_lem w kids e h), omega arith, omega arith))
      (by_kind 52 w.kind _ _ (λ e. tt)
      (by_kind 69 w.kind _ _ (λ e. tt)
      (by_kind 75 w.kind _ _ (λ e. unsigned_small w.a)
      (by_kind 76 w.kind _ _ (λ e. unsigned_small w.a)
      (by_kind 97 w.kind _ _ (λ e. tt)
      (by_kind 98 w.kind _ _ (λ e. texts w.a (field_name w kids e h))
      (by_kind 99 w.kind _ _ (λ e. (texts w.a (parameter_name w kids e h).0, omega (arith, (parameter_name w kids e h).1)))
      (plain_in w.kind)))))))))))))

  -- the tree
  abbrev resolve : Words → Rec
  resolve w = resolved text (record_of w)

  no_wider : (f : Forest Words) → width (map_forest resolve f) ≤ count f
  unfolding map_forest count
  no_wider tree.none = omega arith
  no_wider (more f w kids) = omega (arith, no_wider f)

  pub trees_in_lem : (f : Forest Words) → all_fit m f ≡ true → count f < 2 ^ 32 → InRange Utf8 (map_forest resolve f)
  unfolding map_forest count all_fit
  trees_in_lem tree.none h k = tt
  trees_in_lem (more f w kids) h k =
      let q : (all_fit m kids && (fits m w kids && are_words w)) ≡ true = second (all_fit m f) _ h in (
        trees_in_lem f (first (all_fit m f) _ h) (omega arith),
        (record_in_lem w kids (first (fits m w kids) _ (second (all_fit m kids) _ q))).holds,
        omega (arith, no_wider kids),
        trees_in_lem kids (first (all_fit m kids) _ q) (omega arith),
      )

-- the strings of a file
strings_in_lem : (F : List ℕ) (l : Layout) (n i j : ℕ) → all_utf8 (strings_from F l i n) ≡ true → j < n → utf8 (string_at F l (i + j)) ≡ true
unfolding strings_from all_utf8
strings_in_lem F l zero i j h k = absurd (omega arith)
strings_in_lem F l (suc n) i zero h k =
    let z : i + 0 ≡ i = omega arith in
    rw z (first (utf8 (string_at F l i)) _ h)
strings_in_lem F l (suc n) i (suc j) h k =
    let z : i + suc j ≡ suc i + j = omega arith in
    rw z (strings_in_lem F l n (suc i) j (second (utf8 (string_at F l i)) _ h) (omega arith))

-- what the check's number 0 says
pub record Accepted (F : List ℕ) : Type 0 where
  pub short : length F ≤ max_bytes
  pub rules : rules_hold F ≡ true
  pub texts : all_utf8 (strings_of F (layout_of F)) ≡ true
  pub supported : all_supported (rows_of F (layout_of F)) (layout_of F).count ≡ true
  pub shallow : depth (tree_in F (layout_of F)) ≤ max_depth

not_refused : (b : Bool) (n x : ℕ) → cond b (suc n) x ≡ 0 → (b ≡ false) × (x ≡ 0)
not_refused true n x e = absurd (omega arith)
not_refused false n x e = (refl, e)

pub accepted : (F : List ℕ) → check_of F ≡ 0 → Accepted F
unfolding check_of
accepted F e =
    let p = not_refused _ 3 _ e in
    let q = not_refused _ 0 _ p.1 in
    let r = not_refused _ 1 _ q.1 in
    let s = not_refused _ 2 _ r.1 in
    let t = not_refused _ 3 _ s.1 in
    record {
      short = ltb-false max_bytes (length F) p.0;
      rules = not-false (rules_hold F) q.0;
      texts = not-false (all_utf8 (strings_of F (layout_of F))) r.0;
      supported = not-false (all_supported (rows_of F (layout_of F)) (layout_of F).count) s.0;
      shallow = ltb-false max_depth (depth (tree_in F (layout_of F))) t.0;
    }

count_small : (F : List ℕ) → Bytes F → (layout_of F).count < 2 ^ 32
unfolding layout_of
count_small F bytes = go (leb 20 (length F))
  where
    go : (b : Bool) → (cond {A = Layout} b (record { records = trailer_at F - record_distance F; ends = trailer_at F - end_distance F; count = record_count F; strings = string_count F })
        (record { records = 0; ends = 0; count = 0; strings = 0 })).count < 2 ^ 32
    go true = word_small F bytes (trailer_at F + 8)
    go false = omega arith

list_in : (f : Forest Rec) → InRange Utf8 f → InRange Utf8 (list 0 f)
list_in tree.none h = tt
list_in (more f r kids) h = h.3

text_in_lem : (F : List ℕ) → Accepted F → (i : ℕ) → i < length (strings_of F (layout_of F)) → Utf8 (string_at F (layout_of F) i)
unfolding strings_of
text_in_lem F a i k =
    let z : 0 + i ≡ i = omega arith in
    let n : length (strings_from F (layout_of F) 0 (layout_of F).strings) ≡ (layout_of F).strings = strings_length F (layout_of F) 0 (layout_of F).strings in
    let u : utf8 (string_at F (layout_of F) i) ≡ true = rw z at (strings_in_lem F (layout_of F) (layout_of F).strings 0 i a.texts (omega arith)) in
    rw u tt

few : (F : List ℕ) → Bytes F → count (tree_in F (layout_of F)) < 2 ^ 32
unfolding tree_in
few F bytes = rw (forest_count (rows_of F (layout_of F)) (layout_of F).count (layout_of F).count) (count_small F bytes)

-- the statements of an accepted file: every scalar in its range, every string UTF-8, and no row of 2^32 trees
pub statements_in_lem : (F : List ℕ) → Bytes F → check_of F ≡ 0 → InRange Utf8 (statements_of F)
unfolding script_of
statements_in_lem F bytes e =
    let a : Accepted F = accepted F e in
    let l : Layout = layout_of F in
    let w : WellFormed (strings_of F l) (tree_in F l) = (accepted_written F bytes a.rules).1 in
    list_in (script_of F) (trees_in_lem (length (strings_of F l)) (string_at F l) (text_in_lem F a) (tree_in F l) w.records (few F bytes))
