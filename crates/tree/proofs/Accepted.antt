-- The walk can start at an accepted file's root list.
use Prim.Native.Nat.{ℕ, zero, suc, ◌+◌, ◌-◌, ◌*◌, ◌%◌, ◌^◌, ◌≤◌, ◌<◌}
use mathlib.Core.Path.{◌≡◌, refl}
use mathlib.Core.List.{List}
use mathlib.Core.Bool.{Bool, true, false, cond, not, ◌&&◌}
use lib.Dec.{T, ltb, leb, eqb, eqb-suc-zero}
use lib.ListN.{length}
use native.Mathlib.Omega.{arith}
use borrow.Author.Tests.{ltb-true, ltb-false, leb-true, eqb-true, eq-eqb, ne_eqb, lt-ltb, le-ltb}
use Rattle.hir.specs.Tree.{Forest, map_forest}
use Rattle.hir.specs.declared.Record.{Record}
use Rattle.hir.specs.declared.Record.TheVariants as kind
use Rattle.hir.specs.declared.EnumeratorTarget.TheVariants as target
use Rattle.script_records.specs.declared.layout.Row.{Row}
use Rattle.script_records.specs.declared.part.Part.{Part}
use Rattle.script_records.specs.Layout.{Words, words_of, layout_of, has_trailer, areas_touch, supported, row_in, span_at, children_of}
use Rattle.decode.specs.Numbers.{words}
use Rattle.decode.specs.Decode.{record_of, constant_of, condition_of, is_one, plain_of, statement_kinds, expr_kinds}
use Rattle.script_records.proofs.Trees.{forest_more}
use Rattle.script.specs.declared.forms.Class.TheVariants.{Statement as statement}
use Rattle.script.specs.Forms.{form_of, is_list, fits}
use Rattle.script.specs.Rules.{all_below, ends_hold, record_holds, root_holds, records_hold, rules_hold, parted, max_bytes, tree_in, check_of}
use Rattle.script.specs.Resolve.{script_of}
use Rattle.script.proofs.Written.{below_at, all_hold}
use Rattle.script.proofs.WrittenBytes.{areas_of}
use Rattle.script.proofs.WrittenRows.{first, second, held_parted, held_fits}
use Rattle.lowering.specs.Meaning.{list}
use Rattle.list_slice.specs.File.{rec_in, names_string, names_function}
use Rattle.tree.specs.Trees.{rows_in, trees}
use Rattle.tree.specs.Within.{record_named, constant_named, condition_named, target_named, Sound, Within}

-- A file that is accepted is short, and keeps the rules. The library has no lemma of such a choice of numbers: two tests, of which 0 says both answers.
short_true : (t s : Bool) (x : ℕ) → cond t 4 (cond (not s) 1 x) ≡ 0 → (t ≡ false) × (s ≡ true)
short_true true s x h = absurd (omega arith)
short_true false true x h = (refl, refl)
short_true false false x h = absurd (omega arith)

module _ (F : List ℕ) (accepted : check_of F ≡ 0) where
  pub accepted_short : length F ≤ max_bytes
  unfolding check_of
  accepted_short = ltb-false max_bytes (length F) (short_true (ltb max_bytes (length F)) (rules_hold F) _ accepted).0

  pub accepted_rules : rules_hold F ≡ true
  unfolding check_of
  accepted_rules = (short_true (ltb max_bytes (length F)) (rules_hold F) _ accepted).1

-- a string's index that is below the number of strings
string_named : (F : List ℕ) (s : ℕ) → ltb s (layout_of F).strings ≡ true → T (names_string F s)
unfolding names_string
string_named F s h = rw h tt

-- what a record's form says of the strings
module _ (m : ℕ) (kids : Forest Words) where
  declare_string : (a b c : ℕ) → fits m (words 0 a b c) kids ≡ true → ltb a m ≡ true
  unfolding fits form_of
  declare_string a b c h = first (ltb a m) _ (first (ltb a m && (ltb b 1 && ltb c 1)) _ h)

  field_string : (a b c : ℕ) → fits m (words 98 a b c) kids ≡ true → ltb a m ≡ true
  unfolding fits form_of
  field_string a b c h = first (ltb a m) _ (first (ltb a m && (ltb b 1 && ltb c 1)) _ h)

  parameter_string : (a b c : ℕ) → fits m (words 99 a b c) kids ≡ true → ltb a m ≡ true
  unfolding fits form_of
  parameter_string a b c h = first (ltb a m) _ (first (ltb a m && (ltb b 257 && ltb c 1)) _ h)

  -- String and Identifier
  constant_string : (F : List ℕ) → m ≡ (layout_of F).strings → (k a b c : ℕ) → fits m (words 32 a b c) kids ≡ true → T (constant_named F (constant_of (words k a b c)))
  unfolding fits form_of constant_of
  constant_string F e k zero b c h = string_named F b (rw e at (first (ltb b m) _ (second (ltb 0 (2 ^ 32)) _ (first (ltb 0 (2 ^ 32) && (ltb b m && ltb c 1)) _ h))))
  constant_string F e k (suc zero) b c h = string_named F b (rw e at (first (ltb b m) _ (second (ltb 1 (2 ^ 32)) _ (first (ltb 1 (2 ^ 32) && (ltb b m && ltb c 1)) _ h))))
  constant_string F e k (suc (suc zero)) b c h = tt
  constant_string F e k (suc (suc (suc zero))) b c h = tt
  constant_string F e k (suc (suc (suc (suc zero)))) b c h = tt
  constant_string F e k (suc (suc (suc (suc (suc a))))) b c h = tt

  -- the variable of a loop
  variable_string : (F : List ℕ) → m ≡ (layout_of F).strings → (b c : ℕ) → fits m (words 5 0 b c) kids ≡ true → ltb b 2 ≡ true → T (names_string F c)
  unfolding fits form_of
  variable_string F e zero c h k = string_named F c (rw e at (second (ltb 0 (2 ^ 32)) _ (second (ltb 0 (2 ^ 32)) _ (first (ltb 0 (2 ^ 32) && (ltb 0 (2 ^ 32) && ltb c m)) _ h))))
  variable_string F e (suc zero) c h k = string_named F c (rw e at (second (ltb 1 (2 ^ 32)) _ (second (ltb 0 (2 ^ 32)) _ (first (ltb 0 (2 ^ 32) && (ltb 1 (2 ^ 32) && ltb c m)) _ h))))
  variable_string F e (suc (suc b)) c h k = let z = ltb-true (suc (suc b)) 2 k in absurd (omega arith)

  target_string : (F : List ℕ) (t : Bool) (b c r : ℕ) → (t ≡ true → T (names_string F c)) →
      T (target_named F (cond t (target.Variable c (is_one b)) (target.Register r)))
  target_string F true b c r f = f refl
  target_string F false b c r f = tt

  loop_string : (F : List ℕ) → m ≡ (layout_of F).strings → (k a b c : ℕ) → fits m (words 5 a b c) kids ≡ true → T (condition_named F (condition_of (words k a b c)))
  unfolding condition_of
  loop_string F e k zero b c h = target_string F (ltb b 2) b c (c % 256) (variable_string F e b c h)
  loop_string F e k (suc a) b c h = rw eqb-suc-zero tt

-- the records whose kind says all of them name nothing
plain_low : (F : List ℕ) (i : ℕ) → all_below (λ k. record_named F i (plain_of k)) 102 ≡ true
unfolding all_below plain_of statement_kinds expr_kinds
plain_low F i = refl

either : (t : Bool) (F : List ℕ) (i : ℕ) (x y : Record) → (t ≡ true → T (record_named F i x)) → T (record_named F i y) → T (record_named F i (cond t x y))
either true F i x y f g = f refl
either false F i x y f g = g

plain_high : (F : List ℕ) (i k : ℕ) → 102 ≤ k → T (record_named F i (plain_of k))
unfolding plain_of
plain_high F i k h =
    either (not (supported k)) F i kind.Other _ (λ e. tt)
    (rw (le-ltb k 16 (omega arith), le-ltb k 32 (omega arith), le-ltb k 78 (omega arith), ne_eqb k 96 (λ e. omega arith), ne_eqb k 100 (λ e. omega arith), ne_eqb k 101 (λ e. omega arith)) tt)

plain_named : (F : List ℕ) (i k : ℕ) → T (record_named F i (plain_of k))
plain_named F i k = by (ltb k 102) refl
  where
    by : (t : Bool) → ltb k 102 ≡ t → T (record_named F i (plain_of k))
    by true e = rw (below_at (λ j. record_named F i (plain_of j)) 102 k (plain_low F i) (ltb-true k 102 e)) tt
    by false e = plain_high F i k (ltb-false k 102 e)

-- by the kind k and the words a b c of a record that fits
module _ (F : List ℕ) (i k a b c : ℕ) (kids : Forest Words) (function : k ≡ 49 → T (names_function F i)) (h : fits (layout_of F).strings (words k a b c) kids ≡ true) where
  abbrev m : ℕ
  m = (layout_of F).strings

  words_named : T (record_named F i (record_of (words k a b c)))
  unfolding record_of
  words_named =
      either (eqb k 0) F i _ _ (λ e. string_named F a (declare_string m kids a b c (rw (eqb-true k 0 e) at h)))
      (either (eqb k 5) F i _ _ (λ e. loop_string m kids F refl k a b c (rw (eqb-true k 5 e) at h))
      (either (eqb k 32) F i _ _ (λ e. constant_string m kids F refl k a b c (rw (eqb-true k 32 e) at h))
      (either (eqb k 40) F i _ _ (λ e. tt)
      (either (eqb k 41) F i _ _ (λ e. tt)
      (either (eqb k 49) F i _ _ (λ e. function (eqb-true k 49 e))
      (either (eqb k 52) F i _ _ (λ e. tt)
      (either (eqb k 69) F i _ _ (λ e. tt)
      (either (eqb k 75) F i _ _ (λ e. tt)
      (either (eqb k 76) F i _ _ (λ e. tt)
      (either (eqb k 97) F i _ _ (λ e. tt)
      (either (eqb k 98) F i _ _ (λ e. string_named F a (field_string m kids a b c (rw (eqb-true k 98 e) at h)))
      (either (eqb k 99) F i _ _ (λ e. string_named F a (parameter_string m kids a b c (rw (eqb-true k 99 e) at h))) (plain_named F i k)))))))))))))

-- the trees of the root list: all records before the root, which is the last
abbrev pub statements_in : List ℕ → Part
statements_in F = record { end = (layout_of F).count - 1; n = (layout_of F).count - 1 }

module _ (F : List ℕ) (accepted : check_of F ≡ 0) where
  abbrev n : ℕ
  n = (layout_of F).count

  rules : rules_hold F ≡ true
  rules = accepted_rules F accepted

  parts : ((has_trailer F && areas_touch F) && (ends_hold F (layout_of F) && records_hold F (layout_of F))) ≡ true
  unfolding rules_hold
  parts = rules

  few : n < 65536
  few =
      let a = (areas_of F (first (has_trailer F && areas_touch F) _ parts)).total in
      let b = accepted_short F accepted in
      omega arith

  areas : (layout_of F).records + 20 * n ≤ length F
  areas = let a = areas_of F (first (has_trailer F && areas_touch F) _ parts) in omega (arith, a.total, a.records)

  root : (leb 1 n && (eqb (row_in (rows_in F) (n - 1)).size n && is_list statement (words_of (row_in (rows_in F) (n - 1))) (children_of (rows_in F) (n - 1)))) ≡ true
  unfolding root_holds
  root =
      second (all_below (record_holds (layout_of F).strings (rows_in F)) n) _ (second (ends_hold F (layout_of F)) _ (second (has_trailer F && areas_touch F) _ parts))

  root_some : 1 ≤ n
  root_some = leb-true 1 n (first (leb 1 n) _ root)

  root_size : (row_in (rows_in F) (n - 1)).size ≡ n
  root_size = eqb-true _ n (first (eqb (row_in (rows_in F) (n - 1)).size n) _ (second (leb 1 n) _ root))

  names : (i : ℕ) → i < n → (row_in (rows_in F) i).kind ≡ 49 → T (names_function F i)
  unfolding names_function
  names i h k = rw (lt-ltb i n h, eq-eqb (row_in (rows_in F) i).kind 49 k) tt

  named : (i : ℕ) → i < n → T (record_named F i (record_of (words_of (row_in (rows_in F) i))))
  named i h =
      let r : Row = row_in (rows_in F) i in
      words_named F i r.kind r.a r.b r.c (children_of (rows_in F) i) (names i h) (held_fits (layout_of F).strings (rows_in F) i (all_hold F rules i h))

  whole : (i : ℕ) → i < n → parted (rows_in F) i ((row_in (rows_in F) i).size - 1) ≡ true
  whole i h = held_parted (layout_of F).strings (rows_in F) i (all_hold F rules i h)

  pub accepted_sound : Sound F
  accepted_sound = record { short = accepted_short F accepted; few = few; areas = areas; named = named; whole = whole }

  pub accepted_within : Within F (layout_of F) (statements_in F)
  accepted_within =
      let s = root_some in
      record { layout = refl; inside = omega arith; known = omega arith; whole = rw root_size at (whole (n - 1) (omega arith)); sound = accepted_sound }

  root_span : span_at (rows_in F) n n ≡ n
  unfolding span_at
  root_span = let s = root_some in rw root_size (omega arith)

  pub accepted_trees : trees F (statements_in F) ≡ list 0 (script_of F)
  unfolding trees script_of tree_in map_forest rec_in
  accepted_trees = let s = root_some in rw (forest_more (rows_in F) n n (omega arith), root_span)
