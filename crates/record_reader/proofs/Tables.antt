-- Tables of readers, and the code that decides.
use Prim.Native.Nat.{ℕ, zero, suc, ◌+◌, ◌-◌, ◌≤◌, ◌<◌}
use mathlib.Core.Path.{◌≡◌, refl, ap, ◌∙◌, subst}
use mathlib.Core.List.{List, [], ◌∷◌, ◌++◌, map}
use mathlib.Core.Bool.{Bool, true, false, not, ◌&&◌}
use mathlib.Core.Option.{Option, none, some}
use native.Mathlib.Omega.{arith}
use Rattle.std.proofs.Common.{Some}
use native.Mathlib.Nat.{add-zero, add-suc, suc-add, le_of_suc-le-suc, not-suc-le-zero}
use lib.Dec.{T, eqb, leb, ltb, ltb→lt}
use lib.ListN.{length}
use borrow.Author.Tests.{eqb-true, lt-leb}
use Rattle.pcode.specs.declared.Op.{Op}
use Rattle.pcode.specs.Pcode.{row_of, all_ops}
use Rattle.action_format.specs.Bytes.{Bytes}
use Rattle.action_format.specs.Lists.{all}
use Rattle.action_format.specs.Readers.{P, bind, fail, word_reader, read_bytes, read_inside, dispatch}
use Rattle.action_format.specs.Decode.{Record, in_record, op_reader, op_readers, data_readers, read_record}
use Rattle.action_format.proofs.Tests.{and_first, and_second, never, some_of}
use Rattle.action_format.proofs.Readers.{byte_law}
use Rattle.record_reader.specs.declared.Kind.TheVariants as kind
use Rattle.record_reader.specs.Heads.{head_of}
use Rattle.record_reader.specs.Shape.{find_op, short_ops, is_short, data_table, data_reader}

-- readers of the data, each in a record

abbrev framed : ℕ × P Record → ℕ × P Record
framed x = (x.0, in_record x.1)

in_none : (r : Bytes) → none ≡ in_record (fail {A = Record}) r
in_none r = go (word_reader 2 r)
  where
    inner : (o : Option (Bytes × Bytes)) → none ≡ bind o (λ d. read_inside (fail {A = Record}) d)
    inner none = refl
    inner (some d) = refl

    go : (o : Option (ℕ × Bytes)) → none ≡ bind o (λ n r. bind (read_bytes n r) (λ d. read_inside (fail {A = Record}) d))
    go none = refl
    go (some x) = inner (read_bytes x.0 x.1)

in_table : (t : List (ℕ × P Record)) (c : ℕ) (r : Bytes) → dispatch (map framed t) c r ≡ in_record (dispatch t c) r
in_table [] c r = in_none r
in_table (x ∷ t) c r = go (eqb c x.0) (in_table t c r)
  where
    go : (b : Bool) → dispatch (map framed t) c r ≡ in_record (dispatch t c) r →
        (elim b as (λ _. P Record) [ true ↦ in_record x.1 | false ↦ dispatch (map framed t) c ]) r ≡ in_record (elim b as (λ _. P Record) [ true ↦ x.1 | false ↦ dispatch t c ]) r
    go true e = refl
    go false e = e

-- the actions without operands, by their codes

abbrev by_op : Option Op → P Record → P Record
by_op none p r = p r
by_op (some o) p r = op_reader o (leb 0x80 (row_of o).code) r

ops_first : (os : List Op) (ys : List (ℕ × P Record)) (c : ℕ) (r : Bytes) → dispatch (op_readers os ++ ys) c r ≡ by_op (find_op os c) (dispatch ys c) r
ops_first [] ys c r = refl
ops_first (o ∷ os) ys c r = go (eqb c (row_of o).code) (ops_first os ys c r)
  where
    go : (b : Bool) → dispatch (op_readers os ++ ys) c r ≡ by_op (find_op os c) (dispatch ys c) r →
        (elim b as (λ _. P Record) [ true ↦ op_reader o (leb 0x80 (row_of o).code) | false ↦ dispatch (op_readers os ++ ys) c ]) r
        ≡ by_op (elim b as (λ _. Option Op) [ true ↦ some o | false ↦ find_op os c ]) (dispatch ys c) r
    go true e = refl
    go false e = e

record Found (c : ℕ) (f : Op → Bool) (o : Op) : Type 0 where
  code : c ≡ (row_of o).code
  tested : T (f o)

found : (c : ℕ) (f : Op → Bool) (os : List Op) (o : Op) → T (all f os) → find_op os c ≡ some o → Found c f o
found c f [] o h e = never o e
found c f (x ∷ os) o h e = go (eqb c (row_of x).code) refl (found c f os o (and_second (f x) (all f os) h)) e
  where
    go : (b : Bool) → eqb c (row_of x).code ≡ b → (find_op os c ≡ some o → Found c f o) → elim b as (λ _. Option Op) [ true ↦ some x | false ↦ find_op os c ] ≡ some o → Found c f o
    go true q k e = subst (Found c f) (some_of e) (record { code = eqb-true c (row_of x).code q; tested = and_first (f x) (all f os) h })
    go false q k e = k e

-- Call and the actions with operands stand after all the others
split : op_readers all_ops ++ data_readers ≡ op_readers short_ops ++ map framed data_table
unfolding short_ops
split = refl

all_short : T (all (λ (o : Op). ltb (row_of o).code 0x80) short_ops)
unfolding short_ops
all_short = tt

-- a range of codes, tested one after the other

abbrev same : Bool → Bool → Bool
same true b = b
same false b = not b

same_eq : (a b : Bool) → T (same a b) → a ≡ b
same_eq true true h = refl
same_eq true false h = absurd h
same_eq false true h = absurd h
same_eq false false h = refl

unfoldable pub all_from : (t : Bool) → (n low : ℕ) → Bool
all_from t zero low = true
all_from t (suc n) low = same t (is_short low) && all_from t n (suc low)

at_code : (t : Bool) (n low k : ℕ) → T (all_from t n low) → k < n → T (same t (is_short (low + k)))
unfolding all_from
at_code t zero low k h l = absurd (not-suc-le-zero l)
at_code t (suc n) low zero h l = rw (add-zero low) (and_first (same t (is_short low)) (all_from t n (suc low)) h)
at_code t (suc n) low (suc k) h l =
    rw (add-suc low k, ← (suc-add low k)) (at_code t n (suc low) k (and_second (same t (is_short low)) (all_from t n (suc low)) h) (le_of_suc-le-suc l))

-- the codes from low on, n of them, are all short or all not
pub in_range_lem : (t : Bool) (low n c : ℕ) → low ≤ c → c < low + n → T (all_from t n low) → t ≡ is_short c
in_range_lem t low n c h k f =
    let e : low + (c - low) ≡ c = omega arith in
    same_eq t (is_short c) (subst (λ (m : ℕ). T (same t (is_short m))) e (at_code t n low (c - low) f (omega arith)))

-- a record by its code

module _ (c : ℕ) (r : Bytes) (h : c < 256) where
  tag : read_record (c ∷ r) ≡ by_op (find_op short_ops c) (dispatch (map framed data_table) c) r
  unfolding read_record
  tag = rw (byte_law c r h) (ap (λ (t : List (ℕ × P Record)). dispatch t c r) split ∙ ops_first short_ops (map framed data_table) c r)

  pub long_record : is_short c ≡ false → read_record (c ∷ r) ≡ in_record (data_reader c) r
  unfolding is_short data_reader
  long_record n = tag ∙ go (find_op short_ops c) n ∙ in_table data_table c r
    where
      go : (o : Option Op) → elim o as (λ _. Bool) [ none ↦ false | some x ↦ true ] ≡ false → by_op o (dispatch (map framed data_table) c) r ≡ dispatch (map framed data_table) c r
      go none e = refl
      go (some x) e = cc

  pub short_record : is_short c ≡ true → (p n pool : ℕ) → Some (record { kind = kind.Plain c 0; next = n - length r; fits = true }) ≡ head_of p n pool (read_record (c ∷ r))
  unfolding is_short
  short_record y p n pool = rw tag (go (find_op short_ops c) refl y)
    where
      go : (o : Option Op) → find_op short_ops c ≡ o → elim o as (λ _. Bool) [ none ↦ false | some x ↦ true ] ≡ true →
          Some (record { kind = kind.Plain c 0; next = n - length r; fits = true }) ≡ head_of p n pool (by_op o (dispatch (map framed data_table) c) r)
      go none q e = cc
      go (some x) q e =
          let f = found c (λ (o : Op). ltb (row_of o).code 0x80) short_ops x all_short q in
          rw (lt-leb 0x80 (row_of x).code (ltb→lt (row_of x).code 0x80 f.tested), f.code)
