-- The areas of a script file: what each function of `layout` gives, way by way.
use Prim.Native.Nat.{ℕ, zero, suc, ◌+◌, ◌-◌, ◌*◌, ◌≤◌, ◌<◌, min, max}
use mathlib.Core.Path.{◌≡◌, refl, sym, ap}
use mathlib.Core.List.{List}
use native.Mathlib.Omega.{arith}
use mathlib.Core.Bool.{true}
use borrow.Author.Tests.{ne_eqb, le-leb, lt-leb}
use lib.ListN.{length, take, drop, length-drop, get_or-eq_default}
use Rattle.std.proofs.lemmas.List.{take_min, drop_min}
use Rattle.script_records.specs.declared.layout.Layout.{Layout}
use Rattle.script_records.specs.declared.layout.Row.{Row}
use Rattle.script_records.specs.Layout.{word_at, supported, layout_of, end_at, start_at, string_at, row_at, rows_from, rows_of, row_in, no_row}

-- what `default` gives
row_of_zeros : {k a b c n : ℕ} → k ≡ 0 → a ≡ 0 → b ≡ 0 → c ≡ 0 → n ≡ 0 → ◌≡◌ {A = Row} (record { kind = k; a = a; b = b; c = c; size = n }) no_row
row_of_zeros p q r s t = cc

pub default_row : (r : Row) → (r.kind ≡ 0) × ((r.a ≡ 0) × ((r.b ≡ 0) × ((r.c ≡ 0) × (r.size ≡ 0)))) → r ≡ no_row
default_row r h = row_of_zeros h.0 h.1.0 h.1.1.0 h.1.1.1.0 h.1.1.1.1

layout_of_zeros : {r e n m : ℕ} → r ≡ 0 → e ≡ 0 → n ≡ 0 → m ≡ 0 → ◌≡◌ {A = Layout} (record { records = r; ends = e; count = n; strings = m }) (record { records = 0; ends = 0; count = 0; strings = 0 })
layout_of_zeros p q r s = cc

pub default_layout : (F : List ℕ) (l : Layout) → length F < 20 → (l.records ≡ 0) × ((l.ends ≡ 0) × ((l.count ≡ 0) × (l.strings ≡ 0))) → l ≡ layout_of F
unfolding layout_of
default_layout F l short h = rw (lt-leb 20 (length F) short) (layout_of_zeros h.0 h.1.0 h.1.1.0 h.1.1.1)

pub rows_length : (F : List ℕ) (p n : ℕ) → length (rows_from F p n) ≡ n
unfolding rows_from
rows_length F p zero = refl
rows_length F p (suc n) = ap suc (rows_length F (p + 20) n)

pub rows_at : (F : List ℕ) (p n i : ℕ) → i < n → row_in (rows_from F p n) i ≡ row_at F (p + 20 * i)
unfolding rows_from
rows_at F p zero i h = absurd (omega arith)
rows_at F p (suc n) zero h = ap (row_at F) (omega arith)
rows_at F p (suc n) (suc i) h = rw (rows_at F (p + 20) n i (omega arith)) (ap (row_at F) (omega arith))

pub rows_out : (F : List ℕ) (l : Layout) (i : ℕ) → l.count ≤ i → no_row ≡ row_in (rows_of F l) i
unfolding rows_of
rows_out F l i h = sym (get_or-eq_default (rows_from F l.records l.count) no_row (rw rows_length h))

module _ (F : List ℕ) (l : Layout) (i : ℕ) (inside : i < l.count) where
  pub row_short : length F < l.records + 20 * i + 20 → no_row ≡ row_in (rows_of F l) i
  unfolding rows_of row_at
  row_short h = rw (rows_at F l.records l.count i, lt-leb (l.records + 20 * i + 20) (length F))

  pub row_whole : {k a b c s : ℕ} → l.records + 20 * i + 20 ≤ length F → k ≡ word_at F (l.records + 20 * i) → a ≡ word_at F (l.records + 20 * i + 4)
      → b ≡ word_at F (l.records + 20 * i + 8) → c ≡ word_at F (l.records + 20 * i + 12) → s ≡ word_at F (l.records + 20 * i + 16)
      → ◌≡◌ {A = Row} (record { kind = k; a = a; b = b; c = c; size = s }) (row_in (rows_of F l) i)
  unfolding rows_of row_at
  row_whole h q0 q1 q2 q3 q4 = rw (rows_at F l.records l.count i, le-leb (l.records + 20 * i + 20) (length F) h) (cc)

-- a part from s to e, where each lies in the list or past its end
kept_part : (F : List ℕ) (s e : ℕ) → take (max (min s (length F)) (min e (length F)) - min s (length F)) (drop (min s (length F)) F) ≡ take (e - s) (drop s F)
kept_part F s e =
    let count : max (min s (length F)) (min e (length F)) - min s (length F) ≡ min (e - s) (length (drop s F)) = rw length-drop (omega arith) in
    rw (drop_min, count, take_min)

module _ (F : List ℕ) (l : Layout) (i : ℕ) where
  pub end_short : length F < l.ends + 4 * i + 4 → 0 ≡ end_at F l i
  unfolding end_at
  end_short h = rw (lt-leb (l.ends + 4 * i + 4) (length F))

  pub end_whole : {r : ℕ} → l.ends + 4 * i + 4 ≤ length F → r ≡ word_at F (l.ends + 4 * i) → r ≡ end_at F l i
  unfolding end_at
  end_whole h q = rw (le-leb (l.ends + 4 * i + 4) (length F)) q

  -- a part of the file, where the start and the end are kept inside it
  pub string_part : {s e : ℕ} → s ≡ start_at F l i → e ≡ end_at F l i →
      take (max (min s (length F)) (min e (length F)) - min s (length F)) (drop (min s (length F)) F) ≡ string_at F l i
  unfolding string_at
  string_part {s} {e} p q = rw (← p, ← q) (kept_part F s e)

-- the kinds past those statements that refusal 3 names
pub supported_high : (k : ℕ) → (k ≡ 53 → ⊥) → 14 < k → true ≡ supported k
supported_high k h l = rw (ne_eqb k 53 h, le-leb 10 k (omega arith), lt-leb k 14 l)
