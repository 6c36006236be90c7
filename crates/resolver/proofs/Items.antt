-- What an entry adds to the items before it: actions, bytes, tests and marks.
use Prim.Native.Nat.{ℕ, ◌+◌, ◌-◌, ◌≤◌, ◌<◌}
use mathlib.Core.Path.{◌≡◌, refl, sym, ap, ◌∙◌, subst}
use mathlib.Core.List.{List, [], ◌∷◌, ◌++◌}
use mathlib.Core.Bool.{Bool, true, false, cond, ◌&&◌, and-true, and-false, and_comm, and_assoc}
use native.Mathlib.Omega.{arith}
use lib.Dec.{ltb, leb, eqb}
use lib.ListN.{length, length-append}
use borrow.Author.Tests.{lt-ltb, le-ltb, ltb-true, ltb-false, ne_eqb, le-leb, lt-leb, leb-true, leb-false}
use Rattle.std.specs.Prelude.{Option, Some, None}
use Rattle.std.proofs.lemmas.List.{same_from_push}
use Rattle.pcode.specs.declared.Op.{Op}
use Rattle.pcode.specs.Pcode.{Header, DefineFunction, DefineFunction2, Value, Plain, Action, Item, plain, push, branch, define, action, mark, row_of, Jump, If}
use Rattle.hir.specs.Hir.{Str}
use Rattle.action_format.specs.ByPlace.{actions}
use Rattle.action_format.specs.Lists.{all, simple, pushing}
use Rattle.action_format.specs.Strings.{no_zero, value_strings, values_strings}
use Rattle.action_format.specs.Bytes.{word, join, framed, value_bytes, single_data, single_bytes, data_of_header, header_bytes}
use Rattle.action_format.specs.Offsets.{sum}
use Rattle.script.proofs.WrittenRows.{second}
use Rattle.action_format.proofs.Tests.{All}
use Rattle.list_slice.specs.Entry.{Pushed, Piece, Null, Undefined, Boolean, String, Register, Float, Integer, Constant, value, entry_of}
use Rattle.list_slice.specs.Items.{References, value_of, extended, added}
use Rattle.resolver.specs.declared.walk.Walk.{Walk}
use Rattle.resolver.specs.Sizes.{piece_data, piece_clear, size_of, measures, short_of, all_short, all_clear}
use Rattle.resolver.specs.Steps.{Fine, frame, begun, joined, unless_long, stepped, piece_body, adds, spots}
use Rattle.resolver.proofs.OpCodes.{op_code, op_says}

-- a later value stands after a Push that has one
pub data Pushes : List Item → Type 0 where
  pushes : (u : Value) (us : List Value) (is : List Item) → Pushes (action (push (u ∷ us)) ∷ is)

pub later_pushes : (v : Value) (is : List Item) → All Fine (extended v is) → Pushes is
later_pushes v [] h = absurd h.0
later_pushes v (action (push []) ∷ is) h = absurd h.0
later_pushes v (action (push (u ∷ us)) ∷ is) h = pushes u us is
later_pushes v (action (plain p) ∷ is) h = absurd h.0
later_pushes v (action (branch b l) ∷ is) h = absurd h.0
later_pushes v (action (define x n) ∷ is) h = absurd h.0
later_pushes v (mark l ∷ is) h = absurd h.0

fine_later : (v : Value) (is : List Item) → All Fine (extended v is) → All Fine is
fine_later v is h = go is (later_pushes v is h) h
  where
    go : (is : List Item) → Pushes is → All Fine (extended v is) → All Fine is
    go _ (pushes u us rest) h = (tt, h.1)

-- what is fine with an entry was fine before it
pub fine_before : (r : References) (p : Piece) (is : List Item) → All Fine (added r p is) → All Fine is
fine_before r (Piece.op o) is h = h.1
fine_before r (Piece.ConstantPool n) is h = h.1
fine_before r (Piece.StoreRegister n) is h = h.1
fine_before r (Piece.GotoFrame n) is h = h.1
fine_before r (Piece.GotoFrame2 b) is h = h.1
fine_before r (Piece.GotoLabel s) is h = h.1
fine_before r (Piece.branch b l) is h = h.1
fine_before r (Piece.function n f) is h = h.1
fine_before r (Piece.mark l) is h = h.1
fine_before r (value true v) is h = h.1
fine_before r (value false v) is h = fine_later (value_of r v) is h

-- the bytes of a Push with one more value

join_last : (us : List Value) (v : Value) → length (join value_bytes (us ++ (v ∷ []))) ≡ length (join value_bytes us) + length (value_bytes v)
join_last [] v = simp length-append (omega arith)
join_last (u ∷ us) v = simp length-append (omega (arith, join_last us v))

push_size : (vs : List Value) → length (single_bytes (pushing vs)) ≡ 3 + length (join value_bytes vs)
unfolding word
push_size vs = omega arith

-- a function's header has as many bytes whatever its body's count

header_same : (h : Header) (m n : ℕ) → length (data_of_header h m) ≡ length (data_of_header h n)
unfolding word
header_same (DefineFunction x ps) m n = simp length-append refl
header_same (DefineFunction2 x ps r k) m n = simp length-append refl

header_size : (h : Header) (n : ℕ) → length (header_bytes h n) ≡ 3 + length (data_of_header h 0)
unfolding word
header_size (DefineFunction x ps) n = let e = header_same (DefineFunction x ps) n 0 in omega arith
header_size (DefineFunction2 x ps r k) n = let e = header_same (DefineFunction2 x ps r k) n 0 in omega arith

-- what a walk has counted
pub record Counts (B : ℕ → ℕ) (is : List Item) (w : Walk) : Type 0 where
  pub actions : w.actions ≡ length (measures B is)
  pub bytes : w.bytes ≡ sum (measures B is)
  pub last : (ss : List ℕ) (m : ℕ) → measures B is ≡ ss ++ (m ∷ []) → w.last ≡ sum ss
  pub short : all_short B is ≡ true

pub record Stepped (B : ℕ → ℕ) (is : List Item) (r : Option Walk) : Type 0 where
  pub good : (w : Walk) → r ≡ Some w → Counts B is w
  pub bad : r ≡ None → all_short B is ≡ false

counted : {B : ℕ → ℕ} {is : List Item} {w : Walk} → Counts B is w → Stepped B is (Some w)
counted {B} {is} {w} h = record { good = λ v e. let q : w ≡ v = cc in subst (Counts B is) q h; bad = λ e. absurd cc }

uncounted : {B : ℕ → ℕ} {is : List Item} → all_short B is ≡ false → Stepped B is None
uncounted h = record { good = λ v e. absurd cc; bad = λ e. h }

sum_append : (xs : List ℕ) (m : ℕ) → sum (xs ++ (m ∷ [])) ≡ sum xs + m
sum_append [] m = omega arith
sum_append (x ∷ xs) m = omega (arith, sum_append xs m)

module _ (B : ℕ → ℕ) {w : Walk} (u : Value) (us : List Value) (rest : List Item) (v : Value) (q : Counts B (action (push (u ∷ us)) ∷ rest) w) (d : ℕ) where
  abbrev old : List Value
  old = u ∷ us

  abbrev new : List Value
  new = u ∷ (us ++ (v ∷ []))

  grown : d ≡ length (value_bytes v) → length (join value_bytes new) ≡ length (join value_bytes old) + d
  grown e = rw e (join_last (u ∷ us) v)

  old_bytes : w.bytes ≡ sum (measures B rest) + (3 + length (join value_bytes old))
  unfolding measures
  old_bytes = q.bytes ∙ sum_append (measures B rest) (length (single_bytes (pushing old))) ∙ ap (λ (n : ℕ). sum (measures B rest) + n) (push_size old)

  old_last : w.last ≡ sum (measures B rest)
  unfolding measures
  old_last = q.last (measures B rest) (length (single_bytes (pushing old))) refl

  rest_short : all_short B rest ≡ true
  unfolding all_short
  rest_short = second (leb (length (join value_bytes old)) 65535) (all_short B rest) q.short

  new_counts : d ≡ length (value_bytes v) → length (join value_bytes new) ≤ 65535 → Counts B (action (push new) ∷ rest) (joined w d)
  unfolding measures all_short
  new_counts e n = record {
    actions = q.actions ∙ simp length-append refl;
    bytes = rw (sum_append (measures B rest) (length (single_bytes (pushing new))), push_size new, grown e) (omega (arith, old_bytes));
    last = λ ss m z. old_last ∙ ap sum (same_from_push (measures B rest) ss (length (single_bytes (pushing new))) m z).0;
    short = rw (le-leb (length (join value_bytes new)) 65535 n, rest_short);
  }

  new_long : 65535 < length (join value_bytes new) → all_short B (action (push new) ∷ rest) ≡ false
  unfolding all_short
  new_long n = rw (lt-leb (length (join value_bytes new)) 65535 n)

  later_pushed : w.last ≤ w.bytes → d ≡ length (value_bytes v) →
      Stepped B (action (push new) ∷ rest) (cond (leb d 65535) (unless_long (leb (w.bytes + d - w.last) 65538) (joined w d)) None)
  later_pushed l e = go (leb d 65535) refl (leb (w.bytes + d - w.last) 65538) refl
    where
      go : (t : Bool) → leb d 65535 ≡ t → (u : Bool) → leb (w.bytes + d - w.last) 65538 ≡ u → Stepped B (action (push new) ∷ rest) (cond t (unless_long u (joined w d)) None)
      go false z u y = uncounted (new_long (omega (arith, grown e, leb-false d 65535 z)))
      go true z true y = counted (new_counts e (omega (arith, grown e, old_bytes, old_last, leb-true (w.bytes + d - w.last) 65538 y)))
      go true z false y = uncounted (new_long (omega (arith, grown e, old_bytes, old_last, leb-false (w.bytes + d - w.last) 65538 y)))

module _ (B : ℕ → ℕ) {is : List Item} {w : Walk} (k : Counts B is w) where
  -- an entry that begins a record
  record_law : (a : Action) (c d b : ℕ) → c < 0x120 → (c ≡ 257 → ⊥) → size_of B a ≡ frame c + d + b → short_of B a ≡ (leb d 65535 && leb b 65535) →
      Stepped B (action a ∷ is) (stepped w c d b)
  unfolding measures all_short
  record_law a c d b low other size short =
      rw (ne_eqb c 257 other, lt-ltb c 0x120 low) (go (leb d 65535) (leb b 65535) short)
    where
      go : (t u : Bool) → short_of B a ≡ (t && u) → Stepped B (action a ∷ is) (cond t (unless_long u (begun w c d b)) None)
      go true true e = counted (record {
        actions = simp length-append (omega (arith, k.actions));
        bytes = rw (sum_append (measures B is) (size_of B a)) (omega (arith, k.bytes, size));
        last = λ ss m q. k.bytes ∙ ap sum (same_from_push (measures B is) ss (size_of B a) m q).0;
        short = rw e k.short;
      })
      go true false e = uncounted (rw e)
      go false u e = uncounted (rw e)

  mark_law : (l d b : ℕ) → Stepped B (mark l ∷ is) (stepped w 257 d b)
  unfolding measures all_short
  mark_law l d b = counted (record { actions = k.actions; bytes = k.bytes; last = k.last; short = k.short })

  -- a value that joins the Push before it
  later_law : (v : Value) (c d b : ℕ) → All Fine (extended v is) → w.last ≤ w.bytes → 0x120 ≤ c → d ≡ length (value_bytes v) → Stepped B (extended v is) (stepped w c d b)
  later_law v c d b h l high e = rw (ne_eqb c 257 (λ z. omega arith), le-ltb c 0x120 high) (go is (later_pushes v is h) k)
    where
      go : (is : List Item) → Pushes is → Counts B is w → Stepped B (extended v is) (cond (leb d 65535) (unless_long (leb (w.bytes + d - w.last) 65538) (joined w d)) None)
      go _ (pushes u us rest) q = later_pushed B u us rest v q d l e

pub frame_small : (c : ℕ) {r : ℕ} → r ≡ frame c → r ≤ 3
frame_small c {r} e = go (ltb c 128) e
  where
    go : (t : Bool) → r ≡ cond t 1 3 → r ≤ 3
    go true e = omega arith
    go false e = omega arith

module _ (r : References) (B : ℕ → ℕ) {is : List Item} {w : Walk} (k : Counts B is w) (l : w.last ≤ w.bytes) where
  op_law : (o : Op) → Stepped B (action (plain (Plain.op o)) ∷ is) (stepped w (row_of o).code 0 0)
  unfolding word
  op_law o =
      let q = op_says (row_of o).code (op_code o) in
      record_law B k (plain (Plain.op o)) (row_of o).code 0 0 (omega (arith, q.small)) (λ e. omega (arith, q.small)) (op_size (row_of o).code) refl
    where
      go : (c : ℕ) (t : Bool) → ltb c 128 ≡ t → length (framed c [] (leb 128 c)) ≡ cond t 1 3 + 0 + 0
      go c true e = rw (lt-leb 128 c (ltb-true c 128 e))
      go c false e = rw (le-leb 128 c (ltb-false c 128 e))

      op_size : (c : ℕ) → length (framed c [] (leb 128 c)) ≡ frame c + 0 + 0
      op_size c = go c (ltb c 128) refl

  first_value : (c : ℕ) (v : Pushed) → c < 0x120 → 0x110 ≤ c → Stepped B (action (push (value_of r v ∷ [])) ∷ is) (stepped w c (length (value_bytes (value_of r v))) 0)
  first_value c v low high =
      record_law B k (push (value_of r v ∷ [])) c (length (value_bytes (value_of r v))) 0 low (λ e. omega arith)
      (rw (le-ltb c 128 (omega arith), push_size (value_of r v ∷ []), one_value (value_of r v)) (omega arith))
      (rw (one_value (value_of r v)) (sym (and-true _)))
    where
      one_value : (v : Value) → length (join value_bytes (v ∷ [])) ≡ length (value_bytes v)
      one_value v = simp length-append (omega arith)

  -- what an entry adds, by its piece
  pub step_law : (p : Piece) → All Fine (added r p is) → Stepped B (added r p is) (stepped w (entry_of p).code (piece_data r p) (piece_body B p))
  unfolding piece_data word
  step_law (Piece.op o) h = op_law o
  step_law (Piece.ConstantPool n) h = record_law B k _ 0x88 (length (single_data (simple (Plain.ConstantPool (r.strings n))))) 0 (omega arith) (λ e. omega arith) (omega arith) (sym (and-true _))
  step_law (Piece.StoreRegister n) h = record_law B k _ 0x87 1 0 (omega arith) (λ e. omega arith) refl refl
  step_law (Piece.GotoFrame n) h = record_law B k _ 0x81 2 0 (omega arith) (λ e. omega arith) refl refl
  step_law (Piece.GotoFrame2 b) h = record_law B k _ 0x9F 1 0 (omega arith) (λ e. omega arith) refl refl
  step_law (Piece.GotoLabel s) h = record_law B k _ 0x8C (length (single_data (simple (Plain.GotoLabel (r.text s))))) 0 (omega arith) (λ e. omega arith) (omega arith) (sym (and-true _))
  step_law (Piece.branch Jump l) h = record_law B k _ 0x99 2 0 (omega arith) (λ e. omega arith) refl refl
  step_law (Piece.branch If l) h = record_law B k _ 0x9D 2 0 (omega arith) (λ e. omega arith) refl refl
  step_law (Piece.function n f) h =
      record_law B k _ 256 (length (data_of_header (r.header f) 0)) (B n) (omega arith) (λ e. omega arith) (let e = header_size (r.header f) (B n) in omega arith)
      (ap (λ (m : ℕ). leb m 65535 && leb (B n) 65535) (header_same (r.header f) (B n) 0))
  step_law (Piece.mark m) h = mark_law B k m 0 0
  step_law (value true Null) h = first_value 0x112 Null (omega arith) (omega arith)
  step_law (value true Undefined) h = first_value 0x113 Undefined (omega arith) (omega arith)
  step_law (value true (Boolean b)) h = first_value 0x115 (Boolean b) (omega arith) (omega arith)
  step_law (value true (String n)) h = first_value 0x110 (String n) (omega arith) (omega arith)
  step_law (value true (Register n)) h = first_value 0x114 (Register n) (omega arith) (omega arith)
  step_law (value true (Float n)) h = first_value 0x116 (Float n) (omega arith) (omega arith)
  step_law (value true (Integer n)) h = first_value 0x117 (Integer n) (omega arith) (omega arith)
  step_law (value true (Constant n)) h = first_value 0x118 (Constant n) (omega arith) (omega arith)
  step_law (value false Null) h = later_law B k (value_of r Null) 0x122 (length (value_bytes (value_of r Null))) 0 h l (omega arith) refl
  step_law (value false Undefined) h = later_law B k (value_of r Undefined) 0x123 (length (value_bytes (value_of r Undefined))) 0 h l (omega arith) refl
  step_law (value false (Boolean b)) h = later_law B k (value_of r (Boolean b)) 0x125 (length (value_bytes (value_of r (Boolean b)))) 0 h l (omega arith) refl
  step_law (value false (String n)) h = later_law B k (value_of r (String n)) 0x120 (length (value_bytes (value_of r (String n)))) 0 h l (omega arith) refl
  step_law (value false (Register n)) h = later_law B k (value_of r (Register n)) 0x124 (length (value_bytes (value_of r (Register n)))) 0 h l (omega arith) refl
  step_law (value false (Float n)) h = later_law B k (value_of r (Float n)) 0x126 (length (value_bytes (value_of r (Float n)))) 0 h l (omega arith) refl
  step_law (value false (Integer n)) h = later_law B k (value_of r (Integer n)) 0x127 (length (value_bytes (value_of r (Integer n)))) 0 h l (omega arith) refl
  step_law (value false (Constant n)) h = later_law B k (value_of r (Constant n)) 0x128 (length (value_bytes (value_of r (Constant n)))) 0 h l (omega arith) refl

-- tests

all_both : (xs ys : List Str) → all no_zero (xs ++ ys) ≡ (all no_zero xs && all no_zero ys)
all_both [] ys = refl
all_both (x ∷ xs) ys = rw (all_both xs ys) (sym (and_assoc (no_zero x) (all no_zero xs) (all no_zero ys)))

-- The library has no lemma of this shape: it speaks of this limit, and of what stays when a record grows.
longer : (m n : ℕ) (t : Bool) → m ≤ n → (leb m 65535 && t) ≡ false → (leb n 65535 && t) ≡ false
longer m n false h e = and-false (leb n 65535)
longer m n true h e = rw (lt-leb n 65535 (omega (arith, leb-false m 65535 (and_comm true (leb m 65535) ∙ e))))

short_action : (B : ℕ → ℕ) (a : Action) (is : List Item) → all_short B is ≡ false → all_short B (action a ∷ is) ≡ false
unfolding all_short
short_action B a is e = rw e (and-false (short_of B a))

later_adds : (v : Value) (is : List Item) → All Fine (extended v is) → length (actions (extended v is)) ≡ length (actions is) + 0
later_adds v is h = go is (later_pushes v is h)
  where
    go : (is : List Item) → Pushes is → length (actions (extended v is)) ≡ length (actions is) + 0
    go _ (pushes u us rest) = omega arith

-- actions, marks and strings of items with an entry more

pub data Grows : List ℕ → List ℕ → Type 0 where
  same : {xs : List ℕ} → Grows xs xs
  more : (xs : List ℕ) (m : ℕ) → Grows xs (xs ++ (m ∷ []))
  last : (xs : List ℕ) (m n : ℕ) → Grows (xs ++ (m ∷ [])) (xs ++ (n ∷ []))

module _ (r : References) where
  pub grows : (B : ℕ → ℕ) (p : Piece) (is : List Item) → All Fine (added r p is) → Grows (measures B is) (measures B (added r p is))
  unfolding measures
  grows B (Piece.op o) is h = more _ _
  grows B (Piece.ConstantPool n) is h = more _ _
  grows B (Piece.StoreRegister n) is h = more _ _
  grows B (Piece.GotoFrame n) is h = more _ _
  grows B (Piece.GotoFrame2 b) is h = more _ _
  grows B (Piece.GotoLabel s) is h = more _ _
  grows B (Piece.branch b l) is h = more _ _
  grows B (Piece.function n f) is h = more _ _
  grows B (Piece.mark l) is h = same
  grows B (value true v) is h = more _ _
  grows B (value false v) is h = go is (later_pushes (value_of r v) is h)
    where
      go : (is : List Item) → Pushes is → Grows (measures B is) (measures B (extended (value_of r v) is))
      go _ (pushes u us rest) = last (measures B rest) (length (single_bytes (pushing (u ∷ us)))) (length (single_bytes (pushing (u ∷ (us ++ (value_of r v ∷ []))))))

  -- a record that is too long stays so
  pub short_before : (B : ℕ → ℕ) (p : Piece) (is : List Item) → All Fine (added r p is) → all_short B is ≡ false → all_short B (added r p is) ≡ false
  unfolding all_short
  short_before B (Piece.op o) is h e = rw e
  short_before B (Piece.ConstantPool n) is h e = short_action B (plain (Plain.ConstantPool (r.strings n))) is e
  short_before B (Piece.StoreRegister n) is h e = short_action B (plain (Plain.StoreRegister n)) is e
  short_before B (Piece.GotoFrame n) is h e = short_action B (plain (Plain.GotoFrame n)) is e
  short_before B (Piece.GotoFrame2 b) is h e = short_action B (plain (Plain.GotoFrame2 b)) is e
  short_before B (Piece.GotoLabel s) is h e = short_action B (plain (Plain.GotoLabel (r.text s))) is e
  short_before B (Piece.branch b l) is h e = rw e
  short_before B (Piece.function n f) is h e = short_action B (define (r.header f) n) is e
  short_before B (Piece.mark l) is h e = e
  short_before B (value true v) is h e = short_action B (push (value_of r v ∷ [])) is e
  short_before B (value false v) is h e = go is (later_pushes (value_of r v) is h) e
    where
      go : (is : List Item) → Pushes is → all_short B is ≡ false → all_short B (extended (value_of r v) is) ≡ false
      go _ (pushes u us rest) e =
          longer (length (join value_bytes (u ∷ us))) (length (join value_bytes (u ∷ (us ++ (value_of r v ∷ []))))) (all_short B rest)
          (let z = join_last (u ∷ us) (value_of r v) in omega arith) e

  pub adds_law : (p : Piece) (is : List Item) → All Fine (added r p is) → length (actions (added r p is)) ≡ length (actions is) + adds (entry_of p).code
  adds_law (Piece.op o) is h = let q = op_says (row_of o).code (op_code o) in
      rw (ne_eqb (row_of o).code 257 (λ e. omega (arith, q.small)), lt-ltb (row_of o).code 0x120 (omega (arith, q.small))) (omega arith)
  adds_law (Piece.ConstantPool n) is h = omega arith
  adds_law (Piece.StoreRegister n) is h = omega arith
  adds_law (Piece.GotoFrame n) is h = omega arith
  adds_law (Piece.GotoFrame2 b) is h = omega arith
  adds_law (Piece.GotoLabel s) is h = omega arith
  adds_law (Piece.branch Jump l) is h = omega arith
  adds_law (Piece.branch If l) is h = omega arith
  adds_law (Piece.function n f) is h = omega arith
  adds_law (Piece.mark l) is h = omega arith
  adds_law (value true Null) is h = omega arith
  adds_law (value true Undefined) is h = omega arith
  adds_law (value true (Boolean b)) is h = omega arith
  adds_law (value true (String n)) is h = omega arith
  adds_law (value true (Register n)) is h = omega arith
  adds_law (value true (Float n)) is h = omega arith
  adds_law (value true (Integer n)) is h = omega arith
  adds_law (value true (Constant n)) is h = omega arith
  adds_law (value false Null) is h = later_adds (value_of r Null) is h
  adds_law (value false Undefined) is h = later_adds (value_of r Undefined) is h
  adds_law (value false (Boolean b)) is h = later_adds (value_of r (Boolean b)) is h
  adds_law (value false (String n)) is h = later_adds (value_of r (String n)) is h
  adds_law (value false (Register n)) is h = later_adds (value_of r (Register n)) is h
  adds_law (value false (Float n)) is h = later_adds (value_of r (Float n)) is h
  adds_law (value false (Integer n)) is h = later_adds (value_of r (Integer n)) is h
  adds_law (value false (Constant n)) is h = later_adds (value_of r (Constant n)) is h

  -- only a mark marks
  pub data Marks (is : List Item) : (code first : ℕ) → List Item → Type 0 where
    marks : (l : ℕ) → Marks is 257 l (mark l ∷ is)
    other : {c a : ℕ} {js : List Item} → eqb c 257 ≡ false → ((l : ℕ) → spots l js ≡ spots l is) → Marks is c a js

  later_spots : (v : Value) (is : List Item) → All Fine (extended v is) → (l : ℕ) → spots l (extended v is) ≡ spots l is
  unfolding spots
  later_spots v is h l = go is (later_pushes v is h)
    where
      go : (is : List Item) → Pushes is → spots l (extended v is) ≡ spots l is
      go _ (pushes u us rest) = refl

  pub marks_law : (p : Piece) (is : List Item) → All Fine (added r p is) → Marks is (entry_of p).code (entry_of p).first (added r p is)
  unfolding spots
  marks_law (Piece.op o) is h = let q = op_says (row_of o).code (op_code o) in other (ne_eqb (row_of o).code 257 (λ e. omega (arith, q.small))) (λ l. refl)
  marks_law (Piece.ConstantPool n) is h = other refl (λ l. refl)
  marks_law (Piece.StoreRegister n) is h = other refl (λ l. refl)
  marks_law (Piece.GotoFrame n) is h = other refl (λ l. refl)
  marks_law (Piece.GotoFrame2 b) is h = other refl (λ l. refl)
  marks_law (Piece.GotoLabel s) is h = other refl (λ l. refl)
  marks_law (Piece.branch Jump m) is h = other refl (λ l. refl)
  marks_law (Piece.branch If m) is h = other refl (λ l. refl)
  marks_law (Piece.function n f) is h = other refl (λ l. refl)
  marks_law (Piece.mark l) is h = marks l
  marks_law (value true Null) is h = other refl (λ l. refl)
  marks_law (value true Undefined) is h = other refl (λ l. refl)
  marks_law (value true (Boolean b)) is h = other refl (λ l. refl)
  marks_law (value true (String n)) is h = other refl (λ l. refl)
  marks_law (value true (Register n)) is h = other refl (λ l. refl)
  marks_law (value true (Float n)) is h = other refl (λ l. refl)
  marks_law (value true (Integer n)) is h = other refl (λ l. refl)
  marks_law (value true (Constant n)) is h = other refl (λ l. refl)
  marks_law (value false Null) is h = other refl (later_spots (value_of r Null) is h)
  marks_law (value false Undefined) is h = other refl (later_spots (value_of r Undefined) is h)
  marks_law (value false (Boolean b)) is h = other refl (later_spots (value_of r (Boolean b)) is h)
  marks_law (value false (String n)) is h = other refl (later_spots (value_of r (String n)) is h)
  marks_law (value false (Register n)) is h = other refl (later_spots (value_of r (Register n)) is h)
  marks_law (value false (Float n)) is h = other refl (later_spots (value_of r (Float n)) is h)
  marks_law (value false (Integer n)) is h = other refl (later_spots (value_of r (Integer n)) is h)
  marks_law (value false (Constant n)) is h = other refl (later_spots (value_of r (Constant n)) is h)

  -- the strings of an entry
  values_last : (us : List Value) (v : Value) → all no_zero (values_strings (us ++ (v ∷ []))) ≡ (all no_zero (values_strings us) && all no_zero (value_strings v))
  values_last [] v = all_both (value_strings v) [] ∙ and_comm (all no_zero (value_strings v)) true
  values_last (u ∷ us) v =
      all_both (value_strings u) (values_strings (us ++ (v ∷ []))) ∙ rw (values_last us v, all_both (value_strings u) (values_strings us))
      (sym (and_assoc (all no_zero (value_strings u)) (all no_zero (values_strings us)) (all no_zero (value_strings v))))

  pub clear_law : (p : Piece) (is : List Item) → All Fine (added r p is) → all_clear (added r p is) ≡ (piece_clear r p && all_clear is)
  unfolding all_clear piece_clear
  clear_law (Piece.op o) is h = refl
  clear_law (Piece.ConstantPool n) is h = refl
  clear_law (Piece.StoreRegister n) is h = refl
  clear_law (Piece.GotoFrame n) is h = refl
  clear_law (Piece.GotoFrame2 b) is h = refl
  clear_law (Piece.GotoLabel s) is h = refl
  clear_law (Piece.branch b l) is h = refl
  clear_law (Piece.function n f) is h = refl
  clear_law (Piece.mark l) is h = refl
  clear_law (value true v) is h = rw (all_both (value_strings (value_of r v)) [], and_comm (all no_zero (value_strings (value_of r v))) true)
  clear_law (value false v) is h = go is (later_pushes (value_of r v) is h)
    where
      go : (is : List Item) → Pushes is → all_clear (extended (value_of r v) is) ≡ (all no_zero (value_strings (value_of r v)) && all_clear is)
      go _ (pushes u us rest) =
          ap (λ (b : Bool). b && all_clear rest) (values_last (u ∷ us) (value_of r v) ∙ and_comm (all no_zero (values_strings (u ∷ us))) (all no_zero (value_strings (value_of r v))))
          ∙ and_assoc (all no_zero (value_strings (value_of r v))) (all no_zero (values_strings (u ∷ us))) (all_clear rest)
