-- What a walk over records needs to know of each.
use Prim.Native.Nat.{ℕ, zero, suc, ◌+◌, ◌-◌, ◌^◌, ◌≤◌, ◌<◌}
use mathlib.Core.Path.{◌≡◌, refl, ap, sym, ◌∙◌, subst}
use mathlib.Core.List.{List, [], ◌∷◌, ◌++◌, append_assoc}
use mathlib.Core.Bool.{Bool, true, false}
use mathlib.Core.Option.{Option, none, some}
use native.Mathlib.Omega.{arith}
use lib.Dec.{T, leb, leb→le, ltb→lt, lit<}
use lib.ListN.{length, take, drop, length-drop}
use lib.Seq.{drop-drop, take_at, length-take-le}
use Rattle.pcode.specs.Pcode as pcode
use Rattle.action_format.specs.Lists.{simple, pushing}
use Rattle.action_format.specs.Rules.{value_fits, plain_fits}
use Rattle.action_format.specs.Bytes.{Bytes, word, framed, join, value_bytes, single_bytes}
use Rattle.action_format.specs.Readers.{bind, pure, read_all, read_more, read_inside, spent}
use Rattle.action_format.specs.Decode.{Record, alone, in_record, read_value, read_push, read_record}
use Rattle.action_format.proofs.Tests.{never, some_of}
use Rattle.action_format.proofs.Readers.{word_law, bytes_law}
use Rattle.action_format.proofs.Values.{value_fills, reads_value}
use Rattle.action_format.proofs.Bodies.{record_fills}
use Rattle.action_format.proofs.Records.{record_code, record_bytes, record_data, Operands, reads_one}
use Rattle.list_slice.specs.Entry as entries
use Rattle.list_slice.specs.Items.{pushed_of, plain_piece}
use Rattle.list_slice.specs.Read.{chosen_at}
use Rattle.record_reader.specs.Shape.{short_ops, is_short, data_reader}
use Rattle.record_reader.proofs.Tables.{long_record}
use Rattle.record_reader.proofs.ReadFacts.{value_fits_read, plain_fits_read}
use Rattle.record_reader.proofs.Rests.{rest_of}
use Rattle.std.proofs.lemmas.List.{drop-take}

-- the record x at p, and what follows it

pub record RecordAt (b : Bytes) (p : ℕ) (x : Record) (r : Bytes) : Type 0 where
  pub written : drop p b ≡ record_bytes x ++ r
  pub next : length b - length r ≡ p + length (record_bytes x)
  pub rest : r ≡ drop (p + length (record_bytes x)) b
  pub inside : p + length (record_bytes x) ≤ length b
  pub later : p < p + length (record_bytes x)
  pub short : length (record_bytes x) ≤ 65538
  pub short_data : T (leb (length (record_data x)) 65535)
  pub operands : Operands x

pub record_short : (x : Record) → T (leb (length (record_data x)) 65535) → length (record_bytes x) ≤ 65538
unfolding word
record_short x h = go (leb 0x80 (record_code x))
  where
    l : length (record_data x) ≤ 65535
    l = leb→le (length (record_data x)) 65535 h

    go : (t : Bool) → length (framed (record_code x) (record_data x) t) ≤ 65538
    go true = omega (arith, l)
    go false = omega arith

pub record_at : {b : Bytes} {p : ℕ} (x : Record) (r : Bytes) → p ≤ length b → read_record (drop p b) ≡ some (x, r) → RecordAt b p x r
record_at {b} {p} x r h e =
    let s = reads_one.run (drop p b) x r e in
    let w : drop p b ≡ record_bytes x ++ r = s.is ∙ ap (λ (z : Bytes). z ++ r) s.fact.bytes_are in
    let k = rest_of b (record_bytes x) r p h w in
    record { written = w; next = k.next; rest = k.is; inside = k.inside; later = omega (arith, record_fills x); short = record_short x s.fact.short_data; short_data = s.fact.short_data; operands = s.fact.operands }

-- the value v at i, and the values from i to the end

pub record ValueAt (d : Bytes) (i : ℕ) (v : pcode.Value) : Type 0 where
  pub is : read_value (drop i d) ≡ some (v, drop (i + length (value_bytes v)) d)
  pub next : length d - length (drop (i + length (value_bytes v)) d) ≡ i + length (value_bytes v)
  pub inside : i + length (value_bytes v) ≤ length d
  pub later : i < i + length (value_bytes v)

pub value_at_lem : {d : Bytes} {i : ℕ} (v : pcode.Value) (r : Bytes) → i ≤ length d → read_value (drop i d) ≡ some (v, r) → ValueAt d i v
value_at_lem {d} {i} v r h e =
    let s = reads_value.run (drop i d) v r e in
    let k = rest_of d (value_bytes v) r i h (s.is ∙ ap (λ (z : Bytes). z ++ r) s.fact) in
    record { is = e ∙ ap (λ (z : Bytes). some (v, z)) k.is; next = rw (← k.is) k.next; inside = k.inside; later = omega (arith, value_fills v) }

abbrev pub ValuesAt : Bytes → ℕ → List pcode.Value → Type 0
ValuesAt d i [] = i ≡ length d
ValuesAt d i (v ∷ vs) = ValueAt d i v × ValuesAt d (i + length (value_bytes v)) vs

at_end : (d : Bytes) (i : ℕ) → i ≤ length d → drop i d ≡ [] → i ≡ length d
at_end d i h e = let l : length d - i ≡ 0 = sym (length-drop i d) ∙ ap length e in omega arith

pub values_at : (d : Bytes) (n i : ℕ) (vs : List pcode.Value) → i ≤ length d → read_all read_value n (drop i d) ≡ some (vs, []) → ValuesAt d i vs
values_at d zero i vs h e =
    let s : ◌≡◌ {A = List pcode.Value × Bytes} ([], drop i d) (vs, []) = some_of e in
    subst (ValuesAt d i) (ap (λ (z : List pcode.Value × Bytes). z.0) s) (at_end d i h (ap (λ (z : List pcode.Value × Bytes). z.1) s))
values_at d (suc n) i vs h e = go (read_value (drop i d)) refl e (λ j xs. values_at d n j xs)
  where
    more : (v : pcode.Value) (r : Bytes) (o : Option (List pcode.Value × Bytes)) → ((xs : List pcode.Value) → o ≡ some (xs, []) → ValuesAt d (i + length (value_bytes v)) xs) →
        ValueAt d i v → bind o (λ xs. pure (v ∷ xs)) ≡ some (vs, []) → ValuesAt d i vs
    more v r none k w e = never (vs, []) e
    more v r (some x) k w e =
        let s : ◌≡◌ {A = List pcode.Value × Bytes} (v ∷ x.0, x.1) (vs, []) = some_of e in
        subst (ValuesAt d i) (ap (λ (z : List pcode.Value × Bytes). z.0) s) (w, k x.0 (ap (λ (z : Bytes). some (x.0, z)) (ap (λ (z : List pcode.Value × Bytes). z.1) s)))

    go : (o : Option (pcode.Value × Bytes)) → read_value (drop i d) ≡ o → read_more (read_all read_value n) o (drop i d) ≡ some (vs, []) →
        ((j : ℕ) (xs : List pcode.Value) → j ≤ length d → read_all read_value n (drop j d) ≡ some (xs, []) → ValuesAt d j xs) → ValuesAt d i vs
    go none q e k =
        let s : ◌≡◌ {A = List pcode.Value × Bytes} ([], drop i d) (vs, []) = some_of e in
        subst (ValuesAt d i) (ap (λ (z : List pcode.Value × Bytes). z.0) s) (at_end d i h (ap (λ (z : List pcode.Value × Bytes). z.1) s))
    go (some x) q e k =
        let w = value_at_lem x.0 x.1 h q in
        let j : ℕ = i + length (value_bytes x.0) in
        let r : x.1 ≡ drop j d = ap (λ (z : pcode.Value × Bytes). z.1) (some_of (sym q ∙ w.is)) in
        more x.0 x.1 (read_all read_value n x.1) (λ xs f. k j xs w.inside (rw r at f)) w e

-- a Push's values stand in its data

same_values : (vs ws : List pcode.Value) → alone (pushing vs) ≡ alone (pushing ws) → vs ≡ ws
same_values vs ws e = cc

all_read : (vs : List pcode.Value) (d r : Bytes) → read_inside read_push d r ≡ some (alone (pushing vs), r) → read_all read_value (length d) d ≡ some (vs, [])
all_read vs d r e = go (read_all read_value (length d) d) e
  where
    end_of : (ws : List pcode.Value) (left : Bytes) → spent (alone (pushing ws)) left r ≡ some (alone (pushing vs), r) → ◌≡◌ {A = Option (List pcode.Value × Bytes)} (some (ws, left)) (some (vs, []))
    end_of ws [] e = let f : ws ≡ vs = same_values ws vs (ap (λ (z : Record × Bytes). z.0) (some_of e)) in rw f
    end_of ws (x ∷ left) e = never (alone (pushing vs), r) e

    go : (o : Option (List pcode.Value × Bytes)) → bind (bind o (λ vs. pure (alone (pushing vs)))) (λ a left. spent a left r) ≡ some (alone (pushing vs), r) → o ≡ some (vs, [])
    go none e = never (alone (pushing vs), r) e
    go (some x) e = end_of x.0 x.1 e

push_is_long : is_short 0x96 ≡ false
unfolding is_short short_ops
push_is_long = refl

module _ {b : Bytes} {p : ℕ} (vs : List pcode.Value) (r : Bytes) (k : RecordAt b p (alone (pushing vs)) r) where
  abbrev contents : Bytes
  contents = join value_bytes vs

  pub push_data : drop (p + 3) (take (p + length (single_bytes (pushing vs))) b) ≡ join value_bytes vs
  unfolding word
  push_data =
      let n : p + length (single_bytes (pushing vs)) ≡ p + 3 + length contents = omega arith in
      let q : p + 3 ≤ length b = omega (arith, k.inside) in
      rw (n, drop-take (p + 3) (length contents) b, ← (drop-drop 3 p b), k.written) (take_at contents r (length contents) refl)

  read_in : read_record (drop p b) ≡ some (alone (pushing vs), r) → read_inside read_push contents r ≡ some (alone (pushing vs), r)
  unfolding data_reader
  read_in e =
      let l : length contents < 65536 = omega (arith, leb→le (length contents) 65535 k.short_data) in
      let f : read_record (0x96 ∷ ((word 2 (length contents) ++ contents) ++ r)) ≡ some (alone (pushing vs), r) = rw k.written at e in
      let g : in_record read_push ((word 2 (length contents) ++ contents) ++ r) ≡ some (alone (pushing vs), r) =
      sym (long_record 0x96 ((word 2 (length contents) ++ contents) ++ r) (lit< tt) push_is_long) ∙ f in
      rw (append_assoc (word 2 (length contents)) contents r, word_law 2 (length contents) (contents ++ r) l, bytes_law contents r) at g

  long_enough : p + 3 ≤ p + length (single_bytes (pushing vs))
  unfolding word
  long_enough = omega arith

  pub push_values : read_record (drop p b) ≡ some (alone (pushing vs), r) → ValuesAt (take (p + length (single_bytes (pushing vs))) b) (p + 3) vs
  push_values e =
      let far : p + 3 ≤ length (take (p + length (single_bytes (pushing vs))) b) = rw (length-take-le (p + length (single_bytes (pushing vs))) b k.inside) long_enough in
      values_at (take (p + length (single_bytes (pushing vs))) b) (length contents) (p + 3) vs far (rw push_data (all_read vs contents r (read_in e)))

-- an entry's code has its base

pub value_base : (n : ℕ) (v : entries.Pushed) →
    entries.value_entry n v ≡ entries.entry (n + (entries.value_entry 0 v).code) (entries.value_entry 0 v).first (entries.value_entry 0 v).second
value_base n (entries.String r) = refl
value_base n entries.Null = refl
value_base n entries.Undefined = refl
value_base n (entries.Register r) = refl
value_base n (entries.Boolean t) = refl
value_base n (entries.Float v) = refl
value_base n (entries.Integer v) = refl
value_base n (entries.Constant i) = refl

-- words of entries that keep the rules are small

pub value_code : (v : entries.Pushed) → (entries.value_entry 0 v).code ≤ 8
value_code (entries.String r) = omega arith
value_code entries.Null = omega arith
value_code entries.Undefined = omega arith
value_code (entries.Register r) = omega arith
value_code (entries.Boolean t) = omega arith
value_code (entries.Float v) = omega arith
value_code (entries.Integer v) = omega arith
value_code (entries.Constant i) = omega arith

pub value_first : (pool p : ℕ) (v : pcode.Value) → pool ≤ 2 ^ 32 → p + 1 < 2 ^ 32 → T (value_fits pool v) → (entries.value_entry 0 (pushed_of (λ s. p + 1) v)).first < 2 ^ 32
value_first pool p (pcode.String s) h k t = k
value_first pool p pcode.Null h k t = omega arith
value_first pool p pcode.Undefined h k t = omega arith
value_first pool p pcode.True h k t = omega arith
value_first pool p pcode.False h k t = omega arith
value_first pool p (pcode.Integer v) h k t = ltb→lt v (2 ^ 32) t
value_first pool p (pcode.Float v) h k t = omega arith
value_first pool p (pcode.Register r) h k t = omega (arith, ltb→lt r 256 t)
value_first pool p (pcode.Constant i) h k t = omega (arith, ltb→lt i pool t)

pub plain_first : (p : ℕ) (a : pcode.Plain) → p + 3 < 2 ^ 32 → T (plain_fits a) → (entries.entry_of (plain_piece (chosen_at p) a)).first < 2 ^ 32
plain_first p (pcode.op o) h t = omega arith
plain_first p (pcode.ConstantPool ss) h t = omega arith
plain_first p (pcode.StoreRegister r) h t = omega (arith, ltb→lt r 256 t)
plain_first p (pcode.GotoFrame n) h t = omega (arith, ltb→lt n 65536 t)
plain_first p (pcode.GotoFrame2 true) h t = omega arith
plain_first p (pcode.GotoFrame2 false) h t = omega arith
plain_first p (pcode.GotoLabel s) h t = h

-- and so are those of all that is read

pub value_small : (b : Bytes) (p : ℕ) (v : pcode.Value) (r : Bytes) → read_value (drop p b) ≡ some (v, r) → p < 4294967295 → (entries.value_entry 0 (pushed_of (λ s. p + 1) v)).first < 4294967296
value_small b p v r e h = value_first 65536 p v (omega arith) (omega arith) (value_fits_read (drop p b) v r e)

pub plain_small : (b : Bytes) (p : ℕ) (a : pcode.Plain) (r : Bytes) → read_record (drop p b) ≡ some (alone (simple a), r) → p + 3 < 4294967296 →
    (entries.entry_of (plain_piece (chosen_at p) a)).first < 4294967296
plain_small b p a r e h = plain_first p a h (plain_fits_read (drop p b) a r e)

-- a Push's values, up to what is left after it
pub push_reads : (b : Bytes) (p : ℕ) (vs : List pcode.Value) (r : Bytes) → p ≤ length b → read_record (drop p b) ≡ some (alone (pushing vs), r) →
    ValuesAt (take (length b - length r) b) (p + 3) vs
push_reads b p vs r h e = let k = record_at (alone (pushing vs)) r h e in rw k.next (push_values vs r k e)
