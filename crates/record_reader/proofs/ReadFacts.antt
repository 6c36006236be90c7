-- What is read: strings without zero bytes, and operands in their ranges.
use Prim.Native.Nat.{ℕ, zero, suc, ◌^◌, ◌<◌}
use mathlib.Core.Path.{◌≡◌, refl, ap, sym, ◌∙◌, subst}
use mathlib.Core.List.{List, [], ◌∷◌, ◌++◌, map, append_assoc}
use mathlib.Core.Bool.{Bool, true, false}
use mathlib.Core.Option.{Option, none, some}
use native.Mathlib.Omega.{arith}
use lib.Dec.{T, leb, lt→ltb}
use lib.ListN.{length}
use Rattle.hir.specs.Hir.{Str}
use Rattle.pcode.specs.declared.Op.{Op}
use Rattle.pcode.specs.Pcode as pcode
use Rattle.action_format.specs.Lists.{all, single, simple, pushing, branching}
use Rattle.action_format.specs.Strings.{value_strings, values_strings, header_strings, strings, no_zero}
use Rattle.action_format.specs.Rules.{value_fits, plain_fits}
use Rattle.action_format.specs.Bytes.{Bytes, stored}
use Rattle.action_format.specs.Readers.{P, bind, ◌>>=◌, pure, read_string, read_many, read_more, read_all}
use Rattle.action_format.specs.Decode.{Record, alone, header, truth, value_readers, read_value, in_record, op_reader, op_readers, data_readers, read_pool, read_push, read_branch, read_function, read_function2, read_param, read_record}
use Rattle.action_format.proofs.Tests.{All, never, some_of, and_both, and_first, and_second}
use Rattle.action_format.proofs.Readers.{Split, Reads, reads_pure, reads_if, reads_weaker, reads_bind, reads_byte, reads_word, reads_bytes, reads_inside, ◌also◌, RowReads, reads_dispatch}
use Rattle.action_format.proofs.Values.{reads_flag}

-- the strings of a record
abbrev pub record_strings : Record → List Str
record_strings (alone a) = strings (single a)
record_strings (header h size) = header_strings h

-- x is kept, whatever its bytes
abbrev Kept : {A : Type 0} → (A → Type 0) → P A → Type 0
Kept Q p = Reads p (λ x w. Q x)

kept_string : Kept (λ s. T (no_zero s)) read_string
unfolding read_string
kept_string = record { run = go }
  where
    more : (b : ℕ) (t : Bytes) (x : Str) (r : Bytes) (o : Option (Str × Bytes)) → ((y : Str) → o ≡ some (y, r) → Split (λ s w. T (no_zero s)) t y r) →
        bind o (λ s. pure (suc b ∷ s)) ≡ some (x, r) → Split (λ s w. T (no_zero s)) (suc b ∷ t) x r
    more b t x r none h e = never (x, r) e
    more b t x r (some y) h e =
        let p : ◌≡◌ {A = Str × Bytes} (suc b ∷ y.0, y.1) (x, r) = some_of e in
        let k = h y.0 (ap (λ (z : Bytes). some (y.0, z)) (ap (λ (z : Str × Bytes). z.1) p)) in
        record { own = suc b ∷ k.own; is = ap (λ (z : Bytes). suc b ∷ z) k.is; fact = subst (λ (z : Str × Bytes). T (no_zero z.0)) p k.fact }

    go : (b : Bytes) (x : Str) (r : Bytes) → read_string b ≡ some (x, r) → Split (λ s w. T (no_zero s)) b x r
    go [] x r e = never (x, r) e
    go (zero ∷ t) x r e =
        let p : ◌≡◌ {A = Str × Bytes} ([], t) (x, r) = some_of e in
        record { own = 0 ∷ []; is = ap (λ (z : Str × Bytes). 0 ∷ z.1) p; fact = subst (λ (z : Str × Bytes). T (no_zero z.0)) p tt }
    go (suc b ∷ t) x r e = more b t x r (read_string t) (λ y q. go t y r q) e

kept_many : {A : Type 0} {p : P A} (f : A → Bool) → Kept (λ x. T (f x)) p → (n : ℕ) → Kept (λ xs. T (all f xs)) (read_many p n)
kept_many f h zero = reads_pure tt
kept_many f h (suc n) = reads_bind h (λ x u hx. reads_bind (kept_many f h n) (λ xs v hxs. reads_pure (and_both (f x) (all f xs) hx hxs)))

record Good (v : pcode.Value) : Type 0 where
  clean : T (all no_zero (value_strings v))
  fits : T (value_fits 65536 v)

good_string : (s : Str) → T (no_zero s) → Good (pcode.String s)
good_string s h = record { clean = and_both (no_zero s) true h tt; fits = tt }

good_truth : (t : Bool) → Good (truth t)
good_truth true = record { clean = tt; fits = tt }
good_truth false = record { clean = tt; fits = tt }

good_float : (v : ℕ) → v < 256 ^ 8 → Good (pcode.Float (stored v))
unfolding stored
good_float v h = record { clean = tt; fits = lt→ltb v (2 ^ 64) h }

kept_value : Kept Good read_value
unfolding read_value
kept_value = reads_bind reads_byte (λ c u hu. reads_dispatch (λ v w. Good v) value_readers rows c)
  where
    rows : All (RowReads (λ v w. Good v)) value_readers
    rows =
        reads_bind kept_string (λ s u h. reads_pure (good_string s h)) also
        reads_pure (record { clean = tt; fits = tt }) also
        reads_pure (record { clean = tt; fits = tt }) also
        reads_bind reads_byte (λ n u h. reads_pure (record { clean = tt; fits = lt→ltb n 256 h.1 })) also
        reads_bind reads_flag (λ p u h. reads_pure (good_truth p)) also
        reads_bind (reads_word 8) (λ v u h. reads_pure (good_float v h.1)) also
        reads_bind (reads_word 4) (λ v u h. reads_pure (record { clean = tt; fits = lt→ltb v (2 ^ 32) h.1 })) also
        reads_bind reads_byte (λ i u h. reads_pure (record { clean = tt; fits = lt→ltb i 65536 (omega (arith, h.1)) })) also
        reads_bind (reads_word 2) (λ i u h. reads_if (leb 256 i) (pcode.Constant i) (λ t. record { clean = tt; fits = lt→ltb i 65536 h.1 })) also
        tt

pub value_fits_read : (s : Bytes) (v : pcode.Value) (r : Bytes) → read_value s ≡ some (v, r) → T (value_fits 65536 v)
value_fits_read s v r e = (kept_value.run s v r e).fact.fits

append_clean : (xs ys : List Str) → T (all no_zero xs) → T (all no_zero ys) → T (all no_zero (xs ++ ys))
append_clean [] ys h k = k
append_clean (x ∷ xs) ys h k = and_both (no_zero x) (all no_zero (xs ++ ys)) (and_first (no_zero x) (all no_zero xs) h) (append_clean xs ys (and_second (no_zero x) (all no_zero xs) h) k)

kept_all : (n : ℕ) → Kept (λ vs. T (all no_zero (values_strings vs))) (read_all read_value n)
kept_all zero = reads_pure tt
kept_all (suc n) = record { run = λ b xs r e. go b xs r (read_value b) refl (kept_all n) e }
  where
    go : (b : Bytes) (xs : List pcode.Value) (r : Bytes) (o : Option (pcode.Value × Bytes)) → read_value b ≡ o →
        Kept (λ vs. T (all no_zero (values_strings vs))) (read_all read_value n) → read_more (read_all read_value n) o b ≡ some (xs, r) → Split (λ vs w. T (all no_zero (values_strings vs))) b xs r
    go b xs r none q k e =
        let t : ◌≡◌ {A = List pcode.Value × Bytes} ([], b) (xs, r) = some_of e in
        record { own = []; is = ap (λ (z : List pcode.Value × Bytes). z.1) t; fact = subst (λ (z : List pcode.Value × Bytes). T (all no_zero (values_strings z.0))) t tt }
    go b xs r (some x) q k e =
        let s = kept_value.run b x.0 x.1 q in
        let rest : Kept (λ vs. T (all no_zero (values_strings vs))) (read_all read_value n >>= λ ys. pure (x.0 ∷ ys)) =
        reads_bind k (λ ys v hv. reads_pure (append_clean (value_strings x.0) (values_strings ys) s.fact.clean hv)) in
        let t = rest.run x.1 xs r e in
        record { own = s.own ++ t.own; is = s.is ∙ ap (λ (z : Bytes). s.own ++ z) t.is ∙ sym (append_assoc s.own t.own r); fact = t.fact }

-- records

abbrev operands_fit : Record → Bool
operands_fit (alone (simple a)) = plain_fits a
operands_fit (alone (pushing vs)) = true
operands_fit (alone (branching b o)) = true
operands_fit (header h size) = true

record Sound (x : Record) : Type 0 where
  clean : T (all no_zero (record_strings x))
  fits : T (operands_fit x)

kept_in : {p : P Record} → Kept Sound p → Kept Sound (in_record p)
kept_in h = reads_bind (reads_word 2) (λ n u hu. reads_bind (reads_bytes n) (λ d v hv. reads_weaker (λ x w k. k.1) (reads_inside h d)))

kept_push : Kept Sound read_push
kept_push = record { run = λ d. (row d).run d }
  where
    row : (d : Bytes) → Kept Sound (read_all read_value (length d) >>= λ vs. pure (alone (pushing vs)))
    row d = reads_bind (kept_all (length d)) (λ vs u h. reads_pure (record { clean = h; fits = tt }))

kept_pool : Kept Sound read_pool
kept_pool = reads_bind (reads_word 2) (λ n u hu. reads_bind (kept_many no_zero kept_string n) (λ ss v h. reads_pure (record { clean = h; fits = tt })))

kept_branch : (b : pcode.Branching) → Kept Sound (read_branch b)
kept_branch b = reads_bind (reads_word 2) (λ o u h. reads_pure (record { clean = tt; fits = tt }))

kept_function : Kept Sound read_function
kept_function =
    reads_bind kept_string (λ n u hn. reads_bind (reads_word 2) (λ k v hk. reads_bind (kept_many no_zero kept_string k) (λ ps w hps. reads_bind (reads_word 2) (λ size z hz.
    reads_pure (record { clean = and_both (no_zero n) (all no_zero ps) hn hps; fits = tt })))))

kept_param : Kept (λ p. T (no_zero p.name)) read_param
kept_param = reads_bind reads_byte (λ r u hu. reads_bind kept_string (λ n v hv. reads_pure hv))

names_clean : (ps : List pcode.Param) → T (all (λ (p : pcode.Param). no_zero p.name) ps) → T (all no_zero (map (λ (p : pcode.Param). p.name) ps))
names_clean [] h = tt
names_clean (p ∷ ps) h =
    let f : pcode.Param → Bool = λ p. no_zero p.name in
    and_both (f p) (all no_zero (map (λ (p : pcode.Param). p.name) ps)) (and_first (f p) (all f ps) h) (names_clean ps (and_second (f p) (all f ps) h))

kept_function2 : Kept Sound read_function2
kept_function2 =
    reads_bind kept_string (λ n u hn. reads_bind (reads_word 2) (λ k v hk. reads_bind reads_byte (λ r a ha. reads_bind (reads_word 2) (λ m c hm.
    reads_bind (kept_many (λ (p : pcode.Param). no_zero p.name) kept_param k) (λ ps w hps. reads_bind (reads_word 2) (λ size z hz.
    reads_pure (record { clean = and_both (no_zero n) (all no_zero (map (λ (p : pcode.Param). p.name) ps)) hn (names_clean ps hps); fits = tt })))))))

abbrev Row : ℕ × P Record → Type 0
Row = RowReads (λ x w. Sound x)

op_rows : (os : List Op) → All Row (op_readers os)
op_rows [] = tt
op_rows (o ∷ os) = (go (leb 0x80 (pcode.row_of o).code), op_rows os)
  where
    go : (t : Bool) → Kept Sound (op_reader o t)
    go false = reads_pure (record { clean = tt; fits = tt })
    go true = kept_in (reads_pure (record { clean = tt; fits = tt }))

data_rows : All Row data_readers
data_rows =
    kept_in (reads_bind (reads_word 2) (λ n u h. reads_pure (record { clean = tt; fits = lt→ltb n 65536 h.1 }))) also
    kept_in (reads_bind reads_byte (λ n u h. reads_pure (record { clean = tt; fits = lt→ltb n 256 h.1 }))) also
    kept_in kept_pool also
    kept_in (reads_bind kept_string (λ s u h. reads_pure (record { clean = and_both (no_zero s) true h tt; fits = tt }))) also
    kept_in kept_function2 also
    kept_in kept_push also
    kept_in (kept_branch pcode.Jump) also
    kept_in kept_function also
    kept_in (kept_branch pcode.If) also
    kept_in (reads_bind reads_flag (λ p u h. reads_pure (record { clean = tt; fits = tt }))) also
    tt

both_rows : (xs ys : List (ℕ × P Record)) → All Row xs → All Row ys → All Row (xs ++ ys)
both_rows [] ys h k = k
both_rows (x ∷ xs) ys h k = (h.0, both_rows xs ys h.1 k)

kept_record : Kept Sound read_record
unfolding read_record
kept_record = reads_bind reads_byte (λ c u hu.
    reads_dispatch (λ x w. Sound x) (op_readers pcode.all_ops ++ data_readers) (both_rows (op_readers pcode.all_ops) data_readers (op_rows pcode.all_ops) data_rows) c)

pub record_no_zeros : (s : Bytes) (x : Record) (r : Bytes) → read_record s ≡ some (x, r) → T (all no_zero (record_strings x))
record_no_zeros s x r e = (kept_record.run s x r e).fact.clean

pub plain_fits_read : (s : Bytes) (a : pcode.Plain) (r : Bytes) → read_record s ≡ some (alone (simple a), r) → T (plain_fits a)
plain_fits_read s a r e = (kept_record.run s (alone (simple a)) r e).fact.fits
