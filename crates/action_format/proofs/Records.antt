-- Records, written and read.
use Prim.Native.Nat.{ℕ, ◌<◌, ◌≤◌}
use mathlib.Core.Path.{◌≡◌, refl, ◌∙◌}
use mathlib.Core.List.{List, [], ◌∷◌, ◌++◌, append_assoc, append-nil, map}
use mathlib.Core.Option.{some}
use mathlib.Core.Bool.{Bool, true, false, ◌&&◌}
use native.Mathlib.Omega.{arith}
use lib.Dec.{T, leb, ltb, lit<, ltb→lt, le→leb}
use lib.ListN.{length, length-append}
use Rattle.hir.specs.Hir.{Str}
use Rattle.pcode.specs.declared.Op.{Op}
use Rattle.pcode.specs.Pcode.{Param, Header, Branching, DefineFunction, DefineFunction2, Jump, If, op, ConstantPool, StoreRegister, GotoFrame, GotoFrame2, GotoLabel, row_of, all_ops}
use Rattle.action_format.specs.Lists.{all, Single, simple, pushing, branching}
use Rattle.action_format.specs.Strings.{plain_strings, header_strings, no_zero}
use Rattle.action_format.specs.Rules.{plain_fits, header_fits}
use Rattle.action_format.specs.Bytes.{Bytes, word, zero_ended, join, flag, value_bytes, bytes_of_record, branch_code, single_code, single_data, single_bytes, code_of_header, param_bytes, data_of_header, header_bytes}
use Rattle.action_format.specs.Readers.{P, ◌>>=◌, pure, read_byte, word_reader, read_string, read_flag, read_all, dispatch}
use Rattle.action_format.specs.Decode.{read_value, Record, alone, header, in_record, op_reader, op_readers, read_pool, read_push, read_branch, read_function, read_param, read_function2, data_readers, read_record}
use Rattle.action_format.proofs.Tests.{and_first, and_second, All, all_true}
use Rattle.action_format.proofs.Readers.{byte_law, word_law, string_law, bytes_law, many_law, all_law, word_end, string_end, as_many, Reads, reads_pure, reads_weaker, reads_bind, reads_byte, reads_word, reads_string, reads_bytes, reads_inside, reads_many, reads_all, ◌also◌, RowReads, reads_dispatch}
use Rattle.action_format.proofs.Ops.{op_law}
use Rattle.action_format.proofs.Values.{ValueOk, first_string, value_law, value_fills, nothing_there, reads_flag, reads_value}

-- a record

pub record_law : {A : Type 0} (p : P A) (x : A) (d r : Bytes) → length d < 65536 → p d ≡ some (x, []) → in_record p ((word 2 (length d) ++ d) ++ r) ≡ some (x, r)
record_law p x d r h e = rw (append_assoc (word 2 (length d)) d r, word_law 2 (length d) (d ++ r) h, bytes_law d r, e)

pub record HeaderOk (h : Header) : Type 0 where
  pub fits : T (header_fits h)
  pub no_zeros : T (all no_zero (header_strings h))

abbrev pub SingleOk : Single → Type 0
SingleOk (simple p) = T (plain_fits p) × T (all no_zero (plain_strings p))
SingleOk (pushing vs) = All ValueOk vs
SingleOk (branching b o) = o < 65536

tag_law : (c : ℕ) (s : Bytes) → c < 256 → read_record (c ∷ s) ≡ dispatch (op_readers all_ops ++ data_readers) c s
unfolding read_record
tag_law c s h = rw (byte_law c s h)

pub string_fills : (s : Str) → 0 < length (zero_ended s)
unfolding zero_ended
string_fills s = rw (length-append s (0 ∷ [])) (omega arith)

-- a count is no more than the bytes of what it counts
counted : {A : Type 0} (f : A → Bytes) → ((x : A) → 0 < length (f x)) → (xs : List A) (d : Bytes) →
    length d < 65536 → length (join f xs) ≤ length d → length xs < 65536
counted f h xs d l k = omega (arith, as_many f h xs)

flag_law : (p : Bool) → read_flag (flag p ∷ []) ≡ some (p, [])
flag_law false = refl
flag_law true = refl

pub single_law : (a : Single) (r : Bytes) → SingleOk a → length (single_data a) < 65536 → read_record (single_bytes a ++ r) ≡ some (alone a, r)
single_law (simple (op o)) r h l = op_law o r
single_law (simple (ConstantPool ss)) r h l =
    let d : Bytes = word 2 (length ss) ++ join zero_ended ss in
    let n : length ss < 65536 = counted zero_ended string_fills ss d l (rw (length-append (word 2 (length ss)) (join zero_ended ss)) (omega arith)) in
    tag_law 0x88 ((word 2 (length d) ++ d) ++ r) (lit< tt) ∙ record_law read_pool (alone (simple (ConstantPool ss))) d r l
    (rw (word_law 2 (length ss) (join zero_ended ss) n, ← (append-nil (join zero_ended ss)), many_law read_string zero_ended (λ s. T (no_zero s)) string_law ss [] (all_true no_zero ss h.1)))
single_law (simple (StoreRegister n)) r h l =
    tag_law 0x87 ((word 2 1 ++ (n ∷ [])) ++ r) (lit< tt) ∙ record_law (do k ← read_byte; pure (alone (simple (StoreRegister k)))) (alone (simple (StoreRegister n))) (n ∷ []) r l
    (rw (byte_law n [] (ltb→lt n 256 h.0)))
single_law (simple (GotoFrame n)) r h l =
    tag_law 0x81 ((word 2 (length (word 2 n)) ++ word 2 n) ++ r) (lit< tt) ∙ record_law (do k ← word_reader 2; pure (alone (simple (GotoFrame k)))) (alone (simple (GotoFrame n))) (word 2 n) r l
    (rw (word_end 2 n (ltb→lt n 65536 h.0)))
single_law (simple (GotoFrame2 p)) r h l =
    tag_law 0x9F ((word 2 1 ++ (flag p ∷ [])) ++ r) (lit< tt) ∙ record_law (do q ← read_flag; pure (alone (simple (GotoFrame2 q)))) (alone (simple (GotoFrame2 p))) (flag p ∷ []) r l
    (rw (flag_law p))
single_law (simple (GotoLabel s)) r h l =
    tag_law 0x8C ((word 2 (length (zero_ended s)) ++ zero_ended s) ++ r) (lit< tt) ∙ record_law (do t ← read_string; pure (alone (simple (GotoLabel t)))) (alone (simple (GotoLabel s))) (zero_ended s) r l
    (rw (string_end s (first_string s h.1)))
single_law (pushing vs) r h l =
    let d : Bytes = join value_bytes vs in
    tag_law 0x96 ((word 2 (length d) ++ d) ++ r) (lit< tt) ∙ record_law read_push (alone (pushing vs)) d r l
    (rw (all_law read_value value_bytes ValueOk value_law vs (length d) (as_many value_bytes value_fills vs) nothing_there h))
single_law (branching Jump o) r h l =
    tag_law 0x99 ((word 2 (length (word 2 o)) ++ word 2 o) ++ r) (lit< tt) ∙ record_law (read_branch Jump) (alone (branching Jump o)) (word 2 o) r l (rw (word_end 2 o h))
single_law (branching If o) r h l =
    tag_law 0x9D ((word 2 (length (word 2 o)) ++ word 2 o) ++ r) (lit< tt) ∙ record_law (read_branch If) (alone (branching If o)) (word 2 o) r l (rw (word_end 2 o h))

param_law : (p : Param) (r : Bytes) → (p.register < 256) × T (no_zero p.name) → read_param (param_bytes p ++ r) ≡ some (p, r)
param_law p r h = rw (byte_law p.register (zero_ended p.name ++ r) h.0, string_law p.name r h.1)

param_fills : (p : Param) → 0 < length (param_bytes p)
param_fills p = omega arith

params : (ps : List Param) → T (all (λ (p : Param). ltb p.register 256) ps) → T (all no_zero (map (λ (p : Param). p.name) ps)) →
    All (λ (p : Param). (p.register < 256) × T (no_zero p.name)) ps
params [] h k = tt
params (p ∷ ps) h k =
    let f : Param → Bool = λ p. ltb p.register 256 in
    let ns : List Str = map (λ (p : Param). p.name) ps in (
      (ltb→lt p.register 256 (and_first (f p) (all f ps) h), and_first (no_zero p.name) (all no_zero ns) k),
      params ps (and_second (f p) (all f ps) h) (and_second (no_zero p.name) (all no_zero ns) k),
    )

pub header_law : (h : Header) (size : ℕ) (r : Bytes) → HeaderOk h → length (data_of_header h size) < 65536 → size < 65536 →
    read_record (header_bytes h size ++ r) ≡ some (header h size, r)
header_law (DefineFunction n ps) size r h l k =
    let d : Bytes = data_of_header (DefineFunction n ps) size in
    let c : length ps < 65536 = counted zero_ended string_fills ps d l (simp length-append (omega arith)) in
    tag_law 0x9B ((word 2 (length d) ++ d) ++ r) (lit< tt) ∙ record_law read_function (header (DefineFunction n ps) size) d r l
    (rw (
      string_law n (word 2 (length ps) ++ (join zero_ended ps ++ word 2 size)) (and_first (no_zero n) (all no_zero ps) h.no_zeros),
      word_law 2 (length ps) (join zero_ended ps ++ word 2 size) c,
      many_law read_string zero_ended (λ s. T (no_zero s)) string_law ps (word 2 size) (all_true no_zero ps (and_second (no_zero n) (all no_zero ps) h.no_zeros)),
      word_end 2 size k,
    ))
header_law (DefineFunction2 n ps g m) size r h l k =
    let d : Bytes = data_of_header (DefineFunction2 n ps g m) size in
    let c : length ps < 65536 = counted param_bytes param_fills ps d l (simp length-append (omega arith)) in
    let names : List Str = map (λ (p : Param). p.name) ps in
    let registers : Bool = all (λ (p : Param). ltb p.register 256) ps in
    let t : T (leb 2 g && ltb g 256 && ltb m 512) = and_first (leb 2 g && ltb g 256 && ltb m 512) registers h.fits in
    let g-small : g < 256 = ltb→lt g 256 (and_second (leb 2 g) (ltb g 256) (and_first (leb 2 g && ltb g 256) (ltb m 512) t)) in
    let m-small : m < 512 = ltb→lt m 512 (and_second (leb 2 g && ltb g 256) (ltb m 512) t) in
    tag_law 0x8E ((word 2 (length d) ++ d) ++ r) (lit< tt) ∙ record_law read_function2 (header (DefineFunction2 n ps g m) size) d r l
    (rw (
      string_law n (word 2 (length ps) ++ (g ∷ (word 2 m ++ (join param_bytes ps ++ word 2 size)))) (and_first (no_zero n) (all no_zero names) h.no_zeros),
      word_law 2 (length ps) (g ∷ (word 2 m ++ (join param_bytes ps ++ word 2 size))) c,
      byte_law g (word 2 m ++ (join param_bytes ps ++ word 2 size)) g-small,
      word_law 2 m (join param_bytes ps ++ word 2 size) (omega arith),
      many_law read_param param_bytes (λ (p : Param). (p.register < 256) × T (no_zero p.name)) param_law ps (word 2 size)
          (params ps (and_second (leb 2 g && ltb g 256 && ltb m 512) registers h.fits) (and_second (no_zero n) (all no_zero names) h.no_zeros)),
      word_end 2 size k,
    ))

-- what is read was written

abbrev pub record_code : Record → ℕ
record_code (alone a) = single_code a
record_code (header h size) = code_of_header h

abbrev pub record_data : Record → Bytes
record_data (alone a) = single_data a
record_data (header h size) = data_of_header h size

abbrev pub record_bytes : Record → Bytes
record_bytes x = bytes_of_record (record_code x) (record_data x)

-- what offsets and places need of the operands that were read
abbrev pub Small : Single → Type 0
Small (simple p) = Unit
Small (pushing vs) = Unit
Small (branching b o) = o < 65536

abbrev pub Operands : Record → Type 0
Operands (alone a) = Small a
Operands (header h size) = size < 65536

pub record Written (x : Record) (w : Bytes) : Type 0 where
  pub bytes_are : w ≡ record_bytes x
  pub short_data : T (leb (length (record_data x)) 65535)
  pub operands : Operands x

-- a record with a length: its data, and what the reader of the data says of them
pub record Framed {A : Type 0} (Q : A → Bytes → Type 0) (x : A) (w : Bytes) : Type 0 where
  pub content : Bytes
  pub bytes_are : w ≡ word 2 (length content) ++ content
  pub small : length content < 65536
  pub of_content : Q x content

pub reads_record : {A : Type 0} {p : P A} {Q : A → Bytes → Type 0} → Reads p Q → Reads (in_record p) (Framed Q)
reads_record h = reads_bind (reads_word 2) (λ n u hu. reads_bind (reads_bytes n) (λ d v hv. reads_weaker (λ x w k. record {
  content = d;
  bytes_are = rw (hu.0, hv.0, k.0, append-nil d, hv.1);
  small = rw hv.1 hu.1;
  of_content = k.1;
}) (reads_inside h d)))

-- the data of a record of code c
record Content (c : ℕ) (x : Record) (d : Bytes) : Type 0 where
  data_are : d ≡ record_data x
  code_is : record_code x ≡ c
  operands : Operands x

data_row : (c : ℕ) → leb 0x80 c ≡ true → {p : P Record} → Reads p (Content c) → Reads (in_record p) (λ x w. Written x (c ∷ w))
data_row c q h = reads_weaker (λ x w f. go x w f) (reads_record h)
  where
    go : (x : Record) (w : Bytes) → Framed (Content c) x w → Written x (c ∷ w)
    go x w f =
        record {
          bytes_are = rw (f.bytes_are, f.of_content.code_is, q, f.of_content.data_are);
          short_data = le→leb (length (record_data x)) 65535 (rw (← f.of_content.data_are) (omega (arith, f.small)));
          operands = f.of_content.operands;
        }

op_rows : (os : List Op) → All (RowReads Written) (op_readers os)
op_rows [] = tt
op_rows (o ∷ os) = (go (leb 0x80 (row_of o).code) refl, op_rows os)
  where
    go : (t : Bool) → leb 0x80 (row_of o).code ≡ t → Reads (op_reader o t) (λ x w. Written x ((row_of o).code ∷ w))
    go false q = reads_pure (record { bytes_are = rw q; short_data = tt; operands = tt })
    go true q = data_row (row_of o).code q (reads_pure (record { data_are = refl; code_is = refl; operands = tt }))

all_both : {A : Type 0} (Q : A → Type 0) (xs ys : List A) → All Q xs → All Q ys → All Q (xs ++ ys)
all_both Q [] ys h k = k
all_both Q (x ∷ xs) ys h k = (h.0, all_both Q xs ys h.1 k)

reads_param : Reads read_param (λ p w. w ≡ param_bytes p)
reads_param = reads_bind reads_byte (λ r u hu. reads_bind reads_string (λ n v hv. reads_pure (rw (hu.0, append-nil v, hv))))

pool_row : Reads read_pool (Content 0x88)
pool_row = reads_bind (reads_word 2) (λ n u hu. reads_bind (reads_many reads_string n) (λ ss v hv.
    reads_pure (record { data_are = rw (hu.0, append-nil v, hv.0, hv.1); code_is = refl; operands = tt })))

push_row : Reads read_push (Content 0x96)
push_row = record { run = λ d. (row d).run d }
  where
    row : (d : Bytes) → Reads (read_all read_value (length d) >>= λ vs. pure (alone (pushing vs))) (Content 0x96)
    row d = reads_bind (reads_all reads_value (length d)) (λ vs u h. reads_pure (record { data_are = rw (append-nil u, h); code_is = refl; operands = tt }))

branch_row : (b : Branching) → Reads (read_branch b) (Content (branch_code b))
branch_row b = reads_bind (reads_word 2) (λ o u h. reads_pure (record { data_are = rw (append-nil u, h.0); code_is = refl; operands = h.1 }))

function_row : Reads read_function (Content 0x9B)
function_row =
    reads_bind reads_string (λ n u hu. reads_bind (reads_word 2) (λ k v hv. reads_bind (reads_many reads_string k) (λ ps w hw. reads_bind (reads_word 2) (λ size z hz.
    reads_pure (record { data_are = rw (hu, hv.0, hw.0, append-nil z, hz.0, hw.1); code_is = refl; operands = hz.1 })))))

function2_row : Reads read_function2 (Content 0x8E)
function2_row =
    reads_bind reads_string (λ n u hu. reads_bind (reads_word 2) (λ k v hv. reads_bind reads_byte (λ r a ha. reads_bind (reads_word 2) (λ m c hc.
    reads_bind (reads_many reads_param k) (λ ps w hw. reads_bind (reads_word 2) (λ size z hz.
    reads_pure (record { data_are = rw (hu, hv.0, ha.0, hc.0, hw.0, append-nil z, hz.0, hw.1); code_is = refl; operands = hz.1 })))))))

data_rows : All (RowReads Written) data_readers
data_rows =
    data_row 0x81 refl (reads_bind (reads_word 2) (λ n u h. reads_pure (record { data_are = rw (append-nil u, h.0); code_is = refl; operands = tt }))) also
    data_row 0x87 refl (reads_bind reads_byte (λ n u h. reads_pure (record { data_are = rw (append-nil u, h.0); code_is = refl; operands = tt }))) also
    data_row 0x88 refl pool_row also
    data_row 0x8C refl (reads_bind reads_string (λ s u h. reads_pure (record { data_are = rw (append-nil u, h); code_is = refl; operands = tt }))) also
    data_row 0x8E refl function2_row also
    data_row 0x96 refl push_row also
    data_row 0x99 refl (branch_row Jump) also
    data_row 0x9B refl function_row also
    data_row 0x9D refl (branch_row If) also
    data_row 0x9F refl (reads_bind reads_flag (λ p u h. reads_pure (record { data_are = rw (append-nil u, h); code_is = refl; operands = tt }))) also
    tt

pub reads_one : Reads read_record Written
unfolding read_record
reads_one = reads_bind reads_byte (λ c u hu. reads_weaker (λ x w k. rw hu.0 k)
    (reads_dispatch Written (op_readers all_ops ++ data_readers) (all_both (RowReads Written) (op_readers all_ops) data_readers (op_rows all_ops) data_rows) c))
