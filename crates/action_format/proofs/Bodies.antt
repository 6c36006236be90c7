-- A list's records, its functions' bodies among them, written and read.
use Prim.Native.Nat.{ℕ, zero, suc, ◌+◌, ◌<◌, ◌≤◌}
use mathlib.Core.Path.{◌≡◌, refl, ap, sym, ◌∙◌, subst}
use mathlib.Core.List.{[], ◌∷◌, ◌++◌, append_assoc, append-nil}
use mathlib.Core.Option.{Option, none, some}
use mathlib.Core.Bool.{Bool, true, false, ◌&&◌}
use native.Mathlib.Omega.{arith}
use native.Mathlib.Nat.{not-suc-le-zero}
use lib.Dec.{T, leb, leb→le, le→leb}
use lib.ListN.{length, length-append}
use Rattle.pcode.specs.Pcode.{Header}
use Rattle.action_format.specs.Lists.{Single}
use Rattle.action_format.specs.Code.{Code, end, act, fun}
use Rattle.action_format.specs.Bytes.{Bytes, framed, single_code, single_data, single_bytes, code_of_header, data_of_header, header_bytes, code_bytes}
use Rattle.action_format.specs.Encode.{short}
use Rattle.action_format.specs.Readers.{read_byte}
use Rattle.action_format.specs.Decode.{Record, alone, header, read_record, next, continue, read_code}
use Rattle.action_format.proofs.Tests.{and_first, and_second, and_both, never, some_of}
use Rattle.action_format.proofs.Readers.{bytes_law, Split, Reads, reads_pure, reads_bind, reads_bytes, reads_inside}
use Rattle.action_format.proofs.Records.{HeaderOk, SingleOk, single_law, header_law, record_bytes, Small, Written, reads_one}

abbrev pub CodeOk : Code → Type 0
CodeOk end = Unit
CodeOk (act a c) = SingleOk a × CodeOk c
CodeOk (fun h b c) = HeaderOk h × CodeOk b × CodeOk c

-- the actions of a list and of the lists in it
abbrev pub count : Code → ℕ
count end = 0
count (act a c) = suc (count c)
count (fun h b c) = suc (count b + count c)

frame_fills : (c : ℕ) (d : Bytes) (t : Bool) → 0 < length (framed c d t)
frame_fills c d true = omega arith
frame_fills c d false = omega arith

pub single_fills : (a : Single) → 0 < length (single_bytes a)
single_fills a = frame_fills (single_code a) (single_data a) (leb 0x80 (single_code a))

pub header_fills : (h : Header) (n : ℕ) → 0 < length (header_bytes h n)
header_fills h n = frame_fills (code_of_header h) (data_of_header h n) (leb 0x80 (code_of_header h))

pub record_fills : (x : Record) → 0 < length (record_bytes x)
record_fills (alone a) = single_fills a
record_fills (header h n) = header_fills h n

pub three : (x y z : Bytes) → length (x ++ (y ++ z)) ≡ length x + (length y + length z)
three x y z = rw (length-append x (y ++ z), length-append y z)

pub no_more : (c : Code) → count c ≤ length (code_bytes c)
unfolding code_bytes
no_more end = omega arith
no_more (act a c) = rw (length-append (single_bytes a) (code_bytes c)) (omega (arith, single_fills a, no_more c))
no_more (fun h b c) =
    rw (three (header_bytes h (length (code_bytes b))) (code_bytes b) (code_bytes c)) (omega (arith, header_fills h (length (code_bytes b)), no_more b, no_more c))

-- what refusal 10's test says of a list

module _ (a : Single) (c : Code) (t : T (short (act a c))) where
  pub short_single : length (single_data a) < 65536
  short_single = omega (arith, leb→le (length (single_data a)) 65535 (and_first (leb (length (single_data a)) 65535) (short c) t))

  pub short_next : T (short c)
  short_next = and_second (leb (length (single_data a)) 65535) (short c) t

module _ (h : Header) (b c : Code) (t : T (short (fun h b c))) where
  abbrev header_test : Bool
  header_test = leb (length (data_of_header h (length (code_bytes b)))) 65535

  abbrev body_test : Bool
  body_test = leb (length (code_bytes b)) 65535

  pub short_header : length (data_of_header h (length (code_bytes b))) < 65536
  short_header = omega (
    arith,
    leb→le (length (data_of_header h (length (code_bytes b)))) 65535
        (and_first header_test body_test (and_first (header_test && body_test) (short b) (and_first (header_test && body_test && short b) (short c) t))),
  )

  pub short_count : length (code_bytes b) < 65536
  short_count = omega (
    arith,
    leb→le (length (code_bytes b)) 65535
        (and_second header_test body_test (and_first (header_test && body_test) (short b) (and_first (header_test && body_test && short b) (short c) t))),
  )

  pub short_body : T (short b)
  short_body = and_second (header_test && body_test) (short b) (and_first (header_test && body_test && short b) (short c) t)

  pub short_rest : T (short c)
  short_rest = and_second (header_test && body_test && short b) (short c) t

-- what was written is read

stops_at_the_end : read_record [] ≡ none
unfolding read_record read_byte
stops_at_the_end = refl

pub stops_at_End : (r : Bytes) → read_record (0 ∷ r) ≡ none
unfolding read_record read_byte
stops_at_End r = refl

pub code_law : (c : Code) (n : ℕ) (t : Bytes) → count c < n → CodeOk c → T (short c) → read_record t ≡ none → read_code n (code_bytes c ++ t) ≡ some (c, t)
unfolding read_code code_bytes
code_law end zero t l k s e = absurd (not-suc-le-zero l)
code_law end (suc n) t l k s e = rw e
code_law (act a c) zero t l k s e = absurd (not-suc-le-zero l)
code_law (act a c) (suc n) t l k s e =
    rw (
      append_assoc (single_bytes a) (code_bytes c) t,
      single_law a (code_bytes c ++ t) k.0 (short_single a c s),
      code_law c n t (omega arith) k.1 (short_next a c s) e,
    )
code_law (fun h b c) zero t l k s e = absurd (not-suc-le-zero l)
code_law (fun h b c) (suc n) t l k s e =
    rw (
      append_assoc (header_bytes h (length (code_bytes b))) (code_bytes b ++ code_bytes c) t,
      header_law h (length (code_bytes b)) ((code_bytes b ++ code_bytes c) ++ t) k.0 (short_header h b c s) (short_count h b c s),
      append_assoc (code_bytes b) (code_bytes c) t,
      bytes_law (code_bytes b) (code_bytes c ++ t),
      rw (append-nil (code_bytes b)) at (code_law b n [] (omega arith) k.1 (short_body h b c s) stops_at_the_end),
      code_law c n t (omega arith) k.2 (short_rest h b c s) e,
    )

-- what is read was written

abbrev pub SmallCode : Code → Type 0
SmallCode end = Unit
SmallCode (act a c) = Small a × SmallCode c
SmallCode (fun h b c) = SmallCode b × SmallCode c

pub record WrittenCode (c : Code) (w : Bytes) : Type 0 where
  pub bytes_are : w ≡ code_bytes c
  pub is_short : T (short c)
  pub is_small : SmallCode c

next_reads : (n : ℕ) → Reads (read_code n) WrittenCode → (x : Record) (u : Bytes) → Written x u → Reads (next (read_code n) x) (λ c w. WrittenCode c (u ++ w))
unfolding code_bytes
next_reads n ih (alone a) u h = reads_bind ih (λ c v k. reads_pure (record {
  bytes_are = rw (h.bytes_are, append-nil v, k.bytes_are);
  is_short = and_both (leb (length (single_data a)) 65535) (short c) h.short_data k.is_short;
  is_small = (h.operands, k.is_small);
}))
next_reads n ih (header x size) u h =
    reads_bind (reads_bytes size) (λ d v hv. reads_bind (reads_inside ih d) (λ b w hw. reads_bind ih (λ c z k. reads_pure (go d v hv b w hw c z k))))
  where
    go : (d v : Bytes) → (v ≡ d) × (length d ≡ size) → (b : Code) (w : Bytes) → (w ≡ []) × WrittenCode b d → (c : Code) (z : Bytes) → WrittenCode c z →
        WrittenCode (fun x b c) (u ++ (v ++ (w ++ (z ++ []))))
    go d v hv b w hw c z k =
        let e : length (code_bytes b) ≡ size = sym (ap length hw.1.bytes_are) ∙ hv.1 in
        let l : length (code_bytes b) ≤ 65535 = omega (arith, h.operands) in
        record {
          bytes_are = rw (h.bytes_are, hv.0, hw.0, append-nil z, k.bytes_are, hw.1.bytes_are, e);
          is_short = and_both (leb (length (data_of_header x (length (code_bytes b)))) 65535 && leb (length (code_bytes b)) 65535 && short b) (short c)
              (and_both (leb (length (data_of_header x (length (code_bytes b)))) 65535 && leb (length (code_bytes b)) 65535) (short b)
              (and_both (leb (length (data_of_header x (length (code_bytes b)))) 65535) (leb (length (code_bytes b)) 65535) (rw e h.short_data) (le→leb (length (code_bytes b)) 65535 l))
              hw.1.is_short) k.is_short;
          is_small = (hw.1.is_small, k.is_small);
        }

pub reads_code : (n : ℕ) → Reads (read_code n) WrittenCode
unfolding read_code code_bytes
reads_code zero = record { run = λ b c r e. never (c, r) e }
reads_code (suc n) = record { run = λ b c r e. go b c r (read_record b) refl (reads_code n) e }
  where
    go : (b : Bytes) (c : Code) (r : Bytes) (o : Option (Record × Bytes)) → read_record b ≡ o → Reads (read_code n) WrittenCode →
        continue (read_code n) o b ≡ some (c, r) → Split WrittenCode b c r
    go b c r none q ih e =
        let t : ◌≡◌ {A = Code × Bytes} (end, b) (c, r) = some_of e in
        record {
          own = [];
          is = ap (λ (z : Code × Bytes). z.1) t;
          fact = subst (λ (z : Code × Bytes). WrittenCode z.0 []) t (record { bytes_are = refl; is_short = tt; is_small = tt });
        }
    go b c r (some x) q ih e =
        let s = reads_one.run b x.0 x.1 q in
        let t = (next_reads n ih x.0 s.own s.fact).run x.1 c r e in
        record { own = s.own ++ t.own; is = s.is ∙ ap (λ (z : Bytes). s.own ++ z) t.is ∙ sym (append_assoc s.own t.own r); fact = t.fact }
