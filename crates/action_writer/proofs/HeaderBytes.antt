-- What the writers put for a function is its header's bytes.
use Prim.Native.Nat.{ℕ, zero, suc, ◌+◌, ◌-◌, ◌*◌, ◌/◌, ◌%◌, ◌<◌}
use mathlib.Core.Path.{◌≡◌, refl, ap}
use mathlib.Core.List.{List, [], ◌∷◌, ◌++◌, map}
use mathlib.Core.Bool.{Bool, true, false, cond, ◌&&◌}
use mathlib.Core.Option.{get_or}
use native.Mathlib.Omega.{arith}
use lib.Dec.{T, leb, ltb, eqb, ltb→lt}
use lib.ListN.{length, length-map}
use borrow.Author.Tests.{ltb-true, ltb-false, lt-leb, le-leb}
use Rattle.hir.specs.Hir.{Str}
use Rattle.pcode.specs.Pcode.{Param}
use Rattle.script_records.specs.declared.layout.Layout.{Layout}
use Rattle.script_records.specs.Layout.{layout_of, string_at, row_in}
use Rattle.decode.specs.Decode as decode
use Rattle.decode.specs.Decode.{record_of, name_of, marks_of, function_of}
use Rattle.decode.specs.Numbers.{bit}
use Rattle.script.specs.Resolve.{resolved, name_over}
use Rattle.lowering.specs.Statement.{header}
use Rattle.action_format.specs.Lists.{all}
use Rattle.action_format.specs.Bytes.{Bytes, word, zero_ended, join, param_bytes, code_of_header, data_of_header, header_bytes, bytes_of_record}
use Rattle.action_format.specs.Rules.{header_fits}
use Rattle.action_format.proofs.Tests.{and_first, and_second}
use Rattle.list_slice.specs.File.{rec_in, record_in, children_in, header_in}
use Rattle.tree.specs.Trees.{rows_in, trees}
use Rattle.slice_words.specs.References.{text_at}
use Rattle.byte_writer.specs.Data.{frame, framed}
use Rattle.byte_writer.specs.Header.{name_reference, param_data, params_data, marks_word, marks_data, header_code, function_in, header_data, params_at, function_data, function_bytes, IsFunction}
use Rattle.byte_writer.proofs.Params.{text_is}
use Rattle.action_writer.proofs.PieceBytes.{small_byte}

-- marks as bits

bit_is : (n : ℕ) → n < 2 → bit (decode.is_one n) ≡ n
bit_is zero h = refl
bit_is (suc zero) h = refl
bit_is (suc (suc n)) h = let z : ⊥ = omega arith in absurd z

-- nine bits are the number that they write: the library has two digits of a number, and no nine
bits : (c : ℕ) → c % 2 + 2 * (c / 2 % 2 + 2 * (c / 4 % 2 + 2 * (c / 8 % 2 + 2 * (c / 16 % 2 + 2 * (c / 32 % 2 + 2 * (c / 64 % 2 + 2 * (c / 128 % 2 + 2 * (c / 256 % 2)))))))) ≡ c % 512
bits c = omega arith

marks_are : (c : ℕ) → marks_word (marks_of c) ≡ c % 512
unfolding marks_word
marks_are c =
    rw (
      bit_is (c % 2) (omega arith),
      bit_is (c / 2 % 2) (omega arith),
      bit_is (c / 4 % 2) (omega arith),
      bit_is (c / 8 % 2) (omega arith),
      bit_is (c / 16 % 2) (omega arith),
      bit_is (c / 32 % 2) (omega arith),
      bit_is (c / 64 % 2) (omega arith),
      bit_is (c / 128 % 2) (omega arith),
      bit_is (c / 256 % 2) (omega arith),
    ) (bits c)

-- parameters

plain_params : (ps : List Param) → params_data false ps ≡ join zero_ended (map (λ (p : Param). p.name) ps)
unfolding params_data param_data
plain_params [] = refl
plain_params (p ∷ ps) = ap (λ (x : Bytes). zero_ended p.name ++ x) (plain_params ps)

wide_params : (ps : List Param) → T (all (λ (p : Param). ltb p.register 256) ps) → params_data true ps ≡ join param_bytes ps
unfolding params_data param_data
wide_params [] h = refl
wide_params (p ∷ ps) h =
    let a = ltb→lt p.register 256 (and_first (ltb p.register 256) (all (λ (p : Param). ltb p.register 256) ps) h) in
    rw (small_byte p.register a, wide_params ps (and_second (ltb p.register 256) (all (λ (p : Param). ltb p.register 256) ps) h))

module _ (name : Str) (g m size : ℕ) (ps : List Param) (ms : List Bool) (q : marks_word ms ≡ m) (f : T (header_fits (header name g m ps (leb g 1)))) where
  abbrev parts : Bool → Bytes
  parts wide = zero_ended name ++ (word 2 (length ps) ++ (marks_data wide g ms ++ (params_data wide ps ++ word 2 size)))

  both_are : (t : Bool) → ltb 1 g ≡ t → (parts (ltb 1 g) ≡ data_of_header (header name g m ps (leb g 1)) size) × (header_code (ltb 1 g) ≡ code_of_header (header name g m ps (leb g 1)))
  unfolding marks_data
  both_are false e =
      let k = le-leb g 1 (ltb-false 1 g e) in
      (rw (e, k, length-map ps (λ (p : Param). p.name), plain_params ps), rw (e, k))
  both_are true e =
      let k = lt-leb g 1 (ltb-true 1 g e) in
      let h : T (leb 2 g && ltb g 256 && ltb m 512 && all (λ (p : Param). ltb p.register 256) ps) = rw k at f in
      (rw (e, k, q, wide_params ps (and_second (leb 2 g && ltb g 256 && ltb m 512) (all (λ (p : Param). ltb p.register 256) ps) h)), rw (e, k))

framed_record : (c : ℕ) (d : Bytes) (wide : Bool) → header_code wide ≡ c → framed c d ≡ bytes_of_record c d
unfolding frame word
framed_record c d true e = rw (← e)
framed_record c d false e = rw (← e)

module _ (F : List ℕ) (l : Layout) (k size : ℕ) (i : IsFunction F l k) where
  abbrev a : ℕ
  a = (row_in (rows_in F) k).a

  abbrev g : ℕ
  g = (row_in (rows_in F) k).b % 256

  abbrev c : ℕ
  c = (row_in (rows_in F) k).c

  abbrev name_text : Str
  name_text = get_or (name_over (string_at F (layout_of F)) (name_of a)) []

  header_at : header_in F k ≡ header name_text g (c % 512) (params_at F k) (leb g 1)
  unfolding header_in record_in children_in rec_in trees resolved record_of
  header_at = rw i.kind

  named : text_at F l (name_reference (name_of a)) ≡ name_text
  unfolding text_at
  named = by (eqb a 0) refl
    where
      by : (t : Bool) → eqb a 0 ≡ t → text_at F l (name_reference (name_of a)) ≡ name_text
      by true e = rw e
      by false e = rw (e, text_is F l i.within.sound.short (a - 1), i.within.layout)

  module _ (f : T (header_fits (header_in F k))) where
    are : (header_data F l (function_in F k) (params_at F k) size ≡ data_of_header (header_in F k) size) × (header_code (ltb 1 g) ≡ code_of_header (header_in F k))
    unfolding header_data function_of
    are = rw (header_at, named) (both_are name_text g (c % 512) size (params_at F k) (marks_of c) (marks_are c) (rw header_at at f) (ltb 1 g) refl)

    pub function_data_lem : function_data F l k size ≡ data_of_header (header_in F k) size
    unfolding function_data
    function_data_lem = are.0

    pub function_bytes_lem : function_bytes F l k size ≡ header_bytes (header_in F k) size
    unfolding function_bytes function_of
    function_bytes_lem = rw (function_data_lem, ← are.1) (framed_record (header_code (ltb 1 g)) (data_of_header (header_in F k) size) (ltb 1 g) refl)
