-- Positions are numbers of a word: bytes that are read have at most 65,538 for each action that the limits allow, and End.
use Prim.Native.Nat.{ℕ, suc, ◌+◌, ◌*◌, ◌≤◌}
use mathlib.Core.Path.{◌≡◌, refl, ap, ◌∙◌}
use mathlib.Core.List.{[], ◌∷◌}
use mathlib.Core.Bool.{Bool, true, false}
use mathlib.Core.Option.{some}
use native.Mathlib.Omega.{arith}
use lib.Dec.{T, leb}
use lib.ListN.{length, length-append}
use Rattle.lowering.specs.Builder as lowering
use Rattle.action_format.specs.Lists.{Lists}
use Rattle.action_format.specs.Rules.{total}
use Rattle.action_format.specs.Code.{Code, end, act, fun, code, flat}
use Rattle.action_format.specs.Bytes.{Bytes, word, framed, single_code, single_data, single_bytes, code_of_header, data_of_header, header_bytes, code_bytes}
use Rattle.action_format.specs.Offsets.{sizes, by_offset}
use Rattle.action_format.specs.Encode.{short}
use Rattle.action_format.specs.Decode.{decode}
use Rattle.action_format.proofs.Bodies.{count, three, short_single, short_next, short_header, short_body, short_rest}
use Rattle.action_format.proofs.Offsets.{same_length}
use Rattle.action_format.proofs.Numbers.{flat_nest}
use Rattle.action_format.proofs.Complete.{encoded}
use Rattle.action_format.proofs.Sound.{sound}
use Rattle.list_slice.proofs.ReadWords.{for_read, total_append, actions_fit}

framed_most : (c : ℕ) (d : Bytes) (t : Bool) → length (framed c d t) ≤ 3 + length d
unfolding word
framed_most c d false = omega arith
framed_most c d true = omega arith

code_most : (c : Code) → T (short c) → length (code_bytes c) ≤ 65538 * count c
unfolding code_bytes
code_most end s = omega arith
code_most (act a c) s =
    rw (length-append (single_bytes a) (code_bytes c))
    (omega (arith, framed_most (single_code a) (single_data a) (leb 0x80 (single_code a)), short_single a c s, code_most c (short_next a c s)))
code_most (fun h b c) s =
    let d = data_of_header h (length (code_bytes b)) in
    rw (three (header_bytes h (length (code_bytes b))) (code_bytes b) (code_bytes c))
    (omega (arith, framed_most (code_of_header h) d (leb 0x80 (code_of_header h)), short_header h b c s, code_most b (short_body h b c s), code_most c (short_rest h b c s)))

count_flat : (n : ℕ) (c : Code) → count c ≡ length (flat n c).own + total length (flat n c).lists
count_flat n end = refl
count_flat n (act a c) = rw (count_flat n c) (omega arith)
count_flat n (fun h b c) =
    let k = suc (n + length (flat n b).lists) in
    rw (count_flat n b, count_flat k c, total_append (flat n b).lists ((flat n b).own ∷ (flat k c).lists)) (omega arith)

pub most_bytes : (limits : lowering.Limits) (b : Bytes) (l : Lists) → decode (for_read limits) b ≡ some l → length b ≤ 65538 * limits.actions + 1
most_bytes limits b l e =
    let s = sound (for_read limits) b l e in
    let h = s.are_lists.of_lowering in
    let x = encoded l (length b) b (s.writes (length b) (omega arith)) in
    let c = code l in
    let n : count c ≡ length l.top + total length l.functions = count_flat 0 c ∙ ap (λ (z : Lists). length z.top + total length z.functions) (flat_nest l h.numbered) in
    rw (← x.bytes_are, length-append (code_bytes (by_offset c)) (0 ∷ []), same_length (sizes c) 0 c) (omega (arith, code_most c x.is_short, n, actions_fit limits l h))
