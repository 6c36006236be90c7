-- What is read was written by the lists that are read, and these keep the rules.
use Prim.Native.Nat.{ℕ, zero, suc, ◌≤◌}
use mathlib.Core.Path.{◌≡◌, refl, ap, sym, ◌∙◌, subst}
use mathlib.Core.Logic.{◌↔◌}
use mathlib.Core.List.{[], ◌∷◌, ◌++◌}
use mathlib.Core.Option.{Option, none, some}
use mathlib.Core.Bool.{◌&&◌}
use native.Mathlib.Omega.{arith}
use lib.Dec.{T, le→leb}
use lib.ListN.{length}
use Rattle.action_format.specs.Lists.{Lists}
use Rattle.action_format.specs.Strings.{zero_free}
use Rattle.action_format.specs.Rules.{Limits, shaped, IsLists}
use Rattle.action_format.specs.Code.{Code, lists_of_outcome}
use Rattle.action_format.specs.Bytes.{Bytes}
use Rattle.action_format.specs.Offsets.{sizes, by_offset, near, and_then, from_offset}
use Rattle.action_format.specs.Encode.{short, written, bytes, encode}
use Rattle.action_format.specs.Decode.{read_list, ended, read_top, tested, decode}
use Rattle.action_format.proofs.Tests.{and_first, and_second, never, some_of, given_some}
use Rattle.action_format.proofs.Readers.{Split}
use Rattle.action_format.proofs.Bodies.{WrittenCode, reads_code}
use Rattle.action_format.proofs.Offsets.{same_sizes, same_short, Found, places_found}
use Rattle.action_format.proofs.Numbers.{nest_flat, flat_numbered}
use Rattle.action_format.proofs.Complete.{not_refused, complete}

-- what a step of decoding says
record Step {A B : Type 0} (x : Option A) (f : A → Option B) (y : B) : Type 0 where
  it : A
  is : x ≡ some it
  then : f it ≡ some y

step : {A B : Type 0} (x : Option A) (f : A → Option B) (y : B) → and_then x f ≡ some y → Step x f y
step none f y e = never y e
step (some a) f y e = record { it = a; is = refl; then = e }

at_End : (c d : Code) (r : Bytes) → ended c r ≡ some d → (c ≡ d) × (r ≡ 0 ∷ [])
at_End c d [] e = never d e
at_End c d (zero ∷ []) e = (some_of e, refl)
at_End c d (zero ∷ (b ∷ r)) e = never d e
at_End c d (suc b ∷ r) e = never d e

-- the nested list that was read
record WasRead (b : Bytes) (c : Code) : Type 0 where
  bytes_are : b ≡ written c
  is_short : T (short c)
  is_near : T (near (sizes c) 0 c)

was_read : (b : Bytes) (d : Code) (c : Code) (w : Bytes) → b ≡ w ++ (0 ∷ []) → WrittenCode d w → from_offset d ≡ some c → WasRead b c
was_read b d c w e h p =
    let f : Found (sizes d) 0 d c = places_found (sizes d) 0 d c h.is_small p in
    let z : sizes d ≡ sizes c = sym (ap sizes f.offsets_are) ∙ same_sizes (sizes d) 0 c in
    let o : by_offset c ≡ d = rw (← z) f.offsets_are in
    record { bytes_are = rw (e, h.bytes_are, o); is_short = rw (← (same_short (sizes c) 0 c), o) h.is_short; is_near = rw (← z) f.is_near }

read_whole : (b : Bytes) (d c : Code) → read_top b ≡ some d → from_offset d ≡ some c → WasRead b c
read_whole b d c e p =
    let q : Step (read_list b) (λ x. ended x.0 x.1) d = step (read_list b) (λ x. ended x.0 x.1) d e in
    let x : (q.it.0 ≡ d) × (q.it.1 ≡ 0 ∷ []) = at_End q.it.0 d q.it.1 q.then in
    let r : Split WrittenCode b q.it.0 q.it.1 = (reads_code (suc (length b))).run b q.it.0 q.it.1 q.is in
    was_read b d c r.own (r.is ∙ ap (λ (z : Bytes). r.own ++ z) x.1) (subst (λ (z : Code). WrittenCode z r.own) x.0 r.fact) p

pub record Sound (limits : Limits) (b : Bytes) (l : Lists) : Type 0 where
  pub are_lists : IsLists limits l
  pub writes : (room : ℕ) → length b ≤ room → encode l room ≡ bytes b

from_code : (limits : Limits) (b : Bytes) (c : Code) → WasRead b c → T (shaped limits (lists_of_outcome c) && zero_free (lists_of_outcome c)) → Sound limits b (lists_of_outcome c)
from_code limits b c h t =
    let l : Lists = lists_of_outcome c in
    let z : T (zero_free l) = and_second (shaped limits l) (zero_free l) t in
    record {
      are_lists = record { of_lowering = record { tested = and_first (shaped limits l) (zero_free l) t; numbered = flat_numbered c }; no_zeros = z };
      writes = λ room r. not_refused l room z (rw (nest_flat c) h.is_short) (rw (nest_flat c) h.is_near)
          (rw (nest_flat c, ← h.bytes_are) (le→leb (length b) room r)) ∙ ap bytes (rw (nest_flat c, h.bytes_are));
    }

pub sound : (limits : Limits) (b : Bytes) (l : Lists) → decode limits b ≡ some l → Sound limits b l
unfolding decode
sound limits b l e =
    let s : Step (and_then (read_top b) from_offset) (λ c. tested limits (lists_of_outcome c)) l = step (and_then (read_top b) from_offset) (λ c. tested limits (lists_of_outcome c)) l e in
    let p : Step (read_top b) from_offset s.it = step (read_top b) from_offset s.it s.is in
    last s.it (read_whole b p.it s.it p.is p.then) s.then
  where
    last : (c : Code) → WasRead b c → tested limits (lists_of_outcome c) ≡ some l → Sound limits b l
    last c k t =
        let g = given_some (shaped limits (lists_of_outcome c) && zero_free (lists_of_outcome c)) (some (lists_of_outcome c)) l t in
        subst (Sound limits b) (some_of g.1) (from_code limits b c k g.0)

-- reading accepts bytes as a list exactly if that list is within the limits and writes to them
pub exactly_read : (limits : Limits) (b : Bytes) (l : Lists) → (decode limits b ≡ some l) ↔ (IsLists limits l × (encode l (length b) ≡ bytes b))
exactly_read limits b l = (
  λ e. let s : Sound limits b l = sound limits b l e in (s.are_lists, s.writes (length b) (omega arith)),
  λ h. complete limits l h.0.of_lowering (length b) b h.1,
)

-- refusal 14 is given exactly where no list within the limits writes to the bytes
pub no_list : (limits : Limits) (b : Bytes) → (decode limits b ≡ none) ↔ ((l : Lists) (room : ℕ) → IsLists limits l → encode l room ≡ bytes b → ⊥)
no_list limits b = (λ e l room h w. never l (sym e ∙ complete limits l h.of_lowering room b w), λ h. go h (decode limits b) refl)
  where
    go : ((l : Lists) (room : ℕ) → IsLists limits l → encode l room ≡ bytes b → ⊥) → (o : Option Lists) → decode limits b ≡ o → decode limits b ≡ none
    go h none e = e
    go h (some l) e = let s : Sound limits b l = sound limits b l e in absurd (h l (length b) s.are_lists (s.writes (length b) (omega arith)))
