-- Places, byte positions and offsets.
use Rattle.std.specs.Prelude.{ℕ, zero, suc, ◌+◌, ◌-◌, ◌%◌, List, [], ◌∷◌, Bool, true, false, ◌&&◌, leb, ltb, length, take}
use Rattle.std.proofs.Math.Option.{Option, none, some, map}
use Rattle.action_format.specs.Lists.{Single, simple, pushing, branching}
use Rattle.action_format.specs.Code.{Code, end, act, fun}
use Rattle.action_format.specs.Bytes.{single_bytes, header_bytes, code_bytes}

-- the bytes of each action of a list, a function's body with it
abbrev pub sizes : Code → List ℕ
sizes end = []
sizes (act a c) = length (single_bytes a) ∷ sizes c
sizes (fun h b c) = (length (header_bytes h (length (code_bytes b))) + length (code_bytes b)) ∷ sizes c

abbrev pub sum : List ℕ → ℕ
sum [] = 0
sum (n ∷ ns) = n + sum ns

-- a place begins after the records of the list's actions before it
unfoldable pub position : (sizes : List ℕ) → (place : ℕ) → ℕ
position ss p = sum (take p ss)

-- the byte after the record of action i, from which a branch's offset counts
abbrev pub after_record : (sizes : List ℕ) → (i : ℕ) → ℕ
after_record ss i = position ss (suc i)

-- an offset has 16 bits, in two's complement

abbrev pub offset : (after target : ℕ) → ℕ
offset after target = (65536 + target - after) % 65536

abbrev pub reaches : (after target : ℕ) → Bool
reaches after target = leb after (target + 32768) && leb target (after + 32767)

-- and back: 0 to 32767 leads forwards, the others backwards, not below 0
abbrev pub towards : ℕ → ℕ → (forwards below : Bool) → Option ℕ
towards after o true below = some (after + o)
towards after o false true = none
towards after o false false = some (after + o - 65536)

abbrev pub moved : (after offset : ℕ) → Option ℕ
moved after o = towards after o (ltb o 32768) (ltb (after + o) 65536)

-- the place that begins at a byte

abbrev pub later : Bool → Option ℕ → Option ℕ
later true p = map suc p
later false p = none

unfoldable pub place_at_index : (sizes : List ℕ) → ℕ → Option ℕ
place_at_index [] zero = some 0
place_at_index [] (suc t) = none
place_at_index (s ∷ ss) zero = some 0
place_at_index (s ∷ ss) (suc t) = later (leb s (suc t)) (place_at_index ss (suc t - s))

-- places to offsets, in a list whose actions have these sizes, from action i on

abbrev pub single_offset : List ℕ → ℕ → Single → Single
single_offset ss i (simple p) = simple p
single_offset ss i (pushing vs) = pushing vs
single_offset ss i (branching b p) = branching b (offset (after_record ss i) (position ss p))

abbrev pub offsets : List ℕ → ℕ → Code → Code
offsets ss i end = end
offsets ss i (act a c) = act (single_offset ss i a) (offsets ss (suc i) c)
offsets ss i (fun h b c) = fun h (offsets (sizes b) 0 b) (offsets ss (suc i) c)

abbrev pub by_offset : Code → Code
by_offset c = offsets (sizes c) 0 c

-- refusal 11's test: each branch reaches its place

abbrev pub single_near : List ℕ → ℕ → Single → Bool
single_near ss i (simple p) = true
single_near ss i (pushing vs) = true
single_near ss i (branching b p) = reaches (after_record ss i) (position ss p)

abbrev pub near : List ℕ → ℕ → Code → Bool
near ss i end = true
near ss i (act a c) = single_near ss i a && near ss (suc i) c
near ss i (fun h b c) = near (sizes b) 0 b && near ss (suc i) c

abbrev pub all_near : Code → Bool
all_near c = near (sizes c) 0 c

-- offsets to places, if each leads to one

abbrev pub and_then : {A B : Type 0} → Option A → (A → Option B) → Option B
and_then none f = none
and_then (some a) f = f a

abbrev pub both : {A B C : Type 0} → (A → B → C) → Option A → Option B → Option C
both f none y = none
both f (some a) none = none
both f (some a) (some b) = some (f a b)

abbrev pub single_place : List ℕ → ℕ → Single → Option Single
single_place ss i (simple p) = some (simple p)
single_place ss i (pushing vs) = some (pushing vs)
single_place ss i (branching b o) = map (branching b) (and_then (moved (after_record ss i) o) (place_at_index ss))

abbrev pub places : List ℕ → ℕ → Code → Option Code
places ss i end = some end
places ss i (act a c) = both act (single_place ss i a) (places ss (suc i) c)
places ss i (fun h b c) = both (fun h) (places (sizes b) 0 b) (places ss (suc i) c)

abbrev pub from_offset : Code → Option Code
from_offset c = places (sizes c) 0 c
