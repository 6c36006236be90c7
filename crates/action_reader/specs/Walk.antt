-- Reading with positions: lists as `Resume` reads them, each action with the byte position of its record.
use Rattle.std.specs.Prelude.{ℕ, suc, ◌+◌, ◌-◌, List, [], ◌∷◌, ◌++◌, map, reverse, Bool, true, false, cond, ◌&&◌, eqb, leb, ltb, length}
use Rattle.std.proofs.Math.Option
use Rattle.std.proofs.Math.Option.{Option, none, some}
use Rattle.pcode.specs.Pcode.{Header, Action, plain, push, branch, define}
use Rattle.action_format.specs.Lists.{single, all}
use Rattle.utf8.specs.Utf8.{utf8}
use Rattle.action_format.specs.Strings.{strings, no_zero}
use Rattle.action_format.specs.Rules.{total, no_pool, plain_fits, value_fits, header_fits, filled, action_values}
use Rattle.action_format.specs.Code.{Code, end, act, fun}
use Rattle.action_format.specs.Bytes.{Bytes, single_bytes, code_bytes}
use Rattle.action_format.specs.Offsets.{and_then}
use Rattle.action_format.specs.Decode.{read_list, ended}
use Rattle.action_format.specs.Resume.{if_empty}
use Rattle.list_slice.specs.Entry.{Entry, entry, entries_of}
use Rattle.list_slice.specs.Read.{Placed, at, body_at_code, after_body, placed_in_order}

-- a list that has ended: its actions, branches by offset, and the byte after its last record
pub record Ended : Type 0 where
  pub actions : List Placed
  pub stop : ℕ

abbrev pub ended_at : List Placed → ℕ → Ended
ended_at xs e = record { actions = xs; stop = e }

-- a list's own actions, and the lists that finish in it
pub record Spread : Type 0 where
  pub own : List Placed
  pub lists : List Ended

-- a list from byte p on, n lists having finished before
unfoldable pub spread : (n p : ℕ) → Code → Spread
spread n p end = record { own = []; lists = [] }
spread n p (act a c) =
    record { own = at (single a) p ∷ (spread n (p + length (single_bytes a)) c).own; lists = (spread n (p + length (single_bytes a)) c).lists }
spread n p (fun h b c) =
    let inner = spread n (body_at_code p h b) b in
    let k = suc (n + length inner.lists) in
    let rest = spread k (after_body p h b) c in
    record { own = at (define h k) p ∷ rest.own; lists = inner.lists ++ (ended_at inner.own (after_body p h b) ∷ rest.lists) }

-- a function whose body is being read: its header, its record's position, the actions so far of the list around it, the bytes after the body,
-- and the byte at which the list around it stops
pub record Open : Type 0 where
  pub header : Header
  pub position : ℕ
  pub around : List Placed
  pub rest : Bytes
  pub stop : ℕ

-- what the bytes left give after the actions of the present list, the finished lists and the position
abbrev pub Rest : Type 0
Rest = List Placed → List Ended → ℕ → Bytes → Option Spread

abbrev pub defined : Open → ℕ → Placed
defined f n = at (define f.header n) f.position

abbrev pub close : Rest → Open → Rest
close k f own ls p r = if_empty r (k (f.around ++ (defined f (suc (length ls)) ∷ [])) (ls ++ (ended_at own p ∷ [])) p f.rest)

abbrev pub spread_of : List Placed → List Ended → Spread
spread_of own ls = record { own = own; lists = ls }

abbrev pub finish : Rest
finish own ls p r = Option.map (λ (c : Code). spread_of own ls) (ended end r)

abbrev pub after_list : Rest → Rest
after_list k own ls p r =
    and_then (read_list r) (λ x. k (own ++ (spread (length ls) p x.0).own) (ls ++ (spread (length ls) p x.0).lists) (p + length (code_bytes x.0)) x.1)

abbrev pub ending : List Open → Rest
ending [] = finish
ending (f ∷ fs) = close (after_list (ending fs)) f

abbrev pub resume : List Open → Rest
resume fs = after_list (ending fs)

-- a number of each action, summed over all lists; a function whose body is being read counts as an action of its list

abbrev pub total_lists : (Placed → ℕ) → List Ended → ℕ
total_lists f = total (λ (l : Ended). total f l.actions)

abbrev pub total_open : (Placed → ℕ) → List Open → ℕ
total_open f = total (λ (o : Open). total f o.around + f (defined o 0))

abbrev pub weight : (Placed → ℕ) → List Open → List Placed → List Ended → ℕ
weight f fs own ls = total_open f fs + (total f own + total_lists f ls)

-- branches: a target's byte, and the place that begins there

abbrev pub aim : (position offset : ℕ) → ℕ
aim p o = cond (ltb o 32768) (p + 5 + o) (p + 5 + o - 65536)

abbrev pub aimed : Placed → Action
aimed a = elim a.action [ plain p ↦ plain p | push vs ↦ push vs | branch b o ↦ branch b (aim a.position o) | define h k ↦ define h k ]

-- a target is not before the first byte
abbrev pub aimable : (position offset : ℕ) → Bool
aimable p o = cond (ltb o 32768) true (leb 65536 (p + 5 + o))

-- the entries of a list, the last one first, each branch with its target's byte
unfoldable pub raw : List Placed → List Entry
raw xs = entries_of (reverse (placed_in_order (map (λ (a : Placed). at (aimed a) a.position) xs)))

-- the place of a byte among the positions
unfoldable pub seek : ℕ → List ℕ → Option ℕ
seek t [] = none
seek t (p ∷ ps) = cond (eqb t p) (some 0) (Option.map suc (seek t ps))

abbrev pub bounds : Ended → List ℕ
bounds l = map (λ (a : Placed). a.position) l.actions ++ (l.stop ∷ [])

abbrev pub is_branch : ℕ → Bool
is_branch c = cond (eqb c 0x99) true (eqb c 0x9D)

abbrev pub or_zero : Option ℕ → ℕ
or_zero none = 0
or_zero (some n) = n

-- an entry with the place for the target
abbrev pub settle : List ℕ → Entry → Entry
settle ps e = cond (is_branch e.code) (entry e.code (or_zero (seek e.first ps)) e.second) e

abbrev pub found : Option ℕ → Bool
found none = false
found (some n) = true

abbrev pub lands : List ℕ → Entry → Bool
lands ps e = cond (is_branch e.code) (found (seek e.first ps)) true

unfoldable pub settled : Ended → List Entry
settled l = map (settle (bounds l)) (raw l.actions)

-- a list with places for offsets, and whether each branch has one

abbrev pub fixed : List ℕ → Placed → Placed
fixed ps a = elim a.action [ plain p ↦ a | push vs ↦ a | branch b o ↦ at (branch b (or_zero (seek (aim a.position o) ps))) a.position | define h k ↦ a ]

abbrev pub sure : List ℕ → Placed → Bool
sure ps a = elim a.action [ plain p ↦ true | push vs ↦ true | branch b o ↦ aimable a.position o && found (seek (aim a.position o) ps) | define h k ↦ true ]

abbrev pub fixed_list : Ended → Ended
fixed_list l = ended_at (map (fixed (bounds l)) l.actions) l.stop

abbrev pub sure_list : Ended → Bool
sure_list l = all (sure (bounds l)) l.actions

-- the rules that an action can break by itself; pool is the pool's count, and the pool itself is no such action

abbrev pub raw_fits : (pool : ℕ) → Placed → Bool
raw_fits k a = elim a.action [ plain p ↦ plain_fits p | push vs ↦ filled vs && all (value_fits k) vs | branch b o ↦ aimable a.position o | define h n ↦ header_fits h ]

abbrev pub holds : (pool : ℕ) → Placed → Bool
holds k a = no_pool a.action && (raw_fits k a && (all utf8 (strings a.action) && all no_zero (strings a.action)))

-- what is counted: actions, values, actions that break a rule

abbrev pub one : Placed → ℕ
one a = 1

abbrev pub valued : Placed → ℕ
valued a = action_values a.action

abbrev pub bad : (pool : ℕ) → Placed → ℕ
bad k a = cond (holds k a) 0 1

-- and lists in which a branch leads nowhere
abbrev pub lost : Ended → ℕ
lost l = cond (all (lands (bounds l)) (raw l.actions)) 0 1
