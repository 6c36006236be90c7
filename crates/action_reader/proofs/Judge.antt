-- Which bytes are read: by sums over the lists with positions.
use Prim.Native.Nat.{ℕ, suc, ◌+◌, ◌≤◌}
use mathlib.Core.Path.{◌≡◌, refl, sym, ap, ap₂, ◌∙◌, subst}
use mathlib.Core.List.{List, [], ◌∷◌, ◌++◌, map}
use mathlib.Core.Bool.{Bool, true, false, ◌&&◌}
use mathlib.Core.Option
use mathlib.Core.Option.{Option, none, some}
use native.Mathlib.Omega.{arith}
use lib.Dec.{T, leb, leb→le, le→leb}
use lib.ListN.{length, length-map, length-append}
use Rattle.hir.specs.Hir.{Str}
use Rattle.utf8.specs.Utf8.{utf8}
use Rattle.pcode.specs.Pcode.{Action, ConstantPool, plain}
use Rattle.action_format.specs.Lists.{Lists, all_lists, all}
use Rattle.action_format.specs.Strings.{strings, no_zero, lists_are_utf8, zero_free}
use Rattle.action_format.specs.Rules.{Limits, fits, list_fits, no_pool, pool_first, total, action_values, within, shaped}
use Rattle.action_format.specs.Code.{Code, lists_of_outcome}
use Rattle.action_format.specs.Bytes.{Bytes, code_bytes}
use Rattle.action_format.specs.Offsets.{sizes, position, and_then, from_offset}
use Rattle.action_format.specs.Readers.{given}
use Rattle.action_format.specs.Decode.{read_top, tested, decode}
use Rattle.action_format.proofs.Tests.{and_first, and_second, and_both, All, never, some_of}
use Rattle.action_format.proofs.Offsets.{sizes_fill}
use Rattle.action_format.proofs.Numbers.{nest_flat}
use Rattle.list_slice.specs.Entry.{Entry}
use Rattle.list_slice.specs.Read.{Placed, at, pieces_read, entries_read}
use Rattle.list_slice.proofs.Read.{map_append, actions}
use Rattle.list_slice.proofs.ReadWords.{stored, stored_map}
use Rattle.action_reader.specs.Walk.{Ended, ended_at, Spread, spread, spread_of, total_lists, bounds, settled, fixed, sure, fixed_list, sure_list, holds, one, valued}
use Rattle.action_reader.proofs.Lands.{froms, bounds_are, places_law}
use Rattle.action_reader.proofs.Raw.{goes, raw_settles}
use Rattle.action_reader.proofs.Spreads.{plainly, spread_placed, lists_within, spread_lists}
use Rattle.action_reader.proofs.Passes.{Tests, to_tests, from_tests, ones, values_kept, as_long}

abbrev in_utf8 : Action → Bool
in_utf8 a = all utf8 (strings a)

abbrev zero_less : Action → Bool
zero_less a = all no_zero (strings a)

abbrev fixed_lists : List Ended → List (List Action)
fixed_lists ls = map actions (plainly (map fixed_list ls))

-- the functions' lists

abbrev Passing : ℕ → Ended → Type 0
Passing k l = Tests (bounds l) k (length l.actions) l.actions

record Each (k : ℕ) (ls : List Ended) : Type 0 where
  certain : T (all sure_list ls)
  pool_free : T (all (all no_pool) (fixed_lists ls))
  fit : T (all (list_fits k) (fixed_lists ls))
  texts : T (all (all in_utf8) (fixed_lists ls))
  zeros : T (all (all zero_less) (fixed_lists ls))

abbrev made : Ended → List Action
made l = actions (map (fixed (bounds l)) l.actions)

made_fits : (k : ℕ) (l : Ended) → list_fits k (made l) ≡ all (fits k (length l.actions)) (made l)
made_fits k l = ap (λ (n : ℕ). all (fits k n) (made l)) (as_long (bounds l) l.actions)

to_each : (k : ℕ) (ls : List Ended) → All (Passing k) ls → Each k ls
to_each k [] h = record { certain = tt; pool_free = tt; fit = tt; texts = tt; zeros = tt }
to_each k (l ∷ ls) h =
    let r = to_each k ls h.1 in
    record {
      certain = and_both (sure_list l) (all sure_list ls) h.0.certain r.certain;
      pool_free = and_both (all no_pool (made l)) (all (all no_pool) (fixed_lists ls)) h.0.pool_free r.pool_free;
      fit = and_both (list_fits k (made l)) (all (list_fits k) (fixed_lists ls)) (subst T (sym (made_fits k l)) h.0.fit) r.fit;
      texts = and_both (all in_utf8 (made l)) (all (all in_utf8) (fixed_lists ls)) h.0.texts r.texts;
      zeros = and_both (all zero_less (made l)) (all (all zero_less) (fixed_lists ls)) h.0.zeros r.zeros;
    }

from_each : (k : ℕ) (ls : List Ended) → Each k ls → All (Passing k) ls
from_each k [] h = tt
from_each k (l ∷ ls) h = (
  record {
    certain = and_first (sure_list l) (all sure_list ls) h.certain;
    pool_free = and_first (all no_pool (made l)) (all (all no_pool) (fixed_lists ls)) h.pool_free;
    fit = subst T (made_fits k l) (and_first (list_fits k (made l)) (all (list_fits k) (fixed_lists ls)) h.fit);
    texts = and_first (all in_utf8 (made l)) (all (all in_utf8) (fixed_lists ls)) h.texts;
    zeros = and_first (all zero_less (made l)) (all (all zero_less) (fixed_lists ls)) h.zeros;
  },
  from_each k ls (record {
    certain = and_second (sure_list l) (all sure_list ls) h.certain;
    pool_free = and_second (all no_pool (made l)) (all (all no_pool) (fixed_lists ls)) h.pool_free;
    fit = and_second (list_fits k (made l)) (all (list_fits k) (fixed_lists ls)) h.fit;
    texts = and_second (all in_utf8 (made l)) (all (all in_utf8) (fixed_lists ls)) h.texts;
    zeros = and_second (all zero_less (made l)) (all (all zero_less) (fixed_lists ls)) h.zeros;
  }),
)

lists_length : (ls : List Ended) → total length (fixed_lists ls) ≡ total_lists one ls
lists_length [] = refl
lists_length (l ∷ ls) = rw (lists_length ls, as_long (bounds l) l.actions, ones l.actions)

lists_values : (ls : List Ended) → total (total action_values) (fixed_lists ls) ≡ total_lists valued ls
lists_values [] = refl
lists_values (l ∷ ls) = rw (lists_values ls, values_kept (bounds l) l.actions)

-- what is asked of the lists: sums within the limits, actions that hold and branches that lead to a place
pub record Right (limits : Limits) (ss : List Str) (ps : List ℕ) (rest : List Placed) (ls : List Ended) : Type 0 where
  pub actions_fit : suc (total one rest + total_lists one ls) ≤ limits.actions
  pub values_fit : total valued rest + total_lists valued ls ≤ limits.values
  pub top_goes : T (all (goes ps) rest)
  pub top_holds : T (all (holds (length ss)) rest)
  pub list_goes : All (λ l. T (all (goes (bounds l)) l.actions)) ls
  pub list_holds : All (λ l. T (all (holds (length ss)) l.actions)) ls
  pub pool_texts : T (all utf8 ss)

module _ (limits : Limits) (ss : List Str) (ps : List ℕ) (rest : List Placed) (ls : List Ended) (len : length ps ≡ suc (suc (length rest))) where
  abbrev k : ℕ
  k = length ss

  abbrev n : ℕ
  n = suc (length rest)

  abbrev pool : Placed
  pool = at (plain (ConstantPool ss)) 0

  abbrev top : List Action
  top = actions (map (fixed ps) (pool ∷ rest))

  abbrev tail : List Action
  tail = actions (map (fixed ps) rest)

  abbrev pub result : Lists
  result = lists_within (spread_of (map (fixed ps) (pool ∷ rest)) (map fixed_list ls))

  top_length : length top ≡ n
  top_length = as_long ps (pool ∷ rest)

  bounds_length : (l : Ended) → length (bounds l) ≡ suc (length l.actions)
  bounds_length l = length-append (map (λ (a : Placed). a.position) l.actions) (l.stop ∷ []) ∙ rw (length-map l.actions (λ (a : Placed). a.position)) (omega arith)

  all_pass : (ms : List Ended) → All (λ l. T (all (goes (bounds l)) l.actions)) ms → All (λ l. T (all (holds k) l.actions)) ms → All (Passing k) ms
  all_pass [] g h = tt
  all_pass (l ∷ ms) g h = (to_tests (bounds l) k (length l.actions) (bounds_length l) l.actions g.0 h.0, all_pass ms g.1 h.1)

  all_go : (ms : List Ended) → All (Passing k) ms → All (λ l. T (all (goes (bounds l)) l.actions)) ms
  all_go [] h = tt
  all_go (l ∷ ms) h = ((from_tests (bounds l) k (length l.actions) l.actions h.0).0, all_go ms h.1)

  all_hold : (ms : List Ended) → All (Passing k) ms → All (λ l. T (all (holds k) l.actions)) ms
  all_hold [] h = tt
  all_hold (l ∷ ms) h = ((from_tests (bounds l) k (length l.actions) l.actions h.0).1, all_hold ms h.1)

  sum_actions : total length (all_lists result) ≡ suc (total one rest + total_lists one ls)
  sum_actions = rw (top_length, lists_length ls, ones rest) (omega arith)

  sum_values : total (total action_values) (all_lists result) ≡ total valued rest + total_lists valued ls
  sum_values = rw (values_kept ps (pool ∷ rest), lists_values ls) (omega arith)

  abbrev rules : Bool
  rules = shaped limits result && zero_free result

  pub enough : Right limits ss ps rest ls → T (all no_zero ss) → T (all (sure ps) (pool ∷ rest) && all sure_list ls) × T rules
  enough r z =
      let t = to_tests ps k n len rest r.top_goes r.top_holds in
      let e = to_each k ls (all_pass ls r.list_goes r.list_holds) in
      let first : T (pool_first result) = and_both (all no_pool tail) (all (all no_pool) (fixed_lists ls)) t.pool_free e.pool_free in
      let fit : T (all (list_fits k) (all_lists result)) =
      and_both (list_fits k top) (all (list_fits k) (fixed_lists ls)) (subst (λ (m : ℕ). T (all (fits k m) tail)) (sym top_length) t.fit) e.fit in
      let texts : T (lists_are_utf8 result) =
      and_both (all in_utf8 top) (all (all in_utf8) (fixed_lists ls)) (and_both (all utf8 ss) (all in_utf8 tail) r.pool_texts t.texts) e.texts in
      let zeros : T (zero_free result) =
      and_both (all zero_less top) (all (all zero_less) (fixed_lists ls)) (and_both (all no_zero ss) (all zero_less tail) z t.zeros) e.zeros in
      let in_limits : T (within limits result) =
      and_both (leb (total length (all_lists result)) limits.actions) (leb (total (total action_values) (all_lists result)) limits.values)
      (le→leb (total length (all_lists result)) limits.actions (rw sum_actions r.actions_fit))
      (le→leb (total (total action_values) (all_lists result)) limits.values (rw sum_values r.values_fit)) in (
        and_both (all (sure ps) rest) (all sure_list ls) t.certain e.certain,
        and_both (shaped limits result) (zero_free result)
            (and_both (pool_first result && all (list_fits k) (all_lists result) && lists_are_utf8 result) (within limits result)
            (and_both (pool_first result && all (list_fits k) (all_lists result)) (lists_are_utf8 result) (and_both (pool_first result) (all (list_fits k) (all_lists result)) first fit) texts) in_limits) zeros,
      )

  pub needed : T (all (sure ps) (pool ∷ rest) && all sure_list ls) → T rules → Right limits ss ps rest ls
  needed s r =
      let shape : T (shaped limits result) = and_first (shaped limits result) (zero_free result) r in
      let zeros : T (zero_free result) = and_second (shaped limits result) (zero_free result) r in
      let a : Bool = pool_first result in
      let b : Bool = all (list_fits k) (all_lists result) in
      let three : T (a && b && lists_are_utf8 result) = and_first (a && b && lists_are_utf8 result) (within limits result) shape in
      let in_limits : T (within limits result) = and_second (a && b && lists_are_utf8 result) (within limits result) shape in
      let texts : T (lists_are_utf8 result) = and_second (a && b) (lists_are_utf8 result) three in
      let first : T (pool_first result) = and_first a b (and_first (a && b) (lists_are_utf8 result) three) in
      let fit : T (all (list_fits k) (all_lists result)) = and_second a b (and_first (a && b) (lists_are_utf8 result) three) in
      let top-texts : T (all in_utf8 top) = and_first (all in_utf8 top) (all (all in_utf8) (fixed_lists ls)) texts in
      let top-zeros : T (all zero_less top) = and_first (all zero_less top) (all (all zero_less) (fixed_lists ls)) zeros in
      let t = from_tests ps k n rest (record {
        certain = and_first (all (sure ps) rest) (all sure_list ls) s;
        pool_free = and_first (all no_pool tail) (all (all no_pool) (fixed_lists ls)) first;
        fit = subst (λ (m : ℕ). T (all (fits k m) tail)) top_length (and_first (list_fits k top) (all (list_fits k) (fixed_lists ls)) fit);
        texts = and_second (all utf8 ss) (all in_utf8 tail) top-texts;
        zeros = and_second (all no_zero ss) (all zero_less tail) top-zeros;
      }) in
      let e = from_each k ls (record {
        certain = and_second (all (sure ps) rest) (all sure_list ls) s;
        pool_free = and_second (all no_pool tail) (all (all no_pool) (fixed_lists ls)) first;
        fit = and_second (list_fits k top) (all (list_fits k) (fixed_lists ls)) fit;
        texts = and_second (all in_utf8 top) (all (all in_utf8) (fixed_lists ls)) texts;
        zeros = and_second (all zero_less top) (all (all zero_less) (fixed_lists ls)) zeros;
      }) in
      record {
        actions_fit = rw sum_actions at (leb→le (total length (all_lists result)) limits.actions
            (and_first (leb (total length (all_lists result)) limits.actions) (leb (total (total action_values) (all_lists result)) limits.values) in_limits));
        values_fit = rw sum_values at (leb→le (total (total action_values) (all_lists result)) limits.values
            (and_second (leb (total length (all_lists result)) limits.actions) (leb (total (total action_values) (all_lists result)) limits.values) in_limits));
        top_goes = t.0;
        top_holds = t.1;
        list_goes = all_go ls e;
        list_holds = all_hold ls e;
        pool_texts = and_first (all utf8 ss) (all in_utf8 tail) top-texts;
      }

-- decoding, by what the top list's code spreads to

made_law : (limits : Limits) (x : Option Code) (t : Bool) (u : Spread) → Option.map (spread 0 0) x ≡ given t (some u) →
    and_then x (λ c. tested limits (lists_of_outcome c)) ≡ given t (tested limits (lists_within u))
made_law limits none true u e = never u e
made_law limits none false u e = refl
made_law limits (some c) true u e = ap (tested limits) (spread_lists c ∙ ap lists_within (some_of e))
made_law limits (some c) false u e = never (spread 0 0 c) (sym e)

code_of : (x : Option Code) (t : Bool) (u : Spread) → Option.map (spread 0 0) x ≡ given t (some u) → T t → (c : Code) × (spread 0 0 c ≡ u)
code_of none true u e h = never u e
code_of none false u e h = absurd h
code_of (some c) true u e h = (c, some_of e)
code_of (some c) false u e h = absurd h

from_zero : (rs : List ℕ) → 0 ≡ 0 + position rs 0
unfolding position
from_zero rs = omega arith

entries_of_lem : (c : Code) → entries_read (lists_of_outcome c) ≡ map stored (plainly (spread 0 0 c).lists ++ ((spread 0 0 c).own ∷ []))
unfolding entries_read pieces_read
entries_of_lem c =
    let h = spread_placed 0 0 c in
    rw (nest_flat c, h.0, h.1) (stored_map (plainly (spread 0 0 c).lists ++ ((spread 0 0 c).own ∷ [])))

settled_lists : (ls : List Ended) → map stored (plainly (map fixed_list ls)) ≡ map settled ls
unfolding settled
settled_lists [] = refl
settled_lists (l ∷ ls) = ap₂ (λ (x : List Entry) (r : List (List Entry)). x ∷ r) (sym (raw_settles (bounds l) l.actions)) (settled_lists ls)

module _ (limits : Limits) (b : Bytes) (c : Code) (is-top : read_top b ≡ some c) where
  abbrev ps : List ℕ
  ps = froms 0 (sizes c)

  abbrev own : List Placed
  own = (spread 0 0 c).own

  abbrev ls : List Ended
  ls = (spread 0 0 c).lists

  abbrev all_sure : Bool
  all_sure = all (sure ps) own && all sure_list ls

  abbrev after : Spread
  after = spread_of (map (fixed ps) own) (map fixed_list ls)

  placed_all : Option.map (spread 0 0) (from_offset c) ≡ given all_sure (some after)
  placed_all = places_law 0 (sizes c) (sizes_fill c) 0 0 0 c refl (from_zero (sizes c))

  pub decoded : decode limits b ≡ given all_sure (tested limits (lists_within after))
  unfolding decode
  decoded = rw is-top (made_law limits (from_offset c) all_sure after placed_all)

  abbrev top_ended : Ended
  top_ended = ended_at own (0 + length (code_bytes c))

  top_settled : stored (map (fixed ps) own) ≡ settled top_ended
  unfolding settled
  top_settled = sym (rw (bounds_are 0 0 c) (raw_settles ps own))

  -- the entries of the lists that are read
  pub read_entries : T all_sure → entries_read (lists_within after) ≡ map settled (ls ++ (top_ended ∷ []))
  read_entries t =
      let x = code_of (from_offset c) all_sure after placed_all t in
      let l : lists_of_outcome x.0 ≡ lists_within after = spread_lists x.0 ∙ ap lists_within x.1 in
      ap entries_read (sym l) ∙ entries_of_lem x.0 ∙ ap (λ (s : Spread). map stored (plainly s.lists ++ (s.own ∷ []))) x.1
      ∙ map_append stored (plainly (map fixed_list ls)) (map (fixed ps) own ∷ [])
      ∙ ap₂ (λ (u : List (List Entry)) (v : List Entry). u ++ (v ∷ [])) (settled_lists ls) top_settled
      ∙ sym (map_append settled ls (top_ended ∷ []))
