-- Lists within the limits have room in the slice, so that its words and the bytes say them.
use Prim.Native.Nat.{ℕ, suc, ◌+◌, ◌<◌, ◌≤◌}
use mathlib.Core.Path.{◌≡◌, refl, sym, ap, subst, ◌∙◌}
use mathlib.Core.List.{List, [], ◌∷◌, ◌++◌, map, reverse}
use mathlib.Core.Bool.{◌&&◌}
use mathlib.Core.Option.{some}
use native.Mathlib.Omega.{arith}
use lib.Dec.{T, leb, leb→le}
use lib.ListN.{length, length-map, length-append, length-reverse}
use Rattle.pcode.specs.Pcode.{Value, Action, Item, Plain}
use Rattle.lowering.specs.Builder as lowering
use Rattle.action_format.specs.Lists.{Lists, all_lists, all, simple}
use Rattle.action_format.specs.Strings.{lists_are_utf8}
use Rattle.action_format.specs.Rules.{Limits, list_fits, pool_first, pool_count, total, action_values, within, OfLowering}
use Rattle.action_format.specs.Code.{Code, end, act, fun, nest, code, flat, lists_of_outcome}
use Rattle.action_format.specs.Bytes.{Bytes, value_bytes}
use Rattle.action_format.specs.Decode.{decode}
use Rattle.action_format.proofs.Tests.{and_first, and_second}
use Rattle.action_format.proofs.Numbers.{flat_nest}
use Rattle.action_format.proofs.Sound.{sound}
use Rattle.list_slice.specs.Entry.{Entry, Piece, entries_of, piece_of}
use Rattle.list_slice.specs.Words.{units, slice_length, joined, LastFilled, Fits, entries_in}
use Rattle.list_slice.specs.Items.{References, push_pieces, action_pieces, items_of}
use Rattle.list_slice.specs.Read.{Placed, PlacedLists, placed, values_from, chosen_at, placed_in_order, all_placed, pieces_read, entries_read, read_words, in_bytes, lists_read}
use Rattle.list_slice.proofs.Parse.{recovered}
use Rattle.list_slice.proofs.Pieces.{pieces_back}
use Rattle.list_slice.proofs.Determined.{numbered_finishing}
use Rattle.list_slice.proofs.Read.{actions, map_append, placed_flat, read_says}

-- an action has an entry, or as many as it has values

pub from_length : (p : ℕ) (vs : List Value) → length (values_from p vs) ≡ length vs
unfolding values_from
from_length p [] = refl
from_length p (v ∷ vs) = ap suc (from_length (p + length (value_bytes v)) vs)

values_length : (p : ℕ) (vs : List Value) → length (push_pieces (values_from p vs)) ≡ length vs
unfolding values_from
values_length p [] = refl
values_length p (v ∷ vs) = ap suc (length-map (values_from (p + length (value_bytes v)) vs) _ ∙ from_length (p + length (value_bytes v)) vs)

action_length : (p : ℕ) (a : Action) → length (action_pieces (chosen_at p) a) ≤ suc (action_values a)
action_length p (Action.plain q) = omega arith
action_length p (Action.push vs) = rw (values_length (p + 3) vs) (omega arith)
action_length p (Action.branch b l) = omega arith
action_length p (Action.define h n) = omega arith

abbrev pub stored : List Placed → List Entry
stored xs = entries_of (reverse (placed_in_order xs))

stored_length : (xs : List Placed) → length (stored xs) ≡ length (placed_in_order xs)
unfolding entries_of
stored_length xs = length-map (reverse (placed_in_order xs)) _ ∙ length-reverse (placed_in_order xs)

pub stored_map : (ls : List (List Placed)) → map entries_of (map (λ (xs : List Placed). reverse (placed_in_order xs)) ls) ≡ map stored ls
stored_map [] = refl
stored_map (xs ∷ ls) = ap (λ (r : List (List Entry)). stored xs ∷ r) (stored_map ls)

list_length : (xs : List Placed) → length (placed_in_order xs) ≤ length (actions xs) + total action_values (actions xs)
unfolding placed_in_order
list_length [] = omega arith
list_length (a ∷ xs) =
    rw (length-append (action_pieces (chosen_at a.position) a.action) (placed_in_order xs)) (omega (arith, action_length a.position a.action, list_length xs))

entries_total : (ls : List (List Placed)) → length (joined (map stored ls)) ≤ total length (map actions ls) + total (total action_values) (map actions ls)
unfolding joined
entries_total [] = omega arith
entries_total (xs ∷ ls) = rw (length-append (stored xs) (joined (map stored ls)), stored_length xs) (omega (arith, list_length xs, entries_total ls))

total_last : {A : Type 0} (f : A → ℕ) (xs : List A) (y : A) → total f (xs ++ (y ∷ [])) ≡ total f (y ∷ xs)
total_last f [] y = refl
total_last f (x ∷ xs) y = rw (total_last f xs y) (omega arith)

pub total_append : (xs ys : List (List Action)) → total length (xs ++ ys) ≡ total length xs + total length ys
total_append [] ys = omega arith
total_append (x ∷ xs) ys = rw (total_append xs ys) (omega arith)

-- a list has an action for each list that finishes in it
fewer : (n : ℕ) (c : Code) → length (flat n c).lists ≤ length (flat n c).own + total length (flat n c).lists
fewer n end = omega arith
fewer n (act a c) = omega (arith, fewer n c)
fewer n (fun h b c) =
    let k = suc (n + length (flat n b).lists) in
    rw (length-append (flat n b).lists ((flat n b).own ∷ (flat k c).lists), total_append (flat n b).lists ((flat n b).own ∷ (flat k c).lists))
    (omega (arith, fewer n b, fewer k c))

-- a list that begins with an action that is no function

pub record Begins (c : Code) : Type 0 where
  pub first : Plain
  pub rest : Code
  pub is : c ≡ act (simple first) rest

begins : (fs : List (List Action)) (xs : List Action) → T (pool_first (record { top = xs; functions = fs })) → Begins (nest (suc (length fs)) fs xs)
unfolding nest
begins fs [] h = absurd h
begins fs (Action.plain p ∷ xs) h = record { first = p; rest = _; is = refl }
begins fs (Action.push vs ∷ xs) h = absurd h
begins fs (Action.branch b p ∷ xs) h = absurd h
begins fs (Action.define x k ∷ xs) h = absurd h

lists_fewer : (c : Code) → Begins c → suc (length (flat 0 c).lists) ≤ length (flat 0 c).own + total length (flat 0 c).lists
lists_fewer c h = rw h.is (omega (arith, fewer 0 h.rest))

own_filled : (c : Code) → Begins c → 0 < length (placed_in_order (placed 0 0 c).own)
unfolding placed placed_in_order
own_filled c h = rw h.is (omega arith)

last_filled : {A : Type 0} (ls : List (List A)) (xs : List A) → 0 < length xs → LastFilled (ls ++ (xs ∷ []))
last_filled [] xs h = h
last_filled (l ∷ []) xs h = h
last_filled (l ∷ m ∷ ls) xs h = last_filled (m ∷ ls) xs h

-- the slice's limits on actions and values are those of the lists
abbrev pub for_read : lowering.Limits → Limits
for_read l = record { actions = l.actions; values = l.values }

module _ (limits : lowering.Limits) (l : Lists) (h : OfLowering (for_read limits) l) where
  abbrev c : Code
  c = code l

  abbrev x : PlacedLists
  x = placed 0 0 c

  abbrev in_limits : T (within (for_read limits) l)
  in_limits = and_second (pool_first l && all (list_fits (pool_count l)) (all_lists l) && lists_are_utf8 l) (within (for_read limits) l) h.tested

  abbrev first_is : T (pool_first l)
  first_is =
      let p = pool_first l in
      let q = all (list_fits (pool_count l)) (all_lists l) in
      and_first p q (and_first (p && q) (lists_are_utf8 l) (and_first (p && q && lists_are_utf8 l) (within (for_read limits) l) h.tested))

  pub actions_fit : total length (all_lists l) ≤ limits.actions
  actions_fit = leb→le _ _ (and_first (leb (total length (all_lists l)) limits.actions) (leb (total (total action_values) (all_lists l)) limits.values) in_limits)

  values_fit : total (total action_values) (all_lists l) ≤ limits.values
  values_fit = leb→le _ _ (and_second (leb (total length (all_lists l)) limits.actions) (leb (total (total action_values) (all_lists l)) limits.values) in_limits)

  same : lists_of_outcome c ≡ l
  same = flat_nest l h.numbered

  same_actions : map actions (all_placed x) ≡ l.functions ++ (l.top ∷ [])
  same_actions =
      rw (map_append actions x.lists (x.own ∷ []), (placed_flat 0 0 c).0, (placed_flat 0 0 c).1)
      (ap (λ (z : Lists). z.functions ++ (z.top ∷ [])) same)

  entries_in_lem : length (joined (map stored (all_placed x))) ≤ units limits
  entries_in_lem =
      let n = entries_total (all_placed x) in
      let n' = rw (same_actions, total_last length l.functions l.top, total_last (total action_values) l.functions l.top) at n in
      omega (arith, n', actions_fit, values_fit)

  lists_within : length (map stored (all_placed x)) ≤ limits.actions
  lists_within =
      let n : suc (length l.functions) ≤ length l.top + total length l.functions =
      subst (λ (z : Lists). suc (length z.functions) ≤ length z.top + total length z.functions) same (lists_fewer c (begins l.functions l.top first_is)) in
      let m : length x.lists ≡ length l.functions = sym (length-map x.lists actions) ∙ ap length ((placed_flat 0 0 c).1 ∙ ap (λ (z : Lists). z.functions) same) in
      rw (length-map (all_placed x) stored, length-append x.lists (x.own ∷ [])) (omega (arith, n, m, actions_fit))

  read_is : entries_read l ≡ map stored (all_placed x)
  unfolding entries_read pieces_read
  read_is = stored_map (all_placed x)

  top_filled : LastFilled (map stored (all_placed x))
  top_filled =
      rw (map_append stored x.lists (x.own ∷ []))
      (last_filled (map stored x.lists) (stored x.own) (rw (stored_length x.own) (own_filled c (begins l.functions l.top first_is))))

  -- the lists have room
  pub read_fits : (n : ℕ) → slice_length limits ≤ n → Fits limits (entries_read l) [] [] n
  read_fits n room = rw read_is (record {
    entries_fit = entries_in_lem;
    lists_fit = lists_within;
    labels_fit = omega arith;
    pool_fits = omega arith;
    slice_fits = room;
    last_filled = top_filled;
  })

  pub read_recovered : (n : ℕ) → slice_length limits ≤ n → entries_in limits (read_words limits l n) ≡ entries_read l
  unfolding read_words
  read_recovered n room = recovered limits (entries_read l) [] [] n (read_fits n room)

said_again : (r : References) (pss : List (List Piece)) → map (λ (es : List Entry). items_of r (map piece_of es)) (map entries_of pss) ≡ map (items_of r) pss
said_again r [] = refl
said_again r (ps ∷ pss) = rw (pieces_back ps, said_again r pss)

-- the words and the bytes say the lists that were read
pub read_back : (limits : lowering.Limits) (b : Bytes) (l : Lists) → decode (for_read limits) b ≡ some l → (n : ℕ) → slice_length limits ≤ n →
    lists_read limits b (read_words limits l n) ≡ map (map Item.action) (all_lists l)
unfolding lists_read entries_read
read_back limits b l e n room =
    let s = sound (for_read limits) b l e in
    let h = s.are_lists.of_lowering in
    rw (read_recovered limits l h n room, said_again (in_bytes b) (pieces_read l), read_says (for_read limits) l h (length b) b (s.writes (length b) (omega arith)))
    (numbered_finishing (map (map Item.action) (all_lists l)))
