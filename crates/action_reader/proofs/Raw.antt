-- The entries of a list whose branches hold targets: what each action adds, and how they settle.
use Prim.Native.Nat.{ℕ, ◌+◌, ◌≤◌}
use mathlib.Core.Path.{◌≡◌, refl, sym, ap, ◌∙◌}
use mathlib.Core.List.{List, [], ◌∷◌, ◌++◌, map, reverse, reverse_aux, append_assoc, append-nil, reverse-append}
use mathlib.Core.Bool.{Bool, true, false, ◌&&◌, true≢false}
use native.Mathlib.Omega.{arith}
use lib.Dec.{eqb}
use borrow.Author.Tests.{ne_eqb}
use Rattle.pcode.specs.declared.Op.{Op}
use Rattle.pcode.specs.Pcode.{Branching, Jump, If, Plain, Item, Action, row_of}
use Rattle.action_format.specs.Lists.{all}
use Rattle.list_slice.specs.Entry.{Entry, entry, Piece, Pushed, entry_of, entries_of, value_entry, value, piece_of}
use Rattle.list_slice.specs.Entry as entries
use Rattle.list_slice.specs.Items.{push_pieces, item_pieces, plain_piece}
use Rattle.list_slice.specs.Read.{Placed, at, chosen_at, placed_in_order}
use Rattle.list_slice.proofs.Read.{map_append}
use Rattle.list_slice.proofs.Pieces.{piece_back}
use Rattle.builder.proofs.Codes.{value_from}
use Rattle.action_reader.specs.Walk.{aim, aimed, raw, seek, is_branch, or_zero, settle, found, lands, fixed}
use Rattle.record_reader.proofs.Bools.{all_append}

in_order_append : (xs ys : List Placed) → placed_in_order (xs ++ ys) ≡ placed_in_order xs ++ placed_in_order ys
unfolding placed_in_order
in_order_append [] ys = refl
in_order_append (a ∷ xs) ys =
    rw (in_order_append xs ys) (sym (append_assoc (item_pieces (chosen_at a.position) (Item.action a.action)) (placed_in_order xs) (placed_in_order ys)))

abbrev target : Placed → Placed
target a = at (aimed a) a.position

-- the entries of one action, the last one first
abbrev pub own_entries : Placed → List Entry
own_entries a = map entry_of (reverse (item_pieces (chosen_at a.position) (Item.action (aimed a))))

pub raw_last : (xs : List Placed) (a : Placed) → raw (xs ++ (a ∷ [])) ≡ own_entries a ++ raw xs
unfolding raw entries_of placed_in_order
raw_last xs a =
    let ps : List Piece = item_pieces (chosen_at a.position) (Item.action (aimed a)) in
    rw (
      map_append target xs (a ∷ []),
      in_order_append (map target xs) (target a ∷ []),
      append-nil ps,
      reverse-append (placed_in_order (map target xs)) ps,
      map_append entry_of (reverse ps) (reverse (placed_in_order (map target xs))),
    )

pub raw_none : raw [] ≡ []
unfolding raw entries_of placed_in_order
raw_none = refl

-- which entries are branches

is_op : Piece → Bool
is_op (entries.op o) = true
is_op (entries.value f v) = false
is_op (entries.ConstantPool n) = false
is_op (entries.StoreRegister r) = false
is_op (entries.GotoFrame n) = false
is_op (entries.GotoLabel r) = false
is_op (entries.GotoFrame2 p) = false
is_op (entries.branch b l) = false
is_op (entries.function n r) = false
is_op (entries.mark l) = false

other_code : (o : Op) (c : ℕ) → is_op (piece_of (entry c 0 0)) ≡ false → eqb (row_of o).code c ≡ false
unfolding is_op
other_code o c h = ne_eqb (row_of o).code c (λ e. true≢false (sym (ap is_op (ap (λ (n : ℕ). piece_of (entry n 0 0)) (sym e) ∙ piece_back (entries.op o))) ∙ h))

op_no_branch : (o : Op) → is_branch (row_of o).code ≡ false
unfolding is_op piece_of
op_no_branch o = rw (other_code o 0x99 refl, other_code o 0x9D refl)

value_no_branch : (n : ℕ) (v : Pushed) → 0x110 ≤ n → is_branch (value_entry n v).code ≡ false
value_no_branch n v h =
    rw (ne_eqb (value_entry n v).code 0x99 (λ e. omega (arith, value_from n v)), ne_eqb (value_entry n v).code 0x9D (λ e. omega (arith, value_from n v)))

-- whether the action lands
abbrev pub goes : List ℕ → Placed → Bool
goes ps a = elim a.action [ Action.plain p ↦ true | Action.push vs ↦ true | Action.branch b o ↦ found (seek (aim a.position o) ps) | Action.define h k ↦ true ]

module _ (ps : List ℕ) where
  pub untouched : (e : Entry) → is_branch e.code ≡ false → (lands ps e ≡ true) × (settle ps e ≡ e)
  untouched e h = (rw h, rw h)

  -- a piece with its target, and with its place

  record Moves (p q : Piece) (t : Bool) : Type 0 where
    landed : lands ps (entry_of p) ≡ t
    settled : settle ps (entry_of p) ≡ entry_of q

  stays : (p : Piece) → is_branch (entry_of p).code ≡ false → Moves p p true
  stays p h = record { landed = (untouched (entry_of p) h).0; settled = (untouched (entry_of p) h).1 }

  plain_stays : (q : ℕ) (p : Plain) → Moves (plain_piece (chosen_at q) p) (plain_piece (chosen_at q) p) true
  plain_stays q (Plain.op o) = stays (entries.op o) (op_no_branch o)
  plain_stays q (Plain.ConstantPool ss) = stays (entries.ConstantPool q) refl
  plain_stays q (Plain.StoreRegister r) = stays (entries.StoreRegister r) refl
  plain_stays q (Plain.GotoFrame n) = stays (entries.GotoFrame n) refl
  plain_stays q (Plain.GotoFrame2 p) = stays (entries.GotoFrame2 p) refl
  plain_stays q (Plain.GotoLabel s) = stays (entries.GotoLabel (q + 3)) refl

  value_stays : (f : Bool) (v : Pushed) → Moves (value f v) (value f v) true
  value_stays true v = stays (value true v) (value_no_branch 0x110 v (omega arith))
  value_stays false v = stays (value false v) (value_no_branch 0x120 v (omega arith))

  branch_moves : (b : Branching) (t : ℕ) → Moves (entries.branch b t) (entries.branch b (or_zero (seek t ps))) (found (seek t ps))
  branch_moves Jump t = record { landed = refl; settled = refl }
  branch_moves If t = record { landed = refl; settled = refl }

  -- many pieces

  record Moved (xs ys : List Piece) (t : Bool) : Type 0 where
    landed : all (lands ps) (map entry_of xs) ≡ t
    settled : map (settle ps) (map entry_of xs) ≡ map entry_of ys

  and_true : (t : Bool) → t && true ≡ t
  and_true true = refl
  and_true false = refl

  one_moved : {p q : Piece} {t : Bool} → Moves p q t → Moved (p ∷ []) (q ∷ []) t
  one_moved {t = t} m = record { landed = rw m.landed (and_true t); settled = rw m.settled }

  later_stay : (vs : List Pushed) → Moved (map (value false) vs) (map (value false) vs) true
  later_stay [] = record { landed = refl; settled = refl }
  later_stay (v ∷ vs) =
      let m = value_stays false v in
      let k = later_stay vs in
      record { landed = rw (m.landed, k.landed); settled = rw (m.settled, k.settled) }

  values_stay : (vs : List Pushed) → Moved (push_pieces vs) (push_pieces vs) true
  values_stay [] = record { landed = refl; settled = refl }
  values_stay (v ∷ vs) =
      let m = value_stays true v in
      let k = later_stay vs in
      record { landed = rw (m.landed, k.landed); settled = rw (m.settled, k.settled) }

  action_moved : (a : Placed) → Moved (item_pieces (chosen_at a.position) (Item.action (aimed a)))
      (item_pieces (chosen_at (fixed ps a).position) (Item.action (fixed ps a).action)) (goes ps a)
  action_moved a = go a.action
    where
      go : (x : Action) → Moved (item_pieces (chosen_at a.position) (Item.action (aimed (at x a.position))))
          (item_pieces (chosen_at (fixed ps (at x a.position)).position) (Item.action (fixed ps (at x a.position)).action)) (goes ps (at x a.position))
      go (Action.plain p) = one_moved (plain_stays a.position p)
      go (Action.push vs) = values_stay ((chosen_at a.position).values vs)
      go (Action.branch b o) = one_moved (branch_moves b (aim a.position o))
      go (Action.define h k) = one_moved (stays (entries.function k a.position) refl)

  list_moved : (xs : List Placed) → Moved (placed_in_order (map target xs)) (placed_in_order (map (fixed ps) xs)) (all (goes ps) xs)
  unfolding placed_in_order
  list_moved [] = record { landed = refl; settled = refl }
  list_moved (a ∷ xs) =
      let m = action_moved a in
      let k = list_moved xs in
      let us : List Piece = item_pieces (chosen_at a.position) (Item.action (aimed a)) in
      let vs : List Piece = item_pieces (chosen_at (fixed ps a).position) (Item.action (fixed ps a).action) in
      record {
        landed = rw (map_append entry_of us (placed_in_order (map target xs)), all_append (lands ps) (map entry_of us) (map entry_of (placed_in_order (map target xs))), m.landed, k.landed);
        settled = rw (
          map_append entry_of us (placed_in_order (map target xs)),
          map_append (settle ps) (map entry_of us) (map entry_of (placed_in_order (map target xs))),
          m.settled,
          k.settled,
          map_append entry_of vs (placed_in_order (map (fixed ps) xs)),
        );
      }

  -- the last one first

  all_reverse : {A : Type 0} (f : A → Bool) (xs acc : List A) → all f (reverse_aux xs acc) ≡ all f xs && all f acc
  all_reverse f [] acc = refl
  all_reverse f (x ∷ xs) acc = all_reverse f xs (x ∷ acc) ∙ swap (f x) (all f xs) (all f acc)
    where
      swap : (a b c : Bool) → b && (a && c) ≡ (a && b) && c
      swap true true c = refl
      swap true false c = refl
      swap false true c = refl
      swap false false c = refl

  map_reverse : {A B : Type 0} (f : A → B) (xs acc : List A) → map f (reverse_aux xs acc) ≡ reverse_aux (map f xs) (map f acc)
  map_reverse f [] acc = refl
  map_reverse f (x ∷ xs) acc = map_reverse f xs (x ∷ acc)

  pub raw_lands : (xs : List Placed) → all (lands ps) (raw xs) ≡ all (goes ps) xs
  unfolding raw entries_of
  raw_lands xs =
      rw (map_reverse entry_of (placed_in_order (map target xs)) []) (all_reverse (lands ps) (map entry_of (placed_in_order (map target xs))) []
      ∙ rw (list_moved xs).landed (and_true (all (goes ps) xs)))

  pub raw_settles : (xs : List Placed) → map (settle ps) (raw xs) ≡ entries_of (reverse (placed_in_order (map (fixed ps) xs)))
  unfolding raw entries_of
  raw_settles xs =
      rw (map_reverse entry_of (placed_in_order (map target xs)) [], map_reverse entry_of (placed_in_order (map (fixed ps) xs)) []) (map_reverse (settle ps) (map entry_of (placed_in_order (map target xs))) []
      ∙ ap reverse (list_moved xs).settled)
