-- Values pushed: one joins the Push that ends the list, or begins a Push.
use Prim.Native.Nat.{ℕ, zero, suc, ◌+◌, ◌-◌, ◌*◌, ◌≤◌, ◌<◌}
use mathlib.Core.Path.{◌≡◌, refl, sym, ap, ◌∙◌}
use mathlib.Core.List.{List, [], ◌∷◌}
use mathlib.Core.Bool.{Bool, true, false, true≢false}
use native.Mathlib.Omega.{arith}
use lib.Dec.{T, leb}
use lib.ListN.{get_or}
use borrow.Author.Tests.{lt-ltb, le-ltb, le-leb, leb-true, leb-false}
use Rattle.std.proofs.Math.Bool.{and-true}
use Rattle.std.specs.Prelude.{IsNone}
use Rattle.pcode.specs.Pcode.{Value, Action, Item}
use Rattle.pcode.specs.declared.PushValue.{PushValue}
use Rattle.lowering.specs.Builder.{push, join, ends_in_push}
use Rattle.list_slice.specs.Entry.{Piece, entry_of, piece_of}
use Rattle.list_slice.specs.Entry as said
use Rattle.list_slice.specs.Words.{entry_at, run}
use Rattle.list_slice.specs.Items.{References, value_of, extended, added, gathered}
use Rattle.list_slice.specs.File.{in_file}
use Rattle.list_slice.proofs.Freedom.{begins_push}
use Rattle.codegen_state.specs.declared.Stop.TheVariants.{TooMany}
use Rattle.codegen_state.specs.declared.BuilderState.{BuilderState}
use Rattle.codegen_state.specs.View.{gather, open_of, pushed, value_in, named, state, carry, after}
use Rattle.codegen_state.specs.Does.{Fine, Does}
use Rattle.codegen_state.proofs.Steps.{held_holds}
use Rattle.slice_words.specs.declared.Entry.{Entry}
use Rattle.builder.specs.Entries.{Grown, refused_with}
use Rattle.builder.specs.Values.{IsValue}
use Rattle.builder.proofs.Codes.{is_value, value_from, value_to, value_code}
use Rattle.builder.proofs.Leaves.{refuses, room_value, gather_more, grown_held, grown_fine, grown_named, wrote_piece}

-- the last item is a Push if the last piece is a value

extended_push : (v : Value) (is : List Item) → ends_in_push (extended v is) ≡ true
extended_push v [] = refl
extended_push v (Item.action (Action.push []) ∷ is) = refl
extended_push v (Item.action (Action.push (u ∷ us)) ∷ is) = refl
extended_push v (Item.action (Action.plain p) ∷ is) = refl
extended_push v (Item.action (Action.branch b l) ∷ is) = refl
extended_push v (Item.action (Action.define h n) ∷ is) = refl
extended_push v (Item.mark l ∷ is) = refl

added_push : (r : References) (p : Piece) (is : List Item) → ends_in_push (added r p is) ≡ is_value p
added_push r (Piece.value true v) is = refl
added_push r (Piece.value false v) is = extended_push (value_of r v) is
added_push r (Piece.op o) is = refl
added_push r (Piece.ConstantPool n) is = refl
added_push r (Piece.StoreRegister n) is = refl
added_push r (Piece.GotoFrame n) is = refl
added_push r (Piece.GotoLabel s) is = refl
added_push r (Piece.GotoFrame2 p) is = refl
added_push r (Piece.branch b l) is = refl
added_push r (Piece.function n f) is = refl
added_push r (Piece.mark l) is = refl

code_value : {b : BuilderState} {w : List ℕ} → Fine b w → (i : ℕ) → b.top ≤ i → i < 4096 → leb 0x110 (entry_at w i).code ≡ is_value (piece_of (entry_at w i))
code_value {w = w} f i x y = ap (λ (e : said.Entry). leb 0x110 e.code) (sym (f.written_top i x y)) ∙ value_code (piece_of (entry_at w i))

run_first : (w : List ℕ) (i n : ℕ) → i < n → run w i (n - i) ≡ entry_at w i ∷ run w (suc i) (n - suc i)
unfolding run
run_first w i n h = let e : n - i ≡ suc (n - suc i) = omega arith in rw e

pub joins_none : (F : List ℕ) {b : BuilderState} {w : List ℕ} → Fine b w → b.base ≤ b.top → false ≡ ends_in_push (gather F (open_of b w))
unfolding gather gathered run
joins_none F {b} f h = let e : b.base - b.top ≡ 0 = omega arith in rw e

joins_top : (F : List ℕ) {b : BuilderState} {w : List ℕ} → Fine b w → b.top < b.base → leb 0x110 (entry_at w b.top).code ≡ ends_in_push (gather F (open_of b w))
joins_top F {b} {w} f h =
    code_value f b.top (omega arith) f.bottom
    ∙ sym (added_push (in_file F []) (piece_of (entry_at w b.top)) (gather F (run w (suc b.top) (b.base - suc b.top))))
    ∙ ap ends_in_push (sym (gather_more F (entry_at w b.top) (run w (suc b.top) (b.base - suc b.top))) ∙ ap (gather F) (sym (run_first w b.top b.base h)))

pub joins_code : (F : List ℕ) {b : BuilderState} {w : List ℕ} → Fine b w → b.top < b.base → leb 0x110 (get_or w (b.top * 3) 0) ≡ ends_in_push (gather F (open_of b w))
unfolding entry_at
joins_code F f h = joins_top F f h

joins_where : (F : List ℕ) {b : BuilderState} {w : List ℕ} → Fine b w → ends_in_push (gather F (open_of b w)) ≡ true → (b.top < b.base) × (0x110 ≤ (entry_at w b.top).code)
joins_where F {b} {w} f h = go (leb b.base b.top) refl
  where
    go : (t : Bool) → leb b.base b.top ≡ t → (b.top < b.base) × (0x110 ≤ (entry_at w b.top).code)
    go true e = absurd (true≢false (sym h ∙ sym (joins_none F f (leb-true b.base b.top e))))
    go false e = let k = leb-false b.base b.top e in (k, leb-true 0x110 (entry_at w b.top).code (joins_top F f k ∙ h))

-- a Push that ends the list has a value

abbrev filled : List Item → Bool
filled (Item.action (Action.push (u ∷ us)) ∷ is) = true
filled (Item.action (Action.push []) ∷ is) = false
filled (Item.action (Action.plain p) ∷ is) = false
filled (Item.action (Action.branch b l) ∷ is) = false
filled (Item.action (Action.define h n) ∷ is) = false
filled (Item.mark l ∷ is) = false
filled [] = false

-- a value that joins it is a later one
later_joins : (v : Value) (is : List Item) → filled is ≡ true → (extended v is ≡ join v is) × (filled (extended v is) ≡ true)
later_joins v (Item.action (Action.push (u ∷ us)) ∷ is) h = (refl, refl)
later_joins v (Item.action (Action.push []) ∷ is) h = absurd (true≢false (sym h))
later_joins v (Item.action (Action.plain p) ∷ is) h = absurd (true≢false (sym h))
later_joins v (Item.action (Action.branch b l) ∷ is) h = absurd (true≢false (sym h))
later_joins v (Item.action (Action.define x n) ∷ is) h = absurd (true≢false (sym h))
later_joins v (Item.mark l ∷ is) h = absurd (true≢false (sym h))
later_joins v [] h = absurd (true≢false (sym h))

added_filled : (r : References) (p : Piece) (is : List Item) → is_value p ≡ true → (0x120 ≤ (entry_of p).code → filled is ≡ true) → filled (added r p is) ≡ true
added_filled r (Piece.value true v) is e h = refl
added_filled r (Piece.value false v) is e h = (later_joins (value_of r v) is (h (value_from 0x120 v))).1
added_filled r (Piece.op o) is e h = absurd (true≢false (sym e))
added_filled r (Piece.ConstantPool n) is e h = absurd (true≢false (sym e))
added_filled r (Piece.StoreRegister n) is e h = absurd (true≢false (sym e))
added_filled r (Piece.GotoFrame n) is e h = absurd (true≢false (sym e))
added_filled r (Piece.GotoLabel s) is e h = absurd (true≢false (sym e))
added_filled r (Piece.GotoFrame2 p) is e h = absurd (true≢false (sym e))
added_filled r (Piece.branch b l) is e h = absurd (true≢false (sym e))
added_filled r (Piece.function n f) is e h = absurd (true≢false (sym e))
added_filled r (Piece.mark l) is e h = absurd (true≢false (sym e))

run_filled : (F : List ℕ) {b : BuilderState} {w : List ℕ} → Fine b w → (n i : ℕ) → b.top ≤ i → i + suc n ≡ b.base → is_value (piece_of (entry_at w i)) ≡ true →
    filled (gather F (run w i (suc n))) ≡ true
unfolding run
run_filled F {b} {w} f zero i x e h =
    let c : 0x120 ≤ (entry_at w i).code → ⊥ = λ k. let last : b.base - 1 ≡ i = omega arith in omega (arith, k, rw last at (f.first (omega arith))) in
    ap filled (gather_more F (entry_at w i) []) ∙ added_filled (in_file F []) (piece_of (entry_at w i)) (gather F []) h
    (λ k. absurd (c (rw (f.written_top i x (omega (arith, f.cap))) at k)))
run_filled F {b} {w} f (suc n) i x e h =
    ap filled (gather_more F (entry_at w i) (run w (suc i) (suc n))) ∙ added_filled (in_file F []) (piece_of (entry_at w i)) (gather F (run w (suc i) (suc n))) h
    (λ k. run_filled F f n (suc i) (omega arith) (omega arith) (sym (code_value f (suc i) (omega arith) (omega (arith, f.cap)))
    ∙ le-leb 0x110 (entry_at w (suc i)).code (f.later i x (omega (arith, f.cap)) (rw (f.written_top i x (omega (arith, f.cap))) at k))))

open_filled : (F : List ℕ) {b : BuilderState} {w : List ℕ} → Fine b w → ends_in_push (gather F (open_of b w)) ≡ true → filled (gather F (open_of b w)) ≡ true
open_filled F {b} {w} f h =
    let k = (joins_where F f h).0 in
    let n : b.base - b.top ≡ suc (b.base - suc b.top) = omega arith in
    rw n (run_filled F f (b.base - suc b.top) b.top (omega arith) (omega arith) (sym (code_value f b.top (omega arith) f.bottom) ∙ joins_top F f k ∙ h))

-- the ways of push

module _ (F : List ℕ) (v : PushValue) {b : BuilderState} {w : List ℕ} (f : Fine b w) (h : IsNone b.refused) where
  pub push_full : 2048 ≤ b.values → Does F (push (value_in F v)) b w tt (refused_with b TooMany) w
  unfolding push state
  push_full k = refuses F (push (value_in F v)) tt TooMany f h (simp (le-ltb b.values 2048 k))

  pub push_no_action : b.values < 2048 → {t : Bool} → t ≡ ends_in_push (gather F (open_of b w)) → t ≡ false → 1024 ≤ b.actions → Does F (push (value_in F v)) b w tt (refused_with b TooMany) w
  unfolding push state
  push_no_action k j t n = refuses F (push (value_in F v)) tt TooMany f h (simp (lt-ltb b.values 2048 k, ← j, t, le-ltb b.actions 1024 n))

module _ {v : PushValue} {b r : BuilderState} {w w' : List ℕ} {x : Entry} (f : Fine b w) (is : IsValue v x) (k : b.values < 2048) {t : Bool} (j : (F : List ℕ) → t ≡ ends_in_push (gather F (open_of b w))) where
  module _ (e : t ≡ true) (g : Grown b w (x.code + 16) x.first x.second 0 1 0 (b.size + 1) r w') where
    pub joins_fine : Fine r w'
    joins_fine =
        let room = room_value f k in
        rw (g.new, g.words)
        (grown_fine [] (Piece.value false (pushed v)) f room (wrote_piece (Piece.value false (pushed v)) is.later f room) 0 1 0 (b.size + 1) (omega arith) (omega (arith, f.actions)) (omega arith) (omega (arith, f.marks)) (omega (arith, f.size))
        (λ q. joins_where [] f (sym (j []) ∙ e)))

    pub push_joins : (F : List ℕ) → T (named F v) → IsNone b.refused → Does F (push (value_in F v)) b w tt r w'
    unfolding push state after carry
    push_joins F good h =
        let p = Piece.value false (pushed v) in
        let room = room_value f k in
        let wr = wrote_piece p is.later f room in
        let full = open_filled F f (sym (j F) ∙ e) in
        rw (g.new, g.words) (record {
          same = rw (grown_held F p f room wr 0 1 0 (b.size + 1) h, held_holds F (tt {0}) b w h, lt-ltb b.values 2048 k, ← j F, e, (later_joins (value_in F v) (gather F (open_of b w)) full).0);
          fine = rw (g.new, g.words) at joins_fine;
          named = grown_named F p f room wr 0 1 0 (b.size + 1) (rw (and-true (named F v)) good);
        })

  module _ (e : t ≡ false) (n : b.actions < 1024) (g : Grown b w x.code x.first x.second 1 1 0 (b.size + 1) r w') where
    pub begins_fine : Fine r w'
    begins_fine =
        let room = room_value f k in
        rw (g.new, g.words)
        (grown_fine [] (Piece.value true (pushed v)) f room (wrote_piece (Piece.value true (pushed v)) is.first f room) 1 1 0 (b.size + 1) (omega arith) (omega arith) (omega arith) (omega (arith, f.marks)) (omega (arith, f.size))
        (λ q. absurd (omega (arith, value_to 0x110 (pushed v)))))

    pub push_begins : (F : List ℕ) → T (named F v) → IsNone b.refused → Does F (push (value_in F v)) b w tt r w'
    unfolding push state after carry
    push_begins F good h =
        let p = Piece.value true (pushed v) in
        let room = room_value f k in
        let wr = wrote_piece p is.first f room in
        rw (g.new, g.words) (record {
          same = rw (
            grown_held F p f room wr 1 1 0 (b.size + 1) h,
            held_holds F (tt {0}) b w h,
            lt-ltb b.values 2048 k,
            ← j F,
            e,
            lt-ltb b.actions 1024 n,
            begins_push (value_in F v) (gather F (open_of b w)) (sym (j F) ∙ e),
          );
          fine = rw (g.new, g.words) at begins_fine;
          named = grown_named F p f room wr 1 1 0 (b.size + 1) (rw (and-true (named F v)) good);
        })
