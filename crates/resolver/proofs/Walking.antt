-- The walks through a list.
use Prim.Native.Nat.{ℕ, zero, suc, ◌+◌, ◌-◌, ◌*◌, ◌≤◌, ◌<◌}
use mathlib.Core.Path.{◌≡◌, refl, sym, ap, ◌∙◌, subst}
use mathlib.Core.List.{List, [], ◌∷◌, ◌++◌}
use mathlib.Core.Bool.{Bool, true, false, cond, ◌&&◌}
use native.Mathlib.Omega.{arith}
use native.Mathlib.Decide.{dec_lt}
use lib.Dec.{ltb, leb, eqb}
use lib.ListN.{length, get_or, set, length-append, length-set}
use lib.Seq.{take-append-le, take-append_seam, take_all, get_or-set_same, get_or-set_other}
use borrow.Author.Tests.{ne_eqb, eqb-true, eqb-false, ltb-false, leb-true}
use Rattle.std.specs.Prelude.{Option, Some, None}
use Rattle.pcode.specs.Pcode.{Item, row_of, Jump, If}
use Rattle.action_format.specs.ByPlace.{actions}
use Rattle.action_format.specs.Offsets.{sum, position}
use Rattle.action_format.proofs.Tests.{All}
use Rattle.list_slice.specs.Entry.{Piece, Null, Undefined, Boolean, String, Register, Float, Integer, Constant, value, Entry, entry_of}
use Rattle.list_slice.specs.Words.{entry_at, run}
use Rattle.list_slice.specs.Items.{References, added, gathered}
use Rattle.resolver.specs.declared.lists.Lists.{Lists}
use Rattle.resolver.specs.declared.walk.Walk.{Walk}
use Rattle.resolver.specs.declared.text.Data.{Data}
use Rattle.resolver.specs.Walk.{start_of, end_of, piece_at, references_in, walked}
use Rattle.resolver.specs.Sizes.{piece_data, measures, all_short, all_clear}
use Rattle.resolver.specs.Texts.{Known, entry_data}
use Rattle.resolver.specs.Steps.{Fine, Standing, begun, joined, unless_long, stepped, Room, bodies, piece_body, stepped_at, Measured, Walked, adds, spots, Placed, placed, marked_at}
use Rattle.resolver.proofs.OpCodes.{op_code, op_says}
use Rattle.resolver.proofs.Entries.{entry_piece}
use Rattle.resolver.proofs.Items.{fine_before, Counts, Stepped, step_law, Grows, same, more, last, grows, short_before, adds_law, Marks, marks, other, marks_law, clear_law, frame_small}

pub standing_at : (l : Lists) {j : ℕ} → j < l.count → Standing l.script.bytes.now l.list.now (start_of l.list.now j) (end_of l.list.now j)
standing_at l h = l.stands.standing _ (omega (arith, l.counted))

-- the body that an entry brings, by its words

body_piece : (sizes : List ℕ) (p : Piece) → cond (eqb (entry_of p).code 256) (get_or sizes (entry_of p).first 0) 0 ≡ piece_body (bodies sizes) p
body_piece sizes (Piece.op o) = let q = op_says (row_of o).code (op_code o) in rw (ne_eqb (row_of o).code 256 (λ e. omega (arith, q.small)))
body_piece sizes (Piece.ConstantPool n) = refl
body_piece sizes (Piece.StoreRegister n) = refl
body_piece sizes (Piece.GotoFrame n) = refl
body_piece sizes (Piece.GotoFrame2 b) = refl
body_piece sizes (Piece.GotoLabel s) = refl
body_piece sizes (Piece.branch Jump l) = refl
body_piece sizes (Piece.branch If l) = refl
body_piece sizes (Piece.function n f) = refl
body_piece sizes (Piece.mark l) = refl
body_piece sizes (value true Null) = refl
body_piece sizes (value true Undefined) = refl
body_piece sizes (value true (Boolean b)) = refl
body_piece sizes (value true (String n)) = refl
body_piece sizes (value true (Register n)) = refl
body_piece sizes (value true (Float n)) = refl
body_piece sizes (value true (Integer n)) = refl
body_piece sizes (value true (Constant n)) = refl
body_piece sizes (value false Null) = refl
body_piece sizes (value false Undefined) = refl
body_piece sizes (value false (Boolean b)) = refl
body_piece sizes (value false (String n)) = refl
body_piece sizes (value false (Register n)) = refl
body_piece sizes (value false (Float n)) = refl
body_piece sizes (value false (Integer n)) = refl
body_piece sizes (value false (Constant n)) = refl

pub step_done : {F w : List ℕ} {e : ℕ} → Known F w e → (sizes : List ℕ) {d : Data} → d ≡ entry_data F w (entry_at w e) →
    {b : ℕ} → b ≡ cond (eqb (entry_at w e).code 256) (get_or sizes (entry_at w e).first 0) 0 → (k : Walk) {r : Option Walk} → r ≡ stepped k (get_or w (e * 3) 0) d.bytes b →
    r ≡ stepped_at F w sizes k e
unfolding entry_at
step_done {F} {w} {e} h sizes q {b} s k t =
    let z : b ≡ piece_body (bodies sizes) (piece_at w e) =
    s ∙ sym (ap (λ (x : Entry). cond (eqb x.code 256) (get_or sizes x.first 0) 0) h.written) ∙ body_piece sizes (piece_at w e) in
    t ∙ rw (z, (entry_piece F w h q).0)

-- one entry more

pub walked_more : (F w : List ℕ) (i end : ℕ) → 0 < i → i ≤ end → walked F w (i - 1) (end - (i - 1)) ≡ added (references_in F w) (piece_at w (i - 1)) (walked F w i (end - i))
unfolding walked run gathered
walked_more F w zero end h k = absurd (omega arith)
walked_more F w (suc i) end h k =
    let e : suc i - 1 ≡ i = omega arith in
    let n : end - i ≡ suc (end - suc i) = omega arith in
    rw (e, n)

pub walked_none : (F w : List ℕ) (end : ℕ) → walked F w end (end - end) ≡ []
unfolding walked run gathered
walked_none F w end = let e : end - end ≡ 0 = omega arith in rw e

-- what is fine as a whole is fine from each entry on
pub fine_down : (F w : List ℕ) (from end n : ℕ) → from + n ≤ end → All Fine (walked F w from (end - from)) → All Fine (walked F w (from + n) (end - (from + n)))
fine_down F w from end zero h k = let e : from + 0 ≡ from = omega arith in rw e k
fine_down F w from end (suc n) h k =
    let j : ℕ = from + suc n in
    let e : j - 1 ≡ from + n = omega arith in
    let r = fine_down F w from end n (omega arith) k in
    fine_before (references_in F w) (piece_at w (j - 1)) (walked F w j (end - j)) (subst (All Fine) (walked_more F w j end (omega arith) h) (rw e r))

module _ {F w : List ℕ} {from end : ℕ} (s : Standing F w from end) where
  pub fine_at : (i : ℕ) → from ≤ i → i ≤ end → All Fine (walked F w i (end - i))
  fine_at i h k = let e : from + (i - from) ≡ i = omega arith in subst (λ (j : ℕ). All Fine (walked F w j (end - j))) e (fine_down F w from end (i - from) (omega arith) s.fine)

  pub fine_next : (i : ℕ) → from < i → i ≤ end → All Fine (added (references_in F w) (piece_at w (i - 1)) (walked F w i (end - i)))
  fine_next i h k = subst (All Fine) (walked_more F w i end (omega arith) k) (fine_at (i - 1) (omega arith) (omega arith))

  -- a record that is too long makes the list so
  pub long_down : (n i : ℕ) → i ≤ end → from + n ≡ i → (B : ℕ → ℕ) → all_short B (walked F w i (end - i)) ≡ false → all_short B (walked F w from (end - from)) ≡ false
  long_down zero i h e B q = let z : i ≡ from = omega arith in rw z at q
  long_down (suc n) i h e B q =
      long_down n (i - 1) (omega arith) (omega arith) B
      (ap (all_short B) (walked_more F w i end (omega arith) h)
      ∙ short_before (references_in F w) B (piece_at w (i - 1)) (walked F w i (end - i)) (fine_next i (omega arith) h) q)

-- where places begin, with one entry more

grown_before : {xs ys : List ℕ} → Grows xs ys → (p : ℕ) → p < length xs → position ys p ≡ position xs p
unfolding position
grown_before same p h = refl
grown_before (more xs m) p h = ap sum (take-append-le p xs (m ∷ []) (omega arith))
grown_before (last xs m n) p h =
    let k : p ≤ length xs = omega (arith, length-append xs (m ∷ [])) in
    ap sum (take-append-le p xs (n ∷ []) k ∙ sym (take-append-le p xs (m ∷ []) k))

grown_there : {xs ys : List ℕ} → Grows xs ys → length xs < length ys → position ys (length xs) ≡ sum xs
unfolding position
grown_there same h = absurd (omega arith)
grown_there (more xs m) h = ap sum (take-append_seam xs (m ∷ []))
grown_there (last xs m n) h = absurd (omega (arith, length-append xs (m ∷ []), length-append xs (n ∷ [])))

grown_few : {xs ys : List ℕ} → Grows xs ys → (length xs ≤ length ys) × (length ys ≤ length xs + 1)
grown_few same = (omega arith, omega arith)
grown_few (more xs m) = (omega (arith, length-append xs (m ∷ [])), omega (arith, length-append xs (m ∷ [])))
grown_few (last xs m n) = (omega (arith, length-append xs (m ∷ []), length-append xs (n ∷ [])), omega (arith, length-append xs (m ∷ []), length-append xs (n ∷ [])))

whole_position : (xs : List ℕ) → position xs (length xs) ≡ sum xs
unfolding position
whole_position xs = ap sum (take_all (length xs) xs (omega arith))

-- the numbers stay small

pub step_room : (k : Walk) (c d b : ℕ) → Room k → (r : Walk) → stepped k c d b ≡ Some r → (r.bytes ≤ k.bytes + 131073) × (r.last ≤ r.bytes)
step_room k c d b h r = one (eqb c 257)
  where
    Small : Walk → Type 0
    Small v = (v.bytes ≤ k.bytes + 131073) × (v.last ≤ v.bytes)

    small : (v : Walk) → Small v → Some v ≡ Some r → Small r
    small v p e = let q : v ≡ r = cc in subst Small q p

    four : (u : Bool) → leb b 65535 ≡ u → d ≤ 65535 → unless_long u (begun k c d b) ≡ Some r → Small r
    four true e n s = let f = frame_small c refl in small (begun k c d b) (omega (arith, leb-true b 65535 e), omega arith) s
    four false e n s = absurd cc

    five : (u : Bool) → d ≤ 65535 → unless_long u (joined k d) ≡ Some r → Small r
    five true n s = small (joined k d) (omega arith, omega (arith, h.last)) s
    five false n s = absurd cc

    three : (u : Bool) → d ≤ 65535 → cond u (unless_long (leb b 65535) (begun k c d b)) (unless_long (leb (k.bytes + d - k.last) 65538) (joined k d)) ≡ Some r → Small r
    three true n s = four (leb b 65535) refl n s
    three false n s = five (leb (k.bytes + d - k.last) 65538) n s

    two : (u : Bool) → leb d 65535 ≡ u →
        cond u (cond (ltb c 0x120) (unless_long (leb b 65535) (begun k c d b)) (unless_long (leb (k.bytes + d - k.last) 65538) (joined k d))) None ≡ Some r → Small r
    two true e s = three (ltb c 0x120) (leb-true d 65535 e) s
    two false e s = absurd cc

    one : (t : Bool) →
        cond t (Some k) (cond (leb d 65535) (cond (ltb c 0x120) (unless_long (leb b 65535) (begun k c d b)) (unless_long (leb (k.bytes + d - k.last) 65538) (joined k d))) None) ≡ Some r → Small r
    one true s = small k (omega arith, h.last) s
    one false s = two (leb d 65535) refl s

-- the walk's loop

pub record WalkInv (F w sizes : List ℕ) (from end i : ℕ) (k : Walk) (starts : List ℕ) : Type 0 where
  pub low : from ≤ i
  pub high : i ≤ end
  pub counts : Counts (bodies sizes) (walked F w i (end - i)) k
  pub few : k.actions ≤ end - i
  pub most : k.bytes ≤ (end - i) * 131073
  pub last : k.last ≤ k.bytes
  pub long : length starts ≡ 4097
  pub begins : (p : ℕ) → p < k.actions → get_or starts p 0 ≡ position (measures (bodies sizes) (walked F w i (end - i))) p

pub walk_start : (F w sizes : List ℕ) {from end : ℕ} (starts : List ℕ) → Standing F w from end → length starts ≡ 4097 → {k : Walk} → (k.actions ≡ 0) × ((k.bytes ≡ 0) × (k.last ≡ 0)) →
    WalkInv F w sizes from end end k starts
unfolding measures all_short
walk_start F w sizes {from} {end} starts s l {k} e =
    let z = walked_none F w end in
    record {
      low = s.order;
      high = omega arith;
      counts = rw z (record { actions = e.0; bytes = e.1.0; last = λ ss m q. absurd (no_last ss m q); short = refl });
      few = omega (arith, e.0);
      most = omega (arith, e.1.0);
      last = omega (arith, e.1.0, e.1.1);
      long = l;
      begins = λ p h. absurd (omega (arith, e.0));
    }
  where
    no_last : (ss : List ℕ) (m : ℕ) → [] ≡ ss ++ (m ∷ []) → ⊥
    no_last ss m q = let z : 0 ≡ length ss + 1 = ap length q ∙ length-append ss (m ∷ []) in omega arith

module _ {F w sizes : List ℕ} {from end i : ℕ} {k : Walk} {starts : List ℕ} (s : Standing F w from end) (v : WalkInv F w sizes from end i k starts) where
  pub walk_room : Room k
  walk_room = record { actions = omega (arith, v.few, v.high, s.cap); bytes = omega (arith, v.most, v.high, s.cap); last = v.last }

  module _ (go_on : from < i) where
    pub walk_known : Known F w (i - 1)
    walk_known = s.known (i - 1) (omega (arith, v.low)) (omega (arith, v.low, v.high))

    abbrev is : List Item
    is = walked F w i (end - i)

    abbrev piece : Piece
    piece = piece_at w (i - 1)

    abbrev is' : List Item
    is' = walked F w (i - 1) (end - (i - 1))

    more_is : is' ≡ added (references_in F w) piece is
    more_is = walked_more F w i end (omega (arith, v.low)) v.high

    fine_is : All Fine (added (references_in F w) piece is)
    fine_is = fine_next s i (omega (arith, v.low)) v.high

    module _ {r : Option Walk} (e : r ≡ stepped_at F w sizes k (i - 1)) where
      walk_step : Stepped (bodies sizes) is' r
      walk_step =
          let q : r ≡ stepped k (entry_of piece).code (piece_data (references_in F w) piece) (piece_body (bodies sizes) piece) =
          e ∙ sym (ap (λ (x : Entry). stepped k x.code (piece_data (references_in F w) piece) (piece_body (bodies sizes) piece)) walk_known.written) in
          rw (more_is, q) (step_law (references_in F w) (bodies sizes) v.counts v.last piece fine_is)

      grown : Grows (measures (bodies sizes) is) (measures (bodies sizes) is')
      grown = rw more_is (grows (references_in F w) (bodies sizes) piece is fine_is)

      pub walk_stop : (starts' : List ℕ) → r ≡ None → Walked (bodies sizes) (walked F w from (end - from)) None starts'
      walk_stop starts' z = record {
        good = λ x y. absurd cc;
        bad = λ y. long_down s (i - 1 - from) (i - 1) (omega (arith, v.high)) (omega (arith, v.low)) (bodies sizes) (walk_step.bad z);
      }

      pub walk_again : {starts' : List ℕ} → starts' ≡ set starts k.actions k.bytes → {x : Walk} → r ≡ Some x → WalkInv F w sizes from end (i - 1) x starts'
      walk_again q {x} z =
          let c = walk_step.good x z in
          let g = grown_few grown in
          let a = v.counts.actions in
          let room = step_room k (entry_at w (i - 1)).code (piece_data (references_in F w) piece) (piece_body (bodies sizes) piece) walk_room x (sym e ∙ z) in
          rw q (record {
            low = omega (arith, v.low);
            high = omega (arith, v.high);
            counts = c;
            few = omega (arith, c.actions, g.1, a, v.few, v.high, v.low);
            most = omega (arith, v.most, v.high, v.low, room.0);
            last = room.1;
            long = length-set starts k.actions k.bytes ∙ v.long;
            begins = λ p h. begins_at p h c (dec_lt p k.actions);
          })
        where
          begins_at : (p : ℕ) → p < x.actions → Counts (bodies sizes) is' x → Dec (p < k.actions) →
              get_or (set starts k.actions k.bytes) p 0 ≡ position (measures (bodies sizes) is') p
          begins_at p h c (yes y) =
              get_or-set_other starts k.actions p k.bytes 0 (λ x. omega arith) ∙ v.begins p y
              ∙ sym (grown_before grown p (omega (arith, v.counts.actions)))
          begins_at p h c (no n) =
              let y : p ≡ k.actions = omega (arith, c.actions, (grown_few grown).1, v.counts.actions) in
              rw y (get_or-set_same starts k.actions k.bytes 0 (omega (arith, v.long, v.few, v.high, s.cap)) ∙ v.counts.bytes
              ∙ sym (ap (position (measures (bodies sizes) is')) v.counts.actions ∙ grown_there grown (omega (arith, c.actions, v.counts.actions))))

  pub walk_done : i ≡ from → {starts' : List ℕ} → starts' ≡ set starts k.actions k.bytes → Walked (bodies sizes) (walked F w from (end - from)) (Some k) starts'
  walk_done z {starts'} q = record {
    good = λ x y. let e : k ≡ x = cc in subst (λ (x : Walk). Measured (bodies sizes) (walked F w from (end - from)) x starts') e (rw (q, ← z) measured);
    bad = λ y. absurd cc;
  }
    where
      at : (p : ℕ) → p ≤ length (measures (bodies sizes) (walked F w i (end - i))) → Dec (p < k.actions) →
          get_or (set starts k.actions k.bytes) p 0 ≡ position (measures (bodies sizes) (walked F w i (end - i))) p
      at p h (yes y) = get_or-set_other starts k.actions p k.bytes 0 (λ x. omega arith) ∙ v.begins p y
      at p h (no y) =
          let x : p ≡ k.actions = omega (arith, v.counts.actions) in
          rw x (get_or-set_same starts k.actions k.bytes 0 (omega (arith, v.long, v.few, v.high, s.cap)) ∙ v.counts.bytes
          ∙ sym (ap (position (measures (bodies sizes) (walked F w i (end - i)))) v.counts.actions ∙ whole_position _))

      measured : Measured (bodies sizes) (walked F w i (end - i)) k (set starts k.actions k.bytes)
      measured = record {
        bytes = v.counts.bytes;
        short = v.counts.short;
        most = walk_room.bytes;
        begins = λ p h. at p h (dec_lt p k.actions);
      }

-- the strings

pub record ClearInv (F w : List ℕ) (from end i : ℕ) (clear : Bool) : Type 0 where
  pub low : from ≤ i
  pub high : i ≤ end
  pub is : clear ≡ all_clear (walked F w i (end - i))

pub clear_start : {F w : List ℕ} {from end : ℕ} → Standing F w from end → ClearInv F w from end end true
unfolding all_clear
clear_start {F} {w} {from} {end} s = record { low = s.order; high = omega arith; is = rw (walked_none F w end) }

module _ {F w : List ℕ} {from end i : ℕ} {clear : Bool} (s : Standing F w from end) (v : ClearInv F w from end i clear) where
  pub clear_known : from < i → Known F w (i - 1)
  clear_known z = s.known (i - 1) (omega (arith, v.low)) (omega (arith, v.low, v.high))

  pub clear_again : (z : from < i) {d : Data} → d ≡ entry_data F w (entry_at w (i - 1)) → ClearInv F w from end (i - 1) (d.clear && clear)
  clear_again z e = record {
    low = omega (arith, v.low);
    high = omega (arith, v.high);
    is = rw ((entry_piece F w (clear_known z) e).1, v.is) (sym (ap all_clear (walked_more F w i end (omega (arith, v.low)) v.high)
        ∙ clear_law (references_in F w) (piece_at w (i - 1)) (walked F w i (end - i)) (fine_next s i (omega (arith, v.low)) v.high)));
  }

-- the marks

pub adds_one : (c : ℕ) → adds c ≤ 1
adds_one c = go (eqb c 257) (ltb c 0x120)
  where
    go : (t u : Bool) → cond t 0 (cond u 1 0) ≤ 1
    go true u = omega arith
    go false true = omega arith
    go false false = omega arith

-- how many actions have been walked
pub record At (F w : List ℕ) (from end i position' : ℕ) : Type 0 where
  pub low : from ≤ i
  pub high : i ≤ end
  pub is : position' ≡ length (actions (walked F w i (end - i)))
  pub few : position' ≤ end - i

pub at_start : {F w : List ℕ} {from end : ℕ} → Standing F w from end → At F w from end end 0
at_start {F} {w} {from} {end} s = record { low = s.order; high = omega arith; is = rw (walked_none F w end); few = omega arith }

code_of : {F w : List ℕ} {e : ℕ} → Known F w e → get_or w (e * 3) 0 ≡ (entry_of (piece_at w e)).code
unfolding entry_at
code_of h = sym (ap (λ (x : Entry). x.code) h.written)

pub at_again : {F w : List ℕ} {from end i p : ℕ} → Standing F w from end → At F w from end i p → from < i → {n : ℕ} → n ≡ adds (get_or w ((i - 1) * 3) 0) → At F w from end (i - 1) (p + n)
at_again {F} {w} {from} {end} {i} {p} s v z {n} e =
    let k = s.known (i - 1) (omega (arith, v.low)) (omega (arith, v.low, v.high)) in
    let a = adds_law (references_in F w) (piece_at w (i - 1)) (walked F w i (end - i)) (fine_next s i (omega (arith, v.low)) v.high) in
    let m : n ≡ adds (entry_of (piece_at w (i - 1))).code = e ∙ ap adds (code_of k) in
    record {
      low = omega (arith, v.low);
      high = omega (arith, v.high);
      is = rw (walked_more F w i end (omega (arith, v.low)) v.high, a, ← m, ← v.is);
      few = omega (arith, v.few, adds_one (get_or w ((i - 1) * 3) 0), v.low, v.high);
    }

pub record MarkInv (w : List ℕ) (from end i position' : ℕ) (places : List ℕ) : Type 0 where
  pub low : from ≤ i
  pub high : i ≤ end
  pub few : position' ≤ end - i
  pub long : length places ≡ 1024
  pub at : (F : List ℕ) → Standing F w from end → At F w from end i position' × Placed (walked F w i (end - i)) places

pub mark_start : (w : List ℕ) (from end : ℕ) (places : List ℕ) → from ≤ end → length places ≡ 1024 → MarkInv w from end end 0 places
unfolding spots
mark_start w from end places h l = record {
  low = h;
  high = omega arith;
  few = omega arith;
  long = l;
  at = λ F s. (at_start s, λ label p ps q e. absurd (nothing (ap length (sym (ap (spots label) (walked_none F w end)) ∙ e))));
}
  where
    nothing : {n : ℕ} → 0 ≡ suc n → ⊥
    nothing e = omega arith

marks_placed : (r : References) (is : List Item) (c a : ℕ) (js : List Item) → Marks r is c a js → (places : List ℕ) → length places ≡ 1024 → Placed is places →
    Placed js (cond (eqb c 257) (placed places a (length (actions is))) places)
unfolding spots
marks_placed r is c a js (other z q) places long h label p ps low e = rw z (h label p ps low (sym (q label) ∙ e))
marks_placed r is c a js (marks m) places long h label p ps low e = go (ltb m 1024) refl (eqb m label) refl e
  where
    here : m ≡ label → length (actions is) ∷ spots label is ≡ p ∷ ps → get_or (set places m (length (actions is))) label 0 ≡ p
    here x e =
        let y : length (actions is) ≡ p = cc in
        rw (x, y) (get_or-set_same places label p 0 (omega arith))

    go : (t : Bool) → ltb m 1024 ≡ t → (u : Bool) → eqb m label ≡ u → cond u (length (actions is) ∷ spots label is) (spots label is) ≡ p ∷ ps →
        get_or (cond t (set places m (length (actions is))) places) label 0 ≡ p
    go true x true y e = here (eqb-true m label y) e
    go true x false y e = get_or-set_other places m label (length (actions is)) 0 (λ z. eqb-false m label y (sym z)) ∙ h label p ps low e
    go false x true y e = absurd (omega (arith, ltb-false m 1024 x, eqb-true m label y))
    go false x false y e = h label p ps low e

-- the table keeps its length whether a label is marked or not; the library has this of each case alone
placed_long : (t u : Bool) (places : List ℕ) (l p : ℕ) → length (cond t (cond u (set places l p) places) places) ≡ length places
placed_long true true places l p = length-set places l p
placed_long true false places l p = refl
placed_long false u places l p = refl

pub mark_again : {w : List ℕ} {from end i p : ℕ} {places : List ℕ} → MarkInv w from end i p places → from < i →
    {places' : List ℕ} → places' ≡ marked_at w places (i - 1) p → {n : ℕ} → n ≡ adds (get_or w ((i - 1) * 3) 0) → MarkInv w from end (i - 1) (p + n) places'
mark_again {w} {from} {end} {i} {p} {places} v z q {n} e =
    rw q (record {
      low = omega (arith, v.low);
      high = omega (arith, v.high);
      few = omega (arith, e, v.few, adds_one (get_or w ((i - 1) * 3) 0), v.low, v.high);
      long = placed_long (eqb (entry_at w (i - 1)).code 257) (ltb (entry_at w (i - 1)).first 1024) places (entry_at w (i - 1)).first p ∙ v.long;
      at = λ F s. (at_again s (v.at F s).0 z e, placed_now F s);
    })
  where
    placed_now : (F : List ℕ) → Standing F w from end → Placed (walked F w (i - 1) (end - (i - 1))) (marked_at w places (i - 1) p)
    placed_now F s =
        let k = s.known (i - 1) (omega (arith, v.low)) (omega (arith, v.low, v.high)) in
        let f = fine_next s i (omega (arith, v.low)) v.high in
        let is = walked F w i (end - i) in
        let m = marks_law (references_in F w) (piece_at w (i - 1)) is f in
        subst (λ (js : List Item). Placed js (marked_at w places (i - 1) p)) (sym (walked_more F w i end (omega (arith, v.low)) v.high))
        (subst (λ (x : Entry). Placed (added (references_in F w) (piece_at w (i - 1)) is) (cond (eqb x.code 257) (placed places x.first p) places)) k.written
        (rw (v.at F s).0.is (marks_placed (references_in F w) is _ _ _ m places v.long (v.at F s).1)))

pub mark_done : {w : List ℕ} {from end i p : ℕ} {places : List ℕ} → MarkInv w from end i p places → i ≡ from → (F : List ℕ) → Standing F w from end →
    Placed (walked F w from (end - from)) places
mark_done {w} {from} {end} {i} {p} {places} v z F s = subst (λ (j : ℕ). Placed (walked F w j (end - j)) places) z (v.at F s).1
