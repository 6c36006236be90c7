-- What an entry more in the list under construction does to the state that the words stand for.
use Prim.Native.Nat.{ℕ, zero, suc, ◌+◌, ◌-◌, ◌≤◌, ◌<◌}
use mathlib.Core.Path.{◌≡◌, refl, ap}
use mathlib.Core.Logic.{◌≢◌}
use mathlib.Core.List.{List, [], ◌∷◌}
use mathlib.Core.Bool.{Bool, true, false}
use native.Mathlib.Omega.{arith}
use lib.Dec.{T, leb, eqb}
use lib.ListN.{length, get_or, take, drop, length-take}
use borrow.Author.Tests.{lt-ltb, le-ltb, eqb-true, eqb-false, leb-true, leb-false}
use Rattle.std.specs.Prelude.{Option, Some, IsNone}
use Rattle.pcode.specs.Pcode.{Value, Branching, Action, Item, Delta, moved}
use Rattle.lowering.specs.Builder.{State, M, refused, with_items, with_labels, action_with_stack_delta}
use Rattle.list_slice.specs.Entry.{Piece, Entry, entry, entry_of, piece_of}
use Rattle.list_slice.specs.Words.{entry_at, run, cut}
use Rattle.list_slice.specs.Items.{added, gathered}
use Rattle.list_slice.specs.File.{in_file}
use Rattle.list_slice.proofs.Pieces.{piece_back}
use Rattle.list_slice.proofs.Laid.{Rising, rising_le}
use Rattle.codegen_state.specs.declared.Stop.{Stop}
use Rattle.codegen_state.specs.declared.Stop.TheVariants.{TooMany}
use Rattle.codegen_state.specs.declared.BuilderState.{BuilderState}
use Rattle.codegen_state.specs.Stop.{number_of}
use Rattle.codegen_state.specs.View.{gather, labels_of, ends_of, pool_of, open_of, state, waiting, holds, held, carry, after, good}
use Rattle.codegen_state.specs.Does.{marked, Written, Begins, Fine, Named, Does, Says}
use Rattle.codegen_state.proofs.Steps.{held_stopped, held_holds}
use Rattle.codegen_state.proofs.Index.{indexed_same}
use Rattle.builder.specs.Entries.{put3, grown, Grown, refused_with}
use Rattle.builder.specs.Runs.{Emits}
use Rattle.builder.proofs.Codes.{op_code, value_to}
use Rattle.builder.proofs.Words.{length_put, entry_same, entry_other, getD_put, side_put}

-- a refusal, labels more, or a smaller stack size

abbrev pub changed : BuilderState → Option Stop → (labels size : ℕ) → BuilderState
changed b n l z = record {
  refused = n;
  actions = b.actions;
  values = b.values;
  labels = l;
  marks = b.marks;
  constants = b.constants;
  total = b.total;
  lists = b.lists;
  size = z;
  sizes = b.sizes;
  low = b.low;
  top = b.top;
  base = b.base;
}

pub changed_fine : {b : BuilderState} {w : List ℕ} (n : Option Stop) (l z : ℕ) → Fine b w → b.labels ≤ l → l ≤ 1024 → z ≤ b.size → b.marks ≡ marked (take l (drop 12288 w)) → Fine (changed b n l z) w
changed_fine n l z f least most small ms = record {
  long = f.long;
  low = f.low;
  base = f.base;
  cap = f.cap;
  bottom = f.bottom;
  used = f.used;
  actions = f.actions;
  values = f.values;
  labels = most;
  marks = ms;
  size = omega (arith, f.size);
  lists = f.lists;
  constants = f.constants;
  total = f.total;
  ends = f.ends;
  gap = f.gap;
  pool_entry = f.pool_entry;
  written_low = f.written_low;
  written_top = f.written_top;
  later = f.later;
  first = f.first;
  no_label = λ i x y. f.no_label i (omega arith) y;
  no_end = f.no_end;
  no_string_lem = f.no_string_lem;
}

pub changed_named : {F : List ℕ} {b : BuilderState} {w : List ℕ} (n : Option Stop) (l z : ℕ) → Named F b w → Named F (changed b n l z) w
changed_named n l z x = record { finished = x.finished; unfinished = x.unfinished; strings = x.strings; indexed = x.indexed }

-- a refusal

pub refused_fine : {b : BuilderState} {w : List ℕ} (x : Stop) → Fine b w → Fine (refused_with b x) w
refused_fine {b} x f = changed_fine (Some x) b.labels b.size f (omega arith) f.labels (omega arith) f.marks

pub refuses_in : {A : Type 0} (F : List ℕ) (m : M A) (a : A) {b : BuilderState} (x : Stop) {w : List ℕ} {s : State} → Fine b w → IsNone b.refused → m (state F b w) ≡ refused (number_of x) s →
    Does F m b w a (refused_with b x) w
unfolding after carry
refuses_in F m a {b} x {w} f h e = record {
  same = rw (held_holds F (tt {0}) b w h, e, held_stopped F a (refused_with b x) w refl);
  fine = refused_fine x f;
  named = changed_named (Some x) b.labels b.size;
}

-- a step that is refused in the state before it
pub refuses : {A : Type 0} (F : List ℕ) (m : M A) (a : A) {b : BuilderState} (x : Stop) {w : List ℕ} → Fine b w → IsNone b.refused → m (state F b w) ≡ refused (number_of x) (state F b w) →
    Does F m b w a (refused_with b x) w
refuses F m a x f h e = refuses_in F m a x f h e

-- the room

pub marked_le : (xs : List ℕ) → marked xs ≤ length xs
unfolding marked
marked_le [] = omega arith
marked_le (zero ∷ xs) = omega (arith, marked_le xs)
marked_le (suc n ∷ xs) = omega (arith, marked_le xs)

pub marks_le : {b : BuilderState} {w : List ℕ} → Fine b w → b.marks ≤ b.labels
marks_le {b} {w} f = omega (arith, f.marks, marked_le (labels_of b w), length-take b.labels (drop 12288 w))

pub room_action : {b : BuilderState} {w : List ℕ} → Fine b w → b.actions < 1024 → b.low < b.top
room_action f h = omega (arith, marks_le f, f.used, f.values, f.labels)

pub room_value : {b : BuilderState} {w : List ℕ} → Fine b w → b.values < 2048 → b.low < b.top
room_value f h = omega (arith, marks_le f, f.used, f.actions, f.labels)

-- entries that are the same in other words

pub run_same : (w w' : List ℕ) (i n : ℕ) → ((j : ℕ) → i ≤ j → j < i + n → entry_at w' j ≡ entry_at w j) → run w' i n ≡ run w i n
unfolding run
run_same w w' i zero h = refl
run_same w w' i (suc n) h = rw (h i (omega arith) (omega arith), run_same w w' (suc i) n (λ j p q. h j (omega arith) (omega arith)))

pub cut_same : (w w' : List ℕ) (p : ℕ) (es : List ℕ) (low : ℕ) → Rising p es low → ((j : ℕ) → p ≤ j → j < low → entry_at w' j ≡ entry_at w j) → cut w' p es ≡ cut w p es
unfolding cut
cut_same w w' p [] low h k = refl
cut_same w w' p (e ∷ es) low h k =
    let l = rising_le e es low h.1 in
    rw (run_same w w' p (e - p) (λ j x y. k j x (omega (arith, h.0))), cut_same w w' e es low h.1 (λ j x y. k j (omega (arith, h.0)) y))

pub gather_more : (F : List ℕ) (e : Entry) (es : List Entry) → gather F (e ∷ es) ≡ added (in_file F []) (piece_of e) (gather F es)
unfolding gather gathered
gather_more F e es = refl

-- the words have one entry more, at the top, and these label words
pub record Wrote (b : BuilderState) (w : List ℕ) (e : Entry) (labels : List ℕ) (w' : List ℕ) : Type 0 where
  pub long : length w' ≡ length w
  pub here : entry_at w' (b.top - 1) ≡ e
  pub there : (i : ℕ) → i ≢ b.top - 1 → i < 4096 → entry_at w' i ≡ entry_at w i
  pub labels_are : labels_of b w' ≡ labels
  pub ends_are : ends_of b w' ≡ ends_of b w
  pub pool_is : pool_of b w' ≡ pool_of b w
  pub behind : (j : ℕ) → 12288 + b.labels ≤ j → get_or w' j 0 ≡ get_or w j 0

-- a later value joins the list's last entry, which is a value
abbrev pub Joins : BuilderState → List ℕ → (code : ℕ) → Type 0
Joins b w code = 0x120 ≤ code → (b.top < b.base) × (0x110 ≤ (entry_at w b.top).code)

module _ (F : List ℕ) {b : BuilderState} {w w' labels : List ℕ} (p : Piece) (f : Fine b w) (room : b.low < b.top) (wr : Wrote b w (entry_of p) labels w') (n v m z : ℕ) where
  abbrev b' : BuilderState
  b' = grown b n v m z

  open_more : open_of b' w' ≡ entry_of p ∷ open_of b w
  unfolding run
  open_more =
      let e : b.base - (b.top - 1) ≡ suc (b.base - b.top) = omega (arith, f.base) in
      let t : suc (b.top - 1) ≡ b.top = omega arith in
      rw (e, wr.here, t, run_same w w' b.top (b.base - b.top) (λ j x y. wr.there j (λ q. omega arith) (omega (arith, f.base, f.cap))))

  waiting_same : waiting b' w' ≡ waiting b w
  waiting_same = rw (run_same w w' b.base (4096 - b.base) (λ j x y. wr.there j (λ q. omega (arith, f.base)) (omega (arith, f.cap))))

  pub grown_state : state F b' w' ≡ with_items (added (in_file F []) p (gather F (open_of b w))) z n v (with_labels labels (state F b w))
  unfolding state
  grown_state =
      rw (
        open_more,
        gather_more F (entry_of p) (open_of b w),
        piece_back p,
        wr.labels_are,
        wr.ends_are,
        wr.pool_is,
        cut_same w w' 0 (ends_of b w) b.low f.ends (λ j x y. wr.there j (λ q. omega arith) (omega (arith, f.bottom))),
      )

  pub grown_held : IsNone b.refused → held F (tt {0}) b' w' ≡ holds tt (with_items (added (in_file F []) p (gather F (open_of b w))) z n v (with_labels labels (state F b w))) (waiting b w)
  grown_held h = rw (held_holds F (tt {0}) b' w' h, grown_state, waiting_same)

  -- an entry of the list is the new one or one that was there
  at_top : (P : ℕ → Entry → Type 0) (i : ℕ) → b.top - 1 ≤ i → i < 4096 → P (b.top - 1) (entry_of p) → (b.top ≤ i → P i (entry_at w i)) → P i (entry_at w' i)
  at_top P i x y new old = go (eqb i (b.top - 1)) refl
    where
      go : (t : Bool) → eqb i (b.top - 1) ≡ t → P i (entry_at w' i)
      go true e = rw (eqb-true i (b.top - 1) e, wr.here) new
      go false e = let other = eqb-false i (b.top - 1) e in rw (wr.there i other y) (old (omega arith))

  written : (i : ℕ) → b.top - 1 ≤ i → i < 4096 → Written w' i
  written i x y = at_top (λ (i : ℕ) (e : Entry). entry_of (piece_of e) ≡ e) i x y (ap entry_of (piece_back p)) (λ k. f.written_top i k y)

  later_value : Joins b w (entry_of p).code → (i : ℕ) → b.top - 1 ≤ i → i < 4095 → 0x120 ≤ (entry_at w' i).code → 0x110 ≤ (entry_at w' (suc i)).code
  later_value j i x y =
      let t : suc (b.top - 1) ≡ b.top = omega arith in
      at_top (λ (i : ℕ) (e : Entry). 0x120 ≤ e.code → 0x110 ≤ (entry_at w' (suc i)).code) i x (omega arith)
      (λ c. rw (t, wr.there b.top (λ q. omega arith) f.bottom) (j c).1)
      (λ k c. rw (wr.there (suc i) (λ q. omega arith) (omega arith)) (f.later i k y c))

  begins : Joins b w (entry_of p).code → Begins w' b.base
  begins j =
      at_top (λ (i : ℕ) (e : Entry). i ≡ b.base - 1 → e.code < 0x120) (b.base - 1) (omega (arith, f.base)) (omega (arith, f.base, f.cap))
      (λ q. none (entry_of p).code j (omega arith))
      (λ k q. f.first (omega (arith, room)))
      refl
    where
      none : (c : ℕ) → Joins b w c → (b.top < b.base → ⊥) → c < 0x120
      none c h k = go (leb 0x120 c) refl
        where
          go : (t : Bool) → leb 0x120 c ≡ t → c < 0x120
          go true e = absurd (k (h (leb-true 0x120 c e)).0)
          go false e = leb-false 0x120 c e

  pub grown_fine : 1 ≤ n + v + m → b.actions + n ≤ 1024 → b.values + v ≤ 2048 → b.marks + m ≡ marked labels → z + b.sizes ≤ b.actions + n + (b.values + v) →
      Joins b w (entry_of p).code → Fine b' w'
  grown_fine one q r ms s j = record {
    long = rw wr.long f.long;
    low = omega arith;
    base = omega (arith, f.base);
    cap = f.cap;
    bottom = omega (arith, f.bottom);
    used = omega (arith, f.used);
    actions = q;
    values = r;
    labels = f.labels;
    marks = rw wr.labels_are ms;
    size = s;
    lists = omega (arith, f.lists);
    constants = omega (arith, f.constants);
    total = f.total;
    ends = rw wr.ends_are f.ends;
    gap = λ i x y. rw (wr.there i (λ e. omega arith) (omega (arith, f.bottom))) (f.gap i x (omega arith));
    pool_entry = rw (wr.there 4095 (λ e. omega (arith, f.bottom)) (omega arith)) f.pool_entry;
    written_low = λ i x. rw (wr.there i (λ e. omega arith) (omega (arith, f.bottom))) (f.written_low i x);
    written_top = written;
    later = later_value j;
    first = λ x. begins j;
    no_label = λ i x y. rw (wr.behind (12288 + i) (omega arith)) (f.no_label i x y);
    no_end = λ i x y. rw (wr.behind (13312 + i) (omega (arith, f.labels))) (f.no_end i x y);
    no_string_lem = λ i x y. rw (wr.behind (14336 + i) (omega (arith, f.labels))) (f.no_string_lem i x y);
  }

  pub grown_named : T (good F p) → Named F b w → Named F b' w'
  grown_named g x = record {
    finished = λ i k. rw (wr.there i (λ e. omega arith) (omega (arith, f.bottom))) (x.finished i k);
    unfinished = λ i k y. at_top (λ (i : ℕ) (e : Entry). T (good F (piece_of e))) i k (omega arith) (rw (piece_back p) g) (λ q. x.unfinished i q y);
    strings = λ i k. rw (wr.behind (14336 + i) (omega (arith, f.labels))) (x.strings i k);
    indexed = indexed_same (λ i k. wr.behind i (omega (arith, f.labels))) x.indexed;
  }

-- an entry written, and no other word
wrote : {b : BuilderState} {w : List ℕ} (c x y : ℕ) → Fine b w → b.low < b.top → Wrote b w (entry c x y) (labels_of b w) (put3 w (b.top - 1) c x y)
wrote {b} {w} c x y f room =
    let low : b.top - 1 < 4095 = omega (arith, f.bottom) in
    record {
      long = length_put w (b.top - 1) c x y;
      here = entry_same w (b.top - 1) c x y (omega (arith, f.long));
      there = λ i k q. entry_other w (b.top - 1) c x y i k;
      labels_are = rw (side_put w (b.top - 1) c x y 12288 (omega arith));
      ends_are = rw (side_put w (b.top - 1) c x y 13312 (omega arith));
      pool_is = rw (side_put w (b.top - 1) c x y 14336 (omega arith));
      behind = λ j k. getD_put w (b.top - 1) c x y j (λ e. omega arith) (λ e. omega arith) (λ e. omega arith);
    }

-- the entry of a piece
pub wrote_piece : {b : BuilderState} {w : List ℕ} (p : Piece) {c x y : ℕ} → entry_of p ≡ entry c x y → Fine b w → b.low < b.top → Wrote b w (entry_of p) (labels_of b w) (put3 w (b.top - 1) c x y)
wrote_piece p {c} {x} {y} e f room = rw e (wrote c x y f room)

-- actions

-- what adds one action to any items is no later value of a Push
abbrev Adds : List ℕ → Piece → Action → Type 0
Adds F p a = (is : List Item) → added (in_file F []) p is ≡ Item.action a ∷ is

no_later : (F : List ℕ) (p : Piece) (a : Action) → Adds F p a → (entry_of p).code < 0x120
no_later F (Piece.value false v) a h = absurd (one_item (h (Item.action (Action.push (Value.Null ∷ [])) ∷ [])))
  where
    one_item : {x y z : Item} → x ∷ [] ≡ y ∷ z ∷ [] → ⊥
    one_item e = omega (arith, ap length e)
no_later F (Piece.value true v) a h = omega (arith, value_to 0x110 v)
no_later F (Piece.op o) a h = omega (arith, op_code o)
no_later F (Piece.ConstantPool n) a h = omega arith
no_later F (Piece.StoreRegister r) a h = omega arith
no_later F (Piece.GotoFrame n) a h = omega arith
no_later F (Piece.GotoLabel r) a h = omega arith
no_later F (Piece.GotoFrame2 p) a h = omega arith
no_later F (Piece.branch Branching.Jump l) a h = omega arith
no_later F (Piece.branch Branching.If l) a h = omega arith
no_later F (Piece.function n r) a h = omega arith
no_later F (Piece.mark l) a h = omega arith

pub emits : {F : List ℕ} {c x : ℕ} {a : Action} → Says F c x a → Emits c x
emits {F} {a = a} s = record { piece = s.piece; entry_is = s.entry_is; low = omega (arith, ap (λ (e : Entry). e.code) s.entry_is, no_later F s.piece a s.adds) }

pub emit_full : (F : List ℕ) (a : Action) (d : Delta) {b : BuilderState} {w : List ℕ} → Fine b w → IsNone b.refused → 1024 ≤ b.actions → Does F (action_with_stack_delta a d) b w tt (refused_with b TooMany) w
unfolding action_with_stack_delta state
emit_full F a d {b} f h k = refuses F (action_with_stack_delta a d) tt TooMany f h (simp (le-ltb b.actions 1024 k))

module _ {b r : BuilderState} {w w' : List ℕ} {c x z : ℕ} (f : Fine b w) (small : z ≤ b.size + 1) (k : b.actions < 1024) (g : Grown b w c x 0 1 0 0 z r w') where
  pub emit_fine : Emits c x → Fine r w'
  emit_fine e =
      let room = room_action f k in
      rw (g.new, g.words)
      (grown_fine [] e.piece f room (wrote_piece e.piece e.entry_is f room) 1 0 0 z (omega arith) (omega arith) (omega (arith, f.values)) (omega (arith, f.marks)) (omega (arith, f.size))
      (λ q. absurd (omega (arith, e.low, ap (λ (e : Entry). e.code) e.entry_is))))

  pub emit_done : (F : List ℕ) (a : Action) (d : Delta) → IsNone b.refused → Says F c x a → z ≡ moved d b.size → Does F (action_with_stack_delta a d) b w tt r w'
  unfolding action_with_stack_delta state after carry
  emit_done F a d h s e =
      let p = s.piece in
      let room = room_action f k in
      let wr = wrote_piece p s.entry_is f room in
      rw (g.new, g.words) (record {
        same = rw (grown_held F p f room wr 1 0 0 z h, held_holds F (tt {0}) b w h, lt-ltb b.actions 1024 k, s.adds (gather F (open_of b w)), e);
        fine = rw (g.new, g.words) at (emit_fine (emits s));
        named = grown_named F p f room wr 1 0 0 z s.is_good;
      })
