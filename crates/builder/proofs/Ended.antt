-- The end of a function's list: the list moves to the finished ones, and the list before goes on with the function's action.
use Prim.Native.Nat.{ℕ, zero, suc, ◌+◌, ◌-◌, ◌≤◌, ◌<◌}
use mathlib.Core.Path.{◌≡◌, refl, ap, ◌∙◌}
use mathlib.Core.Logic.{◌≢◌}
use mathlib.Core.List.{List, [], ◌∷◌, ◌++◌, map}
use mathlib.Core.Bool.{Bool, true, false}
use native.Mathlib.Omega.{arith}
use lib.Dec.{T, eqb, ltb}
use lib.ListN.{length, get_or, drop, length-take, length-drop, length-map}
use borrow.Author.Tests.{lt-ltb, le-ltb, eqb-true, eqb-false, ltb-true, ltb-false}
use Rattle.std.proofs.Math.Bool.{and-true}
use Rattle.std.specs.Prelude.{IsSome, IsNone}
use Rattle.std.specs.Int.{from_bool}
use Rattle.pcode.specs.Pcode.{Header, Action, Item, moved}
use Rattle.lowering.specs.Builder.{State, refuse, define_delta, defined}
use Rattle.list_slice.specs.Entry.{Entry, entry, entry_of, piece_of}
use Rattle.list_slice.specs.Entry as piece
use Rattle.list_slice.specs.Words.{entry_at, run, cut}
use Rattle.list_slice.specs.File.{header_in, names_function}
use Rattle.list_slice.proofs.Pieces.{piece_back}
use Rattle.list_slice.proofs.Laid.{Rising, length_cut}
use Rattle.list_slice.proofs.Read.{map_append}
use Rattle.codegen_state.specs.declared.Stop.TheVariants.{TooMany}
use Rattle.codegen_state.specs.declared.BuilderState.{BuilderState}
use Rattle.codegen_state.specs.View.{gather, labels_of, ends_of, pool_of, open_of, state, waiting, Held, holds, shut, good}
use Rattle.codegen_state.specs.Does.{Begins, Fine, Named, Ready, Ends}
use Rattle.codegen_state.proofs.Steps.{held_stopped, held_holds}
use Rattle.codegen_state.proofs.Index.{indexed_same}
use Rattle.builder.specs.Entries.{ended, Closed, refused_with}
use Rattle.builder.specs.Move.{Moved}
use Rattle.builder.proofs.Leaves.{refuses, room_action, run_same, cut_same, gather_more}
use Rattle.builder.proofs.Body.{take_run, drop_run}
use Rattle.builder.proofs.Move.{with_end, end_long, end_entry, end_own, end_word, end_is, same_part, side_word, part_more}

-- one list more
pub rising_snoc : (p : ℕ) (es : List ℕ) (low e : ℕ) → Rising p es low → low ≤ e → Rising p (es ++ (e ∷ [])) e
rising_snoc p [] low e h k = (omega arith, refl)
rising_snoc p (x ∷ es) low e h k = (h.0, rising_snoc x es low e h.1 k)

pub cut_snoc : (w : List ℕ) (p : ℕ) (es : List ℕ) (low e : ℕ) → Rising p es low → cut w p (es ++ (e ∷ [])) ≡ cut w p es ++ (run w low (e - low) ∷ [])
unfolding cut
cut_snoc w p [] low e h = rw h
cut_snoc w p (x ∷ es) low e h = ap (λ (z : List (List Entry)). run w p (x - p) ∷ z) (cut_snoc w x es low e h.1)

-- entries moved from elsewhere
pub run_moved : (w w' : List ℕ) (i j n : ℕ) → ((k : ℕ) → k < n → entry_at w' (i + k) ≡ entry_at w (j + k)) → run w' i n ≡ run w j n
unfolding run
run_moved w w' i j zero h = refl
run_moved w w' i j (suc n) h = rw (here, run_moved w w' (suc i) (suc j) n there)
  where
    here : entry_at w' i ≡ entry_at w j
    here = let a : i + 0 ≡ i = omega arith in let b : j + 0 ≡ j = omega arith in rw (a, b) at (h 0 (omega arith))

    there : (k : ℕ) → k < n → entry_at w' (suc i + k) ≡ entry_at w (suc j + k)
    there k q = let a : suc i + k ≡ i + suc k = omega arith in let b : suc j + k ≡ j + suc k = omega arith in rw (a, b) (h (suc k) (omega arith))

pub run_cons : (w : List ℕ) (i n : ℕ) → run w i (suc n) ≡ entry_at w i ∷ run w (suc i) n
unfolding run
run_cons w i n = refl

pub run_snoc : (w : List ℕ) (i n : ℕ) → run w i (suc n) ≡ run w i n ++ (entry_at w (i + n) ∷ [])
unfolding run
run_snoc w i zero = let e : i + 0 ≡ i = omega arith in rw e
run_snoc w i (suc n) = let e : i + suc n ≡ suc i + n = omega arith in rw e (ap (λ (es : List Entry). entry_at w i ∷ es) (run_snoc w (suc i) n))

module _ (w0 : List ℕ) (b : BuilderState) (w : List ℕ) (low base size number up : ℕ) (f : Fine b w0) (a : b.actions < 1024) (i : Moved w0 b.low b.top low b.base w)
    (over : b.base ≤ base) (cap : base ≤ 4096) (less : size ≤ b.sizes) (under : b.base < 4096) (starts : b.base < base → Begins w0 base) (one : up ≤ 1) where
  abbrev ended_words : List ℕ
  ended_words = with_end w b.lists low (b.base - 1) 256 (b.lists + 1) number

  room : b.low < b.top
  room = room_action f a

  at_least : 1 ≤ b.base
  at_least = omega (arith, room, f.base)

  lists_room : b.lists < 1023
  lists_room = omega (arith, f.lists)

  inside : b.base - 1 < 4096
  inside = omega arith

  ended_long : length ended_words ≡ length w0
  ended_long = end_long w b.lists low (b.base - 1) 256 (b.lists + 1) number inside ∙ i.long

  -- the entries: those before, the moved ones, the function's, and those that wait

  ended_entry : (j : ℕ) → j ≢ b.base - 1 → j < 4096 → entry_at ended_words j ≡ entry_at w j
  ended_entry j q k = end_entry w b.lists low (b.base - 1) 256 (b.lists + 1) number inside j q k

  ended_below : (j : ℕ) → j < b.low → entry_at ended_words j ≡ entry_at w0 j
  ended_below j h = ended_entry j (λ e. omega (arith, room, f.base)) (omega (arith, room, f.base)) ∙ i.below j h

  ended_moved : (k : ℕ) → b.low + k < low → entry_at ended_words (b.low + k) ≡ entry_at w0 (b.top + k)
  ended_moved k h = ended_entry (b.low + k) (λ e. omega (arith, room, i.step)) (omega (arith, room, i.step)) ∙ i.moved k h

  ended_own : entry_at ended_words (b.base - 1) ≡ entry 256 (b.lists + 1) number
  ended_own = end_own w b.lists low (b.base - 1) 256 (b.lists + 1) number inside (omega (arith, i.long, f.long))

  ended_above : (j : ℕ) → b.base ≤ j → j < 4096 → entry_at ended_words j ≡ entry_at w0 j
  ended_above j h k = ended_entry j (λ e. omega (arith, at_least)) k ∙ i.above j h

  each_low : (P : Entry → Type 0) → ((j : ℕ) → j < b.low → P (entry_at w0 j)) → ((j : ℕ) → b.top ≤ j → j < b.base → P (entry_at w0 j)) →
      (j : ℕ) → j < low → P (entry_at ended_words j)
  each_low P p q j h = at (ltb j b.low) refl
    where
      at : (c : Bool) → ltb j b.low ≡ c → P (entry_at ended_words j)
      at true z = let o = ltb-true j b.low z in rw (ended_below j o) (p j o)
      at false z =
          let o = ltb-false j b.low z in
          let e : j ≡ b.low + (j - b.low) = omega arith in
          rw (e, ended_moved (j - b.low) (omega arith)) (q (b.top + (j - b.low)) (omega arith) (omega (arith, i.step)))

  each_top : (P : Entry → Type 0) → P (entry 256 (b.lists + 1) number) → (k : ℕ) → k ≤ 4096 → ((j : ℕ) → b.base ≤ j → j < k → P (entry_at w0 j)) →
      (j : ℕ) → b.base - 1 ≤ j → j < k → P (entry_at ended_words j)
  each_top P p k m q j g h = at (eqb j (b.base - 1)) refl
    where
      at : (c : Bool) → eqb j (b.base - 1) ≡ c → P (entry_at ended_words j)
      at true z = rw (eqb-true j (b.base - 1) z, ended_own) p
      at false z = let o = eqb-false j (b.base - 1) z in rw (ended_above j (omega (arith, at_least)) (omega arith)) (q j (omega (arith, at_least)) h)

  -- the tables

  ended_word : (j : ℕ) → 12288 ≤ j → j ≢ 13312 + b.lists → get_or ended_words j 0 ≡ get_or w0 j 0
  ended_word j h q = end_word w b.lists low (b.base - 1) 256 (b.lists + 1) number inside j h q ∙ side_word w0 w i.side j h

  ended_labels : labels_of (ended b base size up low) ended_words ≡ labels_of b w0
  ended_labels = same_part w0 ended_words 12288 b.labels ended_long (λ j k. ended_word (12288 + j) (omega arith) (λ e. omega (arith, f.labels)))

  ended_ends : ends_of (ended b base size up low) ended_words ≡ ends_of b w0 ++ (low ∷ [])
  ended_ends =
      rw (
        part_more ended_words 13312 b.lists (omega (arith, ended_long, f.long, lists_room)),
        end_is w b.lists low (b.base - 1) 256 (b.lists + 1) number inside (omega (arith, i.long, f.long, lists_room)),
        same_part w0 ended_words 13312 b.lists ended_long (λ j k. ended_word (13312 + j) (omega arith) (λ e. omega arith)),
      )

  ended_pool : pool_of (ended b base size up low) ended_words ≡ pool_of b w0
  ended_pool = same_part w0 ended_words 14336 b.constants ended_long (λ j k. ended_word (14336 + j) (omega arith) (λ e. omega (arith, lists_room)))

  -- the lists

  length_ends : length (ends_of b w0) ≡ b.lists
  length_ends = simp (length-take, length-drop) (omega (arith, f.long, lists_room))

  moved_list : run ended_words b.low (low - b.low) ≡ open_of b w0
  moved_list =
      let n : low - b.low ≡ b.base - b.top = omega (arith, i.step) in
      rw n (run_moved w0 ended_words b.low b.top (b.base - b.top) (λ k q. ended_moved k (omega (arith, i.step))))

  ended_lists : cut ended_words 0 (ends_of b w0 ++ (low ∷ [])) ≡ cut w0 0 (ends_of b w0) ++ (open_of b w0 ∷ [])
  ended_lists =
      rw (
        cut_snoc ended_words 0 (ends_of b w0) b.low low f.ends,
        moved_list,
        cut_same w0 ended_words 0 (ends_of b w0) b.low f.ends (λ j p q. ended_below j q),
      )

  ended_open : run ended_words (b.base - 1) (base - (b.base - 1)) ≡ entry 256 (b.lists + 1) number ∷ run w0 b.base (base - b.base)
  ended_open =
      let n : base - (b.base - 1) ≡ suc (base - b.base) = omega (arith, at_least) in
      let m : suc (b.base - 1) ≡ b.base = omega (arith, at_least) in
      rw (
        n,
        run_cons ended_words (b.base - 1) (base - b.base),
        ended_own,
        m,
        run_same w0 ended_words b.base (base - b.base) (λ j p q. ended_above j p (omega arith)),
      )

  ended_behind : run ended_words base (4096 - base) ≡ drop (base - b.base) (run w0 b.base (4096 - b.base))
  ended_behind =
      let e : b.base + (base - b.base) ≡ base = omega arith in
      let n : 4096 - b.base - (base - b.base) ≡ 4096 - base = omega arith in
      rw (drop_run w0 b.base (4096 - b.base) (base - b.base) (omega arith), e, n, run_same w0 ended_words base (4096 - base) (λ j p q. ended_above j (omega arith) (omega arith)))

  pub ended_fine : Fine (ended b base size up low) ended_words
  ended_fine = record {
    long = rw ended_long f.long;
    low = omega (arith, i.step, room);
    base = omega arith;
    cap = cap;
    bottom = omega (arith, at_least);
    used = omega (arith, f.used, i.step, at_least);
    actions = omega arith;
    values = f.values;
    labels = f.labels;
    marks = rw ended_labels f.marks;
    size = omega (arith, f.size);
    lists = omega (arith, f.lists);
    constants = f.constants;
    total = f.total;
    ends = rw ended_ends (rising_snoc 0 (ends_of b w0) b.low low f.ends (omega (arith, i.step, f.base)));
    gap = λ j p q. ended_entry j (λ e. omega arith) (omega arith) ∙ i.gap j p (omega arith);
    pool_entry = ended_above 4095 (omega arith) (omega arith) ∙ f.pool_entry;
    no_label = λ j p q. rw (ended_word (12288 + j) (omega arith) (λ e. omega arith)) (f.no_label j p q);
    no_end = λ j p q. rw (ended_word (13312 + j) (omega arith) (λ e. omega arith)) (f.no_end j (omega arith) q);
    no_string_lem = λ j p q. rw (ended_word (14336 + j) (omega arith) (λ e. omega (arith, lists_room))) (f.no_string_lem j p q);
    written_low = each_low (λ (e : Entry). entry_of (piece_of e) ≡ e) f.written_low (λ j p q. f.written_top j p (omega arith));
    written_top = each_top (λ (e : Entry). entry_of (piece_of e) ≡ e) (ap entry_of (piece_back (piece.function (b.lists + 1) number))) 4096 (omega arith)
        (λ j p q. f.written_top j (omega (arith, f.base)) q);
    later = λ j p q. later_at j (eqb j (b.base - 1)) refl p q;
    first = λ h. ended_first (eqb base b.base) refl;
  }
    where
      later_at : (j : ℕ) → (c : Bool) → eqb j (b.base - 1) ≡ c → b.base - 1 ≤ j → j < 4095 → 0x120 ≤ (entry_at ended_words j).code → 0x110 ≤ (entry_at ended_words (suc j)).code
      later_at j true z p q h = let o : 0x120 ≤ 256 = rw (eqb-true j (b.base - 1) z, ended_own) at h in absurd (omega arith)
      later_at j false z p q h =
          let o = eqb-false j (b.base - 1) z in
          rw (ended_above (suc j) (omega (arith, at_least)) (omega arith))
          (f.later j (omega (arith, at_least, f.base)) q (rw (ended_above j (omega (arith, at_least)) (omega arith)) at h))

      ended_first : (c : Bool) → eqb base b.base ≡ c → Begins ended_words base
      ended_first true z = rw (eqb-true base b.base z, ended_own) (omega arith)
      ended_first false z =
          let o = eqb-false base b.base z in
          rw (ended_above (base - 1) (omega arith) (omega (arith, at_least))) (starts (omega arith))

  module _ (F : List ℕ) (known : T (names_function F number)) (leaves : moved (define_delta (header_in F number)) size ≡ size + up) where
    abbrev shut_state : State
    shut_state = defined (header_in F number) (record { items = gather F (run w0 b.base (base - b.base)); size = size }) (state F b w0)

    ended_number : b.lists + 1 ≡ suc (length (map (gather F) (cut w0 0 (ends_of b w0))))
    ended_number = rw (length-map (cut w0 0 (ends_of b w0)) (gather F), length_cut w0 0 (ends_of b w0), length_ends) (omega arith)

    ended_items : gather F (run ended_words (b.base - 1) (base - (b.base - 1))) ≡
        Item.action (Action.define (header_in F number) (suc (length (map (gather F) (cut w0 0 (ends_of b w0)))))) ∷ gather F (run w0 b.base (base - b.base))
    ended_items =
        rw (ended_open, gather_more F (entry 256 (b.lists + 1) number) (run w0 b.base (base - b.base)), piece_back (piece.function (b.lists + 1) number), ended_number)

    ended_state : state F (ended b base size up low) ended_words ≡ shut_state
    unfolding state
    ended_state =
        rw (ended_items, ended_labels, ended_ends, ended_lists, map_append (gather F) (cut w0 0 (ends_of b w0)) (open_of b w0 ∷ []), ended_pool, leaves)

    ended_step : ◌≡◌ {A = Held (Unit {0})} (holds (tt {0}) shut_state (record { entries = drop (base - b.base) (run w0 b.base (4096 - b.base)); sizes = b.sizes - size }))
        (shut F (header_in F number) (base - b.base) size (holds (tt {0}) (state F b w0) (waiting b w0)))
    unfolding shut state
    ended_step = rw (take_run w0 b.base (4096 - b.base) (base - b.base) (omega arith), lt-ltb _ _ a)

    ended_named : Named F b w0 → Named F (ended b base size up low) ended_words
    ended_named n = record {
      finished = each_low (λ (e : Entry). T (good F (piece_of e))) n.finished (λ j p q. n.unfinished j p (omega arith));
      unfinished = each_top (λ (e : Entry). T (good F (piece_of e))) own 4095 (omega arith) (λ j p q. n.unfinished j (omega (arith, f.base)) q);
      strings = λ j p. rw (ended_word (14336 + j) (omega arith) (λ e. omega (arith, lists_room))) (n.strings j p);
      indexed = indexed_same (λ j p. ended_word j (omega arith) (λ e. omega (arith, lists_room))) n.indexed;
    }
      where
        own : T (good F (piece_of (entry 256 (b.lists + 1) number)))
        own = rw (piece_back (piece.function (b.lists + 1) number), and-true (names_function F number)) known

    pub ended_done : IsNone b.refused → Ends F (header_in F number) b w0 base size (ended b base size up low) ended_words
    ended_done h = record {
      same = rw (held_holds F (tt {0}) (ended b base size up low) ended_words h, held_holds F (tt {0}) b w0 h, ended_state, ended_behind) ended_step;
      fine = ended_fine;
      named = ended_named;
    }

pub end_stays : (F : List ℕ) (h : Header) (b : BuilderState) (w : List ℕ) (base size : ℕ) → IsSome b.refused → Fine b w → Ends F h b w base size b w
unfolding shut
end_stays F h b w base size n f = record { same = rw (held_stopped F (tt {0}) b w n); fine = f; named = λ x. x }

pub end_full : (F : List ℕ) (h : Header) (b : BuilderState) (w : List ℕ) (base size : ℕ) → IsNone b.refused → 1024 ≤ b.actions → Fine b w → Ends F h b w base size (refused_with b TooMany) w
unfolding shut state refuse
end_full F h b w base size n k f =
    let d = refuses F (refuse 8) (tt {0}) {b = b} TooMany {w = w} f n refl in
    record {
      same = rw (held_stopped F (tt {0}) (refused_with b TooMany) w refl, held_holds F (tt {0}) b w n, le-ltb _ _ k);
      fine = d.fine;
      named = d.named;
    }

-- The library has no bound of a bool as a number, and `omega` reads none off `from_bool`.
pub one_most : (b : Bool) → from_bool b ≤ 1
one_most true = omega arith
one_most false = omega arith

module _ (up : Bool) {b r : BuilderState} {w w' : List ℕ} {base size number : ℕ} (f : Fine b w) (n : IsNone b.refused) (a : b.actions < 1024) (y : Ready b w base size) (c : Closed b w base size number (from_bool up) r w') where
  pub closed_fine : Fine r w'
  closed_fine = let z = y n in rw (c.new, c.words) (ended_fine w b c.moved c.low base size number (from_bool up) f a c.moves z.0 z.1 z.2 z.3 z.4 (one_most up))

  pub closed_ends : (F : List ℕ) → T (names_function F number) → moved (define_delta (header_in F number)) size ≡ size + from_bool up → Ends F (header_in F number) b w base size r w'
  closed_ends F h e = let z = y n in rw (c.new, c.words) (ended_done w b c.moved c.low base size number (from_bool up) f a c.moves z.0 z.1 z.2 z.3 z.4 (one_most up) F h e n)
