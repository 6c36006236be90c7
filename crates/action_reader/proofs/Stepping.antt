-- Each step of reading.
use Prim.Native.Nat.{ℕ, zero, suc, ◌+◌, ◌-◌, ◌≤◌, ◌<◌}
use mathlib.Core.Path.{◌≡◌, refl, sym, ap, ◌∙◌, subst}
use mathlib.Core.List.{List, [], ◌∷◌, ◌++◌, map, reverse}
use mathlib.Core.Bool.{true, false}
use mathlib.Core.Option.{Option, none, some}
use native.Mathlib.Omega.{arith}
use lib.Dec.{T}
use lib.ListN.{length, take, drop, length-drop, length-append, length-map, length-reverse}
use lib.Seq.{length-take-le, take-take, take_all}
use borrow.Author.Tests.{lt-leb}
use Rattle.hir.specs.Hir.{Str}
use Rattle.pcode.specs.Pcode.{Value, Header, push, define}
use Rattle.lowering.specs.Builder.{limits01}
use Rattle.action_format.specs.Lists.{Single, pushing, single}
use Rattle.action_format.specs.Rules.{Limits, action_values}
use Rattle.action_format.specs.Bytes.{Bytes, single_bytes, header_bytes}
use Rattle.action_format.specs.Readers.{read_bytes}
use Rattle.action_format.specs.Decode.{Record, alone, header, read_record, decode}
use Rattle.list_slice.specs.Entry.{entry, entry_of}
use Rattle.list_slice.specs.Entry as Push
use Rattle.list_slice.specs.Words.{joined, ends_from}
use Rattle.list_slice.specs.Items.{push_pieces}
use Rattle.list_slice.proofs.ReadWords.{from_length}
use Rattle.list_slice.specs.Read.{Placed, at, values_from}
use Rattle.builder.specs.Entries.{put3}
use Rattle.definition.specs.Outcome.{byte_limits}
use Rattle.record_reader.proofs.Laws.{RecordAt, ValuesAt, push_reads}
use Rattle.action_reader.specs.declared.walk.Walk.{Walk}
use Rattle.action_reader.specs.Walk.{Ended, Open, ending, one, valued, bad, holds, raw, settled}
use Rattle.action_reader.specs.State.{depth, is_end, single_after, open_after, push_after}
use Rattle.action_reader.specs.Pushes.{Values, value_entries, Pushed}
use Rattle.action_reader.specs.View.{upper, Framed, Stands}
use Rattle.action_reader.specs.Walked.{ahead, Further, Inside}
use Rattle.action_reader.proofs.Steps.{step_single, step_header, step_short, step_end}
use Rattle.action_reader.proofs.Raw.{own_entries}
use Rattle.action_reader.proofs.Holding.{weight_last, weight_open, held_single, held_open}
use Rattle.action_reader.proofs.Standing.{laid_single, laid_push, laid_open}
use Rattle.action_reader.proofs.Notes.{noted_single, noted_open, kept_depth, kept_open}
use Rattle.action_reader.proofs.Verdict as verdict
use Rattle.action_reader.proofs.Heads.{made}

abbrev pub limits : Limits
limits = byte_limits limits01

frame_inside : (b : Bytes) (fs : List Open) (e : ℕ) → Framed b fs e → e ≤ length b
frame_inside b [] e h = omega (arith, h)
frame_inside b (f ∷ fs) e h = omega (arith, h.1, frame_inside b fs f.stop h.2)

too_short : (n : ℕ) (r : Bytes) → length r < n → read_bytes n r ≡ none
unfolding read_bytes
too_short n r h = rw (lt-leb n (length r) h)

pieces_length : (xs : List Push.Pushed) → length (push_pieces xs) ≡ length xs
pieces_length [] = refl
pieces_length (x ∷ xs) = ap suc (length-map xs (Push.value false))

entries_length : (p : ℕ) (vs : List Value) → length (value_entries p vs) ≡ length vs
entries_length p vs =
    length-map (reverse (push_pieces (values_from p vs))) entry_of ∙ length-reverse (push_pieces (values_from p vs)) ∙ pieces_length (values_from p vs) ∙ from_length p vs

-- progress

pub forward_less : (s s' : Walk) → s'.bytes ≡ s.bytes → s.at < s'.at → s'.at ≤ length s.bytes.now → depth s' ≤ depth s + 1 → ahead s' < ahead s
forward_less s s' e l m d = rw e (omega arith)

pub upward_less : (s s' : Walk) → s'.bytes ≡ s.bytes → s'.at ≡ s.at → depth s' < depth s → ahead s' < ahead s
upward_less s s' e l d = rw (e, l) (omega arith)

module _ {w : List ℕ} {s : Walk} (h : Stands s.bytes.now w s) where
  abbrev b : Bytes
  b = s.bytes.now

  abbrev ss : List Str
  ss = h.strings

  abbrev fs : List Open
  fs = h.around

  abbrev k : ℕ
  k = length ss

  abbrev d : Bytes
  d = take s.span.end b

  abbrev here : Bytes
  here = drop s.at d

  pub end_inside : s.span.end ≤ length b
  end_inside = frame_inside b fs s.span.end h.held.framed

  pub d_length : length d ≡ s.span.end
  d_length = length-take-le s.span.end b end_inside

  pub at_inside : s.at ≤ length d
  at_inside = rw d_length h.held.within

  here_length : length here ≡ s.span.end - s.at
  here_length = length-drop s.at d ∙ ap (λ (n : ℕ). n - s.at) d_length

  -- the state in numbers
  pub record Numbers : Type 0 where
    pub long : 16384 ≤ length w
    pub filled : 0 < s.top
    pub top_cap : s.top ≤ 4096
    pub room : s.low < s.top
    pub whole : s.top ≤ s.span.base
    pub cap : s.span.base ≤ 4096
    pub places_few : length s.table.items ≤ 1024
    pub places_less : s.actions < 1024 → length s.table.items < 1024
    pub near : s.at < 67200000
    pub depth_few : depth s < 1024
    pub lists_few : s.lists < 1024
    pub sum : s.actions + s.values < 4096

  pub numbers : Numbers
  numbers = record {
    long = h.laid.long;
    filled = omega (arith, h.laid.room, h.held.few_actions, h.held.few_values);
    top_cap = omega (arith, h.laid.top, h.laid.base);
    room = omega (arith, h.laid.room, h.held.few_actions, h.held.few_values, h.laid.top, h.laid.base);
    whole = omega (arith, h.laid.top);
    cap = omega (arith, h.laid.base);
    places_few = omega (arith, h.noted.few, h.held.few_actions);
    places_less = λ l. omega (arith, h.noted.few);
    near = omega (arith, h.held.far, h.held.few_actions);
    depth_few = omega (arith, kept_depth h.kept, h.laid.fewer, h.held.few_actions);
    lists_few = omega (arith, h.laid.fewer, h.held.few_actions);
    sum = omega (arith, h.held.few_actions, h.held.few_values);
  }

  -- no record, and no end

  stuck : (gs : List Open) → Framed b gs s.span.end → length gs ≡ depth s → (own : List Placed) (ls : List Ended) (p : ℕ) (r : Bytes) → Inside s → r ≡ here → ending gs own ls p r ≡ none
  stuck [] f l own ls p [] i e = refl
  stuck [] f l own ls p (zero ∷ []) i e =
      let y : drop s.at b ≡ 0 ∷ [] = ap (drop s.at) (sym (rw f (take_all (length b) b (omega arith)))) ∙ sym e in
      let z : true ≡ false = ap is_end (sym y) ∙ i.top (sym l) in
      cc
  stuck [] f l own ls p (zero ∷ (y ∷ r)) i e = refl
  stuck [] f l own ls p (suc y ∷ r) i e = refl
  stuck (g ∷ gs) f l own ls p [] i e =
      let none_left : s.span.end - s.at ≡ 0 = sym here_length ∙ ap length (sym e) in
      absurd (i.body (λ z. omega arith) (omega (arith, h.held.within)))
  stuck (g ∷ gs) f l own ls p (y ∷ r) i e = refl

  pub refuse_nothing : read_record here ≡ none → Inside s → decode limits b ≡ none
  refuse_nothing e i =
      verdict.stopped limits b ss h.held.pool fs h.own h.lists s.at here h.held.left
      (step_end (ending fs) h.own h.lists s.at here e ∙ stuck fs h.held.framed (kept_depth h.kept) h.own h.lists s.at here i refl)

  -- a record that is one too many, or breaks a rule

  abbrev Excess : Placed → Type 0
  Excess a = s.actions + 1 ≤ 1024 → s.values + valued a ≤ 2048 → 1 + bad k a ≤ 1 → ⊥

  excess_single : (a : Single) (r : Bytes) → read_record here ≡ some (alone a, r) → Excess (at (single a) s.at) → decode limits b ≡ none
  excess_single a r e x =
      verdict.refused limits b ss h.held.pool fs (h.own ++ (at (single a) s.at ∷ [])) h.lists (s.at + length (single_bytes a)) r
      (sym (step_single (ending fs) h.own h.lists s.at here a r e) ∙ h.held.left)
      (λ al. x (omega (arith, al.actions, weight_last one fs h.lists h.own (at (single a) s.at), h.held.actions))
      (omega (arith, al.values, weight_last valued fs h.lists h.own (at (single a) s.at), h.held.values))
      (omega (arith, al.good, weight_last (bad k) fs h.lists h.own (at (single a) s.at), h.held.good)))

  excess_header : (x : Header) (size : ℕ) (r : Bytes) → read_record here ≡ some (header x size, r) → Excess (at (define x 0) s.at) → decode limits b ≡ none
  excess_header x size r e z = go (read_bytes size r) refl
    where
      go : (q : Option (Bytes × Bytes)) → read_bytes size r ≡ q → decode limits b ≡ none
      go none q =
          verdict.stopped limits b ss h.held.pool fs h.own h.lists s.at here h.held.left
          (step_short (ending fs) h.own h.lists s.at here x size r e q)
      go (some y) q =
          let g : Open = record { header = x; position = s.at; around = h.own; rest = y.1; stop = s.span.end } in
          verdict.refused limits b ss h.held.pool (g ∷ fs) [] h.lists (s.at + length (header_bytes x size)) y.0
          (sym (step_header (ending fs) h.own h.lists s.at here x size r y.0 y.1 s.span.end e q) ∙ h.held.left)
          (λ al. z (omega (arith, al.actions, weight_open one fs h.lists g, h.held.actions))
          (omega (arith, al.values, weight_open valued fs h.lists g, h.held.values))
          (omega (arith, al.good, weight_open (bad k) fs h.lists g, h.held.good)))

  pub refuse_excess : (x : Record) (r : Bytes) → read_record here ≡ some (x, r) → Excess (made s.at x) → decode limits b ≡ none
  refuse_excess (alone a) r e z = excess_single a r e z
  refuse_excess (header x size) r e z = excess_header x size r e z

  pub refuse_bad : (x : Record) (r : Bytes) → read_record here ≡ some (x, r) → holds k (made s.at x) ≡ false → decode limits b ≡ none
  refuse_bad x r e f = refuse_excess x r e (λ p q z. let y : bad k (made s.at x) ≡ 1 = rw f in omega arith)

  -- a body that is longer than what is left
  pub refuse_short : (x : Header) (size : ℕ) (r : Bytes) → read_record here ≡ some (header x size, r) → read_bytes size r ≡ none → decode limits b ≡ none
  refuse_short x size r e q =
      verdict.stopped limits b ss h.held.pool fs h.own h.lists s.at here h.held.left
      (step_short (ending fs) h.own h.lists s.at here x size r e q)

  -- an action of one entry
  module _ (a : Single) (r : Bytes) (e : read_record here ≡ some (alone a, r)) (q : RecordAt d s.at (alone a) r) (next : ℕ) (n : next ≡ s.at + length (single_bytes a))
      (good : T (holds k (at (single a) s.at))) (few : s.actions < 1024) where
    next_inside : next ≤ s.span.end
    next_inside = omega (arith, q.inside, d_length)

    rest_is : r ≡ drop next d
    rest_is = q.rest ∙ ap (λ (i : ℕ). drop i d) (sym n)

    later : s.at < next
    later = omega (arith, q.later)

    pub single_step : action_values (single a) ≡ 0 → (c f : ℕ) → own_entries (at (single a) s.at) ≡ entry c f 0 ∷ [] → {w' : List ℕ} → w' ≡ put3 w (s.top - 1) c f 0 → {s' : Walk} →
        s' ≡ single_after s next → Further s s' w'
    single_step v c f entries_are x z = rw z (record {
      same = refl;
      stands = record {
        strings = ss;
        around = fs;
        own = h.own ++ (at (single a) s.at ∷ []);
        lists = h.lists;
        held = held_single h.held a r (single_after s next) e n rest_is next_inside q.short good few refl refl (omega (arith, v)) h.held.few_values refl;
        laid = laid_single h.laid numbers.sum (at (single a) s.at) c f 0 entries_are x (single_after s next) refl refl refl refl refl refl;
        noted = noted_single h.noted (at (single a) s.at) refl (single_after s next) refl later refl refl;
        kept = record { saved = h.kept.saved };
      };
      less = forward_less s (single_after s next) refl later (omega (arith, next_inside, end_inside)) (omega arith);
    })

  -- a Push
  module _ (vs : List Value) (r : Bytes) (e : read_record here ≡ some (alone (pushing vs), r)) (q : RecordAt d s.at (alone (pushing vs)) r) (next : ℕ)
      (n : next ≡ s.at + length (single_bytes (pushing vs))) (few : s.actions < 1024) (fit : s.values + length vs ≤ 2048) where
    push_inside : next ≤ s.span.end
    push_inside = omega (arith, q.inside, d_length)

    push_later : s.at < next
    push_later = omega (arith, q.later)

    values_there : ValuesAt (take next b) (s.at + 3) vs
    values_there = subst (λ (z : Bytes). ValuesAt z (s.at + 3) vs) (ap (λ (i : ℕ). take i d) (q.next ∙ sym n) ∙ take-take next s.span.end b push_inside) (push_reads d s.at vs r at_inside e)

    room_left : s.low + length vs ≤ s.top
    room_left = omega (arith, h.laid.room, fit, few, h.laid.top, h.laid.base)

    pub push_needs : Values (take next b) (s.at + 3) s.top
    push_needs = record { values = vs; there = values_there; few = omega (arith, room_left) }

    pub push_step : T (holds k (at (push vs) s.at)) → (m : ℕ) → length vs ≡ m → {w' : List ℕ} {s' : Walk} →
        ((us : List Value) → ValuesAt (take next b) (s.at + 3) us → length us ≡ m → s' ≡ push_after s m next) →
        ((us : List Value) → Pushed (take next b) (s.at + 3) us s.top w s'.top w') → length w' ≡ length w → Further s s' w'
    push_step good m c {w'} {s'} state pushed long = rw (state vs values_there c) (record {
      same = refl;
      stands = record {
        strings = ss;
        around = fs;
        own = h.own ++ (at (push vs) s.at ∷ []);
        lists = h.lists;
        held = held_single h.held (pushing vs) r (push_after s m next) e n (q.rest ∙ ap (λ (i : ℕ). drop i d) (sym n)) push_inside q.short good few refl refl (omega arith) (omega arith) refl;
        laid = laid_push h.laid (at (push vs) s.at) (value_entries (s.at + 3) vs) refl long
            ((pushed vs).words values_there (joined (map settled h.lists)) (raw h.own ++ upper fs) (ends_from 0 (map settled h.lists)) h.laid.words up_length (omega (arith, room_left, h.laid.low)))
            (push_after s m next) m (entries_length (s.at + 3) vs ∙ c) (omega (arith, room_left)) refl refl refl refl refl refl;
        noted = noted_single h.noted (at (push vs) s.at) refl (push_after s m next) refl push_later refl refl;
        kept = record { saved = h.kept.saved };
      };
      less = forward_less s (push_after s m next) refl push_later (omega (arith, push_inside, end_inside)) (omega arith);
    })
      where
        up_length : length (raw h.own ++ upper fs) + s.top ≡ 4096
        up_length = rw (length-append (raw h.own) (upper fs)) (omega (arith, h.laid.top, h.laid.base))

  -- a function's body begins
  module _ (x : Header) (size : ℕ) (r : Bytes) (e : read_record here ≡ some (header x size, r)) (q : RecordAt d s.at (header x size) r) (next : ℕ)
      (n : next ≡ s.at + length (header_bytes x size)) where
    header_rest : r ≡ drop next d
    header_rest = q.rest ∙ ap (λ (i : ℕ). drop i d) (sym n)

    header_inside : next ≤ s.span.end
    header_inside = omega (arith, q.inside, d_length)

    header_later : s.at < next
    header_later = omega (arith, q.later)

    pub open_short : s.span.end - next < size → decode limits b ≡ none
    open_short l = refuse_short x size r e (too_short size r (rw (header_rest, length-drop next d, d_length) l))

    pub open_step : size ≤ s.span.end - next → T (holds k (at (define x 0) s.at)) → s.actions < 1024 → {s' : Walk} → s' ≡ open_after s size next → Further s s' w
    open_step l good few f = rw f (record {
      same = refl;
      stands = record {
        strings = ss;
        around = g ∷ fs;
        own = [];
        lists = h.lists;
        held = held_open h.held x size r (open_after s size next) e n header_rest (omega (arith, header_inside)) end_inside q.short good few refl refl refl refl;
        laid = laid_open h.laid g refl (open_after s size next) refl refl refl refl refl refl;
        noted = noted_open h.noted g refl refl (open_after s size next) refl header_later refl refl;
        kept = record { saved = kept_open h.kept g refl (omega (arith, h.laid.base)) h.noted.first };
      };
      less = forward_less s (open_after s size next) refl header_later (omega (arith, header_inside, end_inside)) (omega (arith, length-append s.outer.items (s.span ∷ [])));
    })
      where
        g : Open
        g = record { header = x; position = s.at; around = h.own; rest = drop (next + size) d; stop = s.span.end }
