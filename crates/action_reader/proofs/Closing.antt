-- The steps at the end of a list.
use Prim.Native.Nat.{ℕ, zero, suc, ◌+◌, ◌-◌, ◌≤◌, ◌<◌}
use mathlib.Core.Path.{◌≡◌, refl, sym, ap, ◌∙◌, subst}
use mathlib.Core.List.{List, [], ◌∷◌, ◌++◌, map}
use mathlib.Core.Bool.{Bool, true, false, ◌&&◌}
use native.Mathlib.Omega.{arith}
use lib.ListN.{length, take, drop, length-append, length-map, length-drop, length-take}
use lib.Seq.{slice_empty, take_all}
use Rattle.std.proofs.Common.{Option, Some, None, eqb}
use borrow.Author.Tests.{eqb-true}
use Rattle.lowering.specs.Builder.{limits01}
use Rattle.action_format.specs.Lists.{all}
use Rattle.action_format.specs.Rules.{total}
use Rattle.action_format.specs.Bytes.{Bytes}
use Rattle.list_slice.specs.Entry.{Entry}
use Rattle.list_slice.specs.Words.{joined, ends_from}
use Rattle.list_slice.specs.Read.{Placed, read_words}
use Rattle.list_slice.proofs.Read.{map_append}
use Rattle.action_reader.specs.declared.walk.Span.{Span}
use Rattle.action_reader.specs.declared.walk.Walk.{Walk}
use Rattle.action_reader.specs.Walk.{Ended, ended_at, Open, defined, ending, resume, lost, raw, bounds, settle, settled, lands}
use Rattle.action_reader.specs.Layout.{layout}
use Rattle.action_reader.specs.State.{depth, close_after, is_end, is_over}
use Rattle.action_reader.specs.Lists.{Ready, Given, EndedAs, Closed, ClosedAs, positions_of}
use Rattle.action_reader.specs.View.{upper, Held, Laid, Noted, Kept, Stands}
use Rattle.action_reader.specs.Walked.{OrRefused, Done, Stepped}
use Rattle.action_reader.proofs.Steps.{step_end}
use Rattle.action_reader.proofs.Weights.{total_append}
use Rattle.action_reader.proofs.Slice.{layout_end}
use Rattle.action_reader.proofs.Holding.{held_close, nothing_read}
use Rattle.action_reader.proofs.Standing.{given_list, ends_many, laid_close, joined_last, ends_last, settled_is}
use Rattle.action_reader.proofs.Notes.{table_length, positions_are, own_ordered, first_filled, own_position, noted_close, kept_depth, span_kept, kept_close}
use Rattle.action_reader.proofs.Verdict as verdict
use Rattle.action_reader.proofs.Stepping.{limits, numbers, upward_less}

-- a list can end anywhere
pub ready : {w : List ℕ} {s : Walk} → Stands s.bytes.now w s → Ready w s
ready h = record {
  long = h.laid.long;
  down = omega (arith, (numbers h).room);
  room = (numbers h).room;
  whole = (numbers h).whole;
  cap = (numbers h).cap;
  from = omega (arith, table_length h.noted);
  few = (numbers h).places_few;
  ordered = own_ordered h.noted;
  more = (numbers h).lists_few;
}

-- the numbers that a body's end needs
pub record InBody (s : Walk) : Type 0 where
  pub base : 0 < s.span.base
  pub first : 0 < s.span.first

pub in_body : {w : List ℕ} {s : Walk} → Stands s.bytes.now w s → (depth s ≡ 0 → ⊥) → InBody s
in_body {w} {s} h n = record {
  base = omega (arith, (numbers h).whole, (numbers h).filled);
  first = go h.around h.noted (kept_depth h.kept);
}
  where
    go : (fs : List Open) → Noted s fs h.own → length fs ≡ depth s → 0 < s.span.first
    go [] x e = absurd (n (sym e))
    go (g ∷ fs) x e = first_filled x

lost_one : (ls : List Ended) (l : Ended) → all (lands (bounds l)) (raw l.actions) ≡ false → total lost (ls ++ (l ∷ [])) ≡ 0 → ⊥
lost_one ls l f e =
    let z = total_append lost ls (l ∷ []) in
    let y : lost l ≡ 1 = rw f in
    omega (arith, z, e)

-- a body ends

module _ {w : List ℕ} {s : Walk} (h : Stands s.bytes.now w s) (at_end : s.at ≡ s.span.end) where
  abbrev b : Bytes
  b = s.bytes.now

  close_left : (g : Open) (fs : List Open) (ls : List Ended) (own : List Placed) → Held b s h.strings (g ∷ fs) own ls →
      resume fs (g.around ++ (defined g (suc (length ls)) ∷ [])) (ls ++ (ended_at own s.at ∷ [])) s.at g.rest ≡ resume [] [] [] 0 b
  close_left g fs ls own x =
      sym (ap (resume (g ∷ fs) own ls s.at) (ap (λ (i : ℕ). drop i (take s.span.end b)) at_end ∙ slice_empty s.span.end b) ∙ step_end (ending (g ∷ fs)) own ls s.at [] nothing_read) ∙ x.left

  closed : (fs : List Open) → length fs ≡ depth s → (depth s ≡ 0 → ⊥) → Held b s h.strings fs h.own h.lists → Laid w s fs h.own h.lists → Noted s fs h.own → Kept s fs →
      {A : Type 0} (r : Option A) (s' : Walk) (w' : List ℕ) →
      ((low xs up : List Entry) (ends : List ℕ) → Given w s low xs up ends → length ends ≡ s.lists → ClosedAs low xs up ends s s' r w') → length w' ≡ length w → Stepped s s' r w'
  closed [] e n x l m k r s' w' c long = absurd (n (sym e))
  closed (g ∷ fs) e n x l m k r s' w' c long = go r (c _ _ _ _ (given_list l) (ends_many l))
    where
      go : {A : Type 0} (r : Option A) → ClosedAs (joined (map settled h.lists)) (raw h.own) (upper (g ∷ fs)) (ends_from 0 (map settled h.lists)) s s' r w' → Stepped s s' r w'
      go None f =
          let lands-not : all (lands (bounds (ended_at h.own s.at))) (raw h.own) ≡ false = sym (ap (λ (q : List ℕ). all (lands q) (raw h.own)) (positions_are m)) ∙ f in
          verdict.refused limits b h.strings x.pool fs (g.around ++ (defined g (suc (length h.lists)) ∷ [])) (h.lists ++ (ended_at h.own s.at ∷ [])) s.at g.rest (close_left g fs h.lists h.own x) (λ al. lost_one h.lists (ended_at h.own s.at) lands-not al.landed)
      go (Some u) z =
          let lands-all : all (lands (bounds (ended_at h.own s.at))) (raw h.own) ≡ true = sym (ap (λ (q : List ℕ). all (lands q) (raw h.own)) (positions_are m)) ∙ z.landed in
          let new : Walk = close_after s (length (joined (map settled h.lists)) + length (raw h.own)) in
          let sp = span_kept k in
          let z' = subst (λ (q : Walk). Closed (joined (map settled h.lists)) (raw h.own) (upper (g ∷ fs)) (ends_from 0 (map settled h.lists)) s q w') z.state z in
          rw z.state (record {
            same = refl;
            stands = record {
              strings = h.strings;
              around = fs;
              own = g.around ++ (defined g (suc (length h.lists)) ∷ []);
              lists = h.lists ++ (ended_at h.own s.at ∷ []);
              held = held_close x new at_end lands-all refl (ap (λ (v : Span). v.end) sp) refl refl refl;
              laid = laid_close l (numbers h).sum z' long (positions_are m) (own_position m) refl refl
                  (omega (arith, ap (λ (v : Span). v.base) sp, l.base, length-append (raw g.around) (upper fs))) refl refl refl;
              noted = noted_close m (suc (length h.lists)) new refl (ap (λ (v : Span). v.first) sp) refl refl;
              kept = record { saved = kept_close k };
            };
            less = upward_less s new refl refl (rw (length-take (depth s - 1) s.outer.items) (omega arith));
          })

  pub close_step : (depth s ≡ 0 → ⊥) → {A : Type 0} (r : Option A) (s' : Walk) (w' : List ℕ) →
      ((low xs up : List Entry) (ends : List ℕ) → Given w s low xs up ends → length ends ≡ s.lists → ClosedAs low xs up ends s s' r w') → length w' ≡ length w → Stepped s s' r w'
  close_step n r s' w' c long = closed h.around (kept_depth h.kept) n h.held h.laid h.noted h.kept r s' w' c long

-- the top list ends

ended_with : (r : Bytes) → is_end r ≡ true → r ≡ 0 ∷ []
ended_with [] e = cc
ended_with (zero ∷ []) e = refl
ended_with (zero ∷ (y ∷ r)) e = cc
ended_with (suc y ∷ r) e = cc

pub record AtEnd (s : Walk) : Type 0 where
  pub top : depth s ≡ 0
  pub last : drop s.at s.bytes.now ≡ 0 ∷ []

pub at_end_of : {s : Walk} → is_over s ≡ true → AtEnd s
at_end_of {s} e = go (eqb (depth s) 0) refl e
  where
    go : (t : Bool) → eqb (depth s) 0 ≡ t → (t && is_end (drop s.at s.bytes.now)) ≡ true → AtEnd s
    go true q f = record { top = eqb-true (depth s) 0 q; last = ended_with (drop s.at s.bytes.now) f }
    go false q f = cc

module _ {w : List ℕ} {s : Walk} (h : Stands s.bytes.now w s) (over : is_over s ≡ true) where
  abbrev all_bytes : Bytes
  all_bytes = s.bytes.now

  finished_words : (own : List Placed) (ls : List Ended) (w' : List ℕ) → Laid w s [] own ls → Noted s [] own → length w' ≡ length w →
      w' ≡ layout (joined (map settled ls) ++ map (settle (positions_of s)) (raw own)) [] (ends_from 0 (map settled ls) ++ ((length (joined (map settled ls)) + length (raw own)) ∷ [])) (length w') →
      (f : verdict.Found limits all_bytes h.strings h.held.pool own ls s.at) → w' ≡ read_words limits01 f.lists (length w')
  unfolding read_words
  finished_words own ls w' l m long q f =
      let new : Ended = ended_at own s.at in
      let is : settled new ≡ map (settle (positions_of s)) (raw own) = settled_is new ∙ ap (λ (z : List ℕ). map (settle z) (raw own)) (sym (positions_are m)) in
      let n : length (settled new) ≡ length (raw own) = ap length is ∙ length-map (raw own) (settle (positions_of s)) in
      let es : map settled (ls ++ (new ∷ [])) ≡ map settled ls ++ (settled new ∷ []) = map_append settled ls (new ∷ []) in
      let zero_first : 0 + length (joined (map settled ls)) ≡ length (joined (map settled ls)) = omega arith in
      let fits : length (joined (map settled ls ++ (settled new ∷ []))) ≤ 4096 =
      rw (joined_last (map settled ls) (settled new), length-append (joined (map settled ls)) (settled new), n) (omega (arith, l.low, l.top, l.base, (numbers h).room)) in
      q ∙ rw (f.entries, es) (sym (sym (layout_end (map settled ls ++ (settled new ∷ [])) (length w') fits (omega (arith, l.long)))
      ∙ rw (joined_last (map settled ls) (settled new), ends_last 0 (map settled ls) (settled new), n, zero_first, is)))

  finished : (fs : List Open) → length fs ≡ depth s → Held all_bytes s h.strings fs h.own h.lists → Laid w s fs h.own h.lists → Noted s fs h.own → (r : Option ℕ) (w' : List ℕ) →
      ((low xs up : List Entry) (ends : List ℕ) → Given w s low xs up ends → length ends ≡ s.lists → EndedAs s low xs up ends r w') → length w' ≡ length w → OrRefused all_bytes r (λ _. Done all_bytes w')
  finished (g ∷ fs) e x l m r w' c long = let z : ⊥ = omega (arith, (at_end_of {s = s} over).top) in absurd z
  finished [] e x l m r w' c long = go r (c _ _ _ _ (given_list l) (ends_many l))
    where
      last : drop s.at all_bytes ≡ 0 ∷ []
      last = (at_end_of {s = s} over).last

      left_is : resume [] h.own h.lists s.at (0 ∷ []) ≡ resume [] [] [] 0 all_bytes
      left_is = sym (ap (resume [] h.own h.lists s.at) (ap (drop s.at) (rw x.framed (take_all (length all_bytes) all_bytes (omega arith))) ∙ last)) ∙ x.left

      len : length all_bytes ≡ suc s.at
      len = omega (arith, sym (length-drop s.at all_bytes) ∙ ap length last)

      go : (r : Option ℕ) → EndedAs s (joined (map settled h.lists)) (raw h.own) [] (ends_from 0 (map settled h.lists)) r w' → OrRefused all_bytes r (λ _. Done all_bytes w')
      go None f =
          let lands-not : all (lands (bounds (ended_at h.own s.at))) (raw h.own) ≡ false = sym (ap (λ (q : List ℕ). all (lands q) (raw h.own)) (positions_are m)) ∙ f in
          verdict.top_lost limits all_bytes h.strings h.held.pool h.own h.lists s.at left_is len lands-not
      go (Some n) z =
          let lands-all : all (lands (bounds (ended_at h.own s.at))) (raw h.own) ≡ true = sym (ap (λ (q : List ℕ). all (lands q) (raw h.own)) (positions_are m)) ∙ z.landed in
          let found = verdict.found_lists limits all_bytes h.strings h.held.pool h.own h.lists s.at left_is len (omega (arith, x.actions, x.few_actions)) (omega (arith, x.values, x.few_values)) x.good x.landed lands-all in
          record { lists = found.lists; is = found.is; words = finished_words h.own h.lists w' l m long (rw z.low_is at z.words) found }

  pub finish_step : (r : Option ℕ) (w' : List ℕ) →
      ((low xs up : List Entry) (ends : List ℕ) → Given w s low xs up ends → length ends ≡ s.lists → EndedAs s low xs up ends r w') → length w' ≡ length w → OrRefused all_bytes r (λ _. Done all_bytes w')
  finish_step r w' c long = finished h.around (kept_depth h.kept) h.held h.laid h.noted r w' c long
