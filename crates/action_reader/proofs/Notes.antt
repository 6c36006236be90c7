-- The table of positions and the kept ends, after each step.
use Prim.Native.Nat.{ℕ, suc, ◌+◌, ◌-◌, ◌<◌}
use mathlib.Core.Path.{◌≡◌, refl, sym, ap, ◌∙◌}
use mathlib.Core.List.{List, [], ◌∷◌, ◌++◌, append_assoc, append-nil}
use native.Mathlib.Omega.{arith}
use native.Mathlib.Decide.{dec_lt}
use lib.ListN.{length, get_or, take, get_or-append, length-append, length-map, length-take}
use lib.Seq.{get_or-take, take_at, drop-append_seam, get_or-append_seam}
use Rattle.list_slice.specs.Read.{Placed}
use Rattle.list_slice.proofs.Read.{map_append}
use Rattle.action_reader.specs.declared.walk.Span.{Span}
use Rattle.action_reader.specs.declared.walk.Walk.{Walk}
use Rattle.action_reader.specs.Walk.{ended_at, Open, defined, bounds}
use Rattle.action_reader.specs.Places.{Ordered, Rises}
use Rattle.action_reader.specs.Lists.{positions_of}
use Rattle.action_reader.specs.State.{depth, no_span}
use Rattle.action_reader.specs.View.{positions, upper, marks, saves, Noted, Kept}

module _ {s : Walk} {fs : List Open} {own : List Placed} (h : Noted s fs own) where
  pub table_length : length own + s.span.first ≡ length s.table.items
  table_length = rw (h.table, length-append (marks fs) (positions own), length-map own (λ (x : Placed). x.position)) (omega (arith, h.first))

  -- the positions of the present list
  pub positions_are : positions_of s ≡ bounds (ended_at own s.at)
  positions_are = ap (λ (z : List ℕ). z ++ (s.at ∷ [])) (rw (h.table, ← h.first) (drop-append_seam (marks fs) (positions own)))

  pub own_ordered : Ordered s.table.items s.span.first (length s.table.items)
  own_ordered = λ i j a b c. h.rising i j (omega arith) b c

  abbrev next : List ℕ
  next = s.table.items ++ (s.at ∷ [])

  next_length : length next ≡ length s.table.items + 1
  next_length = length-append s.table.items (s.at ∷ [])

  at_last : get_or next (length s.table.items) 0 ≡ s.at
  at_last = get_or-append_seam s.table.items s.at [] 0

  at_before : (i : ℕ) → i < length s.table.items → get_or next i 0 ≡ get_or s.table.items i 0
  at_before i k = get_or-append s.table.items (s.at ∷ []) 0 i k

  rising_more : Rises next
  rising_more i j a b c = go (dec_lt j (length s.table.items))
    where
      go : Dec (j < length s.table.items) → get_or next i 0 < get_or next j 0
      go (yes k) = rw (at_before i (omega arith), at_before j k) (h.rising i j a b k)
      go (no k) = let e : j ≡ length s.table.items = omega (arith, next_length) in rw (at_before i (omega (arith, e)), e, at_last) (h.below i (omega arith))

  below_more : (p : ℕ) → s.at < p → (i : ℕ) → i < length next → get_or next i 0 < p
  below_more p q i k = go (dec_lt i (length s.table.items))
    where
      go : Dec (i < length s.table.items) → get_or next i 0 < p
      go (yes z) = rw (at_before i z) (omega (arith, h.below i z))
      go (no z) = let e : i ≡ length s.table.items = omega (arith, next_length) in rw (e, at_last) q

  -- an action
  pub noted_single : (a : Placed) → a.position ≡ s.at → (s' : Walk) → s'.table.items ≡ next → s.at < s'.at → s'.span.first ≡ s.span.first → s'.actions ≡ s.actions + 1 →
      Noted s' fs (own ++ (a ∷ []))
  noted_single a e s' q later first_is actions-are = record {
    table = rw (q, h.table, append_assoc (marks fs) (positions own) (s.at ∷ []), map_append (λ (x : Placed). x.position) own (a ∷ []), e);
    first = h.first ∙ sym first_is;
    few = rw q (omega (arith, h.few, next_length));
    rising = rw q rising_more;
    below = rw q (below_more s'.at later);
  }

  -- a function whose body begins
  pub noted_open : (g : Open) → g.around ≡ own → g.position ≡ s.at → (s' : Walk) → s'.table.items ≡ next → s.at < s'.at → s'.span.first ≡ length s.table.items + 1 →
      s'.actions ≡ s.actions + 1 → Noted s' (g ∷ fs) []
  noted_open g e p s' q later first_is actions-are = record {
    table = rw (q, h.table, e, p) (append_assoc (marks fs) (positions own) (s.at ∷ []) ∙ sym (append-nil (marks fs ++ (positions own ++ (s.at ∷ [])))));
    first = rw (e, length-append (marks fs) (positions own ++ (g.position ∷ [])), length-append (positions own) (g.position ∷ []), length-map own (λ (x : Placed). x.position)) (omega (arith, h.first, table_length));
    few = rw q (omega (arith, h.few, next_length));
    rising = rw q rising_more;
    below = rw q (below_more s'.at later);
  }

module _ {s : Walk} {g : Open} {fs : List Open} {own : List Placed} (h : Noted s (g ∷ fs) own) where
  abbrev before : List ℕ
  before = marks fs ++ positions g.around

  regroup : (marks fs ++ (positions g.around ++ (g.position ∷ []))) ++ positions own ≡ before ++ (g.position ∷ positions own)
  regroup = rw (append_assoc (marks fs) (positions g.around ++ (g.position ∷ [])) (positions own), append_assoc (positions g.around) (g.position ∷ []) (positions own), append_assoc (marks fs) (positions g.around) (g.position ∷ positions own))

  before_length : suc (length before) ≡ s.span.first
  before_length =
      let z : length (marks fs ++ (positions g.around ++ (g.position ∷ []))) ≡ length (marks fs) + (length (positions g.around) + 1) =
      rw (length-append (marks fs) (positions g.around ++ (g.position ∷ [])), length-append (positions g.around) (g.position ∷ [])) in
      rw (length-append (marks fs) (positions g.around)) (omega (arith, z, h.first))

  pub first_filled : 0 < s.span.first
  first_filled = omega (arith, before_length)

  -- the function's own position
  pub own_position : get_or s.table.items (s.span.first - 1) 0 ≡ g.position
  own_position =
      let e : s.span.first - 1 ≡ length before = omega (arith, before_length) in
      rw (e, h.table, regroup) (get_or-append_seam before g.position (positions own) 0)

  kept_length : length (take s.span.first s.table.items) ≡ s.span.first
  kept_length = rw (length-take s.span.first s.table.items) (omega (arith, table_length h))

  pub noted_close : (n : ℕ) (s' : Walk) → s'.at ≡ s.at → s'.span.first ≡ length (marks fs) → s'.actions ≡ s.actions → s'.table.items ≡ take s.span.first s.table.items →
      Noted s' fs (g.around ++ (defined g n ∷ []))
  noted_close n s' at-is first_is actions-are same = record {
    table = rw (same, h.table) (take_at (marks fs ++ (positions g.around ++ (g.position ∷ []))) (positions own) s.span.first h.first
        ∙ ap (λ (z : List ℕ). marks fs ++ z) (sym (map_append (λ (x : Placed). x.position) g.around (defined g n ∷ []))));
    first = sym first_is;
    few = rw same (omega (arith, kept_length, table_length h, h.few));
    rising = rw same (λ i j a b c. rw (get_or-take s.span.first s.table.items i 0 (omega (arith, kept_length)), get_or-take s.span.first s.table.items j 0 (omega (arith, kept_length))) (h.rising i j a b (omega (arith, kept_length, table_length h))));
    below = rw (same, at-is) (λ i a. rw (get_or-take s.span.first s.table.items i 0 (omega (arith, kept_length))) (h.below i (omega (arith, kept_length, table_length h))));
  }

-- the kept spans

abbrev span_of : Open → List Open → Span
span_of f fs = record { end = f.stop; base = 4096 - length (upper fs); first = length (marks fs) }

saves_length : (fs : List Open) → length (saves fs) ≡ length fs
saves_length [] = refl
saves_length (f ∷ fs) = rw (length-append (saves fs) (span_of f fs ∷ []), saves_length fs) (omega arith)

module _ {s : Walk} {fs : List Open} (h : Kept s fs) where
  pub kept_depth : length fs ≡ depth s
  kept_depth = sym (saves_length fs) ∙ ap length (sym h.saved)

  pub kept_open : (g : Open) → g.stop ≡ s.span.end → 4096 - length (upper fs) ≡ s.span.base → length (marks fs) ≡ s.span.first →
      s.outer.items ++ (s.span ∷ []) ≡ saves (g ∷ fs)
  kept_open g stop_is base_is first_is = rw (h.saved, stop_is, base_is, first_is)

module _ {s : Walk} {g : Open} {fs : List Open} (h : Kept s (g ∷ fs)) where
  around_is : depth s - 1 ≡ length (saves fs)
  around_is = omega (arith, ap length h.saved, length-append (saves fs) (span_of g fs ∷ []))

  pub span_kept : get_or s.outer.items (depth s - 1) no_span ≡ span_of g fs
  span_kept = rw (around_is, h.saved) (get_or-append_seam (saves fs) (span_of g fs) [] no_span)

  pub kept_close : take (depth s - 1) s.outer.items ≡ saves fs
  kept_close = rw (around_is, h.saved) (take_at (saves fs) (span_of g fs ∷ []) (length (saves fs)) refl)
