-- A string added to the pool: its word is written after the others, and all else stays.
use Prim.Native.Nat.{ℕ, suc, ◌+◌, ◌-◌, ◌≤◌, ◌<◌}
use mathlib.Core.Path.{◌≡◌, refl, sym, ap, ◌∙◌}
use mathlib.Core.Logic.{◌≢◌}
use mathlib.Core.List.{List, [], ◌∷◌, ◌++◌, map, map-append}
use mathlib.Core.Bool.{Bool, true, false}
use native.Mathlib.Numerals.{add-one}
use native.Mathlib.Omega.{arith}
use lib.Dec.{T, eqb}
use lib.ListN.{length, get_or, set, take, drop, length-set, length-drop}
use lib.Seq.{get_or-set_other, get_or-set_same, take-suc-set, drop-set-add, take-set-le}
use borrow.Author.Tests.{eqb-true, eqb-false, ne_eqb}
use Rattle.lowering.specs.Builder.{with_constants}
use Rattle.list_slice.specs.Words.{entry_at, run}
use Rattle.list_slice.specs.File.{text_in, names_string}
use Rattle.codegen_state.specs.declared.BuilderState.{BuilderState}
use Rattle.codegen_state.specs.View.{labels_of, ends_of, pool_of, gather, state, waiting}
use Rattle.codegen_state.specs.Does.{Fine, Named}
use Rattle.builder.proofs.Words.{entry_side}
use Rattle.builder.proofs.Leaves.{run_same, cut_same}
use Rattle.codegen_state.specs.Index.{hash, latest, hash_at, Indexed}
use Rattle.codegen_state.proofs.Index.{latest_same, latest_here, latest_before}
use Rattle.constants.specs.Pool.{added, joining}

-- a word is written behind a part
written_behind : (x : List ℕ) (a v k m : ℕ) → k + m ≤ a → take m (drop k (set x a v)) ≡ take m (drop k x)
written_behind x a v k m h =
    let e : a ≡ k + (a - k) = omega arith in
    rw (e, drop-set-add k x (a - k) v, take-set-le m (drop k x) (a - k) v (omega arith))

module _ (F : List ℕ) (r : BuilderState) (w : List ℕ) (s n h : ℕ) (f : Fine r w) (room : r.constants < r.values) (small : h < 2048) where
  abbrev at : ℕ
  at = 14336 + r.constants

  abbrev w' : List ℕ
  w' = joining w r.constants s h

  -- the index stands behind the slice
  abbrev link : ℕ
  link = 18432 + r.constants

  abbrev head : ℕ
  head = 16384 + h

  abbrev latest_one : ℕ
  latest_one = get_or w head 0

  pub added_length : length w' ≡ length w
  added_length = length-set (set (set w at s) link latest_one) head (r.constants + 1) ∙ length-set (set w at s) link latest_one ∙ length-set w at s

  to_pool : (k m : ℕ) → k + m ≤ 16384 → take m (drop k w') ≡ take m (drop k (set w at s))
  to_pool k m q = written_behind (set (set w at s) link latest_one) head (r.constants + 1) k m (omega arith) ∙ written_behind (set w at s) link latest_one k m (omega arith)

  side : (k m : ℕ) → k + m ≤ 14336 → take m (drop k w') ≡ take m (drop k w)
  side k m q = to_pool k m (omega arith) ∙ written_behind w at s k m (omega arith)

  same_labels : labels_of r w' ≡ labels_of r w
  same_labels = side 12288 r.labels (omega (arith, f.labels))

  same_ends : ends_of r w' ≡ ends_of r w
  same_ends = side 13312 r.lists (omega (arith, f.lists, f.actions))

  pool_more : take (r.constants + 1) (drop 14336 w') ≡ pool_of r w ++ (s ∷ [])
  pool_more = to_pool 14336 (r.constants + 1) (omega (arith, f.values)) ∙ rw (drop-set-add 14336 w r.constants s, add-one, take-suc-set (drop 14336 w) r.constants s (simp length-drop (omega (arith, f.long, f.values))))

  same_entry : (i : ℕ) → i < 4096 → entry_at w' i ≡ entry_at w i
  same_entry i q =
      entry_side (set (set w at s) link latest_one) head (r.constants + 1) i (omega arith) ∙ entry_side (set w at s) link latest_one i (omega arith) ∙ entry_side w at s i (omega arith)

  same_run : (i m : ℕ) → i + m ≤ 4096 → run w' i m ≡ run w i m
  same_run i m h = run_same w w' i m (λ j p q. same_entry j (omega arith))

  pub waiting_added : waiting (added r n) w' ≡ waiting r w
  waiting_added = rw (same_run r.base (4096 - r.base) (omega (arith, f.cap)))

  pub state_added : state F (added r n) w' ≡ with_constants (map (text_in F) (pool_of r w) ++ (text_in F s ∷ [])) (r.total + n) (state F r w)
  unfolding state gather
  state_added =
      rw (
        pool_more,
        map-append (text_in F) (pool_of r w) (s ∷ []),
        same_labels,
        same_ends,
        cut_same w w' 0 (ends_of r w) r.low f.ends (λ j p q. same_entry j (omega (arith, f.low, f.bottom))),
        same_run r.top (r.base - r.top) (omega (arith, f.base, f.cap)),
      )

  other_word : (i : ℕ) → i ≢ at → i ≢ link → i ≢ head → get_or w' i 0 ≡ get_or w i 0
  other_word i p q o =
      get_or-set_other (set (set w at s) link latest_one) head i (r.constants + 1) 0 o ∙ get_or-set_other (set w at s) link i latest_one 0 q ∙ get_or-set_other w at i s 0 p

  same_word : (i : ℕ) → i < 16384 → i ≢ at → get_or w' i 0 ≡ get_or w i 0
  same_word i k p = other_word i p (λ e. omega arith) (λ e. omega arith)

  own_word_lem : get_or w' at 0 ≡ s
  own_word_lem =
      get_or-set_other (set (set w at s) link latest_one) head at (r.constants + 1) 0 (λ e. omega (arith, f.values)) ∙
      get_or-set_other (set w at s) link at latest_one 0 (λ e. omega arith) ∙ get_or-set_same w at s 0 (omega (arith, f.long, f.values))

  pub added_fine : r.total + n ≤ 65535 → Fine (added r n) w'
  added_fine total = record {
    long = rw added_length f.long;
    low = f.low;
    base = f.base;
    cap = f.cap;
    bottom = f.bottom;
    used = f.used;
    actions = f.actions;
    values = f.values;
    labels = f.labels;
    marks = rw same_labels f.marks;
    size = f.size;
    lists = f.lists;
    constants = omega arith;
    total = total;
    ends = rw same_ends f.ends;
    gap = λ i h k. rw (same_entry i (omega (arith, f.base, f.cap))) (f.gap i h k);
    pool_entry = rw (same_entry 4095 (omega arith)) f.pool_entry;
    written_low = λ i h. rw (same_entry i (omega (arith, f.low, f.bottom))) (f.written_low i h);
    written_top = λ i h k. rw (same_entry i k) (f.written_top i h k);
    later = λ i h k. rw (same_entry i (omega arith), same_entry (suc i) (omega arith)) (f.later i h k);
    first = λ h. rw (same_entry (r.base - 1) (omega (arith, f.cap))) (f.first h);
    no_label = λ i q k. rw (same_word (12288 + i) (omega arith) (λ e. omega arith)) (f.no_label i q k);
    no_end = λ i q k. rw (same_word (13312 + i) (omega arith) (λ e. omega arith)) (f.no_end i q k);
    no_string_lem = λ i q k. rw (same_word (14336 + i) (omega arith) (λ e. omega arith)) (f.no_string_lem i (omega arith) k);
  }

  pool_named : T (names_string F s) → Named F r w → (i : ℕ) → i < r.constants + 1 → T (names_string F (get_or w' (14336 + i) 0))
  pool_named t d i q = elim (eqb i r.constants) as (λ (x : Bool). eqb i r.constants ≡ x → T (names_string F (get_or w' (14336 + i) 0))) [
    | true ↦ λ e. rw (eqb-true i r.constants e, own_word_lem) t
    | false ↦ λ e. rw (same_word (14336 + i) (omega (arith, f.values)) (λ o. eqb-false i r.constants e (omega arith))) (d.strings i (omega (arith, eqb-false i r.constants e)))
  ] refl

  -- the index
  module _ (is-hash : h ≡ hash (text_in F s)) (x : Indexed F r.constants w) where
    abbrev hs : ℕ → ℕ
    hs = hash_at F w

    abbrev hs' : ℕ → ℕ
    hs' = hash_at F w'

    own_hash : hs' r.constants ≡ h
    own_hash = rw own_word_lem (sym is-hash)

    other_hash : (k : ℕ) → k < r.constants → hs k ≡ hs' k
    other_hash k q = rw (same_word (14336 + k) (omega (arith, f.values)) (λ e. omega arith))

    one : r.constants + 1 ≡ suc r.constants
    one = omega arith

    head_at_lem : (g : ℕ) → g < 2048 → (b : Bool) → eqb g h ≡ b → get_or w' (16384 + g) 0 ≡ latest hs' g (r.constants + 1)
    head_at_lem g q true e =
        let z = eqb-true g h e in
        rw z (get_or-set_same (set (set w at s) link latest_one) head (r.constants + 1) 0 (simp length-set (omega (arith, f.long))) ∙ one ∙ sym (latest_here hs' h r.constants own_hash) ∙ ap (latest hs' h) (sym one))
    head_at_lem g q false e =
        let z = eqb-false g h e in
        other_word (16384 + g) (λ o. omega (arith, f.values)) (λ o. omega arith) (λ o. z (omega arith)) ∙ x.heads g q ∙ latest_same hs hs' g r.constants other_hash
        ∙ sym (latest_before hs' g r.constants (ne_eqb _ _ (λ o. z (sym o ∙ own_hash)))) ∙ ap (latest hs' g) (sym one)

    link_at : (k : ℕ) → k < r.constants + 1 → (b : Bool) → eqb k r.constants ≡ b → get_or w' (18432 + k) 0 ≡ latest hs' (hs' k) k
    link_at k q true e =
        let z = eqb-true k r.constants e in
        rw (z, own_hash)
        (get_or-set_other (set (set w at s) link latest_one) head link (r.constants + 1) 0 (λ o. omega arith) ∙ get_or-set_same (set w at s) link latest_one 0 (simp length-set (omega (arith, f.long, f.values))) ∙
        x.heads h small ∙ latest_same hs hs' h r.constants other_hash)
    link_at k q false e =
        let z = eqb-false k r.constants e in
        let less : k < r.constants = omega arith in
        other_word (18432 + k) (λ o. omega (arith, f.values)) (λ o. z (omega arith)) (λ o. omega arith) ∙ x.links k less ∙ ap (λ (g : ℕ). latest hs g k) (other_hash k less)
        ∙ latest_same hs hs' (hs' k) k (λ j p. other_hash j (omega arith))

    pub added_indexed : Indexed F (r.constants + 1) w'
    added_indexed = record { heads = λ g q. head_at_lem g q (eqb g h) refl; links = λ k q. link_at k q (eqb k r.constants) refl }

  pub added_named : h ≡ hash (text_in F s) → T (names_string F s) → Named F r w → Named F (added r n) w'
  added_named is-hash t d = record {
    finished = λ i q. rw (same_entry i (omega (arith, f.low, f.bottom))) (d.finished i q);
    unfinished = λ i q k. rw (same_entry i (omega arith)) (d.unfinished i q k);
    strings = pool_named t d;
    indexed = added_indexed is-hash d.indexed;
  }
