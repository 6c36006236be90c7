-- The end of a list, by its words.
use Prim.Native.Nat.{ℕ, suc, ◌+◌, ◌-◌, ◌≤◌, ◌<◌}
use mathlib.Core.Path.{◌≡◌, refl, sym, ap, ◌∙◌}
use mathlib.Core.List.{List, [], ◌∷◌, ◌++◌, map}
use native.Mathlib.Omega.{arith}
use lib.ListN.{length, get_or, set, take, length-append, length-map, length-set}
use lib.Seq.{take_at, get_or-append_seam}
use Rattle.arrayvec.specs.ArrayVec.{ArrayVec}
use Rattle.list_slice.specs.Entry.{Entry, entry}
use Rattle.builder.specs.Entries.{put3}
use Rattle.builder.proofs.Words.{length_put}
use Rattle.action_reader.specs.declared.walk.Span.{Span}
use Rattle.action_reader.specs.declared.walk.Walk.{Walk}
use Rattle.action_reader.specs.Walk.{settle}
use Rattle.action_reader.specs.Layout.{layout}
use Rattle.action_reader.specs.State.{depth, no_span, close_after}
use Rattle.action_reader.specs.Lists.{Ready, Given, Moved, Closed, positions_of}
use Rattle.action_reader.proofs.Slice.{grows, ends_more}

module _ {w : List ℕ} {s : Walk} (h : Ready w s) {low xs up : List Entry} {ends : List ℕ} (g : Given w s low xs up ends) (n : length ends ≡ s.lists) where
  abbrev ps : List ℕ
  ps = positions_of s

  abbrev done : List Entry
  done = low ++ map (settle ps) xs

  done_length : length done ≡ length low + length xs
  done_length = length-append low (map (settle ps) xs) ∙ ap (λ (k : ℕ). length low + k) (length-map xs (settle ps))

  pub end_law : {k : ℕ} {w₁ w₂ : List ℕ} → Moved s low xs up ends k w₁ → w₂ ≡ set w₁ (13312 + s.lists) k → Moved s low xs up (ends ++ (k ∷ [])) k w₂
  end_law {k} {w₁} {w₂} x e = record {
    landed = x.landed;
    words = e ∙ rw (← n) (ap (λ (z : List ℕ). set z (13312 + length ends) k) x.words
        ∙ ends_more done up ends (length w₁) k (omega (arith, done_length, g.low_is, g.up_is, g.own_is, h.down)) (omega (arith, h.more))
        ∙ ap (layout done up (ends ++ (k ∷ []))) (sym (ap length e ∙ length-set w₁ (13312 + s.lists) k)));
    low_is = x.low_is;
  }

  pub close_law : {k : ℕ} {w₁ : List ℕ} → Moved s low xs up (ends ++ (k ∷ [])) k w₁ → 0 < s.span.base → {t : ArrayVec ℕ} → t.items ≡ take s.span.first s.table.items → {o : ArrayVec Span} {v : Span} →
      s.outer.items ≡ o.items ++ (v ∷ []) → {w₂ : List ℕ} →
      w₂ ≡ put3 w₁ (s.span.base - 1) 256 (s.lists + 1) (get_or s.table.items (s.span.first - 1) 0) → Closed low xs up ends s (record s { span = v; low = k; top = s.span.base - 1; lists = s.lists + 1; table = t; outer = o }) w₂
  close_law {k} {w₁} x b {t} q {o} {v} f {w₂} z = record {
    landed = x.landed;
    state = state_is ∙ ap (close_after s) x.low_is;
    words = z ∙ ap (λ (v : List ℕ). put3 v (s.span.base - 1) 256 (s.lists + 1) p) x.words
        ∙ grows done up (ends ++ (k ∷ [])) (length w₁) (s.span.base - 1) (omega (arith, g.up_is)) room 256 (s.lists + 1) p
        ∙ ap (λ (m : ℕ). layout done (entry 256 (s.lists + 1) p ∷ up) (ends ++ (m ∷ [])) (length w₁)) x.low_is
        ∙ ap (layout done (entry 256 (s.lists + 1) p ∷ up) (ends ++ ((length low + length xs) ∷ []))) (sym (ap length z ∙ length_put w₁ (s.span.base - 1) 256 (s.lists + 1) p));
  }
    where
      p : ℕ
      p = get_or s.table.items (s.span.first - 1) 0

      around : depth s - 1 ≡ length o.items
      around = omega (arith, ap length f, length-append o.items (v ∷ []))

      state_is : record s { span = v; low = k; top = s.span.base - 1; lists = s.lists + 1; table = t; outer = o } ≡ close_after s k
      state_is =
          let span_is : get_or s.outer.items (depth s - 1) no_span ≡ v = rw (around, f) (get_or-append_seam o.items v [] no_span) in
          let outer_is : take (depth s - 1) s.outer.items ≡ o.items = rw (around, f) (take_at o.items (v ∷ []) (length o.items) refl) in
          rw (span_is, outer_is, ← q)

      room : length done + suc (length up) ≤ 4096
      room = omega (arith, done_length, g.low_is, g.up_is, g.own_is, h.room)
