-- Labels made and marked, and the tracked stack size lowered.
use Prim.Native.Nat.{ℕ, zero, suc, ◌+◌, ◌-◌, ◌≤◌, ◌<◌}
use mathlib.Core.Path.{◌≡◌, refl, sym, ap, ◌∙◌}
use mathlib.Core.List.{List, [], ◌∷◌, ◌++◌}
use native.Mathlib.Nat.{add-zero}
use native.Mathlib.Omega.{arith}
use lib.ListN.{length, get_or, set, take, drop, replicate, length-set, length-take, length-drop, length-replicate, get_or-replicate, get_or-eq_default}
use lib.Seq.{get_or-set_other, get_or-drop, get_or-take, take-add, drop-drop, ext_get_or, drop-set-add, take-set-lt, drop-set-lt}
use borrow.Author.Tests.{lt-ltb, le-ltb, eq-eqb, ne_eqb}
use Rattle.std.specs.Prelude.{Option, Some, None, IsNone}
use Rattle.std.proofs.lemmas.List.{get_or_default}
use Rattle.pcode.specs.Pcode.{Delta}
use Rattle.lowering.specs.Builder.{with_labels, create_label, assume_stack_delta, mark_or}
use Rattle.list_slice.specs.Entry.{Piece, entry_of}
use Rattle.codegen_state.specs.declared.Stop.{Stop}
use Rattle.codegen_state.specs.declared.Stop.TheVariants.{TooMany}
use Rattle.codegen_state.specs.declared.BuilderState.{BuilderState}
use Rattle.codegen_state.specs.Stop.{number_of}
use Rattle.codegen_state.specs.View.{labels_of, state, held, carry, after}
use Rattle.codegen_state.specs.Does.{marked, Fine, Does}
use Rattle.codegen_state.proofs.Steps.{held_holds}
use Rattle.builder.specs.Entries.{put3, Marked, refused_with}
use Rattle.builder.proofs.Words.{length_put, entry_same, entry_other, getD_put, side_put, entry_side}
use Rattle.builder.proofs.Leaves.{changed, changed_fine, changed_named, refuses, marked_le, Wrote, grown_held, grown_fine, grown_named}

-- the stack size lowered, also after a refusal

size_same : (F : List ℕ) (b : BuilderState) (w : List ℕ) (down : ℕ) (o : Option Stop) → b.refused ≡ o →
    held F (tt {0}) (changed b b.refused b.labels (b.size - down)) w ≡ after (held F tt b w) (assume_stack_delta (Delta.down down))
unfolding held after carry assume_stack_delta state
size_same F b w down None e = rw (e, add-zero b.actions, add-zero b.values)
size_same F b w down (Some x) e = rw e

pub size_fine : {b : BuilderState} {w : List ℕ} (down : ℕ) → Fine b w → Fine (changed b b.refused b.labels (b.size - down)) w
size_fine {b} down f = changed_fine b.refused b.labels (b.size - down) f (omega arith) f.labels (omega arith) f.marks

pub size_down : (F : List ℕ) {b : BuilderState} {w : List ℕ} (down : ℕ) {z : ℕ} → Fine b w → z ≡ b.size - down → Does F (assume_stack_delta (Delta.down down)) b w tt (changed b b.refused b.labels z) w
size_down F {b} {w} down f e = rw e (record { same = size_same F b w down b.refused refl; fine = size_fine down f; named = changed_named b.refused b.labels (b.size - down) })

-- labels

pub length_labels : {b : BuilderState} {w : List ℕ} → Fine b w → length (labels_of b w) ≡ b.labels
length_labels {b} {w} f = simp (length-take, length-drop) (omega (arith, f.long, f.labels))

no_labels : (w : List ℕ) (i n : ℕ) → i + n ≤ length w → ((j : ℕ) → i ≤ j → j < i + n → get_or w j 0 ≡ 0) → take n (drop i w) ≡ replicate n 0
no_labels w i n h k =
    ext_get_or 0 (take n (drop i w)) (replicate n 0) (simp (length-take, length-drop, length-replicate) (omega arith))
    (λ j q. rw (get_or-take n (drop i w) j 0 (short j q), get_or-drop i w j 0, get_or-replicate {A = ℕ} n j 0 0 (short j q)) (k (i + j) (omega arith) (omega (arith, short j q))))
  where
    short : (j : ℕ) → j < length (take n (drop i w)) → j < n
    short j q = omega (arith, length-take n (drop i w), q)

pub more_labels : {b : BuilderState} {w : List ℕ} (n : ℕ) → Fine b w → b.labels + n ≤ 1024 → take (b.labels + n) (drop 12288 w) ≡ labels_of b w ++ replicate n 0
more_labels {b} {w} n f h =
    take-add b.labels n (drop 12288 w)
    ∙ ap (λ (r : List ℕ). labels_of b w ++ r) (ap (take n) (drop-drop b.labels 12288 w) ∙ no_labels w (12288 + b.labels) n (omega (arith, f.long)) (λ j p q. none j p (omega arith)))
  where
    none : (j : ℕ) → 12288 + b.labels ≤ j → j < 13312 → get_or w j 0 ≡ 0
    none j p q = let e : 12288 + (j - 12288) ≡ j = omega arith in rw e at (f.no_label (j - 12288) (omega arith) (omega arith))

marked_more : (xs : List ℕ) (n : ℕ) → marked (xs ++ replicate n 0) ≡ marked xs
unfolding marked
marked_more [] zero = refl
marked_more [] (suc n) = marked_more [] n
marked_more (zero ∷ xs) n = marked_more xs n
marked_more (suc x ∷ xs) n = ap suc (marked_more xs n)

module _ {b : BuilderState} {w : List ℕ} (n : ℕ) (f : Fine b w) (fits : b.labels + n ≤ 1024) where
  pub labelled_fine : Fine (changed b b.refused (b.labels + n) b.size) w
  labelled_fine = changed_fine b.refused (b.labels + n) b.size f (omega arith) fits (omega arith) (f.marks ∙ sym (ap marked (more_labels n f fits) ∙ marked_more (labels_of b w) n))

  pub labelled_state : (F : List ℕ) → state F (changed b b.refused (b.labels + n) b.size) w ≡ with_labels (labels_of b w ++ replicate n 0) (state F b w)
  unfolding state
  labelled_state F = rw (more_labels n f fits)

module _ (F : List ℕ) {b : BuilderState} {w : List ℕ} (f : Fine b w) (h : IsNone b.refused) where
  pub label_full : 1024 ≤ b.labels → Does F create_label b w b.labels (refused_with b TooMany) w
  unfolding create_label state
  label_full k = refuses F create_label b.labels TooMany f h (simp (length_labels f, le-ltb b.labels 1024 k))

  pub label_done : b.labels < 1024 → Does F create_label b w b.labels (changed b b.refused (b.labels + 1) b.size) w
  unfolding create_label after carry state
  label_done k = record {
    same = rw (held_holds F b.labels (changed b b.refused (b.labels + 1) b.size) w h, held_holds F (tt {0}) b w h, more_labels 1 f (omega arith), length_labels f, lt-ltb b.labels 1024 k);
    fine = labelled_fine 1 f (omega arith);
    named = changed_named b.refused (b.labels + 1) b.size;
  }

-- marks

marked_set : (xs : List ℕ) (l : ℕ) → l < length xs → get_or xs l 0 ≡ 0 → marked (set xs l 1) ≡ suc (marked xs)
unfolding marked
marked_set [] l h e = absurd (omega arith)
marked_set (zero ∷ xs) zero h e = refl
marked_set (suc n ∷ xs) zero h e = absurd (omega arith)
marked_set (zero ∷ xs) (suc l) h e = marked_set xs l (omega arith) e
marked_set (suc n ∷ xs) (suc l) h e = ap suc (marked_set xs l (omega arith) e)

module _ {b : BuilderState} {w : List ℕ} (l : ℕ) (f : Fine b w) where
  pub mark_unmade : (F : List ℕ) (x : Stop) → IsNone b.refused → b.labels ≤ l → Does F (mark_or (number_of x) l) b w tt (refused_with b x) w
  unfolding state
  mark_unmade F x h k = refuses F (mark_or (number_of x) l) tt x f h (simp (get_or-eq_default (labels_of b w) 1 {n = l} (rw (length_labels f) k)))

  module _ (k : l < b.labels) where
    label_word_lem : (d : ℕ) → get_or (labels_of b w) l d ≡ get_or w (12288 + l) 0
    label_word_lem d = get_or_default (labels_of b w) l d 0 (rw (length_labels f) k) ∙ get_or-take b.labels (drop 12288 w) l 0 k ∙ get_or-drop 12288 w l 0

    pub mark_again : (F : List ℕ) (x : Stop) → IsNone b.refused → (get_or w (12288 + l) 0 ≡ 0 → ⊥) → Does F (mark_or (number_of x) l) b w tt (refused_with b x) w
    unfolding state
    mark_again F x h q = refuses F (mark_or (number_of x) l) tt x f h (simp (label_word_lem 1, ne_eqb (get_or w (12288 + l) 0) 0 q))

    module _ (q : get_or w (12288 + l) 0 ≡ 0) where
      marks_more : marked (set (labels_of b w) l 1) ≡ suc b.marks
      marks_more = marked_set (labels_of b w) l (rw (length_labels f) k) (label_word_lem 0 ∙ q) ∙ ap suc (sym f.marks)

      pub room_mark : b.low < b.top
      room_mark = omega (arith, marks_more, marked_le (set (labels_of b w) l 1), length-set (labels_of b w) l 1, length_labels f, f.used, f.values, f.labels, f.actions)

      wrote_mark : Wrote b w (entry_of (Piece.mark l)) (set (labels_of b w) l 1) (set (put3 w (b.top - 1) 257 l 0) (12288 + l) 1)
      wrote_mark =
          let v = put3 w (b.top - 1) 257 l 0 in
          let room = room_mark in
          let low : b.top - 1 < 4095 = omega (arith, f.bottom) in
          let few : l < 1024 = omega (arith, f.labels) in
          record {
            long = rw (length-set v (12288 + l) 1, length_put w (b.top - 1) 257 l 0);
            here = rw (entry_side v (12288 + l) 1 (b.top - 1) (omega arith)) (entry_same w (b.top - 1) 257 l 0 (omega (arith, f.long)));
            there = λ i x y. rw (entry_side v (12288 + l) 1 i (omega arith)) (entry_other w (b.top - 1) 257 l 0 i x);
            labels_are = rw (drop-set-add 12288 v l 1, take-set-lt b.labels (drop 12288 v) l 1 k, side_put w (b.top - 1) 257 l 0 12288 (omega arith));
            ends_are = rw (drop-set-lt 13312 v (12288 + l) 1 (omega arith), side_put w (b.top - 1) 257 l 0 13312 (omega arith));
            pool_is = rw (drop-set-lt 14336 v (12288 + l) 1 (omega arith), side_put w (b.top - 1) 257 l 0 14336 (omega arith));
            behind = λ j x. rw (get_or-set_other v (12288 + l) j 1 0 (λ e. omega arith)) (getD_put w (b.top - 1) 257 l 0 j (λ e. omega arith) (λ e. omega arith) (λ e. omega arith));
          }

      module _ {r : BuilderState} {w' : List ℕ} (g : Marked b w l r w') where
        pub mark_fine : Fine r w'
        mark_fine =
            rw (g.new, g.words)
            (grown_fine [] (Piece.mark l) f room_mark wrote_mark 0 0 1 b.size (omega arith) (omega (arith, f.actions)) (omega (arith, f.values)) (omega (arith, marks_more)) (omega (arith, f.size))
            (λ c. absurd (omega arith)))

        pub mark_done : (F : List ℕ) (n : ℕ) → IsNone b.refused → Does F (mark_or n l) b w tt r w'
        unfolding after carry state
        mark_done F n h =
            let p = Piece.mark l in
            rw (g.new, g.words) (record {
              same = rw (grown_held F p f room_mark wrote_mark 0 0 1 b.size h, held_holds F (tt {0}) b w h, label_word_lem 1, eq-eqb (get_or w (12288 + l) 0) 0 q);
              fine = rw (g.new, g.words) at mark_fine;
              named = grown_named F p f room_mark wrote_mark 0 0 1 b.size tt;
            })
