-- The labels of a switch's elements, made at once.
use Prim.Native.Nat.{ℕ, ◌+◌, ◌≤◌, ◌<◌}
use mathlib.Core.Path.{◌≡◌, refl, ap, ◌∙◌}
use mathlib.Core.List.{List, ◌∷◌, ◌++◌, append-nil, append_assoc}
use mathlib.Core.Bool.{Bool, true, false}
use native.Mathlib.Omega.{arith}
use lib.Dec.{leb}
use lib.ListN.{length, replicate, length-append, length-replicate, replicate-append-replicate}
use borrow.Author.Tests.{lt-ltb, le-ltb, leb-true, leb-false}
use Rattle.std.specs.Prelude.{IsNone}
use Rattle.hir.specs.Tree.{Forest, more}
use Rattle.lowering.specs.Builder.{State, Result, ok, refused, bind, ◌>>=◌, pure, create_label}
use Rattle.lowering.specs.Builder as builder
use Rattle.lowering.specs.Meaning.{Meaning, Element, case, default, statement, element}
use Rattle.lowering.specs.Statement.{SwitchElement, with_label, with_labels}
use Rattle.codegen_state.specs.declared.Stop.TheVariants.{TooMany}
use Rattle.codegen_state.specs.declared.BuilderState.{BuilderState}
use Rattle.codegen_state.specs.View.{state, carry, after}
use Rattle.codegen_state.specs.Does.{Fine, Does}
use Rattle.codegen_state.proofs.Steps.{held_holds}
use Rattle.builder.specs.Labels.{one_label, labels_of_forest, with_number, elements_from}
use Rattle.builder.specs.Entries.{refused_with}
use Rattle.builder.proofs.Leaves.{changed, changed_named, refuses_in}
use Rattle.builder.proofs.Marks.{length_labels, labelled_fine, labelled_state}

-- n labels more
abbrev labelled : ℕ → State → State
labelled n s = builder.with_labels (s.labels ++ replicate n 0) s

labelled_none : (s : State) → labelled 0 s ≡ s
labelled_none s = rw (append-nil s.labels)

labelled_more : (s : State) (m n : ℕ) → labelled n (labelled m s) ≡ labelled (m + n) s
labelled_more s m n = rw (append_assoc s.labels (replicate m 0) (replicate n 0), replicate-append-replicate {A = ℕ} m n 0)

labelled_length : (s : State) (n : ℕ) → length (labelled n s).labels ≡ length s.labels + n
labelled_length s n = length-append s.labels (replicate n 0) ∙ ap (λ (k : ℕ). length s.labels + k) (length-replicate {A = ℕ} n 0)

-- one element

one_fits : (m : Meaning) (e : Element) (xs : List SwitchElement) (s : State) → length s.labels + one_label e ≤ s.limits.labels →
    (with_label m e >>= λ x. pure (x ∷ xs)) s ≡ ok (with_number (length s.labels) m e ∷ xs) (labelled (one_label e) s)
unfolding ◌>>=◌ pure create_label
one_fits m case xs s h = rw (lt-ltb (length s.labels) s.limits.labels (omega arith))
one_fits m default xs s h = rw (lt-ltb (length s.labels) s.limits.labels (omega arith))
one_fits m statement xs s h = rw (labelled_none s)

one_full : (m : Meaning) (e : Element) (xs : List SwitchElement) (s : State) → length s.labels ≤ s.limits.labels → s.limits.labels < length s.labels + one_label e →
    (with_label m e >>= λ x. pure (x ∷ xs)) s ≡ refused 8 s
unfolding ◌>>=◌ pure create_label
one_full m case xs s k h = rw (le-ltb (length s.labels) s.limits.labels (omega arith))
one_full m default xs s k h = rw (le-ltb (length s.labels) s.limits.labels (omega arith))
one_full m statement xs s k h = absurd (omega arith)

-- all of them

pub elements_fit : (ms : Forest Meaning) (s : State) → length s.labels + labels_of_forest ms ≤ s.limits.labels →
    with_labels ms s ≡ ok (elements_from (length s.labels) ms) (labelled (labels_of_forest ms) s)
unfolding ◌>>=◌ pure labels_of_forest elements_from
elements_fit Forest.none s h = rw (labelled_none s)
elements_fit (more ms m kids) s h =
    ap (λ (r : Result (List SwitchElement)). bind r (λ xs. with_label m (element m.rec) >>= λ x. pure (x ∷ xs))) (elements_fit ms s (omega arith))
    ∙ one_fits m (element m.rec) (elements_from (length s.labels) ms) (labelled (labels_of_forest ms) s) (rw (labelled_length s (labels_of_forest ms)) (omega arith))
    ∙ rw (labelled_length s (labels_of_forest ms), labelled_more s (labels_of_forest ms) (one_label (element m.rec)))

-- the labels before the last element fit, or not
more_full : (ms : Forest Meaning) (m : Meaning) (kids : Forest Meaning) (s : State) → s.limits.labels < length s.labels + labels_of_forest (more ms m kids) →
    (t : Bool) → leb (length s.labels + labels_of_forest ms) s.limits.labels ≡ t → (s.limits.labels < length s.labels + labels_of_forest ms → (s' : State) × (with_labels ms s ≡ refused 8 s')) →
    (s' : State) × (with_labels (more ms m kids) s ≡ refused 8 s')
unfolding ◌>>=◌ labels_of_forest
more_full ms m kids s h true e rest =
    let fits = leb-true (length s.labels + labels_of_forest ms) s.limits.labels e in (
      labelled (labels_of_forest ms) s,
      ap (λ (r : Result (List SwitchElement)). bind r (λ xs. with_label m (element m.rec) >>= λ x. pure (x ∷ xs))) (elements_fit ms s fits)
          ∙ one_full m (element m.rec) (elements_from (length s.labels) ms) (labelled (labels_of_forest ms) s) (rw (labelled_length s (labels_of_forest ms)) fits) (rw (labelled_length s (labels_of_forest ms)) (omega arith)),
    )
more_full ms m kids s h false e rest =
    let r = rest (leb-false (length s.labels + labels_of_forest ms) s.limits.labels e) in
    (r.0, ap (λ (r : Result (List SwitchElement)). bind r (λ xs. with_label m (element m.rec) >>= λ x. pure (x ∷ xs))) r.1)

pub elements_full : (ms : Forest Meaning) (s : State) → length s.labels ≤ s.limits.labels → s.limits.labels < length s.labels + labels_of_forest ms →
    (s' : State) × (with_labels ms s ≡ refused 8 s')
unfolding labels_of_forest
elements_full Forest.none s k h = absurd (omega arith)
elements_full (more ms m kids) s k h = more_full ms m kids s h (leb (length s.labels + labels_of_forest ms) s.limits.labels) refl (elements_full ms s k)

-- the ways of create_labels

module _ (F : List ℕ) {b : BuilderState} {w : List ℕ} (ms : Forest Meaning) {n : ℕ} (f : Fine b w) (h : IsNone b.refused) (e : labels_of_forest ms ≡ n) where
  pub labels_full : 1024 < b.labels + n → Does F (with_labels ms) b w (elements_from b.labels ms) (refused_with b TooMany) w
  unfolding state
  labels_full k =
      let full = elements_full ms (state F b w) (rw (length_labels f) f.labels) (rw (length_labels f, e) k) in
      refuses_in F (with_labels ms) (elements_from b.labels ms) TooMany f h full.1

  labels_step : b.labels + n ≤ 1024 → with_labels ms (state F b w) ≡ ok (elements_from b.labels ms) (state F (changed b b.refused (b.labels + n) b.size) w)
  unfolding state
  labels_step k =
      elements_fit ms (state F b w) (rw (length_labels f, e) k)
      ∙ rw (length_labels f, e, labelled_state n f k F)

  pub labels_done : b.labels + n ≤ 1024 → Does F (with_labels ms) b w (elements_from b.labels ms) (changed b b.refused (b.labels + n) b.size) w
  unfolding after carry
  labels_done k = record {
    same = rw (held_holds F (elements_from b.labels ms) (changed b b.refused (b.labels + n) b.size) w h, held_holds F (tt {0}) b w h, labels_step k);
    fine = labelled_fine n f k;
    named = changed_named b.refused (b.labels + n) b.size;
  }
