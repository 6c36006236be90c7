-- The top list's bytes in an output of zeros.
use Prim.Native.Nat.{ℕ, zero, suc, ◌+◌, ◌-◌, ◌≤◌, ◌<◌}
use mathlib.Core.Path.{◌≡◌, refl, ap, ◌∙◌, subst}
use mathlib.Core.List.{List, [], ◌∷◌}
use native.Mathlib.Omega.{arith}
use lib.ListN.{length, get_or, drop, replicate, length-append}
use borrow.Author.Tests.{lt-leb, le-leb}
use Rattle.std.specs.Prelude.{Result, Ok, Err}
use Rattle.refusal.specs.declared.Refusal.{Refusal}
use Rattle.refusal.specs.declared.Refusal.TheVariants.{ShortOutput}
use Rattle.list_slice.specs.Words.{zeros_of}
use Rattle.zeros.proofs.Clearing.{cleared_long}
use Rattle.byte_writer.specs.Written.{Room, Wrote}
use Rattle.byte_writer.proofs.Writes.{wrote_then, written_is}
use Rattle.definition.specs.Outcome.{Outcome}
use Rattle.resolver.specs.Walk.{count_of}
use Rattle.action_writer.specs.Bodies.{body_at}
use Rattle.action_writer.specs.Outcomes.{Leaves, top_bytes, top_outcome, Measured}

pub cleared_leaves : (f : ℕ → Outcome) (o : List ℕ) {x : List ℕ} → x ≡ zeros_of (length o) → {r : Result ℕ Refusal} {out : List ℕ} → Leaves (f (length x)) (length x) r out →
    Leaves (f (length o)) (length o) r out
cleared_leaves f o e {r} {out} h = subst (λ (n : ℕ). Leaves (f n) n r out) (cleared_long o e) h

-- what is left of zeros

zeros_drop : (n k : ℕ) → drop k (zeros_of n) ≡ replicate (n - k) 0
unfolding zeros_of
zeros_drop n zero = let e : n - 0 ≡ n = omega arith in rw e
zeros_drop zero (suc k) = let e : 0 - suc k ≡ 0 = omega arith in rw e
zeros_drop (suc n) (suc k) = let e : suc n - suc k ≡ n - k = omega arith in rw e (zeros_drop n k)

module _ (F w sizes : List ℕ) (m : Measured F w sizes) (o : List ℕ) (z : o ≡ zeros_of (length o)) where
  bytes_long : length (top_bytes F w) ≡ get_or sizes 0 0 + 1
  unfolding top_bytes
  bytes_long = omega (arith, length-append (body_at F w (count_of w - 1)) (0 ∷ []), m.top)

  pub top_refused : length o ≤ get_or sizes 0 0 → Leaves (top_outcome F w (length o)) (length o) (Err ShortOutput) o
  unfolding top_outcome zeros_of
  top_refused h =
      rw (lt-leb (length (top_bytes F w)) (length o) (omega (arith, bytes_long)))
      (record { number = refl; count = refl; whole = z })

  pub top_room : get_or sizes 0 0 < length o → Room o 0 (body_at F w (count_of w - 1))
  top_room h = omega (arith, m.top)

  rest : drop (0 + length (top_bytes F w)) o ≡ replicate (length o - length (top_bytes F w)) 0
  rest =
      let k : 0 + length (top_bytes F w) ≡ length (top_bytes F w) = omega arith in
      rw k (ap (drop (length (top_bytes F w))) z ∙ zeros_drop (length o) (length (top_bytes F w)))

  -- what the writer left behind the reference that it was made of
  pub top_done : get_or sizes 0 0 < length o → {end n : ℕ} {o₁ o₂ : List ℕ} → Wrote o 0 (body_at F w (count_of w - 1)) end o₁ → Wrote o₁ end (0 ∷ []) n o₂ →
      {x : List ℕ} → x ≡ o₂ → Leaves (top_outcome F w (length o)) (length o) (Ok n) x
  unfolding top_outcome top_bytes
  top_done h a b q =
      let d = wrote_then a b in
      rw (le-leb (length (top_bytes F w)) (length o) (omega (arith, bytes_long)), q)
      (record {
        number = refl;
        count = omega (arith, d.after);
        whole = d.output ∙ (written_is o 0 (top_bytes F w) (omega (arith, bytes_long)) ∙ rw rest);
      })
