-- The answer is that of the definition.
use Prim.Native.Nat.{ℕ, ◌+◌, ◌-◌, ◌≤◌}
use mathlib.Core.Path.{◌≡◌, refl, ap, sym, ◌∙◌}
use mathlib.Core.List.{List}
use mathlib.Core.Bool.{Bool, true, false, cond}
use native.Mathlib.Omega.{arith}
use lib.Dec.{leb}
use lib.ListN.{length}
use borrow.Author.Tests.{eq-eqb}
use Rattle.std.specs.Prelude.{Result, Ok, Err, IsErrAnd}
use Rattle.refusal.specs.declared.Refusal.{Refusal}
use Rattle.script.specs.Write.{Bytes}
use Rattle.lowering.specs.Builder.{limits01}
use Rattle.action_format.specs.Strings.{zero_free}
use Rattle.action_format.specs.Code.{code}
use Rattle.action_format.specs.Offsets.{all_near}
use Rattle.action_format.specs.Encode as encoded
use Rattle.action_format.specs.Encode.{short, encode}
use Rattle.action_format.specs.ByList.{body_bytes}
use Rattle.action_format.proofs.Tests.{is_true}
use Rattle.list_slice.specs.Words.{zeros_of}
use Rattle.definition.specs.Outcome.{compiled, refused, by_place}
use Rattle.definition.specs.Compile.{lists_of, written, if_lowered}
use Rattle.resolver.specs.Lowered.{Lowered}
use Rattle.resolver.specs.Walk.{count_of}
use Rattle.resolver.specs.Resolved.{Resolved, Resolves}
use Rattle.resolver.specs.Resolved as resolver
use Rattle.resolver.proofs.Stand.{stands}
use Rattle.action_writer.specs.Bodies.{body_at}
use Rattle.action_writer.specs.Outcomes.{Leaves, top_bytes, top_outcome, Measured}
use Rattle.action_writer.proofs.Ready.{same_lists, held}

module _ {F w : List ℕ} (h : Lowered F w) {sizes offsets : List ℕ} where
  pub refused_leaves : {r : Result ℕ Refusal} → Resolves F w h.lists sizes offsets r → {x : Refusal} → r ≡ Err x → (a : Result ℕ Refusal) → IsErrAnd a (λ y. y ≡ x) →
      (o : List ℕ) → o ≡ zeros_of (length o) → Leaves (if_lowered (lists_of limits01 F) (length o)) (length o) a o
  unfolding zeros_of
  refused_leaves (resolver.refused {e = e} f) q (Err y) p o z = let s : e ≡ y = cc in rw (h.from, f (length o), s) (record { number = refl; count = refl; whole = z })
  refused_leaves (resolver.good x y) q (Err e) p o z = absurd cc
  refused_leaves r q (Ok n) p o z = absurd p

  pub resolved-is : {r : Result ℕ Refusal} → Resolves F w h.lists sizes offsets r → {b : ℕ} → r ≡ Ok b → Resolved F w h.lists sizes offsets
  resolved-is (resolver.refused f) q = absurd cc
  resolved-is (resolver.good x y) q = x

  module _ (bytes : Bytes F) (x : Resolved F w h.lists sizes offsets) where
    some-lists : 1 ≤ count_of w
    some-lists = (stands h bytes).some

    top_body : body_at F w (count_of w - 1) ≡ body_bytes (by_place h.lists) 0
    unfolding body_at
    top_body =
        let e : count_of w - 1 + 1 ≡ count_of w = omega (arith, some-lists) in
        rw (eq-eqb (count_of w - 1 + 1) (count_of w) e, held h)

    pub is-measured : Measured F w sizes
    is-measured = record { some = some-lists; top = x.tables.body_size 0 (omega (arith, some-lists)) ∙ ap length (sym top_body) }

    top_is : (room : ℕ) → if_lowered (lists_of limits01 F) room ≡ top_outcome F w room
    unfolding top_outcome top_bytes encode
    top_is room =
        let l = by_place h.lists in
        rw (h.from, is_true (zero_free l) x.no_zeros, is_true (short (code l)) x.is_short, is_true (all_near (code l)) x.is_near, top_body, same_lists h)
        (by (leb (length (encoded.written (code l))) room))
      where
        by : (t : Bool) → written h.lists (elim t [ true ↦ encoded.bytes (encoded.written (code (by_place h.lists))) | false ↦ encoded.refused 12 ]) ≡
            cond t (compiled (encoded.written (code (by_place h.lists))) h.lists) (refused 12)
        by true = refl
        by false = refl

    pub top-leaves : {room : ℕ} {r : _} {o : List ℕ} → Leaves (top_outcome F w room) room r o → Leaves (if_lowered (lists_of limits01 F) room) room r o
    top-leaves {room} y = rw (top_is room) y
