-- The bytes of one script begin the bytes of another exactly if their lists are the same.
use Prim.Native.Nat.{ℕ, suc, ◌+◌}
use mathlib.Core.Path.{◌≡◌, ap, sym, ◌∙◌}
use mathlib.Core.Logic.{◌↔◌}
use mathlib.Core.List.{[], ◌∷◌, ◌++◌, append_assoc, append-nil}
use native.Mathlib.Omega.{arith}
use Rattle.action_format.specs.Lists.{Lists}
use Rattle.action_format.specs.Rules.{Limits, OfLowering}
use Rattle.action_format.specs.Code.{Code, code, lists_of_outcome}
use Rattle.action_format.specs.Bytes.{Bytes, code_bytes}
use Rattle.action_format.specs.Offsets.{by_offset, from_offset}
use Rattle.action_format.specs.Encode.{written, bytes, encode}
use Rattle.action_format.specs.Decode.{read_code}
use Rattle.action_format.proofs.Tests.{some_of}
use Rattle.action_format.proofs.Bodies.{count}
use Rattle.action_format.proofs.Numbers.{flat_nest}
use Rattle.action_format.proofs.Complete.{Encoded, encoded, landing, up_to_End}

module _ (limits limits' : Limits) (l l' : Lists) (h : OfLowering limits l) (h' : OfLowering limits' l') (room room' : ℕ) (b b' : Bytes)
    (e : encode l room ≡ bytes b) (e' : encode l' room' ≡ bytes b') where
  abbrev x : Encoded l room b
  x = encoded l room b e

  abbrev x' : Encoded l' room' b'
  x' = encoded l' room' b' e'

  abbrev d : Code
  d = by_offset (code l)

  abbrev d' : Code
  d' = by_offset (code l')

  abbrev enough : ℕ
  enough = suc (count d + count d')

  read_both : (r : Bytes) → b ++ r ≡ b' → ◌≡◌ {A = Code × Bytes} (d, 0 ∷ r) (d', 0 ∷ [])
  read_both r q =
      let same : code_bytes d ++ (0 ∷ r) ≡ code_bytes d' ++ (0 ∷ []) =
      sym (append_assoc (code_bytes d) (0 ∷ []) r) ∙ ap (λ (z : Bytes). z ++ r) x.bytes_are ∙ q ∙ sym x'.bytes_are in
      some_of (sym (up_to_End limits l h room b x enough (omega arith) r) ∙ ap (read_code enough) same ∙ up_to_End limits' l' h' room' b' x' enough (omega arith) [])

  pub prefix : (r : Bytes) → b ++ r ≡ b' → (l ≡ l') × (r ≡ [])
  prefix r q =
      let p : ◌≡◌ {A = Code × Bytes} (d, 0 ∷ r) (d', 0 ∷ []) = read_both r q in
      let c : code l ≡ code l' = some_of (sym (landing limits l h x.is_near) ∙ ap (λ (z : Code × Bytes). from_offset z.0) p ∙ landing limits' l' h' x'.is_near) in
      (sym (flat_nest l h.numbered) ∙ ap lists_of_outcome c ∙ flat_nest l' h'.numbered, cc (ap (λ (z : Code × Bytes). z.1) p))

  pub same_bytes_lem : l ≡ l' → b ≡ b'
  same_bytes_lem q = sym x.bytes_are ∙ ap (λ (z : Lists). written (code z)) q ∙ x'.bytes_are

  pub exactly : ((r : Bytes) × (b ++ r ≡ b')) ↔ (l ≡ l')
  exactly = (λ p. (prefix p.0 p.1).0, λ q. ([], append-nil b ∙ same_bytes_lem q))
