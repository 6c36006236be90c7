-- Of two scripts that compile, one's bytes begin the other's exactly if their lists are the same; and what compiles is read back.
use Prim.Native.Nat.{ℕ, suc, ◌≤◌}
use mathlib.Core.Path.{◌≡◌, refl, ap, ap₂, sym}
use mathlib.Core.Logic.{◌↔◌}
use mathlib.Core.List.{List, [], ◌∷◌}
use native.Mathlib.Omega.{arith}
use lib.ListN.{length, get_or, get_elem?}
use Rattle.pcode.specs.Pcode.{Action, Item}
use Rattle.script.specs.Write.{Bytes}
use Rattle.lowering.specs.Builder.{Limits}
use Rattle.action_format.specs.Lists.{Lists, all_lists}
use Rattle.action_format.specs.ByList.{list_of}
use Rattle.action_format.proofs.Tests.{never, some_of}
use Rattle.action_format.proofs.Complete.{complete}
use Rattle.action_format.proofs.Prefix as prefix
use Rattle.list_slice.specs.Words.{slice_length}
use Rattle.definition.specs.Outcome.{compiled, read, by_place, byte_limits}
use Rattle.definition.specs.Compile.{compile_with}
use Rattle.definition.specs.Read.{read_with}
use Rattle.definition.specs.Demand3.{Begins, Agree, AreSameLists}
use Rattle.definition.proofs.Ways.{Compiled, compiled_by, found, reading_of}
use Rattle.definition.proofs.Kept.{kept}

-- lists that agree are the same

same_elements : {A : Type 0} (xs ys : List A) → ((i : ℕ) → get_elem? xs i ≡ get_elem? ys i) → xs ≡ ys
same_elements [] [] h = refl
same_elements [] (y ∷ ys) h = never y (h 0)
same_elements (x ∷ xs) [] h = never x (sym (h 0))
same_elements (x ∷ xs) (y ∷ ys) h = ap₂ ◌∷◌ (some_of (h 0)) (same_elements xs ys (λ i. h (suc i)))

same_rows : {A : Type 0} (xs ys : List (List A)) → length xs ≡ length ys → ((k : ℕ) → get_or xs k [] ≡ get_or ys k []) → xs ≡ ys
same_rows [] [] n h = refl
same_rows [] (y ∷ ys) n h = absurd (omega arith)
same_rows (x ∷ xs) [] n h = absurd (omega arith)
same_rows (x ∷ xs) (y ∷ ys) n h = ap₂ ◌∷◌ (h 0) (same_rows xs ys (omega arith) (λ k. h (suc k)))

pub agree_same : (l l' : Lists) → Agree l l' ↔ (l ≡ l')
agree_same l l' = (
  λ h. ap₂ (λ (t : List Action) (fs : List (List Action)). record { top = t; functions = fs }) (rows h 0)
      (same_rows l.functions l'.functions (omega (arith, h.0)) (λ k. rows h (suc k))),
  λ e. (ap (λ (z : Lists). length (all_lists z)) e, λ k. (ap (λ (z : Lists). length (list_of z k)) e, λ i. ap (λ (z : Lists). get_elem? (list_of z k) i) e)),
)
  where
    rows : Agree l l' → (k : ℕ) → list_of l k ≡ list_of l' k
    rows h k = same_elements (list_of l k) (list_of l' k) (h.1 k).1

module _ (lim : Limits) (some_action : 1 ≤ lim.actions) where
  module _ (file : List ℕ) (list_words room : ℕ) (b : List ℕ) (ls : List (List Item)) (bytes : Bytes file)
      (e : compile_with lim file list_words room ≡ compiled b ls) where
    abbrev c : Compiled lim file list_words room b ls
    c = compiled_by lim file list_words room b ls e

    module _ (file' : List ℕ) (listWords' room' : ℕ) (b' : List ℕ) (ls' : List (List Item)) (bytes' : Bytes file')
        (e' : compile_with lim file' listWords' room' ≡ compiled b' ls') where
      abbrev c' : Compiled lim file' listWords' room' b' ls'
      c' = compiled_by lim file' listWords' room' b' ls' e'

      begins_equal : Begins b b' ↔ (by_place ls ≡ by_place ls')
      begins_equal = prefix.exactly (byte_limits lim) (byte_limits lim) (by_place ls) (by_place ls')
          (kept lim some_action file list_words room b ls bytes c) (kept lim some_action file' listWords' room' b' ls' bytes' c') room room' b b'
          c.encoded c'.encoded

      equal_bytes : by_place ls ≡ by_place ls' → b ≡ b'
      equal_bytes = prefix.same_bytes_lem (byte_limits lim) (byte_limits lim) (by_place ls) (by_place ls')
          (kept lim some_action file list_words room b ls bytes c) (kept lim some_action file' listWords' room' b' ls' bytes' c') room room' b b'
          c.encoded c'.encoded

      pub begins_exactly : Begins b b' ↔ AreSameLists ls ls'
      begins_exactly = (λ p. (agree_same (by_place ls) (by_place ls')).1 (begins_equal.0 p), λ h. begins_equal.1 ((agree_same (by_place ls) (by_place ls')).0 h))

      pub then_equal : AreSameLists ls ls' → b ≡ b'
      then_equal h = equal_bytes ((agree_same (by_place ls) (by_place ls')).0 h)

    pub read_back : (words : ℕ) → slice_length lim ≤ words → read_with lim b words ≡ read (by_place ls) (length b)
    read_back words s =
        reading_of lim b words (found s (complete (byte_limits lim) (by_place ls) (kept lim some_action file list_words room b ls bytes c) room b c.encoded))
