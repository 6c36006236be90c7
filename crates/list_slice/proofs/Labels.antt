-- A label's word, by the list that marks it.
use Prim.Native.Nat.{ℕ, zero, suc, ◌+◌, ◌<◌}
use mathlib.Core.Path.{◌≡◌, refl, ap, ◌∙◌}
use mathlib.Core.List.{List, [], ◌∷◌, ◌++◌}
use native.Mathlib.Nat.{zero-add}
use native.Mathlib.Omega.{arith}
use lib.ListN.{length, get_or}
use Rattle.pcode.specs.Pcode.{Item}
use Rattle.action_format.specs.ByPlace.{marked, place_of_label}
use Rattle.action_format.proofs.Tests.{All}
use Rattle.list_slice.specs.Compiled.{label_word, labels_from, label_words}

abbrev Unmarked : (label : ℕ) → List Item → Type 0
Unmarked l is = marked 0 l is ≡ []

-- a label that no list marks has 0
pub never_marked : (ls : List (List Item)) (l : ℕ) → All (Unmarked l) ls → label_word ls l ≡ 0
unfolding label_word
never_marked [] l h = refl
never_marked (is ∷ ls) l h = rw h.0 (never_marked ls l h.1)

-- a label that one list marks has the place that its branches name by place, plus 1
pub marked_once : (before : List (List Item)) (is : List Item) (after : List (List Item)) (l p : ℕ) (ps : List ℕ) → All (Unmarked l) before → marked 0 l is ≡ p ∷ ps →
    (label_word (before ++ (is ∷ after)) l ≡ suc p) × (place_of_label is l ≡ p)
unfolding label_word
marked_once [] is after l p ps h e = (rw e, rw e)
marked_once (b ∷ before) is after l p ps h e =
    let m = marked_once before is after l p ps h.1 e in
    (rw h.0 m.0, m.1)

-- the label words, one by one
words_at : (ls : List (List Item)) (l n i : ℕ) → i < n → get_or (labels_from ls l n) i 0 ≡ label_word ls (l + i)
unfolding labels_from
words_at ls l zero i h = absurd (omega arith)
words_at ls l (suc n) zero h = ap (label_word ls) (omega arith)
words_at ls l (suc n) (suc i) h = words_at ls (suc l) n i (omega arith) ∙ ap (label_word ls) (next l i)
  where
    next : (a b : ℕ) → suc a + b ≡ a + suc b
    next a b = omega arith

pub label_word_at : (ls : List (List Item)) (n l : ℕ) → l < n → get_or (label_words n ls) l 0 ≡ label_word ls l
label_word_at ls n l h = words_at ls 0 n l h ∙ ap (label_word ls) (zero-add l)

pub labels_length : (ls : List (List Item)) (l n : ℕ) → length (labels_from ls l n) ≡ n
unfolding labels_from
labels_length ls l zero = refl
labels_length ls l (suc n) = ap suc (labels_length ls (suc l) n)
