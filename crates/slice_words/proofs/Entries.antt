-- Three words of a list, by chunks of three.
use Prim.Native.Nat.{ℕ, zero, suc, ◌+◌, ◌*◌, ◌/◌, ◌<◌}
use mathlib.Core.Path.{◌≡◌, refl, ap, ◌∙◌}
use mathlib.Core.List.{List, []}
use native.Mathlib.Omega.{arith}
use lib.ListN.{length, get_or, take, drop}
use Rattle.std.proofs.lemmas.List.{get_or-take, get_or-drop}
use lib.Seq.{drop-drop}
use Rattle.std.specs.Simd.{first_chunks}
use Rattle.slice_words.specs.Words.{entry_in}

-- The library has no lemma of a place among `first_chunks`: this gives a chunk, and the next a word of it.
chunk_at : (k e : ℕ) (w : List ℕ) → e < k → get_or (first_chunks 3 k w) e [] ≡ take 3 (drop (e * 3) w)
chunk_at zero e w h = absurd (omega arith)
chunk_at (suc k) zero w h = refl
chunk_at (suc k) (suc e) w h = chunk_at k e (drop 3 w) (omega arith) ∙ ap (take 3) (drop-drop (e * 3) 3 w ∙ ap (λ (i : ℕ). drop i w) (omega arith))

word_at : (w : List ℕ) (e i j : ℕ) → e * 3 + 2 < length w → i < 3 → e * 3 + i ≡ j → get_or (get_or (first_chunks 3 (length w / 3) w) e []) i 0 ≡ get_or w j 0
word_at w e i j h l q = rw (chunk_at (length w / 3) e w (omega arith), get_or-take 3 (drop (e * 3) w) i 0 l, ← q) (get_or-drop (e * 3) w i 0)

pub entry_law : (w : List ℕ) (e : ℕ) → e * 3 + 2 < length w → {ch : List (List ℕ)} → ch ≡ first_chunks 3 (length w / 3) w →
    record { code = get_or (get_or ch e []) 0 0; first = get_or (get_or ch e []) 1 0; second = get_or (get_or ch e []) 2 0 } ≡ entry_in w e
entry_law w e h q = rw (q, word_at w e 0 (e * 3) h (omega arith) (omega arith), word_at w e 1 (e * 3 + 1) h (omega arith) (omega arith), word_at w e 2 (e * 3 + 2) h (omega arith) (omega arith))
