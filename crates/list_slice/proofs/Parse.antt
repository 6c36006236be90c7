-- The entries are recovered from the words alone.
use Prim.Native.Nat.{ℕ, zero, suc, ◌+◌, ◌-◌, ◌*◌, ◌<◌}
use mathlib.Core.Path.{◌≡◌, refl, sym, ap, ◌∙◌}
use mathlib.Core.List.{List, [], ◌∷◌, ◌++◌, append_assoc}
use native.Mathlib.Omega.{arith}
use lib.ListN.{length, get_or, length-append}
use lib.Seq.{get_or-append-add}
use Rattle.lowering.specs.Builder.{Limits}
use Rattle.list_slice.specs.Entry.{Entry}
use Rattle.list_slice.specs.Words.{slice_length, labels_at, zeros_of, area, entry_words, joined, ends_from, slice_words, LastFilled, Fits, entry_at, run, cut, keep, trimmed, entries_in}
use Rattle.list_slice.proofs.Areas.{area_is, slice_parts, ends_in_lem}

pub words_length : (es : List Entry) → length (entry_words es) ≡ length es * 3
unfolding entry_words
words_length [] = refl
words_length (e ∷ es) = ap (λ (k : ℕ). suc (suc (suc k))) (words_length es) ∙ omega arith

pub words_append : (xs ys : List Entry) → entry_words (xs ++ ys) ≡ entry_words xs ++ entry_words ys
unfolding entry_words
words_append [] ys = refl
words_append (x ∷ xs) ys = ap (λ (r : List ℕ). x.code ∷ x.first ∷ x.second ∷ r) (words_append xs ys)

-- words moved from what follows some entries to those entries
regroup : (xs ys : List Entry) (R : List ℕ) → entry_words xs ++ (entry_words ys ++ R) ≡ entry_words (xs ++ ys) ++ R
regroup xs ys R = sym (ap (λ (r : List ℕ). r ++ R) (words_append xs ys) ∙ append_assoc (entry_words xs) (entry_words ys) R)

at_seam : (us vs : List ℕ) (k n : ℕ) → k ≡ length us + n → get_or (us ++ vs) k 0 ≡ get_or vs n 0
at_seam us vs k n e = rw e (get_or-append-add us vs n 0)

entry_at_lem : {w : List ℕ} {p : ℕ} (xs : List Entry) (y : Entry) (R : List ℕ) → w ≡ entry_words xs ++ (y.code ∷ y.first ∷ y.second ∷ R) → p ≡ length xs → entry_at w p ≡ y
unfolding entry_at
entry_at_lem {w} {p} xs y R e h =
    let n = words_length xs in
    rw (
      e,
      at_seam (entry_words xs) (y.code ∷ y.first ∷ y.second ∷ R) (p * 3) 0 (omega arith),
      at_seam (entry_words xs) (y.code ∷ y.first ∷ y.second ∷ R) (p * 3 + 1) 1 (omega arith),
      at_seam (entry_words xs) (y.code ∷ y.first ∷ y.second ∷ R) (p * 3 + 2) 2 (omega arith),
    )

run_words : {w : List ℕ} {p : ℕ} (xs ys : List Entry) (R : List ℕ) → w ≡ entry_words xs ++ (entry_words ys ++ R) → p ≡ length xs → run w p (length ys) ≡ ys
unfolding run entry_words
run_words xs [] R e h = refl
run_words {w} {p} xs (y ∷ ys) R e h =
    rw (entry_at_lem xs y (entry_words ys ++ R) e h, run_words {w = w} {p = suc p} (xs ++ (y ∷ [])) ys R (e ∙ regroup xs (y ∷ []) (entry_words ys ++ R)) (rw length-append (omega arith)))

cut_words : {w : List ℕ} {p : ℕ} (xs : List Entry) (es : List (List Entry)) (R : List ℕ) → w ≡ entry_words xs ++ (entry_words (joined es) ++ R) → p ≡ length xs → cut w p (ends_from p es) ≡ es
unfolding cut ends_from joined
cut_words xs [] R e h = refl
cut_words {w} {p} xs (ys ∷ ls) R e h =
    let e' = e ∙ ap (λ (r : List ℕ). entry_words xs ++ r) (sym (regroup ys (joined ls) R)) in
    rw (
      ap (run w p) (less p (length ys)),
      run_words xs ys (entry_words (joined ls) ++ R) e' h,
      cut_words {w = w} {p = p + length ys} (xs ++ ys) ls R (e' ∙ regroup xs ys (entry_words (joined ls) ++ R)) (rw length-append (omega arith)),
    )
  where
    less : (a b : ℕ) → a + b - a ≡ b
    less a b = omega arith

trimmed_zeros : (k : ℕ) → trimmed (zeros_of k) ≡ []
unfolding trimmed zeros_of
trimmed_zeros zero = refl
trimmed_zeros (suc k) = rw (trimmed_zeros k)

keep_last : (n : ℕ) → 0 < n → keep n [] ≡ n ∷ []
keep_last zero h = absurd (omega arith)
keep_last (suc n) h = refl

trimmed_ends : (p : ℕ) (es : List (List Entry)) (k : ℕ) → LastFilled es → trimmed (ends_from p es ++ zeros_of k) ≡ ends_from p es
unfolding trimmed ends_from
trimmed_ends p [] k h = trimmed_zeros k
trimmed_ends p (xs ∷ []) k h = rw (trimmed_zeros k) (keep_last (p + length xs) (omega arith))
trimmed_ends p (xs ∷ ys ∷ ls) k h = rw (trimmed_ends (p + length xs) (ys ∷ ls) k h)

pub ends_length : (p : ℕ) (es : List (List Entry)) → length (ends_from p es) ≡ length es
unfolding ends_from
ends_length p [] = refl
ends_length p (xs ∷ ls) = ap suc (ends_length (p + length xs) ls)

-- lists that have room are what the words say, so two different ones never have the same words
pub recovered : (l : Limits) (es : List (List Entry)) (labels pool : List ℕ) (n : ℕ) → Fits l es labels pool n → entries_in l (slice_words l es labels pool n) ≡ es
unfolding entries_in entry_words
recovered l es labels pool n f =
    let tables = area l.labels labels ++ (area l.actions (ends_from 0 es) ++ (area l.values pool ++ zeros_of (n - slice_length l))) in
    let gap = zeros_of (labels_at l - length (entry_words (joined es))) in
    let fit = area_is (labels_at l) (entry_words (joined es)) (rw words_length (omega (arith, f.entries_fit))) in
    rw (ends_in_lem l es labels pool n f.slice_fits, area_is l.actions (ends_from 0 es) (rw ends_length f.lists_fit), trimmed_ends 0 es _ f.last_filled)
    (cut_words [] es (gap ++ tables)
    (slice_parts l es labels pool n f.slice_fits ∙ ap (λ (r : List ℕ). r ++ tables) fit ∙ append_assoc (entry_words (joined es)) gap tables) refl)

pub distinct : (l : Limits) (es es' : List (List Entry)) (labels labels' pool pool' : List ℕ) (n : ℕ) → Fits l es labels pool n → Fits l es' labels' pool' n →
    slice_words l es labels pool n ≡ slice_words l es' labels' pool' n → es ≡ es'
distinct l es es' labels labels' pool pool' n f f' e = sym (recovered l es labels pool n f) ∙ ap (entries_in l) e ∙ recovered l es' labels' pool' n f'
