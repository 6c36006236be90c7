-- The words of the list slice: an area of entries of three words, then label words, list ends and pool words.
use Rattle.std.specs.Prelude.{ℕ, zero, suc, ◌+◌, ◌-◌, ◌*◌, ◌≤◌, ◌<◌, List, [], ◌∷◌, ◌++◌, length, get_or, take, drop, replicate}
use Rattle.lowering.specs.Builder.{Limits}
use Rattle.list_slice.specs.Entry.{Entry, entry}

-- one entry for each unit of the limits; the slice has four words for each
abbrev pub units : Limits → ℕ
units l = l.actions + l.values + l.labels

abbrev pub slice_length : Limits → ℕ
slice_length l = 4 * units l

-- where the areas after the entries begin
abbrev pub labels_at : Limits → ℕ
labels_at l = 3 * units l

abbrev pub ends_at : Limits → ℕ
ends_at l = labels_at l + l.labels

abbrev pub pool_at : Limits → ℕ
pool_at l = ends_at l + l.actions

-- what a refusal leaves
unfoldable pub zeros_of : ℕ → List ℕ
zeros_of n = replicate n 0

-- n words: those given, then zeros
unfoldable pub area : ℕ → List ℕ → List ℕ
area zero ws = []
area (suc n) [] = 0 ∷ area n []
area (suc n) (w ∷ ws) = w ∷ area n ws

unfoldable pub entry_words : List Entry → List ℕ
entry_words [] = []
entry_words (e ∷ es) = e.code ∷ e.first ∷ e.second ∷ entry_words es

unfoldable pub joined : {A : Type 0} → List (List A) → List A
joined [] = []
joined (xs ∷ ls) = xs ++ joined ls

-- the entry after each list, the first of which begins at entry p
unfoldable pub ends_from : {A : Type 0} → ℕ → List (List A) → List ℕ
ends_from p [] = []
ends_from p (xs ∷ ls) = (p + length xs) ∷ ends_from (p + length xs) ls

-- the lists as they stand: in the order in which they finish, each with its last entry first
unfoldable pub slice_words : Limits → (entries : List (List Entry)) → (labels pool : List ℕ) → (length : ℕ) → List ℕ
slice_words l es labels pool n =
    area n (area (labels_at l) (entry_words (joined es)) ++ (area l.labels labels ++ (area l.actions (ends_from 0 es) ++ area l.values pool)))

-- the last list, which is the top list, has an entry
abbrev pub LastFilled : {A : Type 0} → List (List A) → Type 0
LastFilled [] = Unit
LastFilled (xs ∷ []) = 0 < length xs
LastFilled (xs ∷ ys ∷ ls) = LastFilled (ys ∷ ls)

-- what is given has room in its areas
pub record Fits (l : Limits) (es : List (List Entry)) (labels pool : List ℕ) (n : ℕ) : Type 0 where
  pub entries_fit : length (joined es) ≤ units l
  pub lists_fit : length es ≤ l.actions
  pub labels_fit : length labels ≤ l.labels
  pub pool_fits : length pool ≤ l.values
  pub slice_fits : slice_length l ≤ n
  pub last_filled : LastFilled es

-- and back, from the words alone

unfoldable pub entry_at : List ℕ → ℕ → Entry
entry_at w i = entry (get_or w (i * 3) 0) (get_or w (i * 3 + 1) 0) (get_or w (i * 3 + 2) 0)

-- n entries from entry i on
unfoldable pub run : List ℕ → ℕ → ℕ → List Entry
run w i zero = []
run w i (suc n) = entry_at w i ∷ run w (suc i) n

-- the lists from entry p on, by their ends
unfoldable pub cut : List ℕ → ℕ → List ℕ → List (List Entry)
cut w p [] = []
cut w p (e ∷ es) = run w p (e - p) ∷ cut w e es

-- the zeros at the end go: an end is 0 only before the first list that has an entry, and the last list has one
abbrev pub keep : ℕ → List ℕ → List ℕ
keep zero [] = []
keep (suc n) [] = suc n ∷ []
keep n (x ∷ xs) = n ∷ x ∷ xs

unfoldable pub trimmed : List ℕ → List ℕ
trimmed [] = []
trimmed (n ∷ ns) = keep n (trimmed ns)

abbrev pub labels_in : Limits → List ℕ → List ℕ
labels_in l w = take l.labels (drop (labels_at l) w)

abbrev pub ends_in : Limits → List ℕ → List ℕ
ends_in l w = take l.actions (drop (ends_at l) w)

abbrev pub pool_in : Limits → List ℕ → List ℕ
pool_in l w = take l.values (drop (pool_at l) w)

unfoldable pub entries_in : Limits → List ℕ → List (List Entry)
entries_in l w = cut w 0 (trimmed (ends_in l w))
