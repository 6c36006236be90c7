-- The words of an entry.
use Rattle.std.specs.Prelude.{ℕ, ◌+◌, ◌*◌, List, get_or}
use Rattle.slice_words.specs.declared.Entry.{Entry}

abbrev pub entry_in : List ℕ → (e : ℕ) → Entry
entry_in w e = record { code = get_or w (e * 3) 0; first = get_or w (e * 3 + 1) 0; second = get_or w (e * 3 + 2) 0 }
