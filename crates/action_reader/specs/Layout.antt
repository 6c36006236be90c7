-- The words of the list slice while lists are read: finished entries from the bottom, those of open lists up to the top, zeros between.
use Rattle.std.specs.Prelude.{ℕ, ◌+◌, ◌-◌, ◌*◌, List, ◌++◌, length}
use Rattle.list_slice.specs.Entry.{Entry}
use Rattle.list_slice.specs.Words.{zeros_of, area, entry_words}

-- low: the entries of finished lists, up: the others
unfoldable pub layout : (low up : List Entry) → (ends : List ℕ) → (n : ℕ) → List ℕ
layout low up ends n =
    entry_words low ++ (zeros_of ((4096 - (length low + length up)) * 3) ++ (entry_words up ++ (zeros_of 1024 ++ (area 1024 ends ++ zeros_of (n - 14336)))))
