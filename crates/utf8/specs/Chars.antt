-- What the source's functions say of the bytes from a position on.
use Rattle.std.specs.Prelude.{ℕ, ◌+◌, ◌*◌, ◌≤◌, ◌<◌, ◌≡◌, Bool, true, false, cond, ◌||◌, List, [], eqb, leb, ltb, length, get_or, drop}
use Rattle.utf8.specs.Utf8.{Range, ◌to◌, in_range, completes}

-- whether the bytes from a position on are whole chars
abbrev pub from : List ℕ → ℕ → Bool
from s i = completes [] (drop i s)

-- the n bytes from a position on are ASCII
pub record Ascii (s : List ℕ) (i n : ℕ) : Type 0 where
  pub each : (k : ℕ) → k < n → get_or s (i + k) 0 < 0x80

-- four bytes as a number, the first one lowest
abbrev pub four_at : List ℕ → ℕ → ℕ
four_at s i = get_or s i 0 + 256 * (get_or s (i + 1) 0 + 256 * (get_or s (i + 2) 0 + 256 * get_or s (i + 3) 0))

-- the bytes from i to j are whole chars, so that those from j on decide
pub record Passed (s : List ℕ) (i j : ℕ) : Type 0 where
  pub onward : i ≤ j
  pub within : j ≤ length s
  pub same : from s j ≡ from s i

-- the same, and where it comes no further the bytes are not UTF-8
pub record Ran (s : List ℕ) (i j : ℕ) : Type 0 where
  pub passed : Passed s i j
  pub refused : j ≡ i → from s i ≡ false

-- the first bytes of a char of n bytes: two, three or four
abbrev pub firsts : ℕ → Range
firsts n = cond (eqb n 2) (0xC2 to 0xDF) (cond (eqb n 3) (0xE0 to 0xEF) (0xF0 to 0xF4))

-- t tells whether a char of n bytes stands at i; where none does, the bytes are not UTF-8
pub record Stands (s : List ℕ) (i n : ℕ) (t : Bool) : Type 0 where
  pub yes : t ≡ true → Passed s i (i + n)
  pub no : t ≡ false → from s i ≡ false

-- the bytes that can stand after a first byte
abbrev pub second : ℕ → Range
second b = cond (eqb b 0xE0) 0xA0 (cond (eqb b 0xF0) 0x90 0x80) to cond (eqb b 0xED) 0x9F (cond (eqb b 0xF4) 0x8F 0xBF)

abbrev pub is_first : ℕ → Bool
is_first b = ltb b 0x80 || in_range b (0xC2 to 0xF4)

-- whether a char is open after three bytes
abbrev pub owes : ℕ → ℕ → ℕ → Bool
owes third prior last = leb 0xC0 last || (leb 0xE0 prior || leb 0xF0 third)

-- whether b can stand after three bytes
abbrev pub may_follow : ℕ → ℕ → ℕ → ℕ → Bool
may_follow third prior last b = cond (owes third prior last) (in_range b (second last)) (is_first b)

-- each of the n bytes from i + 3 on can stand after the three before it
pub record Follows (s : List ℕ) (i n : ℕ) : Type 0 where
  pub each : (k : ℕ) → k < n → may_follow (get_or s (i + k) 0) (get_or s (i + k + 1) 0) (get_or s (i + k + 2) 0) (get_or s (i + k + 3) 0) ≡ true

-- where the char starts that is open at i + 3, or i + 3
abbrev pub last_start : List ℕ → ℕ → ℕ
last_start s i = cond (leb 0xC0 (get_or s (i + 2) 0)) (i + 2) (cond (leb 0xE0 (get_or s (i + 1) 0)) (i + 1) (cond (leb 0xF0 (get_or s i 0)) i (i + 3)))

-- no char is open at a position, by the three bytes before it
pub record Closed (s : List ℕ) (i : ℕ) : Type 0 where
  pub none : (j : ℕ) → i ≡ j + 3 → last_start s j ≡ i

-- the bytes from i to j are whole chars, and no char is open at j
pub record Past (s : List ℕ) (i j : ℕ) : Type 0 where
  pub passed : Passed s i j
  pub closed : Closed s j
