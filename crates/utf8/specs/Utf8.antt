-- UTF-8 as RFC 3629, section 4, has it: UTF8-octets = *( UTF8-char ).
use Rattle.std.specs.Prelude.{ℕ, Bool, true, false, cond, ◌&&◌, List, [], ◌∷◌, leb}
use Rattle.std.proofs.Math.Option.{Option, none, some, Option-elim}

-- the bytes from low to high, both among them
pub record Range : Type 0 where
  pub low : ℕ
  pub high : ℕ

infixl 80 ◌to◌
abbrev pub ◌to◌ : ℕ → ℕ → Range
low to high = record { low = low; high = high }

-- UTF8-tail
abbrev pub tail : Range
tail = 0x80 to 0xBF

-- UTF8-char: UTF8-1, UTF8-2, and the four forms of UTF8-3 and the three of UTF8-4, byte by byte
abbrev pub chars : List (List Range)
chars =
    (0x00 to 0x7F ∷ [])
    ∷ (0xC2 to 0xDF ∷ tail ∷ [])
    ∷ (0xE0 to 0xE0 ∷ 0xA0 to 0xBF ∷ tail ∷ [])
    ∷ (0xE1 to 0xEC ∷ tail ∷ tail ∷ [])
    ∷ (0xED to 0xED ∷ 0x80 to 0x9F ∷ tail ∷ [])
    ∷ (0xEE to 0xEF ∷ tail ∷ tail ∷ [])
    ∷ (0xF0 to 0xF0 ∷ 0x90 to 0xBF ∷ tail ∷ tail ∷ [])
    ∷ (0xF1 to 0xF3 ∷ tail ∷ tail ∷ tail ∷ [])
    ∷ (0xF4 to 0xF4 ∷ 0x80 to 0x8F ∷ tail ∷ tail ∷ [])
    ∷ []

abbrev pub in_range : ℕ → Range → Bool
in_range b r = leb r.low b && leb b r.high

-- what the first form that b can start owes after b
unfoldable pub started : ℕ → List (List Range) → Option (List Range)
started b [] = none
started b ([] ∷ forms) = started b forms
started b ((r ∷ owed) ∷ forms) = cond (in_range b r) (some owed) (started b forms)

-- what is owed after b: with nothing owed b starts a char
unfoldable pub next : List Range → ℕ → Option (List Range)
next [] b = started b chars
next (r ∷ owed) b = cond (in_range b r) (some owed) none

-- the bytes are what a char still owes, and whole chars after it
unfoldable pub completes : List Range → List ℕ → Bool
completes [] [] = true
completes (r ∷ owed) [] = false
completes owed (b ∷ s) = Option-elim (next owed b) false (λ rest. completes rest s)

unfoldable pub utf8 : List ℕ → Bool
utf8 = completes []
