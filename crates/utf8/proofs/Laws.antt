-- What a reader expects of `utf8`: ASCII is UTF-8, RFC 3629's own examples are, and what it warns of is not.
-- Assumes nothing.
use mathlib.Core.Path.{◌≡◌, refl}
use mathlib.Core.Bool.{true, false}
use mathlib.Core.List.{List, [], ◌∷◌, map}
use mathlib.Core.Option.{some, Option-elim}
use Prim.Native.Nat.{ℕ, suc, ◌<◌}
use native.Mathlib.Omega.{arith}
use lib.ListN.{length, get_or, replicate}
use Rattle.utf8.specs.Utf8.{started, next, completes, utf8}
use Rattle.utf8.proofs.Forms.{starts}

pub ascii : (s : List ℕ) → ((k : ℕ) → k < length s → get_or s k 0 < 0x80) → utf8 s ≡ true
unfolding utf8 completes Option-elim
ascii [] h = refl
ascii (b ∷ s) h =
    let a : b < 0x80 = h 0 (omega arith) in
    simp (starts 0 0x7F {b = b} (omega arith) (omega arith) (some []) refl) (ascii s (λ k l. h (suc k) (omega arith)))

-- section 7: "A≢Α.", Korean, Japanese, and a char of four bytes after a byte order mark
pub accepted :
    map utf8
    ((0x41 ∷ 0xE2 ∷ 0x89 ∷ 0xA2 ∷ 0xCE ∷ 0x91 ∷ 0x2E ∷ [])
    ∷ (0xED ∷ 0x95 ∷ 0x9C ∷ 0xEA ∷ 0xB5 ∷ 0xAD ∷ 0xEC ∷ 0x96 ∷ 0xB4 ∷ [])
    ∷ (0xE6 ∷ 0x97 ∷ 0xA5 ∷ 0xE6 ∷ 0x9C ∷ 0xAC ∷ 0xE8 ∷ 0xAA ∷ 0x9E ∷ [])
    ∷ (0xEF ∷ 0xBB ∷ 0xBF ∷ 0xF0 ∷ 0xA3 ∷ 0x8E ∷ 0xB4 ∷ [])
    ∷ [])
    ≡ replicate 4 true
unfolding utf8 completes next started Option-elim
accepted = refl

pub refused :
    map utf8
    -- surrogates: the first and the last
    ((0xED ∷ 0xA0 ∷ 0x80 ∷ [])
    ∷ (0xED ∷ 0xBF ∷ 0xBF ∷ [])
    -- overlong forms: of 0 in two, three and four bytes, of FFFF in four
    ∷ (0xC0 ∷ 0x80 ∷ [])
    ∷ (0xE0 ∷ 0x80 ∷ 0x80 ∷ [])
    ∷ (0xF0 ∷ 0x80 ∷ 0x80 ∷ 0x80 ∷ [])
    ∷ (0xF0 ∷ 0x8F ∷ 0xBF ∷ 0xBF ∷ [])
    -- above 10FFFF
    ∷ (0xF4 ∷ 0x90 ∷ 0x80 ∷ 0x80 ∷ [])
    ∷ (0xF5 ∷ 0x80 ∷ 0x80 ∷ 0x80 ∷ [])
    ∷ (0xFF ∷ [])
    -- a tail alone, and chars that are cut off
    ∷ (0x80 ∷ [])
    ∷ (0xC3 ∷ [])
    ∷ (0xE2 ∷ 0x89 ∷ [])
    ∷ (0xF0 ∷ 0xA3 ∷ 0x8E ∷ [])
    ∷ (0xE2 ∷ 0x89 ∷ 0x41 ∷ [])
    ∷ [])
    ≡ replicate 14 false
unfolding utf8 completes next started Option-elim
refused = refl
