-- How many lists there are.
use Prim.Native.Nat.{ℕ, zero, suc, ◌+◌, ◌<◌}
use mathlib.Core.Path.{◌≡◌, refl, ap}
use mathlib.Core.List.{List, [], ◌∷◌}
use native.Mathlib.Omega.{arith}
use lib.ListN.{length, get_or}
use Rattle.list_slice.specs.Words.{keep, trimmed}

all_zero : (xs : List ℕ) → ((k : ℕ) → k < length xs → get_or xs k 0 ≡ 0) → trimmed xs ≡ []
unfolding trimmed
all_zero [] h = refl
all_zero (x ∷ xs) h = rw (all_zero xs (λ k q. h (suc k) (omega arith)), h 0 (omega arith))

-- the last that is not 0 stays last
pub last_at : (xs : List ℕ) (i : ℕ) → i < length xs → (get_or xs i 0 ≡ 0 → ⊥) → ((k : ℕ) → i < k → k < length xs → get_or xs k 0 ≡ 0) → length (trimmed xs) ≡ i + 1
unfolding trimmed
last_at [] i h n z = absurd (omega arith)
last_at (zero ∷ xs) zero h n z = absurd (n refl)
last_at (suc x ∷ xs) zero h n z = rw (all_zero xs (λ k q. z (suc k) (omega arith) (omega arith)))
last_at (x ∷ xs) (suc i) h n z = go x (trimmed xs) (last_at xs i (omega arith) n (λ k a b. z (suc k) (omega arith) (omega arith)))
  where
    go : (x : ℕ) (ts : List ℕ) → length ts ≡ i + 1 → length (keep x ts) ≡ suc i + 1
    go x [] e = absurd (omega arith)
    go zero (t ∷ ts) e = omega arith
    go (suc x) (t ∷ ts) e = omega arith

pub none_at : (xs : List ℕ) → ((k : ℕ) → k < length xs → get_or xs k 0 ≡ 0) → length (trimmed xs) ≡ 0
none_at xs h = ap length (all_zero xs h)
