-- Laws of the pool's index.
use Prim.Native.Nat.{ℕ, zero, suc, ◌+◌, ◌≤◌, ◌<◌}
use mathlib.Core.Path.{◌≡◌, refl, ap, ◌∙◌}
use mathlib.Core.List.{List}
use mathlib.Core.Bool.{Bool, true, false, cond}
use native.Mathlib.Omega.{arith}
use lib.Dec.{eqb}
use lib.ListN.{get_or}
use borrow.Author.Tests.{eqb-true, eq-eqb}
use Rattle.codegen_state.specs.Index.{latest, hash_at, Indexed}

-- it looks at the first n hashes alone
pub latest_same : (f g : ℕ → ℕ) (h n : ℕ) → ((k : ℕ) → k < n → f k ≡ g k) → latest f h n ≡ latest g h n
unfolding latest
latest_same f g h zero e = refl
latest_same f g h (suc n) e = rw (e n (omega arith), latest_same f g h n (λ k p. e k (omega arith)))

pub latest_le : (f : ℕ → ℕ) (h n : ℕ) → latest f h n ≤ n
unfolding latest
latest_le f h zero = omega arith
latest_le f h (suc n) = go (eqb (f n) h) (latest_le f h n)
  where
    go : (b : Bool) → latest f h n ≤ n → cond b (suc n) (latest f h n) ≤ suc n
    go true q = omega arith
    go false q = omega arith

-- one that has the hash, and one that has not
pub latest_here : (f : ℕ → ℕ) (h n : ℕ) → f n ≡ h → latest f h (suc n) ≡ suc n
unfolding latest
latest_here f h n e = rw (eq-eqb (f n) h e)

pub latest_before : (f : ℕ → ℕ) (h n : ℕ) → eqb (f n) h ≡ false → latest f h (suc n) ≡ latest f h n
unfolding latest
latest_before f h n e = rw e

pub latest_again : (f : ℕ → ℕ) (h n : ℕ) → latest f h (latest f h n) ≡ latest f h n
unfolding latest
latest_again f h zero = refl
latest_again f h (suc n) = go (eqb (f n) h) refl (latest_again f h n)
  where
    go : (b : Bool) → eqb (f n) h ≡ b → latest f h (latest f h n) ≡ latest f h n → latest f h (cond b (suc n) (latest f h n)) ≡ cond b (suc n) (latest f h n)
    go true e q = latest_here f h n (eqb-true (f n) h e)
    go false e q = q

-- the string before such a place has the hash
pub latest_has : (f : ℕ → ℕ) (h n : ℕ) → suc n ≡ latest f h (suc n) → f n ≡ h
unfolding latest
latest_has f h n e = go (eqb (f n) h) refl
  where
    go : (b : Bool) → eqb (f n) h ≡ b → f n ≡ h
    go true q = eqb-true (f n) h q
    go false q = absurd (omega (arith, e ∙ latest_before f h n q, latest_le f h n))

-- the words of the pool and of the index alone matter
pub indexed_same : {F w w' : List ℕ} {n : ℕ} → ((i : ℕ) → 14336 ≤ i → get_or w' i 0 ≡ get_or w i 0) → Indexed F n w → Indexed F n w'
indexed_same {F} {w} {w'} {n} s x =
    let f : (k : ℕ) → hash_at F w k ≡ hash_at F w' k = λ k. rw (s (14336 + k) (omega arith)) in
    record {
      heads = λ h p. s (16384 + h) (omega arith) ∙ x.heads h p ∙ latest_same (hash_at F w) (hash_at F w') h n (λ k q. f k);
      links = λ k p. s (18432 + k) (omega arith) ∙ x.links k p ∙ ap (λ (h : ℕ). latest (hash_at F w) h k) (f k) ∙ latest_same (hash_at F w) (hash_at F w') (hash_at F w' k) k (λ j q. f j);
    }
