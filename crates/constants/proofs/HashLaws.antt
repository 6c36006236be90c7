-- The hash of a string, as `bucket` computes it.
use Prim.Native.Nat.{ℕ, ◌+◌, ◌-◌, ◌*◌, ◌/◌, ◌%◌, ◌≤◌, ◌<◌}
use mathlib.Core.Path.{◌≡◌, refl, ◌∙◌}
use mathlib.Core.List.{List}
use native.Mathlib.Numerals.{add-one}
use native.Mathlib.Omega.{arith}
use lib.ListN.{length}
use borrow.Author.Tests.{lt-ltb, le-ltb}
use Rattle.codegen_state.specs.Index.{word, mixed, rounds, hashed, hash}

pub rounds_long : (n : ℕ) → 4096 < n → 32 ≡ rounds n
unfolding rounds
rounds_long n h = rw (lt-ltb 4096 n h)

pub rounds_whole : (n : ℕ) → n ≤ 4096 → n / 8 + 1 ≡ rounds n
unfolding rounds
rounds_whole n h = rw (le-ltb 4096 n h)

-- a hash has a head of the index
pub headed : (s : List ℕ) {h : ℕ} → h ≡ hash s → (h ≡ hash s) × (h < 2048)
unfolding hash
headed s e = (e, omega (arith, e))

-- a string shorter than a word
pub hash_short : (s : List ℕ) {w h : ℕ} → length s < 4 → w ≡ word s 0 → h ≡ mixed (length s % 65536) w w → h % 2048 ≡ hash s
unfolding hash hashed
hash_short s {w} p e q =
    let one : 1 ≡ rounds (length s) = (let z : 1 ≡ length s / 8 + 1 = omega arith in z ∙ rounds_whole (length s) (omega arith)) in
    let first : length s - 4 * 0 - 4 ≡ 0 = omega arith in
    rw (q, e, ← one, first)

-- the loop of `bucket`: k words of each end are taken
pub record Hashed (s : List ℕ) (h k : ℕ) : Type 0 where
  pub small : h < 8589934592
  pub within : k ≤ rounds (length s)
  pub taken : h ≡ hashed s k

pub hashed_none : (s : List ℕ) → Hashed s (length s % 65536) 0
unfolding hashed
hashed_none s = record { small = omega arith; within = omega arith; taken = refl }

module _ {s : List ℕ} {h k : ℕ} (v : Hashed s h k) where
  pub hashed_more : k < rounds (length s) → {a b h' : ℕ} → a ≡ word s (4 * k) → b ≡ word s (length s - 4 * k - 4) → (h' ≡ mixed h a b) × (h' < 8589934592) → Hashed s h' (k + 1)
  unfolding hashed
  hashed_more p e f q = record { small = q.1; within = omega arith; taken = rw (add-one, q.0, v.taken, e, f) }

  pub hashed_all : rounds (length s) ≤ k → h % 2048 ≡ hash s
  unfolding hash
  hashed_all p = let all : k ≡ rounds (length s) = omega (arith, v.within) in rw (v.taken, all)
