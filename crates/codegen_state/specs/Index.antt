-- The index of the pool: behind the words of the list slice stand 2,048 heads and 2,048 links. A string's hash chooses its head; the head is the place, plus 1, of
-- the latest string of the pool with that hash, and a string's link that of the one before it; 0 for none.
use Rattle.std.specs.Prelude.{ℕ, zero, suc, ◌+◌, ◌-◌, ◌*◌, ◌/◌, ◌%◌, ◌<◌, ◌≡◌, List, cond, eqb, ltb, length, get_or}
use Rattle.list_slice.specs.File.{text_in}

-- where the heads and the links begin, and how many words a builder works with
abbrev pub heads_from : ℕ
heads_from = 16384

abbrev pub links_from : ℕ
links_from = 18432

abbrev pub work_words : ℕ
work_words = 20480

-- the four bytes from i on as one number, with zeros behind the end
abbrev pub word : List ℕ → (i : ℕ) → ℕ
word s i = get_or s i 0 + get_or s (i + 1) 0 * 256 + get_or s (i + 2) 0 * 65536 + get_or s (i + 3) 0 * 16777216

-- modulo the prime 2^31 - 1 a number is the sum of its quotient and its rest by 2^31
abbrev pub folded : ℕ → ℕ
folded x = x % 2147483648 + x / 2147483648

-- a hash with two words more; the multipliers are primes that spread numbered and other similar strings well
unfoldable pub mixed : (h a b : ℕ) → ℕ
mixed h a b = folded (h * 402653189 + (a * 430309897 + b * 784330331))

-- how many words of each end of a string of n bytes are hashed: all its bytes up to 4,096 bytes, and the first and the last 128 of a longer one
unfoldable pub rounds : ℕ → ℕ
rounds n = cond (ltb 4096 n) 32 (n / 8 + 1)

-- the hash of a string's length and of k words of each end
unfoldable pub hashed : List ℕ → (k : ℕ) → ℕ
hashed s zero = length s % 65536
hashed s (suc k) = mixed (hashed s k) (word s (4 * k)) (word s (length s - 4 * k - 4))

unfoldable pub hash : List ℕ → ℕ
hash s = hashed s (rounds (length s)) % 2048

-- the place, plus 1, of the latest of n strings whose hash is h, where hs gives the hash of each
unfoldable pub latest : (hs : ℕ → ℕ) → (h n : ℕ) → ℕ
latest hs h zero = 0
latest hs h (suc n) = cond (eqb (hs n) h) (suc n) (latest hs h n)

-- the hash of the string at place k of the pool
abbrev pub hash_at : List ℕ → (w : List ℕ) → (k : ℕ) → ℕ
hash_at F w k = hash (text_in F (get_or w (14336 + k) 0))

pub record Indexed (F : List ℕ) (n : ℕ) (w : List ℕ) : Type 0 where
  pub heads : (h : ℕ) → h < 2048 → get_or w (16384 + h) 0 ≡ latest (hash_at F w) h n
  pub links : (k : ℕ) → k < n → get_or w (18432 + k) 0 ≡ latest (hash_at F w) (hash_at F w k) k
