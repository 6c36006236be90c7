-- The loops that write a number, bytes and a pool: what is left of it, written from here on, gives the whole.
use Prim.Native.Nat.{ℕ, suc, ◌+◌, ◌-◌, ◌<◌, ◌≤◌, ◌/◌, ◌%◌}
use mathlib.Core.Path.{◌≡◌, refl, ap, ◌∙◌}
use mathlib.Core.List.{List, [], ◌∷◌, ◌++◌, append_assoc, append-nil}
use native.Mathlib.Omega.{arith}
use lib.ListN.{length, get_or, set, take, length-append}
use borrow.Rule.Slice.PartMut.{put_mid}
use Rattle.std.proofs.lemmas.List.{take_all, take_more, take_more_set}
use Rattle.action_format.specs.Bytes.{word}
use Rattle.action_format.proofs.Readers.{word_length}
use Rattle.byte_writer.specs.Written.{written_at, Room, Wrote}
use Rattle.byte_writer.proofs.Writes.{written_append, written_long, part_is}

-- bs was to be written into o₀ at `at`; into o, from next on, rest is to be
pub record Left (o₀ : List ℕ) (at : ℕ) (bs o : List ℕ) (next : ℕ) (rest : List ℕ) : Type 0 where
  pub same : written_at o next rest ≡ written_at o₀ at bs
  pub long : length o ≡ length o₀
  pub place : next + length rest ≡ at + length bs

pub left_done : {o₀ bs o : List ℕ} {at next : ℕ} → Left o₀ at bs o next [] → Wrote o₀ at bs next o
unfolding written_at
left_done i = record { after = omega (arith, i.place); output = i.same; long = i.long }

pub left_write : {o₀ bs o o' : List ℕ} {at next next' : ℕ} {x rest : List ℕ} → Left o₀ at bs o next (x ++ rest) → Wrote o next x next' o' → Left o₀ at bs o' next' rest
left_write {o = o} {next = next} {x = x} {rest = rest} i d = record {
  same = rw (d.output, d.after, written_append o next x rest) i.same;
  long = d.long ∙ i.long;
  place = omega (arith, i.place, d.after, length-append x rest);
}

pub left_room : {o₀ bs o : List ℕ} {at next : ℕ} (x rest : List ℕ) → Left o₀ at bs o next (x ++ rest) → Room o₀ at bs → Room o next x
left_room x rest i h = omega (arith, i.place, i.long, length-append x rest)

-- a number of k bytes, the first i of which stand in xs

module _ (xs : List ℕ) {k : ℕ} (i rest n : ℕ) (long : length xs ≡ k) (done : take i xs ++ word (k - i) rest ≡ word k n) where
  pub number_next : i < k → take (i + 1) (set xs i (rest % 256)) ++ word (k - (i + 1)) (rest / 256) ≡ word k n
  unfolding word
  number_next h =
      let e : k - i ≡ suc (k - (i + 1)) = omega arith in
      rw (take_more_set xs i (rest % 256) (omega (arith, long)), append_assoc (take i xs) (rest % 256 ∷ []) (word (k - (i + 1)) (rest / 256))) (rw e at done)

  number_is : k ≤ i → xs ≡ word k n
  unfolding word
  number_is h =
      let e : k - i ≡ 0 = omega arith in
      rw (e, take_all i xs (omega (arith, long)), append-nil) at done

  pub number_done : (o : List ℕ) (at : ℕ) → k ≤ i → Room o at (word k n) → Wrote o at (word k n) (at + k) (put_mid at (at + k - at) o xs)
  number_done o at h r =
      let e : put_mid at (at + k - at) o xs ≡ written_at o at (word k n) =
      let p : put_mid at (at + length (word k n) - at) o (word k n) ≡ written_at o at (word k n) = part_is o at (word k n) r in
      rw (number_is h) (rw (word_length k n) at p) in
      record { after = rw (word_length k n); output = e; long = ap length e ∙ written_long o at (word k n) }

-- bytes, the first i of which stand in xs

module _ (xs bs : List ℕ) (i : ℕ) (long : length xs ≡ length bs) (done : take i xs ≡ take i bs) where
  pub copied_next : i < length bs → take (i + 1) (set xs i (get_or bs i 0)) ≡ take (i + 1) bs
  copied_next h = rw (take_more_set xs i (get_or bs i 0) (omega (arith, long)), take_more bs i 0 h, done)

  pub copied_done : (o : List ℕ) (at : ℕ) → length bs ≤ i → Room o at bs → Wrote o at bs (at + length bs) (put_mid at (at + length bs - at) o xs)
  copied_done o at h r =
      let same : xs ≡ bs = rw (take_all i xs (omega (arith, long)), take_all i bs h) at done in
      let e : put_mid at (at + length bs - at) o xs ≡ written_at o at bs = rw same (part_is o at bs r) in
      record { after = refl; output = e; long = ap length e ∙ written_long o at bs }
