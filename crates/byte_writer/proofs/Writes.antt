-- Writes one after the other join, in either order.
use Prim.Native.Nat.{ℕ, suc, ◌+◌, ◌-◌, ◌<◌}
use mathlib.Core.Path.{◌≡◌, refl, sym, ◌∙◌, subst}
use mathlib.Core.List.{List, [], ◌∷◌, ◌++◌, append_assoc}
use native.Mathlib.Omega.{arith}
use Rattle.std.proofs.lemmas.Grind.{common_steps}
use native.Mathlib.Nat.{add-zero}
use native.Mathlib.Numerals.{add-one}
use lib.ListN.{length, set, take, drop, length-set, length-append}
use lib.Seq.{sets, sets-eq, set_comm, set-set}
use borrow.Rule.Slice.PartMut.{put_mid}
use Rattle.script_records.specs.declared.layout.ScriptFile.{ScriptFile}
use Rattle.action_format.specs.Bytes.{word}
use Rattle.byte_writer.specs.declared.Writer.{Writer}
use Rattle.byte_writer.specs.Written.{written_at, Room, Wrote}
use Rattle.byte_writer.specs.Writer.{HasRoom, Writes}

pub written_long : (o : List ℕ) (at : ℕ) (bs : List ℕ) → length (written_at o at bs) ≡ length o
unfolding written_at
written_long o at [] = refl
written_long o at (b ∷ bs) = written_long (set o at b) (at + 1) bs ∙ length-set o at b

pub written_append : (o : List ℕ) (at : ℕ) (x y : List ℕ) → written_at (written_at o at x) (at + length x) y ≡ written_at o at (x ++ y)
unfolding written_at
written_append o at [] y = rw (add-zero at)
written_append o at (b ∷ bs) y = let z : at + suc (length bs) ≡ at + 1 + length bs = omega arith in rw z (written_append (set o at b) (at + 1) bs y)

pub set_first : (o : List ℕ) (i b at : ℕ) (y : List ℕ) → i < at → set (written_at o at y) i b ≡ written_at (set o i b) at y
unfolding written_at
set_first o i b at [] h = refl
set_first o i b at (c ∷ cs) h =
    rw (set_first (set o at c) i b (at + 1) cs (omega arith), set_comm o at i c b (λ e. omega arith))

pub written_before : (o : List ℕ) (at : ℕ) (x y : List ℕ) → written_at (written_at o (at + length x) y) at x ≡ written_at o at (x ++ y)
unfolding written_at
written_before o at [] y = rw (add-zero at)
written_before o at (b ∷ bs) y =
    let z : at + suc (length bs) ≡ at + 1 + length bs = omega arith in
    rw (z, set_first o at b (at + 1 + length bs) y (omega arith)) (written_before (set o at b) (at + 1) bs y)

-- what is as long takes the place of what was written

over : (o : List ℕ) (at : ℕ) (x y : List ℕ) → length x ≡ length y → written_at (written_at o at x) at y ≡ written_at o at y
unfolding written_at
over o at [] [] e = refl
over o at [] (c ∷ y) e = let z : ⊥ = omega arith in absurd z
over o at (b ∷ x) [] e = let z : ⊥ = omega arith in absurd z
over o at (b ∷ x) (c ∷ y) e =
    rw (set_first (set o at b) at c (at + 1) x (omega arith), set-set o at b c) (over (set o at c) (at + 1) x y (omega arith))

pub written_over : (o : List ℕ) (at : ℕ) (a x y z : List ℕ) → length x ≡ length y →
    written_at (written_at o at (a ++ (x ++ z))) (at + length a) y ≡ written_at o at (a ++ (y ++ z))
written_over o at a x y z e =
    rw (
      ← written_append o at a (x ++ z),
      ← written_append o at a (y ++ z),
      ← written_before (written_at o at a) (at + length a) x z,
      over (written_at (written_at o at a) (at + length a + length x) z) (at + length a) x y e,
      e,
    ) (written_before (written_at o at a) (at + length a) y z)

-- in the terms of the list's parts
as_sets : (o : List ℕ) (at : ℕ) (bs : List ℕ) → written_at o at bs ≡ sets o at bs
unfolding written_at
as_sets o at [] = refl
as_sets o at (b ∷ bs) = rw (add-one at) (as_sets (set o at b) (suc at) bs)

pub written_is : (o : List ℕ) (at : ℕ) (bs : List ℕ) → Room o at bs → written_at o at bs ≡ take at o ++ (bs ++ drop (at + length bs) o)
written_is o at bs h = as_sets o at bs ∙ (sets-eq bs o at h ∙ append_assoc (take at o) bs (drop (at + length bs) o))

-- of what writers give

pub wrote : (o : List ℕ) (at : ℕ) (bs : List ℕ) → Wrote o at bs (at + length bs) (written_at o at bs)
wrote o at bs = record { after = refl; output = refl; long = written_long o at bs }

pub wrote_none : (o : List ℕ) (at : ℕ) → Wrote o at [] at o
unfolding written_at
wrote_none o at = record { after = omega arith; output = refl; long = refl }

pub wrote_then : {o o₁ o₂ : List ℕ} {at m n : ℕ} {x y : List ℕ} → Wrote o at x m o₁ → Wrote o₁ m y n o₂ → Wrote o at (x ++ y) n o₂
wrote_then {o} {o₁} {o₂} {at} {m} {n} {x} {y} a b = record {
  after = rw (length-append x y) (omega (arith, a.after, b.after));
  output = rw (b.output, a.output, a.after) (written_append o at x y);
  long = b.long ∙ a.long;
}

-- what stands before is written last
pub wrote_before : {o o₁ o₂ : List ℕ} {at n m : ℕ} {x y : List ℕ} → Wrote o (at + length x) y n o₁ → Wrote o₁ at x m o₂ → Wrote o at (x ++ y) n o₂
wrote_before {o} {o₁} {o₂} {at} {n} {m} {x} {y} a b = record {
  after = rw (length-append x y) (omega (arith, a.after));
  output = rw (b.output, a.output) (written_before o at x y);
  long = b.long ∙ a.long;
}

-- room for two is room for each

pub room_first : (o : List ℕ) (at : ℕ) (x y : List ℕ) → Room o at (x ++ y) → Room o at x
room_first o at x y h = omega (arith, length-append x y)

pub room_rest : {o o₁ : List ℕ} {at m : ℕ} {x : List ℕ} (y : List ℕ) → Wrote o at x m o₁ → Room o at (x ++ y) → Room o₁ m y
room_rest {x = x} y d h = omega (arith, d.after, d.long, length-append x y)

-- of writers

pub writes_none : (w : Writer) → Writes w [] w
writes_none w = record { same_script = refl; same_output = refl; wrote = wrote_none w.output.now w.at }

pub writes_then : {a b c : Writer} {x y : List ℕ} → Writes a x b → Writes b y c → Writes a (x ++ y) c
writes_then p q = record {
  same_script = q.same_script ∙ p.same_script;
  same_output = q.same_output ∙ p.same_output;
  wrote = wrote_then p.wrote q.wrote;
}

-- what is written next may name strings of the script file
pub writes_next : {a b c : Writer} {x : List ℕ} (f : ScriptFile → List ℕ) → Writes a x b → Writes b (f b.script) c → Writes a (x ++ f a.script) c
writes_next {b = b} {c = c} f p q = writes_then p (subst (λ (s : ScriptFile). Writes b (f s) c) p.same_script q)

-- a number that is the same by arithmetic
pub writes_number : {a b : Writer} (k : ℕ) {m : ℕ} (n : ℕ) → Writes a (word k m) b → m ≡ n → Writes a (word k n) b
writes_number {a} {b} k n p e = subst (λ (x : ℕ). Writes a (word k x) b) e p

pub has_first : (w : Writer) (x y : List ℕ) → HasRoom w (x ++ y) → HasRoom w x
has_first w x y h = room_first w.output.now w.at x y h

pub has_rest : {a b : Writer} {x : List ℕ} (y : List ℕ) → Writes a x b → HasRoom a (x ++ y) → HasRoom b y
has_rest y p h = room_rest y p.wrote h

pub has_next : {a b : Writer} {x : List ℕ} (f : ScriptFile → List ℕ) → Writes a x b → HasRoom a (x ++ f a.script) → HasRoom b (f b.script)
has_next {a} {b} f p h = subst (λ (s : ScriptFile). HasRoom b (f s)) (sym p.same_script) (has_rest (f a.script) p h)

-- a part of the output that takes these bytes
pub part_is : (o : List ℕ) (at : ℕ) (bs : List ℕ) → Room o at bs → put_mid at (at + length bs - at) o bs ≡ written_at o at bs
part_is o at bs h =
    let e : at + length bs - at ≡ length bs = omega arith in
    rw (written_is o at bs h, e) (grind (arith, common_steps))

pub ruleset writing = (writes_none, writes_then, has_first, has_rest)
