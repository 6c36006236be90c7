-- A record whose data was written first.
use Prim.Native.Nat.{ℕ, ◌+◌, ◌-◌, ◌≤◌}
use mathlib.Core.Path.{◌≡◌, refl, ap, ◌∙◌, subst}
use mathlib.Core.List.{List}
use native.Mathlib.Omega.{arith}
use lib.ListN.{length, length-append}
use Rattle.script_records.specs.declared.layout.ScriptFile.{ScriptFile}
use Rattle.action_format.specs.Bytes.{word}
use Rattle.byte_writer.specs.declared.Writer.{Writer}
use Rattle.byte_writer.specs.Data.{frame, framed}
use Rattle.byte_writer.specs.Writer.{HasRoom, Writes, Frames}
use Rattle.byte_writer.proofs.Writes.{written_long, wrote_before}

pub frame_length : (c n : ℕ) → length (frame c n) ≡ 3
unfolding frame word
frame_length c n = refl

pub framed_length : (c : ℕ) (d : List ℕ) → length (framed c d) ≡ length d + 3
framed_length c d = let f = frame_length c (length d) in rw (length-append (frame c (length d)) d) (omega arith)

abbrev pub begun : Writer → Writer
begun w = record w { at = w.at + 3 }

pub has_frame : (w : Writer) (c : ℕ) (d : List ℕ) → HasRoom w (framed c d) → (w.at + 3 ≤ length w.output.now) × HasRoom (begun w) d
has_frame w c d h = let f = framed_length c d in (omega arith, omega arith)

-- the record whose data may name strings of the script file
module _ (w : Writer) {w₁ w₂ : Writer} (b : w₁ ≡ begun w) (d : ScriptFile → List ℕ) (p : Writes w₁ (d w₁.script) w₂) where
  given : Writes (begun w) (d w.script) w₂
  given = subst (λ (x : Writer). Writes x (d x.script) w₂) b p

  pub frame_fits : (c : ℕ) → HasRoom w (framed c (d w.script)) → length (d w.script) ≤ 65535 → (w.at + 3 ≤ w₂.at) × ((w₂.at ≤ length w₂.output.now) × (w₂.at ≤ w.at + 65538))
  frame_fits c h short =
      let a = given.wrote.after in
      let l = given.wrote.long in
      let f = framed_length c (d w.script) in
      (omega arith, (omega arith, omega arith))

  pub framed_done : {w₃ : Writer} (c : ℕ) → Frames w₂ w.at c w₃ → Writes w (framed c (d w.script)) w₃
  framed_done c q =
      let n : w₂.at - (w.at + 3) ≡ length (d w.script) = omega (arith, given.wrote.after) in
      record {
        same_script = q.same_script ∙ given.same_script;
        same_output = q.same_output ∙ given.same_output;
        wrote = rw q.same_place (wrote_before {x = frame c (length (d w.script))} (rw (frame_length c (length (d w.script))) given.wrote)
            (record { after = refl; output = q.output ∙ rw n; long = ap length q.output ∙ written_long w₂.output.now w.at (frame c (w₂.at - (w.at + 3))) }));
      }
