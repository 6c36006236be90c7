-- The pool's strings, one after the other.
use Prim.Native.Nat.{ℕ, ◌+◌, ◌-◌, ◌<◌}
use mathlib.Core.Path.{◌≡◌, sym, ◌∙◌, subst}
use mathlib.Core.List.{List, ◌++◌, map}
use native.Mathlib.Omega.{arith}
use native.Mathlib.Numerals.{add-one}
use lib.ListN.{length, get_or, take, drop}
use lib.Seq.{drop-cons, drop-length}
use Rattle.script_records.specs.declared.layout.ScriptFile.{ScriptFile}
use Rattle.slice_words.specs.References.{text_at}
use Rattle.action_format.specs.Bytes.{Bytes, word, zero_ended, join}
use Rattle.byte_writer.specs.declared.Writer.{Writer}
use Rattle.byte_writer.specs.Data.{texts_from, pool_data}
use Rattle.byte_writer.specs.Writer.{HasRoom, Writes}
use Rattle.byte_writer.proofs.Writes.{has_rest, writes_next}
use Rattle.byte_writer.proofs.Loops.{Left, left_write, left_room, left_done}

abbrev pub texts : ScriptFile → List ℕ → Bytes
texts s rs = join zero_ended (map (text_at s.bytes.now s.layout) rs)

-- the strings of these references are to be written from w on; those from the i-th on are left
pub record TextsLeft (w : Writer) (rs : List ℕ) (i : ℕ) (w' : Writer) : Type 0 where
  pub same_script : w'.script ≡ w.script
  pub same_output : w'.output.ghost_name ≡ w.output.ghost_name
  pub left : Left w.output.now w.at (texts w.script rs) w'.output.now w'.at (texts w.script (drop i rs))

module _ {w w' : Writer} {rs : List ℕ} {i : ℕ} (v : TextsLeft w rs i w') (h : i < length rs) where
  abbrev text' : Bytes
  text' = zero_ended (text_at w.script.bytes.now w.script.layout (get_or rs i 0))

  more : texts w.script (drop i rs) ≡ text' ++ texts w.script (drop (i + 1) rs)
  more = rw (drop-cons rs i 0 h, add-one i)

  pub texts_room : HasRoom w (texts w.script rs) → HasRoom w' (zero_ended (text_at w'.script.bytes.now w'.script.layout (get_or rs i 0)))
  texts_room k = subst (λ (s : ScriptFile). HasRoom w' (zero_ended (text_at s.bytes.now s.layout (get_or rs i 0)))) (sym v.same_script)
      (left_room text' (texts w.script (drop (i + 1) rs)) (rw more at v.left) k)

  pub texts_next : {w'' : Writer} → Writes w' (zero_ended (text_at w'.script.bytes.now w'.script.layout (get_or rs i 0))) w'' → TextsLeft w rs (i + 1) w''
  texts_next {w''} d =
      let e : Writes w' text' w'' = subst (λ (s : ScriptFile). Writes w' (zero_ended (text_at s.bytes.now s.layout (get_or rs i 0))) w'') v.same_script d in
      record {
        same_script = e.same_script ∙ v.same_script;
        same_output = e.same_output ∙ v.same_output;
        left = left_write (rw more at v.left) e.wrote;
      }

pub texts_done : {w w' : Writer} {rs : List ℕ} → TextsLeft w rs (length rs) w' → Writes w (texts w.script rs) w'
texts_done {rs = rs} v = record { same_script = v.same_script; same_output = v.same_output; wrote = left_done (rw (drop-length rs) at v.left) }

-- the count, and then the strings of n words
module _ (n : ℕ) (list : List ℕ) {w w₁ : Writer} (d : Writes w (word 2 n) w₁) where
  same_count : 14336 + n - 14336 ≡ n
  same_count = omega arith

  abbrev pool_words : List ℕ
  pool_words = take (14336 + n - 14336) (drop 14336 list)

  pub pool_rest : HasRoom w (pool_data w.script.bytes.now w.script.layout list n) → HasRoom w₁ (texts w₁.script pool_words)
  unfolding pool_data texts_from
  pool_rest h = has_rest (texts w₁.script pool_words) d (rw (d.same_script, same_count) h)

  pub pool_done : {w' : Writer} → TextsLeft w₁ pool_words (length pool_words) w' → Writes w (pool_data w.script.bytes.now w.script.layout list n) w'
  unfolding pool_data texts_from
  pool_done {w'} v =
      subst (λ (m : ℕ). Writes w (word 2 n ++ texts w.script (take m (drop 14336 list))) w') same_count (writes_next (λ (s : ScriptFile). texts s pool_words) d (texts_done v))
