-- What a step of the decoder does.
use Rattle.std.specs.Prelude.{◌<◌, ◌≡◌, Result, OnOk, length}
use Rattle.text_lines.specs.declared.Decoder.{Decoder}
use Rattle.text_lines.specs.declared.BadLine.{BadLine}

-- it reads on, into the same file
pub record ReadsOn (old new : Decoder) (r : Result (Unit {0}) BadLine) : Type 0 where
  pub moves : OnOk r (length new.rest.now < length old.rest.now)
  pub same_file : new.file.ghost_name ≡ old.file.ghost_name
