-- The call that reads action bytes.
use Rattle.std.specs.Prelude.{ℕ, List, Bool, true, false, ltb, length}
use Rattle.std.proofs.Math.Option.{Option, none, some}
use Rattle.lowering.specs.Builder.{Limits, limits01}
use Rattle.action_format.specs.Lists.{Lists}
use Rattle.action_format.specs.Decode.{decode}
use Rattle.list_slice.specs.Words.{slice_length}
use Rattle.definition.specs.Outcome.{Reading, read, refused, byte_limits}

-- 13 if the list slice is too short
abbrev pub in_slice : (short : Bool) → Reading → Reading
in_slice true r = refused 13
in_slice false r = r

-- 14 if no list within the limits writes to the bytes
abbrev pub if_found : Option Lists → (length' : ℕ) → Reading
if_found none n = refused 14
if_found (some l) n = read l n

unfoldable pub read_with : Limits → (bytes : List ℕ) → (list_words : ℕ) → Reading
read_with lim bytes list_words = in_slice (ltb list_words (slice_length lim)) (if_found (decode (byte_limits lim) bytes) (length bytes))

-- at document 01's limits
abbrev pub read_of : (bytes : List ℕ) → (list_words : ℕ) → Reading
read_of = read_with limits01
