-- What the parts of a record's reading promise each other.
use Rattle.std.specs.Prelude.{ℕ, [], ◌∷◌, Bool, ◌&&◌, Option, Some, None, ltb}
use Rattle.std.specs.Borrow.{Bor}
use Rattle.std.proofs.Math.Option as math
use Rattle.std.proofs.Math.Option.{none, some}
use Rattle.utf8.specs.Utf8.{utf8}
use Rattle.pcode.specs.Pcode.{Value, Param}
use Rattle.action_format.specs.Bytes.{Bytes}
use Rattle.action_format.specs.Decode.{Record}
use Rattle.record_reader.specs.declared.Content.{Content}
use Rattle.record_reader.specs.declared.PushedValue.{PushedValue}
use Rattle.record_reader.specs.Heads.{record_kind, record_holds_in, pushed_value}

-- what was read, and the bytes left
abbrev pub taken : {A : Type 0} → Option (A × Bor Bytes) → math.Option (A × Bytes)
taken None = none
taken (Some x) = some (x.0, x.1.now)

-- the answer of a test in place of what was read
abbrev pub judged : {A B : Type 0} → (A → B) → math.Option (A × Bytes) → math.Option (B × Bytes)
judged t none = none
judged t (some x) = some (t x.0, x.1)

abbrev pub itself : Bool → Bool
itself t = t

-- all the bytes must be used
abbrev pub whole : {A : Type 0} → math.Option (A × Bytes) → math.Option A
whole none = none
whole (some (x, [])) = some x
whole (some (x, b ∷ left)) = none

abbrev pub some_of : {A : Type 0} → math.Option A → Option A
some_of none = None
some_of (some x) = Some x

-- the record at position p
abbrev pub content_of : (p pool : ℕ) → math.Option Record → Option Content
content_of p pool none = None
content_of p pool (some x) = Some (record { kind = record_kind p x; fits = record_holds_in pool x })

-- a pushed value; a string stands at q
abbrev pub pushed_of : (q pool : ℕ) → math.Option (Value × Bytes) → math.Option (PushedValue × Bytes)
pushed_of q pool = judged (pushed_value q pool)

abbrev pub param_holds : Param → Bool
param_holds p = ltb p.register 256 && utf8 p.name
