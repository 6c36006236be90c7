-- The entry of a value to be pushed.
use Rattle.std.specs.Prelude.{◌+◌, ◌≤◌, ◌≡◌}
use Rattle.pcode.specs.declared.PushValue.{PushValue}
use Rattle.list_slice.specs.Entry.{entry, value_entry}
use Rattle.slice_words.specs.declared.Entry.{Entry}
use Rattle.codegen_state.specs.View.{pushed}

-- its entry as the first value of a Push, and as a later one
pub record IsValue (v : PushValue) (x : Entry) : Type 0 where
  pub small : x.code ≤ 0x118
  pub first : value_entry 0x110 (pushed v) ≡ entry x.code x.first x.second
  pub later : value_entry 0x120 (pushed v) ≡ entry (x.code + 16) x.first x.second
