-- The bytes of lists by place, or the first of the refusals 9 to 12.
use Rattle.std.specs.Prelude.{ℕ, List, [], ◌∷◌, ◌++◌, Bool, true, false, ◌&&◌, leb, length}
use Rattle.action_format.specs.Lists.{Lists}
use Rattle.action_format.specs.Strings.{zero_free}
use Rattle.action_format.specs.Code.{Code, end, act, fun, code}
use Rattle.action_format.specs.Bytes.{Bytes, single_data, data_of_header, code_bytes}
use Rattle.action_format.specs.Offsets.{by_offset, all_near}

-- refusal 10's test: a record's data and a function's body have 65,535 bytes or less
abbrev pub short : Code → Bool
short end = true
short (act a c) = leb (length (single_data a)) 65535 && short c
short (fun h b c) =
    leb (length (data_of_header h (length (code_bytes b)))) 65535 && leb (length (code_bytes b)) 65535 && short b && short c

-- the top list alone ends in End
abbrev pub written : Code → Bytes
written c = code_bytes (by_offset c) ++ (0 ∷ [])

pub data Answer : Type 0 where
  bytes : Bytes → Answer
  refused : ℕ → Answer

-- the refusals in their order, each with the test that must pass
abbrev pub refusals : Lists → (room : ℕ) → List (Bool × ℕ)
refusals l room =
    (zero_free l, 9) ∷
    (short (code l), 10) ∷
    (all_near (code l), 11) ∷
    (leb (length (written (code l))) room, 12) ∷ []

abbrev pub unless_refused : List (Bool × ℕ) → Answer → Answer
unless_refused [] a = a
unless_refused (x ∷ xs) a = elim x.0 [ true ↦ unless_refused xs a | false ↦ refused x.1 ]

unfoldable pub encode : Lists → (room : ℕ) → Answer
encode l room = unless_refused (refusals l room) (bytes (written (code l)))
