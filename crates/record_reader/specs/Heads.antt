-- What is said of a record and of a pushed value, by what the definition reads there.
use Rattle.std.specs.Prelude.{ℕ, ◌+◌, ◌-◌, Bool, true, ◌&&◌, Option, Some, None, length, drop}
use Rattle.std.proofs.Math.Option as math
use Rattle.std.proofs.Math.Option.{none, some}
use Rattle.utf8.specs.Utf8.{utf8}
use Rattle.pcode.specs.Pcode.{Value, Plain, op, ConstantPool, StoreRegister, GotoFrame, GotoFrame2, GotoLabel}
use Rattle.action_format.specs.Lists.{all, simple, pushing, branching}
use Rattle.action_format.specs.Strings.{value_strings, values_strings, plain_strings, header_strings}
use Rattle.action_format.specs.Rules.{value_fits, plain_fits, header_fits, filled}
use Rattle.action_format.specs.Bytes.{Bytes}
use Rattle.action_format.specs.Decode.{Record, alone, header, read_value, read_record}
use Rattle.list_slice.specs.Entry.{Entry, entry_of, value_entry, branch_code}
use Rattle.list_slice.specs.Items.{plain_piece, pushed_of}
use Rattle.list_slice.specs.Read.{chosen_at}
use Rattle.record_reader.specs.declared.Kind.{Kind}
use Rattle.record_reader.specs.declared.Kind.TheVariants as kind
use Rattle.record_reader.specs.declared.Head.{Head}
use Rattle.record_reader.specs.declared.PushedValue.{PushedValue}
use Rattle.record_reader.specs.declared.ReadValue.{ReadValue}

-- the record at position p, by its entry in a read list

abbrev pub entry_kind : Entry → Kind
entry_kind e = kind.Plain e.code e.first

abbrev pub plain_kind : (p : ℕ) → Plain → Kind
plain_kind p (ConstantPool ss) = kind.Pool (length ss)
plain_kind p (op o) = entry_kind (entry_of (plain_piece (chosen_at p) (op o)))
plain_kind p (StoreRegister r) = entry_kind (entry_of (plain_piece (chosen_at p) (StoreRegister r)))
plain_kind p (GotoFrame n) = entry_kind (entry_of (plain_piece (chosen_at p) (GotoFrame n)))
plain_kind p (GotoFrame2 t) = entry_kind (entry_of (plain_piece (chosen_at p) (GotoFrame2 t)))
plain_kind p (GotoLabel s) = entry_kind (entry_of (plain_piece (chosen_at p) (GotoLabel s)))

abbrev pub record_kind : (p : ℕ) → Record → Kind
record_kind p (alone (simple a)) = plain_kind p a
record_kind p (alone (pushing vs)) = kind.Push (length vs)
record_kind p (alone (branching b o)) = kind.Branch (branch_code b) o
record_kind p (header h size) = kind.Function size

-- the rules on a list that one record can break by itself, a branch's place apart; pool is the pool's count

abbrev pub value_holds : (pool : ℕ) → Value → Bool
value_holds pool v = value_fits pool v && all utf8 (value_strings v)

abbrev pub record_holds_in : (pool : ℕ) → Record → Bool
record_holds_in pool (alone (simple a)) = plain_fits a && all utf8 (plain_strings a)
record_holds_in pool (alone (pushing vs)) = (filled vs && all (value_fits pool) vs) && all utf8 (values_strings vs)
record_holds_in pool (alone (branching b o)) = true
record_holds_in pool (header h size) = header_fits h && all utf8 (header_strings h)

-- what is read at position p of bytes of length n
abbrev pub head_of : (p n pool : ℕ) → math.Option (Record × Bytes) → Option Head
head_of p n pool none = None
head_of p n pool (some x) = Some (record { kind = record_kind p x.0; next = n - length x.1; fits = record_holds_in pool x.0 })

unfoldable pub head_at : Bytes → (p pool : ℕ) → Option Head
head_at b p pool = head_of p (length b) pool (read_record (drop p b))

-- a value whose type stands at position p: its entry, with the base 0 for the code

abbrev pub with_entry : Entry → (fits : Bool) → PushedValue
with_entry e t = record { code = e.code; first = e.first; second = e.second; fits = t }

-- a string stands at q
abbrev pub pushed_value : (q pool : ℕ) → Value → PushedValue
pushed_value q pool v = with_entry (value_entry 0 (pushed_of (λ s. q) v)) (value_holds pool v)

abbrev pub value_of : (p n pool : ℕ) → math.Option (Value × Bytes) → Option ReadValue
value_of p n pool none = None
value_of p n pool (some x) = Some (record { value = pushed_value (p + 1) pool x.0; next = n - length x.1 })

unfoldable pub value_at : Bytes → (p pool : ℕ) → Option ReadValue
value_at b p pool = value_of p (length b) pool (read_value (drop p b))
