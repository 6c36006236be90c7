-- The state of the definition that a BuilderState and the words of the list slice stand for, and what waits behind it.
use Rattle.std.specs.Prelude.{ℕ, ◌+◌, ◌-◌, ◌*◌, List, [], map, Bool, ◌&&◌, eqb, length, take, drop, Option, Some, None}
use Rattle.pcode.specs.Pcode.{Value, Header, Item}
use Rattle.pcode.specs.declared.PushValue.{PushValue}
use Rattle.pcode.specs.declared.PushValue.TheVariants as pushing
use Rattle.decode.specs.Numbers.{unsigned}
use Rattle.lowering.specs.Builder.{limits01, State, Result, ok, refused, M, close}
use Rattle.list_slice.specs.Entry.{Pushed, Piece, Entry, piece_of}
use Rattle.list_slice.specs.Entry as entry
use Rattle.list_slice.specs.Words.{run, cut}
use Rattle.list_slice.specs.Items.{gathered, value_of}
use Rattle.list_slice.specs.File.{text_in, in_file}
use Rattle.list_slice.specs.Compiled.{value_named, piece_named, pool_count}
use Rattle.codegen_state.specs.declared.Stop.{Stop}
use Rattle.codegen_state.specs.declared.BuilderState.{BuilderState}
use Rattle.codegen_state.specs.Stop.{number_of}

-- the areas of the slice at document 01's limits: entries, and the words at which labels, list ends, pool and rest begin
abbrev pub max_entries : ℕ
max_entries = 4096

abbrev pub labels_from : ℕ
labels_from = 12288

abbrev pub ends_from : ℕ
ends_from = 13312

abbrev pub pool_from : ℕ
pool_from = 14336

abbrev pub rest_from : ℕ
rest_from = 16384

-- the items that entries say, both with the last one first. The pool is empty until the end
unfoldable pub gather : List ℕ → List Entry → List Item
gather F es = gathered (in_file F []) (map piece_of es)

-- a value to be pushed
abbrev pub pushed : PushValue → Pushed
pushed (pushing.String s) = entry.String s
pushed pushing.Null = entry.Null
pushed pushing.Undefined = entry.Undefined
pushed (pushing.Register r) = entry.Register r
pushed (pushing.Boolean b) = entry.Boolean b
pushed (pushing.Float low high) = entry.Float (low + 0x1_0000_0000 * high)
pushed (pushing.Integer n) = entry.Integer (unsigned n)
pushed (pushing.Constant i) = entry.Constant i

abbrev pub value_in : List ℕ → PushValue → Value
value_in F v = value_of (in_file F []) (pushed v)

abbrev pub named : List ℕ → PushValue → Bool
named F v = value_named F (pushed v)

abbrev pub labels_of : BuilderState → List ℕ → List ℕ
labels_of b w = take b.labels (drop labels_from w)

abbrev pub ends_of : BuilderState → List ℕ → List ℕ
ends_of b w = take b.lists (drop ends_from w)

abbrev pub pool_of : BuilderState → List ℕ → List ℕ
pool_of b w = take b.constants (drop pool_from w)

abbrev pub open_of : BuilderState → List ℕ → List Entry
open_of b w = run w b.top (b.base - b.top)

unfoldable pub state : List ℕ → BuilderState → List ℕ → State
state F b w = record {
  limits = limits01;
  labels = labels_of b w;
  actions = b.actions;
  values = b.values;
  constants = map (text_in F) (pool_of b w);
  tag_length = b.total;
  lists = map (gather F) (cut w 0 (ends_of b w));
  builder = record { items = gather F (open_of b w); size = b.size };
}

-- of the lists that wait: their entries, and the sum of their sizes
pub record Waiting : Type 0 where
  pub entries : List Entry
  pub sizes : ℕ

abbrev pub waiting : BuilderState → List ℕ → Waiting
waiting b w = record { entries = run w b.base (max_entries - b.base); sizes = b.sizes }

-- what a step leaves: a value, the state, and what waits; or the refusal
pub data Held (A : Type 0) : Type 0 where
  holds : A → State → Waiting → Held A
  stopped : ℕ → Held A

abbrev pub unless : {A : Type 0} → Option Stop → Held A → Held A
unless None h = h
unless (Some s) h = stopped (number_of s)

unfoldable pub held : {A : Type 0} → List ℕ → A → BuilderState → List ℕ → Held A
held F a b w = unless b.refused (holds a (state F b w) (waiting b w))

abbrev pub back : {A : Type 0} → Waiting → Result A → Held A
back r (ok a s) = holds a s r
back r (refused n s) = stopped n

-- a step after another, or after a refusal
unfoldable pub carry : {A B : Type 0} → Held A → (A → M B) → Held B
carry (holds a s r) f = back r (f a s)
carry (stopped n) f = stopped n

unfoldable pub after : {B : Type 0} → Held (Unit {0}) → M B → Held B
after v m = carry v (λ _. m)

-- a function's list ends: k entries of those that wait are the list before, whose size was z
unfoldable pub shut : List ℕ → Header → (k z : ℕ) → Held (Unit {0}) → Held (Unit {0})
shut F h k z (holds a s r) =
    back (record { entries = drop k r.entries; sizes = r.sizes - z })
    (close h (record { items = gather F (take k r.entries); size = z }) (ok a s))
shut F h k z (stopped n) = stopped n

-- an entry that lowering adds: its references name something of the file, and it is no ConstantPool
abbrev pub good : List ℕ → Piece → Bool
good F p = piece_named F p && eqb (length (pool_count p)) 0
