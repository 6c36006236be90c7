-- What the words, the table, the kept ends and the state stand for while lists are read.
use Rattle.std.specs.Prelude.{ℕ, ◌+◌, ◌-◌, ◌*◌, ◌≤◌, ◌<◌, ◌≡◌, List, [], ◌∷◌, ◌++◌, map, T, length, get_or, take, drop}
use Rattle.std.proofs.Math.Option.{some}
use Rattle.hir.specs.Hir.{Str}
use Rattle.utf8.specs.Utf8.{utf8}
use Rattle.pcode.specs.Pcode.{ConstantPool}
use Rattle.action_format.specs.Lists.{all, simple}
use Rattle.action_format.specs.Strings.{no_zero}
use Rattle.action_format.specs.Rules.{total}
use Rattle.action_format.specs.Bytes.{Bytes}
use Rattle.action_format.specs.Decode.{alone, read_record}
use Rattle.list_slice.specs.Entry.{Entry}
use Rattle.list_slice.specs.Words.{joined, ends_from}
use Rattle.list_slice.specs.Read.{Placed}
use Rattle.action_reader.specs.declared.walk.Span.{Span}
use Rattle.action_reader.specs.declared.walk.Walk.{Walk}
use Rattle.action_reader.specs.Walk.{Ended, Open, resume, weight, one, valued, bad, lost, raw, settled}
use Rattle.action_reader.specs.Layout.{layout}
use Rattle.action_reader.specs.Places.{Rises}

abbrev pub positions : List Placed → List ℕ
positions = map (λ (a : Placed). a.position)

-- the entries of the lists around, the innermost first
abbrev pub upper : List Open → List Entry
upper [] = []
upper (f ∷ fs) = raw f.around ++ upper fs

-- the positions of their actions, a function's own among them, the outermost first
abbrev pub marks : List Open → List ℕ
marks [] = []
marks (f ∷ fs) = marks fs ++ (positions f.around ++ (f.position ∷ []))

-- for each list around: where it stops, where its entries end, and where its positions begin
abbrev pub saves : List Open → List Span
saves [] = []
saves (f ∷ fs) = saves fs ++ (record { end = f.stop; base = 4096 - length (upper fs); first = length (marks fs) } ∷ [])

-- the bytes of the lists around
abbrev pub Framed : Bytes → List Open → ℕ → Type 0
Framed b [] e = e ≡ length b
Framed b (f ∷ fs) e = (f.rest ≡ drop e (take f.stop b)) × (e ≤ f.stop) × Framed b fs f.stop

-- the first record is the pool
pub record Pooled (b : Bytes) (ss : List Str) : Type 0 where
  pub rest : Bytes
  pub first : read_record b ≡ some (alone (simple (ConstantPool ss)), rest)
  pub texts : T (all utf8 ss)
  pub zeros : T (all no_zero ss)

-- what has been read
pub record Held (b : Bytes) (s : Walk) (ss : List Str) (fs : List Open) (own : List Placed) (ls : List Ended) : Type 0 where
  pub pool : Pooled b ss
  pub pool_is : s.pool ≡ length ss
  pub left : resume fs own ls s.at (drop s.at (take s.span.end b)) ≡ resume [] [] [] 0 b
  pub framed : Framed b fs s.span.end
  pub within : s.at ≤ s.span.end
  pub actions : weight one fs own ls ≡ s.actions
  pub values : weight valued fs own ls ≡ s.values
  pub good : weight (bad (length ss)) fs own ls ≡ 1
  pub landed : total lost ls ≡ 0
  pub few_actions : s.actions ≤ 1024
  pub few_values : s.values ≤ 2048
  pub far : s.at ≤ 65538 * s.actions

-- where it stands
pub record Laid (w : List ℕ) (s : Walk) (fs : List Open) (own : List Placed) (ls : List Ended) : Type 0 where
  pub long : 16384 ≤ length w
  pub words : w ≡ layout (joined (map settled ls)) (raw own ++ upper fs) (ends_from 0 (map settled ls)) (length w)
  pub low : length (joined (map settled ls)) ≡ s.low
  pub top : length (raw own) + s.top ≡ s.span.base
  pub base : length (upper fs) + s.span.base ≡ 4096
  pub lists : length ls ≡ s.lists
  pub room : s.low + (4096 - s.top) + length fs ≤ s.actions + s.values
  pub fewer : s.lists + length fs < s.actions

pub record Noted (s : Walk) (fs : List Open) (own : List Placed) : Type 0 where
  pub table : s.table.items ≡ marks fs ++ positions own
  pub first : length (marks fs) ≡ s.span.first
  pub few : length s.table.items ≤ s.actions
  pub rising : Rises s.table.items
  pub below : (i : ℕ) → i < length s.table.items → get_or s.table.items i 0 < s.at

pub record Kept (s : Walk) (fs : List Open) : Type 0 where
  pub saved : s.outer.items ≡ saves fs

pub record Stands (b w : List ℕ) (s : Walk) : Type 0 where
  pub strings : List Str
  pub around : List Open
  pub own : List Placed
  pub lists : List Ended
  pub held : Held b s strings around own lists
  pub laid : Laid w s around own lists
  pub noted : Noted s around own
  pub kept : Kept s around
