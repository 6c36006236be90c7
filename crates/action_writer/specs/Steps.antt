-- What an entry adds to the bytes of its list, by its code.
use Rattle.std.specs.Prelude.{ℕ, ◌+◌, ◌-◌, ◌*◌, ◌%◌, ◌≤◌, ◌<◌, ◌≡◌, List, [], ◌∷◌, ◌++◌, cond, eqb, ltb, length, get_or}
use Rattle.pcode.specs.Pcode.{Item, plain, push, branch, define, action, mark}
use Rattle.script_records.specs.declared.layout.Layout.{Layout}
use Rattle.action_format.specs.Bytes.{Bytes}
use Rattle.byte_writer.specs.declared.Writer.{Writer}
use Rattle.byte_writer.specs.Written.{written_at}
use Rattle.byte_writer.specs.Data.{frame, framed, value_data, action_data, action_bytes}
use Rattle.byte_writer.specs.Header.{function_data, function_bytes, IsFunction}
use Rattle.resolver.specs.Walk.{count_of, start_of, end_of}
use Rattle.action_writer.specs.Bodies.{body_at, items_from, bytes_of}

-- what a writer of a later value gives: the value at `at`, and the length of the Push's record at `begun` anew
pub record Joined (o : List ℕ) (begun at : ℕ) (v : Bytes) (next : ℕ) (o' : List ℕ) : Type 0 where
  pub after : next ≡ at + length v
  pub output : o' ≡ written_at (written_at o at v) begun (frame 0x96 (next - (begun + 3)))
  pub long : length o' ≡ length o

pub record Joins (w : Writer) (begun : ℕ) (v : Bytes) (w' : Writer) : Type 0 where
  pub same_script : w'.script ≡ w.script
  pub same_output : w'.output.ghost_name ≡ w.output.ghost_name
  pub joined : Joined w.output.now begun w.at v w'.at w'.output.now

pub data Sort : Type 0 where
  a_mark a-function an-action a-first-value a-later-value : Sort

abbrev pub sort_of : (code : ℕ) → Sort
sort_of c =
    cond (eqb c 257) a_mark (cond (eqb c 256) a-function (cond (ltb c 0x110) an-action (cond (ltb c 0x120) a-first-value a-later-value)))

module _ (F : List ℕ) (l : Layout) (w sizes offsets : List ℕ) (j e : ℕ) where
  abbrev pub code : ℕ
  code = get_or w (e * 3) 0

  abbrev pub first : ℕ
  first = get_or w (e * 3 + 1) 0

  abbrev pub second : ℕ
  second = get_or w (e * 3 + 2) 0

  -- the bytes before entry e, and with it
  abbrev pub before : Bytes
  before = bytes_of F w j (items_from F w j (e + 1))

  abbrev pub with' : Bytes
  with' = bytes_of F w j (items_from F w j e)

  -- if the last item is a Push, its record is at `begun`
  abbrev pub OpenIn : List Item → (at begun : ℕ) → Type 0
  OpenIn [] at begun = Unit
  OpenIn (mark m ∷ is) at begun = Unit
  OpenIn (action (push vs) ∷ is) at begun = begun ≡ at + length (bytes_of F w j is)
  OpenIn (action (plain p) ∷ is) at begun = Unit
  OpenIn (action (branch b p) ∷ is) at begun = Unit
  OpenIn (action (define h n) ∷ is) at begun = Unit

  abbrev pub value' : Bytes
  value' = value_data F l (code % 16) first second

  pub record Marks : Type 0 where
    pub adds : with' ≡ before
    pub free : (at begun : ℕ) → OpenIn (items_from F w j e) at begun

  pub record Defines : Type 0 where
    pub function : IsFunction F l second
    pub numbered : 1 ≤ first
    pub earlier : first ≤ j
    pub known : first < 1024
    pub short : length (function_data F l second (get_or sizes first 0)) ≤ 65535
    pub adds : with' ≡ before ++ (function_bytes F l second (get_or sizes first 0) ++ body_at F w (first - 1))
    pub free : (at begun : ℕ) → OpenIn (items_from F w j e) at begun

  pub record Acts : Type 0 where
    pub pool : code ≡ 136 → 14336 + first ≤ length w
    pub short : length (action_data F l w code first (get_or offsets e 0)) ≤ 65535
    pub adds : with' ≡ before ++ action_bytes F l w code first (get_or offsets e 0)
    pub free : (at begun : ℕ) → OpenIn (items_from F w j e) at begun

  pub record Begins : Type 0 where
    pub short : length value' ≤ 65535
    pub adds : with' ≡ before ++ framed 0x96 value'
    pub opens : (at : ℕ) → OpenIn (items_from F w j e) at (at + length before)

  pub record Continues : Type 0 where
    pub front : Bytes
    pub data' : Bytes
    pub was : before ≡ front ++ framed 0x96 data'
    pub adds : with' ≡ front ++ framed 0x96 (data' ++ value')
    pub short : length (data' ++ value') ≤ 65535
    pub opened : (at begun : ℕ) → OpenIn (items_from F w j (e + 1)) at begun → begun ≡ at + length front
    pub opens : (at : ℕ) → OpenIn (items_from F w j e) at (at + length front)

  abbrev pub Step : Sort → Type 0
  Step a_mark = Marks
  Step a-function = Defines
  Step an-action = Acts
  Step a-first-value = Begins
  Step a-later-value = Continues

-- the list at place j of the finishing order
pub record WritableList (F : List ℕ) (l : Layout) (w sizes offsets : List ℕ) (j : ℕ) : Type 0 where
  pub order : start_of w j ≤ end_of w j
  pub cap : end_of w j ≤ 4096
  pub body : body_at F w j ≡ bytes_of F w j (items_from F w j (start_of w j))
  pub none : bytes_of F w j (items_from F w j (end_of w j)) ≡ []
  pub start : (at begun : ℕ) → OpenIn F l w sizes offsets j 0 (items_from F w j (end_of w j)) at begun
  pub step : (e : ℕ) → start_of w j ≤ e → e < end_of w j → Step F l w sizes offsets j e (sort_of (get_or w (e * 3) 0))
  pub rest : (e : ℕ) → start_of w j ≤ e → e ≤ end_of w j → length (bytes_of F w j (items_from F w j e)) ≤ length (body_at F w j)

pub record Writable (F : List ℕ) (l : Layout) (w sizes offsets : List ℕ) : Type 0 where
  pub long : 16384 ≤ length w
  pub few : count_of w ≤ 1024
  pub list : (j : ℕ) → j < count_of w → WritableList F l w sizes offsets j
