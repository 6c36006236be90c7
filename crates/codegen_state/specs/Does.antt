-- What holds of the words between steps, and what it means that code does a step.
use Rattle.std.specs.Prelude.{ℕ, zero, suc, ◌+◌, ◌-◌, ◌≤◌, ◌<◌, ◌≡◌, List, [], ◌∷◌, T, length, get_or, IsNone}
use Rattle.std.specs.Coded.{×_prop, le_prop}
use denote.Struct.Props as logic
use Rattle.pcode.specs.Pcode.{Header, Action, Item}
use Rattle.lowering.specs.Builder.{M}
use Rattle.list_slice.specs.Entry.{Piece, entry, entry_of, piece_of}
use Rattle.list_slice.specs.Words.{entry_at}
use Rattle.list_slice.specs.Items.{added}
use Rattle.list_slice.specs.File.{in_file, names_string}
use Rattle.list_slice.proofs.Laid.{Rising}
use Rattle.codegen_state.specs.declared.BuilderState.{BuilderState}
use Rattle.codegen_state.specs.View.{labels_of, ends_of, held, after, shut, good}
use Rattle.codegen_state.specs.Index.{Indexed}

-- how many labels are marked
unfoldable pub marked : List ℕ → ℕ
marked [] = 0
marked (zero ∷ xs) = marked xs
marked (suc n ∷ xs) = suc (marked xs)

-- an entry is that of the piece that it says
abbrev pub Written : List ℕ → ℕ → Type 0
Written w i = entry_of (piece_of (entry_at w i)) ≡ entry_at w i

-- the list that ends at entry base does not begin with a later value of a Push
abbrev pub Begins : List ℕ → (base : ℕ) → Type 0
Begins w base = (entry_at w (base - 1)).code < 0x120

-- the counts bound each other and the room, and what is not used is zeros; the pool's entry stands at the bottom of the top list; a later value of a
-- Push follows a value of its list
pub record Fine (b : BuilderState) (w : List ℕ) : Type 0 where
  pub long : 20480 ≤ length w
  pub low : b.low ≤ b.top
  pub base : b.top ≤ b.base
  pub cap : b.base ≤ 4096
  pub bottom : b.top < 4096
  pub used : b.low + 4096 ≤ b.top + (b.actions + b.values + b.marks)
  pub actions : b.actions ≤ 1024
  pub values : b.values ≤ 2048
  pub labels : b.labels ≤ 1024
  pub marks : b.marks ≡ marked (labels_of b w)
  pub size : b.size + b.sizes ≤ b.actions + b.values
  pub lists : b.lists < b.actions
  pub constants : b.constants ≤ b.values
  pub total : b.total ≤ 65535
  pub ends : Rising 0 (ends_of b w) b.low
  pub gap : (i : ℕ) → b.low ≤ i → i < b.top → entry_at w i ≡ entry 0 0 0
  pub pool_entry : entry_at w 4095 ≡ entry 0x88 0 0
  pub written_low : (i : ℕ) → i < b.low → Written w i
  pub written_top : (i : ℕ) → b.top ≤ i → i < 4096 → Written w i
  pub later : (i : ℕ) → b.top ≤ i → i < 4095 → 0x120 ≤ (entry_at w i).code → 0x110 ≤ (entry_at w (suc i)).code
  pub first : b.top < b.base → Begins w b.base
  pub no_label : (i : ℕ) → b.labels ≤ i → i < 1024 → get_or w (12288 + i) 0 ≡ 0
  pub no_end : (i : ℕ) → b.lists ≤ i → i < 1024 → get_or w (13312 + i) 0 ≡ 0
  pub no_string_lem : (i : ℕ) → b.constants ≤ i → i < 2048 → get_or w (14336 + i) 0 ≡ 0

-- it has one proof at most, as a ghost field must
Rising-prop : (p : ℕ) (es : List ℕ) (low : ℕ) → IsProp (Rising p es low)
Rising-prop p [] low = Prim.hlevel logic.props
Rising-prop p (e ∷ es) low = ×_prop le_prop (Rising-prop e es low)

pub Fine-prop : (b : BuilderState) (w : List ℕ) → IsProp (Fine b w)
Fine-prop b w = Prim.hlevel (Rising-prop, logic.props)

-- every reference names something of the file, and the index is that of the pool
pub record Named (F : List ℕ) (b : BuilderState) (w : List ℕ) : Type 0 where
  pub finished : (i : ℕ) → i < b.low → T (good F (piece_of (entry_at w i)))
  pub unfinished : (i : ℕ) → b.top ≤ i → i < 4095 → T (good F (piece_of (entry_at w i)))
  pub strings : (i : ℕ) → i < b.constants → T (names_string F (get_or w (14336 + i) 0))
  pub indexed : Indexed F b.constants w

-- from a BuilderState and words to others, the step m is done, with the value a
pub record Does {A : Type 0} (F : List ℕ) (m : M A) (b : BuilderState) (w : List ℕ) (a : A) (r : BuilderState) (w' : List ℕ) : Type 0 where
  pub same : held F a r w' ≡ after (held F tt b w) m
  pub fine : Fine r w'
  pub named : Named F b w → Named F r w'

-- a code and its first word say an action
pub record Says (F : List ℕ) (code first : ℕ) (a : Action) : Type 0 where
  pub piece : Piece
  pub entry_is : entry_of piece ≡ entry code first 0
  pub adds : (is : List Item) → added (in_file F []) piece is ≡ Item.action a ∷ is
  pub is_good : T (good F piece)

-- what the code that ends a function's list asks and gives
abbrev pub Ready : BuilderState → List ℕ → (base size : ℕ) → Type 0
Ready b w base size = IsNone b.refused → (b.base ≤ base) × (base ≤ 4096) × (size ≤ b.sizes) × (b.base < 4096) × (b.base < base → Begins w base)

pub record Ends (F : List ℕ) (h : Header) (b : BuilderState) (w : List ℕ) (base size : ℕ) (r : BuilderState) (w' : List ℕ) : Type 0 where
  pub same : held F tt r w' ≡ shut F h (base - b.base) size (held F tt b w)
  pub fine : Fine r w'
  pub named : Named F b w → Named F r w'
