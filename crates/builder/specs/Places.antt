-- Where lists mark their labels: the label words of the finished slice.
use Rattle.std.specs.Prelude.{ℕ, zero, suc, ◌+◌, ◌-◌, ◌*◌, ◌≤◌, ◌<◌, ◌≡◌, List, ◌∷◌, map, reverse, cond, eqb, ltb, length, get_or, set, take, drop}
use Rattle.pcode.specs.Pcode.{Item}
use Rattle.lowering.specs.Builder.{State}
use Rattle.lowering.specs.Statement.{with_pool}
use Rattle.list_slice.specs.Words.{run, cut}
use Rattle.list_slice.specs.Compiled.{label_word}
use Rattle.list_slice.proofs.Laid.{Rising}
use Rattle.codegen_state.specs.View.{gather}
use Rattle.codegen_state.specs.Does.{Written}

-- the words of a list slice are copied, and zeros stand behind them
pub record Copied (w v : List ℕ) : Type 0 where
  pub room : 16384 ≤ length v
  pub same : (j : ℕ) → j < 16384 → get_or v j 0 ≡ get_or w j 0
  pub rest : (j : ℕ) → 16384 ≤ j → get_or v j 0 ≡ 0

-- the label words are zeros, and the others stay
pub record Cleared (w w' : List ℕ) : Type 0 where
  pub long : length w' ≡ length w
  pub before : (j : ℕ) → j < 12288 → get_or w' j 0 ≡ get_or w j 0
  pub zeros : (l : ℕ) → l < 1024 → get_or w' (12288 + l) 0 ≡ 0
  pub behind : (j : ℕ) → 13312 ≤ j → get_or w' j 0 ≡ get_or w j 0

-- a label that has a word keeps it
abbrev pub placed : List ℕ → (label position : ℕ) → List ℕ
placed w l p = cond (ltb l 1024) (cond (eqb (get_or w (12288 + l) 0) 0) (set w (12288 + l) (p + 1)) w) w

-- entry i is a mark, or none
abbrev pub placed_at : List ℕ → (i position : ℕ) → List ℕ
placed_at w i p = cond (eqb (get_or w (i * 3) 0) 257) (placed w (get_or w (i * 3 + 1) 0) p) w

-- how many actions an entry adds, by its code and that of the entry before: a mark adds none, nor does a value that joins a Push
abbrev pub actions_added : (code before : ℕ) → ℕ
actions_added c before = cond (eqb c 257) 0 (cond (ltb c 0x120) 1 (cond (ltb before 0x110) 1 0))

-- the first of two words that is not 0
abbrev pub either : ℕ → ℕ → ℕ
either zero n = n
either (suc m) n = suc m

-- each label that has no word gets that of the lists, and all other words stay
pub record Located (w : List ℕ) (lists : List (List Item)) (w' : List ℕ) : Type 0 where
  pub long : length w' ≡ length w
  pub before : (j : ℕ) → j < 12288 → get_or w' j 0 ≡ get_or w j 0
  pub places : (l : ℕ) → l < 1024 → get_or w' (12288 + l) 0 ≡ either (get_or w (12288 + l) 0) (label_word lists l)
  pub behind : (j : ℕ) → 13312 ≤ j → get_or w' j 0 ≡ get_or w j 0

-- the list from one entry to another, in order
abbrev pub list_at : List ℕ → List ℕ → (from end : ℕ) → List Item
list_at F w from end = reverse (gather F (run w from (end - from)))

-- the first n finished lists, each in order
abbrev pub lists_at : List ℕ → List ℕ → ℕ → List (List Item)
lists_at F w n = map reverse (map (gather F) (cut w 0 (take n (drop 13312 w))))

-- a list stands there, and its entries are those of pieces
pub record Standing (w : List ℕ) (from end : ℕ) : Type 0 where
  pub long : 16384 ≤ length w
  pub whole : from ≤ end
  pub cap : end ≤ 4096
  pub written : (i : ℕ) → from ≤ i → i < end → Written w i

-- and n finished ones
pub record Finished (w : List ℕ) (n : ℕ) : Type 0 where
  pub low : ℕ
  pub standing : Standing w 0 low
  pub few : n ≤ 1024
  pub rising : Rising 0 (take n (drop 13312 w)) low

-- what a script's lists are in the end (`finish` of lowering)
abbrev pub finished : State → List (List Item)
finished s = with_pool s.constants (reverse s.builder.items) ∷ map reverse s.lists
