-- The invariant of a state while lists are built, and what it means that a step keeps it.
use Prim.Native.Nat.{ℕ, suc, ◌+◌, ◌<◌, ◌≤◌}
use mathlib.Core.Path.{◌≡◌}
use mathlib.Core.Logic.{◌⊎◌}
use mathlib.Core.List.{List, [], ◌∷◌, Memᴰ}
use mathlib.Core.Option.{none, some}
use lib.ListN.{length, get_or}
use Rattle.hir.specs.Hir.{Str}
use Rattle.pcode.specs.Pcode.{Item}
use Rattle.lowering.specs.Builder.{Limits, M, State, Result, ok, refused}
use Rattle.lowering.specs.Statement.{pool}
use Rattle.lowering.proofs.Theorems.Facts.{All, branches, count, Closed, LabelsBelow, is_action, pushed_by, sum, actions_in, values_in, function_list, At, ItemOk, tag_of, Full}

abbrev pub Each : List ℕ → (ℕ → Type 0) → Type 0
Each F Q = (l : ℕ) → Memᴰ l F → Q l

-- where a list begins: the top list with the pool's place, a function's list after so many have finished
pub data Origin : Type 0 where
  top : Origin
  after : ℕ → Origin

-- from its origin to m lists finished, a list (the last item first) names each as it finishes
pub data Runs (ls : List (List Item)) : Origin → List Item → ℕ → Type 0 where
  begin : {n : ℕ} → Runs ls (after n) [] n
  begin_top : Runs ls top (pool [] ∷ []) 0
  plain : {i : Item} {is : List Item} {o : Origin} {m : ℕ} → function_list i ≡ none → Runs ls o is m → Runs ls o (i ∷ is) m
  function : {i : Item} {is l : List Item} {o : Origin} {m k : ℕ} → function_list i ≡ some (suc k) → At l ls k →
      Runs ls (after m) l k → Runs ls o is m → Runs ls o (i ∷ is) (suc k)

-- every item after the pool's place is in range
pub data Ranged (T : Str → Type 0) (k : ℕ) : Origin → List Item → Type 0 where
  begin : {n : ℕ} → Ranged T k (after n) []
  begin_top : Ranged T k top (pool [] ∷ [])
  next : {i : Item} {is : List Item} {o : Origin} → ItemOk T k i → Ranged T k o is → Ranged T k o (i ∷ is)

-- the actions and values of the lists that wait for a function's
pub record Waiting : Type 0 where
  pub actions : ℕ
  pub values : ℕ

abbrev pub Marked : ℕ → State → Type 0
Marked x s = 0 < count x s.builder.items

-- a label that is made and not marked
abbrev pub Free : State → ℕ → Type 0
Free s x = get_or s.labels x 1 ≡ 0

-- what a script is lowered under: its limits, what a refusal's number may rest on, and, if its scalars are in range, what holds of its strings
pub record Context : Type 1 where
  pub limits : Limits
  pub cause : ℕ → Type 0
  pub ranges : Type 0
  pub text : Str → Type 0
  pub empty : ranges → text []

pub record Pooled (K : Context) (constants : List Str) (tag : ℕ) : Type 0 where
  pub strings : K.ranges → All K.text constants
  pub fewer : length constants ≤ 65535
  pub total : tag ≡ tag_of constants
  pub small : tag ≤ 65535

-- of the list under construction, with the labels O promised to be marked in it
pub record Listed (K : Context) (O : List ℕ) (o : Origin) (items : List Item) (labels : List ℕ) (lists : List (List Item)) (pool : ℕ) : Type 0 where
  pub numbered : Runs lists o items (length lists)
  pub ranged : K.ranges → Ranged K.text pool o items
  pub tabled : (x : ℕ) → count x items ≤ get_or labels x 0
  pub each : (x : ℕ) → Memᴰ x (branches items) → (0 < count x items) ⊎ Memᴰ x O

-- of the finished lists
pub record Finished (K : Context) (lists : List (List Item)) (pool : ℕ) : Type 0 where
  pub closed : All Closed lists
  pub below : All (LabelsBelow K.limits.labels) lists
  pub fit : K.ranges → All (All (ItemOk K.text pool)) lists

pub record Labels (K : Context) (labels : List ℕ) : Type 0 where
  pub bits : (x : ℕ) → get_or labels x 0 ≤ 1
  pub few : length labels ≤ K.limits.labels

-- the counts are those of all lists
pub record Counted (K : Context) (w : Waiting) (n v : ℕ) (items : List Item) (lists : List (List Item)) : Type 0 where
  pub actions : n ≡ w.actions + sum is_action items + actions_in lists
  pub values : v ≡ w.values + sum pushed_by items + values_in lists
  pub few_actions : n ≤ K.limits.actions
  pub few_values : v ≤ K.limits.values

pub record Covered (K : Context) (O : List ℕ) (o : Origin) (w : Waiting) (s : State) : Type 0 where
  pub limited : s.limits ≡ K.limits
  pub listed : Listed K O o s.builder.items s.labels s.lists (length s.constants)
  pub finished : Finished K s.lists (length s.constants)
  pub labels : Labels K s.labels
  pub pooled : Pooled K s.constants s.tag_length
  pub counted : Counted K w s.actions s.values s.builder.items s.lists

-- from s to t: what is marked stays marked, finished lists keep their numbers, the pool grows, and only labels of F change
pub record Grows (F : List ℕ) (s t : State) : Type 0 where
  pub still : (x : ℕ) → Marked x s → Marked x t
  pub kept : (l : List Item) (k : ℕ) → At l s.lists k → At l t.lists k
  pub pool : length s.constants ≤ length t.constants
  pub longer : length s.labels ≤ length t.labels
  pub table : (x d : ℕ) → x < length s.labels → (Memᴰ x F → ⊥) → get_or t.labels x d ≡ get_or s.labels x d

pub record After (K : Context) (O F : List ℕ) (o : Origin) (w : Waiting) (s t : State) : Type 0 where
  pub covered : Covered K O o w t
  pub grows : Grows F s t
  pub spent : Each F (λ (l : ℕ). Marked l t)

-- a refusal has its cause, or a limit is reached
abbrev pub Post : {A : Type 0} → Context → (A → State → Type 0) → Result A → Type 0
Post K Q (ok a t) = Q a t
Post K Q (refused n t) = K.cause n ⊎ ((n ≡ 8) × Full K.limits t)

-- with the labels O promised, and those of F free, the step keeps the invariant, marks those of F and no others,
-- and is refused only for a reason
pub record Good (K : Context) (O F : List ℕ) {A : Type 0} (m : M A) : Type 0 where
  pub run : (o : Origin) (w : Waiting) (s : State) → Covered K O o w s → Each F (Free s) → Post K (λ a t. After K O F o w s t) (m s)

-- whatever the state, the step's value is one of Q
abbrev pub ValueIs : {A : Type 0} → (A → Type 0) → Result A → Type 0
ValueIs Q (ok a t) = Q a
ValueIs Q (refused n t) = Unit

pub record Yields {A : Type 0} (Q : A → Type 0) (m : M A) : Type 0 where
  pub run : (s : State) → ValueIs Q (m s)
