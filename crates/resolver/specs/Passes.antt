-- The passes over all lists, in the order in which they finish.
use Rattle.std.specs.Prelude.{ℕ, zero, suc, ◌+◌, ◌-◌, ◌≤◌, ◌<◌, ◌≡◌, List, [], ◌∷◌, Bool, true, false, cond, ◌&&◌, eqb, length, get_or, Option, Some, None, Result, Ok, Err}
use Rattle.refusal.specs.declared.Refusal.{Refusal}
use Rattle.refusal.specs.declared.Refusal.TheVariants.{ZeroByte, TooLong, TooFar}
use Rattle.pcode.specs.Pcode.{Branching, Item}
use Rattle.action_format.specs.ByPlace.{actions}
use Rattle.action_format.specs.Offsets.{sum, position, offset}
use Rattle.list_slice.specs.Entry.{Piece}
use Rattle.resolver.specs.declared.passes.Body.{Body}
use Rattle.resolver.specs.Walk.{count_of, end_of, start_of, piece_at, walked}
use Rattle.resolver.specs.Sizes.{measures, all_short, all_clear}
use Rattle.resolver.specs.Steps.{Standing, spots, all_near_in, Offsets}

-- the items of the list at place j of the finishing order, the last item first; and its number
abbrev pub walked_at : List ℕ → List ℕ → ℕ → List Item
walked_at F w j = walked F w (start_of w j) (end_of w j - start_of w j)

abbrev pub number_at : (n j : ℕ) → ℕ
number_at n j = cond (eqb (j + 1) n) 0 (j + 1)

-- all lists stand
pub record Stands (F w : List ℕ) : Type 0 where
  pub some : 1 ≤ count_of w
  pub few : count_of w ≤ 1024
  pub long : 16384 ≤ length w
  pub standing : (j : ℕ) → j < count_of w → Standing F w (start_of w j) (end_of w j)

-- the bytes of each body, by list number, and the places of labels, by list: a body's bytes are those of its list's actions, which bring only bodies of
-- lists that finished before
pub record Sized (F w : List ℕ) : Type 0 where
  pub body : ℕ → ℕ
  pub place : (j label : ℕ) → ℕ
  pub sum_is : (j : ℕ) → j < count_of w → body (number_at (count_of w) j) ≡ sum (measures body (walked_at F w j))
  pub earlier : (j : ℕ) → j < count_of w → (B : ℕ → ℕ) → ((k : ℕ) → 1 ≤ k → k ≤ j → B k ≡ body k) →
      (measures B (walked_at F w j) ≡ measures body (walked_at F w j)) × (all_short B (walked_at F w j) ≡ all_short body (walked_at F w j))
  pub marked : (j e : ℕ) (b : Branching) (l : ℕ) → j < count_of w → start_of w j ≤ e → e < end_of w j → piece_at w e ≡ Piece.branch b l →
      (l < 1024) × (spots l (walked_at F w j) ≡ place j l ∷ []) × (place j l ≤ length (measures body (walked_at F w j)))

module _ {F w : List ℕ} (s : Sized F w) where
  abbrev pub sizes_at : ℕ → List ℕ
  sizes_at j = measures s.body (walked_at F w j)

  abbrev pub near_list : ℕ → Bool
  near_list j = all_near_in (sizes_at j) (s.place j) (walked_at F w j)

  -- the first j lists
  unfoldable pub nearLists : ℕ → Bool
  nearLists zero = true
  nearLists (suc j) = near_list j && nearLists j

  -- one list: none if a record or its body is too long, or its tables
  pub record ListDone (j : ℕ) (before offsets : List ℕ) (bytes : ℕ) (near : Bool) : Type 0 where
    pub bytes_are : bytes ≡ s.body (number_at (count_of w) j)
    pub short : all_short s.body (walked_at F w j) ≡ true
    pub near_is : near ≡ near_list j
    pub offsets_are : Offsets F w (start_of w j) (end_of w j) (sizes_at j) (s.place j) before offsets

  pub record Tried (j : ℕ) (before offsets : List ℕ) (r : Option Body) : Type 0 where
    pub good : (b : Body) → r ≡ Some b → ListDone j before offsets b.bytes b.near
    pub bad : r ≡ None → all_short s.body (walked_at F w j) ≡ false

  -- sizes of the lists before j
  abbrev pub SizesTo : ℕ → List ℕ → Type 0
  SizesTo j sizes = (i : ℕ) → i < j → get_or sizes (number_at (count_of w) i) 0 ≡ s.body (number_at (count_of w) i)

  -- the tables of the first j lists
  pub record Done (j : ℕ) (near : Bool) (sizes offsets : List ℕ) : Type 0 where
    pub sized : SizesTo j sizes
    pub short : (i : ℕ) → i < j → all_short s.body (walked_at F w i) ≡ true
    pub at : (i e : ℕ) (b : Branching) (l : ℕ) → i < j → start_of w i ≤ e → e < end_of w i → piece_at w e ≡ Piece.branch b l →
        get_or offsets e 0 ≡ offset (position (sizes_at i) (suc (length (actions (walked F w (suc e) (end_of w i - suc e)))))) (position (sizes_at i) (s.place i l))
    pub near_are : near ≡ nearLists j

  pub data Passed (sizes offsets : List ℕ) : Result (Unit {0}) Refusal → Type 0 where
    too_long : (j : ℕ) → j < count_of w → all_short s.body (walked_at F w j) ≡ false → Passed sizes offsets (Err TooLong)
    too_far : Done (count_of w) false sizes offsets → Passed sizes offsets (Err TooFar)
    resolved : Done (count_of w) true sizes offsets → Passed sizes offsets (Ok tt)

-- refusal 9's test of the first j lists
unfoldable pub clear_lists : List ℕ → List ℕ → ℕ → Bool
clear_lists F w zero = true
clear_lists F w (suc j) = all_clear (walked_at F w j) && clear_lists F w j

-- the answer, by the lists and tables: refused if a string has a zero byte, else as the passes refuse, or the bytes of the top list's body
pub data Answered {F w : List ℕ} (s : Sized F w) (sizes offsets : List ℕ) : Result ℕ Refusal → Type 0 where
  zero_byte : clear_lists F w (count_of w) ≡ false → Answered s sizes offsets (Err ZeroByte)
  refused : {e : Refusal} → clear_lists F w (count_of w) ≡ true → Passed s sizes offsets (Err e) → Answered s sizes offsets (Err e)
  passed : clear_lists F w (count_of w) ≡ true → Passed s sizes offsets (Ok tt) → Answered s sizes offsets (Ok (get_or sizes 0 0))
