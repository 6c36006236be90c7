-- The walk through a list, entry by entry.
use Rattle.std.specs.Prelude.{ℕ, suc, ◌+◌, ◌-◌, ◌≤◌, ◌<◌, ◌≡◌, ◌⊎◌, List, [], ◌∷◌, Bool, true, false, cond, ◌&&◌, ◌||◌, leb, ltb, eqb, length, get_or, set, Option, Some, None}
use Rattle.pcode.specs.Pcode.{Branching, Action, Item, plain, push, branch, define, action, mark}
use Rattle.action_format.specs.ByPlace.{actions}
use Rattle.action_format.specs.Offsets.{sum, position, offset, reaches}
use Rattle.action_format.proofs.Tests.{All}
use Rattle.list_slice.specs.Entry.{Piece}
use Rattle.list_slice.specs.Words.{entry_at}
use Rattle.resolver.specs.declared.walk.Walk.{Walk}
use Rattle.resolver.specs.Walk.{piece_at, references_in, walked}
use Rattle.resolver.specs.Sizes.{piece_data, measures, all_short}
use Rattle.resolver.specs.Texts.{Known}

-- items of a list as lowering makes them: no empty Push, labels and list numbers within the tables
abbrev pub Fine : Item → Type 0
Fine (action (plain p)) = Unit
Fine (action (push [])) = ⊥
Fine (action (push (v ∷ vs))) = Unit
Fine (action (branch b l)) = l < 1024
Fine (action (define h n)) = n < 1024
Fine (mark l) = Unit

-- a list that stands between two entries
pub record Standing (F w : List ℕ) (from end : ℕ) : Type 0 where
  pub order : from ≤ end
  pub cap : end ≤ 4096
  pub long : 16384 ≤ length w
  pub known : (e : ℕ) → from ≤ e → e < end → Known F w e
  pub fine : All Fine (walked F w from (end - from))

-- what a walk adds for an entry

abbrev pub frame : (code : ℕ) → ℕ
frame c = cond (ltb c 128) 1 3

abbrev pub begun : Walk → (code data' body : ℕ) → Walk
begun w c d b = record { actions = w.actions + 1; bytes = w.bytes + (frame c + d + b); last = w.bytes }

abbrev pub joined : Walk → (data' : ℕ) → Walk
joined w d = record { actions = w.actions; bytes = w.bytes + d; last = w.last }

-- the walk if this is not too long
abbrev pub unless_long : Bool → Walk → Option Walk
unless_long short w = cond short (Some w) None

-- none if a record or a body is too long
abbrev pub stepped : Walk → (code data' body : ℕ) → Option Walk
stepped w c d b =
    cond (eqb c 257) (Some w)
    (cond (leb d 65535) (cond (ltb c 0x120) (unless_long (leb b 65535) (begun w c d b)) (unless_long (leb (w.bytes + d - w.last) 65538) (joined w d))) None)

-- numbers that can grow
pub record Room (w : Walk) : Type 0 where
  pub actions : w.actions ≤ 4096
  pub bytes : w.bytes ≤ 536887296
  pub last : w.last ≤ w.bytes

-- the bytes of bodies, by a table
abbrev pub bodies : List ℕ → ℕ → ℕ
bodies sizes n = get_or sizes n 0

-- the body that a piece brings
abbrev pub piece_body : (ℕ → ℕ) → Piece → ℕ
piece_body B (Piece.function n f) = B n
piece_body B (Piece.op o) = 0
piece_body B (Piece.ConstantPool n) = 0
piece_body B (Piece.StoreRegister n) = 0
piece_body B (Piece.GotoFrame n) = 0
piece_body B (Piece.GotoFrame2 b) = 0
piece_body B (Piece.GotoLabel s) = 0
piece_body B (Piece.branch b l) = 0
piece_body B (Piece.mark l) = 0
piece_body B (Piece.value first v) = 0

abbrev pub stepped_at : List ℕ → List ℕ → (sizes : List ℕ) → Walk → ℕ → Option Walk
stepped_at F w sizes k e = stepped k (entry_at w e).code (piece_data (references_in F w) (piece_at w e)) (piece_body (bodies sizes) (piece_at w e))

-- a whole list of short records, and where its places begin
pub record Measured (B : ℕ → ℕ) (is : List Item) (k : Walk) (starts : List ℕ) : Type 0 where
  pub bytes : k.bytes ≡ sum (measures B is)
  pub short : all_short B is ≡ true
  pub most : k.bytes ≤ 536887296
  pub begins : (p : ℕ) → p ≤ length (measures B is) → get_or starts p 0 ≡ position (measures B is) p

pub record Walked (B : ℕ → ℕ) (is : List Item) (r : Option Walk) (starts : List ℕ) : Type 0 where
  pub good : (k : Walk) → r ≡ Some k → Measured B is k starts
  pub bad : r ≡ None → all_short B is ≡ false

-- how many actions an entry adds, by its code
abbrev pub adds : ℕ → ℕ
adds c = cond (eqb c 257) 0 (cond (ltb c 0x120) 1 0)

-- the places where items, the last item first, mark a label, the last mark first
unfoldable pub spots : (label : ℕ) → List Item → List ℕ
spots l [] = []
spots l (action a ∷ is) = spots l is
spots l (mark m ∷ is) = cond (eqb m l) (length (actions is) ∷ spots l is) (spots l is)

-- each label's last mark is in the table
abbrev pub Placed : List Item → (places : List ℕ) → Type 0
Placed is places = (label p : ℕ) (ps : List ℕ) → label < 1024 → spots label is ≡ p ∷ ps → get_or places label 0 ≡ p

abbrev pub placed : (places : List ℕ) → (label position : ℕ) → List ℕ
placed ps l p = cond (ltb l 1024) (set ps l p) ps

abbrev pub marked_at : List ℕ → (places : List ℕ) → (e position : ℕ) → List ℕ
marked_at w ps e p = cond (eqb (entry_at w e).code 257) (placed ps (entry_at w e).first p) ps

-- branches

abbrev pub is_branch : ℕ → Bool
is_branch c = eqb c 0x99 || eqb c 0x9D

abbrev pub after_at : (starts : List ℕ) → (position : ℕ) → ℕ
after_at starts p = get_or starts (p + 1) 0

abbrev pub target_at : List ℕ → (starts places : List ℕ) → (e : ℕ) → ℕ
target_at w starts places e = get_or starts (get_or places (entry_at w e).first 0) 0

abbrev pub offsets_at : List ℕ → (starts places offsets : List ℕ) → (e position : ℕ) → List ℕ
offsets_at w starts places offsets e p =
    cond (is_branch (entry_at w e).code) (set offsets e (offset (after_at starts p) (target_at w starts places e))) offsets

abbrev pub near_at : List ℕ → (starts places : List ℕ) → (e position : ℕ) → Bool
near_at w starts places e p = cond (is_branch (entry_at w e).code) (reaches (after_at starts p) (target_at w starts places e)) true

-- refusal 11's test of items, the last item first, of a list whose actions have these sizes and whose labels these places
abbrev pub near_item : List ℕ → (ℕ → ℕ) → ℕ → Action → Bool
near_item ss f i (branch b l) = reaches (position ss (suc i)) (position ss (f l))
near_item ss f i (plain p) = true
near_item ss f i (push vs) = true
near_item ss f i (define h n) = true

unfoldable pub all_near_in : List ℕ → (ℕ → ℕ) → List Item → Bool
all_near_in ss f [] = true
all_near_in ss f (action a ∷ is) = near_item ss f (length (actions is)) a && all_near_in ss f is
all_near_in ss f (mark l ∷ is) = all_near_in ss f is

-- the tables of a list, before its branches are resolved: sizes of its actions, and the place of each label that a branch names
pub record ReadyList (F w : List ℕ) (from end : ℕ) (ss : List ℕ) (f : ℕ → ℕ) (starts places : List ℕ) : Type 0 where
  pub as_many : length ss ≡ length (actions (walked F w from (end - from)))
  pub begins : (p : ℕ) → p ≤ length ss → get_or starts p 0 ≡ position ss p
  pub at : (e : ℕ) (b : Branching) (l : ℕ) → from ≤ e → e < end → piece_at w e ≡ Piece.branch b l → (get_or places l 0 ≡ f l) × (f l ≤ length ss)

-- the branches from entry i on
pub record Offsets (F w : List ℕ) (i end : ℕ) (ss : List ℕ) (f : ℕ → ℕ) (before offsets : List ℕ) : Type 0 where
  pub long : length offsets ≡ length before
  pub at : (e : ℕ) (b : Branching) (l : ℕ) → i ≤ e → e < end → piece_at w e ≡ Piece.branch b l →
      get_or offsets e 0 ≡ offset (position ss (suc (length (actions (walked F w (suc e) (end - suc e)))))) (position ss (f l))
  pub others : (e : ℕ) → (e < i) ⊎ (end ≤ e) → get_or offsets e 0 ≡ get_or before e 0
