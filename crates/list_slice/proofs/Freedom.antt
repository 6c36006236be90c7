-- The lists determine a compiled slice's pieces up to the references.
use Prim.Native.Nat.{ℕ}
use mathlib.Core.Path.{◌≡◌, refl, sym, ap, ◌∙◌}
use mathlib.Core.List.{List, [], ◌∷◌, ◌++◌, map, reverse, reverse_aux, reverse-append, reverse-reverse}
use mathlib.Core.Bool.{true, false, true≢false}
use Rattle.pcode.specs.Pcode.{Value, Action, Item}
use Rattle.lowering.specs.Builder.{Limits, join, ends_in_push}
use Rattle.list_slice.specs.Entry.{Pushed, Piece, Null, Undefined, Boolean, String, Register, Float, Integer, Constant, op, ConstantPool, StoreRegister, GotoFrame, GotoLabel, GotoFrame2, branch, function, mark, value}
use Rattle.list_slice.specs.Items.{Chosen, References, pushed_of, item_pieces, value_of, extended, added, gathered, items_of}
use Rattle.list_slice.specs.File.{in_file}
use Rattle.list_slice.specs.Compiled.{finishing, Holds}
use Rattle.action_format.proofs.Tests.{All}
use Rattle.list_slice.proofs.Read.{map_append}

-- a piece without its reference

abbrev pub value_shape : Pushed → Pushed
value_shape (String r) = String 0
value_shape Null = Null
value_shape Undefined = Undefined
value_shape (Boolean b) = Boolean b
value_shape (Register r) = Register r
value_shape (Float v) = Float v
value_shape (Integer v) = Integer v
value_shape (Constant i) = Constant i

abbrev pub shape : Piece → Piece
shape (GotoLabel r) = GotoLabel 0
shape (function n r) = function n 0
shape (ConstantPool n) = ConstantPool 0
shape (value f v) = value f (value_shape v)
shape (op o) = op o
shape (StoreRegister r) = StoreRegister r
shape (GotoFrame n) = GotoFrame n
shape (GotoFrame2 p) = GotoFrame2 p
shape (branch b l) = branch b l
shape (mark l) = mark l

-- an item's pieces without references, the last one first

abbrev no_references : Chosen
no_references = record { text = λ s. 0; strings = λ ss. 0; header = λ h n. 0; values = map (pushed_of (λ s. 0)) }

abbrev item_shapes : Item → List Piece
item_shapes i = reverse (item_pieces no_references i)

abbrev pub shapes : List Item → List Piece
shapes [] = []
shapes (i ∷ is) = item_shapes i ++ shapes is

abbrev pub Filled : Item → Type 0
Filled (Item.action (Action.push [])) = ⊥
Filled (Item.action (Action.push (v ∷ vs))) = Unit
Filled (Item.action (Action.plain p)) = Unit
Filled (Item.action (Action.branch b l)) = Unit
Filled (Item.action (Action.define h n)) = Unit
Filled (Item.mark l) = Unit

value_shape_is : (r : References) (v : Pushed) → value_shape v ≡ pushed_of (λ s. 0) (value_of r v)
value_shape_is r (String s) = refl
value_shape_is r Null = refl
value_shape_is r Undefined = refl
value_shape_is r (Boolean true) = refl
value_shape_is r (Boolean false) = refl
value_shape_is r (Register n) = refl
value_shape_is r (Float n) = refl
value_shape_is r (Integer n) = refl
value_shape_is r (Constant n) = refl

-- one more value is one more piece
more_shapes : (u : Value) (us : List Value) (v : Value) →
    item_shapes (Item.action (Action.push (u ∷ (us ++ (v ∷ []))))) ≡ value false (pushed_of (λ s. 0) v) ∷ item_shapes (Item.action (Action.push (u ∷ us)))
more_shapes u us v =
    ap (λ (r : List Piece). reverse (value true (pushed_of (λ s. 0) u) ∷ r)) (ap (map (value false)) (map_append (pushed_of (λ s. 0)) us (v ∷ []))
    ∙ map_append (value false) (map (pushed_of (λ s. 0)) us) (pushed_of (λ s. 0) v ∷ []))
    ∙ reverse-append (value true (pushed_of (λ s. 0) u) ∷ map (value false) (map (pushed_of (λ s. 0)) us)) (value false (pushed_of (λ s. 0) v) ∷ [])

-- an empty Push stays, so where there is none each later value has its Push
module _ (r : References) where
  later_shapes : (v : Pushed) (is : List Item) → All Filled (extended (value_of r v) is) →
      All Filled is × (shapes (extended (value_of r v) is) ≡ value false (value_shape v) ∷ shapes is)
  later_shapes v [] h = absurd h.0
  later_shapes v (Item.action (Action.push []) ∷ is) h = absurd h.0
  later_shapes v (Item.action (Action.push (u ∷ us)) ∷ is) h =
      ((tt, h.1), ap (λ (x : List Piece). x ++ shapes is) (more_shapes u us (value_of r v)) ∙ rw (value_shape_is r v))
  later_shapes v (Item.action (Action.plain p) ∷ is) h = absurd h.0
  later_shapes v (Item.action (Action.branch b l) ∷ is) h = absurd h.0
  later_shapes v (Item.action (Action.define x n) ∷ is) h = absurd h.0
  later_shapes v (Item.mark l ∷ is) h = absurd h.0

  added_shapes : (p : Piece) (is : List Item) → All Filled (added r p is) → All Filled is × (shapes (added r p is) ≡ shape p ∷ shapes is)
  added_shapes (op o) is h = (h.1, refl)
  added_shapes (ConstantPool n) is h = (h.1, refl)
  added_shapes (StoreRegister n) is h = (h.1, refl)
  added_shapes (GotoFrame n) is h = (h.1, refl)
  added_shapes (GotoLabel s) is h = (h.1, refl)
  added_shapes (GotoFrame2 q) is h = (h.1, refl)
  added_shapes (branch b l) is h = (h.1, refl)
  added_shapes (function n f) is h = (h.1, refl)
  added_shapes (mark l) is h = (h.1, refl)
  added_shapes (value true v) is h = (h.1, rw (value_shape_is r v))
  added_shapes (value false v) is h = later_shapes v is h

  -- the pieces of a list without an empty Push are its items', but for the references
  pub only_references : (ps : List Piece) → All Filled (gathered r ps) → map shape ps ≡ shapes (gathered r ps)
  unfolding gathered
  only_references [] h = refl
  only_references (p ∷ ps) h =
      let a = added_shapes p (gathered r ps) h in
      ap (λ (x : List Piece). shape p ∷ x) (only_references ps a.0) ∙ sym a.1

-- a value that joins a Push is a later one, and lowering joins alike
pub joins_later : (v u : Value) (us : List Value) (is : List Item) →
    extended v (Item.action (Action.push (u ∷ us)) ∷ is) ≡ join v (Item.action (Action.push (u ∷ us)) ∷ is)
joins_later v u us is = refl

pub begins_push : (v : Value) (is : List Item) → ends_in_push is ≡ false → Item.action (Action.push (v ∷ [])) ∷ is ≡ join v is
begins_push v [] h = refl
begins_push v (Item.action (Action.push vs) ∷ is) h = absurd (true≢false h)
begins_push v (Item.action (Action.plain p) ∷ is) h = refl
begins_push v (Item.action (Action.branch b l) ∷ is) h = refl
begins_push v (Item.action (Action.define x n) ∷ is) h = refl
begins_push v (Item.mark l ∷ is) h = refl

-- list by list

all_aux : (xs ys : List Item) → All Filled xs → All Filled ys → All Filled (reverse_aux xs ys)
all_aux [] ys h k = k
all_aux (x ∷ xs) ys h k = all_aux xs (x ∷ ys) h.1 (h.0, k)

all_last : (ls : List (List Item)) (xs : List Item) → All (All Filled) ls → All Filled xs → All (All Filled) (ls ++ (xs ∷ []))
all_last [] xs h k = (k, tt)
all_last (l ∷ ls) xs h k = (h.0, all_last ls xs h.1 k)

all_finishing : (ls : List (List Item)) → All (All Filled) ls → All (All Filled) (finishing ls)
all_finishing [] h = tt
all_finishing (top ∷ fs) h = all_last fs top h.1 h.0

list_shapes : (r : References) (ps : List Piece) → All Filled (items_of r ps) → map shape ps ≡ shapes (reverse (items_of r ps))
unfolding items_of
list_shapes r ps h =
    let back = reverse-reverse (gathered r ps) in
    rw back (only_references r ps (rw back at (all_aux (reverse (gathered r ps)) [] h tt)))

lists_shapes : (r : References) (pss : List (List Piece)) → All (All Filled) (map (items_of r) pss) → map (map shape) pss ≡ map (λ (is : List Item). shapes (reverse is)) (map (items_of r) pss)
lists_shapes r [] h = refl
lists_shapes r (ps ∷ pss) h = rw (list_shapes r ps h.0, lists_shapes r pss h.1)

pub shapes_of : {limits : Limits} {F : List ℕ} {lists : List (List Item)} {w : List ℕ} (h : Holds limits F lists w) → All (All Filled) lists →
    map (map shape) h.pieces ≡ map (λ (is : List Item). shapes (reverse is)) (finishing lists)
shapes_of {F = F} {lists} h f = lists_shapes (in_file F h.pool) h.pieces (rw h.reads (all_finishing lists f)) ∙ ap (map (λ (is : List Item). shapes (reverse is))) h.reads

-- two slices of the same lists differ in references only
pub same_shapes : {limits : Limits} {F : List ℕ} {lists : List (List Item)} {w w' : List ℕ} (h : Holds limits F lists w) (h' : Holds limits F lists w') → All (All Filled) lists →
    map (map shape) h.pieces ≡ map (map shape) h'.pieces
same_shapes h h' f = shapes_of h f ∙ sym (shapes_of h' f)
