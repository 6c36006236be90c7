-- The pieces of a list, and the list that pieces say, given how references resolve.
use Rattle.std.specs.Prelude.{ℕ, List, [], ◌∷◌, ◌++◌, map, reverse, Bool, true, false}
use Rattle.hir.specs.Hir.{Str}
use Rattle.pcode.specs.Pcode.{Value, Plain, Header, Action, Item}
use Rattle.list_slice.specs.Entry.{Pushed, Piece, Null, Undefined, Boolean, String, Register, Float, Integer, Constant, op, ConstantPool, StoreRegister, GotoFrame, GotoLabel, GotoFrame2, branch, function, mark, value}

-- the references that stand for a GotoLabel's string, a pool, a function and a Push's values
pub record Chosen : Type 0 where
  pub text : Str → ℕ
  pub strings : List Str → ℕ
  pub header : Header → (list : ℕ) → ℕ
  pub values : List Value → List Pushed

abbrev pub pushed_of : (Str → ℕ) → Value → Pushed
pushed_of text (Value.String s) = String (text s)
pushed_of text Value.Null = Null
pushed_of text Value.Undefined = Undefined
pushed_of text Value.True = Boolean true
pushed_of text Value.False = Boolean false
pushed_of text (Value.Integer v) = Integer v
pushed_of text (Value.Float v) = Float v
pushed_of text (Value.Register r) = Register r
pushed_of text (Value.Constant i) = Constant i

-- two Push actions may stand side by side: the first value of each says that a Push begins
abbrev pub push_pieces : List Pushed → List Piece
push_pieces [] = []
push_pieces (v ∷ vs) = value true v ∷ map (value false) vs

abbrev pub plain_piece : Chosen → Plain → Piece
plain_piece c (Plain.op o) = op o
plain_piece c (Plain.ConstantPool ss) = ConstantPool (c.strings ss)
plain_piece c (Plain.StoreRegister r) = StoreRegister r
plain_piece c (Plain.GotoFrame n) = GotoFrame n
plain_piece c (Plain.GotoFrame2 p) = GotoFrame2 p
plain_piece c (Plain.GotoLabel s) = GotoLabel (c.text s)

abbrev pub action_pieces : Chosen → Action → List Piece
action_pieces c (Action.plain p) = plain_piece c p ∷ []
action_pieces c (Action.push vs) = push_pieces (c.values vs)
action_pieces c (Action.branch b l) = branch b l ∷ []
action_pieces c (Action.define h n) = function n (c.header h n) ∷ []

abbrev pub item_pieces : Chosen → Item → List Piece
item_pieces c (Item.action a) = action_pieces c a
item_pieces c (Item.mark l) = mark l ∷ []

unfoldable pub in_order : Chosen → List Item → List Piece
in_order c [] = []
in_order c (i ∷ is) = item_pieces c i ++ in_order c is

-- a list stands with its last piece first
unfoldable pub pieces_of : Chosen → List Item → List Piece
pieces_of c is = reverse (in_order c is)

-- what references name: a string, a pool, a function
pub record References : Type 0 where
  pub text : ℕ → Str
  pub strings : ℕ → List Str
  pub header : ℕ → Header

abbrev pub truth : Bool → Value
truth true = Value.True
truth false = Value.False

abbrev pub value_of : References → Pushed → Value
value_of r (String s) = Value.String (r.text s)
value_of r Null = Value.Null
value_of r Undefined = Value.Undefined
value_of r (Boolean b) = truth b
value_of r (Integer v) = Value.Integer v
value_of r (Float v) = Value.Float v
value_of r (Register n) = Value.Register n
value_of r (Constant i) = Value.Constant i

abbrev pub plain : Plain → Item
plain p = Item.action (Action.plain p)

-- a later value joins the Push before it; where there is none, an empty Push says so, which no list has

abbrev pub empty_push : Item
empty_push = Item.action (Action.push [])

abbrev pub with_value : Value → List Value → Item
with_value v [] = empty_push
with_value v (u ∷ us) = Item.action (Action.push (u ∷ (us ++ (v ∷ []))))

abbrev pub extended : Value → List Item → List Item
extended v [] = empty_push ∷ []
extended v (Item.action (Action.push us) ∷ is) = with_value v us ∷ is
extended v (Item.action (Action.plain p) ∷ is) = empty_push ∷ Item.action (Action.plain p) ∷ is
extended v (Item.action (Action.branch b l) ∷ is) = empty_push ∷ Item.action (Action.branch b l) ∷ is
extended v (Item.action (Action.define h n) ∷ is) = empty_push ∷ Item.action (Action.define h n) ∷ is
extended v (Item.mark l ∷ is) = empty_push ∷ Item.mark l ∷ is

-- a piece after a list's items, the last item first
abbrev pub added : References → Piece → List Item → List Item
added r (op o) is = plain (Plain.op o) ∷ is
added r (ConstantPool n) is = plain (Plain.ConstantPool (r.strings n)) ∷ is
added r (StoreRegister n) is = plain (Plain.StoreRegister n) ∷ is
added r (GotoFrame n) is = plain (Plain.GotoFrame n) ∷ is
added r (GotoLabel s) is = plain (Plain.GotoLabel (r.text s)) ∷ is
added r (GotoFrame2 p) is = plain (Plain.GotoFrame2 p) ∷ is
added r (branch b l) is = Item.action (Action.branch b l) ∷ is
added r (function n f) is = Item.action (Action.define (r.header f) n) ∷ is
added r (mark l) is = Item.mark l ∷ is
added r (value true v) is = Item.action (Action.push (value_of r v ∷ [])) ∷ is
added r (value false v) is = extended (value_of r v) is

-- the items that pieces say, both with the last one first
unfoldable pub gathered : References → List Piece → List Item
gathered r [] = []
gathered r (p ∷ ps) = added r p (gathered r ps)

unfoldable pub items_of : References → List Piece → List Item
items_of r ps = reverse (gathered r ps)
