-- The pieces of a list say its items, if the references resolve to what they were chosen for.
use mathlib.Core.Path.{◌≡◌, refl, sym, ap, ◌∙◌}
use mathlib.Core.List.{List, [], ◌∷◌, ◌++◌, map, reverse, reverse_aux, append_assoc, append-nil, reverse-reverse, reverse_aux-append}
use mathlib.Core.Bool.{true, false}
use Rattle.pcode.specs.Pcode.{Value, Plain, Action, Item}
use Rattle.list_slice.specs.Entry.{Pushed, Piece, value}
use Rattle.list_slice.specs.Items.{Chosen, References, push_pieces, item_pieces, in_order, pieces_of, value_of, extended, gathered, items_of}

-- after any pieces, these say one item more
pub Says : References → List Piece → Item → Type 0
Says r ps i = (before : List Piece) → gathered r (reverse_aux ps before) ≡ i ∷ gathered r before

-- later values join the Push
later_say : (r : References) (vs : List Pushed) (u : Value) (us : List Value) (is : List Item) (before : List Piece) → gathered r before ≡ Item.action (Action.push (u ∷ us)) ∷ is →
    gathered r (reverse_aux (map (value false) vs) before) ≡ Item.action (Action.push (u ∷ (us ++ map (value_of r) vs))) ∷ is
unfolding gathered
later_say r [] u us is before e = e ∙ ap (λ (x : List Value). Item.action (Action.push (u ∷ x)) ∷ is) (sym (append-nil us))
later_say r (v ∷ vs) u us is before e =
    later_say r vs u (us ++ (value_of r v ∷ [])) is (value false v ∷ before) (ap (extended (value_of r v)) e)
    ∙ ap (λ (x : List Value). Item.action (Action.push (u ∷ x)) ∷ is) (append_assoc us (value_of r v ∷ []) (map (value_of r) vs))

push_says : (r : References) (v : Pushed) (vs : List Pushed) → Says r (push_pieces (v ∷ vs)) (Item.action (Action.push (map (value_of r) (v ∷ vs))))
unfolding Says gathered
push_says r v vs before = later_say r vs (value_of r v) [] (gathered r before) (value true v ∷ before) refl

-- the references chosen for an item resolve to it; a Push has a value

abbrev pub plain_resolves : References → Chosen → Plain → Type 0
plain_resolves r c (Plain.GotoLabel s) = r.text (c.text s) ≡ s
plain_resolves r c (Plain.ConstantPool ss) = r.strings (c.strings ss) ≡ ss
plain_resolves r c (Plain.op o) = Unit
plain_resolves r c (Plain.StoreRegister n) = Unit
plain_resolves r c (Plain.GotoFrame n) = Unit
plain_resolves r c (Plain.GotoFrame2 p) = Unit

abbrev pub Filled : {A : Type 0} → List A → Type 0
Filled [] = ⊥
Filled (x ∷ xs) = Unit

abbrev pub Resolves : References → Chosen → Item → Type 0
Resolves r c (Item.action (Action.plain p)) = plain_resolves r c p
Resolves r c (Item.action (Action.push vs)) = Filled (c.values vs) × (map (value_of r) (c.values vs) ≡ vs)
Resolves r c (Item.action (Action.branch b l)) = Unit
Resolves r c (Item.action (Action.define h n)) = r.header (c.header h n) ≡ h
Resolves r c (Item.mark l) = Unit

pushed_say : (r : References) (ps : List Pushed) (vs : List Value) → Filled ps → map (value_of r) ps ≡ vs → Says r (push_pieces ps) (Item.action (Action.push vs))
pushed_say r [] vs h e = absurd h
pushed_say r (p ∷ ps) vs h e = rw (← e) (push_says r p ps)

plain_says : (r : References) (c : Chosen) (p : Plain) → plain_resolves r c p → Says r (item_pieces c (Item.action (Action.plain p))) (Item.action (Action.plain p))
unfolding Says gathered
plain_says r c (Plain.GotoLabel s) h before = rw h
plain_says r c (Plain.ConstantPool ss) h before = rw h
plain_says r c (Plain.op o) h before = refl
plain_says r c (Plain.StoreRegister n) h before = refl
plain_says r c (Plain.GotoFrame n) h before = refl
plain_says r c (Plain.GotoFrame2 p) h before = refl

pub item_says : (r : References) (c : Chosen) (i : Item) → Resolves r c i → Says r (item_pieces c i) i
unfolding Says gathered
item_says r c (Item.action (Action.plain p)) h before = plain_says r c p h before
item_says r c (Item.action (Action.push vs)) h before = pushed_say r (c.values vs) vs h.0 h.1 before
item_says r c (Item.action (Action.branch b l)) h before = refl
item_says r c (Item.action (Action.define hd n)) h before = rw h
item_says r c (Item.mark l) h before = refl

abbrev pub AllResolve : References → Chosen → List Item → Type 0
AllResolve r c [] = Unit
AllResolve r c (i ∷ is) = Resolves r c i × AllResolve r c is

-- one more item, then the others
pub says_more : (r : References) (ps : List Piece) (i : Item) → Says r ps i → (rest : List Piece) (is : List Item) →
    ((before : List Piece) → gathered r (reverse_aux rest before) ≡ reverse_aux is (gathered r before)) →
    (before : List Piece) → gathered r (reverse_aux (ps ++ rest) before) ≡ reverse_aux (i ∷ is) (gathered r before)
unfolding Says
says_more r ps i s rest is h before = ap (gathered r) (reverse_aux-append ps rest before) ∙ h (reverse_aux ps before) ∙ ap (reverse_aux is) (s before)

in_order_says : (r : References) (c : Chosen) (is : List Item) → AllResolve r c is → (before : List Piece) → gathered r (reverse_aux (in_order c is) before) ≡ reverse_aux is (gathered r before)
unfolding in_order
in_order_says r c [] h before = refl
in_order_says r c (i ∷ is) h before = says_more r (item_pieces c i) i (item_says r c i h.0) (in_order c is) is (in_order_says r c is h.1) before

pub items_back : (r : References) (c : Chosen) (is : List Item) → AllResolve r c is → items_of r (pieces_of c is) ≡ is
unfolding items_of pieces_of gathered
items_back r c is h = ap reverse (in_order_says r c is h []) ∙ reverse-reverse is
