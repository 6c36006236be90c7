-- `builder.rs`, `constants.rs` and the labels of `context.rs`: a step takes a state to a value and the next state, or is refused.
use Rattle.std.specs.Prelude.{ℕ, zero, suc, ◌+◌, ◌-◌, List, [], ◌∷◌, ◌++◌, Bool, true, false, ◌&&◌, ltb, leb, eqb, length, get_or, set}
use Rattle.std.proofs.Math.Option.{Option, none, some}
use Rattle.hir.specs.Hir.{Str}
use Rattle.pcode.specs.declared.Op.{Op}
use Rattle.pcode.specs.declared.Op.TheVariants.{Pop}
use Rattle.pcode.specs.Pcode.{Value, Plain, Header, Action, Item, Delta, up, moved, row_of, DefineFunction, DefineFunction2}
use Rattle.special_properties.specs.SpecialProperties.{same_bytes}
use Rattle.lowering.specs.Strings.{find}

-- how many actions (the pool is the first), push values and labels a script may have
pub record Limits : Type 0 where
  pub actions : ℕ
  pub values : ℕ
  pub labels : ℕ

abbrev pub limits01 : Limits
limits01 = record { actions = 1024; values = 2048; labels = 1024 }

-- the list under construction, the last item first, and the tracked stack size
pub record Builder : Type 0 where
  pub items : List Item
  pub size : ℕ

-- labels: for each one made, 1 if it is marked; actions and values: how many there are, over all lists;
-- constants: the pool; tag-length: its 16-bit total; lists: the finished ones, in order, each with its last item first
pub record State : Type 0 where
  pub limits : Limits
  pub labels : List ℕ
  pub actions : ℕ
  pub values : ℕ
  pub constants : List Str
  pub tag_length : ℕ
  pub lists : List (List Item)
  pub builder : Builder

-- a refusal keeps the state in which it was given: what its number promises can be read there
pub data Result (A : Type 0) : Type 0 where
  ok : A → State → Result A
  refused : (number : ℕ) → State → Result A

abbrev pub M : Type 0 → Type 0
M A = State → Result A

abbrev pub Step : Type 0
Step = M (Unit {0})

infixl 20 ◌>>=◌
infixl 20 ◌>>◌
abbrev pub bind : {A B : Type 0} → Result A → (A → M B) → Result B
bind (ok a s) f = f a s
bind (refused n s) f = refused n s

unfoldable pub ◌>>=◌ : {A B : Type 0} → M A → (A → M B) → M B
◌>>=◌ m f s = bind (m s) f

unfoldable pub ◌>>◌ : {B : Type 0} → Step → M B → M B
◌>>◌ m k s = bind (m s) (λ _. k)

unfoldable pub pure : {A : Type 0} → A → M A
pure a s = ok a s

unfoldable pub refuse : {A : Type 0} → ℕ → M A
refuse n s = refused n s

abbrev pub done : Step
done = pure tt

abbrev pub when : Bool → Step → Step
when true m = m
when false m = done

-- a result if the test passes, else the refusal n
abbrev pub allow : {A : Type 0} → Bool → ℕ → State → Result A → Result A
allow true n s r = r
allow false n s r = refused n s

-- the next states

abbrev pub with_items : List Item → (size actions values : ℕ) → State → State
with_items is size n v s = record {
  limits = s.limits;
  labels = s.labels;
  actions = s.actions + n;
  values = s.values + v;
  constants = s.constants;
  tag_length = s.tag_length;
  lists = s.lists;
  builder = record { items = is; size = size };
}

abbrev pub with_labels : List ℕ → State → State
with_labels ls s = record {
  limits = s.limits;
  labels = ls;
  actions = s.actions;
  values = s.values;
  constants = s.constants;
  tag_length = s.tag_length;
  lists = s.lists;
  builder = s.builder;
}

abbrev pub with_constants : List Str → ℕ → State → State
with_constants pool total s = record {
  limits = s.limits;
  labels = s.labels;
  actions = s.actions;
  values = s.values;
  constants = pool;
  tag_length = total;
  lists = s.lists;
  builder = s.builder;
}

-- context.rs

unfoldable pub create_label : M ℕ
create_label s = allow (ltb (length s.labels) s.limits.labels) 8 s (ok (length s.labels) (with_labels (s.labels ++ (0 ∷ [])) s))

-- builder.rs

unfoldable pub stack_size : M ℕ
stack_size s = ok s.builder.size s

unfoldable pub assume_stack_delta : Delta → Step
assume_stack_delta d s = ok tt (with_items s.builder.items (moved d s.builder.size) 0 0 s)

-- a label that is marked already, or was never made, is refused
abbrev pub mark_or : (number label : ℕ) → Step
mark_or n l s = allow (eqb (get_or s.labels l 1) 0) n s
    (ok tt (with_items (Item.mark l ∷ s.builder.items) s.builder.size 0 0 (with_labels (set s.labels l 1) s)))

-- at a label that is marked already the Rust panics: 24, which is no refusal of document 01 and which no script gets (`refusal_number`)
unfoldable pub mark_label : ℕ → Step
mark_label l = mark_or 24 l

-- the mark of a switch's Default: 6 if another Default has marked the label
unfoldable pub mark_default : ℕ → Step
mark_default l = mark_or 6 l

unfoldable pub action_with_stack_delta : Action → Delta → Step
action_with_stack_delta a d s = allow (ltb s.actions s.limits.actions) 8 s
    (ok tt (with_items (Item.action a ∷ s.builder.items) (moved d s.builder.size) 1 0 s))

abbrev pub plain_action : Plain → Delta → Step
plain_action p d = action_with_stack_delta (Action.plain p) d

abbrev pub action : Op → Step
action o = plain_action (Plain.op o) (row_of o).delta

-- a value joins the last item if that is a Push: a mark stands between them if a label is marked at the list's present end
abbrev pub ends_in_push : List Item → Bool
ends_in_push [] = false
ends_in_push (Item.action (Action.push vs) ∷ rest) = true
ends_in_push (Item.action (Action.plain p) ∷ rest) = false
ends_in_push (Item.action (Action.branch b l) ∷ rest) = false
ends_in_push (Item.action (Action.define h n) ∷ rest) = false
ends_in_push (Item.mark l ∷ rest) = false

abbrev pub join : Value → List Item → List Item
join v [] = Item.action (Action.push (v ∷ [])) ∷ []
join v (Item.action (Action.push vs) ∷ rest) = Item.action (Action.push (vs ++ (v ∷ []))) ∷ rest
join v (Item.action (Action.plain p) ∷ rest) = Item.action (Action.push (v ∷ [])) ∷ Item.action (Action.plain p) ∷ rest
join v (Item.action (Action.branch b l) ∷ rest) = Item.action (Action.push (v ∷ [])) ∷ Item.action (Action.branch b l) ∷ rest
join v (Item.action (Action.define h n) ∷ rest) = Item.action (Action.push (v ∷ [])) ∷ Item.action (Action.define h n) ∷ rest
join v (Item.mark l ∷ rest) = Item.action (Action.push (v ∷ [])) ∷ Item.mark l ∷ rest

abbrev pub push_joined : Value → State → Bool → Result (Unit {0})
push_joined v s true = ok tt (with_items (join v s.builder.items) (s.builder.size + 1) 0 1 s)
push_joined v s false = allow (ltb s.actions s.limits.actions) 8 s
    (ok tt (with_items (join v s.builder.items) (s.builder.size + 1) 1 1 s))

unfoldable pub push : Value → Step
push v s = allow (ltb s.values s.limits.values) 8 s (push_joined v s (ends_in_push s.builder.items))

abbrev pub pops : ℕ → Step
pops zero = done
pops (suc n) = action Pop >> pops n

-- pops down to an earlier size, and never pushes
abbrev pub truncate_stack : ℕ → Step
truncate_stack size = stack_size >>= λ now. pops (now - size)

-- constants.rs

-- the total with a string and its zero byte, and whether the string may join
abbrev pub potential_length : State → Str → ℕ
potential_length s str = s.tag_length + (length str + 1)

abbrev pub joins : State → Str → Bool
joins s str = leb (potential_length s str) 65535 && ltb (length s.constants) 65535

abbrev pub add_new : Str → State → Bool → Result Value
add_new str s true = ok (Value.Constant (length s.constants)) (with_constants (s.constants ++ (str ∷ [])) (potential_length s str) s)
add_new str s false = ok (Value.String str) s

abbrev pub add_found : Str → State → Option ℕ → Result Value
add_found str s (some i) = ok (Value.Constant i) s
add_found str s none = add_new str s (joins s str)

unfoldable pub add : Str → M Value
add str s = add_found str s (find (same_bytes str) 0 s.constants)

abbrev pub push_string : Str → Step
push_string str = add str >>= push

-- a function: its list from a new builder, and then, in the list before, the action that names it. The top list has the number 0

-- a function without a name leaves its value
abbrev pub name_delta : Str → Delta
name_delta [] = up 1
name_delta (c ∷ cs) = up 0

abbrev pub define_delta : Header → Delta
define_delta (DefineFunction name ps) = name_delta name
define_delta (DefineFunction2 name ps r m) = name_delta name

abbrev pub in_new_list : State → State
in_new_list s = record {
  limits = s.limits;
  labels = s.labels;
  actions = s.actions;
  values = s.values;
  constants = s.constants;
  tag_length = s.tag_length;
  lists = s.lists;
  builder = record { items = []; size = 0 };
}

abbrev pub defined : Header → Builder → State → State
defined h b s = record {
  limits = s.limits;
  labels = s.labels;
  actions = s.actions + 1;
  values = s.values;
  constants = s.constants;
  tag_length = s.tag_length;
  lists = s.lists ++ (s.builder.items ∷ []);
  builder = record { items = Item.action (Action.define h (suc (length s.lists))) ∷ b.items; size = moved (define_delta h) b.size };
}

abbrev pub close : Header → Builder → Result (Unit {0}) → Result (Unit {0})
close h b (ok a s) = allow (ltb s.actions s.limits.actions) 8 s (ok tt (defined h b s))
close h b (refused n s) = refused n s

unfoldable pub define_function : Header → Step → Step
define_function h body s = close h s.builder (body (in_new_list s))
