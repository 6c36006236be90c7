-- With its bytes, the pieces of a read slice say the lists: each position is that of its record or string.
use Prim.Native.Nat.{ℕ, suc, ◌+◌, ◌<◌}
use mathlib.Core.Path.{◌≡◌, refl, sym, ap, ◌∙◌}
use mathlib.Core.List.{List, [], ◌∷◌, ◌++◌, map, reverse, reverse_aux, append_assoc, reverse-reverse}
use lib.Dec.{T}
use lib.ListN.{length, drop, length-map}
use lib.Seq.{drop-append_seam}
use Rattle.pcode.specs.Pcode.{Value, Plain, Action, Item}
use Rattle.action_format.specs.Lists.{Lists, all_lists, Single, simple, pushing, branching, single}
use Rattle.action_format.specs.Rules.{Limits, OfLowering, fits, filled, pool_count}
use Rattle.action_format.specs.Code.{Code, end, act, fun, code, flat}
use Rattle.action_format.specs.Bytes.{Bytes, word, zero_ended, join, value_bytes, single_bytes, single_data, header_bytes, code_bytes}
use Rattle.action_format.specs.Offsets.{sizes, single_offset, offsets, by_offset}
use Rattle.action_format.specs.Encode.{short, bytes, encode}
use Rattle.action_format.proofs.Tests.{All, and_first}
use Rattle.action_format.proofs.Readers.{string_law}
use Rattle.action_format.proofs.Values.{ValueOk, first_string}
use Rattle.action_format.proofs.Records.{SingleOk, single_law, header_law}
use Rattle.action_format.proofs.Bodies.{CodeOk, short_single, short_next, short_header, short_count, short_body, short_rest}
use Rattle.action_format.proofs.Offsets.{same_size, same_length}
use Rattle.action_format.proofs.Rules.{Every, every_code}
use Rattle.action_format.proofs.Numbers.{flat_nest}
use Rattle.action_format.proofs.Complete.{encoded, operands, readable}
use Rattle.list_slice.specs.Entry.{Piece}
use Rattle.list_slice.specs.Items.{References, pushed_of, value_of, item_pieces, gathered, items_of}
use Rattle.list_slice.specs.Compiled.{finishing}
use Rattle.list_slice.specs.Read.{Placed, PlacedLists, body_at_code, after_body, placed, values_from, chosen_at, placed_in_order, all_placed, pieces_read, in_bytes}
use Rattle.list_slice.proofs.Areas.{drop_more}
use Rattle.list_slice.proofs.ReadingBack.{Filled, Resolves, plain_resolves, item_says, says_more}

abbrev acting : Placed → Item
acting a = Item.action a.action

abbrev ResolvesAt : References → Placed → Type 0
ResolvesAt r a = Resolves r (chosen_at a.position) (acting a)

-- what resolves is said

placed_says : (r : References) (xs : List Placed) → All (ResolvesAt r) xs → (before : List Piece) →
    gathered r (reverse_aux (placed_in_order xs) before) ≡ reverse_aux (map acting xs) (gathered r before)
unfolding placed_in_order
placed_says r [] h before = refl
placed_says r (a ∷ xs) h before =
    says_more r (item_pieces (chosen_at a.position) (acting a)) (acting a) (item_says r (chosen_at a.position) (acting a) h.0)
    (placed_in_order xs) (map acting xs) (placed_says r xs h.1) before

list_said : (r : References) (xs : List Placed) → All (ResolvesAt r) xs → items_of r (reverse (placed_in_order xs)) ≡ map acting xs
unfolding items_of gathered
list_said r xs h = ap reverse (placed_says r xs h []) ∙ reverse-reverse (map acting xs)

lists_said : (r : References) (ls : List (List Placed)) → All (All (ResolvesAt r)) ls →
    map (items_of r) (map (λ (xs : List Placed). reverse (placed_in_order xs)) ls) ≡ map (map acting) ls
lists_said r [] h = refl
lists_said r (xs ∷ ls) h = rw (list_said r xs h.0, lists_said r ls h.1)

-- the actions are those of the lists

pub map_append : {A B : Type 0} (f : A → B) (xs ys : List A) → map f (xs ++ ys) ≡ map f xs ++ map f ys
map_append f [] ys = refl
map_append {B = B} f (x ∷ xs) ys = ap (λ (r : List B). f x ∷ r) (map_append f xs ys)

abbrev pub actions : List Placed → List Action
actions = map (λ (a : Placed). a.action)

pub placed_flat : (n p : ℕ) (c : Code) → (actions (placed n p c).own ≡ (flat n c).own) × (map actions (placed n p c).lists ≡ (flat n c).lists)
unfolding placed
placed_flat n p end = (refl, refl)
placed_flat n p (act a c) =
    let h = placed_flat n (p + length (single_bytes a)) c in
    (ap (λ (r : List Action). single a ∷ r) h.0, h.1)
placed_flat n p (fun x b c) =
    let inner = placed n (body_at_code p x b) b in
    let h = placed_flat n (body_at_code p x b) b in
    let k = suc (n + length inner.lists) in
    let k' = suc (n + length (flat n b).lists) in
    let same : k ≡ k' = ap (λ (m : ℕ). suc (n + m)) (sym (length-map inner.lists actions) ∙ ap length h.1) in
    let g = placed_flat k (after_body p x b) c in (
      ap (λ (r : List Action). Action.define x k ∷ r) g.0 ∙ ap (λ (m : ℕ). Action.define x m ∷ (flat m c).own) same,
      map_append actions inner.lists (inner.own ∷ (placed k (after_body p x b) c).lists)
          ∙ ap (λ (r : List (List Action)). r ++ (actions inner.own ∷ map actions (placed k (after_body p x b) c).lists)) h.1
          ∙ ap (λ (r : List Action). (flat n b).lists ++ (r ∷ map actions (placed k (after_body p x b) c).lists)) h.0
          ∙ ap (λ (r : List (List Action)). (flat n b).lists ++ ((flat n b).own ∷ r)) (g.1 ∙ ap (λ (m : ℕ). (flat m c).lists) same),
    )

acting_actions : (xs : List Placed) → map acting xs ≡ map Item.action (actions xs)
acting_actions [] = refl
acting_actions (a ∷ xs) = ap (λ (r : List Item). acting a ∷ r) (acting_actions xs)

acting_lists : (ls : List (List Placed)) → map (map acting) ls ≡ map (map Item.action) (map actions ls)
acting_lists [] = refl
acting_lists (xs ∷ ls) = rw (acting_actions xs, acting_lists ls)

all_acting : (x : PlacedLists) (l : Lists) → actions x.own ≡ l.top → map actions x.lists ≡ l.functions →
    map (map acting) (all_placed x) ≡ finishing (map (map Item.action) (all_lists l))
all_acting x l e f = rw (map_append (map acting) x.lists (x.own ∷ []), acting_lists x.lists, acting_actions x.own, e, f)

-- what stands at a position

further : (b : Bytes) (p k : ℕ) (x y : Bytes) → drop p b ≡ x ++ y → length x ≡ k → drop (p + k) b ≡ y
further b p k x y e h = drop_more p k b ∙ ap (drop k) e ∙ rw (← h) (drop-append_seam x y)

module _ (b : Bytes) where
  abbrev r : References
  r = in_bytes b

  value_resolves : (p : ℕ) (v : Value) (y : Bytes) → drop p b ≡ value_bytes v ++ y → ValueOk v → value_of r (pushed_of (λ s. p + 1) v) ≡ v
  value_resolves p (Value.String s) y e k =
      rw (further b p 1 (0 ∷ []) (zero_ended s ++ y) e refl, string_law s y (first_string s k.no_zeros))
  value_resolves p Value.Null y e k = refl
  value_resolves p Value.Undefined y e k = refl
  value_resolves p Value.True y e k = refl
  value_resolves p Value.False y e k = refl
  value_resolves p (Value.Integer v) y e k = refl
  value_resolves p (Value.Float v) y e k = refl
  value_resolves p (Value.Register n) y e k = refl
  value_resolves p (Value.Constant i) y e k = refl

  values_resolve : (p : ℕ) (vs : List Value) (y : Bytes) → drop p b ≡ join value_bytes vs ++ y → All ValueOk vs → map (value_of r) (values_from p vs) ≡ vs
  unfolding values_from
  values_resolve p [] y e k = refl
  values_resolve p (v ∷ vs) y e k =
      let e' = e ∙ append_assoc (value_bytes v) (join value_bytes vs) y in
      rw (
        value_resolves p v (join value_bytes vs ++ y) e' k.0,
        values_resolve (p + length (value_bytes v)) vs y (further b p (length (value_bytes v)) (value_bytes v) (join value_bytes vs ++ y) e' refl) k.1,
      )

  values_filled : (p : ℕ) (vs : List Value) → T (filled vs) → Filled (values_from p vs)
  unfolding values_from
  values_filled p [] h = absurd h
  values_filled p (v ∷ vs) h = tt

  plain_resolved : (p : ℕ) (a : Plain) (y : Bytes) → drop p b ≡ single_bytes (simple a) ++ y → SingleOk (simple a) → length (single_data (simple a)) < 65536 → plain_resolves r (chosen_at p) a
  unfolding word
  plain_resolved p (Plain.GotoLabel s) y e k l =
      let head : Bytes = 0x8C ∷ word 2 (length (zero_ended s)) in
      rw (further b p 3 head (zero_ended s ++ y) e refl, string_law s y (first_string s k.1))
  plain_resolved p (Plain.ConstantPool ss) y e k l = rw (e, single_law (simple (Plain.ConstantPool ss)) y k l)
  plain_resolved p (Plain.op o) y e k l = tt
  plain_resolved p (Plain.StoreRegister n) y e k l = tt
  plain_resolved p (Plain.GotoFrame n) y e k l = tt
  plain_resolved p (Plain.GotoFrame2 q) y e k l = tt

  single_resolved : (ss : List ℕ) (i p pool n : ℕ) (a : Single) (y : Bytes) → drop p b ≡ single_bytes (single_offset ss i a) ++ y → SingleOk (single_offset ss i a) →
      length (single_data a) < 65536 → T (fits pool n (single a)) → Resolves r (chosen_at p) (Item.action (single a))
  unfolding word
  single_resolved ss i p pool n (simple a) y e k l f = plain_resolved p a y e k l
  single_resolved ss i p pool n (pushing vs) y e k l f =
      let head : Bytes = 0x96 ∷ word 2 (length (join value_bytes vs)) in
      (values_filled (p + 3) vs (and_first (filled vs) _ f), values_resolve (p + 3) vs y (further b p 3 head (join value_bytes vs ++ y) e refl) k)
  single_resolved ss i p pool n (branching x q) y e k l f = tt

  abbrev AllResolved : PlacedLists → Type 0
  AllResolved x = All (ResolvesAt r) x.own × All (All (ResolvesAt r)) x.lists

  all_both : (xs : List (List Placed)) (ys : List (List Placed)) → All (All (ResolvesAt r)) xs → All (All (ResolvesAt r)) ys → All (All (ResolvesAt r)) (xs ++ ys)
  all_both [] ys h k = k
  all_both (x ∷ xs) ys h k = (h.0, all_both xs ys h.1 k)

  resolved : (ss : List ℕ) (i n p pool m : ℕ) (c : Code) (y : Bytes) → drop p b ≡ code_bytes (offsets ss i c) ++ y → CodeOk (offsets ss i c) →
      Every (fits pool) m c → T (short c) → AllResolved (placed n p c)
  unfolding placed code_bytes
  resolved ss i n p pool m end y e k f s = (tt, tt)
  resolved ss i n p pool m (act a c) y e k f s =
      let x = single_bytes (single_offset ss i a) in
      let next = code_bytes (offsets ss (suc i) c) ++ y in
      let e' = e ∙ append_assoc x (code_bytes (offsets ss (suc i) c)) y in
      let h = resolved ss (suc i) n (p + length (single_bytes a)) pool m c y (further b p (length (single_bytes a)) x next e' (same_size ss i a)) k.1 f.1 (short_next a c s) in
      ((single_resolved ss i p pool m a next e' k.0 (short_single a c s) f.0, h.0), h.1)
  resolved ss i n p pool m (fun x d c) y e k f s =
      let d' = offsets (sizes d) 0 d in
      let long : length (code_bytes d') ≡ length (code_bytes d) = same_length (sizes d) 0 d in
      let head = header_bytes x (length (code_bytes d)) in
      let last = code_bytes (offsets ss (suc i) c) ++ y in
      let e₁ : drop p b ≡ head ++ (code_bytes d' ++ last) =
      (rw long at e) ∙ append_assoc head (code_bytes d' ++ code_bytes (offsets ss (suc i) c)) y ∙ ap (λ (z : Bytes). head ++ z) (append_assoc (code_bytes d') (code_bytes (offsets ss (suc i) c)) y) in
      let e₂ = further b p (length head) head (code_bytes d' ++ last) e₁ refl in
      let inner = placed n (body_at_code p x d) d in
      let h = resolved (sizes d) 0 n (body_at_code p x d) pool (length (sizes d)) d last e₂ k.1 f.1 (short_body x d c s) in
      let g = resolved ss (suc i) (suc (n + length inner.lists)) (after_body p x d) pool m c y (further b (body_at_code p x d) (length (code_bytes d)) (code_bytes d') last e₂ long) k.2 f.2 (short_rest x d c s) in (
        (rw (e₁, header_law x (length (code_bytes d)) (code_bytes d' ++ last) k.0 (short_header x d c s) (short_count x d c s)), g.0),
        all_both inner.lists _ h.1 (h.0, g.1),
      )

-- lists that were encoded are what their words say with their bytes
pub read_says : (limits : Limits) (l : Lists) → OfLowering limits l → (room : ℕ) (b : Bytes) → encode l room ≡ bytes b →
    map (items_of (in_bytes b)) (pieces_read l) ≡ finishing (map (map Item.action) (all_lists l))
unfolding pieces_read
read_says limits l h room b e =
    let x = encoded l room b e in
    let c = code l in
    let e₀ : drop 0 b ≡ code_bytes (by_offset c) ++ (0 ∷ []) = sym x.bytes_are in
    let a = resolved b (sizes c) 0 0 0 (pool_count l) (length (sizes c)) c (0 ∷ []) e₀ (readable limits l h x.no_zeros x.is_short)
    (every_code (fits (pool_count l)) l (operands limits l h)) x.is_short in
    let ls = placed 0 0 c in
    let same = flat_nest l h.numbered in
    let f = placed_flat 0 0 c in
    lists_said (in_bytes b) (all_placed ls) (all_both b ls.lists (ls.own ∷ []) a.1 (a.0, tt))
    ∙ all_acting ls l (f.0 ∙ ap (λ (z : Lists). z.top) same) (f.1 ∙ ap (λ (z : Lists). z.functions) same)
