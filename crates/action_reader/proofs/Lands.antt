-- Offsets become places in positions as they do in the definition.
use Prim.Native.Nat.{ℕ, zero, suc, ◌+◌, ◌-◌, ◌≤◌, ◌<◌}
use mathlib.Core.Path.{◌≡◌, refl, sym, ap, ◌∙◌}
use mathlib.Core.List.{List, [], ◌∷◌, ◌++◌, map}
use mathlib.Core.Bool.{Bool, true, false, cond, ◌&&◌}
use mathlib.Core.Option
use mathlib.Core.Option.{Option, none, some}
use native.Mathlib.Omega.{arith}
use native.Mathlib.Nat.{add-zero}
use lib.Dec.{ltb, leb}
use Rattle.std.proofs.Math.Bool.{and_assoc}
use lib.ListN.{length, drop, length-append, length-map}
use borrow.Author.Tests.{eq-eqb, ne_eqb, ltb-true, ltb-false, leb-true, leb-false, le-leb}
use Rattle.pcode.specs.Pcode.{Branching, Jump, If}
use Rattle.action_format.specs.Lists.{Single, simple, pushing, branching, single, all}
use Rattle.action_format.specs.Code.{Code, end, act, fun}
use Rattle.action_format.specs.Bytes.{word, single_bytes, header_bytes, code_bytes}
use Rattle.action_format.specs.Offsets.{sizes, position, after_record, towards, moved, later, place_at_index, and_then, both, single_place, places}
use Rattle.action_format.specs.Readers.{given}
use Rattle.action_format.proofs.Tests.{All, never, some_of}
use Rattle.action_format.proofs.Bodies.{three}
use Rattle.action_format.proofs.Offsets.{sizes_fill}
use Rattle.list_slice.specs.Read.{Placed, at, body_at_code, after_body}
use Rattle.list_slice.proofs.Read.{map_append}
use Rattle.action_reader.specs.Walk.{Ended, ended_at, Spread, spread, spread_of, aim, aimable, seek, bounds, found, or_zero, fixed, sure, fixed_list, sure_list}
use Rattle.record_reader.proofs.Bools.{all_append}

-- the bounds of a list from byte p on, by the sizes of its actions
abbrev pub froms : ℕ → List ℕ → List ℕ
froms p [] = p ∷ []
froms p (s ∷ ss) = p ∷ froms (p + s) ss

pub bounds_are : (n p : ℕ) (c : Code) → bounds (ended_at (spread n p c).own (p + length (code_bytes c))) ≡ froms p (sizes c)
unfolding spread code_bytes
bounds_are n p end = ap (λ (q : ℕ). q ∷ []) (add-zero p)
bounds_are n p (act a c) =
    ap (λ (r : List ℕ). p ∷ r) (ap (λ (q : ℕ). map (λ (x : Placed). x.position) (spread n (p + length (single_bytes a)) c).own ++ (q ∷ [])) joined
    ∙ bounds_are n (p + length (single_bytes a)) c)
  where
    joined : p + length (single_bytes a ++ code_bytes c) ≡ p + length (single_bytes a) + length (code_bytes c)
    joined = rw (length-append (single_bytes a) (code_bytes c)) (omega arith)
bounds_are n p (fun h b c) =
    let k : ℕ = suc (n + length (spread n (body_at_code p h b) b).lists) in
    ap (λ (r : List ℕ). p ∷ r) (ap (λ (q : ℕ). map (λ (x : Placed). x.position) (spread k (after_body p h b) c).own ++ (q ∷ [])) joined
    ∙ bounds_are k (after_body p h b) c ∙ ap (λ (q : ℕ). froms q (sizes c)) whole)
  where
    joined : p + length (header_bytes h (length (code_bytes b)) ++ (code_bytes b ++ code_bytes c)) ≡ after_body p h b + length (code_bytes c)
    joined = rw (three (header_bytes h (length (code_bytes b))) (code_bytes b) (code_bytes c)) (omega arith)

    whole : after_body p h b ≡ p + (length (header_bytes h (length (code_bytes b))) + length (code_bytes b))
    whole = omega arith

-- seeking a byte

seek_below : (x p : ℕ) (ss : List ℕ) → x < p → seek x (froms p ss) ≡ none
unfolding seek
seek_below x p [] h = rw (ne_eqb x p (λ e. omega arith))
seek_below x p (s ∷ ss) h = rw (ne_eqb x p (λ e. omega arith), seek_below x (p + s) ss (omega arith))

seek_law : (p : ℕ) (ss : List ℕ) → All (λ n. 0 < n) ss → (t : ℕ) → place_at_index ss t ≡ seek (p + t) (froms p ss)
unfolding seek place_at_index
seek_law p [] h zero = rw (eq-eqb (p + 0) p (omega arith))
seek_law p [] h (suc t) = rw (ne_eqb (p + suc t) p (λ e. omega arith))
seek_law p (s ∷ ss) h zero = rw (eq-eqb (p + 0) p (omega arith))
seek_law p (s ∷ ss) h (suc t) = rw (ne_eqb (p + suc t) p (λ e. omega arith)) (go (leb s (suc t)) refl (seek_law (p + s) ss h.1 (suc t - s)))
  where
    go : (b : Bool) → leb s (suc t) ≡ b → place_at_index ss (suc t - s) ≡ seek (p + s + (suc t - s)) (froms (p + s) ss) → later b (place_at_index ss (suc t - s)) ≡ Option.map suc (seek (p + suc t) (froms (p + s) ss))
    go true q ih =
        let l : s ≤ suc t = leb-true s (suc t) q in
        let e : p + s + (suc t - s) ≡ p + suc t = omega arith in
        rw (ih, e)
    go false q ih = rw (seek_below (p + suc t) (p + s) ss (omega (arith, leb-false s (suc t) q)))

-- positions by sizes

position_next : (ss : List ℕ) (i s : ℕ) (rest : List ℕ) → drop i ss ≡ s ∷ rest → (position ss (suc i) ≡ position ss i + s) × (drop (suc i) ss ≡ rest)
unfolding position
position_next [] zero s rest e = absurd (let w : 0 ≡ suc (length rest) = ap length e in omega arith)
position_next [] (suc i) s rest e = absurd (let w : 0 ≡ suc (length rest) = ap length e in omega arith)
position_next (x ∷ ss) zero s rest e = let z : x ∷ ss ≡ s ∷ rest = e in (head z, tail z)
  where
    head : x ∷ ss ≡ s ∷ rest → x + 0 ≡ 0 + s
    head z = let q : x ≡ s = cc in omega arith

    tail : x ∷ ss ≡ s ∷ rest → ss ≡ rest
    tail z = cc
position_next (x ∷ ss) (suc i) s rest e =
    let k = position_next ss i s rest e in
    (omega (arith, k.0), k.1)

-- a branch's target

module _ (p0 : ℕ) (ss : List ℕ) (fill : All (λ n. 0 < n) ss) where
  abbrev ps : List ℕ
  ps = froms p0 ss

  abbrev pick : (p o : ℕ) → Option ℕ
  pick p o = seek (aim p o) ps

  forwards : (p after o : ℕ) → p + 5 ≡ p0 + after → and_then (towards after o true (ltb (after + o) 65536)) (place_at_index ss) ≡ seek (p + 5 + o) ps
  forwards p after o e = seek_law p0 ss fill (after + o) ∙ ap (λ (t : ℕ). seek t ps) (omega arith)

  backwards : (p after o : ℕ) → p + 5 ≡ p0 + after → (below : Bool) → ltb (after + o) 65536 ≡ below →
      and_then (towards after o false below) (place_at_index ss) ≡ given (leb 65536 (p + 5 + o)) (seek (p + 5 + o - 65536) ps)
  backwards p after o e true q = go (leb 65536 (p + 5 + o)) refl
    where
      go : (b : Bool) → leb 65536 (p + 5 + o) ≡ b → none ≡ given b (seek (p + 5 + o - 65536) ps)
      go true z = sym (seek_below (p + 5 + o - 65536) p0 ss (omega (arith, ltb-true (after + o) 65536 q, leb-true 65536 (p + 5 + o) z)))
      go false z = refl
  backwards p after o e false q =
      let h : 65536 ≤ after + o = ltb-false (after + o) 65536 q in
      rw (le-leb 65536 (p + 5 + o) (omega arith)) (seek_law p0 ss fill (after + o - 65536) ∙ ap (λ (t : ℕ). seek t ps) (omega arith))

  -- whether a branch has a place, and which
  target_law : (p after o : ℕ) → p + 5 ≡ p0 + after → and_then (moved after o) (place_at_index ss) ≡ given (aimable p o && found (pick p o)) (some (or_zero (pick p o)))
  target_law p after o e = go (ltb o 32768)
    where
      either : (z : Option ℕ) → z ≡ given (found z) (some (or_zero z))
      either none = refl
      either (some n) = refl

      kept : (b : Bool) (z : Option ℕ) → given b z ≡ given (b && found z) (some (or_zero z))
      kept true z = either z
      kept false z = refl

      go : (t : Bool) → and_then (towards after o t (ltb (after + o) 65536)) (place_at_index ss) ≡
          given (cond t true (leb 65536 (p + 5 + o)) && found (seek (cond t (p + 5 + o) (p + 5 + o - 65536)) ps)) (some (or_zero (seek (cond t (p + 5 + o) (p + 5 + o - 65536)) ps)))
      go true = forwards p after o e ∙ either (seek (p + 5 + o) ps)
      go false = backwards p after o e (ltb (after + o) 65536) refl ∙ kept (leb 65536 (p + 5 + o)) (seek (p + 5 + o - 65536) ps)

  abbrev fixed_single : ℕ → Single → Single
  fixed_single p (simple q) = simple q
  fixed_single p (pushing vs) = pushing vs
  fixed_single p (branching b o) = branching b (or_zero (pick p o))

  same_size : (p : ℕ) (a : Single) → length (single_bytes (fixed_single p a)) ≡ length (single_bytes a)
  unfolding word
  same_size p (simple q) = refl
  same_size p (pushing vs) = refl
  same_size p (branching Jump o) = refl
  same_size p (branching If o) = refl

  single_is : (p : ℕ) (a : Single) → at (single (fixed_single p a)) p ≡ fixed ps (at (single a) p)
  single_is p (simple q) = refl
  single_is p (pushing vs) = refl
  single_is p (branching b o) = refl

  branch_law : (i p : ℕ) (b : Branching) (o : ℕ) → p + 5 ≡ p0 + position ss (suc i) →
      single_place ss i (branching b o) ≡ given (sure ps (at (single (branching b o)) p)) (some (fixed_single p (branching b o)))
  branch_law i p b o e = ap (Option.map (branching b)) (target_law p (position ss (suc i)) o e) ∙ go (aimable p o && found (pick p o))
    where
      go : (t : Bool) → Option.map (branching b) (given t (some (or_zero (pick p o)))) ≡ given t (some (branching b (or_zero (pick p o))))
      go true = refl
      go false = refl

  single_law : (i p : ℕ) (a : Single) (rest : List ℕ) → drop i ss ≡ length (single_bytes a) ∷ rest → p ≡ p0 + position ss i →
      single_place ss i a ≡ given (sure ps (at (single a) p)) (some (fixed_single p a))
  unfolding word
  single_law i p (simple q) rest d e = refl
  single_law i p (pushing vs) rest d e = refl
  single_law i p (branching Jump o) rest d e = branch_law i p Jump o (omega (arith, (position_next ss i 5 rest d).0))
  single_law i p (branching If o) rest d e = branch_law i p If o (omega (arith, (position_next ss i 5 rest d).0))

-- two parts that may fail
both_law : {A B C D E G : Type 0} (f : A → B → C) (g : A → D) (h : B → E) (k : C → G) (x : Option A) (y : Option B) (s t : Bool) (u : D) (v : E) (w : G) →
    Option.map g x ≡ given s (some u) → Option.map h y ≡ given t (some v) → ((a : A) (b : B) → x ≡ some a → y ≡ some b → g a ≡ u → h b ≡ v → k (f a b) ≡ w) →
    Option.map k (both f x y) ≡ given (s && t) (some w)
both_law f g h k none y true t u v w p q z = never u p
both_law f g h k none y false t u v w p q z = refl
both_law f g h k (some a) y false t u v w p q z = never (g a) (sym p)
both_law f g h k (some a) none true true u v w p q z = never v q
both_law f g h k (some a) none true false u v w p q z = refl
both_law f g h k (some a) (some b) true false u v w p q z = never (h b) (sym q)
both_law f g h k (some a) (some b) true true u v w p q z = ap some (z a b refl refl (some_of p) (some_of q))

-- places leave the sizes

single_kept : (ss : List ℕ) (i : ℕ) (a a' : Single) → single_place ss i a ≡ some a' → length (single_bytes a') ≡ length (single_bytes a)
unfolding word
single_kept ss i (simple q) a' e = ap (λ (z : Single). length (single_bytes z)) (sym (some_of e))
single_kept ss i (pushing vs) a' e = ap (λ (z : Single). length (single_bytes z)) (sym (some_of e))
single_kept ss i (branching b o) a' e = go b (and_then (moved (after_record ss i) o) (place_at_index ss)) e
  where
    go : (b : Branching) (z : Option ℕ) → Option.map (branching b) z ≡ some a' → length (single_bytes a') ≡ length (single_bytes (branching b o))
    go b none q = never a' q
    go Jump (some n) q = ap (λ (z : Single). length (single_bytes z)) (sym (some_of q))
    go If (some n) q = ap (λ (z : Single). length (single_bytes z)) (sym (some_of q))

pub code_kept : (ss : List ℕ) (i : ℕ) (c c' : Code) → places ss i c ≡ some c' → length (code_bytes c') ≡ length (code_bytes c)
unfolding code_bytes
code_kept ss i end c' e = ap (λ (z : Code). length (code_bytes z)) (sym (some_of e))
code_kept ss i (act a c) c' e = go (single_place ss i a) (places ss (suc i) c) refl refl e (code_kept ss (suc i) c)
  where
    go : (x : Option Single) (y : Option Code) → single_place ss i a ≡ x → places ss (suc i) c ≡ y → both act x y ≡ some c' →
        ((d : Code) → places ss (suc i) c ≡ some d → length (code_bytes d) ≡ length (code_bytes c)) → length (code_bytes c') ≡ length (code_bytes (act a c))
    go none y p q z ih = never c' z
    go (some b) none p q z ih = never c' z
    go (some b) (some d) p q z ih =
        ap (λ (w : Code). length (code_bytes w)) (sym (some_of z))
        ∙ rw (length-append (single_bytes b) (code_bytes d), length-append (single_bytes a) (code_bytes c), single_kept ss i a b p, ih d q)
code_kept ss i (fun h b c) c' e = go (places (sizes b) 0 b) (places ss (suc i) c) refl refl e (code_kept (sizes b) 0 b) (code_kept ss (suc i) c)
  where
    go : (x y : Option Code) → places (sizes b) 0 b ≡ x → places ss (suc i) c ≡ y → both (fun h) x y ≡ some c' →
        ((d : Code) → places (sizes b) 0 b ≡ some d → length (code_bytes d) ≡ length (code_bytes b)) →
        ((d : Code) → places ss (suc i) c ≡ some d → length (code_bytes d) ≡ length (code_bytes c)) → length (code_bytes c') ≡ length (code_bytes (fun h b c))
    go none y p q z ib ic = never c' z
    go (some b') none p q z ib ic = never c' z
    go (some b') (some d) p q z ib ic =
        ap (λ (w : Code). length (code_bytes w)) (sym (some_of z))
        ∙ rw (
          three (header_bytes h (length (code_bytes b'))) (code_bytes b') (code_bytes d),
          three (header_bytes h (length (code_bytes b))) (code_bytes b) (code_bytes c),
          ib b' p,
          ic d q,
        )

-- The library has the order of two tests and the brackets of three. Four tests change places here: those of the inner list come first.
four : (o il io rl : Bool) → o && (il && (io && rl)) ≡ (io && il) && (o && rl)
four true true true rl = refl
four true true false rl = refl
four true false true rl = refl
four true false false rl = refl
four false true true rl = refl
four false true false rl = refl
four false false true rl = refl
four false false false rl = refl

map_ended : (f : Ended → Ended) (xs : List Ended) (x : Ended) (ys : List Ended) → map f (xs ++ (x ∷ ys)) ≡ map f xs ++ (f x ∷ map f ys)
map_ended f xs x ys = map_append f xs (x ∷ ys)

start : (q : ℕ) (rs : List ℕ) → q ≡ q + position rs 0
unfolding position
start q rs = omega arith

-- offsets become places where every branch has one, and only there
pub places_law : (p0 : ℕ) (ss : List ℕ) → All (λ n. 0 < n) ss → (i n p : ℕ) (c : Code) → drop i ss ≡ sizes c → p ≡ p0 + position ss i →
    Option.map (spread n p) (places ss i c) ≡
    given (all (sure (froms p0 ss)) (spread n p c).own && all sure_list (spread n p c).lists) (some (spread_of (map (fixed (froms p0 ss)) (spread n p c).own) (map fixed_list (spread n p c).lists)))
unfolding spread
places_law p0 ss fill i n p end d e = refl
places_law p0 ss fill i n p (act a c) d e =
    let z = position_next ss i (length (single_bytes a)) (sizes c) d in
    let p' : ℕ = p + length (single_bytes a) in
    rw (and_assoc (sure (froms p0 ss) (at (single a) p)) (all (sure (froms p0 ss)) (spread n p' c).own) (all sure_list (spread n p' c).lists))
    (both_law act (λ x. x) (spread n p') (spread n p) (single_place ss i a) (places ss (suc i) c) (sure (froms p0 ss) (at (single a) p))
    (all (sure (froms p0 ss)) (spread n p' c).own && all sure_list (spread n p' c).lists) (fixed_single p0 ss fill p a)
    (spread_of (map (fixed (froms p0 ss)) (spread n p' c).own) (map fixed_list (spread n p' c).lists)) _
    (same_option (single_place ss i a) ∙ single_law p0 ss fill i p a (sizes c) d e) (places_law p0 ss fill (suc i) n p' c z.1 (omega (arith, z.0)))
    (λ b c' x y u v. rw (u, same_size p0 ss fill p a, v, single_is p0 ss fill p a)))
  where
    same_option : {A : Type 0} (x : Option A) → Option.map (λ y. y) x ≡ x
    same_option none = refl
    same_option (some y) = refl
places_law p0 ss fill i n p (fun h b c) d e =
    let z = position_next ss i (length (header_bytes h (length (code_bytes b))) + length (code_bytes b)) (sizes c) d in
    let bp : ℕ = body_at_code p h b in
    let ap' : ℕ = after_body p h b in
    let inner : Spread = spread n bp b in
    let k : ℕ = suc (n + length inner.lists) in
    let rest : Spread = spread k ap' c in
    let B : List ℕ = froms p0 ss in
    let Bi : List ℕ = froms bp (sizes b) in
    let bi : bounds (ended_at inner.own ap') ≡ Bi = bounds_are n bp b in
    let t : (true && all (sure B) rest.own) && all sure_list (inner.lists ++ (ended_at inner.own ap' ∷ rest.lists)) ≡
    (all (sure Bi) inner.own && all sure_list inner.lists) && (all (sure B) rest.own && all sure_list rest.lists) =
    rw (all_append sure_list inner.lists (ended_at inner.own ap' ∷ rest.lists), bi) (four (all (sure B) rest.own) (all sure_list inner.lists) (all (sure Bi) inner.own) (all sure_list rest.lists)) in
    rw t (both_law (fun h) (spread n bp) (spread k ap') (spread n p) (places (sizes b) 0 b) (places ss (suc i) c) (all (sure Bi) inner.own && all sure_list inner.lists)
    (all (sure B) rest.own && all sure_list rest.lists) (spread_of (map (fixed Bi) inner.own) (map fixed_list inner.lists))
    (spread_of (map (fixed B) rest.own) (map fixed_list rest.lists)) _
    (places_law bp (sizes b) (sizes_fill b) 0 n bp b refl (start bp (sizes b))) (places_law p0 ss fill (suc i) k ap' c z.1 (omega (arith, z.0)))
    (λ b' c' x y u v.
    let l : length (code_bytes b') ≡ length (code_bytes b) = code_kept (sizes b) 0 b b' x in
    rw (l, u, length-map inner.lists fixed_list, v, map_ended fixed_list inner.lists (ended_at inner.own ap') rest.lists, bi)))
