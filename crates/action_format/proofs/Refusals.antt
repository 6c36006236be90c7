-- Refusals 10 and 11, list by list.
use Prim.Native.Nat.{ℕ, zero, suc, ◌+◌, ◌-◌, ◌<◌, ◌≤◌}
use mathlib.Core.Path.{◌≡◌, refl, ap, sym, ◌∙◌, subst}
use mathlib.Core.Logic.{◌↔◌}
use mathlib.Core.List.{List, [], ◌∷◌}
use mathlib.Core.Option.{some}
use native.Mathlib.Omega.{arith}
use mathlib.Core.Bool.{Bool, true, ◌&&◌}
use lib.Dec.{T, leb}
use lib.ListN.{length, get_or, get_elem?}
use Rattle.pcode.specs.Pcode.{Header, Branching, Action, plain, push, branch, define}
use Rattle.action_format.specs.Lists.{Lists, Single, simple, pushing, branching, single, Numbered, stop, one, function}
use Rattle.action_format.specs.Code.{Code, add, nest_list, nest, code}
use Rattle.action_format.specs.Bytes.{word, single_data, code_bytes}
use Rattle.action_format.specs.Offsets.{sizes, position, reaches, single_near, near, all_near}
use Rattle.action_format.specs.Encode.{short}
use Rattle.action_format.specs.ByList.{list_of, body, body_bytes, header_short, action_short, action_near}
use Rattle.action_format.proofs.Tests.{and_first, and_both, never, some_of, elem}
use Rattle.action_format.proofs.Bodies.{short_next, short_rest}
use Rattle.action_format.proofs.Offsets.{same_length}
use Rattle.action_format.proofs.Numbers.{add_single, less}
use Rattle.action_format.proofs.Finished.{same_depth, Named}
use Rattle.action_format.proofs.Landing.{inner, are_named, bodies_short, same_body, near_actions}

-- the branches of a list in reach, its actions counted from i on and its sizes given
abbrev Reach : List ℕ → ℕ → List Action → Type 0
Reach ss i xs = (k : ℕ) (b : Branching) (p : ℕ) → get_elem? xs k ≡ some (branch b p) → T (reaches (position ss (suc (i + k))) (position ss p))

reach_next : (ss : List ℕ) (i : ℕ) (x : Action) (xs : List Action) → Reach ss i (x ∷ xs) → Reach ss (suc i) xs
reach_next ss i x xs h k b p e =
    let z : i + suc k ≡ suc i + k = omega arith in
    rw z at (h (suc k) b p e)

single_reach : (ss : List ℕ) (i : ℕ) (a : Single) (xs : List Action) → Reach ss i (single a ∷ xs) → T (single_near ss i a)
single_reach ss i (simple p) xs h = tt
single_reach ss i (pushing vs) xs h = tt
single_reach ss i (branching b p) xs h =
    let z : i + 0 ≡ i = omega arith in
    rw z at (h 0 b p refl)

near_nested : (ls : List (List Action)) → ((j : ℕ) → j < length ls → Reach (sizes (nest (suc (length ls)) ls (get_or ls j []))) 0 (get_or ls j [])) →
    (d n m : ℕ) (xs : List Action) → Numbered ls n xs m → m ≤ d → (ss : List ℕ) (i : ℕ) → Reach ss i xs → T (near ss i (nest (suc d) ls xs))
unfolding nest
near_nested ls all d n m xs stop h ss i r = tt
near_nested ls all d n m xs (one a {xs = ys} g) h ss i r =
    subst (λ (c : Code). T (near ss i c)) (sym (add_single (λ k. nest d ls (get_or ls (k - 1) [])) a (nest (suc d) ls ys)))
    (and_both (single_near ss i a) (near ss (suc i) (nest (suc d) ls ys)) (single_reach ss i a ys r)
    (near_nested ls all d n m ys g h ss (suc i) (reach_next ss i (single a) ys r)))
near_nested ls all zero n m xs (function {xs = ys} {k = f} l g r) h ss i t =
    let w : ⊥ = omega (arith, (same_depth ls zero zero (suc f) m ys r h h).0) in absurd w
near_nested ls all (suc d) n m xs (function {h = x} {xs = ys} {k = f} l g r) h ss i t =
    let after : suc f ≤ m = (same_depth ls (suc d) (suc d) (suc f) m ys r h h).0 in
    let b : Code = nest (suc d) ls (get_or ls f []) in
    let c : Code = nest (suc (suc d)) ls ys in
    let e : nest (suc (length ls)) ls (get_or ls f []) ≡ b = (same_depth ls (length ls) d n f (get_or ls f []) g (omega arith) (omega arith)).1 in
    rw (less f) (and_both (near (sizes b) 0 b) (near ss (suc i) c)
    (near_nested ls all d n f (get_or ls f []) g (omega arith) (sizes b) 0 (subst (λ (z : Code). Reach (sizes z) 0 (get_or ls f [])) e (all f l)))
    (near_nested ls all (suc d) (suc f) m ys r h ss (suc i) (reach_next ss i (define x (suc f)) ys t)))

-- the same for short records and bodies

abbrev NestedShort : (ℕ → Code) → Action → Bool
NestedShort inner (plain p) = leb (length (single_data (simple p))) 65535
NestedShort inner (push vs) = leb (length (single_data (pushing vs))) 65535
NestedShort inner (branch b p) = true
NestedShort inner (define h k) = header_short h (length (code_bytes (inner k)))

two_bytes : (b : Branching) (p : ℕ) → leb (length (single_data (branching b p))) 65535 ≡ true
unfolding word
two_bytes b p = refl

short_first : (inner : ℕ → Code) (a : Action) (c : Code) → T (short (add inner a c)) → T (NestedShort inner a)
short_first inner (plain p) c t = and_first (leb (length (single_data (simple p))) 65535) (short c) t
short_first inner (push vs) c t = and_first (leb (length (single_data (pushing vs))) 65535) (short c) t
short_first inner (branch b p) c t = tt
short_first inner (define x k) c t =
    let n : ℕ = length (code_bytes (inner k)) in
    and_first (header_short x n) (short (inner k)) (and_first (header_short x n && short (inner k)) (short c) t)

short_then : (inner : ℕ → Code) (a : Action) (c : Code) → T (short (add inner a c)) → T (short c)
short_then inner (plain p) c t = short_next (simple p) c t
short_then inner (push vs) c t = short_next (pushing vs) c t
short_then inner (branch b p) c t = short_next (branching b p) c t
short_then inner (define x k) c t = short_rest x (inner k) c t

short_at : (inner : ℕ → Code) (xs : List Action) (i : ℕ) (a : Action) → get_elem? xs i ≡ some a → T (short (nest_list inner xs)) → T (NestedShort inner a)
short_at inner [] i a e t = never a e
short_at inner (x ∷ xs) zero a e t = subst (λ (z : Action). T (NestedShort inner z)) (some_of e) (short_first inner x (nest_list inner xs) t)
short_at inner (x ∷ xs) (suc i) a e t = short_at inner xs i a e (short_then inner x (nest_list inner xs) t)

-- the functions' bodies at their full depth
abbrev whole_body : List (List Action) → ℕ → Code
whole_body ls k = nest (suc (length ls)) ls (get_or ls (k - 1) [])

abbrev Shorts : List (List Action) → List Action → Type 0
Shorts ls xs = (i : ℕ) (a : Action) → get_elem? xs i ≡ some a → T (NestedShort (whole_body ls) a)

single_short : (ls : List (List Action)) (a : Single) → T (NestedShort (whole_body ls) (single a)) → T (leb (length (single_data a)) 65535)
single_short ls (simple p) h = h
single_short ls (pushing vs) h = h
single_short ls (branching b p) h = rw (two_bytes b p) tt

short_nested : (ls : List (List Action)) → ((j : ℕ) → j < length ls → Shorts ls (get_or ls j [])) →
    (d n m : ℕ) (xs : List Action) → Numbered ls n xs m → m ≤ d → Shorts ls xs → T (short (nest (suc d) ls xs))
unfolding nest
short_nested ls all d n m xs stop h s = tt
short_nested ls all d n m xs (one a {xs = ys} g) h s =
    subst (λ (c : Code). T (short c)) (sym (add_single (λ k. nest d ls (get_or ls (k - 1) [])) a (nest (suc d) ls ys)))
    (and_both (leb (length (single_data a)) 65535) (short (nest (suc d) ls ys)) (single_short ls a (s 0 (single a) refl))
    (short_nested ls all d n m ys g h (λ i. s (suc i))))
short_nested ls all zero n m xs (function {xs = ys} {k = f} l g r) h s =
    let w : ⊥ = omega (arith, (same_depth ls zero zero (suc f) m ys r h h).0) in absurd w
short_nested ls all (suc d) n m xs (function {h = x} {xs = ys} {k = f} l g r) h s =
    let after : suc f ≤ m = (same_depth ls (suc d) (suc d) (suc f) m ys r h h).0 in
    let b : Code = nest (suc d) ls (get_or ls f []) in
    let c : Code = nest (suc (suc d)) ls ys in
    let e : nest (suc (length ls)) ls (get_or ls f []) ≡ b = (same_depth ls (length ls) d n f (get_or ls f []) g (omega arith) (omega arith)).1 in
    let t : T (header_short x (length (code_bytes (whole_body ls (suc f))))) = s 0 (define x (suc f)) refl in
    let u : whole_body ls (suc f) ≡ b = ap (λ (i : ℕ). nest (suc (length ls)) ls (get_or ls i [])) (less f) ∙ e in
    let v : T (header_short x (length (code_bytes b))) = subst (λ (z : Code). T (header_short x (length (code_bytes z)))) u t in
    rw (less f) (and_both (header_short x (length (code_bytes b)) && short b) (short c)
    (and_both (header_short x (length (code_bytes b))) (short b) v (short_nested ls all d n f (get_or ls f []) g (omega arith) (all f l)))
    (short_nested ls all (suc d) (suc f) m ys r h (λ i. s (suc i))))

module _ (l : Lists) (g : Numbered l.functions 0 l.top (length l.functions)) where
  -- refusal 11 does not apply exactly if every branch of every list reaches its place
  pub near_by_actions : T (all_near (code l)) ↔ ((k i : ℕ) (a : Action) → get_elem? (list_of l k) i ≡ some a → T (action_near l k i a))
  near_by_actions = (near_actions l g, λ h. near_nested l.functions (λ j q. own h (suc j)) deep 0 deep l.top g (omega arith) (sizes (code l)) 0 (own h 0))
    where
      deep : ℕ
      deep = length l.functions

      own : ((k i : ℕ) (a : Action) → get_elem? (list_of l k) i ≡ some a → T (action_near l k i a)) → (k : ℕ) → Reach (sizes (body l k)) 0 (list_of l k)
      own h k i b p e =
          let z : 0 + i ≡ i = omega arith in
          rw z (h k i (branch b p) e)

  -- refusal 10 does not apply exactly if every record and every body of every list is short
  pub short_by_actions : T (short (code l)) ↔ ((k i : ℕ) (a : Action) → get_elem? (list_of l k) i ≡ some a → T (action_short l a))
  unfolding nest
  short_by_actions = (
    λ t k i a e. outer a (elem (Named l.functions) (list_of l k) i a (are_named l g k) e) (short_at (inner l g) (list_of l k) i a e (bodies_short l g t k)),
    λ h. short_nested l.functions (λ j q. own h (suc j)) (length l.functions) 0 (length l.functions) l.top g (omega arith) (own h 0),
  )
    where
      count : (x : Header) (j : ℕ) → Named l.functions (define x j) → length (code_bytes (inner l g j)) ≡ length (body_bytes l j)
      count x j q = ap (λ (c : Code). length (code_bytes c)) (same_body l g x j q) ∙ sym (same_length (sizes (body l j)) 0 (body l j))

      outer : (a : Action) → Named l.functions a → T (NestedShort (inner l g) a) → T (action_short l a)
      outer (plain p) q t = t
      outer (push vs) q t = t
      outer (branch b p) q t = t
      outer (define x j) q t = subst (λ (n : ℕ). T (header_short x n)) (count x j q) t

      number : (f j : ℕ) → j ≡ suc f → f ≡ j - 1
      number f j z = omega arith

      full : (x : Header) (j : ℕ) → Named l.functions (define x j) → length (body_bytes l j) ≡ length (code_bytes (whole_body l.functions j))
      full x j q = same_length (sizes (body l j)) 0 (body l j) ∙ ap (λ (xs : List Action). length (code_bytes (nest (suc (length l.functions)) l.functions xs)))
          (ap (list_of l) q.2 ∙ ap (λ (i : ℕ). get_or l.functions i []) (number q.0 j q.2))

      back : (a : Action) → Named l.functions a → T (action_short l a) → T (NestedShort (whole_body l.functions) a)
      back (plain p) q t = t
      back (push vs) q t = t
      back (branch b p) q t = t
      back (define x j) q t = subst (λ (n : ℕ). T (header_short x n)) (full x j q) t

      own : ((k i : ℕ) (a : Action) → get_elem? (list_of l k) i ≡ some a → T (action_short l a)) → (k : ℕ) → Shorts l.functions (list_of l k)
      own h k i a e = back a (elem (Named l.functions) (list_of l k) i a (are_named l g k) e) (h k i a e)
