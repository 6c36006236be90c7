-- Each function list finishes in some list, and its body stands in that list's.
use Prim.Native.Nat.{ℕ, zero, suc, ◌-◌, ◌<◌, ◌≤◌}
use mathlib.Core.Path.{◌≡◌, refl, ap, ap₂, sym, ◌∙◌, subst}
use mathlib.Core.List.{List, []}
use native.Mathlib.Omega.{arith}
use native.Mathlib.Decide.{dec_lt}
use lib.Dec.{T}
use lib.ListN.{length, get_or}
use Rattle.pcode.specs.Pcode.{Header, Action, plain, push, branch, define}
use Rattle.action_format.specs.Lists.{Single, simple, pushing, branching, single, Numbered, stop, one, function}
use Rattle.action_format.specs.Code.{Code, act, fun, nest}
use Rattle.action_format.specs.Offsets.{sizes, single_near, near, all_near}
use Rattle.action_format.specs.Encode.{short}
use Rattle.action_format.proofs.Tests.{and_first, and_second, All}
use Rattle.action_format.proofs.Bodies.{short_next, short_body, short_rest}
use Rattle.action_format.proofs.Numbers.{add_single, less}

-- depth beyond the lists changes nothing
pub same_depth : (ls : List (List Action)) (d e n m : ℕ) (xs : List Action) → Numbered ls n xs m → m ≤ d → m ≤ e → (n ≤ m) × (nest (suc d) ls xs ≡ nest (suc e) ls xs)
unfolding nest
same_depth ls d e n m xs stop h k = (omega arith, refl)
same_depth ls d e n m xs (one a {xs = ys} g) h k =
    let r = same_depth ls d e n m ys g h k in
    (r.0, add_single (λ i. nest d ls (get_or ls (i - 1) [])) a (nest (suc d) ls ys) ∙ ap (act a) r.1 ∙ sym (add_single (λ i. nest e ls (get_or ls (i - 1) [])) a (nest (suc e) ls ys)))
same_depth ls zero e n m xs (function {xs = ys} {k = j} l g r) h k =
    let w : ⊥ = omega (arith, (same_depth ls zero e (suc j) m ys r h k).0) in absurd w
same_depth ls (suc d) zero n m xs (function {xs = ys} {k = j} l g r) h k =
    let w : ⊥ = omega (arith, (same_depth ls (suc d) zero (suc j) m ys r h k).0) in absurd w
same_depth ls (suc d) (suc e) n m xs (function {h = x} {xs = ys} {k = j} l g r) h k =
    let rest = same_depth ls (suc d) (suc e) (suc j) m ys r h k in
    let inner = same_depth ls d e n j (get_or ls j []) g (omega (arith, rest.0)) (omega (arith, rest.0)) in
    (omega (arith, rest.0, inner.0), rw (less j) (ap₂ (fun x) inner.1 rest.1))

-- b is the body of a function within
pub data Within (b : Code) : Code → Type 0 where
  here : {h : Header} {c : Code} → Within b (fun h b c)
  deeper : {h : Header} {x c : Code} → Within b x → Within b (fun h x c)
  past : (a : Single) {c : Code} → Within b c → Within b (act a c)
  beyond : {h : Header} {x c : Code} → Within b c → Within b (fun h x c)

-- function list j has finished as list j + 1
pub record Finished (ls : List (List Action)) (j : ℕ) (c : Code) : Type 0 where
  pub from : ℕ
  pub numbered : Numbered ls from (get_or ls j []) j
  pub is_within : Within (nest (suc (length ls)) ls (get_or ls j [])) c

finished_in : {ls : List (List Action)} {j : ℕ} {c c' : Code} → ((b : Code) → Within b c → Within b c') → Finished ls j c → Finished ls j c'
finished_in {ls} {j} f r = record { from = r.from; numbered = r.numbered; is_within = f (nest (suc (length ls)) ls (get_or ls j [])) r.is_within }

pub finished : (ls : List (List Action)) (d n m : ℕ) (xs : List Action) → Numbered ls n xs m → m ≤ d → m ≤ length ls → (j : ℕ) → n ≤ j → j < m →
    Finished ls j (nest (suc d) ls xs)
unfolding nest
finished ls d n m xs stop h k j p q = let w : ⊥ = omega arith in absurd w
finished ls d n m xs (one a {xs = ys} g) h k j p q =
    subst (Finished ls j) (sym (add_single (λ k. nest d ls (get_or ls (k - 1) [])) a (nest (suc d) ls ys)))
    (finished_in (λ b w. past a w) (finished ls d n m ys g h k j p q))
finished ls zero n m xs (function {xs = ys} {k = f} l g r) h k j p q =
    let w : ⊥ = omega (arith, (same_depth ls zero zero (suc f) m ys r h h).0) in absurd w
finished ls (suc d) n m xs (function {h = x} {xs = ys} {k = f} l g r) h k j p q =
    let after : suc f ≤ m = (same_depth ls (suc d) (suc d) (suc f) m ys r h h).0 in
    rw (less f) (go (dec_lt j f) (dec_lt f j) (same_depth ls d (length ls) n f (get_or ls f []) g (omega arith) (omega arith)).1
    (λ a. finished ls d n f (get_or ls f []) g (omega arith) (omega arith) j p a)
    (λ b. finished ls (suc d) (suc f) m ys r h k j b q))
  where
    whole : Code
    whole = fun x (nest (suc d) ls (get_or ls f [])) (nest (suc (suc d)) ls ys)

    go : Dec (j < f) → Dec (f < j) → nest (suc d) ls (get_or ls f []) ≡ nest (suc (length ls)) ls (get_or ls f []) →
        (j < f → Finished ls j (nest (suc d) ls (get_or ls f []))) → (f < j → Finished ls j (nest (suc (suc d)) ls ys)) → Finished ls j whole
    go (yes a) b e u v = finished_in (λ b w. deeper w) (u a)
    go (no a) (yes b) e u v = finished_in (λ b w. beyond w) (v b)
    go (no a) (no b) e u v =
        let z : f ≡ j = omega arith in
        subst (λ (i : ℕ). Finished ls i whole) z (record { from = n; numbered = g; is_within = subst (λ (c : Code). Within c whole) e here })

-- the tests of refusals 10 and 11 hold within

pub near_within : {b c : Code} (ss : List ℕ) (i : ℕ) → Within b c → T (near ss i c) → T (all_near b)
near_within {b} ss i (here {c = c}) t = and_first (all_near b) (near ss (suc i) c) t
near_within ss i (deeper {x = x} {c = c} w) t = near_within (sizes x) 0 w (and_first (all_near x) (near ss (suc i) c) t)
near_within ss i (past a {c = c} w) t = near_within ss (suc i) w (and_second (single_near ss i a) (near ss (suc i) c) t)
near_within ss i (beyond {x = x} {c = c} w) t = near_within ss (suc i) w (and_second (all_near x) (near ss (suc i) c) t)

pub short_within : {b c : Code} → Within b c → T (short c) → T (short b)
short_within {b} (here {h = h} {c = c}) t = short_body h b c t
short_within (deeper {h = h} {x = x} {c = c} w) t = short_within w (short_body h x c t)
short_within (past a {c = c} w) t = short_within w (short_next a c t)
short_within (beyond {h = h} {x = x} {c = c} w) t = short_within w (short_rest h x c t)

-- a function's record names a list that has finished before

abbrev pub Named : List (List Action) → Action → Type 0
Named ls (plain p) = Unit
Named ls (push vs) = Unit
Named ls (branch b p) = Unit
Named ls (define h j) = (k n : ℕ) × (j ≡ suc k) × (k < length ls) × Numbered ls n (get_or ls k []) k

named_single : (ls : List (List Action)) (a : Single) → Named ls (single a)
named_single ls (simple p) = tt
named_single ls (pushing vs) = tt
named_single ls (branching b p) = tt

pub named : (ls : List (List Action)) (n m : ℕ) (xs : List Action) → Numbered ls n xs m → All (Named ls) xs
named ls n m xs stop = tt
named ls n m xs (one a {xs = ys} g) = (named_single ls a, named ls n m ys g)
named ls n m xs (function {xs = ys} {k = k} l g r) = ((k, n, refl, l, g), named ls (suc k) m ys r)
