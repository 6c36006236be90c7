-- Offsets become places list by list as they do in the nested list.
use Prim.Native.Nat.{ℕ, zero, suc, ◌+◌, ◌-◌, ◌≤◌}
use mathlib.Core.Path.{◌≡◌, refl, ap, sym, ◌∙◌, subst}
use mathlib.Core.List.{List, [], ◌∷◌, ◌++◌}
use mathlib.Core.Option.{Option, none, some, map}
use native.Mathlib.Omega.{arith}
use native.Mathlib.Nat.{not-suc-le-zero}
use lib.ListN.{length, take, get_or, take-append-drop}
use lib.Seq.{take-length, take-take, slice, slice_empty, slice-cons, length-slice}
use Rattle.pcode.specs.Pcode.{Header, Action, branch, define}
use Rattle.action_format.specs.Lists.{Lists, Single, simple, pushing, branching, single, Numbered, stop, one, function}
use Rattle.action_format.specs.Rules.{Limits}
use Rattle.action_format.specs.Code.{Code, act, fun, nest, code, Flat, flat, lists_of_outcome}
use Rattle.action_format.specs.Bytes.{Bytes}
use Rattle.action_format.specs.Offsets.{sizes, after_record, moved, place_at_index, and_then, both, single_place, places, from_offset}
use Rattle.action_format.specs.Decode.{read_list, ended, tested, decode}
use Rattle.action_format.specs.Resume.{own_with, lists_with, lists_from, finish, resume, action_place, resolve_list, resolve_lists, list_sizes, resolve}
use Rattle.action_format.proofs.Tests.{never, some_of}
use Rattle.action_format.proofs.Numbers.{add_single, less, nest_flat, flat_numbered}
use Rattle.action_format.proofs.Finished.{same_depth}

abbrev flat_of : List Action → List (List Action) → Flat
flat_of xs ls = record { own = xs; lists = ls }

single_action : (ss : List ℕ) (i : ℕ) (a : Single) → action_place ss i (single a) ≡ map single (single_place ss i a)
single_action ss i (simple p) = refl
single_action ss i (pushing vs) = refl
single_action ss i (branching b o) = go (and_then (moved (after_record ss i) o) (place_at_index ss))
  where
    go : (x : Option ℕ) → map (branch b) x ≡ map single (map (branching b) x)
    go none = refl
    go (some p) = refl

-- an action before what is resolved
one_more : (n : ℕ) (x : Option Single) (y : Option Code) (own : Option (List Action)) (ls : Option (List (List Action))) → map (flat n) y ≡ both flat_of own ls →
    map (flat n) (both act x y) ≡ both flat_of (both ◌∷◌ (map single x) own) ls
one_more n none none own ls e = refl
one_more n none (some c) own ls e = refl
one_more n (some a) none none ls e = refl
one_more n (some a) none (some xs) none e = refl
one_more n (some a) none (some xs) (some ks) e = never (flat_of xs ks) e
one_more n (some a) (some c) none ls e = never (flat n c) (sym e)
one_more n (some a) (some c) (some xs) none e = never (flat n c) (sym e)
one_more n (some a) (some c) (some xs) (some ks) e = ap (λ (f : Flat). some (flat_of (single a ∷ f.own) f.lists)) (some_of e)

lists_append : (f : List Action → List ℕ) (ls : List (List Action)) (xs : List Action) (ks : List (List Action)) →
    resolve_lists f (ls ++ (xs ∷ ks)) ≡ both ◌++◌ (resolve_lists f ls) (both ◌∷◌ (resolve_list (f xs) 0 xs) (resolve_lists f ks))
lists_append f [] xs ks = go (both ◌∷◌ (resolve_list (f xs) 0 xs) (resolve_lists f ks))
  where
    go : (o : Option (List (List Action))) → o ≡ both ◌++◌ (some []) o
    go none = refl
    go (some x) = refl
lists_append f (y ∷ ls) xs ks = rw (lists_append f ls xs ks) (go (resolve_list (f y) 0 y) (resolve_lists f ls) (both ◌∷◌ (resolve_list (f xs) 0 xs) (resolve_lists f ks)))
  where
    go : (a : Option (List Action)) (b c : Option (List (List Action))) → both ◌∷◌ a (both ◌++◌ b c) ≡ both ◌++◌ (both ◌∷◌ a b) c
    go none b c = refl
    go (some a) none c = refl
    go (some a) (some b) none = refl
    go (some a) (some b) (some c) = refl

as_many_lists : (f : List Action → List ℕ) (ls ks : List (List Action)) → resolve_lists f ls ≡ some ks → length ks ≡ length ls
as_many_lists f [] ks e = sym (ap length (some_of e))
as_many_lists f (xs ∷ ls) ks e = go (resolve_list (f xs) 0 xs) (resolve_lists f ls) (λ ys q. as_many_lists f ls ys q) e
  where
    go : (a : Option (List Action)) (b : Option (List (List Action))) → ((ys : List (List Action)) → b ≡ some ys → length ys ≡ length ls) → both ◌∷◌ a b ≡ some ks →
        length ks ≡ suc (length ls)
    go none b ih e = never ks e
    go (some x) none ih e = never ks e
    go (some x) (some ys) ih e = sym (ap length (some_of e)) ∙ ap suc (ih ys refl)

none_right : {A B C : Type 0} (f : A → B → C) (x : Option A) → both f x none ≡ none
none_right f none = refl
none_right f (some a) = refl

-- a function before what is resolved; k lists have finished after its body
function_more : (h : Header) (n k : ℕ) (x y : Option Code) (body own : Option (List Action)) (inner ls : Option (List (List Action))) →
    ((ks : List (List Action)) → inner ≡ some ks → n + length ks ≡ k) →
    map (flat n) x ≡ both flat_of body inner → map (flat (suc k)) y ≡ both flat_of own ls →
    map (flat n) (both (fun h) x y) ≡ both flat_of (both ◌∷◌ (some (define h (suc k))) own) (both ◌++◌ inner (both ◌∷◌ body ls))
function_more h n k none y none own inner ls l p q = rw (none_right ◌++◌ inner, none_right flat_of (both ◌∷◌ (some (define h (suc k))) own))
function_more h n k none y (some b) own none ls l p q = rw (none_right flat_of (both ◌∷◌ (some (define h (suc k))) own))
function_more h n k none y (some b) own (some ks) ls l p q = never (flat_of b ks) p
function_more h n k (some c) y none own inner ls l p q = never (flat n c) (sym p)
function_more h n k (some c) y (some b) own none ls l p q = never (flat n c) (sym p)
function_more h n k (some c) none (some b) none (some ks) ls l p q = refl
function_more h n k (some c) none (some b) (some xs) (some ks) none l p q = refl
function_more h n k (some c) none (some b) (some xs) (some ks) (some ms) l p q = never (flat_of xs ms) q
function_more h n k (some c) (some e) (some b) none (some ks) ls l p q = never (flat (suc k) e) (sym q)
function_more h n k (some c) (some e) (some b) (some xs) (some ks) none l p q = never (flat (suc k) e) (sym q)
function_more h n k (some c) (some e) (some b) (some xs) (some ks) (some ms) l p q = rw (some_of p, l ks refl, some_of q)

slice_join : {A : Type 0} (n k m : ℕ) (l : List A) → n ≤ k → k ≤ m → slice n k l ++ slice k m l ≡ slice n m l
slice_join zero k m l p q = rw (← (take-take k m l q)) (take-append-drop k (take m l))
slice_join (suc n) zero m l p q = absurd (not-suc-le-zero p)
slice_join (suc n) (suc k) zero l p q = absurd (not-suc-le-zero q)
slice_join (suc n) (suc k) (suc m) [] p q = refl
slice_join (suc n) (suc k) (suc m) (x ∷ l) p q = slice_join n k m l (omega arith) (omega arith)

resolved : (ls : List (List Action)) (d n m : ℕ) (xs : List Action) → Numbered ls n xs m → m ≤ d → m ≤ length ls → (ss : List ℕ) (i : ℕ) →
    map (flat n) (places ss i (nest (suc d) ls xs)) ≡ both flat_of (resolve_list ss i xs) (resolve_lists (list_sizes ls) (slice n m ls))
unfolding nest
resolved ls d n m xs stop h l ss i = rw (slice_empty n ls)
resolved ls d n m xs (one a {xs = ys} g) h l ss i =
    rw (add_single (λ k. nest d ls (get_or ls (k - 1) [])) a (nest (suc d) ls ys), single_action ss i a)
    (one_more n (single_place ss i a) (places ss (suc i) (nest (suc d) ls ys)) (resolve_list ss (suc i) ys) (resolve_lists (list_sizes ls) (slice n m ls)) (resolved ls d n m ys g h l ss (suc i)))
resolved ls zero n m xs (function {xs = ys} {k = k} q g r) h l ss i =
    let w : ⊥ = omega (arith, (same_depth ls zero zero (suc k) m ys r h h).0) in absurd w
resolved ls (suc d) n m xs (function {h = x} {xs = ys} {k = k} q g r) h l ss i =
    let after : suc k ≤ m = (same_depth ls (suc d) (suc d) (suc k) m ys r h h).0 in
    let below : n ≤ k = (same_depth ls d d n k (get_or ls k []) g (omega arith) (omega arith)).0 in
    let f : List Action → List ℕ = list_sizes ls in
    let b : Code = nest (suc d) ls (get_or ls k []) in
    let c : Code = nest (suc (suc d)) ls ys in
    let e : nest (suc (length ls)) ls (get_or ls k []) ≡ b = (same_depth ls (length ls) d n k (get_or ls k []) g (omega arith) (omega arith)).1 in
    let z : slice n m ls ≡ slice n k ls ++ (get_or ls k [] ∷ slice (suc k) m ls) =
    sym (slice_join n k m ls below (omega arith)) ∙ ap (λ (zs : List (List Action)). slice n k ls ++ zs) (slice-cons k m ls [] after l) in
    let t : resolve_lists f (slice n m ls) ≡ both ◌++◌ (resolve_lists f (slice n k ls)) (both ◌∷◌ (resolve_list (sizes b) 0 (get_or ls k [])) (resolve_lists f (slice (suc k) m ls))) =
    ap (resolve_lists f) z ∙ lists_append f (slice n k ls) (get_or ls k []) (slice (suc k) m ls)
    ∙ ap (λ (w : Code). both ◌++◌ (resolve_lists f (slice n k ls)) (both ◌∷◌ (resolve_list (sizes w) 0 (get_or ls k [])) (resolve_lists f (slice (suc k) m ls)))) e in
    let finished-in-body : (ks : List (List Action)) → resolve_lists f (slice n k ls) ≡ some ks → n + length ks ≡ k =
    λ ks u. omega (arith, as_many_lists f (slice n k ls) ks u, length-slice n k ls (omega arith)) in
    rw (less k, t) (function_more x n k (places (sizes b) 0 b) (places ss (suc i) c) (resolve_list (sizes b) 0 (get_or ls k [])) (resolve_list ss (suc i) ys)
    (resolve_lists f (slice n k ls)) (resolve_lists f (slice (suc k) m ls)) finished-in-body
    (resolved ls d n k (get_or ls k []) g (omega arith) (omega arith) (sizes b) 0) (resolved ls (suc d) (suc k) m ys r h l ss (suc i)))

pub by_lists : (l : Lists) → Numbered l.functions 0 l.top (length l.functions) → map lists_of_outcome (from_offset (code l)) ≡ resolve l
by_lists l g =
    let n : ℕ = length l.functions in
    let s : slice 0 n l.functions ≡ l.functions = take-length l.functions in
    let r : map (flat 0) (from_offset (code l)) ≡ both flat_of (resolve_list (sizes (code l)) 0 l.top) (resolve_lists (list_sizes l.functions) l.functions) =
    subst (λ (ks : List (List Action)). map (flat 0) (from_offset (code l)) ≡ both flat_of (resolve_list (sizes (code l)) 0 l.top) (resolve_lists (list_sizes l.functions) ks)) s
    (resolved l.functions n 0 n l.top g (omega arith) (omega arith) (sizes (code l)) 0) in
    lists_made (from_offset (code l)) ∙ ap (map (λ (f : Flat). lists_from f.own f.lists)) r
    ∙ sym (lists_joined (resolve_list (sizes (code l)) 0 l.top) (resolve_lists (list_sizes l.functions) l.functions))
  where
    lists_made : (x : Option Code) → map lists_of_outcome x ≡ map (λ (f : Flat). lists_from f.own f.lists) (map (flat 0) x)
    lists_made none = refl
    lists_made (some c) = refl

    lists_joined : (x : Option (List Action)) (y : Option (List (List Action))) →
        both lists_from x y ≡ map (λ (f : Flat). lists_from f.own f.lists) (both flat_of x y)
    lists_joined none y = refl
    lists_joined (some a) none = refl
    lists_joined (some a) (some b) = refl

-- decoding, list by list: the bytes left before the first byte, then places, then the rules
pub decode_by_lists : (limits : Limits) (b : Bytes) → decode limits b ≡ and_then (and_then (resume [] [] [] b) resolve) (tested limits)
unfolding decode
decode_by_lists limits b = go (read_list b)
  where
    placed : (x : Option Code) → and_then x (λ c. tested limits (lists_of_outcome c)) ≡ and_then (map lists_of_outcome x) (tested limits)
    placed none = refl
    placed (some c) = refl

    last : (c : Code) (r : Bytes) → and_then (and_then (ended c r) from_offset) (λ c. tested limits (lists_of_outcome c)) ≡
        and_then (and_then (finish (flat 0 c).own (flat 0 c).lists r) resolve) (tested limits)
    last c [] = refl
    last c (zero ∷ []) = placed (from_offset c) ∙ ap (λ (x : Option Lists). and_then x (tested limits))
        (ap (λ (z : Code). map lists_of_outcome (from_offset z)) (sym (nest_flat c)) ∙ by_lists (lists_of_outcome c) (flat_numbered c))
    last c (zero ∷ (y ∷ r)) = refl
    last c (suc y ∷ r) = refl

    go : (o : Option (Code × Bytes)) → and_then (and_then (and_then o (λ x. ended x.0 x.1)) from_offset) (λ c. tested limits (lists_of_outcome c)) ≡
        and_then (and_then (and_then o (λ x. finish (own_with [] [] x.0) (lists_with [] x.0) x.1)) resolve) (tested limits)
    go none = refl
    go (some x) = last x.0 x.1
