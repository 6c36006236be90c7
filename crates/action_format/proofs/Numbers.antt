-- Lists whose functions are numbered as they finish are the lists of one nested list, and of no other.
use Prim.Native.Nat.{ℕ, zero, suc, ◌+◌, ◌-◌, ◌<◌, ◌≤◌}
use mathlib.Core.Path.{◌≡◌, refl, ap, ap₂, sym, ◌∙◌, subst}
use mathlib.Core.List.{List, [], ◌∷◌, ◌++◌, append_assoc, append-nil}
use native.Mathlib.Omega.{arith}
use lib.Seq.{take-suc, take-length, get_or_at}
use lib.ListN.{length, take, get_or, length-append, length-take}
use Rattle.pcode.specs.Pcode.{Header, Action, define}
use Rattle.action_format.specs.Lists.{Lists, Single, simple, pushing, branching, single, Numbered, stop, one, function}
use Rattle.action_format.specs.Code.{Code, end, act, fun, add, nest, code, Flat, flat, lists_of_outcome}

pub add_single : (body : ℕ → Code) (a : Single) (c : Code) → add body (single a) c ≡ act a c
add_single body (simple p) c = refl
add_single body (pushing vs) c = refl
add_single body (branching b p) c = refl

pub less : (k : ℕ) → suc k - 1 ≡ k
less k = omega arith

-- numbered lists, nested, and flat again

record Back (ls : List (List Action)) (n : ℕ) (xs : List Action) (m : ℕ) (f : Flat) : Type 0 where
  own_is : f.own ≡ xs
  lists_are : take n ls ++ f.lists ≡ take m ls
  rises : n ≤ m

module _ (ls : List (List Action)) (n m k : ℕ) (x : Header) (ys : List Action) (f : Flat) (c : Code)
    (l : k < length ls) (inner : Back ls n (get_or ls k []) k f) (rest : Back ls (suc k) ys m (flat (suc k) c)) where
  finished : n + length f.lists ≡ k
  finished = omega (arith, inner.rises, simp (length-append, length-take) at (ap length inner.lists_are))

  combine : Back ls n (define x (suc k) ∷ ys) m
      (record {
        own = define x (suc (n + length f.lists)) ∷ (flat (suc (n + length f.lists)) c).own;
        lists = f.lists ++ (f.own ∷ (flat (suc (n + length f.lists)) c).lists);
      })
  combine = rw (finished, inner.own_is) (record {
    own_is = ap (λ (zs : List Action). define x (suc k) ∷ zs) rest.own_is;
    lists_are = sym (append_assoc (take n ls) f.lists (get_or ls k [] ∷ (flat (suc k) c).lists))
        ∙ ap (λ (zs : List (List Action)). zs ++ (get_or ls k [] ∷ (flat (suc k) c).lists)) inner.lists_are
        ∙ sym (append_assoc (take k ls) (get_or ls k [] ∷ []) (flat (suc k) c).lists)
        ∙ ap (λ (zs : List (List Action)). zs ++ (flat (suc k) c).lists) (sym (take-suc ls k [] l))
        ∙ rest.lists_are;
    rises = omega (arith, inner.rises, rest.rises);
  })

back : (ls : List (List Action)) (d n m : ℕ) (xs : List Action) → Numbered ls n xs m → m ≤ d → Back ls n xs m (flat n (nest (suc d) ls xs))
unfolding nest
back ls d n m xs stop h = record { own_is = refl; lists_are = append-nil (take n ls); rises = omega arith }
back ls d n m xs (one a {xs = ys} g) h =
    let r : Back ls n ys m (flat n (nest (suc d) ls ys)) = back ls d n m ys g h in
    rw (add_single (λ k. nest d ls (get_or ls (k - 1) [])) a (nest (suc d) ls ys))
    (record { own_is = ap (λ (zs : List Action). single a ∷ zs) r.own_is; lists_are = r.lists_are; rises = r.rises })
back ls zero n m xs (function {h = x} {xs = ys} {k = k} l g r) h =
    let w : ⊥ = omega (arith, (back ls zero (suc k) m ys r h).rises) in absurd w
back ls (suc d) n m xs (function {h = x} {xs = ys} {k = k} l g r) h =
    let rest : Back ls (suc k) ys m (flat (suc k) (nest (suc (suc d)) ls ys)) = back ls (suc d) (suc k) m ys r h in
    let inner : Back ls n (get_or ls k []) k (flat n (nest (suc d) ls (get_or ls k []))) = back ls d n k (get_or ls k []) g (omega (arith, rest.rises)) in
    rw (less k) (combine ls n m k x ys (flat n (nest (suc d) ls (get_or ls k []))) (nest (suc (suc d)) ls ys) l inner rest)

pub flat_nest : (l : Lists) → Numbered l.functions 0 l.top (length l.functions) → lists_of_outcome (code l) ≡ l
flat_nest l g =
    let n : ℕ = length l.functions in
    let b : Back l.functions 0 l.top n (flat 0 (code l)) = back l.functions n 0 n l.top g (omega arith) in
    ap₂ (λ (xs : List Action) (ls : List (List Action)). record { top = xs; functions = ls }) b.own_is (b.lists_are ∙ take-length l.functions)

-- a nested list, flat and nested again

record Again (ls : List (List Action)) (d n : ℕ) (c : Code) : Type 0 where
  nested : nest (suc d) ls (flat n c).own ≡ c
  numbered : Numbered ls n (flat n c).own (n + length (flat n c).lists)

again : (ls pre post : List (List Action)) (d n : ℕ) (c : Code) → ls ≡ pre ++ ((flat n c).lists ++ post) → length pre ≡ n → n + length (flat n c).lists ≤ d → Again ls d n c
unfolding nest
again ls pre post d n end e p h = record { nested = refl; numbered = subst (λ (m : ℕ). Numbered ls n [] m) (omega arith) stop }
again ls pre post d n (act a c) e p h =
    let r : Again ls d n c = again ls pre post d n c e p h in
    record { nested = add_single (λ k. nest d ls (get_or ls (k - 1) [])) a (nest (suc d) ls (flat n c).own) ∙ ap (act a) r.nested; numbered = one a r.numbered }
again ls pre post zero n (fun x b c) e p h =
    let w : ⊥ = omega (arith, simp length-append at h) in absurd w
again ls pre post (suc d) n (fun x b c) e p h =
    let k : ℕ = n + length (flat n b).lists in
    let ours : List (List Action) = (flat n b).lists in
    let own : List Action = (flat n b).own in
    let theirs : List (List Action) = (flat (suc k) c).lists in
    let e-body : ls ≡ pre ++ (ours ++ (own ∷ (theirs ++ post))) = e ∙ ap (λ (zs : List (List Action)). pre ++ zs) (append_assoc ours (own ∷ theirs) post) in
    let e-rest : ls ≡ (pre ++ (ours ++ (own ∷ []))) ++ (theirs ++ post) =
    e-body ∙ sym (append_assoc pre (ours ++ (own ∷ [])) (theirs ++ post) ∙ ap (λ (zs : List (List Action)). pre ++ zs) (append_assoc ours (own ∷ []) (theirs ++ post))) in
    let p-rest : length (pre ++ (ours ++ (own ∷ []))) ≡ suc k = simp length-append (omega arith) in
    let at : get_or ls k [] ≡ own =
    rw (e-body, ← (append_assoc pre ours (own ∷ (theirs ++ post)))) (get_or_at (pre ++ ours) own (theirs ++ post) [] k (simp length-append (omega arith))) in
    let far : suc k + length theirs ≤ suc d = omega (arith, simp length-append at h) in
    let r : Again ls d n b = again ls pre (own ∷ (theirs ++ post)) d n b e-body p (omega arith) in
    let s : Again ls (suc d) (suc k) c = again ls (pre ++ (ours ++ (own ∷ []))) post (suc d) (suc k) c e-rest p-rest far in
    let body : Numbered ls n (get_or ls k []) k = rw at r.numbered in
    let inside : k < length ls = rw e-body (simp length-append (omega arith)) in
    let total : suc k + length theirs ≡ n + length (ours ++ (own ∷ theirs)) = simp length-append (omega arith) in
    record {
      nested = rw (less k, at) (ap₂ (fun x) r.nested s.nested);
      numbered = function inside body (subst (λ (m : ℕ). Numbered ls (suc k) (flat (suc k) c).own m) total s.numbered);
    }

pub nest_flat : (c : Code) → code (lists_of_outcome c) ≡ c
nest_flat c = (again (flat 0 c).lists [] [] (length (flat 0 c).lists) 0 c (sym (append-nil (flat 0 c).lists)) refl (omega arith)).nested

pub flat_numbered : (c : Code) → Numbered (lists_of_outcome c).functions 0 (lists_of_outcome c).top (length (lists_of_outcome c).functions)
flat_numbered c =
    subst (λ (m : ℕ). Numbered (flat 0 c).lists 0 (flat 0 c).own m) (omega arith)
    (again (flat 0 c).lists [] [] (length (flat 0 c).lists) 0 c (sym (append-nil (flat 0 c).lists)) refl (omega arith)).numbered
