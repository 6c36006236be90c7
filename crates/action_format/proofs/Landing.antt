-- In whatever encodes, every branch of every list lands at its place, in its own body.
use Prim.Native.Nat.{ℕ, zero, suc, ◌+◌, ◌-◌, ◌<◌}
use mathlib.Core.Path.{◌≡◌, refl, ap, ap₂, sym, ◌∙◌, subst}
use mathlib.Core.List.{List, [], ◌∷◌, ◌++◌, append_assoc}
use mathlib.Core.Option.{some}
use native.Mathlib.Omega.{arith}
use native.Mathlib.Decide.{dec_lt}
use lib.Dec.{T, leb→le}
use lib.ListN.{length, get_or, get_elem?, length-append, get_or-eq_default}
use lib.Seq.{take-length}
use Rattle.pcode.specs.Pcode.{Header, Branching, Action, plain, push, branch, define}
use Rattle.action_format.specs.Lists.{Lists, all_lists, simple, pushing, branching, Numbered}
use Rattle.action_format.specs.Rules.{fits, list_fits, pool_count, Limits, OfLowering}
use Rattle.action_format.specs.Code.{Code, end, act, fun, add, nest_list, nest, code}
use Rattle.action_format.specs.Bytes.{Bytes, single_bytes, header_bytes, code_bytes}
use Rattle.action_format.specs.Offsets.{sizes, sum, position, offset, reaches, offsets, by_offset, near, all_near}
use Rattle.action_format.specs.Encode.{short, bytes, encode}
use Rattle.action_format.specs.ByList.{list_of, body, body_bytes, begins, action_bytes_at, actions_bytes, action_near}
use Rattle.action_format.specs.Landing.{Stands, Lands}
use Rattle.action_format.proofs.Tests.{and_first, and_second, All, all_at, never, some_of, elem, all_true}
use Rattle.action_format.proofs.Bodies.{three}
use Rattle.action_format.proofs.Offsets.{same_size, same_length, moved_law}
use Rattle.action_format.proofs.Numbers.{less}
use Rattle.action_format.proofs.Rules.{as_long_as}
use Rattle.action_format.proofs.Complete.{encoded, operands}
use Rattle.action_format.proofs.Finished.{same_depth, Finished, finished, near_within, short_within, Named, named}

-- the bytes of a list are those of its actions, in order; inner gives the functions' bodies

module _ (inner : ℕ → Code) where
  abbrev nested_bytes : List ℕ → ℕ → Action → Bytes
  nested_bytes ss i (plain p) = single_bytes (simple p)
  nested_bytes ss i (push vs) = single_bytes (pushing vs)
  nested_bytes ss i (branch b p) = single_bytes (branching b (offset (position ss (suc i)) (position ss p)))
  nested_bytes ss i (define h k) = header_bytes h (length (code_bytes (by_offset (inner k)))) ++ code_bytes (by_offset (inner k))

  add_bytes : (ss : List ℕ) (i : ℕ) (a : Action) (c : Code) → code_bytes (offsets ss i (add inner a c)) ≡ nested_bytes ss i a ++ code_bytes (offsets ss (suc i) c)
  unfolding code_bytes
  add_bytes ss i (plain p) c = refl
  add_bytes ss i (push vs) c = refl
  add_bytes ss i (branch b p) c = refl
  add_bytes ss i (define h k) c = sym (append_assoc (header_bytes h (length (code_bytes (by_offset (inner k))))) (code_bytes (by_offset (inner k))) (code_bytes (offsets ss (suc i) c)))

  add_sizes : (ss : List ℕ) (i : ℕ) (a : Action) (c : Code) → sizes (add inner a c) ≡ length (nested_bytes ss i a) ∷ sizes c
  add_sizes ss i (plain p) c = refl
  add_sizes ss i (push vs) c = refl
  add_sizes ss i (branch b p) c = ap (λ (n : ℕ). n ∷ sizes c) (sym (same_size ss i (branching b p)))
  add_sizes ss i (define h k) c =
      rw (length-append (header_bytes h (length (code_bytes (by_offset (inner k))))) (code_bytes (by_offset (inner k))), same_length (sizes (inner k)) 0 (inner k))

  record Laid (ss : List ℕ) (s : ℕ) (c : Code) (i : ℕ) (own : Bytes) : Type 0 where
    before : Bytes
    after : Bytes
    is : code_bytes (offsets ss s c) ≡ before ++ (own ++ after)
    starts : length before ≡ position (sizes c) i
    ends : length (before ++ own) ≡ position (sizes c) (suc i)

  laid : (ss : List ℕ) (s : ℕ) (xs : List Action) (i : ℕ) (a : Action) → get_elem? xs i ≡ some a → Laid ss s (nest_list inner xs) i (nested_bytes ss (s + i) a)
  unfolding position
  laid ss s [] i a e = never a e
  laid ss s (x ∷ xs) zero a e =
      let z : x ≡ a = some_of e in
      let n : s + 0 ≡ s = omega arith in
      let p : sizes (add inner x (nest_list inner xs)) ≡ length (nested_bytes ss s x) ∷ sizes (nest_list inner xs) = add_sizes ss s x (nest_list inner xs) in
      rw (← z, n) (record {
        before = [];
        after = code_bytes (offsets ss (suc s) (nest_list inner xs));
        is = add_bytes ss s x (nest_list inner xs);
        starts = refl;
        ends = rw p (omega arith);
      })
  laid ss s (x ∷ xs) (suc i) a e =
      let r = laid ss (suc s) xs i a e in
      let n : s + suc i ≡ suc s + i = omega arith in
      let own : Bytes = nested_bytes ss (suc s + i) a in
      let c : Code = nest_list inner xs in
      let p : sizes (add inner x c) ≡ length (nested_bytes ss s x) ∷ sizes c = add_sizes ss s x c in
      rw n (record {
        before = nested_bytes ss s x ++ r.before;
        after = r.after;
        is = add_bytes ss s x c ∙ ap (λ (z : Bytes). nested_bytes ss s x ++ z) r.is ∙ sym (append_assoc (nested_bytes ss s x) r.before (own ++ r.after));
        starts = rw (p, length-append (nested_bytes ss s x) r.before, r.starts);
        ends = rw (p, append_assoc (nested_bytes ss s x) r.before own, length-append (nested_bytes ss s x) (r.before ++ own), r.ends);
      })

  -- refusal 11's test at a branch

  near_rest : (ss : List ℕ) (s : ℕ) (x : Action) (c : Code) → T (near ss s (add inner x c)) → T (near ss (suc s) c)
  near_rest ss s (plain p) c h = h
  near_rest ss s (push vs) c h = h
  near_rest ss s (branch b p) c h = and_second (reaches (position ss (suc s)) (position ss p)) (near ss (suc s) c) h
  near_rest ss s (define x k) c h = and_second (near (sizes (inner k)) 0 (inner k)) (near ss (suc s) c) h

  near_at_lem : (ss : List ℕ) (s : ℕ) (xs : List Action) (i : ℕ) (b : Branching) (p : ℕ) → get_elem? xs i ≡ some (branch b p) → T (near ss s (nest_list inner xs)) →
      T (reaches (position ss (suc (s + i))) (position ss p))
  near_at_lem ss s [] i b p e h = never (branch b p) e
  near_at_lem ss s (x ∷ xs) zero b p e h =
      let c : Code = nest_list inner xs in
      let n : s + 0 ≡ s = omega arith in
      rw n (and_first (reaches (position ss (suc s)) (position ss p)) (near ss (suc s) c) (subst (λ (z : Action). T (near ss s (add inner z c))) (some_of e) h))
  near_at_lem ss s (x ∷ xs) (suc i) b p e h =
      let n : s + suc i ≡ suc s + i = omega arith in
      rw n (near_at_lem ss (suc s) xs i b p e (near_rest ss s x (nest_list inner xs) h))

nothing : code_bytes end ≡ []
unfolding code_bytes
nothing = refl

whole_size : (c : Code) → position (sizes c) (length (sizes c)) ≡ length (code_bytes c)
unfolding position code_bytes
whole_size c = ap sum (take-length (sizes c)) ∙ go c
  where
    go : (c : Code) → sum (sizes c) ≡ length (code_bytes c)
    go end = refl
    go (act a c) = rw (length-append (single_bytes a) (code_bytes c), go c)
    go (fun h b c) = rw (three (header_bytes h (length (code_bytes b))) (code_bytes b) (code_bytes c), go c) (omega arith)

module _ (l : Lists) (g : Numbered l.functions 0 l.top (length l.functions)) where
  abbrev pub deep : ℕ
  deep = length l.functions

  abbrev pub inner : ℕ → Code
  inner k = nest deep l.functions (get_or l.functions (k - 1) [])

  finished_list : (j : ℕ) → j < deep → Finished l.functions j (code l)
  finished_list j q = finished l.functions deep 0 deep l.top g (omega arith) (omega arith) j (omega arith) q

  -- what holds of the top list, of each finished list and of an empty one holds of list k
  of_list : (Q : List Action → Type 0) → Q l.top → ((j : ℕ) → Finished l.functions j (code l) → Q (get_or l.functions j [])) → Q [] → (k : ℕ) → Q (list_of l k)
  of_list Q t f e zero = t
  of_list Q t f e (suc j) = go (dec_lt j deep)
    where
      go : Dec (j < deep) → Q (get_or l.functions j [])
      go (yes q) = f j (finished_list j q)
      go (no q) = let z : get_or l.functions j [] ≡ [] = get_or-eq_default l.functions [] (omega arith) in subst Q (sym z) e

  pub are_named : (k : ℕ) → All (Named l.functions) (list_of l k)
  are_named = of_list (All (Named l.functions)) (named l.functions 0 deep l.top g)
      (λ j f. named l.functions f.from j (get_or l.functions j []) f.numbered) tt

  bodies_near : T (all_near (code l)) → (k : ℕ) → T (all_near (body l k))
  unfolding nest
  bodies_near t = of_list (λ xs. T (all_near (nest (suc deep) l.functions xs))) t (λ j f. near_within (sizes (code l)) 0 f.is_within t) tt

  pub bodies_short : T (short (code l)) → (k : ℕ) → T (short (body l k))
  unfolding nest
  bodies_short t = of_list (λ xs. T (short (nest (suc deep) l.functions xs))) t (λ j f. short_within f.is_within t) tt

  deep_enough : (d : ℕ) → d ≡ deep → (k n : ℕ) → k < deep → Numbered l.functions n (get_or l.functions k []) k →
      nest d l.functions (get_or l.functions k []) ≡ nest (suc deep) l.functions (get_or l.functions k [])
  deep_enough zero z k n q r = let w : ⊥ = omega arith in absurd w
  deep_enough (suc d) z k n q r = (same_depth l.functions d deep n k (get_or l.functions k []) r (omega arith) (omega arith)).1

  pub same_body : (x : Header) (j : ℕ) → Named l.functions (define x j) → inner j ≡ body l j
  same_body x j q = rw (q.2, less q.0) (deep_enough deep refl q.0 q.1 q.3 q.4)

  same_bytes_lem : (k i : ℕ) (a : Action) → Named l.functions a → nested_bytes inner (sizes (body l k)) i a ≡ action_bytes_at l k i a
  same_bytes_lem k i (plain p) q = refl
  same_bytes_lem k i (push vs) q = refl
  same_bytes_lem k i (branch b p) q = refl
  same_bytes_lem k i (define x j) q =
      ap (λ (c : Code). header_bytes x (length (code_bytes (by_offset c))) ++ code_bytes (by_offset c)) (same_body x j q)

  -- the bytes of a body are the records of its list's actions
  pub by_actions : (k : ℕ) → body_bytes l k ≡ actions_bytes l k 0 (list_of l k)
  unfolding nest
  by_actions k = go 0 (list_of l k) (are_named k)
    where
      go : (i : ℕ) (xs : List Action) → All (Named l.functions) xs → code_bytes (offsets (sizes (body l k)) i (nest_list inner xs)) ≡ actions_bytes l k i xs
      go i [] q = nothing
      go i (a ∷ xs) q = add_bytes inner (sizes (body l k)) i a (nest_list inner xs) ∙ ap₂ ◌++◌ (same_bytes_lem k i a q.0) (go (suc i) xs q.1)

  -- each stands where its place begins, and the place after the last is the body's end
  pub stands : (k i : ℕ) (a : Action) → get_elem? (list_of l k) i ≡ some a → Stands l k i (action_bytes_at l k i a)
  unfolding nest
  stands k i a q =
      let r : Laid inner (sizes (body l k)) 0 (nest_list inner (list_of l k)) i (nested_bytes inner (sizes (body l k)) (0 + i) a) =
      laid inner (sizes (body l k)) 0 (list_of l k) i a q in
      let s : Stands l k i (nested_bytes inner (sizes (body l k)) (0 + i) a) =
      record { before = r.before; after = r.after; in_body = r.is; starts = r.starts; ends = r.ends } in
      subst (Stands l k i) (ap (λ (m : ℕ). nested_bytes inner (sizes (body l k)) m a) (omega arith)
      ∙ same_bytes_lem k i a (elem (Named l.functions) (list_of l k) i a (are_named k) q)) s

  pub begins_next : (k i : ℕ) (a : Action) → get_elem? (list_of l k) i ≡ some a → begins l k (suc i) ≡ begins l k i + length (action_bytes_at l k i a)
  begins_next k i a q =
      let s : Stands l k i (action_bytes_at l k i a) = stands k i a q in
      sym s.ends ∙ length-append s.before (action_bytes_at l k i a) ∙ ap (λ (n : ℕ). n + length (action_bytes_at l k i a)) s.starts

  pub end_begins : (k : ℕ) → begins l k (length (list_of l k)) ≡ length (body_bytes l k)
  end_begins k =
      ap (position (sizes (body l k))) (sym (as_long_as deep l.functions (list_of l k))) ∙ whole_size (body l k) ∙ sym (same_length (sizes (body l k)) 0 (body l k))

  -- refusal 11's test at each action
  pub near_actions : T (all_near (code l)) → (k i : ℕ) (a : Action) → get_elem? (list_of l k) i ≡ some a → T (action_near l k i a)
  unfolding nest
  near_actions t k i (plain p) q = tt
  near_actions t k i (push vs) q = tt
  near_actions t k i (branch b p) q =
      let n : 0 + i ≡ i = omega arith in
      rw n at (near_at_lem inner (sizes (body l k)) 0 (list_of l k) i b p q (bodies_near t k))
  near_actions t k i (define x j) q = tt

module _ (limits : Limits) (l : Lists) (h : OfLowering limits l) (room : ℕ) (bs : Bytes) (e : encode l room ≡ bytes bs) where
  -- the top list's body is all the bytes before End
  pub top_body : bs ≡ body_bytes l 0 ++ (0 ∷ [])
  top_body = sym (encoded l room bs e).bytes_are

  -- every Jump and If of every list lands at its place
  pub branch_lands : (k i : ℕ) (b : Branching) (p : ℕ) → get_elem? (list_of l k) i ≡ some (branch b p) → Lands l k i b p
  branch_lands k i b p q =
      let s : Stands l k i (action_bytes_at l k i (branch b p)) = stands l h.numbered k i (branch b p) q in
      let t : T (reaches (begins l k (suc i)) (begins l k p)) = near_actions l h.numbered (encoded l room bs e).is_near k i (branch b p) q in
      let n : ℕ = length (list_of l k) in
      let f : T (list_fits (pool_count l) (list_of l k)) = all_at (list_fits (pool_count l)) (all_lists l) k tt (operands limits l h) in
      record {
        offset_is = offset (begins l k (suc i)) (begins l k p);
        stands = s;
        lands = rw s.ends (moved_law (begins l k (suc i)) (begins l k p) t);
        inside = leb→le p n (elem (λ a. T (fits (pool_count l) n a)) (list_of l k) i (branch b p) (all_true (fits (pool_count l) n) (list_of l k) f) q);
      }
