-- What the rules of lists say of the nested list.
use Prim.Native.Nat.{ℕ, zero, suc, ◌-◌, ◌≤◌}
use mathlib.Core.Path.{◌≡◌, refl, ap}
use mathlib.Core.List.{List, [], ◌∷◌}
use mathlib.Core.Bool.{Bool}
use native.Mathlib.Omega.{arith}
use lib.Dec.{T, leb→le, ltb→lt, lt→ltb}
use lib.ListN.{length, get_or, length-append}
use Rattle.pcode.specs.Pcode.{Value, Action, Null, Undefined, True, False, String, Integer, Float, Register, Constant, op, ConstantPool, StoreRegister, GotoFrame, GotoFrame2, GotoLabel, plain, push, branch, define}
use Rattle.action_format.specs.Lists.{Lists, all_lists, all, Single, simple, pushing, branching, single}
use Rattle.action_format.specs.Strings.{value_strings, values_strings, strings, no_zero}
use Rattle.action_format.specs.Rules.{value_fits, filled, fits, pool_count}
use Rattle.action_format.specs.Code.{Code, end, act, fun, nest_list, nest, code}
use Rattle.action_format.specs.Bytes.{zero_ended}
use Rattle.action_format.specs.Offsets.{sizes, single_offset, offsets}
use Rattle.action_format.specs.Encode.{short}
use Rattle.action_format.proofs.Tests.{and_first, and_second, All, all_append, all_at}
use Rattle.action_format.proofs.Readers.{as_many}
use Rattle.action_format.proofs.Values.{ValueOk}
use Rattle.action_format.proofs.Records.{SingleOk, string_fills}
use Rattle.action_format.proofs.Bodies.{CodeOk, short_single}
use Rattle.action_format.proofs.Offsets.{Inside}

-- a test of every action of every list, which may look at the list's length

module _ (f : ℕ → Action → Bool) where
  abbrev pub Every : ℕ → Code → Type 0
  Every n end = Unit
  Every n (act a c) = T (f n (single a)) × Every n c
  Every n (fun h b c) = ((k : ℕ) × T (f n (define h k))) × Every (length (sizes b)) b × Every n c

  abbrev pub every : List Action → Bool
  every xs = all (f (length xs)) xs

  every_list : (body : ℕ → Code) → ((k : ℕ) → Every (length (sizes (body k))) (body k)) → (n : ℕ) (xs : List Action) → T (all (f n) xs) → Every n (nest_list body xs)
  every_list body inner n [] h = tt
  every_list body inner n (plain p ∷ xs) h = (and_first (f n (plain p)) (all (f n) xs) h, every_list body inner n xs (and_second (f n (plain p)) (all (f n) xs) h))
  every_list body inner n (push vs ∷ xs) h = (and_first (f n (push vs)) (all (f n) xs) h, every_list body inner n xs (and_second (f n (push vs)) (all (f n) xs) h))
  every_list body inner n (branch b p ∷ xs) h = (and_first (f n (branch b p)) (all (f n) xs) h, every_list body inner n xs (and_second (f n (branch b p)) (all (f n) xs) h))
  every_list body inner n (define x k ∷ xs) h =
      ((k, and_first (f n (define x k)) (all (f n) xs) h), inner k, every_list body inner n xs (and_second (f n (define x k)) (all (f n) xs) h))

as_long : (body : ℕ → Code) (xs : List Action) → length (sizes (nest_list body xs)) ≡ length xs
as_long body [] = refl
as_long body (plain p ∷ xs) = ap suc (as_long body xs)
as_long body (push vs ∷ xs) = ap suc (as_long body xs)
as_long body (branch b p ∷ xs) = ap suc (as_long body xs)
as_long body (define h k ∷ xs) = ap suc (as_long body xs)

pub as_long_as : (d : ℕ) (ls : List (List Action)) (xs : List Action) → length (sizes (nest (suc d) ls xs)) ≡ length xs
unfolding nest
as_long_as d ls xs = as_long (λ k. nest d ls (get_or ls (k - 1) [])) xs

every_nested : (f : ℕ → Action → Bool) (ls : List (List Action)) → T (all (every f) ls) → (d : ℕ) (xs : List Action) → T (every f xs) →
    Every f (length (sizes (nest d ls xs))) (nest d ls xs)
unfolding nest
every_nested f ls h zero xs k = tt
every_nested f ls h (suc d) xs k =
    let body : ℕ → Code = λ i. nest d ls (get_or ls (i - 1) []) in
    rw (as_long body xs) (every_list f body (λ i. every_nested f ls h d (get_or ls (i - 1) []) (all_at (every f) ls (i - 1) tt h)) (length xs) xs k)

pub every_code : (f : ℕ → Action → Bool) (l : Lists) → T (all (every f) (all_lists l)) → Every f (length (sizes (code l))) (code l)
every_code f l h =
    every_nested f l.functions (and_second (every f l.top) (all (every f) l.functions) h) (suc (length l.functions)) l.top
    (and_first (every f l.top) (all (every f) l.functions) h)

-- branches inside their lists

pub fits_inside : (pool n : ℕ) (c : Code) → Every (fits pool) n c → Inside n c
fits_inside pool n end h = tt
fits_inside pool n (act (simple p) c) h = (tt, fits_inside pool n c h.1)
fits_inside pool n (act (pushing vs) c) h = (tt, fits_inside pool n c h.1)
fits_inside pool n (act (branching b p) c) h = (leb→le p n h.0, fits_inside pool n c h.1)
fits_inside pool n (fun x b c) h = (fits_inside pool (length (sizes b)) b h.1, fits_inside pool n c h.2)

-- operands that can be read back

pub value_wider : (pool pool' : ℕ) → pool ≤ pool' → (v : Value) → T (value_fits pool v) → T (value_fits pool' v)
value_wider pool pool' l (String s) h = h
value_wider pool pool' l Null h = h
value_wider pool pool' l Undefined h = h
value_wider pool pool' l True h = h
value_wider pool pool' l False h = h
value_wider pool pool' l (Integer v) h = h
value_wider pool pool' l (Float v) h = h
value_wider pool pool' l (Register r) h = h
value_wider pool pool' l (Constant i) h = lt→ltb i pool' (omega (arith, ltb→lt i pool h))

module _ (pool : ℕ) (small : pool ≤ 65536) where
  values_ok : (vs : List Value) → T (all (value_fits pool) vs) → T (all no_zero (values_strings vs)) → All ValueOk vs
  values_ok [] h k = tt
  values_ok (v ∷ vs) h k =
      let s : T (all no_zero (value_strings v)) × T (all no_zero (values_strings vs)) = all_append no_zero (value_strings v) (values_strings vs) k in (
        record { fits = value_wider pool 65536 small v (and_first (value_fits pool v) (all (value_fits pool) vs) h); no_zeros = s.0 },
        values_ok vs (and_second (value_fits pool v) (all (value_fits pool) vs) h) s.1,
      )

  single_ok : (ss : List ℕ) (i n : ℕ) (a : Single) → T (fits pool n (single a)) → T (all no_zero (strings (single a))) → SingleOk (single_offset ss i a)
  single_ok ss i n (simple p) h k = (h, k)
  single_ok ss i n (pushing vs) h k = values_ok vs (and_second (filled vs) (all (value_fits pool) vs) h) k
  single_ok ss i n (branching b p) h k = omega arith

  pub code_ok : (ss : List ℕ) (i n : ℕ) (c : Code) → Every (fits pool) n c → Every (λ _ a. all no_zero (strings a)) n c → CodeOk (offsets ss i c)
  code_ok ss i n end h k = tt
  code_ok ss i n (act a c) h k = (single_ok ss i n a h.0 k.0, code_ok ss (suc i) n c h.1 k.1)
  code_ok ss i n (fun x b c) h k =
      (record { fits = h.0.1; no_zeros = k.0.1 }, code_ok (sizes b) 0 (length (sizes b)) b h.1 k.1, code_ok ss (suc i) n c h.2 k.2)

-- a pool whose record is short has no more strings than an index can name

pool_fits : (ls : List (List Action)) (xs : List Action) → T (short (nest (suc (length ls)) ls xs)) → pool_count (record { top = xs; functions = ls }) ≤ 65536
unfolding nest
pool_fits ls [] h = omega arith
pool_fits ls (plain (op o) ∷ xs) h = omega arith
pool_fits ls (plain (ConstantPool ss) ∷ xs) h =
    omega (arith, as_many zero_ended string_fills ss, simp length-append at (short_single (simple (ConstantPool ss)) (nest (suc (length ls)) ls xs) h))
pool_fits ls (plain (StoreRegister r) ∷ xs) h = omega arith
pool_fits ls (plain (GotoFrame n) ∷ xs) h = omega arith
pool_fits ls (plain (GotoFrame2 p) ∷ xs) h = omega arith
pool_fits ls (plain (GotoLabel s) ∷ xs) h = omega arith
pool_fits ls (push vs ∷ xs) h = omega arith
pool_fits ls (branch b p ∷ xs) h = omega arith
pool_fits ls (define x k ∷ xs) h = omega arith

pub pool_small : (l : Lists) → T (short (code l)) → pool_count l ≤ 65536
pool_small l h = pool_fits l.functions l.top h
