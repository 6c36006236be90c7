-- What the pieces of finished lists say, with the pool and without it.
use Prim.Native.Nat.{ℕ, zero, suc, ◌+◌, ◌-◌, ◌≤◌, ◌<◌}
use mathlib.Core.Path.{◌≡◌, refl, sym}
use mathlib.Core.List.{List, [], ◌∷◌, ◌++◌, map, reverse, reverse-append}
use mathlib.Core.Bool.{Bool, true, false}
use native.Mathlib.Omega.{arith}
use lib.Dec.{T, eqb}
use lib.ListN.{length, get_or, take}
use Rattle.pcode.specs.Pcode.{Plain, Value, Action, Item}
use Rattle.action_format.specs.Lists.{all}
use Rattle.action_format.proofs.Tests.{and_first, and_second, and_both}
use Rattle.list_slice.specs.Entry.{Piece, op, ConstantPool, StoreRegister, GotoFrame, GotoLabel, GotoFrame2, branch, function, mark, value, Entry, entry, entries_of, piece_of}
use Rattle.list_slice.specs.Words.{joined, entry_at, run, cut}
use Rattle.list_slice.specs.Items.{References, value_of, plain, extended, added, gathered, items_of}
use Rattle.list_slice.specs.File.{text_in, in_file}
use Rattle.list_slice.specs.Compiled.{piece_named, pool_count}
use Rattle.list_slice.proofs.Pieces.{piece_back}
use Rattle.list_slice.proofs.Laid.{Rising, rising_le}
use Rattle.list_slice.proofs.Read.{map_append}
use Rattle.list_slice.proofs.Determined.{gathered_same}
use Rattle.codegen_state.specs.View.{gather, good}
use Rattle.codegen_state.specs.Does.{Written}

-- entries that are those of pieces

run_written : (w : List ℕ) (i n : ℕ) → ((j : ℕ) → i ≤ j → j < i + n → Written w j) → run w i n ≡ entries_of (map piece_of (run w i n))
unfolding run entries_of
run_written w i zero h = refl
run_written w i (suc n) h = rw (h i (omega arith) (omega arith), ← run_written w (suc i) n (λ j p q. h j (omega arith) (omega arith)))

pub cut_written : (w : List ℕ) (p : ℕ) (es : List ℕ) (low : ℕ) → Rising p es low → ((j : ℕ) → p ≤ j → j < low → Written w j) →
    cut w p es ≡ map entries_of (map (map piece_of) (cut w p es))
unfolding cut
cut_written w p [] low h k = refl
cut_written w p (e ∷ es) low h k =
    let l = rising_le e es low h.1 in
    rw (← run_written w p (e - p) (λ j x y. k j x (omega (arith, h.0))), ← cut_written w e es low h.1 (λ j x y. k j (omega (arith, h.0)) y))

-- good pieces: none is a ConstantPool, and what they name is there

no_count : (p : Piece) → T (eqb (length (pool_count p)) 0) → pool_count p ≡ []
no_count (ConstantPool n) h = absurd h
no_count (op o) h = refl
no_count (StoreRegister r) h = refl
no_count (GotoFrame n) h = refl
no_count (GotoLabel r) h = refl
no_count (GotoFrame2 b) h = refl
no_count (branch b l) h = refl
no_count (function n r) h = refl
no_count (mark l) h = refl
no_count (value f v) h = refl

module _ (F w : List ℕ) where
  pub no_counts : (i n : ℕ) → ((j : ℕ) → i ≤ j → j < i + n → T (good F (piece_of (entry_at w j)))) → joined (map pool_count (map piece_of (run w i n))) ≡ []
  unfolding run joined
  no_counts i zero h = refl
  no_counts i (suc n) h =
      let p = piece_of (entry_at w i) in
      rw (no_count p (and_second (piece_named F p) (eqb (length (pool_count p)) 0) (h i (omega arith) (omega arith)))) (no_counts (suc i) n (λ j x y. h j (omega arith) (omega arith)))

  pub all_named : (i n : ℕ) → ((j : ℕ) → i ≤ j → j < i + n → T (good F (piece_of (entry_at w j)))) → T (all (piece_named F) (map piece_of (run w i n)))
  unfolding run
  all_named i zero h = tt
  all_named i (suc n) h =
      let p = piece_of (entry_at w i) in
      and_both (piece_named F p) (all (piece_named F) (map piece_of (run w (suc i) n))) (and_first (piece_named F p) (eqb (length (pool_count p)) 0) (h i (omega arith) (omega arith)))
      (all_named (suc i) n (λ j x y. h j (omega arith) (omega arith)))

  -- they say the same with every pool
  pub run_reads : (pool : List ℕ) (i n : ℕ) → ((j : ℕ) → i ≤ j → j < i + n → T (good F (piece_of (entry_at w j)))) → gathered (in_file F pool) (map piece_of (run w i n)) ≡ gather F (run w i n)
  unfolding gather
  run_reads pool i n h = gathered_same F pool [] (map piece_of (run w i n)) (rw (no_counts i n h) tt)

-- the pool's action stands before all others

under : (r : References) (p : Piece) (q : Plain) (is : List Item) → added r p (is ++ (plain q ∷ [])) ≡ added r p is ++ (plain q ∷ [])
under r (op o) q is = refl
under r (ConstantPool n) q is = refl
under r (StoreRegister n) q is = refl
under r (GotoFrame n) q is = refl
under r (GotoLabel s) q is = refl
under r (GotoFrame2 b) q is = refl
under r (branch b l) q is = refl
under r (function n f) q is = refl
under r (mark l) q is = refl
under r (value true v) q is = refl
under r (value false v) q is = later (value_of r v) is
  where
    later : (v : Value) (js : List Item) → extended v (js ++ (plain q ∷ [])) ≡ extended v js ++ (plain q ∷ [])
    later v [] = refl
    later v (Item.action (Action.push us) ∷ js) = refl
    later v (Item.action (Action.plain p) ∷ js) = refl
    later v (Item.action (Action.branch b l) ∷ js) = refl
    later v (Item.action (Action.define h n) ∷ js) = refl
    later v (Item.mark l ∷ js) = refl

pub gathered_pool : (r : References) (ps : List Piece) (n : ℕ) → gathered r (ps ++ (ConstantPool n ∷ [])) ≡ gathered r ps ++ (plain (Plain.ConstantPool (r.strings n)) ∷ [])
unfolding gathered
gathered_pool r [] n = refl
gathered_pool r (p ∷ ps) n = rw (gathered_pool r ps n) (under r p (Plain.ConstantPool (r.strings n)) (gathered r ps))

pub joined_map : {A B : Type 0} (f : A → B) (ls : List (List A)) → joined (map (map f) ls) ≡ map f (joined ls)
unfolding joined
joined_map f [] = refl
joined_map f (l ∷ ls) = rw (joined_map f ls) (sym (map_append f l (joined ls)))

-- finished lists, read with the pool
pub cut_reads : (F w pool : List ℕ) (p : ℕ) (es : List ℕ) (low : ℕ) → Rising p es low → ((j : ℕ) → p ≤ j → j < low → T (good F (piece_of (entry_at w j)))) →
    map (items_of (in_file F pool)) (map (map piece_of) (cut w p es)) ≡ map reverse (map (gather F) (cut w p es))
unfolding cut items_of
cut_reads F w pool p [] low h k = refl
cut_reads F w pool p (e ∷ es) low h k =
    let l = rising_le e es low h.1 in
    rw (run_reads F w pool p (e - p) (λ j x y. k j x (omega (arith, h.0))), cut_reads F w pool e es low h.1 (λ j x y. k j (omega (arith, h.0)) y))

-- a list that begins with the pool's entry
pub pool_first : (F pool : List ℕ) (es : List Entry) (n : ℕ) →
    items_of (in_file F pool) (map piece_of (es ++ (entry 0x88 n 0 ∷ []))) ≡ plain (Plain.ConstantPool (map (text_in F) (take n pool))) ∷ items_of (in_file F pool) (map piece_of es)
unfolding items_of
pool_first F pool es n =
    rw (map_append piece_of es (entry 0x88 n 0 ∷ []), piece_back (ConstantPool n), gathered_pool (in_file F pool) (map piece_of es) n)
    (reverse-append (gathered (in_file F pool) (map piece_of es)) (plain (Plain.ConstantPool (map (text_in F) (take n pool))) ∷ []))

pub all_taken : (f : ℕ → Bool) (k : ℕ) (xs : List ℕ) → ((i : ℕ) → i < k → T (f (get_or xs i 0))) → T (all f (take k xs))
all_taken f zero xs h = tt
all_taken f (suc k) [] h = tt
all_taken f (suc k) (x ∷ xs) h = and_both (f x) (all f (take k xs)) (h 0 (omega arith)) (all_taken f k xs (λ i p. h (suc i) (omega arith)))
