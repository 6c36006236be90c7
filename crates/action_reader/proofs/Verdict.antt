-- What is refused has no lists, and what is finished has those that stand in the slice.
use Prim.Native.Nat.{ℕ, zero, suc, ◌+◌, ◌≤◌}
use mathlib.Core.Path.{◌≡◌, refl, sym, ap, ◌∙◌, subst}
use mathlib.Core.List.{List, [], ◌∷◌, ◌++◌, map}
use mathlib.Core.Bool.{Bool, true, false, cond, ◌&&◌, true≢false}
use mathlib.Core.Option
use mathlib.Core.Option.{Option, none, some}
use native.Mathlib.Omega.{arith}
use lib.Dec.{T}
use lib.ListN.{length, length-map, length-append}
use Rattle.hir.specs.Hir.{Str}
use Rattle.pcode.specs.Pcode.{ConstantPool, plain}
use Rattle.action_format.specs.Lists.{Lists, Single, simple, all}
use Rattle.action_format.specs.Strings.{zero_free}
use Rattle.action_format.specs.Rules.{Limits, total, shaped}
use Rattle.action_format.specs.Code.{Code, act}
use Rattle.action_format.specs.Bytes.{Bytes, single_bytes, code_bytes}
use Rattle.action_format.specs.Offsets.{sizes, and_then}
use Rattle.action_format.specs.Readers.{bind, pure, given}
use Rattle.action_format.specs.Decode.{alone, read_record, read_list, ended, read_top, decode}
use Rattle.action_format.proofs.Tests.{is_true, given_some, given_true, All, never, some_of}
use Rattle.action_format.proofs.Bodies.{stops_at_End}
use Rattle.action_format.proofs.Resume.{list_single}
use Rattle.list_slice.specs.Read.{Placed, at, entries_read}
use Rattle.action_reader.specs.Walk.{Ended, ended_at, Spread, spread, spread_of, Open, finish, resume, total_lists, weight, one, valued, bad, lost, holds, bounds, raw, settled, lands, sure, sure_list}
use Rattle.action_reader.specs.View.{Pooled}
use Rattle.action_reader.proofs.Weights.{rises, from_start}
use Rattle.action_reader.proofs.Steps.{body_length, step_end}
use Rattle.action_reader.proofs.Lands.{froms, bounds_are}
use Rattle.action_reader.proofs.Raw.{goes, raw_lands}
use Rattle.action_reader.proofs.Passes.{none_bad, bad_none}
use Rattle.action_reader.proofs.Judge.{Right, enough, needed, result, decoded, read_entries}

-- the top list's code begins with the first record
pub record Top (b : Bytes) (a : Single) (c : Code) : Type 0 where
  pub rest : Code
  pub is : c ≡ act a rest
  pub length_is_lem : length b ≡ suc (length (code_bytes c))

pub top_of : (b : Bytes) (a : Single) (r : Bytes) (c : Code) → read_record b ≡ some (alone a, r) → read_top b ≡ some c → Top b a c
top_of b a r c e t = go (read_list r) (list_single b a r e)
  where
    last : (x : Code) (left : Bytes) → read_list b ≡ some (act a x, left) → ended (act a x) left ≡ some c → Top b a c
    last x [] q z = never c z
    last x (zero ∷ []) q z =
        let y : act a x ≡ c = some_of z in
        record { rest = x; is = sym y; length_is_lem = body_length b (act a x) (0 ∷ []) q ∙ rw (← y) (omega arith) }
    last x (zero ∷ (n ∷ left)) q z = never c z
    last x (suc n ∷ left) q z = never c z

    go : (o : Option (Code × Bytes)) → read_list b ≡ bind o (λ x. pure (act a x)) → Top b a c
    go none q = never c (sym (ap (λ (z : Option (Code × Bytes)). and_then z (λ x. ended x.0 x.1)) q) ∙ t)
    go (some x) q = last x.0 x.1 q (sym (ap (λ (z : Option (Code × Bytes)). and_then z (λ x. ended x.0 x.1)) q) ∙ t)

zeros : (A : Type 0) (xs : List A) → total (λ (x : A). 0) xs ≡ 0
zeros A [] = refl
zeros A (x ∷ xs) = omega (arith, zeros A xs)

lists_good : (k : ℕ) (ls : List Ended) → All (λ l. T (all (holds k) l.actions)) ls → total_lists (bad k) ls ≡ 0
lists_good k [] h = refl
lists_good k (l ∷ ls) h = omega (arith, bad_none k l.actions h.0, lists_good k ls h.1)

good_lists : (k : ℕ) (ls : List Ended) → total_lists (bad k) ls ≡ 0 → All (λ l. T (all (holds k) l.actions)) ls
good_lists k [] h = tt
good_lists k (l ∷ ls) h = (none_bad k l.actions (omega arith), good_lists k ls (omega arith))

lists_land : (ls : List Ended) → All (λ l. T (all (goes (bounds l)) l.actions)) ls → total lost ls ≡ 0
lists_land [] h = refl
lists_land (l ∷ ls) h = rw (raw_lands (bounds l) l.actions, is_true (all (goes (bounds l)) l.actions) h.0, lists_land ls h.1)

land_lists : (ls : List Ended) → total lost ls ≡ 0 → All (λ l. T (all (goes (bounds l)) l.actions)) ls
land_lists [] h = tt
land_lists (l ∷ ls) h = (go (all (lands (bounds l)) (raw l.actions)) (raw_lands (bounds l) l.actions) h, land_lists ls (omega arith))
  where
    go : (t : Bool) → t ≡ all (goes (bounds l)) l.actions → cond t 0 1 + total lost ls ≡ 0 → T (all (goes (bounds l)) l.actions)
    go true q z = subst T q tt
    go false q z = let w : ⊥ = omega arith in absurd w

module _ (limits : Limits) (b : Bytes) (ss : List Str) (pool : Pooled b ss) where
  abbrev first : Single
  first = simple (ConstantPool ss)

  abbrev k : ℕ
  k = length ss

  froms_length : (c : Code) → length (froms 0 (sizes c)) ≡ suc (length (spread 0 0 c).own)
  froms_length c =
      ap length (sym (bounds_are 0 0 c)) ∙ length-append (map (λ (a : Placed). a.position) (spread 0 0 c).own) ((0 + length (code_bytes c)) ∷ [])
      ∙ rw (length-map (spread 0 0 c).own (λ (a : Placed). a.position)) (omega arith)

  abbrev after_pool : ℕ
  after_pool = 0 + length (single_bytes first)

  -- the sums of bytes that are read
  record Sums (L : Spread) : Type 0 where
    actions : total one L.own + total_lists one L.lists ≤ limits.actions
    values : total valued L.own + total_lists valued L.lists ≤ limits.values
    good : total (bad k) L.own + total_lists (bad k) L.lists ≤ 1
    landed : total lost L.lists ≡ 0

  right_sums : (c : Code) → Right limits ss (froms 0 (sizes (act first c))) (spread 0 after_pool c).own (spread 0 after_pool c).lists → Sums (spread 0 0 (act first c))
  unfolding spread
  right_sums c r = record {
    actions = omega (arith, r.actions_fit);
    values = omega (arith, r.values_fit);
    good = omega (arith, bad_none k (spread 0 after_pool c).own r.top_holds, lists_good k (spread 0 after_pool c).lists r.list_holds);
    landed = lists_land (spread 0 after_pool c).lists r.list_goes;
  }

  abbrev ps : Code → List ℕ
  ps c = froms 0 (sizes (act first c))

  abbrev rest : Code → List Placed
  rest c = (spread 0 after_pool c).own

  abbrev others : Code → List Ended
  others c = (spread 0 after_pool c).lists

  abbrev certain : Code → Bool
  certain c = all (sure (ps c)) (at (plain (ConstantPool ss)) 0 ∷ rest c) && all sure_list (others c)

  lengths : (c : Code) → length (ps c) ≡ suc (suc (length (rest c)))
  unfolding spread
  lengths c = froms_length (act first c)

  abbrev made : Code → Lists
  made c = result limits ss (ps c) (rest c) (others c) (lengths c)

  abbrev rules : Code → Bool
  rules c = shaped limits (made c) && zero_free (made c)

  code_decoded : (c : Code) → read_top b ≡ some (act first c) → decode limits b ≡ given (certain c) (given (rules c) (some (made c)))
  unfolding spread
  code_decoded c t = decoded limits b (act first c) t

  decode_sums : (c : Code) (l : Lists) → read_top b ≡ some (act first c) → decode limits b ≡ some l → Sums (spread 0 0 (act first c))
  decode_sums c l t d =
      let y = given_some (certain c) (given (rules c) (some (made c))) l (sym (code_decoded c t) ∙ d) in
      let z = given_some (rules c) (some (made c)) l y.1 in
      right_sums c (needed limits ss (ps c) (rest c) (others c) (lengths c) y.0 z.0)

  pub no_top : read_top b ≡ none → decode limits b ≡ none
  unfolding decode
  no_top e = rw e

  -- what a state has read, if the bytes have lists
  pub record Allowed (fs : List Open) (own : List Placed) (ls : List Ended) : Type 0 where
    pub actions : weight one fs own ls ≤ limits.actions
    pub values : weight valued fs own ls ≤ limits.values
    pub good : weight (bad k) fs own ls ≤ 1
    pub landed : total lost ls ≡ 0

  pub allowed : (fs : List Open) (own : List Placed) (ls : List Ended) (p : ℕ) (r : Bytes) (l : Lists) → resume fs own ls p r ≡ resume [] [] [] 0 b → decode limits b ≡ some l → Allowed fs own ls
  allowed fs own ls p r l e d = go (read_top b) refl
    where
      with_code : (c : Code) → read_top b ≡ some (act first c) → Allowed fs own ls
      with_code c t =
          let L : Spread = spread 0 0 (act first c) in
          let q : resume fs own ls p r ≡ some L = e ∙ from_start b ∙ ap (Option.map (spread 0 0)) t in
          let s = decode_sums c l t d in
          let lists-of-one = rises one (λ (x : Ended). total one x.actions) (λ h p j. refl) (λ xs n. omega arith) L fs own ls p r q in
          let lists-of-values = rises valued (λ (x : Ended). total valued x.actions) (λ h p j. refl) (λ xs n. omega arith) L fs own ls p r q in
          let lists-of-bad = rises (bad k) (λ (x : Ended). total (bad k) x.actions) (λ h p j. refl) (λ xs n. omega arith) L fs own ls p r q in
          let lists-lost = rises (λ _. 0) lost (λ h p j. refl) (λ xs n. omega (arith, zeros Placed xs)) L fs own ls p r q in
          record {
            actions = omega (arith, lists-of-one, s.actions);
            values = omega (arith, lists-of-values, s.values);
            good = omega (arith, lists-of-bad, s.good);
            landed = omega (arith, lists-lost, s.landed, zeros Placed L.own);
          }

      go : (o : Option Code) → read_top b ≡ o → Allowed fs own ls
      go none q = never l (sym (no_top q) ∙ d)
      go (some c) q = let t = top_of b first pool.rest c pool.first q in with_code t.rest (q ∙ ap some t.is)

  -- a state that no lists have
  pub refused : (fs : List Open) (own : List Placed) (ls : List Ended) (p : ℕ) (r : Bytes) → resume fs own ls p r ≡ resume [] [] [] 0 b → (Allowed fs own ls → ⊥) → decode limits b ≡ none
  refused fs own ls p r e h = go (decode limits b) refl
    where
      go : (o : Option Lists) → decode limits b ≡ o → o ≡ none
      go none q = refl
      go (some l) q = absurd (h (allowed fs own ls p r l e q))

  -- a state that has nothing left
  pub stopped : (fs : List Open) (own : List Placed) (ls : List Ended) (p : ℕ) (r : Bytes) → resume fs own ls p r ≡ resume [] [] [] 0 b → resume fs own ls p r ≡ none → decode limits b ≡ none
  stopped fs own ls p r e n = go (read_top b) refl
    where
      go : (o : Option Code) → read_top b ≡ o → decode limits b ≡ none
      go none q = no_top q
      go (some c) q = never (spread 0 0 c) (sym n ∙ e ∙ from_start b ∙ ap (Option.map (spread 0 0)) q)

  -- the lists that were finished
  pub record Found (own : List Placed) (ls : List Ended) (p : ℕ) : Type 0 where
    pub lists : Lists
    pub is : decode limits b ≡ some lists
    pub entries : entries_read lists ≡ map settled (ls ++ (ended_at own p ∷ []))

  code_entries : (c : Code) → read_top b ≡ some (act first c) → T (certain c) → entries_read (made c) ≡ map settled ((spread 0 0 (act first c)).lists ++ (ended_at (spread 0 0 (act first c)).own (0 + length (code_bytes (act first c))) ∷ []))
  unfolding spread
  code_entries c t h = read_entries limits b (act first c) t h

  code_bounds : (c : Code) → bounds (ended_at (spread 0 0 (act first c)).own (0 + length (code_bytes (act first c)))) ≡ ps c
  code_bounds c = bounds_are 0 0 (act first c)

  tail_goes : (c : Code) → all (goes (ps c)) (spread 0 0 (act first c)).own ≡ true → T (all (goes (ps c)) (rest c))
  unfolding spread
  tail_goes c h = subst T (sym h) tt

  right_of : (c : Code) → total one (spread 0 0 (act first c)).own + total_lists one (spread 0 0 (act first c)).lists ≤ limits.actions →
      total valued (spread 0 0 (act first c)).own + total_lists valued (spread 0 0 (act first c)).lists ≤ limits.values →
      total (bad k) (spread 0 0 (act first c)).own + total_lists (bad k) (spread 0 0 (act first c)).lists ≡ 1 → total lost (spread 0 0 (act first c)).lists ≡ 0 →
      T (all (goes (ps c)) (rest c)) → Right limits ss (ps c) (rest c) (others c)
  unfolding spread
  right_of c actions_fit values_fit good landed goes_on = record {
    actions_fit = omega arith;
    values_fit = omega arith;
    top_goes = goes_on;
    top_holds = none_bad k (rest c) (omega arith);
    list_goes = land_lists (others c) landed;
    list_holds = good_lists k (others c) (omega arith);
    pool_texts = pool.texts;
  }

  found_code : (c : Code) → read_top b ≡ some (act first c) → Right limits ss (ps c) (rest c) (others c) → (own : List Placed) (ls : List Ended) (p : ℕ) →
      spread 0 0 (act first c) ≡ spread_of own ls → 0 + length (code_bytes (act first c)) ≡ p → Found own ls p
  found_code c t r own ls p same len =
      let e = enough limits ss (ps c) (rest c) (others c) (lengths c) r pool.zeros in
      record {
        lists = made c;
        is = code_decoded c t ∙ given_true (certain c) (given (rules c) (some (made c))) e.0 ∙ given_true (rules c) (some (made c)) e.1;
        entries = code_entries c t e.0 ∙ ap (λ (z : Spread). map settled (z.lists ++ (ended_at z.own (0 + length (code_bytes (act first c))) ∷ []))) same
            ∙ ap (λ (n : ℕ). map settled (ls ++ (ended_at own n ∷ []))) len;
      }

  -- the bytes left are End, and every list lands
  pub found_lists : (own : List Placed) (ls : List Ended) (p : ℕ) → resume [] own ls p (0 ∷ []) ≡ resume [] [] [] 0 b → length b ≡ suc p →
      weight one [] own ls ≤ limits.actions → weight valued [] own ls ≤ limits.values → weight (bad k) [] own ls ≡ 1 → total lost ls ≡ 0 →
      all (lands (bounds (ended_at own p))) (raw own) ≡ true → Found own ls p
  found_lists own ls p e len actions_fit values_fit good landed top-lands = go (read_top b) refl
    where
      at_end : resume [] own ls p (0 ∷ []) ≡ some (spread_of own ls)
      at_end = step_end finish own ls p (0 ∷ []) (stops_at_End [])

      with_code : (c : Code) → read_top b ≡ some (act first c) → length b ≡ suc (length (code_bytes (act first c))) → Found own ls p
      with_code c t n =
          let same : spread 0 0 (act first c) ≡ spread_of own ls = some_of (sym (ap (Option.map (spread 0 0)) t) ∙ sym (from_start b) ∙ sym e ∙ at_end) in
          let len' : 0 + length (code_bytes (act first c)) ≡ p = omega arith in
          let bs : bounds (ended_at own p) ≡ ps c = sym (ap (λ (z : Spread). bounds (ended_at z.own p)) same) ∙ sym (ap (λ (m : ℕ). bounds (ended_at (spread 0 0 (act first c)).own m)) len') ∙ code_bounds c in
          let lands-all : all (goes (ps c)) (spread 0 0 (act first c)).own ≡ true =
          ap (λ (z : Spread). all (goes (ps c)) z.own) same ∙ sym (raw_lands (ps c) own) ∙ ap (λ (z : List ℕ). all (lands z) (raw own)) (sym bs) ∙ top-lands in
          found_code c t (right_of c (rw same (omega arith)) (rw same (omega arith)) (rw same (omega arith)) (rw same landed) (tail_goes c lands-all)) own ls p same len'

      go : (o : Option Code) → read_top b ≡ o → Found own ls p
      go none q = never (spread_of own ls) (sym (ap (Option.map (spread 0 0)) q) ∙ sym (from_start b) ∙ sym e ∙ at_end)
      go (some c) q =
          let t = top_of b first pool.rest c pool.first q in
          with_code t.rest (q ∙ ap some t.is) (t.length_is_lem ∙ ap (λ (z : Code). suc (length (code_bytes z))) t.is)

  rest_goes : (c : Code) → T (all (goes (ps c)) (rest c)) → all (goes (ps c)) (spread 0 0 (act first c)).own ≡ true
  unfolding spread
  rest_goes c h = is_true (all (goes (ps c)) (rest c)) h

  -- the bytes left are End, and a branch of the top list leads nowhere
  pub top_lost : (own : List Placed) (ls : List Ended) (p : ℕ) → resume [] own ls p (0 ∷ []) ≡ resume [] [] [] 0 b → length b ≡ suc p →
      all (lands (bounds (ended_at own p))) (raw own) ≡ false → decode limits b ≡ none
  top_lost own ls p e len lost-there = go (decode limits b) refl
    where
      at_end : resume [] own ls p (0 ∷ []) ≡ some (spread_of own ls)
      at_end = step_end finish own ls p (0 ∷ []) (stops_at_End [])

      with_code : (c : Code) (l : Lists) → read_top b ≡ some (act first c) → length b ≡ suc (length (code_bytes (act first c))) → decode limits b ≡ some l → ⊥
      with_code c l t n z =
          let same : spread 0 0 (act first c) ≡ spread_of own ls = some_of (sym (ap (Option.map (spread 0 0)) t) ∙ sym (from_start b) ∙ sym e ∙ at_end) in
          let len' : 0 + length (code_bytes (act first c)) ≡ p = omega arith in
          let bs : bounds (ended_at own p) ≡ ps c = sym (ap (λ (z : Spread). bounds (ended_at z.own p)) same) ∙ sym (ap (λ (m : ℕ). bounds (ended_at (spread 0 0 (act first c)).own m)) len') ∙ code_bounds c in
          let y = given_some (certain c) (given (rules c) (some (made c))) l (sym (code_decoded c t) ∙ z) in
          let x = given_some (rules c) (some (made c)) l y.1 in
          let r = needed limits ss (ps c) (rest c) (others c) (lengths c) y.0 x.0 in
          true≢false (sym (rest_goes c r.top_goes) ∙ ap (λ (z : Spread). all (goes (ps c)) z.own) same ∙ sym (raw_lands (ps c) own) ∙ ap (λ (z : List ℕ). all (lands z) (raw own)) (sym bs) ∙ lost-there)

      with_list : (l : Lists) → decode limits b ≡ some l → (o : Option Code) → read_top b ≡ o → ⊥
      with_list l z none q = never l (sym (no_top q) ∙ z)
      with_list l z (some c) q =
          let t = top_of b first pool.rest c pool.first q in
          with_code t.rest l (q ∙ ap some t.is) (t.length_is_lem ∙ ap (λ (z : Code). suc (length (code_bytes z))) t.is) z

      go : (o : Option Lists) → decode limits b ≡ o → o ≡ none
      go none q = refl
      go (some l) q = absurd (with_list l q (read_top b) refl)
