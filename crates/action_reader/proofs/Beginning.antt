-- The first record: the pool, or no lists.
use Prim.Native.Nat.{ℕ, zero, suc, ◌+◌, ◌≤◌}
use mathlib.Core.Path.{◌≡◌, refl, sym, ap, ◌∙◌, subst}
use mathlib.Core.List.{List, [], ◌∷◌, map}
use mathlib.Core.Bool.{Bool, true, false, ◌&&◌, true≢false}
use mathlib.Core.Option.{Option, none, some}
use native.Mathlib.Omega.{arith}
use lib.Dec.{T}
use lib.ListN.{length, take}
use lib.Seq.{take_all}
use Rattle.std.proofs.Common.{Some, None, Bor}
use Rattle.hir.specs.Hir.{Str}
use Rattle.utf8.specs.Utf8.{utf8}
use Rattle.pcode.specs.Pcode.{Header, op, ConstantPool, StoreRegister, GotoFrame, GotoFrame2, GotoLabel, plain}
use Rattle.action_format.specs.Lists.{Lists, all_lists, Single, simple, pushing, branching, all}
use Rattle.action_format.specs.Strings.{zero_free, lists_are_utf8}
use Rattle.action_format.specs.Rules.{pool_first, pool_count, list_fits, within, shaped}
use Rattle.action_format.specs.Code.{Code, end, act, fun}
use Rattle.action_format.specs.Bytes.{Bytes, single_bytes}
use Rattle.action_format.specs.Offsets.{sizes, and_then}
use Rattle.action_format.specs.Readers.{bind, ◌>>=◌, pure, read_bytes, read_inside}
use Rattle.action_format.specs.Decode.{Record, alone, header, read_record, read_list, ended, read_top, tested, decode}
use Rattle.action_format.proofs.Tests.{is_true, and_first, and_second, given_some, never, some_of}
use Rattle.action_format.proofs.Records.{record_bytes}
use Rattle.action_format.proofs.Resume.{list_header, list_short, list_end_lem}
use Rattle.list_slice.specs.Entry.{Entry, entry}
use Rattle.list_slice.specs.Words.{zeros_of, joined, ends_from}
use Rattle.list_slice.specs.Read.{Placed, at}
use Rattle.builder.specs.Entries.{put3}
use Rattle.builder.proofs.Words.{length_put}
use Rattle.record_reader.specs.declared.Kind.TheVariants as kind
use Rattle.record_reader.specs.declared.Head.{Head}
use Rattle.record_reader.specs.Heads.{record_kind, record_holds_in, head_at}
use Rattle.record_reader.proofs.Laws.{RecordAt}
use Rattle.record_reader.proofs.ReadFacts.{record_no_zeros}
use Rattle.action_reader.specs.declared.walk.Walk.{Walk}
use Rattle.action_reader.specs.Walk.{Spread, spread, spread_of, finish, resume, raw, fixed, sure, fixed_list, sure_list}
use Rattle.action_reader.specs.State.{fresh_walk}
use Rattle.action_reader.specs.View.{Held, Laid, Noted, Stands}
use Rattle.action_reader.proofs.Steps.{step_single}
use Rattle.action_reader.proofs.Slice.{layout_start, grows}
use Rattle.action_reader.proofs.Lands.{froms}
use Rattle.action_reader.proofs.Raw.{raw_last, raw_none}
use Rattle.action_reader.proofs.Spreads.{lists_within}
use Rattle.action_reader.proofs.Judge.{decoded}
use Rattle.action_reader.proofs.Verdict.{top_of}
use Rattle.action_reader.proofs.Heads.{Told, there, told, untold, pool_told, IsPool}
use Rattle.action_reader.proofs.Stepping.{limits}

-- lists that are read begin with a pool

record Begins (c : Code) : Type 0 where
  strings' : List Str
  rest : Code
  is : c ≡ act (simple (ConstantPool strings')) rest
  texts : T (all utf8 strings')

abbrev after : Code → Spread
after c = spread_of (map (fixed (froms 0 (sizes c))) (spread 0 0 c).own) (map fixed_list (spread 0 0 c).lists)

begins : (c : Code) → T (pool_first (lists_within (after c))) → T (lists_are_utf8 (lists_within (after c))) → Begins c
unfolding spread
begins end p u = absurd p
begins (act (simple (op o)) c) p u = absurd p
begins (act (simple (ConstantPool ss)) c) p u =
    record { strings' = ss; rest = c; is = refl; texts = and_first (all utf8 ss) _ (and_first (all utf8 ss && _) _ u) }
begins (act (simple (StoreRegister r)) c) p u = absurd p
begins (act (simple (GotoFrame n)) c) p u = absurd p
begins (act (simple (GotoFrame2 t)) c) p u = absurd p
begins (act (simple (GotoLabel s)) c) p u = absurd p
begins (act (pushing vs) c) p u = absurd p
begins (act (branching b o) c) p u = absurd p
begins (fun h b c) p u = absurd p

pub record First (b : Bytes) : Type 0 where
  pub strings' : List Str
  pub left : Bytes
  pub is : read_record b ≡ some (alone (simple (ConstantPool strings')), left)
  pub texts : T (all utf8 strings')

sort : Code → ℕ
sort end = 0
sort (act a c) = 1
sort (fun h b c) = 2

head_of : Code → Single
head_of end = pushing []
head_of (act a c) = a
head_of (fun h b c) = pushing []

ended_is : (c d : Code) (r : Bytes) → ended c r ≡ some d → d ≡ c
ended_is c d [] e = never d e
ended_is c d (zero ∷ []) e = sym (some_of e)
ended_is c d (zero ∷ (y ∷ r)) e = never d e
ended_is c d (suc y ∷ r) e = never d e

module _ (b : Bytes) (c : Code) (t : read_top b ≡ some c) where
  top_from : (o : Option (Code × Bytes)) → read_list b ≡ o → and_then o (λ x. ended x.0 x.1) ≡ some c
  top_from o q = sym (ap (λ (z : Option (Code × Bytes)). and_then z (λ x. ended x.0 x.1)) q) ∙ t

  only_end : read_record b ≡ none → sort c ≡ 0
  unfolding sort
  only_end q = ap sort (ended_is end c b (top_from (some (end, b)) (list_end_lem b q)))

  only_fun : (h : Header) (size : ℕ) (r : Bytes) → read_record b ≡ some (header h size, r) → sort c ≡ 2
  unfolding sort
  only_fun h size r q = go (read_bytes size r) refl
    where
      last : (x : Code) (o : Option (Code × Bytes)) → and_then (bind o (λ d. pure (fun h x d))) (λ y. ended y.0 y.1) ≡ some c → sort c ≡ 2
      last x none z = never c z
      last x (some y) z = ap sort (ended_is (fun h x y.0) c y.1 z)

      body : (o : Option (Code × Bytes)) → and_then (bind o (λ x. read_list >>= λ d. pure (fun h x d))) (λ y. ended y.0 y.1) ≡ some c → sort c ≡ 2
      body none z = never c z
      body (some x) z = last x.0 (read_list x.1) z

      go : (o : Option (Bytes × Bytes)) → read_bytes size r ≡ o → sort c ≡ 2
      go none z = never c (top_from none (list_short b h size r q z))
      go (some y) z = body (read_inside read_list y.0 y.1) (top_from _ (list_header b h size r y.0 y.1 q z))

  first_is : Begins c → First b
  unfolding sort head_of
  first_is g = go (read_record b) refl
    where
      is_act : sort c ≡ 1
      is_act = ap sort g.is

      go : (o : Option (Record × Bytes)) → read_record b ≡ o → First b
      go none q = let z : ⊥ = omega (arith, only_end q, is_act) in absurd z
      go (some (alone a, r)) q =
          let x = top_of b a r c q t in
          let e : a ≡ simple (ConstantPool g.strings') = ap head_of (sym x.is ∙ g.is) in
          record { strings' = g.strings'; left = r; is = q ∙ ap (λ (z : Single). some (alone z, r)) e; texts = g.texts }
      go (some (header h size, r)) q = let z : ⊥ = omega (arith, only_fun h size r q, is_act) in absurd z

no_code : (b : Bytes) → read_top b ≡ none → decode limits b ≡ none
unfolding decode
no_code b e = rw e

pub first_record : (b : Bytes) (l : Lists) → decode limits b ≡ some l → First b
first_record b l d = go (read_top b) refl
  where
    go : (o : Option Code) → read_top b ≡ o → First b
    go none q = never l (sym (no_code b q) ∙ d)
    go (some c) q =
        let r : Lists = lists_within (after c) in
        let sure-all : Bool = all (sure (froms 0 (sizes c))) (spread 0 0 c).own && all sure_list (spread 0 0 c).lists in
        let y = given_some sure-all (tested limits r) l (sym (decoded limits b c q) ∙ d) in
        let z = given_some (shaped limits r && zero_free r) (some r) l y.1 in
        let shape : T (shaped limits r) = and_first (shaped limits r) (zero_free r) z.0 in
        let first : Bool = pool_first r in
        let fit : Bool = all (list_fits (pool_count r)) (all_lists r) in
        let three : T (first && fit && lists_are_utf8 r) = and_first (first && fit && lists_are_utf8 r) (within limits r) shape in
        first_is b c q (begins c (and_first first fit (and_first (first && fit) (lists_are_utf8 r) three)) (and_second (first && fit) (lists_are_utf8 r) three))

-- heads that tell no pool

no_lists : (b : Bytes) → (First b → ⊥) → decode limits b ≡ none
no_lists b h = go (decode limits b) refl
  where
    go : (o : Option Lists) → decode limits b ≡ o → o ≡ none
    go none q = refl
    go (some l) q = absurd (h (first_record b l q))

pub begin_none : (b : Bytes) → None ≡ head_at b 0 0 → decode limits b ≡ none
begin_none b e = no_lists b (λ x. never _ (sym (untold b 0 0 e) ∙ x.is))

module _ (b : Bytes) (hd : Head) (e : Some hd ≡ head_at b 0 0) where
  first_told : Told b 0 0 hd
  first_told = told b 0 0 hd (omega arith) e

  told_pool : First b → (hd.fits ≡ true) × ((n : ℕ) × (hd.kind ≡ kind.Pool n))
  told_pool f = go first_told
    where
      go : Told b 0 0 hd → (hd.fits ≡ true) × ((n : ℕ) × (hd.kind ≡ kind.Pool n))
      go (there x r q kd nx ft ra) =
          let s : x ≡ alone (simple (ConstantPool f.strings')) = ap (λ (z : Record × Bytes). z.0) (some_of (sym q ∙ f.is)) in
          (ft ∙ ap (record_holds_in 0) s ∙ is_true (all utf8 f.strings') f.texts, (length f.strings', kd ∙ ap (record_kind 0) s))

  pub begin_unfit : hd.fits ≡ false → decode limits b ≡ none
  begin_unfit f = no_lists b (λ x. true≢false (sym (told_pool x).0 ∙ f))

  pub begin_other : ((n : ℕ) → hd.kind ≡ kind.Pool n → ⊥) → decode limits b ≡ none
  begin_other f = no_lists b (λ x. let z = told_pool x in f z.1.0 z.1.1)

-- the pool

abbrev pool_at_lem : List Str → Placed
pool_at_lem ss = at (plain (ConstantPool ss)) 0

module _ (bs : Bor Bytes) (w : List ℕ) (ss : List Str) (r : Bytes) (q : read_record bs.now ≡ some (alone (simple (ConstantPool ss)), r)) (ra : RecordAt bs.now 0 (alone (simple (ConstantPool ss))) r) (texts : T (all utf8 ss))
    (next : ℕ) (n : next ≡ 0 + length (single_bytes (simple (ConstantPool ss)))) (long : 16384 ≤ length w) (zeros : w ≡ zeros_of (length w)) where
  abbrev b : Bytes
  b = bs.now

  abbrev s : Walk
  s = fresh_walk bs next (length ss)

  whole_bytes : take (length b) b ≡ b
  whole_bytes = take_all (length b) b (omega arith)

  begin_held : Held b s ss [] (pool_at_lem ss ∷ []) []
  begin_held = record {
    pool = record { rest = r; first = q; texts = texts; zeros = record_no_zeros b (alone (simple (ConstantPool ss))) r q };
    pool_is = refl;
    left = sym (step_single finish [] [] 0 b (simple (ConstantPool ss)) r q ∙ rw (whole_bytes, n) (ap (resume [] (pool_at_lem ss ∷ []) [] (0 + length (single_bytes (simple (ConstantPool ss))))) ra.rest));
    framed = refl;
    within = omega (arith, n, ra.inside);
    actions = refl;
    values = refl;
    good = refl;
    landed = refl;
    few_actions = omega arith;
    few_values = omega arith;
    far = omega (arith, n, ra.short);
  }

  raw_pool : raw (pool_at_lem ss ∷ []) ≡ entry 0x88 0 0 ∷ []
  raw_pool = raw_last [] (pool_at_lem ss) ∙ ap (λ (z : List Entry). entry 0x88 0 0 ∷ z) raw_none

  begin_laid : {w' : List ℕ} → w' ≡ put3 w 4095 0x88 0 0 → Laid w' s [] (pool_at_lem ss ∷ []) []
  unfolding joined ends_from
  begin_laid {w'} e =
      let l : length w' ≡ length w = ap length e ∙ length_put w 4095 0x88 0 0 in
      record {
        long = rw l long;
        words = rw (raw_pool, l) (e ∙ ap (λ (z : List ℕ). put3 z 4095 0x88 0 0) (zeros ∙ layout_start (length w) (omega arith))
            ∙ grows [] [] [] (length w) 4095 (omega arith) (omega arith) 0x88 0 0);
        low = refl;
        top = rw raw_pool (omega arith);
        base = omega arith;
        lists = refl;
        room = omega arith;
        fewer = omega arith;
      }

  begin_noted : Noted s [] (pool_at_lem ss ∷ [])
  begin_noted = record {
    table = refl;
    first = refl;
    few = omega arith;
    rising = λ i j a x y. absurd (omega arith);
    below = λ i a. let first : i ≡ 0 = omega arith in rw first (omega (arith, n, ra.later));
  }

  pub begin_stands : {w' : List ℕ} → w' ≡ put3 w 4095 0x88 0 0 → Stands b w' s
  begin_stands x = record {
    strings = ss;
    around = [];
    own = pool_at_lem ss ∷ [];
    lists = [];
    held = begin_held;
    laid = begin_laid x;
    noted = begin_noted;
    kept = record { saved = refl };
  }

-- a head that tells the pool
pub begin_pool : (bs : Bor Bytes) (w : List ℕ) (hd : Head) → Some hd ≡ head_at bs.now 0 0 → hd.fits ≡ true → (m : ℕ) → hd.kind ≡ kind.Pool m → 16384 ≤ length w → w ≡ zeros_of (length w) → {w' : List ℕ} →
    w' ≡ put3 w 4095 0x88 0 0 → Stands bs.now w' (fresh_walk bs hd.next m)
begin_pool bs w hd e f m k long zeros {w'} x = go (first_told bs.now hd e)
  where
    go : Told bs.now 0 0 hd → Stands bs.now w' (fresh_walk bs hd.next m)
    go (there v r q kd nx ft ra) =
        let p : IsPool v m = pool_told 0 v m (sym kd ∙ k) in
        let ss = p.strings in
        let q' : read_record bs.now ≡ some (alone (simple (ConstantPool ss)), r) = q ∙ ap (λ (u : Record). some (u, r)) p.is in
        let ra' : RecordAt bs.now 0 (alone (simple (ConstantPool ss))) r = subst (λ (u : Record). RecordAt bs.now 0 u r) p.is ra in
        let nx' : hd.next ≡ 0 + length (single_bytes (simple (ConstantPool ss))) = nx ∙ ap (λ (u : Record). 0 + length (record_bytes u)) p.is in
        let ft' : T (record_holds_in 0 (alone (simple (ConstantPool ss)))) = subst T (sym f ∙ ft ∙ ap (record_holds_in 0) p.is) tt in
        subst (λ (i : ℕ). Stands bs.now w' (fresh_walk bs hd.next i)) p.count (begin_stands bs w ss r q' ra' ft' hd.next nx' long zeros x)
