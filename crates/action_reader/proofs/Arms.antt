-- What each sort of record does to a state.
use Prim.Native.Nat.{ℕ, ◌+◌, ◌-◌, ◌≤◌, ◌<◌}
use mathlib.Core.Path.{◌≡◌, refl, sym, ap, ◌∙◌, subst}
use mathlib.Core.List.{List, [], ◌∷◌}
use mathlib.Core.Bool.{Bool, true, false, cond}
use mathlib.Core.Option.{none, some}
use native.Mathlib.Omega.{arith}
use Rattle.std.proofs.Common.{Some, None}
use Rattle.std.proofs.lemmas.Option.{cond_some}
use lib.Dec.{T, ltb}
use lib.ListN.{length, take, drop}
use Rattle.pcode.specs.Pcode.{Value, push}
use Rattle.lowering.specs.Builder.{limits01}
use Rattle.action_format.specs.Lists.{simple, pushing, branching, single, all}
use Rattle.action_format.specs.Strings.{no_zero}
use Rattle.action_format.specs.Bytes.{Bytes, single_bytes, header_bytes}
use Rattle.action_format.specs.Decode.{Record, alone, header, read_record, decode}
use Rattle.action_format.proofs.Records.{record_bytes}
use Rattle.list_slice.specs.Entry.{entry}
use Rattle.list_slice.specs.Read.{at}
use Rattle.builder.specs.Entries.{put3}
use Rattle.definition.specs.Outcome.{byte_limits}
use Rattle.record_reader.specs.declared.Kind.TheVariants as kind
use Rattle.record_reader.specs.declared.Head.{Head}
use Rattle.record_reader.specs.Heads.{record_kind, record_holds_in, head_at}
use Rattle.record_reader.proofs.Laws.{RecordAt, ValuesAt, plain_small}
use Rattle.record_reader.proofs.ReadFacts.{record_strings, record_no_zeros}
use Rattle.action_reader.specs.declared.walk.Walk.{Walk}
use Rattle.action_reader.specs.Walk.{aim, aimable, holds}
use Rattle.action_reader.specs.State.{single_after, open_after, push_after}
use Rattle.action_reader.specs.Pushes.{Values, Pushed}
use Rattle.action_reader.specs.View.{Stands}
use Rattle.action_reader.specs.Targets.{target_of}
use Rattle.action_reader.specs.Walked.{Further, Inside, Next}
use Rattle.action_reader.proofs.Raw.{own_entries}
use Rattle.action_reader.proofs.Heads.{Told, there, told, untold, breaks, plain_holds, push_holds, branch_holds, branch_breaks, header_holds, plain_told, push_told, branch_told, function_told, pool_breaks, IsPlain, IsPush, IsBranch, IsFunction}
use Rattle.action_reader.proofs.Stepping.{at_inside, end_inside, d_length, numbers, refuse_nothing, refuse_excess, refuse_bad, single_step, push_needs, push_step, open_short, open_step}

-- the record that a head tells
record There (d : Bytes) (p k : ℕ) (hd : Head) : Type 0 where
  what : Record
  left : Bytes
  is : read_record (drop p d) ≡ some (what, left)
  kind_is : hd.kind ≡ record_kind p what
  next_is : hd.next ≡ p + length (record_bytes what)
  fits_is : T (record_holds_in k what)
  whole : RecordAt d p what left

there_of : {d : Bytes} {p k : ℕ} {hd : Head} → Told d p k hd → hd.fits ≡ true → There d p k hd
there_of (there x r q kd nx ft ra) e = record { what = x; left = r; is = q; kind_is = kd; next_is = nx; fits_is = subst T (sym e ∙ ft) tt; whole = ra }

-- no target, or this one

pub no_target : (p o : ℕ) → None ≡ target_of p o → aimable p o ≡ false
no_target p o e = go (aimable p o) e
  where
    go : (t : Bool) → None ≡ cond t (Some (aim p o)) None → t ≡ false
    go true f = cc
    go false f = refl

pub a_target : (p o m : ℕ) → Some m ≡ target_of p o → (aimable p o ≡ true) × (m ≡ aim p o)
a_target p o m e = let z = cond_some (aimable p o) (aim p o) m (sym e) in (z.0, sym z.1)

pub no_head : {w : List ℕ} {s : Walk} (h : Stands s.bytes.now w s) → None ≡ head_at (take s.span.end s.bytes.now) s.at s.pool → Inside s → decode (byte_limits limits01) s.bytes.now ≡ none
no_head {s = s} h e i = refuse_nothing h (untold (take s.span.end s.bytes.now) s.at s.pool e) i

head_told : {w : List ℕ} {s : Walk} (h : Stands s.bytes.now w s) {hd : Head} → Some hd ≡ head_at (take s.span.end s.bytes.now) s.at s.pool → Told (take s.span.end s.bytes.now) s.at (length h.strings) hd
head_told {s = s} h {hd} e =
    let d : Bytes = take s.span.end s.bytes.now in
    told d s.at (length h.strings) hd (at_inside h) (e ∙ ap (head_at d s.at) h.held.pool_is)

pub arm_unfit : {w : List ℕ} {s : Walk} (h : Stands s.bytes.now w s) {hd : Head} → Some hd ≡ head_at (take s.span.end s.bytes.now) s.at s.pool → hd.fits ≡ false → decode (byte_limits limits01) s.bytes.now ≡ none
arm_unfit {s = s} h {hd} e f = go (head_told h e)
  where
    go : Told (take s.span.end s.bytes.now) s.at (length h.strings) hd → decode (byte_limits limits01) s.bytes.now ≡ none
    go (there x r q kd nx ft ra) = refuse_bad h x r q (breaks s.at (length h.strings) x (sym ft ∙ f))

pub arm_full : {w : List ℕ} {s : Walk} (h : Stands s.bytes.now w s) {hd : Head} → Some hd ≡ head_at (take s.span.end s.bytes.now) s.at s.pool → hd.fits ≡ true → 1024 ≤ s.actions →
    decode (byte_limits limits01) s.bytes.now ≡ none
arm_full h e fit l = let rec = there_of (head_told h e) fit in refuse_excess h rec.what rec.left rec.is (λ p q z. omega arith)

module _ {w : List ℕ} {s : Walk} {hd : Head} (next : Next w s hd) where
  abbrev h : Stands s.bytes.now w s
  h = next.stands

  abbrev few : s.actions < 1024
  few = next.few

  abbrev b : Bytes
  b = s.bytes.now

  abbrev k : ℕ
  k = length h.strings

  abbrev d : Bytes
  d = take s.span.end b

  abbrev none_here : Type 0
  none_here = decode (byte_limits limits01) b ≡ none

  abbrev rec : There d s.at k hd
  rec = there_of (head_told h next.head) next.fits

  pub arm_pool : (n : ℕ) → hd.kind ≡ kind.Pool n → none_here
  arm_pool n g = refuse_bad h rec.what rec.left rec.is (pool_breaks s.at k rec.what n (sym rec.kind_is ∙ g))

  -- an action of one entry

  pub record OneEntry (c f : ℕ) : Type 0 where
    pub small : f < 4294967296
    pub step : {w' : List ℕ} {s' : Walk} → w' ≡ put3 w (s.top - 1) c f 0 → s' ≡ single_after s hd.next → Further s s' w'

  as_plain : (c f : ℕ) (x : Record) (r : Bytes) → IsPlain s.at x c f → read_record (drop s.at d) ≡ some (x, r) → hd.next ≡ s.at + length (record_bytes x) → T (record_holds_in k x) → RecordAt d s.at x r →
      OneEntry c f
  as_plain c f x r p q nx ft ra =
      let a = p.action in
      let q' : read_record (drop s.at d) ≡ some (alone (simple a), r) = q ∙ ap (λ (z : Record). some (z, r)) p.is in
      let ra' : RecordAt d s.at (alone (simple a)) r = subst (λ (z : Record). RecordAt d s.at z r) p.is ra in
      let nx' : hd.next ≡ s.at + length (single_bytes (simple a)) = nx ∙ ap (λ (z : Record). s.at + length (record_bytes z)) p.is in
      let z : T (all no_zero (record_strings (alone (simple a)))) = record_no_zeros (drop s.at d) (alone (simple a)) r q' in
      let en : own_entries (at (single (simple a)) s.at) ≡ entry c f 0 ∷ [] = rw (p.code, p.first, ← p.second) in
      record {
        small = rw p.first (plain_small d s.at a r q' (omega (arith, (numbers h).near)));
        step = λ u v. single_step h (simple a) r q' ra' hd.next nx' (plain_holds s.at k a p.pool_free (subst (λ (m : Record). T (record_holds_in k m)) p.is ft) z) few refl c f en u v;
      }

  pub arm_plain : (c f : ℕ) → hd.kind ≡ kind.Plain c f → OneEntry c f
  arm_plain c f g = as_plain c f rec.what rec.left (plain_told s.at rec.what c f (sym rec.kind_is ∙ g)) rec.is rec.next_is rec.fits_is rec.whole

  -- a branch

  pub record ABranch (c n : ℕ) : Type 0 where
    pub small : n < 65536
    pub lost : None ≡ target_of s.at n → none_here
    pub target_small : (m : ℕ) → Some m ≡ target_of s.at n → m < 4294967296
    pub step : (m : ℕ) → Some m ≡ target_of s.at n → {w' : List ℕ} {s' : Walk} → w' ≡ put3 w (s.top - 1) c m 0 → s' ≡ single_after s hd.next → Further s s' w'

  aim_near : (p n : ℕ) → p < 67200000 → n < 65536 → aim p n < 4294967296
  aim_near p n l m = go (ltb n 32768)
    where
      go : (c : Bool) → cond c (p + 5 + n) (p + 5 + n - 65536) < 4294967296
      go true = omega arith
      go false = omega arith

  as_branch : (c n : ℕ) (x : Record) (r : Bytes) → IsBranch x c n → read_record (drop s.at d) ≡ some (x, r) → hd.next ≡ s.at + length (record_bytes x) → RecordAt d s.at x r → ABranch c n
  as_branch c n x r p q nx ra =
      let j = p.branching' in
      let q' : read_record (drop s.at d) ≡ some (alone (branching j n), r) = q ∙ ap (λ (z : Record). some (z, r)) p.is in
      let ra' : RecordAt d s.at (alone (branching j n)) r = subst (λ (z : Record). RecordAt d s.at z r) p.is ra in
      let nx' : hd.next ≡ s.at + length (single_bytes (branching j n)) = nx ∙ ap (λ (z : Record). s.at + length (record_bytes z)) p.is in
      record {
        small = ra'.operands;
        lost = λ l. refuse_bad h (alone (branching j n)) r q' (branch_breaks s.at k j n (no_target s.at n l));
        target_small = λ m l. rw (a_target s.at n m l).1 (aim_near s.at n (numbers h).near ra'.operands);
        step = λ m l u v. single_step h (branching j n) r q' ra' hd.next nx' (branch_holds s.at k j n (subst T (sym (a_target s.at n m l).0) tt)) few refl c m (rw (p.code, (a_target s.at n m l).1)) u v;
      }

  pub arm_branch : (c n : ℕ) → hd.kind ≡ kind.Branch c n → ABranch c n
  arm_branch c n g = as_branch c n rec.what rec.left (branch_told s.at rec.what c n (sym rec.kind_is ∙ g)) rec.is rec.next_is rec.whole

  -- a Push

  pub record APush (n : ℕ) : Type 0 where
    pub full : 2048 - s.values < n → none_here
    pub near : hd.next < 4294967295
    pub later : s.at < hd.next
    pub inside : hd.next ≤ length b
    pub needs : n ≤ 2048 - s.values → Values (take hd.next b) (s.at + 3) s.top
    pub step : n ≤ 2048 - s.values → {w' : List ℕ} {s' : Walk} →
        ((us : List Value) → ValuesAt (take hd.next b) (s.at + 3) us → length us ≡ n → s' ≡ push_after s n hd.next) →
        ((us : List Value) → Pushed (take hd.next b) (s.at + 3) us s.top w s'.top w') → length w' ≡ length w → Further s s' w'

  as_push : (n : ℕ) (x : Record) (r : Bytes) → IsPush x n → read_record (drop s.at d) ≡ some (x, r) → hd.next ≡ s.at + length (record_bytes x) → T (record_holds_in k x) → RecordAt d s.at x r → APush n
  as_push n x r p q nx ft ra =
      let vs = p.values in
      let q' : read_record (drop s.at d) ≡ some (alone (pushing vs), r) = q ∙ ap (λ (z : Record). some (z, r)) p.is in
      let ra' : RecordAt d s.at (alone (pushing vs)) r = subst (λ (z : Record). RecordAt d s.at z r) p.is ra in
      let nx' : hd.next ≡ s.at + length (single_bytes (pushing vs)) = nx ∙ ap (λ (z : Record). s.at + length (record_bytes z)) p.is in
      let z : T (all no_zero (record_strings (alone (pushing vs)))) = record_no_zeros (drop s.at d) (alone (pushing vs)) r q' in
      let good : T (holds k (at (push vs) s.at)) = push_holds s.at k vs (subst (λ (m : Record). T (record_holds_in k m)) p.is ft) z in
      record {
        full = λ l. refuse_excess h (alone (pushing vs)) r q' (λ u v y. omega (arith, p.count, h.held.few_values));
        near = omega (arith, nx', ra'.short, (numbers h).near);
        later = omega (arith, nx', ra'.later);
        inside = omega (arith, nx', ra'.inside, d_length h, end_inside h);
        needs = λ l. push_needs h vs r q' ra' hd.next nx' few (omega (arith, p.count, h.held.few_values));
        step = λ l state pushed long. push_step h vs r q' ra' hd.next nx' few (omega (arith, p.count, h.held.few_values)) good n p.count state pushed long;
      }

  pub arm_push : (n : ℕ) → hd.kind ≡ kind.Push n → APush n
  arm_push n g = as_push n rec.what rec.left (push_told s.at rec.what n (sym rec.kind_is ∙ g)) rec.is rec.next_is rec.fits_is rec.whole

  -- a function

  pub record AFunction (n : ℕ) : Type 0 where
    pub inside : hd.next ≤ s.span.end
    pub short : s.span.end - hd.next < n → none_here
    pub step : n ≤ s.span.end - hd.next → {s' : Walk} → s' ≡ open_after s n hd.next → Further s s' w

  as_function : (n : ℕ) (x : Record) (r : Bytes) → IsFunction x n → read_record (drop s.at d) ≡ some (x, r) → hd.next ≡ s.at + length (record_bytes x) → T (record_holds_in k x) → RecordAt d s.at x r → AFunction n
  as_function n x r p q nx ft ra =
      let g = p.header' in
      let q' : read_record (drop s.at d) ≡ some (header g n, r) = q ∙ ap (λ (z : Record). some (z, r)) p.is in
      let ra' : RecordAt d s.at (header g n) r = subst (λ (z : Record). RecordAt d s.at z r) p.is ra in
      let nx' : hd.next ≡ s.at + length (header_bytes g n) = nx ∙ ap (λ (z : Record). s.at + length (record_bytes z)) p.is in
      let z : T (all no_zero (record_strings (header g n))) = record_no_zeros (drop s.at d) (header g n) r q' in
      record {
        inside = omega (arith, nx', ra'.inside, d_length h);
        short = λ l. open_short h g n r q' ra' hd.next nx' l;
        step = λ l u. open_step h g n r q' ra' hd.next nx' l (header_holds s.at k g n (subst (λ (m : Record). T (record_holds_in k m)) p.is ft) z) few u;
      }

  pub arm_function : (n : ℕ) → hd.kind ≡ kind.Function n → AFunction n
  arm_function n g = as_function n rec.what rec.left (function_told s.at rec.what n (sym rec.kind_is ∙ g)) rec.is rec.next_is rec.fits_is rec.whole
