-- Places to offsets and back.
use Prim.Native.Nat.{ℕ, zero, suc, ◌+◌, ◌-◌, ◌<◌, ◌≤◌}
use mathlib.Core.Path.{◌≡◌, refl, ap, sym, ◌∙◌, subst}
use mathlib.Core.List.{List, [], ◌∷◌}
use mathlib.Core.Option.{Option, none, some, map}
use mathlib.Core.Bool.{Bool, true, false, not}
use native.Mathlib.Omega.{arith}
use native.Mathlib.Nat.{not-suc-le-zero}
use lib.Dec.{T, leb, ltb, leb→le, ltb→lt, le→leb, nltb→le}
use lib.ListN.{length, take, length-append}
use Rattle.pcode.specs.Pcode.{Jump, If}
use Rattle.action_format.specs.Lists.{Single, simple, pushing, branching}
use Rattle.action_format.specs.Code.{Code, end, act, fun}
use Rattle.action_format.specs.Bytes.{Bytes, word, single_data, single_bytes, header_bytes, code_bytes}
use Rattle.action_format.specs.Offsets.{sizes, sum, position, after_record, offset, reaches, towards, moved, later, place_at_index, single_offset, offsets, single_near, near, and_then, both, single_place, places}
use Rattle.action_format.specs.Encode.{short}
use Rattle.action_format.proofs.Tests.{is_true, and_first, and_second, and_both, All, never, some_of}
use Rattle.action_format.proofs.Records.{Small}
use Rattle.action_format.proofs.Bodies.{single_fills, header_fills, three, SmallCode}

-- offsets change no size

same_data : (ss : List ℕ) (i : ℕ) (a : Single) → length (single_data (single_offset ss i a)) ≡ length (single_data a)
unfolding word
same_data ss i (simple p) = refl
same_data ss i (pushing vs) = refl
same_data ss i (branching b p) = refl

pub same_size : (ss : List ℕ) (i : ℕ) (a : Single) → length (single_bytes (single_offset ss i a)) ≡ length (single_bytes a)
unfolding word
same_size ss i (simple p) = refl
same_size ss i (pushing vs) = refl
same_size ss i (branching Jump p) = refl
same_size ss i (branching If p) = refl

pub same_length : (ss : List ℕ) (i : ℕ) (c : Code) → length (code_bytes (offsets ss i c)) ≡ length (code_bytes c)
unfolding code_bytes
same_length ss i end = refl
same_length ss i (act a c) = simp (length-append, same_size, same_length ss (suc i) c)
same_length ss i (fun h b c) =
    let x : Bytes = header_bytes h (length (code_bytes b)) in
    rw (
      same_length (sizes b) 0 b,
      three x (code_bytes (offsets (sizes b) 0 b)) (code_bytes (offsets ss (suc i) c)),
      three x (code_bytes b) (code_bytes c),
      same_length (sizes b) 0 b,
      same_length ss (suc i) c,
    )

pub same_sizes : (ss : List ℕ) (i : ℕ) (c : Code) → sizes (offsets ss i c) ≡ sizes c
same_sizes ss i end = refl
same_sizes ss i (act a c) = rw (same_size ss i a, same_sizes ss (suc i) c)
same_sizes ss i (fun h b c) = rw (same_length (sizes b) 0 b, same_sizes ss (suc i) c)

pub same_short : (ss : List ℕ) (i : ℕ) (c : Code) → short (offsets ss i c) ≡ short c
same_short ss i end = refl
same_short ss i (act a c) = rw (same_data ss i a, same_short ss (suc i) c)
same_short ss i (fun h b c) = rw (same_length (sizes b) 0 b, same_short (sizes b) 0 b, same_short ss (suc i) c)

-- the place that begins where p begins is p

pub sizes_fill : (c : Code) → All (λ n. 0 < n) (sizes c)
sizes_fill end = tt
sizes_fill (act a c) = (single_fills a, sizes_fill c)
sizes_fill (fun h b c) = (omega (arith, header_fills h (length (code_bytes b))), sizes_fill c)

after_first : (s : ℕ) (ss : List ℕ) (t : ℕ) → 0 < t → place_at_index (s ∷ ss) t ≡ later (leb s t) (place_at_index ss (t - s))
unfolding place_at_index
after_first s ss zero h = absurd (not-suc-le-zero h)
after_first s ss (suc t) h = refl

at_start : (ss : List ℕ) → place_at_index ss 0 ≡ some 0
unfolding place_at_index
at_start [] = refl
at_start (s ∷ ss) = refl

less : (n m : ℕ) → n + m - n ≡ m
less n m = omega arith

pub place_law : (ss : List ℕ) → All (λ n. 0 < n) ss → (p : ℕ) → p ≤ length ss → place_at_index ss (position ss p) ≡ some p
unfolding position
place_law [] h zero l = at_start []
place_law [] h (suc p) l = absurd (not-suc-le-zero l)
place_law (s ∷ ss) h zero l = at_start (s ∷ ss)
place_law (s ∷ ss) h (suc p) l =
    rw (
      after_first s ss (s + sum (take p ss)) (omega (arith, h.0)),
      is_true (leb s (s + sum (take p ss))) (le→leb s (s + sum (take p ss)) (omega arith)),
      less s (sum (take p ss)),
      place_law ss h.1 p (omega arith),
    )

pub place_found : (ss : List ℕ) (t p : ℕ) → place_at_index ss t ≡ some p → (p ≤ length ss) × (position ss p ≡ t)
unfolding position place_at_index
place_found [] zero p e = let z : 0 ≡ p = some_of e in rw (← z) (omega arith, refl)
place_found [] (suc t) p e = never p e
place_found (s ∷ ss) zero p e = let z : 0 ≡ p = some_of e in rw (← z) (omega arith, refl)
place_found (s ∷ ss) (suc t) p e = go (leb s (suc t)) refl (place_at_index ss (suc t - s)) refl e (λ q f. place_found ss (suc t - s) q f)
  where
    go : (b : Bool) → leb s (suc t) ≡ b → (o : Option ℕ) → place_at_index ss (suc t - s) ≡ o → later b o ≡ some p →
        ((q : ℕ) → place_at_index ss (suc t - s) ≡ some q → (q ≤ length ss) × (position ss q ≡ suc t - s)) → (p ≤ length (s ∷ ss)) × (position (s ∷ ss) p ≡ suc t)
    go false k o x e ih = never p e
    go true k none x e ih = never p e
    go true k (some q) x e ih =
        let z : suc q ≡ p = some_of e in
        let l : s ≤ suc t = leb→le s (suc t) (subst T (sym k) tt) in
        rw (← z) (omega (arith, (ih q x).0), omega (arith, (ih q x).1))

-- a move by an offset, in two's complement

is_not : (m n : ℕ) → ltb m n ≡ false → n ≤ m
is_not m n e = nltb→le m n (subst (λ (b : Bool). T (not b)) (sym e) tt)

pub moved_law : (after target : ℕ) → T (reaches after target) → moved after (offset after target) ≡ some target
moved_law after target h = go (ltb (offset after target) 32768) refl (ltb (after + offset after target) 65536) refl
  where
    back : after ≤ target + 32768
    back = leb→le after (target + 32768) (and_first (leb after (target + 32768)) (leb target (after + 32767)) h)

    forth : target ≤ after + 32767
    forth = leb→le target (after + 32767) (and_second (leb after (target + 32768)) (leb target (after + 32767)) h)

    go : (a : Bool) → ltb (offset after target) 32768 ≡ a → (b : Bool) → ltb (after + offset after target) 65536 ≡ b → towards after (offset after target) a b ≡ some target
    go true p b q = ap (λ (n : ℕ). some n) (omega (arith, back, forth, ltb→lt (offset after target) 32768 (subst T (sym p) tt)))
    go false p true q =
        let w : ⊥ = omega (arith, back, forth, is_not (offset after target) 32768 p, ltb→lt (after + offset after target) 65536 (subst T (sym q) tt)) in absurd w
    go false p false q = ap (λ (n : ℕ). some n) (omega (arith, back, forth, is_not (offset after target) 32768 p, is_not (after + offset after target) 65536 q))

-- what an offset that was read says of its target
pub record Reached (after o target : ℕ) : Type 0 where
  pub offset_is : offset after target ≡ o
  pub is_near : T (reaches after target)

pub moved_found : (after o target : ℕ) → o < 65536 → moved after o ≡ some target → Reached after o target
moved_found after o target l e = go (ltb o 32768) refl (ltb (after + o) 65536) refl e
  where
    near_by : after ≤ target + 32768 → target ≤ after + 32767 → T (reaches after target)
    near_by p q = and_both (leb after (target + 32768)) (leb target (after + 32767)) (le→leb after (target + 32768) p) (le→leb target (after + 32767) q)

    go : (a : Bool) → ltb o 32768 ≡ a → (b : Bool) → ltb (after + o) 65536 ≡ b → towards after o a b ≡ some target → Reached after o target
    go true p b q e =
        let z : after + o ≡ target = some_of e in
        let k : o < 32768 = ltb→lt o 32768 (subst T (sym p) tt) in
        record { offset_is = omega arith; is_near = near_by (omega arith) (omega arith) }
    go false p true q e = never target e
    go false p false q e =
        let z : after + o - 65536 ≡ target = some_of e in
        let k : 32768 ≤ o = is_not o 32768 p in
        let m : 65536 ≤ after + o = is_not (after + o) 65536 q in
        record { offset_is = omega arith; is_near = near_by (omega arith) (omega arith) }

-- the branches of a list are to places of that list

abbrev pub InsideSingle : ℕ → Single → Type 0
InsideSingle n (simple p) = Unit
InsideSingle n (pushing vs) = Unit
InsideSingle n (branching b p) = p ≤ n

abbrev pub Inside : ℕ → Code → Type 0
Inside n end = Unit
Inside n (act a c) = InsideSingle n a × Inside n c
Inside n (fun h b c) = Inside (length (sizes b)) b × Inside n c

module _ (ss : List ℕ) (h : All (λ n. 0 < n) ss) where
  single_back : (i : ℕ) (a : Single) → InsideSingle (length ss) a → T (single_near ss i a) → single_place ss i (single_offset ss i a) ≡ some a
  single_back i (simple p) l k = refl
  single_back i (pushing vs) l k = refl
  single_back i (branching b p) l k = rw (moved_law (after_record ss i) (position ss p) k, place_law ss h p l)

pub places_law : (ss : List ℕ) → All (λ n. 0 < n) ss → (i : ℕ) (c : Code) → Inside (length ss) c → T (near ss i c) → places ss i (offsets ss i c) ≡ some c
places_law ss h i end l k = refl
places_law ss h i (act a c) l k =
    rw (
      single_back ss h i a l.0 (and_first (single_near ss i a) (near ss (suc i) c) k),
      places_law ss h (suc i) c l.1 (and_second (single_near ss i a) (near ss (suc i) c) k),
    )
places_law ss h i (fun x b c) l k =
    rw (
      same_sizes (sizes b) 0 b,
      places_law (sizes b) (sizes_fill b) 0 b l.0 (and_first (near (sizes b) 0 b) (near ss (suc i) c) k),
      places_law ss h (suc i) c l.1 (and_second (near (sizes b) 0 b) (near ss (suc i) c) k),
    )

-- what was found comes back to the offsets

record Both {A B C : Type 0} (f : A → B → C) (x : Option A) (y : Option B) (z : C) : Type 0 where
  one : A
  two : B
  one_is : x ≡ some one
  two_is : y ≡ some two
  made : f one two ≡ z

both_found : {A B C : Type 0} (f : A → B → C) (x : Option A) (y : Option B) (z : C) → both f x y ≡ some z → Both f x y z
both_found f none y z e = never z e
both_found f (some a) none z e = never z e
both_found f (some a) (some b) z e = record { one = a; two = b; one_is = refl; two_is = refl; made = some_of e }

pub record Found (ss : List ℕ) (i : ℕ) (d c : Code) : Type 0 where
  pub offsets_are : offsets ss i c ≡ d
  pub is_near : T (near ss i c)

record FoundSingle (ss : List ℕ) (i : ℕ) (d a : Single) : Type 0 where
  offset_is : single_offset ss i a ≡ d
  is_near : T (single_near ss i a)

single_found : (ss : List ℕ) (i : ℕ) (d a : Single) → Small d → single_place ss i d ≡ some a → FoundSingle ss i d a
single_found ss i (simple p) a l e = let z : simple p ≡ a = some_of e in rw (← z) (record { offset_is = refl; is_near = tt })
single_found ss i (pushing vs) a l e = let z : pushing vs ≡ a = some_of e in rw (← z) (record { offset_is = refl; is_near = tt })
single_found ss i (branching b o) a l e = go (moved (after_record ss i) o) refl e
  where
    last : (t : ℕ) → moved (after_record ss i) o ≡ some t → (x : Option ℕ) → place_at_index ss t ≡ x → map (branching b) x ≡ some a → FoundSingle ss i (branching b o) a
    last t m none q e = never a e
    last t m (some p) q e =
        let z : branching b p ≡ a = some_of e in
        let f : (p ≤ length ss) × (position ss p ≡ t) = place_found ss t p q in
        let r : Reached (after_record ss i) o t = moved_found (after_record ss i) o t l m in
        rw (← z) (record { offset_is = rw (f.1, r.offset_is); is_near = rw f.1 r.is_near })

    go : (x : Option ℕ) → moved (after_record ss i) o ≡ x → map (branching b) (and_then x (place_at_index ss)) ≡ some a → FoundSingle ss i (branching b o) a
    go none q e = never a e
    go (some t) q e = last t q (place_at_index ss t) refl e

pub places_found : (ss : List ℕ) (i : ℕ) (d c : Code) → SmallCode d → places ss i d ≡ some c → Found ss i d c
places_found ss i end c l e = let z : end ≡ c = some_of e in rw (← z) (record { offsets_are = refl; is_near = tt })
places_found ss i (act a d) c l e =
    let s = both_found act (single_place ss i a) (places ss (suc i) d) c e in
    let f = single_found ss i a s.one l.0 s.one_is in
    let g = places_found ss (suc i) d s.two l.1 s.two_is in
    rw (← s.made) (record {
      offsets_are = rw (f.offset_is, g.offsets_are);
      is_near = and_both (single_near ss i s.one) (near ss (suc i) s.two) f.is_near g.is_near;
    })
places_found ss i (fun h b d) c l e =
    let s = both_found (fun h) (places (sizes b) 0 b) (places ss (suc i) d) c e in
    let f = places_found (sizes b) 0 b s.one l.0 s.one_is in
    let g = places_found ss (suc i) d s.two l.1 s.two_is in
    let z : sizes s.one ≡ sizes b = sym (same_sizes (sizes b) 0 s.one) ∙ ap sizes f.offsets_are in
    rw (← s.made) (record {
      offsets_are = rw (z, f.offsets_are, g.offsets_are);
      is_near = and_both (near (sizes s.one) 0 s.one) (near ss (suc i) s.two) (rw z f.is_near) g.is_near;
    })
