-- A list passes the rules if each of its actions holds and each of its branches leads to a place.
use Prim.Native.Nat.{ℕ, suc, ◌+◌, ◌≤◌}
use mathlib.Core.Path.{◌≡◌, refl, ap, ◌∙◌}
use mathlib.Core.List.{List, [], ◌∷◌, map}
use mathlib.Core.Bool.{Bool, true, false, cond, ◌&&◌}
use mathlib.Core.Option
use mathlib.Core.Option.{Option, none, some}
use native.Mathlib.Omega.{arith}
use lib.Dec.{T, eqb, le→leb}
use lib.ListN.{length, length-map}
use Rattle.utf8.specs.Utf8.{utf8}
use Rattle.pcode.specs.Pcode.{Action, plain, push, branch, define}
use Rattle.action_format.specs.Lists.{all}
use Rattle.action_format.specs.Strings.{strings, no_zero, plain_strings, values_strings, header_strings}
use Rattle.action_format.specs.Rules.{fits, no_pool, plain_fits, value_fits, header_fits, filled, total, action_values}
use Rattle.action_format.proofs.Tests.{and_first, and_second, and_both}
use Rattle.list_slice.specs.Read.{Placed, at}
use Rattle.list_slice.proofs.Read.{actions}
use Rattle.action_reader.specs.Walk.{aim, aimable, seek, found, or_zero, fixed, sure, holds, one, valued, bad}
use Rattle.action_reader.proofs.Raw.{goes}

seek_inside : (x : ℕ) (ps : List ℕ) → T (found (seek x ps)) → suc (or_zero (seek x ps)) ≤ length ps
unfolding seek
seek_inside x [] h = absurd h
seek_inside x (p ∷ ps) h = go (eqb x p) (seek x ps) h (seek_inside x ps)
  where
    go : (b : Bool) (z : Option ℕ) → T (found (cond b (some 0) (Option.map suc z))) → (T (found z) → suc (or_zero z) ≤ length ps) →
        suc (or_zero (cond b (some 0) (Option.map suc z))) ≤ suc (length ps)
    go true z t ih = omega arith
    go false none t ih = absurd t
    go false (some n) t ih = omega (arith, ih tt)

-- what the rules ask of one action with its place

module _ (ps : List ℕ) (k n : ℕ) where
  abbrev after : Placed → Action
  after a = (fixed ps a).action

  pub record Passes (a : Placed) : Type 0 where
    pub certain : T (sure ps a)
    pub pool_free : T (no_pool (after a))
    pub fit : T (fits k n (after a))
    pub texts : T (all utf8 (strings (after a)))
    pub zeros : T (all no_zero (strings (after a)))

  four_hold : (a b c d : Bool) → T (a && (b && (c && d))) → T a × (T b × (T c × T d))
  four_hold a b c d h =
      let x = and_second a (b && (c && d)) h in
      let y = and_second b (c && d) x in
      (and_first a (b && (c && d)) h, (and_first b (c && d) x, (and_first c d y, and_second c d y)))

  hold_four : (a b c d : Bool) → T a → T b → T c → T d → T (a && (b && (c && d)))
  hold_four a b c d p q r s = and_both a (b && (c && d)) p (and_both b (c && d) q (and_both c d r s))

  pub to_pass : length ps ≡ suc n → (a : Placed) → T (goes ps a) → T (holds k a) → Passes a
  to_pass len a g h = go a.action g h
    where
      go : (x : Action) → T (goes ps (at x a.position)) → T (holds k (at x a.position)) → Passes (at x a.position)
      go (plain p) g h =
          let z = four_hold (no_pool (plain p)) (plain_fits p) (all utf8 (plain_strings p)) (all no_zero (plain_strings p)) h in
          record { certain = tt; pool_free = z.0; fit = z.1.0; texts = z.1.1.0; zeros = z.1.1.1 }
      go (push vs) g h =
          let z = four_hold true (filled vs && all (value_fits k) vs) (all utf8 (values_strings vs)) (all no_zero (values_strings vs)) h in
          record { certain = tt; pool_free = tt; fit = z.1.0; texts = z.1.1.0; zeros = z.1.1.1 }
      go (branch b o) g h =
          let z = and_first (aimable a.position o) true h in
          record {
            certain = and_both (aimable a.position o) (found (seek (aim a.position o) ps)) z g;
            pool_free = tt;
            fit = le→leb (or_zero (seek (aim a.position o) ps)) n (omega (arith, seek_inside (aim a.position o) ps g));
            texts = tt;
            zeros = tt;
          }
      go (define x j) g h =
          let z = four_hold true (header_fits x) (all utf8 (header_strings x)) (all no_zero (header_strings x)) h in
          record { certain = tt; pool_free = tt; fit = z.1.0; texts = z.1.1.0; zeros = z.1.1.1 }

  pub from_pass : (a : Placed) → Passes a → T (goes ps a) × T (holds k a)
  from_pass a h = go a.action h
    where
      go : (x : Action) → Passes (at x a.position) → T (goes ps (at x a.position)) × T (holds k (at x a.position))
      go (plain p) h = (tt, hold_four (no_pool (plain p)) (plain_fits p) (all utf8 (plain_strings p)) (all no_zero (plain_strings p)) h.pool_free h.fit h.texts h.zeros)
      go (push vs) h =
          (tt, hold_four true (filled vs && all (value_fits k) vs) (all utf8 (values_strings vs)) (all no_zero (values_strings vs)) tt h.fit h.texts h.zeros)
      go (branch b o) h = (
        and_second (aimable a.position o) (found (seek (aim a.position o) ps)) h.certain,
        and_both (aimable a.position o) true (and_first (aimable a.position o) (found (seek (aim a.position o) ps)) h.certain) tt,
      )
      go (define x j) h = (tt, hold_four true (header_fits x) (all utf8 (header_strings x)) (all no_zero (header_strings x)) tt h.fit h.texts h.zeros)

-- lists

-- the five tests of a list
pub record Tests (ps : List ℕ) (k n : ℕ) (xs : List Placed) : Type 0 where
  pub certain : T (all (sure ps) xs)
  pub pool_free : T (all no_pool (actions (map (fixed ps) xs)))
  pub fit : T (all (fits k n) (actions (map (fixed ps) xs)))
  pub texts : T (all (λ (a : Action). all utf8 (strings a)) (actions (map (fixed ps) xs)))
  pub zeros : T (all (λ (a : Action). all no_zero (strings a)) (actions (map (fixed ps) xs)))

module _ (ps : List ℕ) (k n : ℕ) where
  abbrev made : List Placed → List Action
  made xs = actions (map (fixed ps) xs)

  abbrev in_utf8 : Action → Bool
  in_utf8 a = all utf8 (strings a)

  abbrev zero_less : Action → Bool
  zero_less a = all no_zero (strings a)

  pub to_tests : length ps ≡ suc n → (xs : List Placed) → T (all (goes ps) xs) → T (all (holds k) xs) → Tests ps k n xs
  to_tests len [] g h = record { certain = tt; pool_free = tt; fit = tt; texts = tt; zeros = tt }
  to_tests len (a ∷ xs) g h =
      let z = to_pass ps k n len a (and_first (goes ps a) (all (goes ps) xs) g) (and_first (holds k a) (all (holds k) xs) h) in
      let r = to_tests len xs (and_second (goes ps a) (all (goes ps) xs) g) (and_second (holds k a) (all (holds k) xs) h) in
      let x = (fixed ps a).action in
      record {
        certain = and_both (sure ps a) (all (sure ps) xs) z.certain r.certain;
        pool_free = and_both (no_pool x) (all no_pool (made xs)) z.pool_free r.pool_free;
        fit = and_both (fits k n x) (all (fits k n) (made xs)) z.fit r.fit;
        texts = and_both (in_utf8 x) (all in_utf8 (made xs)) z.texts r.texts;
        zeros = and_both (zero_less x) (all zero_less (made xs)) z.zeros r.zeros;
      }

  pub from_tests : (xs : List Placed) → Tests ps k n xs → T (all (goes ps) xs) × T (all (holds k) xs)
  from_tests [] t = (tt, tt)
  from_tests (a ∷ xs) t =
      let x = (fixed ps a).action in
      let z = from_pass ps k n a (record {
        certain = and_first (sure ps a) (all (sure ps) xs) t.certain;
        pool_free = and_first (no_pool x) (all no_pool (made xs)) t.pool_free;
        fit = and_first (fits k n x) (all (fits k n) (made xs)) t.fit;
        texts = and_first (in_utf8 x) (all in_utf8 (made xs)) t.texts;
        zeros = and_first (zero_less x) (all zero_less (made xs)) t.zeros;
      }) in
      let r = from_tests xs (record {
        certain = and_second (sure ps a) (all (sure ps) xs) t.certain;
        pool_free = and_second (no_pool x) (all no_pool (made xs)) t.pool_free;
        fit = and_second (fits k n x) (all (fits k n) (made xs)) t.fit;
        texts = and_second (in_utf8 x) (all in_utf8 (made xs)) t.texts;
        zeros = and_second (zero_less x) (all zero_less (made xs)) t.zeros;
      }) in
      (and_both (goes ps a) (all (goes ps) xs) z.0 r.0, and_both (holds k a) (all (holds k) xs) z.1 r.1)

-- sums

pub ones : (xs : List Placed) → total one xs ≡ length xs
ones [] = refl
ones (x ∷ xs) = omega (arith, ones xs)

pub values_kept : (ps : List ℕ) (xs : List Placed) → total action_values (actions (map (fixed ps) xs)) ≡ total valued xs
values_kept ps [] = refl
values_kept ps (a ∷ xs) = rw (values_kept ps xs) (ap (λ (m : ℕ). m + total valued xs) (go a.action))
  where
    go : (x : Action) → action_values (fixed ps (at x a.position)).action ≡ action_values x
    go (plain p) = refl
    go (push vs) = refl
    go (branch b o) = refl
    go (define h j) = refl

pub as_long : (ps : List ℕ) (xs : List Placed) → length (actions (map (fixed ps) xs)) ≡ length xs
as_long ps xs = length-map (map (fixed ps) xs) (λ (a : Placed). a.action) ∙ length-map xs (fixed ps)

pub none_bad : (k : ℕ) (xs : List Placed) → total (bad k) xs ≡ 0 → T (all (holds k) xs)
none_bad k [] h = tt
none_bad k (a ∷ xs) h = go (holds k a) h (none_bad k xs)
  where
    go : (t : Bool) → cond t 0 1 + total (bad k) xs ≡ 0 → (total (bad k) xs ≡ 0 → T (all (holds k) xs)) → T (t && all (holds k) xs)
    go true h ih = ih (omega arith)
    go false h ih = let w : ⊥ = omega arith in absurd w

pub bad_none : (k : ℕ) (xs : List Placed) → T (all (holds k) xs) → total (bad k) xs ≡ 0
bad_none k [] h = refl
bad_none k (a ∷ xs) h = go (holds k a) h (bad_none k xs)
  where
    go : (t : Bool) → T (t && all (holds k) xs) → (T (all (holds k) xs) → total (bad k) xs ≡ 0) → cond t 0 1 + total (bad k) xs ≡ 0
    go true h ih = omega (arith, ih h)
    go false h ih = absurd h
