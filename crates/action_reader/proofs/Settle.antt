-- The loop that settles and moves a list.
use Prim.Native.Nat.{ℕ, suc, ◌+◌, ◌-◌, ◌*◌, ◌≤◌, ◌<◌}
use mathlib.Core.Path.{◌≡◌, refl, sym, ap, ◌∙◌}
use mathlib.Core.List.{List, [], ◌∷◌, ◌++◌, map, append_assoc}
use mathlib.Core.Bool.{Bool, true, false, cond, ◌&&◌}
use mathlib.Core.Option as math
use mathlib.Core.Option.{none, some}
use Rattle.std.proofs.Common.{Option, Some, None}
use Rattle.std.proofs.lemmas.Option.{same_Some}
use Rattle.record_reader.specs.Steps.{some_of}
use native.Mathlib.Omega.{arith}
use lib.ListN.{length, get_or, take, drop, length-append, length-map, length-take, length-drop, take-append-drop}
use lib.Seq.{drop-cons, take-suc, take_all}
use Rattle.action_format.specs.Lists.{all}
use Rattle.list_slice.specs.Entry.{Entry, entry}
use Rattle.list_slice.proofs.Read.{map_append}
use Rattle.builder.specs.Entries.{put3}
use Rattle.record_reader.proofs.Bools.{all_append}
use Rattle.action_reader.specs.declared.walk.Walk.{Walk}
use Rattle.action_reader.specs.Walk.{settle, lands, is_branch, seek, found, or_zero}
use Rattle.action_reader.specs.Layout.{layout}
use Rattle.action_reader.specs.Lists.{Given, Lost, positions_of}
use Rattle.action_reader.proofs.Slice.{moves, reads_code, reads_first, reads_second}

-- The library has no lemma of this shape: the part of a slice from a on, as `[a..]` gives it.
pub rest_of : {xs ys : List ℕ} → ys ≡ xs → (a : ℕ) → take (length ys - a) (drop a ys) ≡ drop a xs
rest_of {xs} {ys} e a = rw e (take_all (length xs - a) (drop a xs) (rw (length-drop a xs) (omega arith)))

-- k entries have moved
pub record Half (ps : List ℕ) (k : ℕ) (low xs up : List Entry) (ends : List ℕ) (w : List ℕ) : Type 0 where
  pub landed : all (lands ps) (take k xs) ≡ true
  pub words : w ≡ layout (low ++ map (settle ps) (take k xs)) (drop k xs ++ up) ends (length w)

pub record Settling (w₀ : List ℕ) (s : Walk) (ps w : List ℕ) (low top : ℕ) : Type 0 where
  pub long : length w ≡ length w₀
  pub step : low + s.top ≡ top + s.low
  pub from : s.top ≤ top
  pub to : top ≤ s.span.base
  pub half : (lows xs up : List Entry) (ends : List ℕ) → Given w₀ s lows xs up ends → Half ps (top - s.top) lows xs up ends w

abbrev nothing : Entry
nothing = entry 0 0 0

-- the entry that is next
module _ {w₀ : List ℕ} {s : Walk} {ps w : List ℕ} {low top : ℕ} (i : Settling w₀ s ps w low top) (more : top < s.span.base) (cap : s.span.base ≤ 4096) (down : s.low ≤ s.top)
    (lows xs up : List Entry) (ends : List ℕ) (g : Given w₀ s lows xs up ends) where
  abbrev k : ℕ
  k = top - s.top

  abbrev e : Entry
  e = get_or xs k nothing

  abbrev done : List Entry
  done = lows ++ map (settle ps) (take k xs)

  abbrev rest : List Entry
  rest = drop (suc k) xs ++ up

  inside : k < length xs
  inside = omega (arith, g.own_is, i.from)

  next_is : drop k xs ≡ e ∷ drop (suc k) xs
  next_is = drop-cons xs k nothing inside

  words_are : w ≡ layout done (e ∷ rest) ends (length w)
  words_are = (i.half lows xs up ends g).words ∙ ap (λ (z : List Entry). layout done (z ++ up) ends (length w)) next_is

  done_length : length done ≡ low
  done_length =
      rw (length-append lows (map (settle ps) (take k xs)), length-map (take k xs) (settle ps), length-take k xs) (omega (arith, g.low_is, i.step, i.from, inside))

  rest_length : top + suc (length rest) ≡ 4096
  rest_length = rw (length-append (drop (suc k) xs) up, length-drop (suc k) xs) (omega (arith, g.own_is, g.up_is, i.from, inside))

  room : length done + suc (length rest) ≤ 4096
  room = omega (arith, done_length, rest_length, i.step)

  pub code_is : get_or w (top * 3) 0 ≡ e.code
  code_is = ap (λ (z : List ℕ). get_or z (top * 3) 0) words_are ∙ reads_code done rest ends (length w) top rest_length room e

  pub first_is : get_or w (top * 3 + 1) 0 ≡ e.first
  first_is = ap (λ (z : List ℕ). get_or z (top * 3 + 1) 0) words_are ∙ reads_first done rest ends (length w) top rest_length room e

  pub second_is : get_or w (top * 3 + 2) 0 ≡ e.second
  second_is = ap (λ (z : List ℕ). get_or z (top * 3 + 2) 0) words_are ∙ reads_second done rest ends (length w) top rest_length room e

  -- what the place says of the entry

  abbrev place : Option ℕ
  place = cond (is_branch e.code) (some_of (seek e.first ps)) (Some e.first)

  place_lost : None ≡ place → lands ps e ≡ false
  place_lost q = go (is_branch e.code) (seek e.first ps) q
    where
      go : (b : Bool) (o : math.Option ℕ) → None ≡ cond b (some_of o) (Some e.first) → cond b (found o) true ≡ false
      go true none f = refl
      go true (some n) f = cc
      go false o f = cc

  place_found : {f : ℕ} → Some f ≡ place → lands ps e ≡ true
  place_found {f} q = go (is_branch e.code) (seek e.first ps) q
    where
      go : (b : Bool) (o : math.Option ℕ) → Some f ≡ cond b (some_of o) (Some e.first) → cond b (found o) true ≡ true
      go true none f = cc
      go true (some n) f = refl
      go false o f = refl

  place_settles : {f : ℕ} → Some f ≡ place → entry e.code f e.second ≡ settle ps e
  place_settles {f} q = go (is_branch e.code) (seek e.first ps) q
    where
      go : (b : Bool) (o : math.Option ℕ) → Some f ≡ cond b (some_of o) (Some e.first) → entry e.code f e.second ≡ cond b (entry e.code (or_zero o) e.second) e
      go true none r = cc
      go true (some n) r = ap (λ (m : ℕ). entry e.code m e.second) (same_Some f n r)
      go false o r = ap (λ (m : ℕ). entry e.code m e.second) (same_Some f e.first r)

  taken_more : take (suc k) xs ≡ take k xs ++ (e ∷ [])
  taken_more = take-suc xs k nothing inside

  landed_more : lands ps e ≡ true → all (lands ps) (take (suc k) xs) ≡ true
  landed_more h = rw (taken_more, all_append (lands ps) (take k xs) (e ∷ []), (i.half lows xs up ends g).landed, h)

  words_more : (w' : List ℕ) (f : ℕ) → entry e.code f e.second ≡ settle ps e →
      w' ≡ put3 (put3 w top 0 0 0) low (get_or w (top * 3) 0) f (get_or w (top * 3 + 2) 0) → length w' ≡ length w →
      w' ≡ layout (lows ++ map (settle ps) (take (suc k) xs)) (drop (suc k) xs ++ up) ends (length w')
  words_more w' f h q l =
      q ∙ rw (code_is, second_is, ← done_length) (ap (λ (z : List ℕ). put3 (put3 z top 0 0 0) (length done) e.code f e.second) words_are
      ∙ moves done rest ends (length w) top rest_length room e e.code f e.second
      ∙ ap (λ (z : Entry). layout (done ++ (z ∷ [])) rest ends (length w)) h
      ∙ ap (λ (z : List Entry). layout z rest ends (length w)) (append_assoc lows (map (settle ps) (take k xs)) (settle ps e ∷ [])
      ∙ ap (λ (z : List Entry). lows ++ z) (sym (map_append (settle ps) (take k xs) (e ∷ [])) ∙ ap (map (settle ps)) (sym taken_more)))
      ∙ ap (layout (lows ++ map (settle ps) (take (suc k) xs)) rest ends) (sym l))

  -- an entry whose target is nowhere
  pub lost : None ≡ place → all (lands ps) xs ≡ false
  lost q =
      let z : lands ps e ≡ false = place_lost q in
      ap (all (lands ps)) (sym (take-append-drop k xs)) ∙ rw (all_append (lands ps) (take k xs) (drop k xs), next_is, z) (never (all (lands ps) (take k xs)))
    where
      never : (b : Bool) → b && false ≡ false
      never true = refl
      never false = refl

  pub half_more : {f : ℕ} → Some f ≡ place → (w' : List ℕ) →
      w' ≡ put3 (put3 w top 0 0 0) low (get_or w (top * 3) 0) f (get_or w (top * 3 + 2) 0) → length w' ≡ length w → (m : ℕ) → m ≡ suc k → Half ps m lows xs up ends w'
  half_more {f} q w' z l m a = rw a (record { landed = landed_more (place_found q); words = words_more w' f (place_settles q) z l })

module _ {w₀ : List ℕ} {s : Walk} {w : List ℕ} {low top : ℕ} (i : Settling w₀ s (positions_of s) w low top) (cap : s.span.base ≤ 4096) (down : s.low ≤ s.top) where
  abbrev ps : List ℕ
  ps = positions_of s

  abbrev said : (code first : ℕ) → Option ℕ
  said c f = cond (is_branch c) (some_of (seek f ps)) (Some f)

  pub settle_again : top < s.span.base → {f : ℕ} → Some f ≡ said (get_or w (top * 3) 0) (get_or w (top * 3 + 1) 0) → {w' : List ℕ} →
      w' ≡ put3 (put3 w top 0 0 0) low (get_or w (top * 3) 0) f (get_or w (top * 3 + 2) 0) → length w' ≡ length w → Settling w₀ s ps w' (low + 1) (top + 1)
  settle_again more q {w'} z l = record {
    long = l ∙ i.long;
    step = omega (arith, i.step);
    from = omega (arith, i.from);
    to = omega arith;
    half = λ lows xs up ends g.
        let a = code_is i more cap down lows xs up ends g in
        let b = first_is i more cap down lows xs up ends g in
        half_more i more cap down lows xs up ends g (rw (a, b) at q) w' z l (top + 1 - s.top) (omega (arith, i.from));
  }

  pub settle_lost : top < s.span.base → None ≡ said (get_or w (top * 3) 0) (get_or w (top * 3 + 1) 0) →
      (lows xs up : List Entry) (ends : List ℕ) → Given w₀ s lows xs up ends → Lost s xs
  settle_lost more q lows xs up ends g =
      let a = code_is i more cap down lows xs up ends g in
      let b = first_is i more cap down lows xs up ends g in
      lost i more cap down lows xs up ends g (rw (a, b) at q)
