-- Where it stands, after each step.
use Prim.Native.Nat.{ℕ, suc, ◌+◌, ◌-◌, ◌≤◌, ◌<◌}
use mathlib.Core.Path.{◌≡◌, refl, sym, ap, ap₂, ◌∙◌}
use mathlib.Core.List.{List, [], ◌∷◌, ◌++◌, map, append_assoc, append-nil}
use native.Mathlib.Omega.{arith}
use lib.ListN.{length, get_or, length-append, length-map}
use Rattle.list_slice.specs.Entry.{Entry, entry}
use Rattle.list_slice.specs.Words.{joined, ends_from}
use Rattle.list_slice.specs.Read.{Placed}
use Rattle.list_slice.proofs.Read.{map_append}
use Rattle.list_slice.proofs.Parse.{ends_length}
use Rattle.builder.specs.Entries.{put3}
use Rattle.builder.proofs.Words.{length_put}
use Rattle.action_reader.specs.declared.walk.Walk.{Walk}
use Rattle.action_reader.specs.Walk.{Ended, ended_at, Open, defined, raw, settle, settled, bounds}
use Rattle.action_reader.specs.Layout.{layout}
use Rattle.action_reader.specs.Lists.{Given, Closed, positions_of}
use Rattle.action_reader.specs.View.{upper, Laid}
use Rattle.action_reader.proofs.Slice.{grows}
use Rattle.action_reader.proofs.Raw.{own_entries, raw_last, raw_none}

-- joined lists and their ends

pub joined_last : {A : Type 0} (xss : List (List A)) (xs : List A) → joined (xss ++ (xs ∷ [])) ≡ joined xss ++ xs
unfolding joined
joined_last [] xs = append-nil xs
joined_last (ys ∷ xss) xs = rw (joined_last xss xs) (sym (append_assoc ys (joined xss) xs))

pub ends_last : {A : Type 0} (p : ℕ) (xss : List (List A)) (xs : List A) → ends_from p (xss ++ (xs ∷ [])) ≡ ends_from p xss ++ ((p + length (joined xss) + length xs) ∷ [])
unfolding joined ends_from
ends_last p [] xs = ap (λ (n : ℕ). (n + length xs) ∷ []) same
  where
    same : p ≡ p + 0
    same = omega arith
ends_last p (ys ∷ xss) xs = ap (λ (r : List ℕ). (p + length ys) ∷ r) (ends_last (p + length ys) xss xs ∙ ap (λ (n : ℕ). ends_from (p + length ys) xss ++ ((n + length xs) ∷ [])) same)
  where
    same : p + length ys + length (joined xss) ≡ p + length (ys ++ joined xss)
    same = rw (length-append ys (joined xss)) (omega arith)

module _ {w : List ℕ} {s : Walk} {fs : List Open} {own : List Placed} {ls : List Ended} (h : Laid w s fs own ls) where
  abbrev low : List Entry
  low = joined (map settled ls)

  abbrev ends : List ℕ
  ends = ends_from 0 (map settled ls)

  up_length : length (raw own ++ upper fs) + s.top ≡ 4096
  up_length = rw (length-append (raw own) (upper fs)) (omega (arith, h.top, h.base))

  -- the entries of the present list are above the finished ones
  pub given_list : Given w s low (raw own) (upper fs) ends
  given_list = record { words = h.words; low_is = h.low; up_is = h.base; own_is = h.top }

  pub ends_many : length ends ≡ s.lists
  ends_many = ends_length 0 (map settled ls) ∙ length-map ls settled ∙ h.lists

  -- an action of one entry
  pub laid_single : s.actions + s.values < 4096 → (a : Placed) (c x y : ℕ) → own_entries a ≡ entry c x y ∷ [] → {w' : List ℕ} → w' ≡ put3 w (s.top - 1) c x y → (s' : Walk) →
      s'.low ≡ s.low → s'.top ≡ s.top - 1 → s'.span.base ≡ s.span.base → s'.lists ≡ s.lists → s'.actions ≡ s.actions + 1 → s'.values ≡ s.values → Laid w' s' fs (own ++ (a ∷ [])) ls
  laid_single few a c x y e {w'} q s' low_is top_is base_is lists_are actions-are values-are = record {
    long = rw (q, length_put w (s.top - 1) c x y) h.long;
    words = q ∙ ap (λ (z : List ℕ). put3 z (s.top - 1) c x y) h.words
        ∙ grows low (raw own ++ upper fs) ends (length w) (s.top - 1) (omega (arith, up_length, h.room)) (omega (arith, up_length, h.room, h.low)) c x y
        ∙ ap₂ (λ (u : List Entry) (n : ℕ). layout low (u ++ upper fs) ends n) (sym more) (sym (ap length q ∙ length_put w (s.top - 1) c x y));
    low = h.low ∙ sym low_is;
    top = rw more (omega (arith, h.top, h.room));
    base = rw base_is h.base;
    lists = h.lists ∙ sym lists_are;
    room = omega (arith, h.room);
    fewer = omega (arith, h.fewer);
  }
    where
      more : raw (own ++ (a ∷ [])) ≡ entry c x y ∷ raw own
      more = raw_last own a ∙ ap (λ (z : List Entry). z ++ raw own) e

  -- several entries of one action are written already
  pub laid_push : (a : Placed) (es : List Entry) → own_entries a ≡ es → {w' : List ℕ} → length w' ≡ length w → w' ≡ layout low (es ++ (raw own ++ upper fs)) ends (length w') → (s' : Walk) (n : ℕ) →
      length es ≡ n → n ≤ s.top → s'.low ≡ s.low → s'.top ≡ s.top - n → s'.span.base ≡ s.span.base → s'.lists ≡ s.lists → s'.actions ≡ s.actions + 1 → s'.values ≡ s.values + n →
      Laid w' s' fs (own ++ (a ∷ [])) ls
  laid_push a es e {w'} l q s' n count few low_is top_is base_is lists_are actions-are values-are = record {
    long = rw l h.long;
    words = q ∙ ap (λ (u : List Entry). layout low u ends (length w')) (sym (append_assoc es (raw own) (upper fs)) ∙ ap (λ (u : List Entry). u ++ upper fs) (sym more));
    low = h.low ∙ sym low_is;
    top = rw (more, length-append es (raw own)) (omega (arith, h.top));
    base = rw base_is h.base;
    lists = h.lists ∙ sym lists_are;
    room = omega (arith, h.room, up_length);
    fewer = omega (arith, h.fewer);
  }
    where
      more : raw (own ++ (a ∷ [])) ≡ es ++ raw own
      more = raw_last own a ∙ ap (λ (z : List Entry). z ++ raw own) e

  -- a function's body begins
  pub laid_open : (g : Open) → g.around ≡ own → (s' : Walk) →
      s'.low ≡ s.low → s'.top ≡ s.top → s'.span.base ≡ s.top → s'.lists ≡ s.lists → s'.actions ≡ s.actions + 1 → s'.values ≡ s.values → Laid w s' (g ∷ fs) [] ls
  laid_open g e s' low_is top_is base_is lists_are actions-are values-are = record {
    long = h.long;
    words = rw (raw_none, e) h.words;
    low = h.low ∙ sym low_is;
    top = rw raw_none (omega arith);
    base = rw (e, base_is) up_length;
    lists = h.lists ∙ sym lists_are;
    room = omega (arith, h.room);
    fewer = omega (arith, h.fewer);
  }

pub settled_is : (l : Ended) → settled l ≡ map (settle (bounds l)) (raw l.actions)
unfolding settled
settled_is l = refl

-- a body has ended
pub laid_close : {w : List ℕ} {s : Walk} {g : Open} {fs : List Open} {own : List Placed} {ls : List Ended} (h : Laid w s (g ∷ fs) own ls) → {s' : Walk} {w' : List ℕ} →
    s.actions + s.values < 4096 →
    Closed (joined (map settled ls)) (raw own) (upper (g ∷ fs)) (ends_from 0 (map settled ls)) s s' w' → length w' ≡ length w →
    positions_of s ≡ bounds (ended_at own s.at) → get_or s.table.items (s.span.first - 1) 0 ≡ g.position →
    s'.low ≡ length (joined (map settled ls)) + length (raw own) → s'.top ≡ s.span.base - 1 → s'.span.base + length (upper fs) ≡ 4096 → s'.lists ≡ s.lists + 1 → s'.actions ≡ s.actions → s'.values ≡ s.values →
    Laid w' s' fs (g.around ++ (defined g (suc (length ls)) ∷ [])) (ls ++ (ended_at own s.at ∷ []))
laid_close {w} {s} {g} {fs} {own} {ls} h {s'} {w'} few x l ps mine low_is top_is base_is lists_are actions-are values-are = record {
  long = rw l h.long;
  words = x.words ∙ all_same;
  low = rw (finished, joined_last (map settled ls) (settled new), length-append (joined (map settled ls)) (settled new), settled_length) (sym low_is);
  top = rw grown (omega (arith, up_length, h.base, base_is, around_there));
  base = omega (arith, base_is);
  lists = rw (length-append ls (new ∷ [])) (omega (arith, h.lists));
  room = omega (arith, h.room, h.low, h.top, h.base);
  fewer = omega (arith, h.fewer);
}
  where
    new : Ended
    new = ended_at own s.at

    finished : map settled (ls ++ (new ∷ [])) ≡ map settled ls ++ (settled new ∷ [])
    finished = map_append settled ls (new ∷ [])

    new_is : settled new ≡ map (settle (positions_of s)) (raw own)
    new_is = settled_is new ∙ ap (λ (z : List ℕ). map (settle z) (raw own)) (sym ps)

    settled_length : length (settled new) ≡ length (raw own)
    settled_length = ap length new_is ∙ length-map (raw own) (settle (positions_of s))

    grown : raw (g.around ++ (defined g (suc (length ls)) ∷ [])) ≡ entry 256 (suc (length ls)) g.position ∷ raw g.around
    grown = raw_last g.around (defined g (suc (length ls)))

    around_there : length (raw g.around) + length (upper fs) + s.span.base ≡ 4096
    around_there = ap (λ (n : ℕ). n + s.span.base) (sym (length-append (raw g.around) (upper fs))) ∙ h.base

    up_length : length (upper fs) + (4096 - length (upper fs)) ≡ 4096
    up_length = omega (arith, around_there)

    all_same : layout (joined (map settled ls) ++ map (settle (positions_of s)) (raw own)) (entry 256 (s.lists + 1) (get_or s.table.items (s.span.first - 1) 0) ∷ upper (g ∷ fs))
        (ends_from 0 (map settled ls) ++ ((length (joined (map settled ls)) + length (raw own)) ∷ [])) (length w') ≡
        layout (joined (map settled (ls ++ (new ∷ [])))) (raw (g.around ++ (defined g (suc (length ls)) ∷ [])) ++ upper fs) (ends_from 0 (map settled (ls ++ (new ∷ [])))) (length w')
    all_same = rw (finished, joined_last (map settled ls) (settled new), ends_last 0 (map settled ls) (settled new), settled_length, grown, mine, number, zero_first, ← new_is)
      where
        number : s.lists + 1 ≡ suc (length ls)
        number = omega (arith, h.lists)

        zero_first : 0 + length (joined (map settled ls)) ≡ length (joined (map settled ls))
        zero_first = omega arith
