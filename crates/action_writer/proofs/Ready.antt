-- The lists of an accepted file, held by the words and resolved, can be written.
use Prim.Native.Nat.{ℕ, zero, suc, ◌+◌, ◌-◌, ◌*◌, ◌≤◌, ◌<◌}
use mathlib.Core.Path.{◌≡◌, refl, ap, sym, ◌∙◌, subst}
use mathlib.Core.List.{List, [], ◌∷◌, ◌++◌, reverse, reverse_aux}
use mathlib.Core.Bool.{Bool, true, false, cond, ◌&&◌}
use native.Mathlib.Omega.{arith}
use native.Mathlib.Numerals.{add-one}
use lib.Dec.{T, eqb}
use lib.ListN.{length, get_or, length-append, length-map}
use borrow.Author.Tests.{eqb-true, eqb-false}
use Rattle.pcode.specs.Pcode.{Item}
use Rattle.script_records.specs.declared.layout.Layout.{Layout}
use Rattle.script_records.specs.Layout.{layout_of}
use Rattle.script.specs.Write.{Bytes}
use Rattle.lowering.specs.Builder.{limits01}
use Rattle.action_format.specs.ByPlace.{place_of_label, items_by_place}
use Rattle.action_format.specs.Lists.{Lists, all, all_lists}
use Rattle.action_format.specs.Strings.{lists_are_utf8}
use Rattle.action_format.specs.Rules.{OfLowering, list_fits, pool_first, pool_count, within}
use Rattle.action_format.specs.ByList.{list_of}
use Rattle.action_format.proofs.Tests.{All, and_first, and_second, all_at}
use Rattle.action_format.proofs.Finished.{finished}
use Rattle.action_format.proofs.Refusals.{short_by_actions}
use Rattle.list_slice.specs.Words.{run}
use Rattle.list_slice.specs.Items.{gathered}
use Rattle.list_slice.specs.Compiled.{lists_in}
use Rattle.list_slice.proofs.Determined.{read_back}
use Rattle.definition.specs.Outcome.{by_place, byte_limits}
use Rattle.definition.specs.Demand3.{list_at}
use Rattle.byte_writer.specs.Data.{framed, action_bytes}
use Rattle.byte_writer.specs.Header.{function_bytes}
use Rattle.byte_writer.proofs.Frames.{framed_length}
use Rattle.resolver.specs.Walk.{count_of, end_of, start_of, piece_at, walked, walked_bytes}
use Rattle.resolver.specs.Passes.{walked_at}
use Rattle.resolver.specs.Lowered.{Lowered}
use Rattle.resolver.specs.Resolved.{Tables, Resolved}
use Rattle.resolver.proofs.Whole.{few_lists, long_slice, order_at, cap_at, split, lists_count, walked_list}
use Rattle.definition.proofs.Branches.{list_by_place}
use Rattle.resolver.proofs.Stand.{made, stands}
use Rattle.resolver.proofs.Written.{body_walked}
use Rattle.action_writer.specs.Bodies.{held_lists, number_in, body_at, items_from, bytes_of}
use Rattle.action_writer.specs.Steps.{Sort, a_mark, a-function, an-action, a-first-value, a-later-value, sort_of, value', Step, WritableList, Writable}
use Rattle.action_writer.proofs.Fits.{Ok, OkAction, Before, ok_before, ok_actions, lifted, all_before}
use Rattle.action_writer.proofs.Stepping.{items_next, step_of}

all_aux : {A : Type 0} (P : A → Type 0) (xs ys : List A) → All P (reverse_aux xs ys) → All P xs × All P ys
all_aux P [] ys h = (tt, h)
all_aux P (x ∷ xs) ys h = let r = all_aux P xs (x ∷ ys) h in ((r.1.0, r.0), r.1.1)

all_reverse : {A : Type 0} (P : A → Type 0) (xs : List A) → All P (reverse xs) → All P xs
all_reverse P xs h = (all_aux P xs [] h).0

functions_length : (ls : List (List Item)) → 0 < length ls → length (by_place ls).functions + 1 ≡ length ls
functions_length [] h = let z : ⊥ = omega arith in absurd z
functions_length (t ∷ fs) h = let e = length-map fs items_by_place in omega arith

module _ {F w : List ℕ} (h : Lowered F w) where
  pub same_lists : lists_in limits01 F w ≡ h.lists
  same_lists = read_back h.holds

  pub held : held_lists F w ≡ by_place h.lists
  unfolding held_lists
  held = ap by_place same_lists

module _ {F w : List ℕ} (h : Lowered F w) (bytes : Bytes F) {sizes offsets : List ℕ} (x : Resolved F w h.lists sizes offsets) (l : Layout) (layout : l ≡ layout_of F) where
  kept : OfLowering (byte_limits limits01) (held_lists F w)
  kept = rw (held h) (made h bytes)

  tables : Tables F w (lists_in limits01 F w) sizes offsets
  tables = subst (λ (y : List (List Item)). Tables F w y sizes offsets) (sym (same_lists h)) x.tables

  abbrev L : Lists
  L = held_lists F w

  abbrev pool : ℕ
  pool = pool_count L

  counted : count_of w ≡ length (lists_in limits01 F w)
  counted = lists_count h ∙ sym (ap length (same_lists h ∙ (split h).2))

  module _ (j : ℕ) (q : j < count_of w) where
    functions_are : length L.functions + 1 ≡ count_of w
    unfolding held_lists
    functions_are = functions_length (lists_in limits01 F w) (omega (arith, counted)) ∙ sym counted

    list_rules : T (list_fits pool (list_of L (number_in w j)))
    list_rules =
        all_at (list_fits pool) (all_lists L) (number_in w j) tt
        (and_second (pool_first L) (all (list_fits pool) (all_lists L))
        (and_first (pool_first L && all (list_fits pool) (all_lists L)) (lists_are_utf8 L)
        (and_first (pool_first L && all (list_fits pool) (all_lists L) && lists_are_utf8 L) (within (byte_limits limits01) L) kept.tested)))

    before : All (Before L pool j) (list_of L (number_in w j))
    before = by (eqb (j + 1) (count_of w)) refl
      where
        by : (t : Bool) → eqb (j + 1) (count_of w) ≡ t → All (Before L pool j) (list_of L (cond t 0 (j + 1)))
        by true e =
            let n : length L.functions ≡ j = omega (arith, functions_are, eqb-true (j + 1) (count_of w) e) in
            all_before L pool L.functions (rw n at kept.numbered)
        by false e =
            let z = eqb-false (j + 1) (count_of w) e in
            let d = length L.functions in
            let r = finished L.functions d 0 d L.top kept.numbered (omega arith) (omega arith) j (omega arith) (omega (arith, functions_are)) in
            rw (add-one j) (all_before L pool L.functions r.numbered)

    actions_ok : All (OkAction L pool j) (list_of L (number_in w j))
    actions_ok = ok_actions L pool j (length (list_of L (number_in w j))) (list_of L (number_in w j)) list_rules (λ i a e. (short_by_actions L kept.numbered).0 (rw (held h) x.is_short) (number_in w j) i a e) before

    list_walked : list_at (lists_in limits01 F w) (number_in w j) ≡ reverse (walked_at F w j)
    list_walked = ap (λ (ls : List (List Item)). list_at ls (number_in w j)) (same_lists h) ∙ sym (walked_list h j q)

    body_is : body_at F w j ≡ bytes_of F w j (items_from F w j (start_of w j))
    unfolding body_at bytes_of items_from
    body_is = rw (held h, same_lists h) (body_walked h bytes j q)

    items_ok : All (Ok L pool j) (items_from F w j (start_of w j))
    unfolding held_lists items_from
    items_ok =
        let ls = lists_in limits01 F w in
        let k = number_in w j in
        all_reverse (Ok L pool j) (walked F w (start_of w j) (end_of w j - start_of w j))
        (rw list_walked at (lifted L pool j (place_of_label (list_at ls k)) (list_at ls k) (rw (list_by_place ls k) at actions_ok)))

    ok_at : (n : ℕ) → start_of w j + n ≤ end_of w j → All (Ok L pool j) (items_from F w j (start_of w j + n))
    ok_at zero k = let e : start_of w j + 0 ≡ start_of w j = omega arith in rw e items_ok
    ok_at (suc n) k =
        let e : start_of w j + suc n ≡ start_of w j + n + 1 = omega arith in
        rw e (ok_before L pool j _ (piece_at w (start_of w j + n)) _ (rw (items_next F w l sizes offsets layout h tables j (start_of w j + n) (omega arith)) at (ok_at n (omega arith))))

    step_at : (e : ℕ) → start_of w j ≤ e → e < end_of w j → Step F l w sizes offsets j e (sort_of (get_or w (e * 3) 0))
    step_at e low high =
        let s = ((stands h bytes).standing j q).known e low high in
        let n = items_next F w l sizes offsets layout h tables j e high in
        let d : start_of w j + (e - start_of w j) ≡ e = omega arith in
        step_of F w l sizes offsets layout h tables pool j e q low high (piece_at w e) refl s.written s.named s.operand
        (rw n at (rw d at (ok_at (e - start_of w j) (omega arith)))) n

    grows : (e : ℕ) (s : Sort) → Step F l w sizes offsets j e s → length (bytes_of F w j (items_from F w j (e + 1))) ≤ length (bytes_of F w j (items_from F w j e))
    grows e a_mark m = omega (arith, ap length m.adds)
    grows e a-function m =
        let x = get_or w (e * 3 + 1) 0 in
        omega (
          arith,
          ap length m.adds,
          length-append (bytes_of F w j (items_from F w j (e + 1))) (function_bytes F l (get_or w (e * 3 + 2) 0) (get_or sizes x 0) ++ body_at F w (x - 1)),
        )
    grows e an-action m =
        omega (
          arith,
          ap length m.adds,
          length-append (bytes_of F w j (items_from F w j (e + 1))) (action_bytes F l w (get_or w (e * 3) 0) (get_or w (e * 3 + 1) 0) (get_or offsets e 0)),
        )
    grows e a-first-value m =
        omega (arith, ap length m.adds, length-append (bytes_of F w j (items_from F w j (e + 1))) (framed 0x96 (value' F l w sizes offsets j e)))
    grows e a-later-value m =
        let v = value' F l w sizes offsets j e in
        omega (
          arith,
          ap length m.adds,
          ap length m.was,
          length-append m.front (framed 0x96 m.data'),
          framed_length 0x96 m.data',
          length-append m.front (framed 0x96 (m.data' ++ v)),
          framed_length 0x96 (m.data' ++ v),
          length-append m.data' v,
        )

    rest_at : (n : ℕ) → start_of w j + n ≤ end_of w j → length (bytes_of F w j (items_from F w j (start_of w j + n))) ≤ length (body_at F w j)
    rest_at zero k = let e : start_of w j + 0 ≡ start_of w j = omega arith in rw (e, body_is) (omega arith)
    rest_at (suc n) k =
        let e : start_of w j + suc n ≡ start_of w j + n + 1 = omega arith in
        let s = grows (start_of w j + n) (sort_of (get_or w ((start_of w j + n) * 3) 0)) (step_at (start_of w j + n) (omega arith) (omega arith)) in
        rw e (omega (arith, rest_at n (omega arith)))

    none_left : items_from F w j (end_of w j) ≡ []
    unfolding items_from walked gathered run
    none_left = let e : end_of w j - end_of w j ≡ 0 = omega arith in rw e

    no_bytes : bytes_of F w j [] ≡ []
    unfolding bytes_of walked_bytes
    no_bytes = refl

    writable_list : WritableList F l w sizes offsets j
    writable_list = record {
      order = order_at h j q;
      cap = cap_at h j q;
      body = body_is;
      none = rw none_left no_bytes;
      start = λ at begun. rw none_left tt;
      step = step_at;
      rest = λ e low high. let d : start_of w j + (e - start_of w j) ≡ e = omega arith in rw d at (rest_at (e - start_of w j) (omega arith));
    }

  pub writable : Writable F l w sizes offsets
  writable = record { long = long_slice h; few = few_lists h; list = writable_list }
