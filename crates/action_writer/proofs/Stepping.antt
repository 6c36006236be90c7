-- Each entry of the lists that the words hold adds its piece's bytes.
use Prim.Native.Nat.{ℕ, suc, ◌+◌, ◌-◌, ◌*◌, ◌%◌, ◌≤◌, ◌<◌}
use mathlib.Core.Path.{◌≡◌, refl, ap, sym, ◌∙◌, subst}
use mathlib.Core.List.{List, [], ◌∷◌, ◌++◌, append-nil}
use mathlib.Core.Bool.{Bool, true, false, cond}
use native.Mathlib.Omega.{arith}
use native.Mathlib.Numerals.{add-one}
use lib.Dec.{T, eqb, ltb→lt}
use lib.ListN.{length, get_or}
use borrow.Author.Tests.{ne_eqb, lt-ltb, eqb-true, eqb-false}
use Rattle.pcode.specs.declared.Op.{Op}
use Rattle.pcode.specs.Pcode.{Value, Action, Item, Plain, Branching, Jump, If, row_of, plain, push, branch, define, action, mark}
use Rattle.script_records.specs.declared.layout.Layout.{Layout}
use Rattle.script_records.specs.Layout.{layout_of}
use Rattle.lowering.specs.Builder.{limits01}
use Rattle.action_format.specs.ByPlace.{actions, rebranch, place_of_label}
use Rattle.action_format.specs.Lists.{Lists, pushing, branching}
use Rattle.action_format.specs.Bytes.{Bytes, word, join, value_bytes, single_bytes}
use Rattle.action_format.specs.Rules.{value_fits}
use Rattle.action_format.specs.Offsets.{offset}
use Rattle.action_format.specs.ByList.{body_bytes, begins, action_bytes_at}
use Rattle.action_format.proofs.Tests.{All, and_first, all_append}
use Rattle.list_slice.specs.Entry as entry
use Rattle.list_slice.specs.Entry.{Pushed, Piece, op, ConstantPool, StoreRegister, GotoFrame, GotoLabel, GotoFrame2, function, value, entry_of, value_entry}
use Rattle.list_slice.specs.Words.{entry_at, run}
use Rattle.list_slice.specs.Items.{References, value_of, extended, added, gathered}
use Rattle.list_slice.specs.File.{header_in}
use Rattle.list_slice.specs.Compiled.{lists_in, piece_named}
use Rattle.definition.specs.Demand3.{list_at}
use Rattle.byte_writer.specs.Data.{frame, framed, value_data, action_data, action_bytes}
use Rattle.byte_writer.specs.Header.{IsFunction}
use Rattle.byte_writer.proofs.ParamLoops.{join_append}
use Rattle.resolver.specs.Walk.{count_of, end_of, start_of, index_of, piece_at, references_in, walked, walked_bytes}
use Rattle.resolver.specs.Lowered.{Lowered}
use Rattle.resolver.specs.Texts.{Operand}
use Rattle.resolver.specs.Resolved.{Tables}
use Rattle.resolver.proofs.Whole.{few_lists, long_slice}
use Rattle.resolver.proofs.OpCodes.{op_code, op_says}
use Rattle.action_writer.specs.Bodies.{held_lists, number_in, body_at, items_from, bytes_of}
use Rattle.action_writer.specs.Steps.{an-action, a-first-value, a-later-value, sort_of, OpenIn, Continues, Step}
use Rattle.action_writer.proofs.Fits.{Ok}
use Rattle.action_writer.proofs.PieceBytes.{value_is, op_is, pool_is, store_is, frame_is, frame2_is, label_is, branch_is}
use Rattle.action_writer.proofs.HeaderBytes.{function_data_lem, function_bytes_lem}
use Rattle.action_writer.proofs.IsFunction.{is_function}

push_framed : (vs : List Value) → single_bytes (pushing vs) ≡ framed 0x96 (join value_bytes vs)
unfolding frame word
push_framed vs = refl

-- the place of list number k
pub index_number : (n j : ℕ) → j < n → index_of n (cond (eqb (j + 1) n) 0 (j + 1)) ≡ j
index_number n j h = by (eqb (j + 1) n) refl
  where
    by : (t : Bool) → eqb (j + 1) n ≡ t → index_of n (cond t 0 (j + 1)) ≡ j
    by true e = omega (arith, eqb-true (j + 1) n e)
    by false e = rw (add-one j)

module _ (F w : List ℕ) (l : Layout) (sizes offsets : List ℕ) (layout : l ≡ layout_of F) (lowered : Lowered F w)
    (tables : Tables F w (lists_in limits01 F w) sizes offsets) where
  abbrev L : Lists
  L = held_lists F w

  abbrev r : References
  r = references_in F w

  -- the items with one entry more
  pub items_next : (j e : ℕ) → e < end_of w j → items_from F w j e ≡ added r (piece_at w e) (items_from F w j (e + 1))
  unfolding items_from walked gathered run
  items_next j e h = let n : end_of w j - e ≡ suc (end_of w j - (e + 1)) = omega arith in rw (n, add-one e)

  module _ (pool j e : ℕ) (inside : j < count_of w) where
    abbrev k : ℕ
    k = number_in w j

    abbrev f : ℕ → ℕ
    f = place_of_label (list_at (lists_in limits01 F w) k)

    abbrev G : List Item
    G = items_from F w j (e + 1)

    abbrev off : ℕ
    off = get_or offsets e 0

    abbrev At : Type 0
    At = Step F l w sizes offsets j e (sort_of (get_or w (e * 3) 0))

    bytes_more : (x : Action) (is : List Item) → bytes_of F w j (action x ∷ is) ≡ bytes_of F w j is ++ action_bytes_at L k (length (actions is)) (rebranch f x)
    unfolding bytes_of walked_bytes
    bytes_more x is = refl

    bytes_mark : (m : ℕ) (is : List Item) → bytes_of F w j (mark m ∷ is) ≡ bytes_of F w j is
    unfolding bytes_of walked_bytes
    bytes_mark m is = refl

    -- the words of entry e
    module _ {x : entry.Entry} (q : x ≡ entry_at w e) where
      code_is : get_or w (e * 3) 0 ≡ x.code
      unfolding entry_at
      code_is = ap (λ (y : entry.Entry). y.code) (sym q)

      first_is : get_or w (e * 3 + 1) 0 ≡ x.first
      unfolding entry_at
      first_is = ap (λ (y : entry.Entry). y.first) (sym q)

      second_is : get_or w (e * 3 + 2) 0 ≡ x.second
      unfolding entry_at
      second_is = ap (λ (y : entry.Entry). y.second) (sym q)

      sort_is : {s : _} → sort_of x.code ≡ s → Step F l w sizes offsets j e s → At
      sort_is p t = subst (Step F l w sizes offsets j e) (sym (ap sort_of code_is ∙ p)) t

      made_action : (a : Action) (d : Bytes) → sort_of x.code ≡ an-action → (x.code ≡ 136 → 14336 + x.first ≤ length w) → items_from F w j e ≡ action a ∷ G →
          (action_data F l w x.code x.first off ≡ d) × (action_bytes F l w x.code x.first off ≡ action_bytes_at L k (length (actions G)) (rebranch f a)) → length d ≤ 65535 →
          ((at begun : ℕ) → OpenIn F l w sizes offsets j e (action a ∷ G) at begun) → At
      made_action a d s p items is short free = sort_is s (record {
        pool = rw (code_is, first_is) p;
        short = rw (code_is, first_is, is.0) short;
        adds = rw (code_is, first_is, is.1, items) (bytes_more a G);
        free = λ at begun. rw items (free at begun);
      })

    made_mark : (m : ℕ) → entry_of (entry.mark m) ≡ entry_at w e → items_from F w j e ≡ mark m ∷ G → At
    made_mark m q items = sort_is q refl (record { adds = rw items (bytes_mark m G); free = λ at begun. rw items tt })

    -- a function's list has finished before
    number_back : (n : ℕ) → 1 ≤ n → n ≤ j → number_in w (n - 1) ≡ n
    number_back n a b =
        let z : n - 1 + 1 ≡ n = omega arith in
        rw (z, ne_eqb n (count_of w) (λ y. omega arith))

    body_back : (n : ℕ) → 1 ≤ n → n ≤ j → body_at F w (n - 1) ≡ body_bytes L n
    unfolding body_at
    body_back n a b = ap (body_bytes L) (number_back n a b)

    size_of : (n : ℕ) → n ≤ j → get_or sizes n 0 ≡ length (body_bytes L n)
    unfolding held_lists
    size_of n b = tables.body_size n (omega arith)

    made_function : (n g : ℕ) → entry_of (function n g) ≡ entry_at w e → T (piece_named F (function n g)) → Ok L pool j (action (define (header_in F g) n)) →
        items_from F w j e ≡ action (define (header_in F g) n) ∷ G → At
    made_function n g q t ok items =
        let i : IsFunction F l g = is_function F l layout lowered.accepted g t in
        let few = few_lists lowered in
        let s = size_of n ok.2 in
        sort_is q refl (record {
          function = rw (second_is q) i;
          numbered = rw (first_is q) ok.1;
          earlier = rw (first_is q) ok.2;
          known = rw (first_is q) (omega (arith, ok.2));
          short = rw (first_is q, second_is q, function_data_lem F l g (get_or sizes n 0) i ok.0, s) ok.3;
          adds =
              rw (first_is q, second_is q, function_bytes_lem F l g (get_or sizes n 0) i ok.0, s, body_back n ok.1 ok.2, items) (bytes_more (define (header_in F g) n) G);
          free = λ at begun. rw items tt;
        })

    -- values

    abbrev value_of_lem : Pushed → Value
    value_of_lem v = value_of r v

    made_first : (v : Pushed) → sort_of (value_entry 0x110 v).code ≡ a-first-value → entry_of (value true v) ≡ entry_at w e → Ok L pool j (action (push (value_of_lem v ∷ []))) →
        items_from F w j e ≡ action (push (value_of_lem v ∷ [])) ∷ G → At
    made_first v s q ok items =
        let d = value_is F l w layout true pool v (and_first (value_fits pool (value_of_lem v)) true ok.0) in
        let n = append-nil (value_bytes (value_of_lem v)) in
        sort_is q s (record {
          short = rw (code_is q, first_is q, second_is q, d) (rw n at ok.1);
          adds =
              rw (code_is q, first_is q, second_is q, d, items) (bytes_more (push (value_of_lem v ∷ [])) G
              ∙ ap (λ (x : Bytes). bytes_of F w j G ++ x) (push_framed (value_of_lem v ∷ []) ∙ rw n));
          opens = λ at. rw items refl;
        })

    later_on : (v : Value) (d : Bytes) → d ≡ value_bytes v → (is : List Item) → G ≡ is → All (Ok L pool j) (extended v is) → items_from F w j e ≡ extended v is →
        value_data F l (get_or w (e * 3) 0 % 16) (get_or w (e * 3 + 1) 0) (get_or w (e * 3 + 2) 0) ≡ d → Continues F l w sizes offsets j e
    later_on v d x [] g ok items z = absurd ok.0
    later_on v d x (action (push []) ∷ is) g ok items z = absurd ok.0
    later_on v d x (action (push (u ∷ us)) ∷ is) g ok items z =
        let m : join value_bytes (u ∷ (us ++ (v ∷ []))) ≡ join value_bytes (u ∷ us) ++ d = join_append value_bytes (u ∷ us) (v ∷ []) ∙ rw (append-nil (value_bytes v), x) in
        record {
          front = bytes_of F w j is;
          data' = join value_bytes (u ∷ us);
          was = rw g (bytes_more (push (u ∷ us)) is ∙ ap (λ (y : Bytes). bytes_of F w j is ++ y) (push_framed (u ∷ us)));
          adds =
              rw (z, items) (bytes_more (push (u ∷ (us ++ (v ∷ [])))) is
              ∙ ap (λ (y : Bytes). bytes_of F w j is ++ y) (push_framed (u ∷ (us ++ (v ∷ []))) ∙ ap (framed 0x96) m));
          short = rw z (rw m at ok.0.1);
          opened = λ at begun o. rw g at o;
          opens = λ at. rw items refl;
        }
    later_on v d x (action (plain p) ∷ is) g ok items z = absurd ok.0
    later_on v d x (action (branch b p) ∷ is) g ok items z = absurd ok.0
    later_on v d x (action (define h n) ∷ is) g ok items z = absurd ok.0
    later_on v d x (mark m ∷ is) g ok items z = absurd ok.0

    last_fits : (v : Value) (is : List Item) → All (Ok L pool j) (extended v is) → T (value_fits pool v)
    last_fits v [] ok = absurd ok.0
    last_fits v (action (push []) ∷ is) ok = absurd ok.0
    last_fits v (action (push (u ∷ us)) ∷ is) ok = and_first (value_fits pool v) true (all_append (value_fits pool) (u ∷ us) (v ∷ []) ok.0.0).1
    last_fits v (action (plain p) ∷ is) ok = absurd ok.0
    last_fits v (action (branch b p) ∷ is) ok = absurd ok.0
    last_fits v (action (define h n) ∷ is) ok = absurd ok.0
    last_fits v (mark m ∷ is) ok = absurd ok.0

    made_later : (v : Pushed) → sort_of (value_entry 0x120 v).code ≡ a-later-value → entry_of (value false v) ≡ entry_at w e → All (Ok L pool j) (extended (value_of_lem v) G) →
        items_from F w j e ≡ extended (value_of_lem v) G → At
    made_later v s q ok items =
        let d = value_is F l w layout false pool v (last_fits (value_of_lem v) G ok) in
        sort_is q s (later_on (value_of_lem v) (value_bytes (value_of_lem v)) refl G refl ok items (rw (code_is q, first_is q, second_is q) d))

    -- branches

    numbered_in : k < count_of w
    numbered_in = by (eqb (j + 1) (count_of w)) refl
      where
        by : (t : Bool) → eqb (j + 1) (count_of w) ≡ t → cond t 0 (j + 1) < count_of w
        by true y = omega arith
        by false y = let z = eqb-false (j + 1) (count_of w) y in omega arith

    module _ (low : start_of w j ≤ e) (high : e < end_of w j) where
      offset_is : (b : Branching) (n : ℕ) → piece_at w e ≡ entry.branch b n →
          off ≡ offset (begins L k (suc (length (actions G)))) (begins L k (f n))
      unfolding held_lists items_from
      offset_is b n p =
          let x = index_number (count_of w) j inside in
          rw (add-one e)
          (rw x at (tables.at_branch k e b n numbered_in (rw x low) (rw x high) p))

      jump_is : (n : ℕ) → piece_at w e ≡ entry.branch Jump n →
          action_bytes F l w 0x99 n off ≡ action_bytes_at L k (length (actions G)) (rebranch f (branch Jump n))
      jump_is n p = (branch_is F l w layout off Jump n).1 ∙ ap (λ (o : ℕ). single_bytes (branching Jump o)) (offset_is Jump n p)

      if_is : (n : ℕ) → piece_at w e ≡ entry.branch If n →
          action_bytes F l w 0x9D n off ≡ action_bytes_at L k (length (actions G)) (rebranch f (branch If n))
      if_is n p = (branch_is F l w layout off If n).1 ∙ ap (λ (o : ℕ). single_bytes (branching If o)) (offset_is If n p)

      op_sort : (o : Op) → sort_of (row_of o).code ≡ an-action
      op_sort o =
          let c = (row_of o).code in
          let s = (op_says c (op_code o)).small in
          rw (ne_eqb c 257 (λ y. omega arith), ne_eqb c 256 (λ y. omega arith), lt-ltb c 0x110 (omega arith))

      first_sort : (v : Pushed) → sort_of (value_entry 0x110 v).code ≡ a-first-value
      first_sort (Pushed.String s) = refl
      first_sort Pushed.Null = refl
      first_sort Pushed.Undefined = refl
      first_sort (Pushed.Register n) = refl
      first_sort (Pushed.Boolean b) = refl
      first_sort (Pushed.Float n) = refl
      first_sort (Pushed.Integer n) = refl
      first_sort (Pushed.Constant n) = refl

      later_sort : (v : Pushed) → sort_of (value_entry 0x120 v).code ≡ a-later-value
      later_sort (Pushed.String s) = refl
      later_sort Pushed.Null = refl
      later_sort Pushed.Undefined = refl
      later_sort (Pushed.Register n) = refl
      later_sort (Pushed.Boolean b) = refl
      later_sort (Pushed.Float n) = refl
      later_sort (Pushed.Integer n) = refl
      later_sort (Pushed.Constant n) = refl

      two : (n : ℕ) → length (word 2 n) ≤ 65535
      unfolding word
      two n = omega arith

      pub step_of : (p : Piece) → piece_at w e ≡ p → entry_of p ≡ entry_at w e → T (piece_named F p) → Operand p → All (Ok L pool j) (added r p G) → items_from F w j e ≡ added r p G → At
      step_of (op o) p q t c ok items =
          made_action q (plain (Plain.op o)) [] (op_sort o) (λ y. absurd ((op_says (row_of o).code (op_code o)).not_pool y)) items (op_is F l w layout off o) (omega arith) (λ at b. tt)
      step_of (ConstantPool n) p q t c ok items =
          made_action q (plain (Plain.ConstantPool (r.strings n))) _ refl (λ y. omega arith) items (pool_is F l w layout off n c (long_slice lowered)) ok.0.1 (λ at b. tt)
      step_of (StoreRegister n) p q t c ok items =
          made_action q (plain (Plain.StoreRegister n)) (n ∷ []) refl (λ y. absurd (omega arith)) items (store_is F l w layout off n (ltb→lt n 256 ok.0.0)) (omega arith) (λ at b. tt)
      step_of (GotoFrame n) p q t c ok items =
          made_action q (plain (Plain.GotoFrame n)) (word 2 n) refl (λ y. absurd (omega arith)) items (frame_is F l w layout off n) (two n) (λ at b. tt)
      step_of (GotoLabel s) p q t c ok items =
          made_action q (plain (Plain.GotoLabel (r.text s))) _ refl (λ y. absurd (omega arith)) items (label_is F l w layout off s) ok.0.1 (λ at b. tt)
      step_of (GotoFrame2 b) p q t c ok items =
          made_action q (plain (Plain.GotoFrame2 b)) _ refl (λ y. absurd (omega arith)) items (frame2_is F l w layout off b) (omega arith) (λ at b. tt)
      step_of (entry.branch Jump n) p q t c ok items =
          made_action q (branch Jump n) (word 2 off) refl (λ y. absurd (omega arith)) items ((branch_is F l w layout off Jump n).0, jump_is n p) (two off) (λ at b. tt)
      step_of (entry.branch If n) p q t c ok items =
          made_action q (branch If n) (word 2 off) refl (λ y. absurd (omega arith)) items ((branch_is F l w layout off If n).0, if_is n p) (two off) (λ at b. tt)
      step_of (function n g) p q t c ok items = made_function n g q t ok.0 items
      step_of (entry.mark m) p q t c ok items = made_mark m q items
      step_of (value true v) p q t c ok items = made_first v (first_sort v) q ok.0 items
      step_of (value false v) p q t c ok items = made_later v (later_sort v) q ok items
