-- Each list of an accepted file stands between its ends, and its entries can be walked.
use Prim.Native.Nat.{ℕ, zero, suc, ◌+◌, ◌-◌, ◌≤◌, ◌<◌}
use mathlib.Core.Path.{◌≡◌, refl, sym, ap, ◌∙◌, subst}
use mathlib.Core.List.Memᴰ
use mathlib.Core.List.{List, [], ◌∷◌, ◌++◌, map, reverse_aux}
use native.Mathlib.Omega.{arith}
use lib.Dec.{T, lit≤}
use lib.ListN.{length, get_or, length-map}
use Rattle.pcode.specs.Pcode.{Action, Item, plain, push, branch, define, action, mark}
use Rattle.script.specs.Write.{Bytes}
use Rattle.lowering.specs.Builder.{limits01}
use Rattle.lowering.specs.Statement as lowering
use Rattle.lowering.proofs.Theorems.Facts as facts
use Rattle.lowering.proofs.Theorems.Facts.{LabelsBelow}
use Rattle.lowering.proofs.Theorems.{top_first, labels_below}
use Rattle.action_format.specs.ByPlace.{actions, rebranch, place_of_label, items_by_place}
use Rattle.action_format.specs.Lists.{Lists, all_lists, all}
use Rattle.action_format.specs.Rules.{fits, list_fits, pool_count, OfLowering}
use Rattle.action_format.specs.ByList.{list_of}
use Rattle.action_format.proofs.Tests.{All, and_first, and_second, all_true, all_at}
use Rattle.action_format.proofs.Finished.{Named}
use Rattle.action_format.proofs.Complete.{operands}
use Rattle.action_format.proofs.Landing.{are_named}
use Rattle.list_slice.specs.Entry.{Piece, entry_of, entries_of, piece_of}
use Rattle.list_slice.specs.Words.{joined, entry_at, run}
use Rattle.list_slice.specs.Items.{References, added}
use Rattle.list_slice.specs.Compiled.{piece_named}
use Rattle.list_slice.specs.Compiled as compiled
use Rattle.list_slice.proofs.Laid.{run_length}
use Rattle.list_slice.proofs.Pieces.{piece_back}
use Rattle.definition.specs.Outcome.{by_place, byte_limits}
use Rattle.definition.specs.Compile.{statements_of}
use Rattle.definition.specs.Demand3.{list_at}
use Rattle.definition.proofs.Branches.{list_by_place}
use Rattle.definition.proofs.Kept.{kept_lists}
use Rattle.resolver.specs.Lowered.{Lowered}
use Rattle.resolver.specs.Walk.{count_of, end_of, start_of, piece_at, references_in, walked}
use Rattle.resolver.specs.Texts.{Operand, Known}
use Rattle.resolver.specs.Steps.{Fine, Standing}
use Rattle.resolver.specs.Passes.{walked_at, number_at, Stands}
use Rattle.resolver.proofs.Walking.{walked_more, fine_down}
use Rattle.resolver.proofs.Whole.{few_lists, long_slice, order_at, cap_at, run_pieces, split, lists_count, walked_back}

-- items of a list that lowering made
fine_items : (f : ℕ → ℕ) (pool n : ℕ) (fs : List (List Action)) (is : List Item) → LabelsBelow 1024 is → T (all (fits pool n) (map (rebranch f) (actions is))) →
    All (Named fs) (map (rebranch f) (actions is)) → length fs < 1024 → All Fine is
fine_items f pool n fs [] l t m s = tt
fine_items f pool n fs (mark x ∷ is) l t m s = (tt, fine_items f pool n fs is l t m s)
fine_items f pool n fs (action (plain p) ∷ is) l t m s = (tt, fine_items f pool n fs is l (and_second (fits pool n (plain p)) (all (fits pool n) (map (rebranch f) (actions is))) t) m.1 s)
fine_items f pool n fs (action (push []) ∷ is) l t m s = absurd (and_first (fits pool n (push [])) (all (fits pool n) (map (rebranch f) (actions is))) t)
fine_items f pool n fs (action (push (v ∷ vs)) ∷ is) l t m s =
    (tt, fine_items f pool n fs is l (and_second (fits pool n (push (v ∷ vs))) (all (fits pool n) (map (rebranch f) (actions is))) t) m.1 s)
fine_items f pool n fs (action (branch b x) ∷ is) l t m s =
    (l x (Memᴰ.head refl), fine_items f pool n fs is (λ y q. l y (Memᴰ.append_right (x ∷ []) q)) (and_second (fits pool n (branch b (f x))) (all (fits pool n) (map (rebranch f) (actions is))) t) m.1 s)
fine_items f pool n fs (action (define x k) ∷ is) l t m s =
    (let e = m.0.2 in omega (arith, m.0.3), fine_items f pool n fs is l (and_second (fits pool n (define x k)) (all (fits pool n) (map (rebranch f) (actions is))) t) m.1 s)

all_aux : (xs ys : List Item) → All Fine xs → All Fine ys → All Fine (reverse_aux xs ys)
all_aux [] ys h k = k
all_aux (x ∷ xs) ys h k = all_aux xs (x ∷ ys) h.1 (h.0, k)

labels_at_lem : (ls : List (List Item)) (k : ℕ) → facts.All (LabelsBelow 1024) ls → LabelsBelow 1024 (list_at ls k)
labels_at_lem [] k h = λ x q. elim q [ ]
labels_at_lem (l ∷ ls) zero h = h.0
labels_at_lem (l ∷ ls) (suc k) h = labels_at_lem ls k h.1

-- what holds of all pieces holds of each list's, and of each of them

all_left : {A : Type 0} (Q : A → Type 0) (xs ys : List A) → All Q (xs ++ ys) → All Q xs
all_left Q [] ys h = tt
all_left Q (x ∷ xs) ys h = (h.0, all_left Q xs ys h.1)

all_right : {A : Type 0} (Q : A → Type 0) (xs ys : List A) → All Q (xs ++ ys) → All Q ys
all_right Q [] ys h = h
all_right Q (x ∷ xs) ys h = all_right Q xs ys h.1

all_joined : {A : Type 0} (Q : A → Type 0) (pss : List (List A)) (j : ℕ) → All Q (joined pss) → All Q (get_or pss j [])
unfolding joined
all_joined Q [] j h = tt
all_joined Q (ps ∷ pss) zero h = all_left Q ps (joined pss) h
all_joined Q (ps ∷ pss) (suc j) h = all_joined Q pss j (all_right Q ps (joined pss) h)

all_get : {A : Type 0} (Q : A → Type 0) (xs : List A) (m : ℕ) (d : A) → m < length xs → All Q xs → Q (get_or xs m d)
all_get Q [] m d h k = absurd (omega arith)
all_get Q (x ∷ xs) zero d h k = k.0
all_get Q (x ∷ xs) (suc m) d h k = all_get Q xs m d (omega arith) k.1

abbrev Small : ℕ → Type 0
Small n = n ≤ 2048

pool_small : (ps : List Piece) → All Small (joined (map compiled.pool_count ps)) → All (λ p. All Small (compiled.pool_count p)) ps
unfolding joined
pool_small [] h = tt
pool_small (p ∷ ps) h =
    (all_left Small (compiled.pool_count p) (joined (map compiled.pool_count ps)) h, pool_small ps (all_right Small (compiled.pool_count p) (joined (map compiled.pool_count ps)) h))

operand_of : (r : References) (p : Piece) (is : List Item) → All Fine (added r p is) → All Small (compiled.pool_count p) → Operand p
operand_of r (Piece.ConstantPool n) is h k = k.0
operand_of r (Piece.branch b l) is h k = h.0
operand_of r (Piece.function n f) is h k = h.0
operand_of r (Piece.op o) is h k = tt
operand_of r (Piece.StoreRegister n) is h k = tt
operand_of r (Piece.GotoFrame n) is h k = tt
operand_of r (Piece.GotoFrame2 b) is h k = tt
operand_of r (Piece.GotoLabel s) is h k = tt
operand_of r (Piece.mark l) is h k = tt
operand_of r (Piece.value first v) is h k = tt

entry_in : (w : List ℕ) (ps : List Piece) (i n : ℕ) → run w i n ≡ entries_of ps → n ≡ length ps → (m : ℕ) → m < n → entry_at w (i + m) ≡ entry_of (get_or ps m (Piece.mark 0))
unfolding run entries_of
entry_in w [] i n e z m h = absurd (omega arith)
entry_in w (p ∷ ps) i zero e z m h = absurd (omega arith)
entry_in w (p ∷ ps) i (suc n) e z zero h =
    let k : i + 0 ≡ i = omega arith in
    ap (entry_at w) k ∙ cc
entry_in w (p ∷ ps) i (suc n) e z (suc m) h =
    let k : i + suc m ≡ suc i + m = omega arith in
    let q : run w (suc i) n ≡ map entry_of ps = cc in
    ap (entry_at w) k ∙ entry_in w ps (suc i) n q (omega arith) m (omega arith)

module _ {F w : List ℕ} (h : Lowered F w) (bytes : Bytes F) where
  pub made : OfLowering (byte_limits limits01) (by_place h.lists)
  made = kept_lists limits01 (omega arith) F bytes h.accepted h.lists h.from

  few_labels : facts.All (LabelsBelow 1024) h.lists
  few_labels =
      let some : 1 ≤ limits01.actions = lit≤ tt in
      let x = top_first limits01 some (statements_of F) h.lists h.from in
      subst (facts.All (LabelsBelow 1024)) (sym x.2) (labels_below limits01 some (statements_of F) x.0 x.1 (h.from ∙ ap lowering.lists x.2))

  few_functions : length (by_place h.lists).functions < 1024
  few_functions = rw (split h).2 (omega (arith, lists_count h, few_lists h, length-map (split h).1 items_by_place))

  fine_list : (k : ℕ) → All Fine (list_at h.lists k)
  fine_list k =
      let l : Lists = by_place h.lists in
      let is : List Item = list_at h.lists k in
      let t : T (list_fits (pool_count l) (list_of l k)) = all_at (list_fits (pool_count l)) (all_lists l) k tt (operands (byte_limits limits01) l made) in
      fine_items (place_of_label is) (pool_count l) (length (items_by_place is)) l.functions is (labels_at_lem h.lists k few_labels) (rw (list_by_place h.lists k) at t)
      (rw (list_by_place h.lists k) at (are_named l made.numbered k)) few_functions

  module _ (j : ℕ) (below : j < count_of w) where
    pub fine_walked : All Fine (walked_at F w j)
    fine_walked = rw (walked_back h j below) (all_aux (list_at h.lists (number_at (count_of w) j)) [] (fine_list (number_at (count_of w) j)) tt)

    abbrev ps : List Piece
    ps = get_or h.holds.pieces j []

    as_many : end_of w j - start_of w j ≡ length ps
    unfolding entries_of
    as_many = sym (run_length w (start_of w j) (end_of w j - start_of w j)) ∙ ap length (run_pieces h j below) ∙ length-map ps entry_of

    named_pieces : All (λ p. T (piece_named F p)) ps
    named_pieces = all_joined (λ p. T (piece_named F p)) h.holds.pieces j
        (all_true (piece_named F) (joined h.holds.pieces) (and_first (all (piece_named F) (joined h.holds.pieces)) _ h.holds.named))

    small_pools : All (λ p. All Small (compiled.pool_count p)) ps
    small_pools = all_joined (λ p. All Small (compiled.pool_count p)) h.holds.pieces j
        (pool_small (joined h.holds.pieces) (rw h.holds.counted (h.holds.fits.pool_fits, tt)))

    known_at : (e : ℕ) → start_of w j ≤ e → e < end_of w j → Known F w e
    known_at e lo hi =
        let m : ℕ = e - start_of w j in
        let i : start_of w j + m ≡ e = omega arith in
        let p : Piece = get_or ps m (Piece.mark 0) in
        let q : entry_at w e ≡ entry_of p = ap (entry_at w) (sym i) ∙ entry_in w ps (start_of w j) (end_of w j - start_of w j) (run_pieces h j below) as_many m (omega arith) in
        let s : piece_at w e ≡ p = ap piece_of q ∙ piece_back p in
        let n : m < length ps = omega (arith, as_many) in
        let x : start_of w j + m ≤ end_of w j = omega arith in
        let f : All Fine (walked F w e (end_of w j - e)) = subst (λ (k : ℕ). All Fine (walked F w k (end_of w j - k))) i (fine_down F w (start_of w j) (end_of w j) m x fine_walked) in
        let u : suc e - 1 ≡ e = omega arith in
        let g : walked F w e (end_of w j - e) ≡ added (references_in F w) (piece_at w e) (walked F w (suc e) (end_of w j - suc e)) =
        rw u at (walked_more F w (suc e) (end_of w j) (omega arith) hi) in
        record {
          long = long_slice h;
          inside = omega (arith, cap_at h j below);
          written = ap entry_of s ∙ sym q;
          named = rw s (all_get (λ p. T (piece_named F p)) ps m (Piece.mark 0) n named_pieces);
          operand = operand_of (references_in F w) (piece_at w e) (walked F w (suc e) (end_of w j - suc e)) (subst (All Fine) g f)
              (subst (λ (y : Piece). All Small (compiled.pool_count y)) (sym s) (all_get (λ p. All Small (compiled.pool_count p)) ps m (Piece.mark 0) n small_pools));
        }

    pub standing_at : Standing F w (start_of w j) (end_of w j)
    standing_at = record { order = order_at h j below; cap = cap_at h j below; long = long_slice h; known = known_at; fine = fine_walked }

  -- all lists stand
  pub stands : Stands F w
  stands = record { some = omega (arith, lists_count h); few = few_lists h; long = long_slice h; standing = standing_at }
