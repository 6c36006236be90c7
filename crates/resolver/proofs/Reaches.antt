-- The offsets of a list's branches.
use Prim.Native.Nat.{ℕ, zero, suc, ◌+◌, ◌-◌, ◌*◌, ◌≤◌, ◌<◌}
use mathlib.Core.Path.{◌≡◌, refl, sym, ap, ◌∙◌, subst}
use mathlib.Core.Logic.{◌⊎◌, inl, inr}
use mathlib.Core.List.{List, ◌∷◌}
use mathlib.Core.Bool.{Bool, true, false, cond, ◌&&◌}
use native.Mathlib.Omega.{arith}
use native.Mathlib.Decide.{ℕ_discrete}
use native.Mathlib.Numerals.{add-one}
use lib.ListN.{length, get_or, set, length-set}
use lib.Seq.{get_or-set_same, get_or-set_other}
use borrow.Author.Tests.{ne_eqb}
use Rattle.pcode.specs.Pcode.{Branching, Jump, If, Value, Item, action, branch, row_of}
use Rattle.action_format.specs.ByPlace.{actions}
use Rattle.action_format.specs.Offsets.{position, offset, reaches}
use Rattle.action_format.proofs.Tests.{All}
use Rattle.list_slice.specs.Entry.{Piece, Null, Undefined, Boolean, String, Register, Float, Integer, Constant, value, Entry, entry_of}
use Rattle.list_slice.specs.Words.{entry_at}
use Rattle.list_slice.specs.Items.{References, value_of, extended, added}
use Rattle.resolver.specs.Walk.{piece_at, references_in, walked}
use Rattle.resolver.specs.Texts.{Known}
use Rattle.resolver.specs.Steps.{Fine, Standing, adds, is_branch, after_at, target_at, offsets_at, near_at, all_near_in, ReadyList, Offsets}
use Rattle.resolver.proofs.OpCodes.{op_code, op_says}
use Rattle.resolver.proofs.Items.{later_pushes, Pushes, pushes, adds_law}
use Rattle.resolver.proofs.Walking.{walked_more, walked_none, fine_next, At, at_start, at_again, adds_one}

-- a branch, or another entry

module _ (r : References) where
  pub data Turns (p : Piece) : Bool → Type 0 where
    turn : (b : Branching) (l : ℕ) → p ≡ Piece.branch b l → Turns p true
    straight : ((b : Branching) (l : ℕ) → p ≡ Piece.branch b l → ⊥) →
        ((ss : List ℕ) (f : ℕ → ℕ) (is : List Item) → All Fine (added r p is) → all_near_in ss f (added r p is) ≡ all_near_in ss f is) → Turns p false

  later_near : (v : Value) (ss : List ℕ) (f : ℕ → ℕ) (is : List Item) → All Fine (extended v is) → all_near_in ss f (extended v is) ≡ all_near_in ss f is
  unfolding all_near_in
  later_near v ss f is h = go is (later_pushes v is h)
    where
      go : (is : List Item) → Pushes is → all_near_in ss f (extended v is) ≡ all_near_in ss f is
      go _ (pushes u us rest) = refl

  abbrev kind : Piece → ℕ
  kind (Piece.branch b l) = 1
  kind (Piece.op o) = 0
  kind (Piece.ConstantPool n) = 0
  kind (Piece.StoreRegister n) = 0
  kind (Piece.GotoFrame n) = 0
  kind (Piece.GotoFrame2 b) = 0
  kind (Piece.GotoLabel s) = 0
  kind (Piece.function n f) = 0
  kind (Piece.mark l) = 0
  kind (value first v) = 0

  never : (p : Piece) → kind p ≡ 0 → (b : Branching) (l : ℕ) → p ≡ Piece.branch b l → ⊥
  never p z b l e = let y : kind p ≡ 1 = ap kind e in omega arith

  pub turns : (p : Piece) → Turns p (is_branch (entry_of p).code)
  unfolding all_near_in
  turns (Piece.branch Jump l) = turn Jump l refl
  turns (Piece.branch If l) = turn If l refl
  turns (Piece.op o) =
      let q = op_says (row_of o).code (op_code o) in
      rw (ne_eqb (row_of o).code 0x99 q.not_jump, ne_eqb (row_of o).code 0x9D q.not_if) (straight (never (Piece.op o) refl) (λ ss f is h. refl))
  turns (Piece.ConstantPool n) = straight (never (Piece.ConstantPool n) refl) (λ ss f is h. refl)
  turns (Piece.StoreRegister n) = straight (never (Piece.StoreRegister n) refl) (λ ss f is h. refl)
  turns (Piece.GotoFrame n) = straight (never (Piece.GotoFrame n) refl) (λ ss f is h. refl)
  turns (Piece.GotoFrame2 b) = straight (never (Piece.GotoFrame2 b) refl) (λ ss f is h. refl)
  turns (Piece.GotoLabel s) = straight (never (Piece.GotoLabel s) refl) (λ ss f is h. refl)
  turns (Piece.function n x) = straight (never (Piece.function n x) refl) (λ ss f is h. refl)
  turns (Piece.mark l) = straight (never (Piece.mark l) refl) (λ ss f is h. refl)
  turns (value true Null) = straight (never (value true Null) refl) (λ ss f is h. refl)
  turns (value true Undefined) = straight (never (value true Undefined) refl) (λ ss f is h. refl)
  turns (value true (Boolean b)) = straight (never (value true (Boolean b)) refl) (λ ss f is h. refl)
  turns (value true (String n)) = straight (never (value true (String n)) refl) (λ ss f is h. refl)
  turns (value true (Register n)) = straight (never (value true (Register n)) refl) (λ ss f is h. refl)
  turns (value true (Float n)) = straight (never (value true (Float n)) refl) (λ ss f is h. refl)
  turns (value true (Integer n)) = straight (never (value true (Integer n)) refl) (λ ss f is h. refl)
  turns (value true (Constant n)) = straight (never (value true (Constant n)) refl) (λ ss f is h. refl)
  turns (value false Null) = straight (never (value false Null) refl) (later_near (value_of r Null))
  turns (value false Undefined) = straight (never (value false Undefined) refl) (later_near (value_of r Undefined))
  turns (value false (Boolean b)) = straight (never (value false (Boolean b)) refl) (later_near (value_of r (Boolean b)))
  turns (value false (String n)) = straight (never (value false (String n)) refl) (later_near (value_of r (String n)))
  turns (value false (Register n)) = straight (never (value false (Register n)) refl) (later_near (value_of r (Register n)))
  turns (value false (Float n)) = straight (never (value false (Float n)) refl) (later_near (value_of r (Float n)))
  turns (value false (Integer n)) = straight (never (value false (Integer n)) refl) (later_near (value_of r (Integer n)))
  turns (value false (Constant n)) = straight (never (value false (Constant n)) refl) (later_near (value_of r (Constant n)))

-- no more actions than the whole list has
count_down : {F w : List ℕ} {from end : ℕ} → Standing F w from end → (n i : ℕ) → i ≤ end → from + n ≡ i →
    length (actions (walked F w i (end - i))) ≤ length (actions (walked F w from (end - from)))
count_down {F} {w} {from} {end} s zero i h e = let z : i ≡ from = omega arith in rw z (omega arith)
count_down {F} {w} {from} {end} s (suc n) i h e =
    let a = adds_law (references_in F w) (piece_at w (i - 1)) (walked F w i (end - i)) (fine_next s i (omega arith) h) in
    let b = ap (λ (is : List Item). length (actions is)) (walked_more F w i end (omega arith) h) in
    omega (arith, count_down s n (i - 1) (omega arith) (omega arith), a, b)

pub record ResolveInv (w starts places before : List ℕ) (from end i position' : ℕ) (near : Bool) (offsets : List ℕ) : Type 0 where
  pub low : from ≤ i
  pub high : i ≤ end
  pub few : position' ≤ end - i
  pub long : length offsets ≡ 4096
  pub at : (F ss : List ℕ) (f : ℕ → ℕ) → Standing F w from end → ReadyList F w from end ss f starts places →
      At F w from end i position' × (near ≡ all_near_in ss f (walked F w i (end - i))) × Offsets F w i end ss f before offsets

pub resolve_start : (w starts places before : List ℕ) (from end : ℕ) → from ≤ end → length before ≡ 4096 → ResolveInv w starts places before from end end 0 true before
unfolding all_near_in
resolve_start w starts places before from end h l = record {
  low = h;
  high = omega arith;
  few = omega arith;
  long = l;
  at = λ F ss f s k. (at_start s, rw (walked_none F w end), record { long = refl; at = λ e b l p q z. absurd (omega arith); others = λ e x. refl });
}

module _ {w starts places before : List ℕ} {from end i p : ℕ} {near : Bool} {offsets : List ℕ} (v : ResolveInv w starts places before from end i p near offsets) (z : from < i) (cap : end ≤ 4096)
  where
    abbrev j : ℕ
    j = i - 1

    module _ (F ss : List ℕ) (f : ℕ → ℕ) (s : Standing F w from end) (k : ReadyList F w from end ss f starts places) where
      abbrev old : At F w from end i p × (near ≡ all_near_in ss f (walked F w i (end - i))) × Offsets F w i end ss f before offsets
      old = v.at F ss f s k

      known : Known F w j
      known = s.known j (omega (arith, v.low)) (omega (arith, v.low, v.high))

      next : suc j ≡ i
      next = omega (arith, v.low)

      more_is : walked F w j (end - j) ≡ added (references_in F w) (piece_at w j) (walked F w i (end - i))
      more_is = walked_more F w i end (omega (arith, v.low)) v.high

      fine_is : All Fine (added (references_in F w) (piece_at w j) (walked F w i (end - i)))
      fine_is = fine_next s i (omega (arith, v.low)) v.high

      module _ (b : Branching) (l : ℕ) (e : piece_at w j ≡ Piece.branch b l) where
        more_branch : walked F w j (end - j) ≡ action (branch b l) ∷ walked F w i (end - i)
        more_branch = more_is ∙ ap (λ (x : Piece). added (references_in F w) x (walked F w i (end - i))) e

        first_is : (entry_at w j).first ≡ l
        first_is = sym (ap (λ (x : Entry). x.first) known.written) ∙ ap (λ (x : Piece). (entry_of x).first) e ∙ label_of_item b
          where
            label_of_item : (b : Branching) → (entry_of (Piece.branch b l)).first ≡ l
            label_of_item Jump = refl
            label_of_item If = refl

        inside : suc p ≤ length ss
        inside =
            let a : length (actions (walked F w j (end - j))) ≡ suc (length (actions (walked F w i (end - i)))) = ap (λ (is : List Item). length (actions is)) more_branch in
            omega (arith, a, old.0.is, k.as_many, count_down s (j - from) j (omega (arith, v.high)) (omega (arith, v.low)))

        after_is : after_at starts p ≡ position ss (suc (length (actions (walked F w i (end - i)))))
        after_is = ap (λ (n : ℕ). get_or starts n 0) (add-one p) ∙ k.begins (suc p) inside ∙ ap (λ (n : ℕ). position ss (suc n)) old.0.is

        target_is : target_at w starts places j ≡ position ss (f l)
        target_is =
            let q = k.at j b l (omega (arith, v.low)) (omega (arith, v.low, v.high)) e in
            ap (λ (n : ℕ). get_or starts (get_or places n 0) 0) first_is ∙ ap (λ (n : ℕ). get_or starts n 0) q.0 ∙ k.begins (f l) q.1

        suc_end : walked F w (suc j) (end - suc j) ≡ walked F w i (end - i)
        suc_end = ap (λ (n : ℕ). walked F w n (end - n)) next

        branch_near : (reaches (after_at starts p) (target_at w starts places j) && near) ≡ all_near_in ss f (walked F w j (end - j))
        unfolding all_near_in
        branch_near = rw (after_is, target_is, old.1, more_branch)

        branch_offsets : Offsets F w j end ss f before (set offsets j (offset (after_at starts p) (target_at w starts places j)))
        branch_offsets = record {
          long = length-set offsets j _ ∙ old.2.long;
          at = λ x c m lo hi q. at_entry x c m lo hi q (ℕ_discrete x j);
          others = λ x y. get_or-set_other offsets j x _ 0 (apart x y) ∙ old.2.others x (still x y);
        }
          where
            apart : (x : ℕ) → (x < j) ⊎ (end ≤ x) → x ≡ j → ⊥
            apart x (inl y) q = omega arith
            apart x (inr y) q = omega (arith, v.low, v.high)

            still : (x : ℕ) → (x < j) ⊎ (end ≤ x) → (x < i) ⊎ (end ≤ x)
            still x (inl y) = inl (omega (arith, v.low))
            still x (inr y) = inr y

            at_entry : (x : ℕ) (c : Branching) (m : ℕ) → j ≤ x → x < end → piece_at w x ≡ Piece.branch c m → Dec (x ≡ j) →
                get_or (set offsets j (offset (after_at starts p) (target_at w starts places j))) x 0
                ≡ offset (position ss (suc (length (actions (walked F w (suc x) (end - suc x)))))) (position ss (f m))
            at_entry x c m lo hi q (no y) = get_or-set_other offsets j x _ 0 y ∙ old.2.at x c m (omega (arith, v.low)) hi q
            at_entry x c m lo hi q (yes y) =
                let same : l ≡ m = label_eq (sym e ∙ sym (ap (piece_at w) y) ∙ q) in
                rw y (get_or-set_same offsets j _ 0 (omega (arith, v.long, v.low, v.high)) ∙ rw (after_is, target_is, suc_end, same))
              where
                label_eq : Piece.branch b l ≡ Piece.branch c m → l ≡ m
                label_eq u = cc

      straight_offsets : ((b : Branching) (l : ℕ) → piece_at w j ≡ Piece.branch b l → ⊥) → Offsets F w j end ss f before offsets
      straight_offsets n = record {
        long = old.2.long;
        at = λ x c m lo hi q. at_entry x c m lo hi q (ℕ_discrete x j);
        others = λ x y. old.2.others x (still x y);
      }
        where
          still : (x : ℕ) → (x < j) ⊎ (end ≤ x) → (x < i) ⊎ (end ≤ x)
          still x (inl y) = inl (omega (arith, v.low))
          still x (inr y) = inr y

          at_entry : (x : ℕ) (c : Branching) (m : ℕ) → j ≤ x → x < end → piece_at w x ≡ Piece.branch c m → Dec (x ≡ j) →
              get_or offsets x 0 ≡ offset (position ss (suc (length (actions (walked F w (suc x) (end - suc x)))))) (position ss (f m))
          at_entry x c m lo hi q (no y) = old.2.at x c m (omega (arith, v.low)) hi q
          at_entry x c m lo hi q (yes y) = absurd (n c m (sym (ap (piece_at w) y) ∙ q))

      both : (t : Bool) → is_branch (entry_at w j).code ≡ t → Turns (references_in F w) (piece_at w j) t →
          (((cond t (reaches (after_at starts p) (target_at w starts places j)) true) && near) ≡ all_near_in ss f (walked F w j (end - j)))
          × Offsets F w j end ss f before (cond t (set offsets j (offset (after_at starts p) (target_at w starts places j))) offsets)
      both _ y (turn b l e) = (branch_near b l e, branch_offsets b l e)
      both _ y (straight n q) = (old.1 ∙ sym (ap (all_near_in ss f) more_is ∙ q ss f (walked F w i (end - i)) fine_is), straight_offsets n)

      both_at : ((near_at w starts places j p && near) ≡ all_near_in ss f (walked F w j (end - j))) × Offsets F w j end ss f before (offsets_at w starts places offsets j p)
      both_at = both (is_branch (entry_at w j).code) refl
          (subst (λ (x : Entry). Turns (references_in F w) (piece_at w j) (is_branch x.code)) known.written (turns (references_in F w) (piece_at w j)))

    pub resolve_again : {offsets' : List ℕ} → offsets' ≡ offsets_at w starts places offsets j p → {t : Bool} → t ≡ near_at w starts places j p → {n : ℕ} → n ≡ adds (get_or w (j * 3) 0) →
        ResolveInv w starts places before from end j (p + n) (t && near) offsets'
    resolve_again q u e =
        rw (q, u) (record {
          low = omega (arith, v.low);
          high = omega (arith, v.high);
          few = omega (arith, e, v.few, adds_one (get_or w (j * 3) 0), v.low, v.high);
          long = longs (is_branch (entry_at w j).code) ∙ v.long;
          at = λ F ss f s k. (at_again s (old F ss f s k).0 z e, (both_at F ss f s k).0, (both_at F ss f s k).1);
        })
      where
        longs : (t : Bool) → length (cond t (set offsets j (offset (after_at starts p) (target_at w starts places j))) offsets) ≡ length offsets
        longs true = length-set offsets j _
        longs false = refl

pub resolve_done : {w starts places before : List ℕ} {from end i p : ℕ} {near : Bool} {offsets : List ℕ} → ResolveInv w starts places before from end i p near offsets → i ≡ from →
    (F ss : List ℕ) (f : ℕ → ℕ) → Standing F w from end → ReadyList F w from end ss f starts places →
    (near ≡ all_near_in ss f (walked F w from (end - from))) × Offsets F w from end ss f before offsets
resolve_done {w} {starts} {places} {before} {from} {end} {i} {p} {near} {offsets} v z F ss f s k =
    subst (λ (n : ℕ). (near ≡ all_near_in ss f (walked F w n (end - n))) × Offsets F w n end ss f before offsets) z ((v.at F ss f s k).1, (v.at F ss f s k).2)
