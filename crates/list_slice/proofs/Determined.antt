-- A slice that holds lists determines them.
use Prim.Native.Nat.{ℕ, ◌-◌}
use mathlib.Core.Path.{◌≡◌, refl, sym, ap, ◌∙◌}
use mathlib.Core.List.{List, [], ◌∷◌, ◌++◌, map, reverse, append_assoc, reverse-append, reverse-reverse}
use lib.ListN.{length, take}
use lib.Seq.{take-append_seam, take-length}
use Rattle.pcode.specs.Pcode.{Value, Item}
use Rattle.lowering.specs.Builder.{Limits}
use mathlib.Core.Bool.{true, false, ◌&&◌}
use lib.Dec.{T}
use Rattle.action_format.specs.Lists.{all}
use Rattle.list_slice.specs.Entry.{Entry, Pushed, Null, Undefined, Boolean, String, Register, Float, Integer, Constant, Piece, op, ConstantPool, StoreRegister, GotoFrame, GotoLabel, GotoFrame2, branch, function, mark, value, entries_of, piece_of}
use Rattle.list_slice.specs.Words.{zeros_of, joined, slice_words, pool_in, entries_in, Fits}
use Rattle.list_slice.specs.Items.{value_of, extended, added, gathered, items_of}
use Rattle.list_slice.specs.File.{names_string, in_file}
use Rattle.list_slice.specs.Compiled.{finishing, numbered, label_words, piece_named, pool_count, Holds, lists_in}
use Rattle.list_slice.proofs.Areas.{slice_length_lem, area_is, pool_in_lem}
use Rattle.list_slice.proofs.Parse.{recovered}
use Rattle.list_slice.proofs.Pieces.{pieces_back}

-- the order in which lists finish, and back
pub numbered_finishing : {A : Type 0} (ls : List (List A)) → numbered (finishing ls) ≡ ls
numbered_finishing [] = refl
numbered_finishing (top ∷ fs) = rw (reverse-append fs (top ∷ [])) (ap (λ (r : List _). top ∷ r) (reverse-reverse fs))

-- two pools that agree as far as each ConstantPool counts give the same items

abbrev Alike : (p q : List ℕ) → List ℕ → Type 0
Alike p q [] = Unit
Alike p q (n ∷ ns) = (take n p ≡ take n q) × Alike p q ns

alike_left : (p q ms ns : List ℕ) → Alike p q (ms ++ ns) → Alike p q ms
alike_left p q [] ns h = tt
alike_left p q (m ∷ ms) ns h = (h.0, alike_left p q ms ns h.1)

alike_right : (p q ms ns : List ℕ) → Alike p q (ms ++ ns) → Alike p q ns
alike_right p q [] ns h = h
alike_right p q (m ∷ ms) ns h = alike_right p q ms ns h.1

module _ (F p q : List ℕ) where
  value_same : (v : Pushed) → value_of (in_file F p) v ≡ value_of (in_file F q) v
  value_same Null = refl
  value_same Undefined = refl
  value_same (Boolean b) = refl
  value_same (String r) = refl
  value_same (Register r) = refl
  value_same (Float n) = refl
  value_same (Integer n) = refl
  value_same (Constant i) = refl

  added_same : (x : Piece) (is : List Item) → Alike p q (pool_count x) → added (in_file F p) x is ≡ added (in_file F q) x is
  added_same (ConstantPool n) is h = rw h.0
  added_same (op o) is h = refl
  added_same (StoreRegister r) is h = refl
  added_same (GotoFrame n) is h = refl
  added_same (GotoLabel r) is h = refl
  added_same (GotoFrame2 b) is h = refl
  added_same (branch b l) is h = refl
  added_same (function n r) is h = refl
  added_same (mark l) is h = refl
  added_same (value true v) is h = rw (value_same v)
  added_same (value false v) is h = ap (λ (x : Value). extended x is) (value_same v)

  pub gathered_same : (ps : List Piece) → Alike p q (joined (map pool_count ps)) → gathered (in_file F p) ps ≡ gathered (in_file F q) ps
  unfolding gathered joined
  gathered_same [] h = refl
  gathered_same (x ∷ ps) h =
      rw (gathered_same ps (alike_right p q (pool_count x) (joined (map pool_count ps)) h)) (added_same x _ (alike_left p q (pool_count x) (joined (map pool_count ps)) h))

  items_same : (ps : List Piece) → Alike p q (joined (map pool_count ps)) → items_of (in_file F p) ps ≡ items_of (in_file F q) ps
  unfolding items_of
  items_same ps h = ap reverse (gathered_same ps h)

pub counts_append : (xs ys : List Piece) → joined (map pool_count (xs ++ ys)) ≡ joined (map pool_count xs) ++ joined (map pool_count ys)
unfolding joined
counts_append [] ys = refl
counts_append (x ∷ xs) ys = rw (counts_append xs ys) (sym (append_assoc (pool_count x) (joined (map pool_count xs)) (joined (map pool_count ys))))

-- each list's entries, read with the one pool, say what its pieces say with the other
lists_same : (F p q : List ℕ) (pss : List (List Piece)) → Alike p q (joined (map pool_count (joined pss))) →
    map (λ (es : List Entry). items_of (in_file F p) (map piece_of es)) (map entries_of pss) ≡ map (items_of (in_file F q)) pss
unfolding joined
lists_same F p q [] h = refl
lists_same F p q (ps ∷ pss) h =
    let ms = joined (map pool_count ps) in
    let ns = joined (map pool_count (joined pss)) in
    let h' = rw (counts_append ps (joined pss)) at h in
    rw (pieces_back ps, items_same F p q ps (alike_left p q ms ns h'), lists_same F p q pss (alike_right p q ms ns h'))

-- the words and the file say the lists
pub read_back : {limits : Limits} {F : List ℕ} {lists : List (List Item)} {w : List ℕ} → Holds limits F lists w → lists_in limits F w ≡ lists
unfolding lists_in
read_back {limits} {F} {lists} {w} h =
    let f = h.fits in
    let ls = label_words limits.labels lists in
    let entries = ap (entries_in limits) h.words ∙ recovered limits (map entries_of h.pieces) ls h.pool (length w) f in
    let pool = ap (pool_in limits) h.words ∙ pool_in_lem limits (map entries_of h.pieces) ls h.pool (length w) f.slice_fits ∙ area_is limits.values h.pool f.pool_fits in
    rw (
      entries,
      pool,
      lists_same F (h.pool ++ zeros_of (limits.values - length h.pool)) h.pool h.pieces
          (rw h.counted (take-append_seam h.pool _ ∙ sym (take-length h.pool), tt)),
      h.reads,
    ) (numbered_finishing lists)

pub determined : {limits : Limits} {F : List ℕ} {lists lists' : List (List Item)} {w : List ℕ} → Holds limits F lists w → Holds limits F lists' w → lists ≡ lists'
determined h h' = sym (read_back h) ∙ read_back h'

-- the slice of pieces that read as the lists holds them
pub slice_holds : (limits : Limits) (F : List ℕ) (lists : List (List Item)) (pieces : List (List Piece)) (pool : List ℕ) (n : ℕ) →
    Fits limits (map entries_of pieces) (label_words limits.labels lists) pool n →
    map (items_of (in_file F pool)) pieces ≡ finishing lists →
    joined (map pool_count (joined pieces)) ≡ length pool ∷ [] →
    T (all (piece_named F) (joined pieces) && all (names_string F) pool) →
    Holds limits F lists (slice_words limits (map entries_of pieces) (label_words limits.labels lists) pool n)
slice_holds limits F lists pieces pool n f r c m =
    let long = slice_length_lem limits (map entries_of pieces) (label_words limits.labels lists) pool n in
    record {
      pieces = pieces;
      pool = pool;
      fits = rw long f;
      words = ap (slice_words limits (map entries_of pieces) (label_words limits.labels lists) pool) (sym long);
      reads = r;
      counted = c;
      named = m;
    }
