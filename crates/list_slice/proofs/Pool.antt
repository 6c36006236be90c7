-- The pool words of a compiled slice name the strings of the lists' one ConstantPool.
use Prim.Native.Nat.{ℕ}
use mathlib.Core.Path.{◌≡◌, refl, sym, ap, ◌∙◌}
use mathlib.Core.List.{List, [], ◌∷◌, ◌++◌, map, reverse, reverse-reverse}
use mathlib.Core.Bool.{true, false}
use lib.Seq.{take-length}
use Rattle.hir.specs.Hir.{Str}
use Rattle.pcode.specs.Pcode.{Value, Plain, Action, Item}
use Rattle.lowering.specs.Builder.{Limits}
use Rattle.list_slice.specs.Entry.{Piece, op, ConstantPool, StoreRegister, GotoFrame, GotoLabel, GotoFrame2, branch, function, mark, value}
use Rattle.list_slice.specs.Words.{joined}
use Rattle.list_slice.specs.Items.{References, value_of, extended, added, gathered, items_of}
use Rattle.list_slice.specs.File.{text_in, in_file}
use Rattle.list_slice.specs.Compiled.{finishing, pool_count, Holds}
use Rattle.list_slice.proofs.Determined.{counts_append}
use Rattle.list_slice.proofs.Read.{map_append}

-- the pools of a list, the last item first

abbrev plain_pools : Plain → List (List Str)
plain_pools (Plain.ConstantPool ss) = ss ∷ []
plain_pools (Plain.op o) = []
plain_pools (Plain.StoreRegister n) = []
plain_pools (Plain.GotoFrame n) = []
plain_pools (Plain.GotoFrame2 p) = []
plain_pools (Plain.GotoLabel s) = []

abbrev item_pools : Item → List (List Str)
item_pools (Item.action (Action.plain p)) = plain_pools p
item_pools (Item.action (Action.push vs)) = []
item_pools (Item.action (Action.branch b l)) = []
item_pools (Item.action (Action.define h n)) = []
item_pools (Item.mark l) = []

abbrev pub pools : List Item → List (List Str)
pools [] = []
pools (i ∷ is) = item_pools i ++ pools is

extended_pools : (v : Value) (is : List Item) → pools (extended v is) ≡ pools is
extended_pools v [] = refl
extended_pools v (Item.action (Action.push []) ∷ is) = refl
extended_pools v (Item.action (Action.push (u ∷ us)) ∷ is) = refl
extended_pools v (Item.action (Action.plain p) ∷ is) = refl
extended_pools v (Item.action (Action.branch b l) ∷ is) = refl
extended_pools v (Item.action (Action.define h n) ∷ is) = refl
extended_pools v (Item.mark l ∷ is) = refl

added_pools : (r : References) (p : Piece) (is : List Item) → pools (added r p is) ≡ map r.strings (pool_count p) ++ pools is
added_pools r (ConstantPool n) is = refl
added_pools r (op o) is = refl
added_pools r (StoreRegister n) is = refl
added_pools r (GotoFrame n) is = refl
added_pools r (GotoLabel s) is = refl
added_pools r (GotoFrame2 p) is = refl
added_pools r (branch b l) is = refl
added_pools r (function n f) is = refl
added_pools r (mark l) is = refl
added_pools r (value true v) is = refl
added_pools r (value false v) is = extended_pools (value_of r v) is

gathered_pools : (r : References) (ps : List Piece) → pools (gathered r ps) ≡ map r.strings (joined (map pool_count ps))
unfolding gathered joined
gathered_pools r [] = refl
gathered_pools r (p ∷ ps) =
    added_pools r p (gathered r ps) ∙ ap (λ (x : List (List Str)). map r.strings (pool_count p) ++ x) (gathered_pools r ps)
    ∙ sym (map_append r.strings (pool_count p) (joined (map pool_count ps)))

list_pools : (r : References) (ps : List Piece) → pools (reverse (items_of r ps)) ≡ map r.strings (joined (map pool_count ps))
unfolding items_of
list_pools r ps = ap pools (reverse-reverse (gathered r ps)) ∙ gathered_pools r ps

abbrev pub all_pools : List (List Item) → List (List Str)
all_pools ls = joined (map (λ (is : List Item). pools (reverse is)) ls)

lists_pools : (r : References) (pss : List (List Piece)) → all_pools (map (items_of r) pss) ≡ map r.strings (joined (map pool_count (joined pss)))
unfolding joined
lists_pools r [] = refl
lists_pools r (ps ∷ pss) =
    rw (list_pools r ps, lists_pools r pss, counts_append ps (joined pss)) (sym (map_append r.strings (joined (map pool_count ps)) (joined (map pool_count (joined pss)))))

pub pool_is : {limits : Limits} {F : List ℕ} {lists : List (List Item)} {w : List ℕ} (h : Holds limits F lists w) → all_pools (finishing lists) ≡ map (text_in F) h.pool ∷ []
pool_is {F = F} h =
    rw (← h.reads, lists_pools (in_file F h.pool) h.pieces, h.counted) (ap (λ (x : List ℕ). map (text_in F) x ∷ []) (take-length h.pool))
