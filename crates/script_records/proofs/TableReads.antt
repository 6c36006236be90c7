-- What `get` of a table gives, once copied. The library has no lemma of this shape: its own are of `slice_get`, by value, and not of the reference that `get`
-- gives, nor of an `Option` in an `Option`.
use Rattle.std.proofs.Common.{◌≡◌, ℕ, get_or, List, sym, refl, ◌∙◌}
use Rattle.std.specs.Prelude.{Option, Some, None, unwrap_or, option_copied}
use Rattle.std.specs.Option.{option_flatten}
use Rattle.std.specs.Slice.{IsItemAt}
use Rattle.std.proofs.lemmas.List.{get_or_read}
use lib.ListN.{get_or-eq_default}
use denote.Ref.{Bor}

pub item_or : {X : Type 0} (xs : List X) (i : ℕ) (r : Option (Bor X)) (d : X) → IsItemAt xs i r → unwrap_or (option_copied r) d ≡ get_or xs i d
item_or xs i None d h = sym (get_or-eq_default xs d h.3)
item_or xs i (Some x) d h = get_or_read xs i x.now h.3.0 h.1 d

flattened : {X : Type 0} (o : Option (Option X)) → option_flatten o ≡ unwrap_or o None
flattened None = refl
flattened (Some x) = refl

-- of a table in which places may be empty
pub item_in : {X : Type 0} (xs : List (Option X)) (i : ℕ) (r : Option (Bor (Option X))) → IsItemAt xs i r → option_flatten (option_copied r) ≡ get_or xs i None
item_in xs i r h = flattened (option_copied r) ∙ item_or xs i r None h
