-- What the tables hold when no list is refused.
use Rattle.std.specs.Prelude.{ℕ, suc, ◌-◌, ◌≤◌, ◌<◌, ◌≡◌, List, T, length, get_or, Result, Ok, Err}
use Rattle.refusal.specs.declared.Refusal.{Refusal}
use Rattle.refusal.specs.Refusal.{number_of}
use Rattle.pcode.specs.Pcode.{Branching, Item}
use Rattle.action_format.specs.ByPlace.{actions, place_of_label}
use Rattle.action_format.specs.Strings.{zero_free}
use Rattle.action_format.specs.Code.{code}
use Rattle.action_format.specs.Offsets.{offset, all_near}
use Rattle.action_format.specs.Encode as action_format
use Rattle.action_format.specs.Encode.{short, encode}
use Rattle.action_format.specs.ByList.{body_bytes, begins}
use Rattle.list_slice.specs.Entry.{branch}
use Rattle.definition.specs.Outcome.{by_place}
use Rattle.definition.specs.Demand3.{list_at}
use Rattle.resolver.specs.Walk.{count_of, list_from, list_end, piece_at, walked}

-- the place of the action that entry e of list k says: the actions that entries before it say
abbrev pub place_at : List ℕ → List ℕ → (k e : ℕ) → ℕ
place_at F w k e = length (actions (walked F w (suc e) (list_end w k - suc e)))

-- sizes has the bytes of each list's body, by list number; offsets the offset of each branch, by its entry
pub record Tables (F w : List ℕ) (ls : List (List Item)) (sizes offsets : List ℕ) : Type 0 where
  pub body_size : (k : ℕ) → k < count_of w → get_or sizes k 0 ≡ length (body_bytes (by_place ls) k)
  pub at_branch : (k e : ℕ) (b : Branching) (label : ℕ) → k < count_of w → list_from w k ≤ e → e < list_end w k → piece_at w e ≡ branch b label →
      get_or offsets e 0 ≡ offset (begins (by_place ls) k (suc (place_at F w k e))) (begins (by_place ls) k (place_of_label (list_at ls k) label))

pub record Resolved (F w : List ℕ) (ls : List (List Item)) (sizes offsets : List ℕ) : Type 0 where
  pub tables : Tables F w ls sizes offsets
  pub no_zeros : T (zero_free (by_place ls))
  pub is_short : T (short (code (by_place ls)))
  pub is_near : T (all_near (code (by_place ls)))

-- the answer: the refusal that the definition gives, whatever the room, or the tables and the bytes of the top list's body
pub data Resolves (F w : List ℕ) (ls : List (List Item)) (sizes offsets : List ℕ) : Result ℕ Refusal → Type 0 where
  refused : {e : Refusal} → ((room : ℕ) → encode (by_place ls) room ≡ action_format.refused (number_of e)) → Resolves F w ls sizes offsets (Err e)
  good : {b : ℕ} → Resolved F w ls sizes offsets → b ≡ length (body_bytes (by_place ls) 0) → Resolves F w ls sizes offsets (Ok b)
