-- Statements that generate nothing, found by going down from record to record.
use Rattle.std.specs.Prelude.{ℕ, zero, suc, ◌-◌, Bool, false, cond, ◌||◌, List, Option, option_map, unwrap_or, leb, eqb}
use Rattle.std.specs.Bool.{then_some}
use Rattle.script_records.specs.declared.layout.Row.{Row}
use Rattle.script_records.specs.Layout.{row_in}

-- how many records are passed at one of this kind and size, with one of the kind `under` below it, if the way goes on. Break and Continue are passed where they
-- generate nothing, a statement that is a Void as a whole, a Block and its list record by record
abbrev pub passes : (kind size under : ℕ) → (breaks continues : Bool) → Option ℕ
passes kind size under breaks continues =
    cond (eqb kind 3) (then_some (eqb under 48) size)
    (cond (eqb kind 8) (then_some breaks 1)
    (cond (eqb kind 9) (then_some continues 1)
    (cond (eqb kind 4) (then_some (eqb under 97) 1) (then_some (eqb kind 97) 1))))

unfoldable pub passes_at : List Row → (e : ℕ) → (breaks continues : Bool) → Option ℕ
passes_at rs e breaks continues = passes (row_in rs (e - 1)).kind (row_in rs (e - 1)).size (row_in rs (e - 2)).kind breaks continues

-- whether the way down from record e comes to record lo in fewer than k steps
unfoldable pub passed : (k : ℕ) → List Row → (lo e : ℕ) → (breaks continues : Bool) → Bool
passed zero rs lo e breaks continues = false
passed (suc k) rs lo e breaks continues =
    leb e lo || unwrap_or (option_map (λ n. passed k rs lo (e - n) breaks continues) (passes_at rs e breaks continues)) false
