-- The header of a function of the file.
use Prim.Native.Nat.{ℕ, ◌-◌}
use mathlib.Core.Path.{◌≡◌, ap, sym, ◌∙◌}
use mathlib.Core.List.{List}
use Rattle.decode.specs.declared.Function.{Function}
use Rattle.script_records.specs.declared.layout.Layout.{Layout}
use Rattle.script_records.specs.declared.layout.ScriptFile.{ScriptFile}
use Rattle.script_records.specs.declared.layout.Row.{Row}
use Rattle.script_records.specs.declared.part.Part.{Part}
use Rattle.script_records.specs.Layout.{words_of, rows_of, row_in}
use Rattle.decode.specs.Decode.{function_of}
use Rattle.lowering.specs.Meaning.{list}
use Rattle.lowering.proofs.Laws.{list_law}
use Rattle.lowering.specs.Statement.{params}
use Rattle.list_slice.specs.File.{params_of}
use Rattle.tree.specs.Trees.{rows_in, trees}
use Rattle.tree.specs.Within.{Within, IsList}
use Rattle.list_slice.proofs.Functions.{params_meanings}
use Rattle.byte_writer.specs.Header.{function_in, header_data, params_at, function_data, IsFunction}

module _ (F : List ℕ) (l : Layout) (k size : ℕ) (i : IsFunction F l k) {row : Row} (e : row ≡ row_in (rows_of F l) k) where
  row_is : row ≡ row_in (rows_in F) k
  row_is = rw (← i.within.layout) e

  pub kids_within : Within F l (record { end = k; n = row.size - 1 })
  kids_within = rw row_is i.within

  module _ {p : Part} (x : IsList F l (record { end = k; n = row.size - 1 }) 1 p) {f : Function} (q : f ≡ function_of (words_of row)) where
    params_at_lem : params_of (trees F p) ≡ params_at F k
    params_at_lem =
        sym (params_meanings (trees F p)) ∙ (ap params (sym x.means) ∙ (ap params (list_law 1 (trees F (record { end = k; n = row.size - 1 })))
        ∙ (params_meanings (list 1 (trees F (record { end = k; n = row.size - 1 }))) ∙ rw row_is)))

    pub function_is : f ≡ function_in F k
    function_is = q ∙ rw row_is

    -- the same file, by the script file of the trees
    pub data_is : (s : ScriptFile) → s.bytes.now ≡ F → header_data F l f (params_of (trees s.bytes.now p)) size ≡ function_data F l k size
    unfolding function_data
    data_is s same = rw (same, params_at_lem, function_is)
