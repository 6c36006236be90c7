-- What references name in a script file.
use Rattle.std.specs.Prelude.{ℕ, ◌-◌, List, [], cond, eqb}
use Rattle.hir.specs.Hir.{Str}
use Rattle.hir.specs.declared.Record.{Record}
use Rattle.hir.specs.declared.Record.TheVariants as kind
use Rattle.script_records.specs.declared.layout.Layout.{Layout}
use Rattle.script_records.specs.Layout.{string_at}
use Rattle.list_slice.specs.File.{no_string}
use Rattle.slice_words.specs.declared.Param.{Param}

-- a string by its reference
unfoldable pub text_at : List ℕ → Layout → (reference : ℕ) → Str
text_at F l r = cond (eqb r no_string) [] (string_at F l r)

abbrev pub nameless_param : Param
nameless_param = record { name = no_string; register = 0 }

-- a parameter's record holds its register plus 1, or 0 for none
abbrev pub param_of : Record → Param
param_of (kind.Parameter n r) = record { name = n; register = r - 1 }
param_of (kind.ObjectField n) = record { name = n; register = 0 }
param_of (kind.Statement k) = nameless_param
param_of (kind.Expr k) = nameless_param
param_of kind.Absent = nameless_param
param_of (kind.List n) = nameless_param
param_of kind.Case = nameless_param
param_of kind.Default = nameless_param
param_of kind.Other = nameless_param
