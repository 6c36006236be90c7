-- Blocks in each other in which one statement alone may generate anything.
use Rattle.std.specs.Prelude.{ℕ, ◌≤◌, ◌≡◌, Bool, true, false, List}
use Rattle.std.proofs.Math.Option.{none}
use Rattle.script_records.specs.declared.layout.Layout.{Layout}
use Rattle.script_records.specs.declared.part.Part.{Part}
use Rattle.lowering.specs.Builder.{Step}
use Rattle.lowering.specs.Meaning.{Loop, hoisted}
use Rattle.lowering.specs.Statement.{gen_statements, gen_block}
use Rattle.codegen_state.specs.View.{Held, after}
use Rattle.std.specs.Option.{is_none}
use Rattle.tree.specs.declared.Trees.{Trees}
use Rattle.tree.specs.Handle.{file_of}
use Rattle.rows.specs.declared.Loop as code
use Rattle.tree.specs.Within.{Within, meanings_at, kid_at, list_at}

-- two steps that do the same from everywhere
abbrev pub Same : Step → Step → Type 0
Same m n = (v : Held (Unit {0})) → after v m ≡ after v n

-- Break and Continue have no label where they are said to generate nothing
abbrev pub Unlabelled : (breaks continues : Bool) → Loop → Type 0
Unlabelled breaks continues lp = (breaks ≡ true → lp.break_label ≡ none) × (continues ≡ true → lp.continue_label ≡ none)

-- of the statements of a part, that at the end of r alone generates anything
pub record Only (F : List ℕ) (l : Layout) (breaks continues : Bool) (p r : Part) : Type 0 where
  pub within : Within F l r
  pub fewer : r.n ≤ p.n
  pub same : (lp : Loop) → Unlabelled breaks continues lp → hoisted (kid_at F r 0).rec (list_at F r 0) ≡ false →
      Same (gen_statements lp (meanings_at F p)) ((kid_at F r 0).gen_statement lp)

-- a Block of the statements of p generates what a Block of those of r does
pub record Innermost (F : List ℕ) (l : Layout) (lp : Loop) (p r : Part) : Type 0 where
  pub within : Within F l r
  pub fewer : r.n ≤ p.n
  pub same : Same (gen_block lp (meanings_at F p)) (gen_block lp (meanings_at F r))

-- of the statements of a row, the last of t alone generates anything
pub record IsOnly (lp : code.Loop) (row t : Trees) : Type 0 where
  pub script : t.script ≡ row.script
  pub only : Only (file_of row) row.script.layout (is_none lp.exit) (is_none lp.next) row.part t.part
