-- Steps of a context, one after the other.
use Prim.Native.Nat.{ℕ, ◌≤◌}
use mathlib.Core.Path.{◌≡◌, refl, ◌∙◌}
use Rattle.script_records.specs.Layout.{layout_of}
use Rattle.lowering.specs.Builder.{M}
use Rattle.codegen_state.specs.Index.{Indexed}
use Rattle.codegen_state.specs.Does.{Does}
use Rattle.tree.specs.declared.Trees.{Trees}
use Rattle.tree.specs.Handle.{file_of}
use Rattle.builder.specs.declared.builder.CodeBuilder.{CodeBuilder}
use Rattle.builder.specs.Runs.{SameList}
use Rattle.builder.proofs.Runs.{same_list_then}
use Rattle.constants.specs.declared.context.ScriptContext.{ScriptContext}
use Rattle.constants.specs.Acts.{Acts}
use Rattle.leaves.specs.Args.{Pushes}
use Rattle.statement.specs.Walk.{Walk, Walks}

-- a context later on, over the same file and words
pub record Goes (c r : ScriptContext) : Type 0 where
  pub script : r.script ≡ c.script
  pub same_list : SameList c.builder r.builder

pub start : {c : ScriptContext} → Goes c c
start = record { script = refl; same_list = record { name = refl; long = refl } }

module _ {A : Type 0} {m : M A} {a : A} {c d r : ScriptContext} where
  pub walked : {t : Trees} → Walks t m d a r → Goes c d → Goes c r
  walked w g = record { script = w.script ∙ g.script; same_list = same_list_then g.same_list w.same_list }

  pub acted : Acts m d a r → Goes c d → Goes c r
  acted w g = record { script = w.script ∙ g.script; same_list = same_list_then g.same_list w.same_list }

pub built : {c d : ScriptContext} {b : CodeBuilder} {l : d.script.layout ≡ layout_of d.script.bytes.now} {x : Indexed d.script.bytes.now b.state.constants b.list.now} →
    SameList d.builder b → Goes c d → Goes c (record { script = d.script; builder = b; laid_out = l; indexed = x })
built s g = record { script = g.script; same_list = same_list_then g.same_list s }

pub pushed : {t left : Trees} {c r : ScriptContext} → Pushes t c left r → Goes c r
pushed p = record { script = p.script; same_list = p.same_list }

pub walks : {A : Type 0} {m : M A} {a : A} {t : Trees} {c r : ScriptContext} → Goes c r → Does (file_of t) m c.builder.state c.builder.list.now a r.builder.state r.builder.list.now → Walks t m c a r
walks g d = record { script = g.script; same_list = g.same_list; does = d }

-- the context and the trees of a later call
pub walk : {k : Trees} {c r : ScriptContext} {room : ℕ} → Goes c r → c.script ≡ k.script → k.part.n ≤ room → Walk k r room
walk g e f = record { script = g.script ∙ e; fits = f }
