-- From a step over counts and words to the same step of a CodeBuilder.
use Prim.Native.Nat.{ℕ, ◌+◌, ◌-◌, ◌<◌}
use mathlib.Core.Path.{◌≡◌, refl, ◌∙◌}
use mathlib.Core.List.{List}
use native.Mathlib.Omega.{arith}
use lib.ListN.{length}
use lib.Seq.{get_or-set_other}
use Rattle.lowering.specs.Builder.{M}
use Rattle.codegen_state.specs.declared.BuilderState.{BuilderState}
use Rattle.codegen_state.specs.Index.{Indexed}
use Rattle.codegen_state.specs.Does.{Fine, Does}
use Rattle.codegen_state.proofs.Index.{indexed_same}
use Rattle.builder.specs.declared.builder.CodeBuilder.{CodeBuilder}
use Rattle.builder.specs.Entries.{put3, Grown, Marked, Closed}
use Rattle.builder.specs.Runs.{SameList, SamePool, Keeps, Runs}
use Rattle.builder.proofs.Move.{end_word, side_word}
use Rattle.builder.proofs.Words.{getD_put}

pub same_list_then : {b c d : CodeBuilder} → SameList b c → SameList c d → SameList b d
same_list_then x y = record { name = y.name ∙ x.name; long = y.long ∙ x.long }

-- the pool

module _ {b r : BuilderState} {w w' : List ℕ} (p : SamePool b w r w') where
  pub same_pool_then : {s : BuilderState} {v : List ℕ} → SamePool r w' s v → SamePool b w s v
  same_pool_then q = record { constants = q.constants ∙ p.constants; words = λ i h. q.words i h ∙ p.words i h }

  pub index_stays : {F : List ℕ} → Indexed F b.constants w → Indexed F r.constants w'
  index_stays x = rw p.constants (indexed_same p.words x)

module _ {b r : BuilderState} {w w' : List ℕ} (f : Fine b w) (room : b.low < b.top) where
  pub grown_pool : {c x y n v m z : ℕ} → Grown b w c x y n v m z r w' → SamePool b w r w'
  grown_pool {c} {x} {y} g = rw (g.new, g.words) (record { constants = refl; words = λ i h. getD_put w _ c x y i (λ e. omega (arith, f.bottom)) (λ e. omega (arith, f.bottom)) (λ e. omega (arith, f.bottom)) })

  pub marked_pool : {l : ℕ} → l < b.labels → Marked b w l r w' → SamePool b w r w'
  marked_pool {l} k g = rw (g.new, g.words) (record {
    constants = refl;
    words = λ i h. rw (get_or-set_other (put3 w _ 257 l 0) (12288 + l) i 1 0 (λ e. omega (arith, f.labels))) (getD_put w _ 257 l 0 i (λ e. omega (arith, f.bottom)) (λ e. omega (arith, f.bottom)) (λ e. omega (arith, f.bottom)));
  })

  pub closed_pool : {base size number up : ℕ} → Closed b w base size number up r w' → SamePool b w r w'
  closed_pool {number = number} g =
      rw (g.new, g.words) (record {
        constants = refl;
        words = λ i h. end_word g.moved b.lists g.low (b.base - 1) 256 (b.lists + 1) number (omega (arith, f.base, f.cap)) i (omega arith) (λ e. omega (arith, f.lists, f.actions)) ∙ side_word w g.moved g.moves.side i (omega arith);
      })

pub keeps_then : {b c d : CodeBuilder} → Keeps b c → Keeps c d → Keeps b d
keeps_then x y = record { list = same_list_then x.list y.list; pool = same_pool_then x.pool y.pool }

-- the counts alone change
pub kept : {b : CodeBuilder} {s : BuilderState} {f : Fine s b.list.now} → s.constants ≡ b.state.constants → Keeps b (record { list = b.list; state = s; fine = f })
kept e = record { list = record { name = refl; long = refl }; pool = record { constants = e; words = λ i h. refl } }

-- words change too
pub wrote : {b : CodeBuilder} {s : BuilderState} {w : List ℕ} {f : Fine s w} → length w ≡ length b.list.now → SamePool b.state b.list.now s w →
    Keeps b (record { list = record { ref_ptr = b.list.ref_ptr; ghost_name = b.list.ghost_name; now = w }; state = s; fine = f })
wrote e p = record { list = record { name = refl; long = e }; pool = p }

-- a step

module _ {A : Type 0} {F : List ℕ} {m : M A} {a : A} {b : CodeBuilder} where
  pub counts : {s : BuilderState} {f : Fine s b.list.now} → s.constants ≡ b.state.constants → Does F m b.state b.list.now a s b.list.now → Runs F m b a (record { list = b.list; state = s; fine = f })
  counts e d = record { keeps = kept e; does = d }

  pub words : {s : BuilderState} {w : List ℕ} {f : Fine s w} → length w ≡ length b.list.now → SamePool b.state b.list.now s w → Does F m b.state b.list.now a s w →
      Runs F m b a (record { list = record { ref_ptr = b.list.ref_ptr; ghost_name = b.list.ghost_name; now = w }; state = s; fine = f })
  words e p d = record { keeps = wrote e p; does = d }
