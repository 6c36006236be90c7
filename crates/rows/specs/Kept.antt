-- Where the trees of a row end that are to be generated: all but some that generate nothing.
use Rattle.std.specs.Prelude.{ℕ, zero, suc, ◌+◌, ◌-◌, ◌≤◌, ◌<◌, ◌≡◌, Bool, true, List, get_or}
use Rattle.script_records.specs.declared.layout.Layout.{Layout}
use Rattle.script_records.specs.declared.part.Part.{Part}
use Rattle.script_records.specs.Layout.{rows_of, row_in, span_at}
use Rattle.lowering.specs.Meaning.{Loop, element}
use Rattle.lowering.specs.Meaning as meaning
use Rattle.codegen_state.specs.View.{Held, after}
use Rattle.tree.specs.declared.Trees.{Trees}
use Rattle.tree.specs.Trees.{rows_in, node_of}
use Rattle.tree.specs.Handle.{file_of}
use Rattle.tree.specs.Within.{Within, meanings_at, kid_at, list_at}
use Rattle.builder.specs.Labels.{labels_of_forest}
use Rattle.rows.specs.declared.Each.{Each}
use Rattle.rows.specs.Rows.{one_of, each_of, cases_of}
use Rattle.rows.specs.Passed.{passed}

-- a row's step for its last tree generates nothing, and that has no label
abbrev pub Quiet : List ℕ → Part → Each → Loop → Type 0
Quiet F p e lp = ((f d s c : ℕ) (v : Held (Unit {0})) → after v (one_of e lp f d s c (kid_at F p 0) (list_at F p 0)) ≡ v) × (element (kid_at F p 0).rec ≡ meaning.statement)

-- the trees that start at record lo and end before record e, and where the last of them starts
abbrev pub upto : (lo e : ℕ) → Part
upto lo e = record { end = e; n = e - lo }

abbrev pub start_of : List ℕ → (lo e : ℕ) → ℕ
start_of F lo e = e - span_at (rows_in F) e (e - lo)

-- the trees from record q up to record s generate nothing and have no label
pub record Idle (F : List ℕ) (e : Each) (lp : Loop) (lo q s : ℕ) : Type 0 where
  pub up : q ≤ s
  pub same : (f d : ℕ) (v : Held (Unit {0})) → after v (each_of e lp f d (meanings_at F (upto lo s))) ≡ after v (each_of e lp f d (meanings_at F (upto lo q)))
  pub labels : labels_of_forest (meanings_at F (upto lo s)) ≡ labels_of_forest (meanings_at F (upto lo q))
  pub cases : cases_of (meanings_at F (upto lo s)) ≡ cases_of (meanings_at F (upto lo q))

-- of the trees from record q up to record `last`, x has the ends of `top`, the first on top, at top - 1; the others generate nothing
unfoldable pub Kept : List ℕ → Layout → Each → Loop → (lo : ℕ) → List ℕ → (top q last : ℕ) → Type 0
Kept F l e lp lo x zero q last = Idle F e lp lo q last
Kept F l e lp lo x (suc u) q last =
    Idle F e lp lo q (start_of F lo (get_or x u 0)) × (start_of F lo (get_or x u 0) < get_or x u 0) × (u + get_or x u 0 ≤ last) × Within F l (upto lo (get_or x u 0)) × Kept F l e lp lo x u (get_or x u 0) last

-- x has the ends that are kept of a whole part
abbrev pub KeptOf : List ℕ → Layout → Each → Loop → Part → List ℕ → (top : ℕ) → Type 0
KeptOf F l e lp p x top = Kept F l e lp (p.end - p.n) x top (p.end - p.n) p.end

-- statements whose records are passed in fewer than k steps
abbrev pub of_passed : List ℕ → Layout → (k : ℕ) → (breaks continues : Bool) → Part → Bool
of_passed F l k breaks continues q = passed k (rows_of F l) (node_of F l q).before.end q.end breaks continues

-- none of the records from lo up to q is a Case's or a Default's
pub record Unlabelled (F : List ℕ) (l : Layout) (lo q : ℕ) : Type 0 where
  pub each : (i : ℕ) → lo ≤ i → i < q → (row_in (rows_of F l) i).kind < 100

-- from a record not after `stop` on, x has the ends of the trees but those left out, for every row in which these generate nothing
abbrev pub KeptDown : List ℕ → Layout → (out : Part → Bool) → (stop : ℕ) → Part → List ℕ → (top : ℕ) → Type 0
KeptDown F l out stop p x top =
    (e : Each) (lp : Loop) → ((q : Part) → Within F l q → (q.n ≡ 0 → ⊥) → out q ≡ true → Quiet F q e lp) →
    (q : ℕ) × (q ≤ stop) × (p.end - p.n ≤ q) × Within F l (upto (p.end - p.n) q) × Kept F l e lp (p.end - p.n) x top q p.end

-- the same for every test that a closure answers of a row's trees
abbrev pub KeptBy : (answers : Trees → Bool → Type 0) → Trees → (stop : ℕ) → List ℕ → (top : ℕ) → Type 0
KeptBy answers row stop x top =
    (out : Part → Bool) → ((t : Trees) (r : Bool) → t.script ≡ row.script → answers t r → r ≡ out t.part) → KeptDown (file_of row) row.script.layout out stop row.part x top
