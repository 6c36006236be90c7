-- A Block in a Block in which it alone may generate anything.
use Prim.Native.Nat.{ℕ, zero, suc, ◌-◌, ◌≤◌, ◌<◌}
use mathlib.Core.Path.{◌≡◌, refl, sym, ap, ◌∙◌}
use mathlib.Core.List.{List, [], ◌∷◌}
use mathlib.Core.Bool.{Bool, true, false, false≢true}
use native.Mathlib.Omega.{arith}
use native.Mathlib.Nat.{add-zero}
use lib.Dec.{ltb}
use Rattle.script_records.specs.declared.layout.Layout.{Layout}
use Rattle.script_records.specs.declared.part.Part.{Part}
use Rattle.script.specs.Resolve.{resolved}
use Rattle.pcode.specs.declared.Op.TheVariants.{Pop}
use Rattle.pcode.specs.Pcode.{Plain, Action, Item, moved, row_of}
use Rattle.lowering.specs.Builder.{State, Step, ok, allow, with_items, ◌>>=◌, ◌>>◌, stack_size, action, action_with_stack_delta, pops, truncate_stack}
use Rattle.lowering.specs.Meaning.{Loop, hoisted}
use Rattle.lowering.specs.Statement.{meanings, gen_those, gen_statements, gen_block}
use Rattle.codegen_state.specs.View.{Waiting, Held, holds, stopped, back, carry, after}
use Rattle.codegen_state.proofs.Steps.{after_then, after_done}
use Rattle.std.specs.Prelude.{Option, Some, None, IfSome}
use Rattle.script_records.specs.declared.layout.ScriptFile.{ScriptFile}
use Rattle.tree.specs.declared.Trees.{Trees}
use Rattle.tree.specs.Handle.{IsRest}
use Rattle.tree.specs.Trees.{node_of, kind_at}
use Rattle.tree.specs.Within.{Within, IsList, meanings_at, kid_at, list_at}
use Rattle.tree.proofs.Nodes.{is_node, trees_none}
use Rattle.tree.proofs.ByKind.{kind_none}
use Rattle.tree.proofs.Meanings.{kid_zero}
use Rattle.builder.specs.Labels.{labels_of_forest}
use Rattle.rows.specs.declared.Each.{Each}
use Rattle.rows.specs.declared.Each.TheVariants.{Hoisted, Unhoisted}
use Rattle.rows.specs.Rows.{loop_of, one_of, each_of, cases_of}
use Rattle.rows.specs.Kept.{upto, start_of, Kept, of_passed}
use Rattle.std.specs.Option.{is_some, is_none}
use Rattle.rows.specs.declared.Loop as code
use Rattle.rows.specs.Innermost.{Same, Unlabelled, Only, Innermost, IsOnly}
use Rattle.rows.proofs.Passed.{node_is, passed_out, block_root}
use Rattle.rows.proofs.Kept.{no_label, each_more, before_is, same_part, Going, going_start, going_on, Noted, noted_start, noted_out, noted_in, noted_all}
use Rattle.rows.proofs.Statements.{hoisted_each, others_each}

-- what a pop leaves
abbrev popped : State → State
popped s = with_items (Item.action (Action.plain (Plain.op Pop)) ∷ s.builder.items) (moved (row_of Pop).delta s.builder.size) 1 0 s

pop_cases : (P : Held (Unit {0}) → Type 0) (a : Unit {0}) (s : State) (r : Waiting) → P (stopped 8) → P (holds tt (popped s) r) → P (after (holds a s r) (action Pop))
unfolding after carry action_with_stack_delta
pop_cases P a s r over popping = by (ltb s.actions s.limits.actions)
  where
    by : (b : Bool) → P (back r (allow b 8 s (ok tt (popped s))))
    by true = popping
    by false = over

after_stopped : (n : ℕ) (m k : Step) → after (after (stopped n) m) k ≡ after (stopped n) m
unfolding after carry
after_stopped n m k = refl

after_size : (a : Unit {0}) (s : State) (r : Waiting) (k : ℕ → Step) → after (holds a s r) (stack_size >>= k) ≡ after (holds a s r) (k s.builder.size)
unfolding after carry stack_size ◌>>=◌
after_size a s r k = refl

-- the stack is truncated to a size to which it has been truncated
pops_once : (k : ℕ) (a : Unit {0}) (s : State) (r : Waiting) (z : ℕ) → s.builder.size - z ≡ k →
    after (after (holds a s r) (pops k)) (truncate_stack z) ≡ after (holds a s r) (pops k)
pops_once zero a s r z h = rw (after_done (holds a s r)) (after_size a s r (λ now. pops (now - z)) ∙ rw h (after_done (holds a s r)))
pops_once (suc k) a s r z h =
    rw (after_then (holds a s r) (action Pop) (pops k))
    (pop_cases (λ v. after (after v (pops k)) (truncate_stack z) ≡ after v (pops k)) a s r (after_stopped 8 (pops k) (truncate_stack z))
    (pops_once k tt (popped s) r z (omega (arith, h))))

truncated_once : (v : Held (Unit {0})) (z : ℕ) → after (after v (truncate_stack z)) (truncate_stack z) ≡ after v (truncate_stack z)
truncated_once (stopped n) z = after_stopped n (truncate_stack z) (truncate_stack z)
truncated_once (holds a s r) z = rw (after_size a s r (λ now. pops (now - z))) (pops_once (s.builder.size - z) a s r z refl)

-- noting the stack's size, and truncating the stack to it
abbrev framed : Step → Step
framed m = stack_size >>= λ size. m >> truncate_stack size

framed_then : (a : Unit {0}) (s : State) (r : Waiting) (m : Step) → after (holds a s r) (framed m) ≡ after (after (holds a s r) m) (truncate_stack s.builder.size)
framed_then a s r m = after_size a s r (λ size. m >> truncate_stack size) ∙ after_then (holds a s r) m (truncate_stack s.builder.size)

framed_stopped : (n : ℕ) (m k : Step) → after (stopped n) (framed m) ≡ after (stopped n) (framed k)
unfolding after carry
framed_stopped n m k = refl

framed_same : (m k : Step) → Same m k → Same (framed m) (framed k)
framed_same m k e (stopped n) = framed_stopped n m k
framed_same m k e (holds a s r) = framed_then a s r m ∙ rw (e (holds a s r)) (sym (framed_then a s r k))

framed_once : (m : Step) → Same (framed (framed m)) (framed m)
framed_once m (stopped n) = framed_stopped n (framed m) m
framed_once m (holds a s r) = framed_then a s r (framed m) ∙ rw (framed_then a s r m) (truncated_once (after (holds a s r) m) s.builder.size)

-- a row of which one tree is kept
module _ (F : List ℕ) (l : Layout) (e : Each) (lp : Loop) (lo j last : ℕ) where
  abbrev start : Part
  start = upto lo (start_of F lo j)

  one_kept : Kept F l e lp lo (j ∷ []) 1 lo last → (f d : ℕ) (v : Held (Unit {0})) →
      after v (each_of e lp f d (meanings_at F (upto lo last))) ≡
      after v (one_of e lp f d (labels_of_forest (meanings_at F start)) (cases_of (meanings_at F start)) (kid_at F (upto lo j) 0) (list_at F (upto lo j) 0))
  unfolding Kept meanings each_of
  one_kept c f d v =
      let g = is_node F l (upto lo j) c.3 refl in
      let m = before_is F l lo j g c.0.up c.1 in
      let n : after v (each_of e lp f d (meanings_at F start)) ≡ v = c.0.same f d v ∙ rw (trees_none F (upto lo lo) (omega arith)) (after_done v) in
      c.4.same f d v ∙ rw (each_more F l (upto lo j) g (omega (arith, c.0.up, c.1)) e lp f d, m, after_then, n)

-- the statements of a row of which one is kept that is not hoisted
module _ (F : List ℕ) (l : Layout) (lp : Loop) (lo j last : ℕ) (h : Kept F l Hoisted lp lo (j ∷ []) 1 lo last) (u : Kept F l Unhoisted lp lo (j ∷ []) 1 lo last)
    (not-hoisted : hoisted (kid_at F (upto lo j) 0).rec (list_at F (upto lo j) 0) ≡ false) where
  one_statement : Same (gen_statements lp (meanings_at F (upto lo last))) ((kid_at F (upto lo j) 0).gen_statement lp)
  one_statement v =
      let ms = meanings_at F (upto lo last) in
      let a : after v (gen_those true lp ms) ≡ v = hoisted_each lp 0 0 ms v ∙ one_kept F l Hoisted lp lo j last h 0 0 v ∙ rw not-hoisted (after_done v) in
      let b : after v (gen_those false lp ms) ≡ after v ((kid_at F (upto lo j) 0).gen_statement lp) = others_each lp 0 0 ms v ∙ one_kept F l Unhoisted lp lo j last u 0 0 v ∙ rw not-hoisted in
      after_then v (gen_those true lp ms) (gen_those false lp ms) ∙ rw a b

-- the loop: at most one tree is kept
abbrev end_of : Option Trees → ℕ
end_of None = 0
end_of (Some t) = t.part.end

abbrev count_of : Option Trees → ℕ
count_of None = 0
count_of (Some t) = 1

module _ (S : ScriptFile) (breaks continues : Bool) where
  abbrev is_out : Part → Bool
  is_out = of_passed S.bytes.now S.layout 4 breaks continues

  -- the tree that was found in g0
  pub record IsFound (g0 : Part) (t : Trees) : Type 0 where
    pub script : t.script ≡ S
    pub is : upto (g0.end - g0.n) t.part.end ≡ t.part
    pub fewer : t.part.n ≤ g0.n

  pub record OnlyInv (g0 : Part) (found : Option Trees) (left : Trees) : Type 0 where
    pub script : left.script ≡ S
    pub going : Going S.bytes.now S.layout g0 left.part (count_of found)
    pub noted : Noted S.bytes.now S.layout is_out g0 (end_of found ∷ []) left.part (count_of found)
    pub tree : IfSome found (IsFound g0)

  pub only_start : (t : Trees) → t.script ≡ S → OnlyInv t.part None t
  only_start t e = record { script = e; going = going_start (rw e at t.within); noted = noted_start; tree = tt }

  module _ {g0 : Part} {found : Option Trees} {left : Trees} (i : OnlyInv g0 found left) (h : 0 < left.part.n) {rest : Trees} (r : IsRest left rest) where
    abbrev goes : rest.part ≡ (node_of S.bytes.now S.layout left.part).before
    goes =
        let e : rest.part ≡ (node_of left.script.bytes.now left.script.layout left.part).before = r.part in
        rw i.script at e

    pub only_out : is_out left.part ≡ true → OnlyInv g0 found rest
    only_out k = record { script = r.script ∙ i.script; going = rw (add-zero (count_of found)) at (going_on i.going h goes {r = 0} (omega arith)); noted = noted_out i.going h goes i.noted k; tree = i.tree }

    pub only_in : found ≡ None → OnlyInv g0 (Some left) rest
    only_in z =
        let c = i.going in
        record {
          script = r.script ∙ i.script;
          going = going_on (rw z at i.going) h goes {r = 1} (omega arith);
          noted = noted_in (rw z at i.going) h goes (rw z at i.noted) (omega arith);
          tree = record { script = i.script; is = same_part (g0.end - g0.n) left.part i.going.end; fewer = omega (arith, i.going.less) };
        }

  pub only_done : (row : Trees) {t left : Trees} → row.script ≡ S → OnlyInv row.part (Some t) left → left.part.n ≡ 0 → Only S.bytes.now S.layout breaks continues row.part t.part
  only_done row {t} s i z =
      let g0 = row.part in
      let f = i.tree in
      let w : Within S.bytes.now S.layout row.part = rw s at row.within in
      let k = noted_all i.going i.noted z in
      let p : upto (g0.end - g0.n) g0.end ≡ g0 = same_part (g0.end - g0.n) g0 (omega (arith, w.inside)) in
      record {
        within = rw f.script at t.within;
        fewer = f.fewer;
        same = λ lp (nb, nc) n.
            let x = k Hoisted lp (λ q w z h. passed_out S.bytes.now S.layout q w z 4 breaks continues h Hoisted refl lp nb nc) in
            let y = k Unhoisted lp (λ q w z h. passed_out S.bytes.now S.layout q w z 4 breaks continues h Unhoisted refl lp nb nc) in
            rw (p, f.is) at (one_statement S.bytes.now S.layout lp (g0.end - g0.n) t.part.end g0.end x y (rw f.is n));
      }

-- The library says of `is_some` that it is a test, and has no lemma that what fails it is None.
pub none_found : {A : Type 0} (o : Option A) → false ≡ is_some o → o ≡ None
none_found None h = refl
none_found (Some x) h = absurd (false≢true h)

pub only_found : (row : Trees) (lp : code.Loop) (found : Option Trees) {left : Trees} → OnlyInv row.script (is_none lp.exit) (is_none lp.next) row.part found left → left.part.n ≡ 0 →
    IfSome found (λ t. IsOnly lp row t)
only_found row lp None i z = tt
only_found row lp (Some t) i z = record { script = i.tree.script; only = only_done _ _ _ row refl i z }

-- a Block that is the only one
module _ (F : List ℕ) (l : Layout) {breaks continues : Bool} {p block : Part} (o : Only F l breaks continues p block) (k : kind_at F l block ≡ 4) {kids : Part} (is : kids ≡ (node_of F l block).children) {inner : Part} (i : IsList F l kids 0 inner) (lp : Loop) (u : Unlabelled breaks continues lp) where
  is_block : (kid_at F block 0).gen_statement lp ≡ gen_block lp (meanings_at F inner)
  unfolding resolved
  is_block = rw (kid_zero F l block (node_is F l block o.within), block_root F l block k, ← is, i.means)

  no_function : hoisted (kid_at F block 0).rec (list_at F block 0) ≡ false
  unfolding resolved
  no_function = rw (kid_zero F l block (node_is F l block o.within), block_root F l block k)

  block_inside : Same (gen_block lp (meanings_at F p)) (gen_block lp (meanings_at F inner))
  block_inside v =
      let s : Same (gen_statements lp (meanings_at F p)) (gen_block lp (meanings_at F inner)) = λ v. o.same lp u no_function v ∙ ap (after v) is_block in
      framed_same (gen_statements lp (meanings_at F p)) (gen_block lp (meanings_at F inner)) s v ∙ framed_once (gen_statements lp (meanings_at F inner)) v

block_there : (F : List ℕ) (l : Layout) (p : Part) → kind_at F l p ≡ 4 → p.n ≡ 0 → ⊥
block_there F l p k h = omega (arith, kind_none F l p h ∙ k)

-- the loop: from Block to Block
pub record InnerInv (S : ScriptFile) (lp : code.Loop) (row inner : Trees) : Type 0 where
  pub script : inner.script ≡ S
  pub come : Innermost S.bytes.now S.layout (loop_of lp) row.part inner.part

module _ {S : ScriptFile} {lp : code.Loop} {row inner block : Trees} (i : InnerInv S lp row inner) (o : IsOnly lp inner block) (four : kind_at S.bytes.now S.layout block.part ≡ 4) where
  abbrev only : Only S.bytes.now S.layout (is_none lp.exit) (is_none lp.next) inner.part block.part
  only =
      let p : Only inner.script.bytes.now inner.script.layout (is_none lp.exit) (is_none lp.next) inner.part block.part = o.only in
      rw i.script at p

  module _ {kids : Part} (is : kids ≡ (node_of S.bytes.now S.layout block.part).children) {deeper : Part} (k : IsList S.bytes.now S.layout kids 0 deeper) where
    pub inner_less : deeper.n < inner.part.n
    inner_less =
        let a = (node_is S.bytes.now S.layout block.part only.within).apart in
        let b = rw is at k.fewer in
        let z = block_there S.bytes.now S.layout block.part four in
        omega (arith, a, b, z, only.fewer)

    pub inner_again : Innermost S.bytes.now S.layout (loop_of lp) row.part deeper
    inner_again = record {
      within = k.within;
      fewer = omega (arith, inner_less, i.come.fewer);
      same = λ v. i.come.same v ∙ block_inside S.bytes.now S.layout only four is k (loop_of lp) (no_label lp.exit, no_label lp.next) v;
    }
