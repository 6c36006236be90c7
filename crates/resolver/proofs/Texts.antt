-- Strings and their sizes.
use Prim.Native.Nat.{ℕ, zero, suc, ◌+◌, ◌-◌, ◌*◌, ◌%◌, ◌≤◌, ◌<◌}
use mathlib.Core.Path.{◌≡◌, refl, sym, ap, ap₂, ◌∙◌}
use mathlib.Core.Option as optional
use mathlib.Core.List.{List, [], ◌∷◌, ◌++◌, map, append_assoc, append-nil}
use mathlib.Core.Bool.{Bool, true, false, not, cond, ◌&&◌}
use native.Mathlib.Omega.{arith}
use lib.Dec.{T, ltb, leb, eqb}
use lib.ListN.{length, take, drop, length-take, length-append}
use lib.Seq.{take-take}
use borrow.Author.Tests.{ltb-true, leb-true, eqb-true, eq-eqb, ne_eqb}
use Rattle.std.specs.Prelude.{Option, Some, None, unwrap_or}
use Rattle.std.specs.List.{list_any, push}
use Rattle.hir.specs.Hir.{Str}
use Rattle.hir.specs.declared.Record.{Record}
use Rattle.hir.specs.declared.Record.TheVariants as kind
use Rattle.pcode.specs.Pcode.{Param, Header}
use Rattle.script_records.specs.declared.layout.ScriptFile.{ScriptFile}
use Rattle.script_records.specs.declared.part.Part.{Part}
use Rattle.script.specs.Resolve.{resolved, name_over}
use Rattle.lowering.specs.Meaning.{param}
use Rattle.hir.specs.declared.ExprKind.TheVariants as expr
use Rattle.script_records.specs.declared.layout.Row.{Row}
use Rattle.script_records.specs.Layout.{Words, words_of, row_in}
use Rattle.decode.specs.declared.Function.{Function}
use Rattle.decode.specs.Decode.{record_of, name_of, function_of}
use Rattle.lowering.specs.Meaning.{list}
use Rattle.lowering.specs.Statement.{header, meanings, params}
use Rattle.lowering.proofs.Laws.{list_law}
use Rattle.list_slice.specs.File.{rec_in, record_in, children_in, header_in, names_function, params_of}
use Rattle.action_format.specs.Lists.{all}
use Rattle.action_format.specs.Bytes.{word, zero_ended, join, param_bytes, data_of_header}
use Rattle.action_format.proofs.Tests.{is_true, and_first, and_second}
use Rattle.list_slice.proofs.Read.{map_append}
use Rattle.tree.specs.declared.Node.{Node}
use Rattle.tree.specs.Trees.{rows_in, trees, rec_of, node_of}
use Rattle.tree.specs.Within.{Within, IsNode, IsList}
use Rattle.list_slice.proofs.Functions.{params_meanings}
use Rattle.slice_words.proofs.Strings.{text_is}
use Rattle.tree.proofs.Nodes.{is_node, trees_none, trees_more}
use Rattle.script_records.specs.declared.layout.Layout.{Layout}
use Rattle.script_records.specs.Layout.{layout_of, rows_of, string_at}
use Rattle.lowering.specs.Builder.{limits01}
use Rattle.action_format.specs.Strings.{no_zero, header_strings}
use Rattle.list_slice.specs.Words.{pool_in}
use Rattle.list_slice.specs.File.{no_string, text_in}
use Rattle.slice_words.specs.References.{param_of}
use Rattle.tree.proofs.Accepted.{accepted_short, accepted_rules, accepted_sound}
use Rattle.script.specs.Rules.{record_holds}
use Rattle.script.proofs.Written.{all_hold}
use Rattle.script.proofs.WrittenRows.{first, second}
use Rattle.slice_words.proofs.Strings.{string_short}
use Rattle.resolver.specs.declared.text.Text.{Text}
use Rattle.resolver.specs.declared.text.Data.{Data}
use Rattle.resolver.specs.Texts.{Ready, Few, no_text, with_text, texts_of, param_names, data_of, function_data}

-- no byte is zero
pub zero_free : (s : Str) → not (list_any (λ (b : ℕ). eqb b 0) s) ≡ no_zero s
zero_free [] = refl
zero_free (zero ∷ s) = refl
zero_free (suc b ∷ s) = rw (ne_eqb (suc b) 0 (λ e. omega arith)) (zero_free s)

pub text_short : (F : List ℕ) (r : ℕ) → length (text_in F r) ≤ length F
unfolding text_in
text_short F r = go (eqb r no_string)
  where
    go : (t : Bool) → length (cond t [] (string_at F (layout_of F) r)) ≤ length F
    go true = omega arith
    go false = string_short F (layout_of F) r

-- the strings of a row of references

pub texts_small : (F : List ℕ) (rs : List ℕ) → length F ≤ 1048576 →
    ((texts_of (map (text_in F) rs)).bytes ≤ length rs * 1048577) × ((texts_of (map (text_in F) rs)).count ≡ length rs)
texts_small F [] h = (omega arith, refl)
texts_small F (r ∷ rs) h = let k = texts_small F rs h in (omega (arith, k.0, text_short F r), omega (arith, k.1))

-- of the references xs those of rest are still to come, and t is of the others
pub record PoolInv (F xs rest : List ℕ) (t : Text) : Type 0 where
  pub done : List ℕ
  pub whole : xs ≡ rest ++ done
  pub is : t ≡ texts_of (map (text_in F) done)

module _ {F xs rest : List ℕ} {t : Text} (v : PoolInv F xs rest t) where
  pub pool_few : {l : Layout} → Ready F l → length xs ≤ 2048 → Few t
  pool_few h k =
      let s = texts_small F v.done (accepted_short F h.accepted) in
      let m : length v.done ≤ 2048 = omega (arith, ap length v.whole, length-append rest v.done, k) in
      rw v.is (record { small = omega (arith, s.0, s.1, m); few = omega (arith, s.1, m) })

  pub pool_again : {front : List ℕ} (r : ℕ) {t' : Text} → rest ≡ push front r → t' ≡ with_text (text_in F r) t → PoolInv F xs front t'
  pool_again {front} r s e = record {
    done = r ∷ v.done;
    whole = v.whole ∙ ap (λ (z : List ℕ). z ++ v.done) s ∙ append_assoc front (r ∷ []) v.done;
    is = e ∙ ap (with_text (text_in F r)) v.is;
  }

pub pool_done : {F xs : List ℕ} (rest : List ℕ) {t : Text} → PoolInv F xs rest t → length rest ≡ 0 → t ≡ texts_of (map (text_in F) xs)
pool_done {F} [] v z = v.is ∙ ap (λ (x : List ℕ). texts_of (map (text_in F) x)) (sym v.whole)
pool_done (x ∷ rest) v z = let e : ⊥ = omega (arith, z) in absurd e

pub pool_start : (F xs : List ℕ) → PoolInv F xs xs no_text
pool_start F xs = record { done = []; whole = sym (append-nil xs); is = refl }

-- the first n words of the pool
pub pool_words : (w : List ℕ) (n : ℕ) → n ≤ 2048 → take (14336 + n - 14336) (drop 14336 w) ≡ take n (pool_in limits01 w)
pool_words w n h =
    let e : 14336 + n - 14336 ≡ n = omega arith in
    rw (e, take-take n 2048 (drop 14336 w) h)

-- the names of parameters, from the last to the first

no_name : (F : List ℕ) → text_in F no_string ≡ []
unfolding text_in
no_name F = pick (eqb no_string no_string) (eq-eqb no_string no_string refl)
  where
    pick : (t : Bool) → t ≡ true → cond t [] (string_at F (layout_of F) no_string) ≡ []
    pick true e = refl
    pick false e = absurd cc

name_is : (F : List ℕ) (r : Record) → length F ≤ 1048576 → text_in F (param_of r).name ≡ (param (rec_of F r)).name
unfolding resolved
name_is F (kind.Parameter n g) h = text_is F n h
name_is F (kind.ObjectField n) h = text_is F n h
name_is F (kind.Statement k) h = no_name F
name_is F (kind.Expr k) h = no_name F
name_is F kind.Absent h = no_name F
name_is F (kind.List n) h = no_name F
name_is F kind.Case h = no_name F
name_is F kind.Default h = no_name F
name_is F kind.Other h = no_name F

-- strings before those of t
abbrev pub onto : List Str → Text → Text
onto [] t = t
onto (s ∷ ss) t = with_text s (onto ss t)

onto_last : (ss : List Str) (s : Str) (t : Text) → onto (ss ++ (s ∷ [])) t ≡ onto ss (with_text s t)
onto_last [] s t = refl
onto_last (x ∷ ss) s t = ap (with_text x) (onto_last ss s t)

onto_none : (ss : List Str) → onto ss no_text ≡ texts_of ss
onto_none [] = refl
onto_none (s ∷ ss) = ap (with_text s) (onto_none ss)

abbrev names : List ℕ → Part → List Str
names F p = param_names (params_of (trees F p))

names_more : (F : List ℕ) (l : Layout) (p : Part) {r : Node Part} → IsNode F l p r → 0 < p.n → names F p ≡ names F r.before ++ ((param (rec_of F r.root)).name ∷ [])
unfolding params_of
names_more F l p i h = rw (trees_more F l p i h) (map_append (λ (x : Param). x.name) (params_of (trees F _)) (param (rec_of F _) ∷ []))

pub record ParamsInv (F : List ℕ) (l : Layout) (p left : Part) (t : Text) : Type 0 where
  pub within : Within F l left
  pub same : texts_of (param_names (params_of (trees F p))) ≡ onto (param_names (params_of (trees F left))) t
  pub few : t.count + left.n ≤ p.n
  pub most : p.n < 65536
  pub small : t.bytes ≤ t.count * 1048577

pub params_start : {F : List ℕ} {l : Layout} {p : Part} → Within F l p → {t : Text} → t ≡ no_text → ParamsInv F l p p t
params_start {F} {l} {p} w e =
    rw e (record {
      within = w;
      same = sym (onto_none (param_names (params_of (trees F p))));
      few = omega arith;
      most = omega (arith, w.inside, w.known, w.sound.few);
      small = omega arith;
    })

module _ {F : List ℕ} {l : Layout} {p left : Part} {t : Text} (v : ParamsInv F l p left t) where
  pub params_again : {r : Node Part} → r ≡ node_of F l left → 0 < left.n → {rest : Part} → rest ≡ (node_of F l left).before → {s : Str} → s ≡ text_in F (param_of r.root).name →
      {t' : Text} → t' ≡ with_text s t → ParamsInv F l p rest t'
  params_again {r} e z {rest} b q u =
      let i = is_node F l left v.within e in
      let s : length F ≤ 1048576 = v.within.sound.short in
      let k : rest ≡ r.before = b ∙ ap (λ (n : Node Part). n.before) (sym e) in
      rw (u, q, k) (record {
        within = i.rest_within;
        same = v.same ∙ ap (λ (ss : List Str). onto ss t) (names_more F l left i (omega arith)) ∙ onto_last (names F r.before) (param (rec_of F r.root)).name t
            ∙ ap (λ (x : Str). onto (names F r.before) (with_text x t)) (sym (name_is F r.root s));
        few = omega (arith, v.few, i.apart);
        most = v.most;
        small = omega (arith, v.small, text_short F (param_of r.root).name);
      })

  pub params_done : left.n ≡ 0 → t ≡ texts_of (param_names (params_of (trees F p)))
  unfolding params_of
  params_done z = sym (v.same ∙ rw (trees_none F left z))

-- a function's header

abbrev row_at : List ℕ → ℕ → Row
row_at F r = row_in (rows_in F) r

abbrev kids_at : List ℕ → ℕ → Part
kids_at F r = record { end = r; n = (row_at F r).size - 1 }

function_parts : (F : List ℕ) (r : ℕ) → T (names_function F r) → (r < (layout_of F).count) × ((row_at F r).kind ≡ 49)
unfolding names_function
function_parts F r h = (
  ltb-true r _ (is_true _ (and_first (ltb r (layout_of F).count) (eqb (row_at F r).kind 49) h)),
  eqb-true _ 49 (is_true _ (and_second (ltb r (layout_of F).count) (eqb (row_at F r).kind 49) h)),
)

function_record : (w : Words) → w.kind ≡ 49 → record_of w ≡ kind.Expr (expr.Function (name_of w.a) (w.b % 256) (w.c % 512))
unfolding record_of
function_record w e = rw e

-- the reference of a function's name, by its word
abbrev function_name : ℕ → ℕ
function_name a = unwrap_or (name_of a) no_string

name_text : (F : List ℕ) (n : Option ℕ) → length F ≤ 1048576 → text_in F (unwrap_or n no_string) ≡ optional.get_or (name_over (string_at F (layout_of F)) n) []
name_text F None h = no_name F
name_text F (Some i) h = text_is F i h

header_is : (F : List ℕ) (r : ℕ) → T (names_function F r) → length F ≤ 1048576 →
    header_in F r ≡ header (text_in F (function_name (row_at F r).a)) ((row_at F r).b % 256) ((row_at F r).c % 512) (params_of (list 1 (trees F (kids_at F r)))) (leb ((row_at F r).b % 256) 1)
unfolding header_in record_in children_in rec_in trees resolved
header_is F r h s =
    rw (
      function_record (words_of (row_at F r)) (function_parts F r h).1,
      name_text F (name_of (row_at F r).a) s,
    )

pub join_size : (ss : List Str) → length (join zero_ended ss) ≡ (texts_of ss).bytes
unfolding zero_ended
join_size [] = refl
join_size (s ∷ ss) = simp length-append (omega (arith, join_size ss))

params_size : (ps : List Param) → length (join param_bytes ps) ≡ (texts_of (param_names ps)).bytes + length ps
unfolding zero_ended
params_size [] = refl
params_size (p ∷ ps) = simp length-append (omega (arith, params_size ps))

pub texts_clear : (ss : List Str) → (texts_of ss).clear ≡ all no_zero ss
texts_clear [] = refl
texts_clear (s ∷ ss) = ap (λ (b : Bool). no_zero s && b) (texts_clear ss)

texts_count : (ps : List Param) → (texts_of (param_names ps)).count ≡ length ps
texts_count [] = refl
texts_count (p ∷ ps) = rw (texts_count ps) (omega arith)

abbrev head_data : Header → Data
head_data h = data_of (length (data_of_header h 0)) (all no_zero (header_strings h))

-- the code's sum, by the number of registers
abbrev summed : Bool → Text → Text → Data
summed few all' params = data_of (cond few 4 (7 + params.count) + all'.bytes) all'.clear

header_size : (s : Str) (g m : ℕ) (ps : List Param) (t : Bool) → summed t (with_text s (texts_of (param_names ps))) (texts_of (param_names ps)) ≡ head_data (header s g m ps t)
unfolding zero_ended word
header_size s g m ps true = ap₂ data_of (simp (length-append, join_size) (omega arith)) (rw (texts_clear (param_names ps)))
header_size s g m ps false = ap₂ data_of (simp (length-append, params_size) (omega (arith, texts_count ps))) (rw (texts_clear (param_names ps)))

size_inside : (m : ℕ) (rs : List Row) (i : ℕ) → record_holds m rs i ≡ true → (row_in rs i).size ≤ i + 1
unfolding record_holds
size_inside m rs i h = leb-true _ (i + 1) (second (leb 1 (row_in rs i).size) _ (first (leb 1 (row_in rs i).size && leb (row_in rs i).size (i + 1)) _ (first ((leb 1 (row_in rs i).size && leb (row_in rs i).size (i + 1)) && _) _ h)))

pub function_kids : {F : List ℕ} {l : Layout} → Ready F l → (r : ℕ) → T (names_function F r) → {row : Row} → row ≡ row_in (rows_of F l) r → {n : ℕ} → n ≡ row.size - 1 →
    Within F l (record { end = r; n = n })
function_kids {F} {l} h r f e q =
    let s = accepted_sound F h.accepted in
    let p = function_parts F r f in
    let i = size_inside (layout_of F).strings (rows_in F) r (all_hold F (accepted_rules F h.accepted) r p.0) in
    rw (q, e, h.layout) (record { layout = refl; inside = omega arith; known = omega arith; whole = s.whole r p.0; sound = s })

pub function_done : {F : List ℕ} {l : Layout} → Ready F l → (r : ℕ) → T (names_function F r) → {row : Row} → row ≡ row_in (rows_of F l) r → {n : ℕ} → n ≡ row.size - 1 →
    {p : Part} → IsList F l (record { end = r; n = n }) 1 p → (s : ScriptFile) → s.bytes.now ≡ F → {t : Text} → t ≡ texts_of (param_names (params_of (trees s.bytes.now p))) →
    {f : Function} → f ≡ function_of (words_of row) → {u : Text} → u ≡ with_text (text_in F (unwrap_or f.name no_string)) t → {b : ℕ} → b ≡ cond (leb f.register_count 1) 4 (7 + t.count) →
    data_of (b + u.bytes) u.clear ≡ function_data F r
unfolding function_of
function_done {F} {l} h r f {row} e {n} q {p} ps s same t a u b =
    let k : row ≡ row_at F r = e ∙ ap (λ (x : Layout). row_in (rows_of F x) r) h.layout in
    let z : params_of (list 1 (trees F (kids_at F r))) ≡ params_of (trees F p) =
    sym (params_meanings (list 1 (trees F (kids_at F r)))) ∙ ap params (sym (list_law 1 (trees F (kids_at F r))))
    ∙ ap (λ (m : ℕ). params (list 1 (meanings (trees F (record { end = r; n = m }))))) (sym (q ∙ ap (λ (x : Row). x.size - 1) k))
    ∙ ap params ps.means ∙ params_meanings (trees F p) in
    rw (b, u, a, t, same, k, header_is F r f (accepted_short F h.accepted), z)
    (header_size (text_in F (function_name (row_at F r).a)) ((row_at F r).b % 256) ((row_at F r).c % 512) (params_of (trees F p)) (leb ((row_at F r).b % 256) 1))

pub pool_small : {F : List ℕ} {l : Layout} → Ready F l → (w : List ℕ) (n : ℕ) → n ≤ 2048 → {t : Text} → t ≡ texts_of (map (text_in F) (take n (pool_in limits01 w))) →
    t.bytes ≤ 2048 * 1048577
pool_small {F} h w n k {t} e =
    let s = texts_small F (take n (pool_in limits01 w)) (accepted_short F h.accepted) in
    let m : length (take n (pool_in limits01 w)) ≤ 2048 = simp length-take (omega arith) in
    rw e (omega (arith, s.0))
