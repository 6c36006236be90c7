-- The parameters of a function, walked from the last to the first.
use Prim.Native.Nat.{ℕ, ◌+◌, ◌-◌, ◌≤◌, ◌<◌}
use mathlib.Core.Path.{◌≡◌, refl, ap, sym, ◌∙◌}
use mathlib.Core.List.{List, [], ◌∷◌, ◌++◌, append_assoc, append-nil}
use mathlib.Core.Bool.{Bool}
use native.Mathlib.Omega.{arith}
use lib.ListN.{length, length-append}
use Rattle.script_records.specs.declared.layout.Layout.{Layout}
use Rattle.script_records.specs.declared.part.Part.{Part}
use Rattle.lowering.specs.Meaning.{param}
use Rattle.list_slice.specs.File.{params_of}
use Rattle.action_format.specs.Bytes.{Bytes, join}
use Rattle.tree.specs.declared.Node.{Node}
use Rattle.tree.specs.Trees.{trees, rec_of, node_of}
use Rattle.tree.specs.Within.{Within, IsNode}
use Rattle.tree.proofs.Nodes.{is_node, trees_none, trees_more}
use Rattle.byte_writer.specs.Written.{Room, Wrote}
use Rattle.byte_writer.specs.Header.{param_data, params_data}
use Rattle.byte_writer.proofs.Writes.{wrote_none, wrote_before}

pub join_append : {A : Type 0} (f : A → Bytes) (xs ys : List A) → join f (xs ++ ys) ≡ join f xs ++ join f ys
join_append f [] ys = refl
join_append f (x ∷ xs) ys = rw (join_append f xs ys, append_assoc (f x) (join f xs) (join f ys))

module _ (F : List ℕ) (l : Layout) (wide : Bool) where
  abbrev pub data_of : Part → Bytes
  data_of p = params_data wide (params_of (trees F p))

  params_none : (p : Part) → p.n ≡ 0 → data_of p ≡ []
  unfolding params_data params_of
  params_none p h = rw (trees_none F p h)

  module _ {left : Part} (w : Within F l left) (h : 0 < left.n) {r : Node Part} (e : r ≡ node_of F l left) where
    node : IsNode F l left r
    node = is_node F l left w e

    abbrev last_data : Bytes
    last_data = param_data wide (param (rec_of F r.root))

    params_more : data_of left ≡ data_of r.before ++ last_data
    unfolding params_data params_of
    params_more =
        rw (trees_more F l left node h, join_append (param_data wide) (params_of (trees F r.before)) (param (rec_of F r.root) ∷ []), append-nil last_data)

  -- how many bytes they take

  pub record Sized (p : Part) (size : ℕ) (left : Part) : Type 0 where
    pub within : Within F l left
    pub whole : size + length (data_of left) ≡ length (data_of p)

  pub sized_done : {p : Part} {size : ℕ} {left : Part} → Sized p size left → left.n ≡ 0 → size ≡ length (data_of p)
  sized_done {left = left} i h = omega (arith, i.whole, ap length (params_none left h))

  module _ {p : Part} {size : ℕ} {left : Part} (i : Sized p size left) (h : 0 < left.n) {r : Node Part} (e : r ≡ node_of F l left) {n : ℕ} (d : n ≡ length (param_data wide (param (rec_of F r.root)))) where
    sizes : length (data_of left) ≡ length (data_of r.before) + n
    sizes = ap length (params_more i.within h e) ∙ (length-append (data_of r.before) (last_data i.within h e) ∙ rw d)

    pub sized_fits : size + n ≤ length (data_of p)
    sized_fits = omega (arith, i.whole, sizes)

    pub sized_next : {rest : Part} → rest ≡ (node_of F l left).before → Sized p (size + n) rest
    sized_next b = rw (b ∙ ap (λ (n : Node Part). n.before) (sym e)) (record { within = (node i.within h e).rest_within; whole = omega (arith, i.whole, sizes) })

  -- written before what stands after them

  pub record Backward (p : Part) (o : List ℕ) (at end : ℕ) (o' : List ℕ) (next : ℕ) (left : Part) : Type 0 where
    pub within : Within F l left
    pub rest : Bytes
    pub whole : data_of p ≡ data_of left ++ rest
    pub wrote : Wrote o next rest end o'
    pub place : next ≡ at + length (data_of left)

  pub backward_start : {p : Part} {o : List ℕ} {at end : ℕ} → Within F l p → end ≡ at + length (data_of p) → Backward p o at end o end p
  backward_start {p} {o} {at} {end} w e = record { within = w; rest = []; whole = sym (append-nil (data_of p)); wrote = wrote_none o end; place = e }

  pub backward_done : {p : Part} {o o' : List ℕ} {at end next : ℕ} {left : Part} → Backward p o at end o' next left → left.n ≡ 0 → Wrote o at (data_of p) end o'
  backward_done {at = at} {next = next} {left = left} b h =
      let z = params_none left h in
      let e : next ≡ at = omega (arith, b.place, ap length z) in
      rw (b.whole, z) (rw e at b.wrote)

  module _ {p : Part} {o o' : List ℕ} {at end next : ℕ} {left : Part} (b : Backward p o at end o' next left) (h : 0 < left.n) {r : Node Part} (e : r ≡ node_of F l left)
      {n : ℕ} (d : n ≡ length (param_data wide (param (rec_of F r.root)))) where
    abbrev data' : Bytes
    data' = param_data wide (param (rec_of F r.root))

    left_sizes : length (data_of left) ≡ length (data_of r.before) + n
    left_sizes = ap length (params_more b.within h e) ∙ (length-append (data_of r.before) data' ∙ rw d)

    pub backward_fits : n ≤ next
    backward_fits = omega (arith, b.place, left_sizes)

    pub backward_room : Room o at (data_of p) → Room o' (next - n) data'
    backward_room k = omega (arith, b.place, left_sizes, d, b.wrote.long, ap length b.whole, length-append (data_of left) b.rest)

    pub backward_next : {rest : Part} → rest ≡ (node_of F l left).before → {m : ℕ} {o'' : List ℕ} → Wrote o' (next - n) data' m o'' → Backward p o at end o'' (next - n) rest
    backward_next k q =
        let z : next ≡ next - n + length data' = omega (arith, b.place, left_sizes, d) in
        rw (k ∙ ap (λ (x : Node Part). x.before) (sym e)) (record {
          within = (node b.within h e).rest_within;
          rest = data' ++ b.rest;
          whole = rw (b.whole, params_more b.within h e, append_assoc (data_of r.before) data' b.rest);
          wrote = wrote_before {x = data'} (rw (← z) b.wrote) q;
          place = omega (arith, b.place, left_sizes);
        })
