-- Lists with positions and ends are the lists of the definition.
use Prim.Native.Nat.{ℕ, suc, ◌+◌}
use mathlib.Core.Path.{◌≡◌, refl, sym, ap, ap₂, ◌∙◌}
use mathlib.Core.List.{List, ◌∷◌, map}
use lib.ListN.{length, length-map}
use Rattle.pcode.specs.Pcode.{define}
use Rattle.action_format.specs.Lists.{Lists, single}
use Rattle.action_format.specs.Code.{Code, end, act, fun, lists_of_outcome}
use Rattle.action_format.specs.Bytes.{single_bytes}
use Rattle.action_format.specs.Resume.{lists_from}
use Rattle.list_slice.specs.Read.{Placed, at, placed, body_at_code, after_body}
use Rattle.list_slice.proofs.Read.{map_append, actions, placed_flat}
use Rattle.action_reader.specs.Walk.{Ended, ended_at, Spread, spread}

abbrev pub plainly : List Ended → List (List Placed)
plainly = map (λ (l : Ended). l.actions)

pub spread_placed : (n p : ℕ) (c : Code) → ((placed n p c).own ≡ (spread n p c).own) × ((placed n p c).lists ≡ plainly (spread n p c).lists)
unfolding spread placed
spread_placed n p end = (refl, refl)
spread_placed n p (act a c) =
    let h = spread_placed n (p + length (single_bytes a)) c in
    (ap (λ (r : List Placed). at (single a) p ∷ r) h.0, h.1)
spread_placed n p (fun x b c) =
    let h = spread_placed n (body_at_code p x b) b in
    let k = suc (n + length (spread n (body_at_code p x b) b).lists) in
    let same : suc (n + length (placed n (body_at_code p x b) b).lists) ≡ k =
    ap (λ (m : ℕ). suc (n + m)) (ap length h.1 ∙ length-map (spread n (body_at_code p x b) b).lists (λ (l : Ended). l.actions)) in
    let g = spread_placed k (after_body p x b) c in (
      rw same (ap (λ (r : List Placed). at (define x k) p ∷ r) g.0),
      rw (same, h.0, h.1, g.1) (sym (map_append (λ (l : Ended). l.actions) (spread n (body_at_code p x b) b).lists
          (ended_at (spread n (body_at_code p x b) b).own (after_body p x b) ∷ (spread k (after_body p x b) c).lists))),
    )

-- the lists of a spread
abbrev pub lists_within : Spread → Lists
lists_within s = lists_from (actions s.own) (map actions (plainly s.lists))

pub spread_lists : (c : Code) → lists_of_outcome c ≡ lists_within (spread 0 0 c)
spread_lists c =
    let h = spread_placed 0 0 c in
    let g = placed_flat 0 0 c in
    ap₂ lists_from (sym g.0 ∙ ap actions h.0) (sym g.1 ∙ ap (map actions) h.1)
