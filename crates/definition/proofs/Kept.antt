-- What compiles keeps the rules of lists, and its branches are closed.
use Prim.Native.Nat.{ℕ, ◌≤◌}
use mathlib.Core.Path.{◌≡◌, sym, ◌∙◌, ap, subst}
use mathlib.Core.List.{List}
use Rattle.pcode.specs.Pcode.{Item}
use Rattle.script.specs.Rules.{check_of}
use Rattle.script.specs.Write.{Bytes}
use Rattle.lowering.specs.Builder.{Limits}
use Rattle.lowering.specs.Statement as lowering
use Rattle.lowering.proofs.Theorems.Facts.{All, Closed}
use Rattle.lowering.proofs.Theorems.{top_first, branches_land}
use Rattle.action_format.specs.Rules.{OfLowering}
use Rattle.definition.specs.Outcome.{by_place, byte_limits}
use Rattle.definition.specs.Compile.{statements_of, lists_of}
use Rattle.definition.proofs.Lowered.{of_lowering}
use Rattle.definition.proofs.Ranges.{statements_in_lem}
use Rattle.definition.proofs.Ways.{Compiled}

module _ (lim : Limits) (some_action : 1 ≤ lim.actions) (file : List ℕ) where
  -- the lists of an accepted file
  pub kept_lists : Bytes file → check_of file ≡ 0 → (ls : List (List Item)) → lists_of lim file ≡ lowering.lists ls → OfLowering (byte_limits lim) (by_place ls)
  kept_lists bytes c ls l =
      let x = top_first lim some_action (statements_of file) ls l in
      subst (λ (ls : List (List Item)). OfLowering (byte_limits lim) (by_place ls)) (sym x.2)
      (of_lowering lim some_action (statements_of file) (statements_in_lem file bytes c) x.0 x.1 (l ∙ ap lowering.lists x.2))

  module _ (list_words room : ℕ) (b : List ℕ) (ls : List (List Item)) where
    pub kept : Bytes file → Compiled lim file list_words room b ls → OfLowering (byte_limits lim) (by_place ls)
    kept bytes c = kept_lists bytes c.accepted ls c.lowered

    pub closed : Compiled lim file list_words room b ls → All Closed ls
    closed c =
        let x = top_first lim some_action (statements_of file) ls c.lowered in
        subst (All Closed) (sym x.2) (branches_land lim some_action (statements_of file) x.0 x.1 (c.lowered ∙ ap lowering.lists x.2))
