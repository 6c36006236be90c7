-- By what its steps do, the definition gives the same lists or the same refusal.
use mathlib.Core.Path.{refl}
use mathlib.Core.List.{[]}
use Rattle.std.proofs.Common.{rules}
use Rattle.as2_codegen.proofs.Meets.{the_words, base_is, refused_low, generated_lists, generated_refusal}
use Rattle.as2_codegen.proofs.generate.Goals as goal

pub refusal-requires : goal.refusal-requires
refusal-requires c =
    let whole = c.args.accepted.now.whole in
    let made = c.generated-builder.ensures.made in
    (rw c.in-Some.is at (refused_low whole.accepted whole.part made.begun made.does (rw c.in-Some.is refl))).1

pub returns-in-Some : goal.returns-in-Some
returns-in-Some c =
    let whole = c.args.accepted.now.whole in
    let made = c.generated-builder.ensures.made in
    generated_refusal whole.accepted whole.part made.begun made.does [] (rw c.in-Some.is refl) (rw c.in-Some.is c.refusal.ensures)

pub into_actions-requires-clause-base_value : goal.into_actions-requires-clause-base_value
into_actions-requires-clause-base_value c =
    let whole = c.args.accepted.now.whole in
    let made = c.generated-builder.ensures.made in
    base_is whole.accepted whole.part made.begun made.does (rw c.in_default.is refl)

pub returns : goal.returns
returns c =
    let whole = c.args.accepted.now.whole in
    let made = c.generated-builder.ensures.made in
    generated_lists whole.accepted whole.part made.begun made.does (rw c.in_default.is refl) (λ v copied. c.into_actions.ensures _ v (made.does.named made.begun.named) (the_words (search rules) copied))
