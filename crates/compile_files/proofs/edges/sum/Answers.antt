-- Each step's remainder is below 65521, as 1 is.
use Rattle.std.proofs.Common.{◌<◌, arith, rules}
use Rattle.std.proofs.lemmas.Fn.{fold_over, slice_gives, fronts}
use Rattle.compile_files.proofs.edges.sum.Goals as goal

pub returns-clause-upper_bound : goal.returns-clause-upper_bound
returns-clause-upper_bound c =
    fold_over fronts (λ y. y.now) _ (λ ys n. n < 65521) _ (λ ys a x b f' j k. search rules)
    _ _ _ _ (slice_gives c.iter.result) (omega arith) c.fold.ensures.ran
