use mathlib.Core.Path.{refl, sym}
use Rattle.builder.proofs.Ended.{end_stays, end_full, closed_ends}
use Rattle.builder.proofs.Runs.{kept}
use Rattle.builder.proofs.builder.CodeBuilder.end_function.Goals as goal

pub returns-then-is_some : goal.returns-then-is_some
returns-then-is_some c = record { keeps = kept refl; ends = λ F n e. record { keeps = kept refl; ends = end_stays F _ _ _ _ _ (sym c.if-is_some.ensures) c.args.self.now.fine } }

pub returns-then-self-ge-MAX_ACTIONS : goal.returns-then-self-ge-MAX_ACTIONS
returns-then-self-ge-MAX_ACTIONS c = record { keeps = kept refl; ends = λ F n e. record { keeps = kept refl; ends = end_full F _ _ _ _ _ (sym c.if-is_some.ensures) c.if-self-ge-MAX_ACTIONS.true c.args.self.now.fine } }

pub returns : goal.returns
returns c = record {
  keeps = c.close.ensures.keeps;
  ends = λ F n e. record {
    keeps = c.close.ensures.keeps;
    ends = closed_ends c.args.up c.args.self.now.fine (sym c.if-is_some.ensures) c.if-self-ge-MAX_ACTIONS.false c.requires c.close.ensures.closed F n e;
  };
}
