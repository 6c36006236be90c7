use mathlib.Core.Path.{refl}
use lib.ListN.{length}
use Rattle.rascal.proofs.Joined.{when_written, when_refused}
use Rattle.rascal.proofs.write_lists.Goals as goal

pub returns-in-Ok : goal.returns-in-Ok
returns-in-Ok c =
    let wrote = c.write in
    when_written c.args.file.now c.args.list.now c.requires.lowered (length c.args.list.now) (length c.args.output.now) c.requires.in_bounds wrote.result
    wrote.new.output wrote.ensures c.in-Ok.is refl

pub returns-in-Err : goal.returns-in-Err
returns-in-Err c =
    let wrote = c.write in
    rw c.clear_words.ensures
    (when_refused c.args.file.now c.args.list.now c.requires.lowered (length c.args.list.now) (length c.args.output.now) c.requires.in_bounds wrote.result
    wrote.new.output wrote.ensures c.in-Err.is)
