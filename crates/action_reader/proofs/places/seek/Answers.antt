use Rattle.std.proofs.Common.{Ok, Err, ◌∙◌}
use Rattle.std.proofs.lemmas.List.Sorted.{searched}
use borrow.Author.Rules.{rules}
use Rattle.action_reader.proofs.Seek.{seek_there, seek_stop, found_nowhere, rises_all, rest_of}
use Rattle.action_reader.proofs.places.seek.Goals as goal

pub returns-in-Ok : goal.returns-in-Ok
returns-in-Ok c =
    let h = searched c.args.positions.now c.args.x (Ok c.in-Ok.i) c.in-Ok.ensures.position (rises_all _ c.requires.rises) in
    rw (seek_there c.args.positions.now c.args.stop c.args.x c.in-Ok.i c.requires.rises h.0 h.1)

pub returns-in-Err : goal.returns-in-Err
returns-in-Err c =
    let h = searched c.args.positions.now c.args.x (Err c.in-Err.field-0) c.in-Err.ensures.position (rises_all _ c.requires.rises) in
    rw (seek_stop c.args.positions.now c.args.stop c.args.x (rest_of _ _ _ h) c.if-x-stop.true)

pub returns-in-Err-2 : goal.returns-in-Err-2
returns-in-Err-2 c = search rules ∙ found_nowhere _ _ _ _ c.requires.rises c.in-Err-2.ensures.position c.if-x-stop.false
