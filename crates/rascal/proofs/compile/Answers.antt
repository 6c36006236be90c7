use mathlib.Core.Path.{◌≡◌}
use lib.ListN.{length}
use borrow.Author.Rules.{rules}
use Rattle.rascal.proofs.Joined.{when_lists, when_room, when_stopped, in_output}
use Rattle.rascal.proofs.compile.Goals as goal

pub write_lists-requires : goal.write_lists-requires
write_lists-requires c =
    let low = c.script_to_actions in
    let n = length c.args.list.now in
    record {
      lowered = when_lists c.args.file.now n low.new.list low.result low.ensures c.in-Ok.is;
      in_bounds = when_room c.args.file.now n low.new.list low.result low.ensures c.in-Ok.is;
    }

pub returns-in-Ok : goal.returns-in-Ok
returns-in-Ok c =
    let low = c.script_to_actions in
    let len : length low.new.list ≡ length c.args.list.now = search rules in
    let compiles = rw len at c.write_lists.ensures in
    record { compiles = compiles; in_output = in_output _ _ _ _ _ _ compiles (search rules) }

pub returns-in-Err : goal.returns-in-Err
returns-in-Err c =
    let low = c.script_to_actions in
    record {
      compiles =
          when_stopped c.args.file.now (length c.args.list.now) low.new.list low.result low.ensures (length c.args.output.now) _ c.clear_bytes.new.bytes
          c.clear_bytes.ensures c.in-Err.is;
      in_output = search rules;
    }
