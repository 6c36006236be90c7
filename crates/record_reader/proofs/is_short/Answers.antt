use mathlib.Core.Bool.{true, false}
use native.Mathlib.Omega.{arith}
use Rattle.record_reader.specs.Shape.{short_ops, is_short}
use Rattle.record_reader.proofs.Tables.{all_from, in_range_lem}
use Rattle.record_reader.proofs.is_short.Goals as goal

pub returns-in-4-to-9 : goal.returns-in-4-to-9
unfolding all_from is_short short_ops
returns-in-4-to-9 c = in_range_lem true 0x04 6 c.args.code (omega arith) (omega arith) tt

pub returns-in-4-to-9-2 : goal.returns-in-4-to-9-2
unfolding all_from is_short short_ops
returns-in-4-to-9-2 c = in_range_lem true 0x0B 3 c.args.code (omega arith) (omega arith) tt

pub returns-in-4-to-9-3 : goal.returns-in-4-to-9-3
unfolding all_from is_short short_ops
returns-in-4-to-9-3 c = in_range_lem true 0x10 6 c.args.code (omega arith) (omega arith) tt

pub returns-in-4-to-9-4 : goal.returns-in-4-to-9-4
unfolding all_from is_short short_ops
returns-in-4-to-9-4 c = in_range_lem true 0x17 2 c.args.code (omega arith) (omega arith) tt

pub returns-in-4-to-9-5 : goal.returns-in-4-to-9-5
unfolding all_from is_short short_ops
returns-in-4-to-9-5 c = in_range_lem true 0x1C 2 c.args.code (omega arith) (omega arith) tt

pub returns-in-4-to-9-6 : goal.returns-in-4-to-9-6
unfolding all_from is_short short_ops
returns-in-4-to-9-6 c = in_range_lem true 0x21 11 c.args.code (omega arith) (omega arith) tt

pub returns-in-4-to-9-7 : goal.returns-in-4-to-9-7
unfolding all_from is_short short_ops
returns-in-4-to-9-7 c = in_range_lem true 0x30 8 c.args.code (omega arith) (omega arith) tt

pub returns-in-4-to-9-8 : goal.returns-in-4-to-9-8
unfolding all_from is_short short_ops
returns-in-4-to-9-8 c = in_range_lem true 0x3A 12 c.args.code (omega arith) (omega arith) tt

pub returns-in-4-to-9-9 : goal.returns-in-4-to-9-9
unfolding all_from is_short short_ops
returns-in-4-to-9-9 c = in_range_lem true 0x47 6 c.args.code (omega arith) (omega arith) tt

pub returns-in-4-to-9-10 : goal.returns-in-4-to-9-10
unfolding all_from is_short short_ops
returns-in-4-to-9-10 c = in_range_lem true 0x4E 8 c.args.code (omega arith) (omega arith) tt

pub returns-in-4-to-9-11 : goal.returns-in-4-to-9-11
unfolding all_from is_short short_ops
returns-in-4-to-9-11 c = in_range_lem true 0x60 9 c.args.code (omega arith) (omega arith) tt

pub returns-in_default : goal.returns-in_default
unfolding all_from is_short short_ops
returns-in_default c = in_range_lem false 0x00 4 c.args.code (omega arith) (omega arith) tt

pub returns-in_default-2 : goal.returns-in_default-2
unfolding all_from is_short short_ops
returns-in_default-2 c = in_range_lem false 0x0A 1 c.args.code (omega arith) (omega arith) tt

pub returns-in_default-3 : goal.returns-in_default-3
unfolding all_from is_short short_ops
returns-in_default-3 c = in_range_lem false 0x0E 2 c.args.code (omega arith) (omega arith) tt

pub returns-in_default-4 : goal.returns-in_default-4
unfolding all_from is_short short_ops
returns-in_default-4 c = in_range_lem false 0x16 1 c.args.code (omega arith) (omega arith) tt

pub returns-in_default-5 : goal.returns-in_default-5
unfolding all_from is_short short_ops
returns-in_default-5 c = in_range_lem false 0x19 3 c.args.code (omega arith) (omega arith) tt

pub returns-in_default-6 : goal.returns-in_default-6
unfolding all_from is_short short_ops
returns-in_default-6 c = in_range_lem false 0x1E 3 c.args.code (omega arith) (omega arith) tt

pub returns-in_default-7 : goal.returns-in_default-7
unfolding all_from is_short short_ops
returns-in_default-7 c = in_range_lem false 0x2C 4 c.args.code (omega arith) (omega arith) tt

pub returns-in_default-8 : goal.returns-in_default-8
unfolding all_from is_short short_ops
returns-in_default-8 c = in_range_lem false 0x38 2 c.args.code (omega arith) (omega arith) tt

pub returns-in_default-9 : goal.returns-in_default-9
unfolding all_from is_short short_ops
returns-in_default-9 c = in_range_lem false 0x46 1 c.args.code (omega arith) (omega arith) tt

pub returns-in_default-10 : goal.returns-in_default-10
unfolding all_from is_short short_ops
returns-in_default-10 c = in_range_lem false 0x4D 1 c.args.code (omega arith) (omega arith) tt

pub returns-in_default-11 : goal.returns-in_default-11
unfolding all_from is_short short_ops
returns-in_default-11 c = in_range_lem false 0x56 10 c.args.code (omega arith) (omega arith) tt

pub returns-in_default-12 : goal.returns-in_default-12
unfolding all_from is_short short_ops
returns-in_default-12 c = in_range_lem false 0x69 151 c.args.code (omega arith) (omega arith) tt
