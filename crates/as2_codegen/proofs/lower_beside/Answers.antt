use native.Mathlib.Omega.{arith}
use lib.ListN.{length-take}
use Rattle.as2_codegen.proofs.Copying.{all_zeros, copied, copied_long}
use Rattle.as2_codegen.proofs.lower_beside.Goals as goal

pub generate-requires-clause-words_value : goal.generate-requires-clause-words_value
generate-requires-clause-words_value c = all_zeros 20480

pub slice_bounds-copy_from_slice-end-3 : goal.slice_bounds-copy_from_slice-end-3
slice_bounds-copy_from_slice-end-3 c = simp length-take (omega (arith, c.generate.auto.words))

pub copy_from_slice-requires : goal.copy_from_slice-requires
copy_from_slice-requires c = simp length-take (omega (arith, c.generate.auto.words, c.requires.in_bounds))

pub returns : goal.returns
returns c =
    let pre = c.requires in
    let words = c.generate.new.words in
    let e = c.copy_from_slice.ensures.after in
    rw (copied_long words c.args.list.now c.generate.auto.words pre.in_bounds pre.list_value e) at (c.in_ok-generate.ensures _ (copied words c.args.list.now c.generate.auto.words pre.in_bounds pre.list_value e))
