use Rattle.byte_writer.proofs.HeaderParts.{name_room, count_room, marks_room, params_room, size_room, header_done, params_short}
use Rattle.byte_writer.proofs.Writer.header_data.Goals as goal

pub text-requires : goal.text-requires
text-requires c = name_room c.args.self.now c.args.f.now c.args.params.now.script c.args.params.now.part c.args.size c.unwrap_or.ensures c.requires.room

pub word-requires : goal.word-requires
word-requires c =
    rw c.width.ensures
    (count_room c.args.self.now c.args.f.now c.args.params.now.script c.args.params.now.part c.args.size c.unwrap_or.ensures c.requires.room c.text.ensures)

pub marks-requires : goal.marks-requires
marks-requires c =
    marks_room c.args.self.now c.args.f.now c.args.params.now.script c.args.params.now.part c.args.size c.unwrap_or.ensures c.requires.room c.text.ensures
    (rw c.width.ensures at c.word.ensures)

pub params-requires-clause-short : goal.params-requires-clause-short
params-requires-clause-short c = params_short c.args.self.now c.args.f.now c.args.params.now.script c.args.params.now.part c.args.size c.unwrap_or.ensures c.requires.short

pub params-requires-clause-room : goal.params-requires-clause-room
params-requires-clause-room c =
    params_room c.args.self.now c.args.f.now c.args.params.now.script c.args.params.now.part c.args.size c.unwrap_or.ensures c.requires.room c.text.ensures
    (rw c.width.ensures at c.word.ensures) c.marks.ensures

pub word-requires-2 : goal.word-requires-2
word-requires-2 c =
    size_room c.args.self.now c.args.f.now c.args.params.now.script c.args.params.now.part c.args.size c.unwrap_or.ensures c.requires.room c.text.ensures
    (rw c.width.ensures at c.word.ensures) c.marks.ensures c.params.ensures

pub returns : goal.returns
returns c =
    header_done c.args.self.now c.args.f.now c.args.params.now.script c.args.params.now.part c.args.size c.unwrap_or.ensures c.requires.room c.text.ensures
    (rw c.width.ensures at c.word.ensures) c.marks.ensures c.params.ensures c.word-2.ensures
