use Rattle.script_records.specs.declared.layout.ScriptFile.{ScriptFile}
use Rattle.action_format.specs.Bytes.{word, zero_ended}
use Rattle.slice_words.specs.References.{text_at}
use Rattle.byte_writer.specs.Writer.{Writes}
use Rattle.byte_writer.proofs.Params.{register_data, param_parts}
use Rattle.byte_writer.proofs.Writes.{writes_none, writes_next, has_first, has_next}
use Rattle.byte_writer.proofs.Writer.param.Goals as goal
use Rattle.byte_writer.proofs.Writer.param.Goals.{then-wide, else-wide}

pub word-requires : goal.word-requires
word-requires c =
    let s = c.args.self.now.script in
    has_first c.args.self.now (word 1 c.from-param.result.register) (zero_ended (text_at s.bytes.now s.layout c.from-param.result.name))
    (rw (param_parts _ _ c.requires.layout c.requires.short c.args.root c.args.wide c.from-param.ensures, c.if-wide.true) at c.requires.room)

pub text-requires : goal.text-requires
text-requires c =
    let r : Writes c.args.self.now (register_data c.args.wide c.from-param.result) c.if-wide.self =
    elim c.if-wide.branch [ then-wide w ↦ rw (w.self-is, w.if-wide.true) w.word.ensures | else-wide w ↦ rw (w.self-is, w.if-wide.false) (writes_none c.args.self.now) ] in
    has_next (λ (s : ScriptFile). zero_ended (text_at s.bytes.now s.layout c.from-param.result.name)) r
    (rw (param_parts _ _ c.requires.layout c.requires.short c.args.root c.args.wide c.from-param.ensures) at c.requires.room)

pub returns : goal.returns
returns c =
    let r : Writes c.args.self.now (register_data c.args.wide c.from-param.result) c.if-wide.self =
    elim c.if-wide.branch [ then-wide w ↦ rw (w.self-is, w.if-wide.true) w.word.ensures | else-wide w ↦ rw (w.self-is, w.if-wide.false) (writes_none c.args.self.now) ] in
    rw (param_parts _ _ c.requires.layout c.requires.short c.args.root c.args.wide c.from-param.ensures)
    (writes_next (λ (s : ScriptFile). zero_ended (text_at s.bytes.now s.layout c.from-param.result.name)) r c.text.ensures)
