use Rattle.std.proofs.Common.{ap}
use Rattle.script_records.specs.declared.layout.ScriptFile.{ScriptFile}
use Rattle.resolver.proofs.Texts.{function_kids, function_done}
use Rattle.resolver.proofs.lists.Lists.function_data.Goals as goal

pub invariant_of-kids : goal.invariant_of-kids
invariant_of-kids c = record { within = function_kids c.args.self.now.ready _ c.requires c.row_at-row.ensures c.saturating_sub-n.ensures }

pub returns : goal.returns
returns c =
    let same = ap (λ (s : ScriptFile). s.bytes.now) c.list.ensures.script in
    function_done c.args.self.now.ready _ c.requires c.row_at-row.ensures c.saturating_sub-n.ensures c.list.ensures.list c.list.result.script same c.params_text-params.ensures.value c.from-f.ensures
    (rw (c.text.ensures.in_file c.args.self.now.ready.layout, c.unwrap_or.ensures) at c.with-all.ensures) c.beside_strings.ensures
