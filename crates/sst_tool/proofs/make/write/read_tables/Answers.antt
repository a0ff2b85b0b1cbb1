use Rattle.std.proofs.Common.{rules}
use Rattle.sst_tool.proofs.LineLemmas.{no_items}
use Rattle.sst_tool.proofs.Refusals.{none_spelled}
use Rattle.sst_tool.proofs.make.write.read_tables.Goals as goal

pub returns-then-is_empty-clause-refused : goal.returns-then-is_empty-clause-refused
returns-then-is_empty-clause-refused g c =
    let tables = c.in_ok-tables.tables in
    none_spelled c.args.options.now (g.I.Read.remaining c.args.input) tables.items c.in_ok-tables.entries (search rules)
    (no_items tables.items tables.len c.is_empty.result tables.ok.0 (search rules) c.if-is_empty.true)
