use Rattle.std.proofs.Common.{sym, ◌∙◌}
use Rattle.lsm_run_parts.specs.RunParts.{span_of}
use Rattle.lsm_run_parts.proofs.Opens.{reads_end, reads_whole}
use Rattle.lsm_run_parts.proofs.unopened.reader_at.Goals as goal

pub returns-in_ok-share-2-clause-ok : goal.returns-in_ok-share-2-clause-ok
returns-in_ok-share-2-clause-ok g c =
    reads_end (span_of c.args.ends c.args.range.now.0 c.args.range.now.1) c.args.tables.now c.args.place c.index-tables-place.result c.requires c.index-tables-place.is c.range.result
    (sym c.is_end.ensures ∙ c.if-is_end.true) _ _ c.in_ok-share.ensures c.in_ok-share-2.ensures c.range.ensures.is

pub returns-else-is_end-clause-ok : goal.returns-else-is_end-clause-ok
returns-else-is_end-clause-ok g c =
    reads_whole (span_of c.args.ends c.args.range.now.0 c.args.range.now.1) c.args.tables.now c.args.place c.index-tables-place.result c.requires c.index-tables-place.is c.iter.result
    (sym c.is_end.ensures ∙ c.if-is_end.false) c.iter.ensures.is
