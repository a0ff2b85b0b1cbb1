use Rattle.std.proofs.Common.{◌∙◌, ap, length-append, rules, ◌+◌, [], ◌∷◌}
use Rattle.sst_tool.specs.files.Files.{path_text}
use Rattle.sst_tool.specs.files.Numbered.{numbered_path}
use Rattle.sst_tool.proofs.FilesMore.{files_more}
use Rattle.sst_tool.proofs.files.numbered.table_files.Goals as goal

pub loop-table-preserved : goal.loop-table-preserved
loop-table-preserved g c =
    let wanted = c.loop-table.wanted.items in
    rw c.in_ok-push.ensures.items record {
      many = length-append wanted (_ ∷ []) ∙ ap (λ n. n + 1) c.loop-table.invariant.many;
      returned = files_more (λ table. table.bytes) (numbered_path c.args.name) c.args.tables.now c.loop-table.table-index c.table-item.result wanted _ c.saturating_add-number.result c.loop-table-test.true c.table-item.is c.loop-table.invariant.returned (search rules) (ap path_text c.with_number.ensures) c.as_slice.ensures;
    }
