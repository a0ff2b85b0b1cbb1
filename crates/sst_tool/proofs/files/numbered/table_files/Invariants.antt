use Rattle.std.proofs.Common.{◌≡◌, length, take}
use Rattle.std.specs.Prelude.{map}
use Rattle.sst_tool.specs.files.Numbered.{named_bytes, numbered_files, numbered_path}
use Rattle.sst_tool.proofs.files.numbered.table_files.Given as goal

abbrev pub invariant-loop-table : goal.invariant-loop-table
invariant-loop-table g l = record {
  many : length l.wanted.items ≡ l.table-index;
  returned : map named_bytes l.wanted.items
      ≡ numbered_files (numbered_path l.fn.name) 1
      (map (λ table. table.bytes) (take l.table-index l.tables));
}
