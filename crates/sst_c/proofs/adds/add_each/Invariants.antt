use Rattle.std.proofs.Common.{◌≡◌, ◌+◌, length}
use Rattle.std.specs.Prelude.{take, drop, map}
use Rattle.std.specs.List.{sum}
use Rattle.sst_c.specs.Adds.{AddsAll, rows_of_reports, reported_size}
use Rattle.sst_c.proofs.adds.add_each.Given as goal

abbrev pub invariant-loop-place : goal.invariant-loop-place
invariant-loop-place l = record {
  added : AddsAll l.fn.writer (take l.place (rows_of_reports l.entries l.bytes)) l.writer;
  rest : drop l.place (rows_of_reports l.entries l.bytes) ≡ rows_of_reports (drop l.place l.entries) (drop l.at l.bytes);
  bytes : l.at + sum (map reported_size (drop l.place l.entries)) ≡ length l.bytes;
}
