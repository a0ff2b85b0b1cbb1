use Rattle.std.proofs.Common.{◌≡◌, ◌≤◌, length}
use Rattle.std.specs.Prelude.{drop, take}
use Rattle.std.specs.List.{flat_map}
use Rattle.sst_c.specs.Copies.{laid_over}
use Rattle.sst_c.specs.Takes.{bytes_found}
use Rattle.sst_c.proofs.answers.lay_each.Given as goal

abbrev pub invariant-loop-place : goal.invariant-loop-place
invariant-loop-place l = record {
  copies : l.bytes ≡ laid_over (flat_map bytes_found (take l.place (drop l.first l.found))) l.fn.bytes;
  filled : l.at ≡ length (flat_map bytes_found (take l.place (drop l.first l.found)));
  room : l.at ≤ length l.bytes;
  same : length l.bytes ≡ length l.fn.bytes;
}
