use Rattle.std.proofs.Common.{◌≡◌, ◌≤◌, length}
use Rattle.sst_c.proofs.Taking.{IsTaking}
use Rattle.sst_c.proofs.takes.take_from.Given as goal

abbrev pub invariant-loop-place : goal.invariant-loop-place
invariant-loop-place g l = record {
  taking : IsTaking (g.R.Reads.reads l.back) l.fn.source l.fn.entries l.entries l.fn.bytes
      l.bytes l.place l.at l.source;
  room : l.at ≤ length l.bytes;
  same : length l.bytes ≡ length l.fn.bytes;
}
