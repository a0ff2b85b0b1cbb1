use Rattle.std.proofs.Common.{◌≡◌, take}
use Rattle.sst_blocks.specs.Fnv.{fnv_from}
use Rattle.sst_blocks.proofs.fnv.Fnv1a.update.Given as goal

abbrev pub invariant-loop-byte : goal.invariant-loop-byte
invariant-loop-byte l = l.hash ≡ fnv_from l.initial.hash (take l.byte-index l.bytes)
