use Rattle.std.proofs.Common.{arith, sym}
use Rattle.sst_blocks.proofs.FnvLemmas.{fnv_from-more, fnv_from-none}
use Rattle.sst_blocks.proofs.fnv.Fnv1a.update.Goals as goal

pub loop-byte-init : goal.loop-byte-init
loop-byte-init c = sym (fnv_from-none c.args.self.now.0)

pub loop-byte-preserved : goal.loop-byte-preserved
loop-byte-preserved c = let more = fnv_from-more c.args.self.now.0 c.args.bytes.now c.loop-byte.byte-index (omega arith) in cc
