use Rattle.std.proofs.Common.{length}
use Rattle.sst_blocks.proofs.LoadLemmas.{load_kind}
use Rattle.lsm_readers.proofs.Loads.{load_size}
use Rattle.lsm_files.proofs.ahead.decoded.Goals as goal

pub returns-clause-kind : goal.returns-clause-kind
returns-clause-kind g c = load_kind c.args.bytes 0 (length c.args.bytes) c.args.kind c.in_ok-decode.field-0 c.in_ok-decode.ensures.returned

pub returns-clause-size : goal.returns-clause-size
returns-clause-size g c = load_size c.args.bytes 0 (length c.args.bytes) c.args.kind c.in_ok-decode.field-0 c.in_ok-decode.ensures.returned
