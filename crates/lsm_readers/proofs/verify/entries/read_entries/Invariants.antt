use Rattle.std.proofs.Common.{◌≡◌, drop}
use Rattle.sst_blocks.specs.Sections.{body_of}
use Rattle.lsm_readers.specs.point.Table.{parts_of}
use Rattle.lsm_readers.specs.Verify.{entries_found}
use Rattle.lsm_readers.proofs.verify.entries.read_entries.Given as goal

-- what is found in all entries is found in those that are left
abbrev pub invariant-loop-index : goal.invariant-loop-index
invariant-loop-index g l =
    let found = entries_found (body_of l.source) (parts_of l.inner) l.at in
    found l.left (drop l.index l.block) ≡ found l.initial.left l.block
