use Rattle.sst_c.specs.Reported.{found_by}
use Rattle.sst_c.proofs.Bulk.{merged_many, range_many}
use Rattle.sst_c.proofs.ranges.take.Goals as goal

-- the bulk read of the handle is one of its range
pub returns-clause-takes : goal.returns-clause-takes
returns-clause-takes c =
    let a = c.args in
    let n = c.take_held.new in
    record {
      reads = λ s same. range_many _ _ _ a.back a.held.now.what n.held.what s a.entries.now n.entries a.bytes.now
          n.bytes n.count c.take_held.result (found_by n.held) same c.take_held.ensures;
      merged = λ m same. merged_many _ _ _ a.back a.held.now.what n.held.what m a.entries.now n.entries
          a.bytes.now n.bytes n.count c.take_held.result (found_by n.held) same c.take_held.ensures;
    }
