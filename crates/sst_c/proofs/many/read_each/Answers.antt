use Rattle.std.proofs.Common.{Ok}
use Rattle.std.specs.Prelude.{map}
use Rattle.lsm_readers.specs.Words.{lift, point}
use Rattle.lsm_readers.specs.point.Many.{many_results}
use Rattle.sst_c.specs.Many.{keys_cut, queries_for}
use Rattle.sst_c.proofs.many.read_each.Goals as goal

pub returns-clause-returned : goal.returns-clause-returned
returns-clause-returned c =
    let a = c.args in
    record {
      returned = c.keep_found.ensures.returned
          (many_results a.table.now (queries_for a.keys.now a.lens.now a.seqno))
          c.found_of-found.ensures.returned;
      list = λ es stores. c.keep_found.ensures.returned
          (Ok (map (λ k. point (lift es a.table.now.global_seqno) k a.seqno) (keys_cut a.lens.now a.keys.now)))
          (c.found_of-found.ensures.list es stores);
    }
