use Rattle.std.proofs.Common.{subst}
use Rattle.lsm_readers.specs.Words.{OpenTable}
use Rattle.sst_c.specs.Many.{AnswersKeys, many_kept}
use Rattle.sst_c.proofs.Verifying.{same_table}
use Rattle.sst_c.proofs.many.get_each.Goals as goal

pub returns-clause-returned : goal.returns-clause-returned
returns-clause-returned c =
    let a = c.args in
    let n = c.read_each.new in
    let P : OpenTable → Type 0 = λ u. AnswersKeys u a.keys.now a.lens.now a.seqno c.read_each.result
    (many_kept n.answers.boxed.value) a.entries.now n.entries in
    record {
      answers = λ t same sum room.
          subst P (same_table a.held.now.what c.in-Table.table t c.in-Table.is same) c.read_each.ensures.returned;
    }
