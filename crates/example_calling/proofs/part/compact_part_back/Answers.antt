use Rattle.std.specs.Prelude.{◌≡◌}
use Rattle.sst_entries.specs.declared.error.Error.{Error}
use Rattle.sst_entries.specs.declared.error.Error.TheVariants.{OutOfMemory}
use Rattle.lsm_runs.specs.compaction.Chain.{tables_fault}
use Rattle.lsm_runs.specs.compaction.Compacted.{kept_in}
use Rattle.lsm_runs.proofs.OneList.{beside_ok}
use Rattle.example_calling.proofs.Beside.{beside_errs, beside_faults, beside_former, beside_later}
use Rattle.example_calling.proofs.Beside.{beside_tied}
use Rattle.example_calling.proofs.PartRuns.{alike}
use Rattle.example_calling.proofs.part.compact_part_back.Goals as goal

pub returns-clause-refused : goal.returns-clause-refused
returns-clause-refused g c fs ps bs h =
    let a = c.args in
    let left = kept_in a.rules ps in
    beside_faults c.in_ok-before.before (tables_fault a.ids a.target_size a.created_at left) c.read_compacted-after.result c.beside.result c.beside.ensures.both (c.read_compacted-after.ensures.refused fs ps bs h)

pub returns-clause-taken : goal.returns-clause-taken
returns-clause-taken g c fs ps bs h fits =
    beside_errs c.in_ok-before.before (λ (e : Error). e ≡ OutOfMemory) c.read_compacted-after.result c.beside.result c.beside.ensures.both (c.read_compacted-after.ensures.taken fs ps bs h fits)

pub returns-clause-before : goal.returns-clause-before
returns-clause-before g c fs ps bs h =
    beside_former c.in_ok-before.before _ c.read_compacted-after.result c.beside.result c.beside.ensures.both
    (c.in_ok-before.ensures.list fs ps bs h)

pub returns-clause-after : goal.returns-clause-after
returns-clause-after g c fs ps bs h =
    beside_later c.in_ok-before.before _ c.read_compacted-after.result c.beside.result c.beside.ensures.both (c.read_compacted-after.ensures.list fs ps bs h)

pub returns-clause-alike : goal.returns-clause-alike
returns-clause-alike g c fs ps bs h strict safe =
    let a = c.args in
    let law = c.compaction_law.ensures in
    let before = c.in_ok-before.ensures.list fs ps bs h in
    beside_tied c.in_ok-before.before _ _ c.read_compacted-after.result c.beside.result c.beside.ensures.both
    (λ after kept. alike _ _ a.key.now a.seqno a.range.0 a.range.1 a.rules fs ps bs law.points law.ranges law.side_by_side c.in_ok-before.before after before kept strict safe)
    (c.read_compacted-after.ensures.list fs ps bs h)

pub returns-clause-can : goal.returns-clause-can
returns-clause-can g c =
    beside_ok _ _ c.in_ok-before.before c.read_compacted-after.result c.beside.result c.beside.ensures.both c.in_ok-before.ensures.can c.read_compacted-after.ensures.can
