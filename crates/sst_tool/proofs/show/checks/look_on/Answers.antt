use Rattle.std.proofs.Common.{◌∙◌, sym, subst}
use Rattle.lsm_readers.specs.Stored.{StoresList}
use Rattle.lsm_readers.specs.point.Table.{OpenTable}
use Rattle.sst_tool.proofs.show.checks.look_on.Goals as goal

pub loop-blocks-preserved : goal.loop-blocks-preserved
loop-blocks-preserved g c = c.step.ensures.table ∙ c.loop-blocks.invariant

pub returns-in-Err-clause-complete : goal.returns-in-Err-clause-complete
returns-in-Err-clause-complete g c = λ es stores.
    c.in-Err.ensures.complete es
    (subst (λ (t : OpenTable). StoresList t.bytes es) (sym c.loop-blocks.invariant) stores)

pub returns-in-Ok-Some-clause-sound : goal.returns-in-Ok-Some-clause-sound
returns-in-Ok-Some-clause-sound g c =
    let sound = rw c.in-Ok-Some.field-0-is at c.in-Ok-Some.ensures.sound in
    (sound.0, subst (λ (t : OpenTable). StoresList t.bytes sound.0) c.loop-blocks.invariant sound.1)
