use Rattle.std.proofs.Common.{sym, subst}
use Rattle.lsm_readers.specs.Stored.{StoresList}
use Rattle.lsm_readers.specs.Verification.{Verifying}
use Rattle.sst_tool.proofs.show.checks.look_at.Goals as goal

pub returns-clause-complete : goal.returns-clause-complete
returns-clause-complete g c = λ es stores.
    c.look_on-looked.ensures.complete es
    (subst (λ (v : Verifying). StoresList v.table.bytes es) (sym c.in-Ok.ensures.ok) stores)

pub returns-clause-sound : goal.returns-clause-sound
returns-clause-sound g c = rw c.in-Ok.ensures.ok at c.look_on-looked.ensures.sound
