use Rattle.std.proofs.Common.{◌∙◌, ℕ, List, false, subst}
use Rattle.std.specs.Prelude.{Err}
use Rattle.lsm_readers.specs.point.Parts.{recovered_result}
use Rattle.lsm_readers.specs.point.Table.{OpenTable}
use Rattle.sst_entries.specs.Error.{Gives}
use Rattle.sst.proofs.Files.{no_table, verified_faulty, verified_sound}
use Rattle.sst.proofs.show.verify_bytes.Goals as goal

pub returns-in-Ok-clause-sound : goal.returns-in-Ok-clause-sound
returns-in-Ok-clause-sound g c =
    verified_sound c.args.bytes c.in-Ok.table c.verify_opened.result
    (c.in-Ok.ensures.bytes ∙ c.in_ok-shared.ensures.cases) c.verify_opened.ensures.sound

pub returns-in-Ok-clause-faulty : goal.returns-in-Ok-clause-faulty
returns-in-Ok-clause-faulty g c =
    verified_faulty c.args.bytes c.in-Ok.table c.verify_opened.result
    (c.in-Ok.ensures.bytes ∙ c.in_ok-shared.ensures.cases) c.in-Ok.ensures.recovered
    c.verify_opened.ensures.complete

pub returns-clause-faulty : goal.returns-clause-faulty
returns-clause-faulty g c =
    no_table c.args.bytes c.in-Err.error c.print_unopened.result
    (subst (λ (bytes : List ℕ). Gives (λ (t : OpenTable). t.parts) (Err c.in-Err.error)
    (recovered_result bytes 0 false false)) c.in_ok-shared.ensures.cases c.in-Err.ensures.returned)
    c.print_unopened.ensures.memory
