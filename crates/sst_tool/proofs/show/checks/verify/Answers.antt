use Rattle.std.proofs.Common.{◌≡◌}
use Rattle.lsm_readers.specs.declared.verify.VerifyError.TheVariants.{Found}
use Rattle.sst_tool.proofs.Findings.{not_memory}
use Rattle.sst_tool.proofs.show.checks.verify.Goals as goal

pub returns-in-Err-Found-clause-complete : goal.returns-in-Err-Found-clause-complete
returns-in-Err-Found-clause-complete g c = λ sound.
    let found : c.in-Err-Found.field-0 ≡ Found c.in-Err-Found.finding
    = rw c.in-Err-Found.is at c.in-Err-Found.field-0-is in
    absurd (not_memory c.look_at-looked.result.verdict c.in-Err-Found.field-0 c.in-Err-Found.finding
    c.in-Err-Found.is found (c.look_at-looked.ensures.complete sound.0 sound.1))
