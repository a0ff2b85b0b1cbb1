use Rattle.std.proofs.Common.{◌≡◌, [], subst}
use Rattle.std.specs.Prelude.{MatchOption, Option}
use Rattle.std.specs.Global.{Global}
use Rattle.lsm_writers.specs.Writing.{IsFinished, written}
use Rattle.lsm_writers.specs.declared.writer.FinishedTable.{FinishedTable}
use Rattle.sst_c.proofs.Answering.{finish_unplaced}
use Rattle.sst_c.proofs.writers.finish_behind.Goals as goal

pub returns-in-Err-push-clause-returned : goal.returns-in-Err-push-clause-returned
returns-in-Err-push-clause-returned c =
    let w = c.args.writer in
    let finished = c.in-Ok-Some.ensures in
    let P : Option (FinishedTable Global) → Type 0 =
    λ o. MatchOption o (written w ≡ []) (λ f. IsFinished w f.id f.checksum.0 f.bytes) in
    finish_unplaced w finished.first (subst P c.in-Ok-Some.field-0-is finished.table).some
