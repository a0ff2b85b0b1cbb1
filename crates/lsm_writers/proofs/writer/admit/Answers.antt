use Rattle.std.proofs.Common.{◌∙◌, sym}
use Rattle.sst_entries.proofs.Refusals.{faults_memory}
use Rattle.lsm_writers.proofs.Refused.{none_some}
use Rattle.lsm_writers.proofs.writer.admit.Goals as goal

pub returns-in_err-tally-clause-refused : goal.returns-in_err-tally-clause-refused
returns-in_err-tally-clause-refused g c = faults_memory c.from_residual-in_err-tally.result c.in_err-tally.field-0.0 _ c.from_residual-in_err-tally.ensures.1 c.in_err-tally.ensures.err

pub returns-in_err-tally-clause-first : goal.returns-in_err-tally-clause-first
returns-in_err-tally-clause-first g c =
    λ x returned. absurd (none_some x (sym c.in_ok-check_room.ensures ∙ returned))

pub returns-in_err-register_key-clause-refused : goal.returns-in_err-register_key-clause-refused
returns-in_err-register_key-clause-refused g c = faults_memory c.from_residual-in_err-register_key.result c.in_err-register_key.field-0.0 _ c.from_residual-in_err-register_key.ensures.1 c.in_err-register_key.ensures.err

pub returns-in_err-register_key-clause-first : goal.returns-in_err-register_key-clause-first
returns-in_err-register_key-clause-first g c =
    λ x returned. absurd (none_some x (sym c.in_ok-check_room.ensures ∙ returned))

pub returns-clause-refused : goal.returns-clause-refused
returns-clause-refused g c = c.in_ok-check_room.ensures

pub returns-clause-first : goal.returns-clause-first
returns-clause-first g c =
    λ x returned. absurd (none_some x (sym c.in_ok-check_room.ensures ∙ returned))
