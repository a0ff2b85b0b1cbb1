-- The handles so far are shared.
use Rattle.std.proofs.Common.{◌≡◌, take}
use Rattle.lsm_writers.specs.section.Kept.{handles_among}
use Rattle.lsm_writers.proofs.section.kept.shared_handles.Given as goal

abbrev pub invariant-loop-place : goal.invariant-loop-place
invariant-loop-place g l = l.handles.items ≡ handles_among l.keys (take l.place-index l.places)
