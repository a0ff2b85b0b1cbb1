use Rattle.std.proofs.Common.{◌+◌, ◌∙◌, ap, arith, sym}
use Rattle.std.specs.Arc.{arc_value}
use Rattle.lsm_run_parts.specs.RunParts.{span_of}
use Rattle.lsm_run_parts.specs.Tables.{none_unopened}
use Rattle.lsm_run_parts.proofs.Opens.{opens_at, refused_at}
use Rattle.lsm_run_parts.proofs.unopened.UnopenedParts.load.Goals as goal

pub returns-in-Ok-clause-gives : goal.returns-in-Ok-clause-gives
returns-in-Ok-clause-gives g c =
    let i = c.self.inside in
    rw (← c.self.view_is) (opens_at (span_of i.ends i.range.0 i.range.1) (arc_value i.run) i.lo i.hi (omega arith) (omega arith) c.args.at i.opened c.place_at_end-place.result c.in-Ok.reader (i.opened + 1) c.place_at_end-place.ensures.is (omega arith) (λ t at. c.in-Ok.ensures.ok t (rw (c.as_slice.ensures, c.deref.ensures) at)))

pub returns-in-Err-clause-gives : goal.returns-in-Err-clause-gives
returns-in-Err-clause-gives g c =
    let i = c.self.inside in
    rw (← c.self.view_is) (refused_at (span_of i.ends i.range.0 i.range.1) (arc_value i.run) i.lo i.hi (omega arith) (omega arith) g.row.A.Denot c.args.at i.opened c.in-Err.refusal c.end.new.self c.in-Err.ensures.err (c.end.ensures.kept ∙ ap none_unopened (sym c.self.view_is)))
