use Rattle.std.proofs.Common.{arith}
use Rattle.sst.specs.Verified.{HaveFaulty, IsSoundFile}
use Rattle.sst.proofs.Files.{all_so_far, faulty_so_far, so_far}
use Rattle.sst.proofs.show.verify_each.Goals as goal

pub loop-name-preserved : goal.loop-name-preserved
loop-name-preserved g c =
    let content = g.P.Place.content c.args.place.now in
    let before = c.loop-name.invariant in
    let found = c.in_ok-found.ensures in (
      λ none. all_so_far (λ name. IsSoundFile (content name.now)) c.args.names.now
          c.loop-name.name-index _ c.loop-name-test.true
          (before.0 (omega (arith, none, c.saturating_add-faults.ensures)))
          (found.sound (omega (arith, none, c.saturating_add-faults.ensures))),
      faulty_so_far content c.args.names.now c.loop-name.name-index _ c.loop-name.faults
          c.in_ok-found.found c.saturating_add-faults.result c.loop-name-test.true
          c.saturating_add-faults.ensures before.1 found.faulty,
    )

pub returns-in-Err-clause-faulty : goal.returns-in-Err-clause-faulty
returns-in-Err-clause-faulty g c =
    let content = g.P.Place.content c.args.place.now in
    so_far (HaveFaulty content c.args.names.now) c.saturating_add-faults.result
    c.faults_so_far.result c.faults_so_far.ensures.some
    (faulty_so_far content c.args.names.now c.loop-name.name-index _ c.loop-name.faults
    c.in_ok-found.found c.saturating_add-faults.result c.loop-name-test.true
    c.saturating_add-faults.ensures c.loop-name.invariant.1 c.in_ok-found.ensures.faulty)
