use Rattle.std.proofs.Common.{◌≡◌, true, false, rules}
use Rattle.std.specs.Option.{option_map}
use Rattle.sst_blocks.specs.Handles.{end_of}
use Rattle.sst_entries.specs.Strict.{may_follow}
use Rattle.sst_blocks.proofs.StrictHandles.{one_more, one_fails, at_end, test_means}
use Rattle.sst_blocks.proofs.handle.are_strict_handles.Goals as goal

pub loop-handle-preserved : goal.loop-handle-preserved
loop-handle-preserved g c =
    let follows : may_follow (option_map (λ h. end_of h.now) c.loop-handle.last) (end_of c.handle-item.result) ≡ true = search rules in
    one_more _ _ _ _ _ c.loop-handle-test.true c.handle-item.is follows c.loop-handle.invariant

pub returns-then-not-may_follow-clause-test : goal.returns-then-not-may_follow-clause-test
returns-then-not-may_follow-clause-test g c =
    let fails : may_follow (option_map (λ h. end_of h.now) c.loop-handle.last) (end_of c.handle-item.result) ≡ false = search rules in
    one_fails _ _ _ _ _ c.loop-handle-test.true c.handle-item.is fails c.loop-handle.invariant

pub returns-then-not-may_follow-clause-means : goal.returns-then-not-may_follow-clause-means
returns-then-not-may_follow-clause-means g c =
    let fails : may_follow (option_map (λ h. end_of h.now) c.loop-handle.last) (end_of c.handle-item.result) ≡ false = search rules in
    test_means false c.args.handles.now (one_fails _ _ _ _ _ c.loop-handle-test.true c.handle-item.is fails c.loop-handle.invariant)

pub returns-clause-test : goal.returns-clause-test
returns-clause-test g c = at_end _ _ _ _ c.loop-handle-test.false c.loop-handle.invariant

pub returns-clause-means : goal.returns-clause-means
returns-clause-means g c = test_means true c.args.handles.now (at_end _ _ _ _ c.loop-handle-test.false c.loop-handle.invariant)
