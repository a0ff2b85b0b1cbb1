use Rattle.std.proofs.Common.{◌∙◌, inl, refl, sym, subst, Bool}
use Rattle.sst_entries.specs.declared.error.Error.{Error}
use Rattle.sst_entries.specs.Lending.{entry_of_ref}
use Rattle.sst_entries.specs.Stream.{nowhere}
use Rattle.sst_entries.proofs.StreamLemmas.{can_front, can_now}
use Rattle.lsm_runs.specs.compaction.Filtered.{RefusesWritten}
use Rattle.lsm_runs.specs.compaction.Observed.{NotifiesNext}
use Rattle.lsm_runs.proofs.AnyTaken.{taking_more}
use Rattle.lsm_runs.proofs.FilteredCame.{err_passed}
use Rattle.lsm_runs.proofs.Observing.{cut_so_more, CutSoFar, failed_entry, failed_result, gave_more}
use Rattle.lsm_runs.proofs.Observing.{observing_more, observing_none, refused_so, reported_of_part}
use Rattle.lsm_runs.proofs.Observing.{reported_stopped}
use Rattle.lsm_runs.proofs.TookList.{took_list, took_more, took_none}
use Rattle.lsm_runs.proofs.WritesOn.{lent_next, lent_over}
use Rattle.lsm_runs.proofs.WrittenBy.{Since, nothing_yet, since_more}
use Rattle.lsm_runs.proofs.compaction.any_runs.write_while_observed.Goals as goal

pub loop-source-init : goal.loop-source-init
loop-source-init g c =
    let w = c.args.writer.now in
    record {
      can = c.requires.can;
      observing = observing_none g.L.Lending.advances g.O.CompactionObserver.says w c.args.source.now c.args.observer.now c.requires.fresh;
      took = took_none w (nothing_yet w c.requires.fresh);
    }

pub advance-requires : goal.advance-requires
advance-requires g c = can_now g.L.Lending.advances nowhere g.L.Lending.can_advance g.L.Lending.can_advance c.loop-source.source c.loop-source.invariant.can

pub returns-in_err-advance-clause-refused : goal.returns-in_err-advance-clause-refused
returns-in_err-advance-clause-refused g c =
    let next = g.L.Lending.advances in
    let says = g.O.CompactionObserver.says in
    let l = c.loop-source in
    let f = c.in_err-advance.field-0.0 in
    err_passed (λ (e : Error). RefusesWritten next c.args.writer.now c.args.source.now says c.args.observer.now e l.observer) c.from_residual.result f c.from_residual.ensures.1
    (refused_so next says c.args.writer.now c.args.source.now c.args.observer.now l.writer l.source l.source l.progress l.observer l.invariant.observing c.requires.fresh f
    (λ fine. inl (failed_result next says c.args.writer.now c.args.source.now c.args.observer.now l.writer l.source c.advance.new.self l.progress l.observer l.invariant.observing f fine c.in_err-advance.ensures.goes)))

pub returns-then-not-can_follow_ref-clause-took : goal.returns-then-not-can_follow_ref-clause-took
returns-then-not-can_follow_ref-clause-took g c = took_list c.args.writer.now c.loop-source.writer _ c.loop-source.invariant.observing.taking c.loop-source.invariant.took refl

pub returns-then-not-can_follow_ref-clause-wrote : goal.returns-then-not-can_follow_ref-clause-wrote
returns-then-not-can_follow_ref-clause-wrote g c =
    let next = g.L.Lending.advances in
    let says = g.O.CompactionObserver.says in
    let l = c.loop-source in
    let step = lent_next next _ _ _ c.in_ok-advance.field-0 _ c.in-Some.ensures c.in_ok-advance.ensures.goes in
    record {
      led = l.source;
      gave = l.invariant.observing.gave;
      ends = (entry_of_ref c.in-Some.entry, step, sym c.can_follow_ref.ensures ∙ c.if-not-can_follow_ref.true);
      returned = reported_of_part next says c.args.writer.now c.args.source.now c.args.observer.now l.writer l.source l.source l.progress l.observer l.invariant.observing c.requires.fresh;
    }

pub returns-in_err-goes_on-clause-refused : goal.returns-in_err-goes_on-clause-refused
returns-in_err-goes_on-clause-refused g c =
    let next = g.L.Lending.advances in
    let says = g.O.CompactionObserver.says in
    let l = c.loop-source in
    let step = lent_next next _ _ _ c.in_ok-advance.field-0 _ c.in-Some.ensures c.in_ok-advance.ensures.goes in
    let f = c.in_err-goes_on.field-0.0 in
    err_passed (λ (e : Error). RefusesWritten next c.args.writer.now c.args.source.now says c.args.observer.now e c.write_and_tell.new.observer) c.from_residual-in_err-goes_on.result f c.from_residual-in_err-goes_on.ensures.1
    (subst (λ q. RefusesWritten next c.args.writer.now c.args.source.now says c.args.observer.now f q) (sym c.in_err-goes_on.ensures.still)
    (refused_so next says c.args.writer.now c.args.source.now c.args.observer.now l.writer l.source l.source l.progress l.observer l.invariant.observing c.requires.fresh f
    (λ fine. inl (failed_entry next says c.args.writer.now c.args.source.now c.args.observer.now l.writer l.source c.advance.new.self l.progress l.observer l.invariant.observing (entry_of_ref c.in-Some.entry) l.invariant.took (sym c.can_follow_ref.ensures ∙ c.if-not-can_follow_ref.false) step f (c.in_err-goes_on.ensures.refused fine)))))

pub returns-then-not-goes_on-clause-took : goal.returns-then-not-goes_on-clause-took
returns-then-not-goes_on-clause-took g c =
    let l = c.loop-source in
    let n = c.write_and_tell.new.writer in
    let o = c.in_ok-goes_on.ensures in
    let may = sym c.can_follow_ref.ensures ∙ c.if-not-can_follow_ref.false in
    took_list c.args.writer.now n _ (taking_more c.args.writer.now l.writer n (entry_of_ref c.in-Some.entry) l.invariant.observing.taking o.ok o.refused o.listed may)
    (took_more c.args.writer.now l.writer n (entry_of_ref c.in-Some.entry) l.invariant.took o.ok o.listed) refl

pub returns-then-not-goes_on-clause-wrote : goal.returns-then-not-goes_on-clause-wrote
returns-then-not-goes_on-clause-wrote g c =
    let next = g.L.Lending.advances in
    let says = g.O.CompactionObserver.says in
    let l = c.loop-source in
    let step = lent_next next _ _ _ c.in_ok-advance.field-0 _ c.in-Some.ensures c.in_ok-advance.ensures.goes in
    let n = c.write_and_tell.new.writer in
    let o = c.in_ok-goes_on.ensures in
    let h = l.invariant.observing in
    let e = entry_of_ref c.in-Some.entry in
    record {
      led = c.advance.new.self;
      gave = gave_more next says c.args.writer.now c.args.source.now c.args.observer.now l.writer l.source c.advance.new.self l.progress l.observer h e n o.listed step;
      ends = refl;
      returned = reported_stopped next says c.args.writer.now c.args.source.now c.args.observer.now l.writer l.source l.source l.progress l.observer h c.requires.fresh e n c.write_and_tell.new.observer o.ok
          (subst (Since c.args.writer.now) (sym o.ok) (since_more c.args.writer.now l.writer c.requires.fresh e h.since o.refused))
          (subst CutSoFar (sym o.ok) (cut_so_more l.writer e h.cut))
          (subst (λ (b : Bool). NotifiesNext says l.writer n l.observer b c.write_and_tell.new.observer) c.if-not-goes_on.true (o.returned h.counted h.cut.begun));
    }

pub loop-source-preserved-else-not-goes_on : goal.loop-source-preserved-else-not-goes_on
loop-source-preserved-else-not-goes_on g c =
    let next = g.L.Lending.advances in
    let says = g.O.CompactionObserver.says in
    let l = c.loop-source in
    let step = lent_next next _ _ _ c.in_ok-advance.field-0 _ c.in-Some.ensures c.in_ok-advance.ensures.goes in
    let n = c.write_and_tell.new.writer in
    let o = c.in_ok-goes_on.ensures in
    let h = l.invariant.observing in
    let e = entry_of_ref c.in-Some.entry in
    record {
      can = can_front next nowhere g.L.Lending.can_advance g.L.Lending.can_advance l.source _ c.advance.new.self l.invariant.can c.in_ok-advance.ensures.goes;
      observing = observing_more next says c.args.writer.now c.args.source.now c.args.observer.now l.writer n l.source c.advance.new.self l.progress c.write_and_tell.new.progress l.observer c.write_and_tell.new.observer e c.requires.fresh h step o.ok o.refused o.listed
          (sym c.can_follow_ref.ensures ∙ c.if-not-can_follow_ref.false)
          (o.counts h.counted h.cut.begun)
          (subst (λ (b : Bool). NotifiesNext says l.writer n l.observer b c.write_and_tell.new.observer) c.if-not-goes_on.false (o.returned h.counted h.cut.begun));
      took = took_more c.args.writer.now l.writer n e l.invariant.took o.ok o.listed;
    }

pub returns-clause-took : goal.returns-clause-took
returns-clause-took g c = took_list c.args.writer.now c.loop-source.writer _ c.loop-source.invariant.observing.taking c.loop-source.invariant.took refl

pub returns-clause-wrote : goal.returns-clause-wrote
returns-clause-wrote g c =
    let next = g.L.Lending.advances in
    let says = g.O.CompactionObserver.says in
    let l = c.loop-source in
    record {
      led = l.source;
      gave = l.invariant.observing.gave;
      ends = lent_over next _ _ _ _ c.if-branch.false c.in_ok-advance.ensures.more c.in_ok-advance.ensures.goes;
      returned = reported_of_part next says c.args.writer.now c.args.source.now c.args.observer.now l.writer l.source l.source l.progress l.observer l.invariant.observing c.requires.fresh;
    }
