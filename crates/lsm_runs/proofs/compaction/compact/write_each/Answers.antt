use Rattle.sst_entries.specs.Lending.{entry_of_ref}
use Rattle.sst_entries.specs.Stream.{nowhere}
use Rattle.sst_entries.proofs.StreamLemmas.{can_front, can_now}
use Rattle.lsm_runs.proofs.AnyTaken.{taking_more, taking_none}
use Rattle.lsm_runs.proofs.TookList.{err_fault, took_list, took_more, took_none}
use Rattle.lsm_runs.proofs.WritesOn.{all_taken, yields_fine, lent_next, lent_over, may_follow_on}
use Rattle.lsm_runs.proofs.WritesOn.{nothing_written_yet, refused_one, writes_more}
use Rattle.lsm_runs.proofs.WrittenBy.{nothing_yet}
use Rattle.lsm_runs.proofs.compaction.compact.write_each.Goals as goal

pub loop-source-init : goal.loop-source-init
loop-source-init g c =
    let w = c.args.writer.now in
    let none = nothing_yet w c.requires.fresh in
    record {
      can = c.requires.can;
      taking = taking_none w none;
      took = took_none w none;
      writes = λ d. nothing_written_yet g.L.Lending.advances w d.list c.args.source.now none d.yields;
    }

pub advance-requires : goal.advance-requires
advance-requires g c = can_now g.L.Lending.advances nowhere g.L.Lending.can_advance g.L.Lending.can_advance c.loop-source.source c.loop-source.invariant.can

pub returns-in_err-advance-clause-refused : goal.returns-in_err-advance-clause-refused
returns-in_err-advance-clause-refused g c d =
    let next = g.L.Lending.advances in
    let f = c.in_err-advance.field-0.0 in
    let on = c.loop-source.invariant.writes d in
    err_fault c.from_residual.result f _ c.from_residual.ensures.1
    (λ fine. absurd (yields_fine next on.rest c.loop-source.source c.advance.new.self f on.yields c.in_err-advance.ensures.goes fine))

pub write_ref-requires : goal.write_ref-requires
write_ref-requires g c =
    let next = g.L.Lending.advances in
    let d = c.requires.yields in
    let step = lent_next next _ _ _ c.in_ok-advance.field-0 _ c.in-Some.ensures c.in_ok-advance.ensures.goes in
    may_follow_on next c.args.writer.now d.list c.loop-source.writer c.loop-source.source c.advance.new.self (entry_of_ref c.in-Some.entry) (c.loop-source.invariant.writes d) step d.writable

pub loop-source-preserved-in-Continue-branch-2 : goal.loop-source-preserved-in-Continue-branch-2
loop-source-preserved-in-Continue-branch-2 g c =
    let next = g.L.Lending.advances in
    let w = c.args.writer.now in
    let l = c.loop-source in
    let m = l.writer in
    let n = c.write_ref.new.self in
    let e = entry_of_ref c.in-Some.entry in
    let d = c.requires.yields in
    let step = lent_next next _ _ _ c.in_ok-advance.field-0 _ c.in-Some.ensures c.in_ok-advance.ensures.goes in
    let o = c.in_ok-write_ref.ensures in
    record {
      can = can_front next nowhere g.L.Lending.can_advance g.L.Lending.can_advance l.source _ c.advance.new.self l.invariant.can c.in_ok-advance.ensures.goes;
      taking = taking_more w m n e l.invariant.taking o.ok o.refused o.listed (may_follow_on next w d.list m l.source c.advance.new.self e (l.invariant.writes d) step d.writable);
      took = took_more w m n e l.invariant.took o.ok o.listed;
      writes = λ d. writes_more next w d.list m l.source c.advance.new.self e (l.invariant.writes d) step n o.ok o.refused o.listed;
    }

pub returns-in_err-write_ref-clause-refused : goal.returns-in_err-write_ref-clause-refused
returns-in_err-write_ref-clause-refused g c d =
    let next = g.L.Lending.advances in
    let w = c.args.writer.now in
    let step = lent_next next _ _ _ c.in_ok-advance.field-0 _ c.in-Some.ensures c.in_ok-advance.ensures.goes in
    let f = c.in_err-write_ref.field-0.0 in
    err_fault c.from_residual-in_err-write_ref.result f _ c.from_residual-in_err-write_ref.ensures.1
    (λ fine. refused_one next w d.list c.loop-source.writer c.loop-source.source c.advance.new.self (entry_of_ref c.in-Some.entry) (c.loop-source.invariant.writes d) step f (c.in_err-write_ref.ensures.refused fine))

pub returns-clause-took : goal.returns-clause-took
returns-clause-took g c d =
    let next = g.L.Lending.advances in
    let w = c.args.writer.now in
    let l = c.loop-source in
    let step = lent_over next _ _ _ _ c.if-branch.false c.in_ok-advance.ensures.more c.in_ok-advance.ensures.goes in
    took_list w l.writer d.list l.invariant.taking l.invariant.took (all_taken next w d.list l.writer l.source c.advance.new.self (l.invariant.writes d) step)
