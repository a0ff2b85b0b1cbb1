use Rattle.std.proofs.Common.{arith, sym, ◌∙◌}
use Rattle.sst_entries.specs.Lending.{entry_of_ref}
use Rattle.lsm_writers.proofs.StreamCalls.{can_advance, can_next, from_disorder, from_failed}
use Rattle.lsm_writers.proofs.StreamCalls.{from_fails, from_none, from_over, from_some}
use Rattle.lsm_writers.proofs.StreamCalls.{lowers_came, until_fails}
use Rattle.lsm_writers.specs.declared.table_stream.TableStreamError.TheVariants.{Failed}
use Rattle.lsm_writers.proofs.Streaming.{few_took, lent_next, lent_over}
use Rattle.lsm_writers.proofs.table_stream.write_until.Goals as goal

pub loop-source-init : goal.loop-source-init
loop-source-init g c = record {
  can = c.requires;
  took = λ stops w rs gs h. h;
  lowers = omega arith;
}

pub advance-requires : goal.advance-requires
advance-requires g c = can_advance g.L.Lending.advances g.L.Lending.can_advance c.loop-source.source c.loop-source.source c.loop-source.writer c.loop-source.invariant.can

pub returns-in_err-advance-clause-steps : goal.returns-in_err-advance-clause-steps
returns-in_err-advance-clause-steps g c =
    let next = g.L.Lending.advances in
    let l = c.loop-source in
    let f = c.in_err-advance.field-0.0 in
    until_fails next c.args.source.now c.advance.new.self c.args.writer.now l.writer c.from_residual.result (Failed f) c.from_residual.ensures.1
    (λ stops w rs gs h. from_fails stops next w rs gs l.source c.advance.new.self l.writer (l.invariant.took stops w rs gs h) f c.in_err-advance.ensures.goes)

pub returns-then-not-can_follow_ref-clause-steps : goal.returns-then-not-can_follow_ref-clause-steps
returns-then-not-can_follow_ref-clause-steps g c =
    let next = g.L.Lending.advances in
    let l = c.loop-source in
    let step = lent_next next _ _ _ c.in_ok-advance.field-0 _ c.in-Some.ensures c.in_ok-advance.ensures.goes in
    λ stops w rs gs h. from_disorder stops next w rs gs l.source c.advance.new.self l.writer (l.invariant.took stops w rs gs h) (entry_of_ref c.in-Some.entry) step (sym c.can_follow_ref.ensures ∙ c.if-not-can_follow_ref.true)

pub returns-in_err-write_ref-clause-steps : goal.returns-in_err-write_ref-clause-steps
returns-in_err-write_ref-clause-steps g c =
    let next = g.L.Lending.advances in
    let l = c.loop-source in
    let f = c.in_err-write_ref.field-0.0 in
    let v = c.write_ref.new.self in
    let step = lent_next next _ _ _ c.in_ok-advance.field-0 _ c.in-Some.ensures c.in_ok-advance.ensures.goes in
    until_fails next c.args.source.now c.advance.new.self c.args.writer.now v c.from_residual-in_err-write_ref.result (Failed f) c.from_residual-in_err-write_ref.ensures.1
    (λ stops w rs gs h. from_failed stops next w rs gs l.source c.advance.new.self l.writer (l.invariant.took stops w rs gs h) (entry_of_ref c.in-Some.entry) step (sym c.can_follow_ref.ensures ∙ c.if-not-can_follow_ref.false) f v c.in_err-write_ref.ensures.refused c.in_err-write_ref.ensures.left c.in_err-write_ref.ensures.ids)

pub returns-in-Some-take_finished-clause-steps : goal.returns-in-Some-take_finished-clause-steps
returns-in-Some-take_finished-clause-steps g c =
    let next = g.L.Lending.advances in
    let l = c.loop-source in
    let step = lent_next next _ _ _ c.in_ok-advance.field-0 _ c.in-Some.ensures c.in_ok-advance.ensures.goes in
    let wrote = c.in_ok-write_ref.ensures in
    let took = c.in-Some-take_finished in
    λ stops w rs gs h. from_some stops next w rs gs l.source c.advance.new.self l.writer (l.invariant.took stops w rs gs h) (entry_of_ref c.in-Some.entry) step (sym c.can_follow_ref.ensures ∙ c.if-not-can_follow_ref.false) c.write_ref.new.self c.take_finished.new.self wrote.ok wrote.refused took.ensures.left took.table took.ensures.table

pub returns-in-Some-take_finished-clause-can : goal.returns-in-Some-take_finished-clause-can
returns-in-Some-take_finished-clause-can g c =
    let next = g.L.Lending.advances in
    let l = c.loop-source in
    let step = lent_next next _ _ _ c.in_ok-advance.field-0 _ c.in-Some.ensures c.in_ok-advance.ensures.goes in
    can_next next g.L.Lending.can_advance l.source c.advance.new.self l.writer l.invariant.can (entry_of_ref c.in-Some.entry) step c.write_ref.new.self c.take_finished.new.self c.in_ok-write_ref.ensures.ok c.in-Some-take_finished.ensures.left

pub returns-in-Some-take_finished-clause-taken : goal.returns-in-Some-take_finished-clause-taken
returns-in-Some-take_finished-clause-taken g c =
    few_took c.loop-source.writer c.write_ref.new.self c.take_finished.new.self (entry_of_ref c.in-Some.entry) c.loop-source.invariant.can.taken c.in_ok-write_ref.ensures.ok c.in-Some-take_finished.ensures.left

pub loop-source-preserved-in_default-take_finished : goal.loop-source-preserved-in_default-take_finished
loop-source-preserved-in_default-take_finished g c =
    let next = g.L.Lending.advances in
    let l = c.loop-source in
    let t = c.advance.new.self in
    let e = entry_of_ref c.in-Some.entry in
    let step = lent_next next _ _ _ c.in_ok-advance.field-0 _ c.in-Some.ensures c.in_ok-advance.ensures.goes in
    let wrote = c.in_ok-write_ref.ensures in
    let took = c.in_default-take_finished.ensures in
    record {
      can = can_next next g.L.Lending.can_advance l.source t l.writer l.invariant.can e step c.write_ref.new.self c.take_finished.new.self wrote.ok took.left;
      took = λ stops w rs gs h. from_none stops next w rs gs l.source t l.writer (l.invariant.took stops w rs gs h) e step (sym c.can_follow_ref.ensures ∙ c.if-not-can_follow_ref.false) c.write_ref.new.self c.take_finished.new.self wrote.ok wrote.refused took.left took.table;
      lowers = let less = lowers_came (g.L.Lending.lent t) c.in_ok-advance.field-0 e (g.L.Lending.left l.source) (g.L.Lending.left t) c.in-Some.ensures c.in_ok-advance.ensures.lowers in
          omega (arith, less, l.invariant.lowers);
    }

pub returns-clause-steps : goal.returns-clause-steps
returns-clause-steps g c =
    let next = g.L.Lending.advances in
    let l = c.loop-source in
    λ stops w rs gs h. from_over stops next w rs gs l.source c.advance.new.self l.writer (l.invariant.took stops w rs gs h) (lent_over next _ _ _ _ c.if-branch.false c.in_ok-advance.ensures.more c.in_ok-advance.ensures.goes)
