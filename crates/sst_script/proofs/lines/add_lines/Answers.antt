use Rattle.std.proofs.Common.{◌∙◌, sym}
use Rattle.sst_entries.specs.Lending.{came, entry_of_ref}
use Rattle.sst_entries.specs.Stream.{nowhere}
use Rattle.sst_entries.proofs.StreamLemmas.{can_front, can_now}
use Rattle.sst_script.proofs.LineLemmas.{fewer, line_more, lines_fail, lines_whole, no_lines, not_more}
use Rattle.sst_script.proofs.lines.add_lines.Goals as goal

pub loop-source-init : goal.loop-source-init
loop-source-init g c = (c.requires, λ es yields. no_lines g.L.Lending.advances es _ _ yields)

pub advance-requires : goal.advance-requires
advance-requires g c = can_now g.L.Lending.advances nowhere g.L.Lending.can_advance
    g.L.Lending.can_advance c.loop-source.source c.loop-source.invariant.0

pub returns-in_err-advance-clause-err : goal.returns-in_err-advance-clause-err
returns-in_err-advance-clause-err g c es yields =
    lines_fail g.L.Lending.advances es _ _ c.loop-source.source c.advance.new.self
    (c.loop-source.invariant.1 es yields) c.from_residual.result c.in_err-advance.field-0.0 c.from_residual.ensures.1
    c.in_err-advance.ensures.goes

pub loop-source-smaller-in-Continue-branch-2 : goal.loop-source-smaller-in-Continue-branch-2
loop-source-smaller-in-Continue-branch-2 g c =
    fewer (entry_of_ref c.in-Some.entry) (g.L.Lending.lent c.advance.new.self) _ _ c.in-Some.ensures c.in_ok-advance.ensures.lowers

pub loop-source-preserved-in-Continue-branch-2 : goal.loop-source-preserved-in-Continue-branch-2
loop-source-preserved-in-Continue-branch-2 g c = (
  can_front g.L.Lending.advances nowhere g.L.Lending.can_advance g.L.Lending.can_advance
      c.loop-source.source (came c.advance.result (g.L.Lending.lent c.advance.new.self))
      c.advance.new.self c.loop-source.invariant.0 c.advance.ensures.goes,
  λ es yields.
      line_more g.L.Lending.advances es _ _ c.loop-source.source c.advance.new.self (c.loop-source.invariant.1 es yields)
      (entry_of_ref c.in-Some.entry) (g.L.Lending.lent c.advance.new.self) _ c.in-Some.ensures
      c.in_ok-advance.ensures.goes c.in_ok-add_line.ensures.line,
)

pub loop-source-preserved : goal.loop-source-preserved
loop-source-preserved g c =
    absurd (not_more (g.L.Lending.lent c.advance.new.self) c.in_default.ensures (sym c.in_ok-advance.ensures.more ∙ c.if-branch.true))

pub returns-clause-lines : goal.returns-clause-lines
returns-clause-lines g c es yields =
    lines_whole g.L.Lending.advances es _ _ c.loop-source.source c.advance.new.self (c.loop-source.invariant.1 es yields)
    (g.L.Lending.lent c.advance.new.self) (sym c.in_ok-advance.ensures.more ∙ c.if-branch.false) c.in_ok-advance.ensures.goes
