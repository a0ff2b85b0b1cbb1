use Rattle.std.proofs.Common.{refl, sym, ◌∙◌}
use Rattle.std.proofs.lemmas.Result.{err_from_is_err_and}
use Rattle.lsm_sorted.specs.Verdicts.{verdict_of}
use Rattle.std.specs.Prelude.{Ok, Err}
use Rattle.lsm_sorted.proofs.FilterLemmas.{filters_tombstone, filters_asked}
use Rattle.lsm_sorted.proofs.compaction.stream.CompactionStream.filtered.Goals as goal

pub returns-then-is_tombstone-clause-filters : goal.returns-then-is_tombstone-clause-filters
returns-then-is_tombstone-clause-filters g c = filters_tombstone _ _ c.args.head _ _ (sym c.is_tombstone.ensures ∙ c.if-is_tombstone.true)

pub returns-clause-filters : goal.returns-clause-filters
returns-clause-filters g c =
    filters_asked _ _ c.args.head _ _ (Ok (verdict_of c.in_ok-verdict.verdict)) _ _ _ (sym c.is_tombstone.ensures ∙ c.if-is_tombstone.false) c.in_ok-verdict.ensures c.apply_verdict.ensures.returned c.apply_verdict.ensures.reports

pub returns-in_err-verdict-clause-filters : goal.returns-in_err-verdict-clause-filters
returns-in_err-verdict-clause-filters g c =
    let p = err_from_is_err_and c.from_residual.result c.from_residual.ensures.1 in
    let e = c.in_err-verdict.field-0.0 in
    filters_asked _ _ c.args.head _ _ (Err e) _ _ _ (sym c.is_tombstone.ensures ∙ c.if-is_tombstone.false) c.in_err-verdict.ensures (rw (p.1, p.2) refl) refl
