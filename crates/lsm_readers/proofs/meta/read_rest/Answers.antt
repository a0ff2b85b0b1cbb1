use Rattle.std.proofs.Common.{ℕ, ap, subst, sym, ◌∙◌}
use Rattle.std.specs.Prelude.{Result, Ok}
use Rattle.sst_entries.specs.declared.error.Error.{Error}
use Rattle.sst_entries.specs.Error.{Gives}
use Rattle.lsm_sorted.specs.version.KeyRange.{Interval}
use Rattle.lsm_readers.specs.point.Meta.{Facts, compressions_result, facts_of, facts_with, rest_result}
use Rattle.lsm_readers.specs.point.Read.{◌>>=◌}
use Rattle.lsm_readers.proofs.Steps.{goes_on, fails_here, fails_later, passes_fault, beside_fails}
use Rattle.lsm_readers.proofs.Steps.{beside_first, beside_gives, tested}
use Rattle.lsm_readers.proofs.meta.read_rest.Goals as goal

pub returns-in_err-created_at : goal.returns-in_err-created_at
unfolding rest_result
returns-in_err-created_at g c =
    passes_fault (facts_of {A = g.row.A.Denot}) c.from_residual.result _ c.in_err-created_at.field-0.0 c.from_residual.ensures.1
    (fails_here _ _ _ c.in_err-created_at.ensures)

pub returns-in_err-key_range : goal.returns-in_err-key_range
unfolding rest_result
returns-in_err-key_range g c =
    passes_fault (facts_of {A = g.row.A.Denot}) c.from_residual-in_err-key_range.result _ c.in_err-key_range.field-0.0 c.from_residual-in_err-key_range.ensures.1
    (fails_later _ _ _ _ c.in_ok-created_at.ensures (fails_here _ _ _ c.in_err-key_range.ensures))

pub returns-in_err-key_range-2 : goal.returns-in_err-key_range-2
unfolding rest_result
returns-in_err-key_range-2 g c =
    passes_fault (facts_of {A = g.row.A.Denot}) c.from_residual-in_err-key_range-2.result _ c.in_err-key_range-2.field-0.0 c.from_residual-in_err-key_range-2.ensures.1
    (fails_later _ _ _ _ c.in_ok-created_at.ensures (fails_later _ _ _ _ c.in_ok-key_range.ensures (fails_here _ _ _ (beside_fails _ c.in_ok-key_range.key_range c.seqno_items.result _ _ c.seqno_items.ensures c.in_err-key_range-2.ensures.both))))

pub returns : goal.returns
unfolding rest_result
returns g c =
    let first = c.in_ok-key_range.key_range in
    let second = c.in_ok-key_range-2.key_range in
    let seqnos = c.in_ok-key_range-2.seqnos in
    let one = c.in_ok-key_range-2.ensures.both in
    let same = beside_first first c.seqno_items.result second seqnos one in
    subst (λ (returned : Result Facts Error). Gives (facts_of {A = g.row.A.Denot}) c.and.result returned)
    (sym (goes_on _ _ _ _ (c.in_ok-created_at.ensures ∙ ap (λ (n : ℕ). Ok n) (sym c.from.ensures))
    (goes_on _ _ _ _ c.in_ok-key_range.ensures
    (goes_on _ _ _ _ (beside_gives _ first c.seqno_items.result _ second seqnos c.seqno_items.ensures one)
    (ap (λ (keys : Interval). compressions_result c.args.block.now >>= λ _. Ok (facts_with c.args.table_version c.from.result c.args.numbers keys seqnos)) (sym same))))))
    (tested (facts_of {A = g.row.A.Denot}) (λ (_ : _). tt) c.test_compressions.result (compressions_result c.args.block.now) _ c.and.result c.and.ensures c.test_compressions.ensures)
