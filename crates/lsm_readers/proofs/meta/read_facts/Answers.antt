use Rattle.std.proofs.Common.{refl, subst, sym}
use Rattle.std.specs.Prelude.{Result}
use Rattle.sst_entries.specs.declared.error.Error.{Error}
use Rattle.sst_entries.specs.Error.{Gives}
use Rattle.lsm_readers.specs.point.Meta.{Facts, facts_of, facts_result}
use Rattle.lsm_readers.proofs.Steps.{goes_on, fails_here, fails_later, passes_fault}
use Rattle.lsm_readers.proofs.meta.read_facts.Goals as goal

pub returns-in_err-table_version : goal.returns-in_err-table_version
unfolding facts_result
returns-in_err-table_version g c =
    passes_fault (facts_of {A = g.row.A.Denot}) c.from_residual.result _ c.in_err-table_version.field-0.0 c.from_residual.ensures.1
    (fails_here _ _ _ c.in_err-table_version.ensures)

pub returns-in_err-test_kinds : goal.returns-in_err-test_kinds
unfolding facts_result
returns-in_err-test_kinds g c =
    passes_fault (facts_of {A = g.row.A.Denot}) c.from_residual-in_err-test_kinds.result _ c.in_err-test_kinds.field-0.0 c.from_residual-in_err-test_kinds.ensures.1
    (fails_later _ _ _ _ c.in_ok-table_version.ensures (fails_here _ _ _ c.in_err-test_kinds.ensures))

pub returns-in_err-numbers : goal.returns-in_err-numbers
unfolding facts_result
returns-in_err-numbers g c =
    passes_fault (facts_of {A = g.row.A.Denot}) c.from_residual-in_err-numbers.result _ c.in_err-numbers.field-0.0 c.from_residual-in_err-numbers.ensures.1
    (fails_later _ _ _ _ c.in_ok-table_version.ensures (fails_later _ _ _ _ c.in_ok-test_kinds.ensures (fails_here _ _ _ c.in_err-numbers.ensures)))

pub returns : goal.returns
unfolding facts_result
returns g c =
    let returned =
    goes_on _ _ _ _ c.in_ok-table_version.ensures
    (goes_on _ _ _ _ c.in_ok-test_kinds.ensures
    (goes_on _ _ _ _ c.in_ok-numbers.ensures refl)) in
    subst (λ (r : Result Facts Error). Gives (facts_of {A = g.row.A.Denot}) c.read_rest.result r) (sym returned) c.read_rest.ensures
