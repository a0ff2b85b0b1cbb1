use Rattle.std.specs.Prelude.{IfErr, IfOk, Some}
use Rattle.std.proofs.Common.{◌≡◌, ◌+◌, List, drop, ap, subst, sym, ◌∙◌}
use Rattle.sst_blocks.specs.Sections.{body_of}
use Rattle.sst_blocks.specs.Place.{Place}
use Rattle.lsm_readers.specs.point.Table.{parts_of}
use Rattle.lsm_readers.specs.declared.verify.Finding.{Finding}
use Rattle.lsm_readers.specs.Verify.{FindsFirst, Misses, filter_found}
use Rattle.lsm_readers.specs.Verification.{GoesOne, ahead_of, before_index, places_in, rest_found}
use Rattle.lsm_readers.specs.Verification.{next_found, step_early}
use Rattle.lsm_readers.proofs.HandlesLeft.{none_at}
use Rattle.lsm_readers.proofs.VerifyEarly.{passes_first}
use Rattle.lsm_readers.proofs.VerifyLoops.{drop_at}
use Rattle.lsm_readers.proofs.Verifications.{filter_goes, filter_misses, refuses}
use Rattle.lsm_readers.proofs.verify.steps.step_filter.Goals as goal

pub returns-in_err-test_filter-in-Some-clause-refused :
    goal.returns-in_err-test_filter-in-Some-clause-refused
returns-in_err-test_filter-in-Some-clause-refused g c = λ left.
    let parts = parts_of c.args.inner.now in
    let body = body_of c.args.source.now in
    let places = places_in parts in
    let i = c.args.index in
    let place = c.in-Some.place in
    let e = c.in_err-test_filter-in-Some.field-0.0 in
    let head = drop_at places i place (sym c.filter_at.ensures.place ∙ c.in-Some.is) in
    refuses c.from_residual.result e (rest_found body parts (before_index (drop i places)) left)
    c.from_residual.ensures.1
    (λ f found. ap (λ (ps : List Place). rest_found body parts (before_index ps) left) head
    ∙ filter_misses body parts place (drop (i + 1) places) left e
    c.in_err-test_filter-in-Some.ensures.returned f found)

pub returns-in_ok-test_filter-in-Some-clause-goes :
    goal.returns-in_ok-test_filter-in-Some-clause-goes
returns-in_ok-test_filter-in-Some-clause-goes g c = λ left.
    let parts = parts_of c.args.inner.now in
    let body = body_of c.args.source.now in
    let places = places_in parts in
    let i = c.args.index in
    let place = c.in-Some.place in
    let more = drop (i + 1) places in
    let head = drop_at places i place (sym c.filter_at.ensures.place ∙ c.in-Some.is) in
    subst (λ (ps : List Place). GoesOne body parts (before_index ps) left (before_index more) left)
    (sym head)
    (filter_goes body parts place more left tt c.in_ok-test_filter-in-Some.ensures.returned)

pub returns-in-None-clause-goes : goal.returns-in-None-clause-goes
returns-in-None-clause-goes g c = λ left.
    let parts = parts_of c.args.inner.now in
    let body = body_of c.args.source.now in
    let none = none_at (places_in parts) c.args.index
    (sym c.filter_at.ensures.place ∙ c.in-None.is) in
    subst (λ (ps : List Place). IfOk c.open_index.result (λ stage.
    GoesOne body parts (before_index ps) left (ahead_of parts stage) left)) (sym none)
    (c.open_index.ensures.goes left)

pub returns-in-None-clause-refused : goal.returns-in-None-clause-refused
returns-in-None-clause-refused g c = λ left.
    let parts = parts_of c.args.inner.now in
    let body = body_of c.args.source.now in
    let none = none_at (places_in parts) c.args.index
    (sym c.filter_at.ensures.place ∙ c.in-None.is) in
    subst (λ (ps : List Place). IfErr c.open_index.result (λ e.
    Misses e (rest_found body parts (before_index ps) left))) (sym none)
    (c.open_index.ensures.refused left)

pub returns-in_err-test_filter-in-Some-clause-early :
    goal.returns-in_err-test_filter-in-Some-clause-early
returns-in_err-test_filter-in-Some-clause-early g c = λ left.
    let parts = parts_of c.args.inner.now in
    let body = body_of c.args.source.now in
    let places = places_in parts in
    let i = c.args.index in
    let place = c.in-Some.place in
    let head = drop_at places i place (sym c.filter_at.ensures.place ∙ c.in-Some.is) in
    subst (λ (ps : List Place). FindsFirst c.from_residual.result
    (step_early body parts (before_index ps) left)) (sym head)
    (passes_first c.from_residual.result c.in_err-test_filter-in-Some.field-0.0 _
    c.from_residual.ensures.1 c.in_err-test_filter-in-Some.ensures.early)

pub returns-in_ok-test_filter-in-Some-clause-early :
    goal.returns-in_ok-test_filter-in-Some-clause-early
returns-in_ok-test_filter-in-Some-clause-early g c = λ left.
    let parts = parts_of c.args.inner.now in
    let body = body_of c.args.source.now in
    let places = places_in parts in
    let i = c.args.index in
    let place = c.in-Some.place in
    let head = drop_at places i place (sym c.filter_at.ensures.place ∙ c.in-Some.is) in
    subst (λ (ps : List Place). (f : Finding)
    → step_early body parts (before_index ps) left ≡ Some f → ⊥) (sym head)
    c.in_ok-test_filter-in-Some.ensures.early

pub returns-in-None-clause-early : goal.returns-in-None-clause-early
returns-in-None-clause-early g c = λ left.
    let parts = parts_of c.args.inner.now in
    let body = body_of c.args.source.now in
    let none = none_at (places_in parts) c.args.index
    (sym c.filter_at.ensures.place ∙ c.in-None.is) in
    subst (λ (ps : List Place). FindsFirst c.open_index.result
    (step_early body parts (before_index ps) left)) (sym none) c.open_index.ensures.early

pub returns-in_err-test_filter-in-Some-clause-next :
    goal.returns-in_err-test_filter-in-Some-clause-next
returns-in_err-test_filter-in-Some-clause-next g c = λ left.
    let parts = parts_of c.args.inner.now in
    let body = body_of c.args.source.now in
    let places = places_in parts in
    let place = c.in-Some.place in
    let head = drop_at places c.args.index place (sym c.filter_at.ensures.place ∙ c.in-Some.is) in
    subst (λ (ps : List Place). IfErr c.from_residual.result (λ e.
    Misses e (next_found body parts (before_index ps) left))) (sym head)
    (refuses c.from_residual.result c.in_err-test_filter-in-Some.field-0.0 (filter_found body place)
    c.from_residual.ensures.1 c.in_err-test_filter-in-Some.ensures.returned)

pub returns-in-None-clause-next : goal.returns-in-None-clause-next
returns-in-None-clause-next g c = λ left.
    let parts = parts_of c.args.inner.now in
    let body = body_of c.args.source.now in
    let none = none_at (places_in parts) c.args.index
    (sym c.filter_at.ensures.place ∙ c.in-None.is) in
    subst (λ (ps : List Place). IfErr c.open_index.result (λ e.
    Misses e (next_found body parts (before_index ps) left))) (sym none) c.open_index.ensures.next
