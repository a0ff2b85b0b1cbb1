use Rattle.std.proofs.Common.{◌≡◌, sym, ◌∙◌, ap, subst, length, rules, ℕ, false}
use Rattle.lsm_tables.specs.Words.{AreCompactable, AreCutOf, HaveAll, ids_behind, is_memory}
use Rattle.lsm_tables.specs.Words.{kept_in}
use Rattle.lsm_tables.specs.Words.{run_label, tables_fault}
use Rattle.std.specs.Prelude.{IfSome, Some, map, sum_by}
use Rattle.std.specs.Arc.{arc_value}
use Rattle.std.specs.List.{AllByRecursion}
use Rattle.example_store.specs.Story.{IsOwnRun}
use Rattle.example_store.proofs.Compacting.{able_of, made_of}
use Rattle.example_store.proofs.Counters.{cut_listed, few_tables}
use Rattle.example_store.proofs.Own.{cut_own, listed_own, own_kept, own_run_lists, own_union}
use Rattle.example_store.proofs.Refusing.{passed_on, run_list}
use Rattle.example_store.proofs.store.compact.compacted.Goals as goal

pub returns-in_err-run-clause-refused : goal.returns-in_err-run-clause-refused
returns-in_err-run-clause-refused g c lists hold =
    let moment : c.from-created_at.result ≡ 0 = search rules in
    let e = c.in_err-run.field-0.0 in
    let left = kept_in c.args.rules lists in
    passed_on c.from_residual-in_err-run.result e (tables_fault c.args.ids c.args.target 0 left) c.from_residual-in_err-run.ensures.1
    (subst (λ (n : ℕ). is_memory e ≡ false → tables_fault c.args.ids c.args.target n left ≡ Some e) moment (c.in_err-run.ensures.refused lists hold))

pub returns-clause-able : goal.returns-clause-able
returns-clause-able g c =
    subst AreCompactable (sym c.in_ok-at_most_one.ensures.ok) (able_of c.in_ok-run.run' c.in_ok-run.ensures.able)

pub returns-clause-kept : goal.returns-clause-kept
returns-clause-kept g c lists hold =
    let left = kept_in c.args.rules lists in
    let run = c.in_ok-run.run' in
    subst (HaveAll left) (sym c.in_ok-at_most_one.ensures.ok)
    (made_of left run (run_list (run_label c.args.ids c.args.target c.from-created_at.result) c.args.target left run (c.in_ok-run.ensures.run lists hold) (c.in_ok-run.ensures.cut lists hold)))

pub returns-clause-own : goal.returns-clause-own
returns-clause-own g c bound own =
    let all = own_run_lists bound (map arc_value c.args.runs.now) own in
    let left = kept_in c.args.rules all.lists in
    let run = c.in_ok-run.run' in
    let label = run_label c.args.ids c.args.target c.from-created_at.result in
    let cut = c.in_ok-run.ensures.cut all.lists all.hold in
    subst (AllByRecursion (IsOwnRun bound)) (sym c.in_ok-at_most_one.ensures.ok)
    (listed_own bound run (cut_own bound label c.args.target left run
    (run_list label c.args.target left run (c.in_ok-run.ensures.run all.lists all.hold) cut) cut
    (own_kept bound c.args.rules all.lists
    (own_union bound (map arc_value c.args.runs.now) own all.lists all.hold))))

pub returns-clause-ids : goal.returns-clause-ids
returns-clause-ids g c =
    let made = few_tables c.in_ok-run.run' ∙ sym (ap (sum_by length) c.in_ok-at_most_one.ensures.ok) in
    c.in_ok-run.ensures.ids ∙ ap (ids_behind c.args.ids c.args.target) made

pub returns-clause-cut : goal.returns-clause-cut
returns-clause-cut g c lists hold =
    let moment : c.from-created_at.result ≡ 0 = search rules in
    let left = kept_in c.args.rules lists in
    let ids = c.args.ids in
    let target = c.args.target in
    let run = c.in_ok-run.run' in
    subst (AllByRecursion (AreCutOf (run_label ids target 0) target left 0)) (sym c.in_ok-at_most_one.ensures.ok)
    (cut_listed (run_label ids target 0) target left run
    (subst (λ (n : ℕ). IfSome run (λ r. AreCutOf (run_label ids target n) target left 0 r)) moment (c.in_ok-run.ensures.cut lists hold)))
