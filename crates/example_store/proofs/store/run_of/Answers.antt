use Rattle.std.proofs.Common.{◌≡◌, sym, ◌∙◌, rules, subst, ℕ}
use Rattle.std.specs.Prelude.{IfSome}
use Rattle.std.specs.Arc.{arc_value}
use Rattle.lsm_tables.specs.Words.{AreCutOf, run_label, tables_fault}
use Rattle.example_store.specs.Story.{IsOwnRun}
use Rattle.example_store.proofs.Counters.{shared_counter}
use Rattle.example_store.proofs.Own.{cut_own}
use Rattle.example_store.proofs.Refusing.{passed_on, run_fault, run_list, shared_list, shared_own}
use Rattle.example_store.proofs.Stories.{all_own}
use Rattle.example_store.proofs.store.run_of.Goals as goal

pub returns-in_err-run-clause-refused : goal.returns-in_err-run-clause-refused
returns-in_err-run-clause-refused g c =
    let moment : c.from-created_at.result ≡ 0 = search rules in
    let es = c.args.items.items in
    passed_on c.from_residual-in_err-run.result c.in_err-run.field-0.0 (tables_fault c.args.ids c.args.target 0 es) c.from_residual-in_err-run.ensures.1
    (λ fine. sym (run_fault c.args.ids c.args.target c.from-created_at.result es moment c.requires) ∙ c.in_err-run.ensures.refused fine)

pub returns-clause-run : goal.returns-clause-run
returns-clause-run g c =
    let es = c.args.items.items in
    shared_list arc_value es c.in_ok-share_run.field-0 c.in_ok-run.run' c.in_ok-share_run.ensures.ok
    (run_list (run_label c.args.ids c.args.target c.from-created_at.result) c.args.target es c.in_ok-run.run' c.in_ok-run.ensures.run c.in_ok-run.ensures.cut)

pub returns-clause-own : goal.returns-clause-own
returns-clause-own g c from to numbered =
    let es = c.args.items.items in
    let label = run_label c.args.ids c.args.target c.from-created_at.result in
    shared_own arc_value (IsOwnRun to) c.in_ok-share_run.field-0 c.in_ok-run.run' c.in_ok-share_run.ensures.ok
    (cut_own to label c.args.target es c.in_ok-run.run'
    (run_list label c.args.target es c.in_ok-run.run' c.in_ok-run.ensures.run c.in_ok-run.ensures.cut)
    c.in_ok-run.ensures.cut (all_own from to es numbered))

pub returns-clause-ids : goal.returns-clause-ids
returns-clause-ids g c =
    shared_counter arc_value c.args.ids c.args.target c.in_ok-run.left c.in_ok-share_run.field-0 c.in_ok-run.run' c.in_ok-share_run.ensures.ok c.in_ok-run.ensures.ids

pub returns-clause-cut : goal.returns-clause-cut
returns-clause-cut g c =
    let moment : c.from-created_at.result ≡ 0 = search rules in
    let es = c.args.items.items in
    let target = c.args.target in
    shared_own arc_value (AreCutOf (run_label c.args.ids target 0) target es 0) c.in_ok-share_run.field-0 c.in_ok-run.run' c.in_ok-share_run.ensures.ok
    (subst (λ (n : ℕ). IfSome c.in_ok-run.run' (λ run. AreCutOf (run_label c.args.ids target n) target es 0 run)) moment c.in_ok-run.ensures.cut)
