use Rattle.std.proofs.Common.{◌≡◌, ◌<◌, sym, ◌∙◌, ap, subst, ℕ, true, false, List, length, arith}
use Rattle.std.specs.Prelude.{map}
use Rattle.std.specs.Arc.{arc_value}
use Rattle.std.specs.List.{AllByRecursion}
use Rattle.lsm_tables.specs.Words.{OpenTable, RunsHoldLists}
use Rattle.lsm_tables.proofs.TableLaws.{all_more}
use Rattle.example_store.specs.Closed.{StoreLists}
use Rattle.example_store.specs.Story.{AreNumbered, IsOwnRun}
use Rattle.example_store.specs.declared.store.open.OpenError.TheVariants.{OutOfMemory}
use Rattle.example_store.proofs.Opening.{strict_alike, reports_alike}
use Rattle.example_store.proofs.Own.{later_runs, own_able, own_run_lists, runs_stored}
use Rattle.example_store.proofs.Refusing.{wanted}
use Rattle.example_store.specs.Faulty.{AreOwnFiles, IsFirstFault, IsOpenFault}
use Rattle.example_store.proofs.Faults.{names_kept, names_numbers, names_repeated, own_run_files}
use Rattle.example_store.proofs.Faults.{passed}
use Rattle.example_store.proofs.store.Store.open.Goals as goal

pub returns-in_err-test_numbers-clause-taken : goal.returns-in_err-test_numbers-clause-taken
returns-in_err-test_numbers-clause-taken g c s sound closed =
    let room = sound.room in
    let kept = sound.kept in
    let next = closed.next in
    let oldest = closed.oldest in
    let no : false ≡ true = c.in_err-test_numbers.ensures.taken (omega (arith, room, next)) (omega (arith, kept, next, oldest)) in
    absurd cc

pub returns-in_err-runs-clause-taken : goal.returns-in_err-runs-clause-taken
returns-in_err-runs-clause-taken g c s sound closed =
    let r = c.from_residual-in_err-runs in
    let order = sound.order in
    let next = closed.next in
    wanted OutOfMemory r.result c.in_err-runs.field-0.0 r.ensures.1
    (c.in_err-runs.ensures.taken s.runs
    (later_runs s.flushed c.args.closed.now.next (omega (arith, order, next)) s.runs sound.runs.own)
    (sym closed.files ∙ ap (map (λ run. run.items)) (sym c.deref.ensures.value)))

pub test_order-requires : goal.test_order-requires
test_order-requires g c = record {
  some = subst (AllByRecursion (λ (run : List OpenTable). 0 < length run)) (ap (map arc_value) (sym c.deref-2.ensures.value))
      (all_more (IsOwnRun c.args.closed.now.next) (λ (run : List OpenTable). 0 < length run) (λ run h. h.some) (map arc_value c.in_ok-runs.runs.items) c.in_ok-runs.ensures.own);
}

pub returns-in_err-test_order-clause-taken : goal.returns-in_err-test_order-clause-taken
returns-in_err-test_order-clause-taken g c s sound closed =
    let r = c.from_residual-in_err-test_order in
    let n = c.args.closed.now.next in
    let opened = map arc_value c.in_ok-runs.runs.items in
    let own = c.in_ok-runs.ensures.own in
    let all = own_run_lists n opened own in
    let same = sym closed.files ∙ ap (map (λ run. run.items)) (sym c.deref.ensures.value) ∙ sym c.in_ok-runs.ensures.files in
    wanted OutOfMemory r.result c.in_err-test_order.field-0.0 r.ensures.1
    (c.in_err-test_order.ensures.taken all.lists
    (subst (λ (rs : List (List OpenTable)). RunsHoldLists rs all.lists) (ap (map arc_value) (sym c.deref-2.ensures.value)) all.hold)
    all.some (strict_alike s.flushed n s.runs opened same sound.runs.own own sound.runs.able))

pub invariant_of-result : goal.invariant_of-result
invariant_of-result g c =
    let n = c.args.closed.now.next in
    let opened = map arc_value c.in_ok-runs.runs.items in
    let own = c.in_ok-runs.ensures.own in
    let all = own_run_lists n opened own in
    let room = c.in_ok-test_numbers.ensures.room in
    let strict = c.in_ok-test_order.ensures.strict all.lists
    (subst (λ (rs : List (List OpenTable)). RunsHoldLists rs all.lists) (ap (map arc_value) (sym c.deref-2.ensures.value)) all.hold) all.some in
    record {
      recent = subst (AreNumbered n n) (sym c.new-memtable.ensures) tt;
      runs = record { own = own; able = own_able n opened own (omega (arith, room)) strict };
      order = omega arith;
      room = room;
      kept = c.in_ok-test_numbers.ensures.kept;
    }

pub returns-clause-lists : goal.returns-clause-lists
returns-clause-lists g c =
    let n = c.args.closed.now.next in
    let opened = map arc_value c.in_ok-runs.runs.items in
    let own = c.in_ok-runs.ensures.own in
    let all = own_run_lists n opened own in (
      all.lists,
      subst (λ (fs : List (List (List ℕ))). StoreLists fs all.lists) (c.in_ok-runs.ensures.files ∙ ap (map (λ run. run.items)) c.deref.ensures.value) (runs_stored n opened own),
      all.hold,
    )

pub returns-clause-story : goal.returns-clause-story
returns-clause-story g c s ws sound closed returned =
    let n = c.args.closed.now.next in
    let own = c.in_ok-runs.ensures.own in
    let same = sym closed.files ∙ ap (map (λ run. run.items)) (sym c.deref.ensures.value) ∙ sym c.in_ok-runs.ensures.files in
    reports_alike s.flushed n s _ ws returned sound.runs.own own same (closed.none ∙ sym c.new-memtable.ensures) closed.next closed.oldest

pub returns-in_err-test_numbers-clause-refused : goal.returns-in_err-test_numbers-clause-refused
returns-in_err-test_numbers-clause-refused g c =
    let r = c.from_residual in
    passed (IsOpenFault c.args.closed.now) r.result c.in_err-test_numbers.field-0.0 r.ensures.1
    (names_numbers c.args.closed.now c.in_err-test_numbers.field-0.0 c.in_err-test_numbers.ensures.named)

pub returns-in_err-runs-clause-refused : goal.returns-in_err-runs-clause-refused
returns-in_err-runs-clause-refused g c =
    let r = c.from_residual-in_err-runs in
    let closed = c.args.closed.now in
    let e = c.in_err-runs.field-0.0 in
    passed (IsOpenFault closed) r.result e r.ensures.1
    (names_kept closed e (record { room = c.in_ok-test_numbers.ensures.room; kept = c.in_ok-test_numbers.ensures.kept }) (subst (λ fs. IsFirstFault closed.next fs e) (ap (map (λ run. run.items)) c.deref.ensures.value) c.in_err-runs.ensures.named))

pub returns-in_err-test_order-clause-refused : goal.returns-in_err-test_order-clause-refused
returns-in_err-test_order-clause-refused g c =
    let r = c.from_residual-in_err-test_order in
    let closed = c.args.closed.now in
    let e = c.in_err-test_order.field-0.0 in
    let n = closed.next in
    let opened = map arc_value c.in_ok-runs.runs.items in
    let own = c.in_ok-runs.ensures.own in
    let all = own_run_lists n opened own in
    passed (IsOpenFault closed) r.result e r.ensures.1
    (names_repeated closed e all.lists
    (record { room = c.in_ok-test_numbers.ensures.room; kept = c.in_ok-test_numbers.ensures.kept })
    (subst (AllByRecursion (AreOwnFiles n)) (c.in_ok-runs.ensures.files ∙ ap (map (λ run. run.items)) c.deref.ensures.value) (own_run_files n opened own))
    c.in_err-test_order.ensures.named
    (subst (λ (fs : List (List (List ℕ))). StoreLists fs all.lists) (c.in_ok-runs.ensures.files ∙ ap (map (λ run. run.items)) c.deref.ensures.value) (runs_stored n opened own))
    (c.in_err-test_order.ensures.taken all.lists
    (subst (λ (rs : List (List OpenTable)). RunsHoldLists rs all.lists) (ap (map arc_value) (sym c.deref-2.ensures.value)) all.hold)
    all.some))
