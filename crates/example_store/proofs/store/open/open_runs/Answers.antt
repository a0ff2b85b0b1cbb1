use Rattle.std.proofs.Common.{refl, sym, ◌∙◌, ap, subst, ℕ, [], ◌∷◌}
use Rattle.std.specs.Prelude.{map}
use Rattle.std.specs.Arc.{arc_value}
use Rattle.std.proofs.lemmas.List.{length-map, take_all}
use Rattle.lsm_tables.proofs.TableLaws.{all_append}
use Rattle.example_store.specs.Story.{IsOwnRun}
use Rattle.example_store.specs.declared.store.open.OpenError.TheVariants.{OutOfMemory}
use Rattle.example_store.proofs.Opening.{one_seen, seen_at}
use Rattle.example_store.proofs.Own.{bytes_of}
use Rattle.example_store.proofs.Refusing.{wanted}
use Rattle.example_store.specs.Faulty.{IsFirstFault, NamesInRun}
use Rattle.example_store.proofs.Faults.{names_first_run, own_run_files, passed}
use Rattle.example_store.proofs.store.open.open_runs.Goals as goal

pub loop-run-init : goal.loop-run-init
loop-run-init g c = record {
  own = rw c.new-runs.ensures.items tt;
  made = rw c.new-runs.ensures.items refl;
}

pub loop-run-preserved : goal.loop-run-preserved
loop-run-preserved g c =
    let P = IsOwnRun c.args.next in
    let made = map arc_value c.loop-run.runs.items in
    let run = c.in_ok-opened.opened in
    record {
      own = rw c.in_ok-push_shared.ensures.pushed (all_append P made (run ∷ []) c.loop-run.invariant.own (c.in_ok-opened.ensures.own, tt));
      made = rw c.in_ok-push_shared.ensures.pushed (one_seen (map bytes_of) (λ run. run.items) (λ _. Unit {0}) made c.args.files.now c.loop-run.run-index run c.run-item.result c.loop-run.invariant.made c.loop-run-test.true c.run-item.is
          (c.in_ok-opened.ensures.files ∙ c.as_slice.ensures.value));
    }

pub returns-in_err-opened-clause-taken : goal.returns-in_err-opened-clause-taken
returns-in_err-opened-clause-taken g c runs own same =
    let r = c.from_residual-in_err-opened in
    let here = seen_at (map bytes_of) (λ run. run.items) (IsOwnRun c.args.next) runs c.args.files.now c.loop-run.run-index c.run-item.result own same c.loop-run-test.true c.run-item.is in
    wanted OutOfMemory r.result c.in_err-opened.field-0.0 r.ensures.1 (c.in_err-opened.ensures.taken here.0 here.2 (here.1 ∙ sym c.as_slice.ensures.value))

pub returns-clause-files : goal.returns-clause-files
returns-clause-files g c =
    c.loop-run.invariant.made ∙ ap (map (λ run. run.items)) (take_all c.loop-run.run-index c.args.files.now c.loop-run-test.false)

pub returns-in_err-opened-clause-named : goal.returns-in_err-opened-clause-named
returns-in_err-opened-clause-named g c =
    let r = c.from_residual-in_err-opened in
    let n = c.args.next in
    let runs = c.loop-run.runs in
    let made = map arc_value runs.items in
    let m = c.loop-run.invariant in
    let e = c.in_err-opened.field-0.0 in
    passed (IsFirstFault n (map (λ run. run.items) c.args.files.now)) r.result e r.ensures.1
    (names_first_run n (map bytes_of) (λ run. run.items) made c.args.files.now c.loop-run.run-index c.run-item.result e m.made c.loop-run-test.true c.run-item.is
    (own_run_files n made m.own)
    (subst (λ (k : ℕ). NamesInRun n c.run-item.result.items k e) (c.len.ensures ∙ runs.ok.0 ∙ sym (length-map runs.items arc_value)) (subst (λ fs. NamesInRun n fs c.len.result e) c.as_slice.ensures.value c.in_err-opened.ensures.named)))
