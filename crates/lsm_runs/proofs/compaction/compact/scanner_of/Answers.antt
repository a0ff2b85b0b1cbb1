use Rattle.std.proofs.Common.{◌≡◌, ◌∙◌, ◌<◌, false, length, subst, sym, List}
use Rattle.std.specs.Prelude.{IfErr, IfOk, Some, Err}
use Rattle.std.specs.Arc.{arc_value}
use Rattle.sst_entries.specs.declared.error.Error.{Error}
use Rattle.sst_entries.specs.Error.{Faults, is_memory}
use Rattle.lsm_runs.specs.compaction.AnyRuns.{first_block_fault}
use Rattle.sst_entries.specs.Stream.{first, nowhere}
use Rattle.lsm_iters.specs.block_index.Yielded.{YieldsEnding}
use Rattle.lsm_readers.specs.point.Table.{OpenTable}
use Rattle.lsm_runs.specs.RunLists.{HoldLists}
use Rattle.lsm_runs.specs.RunScan.{RunScansNext, tables_scan}
use Rattle.lsm_runs.proofs.AnyScans.{block_of_first, scanned_any}
use Rattle.lsm_runs.proofs.Scanners.{scan_wants, whole_places, whole_run}
use Rattle.lsm_runs.proofs.compaction.compact.scanner_of.Goals as goal

pub culled-requires : goal.culled-requires
culled-requires g c = rw c.in_ok-clone.ensures.cases (whole_places (arc_value c.args.run.now) c.requires)

pub returns-clause-list : goal.returns-clause-list
returns-clause-list g c lists held some =
    let ts = arc_value c.in_ok-clone.field-0 in
    let same : ts ≡ arc_value c.args.run.now = c.in_ok-clone.ensures.cases in
    let is = sym (whole_run ts (subst (λ (us : List OpenTable). 0 < length us) (sym same) c.requires) ∙ same) in
    c.culled.ensures.list lists some.1 (subst (λ (us : List OpenTable). HoldLists us lists) is held)

pub returns-clause-refused : goal.returns-clause-refused
returns-clause-refused g c lists held some =
    let ts = arc_value c.in_ok-clone.field-0 in
    let same : ts ≡ arc_value c.args.run.now = c.in_ok-clone.ensures.cases in
    let is = whole_run ts (subst (λ (us : List OpenTable). 0 < length us) (sym same) c.requires) ∙ same in
    scan_wants (arc_value c.args.run.now) lists held some c.culled.result
    (subst (λ (us : List OpenTable). IfErr c.culled.result (λ (e : Error). is_memory e ≡ false → first (tables_scan us) ≡ Some (Err e))) is c.culled.ensures.returned)

pub returns-clause-any : goal.returns-clause-any
returns-clause-any g c =
    let ts = arc_value c.in_ok-clone.field-0 in
    let same : ts ≡ arc_value c.args.run.now = c.in_ok-clone.ensures.cases in
    let is = whole_run ts (subst (λ (us : List OpenTable). 0 < length us) (sym same) c.requires) ∙ same in
    scanned_any RunScansNext (arc_value c.args.run.now) c.culled.result
    (subst (λ (us : List OpenTable). IfOk c.culled.result (λ s. YieldsEnding RunScansNext nowhere (λ _. Unit {0}) (λ _. Unit {0}) s (tables_scan us))) is c.culled.ensures.yields)

pub returns-clause-returned : goal.returns-clause-returned
returns-clause-returned g c =
    let ts = arc_value c.in_ok-clone.field-0 in
    let same : ts ≡ arc_value c.args.run.now = c.in_ok-clone.ensures.cases in
    let is = whole_run ts (subst (λ (us : List OpenTable). 0 < length us) (sym same) c.requires) ∙ same in
    subst (λ (us : List OpenTable). IfErr c.culled.result (λ (e : Error). is_memory e ≡ false → first (tables_scan us) ≡ Some (Err e))) is c.culled.ensures.returned

pub returns-clause-opens : goal.returns-clause-opens
returns-clause-opens g c =
    let ts = arc_value c.in_ok-clone.field-0 in
    let same : ts ≡ arc_value c.args.run.now = c.in_ok-clone.ensures.cases in
    subst (λ (us : List OpenTable). Faults c.culled.result (first_block_fault us)) same
    (block_of_first c.culled.result ts (subst (λ (us : List OpenTable). 0 < length us) (sym same) c.requires) c.culled.ensures.refused)
