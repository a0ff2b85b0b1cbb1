use Rattle.std.proofs.Common.{◌≡◌, ◌∙◌, ◌<◌, false, length, subst, sym, List}
use Rattle.std.specs.Arc.{arc_value}
use Rattle.std.specs.Prelude.{IfErr, Some, Err}
use Rattle.lsm_tables.specs.Words.{Error, HoldLists, OpenTable, is_memory}
use Rattle.lsm_tables.proofs.TableLaws.{first, scan_wants, tables_scan, whole_places, whole_run}
use Rattle.example_store.proofs.store.order.scanner_of.Goals as goal

pub culled-requires : goal.culled-requires
culled-requires g c = rw c.in_ok-clone.ensures.cases (whole_places (arc_value c.args.run.now) c.requires)

pub returns-clause-list : goal.returns-clause-list
returns-clause-list g c lists held some =
    let ts = arc_value c.in_ok-clone.field-0 in
    let same : ts ≡ arc_value c.args.run.now = c.in_ok-clone.ensures.cases in
    let is = sym (whole_run ts (subst (λ (us : List OpenTable). 0 < length us) (sym same) c.requires) ∙ same) in
    c.culled.ensures.lends_list lists some.1 (subst (λ (us : List OpenTable). HoldLists us lists) is held)

pub returns-clause-memory : goal.returns-clause-memory
returns-clause-memory g c lists held some =
    let ts = arc_value c.in_ok-clone.field-0 in
    let same : ts ≡ arc_value c.args.run.now = c.in_ok-clone.ensures.cases in
    let is = whole_run ts (subst (λ (us : List OpenTable). 0 < length us) (sym same) c.requires) ∙ same in
    scan_wants (arc_value c.args.run.now) lists held some c.culled.result
    (subst (λ (us : List OpenTable). IfErr c.culled.result (λ (e : Error). is_memory e ≡ false → first (tables_scan us) ≡ Some (Err e))) is c.culled.ensures.returned)
