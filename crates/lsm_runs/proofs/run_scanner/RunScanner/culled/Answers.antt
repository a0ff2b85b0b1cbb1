use Rattle.std.proofs.Common.{◌≡◌, ◌+◌, ◌∙◌, List, ap, ℕ, arith, false}
use Rattle.std.specs.Prelude.{Some, Err}
use Rattle.std.specs.Arc.{arc_value}
use Rattle.std.specs.List.{slice_get}
use Rattle.sst_entries.specs.declared.error.Error.{Error}
use Rattle.sst_entries.specs.Error.{is_memory}
use Rattle.sst_entries.specs.Stream.{first}
use Rattle.lsm_readers.specs.point.Table.{OpenTable}
use Rattle.lsm_run_parts.specs.RunParts.{ends_given}
use Rattle.lsm_runs.specs.RunScan.{early_scan_fault, scan_fault, tables_between, tables_scan}
use Rattle.lsm_run_parts.proofs.Places.{table_at}
use Rattle.lsm_runs.proofs.ScanSteps.{begun, fault_passed, first_passed, lists_yield, passed_on, scan_yields, span_refused}
use Rattle.lsm_runs.proofs.run_scanner.RunScanner.culled.Goals as goal

pub returns-clause-is : goal.returns-clause-is
returns-clause-is g c =
    let ts = arc_value c.args.run in
    let ends = ends_given ts c.args.span in
    let given : c.ends_in-lo.result ≡ ends = c.ends_in-lo.ensures ∙ ap (λ (us : List OpenTable). ends_given us c.args.span) (c.as_slice.ensures ∙ c.deref.ensures) in
    let lo : c.ends_in-lo.result.0 ≡ ends.0 = ap (λ (e : ℕ × ℕ). e.0) given in
    let hi : c.ends_in-lo.result.1 ≡ ends.1 = ap (λ (e : ℕ × ℕ). e.1) given in
    let t = table_at ts ends.0 (omega (arith, c.requires.0, c.requires.1)) in
    let there : slice_get c.as_slice-2.result.now c.ends_in-lo.result.0 ≡ Some t.0 =
    ap (λ (us : List OpenTable). slice_get us c.ends_in-lo.result.0) (c.as_slice-2.ensures ∙ c.deref-2.ensures) ∙ ap (slice_get ts) lo ∙ t.1 in
    begun ts ends t.0 c.in_ok-reader.reader (c.ends_in-lo.result.0 + 1) c.place_behind-hi.result (omega (arith, lo)) (omega (arith, hi, c.place_behind-hi.ensures)) c.requires.0 t.1 (c.in_ok-reader.ensures.begins t.0 there)

pub returns-in_err-reader-clause-returned : goal.returns-in_err-reader-clause-returned
returns-in_err-reader-clause-returned g c =
    let ts = arc_value c.args.run in
    let ends = ends_given ts c.args.span in
    let given : c.ends_in-lo.result ≡ ends = c.ends_in-lo.ensures ∙ ap (λ (us : List OpenTable). ends_given us c.args.span) (c.as_slice.ensures ∙ c.deref.ensures) in
    let lo : c.ends_in-lo.result.0 ≡ ends.0 = ap (λ (e : ℕ × ℕ). e.0) given in
    let t = table_at ts ends.0 (omega (arith, c.requires.0, c.requires.1)) in
    let there : slice_get c.as_slice-2.result.now c.ends_in-lo.result.0 ≡ Some t.0 =
    ap (λ (us : List OpenTable). slice_get us c.ends_in-lo.result.0) (c.as_slice-2.ensures ∙ c.deref-2.ensures) ∙ ap (slice_get ts) lo ∙ t.1 in
    passed_on (λ (e : Error). is_memory e ≡ false → first (tables_scan (tables_between ts ends)) ≡ Some (Err e)) c.from_residual.result c.in_err-reader.field-0.0 c.from_residual.ensures.1
    (span_refused ts ends t.0 c.in_err-reader.field-0.0 c.requires.0 t.1 (c.in_err-reader.ensures.begins t.0 there))

pub returns-clause-yields : goal.returns-clause-yields
returns-clause-yields g c = scan_yields _ _ (returns-clause-is g c).left

pub returns-clause-list : goal.returns-clause-list
returns-clause-list g c lists some held = lists_yield (tables_between (arc_value c.args.run) (ends_given (arc_value c.args.run) c.args.span)) lists held some _ (returns-clause-is g c).left

pub returns-clause-lends : goal.returns-clause-lends
returns-clause-lends g c = scan_yields _ _ (returns-clause-is g c).left

pub returns-clause-lends_list : goal.returns-clause-lends_list
returns-clause-lends_list g c lists some held = lists_yield (tables_between (arc_value c.args.run) (ends_given (arc_value c.args.run) c.args.span)) lists held some _ (returns-clause-is g c).left

pub returns-clause-refused : goal.returns-clause-refused
returns-clause-refused g c t at =
    let ts = arc_value c.args.run in
    let given : c.ends_in-lo.result ≡ ends_given ts c.args.span = c.ends_in-lo.ensures ∙ ap (λ (us : List OpenTable). ends_given us c.args.span) (c.as_slice.ensures ∙ c.deref.ensures) in
    let there : slice_get c.as_slice-2.result.now c.ends_in-lo.result.0 ≡ Some t =
    ap (λ (us : List OpenTable). slice_get us c.ends_in-lo.result.0) (c.as_slice-2.ensures ∙ c.deref-2.ensures) ∙ ap (λ (e : ℕ × ℕ). slice_get ts e.0) given ∙ at in
    c.in_ok-reader.ensures.refused t there

pub returns-clause-early : goal.returns-clause-early
returns-clause-early g c t at =
    let ts = arc_value c.args.run in
    let given : c.ends_in-lo.result ≡ ends_given ts c.args.span = c.ends_in-lo.ensures ∙ ap (λ (us : List OpenTable). ends_given us c.args.span) (c.as_slice.ensures ∙ c.deref.ensures) in
    let there : slice_get c.as_slice-2.result.now c.ends_in-lo.result.0 ≡ Some t =
    ap (λ (us : List OpenTable). slice_get us c.ends_in-lo.result.0) (c.as_slice-2.ensures ∙ c.deref-2.ensures) ∙ ap (λ (e : ℕ × ℕ). slice_get ts e.0) given ∙ at in
    c.in_ok-reader.ensures.early t there

pub returns-in_err-reader-clause-refused : goal.returns-in_err-reader-clause-refused
returns-in_err-reader-clause-refused g c t at =
    let ts = arc_value c.args.run in
    let given : c.ends_in-lo.result ≡ ends_given ts c.args.span = c.ends_in-lo.ensures ∙ ap (λ (us : List OpenTable). ends_given us c.args.span) (c.as_slice.ensures ∙ c.deref.ensures) in
    let there : slice_get c.as_slice-2.result.now c.ends_in-lo.result.0 ≡ Some t =
    ap (λ (us : List OpenTable). slice_get us c.ends_in-lo.result.0) (c.as_slice-2.ensures ∙ c.deref-2.ensures) ∙ ap (λ (e : ℕ × ℕ). slice_get ts e.0) given ∙ at in
    fault_passed c.from_residual.result c.in_err-reader.field-0.0 c.from_residual.ensures.1 (scan_fault t) (c.in_err-reader.ensures.refused t there)

pub returns-in_err-reader-clause-early : goal.returns-in_err-reader-clause-early
returns-in_err-reader-clause-early g c t at =
    let ts = arc_value c.args.run in
    let given : c.ends_in-lo.result ≡ ends_given ts c.args.span = c.ends_in-lo.ensures ∙ ap (λ (us : List OpenTable). ends_given us c.args.span) (c.as_slice.ensures ∙ c.deref.ensures) in
    let there : slice_get c.as_slice-2.result.now c.ends_in-lo.result.0 ≡ Some t =
    ap (λ (us : List OpenTable). slice_get us c.ends_in-lo.result.0) (c.as_slice-2.ensures ∙ c.deref-2.ensures) ∙ ap (λ (e : ℕ × ℕ). slice_get ts e.0) given ∙ at in
    first_passed c.from_residual.result c.in_err-reader.field-0.0 c.from_residual.ensures.1 (early_scan_fault t) (c.in_err-reader.ensures.early t there)
