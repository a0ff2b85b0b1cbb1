use Rattle.std.proofs.Common.{◌∙◌, ap, sym, subst, ℕ, length}
use Rattle.std.specs.Prelude.{Option}
use Rattle.lsm_runs.specs.compaction.Chain.{FitsAsTables, both_fault, ids_behind}
use Rattle.lsm_runs.proofs.CompactedBack.{first_refused, fits_behind, none_refused}
use Rattle.lsm_runs.proofs.CompactedBack.{small_numbers, then_refused}
use Rattle.lsm_runs.proofs.CompactedBack.{written_run_is_compactable}
use Rattle.lsm_runs.proofs.RunWriting.{wants}
use Rattle.lsm_sorted.specs.Compaction.{kept, unfiltered}
use Rattle.sst_entries.proofs.Refusals.{faults_refusal}
use Rattle.sst_entries.proofs.Lists.{none_of}
use Rattle.sst_entries.specs.Error.{Faults}
use Rattle.example_calling.proofs.compacted.write_and_compact.Goals as goal

pub compact_alone-requires : goal.compact_alone-requires
compact_alone-requires g c =
    let is = rw c.in-Some.is at c.in_ok-run.ensures.run in
    let cut = rw c.in-Some.is at c.in_ok-run.ensures.cut in
    written_run_is_compactable _ c.args.target_size c.args.items.items c.in-Some.run' c.requires is cut

pub returns-in_err-run-clause-taken : goal.returns-in_err-run-clause-taken
returns-in_err-run-clause-taken g c first fits =
    let a = c.args in
    let r = c.from_residual-in_err-run in
    let same = subst (λ (o : Option ℕ). FitsAsTables o a.target_size a.items.items) (sym c.new-ids.ensures) first in
    wants r.result c.in_err-run.field-0.0 r.ensures.1 (c.in_err-run.ensures.taken same (small_numbers a.items.items c.requires.numbered))

pub returns-clause-taken : goal.returns-clause-taken
returns-clause-taken g c first fits =
    let a = c.args in
    let run = c.in-Some.run' in
    let is = rw c.in-Some.is at c.in_ok-run.ensures.run in
    let cut = rw c.in-Some.is at c.in_ok-run.ensures.cut in
    let ids = rw c.in-Some.is at c.in_ok-run.ensures.ids in
    let from_1 = ids ∙ ap (λ (o : Option ℕ). ids_behind o a.target_size (length run)) c.new-ids.ensures in
    c.compact_alone.ensures.taken a.items.items is c.requires (fits_behind _ a.target_size a.items.items _ run c.in_ok-run.ids cut from_1 first fits)

pub returns-clause-none : goal.returns-clause-none
returns-clause-none g c = c.compact_alone.ensures.none c.args.items.items (rw c.in-Some.is at c.in_ok-run.ensures.run)

pub returns-in_err-run-clause-refused : goal.returns-in_err-run-clause-refused
returns-in_err-run-clause-refused g c tables are =
    let a = c.args in
    let left = kept a.rules (unfiltered a.items.items) in
    let r = c.from_residual-in_err-run in
    let e = c.in_err-run.field-0.0 in
    faults_refusal r.result e (both_fault a.target_size a.items.items tables left) r.ensures.1
    (λ fine. first_refused c.new-ids.result a.target_size c.from-created_at.result a.items.items c.new-ids.ensures c.from-created_at.ensures e tables left (small_numbers a.items.items c.requires.numbered) (c.in_err-run.ensures.refused fine))

pub returns-clause-refused : goal.returns-clause-refused
returns-clause-refused g c tables are =
    let a = c.args in
    let run = c.in-Some.run' in
    let left = kept a.rules (unfiltered a.items.items) in
    let is = rw c.in-Some.is at c.in_ok-run.ensures.run in
    let cut = rw c.in-Some.is at c.in_ok-run.ensures.cut in
    let behind = rw c.in-Some.is at c.in_ok-run.ensures.ids in
    let same = then_refused c.new-ids.result a.target_size c.from-created_at.result a.items.items c.new-ids.ensures c.from-created_at.ensures _ run c.in_ok-run.ids cut behind c.in_ok-run.ensures.refused tables are left in
    subst (Faults c.compact_alone.result) same (c.compact_alone.ensures.refused a.items.items is)

pub returns-in_default-clause-refused : goal.returns-in_default-clause-refused
returns-in_default-clause-refused g c tables are =
    let a = c.args in
    let rules = a.rules in
    let none = rw (none_of c.in_ok-run.run' c.in_default.not-Some) at c.in_ok-run.ensures.run in
    none_refused c.new-ids.result a.target_size c.from-created_at.result a.items.items c.new-ids.ensures c.from-created_at.ensures rules tables none c.in_ok-run.ensures.refused are
