use Rattle.std.proofs.Common.{◌≡◌, ◌∙◌, ap, subst, List, [], ◌∷◌, sym}
use Rattle.std.specs.Prelude.{IfSome, MatchOption}
use Rattle.sst_entries.specs.Entry.{Entry}
use Rattle.sst_entries.proofs.Refusals.{faults_refusal}
use Rattle.lsm_readers.specs.point.Table.{OpenTable}
use Rattle.lsm_sorted.specs.Compaction.{kept, unfiltered}
use Rattle.lsm_runs.specs.compaction.Chain.{FitsAsTables, IsRunOfList, tables_fault}
use Rattle.lsm_runs.proofs.Compactable.{run_listed}
use Rattle.lsm_runs.proofs.CompactedBack.{fault_alone, kept_alone}
use Rattle.lsm_runs.proofs.RunBack.{run_held}
use Rattle.lsm_runs.proofs.RunWriting.{wants}
use Rattle.example_calling.proofs.compacted.compact_alone.Goals as goal

pub returns-in_err-compacted-clause-taken : goal.returns-in_err-compacted-clause-taken
returns-in_err-compacted-clause-taken g c es is writable fits =
    let a = c.args in
    let rules = a.rules in
    let held = run_held es 0 a.run is _ (ap (λ (r : List OpenTable). r ∷ []) c.in_ok-new.ensures.ok) in
    wants c.from_residual-in_err-compacted.result c.in_err-compacted.field-0.0 c.from_residual-in_err-compacted.ensures.1
    (c.in_err-compacted.ensures.taken (is.lists ∷ []) held (subst (FitsAsTables a.ids a.target_size) (sym (kept_alone rules es a.run is)) fits))

pub returns-clause-run : goal.returns-clause-run
returns-clause-run g c es is =
    let a = c.args in
    let rules = a.rules in
    let held = run_held es 0 a.run is _ (ap (λ (r : List OpenTable). r ∷ []) c.in_ok-new.ensures.ok) in
    subst (λ (left : List Entry). MatchOption c.in_ok-compacted.compacted (left ≡ []) (λ new. IsRunOfList left 0 new)) (kept_alone rules es a.run is)
    (c.in_ok-compacted.ensures.run (is.lists ∷ []) held)

pub returns-clause-none : goal.returns-clause-none
returns-clause-none g c es is =
    let a = c.args in
    let rules = a.rules in
    let held = run_held es 0 a.run is _ (ap (λ (r : List OpenTable). r ∷ []) c.in_ok-new.ensures.ok) in
    subst (λ (left : List Entry). IfSome c.in_ok-compacted.compacted (λ _. left ≡ [] → ⊥)) (kept_alone rules es a.run is)
    (run_listed _ _ _ 0 c.in_ok-compacted.compacted (c.in_ok-compacted.ensures.run (is.lists ∷ []) held) (c.in_ok-compacted.ensures.cut (is.lists ∷ []) held))

pub returns-in_err-compacted-clause-refused : goal.returns-in_err-compacted-clause-refused
returns-in_err-compacted-clause-refused g c es is =
    let a = c.args in
    let rules = a.rules in
    let held = run_held es 0 a.run is _ (ap (λ (r : List OpenTable). r ∷ []) c.in_ok-new.ensures.ok) in
    let r = c.from_residual-in_err-compacted in
    faults_refusal r.result c.in_err-compacted.field-0.0 (tables_fault a.ids a.target_size 0 (kept rules (unfiltered es))) r.ensures.1
    (λ memory. sym (fault_alone a.ids a.target_size c.from-created_at.result rules es a.run is c.from-created_at.ensures) ∙ c.in_err-compacted.ensures.refused (is.lists ∷ []) held memory)

pub returns-clause-refused : goal.returns-clause-refused
returns-clause-refused g c es is =
    let a = c.args in
    let rules = a.rules in
    let held = run_held es 0 a.run is _ (ap (λ (r : List OpenTable). r ∷ []) c.in_ok-new.ensures.ok) in
    sym (fault_alone a.ids a.target_size c.from-created_at.result rules es a.run is c.from-created_at.ensures) ∙ c.in_ok-compacted.ensures.refused (is.lists ∷ []) held
