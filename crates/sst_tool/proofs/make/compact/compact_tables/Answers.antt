use Rattle.std.proofs.Common.{◌≡◌, ◌∙◌, ap, map, rules, subst, sym, ℕ, List, []}
use Rattle.std.specs.Option.{MatchOption}
use Rattle.std.specs.Prelude.{None, Option, Some}
use Rattle.std.specs.Arc.{arc_value}
use Rattle.lsm_runs.specs.compaction.OpenedBy.{AreOpenedBy, HasRunBy, default_opening}
use Rattle.lsm_runs.specs.declared.compaction.any_runs.CompactionOutcome.{CompactionOutcome}
use Rattle.lsm_runs.specs.declared.compaction.any_runs.CompactionOutcome.TheVariants.{OutOfOrder}
use Rattle.lsm_runs.specs.declared.compaction.any_runs.CompactionOutcome.TheVariants.{Stopped}
use Rattle.lsm_runs.specs.declared.compaction.any_runs.CompactionOutcome.TheVariants.{Tables}
use Rattle.lsm_writers.specs.Tables.{TablesWriting}
use Rattle.lsm_writers.specs.declared.writer.FinishedTable.{FinishedTable}
use Rattle.lsm_readers.specs.point.Table.{OpenTable}
use Rattle.lsm_runs.specs.compaction.AnyRuns.{AreTablesBy, CameInOrder, HasMade}
use Rattle.lsm_runs.specs.compaction.Compacted.{AreCompactable}
use Rattle.lsm_runs.specs.RunLists.{RunsHoldLists}
use Rattle.lsm_runs.specs.compaction.Compacted.{kept_in}
use Rattle.sst_tool.specs.make.Compacted.{HasCount, counted, each_alone}
use Rattle.sst_tool.proofs.make.compact.compact_tables.Goals as goal

-- a run's entries are those of what it came to
count_told : {A : Type 0} (o : CompactionOutcome A) (r : Option (List OpenTable)) (n : ℕ)
    → HasRunBy default_opening o r → MatchOption r (n ≡ 0) (λ ts. n ≡ counted ts) → HasCount o n
count_told {A} (Tables fs left) None n none returned = (
  [],
  subst (λ (xs : List (FinishedTable A)). AreOpenedBy default_opening xs []) (sym none) tt,
  returned,
)
count_told (Tables fs left) (Some ts) n opened returned = (ts, opened.1, returned)
count_told OutOfOrder r n opened returned = tt
count_told Stopped r n opened returned = tt

pub returns-clause-count : goal.returns-clause-count
returns-clause-count g c =
    let same : c.default-how.result ≡ default_opening = search rules in
    count_told c.in_ok-outcome.outcome c.in_ok-outcome.run' c.count_run-entries.result
    (rw same at c.in_ok-outcome.ensures.opened) c.count_run-entries.ensures

pub returns-clause-made : goal.returns-clause-made
returns-clause-made g c =
    subst (λ (w : TablesWriting). HasMade w c.in_ok-outcome.outcome) c.in_ok-writer.ensures.ok
    c.in_ok-outcome.ensures.made

pub returns-clause-merged : goal.returns-clause-merged
returns-clause-merged g c = λ lists hold have.
    let runs : map arc_value c.deref.result.now ≡ each_alone c.args.tables.now
    = ap (map arc_value) c.deref.ensures.value ∙ c.in_ok-runs.ensures.ok in
    subst (λ (w : TablesWriting).
    CameInOrder w (kept_in c.args.options.now.rules lists) c.in_ok-outcome.outcome)
    c.in_ok-writer.ensures.ok
    (c.in_ok-outcome.ensures.merged lists
    (subst (λ (rs : List (List OpenTable)). RunsHoldLists rs lists) (sym runs) hold) have)

pub returns-clause-tables : goal.returns-clause-tables
returns-clause-tables g c = λ able lists hold.
    let runs : map arc_value c.deref.result.now ≡ each_alone c.args.tables.now
    = ap (map arc_value) c.deref.ensures.value ∙ c.in_ok-runs.ensures.ok in
    subst (λ (w : TablesWriting).
    AreTablesBy w (kept_in c.args.options.now.rules lists) c.in_ok-outcome.outcome)
    c.in_ok-writer.ensures.ok
    (c.in_ok-outcome.ensures.tables (subst AreCompactable (sym runs) able) lists
    (subst (λ (rs : List (List OpenTable)). RunsHoldLists rs lists) (sym runs) hold))
