-- What is told of a compaction. Assumes `Logic`.
use Rattle.std.proofs.Common.{◌≡◌, ℕ, ◌⊎◌, List, [], Option, Some, None, Ok, Err, refl, inl, inr}
use Rattle.std.specs.Prelude.{IsSomeAnd, unwrap_or}
use Rattle.std.specs.Global.{Global}
use Rattle.sst_entries.specs.Error.{number_of}
use Rattle.sst_entries.specs.declared.error.Error.{Error}
use Rattle.lsm_runs.specs.declared.compaction.any_runs.CompactionOutcome.{CompactionOutcome}
use Rattle.lsm_runs.specs.declared.compaction.any_runs.CompactionOutcome.TheVariants.{OutOfOrder}
use Rattle.lsm_runs.specs.declared.compaction.any_runs.CompactionOutcome.TheVariants.{Stopped}
use Rattle.lsm_runs.specs.declared.compaction.any_runs.CompactionOutcome.TheVariants.{Tables}
use Rattle.lsm_writers.specs.declared.writer.FinishedTable.{FinishedTable}
use Rattle.sst_c.specs.Compact.{ReportsOutcome}
use Rattle.sst_c.specs.Reported.{found_by}
use Rattle.sst_c.specs.What.{HoldsFiles}
use Rattle.sst_c.specs.declared.held.Held.{Held}

pub outcome_err : (e : Error) (held : Option Held) (next : ℕ)
    → ReportsOutcome (number_of e) held next (Err e)
unfolding ReportsOutcome
outcome_err e held next = refl

pub outcome_order : (held : Option Held) (next : ℕ) → ReportsOutcome 104 held next (Ok OutOfOrder)
unfolding ReportsOutcome
outcome_order held next = refl

pub both_some : {X : Type 0} (o : Option X) (P Q : X → Type 0) → IsSomeAnd o P → IsSomeAnd o Q
    → IsSomeAnd o (λ x. P x × Q x)
both_some (Some x) P Q p q = (p, q)
both_some None P Q p q = p

abbrev finished_in : CompactionOutcome Global → List (FinishedTable Global)
finished_in (Tables tables left) = tables.items
finished_in OutOfOrder = []
finished_in Stopped = []

abbrev left_in : CompactionOutcome Global → Option ℕ
left_in (Tables tables left) = left
left_in OutOfOrder = None
left_in Stopped = None

abbrev has_tables : CompactionOutcome Global → Type 0
has_tables (Tables tables left) = Unit {0}
has_tables OutOfOrder = ⊥
has_tables Stopped = ⊥

-- finished tables are held and told, or memory is wanted
pub outcome_tables : (o : CompactionOutcome Global) → has_tables o → (code next : ℕ)
    (held : Option Held) → (code ≡ 0) ⊎ (code ≡ 1)
    → (code ≡ 0 → IsSomeAnd held (λ h. found_by h ≡ None))
    → (code ≡ 0 → IsSomeAnd held (λ h. HoldsFiles (finished_in o) h.what))
    → (code ≡ 0 → next ≡ unwrap_or (left_in o) 0)
    → ReportsOutcome code held next (Ok o)
unfolding ReportsOutcome
outcome_tables (Tables tables left) has code next held codes new files ids = elim codes [
  | inl zero ↦ inr (zero, both_some held (λ h. found_by h ≡ None) (λ h. HoldsFiles tables.items h.what) (new zero) (files zero), ids zero)
  | inr one ↦ inl one
]
outcome_tables OutOfOrder has code next held codes new files ids = absurd has
outcome_tables Stopped has code next held codes new files ids = absurd has

pub ruleset reported_outcomes = (outcome_err, outcome_order)
