-- What the opening of a compaction comes to. Assumes `Logic`.
use Rattle.std.proofs.Common.{◌≡◌, ℕ, ◌⊎◌, true, false, List, Option, Some, None, Result, sym, ap, inl, inr, subst}
use Rattle.std.specs.Prelude.{IsSomeAnd}
use Rattle.sst_entries.specs.Entry.{Entry}
use Rattle.sst_entries.specs.Error.{is_memory, number_of}
use Rattle.sst_entries.specs.declared.error.Error.{Error}
use Rattle.sst_entries.specs.declared.error.Error.TheVariants.{OutOfMemory}
use Rattle.lsm_sorted.specs.declared.compaction.Rules.{Rules}
use Rattle.lsm_readers.specs.point.Table.{OpenTable}
use Rattle.lsm_runs.specs.compaction.Words.{AreMergeable, first_blocks_fault}
use Rattle.sst_c.proofs.Answering.{fault_reports, memory_reports, no_fault_reports, not_zero}
use Rattle.sst_c.specs.Compact.{decode_compactor}
use Rattle.sst_c.specs.Compacting.{Compacting, KeptEntries, StartsCompaction}
use Rattle.sst_c.specs.CompactionSteps.{OpensCompaction}
use Rattle.sst_c.specs.Options.{are_usable}
use Rattle.sst_c.specs.What.{IsCompactionWhere, begun}
use Rattle.sst_c.specs.Writing.{FaultReported}
use Rattle.sst_c.specs.declared.held.Held.{Held}
use Rattle.sst_c.specs.declared.held.What.TheVariants.{Compaction, Runs}
use Rattle.sst_c.specs.declared.options.TableOptions.{TableOptions}

module _ (advances : KeptEntries → Option (Result Entry Error) → KeptEntries → Type 0) (options : TableOptions)
    (rules : Rules) (target : ℕ) (runs : List (List OpenTable)) (usable : are_usable options ≡ true) where
  pub opens_ok : (s : Compacting) (code : ℕ) (after : Option Held)
      → StartsCompaction advances runs rules (decode_compactor options target) s
      → first_blocks_fault runs ≡ None → (code ≡ 0) ⊎ (code ≡ 1)
      → (code ≡ 0 → after ≡ Some (begun (Compaction (Some s))))
      → OpensCompaction advances options rules target (Runs runs) code after
  opens_ok s code after starts none codes begins = record {
    unusable = λ are no. absurd (let differ : ⊥ = cc in differ);
    codes = λ are ok. elim codes [
      | inl zero ↦ subst (λ (n : ℕ). FaultReported n (first_blocks_fault runs)) (sym zero) (no_fault_reports _ none)
      | inr one ↦ subst (λ (n : ℕ). FaultReported n (first_blocks_fault runs)) (sym one) (memory_reports _)
    ];
    memory = λ are ok able. codes;
    starts = λ ok zero. subst (λ (k : Option Held). IsSomeAnd k (λ h. IsCompactionWhere
        (StartsCompaction advances runs rules (decode_compactor options target)) h.what)) (sym (begins zero)) starts;
  }

  pub opens_err : (e : Error) (after : Option Held) → (is_memory e ≡ false → first_blocks_fault runs ≡ Some e)
      → (AreMergeable runs → e ≡ OutOfMemory)
      → OpensCompaction advances options rules target (Runs runs) (number_of e) after
  opens_err e after fault memory = record {
    unusable = λ are no. absurd (let differ : ⊥ = cc in differ);
    codes = λ are ok. fault_reports e _ fault;
    memory = λ are ok able. inr (ap number_of (memory able));
    starts = λ ok zero. absurd (not_zero e zero);
  }
