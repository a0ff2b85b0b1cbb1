-- What readers see of what is kept of several runs.
use Rattle.std.proofs.Common.{◌≡◌, ℕ, ◌≤◌, inl, List}
use Rattle.std.specs.Prelude.{map}
use Rattle.lsm_tables.specs.Words.{Entry, Rules, all_entries, joined, kept_in, ok_results, seen}
use Rattle.lsm_tables.specs.Words.{union_in}
use Rattle.lsm_tables.proofs.TableLaws.{ascends_in_order, reads_alike}

-- at the watermark and above they see what they saw
pub kept_alike : (rules : Rules) (lists : List (List (List Entry))) (key : List ℕ) (bound : ℕ)
    → rules.watermark ≤ bound
    → seen (kept_in rules lists) key bound ≡ seen (union_in lists) key bound
kept_alike rules lists key bound reads = reads_alike rules (union_in lists)
    (ascends_in_order (all_entries (map (λ (run : List (List Entry)). ok_results (joined run))
    lists))) key bound (inl reads)
