-- What is kept of a list that can be written can be written.
use Rattle.std.proofs.Common.{◌-◌, ◌^◌, ◌<◌, List, arith}
use Rattle.std.specs.List.{AllByRecursion}
use Rattle.sst_entries.specs.Entry.{Entry}
use Rattle.lsm_sorted.specs.declared.compaction.Rules.{Rules}
use Rattle.lsm_sorted.specs.Compaction.{kept, unfiltered}
use Rattle.lsm_sorted.proofs.KeptLemmas.{all_kept, stays_strict, zeroed_below}
use Rattle.lsm_writers.specs.Writing.{IsWritable}

pub kept_numbered : (rules : Rules) (es : List Entry)
    → AllByRecursion (λ (e : Entry). e.seqno < 2 ^ 64 - 1) es
    → AllByRecursion (λ (e : Entry). e.seqno < 2 ^ 64 - 1) (kept rules (unfiltered es))
kept_numbered rules = all_kept rules (λ (e : Entry). e.seqno < 2 ^ 64 - 1)
    (λ e low. let below = zeroed_below rules e in omega (arith, below, low))

pub stays_writable : (rules : Rules) (es : List Entry) → IsWritable es
    → IsWritable (kept rules (unfiltered es))
stays_writable rules es h = record {
  strict = stays_strict rules es h.strict;
  numbered = kept_numbered rules es h.numbered;
}
