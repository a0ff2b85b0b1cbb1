-- A filter's verdict, without its allocator.
use Rattle.std.specs.Prelude.{Result, Ok, Err}
use Rattle.sst_entries.specs.declared.error.Error.{Error}
use Rattle.lsm_sorted.specs.declared.compaction.stream.StreamFilterVerdict.{StreamFilterVerdict}
use Rattle.lsm_sorted.specs.declared.compaction.stream.StreamFilterVerdict.TheVariants.{Keep}
use Rattle.lsm_sorted.specs.declared.compaction.stream.StreamFilterVerdict.TheVariants.{Replace}
use Rattle.lsm_sorted.specs.declared.compaction.stream.StreamFilterVerdict.TheVariants.{Drop}
use Rattle.lsm_sorted.specs.Compaction.{Verdict, keep, replace, drop}

-- the verdict as a plain value
abbrev pub verdict_of : {A : Type 0} → StreamFilterVerdict A → Verdict
verdict_of Keep = keep
verdict_of (Replace p) = replace p.0 p.1
verdict_of Drop = drop

-- a filter's result with its verdict as a plain value
abbrev pub said : {A : Type 0} → Result (StreamFilterVerdict A) Error → Result Verdict Error
said (Ok v) = Ok (verdict_of v)
said (Err e) = Err e
