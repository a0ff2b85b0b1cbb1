-- The handles of an index writer of either kind.
use Rattle.lsm_writers.specs.section.Registered.{Registered}
use Rattle.lsm_writers.specs.declared.section.index_either.IndexWriterImpl.{IndexWriterImpl}
use Rattle.lsm_writers.specs.declared.section.index_either.IndexWriterImpl.TheVariants.{
  Full,
  Partitioned,
}

-- the state of the index writer: handles, kind, and whether a call failed
abbrev pub registered_by : {A : Type 0} → IndexWriterImpl A → Registered
registered_by (Full w) = w
registered_by (Partitioned w) = w
