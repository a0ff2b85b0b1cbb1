-- The faults of a writer that has failed, and those common to the writers of a table's parts.
use Rattle.std.specs.Prelude.{ℕ, ◌^◌, nat_le, Bool, Option, Some, None, if◌then◌else◌}
use Rattle.sst_entries.specs.declared.error.Error.{Error}
use Rattle.sst_entries.specs.declared.error.Error.TheVariants.{SectionTooLarge, WriterFailed}

abbrev pub failed_fault : Bool → Option Error
failed_fault failed = if failed then Some WriterFailed else None

-- the fault of a section whose length bound is too large
abbrev pub section_fault : ℕ → Option Error
section_fault bound = if nat_le (2 ^ 32) bound then Some SectionTooLarge else None
