-- The regions of a table, from the sections in its trailer.
use Rattle.std.specs.Prelude.{◌^◌, nat_le, List, Option, Some, None, Result, Ok, Err}
use Rattle.std.specs.Prelude.{slice_index_or, if◌then◌else◌}
use Rattle.sst_entries.specs.declared.error.Error.{Error}
use Rattle.sst_entries.specs.declared.error.Error.TheVariants.{SectionTooLarge, MissingSection}
use Rattle.sst_blocks.specs.declared.section.Section.{Section}
use Rattle.sst_blocks.specs.declared.section.SectionName.{SectionName}
use Rattle.sst_blocks.specs.declared.section.SectionName.TheVariants.{Index, Tli, Filter}
use Rattle.sst_blocks.specs.declared.section.SectionName.TheVariants.{FilterTli, Meta}
use Rattle.sst_blocks.specs.Place.{Place}
use Rattle.sst_blocks.specs.Sections.{slot_index}
use Rattle.lsm_readers.specs.point.Read.{◌>>=◌}
use Rattle.lsm_readers.specs.declared.regions.ParsedRegions.{ParsedRegions}

-- A section as an offset and a size, which must be below 2^32.
abbrev pub region_result : Section → Result Place Error
region_result s =
    if nat_le (2 ^ 32) s.len then Err SectionTooLarge
    else Ok (record { offset = s.position; size = s.len })

-- A section that may be absent.
abbrev pub optional_result : Option Section → Result (Option Place) Error
optional_result None = Ok None
optional_result (Some s) = region_result s >>= λ p. Ok (Some p)

-- A section that must be present.
abbrev pub needed_result : Option Section → Result Place Error
needed_result None = Err MissingSection
needed_result (Some s) = region_result s

abbrev pub section_named : List (Option Section) → SectionName → Option Section
section_named toc name = slice_index_or toc (slot_index name) None

-- The regions, in the order in which their errors are reported.
unfoldable pub regions_result : List (Option Section) → Result ParsedRegions Error
regions_result toc =
    optional_result (section_named toc FilterTli) >>= λ filter_tli.
    needed_result (section_named toc Tli) >>= λ tli.
    optional_result (section_named toc Index) >>= λ index.
    optional_result (section_named toc Filter) >>= λ filter.
    needed_result (section_named toc Meta) >>= λ metadata.
    Ok (record {
      tli = tli;
      index = index;
      filter_tli = filter_tli;
      filter = filter;
      metadata = metadata;
    })
