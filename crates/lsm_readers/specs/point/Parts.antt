-- The result of opening a table: its facts, its regions, and its pinned blocks.
use Rattle.std.specs.Prelude.{◌≡◌, ℕ, ◌+◌, ◌-◌, ◌^◌, ◌&&◌, nat_lt, Bool, List, [], length, map, Option}
use Rattle.std.specs.Prelude.{Some, None, is_none, Result, Ok, Err, if◌then◌else◌}
use Rattle.std.specs.Option.{option_or}
use Rattle.sst_blocks.specs.declared.block_type.BlockType.TheVariants.{Filter, Meta}
use Rattle.sst_entries.specs.declared.error.Error.{Error}
use Rattle.sst_entries.specs.declared.error.Error.TheVariants.{GlobalSeqNoTooLarge}
use Rattle.sst_blocks.specs.Block.{load_result, place_fault}
use Rattle.sst_entries.specs.Error.{unless}
use Rattle.sst_blocks.specs.Handle.{Handle}
use Rattle.sst_blocks.specs.Place.{Place}
use Rattle.sst_blocks.specs.filter.Filter.{BloomFilter, filter_in, payload_of}
use Rattle.sst_blocks.specs.declared.section.Section.{Section}
use Rattle.sst_blocks.specs.Sections.{body_of, section_in, section_names, trailer_fault}
use Rattle.lsm_sorted.specs.version.KeyRange.{Interval, interval}
use Rattle.lsm_readers.specs.declared.regions.ParsedRegions.{ParsedRegions}
use Rattle.lsm_readers.specs.point.IndexKinds.{PinnedIndex, handles_result, index_result}
use Rattle.lsm_readers.specs.point.Meta.{Facts, meta_result}
use Rattle.lsm_readers.specs.point.Regions.{regions_result}
use Rattle.lsm_readers.specs.point.Read.{◌>>=◌}

-- The pinned blocks: those of the index, a partitioned filter's top level, and a full filter's
-- block.
pub record Pinned : Type 0 where
  pub index : PinnedIndex
  pub filter_tops : Option (List Handle)
  pub filter : Option BloomFilter

pub record Parts : Type 0 where
  pub facts : Facts
  pub regions : ParsedRegions
  pub pinned : Pinned

-- The top level of a filter, if it has one.
abbrev pub tops_result : List ℕ → Option Place → Result (Option (List Handle)) Error
tops_result body None = Ok None
tops_result body (Some place) = handles_result body place >>= λ tops. Ok (Some tops)

-- The filter of a block, if there is one.
abbrev pub filter_result : List ℕ → Option Place → Result (Option BloomFilter) Error
filter_result body None = Ok None
filter_result body (Some place) =
    load_result body place.offset place.size Filter >>= λ block. Ok (Some (filter_in block.payload))

-- The filter block to be pinned: that of a full filter, if requested.
abbrev pub pinned_filter : ParsedRegions → Bool → Option Place
pinned_filter regions pin =
    if pin && is_none regions.filter_tli then regions.filter else None

-- The pinned blocks, loaded in the order in which their errors are reported.
unfoldable pub pinned_result : List ℕ → ParsedRegions → Bool → Bool → Result Pinned Error
pinned_result body regions pin_filter pin_index =
    index_result body regions pin_index >>= λ index.
    tops_result body regions.filter_tli >>= λ filter_tops.
    filter_result body (pinned_filter regions pin_filter) >>= λ filter.
    Ok (record { index = index; filter_tops = filter_tops; filter = filter })

-- The facts, or `GlobalSeqNoTooLarge` if the highest seqno overflows with the global one added.
abbrev pub facts_fitting : Facts → ℕ → Result Facts Error
facts_fitting facts g =
    if nat_lt (2 ^ 64 - 1) (facts.seqno_max + g) then Err GlobalSeqNoTooLarge else Ok facts

-- The meta block's facts, if the global seqno fits.
abbrev pub fitting_result : List ℕ → Place → ℕ → Result Facts Error
fitting_result body place g = meta_result body place >>= λ facts. facts_fitting facts g

-- The table's regions, by the sections that the trailer names.
abbrev pub places_result : List ℕ → Result ParsedRegions Error
places_result bytes = regions_result (map (section_in bytes) section_names)

-- This holds of any bytes whose trailer has these sections, and that have this body.
abbrev pub OnBytes : List (Option Section) → List ℕ → (List ℕ → Type 0) → Type 0
OnBytes toc body P =
    (bytes : List ℕ) → toc ≡ map (section_in bytes) section_names → body ≡ body_of bytes → P bytes

-- The regions, the meta block, the global seqno check and the pinned blocks, in this order.
unfoldable pub parts_result : List ℕ → ℕ → Bool → Bool → Result Parts Error
parts_result bytes g pin_filter pin_index =
    places_result bytes >>= λ regions.
    meta_result (body_of bytes) regions.metadata >>= λ facts.
    facts_fitting facts g >>= λ facts.
    pinned_result (body_of bytes) regions pin_filter pin_index >>= λ pinned.
    Ok (record { facts = facts; regions = regions; pinned = pinned })

-- The result of opening some bytes, trailer first.
abbrev pub recovered_result : List ℕ → ℕ → Bool → Bool → Result Parts Error
recovered_result bytes g pin_filter pin_index =
    unless (trailer_fault bytes) (parts_result bytes g pin_filter pin_index)

-- The error of opening that precedes allocation: of the trailer, the regions, or the meta block's
-- early checks.
abbrev pub early_in : List ℕ → Result ParsedRegions Error → Option Error
early_in body (Ok regions) = place_fault body regions.metadata.offset regions.metadata.size Meta
early_in body (Err e) = Some e

abbrev pub early_fault : List ℕ → Option Error
early_fault bytes = option_or (trailer_fault bytes) (early_in (body_of bytes) (places_result bytes))

-- The key range in a table's meta block, whichever blocks are pinned.
abbrev pub range_in : Result Facts Error → Interval
range_in (Ok facts) = facts.key_range
range_in (Err e) = interval [] []

abbrev pub key_range_result : List ℕ → Interval
key_range_result bytes =
    range_in (places_result bytes >>= λ regions. meta_result (body_of bytes) regions.metadata)

-- The size of a region, or 0 if it is absent.
abbrev pub place_size : Option Place → ℕ
place_size None = 0
place_size (Some p) = p.size

-- The payload length of the pinned filter, or 0 if none is pinned.
abbrev pub filter_len : Option BloomFilter → ℕ
filter_len None = 0
filter_len (Some filter) = length (payload_of filter)
