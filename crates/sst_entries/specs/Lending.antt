-- Entries of a lending iterator.
use Rattle.std.specs.Prelude.{Bool, Option, Result, Some, Ok, Err}
use Rattle.std.specs.Option.{option_map}
use Rattle.std.specs.Ordering.{nat_cmp, on, then_cmp}
use Rattle.std.specs.declared.cmp.Ordering.{Ordering}
use Rattle.sst_entries.specs.Entry.{Entry, entry}
use Rattle.sst_entries.specs.Kind.{tag_of}
use Rattle.sst_entries.specs.Strict.{version_cmp}
use Rattle.sst_entries.specs.declared.entry_ref.EntryRef.{EntryRef}
use Rattle.sst_entries.specs.declared.error.Error.{Error}

-- The entry that a borrowed entry denotes.
abbrev pub entry_of_ref : EntryRef → Entry
entry_of_ref e = entry e.user_key.now e.value.now e.seqno e.value_type

-- The order of entries: key ascending, sequence number descending, tag ascending. Values are
-- ignored.
abbrev pub entry_cmp : Entry → Entry → Ordering
entry_cmp = then_cmp version_cmp (on (λ (e : Entry). tag_of e.kind) nat_cmp)

-- The item that `advance` yields: the entry that is then borrowed, nothing, or an error.
abbrev pub came : Result Bool Error → Option Entry → Option (Result Entry Error)
came (Ok more) lent = option_map (λ e. Ok e) lent
came (Err e) lent = Some (Err e)
