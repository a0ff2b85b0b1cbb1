-- The result of a read as reported to C.
use Rattle.std.specs.Prelude.{◌≡◌, ℕ, ◌+◌, ◌⊎◌, Bool, true, List, length, is_some}
use Rattle.std.specs.Prelude.{Option, Some, None, Result, Ok, Err}
use Rattle.std.specs.Option.{option_and_then}
use Rattle.sst_entries.specs.Entry.{Entry}
use Rattle.sst_entries.specs.Error.{number_of}
use Rattle.sst_entries.specs.Kind.{tag_of}
use Rattle.sst_entries.specs.declared.error.Error.{Error}
use Rattle.sst_blocks.specs.EntryPlace.{placed_in}
use Rattle.sst_blocks.specs.declared.entry_place.EntryPlace.{EntryPlace}
use Rattle.lsm_readers.specs.point.Table.{OpenTable}
use Rattle.lsm_runs.specs.RunPlaces.{placed_in_runs}
use Rattle.lsm_runs.specs.declared.lent_gets.RunPlace.{RunPlace}
use Rattle.sst_c.specs.Newest.{newest_lent}
use Rattle.sst_c.specs.declared.entries.EntryReport.{EntryReport}
use Rattle.sst_c.specs.declared.held.FoundEntry.{FoundEntry}
use Rattle.sst_c.specs.declared.held.FoundEntry.TheVariants.{InRuns, InTable, Kept, Lent}
use Rattle.sst_c.specs.declared.held.Held.{Held}
use Rattle.sst_c.specs.declared.held.What.{What}
use Rattle.sst_c.specs.declared.held.What.TheVariants.{Range, Runs, RunsScan, Scan, Table}

-- the kind, sequence number and lengths of an entry, or zeros if there is none
abbrev pub entry_facts : Option Entry → EntryReport
entry_facts None = record { kind = 0; seqno = 0; key_len = 0; value_len = 0 }
entry_facts (Some e) = record {
  kind = 1 + tag_of e.kind;
  seqno = e.seqno;
  key_len = length e.user_key;
  value_len = length e.value;
}

-- the entry that the held scan or range borrows
abbrev pub borrowed_in : What → Option Entry
borrowed_in (Scan s) = s.lent
borrowed_in (Range s) = s.lent
borrowed_in (RunsScan m) = option_and_then newest_lent m
borrowed_in _ = None

-- the entry at a position in the bytes of the held table
abbrev pub in_table : EntryPlace → What → Option Entry
in_table p (Table t) = placed_in t.bytes p
in_table p _ = None

-- the entry at a position in the tables of the held runs
abbrev pub in_runs : RunPlace → What → Option Entry
in_runs p (Runs rs) = placed_in_runs rs p
in_runs p _ = None

-- the entry that the last read found: kept, borrowed, or at a position
abbrev pub found_at : FoundEntry → What → Option Entry
found_at (Kept found) what = found
found_at Lent what = borrowed_in what
found_at (InTable p) what = in_table p what
found_at (InRuns p) what = in_runs p what

-- the entry that the last read of the held object found
abbrev pub found_by : Held → Option Entry
found_by h = found_at h.found h.what

-- the entry that the last read through a handle found
abbrev pub found_in : Option Held → Option Entry
found_in None = None
found_in (Some h) = found_by h

-- the entry that a read found, or none if it failed
abbrev pub found_of : Result (Option Entry) Error → Option Entry
found_of (Ok x) = x
found_of (Err e) = None

-- the position that a read of a table found, or none if it failed
abbrev pub kept_in_table : Result (Option EntryPlace) Error → FoundEntry
kept_in_table (Ok None) = Kept None
kept_in_table (Ok (Some p)) = InTable p
kept_in_table (Err e) = Kept None

-- the position that a read of runs found, or none if it failed
abbrev pub kept_in_runs : Result (Option RunPlace) Error → FoundEntry
kept_in_runs (Ok None) = Kept None
kept_in_runs (Ok (Some p)) = InRuns p
kept_in_runs (Err e) = Kept None

-- it is not a position in the runs without an entry
abbrev pub is_settled : FoundEntry → List (List OpenTable) → Bool
is_settled (InRuns p) rs = is_some (placed_in_runs rs p)
is_settled _ rs = true

-- the call reports the result: 0 with the entry or none, or the error code. It returns 1 without an
-- entry if out of memory
abbrev pub AnswersRead : ℕ → Option Entry → Result (Option Entry) Error → Type 0
AnswersRead code found (Ok x) = ((code ≡ 0) × (found ≡ x)) ⊎ ((code ≡ 1) × (found ≡ None))
AnswersRead code found (Err e) = ((code ≡ number_of e) ⊎ (code ≡ 1)) × (found ≡ None)

-- the result of a step of a range: an entry, none at the end, or an error
abbrev pub outcome_of : Option (Result Entry Error) → Result (Option Entry) Error
outcome_of None = Ok None
outcome_of (Some (Ok e)) = Ok (Some e)
outcome_of (Some (Err e)) = Err e
