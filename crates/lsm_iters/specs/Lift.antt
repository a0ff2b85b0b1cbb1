-- Applying a table's global sequence number to entries.
use Rattle.std.specs.Prelude.{ℕ, ◌+◌, ◌-◌, ◌^◌, nat_lt, List, map, Result, Ok, Err, if◌then◌else◌}
use Rattle.sst_entries.specs.declared.error.Error.{Error}
use Rattle.sst_entries.specs.declared.error.Error.TheVariants.{SeqNoOverflow}
use Rattle.sst_entries.specs.Entry.{Entry}

-- An entry, and a list, with the global seqno added to each stored one.
abbrev pub lifted : ℕ → Entry → Entry
lifted g e = record e { seqno = e.seqno + g }

abbrev pub lift : List Entry → ℕ → List Entry
lift es g = map (lifted g) es

-- A stored seqno with the global one added, or `SeqNoOverflow`.
abbrev pub global_seqno_result : ℕ → ℕ → Result ℕ Error
global_seqno_result g n = if nat_lt (2 ^ 64 - 1) (n + g) then Err SeqNoOverflow else Ok (n + g)

-- An entry with the global seqno added, or `SeqNoOverflow`.
abbrev pub lifted_result : ℕ → Entry → Result Entry Error
lifted_result g e = if nat_lt (2 ^ 64 - 1) (e.seqno + g) then Err SeqNoOverflow else Ok (lifted g e)

-- A list of entries with the global seqno added to each.
abbrev pub lift_results : ℕ → List Entry → List (Result Entry Error)
lift_results g es = map (lifted_result g) es
