-- The entries that a writer took.
use Rattle.std.specs.Prelude.{◌≡◌, ◌++◌, None, List, [], ◌∷◌, true}
use Rattle.sst_entries.specs.Entry.{Entry}
use Rattle.lsm_writers.specs.Tables.{TablesWriting, all_written, took, took_fault}
use Rattle.lsm_writers.specs.Writing.{may_be_written}

-- The writer took these entries one after another, each of which might follow.
abbrev pub TookAll : TablesWriting → List Entry → TablesWriting → Type 0
TookAll w [] m = m ≡ w
TookAll w (e ∷ es) m =
    (took_fault w e ≡ None) × (all_written (took w e) ≡ all_written w ++ e ∷ [])
    × (may_be_written (all_written w) e.user_key e.seqno ≡ true) × TookAll (took w e) es m
