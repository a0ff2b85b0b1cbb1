-- A cursor over a data block, from both ends.
use Rattle.std.specs.Prelude.{List, [], Option, None}
use Rattle.sst_entries.specs.Entry.{Entry}
use Rattle.sst_entries.specs.Stream.{but_first, but_last, first, last}

-- the borrowed entry, and the remaining entries
pub record Cursor : Type 0 where
  pub lent : Option Entry
  pub behind : List Entry

-- before the first entry
abbrev pub cursor_of : List Entry → Cursor
cursor_of es = record { lent = None; behind = es }

-- at the first remaining entry, if any; and at the last
abbrev pub advanced : Cursor → Cursor
advanced c = record { lent = first c.behind; behind = but_first c.behind }

abbrev pub retreated : Cursor → Cursor
retreated c = record { lent = last c.behind; behind = but_last c.behind }

-- at no entry
abbrev pub unlent : Cursor → Cursor
unlent c = record c { lent = None }

-- after the last entry
abbrev pub over_cursor : Cursor
over_cursor = record { lent = None; behind = [] }
