-- Lists that are written as tables, and what is kept of them.
use Rattle.std.specs.Prelude.{◌≡◌, ◌≤◌, ℕ, List, [], length, MatchOption, Option, Some}
use Rattle.lsm_tables.specs.Words.{AreTables, Entry, FitsAsTables, IsRunOfList, OpenTable}
use Rattle.lsm_tables.specs.Words.{default_options, ids_behind, seen}

-- this holds of the tables that a list is cut into by a target size
abbrev pub OnTablesOf : ℕ → List Entry → (List (List Entry) → Type 0) → Type 0
OnTablesOf target es P =
    (tables : List (List Entry)) → AreTables default_options.data_block_size target es tables →
    P tables

-- this holds if the tables of a list fit, with ids from 1 on, and then those of a second list, with
-- the next ids
abbrev pub IfBothFit : ℕ → List Entry → List Entry → Type 0 → Type 0
IfBothFit target es left P =
    (first : FitsAsTables (Some 1) target es) →
    FitsAsTables (ids_behind (Some 1) target (length first.tables)) target left → P

-- a run of a list, none if it has no entry: a read at the watermark or above sees in the list what
-- it sees in another
abbrev pub SeesAlike : ℕ → List Entry → Option (List OpenTable) → Type 0
SeesAlike watermark others run =
    (es : List Entry) × MatchOption run (es ≡ []) (λ tables. IsRunOfList es 0 tables)
    × ((key : List ℕ) (bound : ℕ) → watermark ≤ bound →
    seen es key bound ≡ seen others key bound)
