-- Ranges of a store, and what they show.
use Rattle.std.specs.Prelude.{◌≡◌, ◌∷◌, ◌≤◌, ℕ, IfOk, List, Option, Result}
use Rattle.std.specs.declared.ops.Bound.{Bound}
use Rattle.std.specs.declared.sync.Arc.{Arc}
use Rattle.lsm_tables.specs.Words.{Entry, Error, IsStrict, OnLists, OpenTable, TableLists, YieldsList}
use Rattle.lsm_tables.specs.Words.{all_shown, newest, numbered_below, single, sort_entries}
use Rattle.lsm_tables.specs.Words.{union_in, within}
use Rattle.example_store.specs.Story.{Holding, IsReported}

-- this holds of any history that a store reads as, at a snapshot that is kept
abbrev pub OnHistory : Holding → ℕ → (List Entry → Type 0) → Type 0
OnHistory s snapshot P = (ws : List Entry) → IsReported s ws → s.oldest ≤ snapshot → P ws

module _ {S : Type 0} (front back : S → Option (Result Entry Error) → S → Type 0) where
  -- a call returned a source of entries that show what the history of writes has within the bounds
  -- at a snapshot
  abbrev pub ShowsHistory : List Entry → Bound (List ℕ) → Bound (List ℕ) → ℕ → Result S Error
      → Type 0
  ShowsHistory ws low high snapshot r =
      let said = newest (numbered_below snapshot (within low high (sort_entries ws))) in
      IfOk r (λ s. (es : List Entry) × YieldsList front back es s
      × (all_shown es ≡ all_shown said))

  -- a call returned a source of the newest versions below a seqno of some lists' entries within the
  -- bounds
  abbrev pub YieldsNewestAt : TableLists → Bound (List ℕ) → Bound (List ℕ) → ℕ → Result S Error
      → Type 0
  YieldsNewestAt lists low high bound r =
      IfOk r (YieldsList front back
      (newest (numbered_below bound (within low high (union_in lists)))))

-- this holds of the lists of a memtable and of runs, if a further source has the memtable's part
-- within the bounds
abbrev pub OnPart : {Z : Type 0} → List (Arc (List OpenTable) Z) → (List Entry → Type 0)
    → (TableLists → Type 0) → Type 0
OnPart runs HasPart P =
    OnLists runs (λ lists. (es : List Entry) → IsStrict es → HasPart es → P (single es ∷ lists))
