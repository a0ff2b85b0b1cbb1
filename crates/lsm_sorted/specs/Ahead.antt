-- An iterator with one entry read ahead, consumed from the front only.
use Rattle.std.specs.Prelude.{◌≡◌, ℕ, Bool, ◌+◌, List, [], ◌++◌, Option}
use Rattle.std.specs.Iterator.{Count}
use Rattle.sst_entries.specs.declared.error.Error.{Error}
use Rattle.sst_entries.specs.Stream.{nowhere}
use Rattle.lsm_sorted.specs.declared.ahead.Ahead.{Ahead}
use Rattle.lsm_sorted.specs.merge.Ends.{R, Left, ends_size}
use Rattle.lsm_sorted.specs.Outlook.{Outlook}
use Rattle.lsm_sorted.specs.Peeked.{content, content_count}

-- the iterator, with the entry read ahead
abbrev pub ahead_outlook : {S : Type 0} → Ahead S R → Outlook S
ahead_outlook s = record { source = s.source; ahead = content s.front; behind = [] }

-- the remaining list
pub record HoldsAhead {S : Type 0} (stops : Error → Bool) (front : S → Option R → S → Type 0)
    (s : Ahead S R) (xs : List R) : Type 0 where
  pub rest : List R
  pub source : Left stops front nowhere s.source rest
  pub parts : xs ≡ content s.front ++ rest

abbrev pub ahead_size : {S : Type 0} → (S → Count) → Ahead S R → ℕ
ahead_size left s = ends_size left s.source + content_count s.front
