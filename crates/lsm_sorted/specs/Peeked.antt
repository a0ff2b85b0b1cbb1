-- An iterator with one entry read ahead at each end.
use Rattle.std.specs.Prelude.{ℕ, ◌+◌, List, [], ◌∷◌, Option, Some, None}
use Rattle.std.specs.Iterator.{Count}
use Rattle.lsm_sorted.specs.declared.peeked.Peeked.{Peeked}
use Rattle.lsm_sorted.specs.merge.Ends.{R, ends_size}
use Rattle.lsm_sorted.specs.Outlook.{Outlook}

-- the entry read ahead, if any
abbrev pub content : Option R → List R
content None = []
content (Some x) = x ∷ []

abbrev pub content_count : Option R → ℕ
content_count None = 0
content_count (Some x) = 1

-- the iterator, with the entries read ahead
abbrev pub peeked_outlook : {S : Type 0} → Peeked S R → Outlook S
peeked_outlook s = record { source = s.source; ahead = content s.front; behind = content s.back }

abbrev pub peeked_size : {S : Type 0} → (S → Count) → Peeked S R → ℕ
peeked_size left s = ends_size left s.source + content_count s.front + content_count s.back
