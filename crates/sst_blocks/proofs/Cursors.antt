-- A block that is read from both ends: the entry that it goes on to.
use Rattle.std.proofs.Common.{◌≡◌, ◌∙◌, ℕ, ◌+◌, ◌-◌, ◌≤◌, ◌<◌, List, [], ◌∷◌, ◌++◌, length, ap}
use Rattle.std.proofs.Common.{slice_range, refl, sym, reverse, arith}
use Rattle.std.specs.Prelude.{Option, Some, None}
use Rattle.std.specs.List.{slice_get}
use Rattle.std.proofs.lemmas.List.{reverse-append, reverse-reverse}
use Rattle.sst_entries.specs.Entry.{Entry}
use Rattle.sst_entries.specs.Span.{Span, rest_in}
use Rattle.sst_entries.specs.Stream.{but_first, but_last, first, last}
use Rattle.sst_blocks.specs.Cursor.{Cursor, advanced, over_cursor, retreated}
use Rattle.sst_blocks.proofs.SpanLemmas.{left_back, left_empty, left_front}

-- what is lent, and the entries between two places that are left
abbrev pub lends : Option Entry → List Entry → ℕ → ℕ → Cursor
lends o es from to = record { lent = o; behind = slice_range es from to }

abbrev between : List Entry → ℕ → ℕ → Span Entry
between es from to = record { list = es; from = from; to = to }

abbrev goes_to : List Entry → Cursor
goes_to xs = record { lent = first xs; behind = but_first xs }

abbrev goes_back_to : List Entry → Cursor
goes_back_to xs = record { lent = last xs; behind = but_last xs }

pub over_is : (es : List Entry) (from to : ℕ) → to ≤ from → lends None es from to ≡ over_cursor
over_is es from to met = ap (λ (xs : List Entry). record { lent = None; behind = xs })
    (left_empty (between es from to) met)

-- where the places have met
pub over_at : (c : Cursor) (es : List Entry) (from to : ℕ) → slice_range es from to ≡ c.behind
    → to ≤ from → lends None es from to ≡ advanced c
over_at c es from to left met =
    over_is es from to met
    ∙ sym (ap goes_to (sym left ∙ left_empty (between es from to) met))

pub over_back : (c : Cursor) (es : List Entry) (from to : ℕ) → slice_range es from to ≡ c.behind
    → to ≤ from → lends None es from to ≡ retreated c
over_back c es from to left met =
    over_is es from to met
    ∙ sym (ap goes_back_to (sym left ∙ left_empty (between es from to) met))

-- at the first entry that is left, and at the last
pub next_at : (c : Cursor) (es : List Entry) (from to : ℕ) (e : Entry)
    → slice_range es from to ≡ c.behind → from < to → slice_get es from ≡ Some e
    → lends (Some e) es (from + 1) to ≡ advanced c
next_at c es from to e left some here =
    sym (ap goes_to (sym left ∙ left_front (between es from to) e some here))

pub last_at : (c : Cursor) (es : List Entry) (from to : ℕ) (e : Entry)
    → slice_range es from to ≡ c.behind → from < to → slice_get es (to - 1) ≡ Some e
    → lends (Some e) es from (to - 1) ≡ retreated c
last_at c es from to e left some here =
    let rest = slice_range es from (to - 1) in
    let turned : reverse (rest ++ e ∷ []) ≡ e ∷ reverse rest = reverse-append rest (e ∷ []) in
    sym (ap goes_back_to (sym left ∙ left_back (between es from to) e some here)
    ∙ ap (λ (xs : List Entry). record { lent = first xs; behind = reverse (but_first xs) }) turned
    ∙ ap (λ (xs : List Entry). record { lent = Some e; behind = xs }) (reverse-reverse rest))
