-- The entries that are printed.
use denote.Ref.{Bor}
use Rattle.std.specs.Prelude.{◌≡◌, List, [], ◌∷◌, ℕ, Bool, false, true, reverse, take}
use Rattle.std.specs.Prelude.{MatchResult, Option, None, Result, Ok, Err, Some, ◌-◌, ◌^◌}
use Rattle.std.specs.Option.{option_map_or}
use Rattle.std.specs.declared.ops.Bound.{Bound}
use Rattle.std.specs.declared.ops.Bound.TheVariants.{Excluded, Included, Unbounded}
use Rattle.sst_entries.specs.Entry.{Entry}
use Rattle.sst_entries.specs.Point.{within}
use Rattle.sst_entries.specs.Stream.{YieldsExactly, answer_stops, ok_results}
use Rattle.sst_entries.specs.declared.error.Error.{Error}
use Rattle.lsm_iters.specs.block_index.Yielded.{YieldsEnding}
use Rattle.lsm_readers.specs.point.Table.{OpenTable}
use Rattle.lsm_readers.specs.Words.{lift, range_results}
use Rattle.sst_tool.specs.declared.files.error.ToolError.{ToolError}
use Rattle.sst_tool.specs.declared.files.error.ToolError.TheVariants.{Refused}
use Rattle.sst_tool.specs.show.Failures.{NamesNone}
use Rattle.sst_tool.specs.declared.show.dumps.DumpOptions.{DumpOptions}
use Rattle.sst_tool.specs.declared.show.gets.GetOptions.{GetOptions}

-- The snapshot of the read.
abbrev pub seen_below : GetOptions → ℕ
seen_below o = option_map_or (λ n. n) o.at (2 ^ 64 - 1)

-- The list, or its reverse.
abbrev pub in_turn : {X : Type 0} → Bool → List X → List X
in_turn false xs = xs
in_turn true xs = reverse xs

-- The first n items, or the last ones in reverse.
abbrev pub dumped : {X : Type 0} → Bool → ℕ → List X → List X
dumped back n xs = take n (in_turn back xs)

-- An entry, or the error of reading it.
abbrev pub Outcome : Type 0
Outcome = Result Entry Error

-- All of these results are entries.
abbrev pub AreAllEntries : List Outcome → Type 0
AreAllEntries rs = (es : List Entry) × (rs ≡ ok_results es)

-- The first error among results.
abbrev pub first_error : {X : Type 0} → List (Result X Error) → Option Error
first_error [] = None
first_error (Ok x ∷ rs) = first_error rs
first_error (Err e ∷ rs) = Some e

-- The result of printing an item: false for none, and true for an entry unless printing fails. An
-- error of the item is passed on.
abbrev pub ShowsItem : Option Outcome → Result Bool ToolError → Type 0
ShowsItem None r = r ≡ Ok false
ShowsItem (Some (Ok e)) r = MatchResult r (λ more. more ≡ true) NamesNone
ShowsItem (Some (Err e)) r = r ≡ Err (Refused e)

-- The source yields these results, up to its first error.
abbrev pub DealsTo : {S : Type 0} (front back : S → Option Outcome → S → Type 0) → List Outcome → S
    → Type 0
DealsTo front back rs s = YieldsExactly (answer_stops (λ _. true)) front back s rs

-- This holds of any results that the source yields, up to its first error, after which it ends.
abbrev pub OnEnding : {S : Type 0} (front back : S → Option Outcome → S → Type 0) → S
    → (List Outcome → Type 0) → Type 0
OnEnding front back s P = (rs : List Outcome)
    → YieldsEnding front back (λ _. Unit {0}) (λ _. Unit {0}) s rs → P rs

-- The next item is shown, from the back if this is set, else from the front.
abbrev pub ShowsInTurn : {S : Type 0} (front back : S → Option Outcome → S → Type 0) → Bool → S
    → Result Bool ToolError → S → Type 0
ShowsInTurn front back at_back s r t = (item : Option Outcome)
    × (at_back ≡ false → front s item t) × (at_back ≡ true → back s item t) × ShowsItem item r

-- The lower bound, included, and the upper bound, excluded.
abbrev pub from_key : Option (Bor (List ℕ)) → Bound (List ℕ)
from_key None = Unbounded
from_key (Some key) = Included key.now

abbrev pub up_to_key : Option (Bor (List ℕ)) → Bound (List ℕ)
up_to_key None = Unbounded
up_to_key (Some key) = Excluded key.now

-- The entries of the table's list in the range.
abbrev pub chosen : DumpOptions → OpenTable → List Entry → List Entry
chosen o t es = within (from_key o.from) (up_to_key o.to) (lift es t.global_seqno)

-- The results of reading the range from the table's bytes.
abbrev pub readable : DumpOptions → OpenTable → List Outcome
readable o t = range_results t (from_key o.from) (up_to_key o.to)
