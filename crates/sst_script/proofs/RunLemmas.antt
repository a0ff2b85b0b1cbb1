-- The lists of runs, and reads of them.
use Rattle.std.proofs.Common.{◌≡◌, refl, sym, ◌∙◌, ap, subst, ℕ, suc, ◌+◌, ◌-◌, ◌^◌, ◌<◌, Bool}
use Rattle.std.proofs.Common.{List, [], ◌∷◌, length, get_or}
use Rattle.std.proofs.Common.{drop, drop-cons, add-one}
use Rattle.std.specs.Prelude.{All, Option, Result, Ok, Err, ◌||◌, map}
use Rattle.std.specs.List.{AllByRecursion}
use Rattle.std.proofs.lemmas.List.Elements.{All-from_recursion}
use Rattle.std.specs.declared.ops.Bound.{Bound}
use Rattle.sst_entries.specs.declared.error.Error.{Error}
use Rattle.sst_entries.specs.Entry.{Entry}
use Rattle.sst_entries.specs.Error.{Fails, Gives}
use Rattle.sst_entries.specs.Point.{point, within}
use Rattle.sst_entries.specs.Stream.{nowhere, ok_results}
use Rattle.sst_blocks.specs.table.Chunks.{joined}
use Rattle.lsm_sorted.specs.merge.Union.{all_entries, newest, union_of}
use Rattle.lsm_sorted.proofs.UnionLemmas.{ascends_in_order}
use Rattle.lsm_readers.specs.point.Table.{OpenTable}
use Rattle.lsm_runs.specs.RunLists.{YieldsList, RunsHoldLists}
use Rattle.lsm_runs.specs.SeveralRuns.{union_in}
use Rattle.lsm_runs.proofs.CompactedBack.{lift_zero}
use Rattle.sst_script.specs.Answer.{found_line}
use Rattle.sst_script.specs.Runs.{Run, has_entry, repeats, run_tables, union}
use Rattle.sst_script.proofs.EntryLemmas.{has_entry_found, has_number}

-- ---- the lists of runs

-- the lists of the runs' tables
abbrev pub lists_of : List Run → List (List (List Entry))
lists_of rs = map (λ (r : Run). r.is.lists) rs

pub runs_held : (rs : List Run) → RunsHoldLists (run_tables rs) (lists_of rs)
runs_held [] = tt
runs_held (r ∷ rs) = ((r.is.order, r.is.hold), runs_held rs)

all_same : (rs : List Run)
    → map (λ (ls : List (List Entry)). ok_results (joined ls)) (lists_of rs) ≡ map
    (λ (r : Run). ok_results r.list) rs
all_same [] = refl
all_same (r ∷ rs) =
    let same : joined r.is.lists ≡ r.list = r.is.whole ∙ lift_zero r.list in
    rw (same, all_same rs) refl

pub union_same : (rs : List Run) → union_in (lists_of rs) ≡ union rs
union_same rs = ap union_of (all_same rs)

module _ (rs : List Run) (ts : List (List OpenTable)) (same : run_tables rs ≡ ts) where
  pub held : RunsHoldLists ts (lists_of rs)
  held = subst (λ (us : List (List OpenTable)). RunsHoldLists us (lists_of rs)) same (runs_held rs)

  -- a read of the runs' tables returns the first match in the sorted entries of all lists
  pub point_gives : {X : Type 0} (view : X → Option Entry) (result : Result X Error) (key : List ℕ)
      (bound : ℕ)
      → ((lists : List (List (List Entry))) → RunsHoldLists ts lists
      → Gives view result (Ok (point (union_in lists) key bound)))
      → Gives view result (Ok (point (union rs) key bound))
  point_gives view result key bound reads =
      subst (λ (es : List Entry). Gives view result (Ok (point es key bound)))
      (union_same rs) (reads (lists_of rs) held)

  -- a range of them at the highest seqno yields the newest entries within the bounds
  pub range_yields : {S : Type 0} (front : S → Option (Result Entry Error) → S → Type 0) (s : S)
      (low high from to : Bound (List ℕ)) → low ≡ from → high ≡ to
      → AllByRecursion (λ (e : Entry). e.seqno < 2 ^ 64 - 1) (union rs)
      → ((lists : List (List (List Entry))) → RunsHoldLists ts lists
      → All (λ (e : Entry). e.seqno < 2 ^ 64 - 1) (union_in lists)
      → YieldsList front nowhere (newest (within low high (union_in lists))) s)
      → YieldsList front nowhere (newest (within from to (union rs))) s
  range_yields {S} front s low high from to low_is high_is numbered yields =
      let Low : Entry → Type 0 = λ (e : Entry). e.seqno < 2 ^ 64 - 1 in
      let Yield : List Entry → Bound (List ℕ) → Bound (List ℕ) → Type 0 =
      λ es l h. YieldsList front nowhere (newest (within l h es)) s in
      let low_lists = subst (All Low) (sym (union_same rs))
      (All-from_recursion Low (union rs) numbered) in
      let all : Yield (union rs) low high = subst (λ (es : List Entry). Yield es low high)
      (union_same rs) (yields (lists_of rs) held low_lists) in
      subst (λ (l : Bound (List ℕ)). Yield (union rs) l to) low_is
      (subst (λ (h : Bound (List ℕ)). Yield (union rs) low h) high_is all)

-- ---- results, except for `OutOfMemory`

-- the line of an entry that a read found
pub found_is : {X : Type 0} (view : X → List ℕ) (result : Result X Error) (first found : Option Entry)
    → Gives (λ (x : Option Entry). x) (Ok found) (Ok first)
    → Gives view result (Ok (found_line found))
    → Gives view result (Ok (found_line first))
found_is view result first found returned gives =
    let is : first ≡ found = cc in
    subst (λ (e : Option Entry). Gives view result (Ok (found_line e))) (sym is) gives

-- a key has an entry of a seqno if its newest version visible at the next seqno has it
pub number_gives : (rs : List Run) (key : List ℕ) (n : ℕ) (found : Option Entry) (b : Bool)
    → Gives (λ (x : Option Entry). x) (Ok found) (Ok (point (union rs) key (n + 1)))
    → b ≡ has_number n found → Gives (λ (x : Bool). x) (Ok b) (Ok (has_entry (union rs) key n))
number_gives rs key n found b returned is =
    let first : point (union rs) key (n + 1) ≡ found = cc in
    let has : has_entry (union rs) key n ≡ b = has_entry_found (union rs) key n
    (ascends_in_order (all_entries (map (λ (r : Run). ok_results r.list) rs)))
    ∙ ap (has_number n) first ∙ sym is in
    ap (λ (x : Bool). Ok x) has

-- a call that runs out of memory
pub memory_fails : {X Y : Type 0} (e : Error) (found : X) (other : Y) → Fails e (Ok found)
    → Fails e (Ok other)
memory_fails {X} e found other fails memory = let no : Ok found ≡ Err e = fails memory in absurd cc

-- ---- a list, from an index on

-- a list from an index on is the item there and the list after it
rest_of : {X : Type 0} (xs : List X) (i : ℕ) (x : X) → i < length xs → x ≡ get_or xs i x
    → drop i xs ≡ x ∷ drop (i + 1) xs
rest_of {X} xs i x h is = rw add-one (drop-cons xs i x h
    ∙ ap (λ (y : X). y ∷ drop (suc i) xs) (sym is))

-- the entry at an index was looked for
pub past_item : (rs : List Run) (es : List Entry) (i : ℕ) (e : Entry) (key : List ℕ) (n : ℕ)
    (b : Bool) → repeats rs es ≡ repeats rs (drop i es) → i < length es → e ≡ get_or es i e
    → key ≡ e.user_key → n ≡ e.seqno
    → Gives (λ (x : Bool). x) (Ok b) (Ok (has_entry (union rs) key n))
    → repeats rs es ≡ (b || repeats rs (drop (i + 1) es))
past_item rs es i e key n b so_far h is key_is number_is has =
    let here : has_entry (union rs) key n ≡ b = cc in
    let there : has_entry (union rs) e.user_key e.seqno ≡ b = sym (rw (key_is, number_is) refl)
    ∙ here in
    so_far ∙ ap (repeats rs) (rest_of es i e h is)
    ∙ ap (λ (x : Bool). x || repeats rs (drop (i + 1) es)) there
