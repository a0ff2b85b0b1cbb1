-- Scans of runs of any tables, merged and compacted: the results that they deal, errors in their
-- places.
use Rattle.std.proofs.Common.{◌≡◌, refl, sym, ◌∙◌, ap, subst, ℕ, zero, suc, ◌+◌, ◌<◌, Bool, true}
use Rattle.std.proofs.Common.{false, cond, List, [], ◌∷◌, ◌++◌, inl, inr, get_or, length, take}
use Rattle.std.proofs.Common.{append-nil, arith, ◌≤◌}
use Rattle.std.specs.Prelude.{Option, Some, None, Result, Ok, Err, IfOk, filter}
use Rattle.std.specs.Prelude.{map}
use Rattle.std.specs.List.{AllZip, Any, flat_map, slice_get}
use Rattle.std.proofs.lemmas.Bool.{cases_Bool}
use Rattle.std.proofs.lemmas.List.{length-map, map-append, take_all}
use Rattle.std.proofs.lemmas.List.Elements.{filter-append}
use Rattle.sst_entries.specs.declared.error.Error.{Error}
use Rattle.sst_entries.specs.declared.error.Error.TheVariants.{OutOfMemory}
use Rattle.sst_entries.specs.declared.stream.Direction.{Direction}
use Rattle.sst_entries.specs.declared.stream.Direction.TheVariants.{Front, Back}
use Rattle.std.specs.Option.{option_or}
use Rattle.sst_entries.specs.Error.{Faults, is_memory}
use Rattle.sst_entries.specs.Stream.{YieldsExactly, NoneStops, Runs, answer_stops, yield_each, first, nowhere}
use Rattle.sst_entries.proofs.Refusals.{memory_is}
use Rattle.lsm_iters.specs.block_index.Yielded.{YieldsEnding, ended_at_error}
use Rattle.lsm_sorted.specs.merge.Ends.{R}
use Rattle.lsm_readers.specs.Scan.{up_to_error}
use Rattle.lsm_readers.specs.point.Table.{OpenTable}
use Rattle.lsm_sorted.specs.lending.LentCompaction.{CompactsLentResults}
use Rattle.sst_entries.specs.Entry.{Entry}
use Rattle.lsm_sorted.specs.Compaction.{Verdict}
use Rattle.lsm_runs.specs.compaction.Filtered.{CompactsAs}
use Rattle.lsm_sorted.specs.declared.compaction.Rules.{Rules}
use Rattle.lsm_runs.specs.RunScan.{scan_fault, table_scan, tables_scan}
use Rattle.lsm_runs.proofs.RunLoops.{mapped_at, take_next}
use Rattle.lsm_runs.proofs.Together.{zip_push}
use Rattle.lsm_runs.specs.compaction.AnyRuns.{BeginsWith, YieldsResults, first_block_fault}
use Rattle.lsm_runs.specs.compaction.AnyRuns.{first_blocks_fault, scans_of}
use Rattle.lsm_runs.specs.compaction.Packed.{has_table}

-- ---- a source that ends at an error deals results up to that

module _ {S : Type 0} (next : S → Option R → S → Type 0) where
  none_left : (ends : List Direction)
      → map {B = Option R} (λ (r : Option R). None) (yield_each [] ends) ≡ yield_each [] ends
  none_left [] = refl
  none_left (Front ∷ ends) = ap (λ (rs : List (Option R)). None ∷ rs) (none_left ends)
  none_left (Back ∷ ends) = ap (λ (rs : List (Option R)). None ∷ rs) (none_left ends)

  ended : (xs : List R) (ends : List Direction) (rs : List (Option R)) (s t : S)
      → Runs next nowhere s ends rs t
      → ended_at_error (yield_each (up_to_error xs) ends) ≡ yield_each (up_to_error xs) ends
  ended xs [] rs s t runs = refl
  ended xs (e ∷ ends) [] s t runs = absurd runs
  ended xs (Back ∷ ends) (r ∷ rs) s t runs = absurd runs.1
  ended [] (Front ∷ ends) (r ∷ rs) s t runs =
      ap (λ (qs : List (Option R)). None ∷ qs) (ended [] ends rs runs.0 t runs.2)
  ended (Ok x ∷ xs) (Front ∷ ends) (r ∷ rs) s t runs =
      ap (λ (qs : List (Option R)). Some (Ok x) ∷ qs) (ended xs ends rs runs.0 t runs.2)
  ended (Err e ∷ xs) (Front ∷ ends) (r ∷ rs) s t runs =
      ap (λ (qs : List (Option R)). Some (Err e) ∷ qs) (none_left ends)

  none_memory : (stops : Error → Bool) → stops OutOfMemory ≡ true → (rs : List (Option R))
      → NoneStops (answer_stops stops) rs → NoneStops (answer_stops is_memory) rs
  none_memory stops memory [] h = tt
  none_memory stops memory (None ∷ rs) h = (refl, none_memory stops memory rs h.1)
  none_memory stops memory (Some (Ok x) ∷ rs) h = (refl, none_memory stops memory rs h.1)
  none_memory stops memory (Some (Err e) ∷ rs) h =
      (fine e h.0, none_memory stops memory rs h.1)
    where
      fine : (f : Error) → stops f ≡ false → is_memory f ≡ false
      fine f goes = elim (cases_Bool (is_memory f)) [
        | inl lacks ↦
            let both : true ≡ false = sym (ap stops (memory_is f lacks) ∙ memory) ∙ goes in
            absurd cc
        | inr not ↦ not
      ]

  pub yields_ended : (xs : List R) (s : S)
      → YieldsEnding next nowhere (λ _. Unit {0}) (λ _. Unit {0}) s (up_to_error xs)
      → YieldsResults next (up_to_error xs) s
  yields_ended xs s d stops memory = record {
    answers = λ ends rs t runs fine. d.answers ends rs t runs (none_memory stops memory rs fine)
        ∙ ended xs ends rs s t runs;
  }

pub scanned_any : {S : Type 0} (next : S → Option R → S → Type 0) (ts : List OpenTable)
    (r : Result S Error)
    → IfOk r (λ s. YieldsEnding next nowhere (λ _. Unit {0}) (λ _. Unit {0}) s (tables_scan ts))
    → IfOk r (YieldsResults next (tables_scan ts))
scanned_any next ts (Ok s) d = yields_ended next (flat_map table_scan ts) s d
scanned_any next ts (Err e) d = tt

-- ---- scans of several runs

pub scans_more : (runs : List (List OpenTable)) (run : List OpenTable) → has_table run ≡ true
    → scans_of (runs ++ run ∷ []) ≡ scans_of runs ++ tables_scan run ∷ []
scans_more runs run some =
    ap (map tables_scan) (filter-append has_table runs (run ∷ [])
    ∙ ap (λ (b : Bool). filter has_table runs ++ cond b (run ∷ []) []) some)
    ∙ map-append tables_scan (filter has_table runs) (run ∷ [])

pub scans_same : (runs : List (List OpenTable)) (run : List OpenTable) → has_table run ≡ false
    → scans_of (runs ++ run ∷ []) ≡ scans_of runs
scans_same runs run none =
    ap (map tables_scan) (filter-append has_table runs (run ∷ [])
    ∙ ap (λ (b : Bool). filter has_table runs ++ cond b (run ∷ []) []) none
    ∙ append-nil (filter has_table runs))

any_here : {X : Type 0} (P : X → Type 0) (x : X) (xs : List X) → P x → Any P (x ∷ xs)
any_here P x xs holds = (0, x, omega arith, refl, holds)

any_later : {X : Type 0} (P : X → Type 0) (x : X) (xs : List X) → Any P xs → Any P (x ∷ xs)
any_later P x xs h = (suc h.0, h.1, omega (arith, h.2), h.3, h.4)

-- one of these scans begins with an error
abbrev OneBegins : List (List R) → Error → Type 0
OneBegins scans e = Any (λ (rs : List R). first rs ≡ Some (Err e)) scans

begins_at : (runs : List (List OpenTable)) (i : ℕ) (run : List OpenTable) (e : Error)
    → slice_get runs i ≡ Some run → has_table run ≡ true
    → first (tables_scan run) ≡ Some (Err e) → OneBegins (scans_of runs) e
begins_at [] i run e there some begins = absurd cc
begins_at (r ∷ runs) zero run e there some begins =
    let same : r ≡ run = cc in
    subst (λ (b : Bool). OneBegins (map tables_scan (cond b (r ∷ filter has_table runs)
    (filter has_table runs))) e) (sym (ap has_table same ∙ some))
    (any_here (λ (rs : List R). first rs ≡ Some (Err e)) (tables_scan r)
    (map tables_scan (filter has_table runs))
    (ap (λ (ts : List OpenTable). first (tables_scan ts)) same ∙ begins))
begins_at (r ∷ runs) (suc i) run e there some begins =
    let more = begins_at runs i run e there some begins in
    elim (has_table r) as (λ b. OneBegins (map tables_scan (cond b (r ∷ filter has_table runs)
    (filter has_table runs))) e) [
      | true ↦ any_later (λ (rs : List R). first rs ≡ Some (Err e)) (tables_scan r)
          (map tables_scan (filter has_table runs)) more
      | false ↦ more
    ]

-- ---- the first blocks, in the order of the runs

blocks_more : (runs : List (List OpenTable)) (run : List OpenTable)
    → first_blocks_fault (runs ++ run ∷ [])
    ≡ option_or (first_blocks_fault runs) (first_block_fault run)
blocks_more [] run = elim (first_block_fault run) as (λ o. option_or o None ≡ o)
    [ None ↦ refl | Some e ↦ refl ]
blocks_more (r ∷ runs) run =
    ap (λ (o : Option Error). option_or (first_block_fault r) o) (blocks_more runs run)
    ∙ elim (first_block_fault r) as
    (λ o. option_or o (option_or (first_blocks_fault runs) (first_block_fault run))
    ≡ option_or (option_or o (first_blocks_fault runs)) (first_block_fault run))
    [ None ↦ refl | Some e ↦ refl ]

none_either : (a b : Option Error) → option_or a b ≡ None → (a ≡ None) × (b ≡ None)
none_either None b none = (refl, none)
none_either (Some e) b none = absurd cc

blocks_at : (runs : List (List OpenTable)) (i : ℕ) (run : List OpenTable) (e : Error)
    → slice_get runs i ≡ Some run → first_blocks_fault (take i runs) ≡ None
    → first_block_fault run ≡ Some e → first_blocks_fault runs ≡ Some e
blocks_at [] i run e there none fails = absurd cc
blocks_at (r ∷ runs) zero run e there none fails =
    let same : r ≡ run = cc in
    ap (λ (o : Option Error). option_or o (first_blocks_fault runs))
    (ap first_block_fault same ∙ fails)
blocks_at (r ∷ runs) (suc i) run e there none fails =
    let both = none_either (first_block_fault r) (first_blocks_fault (take i runs)) none in
    ap (λ (o : Option Error). option_or o (first_blocks_fault runs)) both.0
    ∙ blocks_at runs i run e there both.1 fails

slice_at : {X : Type 0} (xs : List X) (i : ℕ) (x : X) → i < length xs → x ≡ get_or xs i x
    → slice_get xs i ≡ Some x
slice_at [] i x less is = absurd (omega (arith, less))
slice_at (y ∷ ys) zero x less is = ap (λ (z : _). Some z) (sym is)
slice_at (y ∷ ys) (suc i) x less is = slice_at ys i x (omega (arith, less)) is

-- the scanners of the runs so far
module _ {X S : Type 0} (f : X → List OpenTable) (next : S → Option R → S → Type 0)
    (xs : List X) where
  abbrev pub ScanSoFar : List S → ℕ → Type 0
  ScanSoFar sources n =
      AllZip (λ s rs. YieldsResults next rs s) sources (scans_of (take n (map f xs)))

  module _ (i : ℕ) (x : X) (less : i < length xs) (is : x ≡ get_or xs i x) where
    there : slice_get (map f xs) i ≡ Some (f x)
    there = mapped_at f xs i x (slice_at xs i x less is)

    pub scan_more : (sources : List S) (s : S) → ScanSoFar sources i → has_table (f x) ≡ true
        → YieldsResults next (tables_scan (f x)) s → ScanSoFar (sources ++ s ∷ []) (i + 1)
    scan_more sources s all some yields =
        subst (λ (scans : List (List R)). AllZip (λ t rs. YieldsResults next rs t)
        (sources ++ s ∷ []) scans)
        (sym (ap scans_of (take_next (map f xs) i (f x) there)
        ∙ scans_more (take i (map f xs)) (f x) some))
        (zip_push (λ t rs. YieldsResults next rs t) sources (scans_of (take i (map f xs))) s
        (tables_scan (f x)) all yields)

    pub scan_passed : (sources : List S) → ScanSoFar sources i → has_table (f x) ≡ false
        → ScanSoFar sources (i + 1)
    scan_passed sources all none =
        subst (λ (scans : List (List R)). AllZip (λ t rs. YieldsResults next rs t) sources scans)
        (sym (ap scans_of (take_next (map f xs) i (f x) there)
        ∙ scans_same (take i (map f xs)) (f x) none)) all

    -- the first blocks so far are loaded
    pub loads_more : first_blocks_fault (take i (map f xs)) ≡ None → first_block_fault (f x) ≡ None
        → first_blocks_fault (take (i + 1) (map f xs)) ≡ None
    loads_more before here = ap first_blocks_fault (take_next (map f xs) i (f x) there)
        ∙ blocks_more (take i (map f xs)) (f x)
        ∙ ap (λ (o : Option Error). option_or o (first_block_fault (f x))) before ∙ here

    -- that of this run cannot be
    pub blocks_fail : (e : Error) → first_blocks_fault (take i (map f xs)) ≡ None
        → first_block_fault (f x) ≡ Some e → first_blocks_fault (map f xs) ≡ Some e
    blocks_fail e before fails = blocks_at (map f xs) i (f x) e there before fails

    pub scan_begins : (e : Error) → has_table (f x) ≡ true
        → first_blocks_fault (take i (map f xs)) ≡ None → first_block_fault (f x) ≡ Some e
        → first (tables_scan (f x)) ≡ Some (Err e) → BeginsWith (map f xs) e
    scan_begins e some before fails begins = record {
      fault = blocks_fail e before fails;
      begins = begins_at (map f xs) i (f x) e there some begins;
    }

  pub scan_all : (sources : List S) (i : ℕ) → ScanSoFar sources i → length xs ≤ i
      → AllZip (λ s rs. YieldsResults next rs s) sources (scans_of (map f xs))
  scan_all sources i all past =
      subst (λ (runs : List (List OpenTable)). AllZip (λ s rs. YieldsResults next rs s) sources
      (scans_of runs)) (take_all i (map f xs) (omega (arith, length-map xs f, past))) all

  -- all first blocks are loaded
  pub loads_all : (i : ℕ) → first_blocks_fault (take i (map f xs)) ≡ None → length xs ≤ i
      → first_blocks_fault (map f xs) ≡ None
  loads_all i loads past = subst (λ (runs : List (List OpenTable)). first_blocks_fault runs ≡ None)
      (take_all i (map f xs) (omega (arith, length-map xs f, past))) loads

-- a run has a table
pub some_table : (ts : List OpenTable) → 0 < length ts → has_table ts ≡ true
some_table [] some = absurd (omega (arith, some))
some_table (t ∷ ts) some = refl

-- a run without a table loads no block
pub no_block : (ts : List OpenTable) → length ts ≡ 0 → first_block_fault ts ≡ None
no_block [] none = refl
no_block (t ∷ ts) none = absurd (omega (arith, none))

pub no_table : (ts : List OpenTable) → length ts ≡ 0 → has_table ts ≡ false
no_table [] none = refl
no_table (t ∷ ts) none = absurd (omega (arith, none))

-- the first block of a run is that of its first table
pub block_of_first : {X : Type 0} (r : Result X Error) (ts : List OpenTable) → 0 < length ts
    → ((t : OpenTable) → slice_get ts 0 ≡ Some t → Faults r (scan_fault t))
    → Faults r (first_block_fault ts)
block_of_first r [] some faults = absurd (omega (arith, some))
block_of_first r (t ∷ ts) some faults = faults t refl

-- ---- merged, and compacted

pub each_stops : {S : Type 0} (next : S → Option R → S → Type 0) (stops : Error → Bool)
    → stops OutOfMemory ≡ true → (sources : List S) (lists : List (List R))
    → AllZip (λ s rs. YieldsResults next rs s) sources lists
    → AllZip (YieldsExactly (answer_stops stops) next nowhere) sources lists
each_stops next stops memory [] [] all = tt
each_stops next stops memory [] (rs ∷ lists) all = absurd all
each_stops next stops memory (s ∷ sources) [] all = absurd all
each_stops next stops memory (s ∷ sources) (rs ∷ lists) all =
    (all.0 stops memory, each_stops next stops memory sources lists all.1)

-- what compacts its source compacts what that deals
pub compacts_as : {M T F C : Type 0} (next : M → Option R → M → Type 0)
    (last : T → Option R → T → Type 0) (m : M) (rules : Rules)
    (gives : F → Entry → Result Verdict Error → F → Type 0) (gets : C → Entry → C → Type 0) (f : F)
    (c : C) (source_in : T → M) (filter_in : T → F) (callback_in : T → C) (r : Result T Error)
    (xs : List R) → IfOk r (λ t. CompactsLentResults next m last t rules gives gets f c source_in
    filter_in callback_in) → YieldsExactly (answer_stops is_memory) next nowhere m xs
    → IfOk r (λ t. CompactsAs gives gets rules f c xs last t filter_in callback_in)
compacts_as next last m rules gives gets f c source_in filter_in callback_in (Ok t) xs law has =
    record {
      whole = λ gave u v fine runs ended. law.whole is_memory xs gave u v refl has fine runs ended;
      part = λ gave u fine runs. law.part is_memory xs gave u refl has fine runs;
    }
compacts_as next last m rules gives gets f c source_in filter_in callback_in (Err e) xs law has =
    tt
