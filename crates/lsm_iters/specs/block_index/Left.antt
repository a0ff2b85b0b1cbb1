-- The results left of an index iterator, and one step of it.
use Rattle.std.specs.Prelude.{◌≡◌, ℕ, zero, suc, ◌+◌, ◌<◌, ◌≤◌, false, List, [], ◌∷◌, ◌++◌, length}
use Rattle.std.specs.Prelude.{Option, Some, None, Result, Ok, Err, MatchOption, MatchResult, map}
use Rattle.std.specs.Prelude.{reverse}
use Rattle.std.specs.List.{AllByRecursion}
use Rattle.std.specs.Option.{option_or}
use Rattle.sst_blocks.specs.declared.block_type.BlockType.TheVariants.{Index as IndexBlock}
use Rattle.sst_entries.specs.declared.error.Error.{Error}
use Rattle.sst_entries.specs.declared.stream.Direction.{Direction}
use Rattle.sst_entries.specs.declared.stream.Direction.TheVariants.{Front, Back}
use Rattle.sst_blocks.specs.declared.opened.Opened.{Opened}
use Rattle.sst_entries.specs.Error.{is_memory}
use Rattle.sst_entries.specs.Span.{Span, rest_in}
use Rattle.sst_entries.specs.Stream.{answer_stops, ok_results, Runs}
use Rattle.sst_blocks.specs.Handle.{Handle}
use Rattle.sst_blocks.specs.Handles.{window}
use Rattle.sst_blocks.specs.Opened.{with_load, none_opened}
use Rattle.sst_blocks.specs.Place.{Place, place_of}
pub use Rattle.lsm_iters.specs.walk.Parts.{early_behind, none_behind}
use Rattle.lsm_iters.specs.block_index.Index.{Index, full, on_demand, two_level, block_between}
use Rattle.lsm_iters.specs.block_index.Index.{block_early, parts_between}

-- The results left, a bound on their loads, the index they are of, and the load counts.
pub record Left : Type 0 where
  pub results : List (Result Handle Error)
  pub loads : ℕ
  pub index : Index
  pub opened : Opened

-- No result and no load is left.
pub record IsEnded (l : Left) : Type 0 where
  pub results : l.results ≡ []
  pub loads : l.loads ≡ 0

-- In any order of calls, each returns `None` and loads nothing.
pub record StaysEnded {S : Type 0} (front back : S → Option (Result Handle Error) → S → Type 0)
    (left : S → Left) (s : S) : Type 0 where
  pub answers : (ends : List Direction) (rs : List (Option (Result Handle Error))) (t : S)
      → Runs front back s ends rs t → AllByRecursion (λ r. r ≡ None) rs
  pub ended : (ends : List Direction) (rs : List (Option (Result Handle Error))) (t : S)
      → Runs front back s ends rs t → IsEnded (left t)
  pub opened : (ends : List Direction) (rs : List (Option (Result Handle Error))) (t : S)
      → Runs front back s ends rs t → (left t).opened ≡ (left s).opened

-- A bound on the results and loads left.
abbrev pub left_size : Left → ℕ
left_size l = length l.results + l.loads

-- The results left are those that the index has between two edges.
pub record IsBetween (l : Left) (low : Option (List ℕ × ℕ)) (high : Option (List ℕ)) : Type 0 where
  pub results : l.results ≡ l.index.returned low high
  pub loads : l.loads ≡ l.index.loads low high

-- The counts after a number of index block loads.
abbrev pub with_index_loads : ℕ → Opened → Opened
with_index_loads zero o = o
with_index_loads (suc n) o = with_load IndexBlock (with_index_loads n o)

-- One result at an end: the item there, or `None` if nothing is left. An allocation failure may
-- replace any result, unless everything is over.
abbrev pub AtEnd : (List (Result Handle Error)
    → Option (Result Handle Error) × List (Result Handle Error)) → Left
    → Option (Result Handle Error) → Left → Type 0
AtEnd end s None t = (s.results ≡ []) × IsEnded t
AtEnd end s (Some (Ok h)) t = end s.results ≡ (Some (Ok h), t.results)
AtEnd end s (Some (Err e)) t = (is_memory e ≡ false → (end s.results).0 ≡ Some (Err e))
    × (IsEnded s → ⊥)

-- The blocks that a step loads are counted, and are among those left to load.
pub record CountsLoads (s t : Left) : Type 0 where
  pub count : ℕ
  pub counts : t.opened ≡ with_index_loads count s.opened
  pub within : count + t.loads ≤ s.loads

-- From an iterator that had loaded nothing, the loads made and those left are within a bound.
pub record CountsUpTo (most : ℕ) (l : Left) : Type 0 where
  pub count : ℕ
  pub counts : l.opened ≡ with_index_loads count none_opened
  pub within : count + l.loads ≤ most

-- One step at an end, which an error ends.
pub record LeftGives (end : List (Result Handle Error)
    → Option (Result Handle Error) × List (Result Handle Error)) (s : Left)
    (r : Option (Result Handle Error)) (t : Left) : Type 0 where
  pub answer : AtEnd end s r t
  pub ends : MatchOption r (Unit {0}) (λ x. MatchResult x (λ _. Unit {0}) (λ _. IsEnded t))
  pub index : t.index ≡ s.index
  pub loads : CountsLoads s t

-- ---- a pinned block

-- The handles left of a loaded block, without loads.
abbrev pub span_left : Span Handle → Left
span_left s = record {
  results = ok_results (rest_in s);
  loads = 0;
  index = full s.list;
  opened = none_opened;
}

-- Both edges were sought, and no step was made.
abbrev pub IsSpanSought : Span Handle → Option (List ℕ × ℕ) → Option (List ℕ) → Type 0
IsSpanSought s lower upper = rest_in s ≡ window s.list lower upper

-- ---- a block loaded on demand

-- The bytes before the trailer, the block's offset and size, and the edges. Also the handles left
-- once the block is loaded, and the load counts.
pub record OnDemand : Type 0 where
  pub body : List ℕ
  pub place : Place
  pub lower : Option (List ℕ × ℕ)
  pub upper : Option (List ℕ)
  pub part : Option (List Handle)
  pub opened : Opened

-- A new iterator, before the first step.
abbrev pub new_on_demand : List ℕ → Place → OnDemand
new_on_demand body place = record {
  body = body;
  place = place;
  lower = None;
  upper = None;
  part = None;
  opened = none_opened;
}

-- The results left, and the number of blocks left to load.
abbrev pub demanded : OnDemand → Option (List Handle) → List (Result Handle Error)
demanded s None = block_between s.body s.lower s.upper s.place
demanded s (Some hs) = ok_results hs

abbrev pub demands : Option (List Handle) → ℕ
demands None = 1
demands (Some hs) = 0

-- The results left of an iterator that loads its block on demand.
abbrev pub on_demand_left : OnDemand → Left
on_demand_left s = record {
  results = demanded s s.part;
  loads = demands s.part;
  index = on_demand s.body s.place;
  opened = s.opened;
}

-- These edges were sought, and the block is not loaded.
pub record IsDemandSought (s : OnDemand) (low : Option (List ℕ × ℕ))
    (high : Option (List ℕ)) : Type 0 where
  pub part : s.part ≡ None
  pub lower : s.lower ≡ low
  pub upper : s.upper ≡ high

-- The unloaded block's error that precedes allocation.
abbrev pub demand_early : OnDemand → Option (List Handle) → Option Error
demand_early s None = block_early s.body s.place
demand_early s (Some hs) = None

-- One step: the first loads the block, once. An error that precedes allocation is returned first.
pub record OnDemandGives (end : List (Result Handle Error)
    → Option (Result Handle Error) × List (Result Handle Error)) (s : OnDemand)
    (r : Option (Result Handle Error)) (t : OnDemand) : Type 0 where
  pub gives : LeftGives end (on_demand_left s) r (on_demand_left t)
  pub once : gives.loads.count ≡ demands s.part
  pub kept : demands t.part ≡ 0
  pub first : (f : Error) → demand_early s s.part ≡ Some f → r ≡ Some (Err f)

-- ---- two levels

-- The bytes before the trailer, all top-level handles, those of the unloaded partitions, and the
-- edges. Also the handles left of the partitions loaded at each end, and the load counts.
pub record TwoLevel : Type 0 where
  pub body : List ℕ
  pub whole : List Handle
  pub tops : List Handle
  pub lower : Option (List ℕ × ℕ)
  pub upper : Option (List ℕ)
  pub front : List Handle
  pub back : List Handle
  pub opened : Opened

-- A new iterator, before any edge is sought.
abbrev pub new_two_level : List ℕ → List Handle → TwoLevel
new_two_level body whole = record {
  body = body;
  whole = whole;
  tops = whole;
  lower = None;
  upper = None;
  front = [];
  back = [];
  opened = none_opened;
}

-- The results left of a two-level iterator.
abbrev pub two_level_left : TwoLevel → Left
two_level_left s = record {
  results = ok_results s.front ++ (parts_between s.body s.lower s.upper s.tops
      ++ ok_results s.back);
  loads = length s.tops;
  index = two_level s.body s.whole;
  opened = s.opened;
}

-- These edges were sought, and no partition is loaded.
pub record IsTwoLevelSought (s : TwoLevel) (low : Option (List ℕ × ℕ))
    (high : Option (List ℕ)) : Type 0 where
  pub tops : s.tops ≡ window s.whole low high
  pub lower : s.lower ≡ low
  pub upper : s.upper ≡ high
  pub front : s.front ≡ []
  pub back : s.back ≡ []

-- The number of partitions an end loads for its next result: those up to the first with an item.
abbrev pub needs : List (List (Result Handle Error)) → ℕ
needs [] = 0
needs (p ∷ ps) = suc (none_behind p (needs ps))

-- The handles between the edges of the partition at an offset, and of a top-level handle.
abbrev pub part_at : TwoLevel → Place → List (Result Handle Error)
part_at s place = block_between s.body s.lower s.upper place

abbrev pub part_of : TwoLevel → Handle → List (Result Handle Error)
part_of s top = part_at s (place_of top)

-- The number of partitions a step needs at each end: none if a handle is left of the partition
-- there.
abbrev pub front_needs : TwoLevel → ℕ
front_needs s = none_behind s.front (needs (map (part_of s) s.tops))

abbrev pub back_needs : TwoLevel → ℕ
back_needs s = none_behind s.back (needs (reverse (map (part_of s) s.tops)))

-- The error of the next partitions, up to the first with an item, that precedes allocation.
abbrev pub tops_early : List ℕ → (Handle → List (Result Handle Error)) → List Handle → Option Error
tops_early body part [] = None
tops_early body part (top ∷ tops) =
    option_or (block_early body (place_of top)) (early_behind (part top)
    (tops_early body part tops))

-- The error at each end that precedes allocation: none if a handle is left of the partition loaded
-- there.
abbrev pub front_early : TwoLevel → Option Error
front_early s = early_behind s.front (tops_early s.body (part_of s) s.tops)

abbrev pub back_early : TwoLevel → Option Error
back_early s = early_behind s.back (tops_early s.body (part_of s) (reverse s.tops))

-- The number of partitions a step at an end needs, and the error there that precedes allocation.
abbrev pub needs_at : Direction → TwoLevel → ℕ
needs_at Front s = front_needs s
needs_at Back s = back_needs s

abbrev pub fault_at : Direction → TwoLevel → Option Error
fault_at Front s = front_early s
fault_at Back s = back_early s

-- One step: it loads the partitions that it needs, or on an allocation failure fewer, but at least
-- one. If it loads all, an error that precedes allocation is returned first.
pub record TwoLevelGives (end : List (Result Handle Error)
    → Option (Result Handle Error) × List (Result Handle Error)) (needed : TwoLevel → ℕ)
    (early : TwoLevel → Option Error) (s : TwoLevel) (r : Option (Result Handle Error))
    (t : TwoLevel) : Type 0 where
  pub gives : LeftGives end (two_level_left s) r (two_level_left t)
  pub most : gives.loads.count ≤ needed s
  pub some : 0 < needed s → 0 < gives.loads.count
  pub exact : answer_stops is_memory r ≡ false → gives.loads.count ≡ needed s
  pub first : (f : Error) → early s ≡ Some f → gives.loads.count ≡ needed s → r ≡ Some (Err f)
