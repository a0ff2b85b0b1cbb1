-- The results left of a range iterator, and one step of it.
use Rattle.std.specs.Prelude.{◌≡◌, ℕ, zero, suc, ◌+◌, ◌≤◌, Bool, true, false, List, [], ◌∷◌, ◌++◌}
use Rattle.std.specs.Prelude.{length, reverse, Option, Some, None, Result, Ok, Err, MatchOption}
use Rattle.std.specs.Prelude.{MatchResult, if◌then◌else◌}
use Rattle.std.specs.declared.ops.Bound.TheVariants.{Unbounded}
use Rattle.std.specs.Option.{option_or}
use Rattle.sst_blocks.specs.declared.block_type.BlockType.TheVariants.{Data}
use Rattle.sst_blocks.specs.declared.opened.Opened.{Opened}
use Rattle.sst_entries.specs.declared.error.Error.{Error}
use Rattle.sst_entries.specs.declared.stream.Direction.{Direction}
use Rattle.sst_entries.specs.declared.stream.Direction.TheVariants.{Front, Back}
use Rattle.sst_entries.specs.Entry.{Entry}
use Rattle.sst_entries.specs.Error.{is_memory}
use Rattle.sst_entries.specs.Stream.{answer_stops}
use Rattle.sst_blocks.specs.Block.{place_fault}
use Rattle.sst_blocks.specs.Handle.{Handle}
use Rattle.sst_blocks.specs.Opened.{with_load, none_opened}
use Rattle.lsm_iters.specs.declared.block_index.kinds.BlockIndexIterImpl.{BlockIndexIterImpl}
use Rattle.lsm_iters.specs.block_index.Kinds.{left_of}
use Rattle.lsm_iters.specs.block_index.Left.{Left, early_behind, with_index_loads, none_behind}
use Rattle.lsm_iters.specs.walk.Ends.{Remains}
use Rattle.lsm_iters.specs.Bounds.{lower_edge, upper_edge}
use Rattle.lsm_iters.specs.Lift.{lift_results}
use Rattle.lsm_iters.specs.Rows.{Bounded, block_rows, handle_rows, rows}

-- An index iterator, whether its edges were sought, and whether it was ended.
pub record Handles (A : Type 0) : Type 0 where
  pub iter : BlockIndexIterImpl A
  pub sought : Bool
  pub ended : Bool

-- The handles that it still yields: none once it was ended.
abbrev pub none_left : Left → Left
none_left l = record l { results = []; loads = 0 }

abbrev pub left_unless : Bool → Left → Left
left_unless true l = none_left l
left_unless false l = l

abbrev pub left_in : {A : Type 0} → Handles A → Left
left_in h = left_unless h.ended (left_of h.iter)

-- A range: its bytes and bounds, the handles left, and the entries left of the blocks loaded at
-- each end. Also its counts of data loads, and the entry that it lends.
pub record Range (A : Type 0) : Type 0 where
  pub of : Bounded
  pub handles : Handles A
  pub front : List Entry
  pub back : List Entry
  pub opened : Opened
  pub lent : Option Entry

-- A range before any bound is set.
abbrev pub new_range : {A : Type 0} → List ℕ → ℕ → BlockIndexIterImpl A → Range A
new_range body g iter = record {
  of = record { body = body; global_seqno = g; low = Unbounded; high = Unbounded };
  handles = record { iter = iter; sought = false; ended = false };
  front = [];
  back = [];
  opened = none_opened;
  lent = None;
}

-- The range with the flag that the edges were sought.
abbrev pub with_sought : {A : Type 0} → Bool → Range A → Range A
with_sought sought s = record s { handles = record s.handles { sought = sought } }

-- The handles of the unloaded blocks; before the first step, those between the bounds' edges.
abbrev pub to_seek : {A : Type 0} → Handles A → Option (List ℕ × ℕ) → Option (List ℕ)
    → List (Result Handle Error)
to_seek h low high = if h.sought then (left_in h).results else (left_in h).index.returned low high

abbrev pub to_come : {A : Type 0} → Range A → List (Result Handle Error)
to_come s = to_seek s.handles (lower_edge s.of.low) (upper_edge s.of.high)

-- A bound on the index blocks loaded for them.
abbrev pub index_to_seek : {A : Type 0} → Handles A → Option (List ℕ × ℕ) → Option (List ℕ) → ℕ
index_to_seek h low high = if h.sought then (left_in h).loads else (left_in h).index.loads low high

abbrev pub index_to_come : {A : Type 0} → Range A → ℕ
index_to_come s = index_to_seek s.handles (lower_edge s.of.low) (upper_edge s.of.high)

-- The results left: entries of the front block, of the unloaded blocks and of the back block.
abbrev pub range_left : {A : Type 0} → Range A → List (Result Entry Error)
range_left s =
    let g = s.of.global_seqno in
    lift_results g s.front ++ (rows s.of (to_come s) ++ lift_results g s.back)

-- A bound on the loads left: data blocks, index blocks, and one for seeking the edges.
abbrev pub range_loads : {A : Type 0} → Range A → ℕ
range_loads s = length (to_come s) + index_to_come s + (if s.handles.sought then 0 else 1)

-- A bound on the results and loads left.
abbrev pub range_size : {A : Type 0} → Range A → ℕ
range_size s = length (range_left s) + range_loads s

-- The results and loads left, as those of a part.
abbrev pub range_remains : {A : Type 0} → Range A → Remains Entry
range_remains s = record { results = range_left s; loads = range_loads s }

-- No result and no load is left.
abbrev pub IsEndedRange : {A : Type 0} → Range A → Type 0
IsEndedRange s = range_size s ≡ 0

-- The number of blocks an end loads for its next result: those up to the first with an item.
abbrev pub blocks_needed : Bounded → List (Result Handle Error) → ℕ
blocks_needed b [] = 0
blocks_needed b (Ok h ∷ hs) = suc (none_behind (block_rows b h) (blocks_needed b hs))
blocks_needed b (Err e ∷ hs) = 0

-- A block's error that precedes allocation, and that of the first blocks up to one with an item.
abbrev pub handle_early : Bounded → Result Handle Error → Option Error
handle_early b (Ok h) = place_fault b.body h.offset h.size Data
handle_early b (Err e) = None

abbrev pub blocks_early : Bounded → List (Result Handle Error) → Option Error
blocks_early b [] = None
blocks_early b (x ∷ hs) = option_or (handle_early b x)
    (early_behind (handle_rows b x) (blocks_early b hs))

-- The next items of an end: the entries of the block loaded there, then the handles in that order.
pub record Next : Type 0 where
  pub entries : List Entry
  pub handles : List (Result Handle Error)

abbrev pub front_next : {A : Type 0} → Range A → Next
front_next s = record { entries = s.front; handles = to_come s }

abbrev pub back_next : {A : Type 0} → Range A → Next
back_next s = record { entries = s.back; handles = reverse (to_come s) }

abbrev pub next_at : {A : Type 0} → Direction → Range A → Next
next_at Front s = front_next s
next_at Back s = back_next s

-- The number of blocks that a step at an end needs: none if the block loaded there has an entry.
abbrev pub blocks_for : Bounded → Next → ℕ
blocks_for b n = none_behind n.entries (blocks_needed b n.handles)

-- The error at an end that precedes allocation.
abbrev pub early_for : Bounded → Next → Option Error
early_for b n = early_behind n.entries (blocks_early b n.handles)

-- The counts after a number of data block loads.
abbrev pub data_loaded : ℕ → Opened → Opened
data_loaded zero o = o
data_loaded (suc n) o = with_load Data (data_loaded n o)

-- The counts of loaded blocks of each kind.
abbrev pub opened_in : {A : Type 0} → Range A → Opened
opened_in s = record (left_in s.handles).opened { data_loads = s.opened.data_loads }

-- One result at an end: the item there, or `None` if nothing is left. An allocation failure may
-- replace any result, unless everything is over.
abbrev pub RangeAnswer : {A : Type 0} → (List (Result Entry Error)
    → Option (Result Entry Error) × List (Result Entry Error)) → Range A
    → Option (Result Entry Error) → Range A → Type 0
RangeAnswer end s None t = (range_left s ≡ []) × IsEndedRange t
RangeAnswer end s (Some (Ok e)) t = end (range_left s) ≡ (Some (Ok e), range_left t)
RangeAnswer end s (Some (Err e)) t =
    (is_memory e ≡ false → (end (range_left s)).0 ≡ Some (Err e)) × (IsEndedRange s → ⊥)

-- A step counts each block that it loads. It loads only blocks that are left and needed.
pub record CountsBlocks {A : Type 0} (needed : ℕ) (s t : Range A) : Type 0 where
  pub blocks : ℕ
  pub counts : t.opened ≡ data_loaded blocks s.opened
  pub within : blocks + length (to_come t) ≤ length (to_come s)
  pub most : blocks ≤ needed
  pub index : ℕ
  pub index_counts : (left_in t.handles).opened ≡ with_index_loads index (left_in s.handles).opened
  pub index_within : index + index_to_come t ≤ index_to_come s

-- An entry lent after a call is the one that the call returned.
abbrev pub LendsOn : Option (Result Entry Error) → Option Entry → Type 0
LendsOn r lent = (e : Entry) → lent ≡ Some e → r ≡ Some (Ok e)

-- One step at an end, which an error ends. It loads the blocks that it needs, or fewer on an
-- allocation failure. Once all are loaded, an error that precedes allocation is returned.
pub record RangeGives {A : Type 0} (end : List (Result Entry Error)
    → Option (Result Entry Error) × List (Result Entry Error)) (next : Range A → Next) (s : Range A)
    (r : Option (Result Entry Error)) (t : Range A) : Type 0 where
  pub answer : RangeAnswer end s r t
  pub ends : MatchOption r (Unit {0}) (λ x. MatchResult x (λ _. Unit {0}) (λ _. IsEndedRange t))
  pub of : t.of ≡ s.of
  pub index : (left_in t.handles).index ≡ (left_in s.handles).index
  pub initialized : t.handles.sought ≡ true
  pub loads : CountsBlocks (blocks_for s.of (next s)) s t
  pub exact : answer_stops is_memory r ≡ false → loads.blocks ≡ blocks_for s.of (next s)
  pub first : (f : Error) → early_for s.of (next s) ≡ Some f
      → loads.blocks ≡ blocks_for s.of (next s) → r ≡ Some (Err f)
  pub lent : LendsOn r t.lent
