-- A merger of lending sources: its borrowed entry, the number of calls it allows, and the remaining
-- results.
use Rattle.std.specs.Prelude.{◌≡◌, ℕ, ◌+◌, ◌<◌, ◌≤◌, ◌==◌, ◌-◌, ◌&&◌, ◌||◌, not, Bool, true, false}
use Rattle.std.specs.Prelude.{cond, List, [], ◌∷◌, length, map, All, Option, Some, None, Result, Ok}
use Rattle.std.specs.Prelude.{Err}
use Rattle.std.specs.Prelude.{MatchResult, is_some, nat_lt, slice_get, slice_index_or, sum_by}
use Rattle.std.specs.Int.{w128, from_be_bytes}
use Rattle.std.specs.Option.{option_map}
use Rattle.std.specs.List.{AllByRecursion, insert}
use Rattle.std.specs.Ordering.{is_lt, nat_cmp, ordering_then}
use Rattle.std.specs.Vec.{vec_capacity}
use Rattle.sst_entries.specs.Entry.{Entry}
use Rattle.sst_entries.specs.Stream.{CanYield, YieldsExactly, YieldsFirst, answer_stops, but_first, nowhere}
use Rattle.sst_entries.specs.declared.error.Error.{Error}
use Rattle.lsm_sorted.specs.declared.lending_merger.Head.{Head}
use Rattle.lsm_sorted.specs.declared.lending_merger.LendingMerger.{LendingMerger}
use Rattle.lsm_sorted.specs.merge.Ends.{R}
use Rattle.lsm_sorted.specs.merge.InPlace.{merge_of}
use Rattle.lsm_sorted.specs.merge.Union.{Ascends, entries_among, item_cmp}

-- ---- turns

-- one entry sorts before another by key, seqno and kind, then by source
abbrev pub is_turn : Entry → ℕ → Entry → ℕ → Bool
is_turn x i y j = is_lt (ordering_then (item_cmp x y) (nat_cmp i j))

-- the same for optional entries; `None` never sorts first
abbrev pub goes_before : Option Entry → ℕ → Option Entry → ℕ → Bool
goes_before None i o j = false
goes_before (Some x) i None j = false
goes_before (Some x) i (Some y) j = is_turn x i y j

-- the entry borrowed from source i of several
abbrev pub lent_of : {S : Type 0} → (S → Option Entry) → List S → ℕ → Option Entry
lent_of lent ss i = slice_index_or (map lent ss) i None

-- each of these sources has a borrowed entry, which sorts after those of all later sources in the
-- queue
abbrev pub IsQueue : (ℕ → Option Entry) → List ℕ → Type 0
IsQueue at [] = Unit {0}
IsQueue at (q ∷ qs) = (is_some (at q) ≡ true)
    × AllByRecursion (λ r. goes_before (at r) r (at q) q ≡ true) qs × IsQueue at qs

-- source i is in the queue
abbrev pub is_queued : ℕ → List ℕ → Bool
is_queued i [] = false
is_queued i (q ∷ qs) = (q == i) || is_queued i qs

-- inserted at this index, source i keeps the queue in order
pub record Belongs (at : ℕ → Option Entry) (i : ℕ) (qs : List ℕ) (place : ℕ) : Type 0 where
  pub keeps : IsQueue at qs → is_some (at i) ≡ true → is_queued i qs ≡ false
      → IsQueue at (insert qs place i)

-- ---- heads

-- n is the big-endian number of a key's first 16 bytes, padded with zeros
pub record IsPrefix (n : ℕ) (key : List ℕ) : Type 0 where
  pub bytes : (i : ℕ) → slice_index_or key i 0 < 256
  pub number : n ≡ from_be_bytes w128 key

-- a head has the prefix of its source's current key
pub record IsHead (at : ℕ → Option Entry) (h : Head) : Type 0 where
  pub prefix : (x : Entry) → at h.source ≡ Some x → IsPrefix h.prefix x.user_key

-- whether one head sorts before another: by their prefixes, or by their entries if these are equal
abbrev pub sorts_before : Option Entry → Head → Option Entry → Head → Bool
sorts_before o h p k = cond (h.prefix == k.prefix) (goes_before o h.source p k.source)
    (nat_lt h.prefix k.prefix)

abbrev pub source_of : Head → ℕ
source_of h = h.source

-- the sources in the queue
abbrev pub queued : {S A : Type 0} → LendingMerger S A → List ℕ
queued m = map source_of m.queue.items

-- the entry borrowed from a source, if any
abbrev pub lent_by : (ℕ → Option Entry) → Option ℕ → Option Entry
lent_by at None = None
lent_by at (Some q) = at q

-- the merger's borrowed entry: that of the last source in the queue
abbrev pub lent_first : {S A : Type 0} → (S → Option Entry) → LendingMerger S A → Option Entry
lent_first lent m = lent_by (lent_of lent m.sources.items)
    (option_map source_of (slice_get m.queue.items (length m.queue.items - 1)))

-- ---- the number of calls it allows

-- the maximum number of remaining entries, also before the first call
abbrev pub lent_total : {S A : Type 0} → (S → ℕ) → LendingMerger S A → ℕ
lent_total left m = sum_by left m.sources.items + length m.queue.items

abbrev pub lent_size : {S A : Type 0} → (S → ℕ) → LendingMerger S A → ℕ
lent_size left m = cond m.is_started
    (cond (length m.queue.items == 0) 0 (lent_total left m)) (lent_total left m + 1)

-- a step lowers the remaining number, unless the queue is empty
abbrev pub StepLowers : {S A : Type 0} → (S → ℕ) → LendingMerger S A → LendingMerger S A → Type 0
StepLowers left m n = (0 < length n.queue.items) → lent_total left n < lent_size left m

module _ {S : Type 0} (advances : S → Option R → S → Type 0) (can : S → Type 0)
    (lent : S → Option Entry) where
  -- the sources may be called, and the queue is in order and has capacity for each of them
  pub record IsReady {A : Type 0} (m : LendingMerger S A) : Type 0 where
    pub sources : All (CanYield advances nowhere can can) m.sources.items
    pub known : All (λ q. q < length m.sources.items) (queued m)
    pub room : length m.sources.items ≤ vec_capacity m.queue
    pub queue : IsQueue (lent_of lent m.sources.items) (queued m)
    pub heads : All (IsHead (lent_of lent m.sources.items)) m.queue.items

  -- it may be called; before the first call the queue is empty
  pub record MayLend {A : Type 0} (m : LendingMerger S A) : Type 0 where
    pub ready : IsReady m
    pub fresh : m.is_started ≡ false → m.queue.items ≡ []

-- ---- the remaining results

module _ {S : Type 0} (stops : Error → Bool) (advances : S → Option R → S → Type 0)
    (lent : S → Option Entry) where
  abbrev pub Has : S → List R → Type 0
  Has = YieldsExactly (answer_stops stops) advances nowhere

  -- the remaining list of a source. If queued: its borrowed entry and the rest; if due for a call:
  -- the rest alone; else nothing.
  abbrev pub RestIf : Bool → Bool → S → List R → Type 0
  RestIf true true s rs = ⊥
  RestIf true false s rs =
      (x : Entry) × (others : List R) × (lent s ≡ Some x) × (rs ≡ Ok x ∷ others) × Has s others
  RestIf false true s rs = Has s rs
  RestIf false false s rs = rs ≡ []

  -- the remaining lists of all sources, which are sorted
  pub record Rests (waits : ℕ → Bool) (ss : List S) (qs : List ℕ) (lists : List (List R)) : Type 0
    where
      pub count : length lists ≡ length ss
      pub each : (i : ℕ) (s : S) → i < length ss → RestIf (is_queued i qs) (waits i)
          (slice_index_or ss i s) (slice_index_or lists i [])
      pub sorted : AllByRecursion (λ rs. Ascends (entries_among rs)) lists

  -- the remaining results: before the first call, the merge of the sources; later, the merge
  -- without the borrowed entry
  abbrev pub LeavesIf : {A : Type 0} → Bool → LendingMerger S A → List R → Type 0
  LeavesIf false m ys = (lists : List (List R))
      × Rests (λ i. true) m.sources.items [] lists × (ys ≡ merge_of lists)
  LeavesIf true m ys = (lists : List (List R))
      × Rests (λ i. false) m.sources.items (queued m) lists × (ys ≡ but_first (merge_of lists))

  pub record LeavesLent {A : Type 0} (m : LendingMerger S A) (ys : List R) : Type 0 where
    pub parts : LeavesIf m.is_started m ys

  -- source i was called: it is no longer due for a call; an error was the first result of its list
  abbrev pub AsksOne : {A : Type 0} → ℕ → LendingMerger S A → Result (Unit {0}) Error
      → LendingMerger S A → Type 0
  AsksOne i m r n = (waits : ℕ → Bool) (lists : List (List R))
      → Rests waits m.sources.items (queued m) lists → waits i ≡ true
      → MatchResult r
      (λ u. Rests (λ j. waits j && not (j == i)) n.sources.items (queued n) lists)
      (λ e. stops e ≡ false → (rs : List R) × (slice_index_or lists i [] ≡ Err e ∷ rs))

  -- all sources were called: their merge is the borrowed entry and the remaining results, or an
  -- error
  abbrev pub StartsLent : {A : Type 0} → LendingMerger S A → Result (Unit {0}) Error
      → LendingMerger S A → Type 0
  StartsLent m r n = (lists : List (List R))
      → Rests (λ i. true) m.sources.items [] lists
      → MatchResult r (λ u. Rests (λ i. false) n.sources.items (queued n) lists)
      (λ e. stops e ≡ false → merge_of lists ≡ Err e ∷ [])

  -- the remaining results become the borrowed entry and the rest, or an error
  abbrev pub StepsOn : {A : Type 0} → LendingMerger S A → Result (Unit {0}) Error
      → LendingMerger S A → Type 0
  StepsOn m r n = (ys : List R) → LeavesLent m ys
      → MatchResult r
      (λ u. (lists : List (List R))
      × Rests (λ j. false) n.sources.items (queued n) lists × (ys ≡ merge_of lists))
      (λ e. stops e ≡ false → ys ≡ Err e ∷ [])

-- it is exhausted and no entry is borrowed
pub record LendsNoMore {S A : Type 0} (m : LendingMerger S A) : Type 0 where
  pub started : m.is_started ≡ true
  pub empty : m.queue.items ≡ []

-- one call: it may be called again, and its result is the first of the remaining list, up to an
-- error in `stops`. An error exhausts it.
pub record AdvancesLent {S : Type 0} (advances : S → Option R → S → Type 0) (can : S → Type 0)
    (lent : S → Option Entry) {A : Type 0} (m : LendingMerger S A) (r : Option R)
    (n : LendingMerger S A) : Type 0 where
  pub may : MayLend advances can lent n
  pub gives : (stops : Error → Bool) → YieldsFirst stops (LeavesLent stops advances lent) m r n
  pub ends : (e : Error) → r ≡ Some (Err e) → LendsNoMore n
  pub over : LendsNoMore m → (r ≡ None) × LendsNoMore n
