-- What a merger stands for while some entries of its sources are held.
use Rattle.std.specs.Prelude.{◌≡◌, ℕ, ◌<◌, ◌≤◌, ◌==◌, ◌&&◌, Bool, true, false, List, [], ◌∷◌, ◌++◌}
use Rattle.std.specs.Prelude.{map, All, Contains, count_by, slice_index_or, Option, Some, None, Ok}
use Rattle.std.specs.Prelude.{Err}
use Rattle.std.specs.List.{AllZip, AllByRecursion}
use Rattle.sst_entries.specs.Entry.{Entry}
use Rattle.sst_entries.specs.Stream.{answer_stops}
use Rattle.sst_entries.specs.declared.stream.Direction.{Direction}
use Rattle.sst_entries.specs.declared.stream.Direction.TheVariants.{Front, Back}
use Rattle.sst_entries.specs.declared.error.Error.{Error}
use Rattle.lsm_sorted.specs.declared.merge.HeapItem.{HeapItem}
use Rattle.lsm_sorted.specs.declared.merge.Merger.{Merger}
use Rattle.lsm_sorted.specs.merge.Ends.{R, Left}
use Rattle.lsm_sorted.specs.merge.Union.{Ascends, entries_among, all_errors, union_of}
use Rattle.lsm_sorted.specs.merge.Merge.{entry_of, is_ready}

abbrev pub opposite : Direction → Direction
opposite Front = Back
opposite Back = Front

-- whether both are one end
abbrev pub is_same_end : Direction → Direction → Bool
is_same_end Front Front = true
is_same_end Front Back = false
is_same_end Back Front = false
is_same_end Back Back = true

-- an item that was taken from that end of source k
abbrev pub is_from : {A : Type 0} → ℕ → Direction → HeapItem A → Bool
is_from k end h = (h.source == k) && is_same_end end h.end

-- an entry that was taken from the front, what was not taken yet, and an entry that was taken from
-- the back
pub record Kept : Type 0 where
  pub front : Option Entry
  pub rest : List R
  pub back : Option Entry

abbrev pub one : Option Entry → List R
one None = []
one (Some x) = Ok x ∷ []

abbrev pub count_of : Option Entry → ℕ
count_of None = 0
count_of (Some x) = 1

-- all of it
abbrev pub whole : Kept → List R
whole s = one s.front ++ (s.rest ++ one s.back)

abbrev pub taken_at : Direction → Kept → Option Entry
taken_at Front s = s.front
taken_at Back s = s.back

-- source k of several; past them there is nothing
abbrev pub kept_at : List Kept → ℕ → Kept
kept_at ks k = slice_index_or ks k (record { front = None; rest = []; back = None })

abbrev pub taken : List Kept → ℕ → Direction → Option Entry
taken ks k end = taken_at end (kept_at ks k)

-- the heap has just the entries that were taken
pub record HeapHolds {A : Type 0} (hs : List (HeapItem A)) (ks : List Kept) : Type 0 where
  pub each : All (λ h. taken ks h.source h.end ≡ Some (entry_of h)) hs
  pub once : (k : ℕ) (end : Direction) → count_by (is_from k end) hs ≡ count_of (taken ks k end)

-- once an end is ready, an entry of it is held of each source that has more; before, none is
abbrev pub Ready : Bool → Direction → List Kept → Type 0
Ready true end ks = (k : ℕ) → taken ks k end ≡ None → (kept_at ks k).rest ≡ []
Ready false end ks = (k : ℕ) → taken ks k end ≡ None

-- a source gave an error
abbrev pub Failed : {S A : Type 0} → Merger S A → Type 0
Failed m = m.failed ≡ true

module _ {S : Type 0} (stops : Error → Bool) (front back : S → Option R → S → Type 0) where
  -- the sources and the heap of a merger
  pub record Stands {A : Type 0} (m : Merger S A) (ks : List Kept) : Type 0 where
    pub sources : AllZip (λ s k. Left stops front back s k.rest) m.sources.items ks
    pub sorted : AllByRecursion (λ k. Ascends (entries_among (whole k))) ks
    pub heap : HeapHolds m.heap.items ks

  -- the entries that it still deals in this order, and the errors among them
  pub record Merging {A : Type 0} (m : Merger S A) (xs : List Entry)
      (errors : List Error) : Type 0 where
    pub kept : List Kept
    pub stands : Stands m kept
    pub ready : (end : Direction) → Ready (is_ready end m) end kept
    pub entries : xs ≡ union_of (map whole kept)
    pub faults : errors ≡ all_errors (map whole kept)

  abbrev pub LeavesIf : {A : Type 0} → Bool → Merger S A → List Entry → List Error → Type 0
  LeavesIf true m xs errors = (xs ≡ []) × (errors ≡ [])
  LeavesIf false m xs errors = Merging m xs errors

  -- the same, where after an error nothing is left
  pub record Leaves {A : Type 0} (m : Merger S A) (xs : List Entry)
      (errors : List Error) : Type 0 where
    pub parts : LeavesIf m.failed m xs errors

  -- after one was taken from an end of source i
  pub record Took {A : Type 0} (end : Direction) (i : ℕ) (ks : List Kept)
      (m : Merger S A) : Type 0 where
    pub kept : List Kept
    pub stands : Stands m kept
    pub wholes : map whole kept ≡ map whole ks
    pub ready : taken kept i end ≡ None → (kept_at kept i).rest ≡ []
    pub elsewhere : (k : ℕ) (e : Direction) → (k ≡ i → e ≡ end → ⊥) → taken kept k e ≡ taken ks k e
    pub shrinks : (k : ℕ) → (kept_at ks k).rest ≡ [] → (kept_at kept k).rest ≡ []

  -- after one was taken from an end of each source below i
  pub record Filled {A : Type 0} (end : Direction) (i : ℕ) (ks : List Kept)
      (m : Merger S A) : Type 0 where
    pub kept : List Kept
    pub stands : Stands m kept
    pub wholes : map whole kept ≡ map whole ks
    pub ready : (k : ℕ) → k < i → taken kept k end ≡ None → (kept_at kept k).rest ≡ []
    pub free : (k : ℕ) → i ≤ k → taken kept k end ≡ None
    pub other : (k : ℕ) → taken kept k (opposite end) ≡ taken ks k (opposite end)
    pub shrinks : (k : ℕ) → (kept_at ks k).rest ≡ [] → (kept_at kept k).rest ≡ []

-- an entry: the one of that end, and the others are left; an error: one of those to come, and
-- nothing is left; `None`: nothing was left, no error either
abbrev pub MergeAnswer : {T : Type 0} → (T → List Entry → List Error → Type 0)
    → Option Entry × List Entry → List Error → Option R → T → Type 0
MergeAnswer Has step errors None t = (step.0 ≡ None) × (errors ≡ []) × Has t [] []
MergeAnswer Has step errors (Some (Ok x)) t = (step.0 ≡ Some x) × Has t step.1 errors
MergeAnswer Has step errors (Some (Err e)) t = Contains errors e × Has t [] []

-- one call of a merger. An error ends it: from then on it gives `None`
pub record Merges {T : Type 0} (May Ended : T → Type 0)
    (Has : (Error → Bool) → T → List Entry → List Error → Type 0)
    (end : List Entry → Option Entry × List Entry) (s : T) (r : Option R) (t : T) : Type 0 where
  pub may : May t
  pub gives : (stops : Error → Bool) (xs : List Entry) (errors : List Error) → Has stops s xs errors
      → answer_stops stops r ≡ false → MergeAnswer (Has stops) (end xs) errors r t
  pub ends : (e : Error) → r ≡ Some (Err e) → Ended t
  pub ended : Ended s → (r ≡ None) × Ended t
