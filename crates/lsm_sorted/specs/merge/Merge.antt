-- A merger of sources: its held items, the number of calls it allows, and their results.
use Rattle.std.specs.Prelude.{◌≡◌, ℕ, ◌+◌, ◌<◌, ◌≤◌, ◌==◌, ◌⊎◌, Bool, true, false, cond, List, []}
use Rattle.std.specs.Prelude.{◌∷◌, length, All, Contains, IsPermutation, count_by, Option, Some}
use Rattle.std.specs.Prelude.{None, Result, Ok, Err, MatchResult, sum_by}
use Rattle.std.specs.List.{AllByRecursion}
use Rattle.std.specs.Iterator.{Count}
use Rattle.std.specs.Ordering.{nat_cmp, on, then_cmp}
use Rattle.std.specs.declared.cmp.Ordering.{Ordering}
use Rattle.std.specs.Cmp.{IsTotalOrder, then_total, on_total, back_total, nat_cmp_total}
use Rattle.std.specs.Cmp.Lexicographic.{nat_list_cmp_total}
use Rattle.sst_entries.specs.Key.{key_cmp}
use Rattle.sst_entries.specs.Kind.{tag_of}
use Rattle.sst_entries.specs.declared.key.InternalKey.{InternalKey}
use Rattle.sst_entries.specs.Entry.{Entry, entry}
use Rattle.sst_entries.specs.Stream.{answer_stops, ok_results, yield_each, NoneStops, Runs}
use Rattle.sst_entries.specs.declared.stream.Direction.{Direction}
use Rattle.sst_entries.specs.declared.stream.Direction.TheVariants.{Front, Back}
use Rattle.sst_entries.specs.declared.error.Error.{Error}
use Rattle.lsm_sorted.specs.declared.merge.HeapItem.{HeapItem}
use Rattle.lsm_sorted.specs.declared.merge.Merger.{Merger}
use Rattle.lsm_sorted.specs.merge.Ends.{R, Goes, ends_size}

-- the entry of a heap item
abbrev pub entry_of : {A : Type 0} → HeapItem A → Entry
entry_of h = entry h.key.user_key h.value h.key.seqno h.key.value_type

-- the front sorts before the back
abbrev pub end_number : Direction → ℕ
end_number Front = 0
end_number Back = 1

-- order by key, then by source, then the front before the back
abbrev pub turn_cmp : {A : Type 0} → HeapItem A → HeapItem A → Ordering
turn_cmp {A = A} = then_cmp (on (λ (h : HeapItem A). h.key) key_cmp)
    (then_cmp (on (λ (h : HeapItem A). h.source) nat_cmp)
    (on (λ (h : HeapItem A). end_number h.end) nat_cmp))

pub turn_total : {A : Type 0} → IsTotalOrder (turn_cmp {A = A})
turn_total {A = A} = then_total (on_total (λ (h : HeapItem A). h.key)
    (then_total (on_total (λ (k : InternalKey A). k.user_key) nat_list_cmp_total)
    (then_total (back_total (on_total (λ (k : InternalKey A). k.seqno) nat_cmp_total))
    (on_total (λ (k : InternalKey A). tag_of k.value_type) nat_cmp_total))))
    (then_total (on_total (λ (h : HeapItem A). h.source) nat_cmp_total)
    (on_total (λ (h : HeapItem A). end_number h.end) nat_cmp_total))

-- the number of held entries from source k
abbrev pub held_of : {S A : Type 0} → ℕ → Merger S A → ℕ
held_of k m = count_by (λ h. h.source == k) m.heap.items

-- whether the sources were called at this end
abbrev pub is_ready : {S A : Type 0} → Direction → Merger S A → Bool
is_ready Front m = m.front_ready
is_ready Back m = m.back_ready

-- ---- capacity, for any sources

-- at most one more item than before, from an end of source i
abbrev pub Adds : {A : Type 0} → Direction → ℕ → List (HeapItem A) → List (HeapItem A) → Type 0
Adds {A} end i old new =
    (old ≡ new) ⊎ ((h : HeapItem A) × (h.source ≡ i) × (h.end ≡ end) × IsPermutation (h ∷ old) new)

-- the number of calls that may still return a result
abbrev pub merge_total : {S A : Type 0} → (S → Count) → Merger S A → ℕ
merge_total left m = sum_by (ends_size left) m.sources.items + length m.heap.items

abbrev pub merge_size : {S A : Type 0} → (S → Count) → Merger S A → ℕ
merge_size left m = cond m.failed 0 (merge_total left m)

-- the number of such calls does not grow, and falls after an error
abbrev pub LowersTotal : {S A X : Type 0} → (S → Count) → Merger S A → Result X Error → Merger S A
    → Type 0
LowersTotal left s r t = MatchResult r
    (λ _. merge_total left t ≤ merge_total left s) (λ _. merge_total left t < merge_total left s)

-- the state that a take does not change
pub record SameRoom {S A : Type 0} (s t : Merger S A) : Type 0 where
  pub count : length t.sources.items ≡ length s.sources.items
  pub room : t.heap.room ≡ s.heap.room
  pub front_ready : t.front_ready ≡ s.front_ready
  pub back_ready : t.back_ready ≡ s.back_ready
  pub failed : t.failed ≡ s.failed

module _ {S : Type 0} (front back : S → Option R → S → Type 0) (can can_back : S → Type 0)
    (left : S → Count) where
  -- the sources may be called, and at most this many entries are held, at most `limit k` from
  -- source k
  pub record Bounded {A : Type 0} (limit : ℕ → ℕ) (most : ℕ) (m : Merger S A) : Type 0 where
    pub sources : All (Goes front back can can_back left) m.sources.items
    pub known : All (λ h. h.source < length m.sources.items) m.heap.items
    pub space : length m.sources.items + length m.sources.items ≤ m.heap.room
    pub few : length m.heap.items ≤ most
    pub each : (k : ℕ) → held_of k m ≤ limit k

  -- one held entry per source for each end that is ready
  abbrev pub HasPlaces : {A : Type 0} → Merger S A → Type 0
  HasPlaces m = Bounded
      (λ k. cond m.front_ready 1 0 + cond m.back_ready 1 0)
      (cond m.front_ready (length m.sources.items) 0 + cond m.back_ready (length m.sources.items) 0)
      m

  abbrev pub HasPlacesIf : {A : Type 0} → Bool → Merger S A → Type 0
  HasPlacesIf true m = Unit {0}
  HasPlacesIf false m = HasPlaces m

  -- it may be called
  pub record MayMerge {A : Type 0} (m : Merger S A) : Type 0 where
    pub fits : HasPlacesIf m.failed m

-- ---- calls

-- the results of calls are the expected ones, up to one of the errors, after which `None` follows.
-- `None` comes earlier only without errors.
abbrev pub Follows : List Error → List (Option R) → List (Option R) → Type 0
Follows errors returned [] = returned ≡ []
Follows errors [] (r ∷ rs) = ⊥
Follows errors (d ∷ returned) (None ∷ rs) = (d ≡ None) × (errors ≡ []) × Follows errors returned rs
Follows errors (d ∷ returned) (Some (Ok x) ∷ rs) = (d ≡ Some (Ok x)) × Follows errors returned rs
Follows errors (d ∷ returned) (Some (Err e) ∷ rs) = Contains errors e
    × AllByRecursion (λ r. r ≡ None) rs

-- for every list of ends, the results are those of yielding xs, up to one of the errors
pub record YieldsUntil {S : Type 0} (stops : Error → Bool) (front back : S → Option R → S → Type 0)
    (s : S) (xs : List Entry) (errors : List Error) : Type 0 where
  pub answers : (ends : List Direction) (rs : List (Option R)) (t : S) → Runs front back s ends rs t
      → NoneStops (answer_stops stops) rs → Follows errors (yield_each (ok_results xs) ends) rs

-- after any calls, at most this many entries of each source are held
pub record HoldsAtMost {S A : Type 0} (most : ℕ) (front back : Merger S A → Option R → Merger S A
    → Type 0) (m : Merger S A) : Type 0 where
  pub at : (ends : List Direction) (rs : List (Option R)) (t : Merger S A)
      → Runs front back m ends rs t → (k : ℕ) → held_of k t ≤ most
