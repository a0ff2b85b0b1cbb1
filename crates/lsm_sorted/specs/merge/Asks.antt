-- One call of a merger, by its calls of its sources.
use Rattle.std.specs.Prelude.{◌≡◌, ◌⊎◌, ℕ, zero, suc, ◌+◌, ◌<◌, ◌≤◌, Bool, true, false, List, []}
use Rattle.std.specs.Prelude.{◌∷◌, length, map, All, IsPermutation, slice_index_or, slice_set}
use Rattle.std.specs.Prelude.{Option, Some, None, Result, Ok, Err}
use Rattle.std.specs.Ordering.{is_gt}
use Rattle.sst_entries.specs.Entry.{Entry}
use Rattle.sst_entries.specs.declared.error.Error.{Error}
use Rattle.sst_entries.specs.declared.stream.Direction.{Direction}
use Rattle.sst_entries.specs.declared.stream.Direction.TheVariants.{Front, Back}
use Rattle.lsm_sorted.specs.declared.heap.ends.Ends.{Ends}
use Rattle.lsm_sorted.specs.declared.merge.HeapItem.{HeapItem}
use Rattle.lsm_sorted.specs.declared.merge.Merger.{Merger}
use Rattle.lsm_sorted.specs.merge.Ends.{R, new_ends, Asked}
use Rattle.lsm_sorted.specs.merge.Merge.{entry_of, turn_cmp, is_ready, SameRoom}

-- this item is first among these, from an end
abbrev pub Leads : {A : Type 0} → Direction → HeapItem A → List (HeapItem A) → Type 0
Leads Front h hs = All (λ y. is_gt (turn_cmp h y) ≡ false) hs
Leads Back h hs = All (λ y. is_gt (turn_cmp y h) ≡ false) hs

-- an entry taken from an end of source i is held, and nothing else changes
abbrev pub Puts : {A : Type 0} → Direction → ℕ → Option R → List (HeapItem A) → List (HeapItem A)
    → Type 0
Puts end i None old new = new ≡ old
Puts end i (Some (Err e)) old new = new ≡ old
Puts {A} end i (Some (Ok x)) old new =
    (h : HeapItem A) × (entry_of h ≡ x) × (h.source ≡ i) × (h.end ≡ end)
    × IsPermutation (h ∷ old) new

-- the error that a source returned, if any
abbrev pub error_result : Option R → Result (Unit {0}) Error
error_result None = Ok tt
error_result (Some (Ok x)) = Ok tt
error_result (Some (Err e)) = Err e

-- an end becomes ready
abbrev pub made_ready : {S A : Type 0} → Direction → Merger S A → Merger S A
made_ready Front m = record m { front_ready = true }
made_ready Back m = record m { back_ready = true }

-- an entry, unless a source returned an error
abbrev pub entry_result : Entry → Result (Unit {0}) Error → Result (Option Entry) Error
entry_result x (Ok u) = Ok (Some x)
entry_result x (Err e) = Err e

-- the result of a call
abbrev pub answer_result : Result (Option Entry) Error → Option R
answer_result (Ok None) = None
answer_result (Ok (Some x)) = Some (Ok x)
answer_result (Err e) = Some (Err e)

-- an error exhausts the merger
abbrev pub ended_at : {S A : Type 0} → Result (Option Entry) Error → Merger S A → Merger S A
ended_at (Ok o) m = m
ended_at (Err e) m = record m { failed = true }

-- the sources and all but the held items are unchanged
pub record SameSources {S A : Type 0} (m n : Merger S A) : Type 0 where
  pub sources : n.sources ≡ m.sources
  pub room : n.heap.room ≡ m.heap.room
  pub front_ready : n.front_ready ≡ m.front_ready
  pub back_ready : n.back_ready ≡ m.back_ready
  pub failed : n.failed ≡ m.failed

-- no item is held
pub record HoldsNone {S A : Type 0} (m n : Merger S A) : Type 0 where
  pub was : m.heap.items ≡ []
  pub is : n.heap.items ≡ []
  pub same : SameSources m n

-- the first held item, from an end, was removed
pub record Pops {S A : Type 0} (end : Direction) (m : Merger S A) (h : HeapItem A)
    (n : Merger S A) : Type 0 where
  pub leads : Leads end h m.heap.items
  pub left : IsPermutation m.heap.items (h ∷ n.heap.items)
  pub same : SameSources m n

module _ {S : Type 0} (ask : S → Option R → S → Type 0) (end : Direction) where
  -- source i was called once at this end: its entry is held, or its error is returned
  pub record AsksSource {A : Type 0} (i : ℕ) (m : Merger S A) (r : Result (Unit {0}) Error)
      (n : Merger S A) : Type 0 where
    pub within : i < length m.sources.items
    pub was : Ends S
    pub is : Ends S
    pub answer : Option R
    pub found : was ≡ slice_index_or m.sources.items i was
    pub asked : Asked ask was answer is
    pub written : n.sources.items ≡ slice_set m.sources.items i is
    pub puts : Puts end i answer m.heap.items n.heap.items
    pub returned : r ≡ error_result answer
    pub same : SameRoom m n

  -- each source below i was called once, in turn, and returned no error
  abbrev pub AsksEach : {A : Type 0} → ℕ → Merger S A → Merger S A → Type 0
  AsksEach zero m n = n ≡ m
  AsksEach {A} (suc i) m n = (j : Merger S A) × AsksEach i m j × AsksSource i j (Ok tt) n

  -- each source was called once
  pub record AsksAll {A : Type 0} (m n : Merger S A) : Type 0 where
    pub last : Merger S A
    pub each : AsksEach (length m.sources.items) m last
    pub ready : n ≡ made_ready end last

  -- a source returned an error, and none before it
  pub record FailsAt {A : Type 0} (e : Error) (m n : Merger S A) : Type 0 where
    pub place : ℕ
    pub before : Merger S A
    pub each : AsksEach place m before
    pub fails : AsksSource place before (Err e) n

  -- if the end is ready, no source is called; else each is
  abbrev pub FillsIf : {A : Type 0} → Bool → Merger S A → Result (Unit {0}) Error → Merger S A
      → Type 0
  FillsIf true m r n = (r ≡ Ok tt) × (n ≡ m)
  FillsIf false m (Ok u) n = AsksAll m n
  FillsIf false m (Err e) n = FailsAt e m n

  -- the first call at this end, and no other, calls each source
  pub record Fills {A : Type 0} (m : Merger S A) (r : Result (Unit {0}) Error) (n : Merger S A) :
      Type 0 where
    pub fill : FillsIf (is_ready end m) m r n

  -- the first held item was removed, and only its source was called for the next
  pub record TakesLead {A : Type 0} (m : Merger S A) (r : Result (Option Entry) Error)
      (n : Merger S A) : Type 0 where
    pub lead : HeapItem A
    pub mid : Merger S A
    pub pops : Pops end m lead mid
    pub answer : Result (Unit {0}) Error
    pub asks : AsksSource lead.source mid answer n
    pub returned : r ≡ entry_result (entry_of lead) answer

  -- no item is held, or the first one is taken; an earlier error is the result
  abbrev pub TakesLeadIf : {A : Type 0} → Result (Unit {0}) Error → Merger S A
      → Result (Option Entry) Error
      → Merger S A → Type 0
  TakesLeadIf (Ok u) m r n = ((r ≡ Ok None) × HoldsNone m n) ⊎ TakesLead m r n
  TakesLeadIf (Err e) m r n = (r ≡ Err e) × (n ≡ m)

  -- one turn, once the end is ready
  pub record TakesStep {A : Type 0} (m : Merger S A) (r : Result (Option Entry) Error)
      (n : Merger S A) : Type 0 where
    pub fill : Result (Unit {0}) Error
    pub filled : Merger S A
    pub fills : Fills m fill filled
    pub turns : TakesLeadIf fill filled r n

  -- a step, if no source failed
  pub record AnswersCall {A : Type 0} (m : Merger S A) (r : Option R) (n : Merger S A) : Type 0
    where
      pub step : Result (Option Entry) Error
      pub led : Merger S A
      pub steps : TakesStep m step led
      pub answer : r ≡ answer_result step
      pub state : n ≡ ended_at step led

  -- after an error: `None` alone; else a step
  abbrev pub CallsIf : {A : Type 0} → Bool → Merger S A → Option R → Merger S A → Type 0
  CallsIf true m r n = (r ≡ None) × (n ≡ m)
  CallsIf false m r n = AnswersCall m r n

  -- one call at this end, which calls no source at the other end
  pub record Calls {A : Type 0} (May : Merger S A → Type 0) (m : Merger S A) (r : Option R)
      (n : Merger S A) : Type 0 where
    pub may : May n
    pub call : CallsIf m.failed m r n

-- a merger of these sources, before any call
pub record IsMergerOf {S A : Type 0} (its : List S) (m : Merger S A) : Type 0 where
  pub sources : m.sources.items ≡ map new_ends its
  pub empty : m.heap.items ≡ []
  pub space : length its + length its ≤ m.heap.room
  pub no_front : m.front_ready ≡ false
  pub no_back : m.back_ready ≡ false
  pub fine : m.failed ≡ false
