-- The state of a store, and the history of its writes.
use Rattle.std.specs.Prelude.{◌≡◌, ℕ, ◌-◌, ◌^◌, ◌<◌, ◌≤◌, nat_le, nat_lt, List, [], ◌∷◌, ◌++◌}
use Rattle.std.specs.Prelude.{false, if◌then◌else◌, length, None, Option, Some}
use Rattle.std.specs.List.{AllByRecursion}
use Rattle.std.specs.Option.{option_map}
use Rattle.lsm_tables.specs.Words.{AreCompactable, Entry, Error, HoldsList, IsInOrder, KeyTooLong}
use Rattle.lsm_tables.specs.Words.{OpenTable, RunsHoldLists, SeqNoOverflow, ValueTooLong, range_of}
use Rattle.lsm_tables.specs.Words.{is_weak, seen, union_in}

-- the state of a store: the entries in no table yet, the tables of its runs, the counter of their
-- ids, and their target size. Also the seqno of the next write, the lower bound of the former
-- entries' seqnos, the oldest snapshot that is kept, and the limit of entries before a flush
pub record Holding : Type 0 where
  pub recent : List Entry
  pub runs : List (List OpenTable)
  pub ids : Option ℕ
  pub target : ℕ
  pub next : ℕ
  pub flushed : ℕ
  pub oldest : ℕ
  pub limit : ℕ

-- the state with these parts
abbrev pub holding : List Entry → List (List OpenTable) → Option ℕ → ℕ → ℕ → ℕ → ℕ → ℕ → Holding
holding recent runs ids target next flushed oldest limit = record {
  recent = recent;
  runs = runs;
  ids = ids;
  target = target;
  next = next;
  flushed = flushed;
  oldest = oldest;
  limit = limit;
}

-- a history is the list of all writes, the newest first: each seqno is below that of the one before
-- it, and the first is below the next
abbrev pub IsStory : ℕ → List Entry → Type 0
IsStory next [] = Unit {0}
IsStory next (e ∷ ws) = (e.seqno < next) × IsStory e.seqno ws

-- an entry with a seqno below a bound, and no weak tombstone
abbrev pub IsOwn : ℕ → Entry → Type 0
IsOwn bound e = (e.seqno < bound) × (is_weak e ≡ false)

-- a table that was opened without a global seqno, of a list of such entries, at least one
pub record IsOwnTable (bound : ℕ) (t : OpenTable) : Type 0 where
  pub list : List Entry
  pub holds : HoldsList t list
  pub some : 0 < length list
  pub own : AllByRecursion (IsOwn bound) list
  pub unlifted : t.global_seqno ≡ 0

-- a run in order of such tables
pub record IsOwnRun (bound : ℕ) (run : List OpenTable) : Type 0 where
  pub some : 0 < length run
  pub order : IsInOrder range_of run
  pub tables : AllByRecursion (IsOwnTable bound) run

-- several such runs
abbrev pub AreOwnRuns : ℕ → List (List OpenTable) → Type 0
AreOwnRuns bound runs = AllByRecursion (IsOwnRun bound) runs

-- runs of such tables, which may be compacted
pub record HoldBelow (bound : ℕ) (runs : List (List OpenTable)) : Type 0 where
  pub own : AreOwnRuns bound runs
  pub able : AreCompactable runs

-- this holds of any lists that the tables of these runs hold
abbrev pub OnRunLists : List (List OpenTable) → (List (List (List Entry)) → Type 0) → Type 0
OnRunLists runs P = (lists : List (List (List Entry))) → RunsHoldLists runs lists → P lists

-- entries with seqnos from one on, and below another, and no weak tombstone among them
abbrev pub AreNumbered : ℕ → ℕ → List Entry → Type 0
AreNumbered from to es = AllByRecursion (λ (e : Entry). (from ≤ e.seqno) × IsOwn to e) es

-- the invariant of a store: what is in a table is older than what is not, and the snapshot of all
-- writes is kept
pub record IsStore (s : Holding) : Type 0 where
  pub recent : AreNumbered s.flushed s.next s.recent
  pub runs : HoldBelow s.flushed s.runs
  pub order : s.flushed ≤ s.next
  pub room : s.next < 2 ^ 64 - 1
  pub kept : s.oldest ≤ s.next

-- a store reads as a history: at each snapshot that it keeps, a reader sees in it the same of each
-- key as in the history
pub record IsReported (s : Holding) (ws : List Entry) : Type 0 where
  pub story : IsStory s.next ws
  pub lists : List (List (List Entry))
  pub hold : RunsHoldLists s.runs lists
  pub same : (key : List ℕ) (bound : ℕ) → s.oldest ≤ bound
      → seen (s.recent ++ union_in lists) key bound ≡ seen ws key bound

-- the value of a key at a snapshot; none if it was deleted last, or never written
abbrev pub value_in : List Entry → List ℕ → ℕ → Option (List ℕ)
value_in ws key bound = option_map (λ v. v.1) (seen ws key bound)

-- the error of a write with this seqno: its key or its value is longer than a table takes, or no
-- seqno is left after it
abbrev pub put_fault : ℕ → List ℕ → List ℕ → Option Error
put_fault next key value =
    if nat_lt 1048576 (length key) then Some KeyTooLong
    else (if nat_lt (2 ^ 32 - 1) (length value) then Some ValueTooLong
    else (if nat_le (2 ^ 64 - 2) next then Some SeqNoOverflow else None))

-- the list of an option
abbrev pub option_list : {X : Type 0} → Option X → List X
option_list None = []
option_list (Some x) = x ∷ []
