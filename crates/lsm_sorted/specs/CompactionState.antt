-- The state of a compaction stream, and its calls.
use Rattle.std.specs.Prelude.{◌≡◌, ℕ, Bool, false, List, [], ◌∷◌, Option, Some, None, Result, Ok}
use Rattle.std.specs.Prelude.{Err}
use Rattle.std.specs.List.{AllByRecursion}
use Rattle.std.specs.Iterator.{Count, Yields}
use Rattle.sst_entries.specs.Entry.{Entry}
use Rattle.sst_entries.specs.declared.error.Error.{Error}
use Rattle.sst_entries.specs.declared.stream.Direction.TheVariants.{Front}
use Rattle.sst_entries.specs.Stream.{YieldsExactly, answer_stops, result_stops, nowhere, ok_results}
use Rattle.lsm_sorted.specs.declared.ahead.Ahead.{Ahead}
use Rattle.lsm_sorted.specs.declared.compaction.stream.CompactionStream.{CompactionStream}
use Rattle.lsm_sorted.specs.merge.Ends.{R, Goes}
use Rattle.lsm_sorted.specs.Newest.{after_key}
use Rattle.lsm_sorted.specs.Outlook.{Outlook, before_any, nothing_stops, IsSame}
use Rattle.lsm_sorted.specs.Hears.{Hears, Heard}
use Rattle.lsm_sorted.specs.Ahead.{HoldsAhead, ahead_size, ahead_outlook}
use Rattle.lsm_sorted.specs.declared.compaction.Rules.{Rules}
use Rattle.lsm_sorted.specs.Compaction.{Verdict, told_by, reports_by, outs, as_they_are, kept}
use Rattle.lsm_sorted.specs.Compaction.{unfiltered}
use Rattle.lsm_sorted.specs.Compacting.{of_key, head_answer, settled, Asks, GetsAll, Calls}
use Rattle.lsm_sorted.specs.Compacting.{Compacted}

-- a call that consumes from xs and leaves ys
abbrev pub CallsIn : {F C : Type 0} → (F → Entry → Result Verdict Error → F → Type 0)
    → (C → Entry → C → Type 0) → Rules → F → C → Option R → F → C → List R → List R → Type 0
CallsIn gives gets rules f c r g d xs ys = Calls gives gets rules f c xs r g d ys

module _ {S F C : Type 0} where
  -- the rules of the stream
  abbrev pub rules_of : CompactionStream S F C R → Rules
  rules_of s = record {
    watermark = s.gc_seqno_threshold;
    evict = s.evict_tombstones;
    zeroing =
        s.zero_seqnos;
  }

  -- the source of the stream
  abbrev pub source_of : CompactionStream S F C R → Ahead S R
  source_of s = s.inner

  -- the source of the stream, with the entry read ahead
  abbrev pub compaction_outlook : CompactionStream S F C R → Outlook S
  compaction_outlook s = ahead_outlook (source_of s)

  abbrev pub filter_of : CompactionStream S F C R → F
  filter_of s = s.filter

  abbrev pub callback_of : CompactionStream S F C R → C
  callback_of s = s.dropped_callback

  -- the list of results that the stream has yet to process
  abbrev pub Compacts : (Error → Bool) → (S → Option R → S → Type 0) → CompactionStream S F C R
      → List R → Type 0
  Compacts stops front s xs = HoldsAhead stops front (source_of s) xs

  -- the stream may be called, and is finite
  abbrev pub MayCompact : (S → Option R → S → Type 0) → (S → Type 0) → (S → Count)
      → CompactionStream S F C R → Type 0
  MayCompact front can left s = Goes front nowhere can can left (source_of s).source

  abbrev pub compaction_size : (S → Count) → CompactionStream S F C R → ℕ
  compaction_size left s = ahead_size left (source_of s)

  -- one call: it may be called again, and its rules do not change. Result and remaining list are
  -- those of a call on xs, up to an error in `stops`, and on any results of the source.
  pub record CompactsNext (front : S → Option R → S → Type 0) (can : S → Type 0) (left : S → Count)
      (gives : F → Entry → Result Verdict Error → F → Type 0) (gets : C → Entry → C → Type 0)
      (s : CompactionStream S F C R) (r : Option R) (t : CompactionStream S F C R) : Type 0 where
    pub may : MayCompact front can left t
    pub rules : rules_of t ≡ rules_of s
    pub calls : (stops : Error → Bool) (xs : List R) → Compacts stops front s xs
        → answer_stops stops r ≡ false → (ys : List R) × Compacts stops front t ys
        × Calls gives gets (rules_of s) (filter_of s) (callback_of s) xs r (filter_of t)
        (callback_of t) ys
    pub hears : Hears front Front r
        (CallsIn gives gets (rules_of s) (filter_of s) (callback_of s) r (filter_of t)
        (callback_of t)) (compaction_outlook s) (compaction_outlook t)

module _ {S F C : Type 0} (front : S → Option R → S → Type 0)
    (next : CompactionStream S F C R → Option R → CompactionStream S F C R → Type 0)
    (s : CompactionStream S F C R) where
  -- for any list that the stream processes, calls until `None` yield, filter and report as a
  -- compaction of the list does
  abbrev pub CompactsWhole : (F → Entry → Result Verdict Error → F → Type 0)
      → (C → Entry → C → Type 0) → Type 0
  CompactsWhole gives gets =
      (stops : Error → Bool) (xs gave : List R) (t u : CompactionStream S F C R)
      → Compacts stops front s xs → AllByRecursion (λ r. result_stops stops r ≡ false) gave
      → Yields next s gave t → next t None u → Compacted gives gets (rules_of s) (filter_of s)
      (callback_of s) xs gave (filter_of u) (callback_of u)

  -- whatever the source yields, errors included, calls until `None` yield, filter and report as a
  -- compaction of it does
  abbrev pub CompactsHeard : (F → Entry → Result Verdict Error → F → Type 0)
      → (C → Entry → C → Type 0) → Type 0
  CompactsHeard gives gets = (source : S) (gave : List R) (t u : CompactionStream S F C R)
      → compaction_outlook s ≡ before_any source
      → Yields next s gave t → next t None u
      → Heard front nowhere source
      (λ xs. Compacted gives gets (rules_of s) (filter_of s) (callback_of s) xs gave
      (filter_of u) (callback_of u))

  -- the same where the filter keeps all: the calls yield the compaction's output
  abbrev pub GivesOuts : Type 0
  GivesOuts = (source : S) (gave : List R) (t u : CompactionStream S F C R) → compaction_outlook s
      ≡ before_any source
      → Yields next s gave t → next t None u
      → Heard front nowhere source (λ xs. gave ≡ outs (rules_of s) (as_they_are xs))

  -- where the filter keeps all, the stream yields the compaction's output for any list that it
  -- processes
  abbrev pub YieldsOuts : Type 0
  YieldsOuts = (stops : Error → Bool) (xs : List R) → Compacts stops front s xs
      → YieldsExactly (answer_stops stops) next nowhere s (outs (rules_of s) (as_they_are xs))

  -- the same for a list without errors: the stream yields the entries kept
  abbrev pub YieldsKept : Type 0
  YieldsKept = (stops : Error → Bool) (xs : List Entry) → Compacts stops front s (ok_results xs)
      → YieldsExactly (answer_stops stops) next nowhere s (ok_results (kept (rules_of s) (unfiltered xs)))

-- the error of a result, if any
abbrev pub refusal : {X : Type 0} → Result X Error → Option Error
refusal (Ok x) = None
refusal (Err e) = Some e

-- the same as the result of a call
abbrev pub failure : {X : Type 0} → Result X Error → Option R
failure (Ok x) = None
failure (Err e) = Some (Err e)

-- the error at the front of a list, and the list after it
abbrev pub error_first : List R → Option Error
error_first [] = None
error_first (Ok x ∷ rs) = None
error_first (Err e ∷ rs) = Some e

abbrev pub past_error : List R → List R
past_error [] = []
past_error (Ok x ∷ rs) = Ok x ∷ rs
past_error (Err e ∷ rs) = rs

-- the next entries with a key were consumed and reported, up to an error in `stops`
pub record DrainsKey {T C X : Type 0} (stops : Error → Bool) (Has : T → List R → Type 0)
    (gets : C → Entry → C → Type 0) (key : List ℕ) (s : T) (c : C) (result : Result X Error) (t : T)
    (d : C) : Type 0 where
  pub at : (xs : List R) → Has s xs → result_stops stops result ≡ false
      → (refusal result ≡ error_first (after_key key xs)) × Has t (past_error (after_key key xs))
      × GetsAll gets c (of_key key xs) d

-- the result of a turn for a head that is removed or kept
abbrev pub answer_of : Rules → Entry → Result Bool Error → Option R
answer_of rules head (Ok gone) = head_answer rules gone head
answer_of rules head (Err e) = Some (Err e)

-- a head was settled, up to an error in `stops`
pub record Settles {T C : Type 0} (stops : Error → Bool) (Has : T → List R → Type 0)
    (gets : C → Entry → C → Type 0) (rules : Rules) (head : Entry) (s : T) (c : C)
    (result : Result Bool Error) (t : T) (d : C) : Type 0 where
  pub at : (xs : List R) → Has s xs → result_stops stops result ≡ false
      → (answer_of rules head result ≡ (settled rules head xs).answer)
      × Has t (settled rules head xs).rest × GetsAll gets c (settled rules head xs).reports d

-- the same for plain lists
module _ {C : Type 0} (gets : C → Entry → C → Type 0) where
  abbrev pub DrainsIn : {X : Type 0} → List ℕ → C → Result X Error → C → List R → List R → Type 0
  DrainsIn key c result d xs ys = DrainsKey nothing_stops IsSame gets key xs c result ys d

  abbrev pub SettlesIn : Rules → Entry → C → Result Bool Error → C → List R → List R → Type 0
  SettlesIn rules head c result d xs ys =
      Settles nothing_stops IsSame gets rules head xs c result ys d

-- a head was filtered, and reported by its verdict
pub record Filters {F C : Type 0} (gives : F → Entry → Result Verdict Error → F → Type 0)
    (gets : C → Entry → C → Type 0) (head : Entry) (f : F) (c : C)
    (result : Result (Option Entry) Error) (g : F) (d : C) : Type 0 where
  pub verdict : Result Verdict Error
  pub asks : Asks gives f head verdict g
  pub states : result ≡ told_by head verdict
  pub reports : GetsAll gets c (reports_by head verdict) d

module _ {S F C : Type 0} where
  -- the same for a stream's source: the next entries with a key were consumed and reported
  abbrev pub DrainsFrom : {X : Type 0} → (Error → Bool) → (S → Option R → S → Type 0)
      → (C → Entry → C → Type 0) → List ℕ → CompactionStream S F C R → C → Result X Error
      → CompactionStream S F C R → Type 0
  DrainsFrom stops front gets key s c result t = DrainsKey stops (HoldsAhead stops front) gets key
      (source_of s) c result (source_of t) (callback_of t)

  -- a head was settled from a stream's source
  abbrev pub SettlesFrom : (Error → Bool) → (S → Option R → S → Type 0)
      → (C → Entry → C → Type 0) → Entry → CompactionStream S F C R → Result Bool Error
      → CompactionStream S F C R → Type 0
  SettlesFrom stops front gets head s result t =
      Settles stops (HoldsAhead stops front) gets (rules_of s) head (source_of s) (callback_of s)
      result (source_of t) (callback_of t)

  -- a step of a stream, which fails or goes on, by the results that its source returned in it
  abbrev pub HearsAhead : {X : Type 0} → (S → Option R → S → Type 0) → Result X Error
      → (List R → List R → Type 0) → CompactionStream S F C R → CompactionStream S F C R → Type 0
  HearsAhead front result P s t =
      Hears front Front (failure result) P (compaction_outlook s) (compaction_outlook t)
