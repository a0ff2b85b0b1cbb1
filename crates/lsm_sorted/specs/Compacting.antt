-- The calls of a compaction, on the remaining list of results.
use Rattle.std.specs.Prelude.{◌≡◌, ℕ, Bool, true, false, not, ◌&&◌, if◌then◌else◌, nat_lt, List, []}
use Rattle.std.specs.Prelude.{◌∷◌, ◌++◌, Option, Some, None, Result, Ok, Err}
use Rattle.sst_entries.specs.Entry.{Entry}
use Rattle.sst_entries.specs.Kind.{is_tombstone_kind}
use Rattle.sst_entries.specs.Key.{same_key}
use Rattle.sst_entries.specs.Stream.{first}
use Rattle.sst_entries.specs.declared.error.Error.{Error}
use Rattle.lsm_sorted.specs.merge.Ends.{R}
use Rattle.lsm_sorted.specs.Newest.{after_key}
use Rattle.lsm_sorted.specs.declared.compaction.Rules.{Rules}
use Rattle.lsm_sorted.specs.Compaction.{Verdict, keep, Judged, JudgedItem, items, told_by}
use Rattle.lsm_sorted.specs.Compaction.{reports_by, goes, zeroed, outs, reported, asked}

-- the longest prefix of entries with this key
abbrev pub of_key : List ℕ → List R → List Entry
of_key key [] = []
of_key key (Ok x ∷ rs) = if same_key x.user_key key then x ∷ of_key key rs else []
of_key key (Err e ∷ rs) = []

-- one turn: the result, if any, the remaining list and the reported entries
pub record Turn : Type 0 where
  pub answer : Option R
  pub rest : List R
  pub reports : List Entry

-- the result for a head; `None` for one that is skipped
abbrev pub head_answer : Rules → Bool → Entry → Option R
head_answer rules skipped head = if skipped then None else Some (Ok (zeroed rules head))

-- the head's older versions are drained and reported: an error after them is returned, else the
-- head, unless it is removed
abbrev pub close : Rules → Entry → List Entry → List R → Turn
close rules head drained [] =
    record {
      answer = head_answer rules (goes rules.evict head.kind (first drained)) head;
      rest =
          [];
      reports = drained;
    }
close rules head drained (Ok x ∷ rs) =
    record {
      answer = head_answer rules (goes rules.evict head.kind (first drained)) head;
      rest =
          Ok x ∷ rs;
      reports = drained;
    }
close rules head drained (Err e ∷ rs) =
    record { answer = Some (Err e); rest = rs; reports = drained }

-- whether the next item is an entry with the key
abbrev pub key_follows : List ℕ → List R → Bool
key_follows key [] = false
key_follows key (Ok x ∷ rs) = same_key x.user_key key
key_follows key (Err e ∷ rs) = false

-- a head that passed the filter: it is returned at once if an older version follows that a reader
-- may still see
abbrev pub settled : Rules → Entry → List R → Turn
settled rules head rs =
    if key_follows head.user_key rs && not (nat_lt head.seqno rules.watermark)
    then record { answer = Some (Ok (zeroed rules head)); rest = rs; reports = [] }
    else close rules head (of_key head.user_key rs) (after_key head.user_key rs)

-- a turn for a head, by the filter's result
abbrev pub turned : Rules → Result (Option Entry) Error → List R → Turn
turned rules (Ok (Some head)) rs = settled rules head rs
turned rules (Ok None) rs = record { answer = None; rest = rs; reports = [] }
turned rules (Err e) rs = record { answer = Some (Err e); rest = rs; reports = [] }

module _ {F : Type 0} (gives : F → Entry → Result Verdict Error → F → Type 0) where
  -- a filter is called with an entry or not; if not, the entry is kept
  abbrev pub AsksIf : Bool → F → Entry → Result Verdict Error → F → Type 0
  AsksIf false f x v g = (v ≡ Ok keep) × (g ≡ f)
  AsksIf true f x v g = gives f x v g

  -- a filter is called with each entry that is not a tombstone
  abbrev pub Asks : F → Entry → Result Verdict Error → F → Type 0
  Asks f x v g = AsksIf (not (is_tombstone_kind x.kind)) f x v g

  -- a filter was called with these entries in turn, and returned these verdicts
  abbrev pub SaysOf : F → List Judged → F → Type 0
  SaysOf f [] g = g ≡ f
  SaysOf f (j ∷ js) g = (h : F) × gives f j.entry j.verdict h × SaysOf h js g

module _ {C : Type 0} (gets : C → Entry → C → Type 0) where
  -- a callback received these entries in turn
  abbrev pub GetsAll : C → List Entry → C → Type 0
  GetsAll c [] d = d ≡ c
  GetsAll c (x ∷ xs) d = (b : C) × gets c x b × GetsAll b xs d

module _ {F C : Type 0} (gives : F → Entry → Result Verdict Error → F → Type 0)
    (gets : C → Entry → C → Type 0) (rules : Rules) where
  -- a turn at a head x before rs: the filter returns a verdict, and the callback receives the
  -- entries reported and drained
  pub record Turns (f : F) (c : C) (x : Entry) (rs : List R) (answer : Option R) (g : F) (d : C)
      (ys : List R) : Type 0 where
    pub verdict : Result Verdict Error
    pub asks : Asks gives f x verdict g
    pub answers : answer ≡ (turned rules (told_by x verdict) rs).answer
    pub leaves : ys ≡ (turned rules (told_by x verdict) rs).rest
    pub reports : GetsAll gets c
        (reports_by x verdict ++ (turned rules (told_by x verdict) rs).reports) d

  -- a call, from a filter, a callback and a list, to a result and the three remaining states
  pub data Calls : F → C → List R → Option R → F → C → List R → Type 0 where
    -- the list is exhausted
    ended : {f : F} {c : C} → Calls f c [] None f c []
    -- the next item is an error, which is returned
    failed : {f : F} {c : C} {e : Error} {rs : List R}
        → Calls f c (Err e ∷ rs) (Some (Err e)) f c rs
    -- a turn returns a result
    answered : {f g : F} {c d : C} {x : Entry} {rs ys : List R} {r : R}
        → Turns f c x rs (Some r) g d ys → Calls f c (Ok x ∷ rs) (Some r) g d ys
    -- a turn returns no result, and the next one follows
    again : {f h g : F} {c b d : C} {x : Entry} {rs zs ys : List R} {r : Option R}
        → Turns f c x rs None h b zs → Calls h b zs r g d ys → Calls f c (Ok x ∷ rs) r g d ys

-- a filter is not called with tombstones, which are kept
abbrev pub KeepsTombstones : List JudgedItem → Type 0
KeepsTombstones [] = Unit {0}
KeepsTombstones (Ok j ∷ js) = (is_tombstone_kind j.entry.kind ≡ true → j.verdict ≡ Ok keep)
    × KeepsTombstones js
KeepsTombstones (Err e ∷ js) = KeepsTombstones js

-- a whole compaction of a list of results: its output, filter calls and reports follow from the
-- filter's verdicts
pub record Compacted {F C : Type 0} (gives : F → Entry → Result Verdict Error → F → Type 0)
    (gets : C → Entry → C → Type 0) (rules : Rules) (f : F) (c : C) (xs gave : List R) (g : F)
    (d : C) : Type 0 where
  pub judged : List JudgedItem
  pub over : items judged ≡ xs
  pub tombstones : KeepsTombstones judged
  pub answers : gave ≡ outs rules judged
  pub says : SaysOf gives f (asked rules judged) g
  pub reports : GetsAll gets c (reported rules judged) d
