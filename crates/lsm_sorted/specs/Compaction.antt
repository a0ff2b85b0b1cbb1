-- The entries that a compaction keeps and reports, key by key.
use Rattle.std.specs.Prelude.{ℕ, Bool, true, false, not, ◌&&◌, if◌then◌else◌, nat_lt, List, [], ◌∷◌}
use Rattle.std.specs.Prelude.{◌++◌, map, filter, Option, Some, None, Result, Ok, Err}
use Rattle.sst_entries.specs.Entry.{Entry}
use Rattle.sst_entries.specs.Kind.{is_tombstone_kind}
use Rattle.sst_entries.specs.Key.{same_key}
use Rattle.sst_entries.specs.Stream.{first, ok_results}
use Rattle.sst_entries.specs.declared.error.Error.{Error}
use Rattle.sst_entries.specs.declared.value_type.ValueType.{ValueType}
use Rattle.sst_entries.specs.declared.value_type.ValueType.TheVariants.{Value, Tombstone}
use Rattle.sst_entries.specs.declared.value_type.ValueType.TheVariants.{WeakTombstone, Indirection}
use Rattle.lsm_sorted.specs.merge.Ends.{R}
use Rattle.lsm_sorted.specs.merge.Union.{entries_among}
use Rattle.lsm_sorted.specs.declared.compaction.Rules.{Rules}

-- a filter's verdict: keep the entry, replace its kind and value, or drop it
pub data Verdict : Type 0 where
  keep : Verdict
  replace : ValueType → List ℕ → Verdict
  drop : Verdict

-- an entry with the filter's verdict, or the filter's error
pub record Judged : Type 0 where
  pub entry : Entry
  pub verdict : Result Verdict Error

-- an item of a list of results after filtering
abbrev pub JudgedItem : Type 0
JudgedItem = Result Judged Error

-- the items without their verdicts
abbrev pub items : List JudgedItem → List R
items [] = []
items (Ok j ∷ js) = Ok j.entry ∷ items js
items (Err e ∷ js) = Err e ∷ items js

-- the entry after filtering, if any
abbrev pub told_by : Entry → Result Verdict Error → Result (Option Entry) Error
told_by x (Ok keep) = Ok (Some x)
told_by x (Ok (replace kind value)) =
    Ok (Some (record { user_key = x.user_key; seqno = x.seqno; kind = kind; value = value }))
told_by x (Ok drop) = Ok None
told_by x (Err e) = Err e

abbrev pub returned : Judged → Result (Option Entry) Error
returned j = told_by j.entry j.verdict

-- the filter passes an entry
abbrev pub is_left : Result (Option Entry) Error → Bool
is_left (Ok (Some x)) = true
is_left (Ok None) = false
is_left (Err e) = false

-- the entries that a verdict reports: a dropped or replaced entry, as it was
abbrev pub reports_by : Entry → Result Verdict Error → List Entry
reports_by x (Ok keep) = []
reports_by x (Ok (replace kind value)) = x ∷ []
reports_by x (Ok drop) = x ∷ []
reports_by x (Err e) = []

-- a version that passes the filter, with a seqno below the watermark, hides all older ones from
-- every reader
abbrev pub is_cut : ℕ → Judged → Bool
is_cut watermark j = is_left (returned j) && nat_lt j.entry.seqno watermark

-- the versions of a key up to and including the first cut, or all of them
abbrev pub heads : ℕ → List Judged → List Judged
heads watermark [] = []
heads watermark (j ∷ js) = j ∷ (if is_cut watermark j then [] else heads watermark js)

-- the versions after the first cut
abbrev pub expired : ℕ → List Judged → List Judged
expired watermark [] = []
expired watermark (j ∷ js) = if is_cut watermark j then js else expired watermark js

-- a value: no tombstone, and no indirection
abbrev pub is_value : ValueType → Bool
is_value Value = true
is_value Tombstone = false
is_value WeakTombstone = false
is_value Indirection = false

-- whether the last head is removed: a tombstone under eviction, but a weak one with an older
-- version exactly if that is a value
abbrev pub goes : Bool → ValueType → Option Entry → Bool
goes evict Value next = false
goes evict Tombstone next = evict
goes evict WeakTombstone None = evict
goes evict WeakTombstone (Some next) = is_value next.kind
goes evict Indirection next = false

-- a seqno below the watermark becomes 0, if the rules zero seqnos
abbrev pub zeroed : Rules → Entry → Entry
zeroed rules x = record {
  user_key = x.user_key;
  seqno =
      (if rules.zeroing && nat_lt x.seqno rules.watermark then 0 else x.seqno);
  kind = x.kind;
  value =
      x.value;
}

-- the output for a head: the entry after filtering, unless it is removed, or the filter's error
abbrev pub head_given : Rules → (Entry → Bool) → Result (Option Entry) Error → List R
head_given rules gone (Ok (Some x)) = if gone x then [] else Ok (zeroed rules x) ∷ []
head_given rules gone (Ok None) = []
head_given rules gone (Err e) = Err e ∷ []

-- the output for the heads of a key, where only the last may be removed
abbrev pub given : Rules → (Entry → Bool) → List Judged → List R
given rules gone [] = []
given rules gone (j ∷ []) = head_given rules gone (returned j)
given rules gone (j ∷ k ∷ ks) = head_given rules (λ x. false) (returned j) ++ given rules gone (k ∷ ks)

-- the successive versions of one key, and the error that follows them, if any
pub record Versions : Type 0 where
  pub versions : List Judged
  pub error : Option Error

-- whether a version belongs to this group: it has the same key, or the group has only an error
abbrev pub is_version_of : List Judged → Judged → Bool
is_version_of [] j = true
is_version_of (k ∷ ks) j = same_key k.entry.user_key j.entry.user_key

-- a version before others: it joins their first group, or starts a new one
abbrev pub before : Judged → List Versions → List Versions
before j [] = record { versions = j ∷ []; error = None } ∷ []
before j (v ∷ vs) = if is_version_of v.versions j then record {
  versions = j ∷ v.versions;
  error =
      v.error;
} ∷ vs else record { versions = j ∷ []; error = None } ∷ v ∷ vs

-- a list of results, grouped by key and error
abbrev pub by_key : List JudgedItem → List Versions
by_key [] = []
by_key (Ok j ∷ js) = before j (by_key js)
by_key (Err e ∷ js) = record { versions = []; error = Some e } ∷ by_key js

-- the last head is removed by its kind, and always if an error follows
abbrev pub gone : Rules → Option Entry → Option Error → Entry → Bool
gone rules next None x = goes rules.evict x.kind next
gone rules next (Some e) x = true

-- an error as a list of results
abbrev pub error_of : Option Error → List R
error_of None = []
error_of (Some e) = Err e ∷ []

-- the entries without their verdicts
abbrev pub entries : List Judged → List Entry
entries js = map (λ j. j.entry) js

-- the output for the versions of a key: that of their heads, then the error that follows
abbrev pub outs_of : Rules → Versions → List R
outs_of rules v = given rules
    (gone rules (first (entries (expired rules.watermark v.versions))) v.error)
    (heads rules.watermark v.versions) ++ error_of v.error

-- the reported versions of a key: the dropped and replaced heads, and all after the cut
abbrev pub reported_heads : List Judged → List Entry
reported_heads [] = []
reported_heads (j ∷ js) = reports_by j.entry j.verdict ++ reported_heads js

abbrev pub reported_of : Rules → Versions → List Entry
reported_of rules v = reported_heads (heads rules.watermark v.versions)
    ++ entries (expired rules.watermark v.versions)

-- the versions passed to the filter: the heads that are not tombstones
abbrev pub asked_of : Rules → Versions → List Judged
asked_of rules v = filter (λ j. not (is_tombstone_kind j.entry.kind))
    (heads rules.watermark v.versions)

-- concatenated over the groups in order
abbrev pub concat_by : {A : Type 0} → (Versions → List A) → List Versions → List A
concat_by f [] = []
concat_by f (v ∷ vs) = f v ++ concat_by f vs

-- the whole output of a compaction, its reports, and its filter calls
abbrev pub outs : Rules → List JudgedItem → List R
outs rules js = concat_by (outs_of rules) (by_key js)

abbrev pub reported : Rules → List JudgedItem → List Entry
reported rules js = concat_by (reported_of rules) (by_key js)

abbrev pub asked : Rules → List JudgedItem → List Judged
asked rules js = concat_by (asked_of rules) (by_key js)

-- the entries that a compaction keeps, of a list without errors
abbrev pub kept : Rules → List Judged → List Entry
kept rules js = entries_among (outs rules (ok_results js))

-- a list of entries that the filter keeps
abbrev pub as_is : Entry → Judged
as_is x = record { entry = x; verdict = Ok keep }

abbrev pub unfiltered : List Entry → List Judged
unfiltered xs = map as_is xs

-- a list of results whose entries the filter keeps
abbrev pub as_they_are : List R → List JudgedItem
as_they_are [] = []
as_they_are (Ok x ∷ rs) = Ok (as_is x) ∷ as_they_are rs
as_they_are (Err e ∷ rs) = Err e ∷ as_they_are rs
