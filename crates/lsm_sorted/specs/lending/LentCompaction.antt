-- A lending compaction with a filter and a callback.
use Rattle.std.specs.Prelude.{◌≡◌, ◌⊎◌, ℕ, ◌+◌, Bool, true, false, ◌&&◌, ◌||◌, cond, nat_lt, List}
use Rattle.std.specs.Prelude.{[], ◌∷◌, ◌++◌, Option, Some, None, Result, Ok, Err}
use Rattle.std.specs.Prelude.{if◌then◌else◌}
use Rattle.std.specs.List.{AllByRecursion}
use Rattle.std.specs.Iterator.{Yields}
use Rattle.std.specs.Option.{option_map}
use Rattle.sst_entries.specs.Entry.{Entry, entry}
use Rattle.sst_entries.specs.Kind.{is_tombstone_kind, is_weak_kind}
use Rattle.sst_entries.specs.Lending.{came}
use Rattle.sst_entries.specs.Stream.{CanYield, YieldsExactly, answer_stops, first, nowhere, ok_results}
use Rattle.sst_entries.specs.Stream.{result_stops}
use Rattle.sst_entries.specs.declared.error.Error.{Error}
use Rattle.sst_entries.specs.declared.error.Error.TheVariants.{OutOfMemory}
use Rattle.sst_entries.specs.declared.value_type.ValueType.{ValueType}
use Rattle.lsm_sorted.specs.merge.Ends.{R}
use Rattle.lsm_sorted.specs.Newest.{after_key}
use Rattle.lsm_sorted.specs.Outlook.{results_in}
use Rattle.lsm_sorted.specs.Hears.{GaveEach}
use Rattle.lsm_sorted.specs.Compaction.{Judged, JudgedItem, Verdict, Versions, as_they_are, asked, by_key}
use Rattle.lsm_sorted.specs.Compaction.{concat_by, entries, error_of, expired, given, goes, heads}
use Rattle.lsm_sorted.specs.Compaction.{items, kept, reported, reports_by, told_by, unfiltered}
use Rattle.lsm_sorted.specs.Compaction.{zeroed}
use Rattle.lsm_sorted.specs.Compacting.{Asks, Compacted, GetsAll, KeepsTombstones, SaysOf, of_key}
use Rattle.lsm_sorted.specs.lending.LentFaults.{EndsIn, FilterSays, NothingCame, Passing, PassingOr}
use Rattle.lsm_sorted.specs.lending.LentFaults.{WantsItself}
use Rattle.lsm_sorted.specs.CompactionState.{answer_of}
use Rattle.lsm_sorted.specs.declared.compaction.Rules.{Rules}
use Rattle.lsm_sorted.specs.declared.compaction.lending.Lends.{Lends}
use Rattle.lsm_sorted.specs.declared.compaction.lending.Lends.TheVariants.{Nothing, Source, Held}
use Rattle.lsm_sorted.specs.declared.compaction.lending.LendingCompaction.{LendingCompaction}

-- ---- the output for a list

-- whether keeping a head depends on the next item: below the watermark for a weak tombstone, else
-- for any tombstone under eviction
abbrev pub has_to_wait : Rules → Entry → Bool
has_to_wait rules x = if nat_lt x.seqno rules.watermark then is_weak_kind x.kind
    else rules.evict && is_tombstone_kind x.kind

-- the last head is removed by its kind; if it has to wait and an error follows, it is lost
abbrev pub gone_of_lent : Rules → Option Entry → Option Error → Entry → Bool
gone_of_lent rules (Some next) e x = goes rules.evict x.kind (Some next)
gone_of_lent rules None None x = goes rules.evict x.kind None
gone_of_lent rules None (Some e) x = has_to_wait rules x || goes rules.evict x.kind None

-- the lending output for the versions of a key: that of their heads, then the error that follows
abbrev pub lent_outs_of : Rules → Versions → List R
lent_outs_of rules v = given rules
    (gone_of_lent rules (first (entries (expired rules.watermark v.versions))) v.error)
    (heads rules.watermark v.versions) ++ error_of v.error

-- the whole lending output for a list of results after filtering
abbrev pub lent_outs_by : Rules → List JudgedItem → List R
lent_outs_by rules js = concat_by (lent_outs_of rules) (by_key js)

-- the same where the filter keeps all
abbrev pub lent_outs : Rules → List R → List R
lent_outs rules rs = lent_outs_by rules (as_they_are rs)

-- the list without its next entries that this key hides, if any
abbrev pub past_hidden : Option (List ℕ) → List R → List R
past_hidden None rs = rs
past_hidden (Some key) rs = after_key key rs

-- an optional entry before others
abbrev pub entry_before : Option Entry → List R → List R
entry_before None rs = rs
entry_before (Some x) rs = Ok x ∷ rs

-- a number, plus one if `more`
abbrev pub one_more_if : Bool → ℕ → ℕ
one_more_if more n = cond more (n + 1) n

-- the result of a call as a list, empty for `None`
abbrev pub listed_answer : Option R → List R
listed_answer None = []
listed_answer (Some r) = r ∷ []

-- ---- its state

-- an entry with its kind and value replaced
abbrev pub put_into : Entry → ValueType → List ℕ → Entry
put_into x kind value = entry x.user_key value x.seqno kind

-- the next entries that this key hides, if any
abbrev pub hidden_in : Option (List ℕ) → List R → List Entry
hidden_in None rs = []
hidden_in (Some key) rs = of_key key rs

-- once a source returned `None`, it has no more results
abbrev pub EndsAtNone : List (Option R) → List R → Type 0
EndsAtNone [] rest = Unit {0}
EndsAtNone (None ∷ rs) rest = (results_in rs ++ rest ≡ []) × EndsAtNone rs rest
EndsAtNone (Some x ∷ rs) rest = EndsAtNone rs rest

-- the result is an entry
abbrev pub is_entry : Option R → Bool
is_entry None = false
is_entry (Some (Ok x)) = true
is_entry (Some (Err e)) = false

module _ {S F C A : Type 0} where
  -- its filter and its callback
  abbrev pub lent_filter : LendingCompaction S F C A → F
  lent_filter s = s.filter

  abbrev pub lent_callback : LendingCompaction S F C A → C
  lent_callback s = s.callback

  -- its source
  abbrev pub lender : LendingCompaction S F C A → S
  lender s = s.source

  -- the key whose next versions are hidden
  abbrev pub hidden_key : LendingCompaction S F C A → Option (List ℕ)
  hidden_key s = cond s.hides (Some s.key.items) None

  -- the borrowed entry, by its location: the source or the internal buffer
  abbrev pub lent_where : (S → Option Entry) → Lends → LendingCompaction S F C A → Option Entry
  lent_where lent Nothing s = None
  lent_where lent Source s = option_map (zeroed s.rules) (lent s.source)
  lent_where lent (Held n kind) s = Some (zeroed s.rules (entry s.key.items s.value.items n kind))

  -- the borrowed entry
  abbrev pub lent_compacted : (S → Option Entry) → LendingCompaction S F C A → Option Entry
  lent_compacted lent s = lent_where lent s.lends s

  -- the maximum number of remaining results
  abbrev pub compacted_left : (S → ℕ) → LendingCompaction S F C A → ℕ
  compacted_left left s = cond s.is_over 0 (one_more_if s.is_pending (left s.source))

  -- the list yet to process, given the source's remaining results
  abbrev pub looked_at : (S → Option Entry) → LendingCompaction S F C A → List R → List R
  looked_at lent s rs = cond s.is_pending (entry_before (lent s.source) rs) rs

  -- the source may be called
  abbrev pub MayLendCompacted : (S → Option R → S → Type 0) → (S → Type 0)
      → LendingCompaction S F C A → Type 0
  MayLendCompacted advances can s = CanYield advances nowhere can can s.source

-- a whole lending compaction of a list of results: as `Compacted`, but a head is yielded before the
-- error that follows it. A head that has to wait is lost instead.
pub record CompactedLent {F C : Type 0} (gives : F → Entry → Result Verdict Error → F → Type 0)
    (gets : C → Entry → C → Type 0) (rules : Rules) (f : F) (c : C) (xs gave : List R) (g : F)
    (d : C) : Type 0 where
  pub judged : List JudgedItem
  pub over : items judged ≡ xs
  pub tombstones : KeepsTombstones judged
  pub answers : gave ≡ lent_outs_by rules judged
  pub says : SaysOf gives f (asked rules judged) g
  pub reports : GetsAll gets c (reported rules judged) d

-- the rest of a compaction: its output, its filter calls, its reports and its list
pub record Later : Type 0 where
  pub gives : List R
  pub asks : List Judged
  pub reports : List Entry
  pub rest : List JudgedItem

-- a compaction up to its rest. For some verdicts, its output, filter calls and reports (hidden
-- entries first), followed by the rest's, are those of the whole.
pub record CompactedTo {F C : Type 0} (gives : F → Entry → Result Verdict Error → F → Type 0)
    (gets : C → Entry → C → Type 0) (later : Later) (rules : Rules) (f : F) (c : C)
    (hidden : List Entry) (xs gave : List R) (g : F) (d : C) : Type 0 where
  pub judged : List JudgedItem
  pub over : items judged ≡ xs
  pub tombstones : KeepsTombstones judged
  pub answers : gave ++ later.gives ≡ lent_outs_by rules judged
  pub said : List Judged
  pub said_are : said ++ later.asks ≡ asked rules judged
  pub says : SaysOf gives f said g
  pub heard : List Entry
  pub heard_are : heard ++ later.reports ≡ hidden ++ reported rules judged
  pub reports : GetsAll gets c heard d
  pub begun : List JudgedItem
  pub begun_are : begun ++ later.rest ≡ judged

-- an empty rest
abbrev pub nothing_later : Later
nothing_later = record { gives = []; asks = []; reports = []; rest = [] }

-- the rest for an unprocessed list, as without a filter; its first entries that a key hides are
-- only reported
abbrev pub later_of : Rules → Option (List ℕ) → List R → Later
later_of rules key left =
    let js : List JudgedItem = as_they_are (past_hidden key left) in
    record {
      gives = lent_outs_by rules js;
      asks = asked rules js;
      reports = hidden_in key left ++ reported rules js;
      rest = js;
    }

-- a compaction yielded these results and has not processed the whole list
pub record CompactedPart {F C : Type 0} (gives : F → Entry → Result Verdict Error → F → Type 0)
    (gets : C → Entry → C → Type 0) (rules : Rules) (f : F) (c : C) (xs gave : List R) (g : F)
    (d : C) : Type 0 where
  pub key : Option (List ℕ)
  pub left : List R
  pub does : CompactedTo gives gets (later_of rules key left) rules f c [] xs gave g d

module _ {F C : Type 0} (gives : F → Entry → Result Verdict Error → F → Type 0)
    (gets : C → Entry → C → Type 0) {S A : Type 0} where
  -- from here on: the next hidden entries of xs are reported, and the others are compacted, up to
  -- the rest
  abbrev pub WillCompact : Later → LendingCompaction S F C A → List R → List R → F → C → Type 0
  WillCompact later s xs gave g d = CompactedTo gives gets later s.rules s.filter s.callback
      (hidden_in (hidden_key s) xs) (past_hidden (hidden_key s) xs) gave g d

  -- from here on: an entry that passed the filter as this head is compacted, then the others
  pub record SettlesFirst (later : Later) (head : Entry) (s : LendingCompaction S F C A)
      (xs gave : List R) (g : F) (d : C) : Type 0 where
    pub at : (x : Entry) (v : Result Verdict Error) (f : F) (c : C)
        → told_by x v ≡ Ok (Some head) → Asks gives f x v s.filter
        → GetsAll gets c (reports_by x v) s.callback
        → CompactedTo gives gets later s.rules f c [] (Ok x ∷ xs) gave g d

  module _ (advances : S → Option R → S → Type 0) (lent : S → Option Entry)
      (s : LendingCompaction S F C A) where
    -- a step returned r, or nothing yet: the source's results in it, and whether an error ended the
    -- stream. The step, then a compaction from t, is a compaction from s.
    pub record StepsCompacted (r : Option R) (t : LendingCompaction S F C A) : Type 0 where
      pub answers : List (Option R)
      pub gave : GaveEach advances s.source answers t.source
      pub returned : (PassingOr (FilterSays gives) r answers × (t.is_over ≡ false))
          ⊎ (WantsItself r answers × (t.is_over ≡ true))
      pub idle : s.is_pending ≡ false → NothingCame answers → t.is_pending ≡ false
      pub rules : t.rules ≡ s.rules
      pub does : (later : Later) → t.is_over ≡ false → (rest more : List R) (g : F) (d : C)
          → EndsAtNone answers rest → WillCompact later t (looked_at lent t rest) more g d
          → WillCompact later s (looked_at lent s (results_in answers ++ rest))
          (listed_answer r ++ more) g d

    -- the same for a head that passed the filter, before the source's remaining results
    pub record SettlesCompacted (head : Entry) (r : Option R) (t : LendingCompaction S F C A)
        : Type 0 where
      pub answers : List (Option R)
      pub gave : GaveEach advances s.source answers t.source
      pub returned : (Passing r answers × (t.is_over ≡ false))
          ⊎ (WantsItself r answers × (t.is_over ≡ true))
      pub rules : t.rules ≡ s.rules
      pub does : (later : Later) → t.is_over ≡ false → (rest more : List R) (g : F) (d : C)
          → EndsAtNone answers rest → WillCompact later t (looked_at lent t rest) more g d
          → SettlesFirst later head s (results_in answers ++ rest) (listed_answer r ++ more) g d

    -- the same for a step that returned this result
    abbrev pub SettlesLent : Entry → Result Bool Error → LendingCompaction S F C A → Type 0
    SettlesLent head result t = SettlesCompacted head (came result (lent_compacted lent t)) t

    -- the same for any head with the key in the buffer and this seqno, if it has to wait
    abbrev pub SettlesWaiting : ℕ → Result Bool Error → LendingCompaction S F C A → Type 0
    SettlesWaiting seqno result t = (head : Entry) → has_to_wait s.rules head ≡ true →
        head.user_key ≡ s.key.items → head.seqno ≡ seqno →
        SettlesCompacted head (answer_of s.rules head result) t

    -- fetches the next entry to process. If none is pending and no error is returned, the source's
    -- last result was `None`.
    pub record FetchesCompacted (r : Option R) (t : LendingCompaction S F C A) : Type 0 where
      pub step : StepsCompacted r t
      pub ended : r ≡ None → t.is_pending ≡ false → EndsIn None step.answers
      pub idle : s.is_pending ≡ false → NothingCame step.answers → r ≡ None

    -- a call that returned r: `None` only after the source's `None`, and always if nothing is
    -- pending and the source yields nothing. An item stays pending only after an entry.
    pub record CallsCompacted (r : Option R) (t : LendingCompaction S F C A) : Type 0 where
      pub step : StepsCompacted r t
      pub ended : r ≡ None → EndsIn None step.answers
      pub idle : s.is_pending ≡ false → NothingCame step.answers → r ≡ None
      pub rests : is_entry r ≡ false → t.is_pending ≡ false

-- one call: it may be called again. Once it has ended, it returns `None` and leaves its source,
-- filter and callback unchanged.
pub record AdvancesCompacted {S : Type 0} (advances : S → Option R → S → Type 0)
    (lent : S → Option Entry) (can : S → Type 0) {F C A : Type 0}
    (gives : F → Entry → Result Verdict Error → F → Type 0) (gets : C → Entry → C → Type 0)
    (s : LendingCompaction S F C A) (r : Option R) (t : LendingCompaction S F C A)
    : Type 0 where
  pub may : MayLendCompacted advances can t
  pub live : s.is_over ≡ false → CallsCompacted gives gets advances lent s r t
  pub ended : s.is_over ≡ true → (r ≡ None) × (t.is_over ≡ true) × (t.source ≡ s.source)
      × (t.filter ≡ s.filter) × (t.callback ≡ s.callback)

-- a compaction before any call
abbrev pub fresh_of : {S F C A : Type 0} → S → Rules → F → C → LendingCompaction S F C A
    → LendingCompaction S F C A
fresh_of source rules f c s = record {
  source = source;
  rules = rules;
  filter = f;
  callback = c;
  key = s.key;
  value = s.value;
  lends = Nothing;
  hides = false;
  is_pending = false;
  is_over = false;
}

-- ---- all its calls

-- a source yields these entries, without errors
abbrev pub YieldsEntries : {S : Type 0} → (S → Option R → S → Type 0) → (Error → Bool) → S
    → List Entry → Type 0
YieldsEntries advances stops s xs = YieldsExactly (answer_stops stops) advances nowhere s (ok_results xs)

-- for any list of entries without errors: calls until `None` yield, filter and report as a
-- compaction of it does
pub record CompactsLent {S T F C : Type 0} (advances : S → Option R → S → Type 0) (source : S)
    (next : T → Option R → T → Type 0) (s : T) (rules : Rules)
    (gives : F → Entry → Result Verdict Error → F → Type 0) (gets : C → Entry → C → Type 0) (f : F)
    (c : C) (filter_in : T → F) (callback_in : T → C) : Type 0 where
  pub whole : (stops : Error → Bool) (xs : List Entry) (gave : List R) (t u : T)
      → stops OutOfMemory ≡ true → YieldsEntries advances stops source xs
      → AllByRecursion (λ r. result_stops stops r ≡ false) gave
      → Yields next s gave t → next t None u
      → Compacted gives gets rules f c (ok_results xs) gave (filter_in u) (callback_in u)

-- for any list of results: calls until `None` yield, filter and report as a lending compaction of
-- it. Calls up to an error do so for a prefix, whose rest the source still yields; any calls do so
-- up to an unprocessed rest.
pub record CompactsLentResults {S T F C : Type 0} (advances : S → Option R → S → Type 0)
    (source : S) (next : T → Option R → T → Type 0) (s : T) (rules : Rules)
    (gives : F → Entry → Result Verdict Error → F → Type 0) (gets : C → Entry → C → Type 0) (f : F)
    (c : C) (source_in : T → S) (filter_in : T → F) (callback_in : T → C) : Type 0 where
  pub whole : (stops : Error → Bool) (xs gave : List R) (t u : T) → stops OutOfMemory ≡ true
      → YieldsExactly (answer_stops stops) advances nowhere source xs
      → AllByRecursion (λ r. result_stops stops r ≡ false) gave
      → Yields next s gave t → next t None u
      → CompactedLent gives gets rules f c xs gave (filter_in u) (callback_in u)
  pub until : (stops : Error → Bool) (xs gave : List R) (e : Error) (t u : T)
      → stops OutOfMemory ≡ true → stops e ≡ false
      → YieldsExactly (answer_stops stops) advances nowhere source xs
      → AllByRecursion (λ r. result_stops stops r ≡ false) gave
      → Yields next s gave t → next t (Some (Err e)) u
      → (front rest : List R) × (xs ≡ front ++ rest)
      × YieldsExactly (answer_stops stops) advances nowhere (source_in u) rest
      × CompactedLent gives gets rules f c front (gave ++ Err e ∷ []) (filter_in u) (callback_in u)
  pub part : (stops : Error → Bool) (xs gave : List R) (t : T) → stops OutOfMemory ≡ true
      → YieldsExactly (answer_stops stops) advances nowhere source xs
      → AllByRecursion (λ r. result_stops stops r ≡ false) gave → Yields next s gave t
      → CompactedPart gives gets rules f c xs gave (filter_in t) (callback_in t)

-- ---- if the filter keeps every entry and the callback does nothing

module _ {S T : Type 0} (advances : S → Option R → S → Type 0) (source : S)
    (next : T → Option R → T → Type 0) (t : T) (rules : Rules) where
  -- except for `OutOfMemory`: for any list of results, it yields the lending output, with the
  -- errors in order
  pub record YieldsCompactedResults : Type 0 where
    pub yields : (stops : Error → Bool) (xs : List R) → stops OutOfMemory ≡ true
        → YieldsExactly (answer_stops stops) advances nowhere source xs
        → YieldsExactly (answer_stops stops) next nowhere t (lent_outs rules xs)

  -- the same without errors: it yields the entries that a compaction keeps
  pub record YieldsCompactedEntries : Type 0 where
    pub yields : (stops : Error → Bool) (xs : List Entry) → stops OutOfMemory ≡ true
        → YieldsExactly (answer_stops stops) advances nowhere source (ok_results xs)
        → YieldsExactly (answer_stops stops) next nowhere t (ok_results (kept rules (unfiltered xs)))
