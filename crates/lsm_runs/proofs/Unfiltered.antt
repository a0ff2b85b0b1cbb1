-- A compaction whose filter keeps each entry: what it yields is a prefix of what the rules keep of all
-- entries.
use Rattle.std.proofs.Common.{◌≡◌, sym, ◌∙◌, ap, refl, subst, ℕ, Bool, true, false, cond, not, List}
use Rattle.std.proofs.Common.{[], ◌∷◌, ◌++◌, ◌⊎◌, inl, inr, append_assoc}
use Rattle.std.specs.Prelude.{None, Result, Ok, Err, IsErrAnd, filter}
use Rattle.std.specs.List.{AllByRecursion}
use Rattle.sst_entries.specs.Entry.{Entry}
use Rattle.sst_entries.specs.Error.{is_memory}
use Rattle.sst_entries.specs.Kind.{is_tombstone_kind}
use Rattle.sst_entries.specs.Stream.{ok_results}
use Rattle.sst_entries.specs.declared.error.Error.{Error}
use Rattle.sst_entries.proofs.Lists.{all_append}
use Rattle.sst_entries.proofs.StreamLemmas.{map_append}
use Rattle.lsm_sorted.specs.merge.Ends.{R}
use Rattle.lsm_sorted.specs.merge.Union.{entries_among}
use Rattle.lsm_sorted.specs.declared.compaction.Rules.{Rules}
use Rattle.lsm_sorted.specs.Compaction.{Judged, Verdict, Versions, as_is, as_they_are, asked, asked_of, before}
use Rattle.lsm_sorted.specs.Compaction.{by_key, concat_by, heads, is_cut, is_version_of, keep, kept}
use Rattle.lsm_sorted.specs.Compaction.{unfiltered}
use Rattle.lsm_sorted.specs.Compacting.{SaysOf}
use Rattle.lsm_sorted.proofs.WholeLemmas.{KeepsAll}
use Rattle.lsm_sorted.specs.lending.LentCompaction.{CompactedLent, CompactedPart, lent_outs}
use Rattle.lsm_sorted.specs.lending.LentCompaction.{past_hidden}
use Rattle.lsm_sorted.proofs.KeepsAllLemmas.{keeps_all}
use Rattle.lsm_sorted.proofs.LentOutsLemmas.{lent_kept}
use Rattle.lsm_readers.specs.point.Table.{OpenTable}
use Rattle.lsm_runs.proofs.Unions.{entries_of}
use Rattle.lsm_writers.specs.Tables.{TablesWriting}
use Rattle.lsm_runs.specs.compaction.AnyRuns.{BeginsWith, CameOf, GoesThrough, RefusesOf}
use Rattle.lsm_runs.specs.compaction.Compacted.{FitsBy}
use Rattle.lsm_runs.specs.compaction.Filtered.{CameUntil, CameUpTo, FitsThroughout, KeepsSome}
use Rattle.lsm_runs.specs.compaction.Filtered.{RefusesForMemory}
use Rattle.lsm_runs.specs.compaction.Observed.{WasNotified}
use Rattle.lsm_runs.specs.compaction.Unfiltered.{KeepsEach, NeverStops}
use Rattle.lsm_runs.specs.declared.compaction.any_runs.CompactionOutcome.{CompactionOutcome}
use Rattle.lsm_runs.specs.declared.compaction.any_runs.CompactionOutcome.TheVariants.{OutOfOrder}
use Rattle.lsm_runs.specs.declared.compaction.any_runs.CompactionOutcome.TheVariants.{Stopped}
use Rattle.lsm_runs.specs.declared.compaction.any_runs.CompactionOutcome.TheVariants.{Tables}
use Rattle.lsm_runs.specs.declared.compaction.observer.CompactionProgress.{CompactionProgress}
use Rattle.lsm_runs.proofs.AnyWritten.{came_refused}
use Rattle.lsm_runs.proofs.TookList.{behind_taken}

-- ---- such a filter keeps what it is called for

abbrev Stays : Judged → Type 0
Stays j = j.verdict ≡ Ok keep

abbrev AllStay : List Versions → Type 0
AllStay vs = AllByRecursion (λ v. AllByRecursion Stays v.versions) vs

stay_before : (j : Judged) (vs : List Versions) → Stays j → AllStay vs → AllStay (before j vs)
stay_before j [] h all = ((h, tt), tt)
stay_before j (v ∷ vs) h all = elim (is_version_of v.versions j) as (λ b. AllStay
    (cond b (record { versions = j ∷ v.versions; error = v.error } ∷ vs)
    (record { versions = j ∷ []; error = None } ∷ v ∷ vs)))
    [ true ↦ ((h, all.0), all.1) | false ↦ ((h, tt), all) ]

keys_stay : (rs : List R) → AllStay (by_key (as_they_are rs))
keys_stay [] = tt
keys_stay (Ok x ∷ rs) = stay_before (as_is x) (by_key (as_they_are rs)) refl (keys_stay rs)
keys_stay (Err e ∷ rs) = (tt, keys_stay rs)

heads_stay : (watermark : ℕ) (js : List Judged) → AllByRecursion Stays js
    → AllByRecursion Stays (heads watermark js)
heads_stay watermark [] h = tt
heads_stay watermark (j ∷ js) h = (
  h.0,
  elim (is_cut watermark j) as (λ b. AllByRecursion Stays (cond b [] (heads watermark js)))
      [ true ↦ tt | false ↦ heads_stay watermark js h.1 ],
)

asked_stay : (js : List Judged) → AllByRecursion Stays js
    → AllByRecursion Stays (filter (λ j. not (is_tombstone_kind j.entry.kind)) js)
asked_stay [] h = tt
asked_stay (j ∷ js) h = elim (not (is_tombstone_kind j.entry.kind)) as
    (λ b. AllByRecursion Stays
    (cond b (j ∷ filter (λ k. not (is_tombstone_kind k.entry.kind)) js)
    (filter (λ k. not (is_tombstone_kind k.entry.kind)) js)))
    [ true ↦ (h.0, asked_stay js h.1) | false ↦ asked_stay js h.1 ]

all_asked : (rules : Rules) (vs : List Versions) → AllStay vs
    → AllByRecursion Stays (concat_by (asked_of rules) vs)
all_asked rules [] h = tt
all_asked rules (v ∷ vs) h = all_append Stays (asked_of rules v) (concat_by (asked_of rules) vs)
    (asked_stay (heads rules.watermark v.versions) (heads_stay rules.watermark v.versions h.0))
    (all_asked rules vs h.1)

stays_said : {F : Type 0} (gives : F → Entry → Result Verdict Error → F → Type 0)
    → KeepsEach gives → (f g : F) (js : List Judged) → SaysOf gives f js g
    → AllByRecursion Stays js
stays_said gives keeps f g [] h = tt
stays_said gives keeps f g (j ∷ js) h =
    (keeps f h.0 j.entry j.verdict h.1, stays_said gives keeps h.0 g js h.2)

says_stays : {F : Type 0} (f : F) (js : List Judged) → AllByRecursion Stays js
    → SaysOf {F = F} KeepsAll f js f
says_stays f [] h = refl
says_stays f (j ∷ js) h = (f, h.0, says_stays f js h.1)

-- ---- an observer that never stops a compaction

no_stop : false ≡ true → ⊥
no_stop h = absurd cc

pub through_kept : {A O : Type 0} (says : O → CompactionProgress → Bool → O → Type 0)
    → NeverStops says → (w : TablesWriting) (o q : O) (outcome : CompactionOutcome A)
    → WasNotified says w outcome o q → GoesThrough outcome
through_kept says never w o q (Tables tables left) h = tt
through_kept says never w o q OutOfOrder h = tt
through_kept says never w o q Stopped h =
    let last = h.1.returned in no_stop (never last.then q last.last false last.stopped)

-- ---- so what is given is what the rules keep

-- a filter that keeps all never fails
pub never_fails : {F : Type 0} (gives : F → Entry → Result Verdict Error → F → Type 0)
    → KeepsEach gives → RefusesForMemory gives
never_fails gives keeps f g x e says =
    let no : Err e ≡ Ok keep = keeps f g x (Err e) says in absurd cc

module _ {F C : Type 0} (gives : F → Entry → Result Verdict Error → F → Type 0)
    (keeps : KeepsEach gives) (gets : C → Entry → C → Type 0) (rules : Rules) (f : F) (c : C) where
  -- what a part gave, and behind it what is kept of the rest
  part_front : (xs gave : List R) (g : F) (d : C)
      (p : CompactedPart gives gets rules f c xs gave g d)
      → gave ++ lent_outs rules (past_hidden p.key p.left) ≡ lent_outs rules xs
  part_front xs gave g d p =
      let h = p.does in
      let rest : List R = past_hidden p.key p.left in
      let stay : AllByRecursion Stays (asked rules h.judged) =
      subst (λ (js : List Judged). AllByRecursion Stays js) h.said_are
      (all_append Stays h.said (asked rules (as_they_are rest))
      (stays_said gives keeps f g h.said h.says)
      (all_asked rules (by_key (as_they_are rest)) (keys_stay rest))) in
      keeps_all rules f f xs (gave ++ lent_outs rules rest) (record {
        judged = h.judged;
        over = h.over;
        tombstones = h.tombstones;
        answers = h.answers;
        says = says_stays f (asked rules h.judged) stay;
      })

  all_given : (xs gave : List R) (g : F) (d : C)
      → CompactedLent gives gets rules f c xs gave g d → gave ≡ lent_outs rules xs
  all_given xs gave g d h = keeps_all rules f f xs gave (record {
    judged = h.judged;
    over = h.over;
    tombstones = h.tombstones;
    answers = h.answers;
    says = says_stays f (asked rules h.judged) (stays_said gives keeps f g (asked rules h.judged)
        h.says);
  })

  -- where what is kept of a list fits as tables, so does what is kept of it behind any part
  pub fits_kept : (es : List Entry) (w : TablesWriting) → FitsBy w (kept rules (unfiltered es))
      → FitsThroughout gives gets rules f c es w
  fits_kept es w fits gave g d p =
      subst (FitsBy w) (sym (ap entries_among (part_front (ok_results es) gave g d p
      ∙ lent_kept rules es) ∙ entries_of (kept rules (unfiltered es)))) fits

  module _ {O : Type 0} (says : O → CompactionProgress → Bool → O → Type 0)
      (never : NeverStops says) (o q : O) (xs : List R) (w : TablesWriting) where
    stands : (gave : List R) (d : C)
        → KeepsSome gives gets rules f c xs w gave d
        → (rest : List R) × (lent_outs rules xs ≡ gave ++ rest)
    stands gave d k = (
      lent_outs rules (past_hidden k.part.key k.part.left),
      sym (part_front xs gave k.filter d k.part),
    )

    pub came_kept : {A : Type 0} (outcome : CompactionOutcome A) (d : C)
        → CameUpTo gives gets rules f c xs w says o outcome d q
        → CameOf w (lent_outs rules xs) (Ok outcome)
    came_kept (Tables tables left) d h = record {
      list = h.kept;
      whole = sym (all_given xs (ok_results h.kept) h.came.0 d h.came.1);
      none = h.came.2;
      written = h.came.3;
    }
    came_kept OutOfOrder d h =
        let x = h.came.0 in
        let at = stands (ok_results (h.kept ++ x ∷ [])) d h.came.1 in
        record {
          front = h.kept;
          entry = x;
          behind = at.0;
          whole = at.1 ∙ ap (λ (rs : List R). rs ++ at.0) (map_append h.kept (x ∷ []))
              ∙ append_assoc (ok_results h.kept) (Ok x ∷ []) at.0;
          taken = h.taken;
          follows = h.came.2;
        }
    came_kept Stopped d h =
        let last = h.returned.returned in no_stop (never last.then q last.last false last.stopped)

    pub until_kept : (e : Error)
        → CameUntil gives gets rules f c xs w says o e q
        → is_memory e ≡ false → RefusesOf w (lent_outs rules xs) e
    until_kept e h fine = elim (h.fails fine) [
      | inl at ↦
          let front = stands (ok_results h.kept ++ at.0 ∷ []) at.1 at.2 in
          inl (record {
            front = h.kept;
            last = at.0;
            behind = front.0;
            whole = front.1 ∙ append_assoc (ok_results h.kept) (at.0 ∷ []) front.0;
            taken = h.taken;
            comes = at.3;
            fault = behind_taken w h.kept (at.0 ∷ []) h.taken.none ∙ at.4;
          })
      | inr end ↦ inr (record {
        list = h.kept;
        whole = sym (all_given xs (ok_results h.kept) end.0 end.1 end.2);
        taken = h.taken;
        fault = end.3;
      })
    ]

    -- an error that is passed on, maybe that of a first data block
    pub begun_kept : {A : Type 0} (runs : List (List OpenTable))
        (r : Result (CompactionOutcome A) Error) (e : Error) → IsErrAnd r (λ y. y ≡ e)
        → CameUntil gives gets rules f c xs w says o e q
        ⊎ BeginsWith runs e → CameOf w (lent_outs rules xs) r ⊎ IsErrAnd r (BeginsWith runs)
    begun_kept runs (Ok x) e is h = absurd is
    begun_kept {A} runs (Err y) e is h = elim h [
      | inl until ↦ inl (came_refused {A = A} w (lent_outs rules xs) (Err y) e is
          (until_kept e until))
      | inr begins ↦ inr (subst (BeginsWith runs) (sym is) begins)
    ]

  -- of a list without errors
  module _ {O A : Type 0} (says : O → CompactionProgress → Bool → O → Type 0)
      (never : NeverStops says) (o q : O) (es : List Entry) (w : TablesWriting) where
    as_listed : (r : Result (CompactionOutcome A) Error)
        → CameOf w (lent_outs rules (ok_results es)) r
        → CameOf w (ok_results (kept rules (unfiltered es))) r
    as_listed r came = subst (λ (rs : List R). CameOf w rs r) (lent_kept rules es) came

    pub list_came : (outcome : CompactionOutcome A) (d : C)
        → CameUpTo gives gets rules f c (ok_results es) w says o outcome
        d q → CameOf w (ok_results (kept rules (unfiltered es))) (Ok outcome)
    list_came outcome d h = as_listed (Ok outcome) (came_kept says never o q (ok_results es)
        w outcome d h)

    pub list_refused : (r : Result (CompactionOutcome A) Error) (e : Error)
        → IsErrAnd r (λ y. y ≡ e)
        → CameUntil gives gets rules f c (ok_results es) w says o e q
        → CameOf w (ok_results (kept rules (unfiltered es))) r
    list_refused r e is h = as_listed r (came_refused w (lent_outs rules (ok_results es)) r e is
        (until_kept says never o q (ok_results es) w e h))
