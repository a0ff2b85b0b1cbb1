-- What a compaction with a filter comes to, from what its source lent.
use Rattle.std.proofs.Common.{◌≡◌, refl, sym, ◌∙◌, ap, subst, Bool, false, true, List, []}
use Rattle.std.proofs.Common.{◌∷◌, ◌++◌, ◌⊎◌, inl, inr, append_assoc}
use Rattle.std.specs.Prelude.{Option, Some, None, Result, Ok, Err, IfErr, IsErrAnd, MatchResult}
use Rattle.std.specs.List.{AllByRecursion}
use Rattle.std.specs.Iterator.{Yields}
use Rattle.std.proofs.lemmas.Bool.{cases_Bool}
use Rattle.sst_entries.specs.Entry.{Entry}
use Rattle.sst_entries.specs.Error.{Faults, is_memory}
use Rattle.sst_entries.specs.Stream.{ok_results, result_stops}
use Rattle.sst_entries.specs.declared.error.Error.{Error}
use Rattle.sst_entries.specs.declared.error.Error.TheVariants.{OutOfMemory}
use Rattle.sst_entries.proofs.Lists.{all_append}
use Rattle.sst_entries.proofs.Refusals.{memory_is}
use Rattle.sst_entries.proofs.StreamLemmas.{map_append}
use Rattle.lsm_sorted.specs.merge.Ends.{R}
use Rattle.lsm_sorted.specs.declared.compaction.Rules.{Rules}
use Rattle.lsm_sorted.specs.Compaction.{Verdict, as_they_are}
use Rattle.lsm_sorted.specs.lending.LentCompaction.{CompactedLent, CompactedPart}
use Rattle.lsm_sorted.proofs.LendingCompactionRuns.{calm_compacted}
use Rattle.lsm_sorted.proofs.KeepsAllLemmas.{items_are, tombstones_stay}
use Rattle.lsm_readers.specs.point.Table.{OpenTable}
use Rattle.lsm_writers.specs.Tables.{TablesWriting}
use Rattle.lsm_writers.specs.Writing.{IsWritable}
use Rattle.lsm_writers.proofs.ListWriting.{listed_follows}
use Rattle.lsm_runs.specs.compaction.AnyRuns.{BeginsWith}
use Rattle.lsm_runs.specs.compaction.Filtered.{CameTo, CameUntil, CameUpTo, CompactsAs}
use Rattle.lsm_runs.specs.compaction.Filtered.{IsWritten, KeepsSome, RefusesBy}
use Rattle.lsm_runs.specs.compaction.Filtered.{RefusesWritten}
use Rattle.lsm_runs.specs.declared.compaction.any_runs.CompactionOutcome.{CompactionOutcome}
use Rattle.lsm_runs.specs.declared.compaction.any_runs.CompactionOutcome.TheVariants.{OutOfOrder}
use Rattle.lsm_runs.specs.declared.compaction.any_runs.CompactionOutcome.TheVariants.{Stopped}
use Rattle.lsm_runs.specs.declared.compaction.any_runs.CompactionOutcome.TheVariants.{Tables}
use Rattle.lsm_runs.proofs.AnyWritten.{may_not, none_writable}
use Rattle.lsm_runs.specs.declared.compaction.observer.CompactionProgress.{CompactionProgress}
use Rattle.lsm_runs.proofs.FilteredFront.{front_of, in_order}
use Rattle.lsm_runs.proofs.Observing.{reported_nothing, yields_more}

-- entries stop no one
pub none_stops : (stops : Error → Bool) (es : List Entry)
    → AllByRecursion (λ (r : R). result_stops stops r ≡ false) (ok_results es)
none_stops stops [] = tt
none_stops stops (e ∷ es) = (refl, none_stops stops es)

-- nor does a result more, where it is no want of memory
pub more_stops : (es : List Entry) (r : R) → result_stops is_memory r ≡ false
    → AllByRecursion (λ (q : R). result_stops is_memory q ≡ false) (ok_results es ++ r ∷ [])
more_stops es r fine = all_append (λ (q : R). result_stops is_memory q ≡ false) (ok_results es)
    (r ∷ []) (none_stops is_memory es) (fine, tt)

module _ {S F C : Type 0} (next : S → Option R → S → Type 0)
    (gives : F → Entry → Result Verdict Error → F → Type 0) (gets : C → Entry → C → Type 0)
    (rules : Rules) (f : F) (c : C) (filter_in : S → F) (callback_in : S → C) (s : S)
    (w : TablesWriting) where
  module _ (xs : List R) (does : CompactsAs gives gets rules f c xs next s filter_in callback_in)
    where
      -- what it gave of the list
      given_by : (gave : List Entry) (t : S) → Yields next s (ok_results gave) t
          → KeepsSome gives gets rules f c xs w (ok_results gave) (callback_in t)
      given_by gave t runs = record {
        filter = filter_in t;
        part = does.part (ok_results gave) t (none_stops is_memory gave) runs;
      }

      -- and a result more
      given_more : (gave : List Entry) (t u : S) (r : R) → result_stops is_memory r ≡ false
          → Yields next s (ok_results gave) t → next t (Some r) u
          → KeepsSome gives gets rules f c xs w (ok_results gave ++ r ∷ []) (callback_in u)
      given_more gave t u r fine runs step = record {
        filter = filter_in u;
        part = does.part (ok_results gave ++ r ∷ []) u (more_stops gave r fine)
            (yields_more next (ok_results gave) s t u r runs step);
      }

      given_next : (gave : List Entry) (t u : S) (x : Entry) → Yields next s (ok_results gave) t
          → next t (Some (Ok x)) u
          → KeepsSome gives gets rules f c xs w (ok_results (gave ++ x ∷ [])) (callback_in u)
      given_next gave t u x runs step = subst (λ (rs : List R).
          KeepsSome gives gets rules f c xs w rs (callback_in u)) (sym (map_append gave (x ∷ [])))
          (given_more gave t u (Ok x) refl runs step)

      given_whole : (gave : List Entry) (t u : S) → Yields next s (ok_results gave) t
          → next t None u
          → CompactedLent gives gets rules f c xs (ok_results gave) (filter_in u) (callback_in u)
      given_whole gave t u runs ended =
          does.whole (ok_results gave) t u (none_stops is_memory gave) runs ended

      module _ {O : Type 0} (says : O → CompactionProgress → Bool → O → Type 0) (o : O) where
        pub came_up : {A : Type 0} (outcome : CompactionOutcome A) (u : S) (q : O) (d : C)
            → d ≡ callback_in u → IsWritten next w s says o outcome u q
            → CameUpTo gives gets rules f c xs w says o outcome d q
        came_up outcome u q d is h =
            subst (λ (b : C). CameUpTo gives gets rules f c xs w says o outcome b q) (sym is)
            (by_outcome outcome u q h)
          where
            by_outcome : {A : Type 0} (outcome : CompactionOutcome A) (u : S) (q : O)
                → IsWritten next w s says o outcome u q
                → CameUpTo gives gets rules f c xs w says o outcome (callback_in u) q
            by_outcome (Tables tables behind) u q h = record {
              kept = h.list;
              taken = h.taken;
              came = (
                filter_in u,
                given_whole h.list h.led u h.gave h.ends.0,
                h.ends.1,
                h.ends.2,
              );
              returned = h.returned;
            }
            by_outcome OutOfOrder u q h = record {
              kept = h.list;
              taken = h.taken;
              came = (h.ends.0, given_next h.list h.led u h.ends.0 h.gave h.ends.1, h.ends.2);
              returned = h.returned;
            }
            by_outcome Stopped u q h = record {
              kept = h.list;
              taken = h.taken;
              came = given_by h.list u (subst (λ (v : S). Yields next s (ok_results h.list) v) h.ends
                  h.gave);
              returned = h.returned;
            }

        module _ (q : O) (e : Error) (h : RefusesWritten next w s says o e q) where
          pub came_until : CameUntil gives gets rules f c xs w says o e q
          came_until = record {
            kept = h.list;
            taken = h.taken;
            callback = callback_in h.led;
            given = given_by h.list h.led h.gave;
            fails = λ fine. elim (h.fails fine) [
              | inl at ↦ inl (
                at.last,
                callback_in at.then,
                given_more h.list h.led at.then at.last at.fine h.gave at.one,
                at.comes,
                at.fault,
              )
              | inr end ↦ inr (
                filter_in end.then,
                callback_in end.then,
                given_whole h.list h.led end.then h.gave end.ended,
                end.fault,
              )
            ];
            returned = h.returned;
          }

-- what came of a list that can be written: its entries come in order
pub came_to : {F C O A : Type 0} (gives : F → Entry → Result Verdict Error → F → Type 0)
    (gets : C → Entry → C → Type 0) (rules : Rules) (f : F) (c : C) (es : List Entry)
    (w : TablesWriting) (says : O → CompactionProgress → Bool → O → Type 0) (o q : O)
    → IsWritable es → (outcome : CompactionOutcome A) (d : C)
    → CameUpTo gives gets rules f c (ok_results es) w says o outcome d q
    → CameTo gives gets rules f c es w outcome d
came_to gives gets rules f c es w says o q writable (Tables tables left) d h = record {
  kept = h.kept;
  filter = h.came.0;
  compacted = calm_compacted gives gets rules f h.came.0 c d es (ok_results h.kept) h.came.1;
  written = h.came.3;
}
came_to gives gets rules f c es w says o q writable OutOfOrder d h =
    let x = h.came.0 in
    let k = h.came.1 in
    let front = front_of gives gets rules f k.filter c d es (h.kept ++ x ∷ []) k.part in
    may_not _ h.came.2 (listed_follows h.kept x front.more
    (subst IsWritable (append_assoc h.kept (x ∷ []) front.more)
    (in_order rules es (h.kept ++ x ∷ []) writable front)))
came_to gives gets rules f c es w says o q writable Stopped d h =
    record { kept = h.kept; filter = h.came.filter; part = h.came.part }

-- ---- refusals that are passed on

pub err_passed : {X : Type 0} (P : Error → Type 0) (r : Result X Error) (e : Error)
    → IsErrAnd r (λ y. y ≡ e) → P e → IfErr r P
err_passed P (Ok x) e is h = tt
err_passed P (Err y) e is h = subst P (sym is) h

-- the first error is that behind all that was kept and written
pub refuses_by : {F C O X : Type 0} (gives : F → Entry → Result Verdict Error → F → Type 0)
    (gets : C → Entry → C → Type 0) (rules : Rules) (f : F) (c : C) (xs : List R)
    (w : TablesWriting) (says : O → CompactionProgress → Bool → O → Type 0) (o q : O)
    (r : Result X Error) → IfErr r (λ e. CameUntil gives gets rules f c xs w says o e q)
    → IfErr r (λ e. is_memory e ≡ false → RefusesBy gives gets rules f c xs w e)
refuses_by gives gets rules f c xs w says o q (Ok x) until = tt
refuses_by gives gets rules f c xs w says o q (Err e) until =
    λ fine. record { kept = until.kept; taken = until.taken; fails = until.fails fine }

-- what can be no fault is want of memory
pub memory_unless : (e : Error) → (is_memory e ≡ false → ⊥) → e ≡ OutOfMemory
memory_unless e not = elim (cases_Bool (is_memory e)) [
  | inl memory ↦ memory_is e memory
  | inr fine ↦ absurd (not fine)
]

-- whatever the refusal is
pub err_any : {X P : Type 0} (r : Result X Error) → P → IfErr r (λ _. P)
err_any (Ok x) h = tt
err_any (Err e) h = h

-- nothing was asked yet
pub part_none : {F C : Type 0} (gives : F → Entry → Result Verdict Error → F → Type 0)
    (gets : C → Entry → C → Type 0) (rules : Rules) (f : F) (c : C) (xs : List R)
    → CompactedPart gives gets rules f c xs [] f c
part_none gives gets rules f c xs = record {
  key = None;
  left = xs;
  does = record {
    judged = as_they_are xs;
    over = items_are xs;
    tombstones = tombstones_stay xs;
    answers = refl;
    said = [];
    said_are = refl;
    says = refl;
    heard = [];
    heard_are = refl;
    reports = refl;
    begun = [];
    begun_are = refl;
  };
}

-- a compaction that failed for want of memory before anything was kept
pub came_memory : {F C O : Type 0} (gives : F → Entry → Result Verdict Error → F → Type 0)
    (gets : C → Entry → C → Type 0) (rules : Rules) (f : F) (c : C) (xs : List R)
    (w : TablesWriting) (says : O → CompactionProgress → Bool → O → Type 0) (o : O)
    (e : Error) → is_memory e ≡ true → CameUntil gives gets rules f c xs w says o e o
came_memory gives gets rules f c xs w says o e memory = record {
  kept = [];
  taken = record { writable = none_writable; none = refl };
  callback = c;
  given = record { filter = f; part = part_none gives gets rules f c xs };
  fails = λ fine. let both : true ≡ false = sym memory ∙ fine in absurd cc;
  returned = reported_nothing says w o;
}

pub came_none : {F C O X : Type 0} (gives : F → Entry → Result Verdict Error → F → Type 0)
    (gets : C → Entry → C → Type 0) (rules : Rules) (f : F) (c : C) (xs : List R)
    (w : TablesWriting) (says : O → CompactionProgress → Bool → O → Type 0) (o : O)
    (r : Result X Error) → IfErr r (λ e. e ≡ OutOfMemory)
    → IfErr r (λ e. CameUntil gives gets rules f c xs w says o e o)
came_none gives gets rules f c xs w says o (Ok x) memory = tt
came_none gives gets rules f c xs w says o (Err e) memory =
    came_memory gives gets rules f c xs w says o e (ap is_memory memory)

-- or because a first data block cannot be loaded
pub came_or_begun : {F C O X : Type 0} (gives : F → Entry → Result Verdict Error → F → Type 0)
    (gets : C → Entry → C → Type 0) (rules : Rules) (f : F) (c : C) (xs : List R)
    (w : TablesWriting) (says : O → CompactionProgress → Bool → O → Type 0) (o : O)
    (runs : List (List OpenTable)) (P : X → Type 0) (r : Result X Error) (e : Error)
    → IsErrAnd r (λ y. y ≡ e) → (is_memory e ≡ false → BeginsWith runs e)
    → MatchResult r P (λ y. CameUntil gives gets rules f c xs w says o y o ⊎ BeginsWith runs y)
came_or_begun gives gets rules f c xs w says o runs P (Ok x) e is begins = absurd is
came_or_begun gives gets rules f c xs w says o runs P (Err y) e is begins =
    elim (cases_Bool (is_memory e)) [
      | inl memory ↦ inl (came_memory gives gets rules f c xs w says o y
          (ap is_memory is ∙ memory))
      | inr fine ↦ inr (subst (BeginsWith runs) (sym is) (begins fine))
    ]

pub match_err : {X : Type 0} (P : X → Type 0) (Q : Error → Type 0) (r : Result X Error) (e : Error)
    → IsErrAnd r (λ y. y ≡ e) → Q e → MatchResult r P Q
match_err P Q (Ok x) e is h = absurd is
match_err P Q (Err y) e is h = subst Q (sym is) h

-- an `OutOfMemory` where there is no fault
pub memory_faults : {X : Type 0} (r : Result X Error) (returned : Option Error) → returned ≡ None
    → IfErr r (λ e. e ≡ OutOfMemory) → Faults r returned
memory_faults (Ok x) returned none memory = none
memory_faults (Err e) returned none memory = λ fine.
    let both : true ≡ false = sym (ap is_memory memory) ∙ fine in absurd cc

-- a refusal for want of memory is no fault
pub memory_reports : {X : Type 0} (P : Error → Type 0) (r : Result X Error)
    → IfErr r (λ e. e ≡ OutOfMemory) → IfErr r (λ e. is_memory e ≡ false → P e)
memory_reports P (Ok x) memory = tt
memory_reports P (Err e) memory = λ fine.
    let both : true ≡ false = sym (ap is_memory memory) ∙ fine in absurd cc
