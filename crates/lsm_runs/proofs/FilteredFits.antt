-- Where whatever may be kept fits as tables, and a filter refuses nothing but for want of memory,
-- neither does a compaction.
use Rattle.std.proofs.Common.{◌≡◌, refl, sym, ◌∙◌, ap, subst, true, false, List, [], ◌∷◌, ◌++◌}
use Rattle.std.proofs.Common.{append-nil, inl, inr, Bool}
use Rattle.std.specs.Prelude.{Option, Some, None, Result, Ok, Err, IfErr}
use Rattle.std.specs.List.{AllByRecursion}
use Rattle.std.specs.Option.{option_or}
use Rattle.sst_entries.specs.Entry.{Entry}
use Rattle.sst_entries.specs.Error.{is_memory}
use Rattle.sst_entries.specs.Stream.{ok_results}
use Rattle.sst_entries.specs.declared.error.Error.{Error}
use Rattle.sst_entries.specs.declared.error.Error.TheVariants.{OutOfMemory}
use Rattle.sst_entries.proofs.Lists.{all_append, all_behind, all_front}
use Rattle.sst_entries.proofs.StreamLemmas.{map_append}
use Rattle.lsm_sorted.specs.merge.Ends.{R}
use Rattle.lsm_sorted.specs.merge.Union.{entries_among}
use Rattle.lsm_sorted.specs.declared.compaction.Rules.{Rules}
use Rattle.lsm_sorted.specs.Compaction.{Judged, JudgedItem, Verdict, asked, outs, reported}
use Rattle.lsm_sorted.specs.Compacting.{SaysOf}
use Rattle.lsm_sorted.specs.lending.LentCompaction.{CompactedLent, CompactedPart, lent_outs}
use Rattle.lsm_sorted.specs.lending.LentCompaction.{past_hidden}
use Rattle.lsm_sorted.proofs.LendingCompactionRuns.{calm_items, calm_judged}
use Rattle.lsm_sorted.proofs.KeepsAllLemmas.{IsMemoryAtMost, SaysMemory, as_they_are_so}
use Rattle.lsm_sorted.proofs.KeepsAllLemmas.{memory_at_most}
use Rattle.lsm_writers.specs.Streamed.{took_each}
use Rattle.lsm_writers.specs.Tables.{IsFreshRun, TakesLaw, TablesWriting, took, took_fault}
use Rattle.lsm_writers.specs.Writing.{IsWritable}
use Rattle.lsm_runs.specs.compaction.AnyRuns.{AreTaken, results_fault}
use Rattle.lsm_runs.specs.compaction.Chain.{writes_fault}
use Rattle.lsm_runs.specs.compaction.Compacted.{FitsBy, RunsOn}
use Rattle.lsm_runs.specs.compaction.Filtered.{CameUntil, FitsKept, FitsThroughout}
use Rattle.lsm_runs.specs.compaction.Filtered.{RefusesForMemory}
use Rattle.lsm_runs.specs.declared.compaction.observer.CompactionProgress.{CompactionProgress}
use Rattle.lsm_runs.proofs.FilteredCame.{memory_unless}
use Rattle.lsm_runs.proofs.FilteredFront.{among_front, front_of, in_order, judged_of}
use Rattle.lsm_runs.proofs.RunWriting.{left_none}
use Rattle.lsm_runs.proofs.TookList.{behind_taken}
use Rattle.lsm_runs.proofs.WrittenBy.{fits_none}

right_none : (a b : Option Error) → a ≡ None → option_or a b ≡ None → b ≡ None
right_none a b none h = sym (ap (λ (x : Option Error). option_or x b) none) ∙ h

-- the front of a list that is written whole
front_none : (m : TablesWriting) (es more : List Entry) → writes_fault m (es ++ more) ≡ None
    → results_fault m (ok_results es) ≡ None
front_none m [] more h = refl
front_none m (e ∷ es) more h =
    let first = left_none (took_fault m e) (writes_fault (took m e) (es ++ more)) h in
    ap (λ (x : Option Error). option_or x (results_fault (took m e) (ok_results es))) first
    ∙ front_none (took m e) es more
    (right_none (took_fault m e) (writes_fault (took m e) (es ++ more)) first h)

none_faults : (o : Option Error) (e : Error) → o ≡ None → o ≡ Some e → ⊥
none_faults o e none some = let no : None ≡ Some e = sym none ∙ some in absurd cc

-- what such a filter said
said_memory : {F : Type 0} (gives : F → Entry → Result Verdict Error → F → Type 0)
    → RefusesForMemory gives → (f g : F) (js : List Judged) → SaysOf gives f js g
    → AllByRecursion SaysMemory js
said_memory gives calm f g [] says = tt
said_memory gives calm f g (j ∷ js) says = (
  λ e is. calm f says.0 j.entry e
      (subst (λ (v : Result Verdict Error). gives f j.entry v says.0) is says.1),
  said_memory gives calm says.0 g js says.2,
)

-- no error among what a compaction of a list gave but want of memory
part_memory : {F C : Type 0} (gives : F → Entry → Result Verdict Error → F → Type 0)
    (gets : C → Entry → C → Type 0) (rules : Rules) (f g : F) (c d : C) (es : List Entry)
    (gave : List R) → RefusesForMemory gives
    → CompactedPart gives gets rules f c (ok_results es) gave g d
    → AllByRecursion IsMemoryAtMost gave
part_memory gives gets rules f g c d es gave calm p =
    let h = p.does in
    let asks : List Judged = asked rules h.judged in
    let says : AllByRecursion SaysMemory asks = subst (λ (js : List Judged).
    AllByRecursion SaysMemory js) h.said_are (all_append SaysMemory h.said _
    (said_memory gives calm f g h.said h.says)
    (as_they_are_so rules (past_hidden p.key p.left))) in
    all_front IsMemoryAtMost gave _ (subst (λ (rs : List R). AllByRecursion IsMemoryAtMost rs)
    (sym h.answers) (memory_at_most rules h.judged (calm_items h.judged es h.over) h.tombstones
    says))

-- where whatever a filter keeps fits, so does what this one keeps
pub fits_any : {F C : Type 0} (gives : F → Entry → Result Verdict Error → F → Type 0)
    (gets : C → Entry → C → Type 0) (rules : Rules) (f : F) (c : C) (es : List Entry)
    (w : TablesWriting) → FitsKept w rules es → FitsThroughout gives gets rules f c es w
fits_any gives gets rules f c es w fits gave g d p =
    let h = p.does in
    let j = judged_of h.judged es h.over in
    subst (FitsBy w) (ap (λ (is : List JudgedItem). entries_among (outs rules is)) (sym j.are)
    ∙ ap entries_among (sym (calm_judged rules h.judged es h.over) ∙ sym h.answers))
    (fits j.js j.over)

-- a whole compaction is a part behind which nothing is left
abbrev whole_part : {F C : Type 0} (gives : F → Entry → Result Verdict Error → F → Type 0)
    (gets : C → Entry → C → Type 0) (rules : Rules) (f g : F) (c d : C) (xs gave : List R)
    → CompactedLent gives gets rules f c xs gave g d → CompactedPart gives gets rules f c xs gave g d
whole_part gives gets rules f g c d xs gave h = record {
  key = None;
  left = [];
  does = record {
    judged = h.judged;
    over = h.over;
    tombstones = h.tombstones;
    answers = append-nil gave ∙ h.answers;
    said = asked rules h.judged;
    said_are = append-nil (asked rules h.judged);
    says = h.says;
    heard = reported rules h.judged;
    heard_are = append-nil (reported rules h.judged);
    reports = h.reports;
    begun = h.judged;
    begun_are = append-nil h.judged;
  };
}

module _ {F C : Type 0} (gives : F → Entry → Result Verdict Error → F → Type 0)
    (gets : C → Entry → C → Type 0) (rules : Rules) (f : F) (c : C) (w : TablesWriting)
    (es : List Entry) (writable : IsWritable es) (law : TakesLaw) (fresh : IsFreshRun w)
    (runs_on : RunsOn w) (calm : RefusesForMemory gives)
    (fits : FitsThroughout gives gets rules f c es w) where
  -- what a part gave is written, and so is what the rules keep of the rest
  part_writes : (list : List Entry) (g : F) (d : C)
      (p : CompactedPart gives gets rules f c (ok_results es) (ok_results list) g d)
      → writes_fault w (list ++ entries_among (lent_outs rules (past_hidden p.key p.left))) ≡ None
  part_writes list g d p =
      let rest : List R = lent_outs rules (past_hidden p.key p.left) in
      let all = list ++ entries_among rest in
      let fit : FitsBy w all = subst (FitsBy w) (among_front list rest)
      (fits (ok_results list) g d p) in
      fits_none w all law fresh runs_on
      (in_order rules es list writable (front_of gives gets rules f g c d es list p)) fit

  fits_last : (last : R) (list : List Entry) (g : F) (d : C)
      → CompactedPart gives gets rules f c (ok_results es) (ok_results list ++ last ∷ []) g d
      → AreTaken w list → (e : Error) → results_fault (took_each w list) (last ∷ []) ≡ Some e
      → is_memory e ≡ false → ⊥
  fits_last (Err q) list g d part taken e fault fine =
      let all = part_memory gives gets rules f g c d es (ok_results list ++ Err q ∷ []) calm part in
      let is : q ≡ OutOfMemory =
      (all_behind IsMemoryAtMost (ok_results list) (Err q ∷ []) all).0 in
      let same : Some q ≡ Some e = fault in
      let here : q ≡ e = cc in
      let no : true ≡ false = sym (ap is_memory is) ∙ ap is_memory here ∙ fine in
      absurd cc
  fits_last (Ok x) list g d part taken e fault fine =
      let all = list ++ x ∷ [] in
      let listed : ok_results all ≡ ok_results list ++ Ok x ∷ [] = map_append list (x ∷ []) in
      let p : CompactedPart gives gets rules f c (ok_results es) (ok_results all) g d =
      subst (λ (rs : List R). CompactedPart gives gets rules f c (ok_results es) rs g d)
      (sym listed) part in
      none_faults _ e (sym (behind_taken w list (Ok x ∷ []) taken.none)
      ∙ ap (results_fault w) (sym listed) ∙ front_none w all _ (part_writes all g d p)) fault

  fits_behind : (list : List Entry) (g : F) (d : C)
      → CompactedLent gives gets rules f c (ok_results es) (ok_results list) g d → (e : Error)
      → writes_fault w list ≡ Some e → ⊥
  fits_behind list g d whole e fault =
      let p = whole_part gives gets rules f g c d (ok_results es) (ok_results list) whole in
      none_faults _ e (ap (writes_fault w) (sym (append-nil list)) ∙ part_writes list g d p) fault

  -- so no error is left but `OutOfMemory`
  pub fits_all : {O X : Type 0} (says : O → CompactionProgress → Bool → O → Type 0) (o q : O)
      (r : Result X Error)
      → IfErr r (λ e. CameUntil gives gets rules f c (ok_results es) w says o e q)
      → IfErr r (λ e. e ≡ OutOfMemory)
  fits_all says o q (Ok x) until = tt
  fits_all says o q (Err e) until = memory_unless e (λ fine. elim (until.fails fine) [
    | inl at ↦ fits_last at.0 until.kept at.2.filter at.1 at.2.part until.taken e at.4 fine
    | inr end ↦ fits_behind until.kept end.0 end.1 end.2 e end.3
  ])
