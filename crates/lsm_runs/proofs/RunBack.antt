-- A run of a list that is read back.
use Rattle.std.proofs.Common.{◌≡◌, refl, sym, ◌∙◌, ap, subst, ℕ, false, true, inl, inr, List, []}
use Rattle.std.proofs.Common.{◌∷◌, append-nil}
use Rattle.std.specs.Prelude.{Option, Ok, Err, IfErr, IfOk, IsErrAnd, Result}
use Rattle.std.specs.declared.ops.Bound.{Bound}
use Rattle.std.proofs.lemmas.Bool.{cases_Bool}
use Rattle.sst_entries.specs.declared.error.Error.{Error}
use Rattle.sst_entries.specs.declared.error.Error.TheVariants.{OutOfMemory}
use Rattle.sst_entries.specs.Entry.{Entry}
use Rattle.sst_entries.specs.Error.{Fails, is_memory}
use Rattle.sst_entries.specs.Stream.{ok_results}
use Rattle.sst_entries.proofs.Refusals.{memory_is}
use Rattle.sst_blocks.specs.table.Chunks.{joined}
use Rattle.lsm_sorted.specs.merge.Union.{Ascends, entries_among, insert_sorted, sort_entries}
use Rattle.lsm_sorted.proofs.Pairs.{Strict}
use Rattle.lsm_sorted.proofs.MergedLemmas.{insert_least}
use Rattle.lsm_readers.specs.point.Answer.{lift}
use Rattle.lsm_readers.specs.point.Table.{OpenTable}
use Rattle.lsm_runs.specs.compaction.Chain.{IsRunOfList}
use Rattle.lsm_runs.specs.compaction.PartReads.{ReadsOf}
use Rattle.lsm_runs.specs.RunLists.{RunsHoldLists}
use Rattle.lsm_runs.specs.SeveralRuns.{union_in}
use Rattle.lsm_runs.proofs.Rising.{ascends_of, run_strict}
use Rattle.lsm_runs.proofs.Unions.{entries_of}
use Rattle.lsm_runs.proofs.RunReads.{found_is}

-- sorting leaves a sorted list as it is
sorted_same : (es : List Entry) → Ascends es → sort_entries es ≡ es
sorted_same [] up = refl
sorted_same (e ∷ es) up = ap (insert_sorted e) (sorted_same es up.1) ∙ insert_least e es up.0

-- one run alone
one_run : (ls : List (List Entry)) (es : List Entry) → joined ls ≡ es → Ascends es
    → union_in (ls ∷ []) ≡ es
one_run ls es whole up =
    ap sort_entries (append-nil (entries_among (ok_results (joined ls))) ∙ entries_of (joined ls)
    ∙ whole) ∙ sorted_same es up

module _ (es : List Entry) (g : ℕ) (run : List OpenTable) (h : IsRunOfList es g run) where
  pub union_is : union_in (h.lists ∷ []) ≡ lift es g
  union_is = one_run h.lists (lift es g) h.whole
      (ascends_of (lift es g) (subst Strict h.whole (run_strict run h.lists h.hold h.order)))

  pub run_held : (runs : List (List OpenTable)) → runs ≡ run ∷ []
      → RunsHoldLists runs (h.lists ∷ [])
  run_held runs is = subst (λ (x : List (List OpenTable)). RunsHoldLists x (h.lists ∷ [])) (sym is)
      ((h.order, h.hold), tt)

  -- what is read of the run alone is read of the list
  pub reads_back : {S : Type 0} (front back : S → Option (Result Entry Error) → S → Type 0)
      (key : List ℕ) (bound : ℕ) (low high : Bound (List ℕ)) (r : Result (Option Entry × S) Error)
      → IfOk r (ReadsOf front back key bound low high (union_in (h.lists ∷ [])))
      → IfOk r (ReadsOf front back key bound low high (lift es g))
  reads_back front back key bound low high r = subst
      (λ (xs : List Entry). IfOk r (ReadsOf front back key bound low high xs)) union_is

-- a read that tells a value is refused for want of memory alone
pub reported_alone : (found : Option Entry) (e : Error) → (is_memory e ≡ false → found_is found ≡ Err e)
    → e ≡ OutOfMemory
reported_alone found e h = elim (cases_Bool (is_memory e)) [
  | inl memory ↦ memory_is e memory
  | inr fine ↦ absurd (let wrong : found_is found ≡ Err e = h fine in cc)
]

-- ---- any tables

pub fails_refusal : {X Y : Type 0} (r : Result X Error) (e : Error) (returned : Result Y Error)
    → IsErrAnd r (λ y. y ≡ e) → Fails e returned → IfErr r (λ x. Fails x returned)
fails_refusal (Ok x) e returned is fails = tt
fails_refusal (Err y) e returned is fails = subst (λ (x : Error). Fails x returned) (sym is) fails

pub memory_fails : {X Y : Type 0} (r : Result X Error) (e : Error) (returned : Result Y Error)
    → IsErrAnd r (λ y. y ≡ e) → e ≡ OutOfMemory → IfErr r (λ x. Fails x returned)
memory_fails r e returned is memory = fails_refusal r e returned is
    (λ fine. absurd (let both : is_memory e ≡ true = ap is_memory memory in let no : false ≡ true =
    sym fine ∙ both in cc))
