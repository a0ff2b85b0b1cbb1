-- How the writing of entries ended, and what a compaction came to then.
use Rattle.std.proofs.Common.{◌≡◌, refl, sym, subst, inr, List}
use Rattle.std.specs.Prelude.{Bool, IfErr, IfOk, OnOk, Option, Result, Ok, Err}
use Rattle.sst_entries.specs.declared.error.Error.{Error}
use Rattle.sst_entries.specs.Entry.{Entry}
use Rattle.sst_entries.specs.Error.{Faults}
use Rattle.sst_entries.specs.Stream.{but_last}
use Rattle.lsm_sorted.specs.merge.Ends.{R}
use Rattle.lsm_writers.specs.Tables.{IsFreshRun, TablesWriting, all_written}
use Rattle.lsm_writers.proofs.OneCut.{one_cut_law}
use Rattle.lsm_runs.specs.compaction.AnyRuns.{AreTablesBy, HasMade}
use Rattle.lsm_runs.specs.compaction.AnyRuns.{TookList}
use Rattle.lsm_runs.specs.compaction.Chain.{writes_fault}
use Rattle.lsm_runs.specs.compaction.Compacted.{RunsOn}
use Rattle.lsm_runs.specs.compaction.Filtered.{IsWritten, RefusesWritten, WroteUntil}
use Rattle.lsm_runs.specs.compaction.Observed.{GoesOnAt, WasNotified, progress_steps}
use Rattle.lsm_runs.specs.declared.compaction.any_runs.CompactionOutcome.{CompactionOutcome}
use Rattle.lsm_runs.specs.declared.compaction.any_runs.CompactionOutcome.TheVariants.{OutOfOrder}
use Rattle.lsm_runs.specs.declared.compaction.any_runs.CompactionOutcome.TheVariants.{Stopped}
use Rattle.lsm_runs.specs.declared.compaction.any_runs.CompactionOutcome.TheVariants.{Tables}
use Rattle.lsm_runs.specs.declared.compaction.any_runs.Ending.{Ending}
use Rattle.lsm_runs.specs.declared.compaction.any_runs.Ending.TheVariants.{AtDisorder, AtEnd}
use Rattle.lsm_runs.specs.declared.compaction.any_runs.Ending.TheVariants.{AtStop}
use Rattle.lsm_runs.specs.declared.compaction.observer.CompactionProgress.{CompactionProgress}

-- what a compaction came to, and what its observer was told
pub record Ended {S O A : Type 0} (gives : S → Option R → S → Type 0)
    (says : O → CompactionProgress → Bool → O → Type 0) (w : TablesWriting) (s : S) (o : O) (u : S)
    (q : O) (out : Result (CompactionOutcome A) Error) : Type 0 where
  pub written : IfOk out (λ r. IsWritten gives w s says o r u q)
  pub made : IfOk out (HasMade w)
  pub returned : IfOk out (λ r. WasNotified says w r o q)
  pub refused : IfErr out (λ e. RefusesWritten gives w s says o e q)

module _ {S O : Type 0} (gives : S → Option R → S → Type 0)
    (says : O → CompactionProgress → Bool → O → Type 0) (w m : TablesWriting) (s : S) (o : O)
    (u : S) (q : O) where
  abbrev Wrote : Ending → Type 0
  Wrote ending = WroteUntil gives w s says o (all_written m) ending u q

  module _ {A : Type 0} where
    abbrev EndsSo : Result (CompactionOutcome A) Error → Type 0
    EndsSo out = Ended gives says w s o u q out

    -- all is written: there are tables of it, or the writer fails to finish
    at_end : (out : Result (CompactionOutcome A) Error) → TookList w (all_written m) m
        → IfOk out (AreTablesBy w (all_written m)) → Faults out (writes_fault w (all_written m))
        → Wrote AtEnd → EndsSo out
    at_end (Ok (Tables tables left)) list made none wrote = record {
      written = record {
        list = all_written m;
        taken = list.taken;
        led = wrote.led;
        gave = wrote.gave;
        ends = (wrote.ends, none, made);
        returned = wrote.returned;
      };
      made = record { list = all_written m; writable = list.taken.writable; written = made };
      returned = record {
        tables = made.lists;
        finished = made.finished;
        returned = subst (λ (ts : List (List Entry)). GoesOnAt says o (progress_steps (but_last ts)) q)
            (one_cut_law w.present.options.data_block_size w.target (all_written m)
            wrote.returned.tables made.lists wrote.returned.cut made.cut) wrote.returned.returned;
      };
      refused = tt;
    }
    at_end (Ok OutOfOrder) list made none wrote = absurd made
    at_end (Ok Stopped) list made none wrote = absurd made
    at_end (Err e) list made fault wrote = record {
      written = tt;
      made = tt;
      returned = tt;
      refused = record {
        list = all_written m;
        taken = list.taken;
        led = wrote.led;
        gave = wrote.gave;
        fails = λ fine. inr (record { then = u; ended = wrote.ends; fault = fault fine });
        returned = wrote.returned;
      };
    }

    -- by how the writing ended
    pub ends_so : IsFreshRun w → RunsOn w → (r : Result Ending Error)
        (out : Result (CompactionOutcome A) Error)
        → (r ≡ Ok AtEnd → (v : TablesWriting) (es : List Entry) → IsFreshRun v → RunsOn v
        → TookList v es m → IfOk out (AreTablesBy v es))
        → (r ≡ Ok AtEnd → (v : TablesWriting) (es : List Entry) → TookList v es m
        → Faults out (writes_fault v es))
        → (r ≡ Ok AtDisorder → out ≡ Ok OutOfOrder) → (r ≡ Ok AtStop → out ≡ Ok Stopped)
        → ((e : Error) → r ≡ Err e → out ≡ Err e) → OnOk r (TookList w (all_written m) m)
        → IfOk r Wrote → IfErr r (λ e. RefusesWritten gives w s says o e q) → EndsSo out
    ends_so fresh next (Ok AtEnd) out tables fails disorder stop passed list wrote refuses =
        at_end out list (tables refl w (all_written m) fresh next list)
        (fails refl w (all_written m) list) wrote
    ends_so fresh next (Ok AtDisorder) out tables fails disorder stop passed list wrote refuses =
        subst EndsSo (sym (disorder refl)) (record {
          written = record {
            list = all_written m;
            taken = list.taken;
            led = wrote.led;
            gave = wrote.gave;
            ends = wrote.ends;
            returned = wrote.returned;
          };
          made = tt;
          returned = (all_written m, wrote.returned);
          refused = tt;
        })
    ends_so fresh next (Ok AtStop) out tables fails disorder stop passed list wrote refuses =
        subst EndsSo (sym (stop refl)) (record {
          written = record {
            list = all_written m;
            taken = list.taken;
            led = wrote.led;
            gave = wrote.gave;
            ends = wrote.ends;
            returned = wrote.returned;
          };
          made = tt;
          returned = (all_written m, wrote.returned);
          refused = tt;
        })
    ends_so fresh next (Err e) out tables fails disorder stop passed list wrote refuses =
        subst EndsSo (sym (passed e refl))
        (record { written = tt; made = tt; returned = tt; refused = refuses })
