-- Entries that are written one by one, for as long as each may follow: what was taken.
use Rattle.std.proofs.Common.{◌≡◌, sym, ◌∙◌, ap, subst, true, List, [], ◌∷◌}
use Rattle.std.proofs.Common.{◌++◌, append_assoc, append-nil}
use Rattle.std.specs.Prelude.{Option, None, Ok}
use Rattle.std.specs.Option.{option_or}
use Rattle.sst_entries.specs.declared.error.Error.{Error}
use Rattle.sst_entries.specs.Entry.{Entry}
use Rattle.sst_entries.specs.Stream.{ok_results}
use Rattle.sst_entries.proofs.StreamLemmas.{map_append}
use Rattle.lsm_sorted.specs.merge.Ends.{R}
use Rattle.lsm_writers.specs.Tables.{TablesWriting, all_written, took, took_fault}
use Rattle.lsm_writers.specs.Writing.{IsWritable, may_be_written}
use Rattle.lsm_runs.specs.compaction.AnyRuns.{AreTaken}
use Rattle.lsm_runs.specs.compaction.AnyRuns.{results_fault}
use Rattle.lsm_runs.specs.compaction.Chain.{writes_fault}
use Rattle.lsm_runs.proofs.AnyWritten.{none_writable, writable_more}

pub record Taking (w m : TablesWriting) : Type 0 where
  pub writable : IsWritable (all_written m)
  pub among : (rs : List R) → results_fault w (ok_results (all_written m) ++ rs)
      ≡ results_fault m rs
  pub behind : (es : List Entry) → writes_fault w (all_written m ++ es) ≡ writes_fault m es

pub taking_none : (w : TablesWriting) → all_written w ≡ [] → Taking w w
taking_none w none = record {
  writable = subst IsWritable (sym none) none_writable;
  among = λ rs. ap (λ (es : List Entry). results_fault w (ok_results es ++ rs)) none;
  behind = λ es. ap (λ (xs : List Entry). writes_fault w (xs ++ es)) none;
}

pub are_taken : (w m : TablesWriting) → Taking w m → AreTaken w (all_written m)
are_taken w m h = record {
  writable = h.writable;
  none = ap (results_fault w) (sym (append-nil (ok_results (all_written m)))) ∙ h.among [];
}

-- one more
pub taking_more : (w m n : TablesWriting) (e : Entry) → Taking w m → n ≡ took m e
    → took_fault m e ≡ None → all_written n ≡ all_written m ++ e ∷ []
    → may_be_written (all_written m) e.user_key e.seqno ≡ true → Taking w n
taking_more w m n e h is fine listed may = record {
  writable = writable_more (all_written m) (all_written n) e h.writable may listed;
  among = λ rs.
      ap (λ (xs : List R). results_fault w (xs ++ rs)) (ap ok_results listed
      ∙ map_append (all_written m) (e ∷ []))
      ∙ ap (results_fault w) (append_assoc (ok_results (all_written m)) (Ok e ∷ []) rs)
      ∙ h.among (Ok e ∷ rs)
      ∙ ap (λ (x : Option Error). option_or x (results_fault (took m e) rs)) fine
      ∙ ap (λ (x : TablesWriting). results_fault x rs) (sym is);
  behind = λ es.
      ap (λ (xs : List Entry). writes_fault w (xs ++ es)) listed
      ∙ ap (writes_fault w) (append_assoc (all_written m) (e ∷ []) es)
      ∙ h.behind (e ∷ es)
      ∙ ap (λ (x : Option Error). option_or x (writes_fault (took m e) es)) fine
      ∙ ap (λ (x : TablesWriting). writes_fault x es) (sym is);
}
