-- A stream whose entries are written one by one: what it still deals, and what the writer refuses
-- then.
use Rattle.std.proofs.Common.{◌≡◌, refl, sym, ◌∙◌, ap, subst, Bool, true, false, List, [], ◌∷◌}
use Rattle.std.proofs.Common.{◌++◌, IsTrue, append_assoc, append-nil}
use Rattle.std.specs.Prelude.{Option, Some, None, Ok, Err, is_some}
use Rattle.std.specs.Option.{option_or}
use Rattle.sst_entries.specs.declared.error.Error.{Error}
use Rattle.sst_entries.specs.Entry.{Entry}
use Rattle.sst_entries.specs.Error.{is_memory}
use Rattle.sst_entries.specs.Lending.{came}
use Rattle.sst_entries.specs.Stream.{answer_stops, nowhere, ok_results}
use Rattle.sst_entries.proofs.StreamLemmas.{yields_front}
use Rattle.lsm_sorted.specs.merge.Ends.{R}
use Rattle.lsm_writers.specs.Tables.{TablesWriting, all_written, took, took_fault}
use Rattle.lsm_writers.specs.Writing.{IsWritable, may_be_written}
use Rattle.lsm_writers.proofs.ListWriting.{listed_follows}
use Rattle.lsm_runs.specs.compaction.Chain.{writes_fault}
use Rattle.lsm_runs.proofs.Opening.{or_first}
use Rattle.lsm_runs.specs.RunLists.{YieldsList}

-- a counted fault, where the first entry is not refused
pub none_refused : (a b : Option Error) → a ≡ None → option_or a b ≡ b
none_refused a b is = ap (λ (o : Option Error). option_or o b) is

module _ {S : Type 0} (next : S → Option R → S → Type 0) where
  abbrev YieldsRest : List Entry → S → Type 0
  YieldsRest rest s = YieldsList next nowhere rest s

  -- ---- one call

  yields_one_of : (rest : List Entry) (s t : S) (e : Entry) → YieldsRest rest s → next s (Some (Ok e)) t
      → (more : List Entry) × (rest ≡ e ∷ more) × YieldsRest more t
  yields_one_of [] s t e d step =
      let h = yields_front (answer_stops is_memory) next nowhere s [] (Some (Ok e)) t
      (d is_memory refl) step refl in
      let no : Some (Ok e) ≡ None = h.0 in absurd cc
  yields_one_of (x ∷ rest) s t e d step =
      let h = yields_front (answer_stops is_memory) next nowhere s (ok_results (x ∷ rest))
      (Some (Ok e)) t (d is_memory refl) step refl in
      let same : Some (Ok e) ≡ Some (Ok x) = h.0 in
      let is : x ≡ e = cc in (
        rest,
        ap (λ (y : Entry). y ∷ rest) is,
        λ stops memory.
            (yields_front (answer_stops stops) next nowhere s (ok_results (x ∷ rest)) (Some (Ok e)) t
            (d stops memory) step refl).1,
      )

  yields_none : (rest : List Entry) (s t : S) → YieldsRest rest s → next s None t → rest ≡ []
  yields_none [] s t d step = refl
  yields_none (x ∷ rest) s t d step =
      let h = yields_front (answer_stops is_memory) next nowhere s (ok_results (x ∷ rest)) None t
      (d is_memory refl) step refl in
      let no : None ≡ Some (Ok x) = h.0 in absurd cc

  -- it refuses nothing but for want of memory
  pub yields_fine : (rest : List Entry) (s t : S) (e : Error) → YieldsRest rest s
      → next s (Some (Err e)) t → is_memory e ≡ false → ⊥
  yields_fine [] s t e d step fine =
      let h = yields_front (answer_stops is_memory) next nowhere s [] (Some (Err e)) t
      (d is_memory refl) step fine in
      let no : Some (Err e) ≡ None = h.0 in absurd cc
  yields_fine (x ∷ rest) s t e d step fine =
      let h = yields_front (answer_stops is_memory) next nowhere s (ok_results (x ∷ rest))
      (Some (Err e)) t (d is_memory refl) step fine in
      let no : Some (Err e) ≡ Some (Ok x) = h.0 in absurd cc

  -- ---- one call of a source that lends

  -- where an entry is lent then, it came
  pub lent_next : (s t : S) (lent : Option Entry) (more : Bool) (e : Entry) → Some e ≡ lent
      → next s (came (Ok more) lent) t → next s (Some (Ok e)) t
  lent_next s t lent more e is step =
      subst (λ (o : Option Entry). next s (came (Ok more) o) t) (sym is) step

  -- where there is none, nothing is lent
  pub lent_over : (s t : S) (lent : Option Entry) (more : Bool) → more ≡ false
      → more ≡ is_some lent → next s (came (Ok more) lent) t → next s None t
  lent_over s t None more over is step = step
  lent_over s t (Some e) more over is step = let no : true ≡ false = sym is ∙ over in cc

  -- ---- a list that is written, entry by entry

  -- a part of the list is written, and the stream deals the rest
  pub record WritesOn (w : TablesWriting) (es : List Entry) (m : TablesWriting)
      (s : S) : Type 0 where
    pub rest : List Entry
    pub whole : es ≡ all_written m ++ rest
    pub yields : YieldsRest rest s
    pub fault : writes_fault w es ≡ writes_fault m rest

  pub nothing_written_yet : (w : TablesWriting) (es : List Entry) (s : S) → all_written w ≡ []
      → YieldsRest es s → WritesOn w es w s
  nothing_written_yet w es s none d = record {
    rest = es;
    whole =
        ap (λ (xs : List Entry). xs ++ es) (sym none);
    yields = d;
    fault = refl;
  }

  module _ (w : TablesWriting) (es : List Entry) (m : TablesWriting) (s t : S) (e : Entry)
      (h : WritesOn w es m s) (step : next s (Some (Ok e)) t) where
    abbrev one : (more : List Entry) × (h.rest ≡ e ∷ more) × YieldsRest more t
    one = yields_one_of h.rest s t e h.yields step

    whole_one : es ≡ all_written m ++ e ∷ one.0
    whole_one = h.whole ∙ ap (λ (xs : List Entry). all_written m ++ xs) one.1

    pub may_follow_on : IsWritable es → IsTrue (may_be_written (all_written m) e.user_key e.seqno)
    may_follow_on writable = listed_follows (all_written m) e one.0
        (subst IsWritable whole_one writable)

    fault_one : writes_fault w es ≡ option_or (took_fault m e) (writes_fault (took m e) one.0)
    fault_one = h.fault ∙ ap (writes_fault m) one.1

    pub writes_more : (n : TablesWriting) → n ≡ took m e → took_fault m e ≡ None
        → all_written n ≡ all_written m ++ e ∷ [] → WritesOn w es n t
    writes_more n is fine listed = record {
      rest = one.0;
      whole = whole_one ∙ sym (ap (λ (xs : List Entry). xs ++ one.0) listed
          ∙ append_assoc (all_written m) (e ∷ []) one.0);
      yields = one.2;
      fault = fault_one ∙ none_refused (took_fault m e) (writes_fault (took m e) one.0) fine
          ∙ ap (λ (x : TablesWriting). writes_fault x one.0) (sym is);
    }

    pub refused_one : (f : Error) → took_fault m e ≡ Some f → writes_fault w es ≡ Some f
    refused_one f is = fault_one ∙ or_first (took_fault m e) (writes_fault (took m e) one.0) f is

  module _ (w : TablesWriting) (es : List Entry) (m : TablesWriting) (s t : S)
      (h : WritesOn w es m s) (step : next s None t) where
    none_left : h.rest ≡ []
    none_left = yields_none h.rest s t h.yields step

    pub all_taken : all_written m ≡ es
    all_taken = sym (h.whole ∙ ap (λ (xs : List Entry). all_written m ++ xs) none_left
        ∙ append-nil (all_written m))
