-- A call of a writer of many tables, where the next table may begin.
use Rattle.std.proofs.Common.{◌≡◌, refl, sym, ◌∙◌, ap, subst, ℕ, ◌-◌, ◌^◌, Bool, true, false, List}
use Rattle.std.proofs.Common.{[], ◌∷◌, ◌++◌, append_assoc, IsTrue, inl, inr, length}
use Rattle.std.specs.Prelude.{Option, Some, None, Result, Ok, Err, IsErrAnd, nat_lt, if◌then◌else◌}
use Rattle.std.specs.Prelude.{◌⊎◌}
use Rattle.sst_entries.specs.declared.error.Error.{Error}
use Rattle.sst_entries.specs.declared.error.Error.TheVariants.{OutOfMemory, TableIdsSpent}
use Rattle.sst_entries.specs.declared.error.Error.TheVariants.{WriterFailed}
use Rattle.sst_entries.specs.Entry.{Entry}
use Rattle.sst_entries.specs.Error.{Refuses, is_memory}
use Rattle.sst_entries.specs.Strict.{IsStrictAfter}
use Rattle.sst_blocks.specs.declared.table.label.Label.{Label}
use Rattle.sst_blocks.specs.declared.table.options.Options.{Options}
use Rattle.sst_blocks.specs.table.Options.{label_of}
use Rattle.sst_entries.proofs.Booleans.{and_parts}
use Rattle.sst_entries.proofs.Refusals.{memory_is}
use Rattle.sst_blocks.specs.table.Chunks.{joined}
use Rattle.lsm_writers.specs.declared.writer.FinishedTable.{FinishedTable}
use Rattle.lsm_writers.specs.Cut.{rest_chunk}
use Rattle.lsm_writers.specs.Taken.{IsLeft, StayHeld, info_left, tables_left}
use Rattle.lsm_writers.specs.Tables.{AreHeld, GoesOn, IsFreshRun, IsStanding, TablesWriting}
use Rattle.lsm_writers.specs.Tables.{all_written, drawn, early_refusal, gained_all, ids_after, ids_fault, is_due, label_before}
use Rattle.lsm_writers.specs.Tables.{lists_in, new_tables, next_id, next_writing, rotated}
use Rattle.lsm_writers.specs.Tables.{rotation_fault, standing, took, took_fault, turn_fault}
use Rattle.lsm_writers.specs.Writing.{IsFresh, Writing, fresh_writing, gained, may_be_written}
use Rattle.lsm_writers.specs.Writing.{new_writing, write_fault, written}
use Rattle.lsm_writers.proofs.Chunking.{joined_rest}
use Rattle.lsm_writers.proofs.ListWriting.{written_gained}
use Rattle.lsm_writers.proofs.Refused.{none_some}
use Rattle.lsm_writers.proofs.Rotating.{follows_all, follows_none, goes_on_next, goes_on_still}
use Rattle.lsm_writers.proofs.Rotating.{few_lists, first_stands, held_next, held_still}
use Rattle.lsm_writers.proofs.Rotating.{lists_added, no_lists, none_held}
use Rattle.std.proofs.lemmas.List.Concat.{flat_map-append}

-- what is told of a writer that has not refused
abbrev pub state_of : {A : Type 0} → ℕ → Option ℕ → List (FinishedTable A) → Writing → Bool
    → TablesWriting
state_of target ids fs w failed = record {
  target = target;
  ids = ids;
  tables =
      lists_in fs;
  present = w;
  failed = failed;
}

pub ids_left : (ids : Option ℕ) (w : Writing) → rotation_fault ids w ≡ None → ids_fault ids ≡ None
ids_left None w h = absurd cc
ids_left (Some id) w h = refl

-- whether an id is left
pub ids_spent : (ids : Option ℕ) → None ≡ ids → ids_fault ids ≡ Some TableIdsSpent
ids_spent ids is = rw (← is) refl

pub ids_spent_first : (ids : Option ℕ) → None ≡ ids → (x : Error) → ids_fault ids ≡ Some x
    → Some x ≡ Some TableIdsSpent
ids_spent_first ids is x returned = sym returned ∙ ids_spent ids is

pub rotation_spent : (ids : Option ℕ) (w : Writing) → None ≡ ids
    → rotation_fault ids w ≡ Some TableIdsSpent
rotation_spent ids w is = rw (← is) refl

pub ids_fine : (id : ℕ) (ids : Option ℕ) → Some id ≡ ids → ids_fault ids ≡ None
ids_fine id ids is = rw (← is) refl

pub ids_fine_first : (id : ℕ) (ids : Option ℕ) → Some id ≡ ids → (x : Error)
    → ids_fault ids ≡ Some x → ⊥
ids_fine_first id ids is x returned = none_some x (sym (ids_fine id ids is) ∙ returned)

-- a writer of no table yet
pub goes_on_first : (target : ℕ) (ids left : Option ℕ) (id level moment : ℕ) (w : Writing)
    → Some id ≡ ids → left ≡ drawn ids → w ≡ new_writing (label_of id level moment)
    → GoesOn target left [] w
unfolding IsStrictAfter
goes_on_first target ids left id level moment w is drew e =
    let next : left ≡ next_id id = drew ∙ ap drawn (sym is) in
    let made : GoesOn target left [] (new_writing (label_of id level moment)) =
    record { present = refl; strict = tt; cuts = tt; next = next; begun = λ _. refl } in
    subst (GoesOn target left []) (sym e) made

pub new_tables_is : {A : Type 0} (target : ℕ) (ids left : Option ℕ) (id level moment : ℕ)
    (w : Writing) (fs : List (FinishedTable A)) → Some id ≡ ids → left ≡ drawn ids
    → w ≡ new_writing (label_of id level moment) → fs ≡ []
    → state_of target left fs w false ≡ new_tables ids target level moment
new_tables_is target ids left id level moment w fs is drew e none = rw (none, drew, e, ← is) refl

-- ---- other options, before the first entry

module _ {A : Type 0} (target : ℕ) (ids : Option ℕ) (fs : List (FinishedTable A)) (w : Writing)
    (failed : Bool) (m : TablesWriting) (is : state_of target ids fs w failed ≡ m)
    (fresh : IsFreshRun m) where
  pub fresh_present : IsFresh w
  fresh_present = (subst IsFreshRun (sym is) fresh).1

  pub none_held_with : (v : Writing) → AreHeld v.options v.label fs
  none_held_with v = none_held v.options v.label fs (no_lists fs (subst IsFreshRun (sym is) fresh).0)

  pub goes_on_with : (v : Writing) (options : Options)
      → (failed ≡ false → GoesOn target ids (lists_in fs) w)
      → v ≡ record w { options = options } → failed ≡ false → GoesOn target ids (lists_in fs) v
  unfolding IsStrictAfter
  goes_on_with v options goes e works =
      let h = goes works in
      let none : written w ≡ [] = rw (fresh_present.0, fresh_present.1) refl in
      let was : w ≡ fresh_writing w.label w.options = h.present
      ∙ ap (gained_all (fresh_writing w.label w.options)) none in
      let now : v ≡ fresh_writing w.label options = e
      ∙ ap (λ (u : Writing). record u { options = options }) was in
      let made : GoesOn target ids [] (fresh_writing w.label options) =
      record { present = refl; strict = tt; cuts = tt; next = h.next; begun = λ _. refl } in
      rw (now, h.begun none) made

-- whether a table was due is told, so is what stands then
module _ {A : Type 0} (target : ℕ) (ids ids' : Option ℕ) (fs fs' : List (FinishedTable A))
    (w w' : Writing) (e : Entry) where
  follows_by : (due : Bool) → IsStanding due ids fs w ids' fs' w'
      → GoesOn target ids (lists_in fs) w
      → IsTrue (may_be_written (joined (lists_in fs) ++ written w) e.user_key e.seqno)
      → IsTrue (may_be_written (written w') e.user_key e.seqno)
  follows_by false s h next =
      subst (λ (x : Writing). IsTrue (may_be_written (written x) e.user_key e.seqno)) (sym s.2)
      (follows_all target ids (lists_in fs) w e.user_key e.seqno h ∙ next)
  follows_by true s h next =
      let low : nat_lt e.seqno (2 ^ 64 - 1) ≡ true = (and_parts _ _ next).0 in
      subst (λ (x : Writing). IsTrue (may_be_written (written x) e.user_key e.seqno)) (sym s.2)
      (sym (follows_none e.user_key e.seqno) ∙ low)

  stands_by : (failed due : Bool) → is_due target w e ≡ due → IsStanding due ids fs w ids' fs' w'
      → standing (state_of target ids fs w failed) e ≡ state_of target ids' fs' w' failed
  stands_by failed false h s = rw (h, s.0, s.1, s.2) refl
  stands_by failed true h s = rw (h, s.0, lists_added w fs fs' s.1, s.2) refl

  early_by : (x : Error) (due : Bool) → is_due target w e ≡ due
      → IsStanding due ids fs w ids' fs' w' → turn_fault target ids w e ≡ None
      → early_refusal (state_of target ids fs w false) e ≡ Some x → write_fault w' e ≡ Some x
  early_by x false h s fine early =
      let returned : early_refusal (state_of target ids fs w false) e ≡ write_fault w e = rw h refl in
      ap (λ (v : Writing). write_fault v e) s.2 ∙ (sym returned ∙ early)
  early_by x true h s fine early =
      let returned : early_refusal (state_of target ids fs w false) e ≡ ids_fault ids = rw h refl in
      let turned : turn_fault target ids w e ≡ rotation_fault ids w = rw h refl in
      let none : ids_fault ids ≡ None = ids_left ids w (sym turned ∙ fine) in
      let both : None ≡ Some x = sym none ∙ (sym returned ∙ early) in
      absurd cc

  goes_on_by : (due : Bool) → is_due target w e ≡ due → IsStanding due ids fs w ids' fs' w'
      → turn_fault target ids w e ≡ None → GoesOn target ids (lists_in fs) w
      → IsTrue (may_be_written (joined (lists_in fs) ++ written w) e.user_key e.seqno)
      → GoesOn target ids' (lists_in fs') (gained w' e)
  goes_on_by false h s fine old next =
      rw (s.0, s.1, s.2) (goes_on_still target ids (lists_in fs) w e old next h)
  goes_on_by true h s fine old next =
      let turned : turn_fault target ids w e ≡ rotation_fault ids w = rw h refl in
      rw (s.0, s.2, lists_added w fs fs' s.1) (goes_on_next target ids (lists_in fs) w e old next h
      (ids_left ids w (sym turned ∙ fine)))

  -- the tables held before the entry
  held_by : (due : Bool) → is_due target w e ≡ due → IsStanding due ids fs w ids' fs' w'
      → turn_fault target ids w e ≡ None → AreHeld w.options w.label fs
      → GoesOn target ids (lists_in fs) w → AreHeld w'.options w'.label fs'
  held_by false h s fine held old =
      held_still w w' fs fs' s.1 (ap (λ (v : Writing). v.label) s.2)
      (ap (λ (v : Writing). v.options) s.2) held
  held_by true h s fine held old =
      let turned : turn_fault target ids w e ≡ rotation_fault ids w = rw h refl in
      let next = held_next target ids fs fs' w held old (ids_left ids w (sym turned ∙ fine)) s.1 in
      held_still (next_writing ids w) w' fs' fs' refl (ap (λ (v : Writing). v.label) s.2)
      (ap (λ (v : Writing). v.options) s.2) next

  listed_by : (due : Bool) → IsStanding due ids fs w ids' fs' w'
      → joined (lists_in fs') ++ written (gained w' e) ≡ (joined (lists_in fs) ++ written w) ++ e
      ∷ []
  listed_by false s =
      rw (s.1, s.2, written_gained w e) (sym (append_assoc (joined (lists_in fs)) (written w)
      (e ∷ [])))
  listed_by true s =
      let whole : joined (lists_in fs') ≡ joined (lists_in fs) ++ written w =
      ap joined (lists_added w fs fs' s.1) ∙ (flat_map-append (λ (x : List Entry). x) (lists_in fs)
      (rest_chunk (written w)) ∙ ap (λ (x : List Entry). joined (lists_in fs) ++ x)
      (joined_rest (written w))) in
      let one : written (gained w' e) ≡ e ∷ [] = ap (λ (v : Writing). written (gained v e)) s.2
      ∙ written_gained (next_writing ids w) e in
      rw (whole, one) refl

  -- where the table that was due stands in its place
  module _ (failed : Bool) (works : failed ≡ false)
      (stands : IsStanding (is_due target w e) ids fs w ids' fs' w') where
    pub next_follows : GoesOn target ids (lists_in fs) w → IsTrue
        (may_be_written (all_written (state_of target ids fs w failed)) e.user_key e.seqno)
        → IsTrue (may_be_written (written w') e.user_key e.seqno)
    next_follows h next = follows_by _ stands h (rw works at next)

    pub took_is : (v : Writing) → v ≡ gained w' e
        → state_of target ids' fs' v false ≡ took (state_of target ids fs w failed) e
    took_is v is = rw (is, works) (sym (ap (λ (n : TablesWriting). record n
        { present = gained n.present e }) (stands_by false _ refl stands)))

    pub fault_is : turn_fault target ids w e ≡ None
        → took_fault (state_of target ids fs w failed) e ≡ write_fault w' e
    fault_is fine = rw (works, fine) (ap (λ (n : TablesWriting). write_fault n.present e)
        (stands_by false _ refl stands))

    pub early_is : turn_fault target ids w e ≡ None → (x : Error)
        → early_refusal (state_of target ids fs w failed) e ≡ Some x → write_fault w' e ≡ Some x
    early_is fine x early = early_by x _ refl stands fine (rw works at early)

    pub still_goes_on : turn_fault target ids w e ≡ None → (v : Writing) → v ≡ gained w' e
        → GoesOn target ids (lists_in fs) w → IsTrue (may_be_written
        (all_written (state_of target ids fs w failed)) e.user_key e.seqno)
        → GoesOn target ids' (lists_in fs') v
    still_goes_on fine v is h next = rw is (goes_on_by _ refl stands fine h (rw works at next))

    -- the tables stay held where the writer keeps its table info and options
    pub held_standing : turn_fault target ids w e ≡ None → AreHeld w.options w.label fs
        → GoesOn target ids (lists_in fs) w → (v : Writing) → v.label ≡ w'.label
        → v.options ≡ w'.options → AreHeld v.options v.label fs'
    held_standing fine held old v label options = held_still w' v fs' fs' refl label options
        (held_by _ refl stands fine held old)

    pub listed_is : (v : Writing) → v ≡ gained w' e
        → joined (lists_in fs') ++ written v ≡ all_written (state_of target ids fs w failed) ++ e
        ∷ []
    listed_is v is = rw (is, works) (listed_by _ stands)

-- ---- what is left after an error

module _ {A : Type 0} (target : ℕ) (ids ids' : Option ℕ) (fs fs' : List (FinishedTable A))
    (w w' : Writing) (e : Entry) (failed now : Bool) where
  abbrev TablesLeft : Error → Type 0
  TablesLeft x = ((lists_in fs' ≡ tables_left (state_of target ids fs w failed) e)
      × (w'.label ≡ info_left (state_of target ids fs w failed) e))
      ⊎ ((x ≡ OutOfMemory) × (lists_in fs' ≡ lists_in fs) × (w'.label ≡ w.label))

  -- the next table was not begun
  still_by : failed ≡ false → lists_in fs' ≡ lists_in fs → w'.label ≡ w.label → (x : Error)
      (memory : Bool) → is_memory x ≡ memory → (fault : Option Error)
      → turn_fault target ids w e ≡ fault
      → (is_memory x ≡ false → turn_fault target ids w e ≡ Some x) → TablesLeft x
  still_by works same info x memory is (Some y) at refused =
      inl (rw (works, at) same, rw (works, at) info)
  still_by works same info x true is None at refused = inr (memory_is x is, same, info)
  still_by works same info x false is None at refused =
      absurd (none_some x (sym at ∙ refused is))

  -- where no table was finished
  pub left_still : failed ≡ false → StayHeld fs w fs' w' → (x : Error)
      → (is_memory x ≡ false → turn_fault target ids w e ≡ Some x)
      → IsLeft (state_of target ids fs w failed) e x (state_of target ids' fs' w' now)
  left_still works s x refused = record {
    tables = still_by works (ap (λ (x : List (FinishedTable A)). lists_in x) s.0) s.1 x _ refl _
        refl refused;
    first = λ some. ap (λ (x : List (FinishedTable A)). label_before (length (lists_in x)) w'.label)
        s.0
        ∙ ap (λ (l : Label). label_before (length (lists_in fs)) l) s.1;
    options = s.2;
  }

  label_by : (due : Bool) → is_due target w e ≡ due → IsStanding due ids fs w ids' fs' w'
      → turn_fault target ids w e ≡ None → AreHeld w.options w.label fs
      → GoesOn target ids (lists_in fs) w → (lists_in fs' ≡ [] → ⊥)
      → label_before (length (lists_in fs')) w'.label
      ≡ label_before (length (lists_in fs)) w.label
  label_by false h s fine held old some =
      ap (λ (x : List (FinishedTable A)). label_before (length (lists_in x)) w'.label) s.1
      ∙ ap (λ (v : Writing). label_before (length (lists_in fs)) v.label) s.2
  label_by true h s fine held old some =
      let turned : turn_fault target ids w e ≡ rotation_fault ids w = rw h refl in
      let lists = lists_added w fs fs' s.1 in
      ap (λ (x : List (List Entry)). label_before (length x) w'.label) lists
      ∙ (ap (λ (v : Writing). label_before (length (lists_in fs ++ rest_chunk (written w))) v.label)
      s.2
      ∙ first_stands target ids (lists_in fs) w old (ids_left ids w (sym turned ∙ fine))
      (few_lists w.options w.label fs held) (λ none. some (lists ∙ none)))

  options_by : (due : Bool) → IsStanding due ids fs w ids' fs' w' → w'.options ≡ w.options
  options_by false s = ap (λ (v : Writing). v.options) s.2
  options_by true s = ap (λ (v : Writing). v.options) s.2

  standing_left : failed ≡ false → turn_fault target ids w e ≡ None
      → (standing (state_of target ids fs w failed) e).tables
      ≡ tables_left (state_of target ids fs w failed) e
  standing_left works fine = rw (works, fine) refl

  standing_info : failed ≡ false → turn_fault target ids w e ≡ None
      → (standing (state_of target ids fs w failed) e).present.label
      ≡ info_left (state_of target ids fs w failed) e
  standing_info works fine = rw (works, fine) refl

  -- where the table that was due stands in its place, and the entry failed
  pub left_standing : failed ≡ false → (x : Error)
      → IsStanding (is_due target w e) ids fs w ids' fs' w'
      → turn_fault target ids w e ≡ None → AreHeld w.options w.label fs
      → GoesOn target ids (lists_in fs) w → (v : Writing) → v.label ≡ w'.label
      → v.options ≡ w'.options
      → IsLeft (state_of target ids fs w failed) e x (state_of target ids' fs' v now)
  left_standing works x stands fine held old v label options = record {
    tables =
        let is = sym (stands_by target ids ids' fs fs' w w' e failed _ refl stands) in
        inl (
          ap (λ (n : TablesWriting). n.tables) is ∙ standing_left works fine,
          label ∙ (ap (λ (n : TablesWriting). n.present.label) is ∙ standing_info works fine),
        );
    first = λ some. ap (λ (l : Label). label_before (length (lists_in fs')) l) label
        ∙ label_by _ refl stands fine held old some;
    options = options ∙ options_by _ stands;
  }

-- a table was due, and no id is left for it
pub early_due : {A : Type 0} (target : ℕ) (ids : Option ℕ) (fs : List (FinishedTable A))
    (w : Writing) (e : Entry) (failed : Bool) (x : Error) → failed ≡ false
    → is_due target w e ≡ true → early_refusal (state_of target ids fs w failed) e ≡ Some x
    → (if is_due target w e then ids_fault ids else None) ≡ Some x
early_due target ids fs w e failed x works due early =
    let returned : early_refusal (state_of target ids fs w failed) e ≡ ids_fault ids =
    rw (works, due) refl in
    rw due (sym returned ∙ early)

-- a refusal that is passed on, and is the first
pub refuses_passed : {X : Type 0} (r : Result X Error) (e x : Error) → IsErrAnd r (λ y. y ≡ e)
    → Some x ≡ Some e → Refuses r (Some x)
refuses_passed (Ok y) e x is h = absurd is
refuses_passed (Err y) e x is h = rw is h

-- ---- a writer that has not refused

module _ {A : Type 0} (target : ℕ) (ids : Option ℕ) (fs : List (FinishedTable A)) (w : Writing)
    (e : Entry) (failed : Bool) (works : failed ≡ false) where
  pub fault_turned : (x : Error) → turn_fault target ids w e ≡ Some x
      → took_fault (state_of target ids fs w failed) e ≡ Some x
  fault_turned x h = rw (works, h) refl

  ids_by : (due : Bool) (m : TablesWriting) → (if due then drawn m.ids else m.ids)
      ≡ (if due then rotated m else m).ids
  ids_by false m = refl
  ids_by true m = refl

  -- an id was drawn just where a table was due
  pub ids_are : (ids' : Option ℕ) → ids' ≡ (if is_due target w e then drawn ids else ids)
      → ids' ≡ ids_after (state_of target ids fs w failed) e
  ids_are ids' is = rw works (is ∙ ids_by (is_due target w e) (state_of target ids fs w false))

-- ---- a writer that has refused

module _ {A : Type 0} (target : ℕ) (ids : Option ℕ) (fs : List (FinishedTable A)) (w : Writing)
    (e : Entry) (failed : Bool) (spent : failed ≡ true) where
  pub spent_fault : took_fault (state_of target ids fs w failed) e ≡ Some WriterFailed
  spent_fault = rw spent refl

  pub spent_first : (x : Error) → early_refusal (state_of target ids fs w failed) e ≡ Some x
      → Some x ≡ Some WriterFailed
  spent_first x early =
      let returned : early_refusal (state_of target ids fs w failed) e ≡ Some WriterFailed =
      rw spent refl in
      sym early ∙ returned

  pub spent_memory : took_fault (state_of target ids fs w failed) e ≡ None
      → WriterFailed ≡ OutOfMemory
  spent_memory none =
      let both : None ≡ Some WriterFailed = sym none ∙ spent_fault in
      absurd cc

  pub spent_ids : ids ≡ ids_after (state_of target ids fs w failed) e
  spent_ids = rw spent refl

  pub spent_left : (x : Error) → IsLeft (state_of target ids fs w failed) e x
      (state_of target ids fs w failed)
  spent_left x = record {
    tables = inl (rw spent refl, rw spent refl);
    first = λ some. refl;
    options = refl;
  }
