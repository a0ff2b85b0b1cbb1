-- Finished tables that are opened as is told, one by one, and stay.
use Rattle.std.proofs.Common.{◌≡◌, refl, sym, ◌∙◌, ap, subst, ℕ, zero, suc, ◌+◌, ◌<◌, ◌≤◌}
use Rattle.std.proofs.Common.{List, [], ◌∷◌, ◌++◌, drop, get_or, length, take, arith}
use Rattle.std.specs.Prelude.{IfSome, MatchOption, None, Option, Some}
use Rattle.std.specs.Option.{option_or}
use Rattle.sst_entries.specs.declared.error.Error.{Error}
use Rattle.sst_entries.specs.Entry.{Entry}
use Rattle.sst_blocks.specs.table.Chunks.{joined}
use Rattle.sst_blocks.specs.declared.table.label.Label.{Label}
use Rattle.sst_blocks.specs.declared.table.options.Options.{Options}
use Rattle.sst_blocks.specs.table.Table.{IsTable}
use Rattle.lsm_writers.specs.declared.writer.FinishedTable.{FinishedTable}
use Rattle.lsm_writers.specs.Tables.{AreFinished, TablesWriting, next_label}
use Rattle.lsm_writers.specs.Writing.{IsTableWith, IsWritable}
use Rattle.lsm_readers.specs.point.Answer.{lift}
use Rattle.lsm_readers.specs.point.Table.{OpenTable}
use Rattle.lsm_runs.specs.compaction.Chain.{IsRunOfList}
use Rattle.lsm_runs.specs.compaction.Compacted.{AreCompactable, AreWrittenBy}
use Rattle.lsm_runs.specs.compaction.AnyRuns.{AreTablesBy, HasMade}
use Rattle.lsm_runs.specs.compaction.OpenedBy.{AreOpenedBy, HasRunBy, IsOpenedBy, IsRunBy}
use Rattle.lsm_runs.specs.compaction.Written.{opens_fault}
use Rattle.lsm_runs.specs.declared.compaction.any_runs.CompactionOutcome.{CompactionOutcome}
use Rattle.lsm_runs.specs.declared.compaction.any_runs.CompactionOutcome.TheVariants.{OutOfOrder}
use Rattle.lsm_runs.specs.declared.compaction.any_runs.CompactionOutcome.TheVariants.{Stopped}
use Rattle.lsm_runs.specs.declared.compaction.any_runs.CompactionOutcome.TheVariants.{Tables}
use Rattle.lsm_runs.specs.declared.compaction.open_options.OpenOptions.{OpenOptions}
use Rattle.lsm_runs.proofs.Compactable.{held_compactable}
use Rattle.lsm_runs.proofs.CompactedBack.{lift_zero}
use Rattle.lsm_runs.proofs.HeldRuns.{AreHeld, IsHeld, held_table, run_held}
use Rattle.lsm_runs.proofs.Intervals.{opens_joined}
use Rattle.lsm_runs.proofs.RunWriting.{IsPut}

-- the table of a list, by bytes that are those of a finished one
pub with_bytes : (label : Label) (options : Options) (es : List Entry) (id sum : ℕ)
    (bytes own : List ℕ) → bytes ≡ own → IsTableWith label options es id sum bytes
    → options.index_block_restart_interval ≡ 1 → (t : IsTable own es)
    × (t.options.index_block_restart_interval ≡ 1)
with_bytes label options es id sum bytes own same f one =
    subst (λ (b : List ℕ). (t : IsTable b es) × (t.options.index_block_restart_interval ≡ 1)) same
    (f.table, ap (λ (x : Options). x.index_block_restart_interval) f.options_are ∙ one)

module _ {A : Type 0} (how : OpenOptions) where
  -- ---- what they store

  pub held_by : (label : Label) (options : Options) (es : List Entry) (f : FinishedTable A)
      (t : OpenTable) → IsTableWith label options es f.id f.checksum.0 f.bytes
      → IsOpenedBy how f t → IsHeld how.global_seqno es t
  held_by label options es f t is o =
      held_table how.global_seqno es t is.some o.opened
      (subst (λ (b : List ℕ). IsTable b es) (sym o.bytes_are) is.table) o.number_is

  pub all_held_by : (options : Options) (label : Label) (lists : List (List Entry))
      (fs : List (FinishedTable A)) (ts : List OpenTable) → AreFinished options label lists fs
      → AreOpenedBy how fs ts → AreHeld how.global_seqno lists ts
  all_held_by options label [] [] [] f o = tt
  all_held_by options label [] (x ∷ fs) ts f o = absurd f
  all_held_by options label (es ∷ ls) [] ts f o = absurd f
  all_held_by options label lists [] (t ∷ ts) f o = absurd o
  all_held_by options label lists (x ∷ fs) [] f o = absurd o
  all_held_by options label (es ∷ ls) (x ∷ fs) (t ∷ ts) f o =
      let rest = all_held_by options (next_label label) ls fs ts f.1 o.1 in
      (held_by label options es x t f.0 o.0, rest)

  -- ---- one by one

  pub next_opened : (fs : List (FinishedTable A)) (i : ℕ) (ts : List OpenTable)
      (f : FinishedTable A) (t : OpenTable) → i < length fs → f ≡ get_or fs i f
      → AreOpenedBy how (take i fs) ts → IsOpenedBy how f t
      → AreOpenedBy how (take (suc i) fs) (ts ++ t ∷ [])
  next_opened [] i ts f t less is all one = absurd (omega (arith, less))
  next_opened (x ∷ fs) zero [] f t less is all one =
      (subst (λ (z : FinishedTable A). IsOpenedBy how z t) is one, tt)
  next_opened (x ∷ fs) zero (y ∷ ts) f t less is all one = absurd all
  next_opened (x ∷ fs) (suc i) [] f t less is all one = absurd all
  next_opened (x ∷ fs) (suc i) (y ∷ ts) f t less is all one =
      (all.0, next_opened fs i ts f t (omega (arith, less)) is all.1 one)

  -- those in front of a place are opened
  abbrev pub OpenedSoFar : List (FinishedTable A) → ℕ → List OpenTable → Type 0
  OpenedSoFar fs i ts = AreOpenedBy how (take i fs) ts

  -- and nothing keeps the others from being opened but what keeps all
  abbrev pub FitSoFar : List (FinishedTable A) → ℕ → Type 0
  FitSoFar fs i =
      (options : Options) (label : Label) (lists : List (List Entry))
      → AreFinished options label lists fs
      → opens_fault options (joined lists) how.global_seqno
      ≡ opens_fault options (joined (drop i lists)) how.global_seqno

finished_at : {A : Type 0} (options : Options) (label : Label) (lists : List (List Entry))
    (fs : List (FinishedTable A)) (i : ℕ) (f : FinishedTable A)
    → AreFinished options label lists fs → i < length fs → f ≡ get_or fs i f
    → (l : Label) × (es : List Entry) × IsTableWith l options es f.id f.checksum.0 f.bytes
    × (drop i lists ≡ es ∷ drop (suc i) lists)
finished_at options label lists [] i f h less is = absurd (omega (arith, less))
finished_at options label [] (x ∷ fs) i f h less is = absurd h
finished_at {A} options label (t ∷ ts) (x ∷ fs) zero f h less is = (
  label,
  t,
  subst (λ (z : FinishedTable A). IsTableWith label options t z.id z.checksum.0 z.bytes) (sym is)
      h.0,
  refl,
)
finished_at options label (t ∷ ts) (x ∷ fs) (suc i) f h less is =
    finished_at options (next_label label) ts fs i f h.1 (omega (arith, less)) is

module _ {A : Type 0} (g : ℕ) (fs : List (FinishedTable A)) (i : ℕ) (f : FinishedTable A)
    (less : i < length fs) (is : f ≡ get_or fs i f) (options : Options) (label : Label)
    (lists : List (List Entry)) (h : AreFinished options label lists fs) where
  abbrev here : (l : Label) × (es : List Entry) × IsTableWith l options es f.id f.checksum.0 f.bytes
      × (drop i lists ≡ es ∷ drop (suc i) lists)
  here = finished_at options label lists fs i f h less is

  -- the fault of those that are left is that of the next, or else of the others
  next_fault : opens_fault options (joined (drop i lists)) g
      ≡ option_or (opens_fault options here.1 g)
      (opens_fault options (joined (drop (suc i) lists)) g)
  next_fault = ap (λ (ls : List (List Entry)). opens_fault options (joined ls) g) here.3
      ∙ opens_joined options here.1 (joined (drop (suc i) lists)) g here.2.some

  pub fits_more : ((l : Label) (es : List Entry)
      → IsTableWith l options es f.id f.checksum.0 f.bytes → opens_fault options es g ≡ None)
      → opens_fault options (joined (drop i lists)) g
      ≡ opens_fault options (joined (drop (i + 1) lists)) g
  fits_more fits =
      let n : suc i ≡ i + 1 = omega arith in
      next_fault
      ∙ ap (λ (o : Option Error).
      option_or o (opens_fault options (joined (drop (suc i) lists)) g))
      (fits here.0 here.1 here.2)
      ∙ ap (λ (k : ℕ). opens_fault options (joined (drop k lists)) g) n

  pub large_here : (e : Error) → ((l : Label) (es : List Entry)
      → IsTableWith l options es f.id f.checksum.0 f.bytes → opens_fault options es g ≡ Some e)
      → opens_fault options (joined (drop i lists)) g ≡ Some e
  large_here e large =
      next_fault
      ∙ ap (λ (o : Option Error).
      option_or o (opens_fault options (joined (drop (suc i) lists)) g))
      (large here.0 here.1 here.2)

-- behind the last of them none is left
pub none_behind : {A : Type 0} (options : Options) (label : Label) (lists : List (List Entry))
    (fs : List (FinishedTable A)) (i : ℕ) → AreFinished options label lists fs → length fs ≤ i
    → drop i lists ≡ []
none_behind options label [] fs zero h past = refl
none_behind options label [] fs (suc i) h past = refl
none_behind options label (es ∷ ls) [] i h past = absurd h
none_behind options label (es ∷ ls) (f ∷ fs) zero h past = absurd (omega (arith, past))
none_behind options label (es ∷ ls) (f ∷ fs) (suc i) h past =
    none_behind options (next_label label) ls fs i h.1 (omega (arith, past))

-- ---- the run of them

no_lists : {A : Type 0} (options : Options) (label : Label) (lists : List (List Entry))
    (fs : List (FinishedTable A)) → AreFinished options label lists fs → fs ≡ [] → lists ≡ []
no_lists options label [] fs h none = refl
no_lists options label (es ∷ ls) [] h none = absurd h
no_lists options label (es ∷ ls) (f ∷ fs) h none = absurd cc

no_tables : {A : Type 0} (how : OpenOptions) (fs : List (FinishedTable A)) (ts : List OpenTable)
    → AreOpenedBy how fs ts → ts ≡ [] → fs ≡ []
no_tables how [] ts o none = refl
no_tables how (f ∷ fs) [] o none = absurd o
no_tables how (f ∷ fs) (t ∷ ts) o none = absurd cc

none_opened : {A : Type 0} (how : OpenOptions) (fs : List (FinishedTable A)) (ts : List OpenTable)
    → AreOpenedBy how fs ts → fs ≡ [] → ts ≡ []
none_opened how fs [] o none = refl
none_opened how [] (t ∷ ts) o none = absurd o
none_opened how (f ∷ fs) (t ∷ ts) o none = absurd cc

pub put_by : {A : Type 0} (how : OpenOptions) (fs : List (FinishedTable A)) (ts : List OpenTable)
    → AreOpenedBy how fs ts → (r : Option (List OpenTable)) → IsPut ts r → IsRunBy how fs r
put_by how fs ts o None none = no_tables how fs ts o none
put_by how fs ts o (Some run) p =
    (λ none. p.1 (none_opened how fs ts o none), subst (AreOpenedBy how fs) (sym p.0) o)

module _ {A : Type 0} (how : OpenOptions) (w : TablesWriting) (es : List Entry)
    (fs : List (FinishedTable A)) (left : Option ℕ) (by : AreWrittenBy w es fs left) where
  held : (run : List OpenTable) → AreOpenedBy how fs run → AreHeld how.global_seqno by.lists run
  held run o = all_held_by how w.present.options _ by.lists fs run by.finished o

  pub run_with : (r : Option (List OpenTable)) → IsRunBy how fs r
      → MatchOption r (es ≡ []) (λ run. IsRunOfList es how.global_seqno run)
  run_with None none =
      let no : by.lists ≡ [] = no_lists w.present.options _ by.lists fs by.finished none in
      sym by.cut.whole ∙ ap joined no
  run_with (Some run) p = run_held es how.global_seqno by.lists run by.cut.whole (held run p.1)
      by.order (λ none. p.0 (no_tables how fs run p.1 none))

  pub able_with : (r : Option (List OpenTable)) → IsRunBy how fs r
      → IsWritable (lift es how.global_seqno) → IfSome r (λ run. AreCompactable (run ∷ []))
  able_with None none writable = tt
  able_with (Some run) p writable = held_compactable by.lists es how.global_seqno run
      (run_with (Some run) p) (held run p.1) writable

-- ---- the run of what a compaction came to

pub outcome_run : {A : Type 0} (how : OpenOptions) (w : TablesWriting) (es : List Entry)
    (o : CompactionOutcome A) (r : Option (List OpenTable)) → AreTablesBy w es o → HasRunBy how o r
    → MatchOption r (es ≡ []) (λ run. IsRunOfList es how.global_seqno run)
outcome_run how w es (Tables tables left) r by h = run_with how w es tables.items left by r h
outcome_run how w es OutOfOrder r by h = absurd by
outcome_run how w es Stopped r by h = absurd by

pub outcome_able : {A : Type 0} (how : OpenOptions) (w : TablesWriting) (o : CompactionOutcome A)
    (r : Option (List OpenTable)) → HasMade w o → HasRunBy how o r → how.global_seqno ≡ 0
    → IfSome r (λ run. AreCompactable (run ∷ []))
outcome_able how w (Tables tables left) r made h none =
    let writable : IsWritable (lift made.list how.global_seqno) =
    subst (λ (n : ℕ). IsWritable (lift made.list n)) (sym none)
    (subst IsWritable (sym (lift_zero made.list)) made.writable) in
    able_with how w made.list tables.items left made.written r h writable
outcome_able how w OutOfOrder r made h none =
    subst (λ (x : Option (List OpenTable)). IfSome x (λ run. AreCompactable (run ∷ []))) (sym h) tt
outcome_able how w Stopped r made h none =
    subst (λ (x : Option (List OpenTable)). IfSome x (λ run. AreCompactable (run ∷ []))) (sym h) tt
