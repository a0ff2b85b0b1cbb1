-- What is kept of several runs, written as a run: its tables, their ids, and that it may be
-- compacted again.
use Rattle.std.proofs.Common.{◌≡◌, refl, sym, ◌∙◌, ap, subst, ℕ, ◌+◌, ◌-◌, ◌^◌, ◌<◌, List, [], ◌∷◌}
use Rattle.std.proofs.Common.{length, arith}
use Rattle.std.specs.Prelude.{Option, Some, None, Result, Ok, Err, IfOk, IfSome, MatchOption}
use Rattle.std.specs.List.{AllByRecursion}
use Rattle.std.specs.Option.{option_or}
use Rattle.std.specs.declared.ops.Bound.{Bound}
use Rattle.sst_entries.specs.declared.error.Error.{Error}
use Rattle.sst_entries.specs.Entry.{Entry}
use Rattle.sst_blocks.specs.declared.table.label.Label.{Label}
use Rattle.sst_blocks.specs.table.Facts.{highest_seqno}
use Rattle.sst_blocks.specs.table.Options.{default_options}
use Rattle.lsm_readers.specs.point.Answer.{lift}
use Rattle.lsm_readers.specs.point.Table.{OpenTable}
use Rattle.lsm_sorted.specs.declared.compaction.Rules.{Rules}
use Rattle.lsm_sorted.specs.Compaction.{kept, unfiltered}
use Rattle.lsm_writers.specs.declared.writer.FinishedTable.{FinishedTable}
use Rattle.lsm_writers.specs.Tables.{AreTables, TablesWriting, ids_fault, new_tables}
use Rattle.lsm_writers.specs.Writing.{IsWritable}
use Rattle.lsm_writers.proofs.OneCut.{one_cut_law}
use Rattle.lsm_runs.specs.compaction.Chain.{AreCutOf, AreWritten, FitsAsTables, IsRunOfList}
use Rattle.lsm_runs.specs.compaction.Chain.{both_fault}
use Rattle.lsm_runs.specs.compaction.Chain.{chain_fault, ids_behind, tables_fault, writes_fault}
use Rattle.lsm_runs.specs.compaction.Compacted.{AreCompactable, AreWrittenBy, FitsBy, RunsOn}
use Rattle.lsm_runs.specs.compaction.Compacted.{kept_in}
use Rattle.lsm_runs.specs.compaction.PartReads.{ReadsOf}
use Rattle.lsm_runs.specs.compaction.Written.{number_fault}
use Rattle.lsm_runs.proofs.Compactable.{run_compactable}
use Rattle.lsm_runs.proofs.RunBack.{union_is}
use Rattle.lsm_runs.proofs.RunWriting.{many_opened, small_number, left_none}
use Rattle.lsm_runs.proofs.WrittenBy.{behind_new}

-- ---- lists without a global number

pub lift_zero : (es : List Entry) → lift es 0 ≡ es
lift_zero [] = refl
lift_zero (e ∷ es) =
    let same : e.seqno + 0 ≡ e.seqno = omega arith in
    rw (same, lift_zero es) refl

-- what is read of a list that is lifted by 0 is read of the list
pub unlifted : {S : Type 0} (front back : S → Option (Result Entry Error) → S → Type 0)
    (key : List ℕ) (bound : ℕ) (low high : Bound (List ℕ)) (es : List Entry)
    (read : Option Entry × S)
    → ReadsOf front back key bound low high (lift es 0) read
    → ReadsOf front back key bound low high es read
unlifted front back key bound low high es read =
    subst (λ (xs : List Entry). ReadsOf front back key bound low high xs read) (lift_zero es)

-- ---- a run alone

-- what is kept of a run of a list alone is kept of the list
pub kept_alone : (rules : Rules) (es : List Entry) (run : List OpenTable) (h : IsRunOfList es 0 run)
    → kept_in rules (h.lists ∷ []) ≡ kept rules (unfiltered es)
kept_alone rules es run h = ap (λ (xs : List Entry). kept rules (unfiltered xs))
    (union_is es 0 run h ∙ lift_zero es)

-- so what writing it refuses is what writing what is kept of the list refuses
pub fault_alone : (ids : Option ℕ) (target moment : ℕ) (rules : Rules) (es : List Entry)
    (run : List OpenTable) (h : IsRunOfList es 0 run) → moment ≡ 0 → tables_fault ids target moment
    (kept_in rules (h.lists ∷ [])) ≡ tables_fault ids target 0 (kept rules (unfiltered es))
fault_alone ids target moment rules es run h at_0 =
    ap (λ (m : ℕ). tables_fault ids target m (kept_in rules (h.lists ∷ []))) at_0
    ∙ ap (tables_fault ids target 0) (kept_alone rules es run h)

-- a run that was written may be compacted
pub written_run_is_compactable : (label : Label) (target : ℕ) (es : List Entry)
    (run : List OpenTable) → IsWritable es → IsRunOfList es 0 run → AreCutOf label target es 0 run
    → AreCompactable (run ∷ [])
written_run_is_compactable label target es run writable is cut =
    run_compactable label target es 0 run is cut (subst IsWritable (sym (lift_zero es)) writable)

pub compactable_again : (label : Label) (target : ℕ) (es : List Entry) (r : Option (List OpenTable))
    → IsWritable es → MatchOption r (es ≡ []) (λ run. IsRunOfList es 0 run)
    → IfSome r (λ run. AreCutOf label target es 0 run) → IfSome r (λ run. AreCompactable (run ∷ []))
compactable_again label target es None writable is cut = tt
compactable_again label target es (Some run) writable is cut =
    written_run_is_compactable label target es run writable is cut

-- so it is of any global number, where the lifted list can be written
pub put_compactable : (label : Label) (target : ℕ) (es : List Entry) (g : ℕ)
    (r : Option (List OpenTable)) → IsWritable (lift es g)
    → MatchOption r (es ≡ []) (λ run. IsRunOfList es g run)
    → IfSome r (λ run. AreCutOf label target es g run) → IfSome r (λ run. AreCompactable (run ∷ []))
put_compactable label target es g None writable is cut = tt
put_compactable label target es g (Some run) writable is cut =
    run_compactable label target es g run is cut writable

-- ---- what a writer that had written nothing has written

-- its ids run on
pub new_runs_on : (ids : Option ℕ) (target moment : ℕ) → ids_fault ids ≡ None
    → RunsOn (new_tables ids target 0 moment)
new_runs_on None target moment fine = absurd cc
new_runs_on (Some first) target moment fine = refl

-- tables that a new writer has made of a list are tables of the list, and the counter stands behind
-- them
pub as_written : {A : Type 0} (ids : Option ℕ) (target moment : ℕ) (es : List Entry)
    (w : TablesWriting) (fs : List (FinishedTable A)) (left : Option ℕ)
    → w ≡ new_tables ids target 0 moment → ids_fault ids ≡ None → AreWrittenBy w es fs left
    → AreWritten ids target moment es fs left
as_written ids target moment es w fs left new fine by =
    let n : AreWrittenBy (new_tables ids target 0 moment) es fs left =
    subst (λ (x : TablesWriting). AreWrittenBy x es fs left) new by in
    record {
      lists = n.lists;
      cut = n.cut;
      order = n.order;
      finished = n.finished;
      left_is =
          n.left_is ∙ behind_new ids target (length n.lists) fine;
    }

-- so of what a call answers
pub all_as_written : {A X : Type 0} (ids : Option ℕ) (target moment : ℕ) (es : List Entry)
    (w : TablesWriting) (tables : X → List (FinishedTable A)) (left : X → Option ℕ)
    (r : Result X Error) → w ≡ new_tables ids target 0 moment → ids_fault ids ≡ None
    → IfOk r (λ x. AreWrittenBy w es (tables x) (left x))
    → IfOk r (λ x. AreWritten ids target moment es (tables x) (left x))
all_as_written ids target moment es w tables left (Ok x) new fine by =
    as_written ids target moment es w (tables x) (left x) new fine by
all_as_written ids target moment es w tables left (Err e) new fine by = tt

-- what writing a list as tables refuses where there is an id is what the new writer refuses
pub new_fault : (ids : Option ℕ) (target moment : ℕ) (es : List Entry) (w : TablesWriting)
    → w ≡ new_tables ids target 0 moment → ids_fault ids ≡ None
    → tables_fault ids target moment es ≡ writes_fault w es
new_fault ids target moment es w new fine =
    ap (λ (o : Option Error). option_or o (writes_fault (new_tables ids target 0 moment) es)) fine
    ∙ ap (λ (x : TablesWriting). writes_fault x es) (sym new)

-- ---- what fits

-- the numbers of a list that can be written are below 2^64
pub small_numbers : (es : List Entry) → AllByRecursion (λ (e : Entry). e.seqno < 2 ^ 64 - 1) es
    → highest_seqno es + 0 < 2 ^ 64
unfolding highest_seqno
small_numbers [] h = omega arith
small_numbers (e ∷ es) h = let rest = small_numbers es h.1 in omega (arith, h.0, rest)

-- a list that fits as tables is taken by a new writer
pub fits_by : (ids : Option ℕ) (target moment : ℕ) (es : List Entry) (w : TablesWriting)
    → w ≡ new_tables ids target 0 moment → FitsAsTables ids target es → FitsBy w es
fits_by ids target moment es w new fits =
    let m = new_tables (Some fits.first) target 0 moment in
    let is : w ≡ m = new ∙ ap (λ (o : Option ℕ). new_tables o target 0 moment) fits.first_is in
    let by : FitsBy m es = record {
      tables = fits.tables;
      cut = fits.cut;
      fit = fits.fit;
      left =
          fits.left;
    } in
    subst (λ (x : TablesWriting). FitsBy x es) (sym is) by

-- ---- behind a run that was written

-- the counter behind it is the one behind the tables of its list
behind_tables : (label : Label) (target : ℕ) (es : List Entry) (run : List OpenTable)
    (ids : Option ℕ) → AreCutOf label target es 0 run
    → ids ≡ ids_behind (Some 1) target (length run) → (tables : List (List Entry))
    → AreTables default_options.data_block_size target es tables
    → ids ≡ ids_behind (Some 1) target (length tables)
behind_tables label target es run ids cut is tables are =
    let many : length run ≡ length tables = sym (many_opened label cut.lists 0 run cut.opened)
    ∙ ap length (one_cut_law default_options.data_block_size target es cut.lists tables cut.cut
    are) in
    is ∙ ap (ids_behind (Some 1) target) many

-- what fits behind these fits behind it
pub fits_behind : (label : Label) (target : ℕ) (es xs : List Entry) (run : List OpenTable)
    (ids : Option ℕ) → AreCutOf label target es 0 run
    → ids ≡ ids_behind (Some 1) target (length run) → (first : FitsAsTables (Some 1) target es)
    → FitsAsTables (ids_behind (Some 1) target (length first.tables)) target xs
    → FitsAsTables ids target xs
fits_behind label target es xs run ids cut is first fits =
    subst (λ (o : Option ℕ). FitsAsTables o target xs)
    (sym (behind_tables label target es run ids cut is first.tables first.cut)) fits

-- ---- the first fault of writing a list and what is kept of it

first_result : (x y z : Option Error) (e : Error) → y ≡ None → option_or x y ≡ Some e
    → option_or x z ≡ Some e
first_result None y z e none returned = absurd (let wrong : None ≡ Some e = sym none ∙ returned in cc)
first_result (Some a) y z e none returned = returned

no_tables : (size target : ℕ) (tables : List (List Entry)) → AreTables size target [] tables
    → tables ≡ []
no_tables size target tables are = one_cut_law size target [] tables [] are
    (record { whole = refl; each = tt })

-- what is kept of no entries is written without a fault, as no entries are
none_again : (rules : Rules) (target : ℕ) → tables_fault (Some 1) target 0 [] ≡ None
    → tables_fault (ids_behind (Some 1) target 0) target 0 (kept rules (unfiltered [])) ≡ None
none_again rules target fine = fine

module _ (ids : Option ℕ) (target moment : ℕ) (es : List Entry) (from_1 : ids ≡ Some 1)
    (at_0 : moment ≡ 0) where
  first_is : chain_fault ids target moment es 0 ≡ chain_fault (Some 1) target 0 es 0
  first_is = ap (λ (o : Option ℕ). chain_fault o target moment es 0) from_1
      ∙ ap (λ (m : ℕ). chain_fault (Some 1) target m es 0) at_0

  -- the run is refused
  pub first_refused : (e : Error) (tables : List (List Entry)) (left : List Entry)
      → highest_seqno es + 0 < 2 ^ 64 → chain_fault ids target moment es 0 ≡ Some e
      → both_fault target es tables left ≡ Some e
  first_refused e tables left small returned =
      first_result (tables_fault (Some 1) target 0 es) (number_fault es 0)
      (tables_fault (ids_behind (Some 1) target (length tables)) target 0 left) e
      (small_number es 0 small) (sym first_is ∙ returned)

  first_taken : chain_fault ids target moment es 0 ≡ None → tables_fault (Some 1) target 0 es ≡ None
  first_taken fine = left_none (tables_fault (Some 1) target 0 es) (number_fault es 0)
      (sym first_is ∙ fine)

  -- it is written, and what is kept is written behind it
  pub then_refused : (label : Label) (run : List OpenTable) (behind : Option ℕ)
      → AreCutOf label target es 0 run → behind ≡ ids_behind ids target (length run)
      → chain_fault ids target moment es 0 ≡ None → (tables : List (List Entry))
      → AreTables default_options.data_block_size target es tables → (left : List Entry)
      → tables_fault behind target 0 left ≡ both_fault target es tables left
  then_refused label run behind cut is fine tables are left =
      let same = behind_tables label target es run behind cut
      (is ∙ ap (λ (o : Option ℕ). ids_behind o target (length run)) from_1) tables are in
      let next = tables_fault (ids_behind (Some 1) target (length tables)) target 0 left in
      ap (λ (o : Option ℕ). tables_fault o target 0 left) same
      ∙ sym (ap (λ (x : Option Error). option_or x next) (first_taken fine))

  -- there is none to write
  pub none_refused : (rules : Rules) (tables : List (List Entry)) → es ≡ []
      → chain_fault ids target moment es 0 ≡ None → AreTables default_options.data_block_size target
      es tables → both_fault target es tables (kept rules (unfiltered es)) ≡ None
  none_refused rules tables none fine are =
      let first = first_taken fine in
      let no = no_tables default_options.data_block_size target tables
      (subst (λ (xs : List Entry). AreTables default_options.data_block_size target xs tables)
      none are) in
      ap (λ (x : Option Error). option_or x (tables_fault
      (ids_behind (Some 1) target (length tables)) target 0 (kept rules (unfiltered es)))) first
      ∙ ap (λ (ls : List (List Entry)). tables_fault
      (ids_behind (Some 1) target (length ls)) target 0 (kept rules (unfiltered es))) no
      ∙ ap (λ (xs : List Entry). tables_fault (ids_behind (Some 1) target 0) target 0
      (kept rules (unfiltered xs))) none
      ∙ none_again rules target (sym (ap (λ (xs : List Entry). tables_fault (Some 1) target 0 xs)
      none) ∙ first)
