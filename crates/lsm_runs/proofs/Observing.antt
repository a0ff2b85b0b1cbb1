-- A stream whose entries are written while an observer is told of each table.
use Rattle.std.proofs.Common.{◌≡◌, refl, sym, ◌∙◌, ap, subst, ℕ, ◌+◌, ◌-◌, ◌^◌, Bool, true, false}
use Rattle.std.proofs.Common.{cond, ◌==◌, List, [], ◌∷◌, ◌++◌, length, ◌⊎◌, inl, inr, arith}
use Rattle.std.proofs.Common.{append_assoc, append-nil, length-append, reverse}
use Rattle.std.specs.Prelude.{Option, Some, None, Ok, Err, min, nat_lt}
use Rattle.std.specs.Option.{option_eq, option_or}
use Rattle.std.specs.Iterator.{Yields}
use Rattle.std.proofs.lemmas.Bool.{cases_Bool, eqb-false, eqb-true}
use Rattle.std.proofs.lemmas.List.{reverse-append, reverse-reverse}
use Rattle.sst_entries.specs.Entry.{Entry}
use Rattle.sst_entries.specs.Error.{is_memory}
use Rattle.sst_entries.specs.Stream.{but_first, but_last, ok_results}
use Rattle.sst_entries.specs.declared.error.Error.{Error}
use Rattle.sst_entries.specs.declared.error.Error.TheVariants.{WriterFailed}
use Rattle.sst_entries.proofs.StreamLemmas.{map_append}
use Rattle.sst_blocks.specs.table.Chunks.{joined}
use Rattle.sst_blocks.specs.declared.table.label.Label.{Label}
use Rattle.sst_blocks.specs.declared.table.options.Options.{Options}
use Rattle.lsm_sorted.specs.merge.Ends.{R}
use Rattle.lsm_writers.specs.Cut.{rest_chunk}
use Rattle.lsm_writers.specs.Streamed.{took_each}
use Rattle.lsm_writers.specs.Tables.{AreCuts, AreTables, IsFreshRun, TablesWriting}
use Rattle.lsm_writers.specs.Tables.{all_written, gained_all, next_writing}
use Rattle.lsm_writers.specs.Tables.{drawn, is_due, rotation_fault}
use Rattle.lsm_writers.specs.Tables.{standing, tables_of, took, took_fault, turn_fault}
use Rattle.lsm_writers.specs.Writing.{Writing, fresh_writing, gained, may_be_written}
use Rattle.lsm_writers.specs.Writing.{write_fault, written}
use Rattle.lsm_writers.proofs.Cutting.{joined_more, rest_is}
use Rattle.lsm_writers.proofs.AllTables.{joined_all}
use Rattle.lsm_writers.proofs.CutTables.{cuts_first, cuts_longer, cuts_next, gained_snoc}
use Rattle.lsm_writers.proofs.CutTables.{long_enough, no_end, some_length, still_short}
use Rattle.lsm_writers.proofs.ListWriting.{same_label, written_gained}
use Rattle.lsm_runs.specs.compaction.AnyRuns.{results_fault}
use Rattle.lsm_runs.specs.compaction.Filtered.{FailsAt, FailsToEnd, RefusesWritten}
use Rattle.lsm_runs.specs.compaction.Observed.{GoesOnAt, IsCounted, StoppedAt, StopsAtLast}
use Rattle.lsm_runs.specs.compaction.Observed.{NotifiesNext}
use Rattle.lsm_runs.specs.compaction.Observed.{NotifiedOfPart, progress_at, steps_after}
use Rattle.lsm_runs.specs.compaction.Observed.{steps_count, progress_steps}
use Rattle.lsm_runs.specs.declared.compaction.observer.CompactionProgress.{CompactionProgress}
use Rattle.lsm_runs.proofs.AnyTaken.{Taking, are_taken, taking_more, taking_none}
use Rattle.lsm_runs.proofs.Opening.{or_first}
use Rattle.lsm_runs.proofs.RunWriting.{first_is, left_none}
use Rattle.lsm_runs.proofs.WrittenBy.{Since, nothing_written, nothing_yet}
use Rattle.lsm_runs.proofs.WrittenBy.{present_is, since_more, since_now}

-- ---- what is told, table by table

reported_more : (before ts : List (List Entry)) (t : List Entry)
    → steps_after before (ts ++ t ∷ [])
    ≡ steps_after before ts ++ progress_at (before ++ (ts ++ t ∷ [])) ∷ []
reported_more before [] t = refl
reported_more before (u ∷ ts) t =
    let now = before ++ u ∷ [] in
    ap (λ (ms : List CompactionProgress). progress_at now ∷ ms) (reported_more now ts t
    ∙ ap (λ (ys : List (List Entry)). steps_after now ts ++ progress_at ys ∷ [])
    (append_assoc before (u ∷ []) (ts ++ t ∷ [])))

but_last_more : {X : Type 0} (xs : List X) (x : X) → but_last (xs ++ x ∷ []) ≡ xs
but_last_more {X} xs x =
    ap (λ (ys : List X). reverse (but_first ys)) (reverse-append xs (x ∷ []))
    ∙ reverse-reverse xs

-- the tables but the last are finished
pub all_but_present : (m : TablesWriting) → (written m.present ≡ [] → m.tables ≡ [])
    → but_last (tables_of m) ≡ m.tables
all_but_present m begun =
    elim (written m.present) as (λ es. written m.present ≡ es
    → but_last (m.tables ++ rest_chunk es) ≡ m.tables) [
      | [] ↦ λ e. ap (λ (ts : List (List Entry)). but_last (ts ++ rest_chunk [])) (begun e)
          ∙ sym (begun e)
      | e ∷ es ↦ λ is.
          ap (λ (c : List (List Entry)). but_last (m.tables ++ c)) (rest_is (e ∷ es)
          (some_length (e ∷ es) (λ none. absurd cc))) ∙ but_last_more m.tables (e ∷ es)
    ] refl

module _ {O : Type 0} (says : O → CompactionProgress → Bool → O → Type 0) where
  goes_on_more : (ms : List CompactionProgress) (o r q : O) (m : CompactionProgress)
      → GoesOnAt says o ms r → says r m true q → GoesOnAt says o (ms ++ m ∷ []) q
  goes_on_more [] o r q m went step =
      (q, subst (λ (x : O). says x m true q) (sym went) step, refl)
  goes_on_more (x ∷ ms) o r q m went step =
      (went.0, went.1, goes_on_more ms went.0 r q m went.2 step)

  -- an observer that goes on was told of the finished tables
  pub reported_on : (m n : TablesWriting) (o r q : O) → GoesOnAt says o (progress_steps m.tables) r
      → NotifiesNext says m n r true q → GoesOnAt says o (progress_steps n.tables) q
  reported_on m n o r q went returned = elim returned [
    | inl same ↦ subst (λ (ts : List (List Entry)). GoesOnAt says o (progress_steps ts) q) (sym same.0)
        (subst (λ (x : O). GoesOnAt says o (progress_steps m.tables) x) same.2 went)
    | inr more ↦
        let t = more.0 in
        let is : progress_steps n.tables ≡ progress_steps m.tables ++ progress_at n.tables ∷ [] =
        ap progress_steps more.1 ∙ reported_more [] m.tables t
        ∙ ap (λ (ts : List (List Entry)). progress_steps m.tables ++ progress_at ts ∷ [])
        (sym more.1) in
        subst (λ (ms : List CompactionProgress). GoesOnAt says o ms q) (sym is)
        (goes_on_more (progress_steps m.tables) o r q (progress_at n.tables) went more.2)
  ]

  pub reported_stop : (m n : TablesWriting) (o r q : O) → GoesOnAt says o (progress_steps m.tables) r
      → NotifiesNext says m n r false q → StopsAtLast says o (progress_steps n.tables) q
  reported_stop m n o r q went returned = elim returned [
    | inl same ↦ let no : false ≡ true = same.1 in absurd cc
    | inr more ↦
        let t = more.0 in
        record {
          before = progress_steps m.tables;
          last = progress_at n.tables;
          are = ap progress_steps more.1 ∙ reported_more [] m.tables t
              ∙ ap (λ (ts : List (List Entry)). progress_steps m.tables ++ progress_at ts ∷ [])
              (sym more.1);
          then = r;
          went_on = went;
          stopped = more.2;
        }
  ]

-- ---- an entry that is written, and counted

-- counting on from a count that stays at the largest number
pub counts_on : (n k : ℕ) → k ≡ n + 1 → min (steps_count n + 1) (2 ^ 64 - 1) ≡ steps_count k
counts_on n k is = omega (arith, is)

pub counts_none : (es : List Entry) → steps_count (length es) ≡ 0 → es ≡ []
counts_none [] h = refl
counts_none (e ∷ es) h = absurd (omega (arith, h))

module _ (m : TablesWriting) (e : Entry) (fine : took_fault m e ≡ None) where
  pub works_now : m.failed ≡ false
  works_now = works m.failed fine
    where
      works : (b : Bool) → cond b (Some WriterFailed)
          (option_or (turn_fault m.target m.ids m.present e) (write_fault (standing m e).present e))
          ≡ None → b ≡ false
      works true h = absurd cc
      works false h = refl

  tables_open : is_due m.target m.present e ≡ false → (took m e).tables ≡ m.tables
  tables_open due = rw due refl

  tables_due : is_due m.target m.present e ≡ true → (took m e).tables ≡ tables_of m
  tables_due due = rw due refl

  ids_open : is_due m.target m.present e ≡ false → (took m e).ids ≡ m.ids
  ids_open due = rw due refl

  ids_due : is_due m.target m.present e ≡ true → (took m e).ids ≡ m.ids → ⊥
  ids_due due same =
      let p = m.present in
      let turns : option_or (turn_fault m.target m.ids p e) (write_fault (standing m e).present e)
      ≡ None =
      sym (ap (λ (b : Bool). cond b (Some WriterFailed)
      (option_or (turn_fault m.target m.ids p e) (write_fault (standing m e).present e)))
      works_now) ∙ fine in
      let turn : rotation_fault m.ids p ≡ None = sym
      (ap (λ (b : Bool). cond b (rotation_fault m.ids p) None) due) ∙ left_none _ _ turns in
      let left = first_is m.ids (left_none _ _ turn) in
      let id = left.0 in
      let turned : (took m e).ids ≡ drawn m.ids = rw due refl in
      behind id (nat_lt id (2 ^ 64 - 1)) (sym (ap drawn left.1) ∙ sym turned ∙ same ∙ left.1)
    where
      behind : (id : ℕ) (b : Bool) → cond b (Some (id + 1)) None ≡ Some id → ⊥
      behind id true h = let is : id + 1 ≡ id = cc in absurd (omega (arith, is))
      behind id false h = absurd cc

  listed_now : all_written m ≡ joined m.tables ++ written m.present
  listed_now = ap (λ (b : Bool). cond b [] (joined m.tables ++ written m.present)) works_now

  module _ (begun : written m.present ≡ [] → m.tables ≡ []) where
    none_yet : all_written m ≡ [] → tables_of m ≡ m.tables
    none_yet none =
        let empty : written m.present ≡ [] =
        behind (joined m.tables) (written m.present) (sym listed_now ∙ none) in
        ap (λ (es : List Entry). m.tables ++ rest_chunk es) empty ∙ append-nil m.tables
      where
        behind : (xs ys : List Entry) → xs ++ ys ≡ [] → ys ≡ []
        behind [] ys h = h
        behind (x ∷ xs) ys h = absurd cc

    -- nothing was written before, or no id was drawn: no table was finished
    pub none_finished : (all_written m ≡ []) ⊎ ((took m e).ids ≡ m.ids)
        → (took m e).tables ≡ m.tables
    none_finished why = elim (cases_Bool (is_due m.target m.present e)) [
      | inr not ↦ tables_open not
      | inl due ↦ tables_due due ∙ (elim why [
        | inl none ↦ none_yet none
        | inr same ↦ absurd (ids_due due same)
      ])
    ]

    some_present : (all_written m ≡ [] → ⊥) → written m.present ≡ [] → ⊥
    some_present some none = some (listed_now
        ∙ ap (λ (ts : List (List Entry)). joined ts ++ written m.present) (begun none) ∙ none)

    -- else one was
    pub one_finished : (all_written m ≡ [] → ⊥) → ((took m e).ids ≡ m.ids → ⊥)
        → (took m e).tables ≡ m.tables ++ written m.present ∷ []
    one_finished some other = elim (cases_Bool (is_due m.target m.present e)) [
      | inr not ↦ absurd (other (ids_open not))
      | inl due ↦ tables_due due ∙ ap (λ (c : List (List Entry)). m.tables ++ c)
          (rest_is (written m.present) (some_length (written m.present) (some_present some)))
    ]

    -- which has what was written before
    pub finished_len : (took m e).tables ≡ m.tables ++ written m.present ∷ []
        → length (joined (took m e).tables) ≡ length (all_written m)
    finished_len is = ap length (ap joined is ∙ joined_more m.tables (written m.present)
        ∙ sym listed_now)

-- two counters of ids, compared
pub same_ids : (a b : Option ℕ) → option_eq (λ (x y : ℕ). x == y) a b ≡ true → a ≡ b
same_ids None None h = refl
same_ids None (Some y) h = absurd cc
same_ids (Some x) None h = absurd cc
same_ids (Some x) (Some y) h = ap (λ (n : ℕ). Some n) (eqb-true x y h)

pub other_ids : (a b : Option ℕ) → option_eq (λ (x y : ℕ). x == y) a b ≡ false → a ≡ b → ⊥
other_ids None None h same = absurd cc
other_ids None (Some y) h same = absurd cc
other_ids (Some x) None h same = absurd cc
other_ids (Some x) (Some y) h same = let is : x ≡ y = cc in eqb-false x y h is

abbrev counts : ℕ → ℕ → CompactionProgress
counts t n = record { tables = t; entries = n }

same_counts : (a b c d : ℕ) → a ≡ c → b ≡ d → counts a b ≡ counts c d
same_counts a b c d p q = ap (λ (x : ℕ). counts x b) p ∙ ap (λ (y : ℕ). counts c y) q

module _ (m n : TablesWriting) (e : Entry) (progress : CompactionProgress)
    (counted : IsCounted progress m) where
  tables_now : progress.tables ≡ steps_count (length m.tables)
  tables_now = ap (λ (p : CompactionProgress). p.tables) counted

  entries_now : progress.entries ≡ steps_count (length (all_written m))
  entries_now = ap (λ (p : CompactionProgress). p.entries) counted

  pub none_counted : progress.entries ≡ 0 → all_written m ≡ []
  none_counted is = counts_none (all_written m) (sym entries_now ∙ is)

  pub some_counted : (progress.entries ≡ 0 → ⊥) → all_written m ≡ [] → ⊥
  some_counted some none = some (entries_now
      ∙ ap (λ (es : List Entry). steps_count (length es)) none)

  module _ (listed : all_written n ≡ all_written m ++ e ∷ []) (k : ℕ)
      (is : k ≡ min (progress.entries + 1) (2 ^ 64 - 1)) where
    entries_on : k ≡ steps_count (length (all_written n))
    entries_on = is ∙ ap (λ (x : ℕ). min (x + 1) (2 ^ 64 - 1)) entries_now
        ∙ counts_on (length (all_written m)) (length (all_written n))
        (ap length listed ∙ length-append (all_written m) (e ∷ []))

    -- no table was finished
    pub counted_same : n.tables ≡ m.tables
        → IsCounted (record { tables = progress.tables; entries = k }) n
    counted_same same = same_counts progress.tables k (steps_count (length n.tables))
        (steps_count (length (all_written n)))
        (tables_now ∙ ap (λ (ts : List (List Entry)). steps_count (length ts)) (sym same)) entries_on

    -- one was
    pub counted_one_more : (t : List Entry) (j : ℕ) → n.tables ≡ m.tables ++ t ∷ []
        → j ≡ min (progress.tables + 1) (2 ^ 64 - 1)
        → IsCounted (record { tables = j; entries = k }) n
    counted_one_more t j more on = same_counts j k (steps_count (length n.tables))
        (steps_count (length (all_written n)))
        (on ∙ ap (λ (x : ℕ). min (x + 1) (2 ^ 64 - 1)) tables_now
        ∙ counts_on (length m.tables) (length n.tables)
        (ap length more ∙ length-append m.tables (t ∷ []))) entries_on

  -- which the observer is told
  pub reported_more_tables : {O : Type 0} (says : O → CompactionProgress → Bool → O → Type 0) (o q : O)
      (goes : Bool) (t : List Entry) (j : ℕ) → n.tables ≡ m.tables ++ t ∷ []
      → length (joined n.tables) ≡ length (all_written m)
      → j ≡ min (progress.tables + 1) (2 ^ 64 - 1)
      → says o (record { tables = j; entries = progress.entries }) goes q
      → NotifiesNext says m n o goes q
  reported_more_tables {O} says o q goes t j more len on returned =
      let same : counts j progress.entries ≡ progress_at n.tables =
      same_counts j progress.entries (steps_count (length n.tables))
      (steps_count (length (joined n.tables)))
      (on ∙ ap (λ (x : ℕ). min (x + 1) (2 ^ 64 - 1)) tables_now
      ∙ counts_on (length m.tables) (length n.tables)
      (ap length more ∙ length-append m.tables (t ∷ [])))
      (entries_now ∙ ap steps_count (sym len)) in
      inr (t, more, subst (λ (p : CompactionProgress). says o p goes q) same returned)

-- ---- the tables, as they are cut

-- the present table is the shortest that it may be, and those before it are cut
pub record CutSoFar (m : TablesWriting) : Type 0 where
  pub present : m.present
      ≡ gained_all (fresh_writing m.present.label m.present.options) (written m.present)
  pub begun : written m.present ≡ [] → m.tables ≡ []
  pub cuts : AreCuts m.present.options.data_block_size m.target
      (m.tables ++ rest_chunk (written m.present))

pub cut_first : (w : TablesWriting) → IsFreshRun w → CutSoFar w
cut_first w fresh =
    let none = nothing_written w fresh in
    record {
      present = present_is w fresh
          ∙ ap (gained_all (fresh_writing w.present.label w.present.options)) (sym none);
      begun = λ e. fresh.0;
      cuts = rw (fresh.0, none) tt;
    }

gained_on : (p : Writing) (e : Entry)
    → p ≡ gained_all (fresh_writing p.label p.options) (written p)
    → gained p e ≡ gained_all (fresh_writing (gained p e).label (gained p e).options)
    (written (gained p e))
gained_on p e is =
    let v = gained p e in
    let same = same_label p e in
    let start : fresh_writing p.label p.options ≡ fresh_writing v.label v.options =
    ap (λ (x : Label). fresh_writing x p.options) (sym same.0)
    ∙ ap (λ (x : Options). fresh_writing v.label x) (sym same.1) in
    ap (λ (x : Writing). gained x e) is
    ∙ sym (gained_snoc (fresh_writing p.label p.options) (written p) e)
    ∙ ap (λ (x : Writing). gained_all x (written p ++ e ∷ [])) start
    ∙ ap (gained_all (fresh_writing v.label v.options)) (sym (written_gained p e))

module _ (m : TablesWriting) (e : Entry) (h : CutSoFar m) where
  cuts_open : is_due m.target m.present e ≡ false
      → CutSoFar (record m { present = gained m.present e })
  cuts_open due =
      let p = m.present in
      let all = written_gained p e in
      let same = same_label p e in
      let cuts = cuts_longer p.options.data_block_size m.target m.tables (written p) e h.begun
      h.cuts (still_short m.target p e h.present due) in
      record {
        present = gained_on p e h.present;
        begun = λ none. absurd (no_end (written p) e (sym all ∙ none));
        cuts = subst (λ (o : Options). AreCuts o.data_block_size m.target
            (m.tables ++ rest_chunk (written (gained p e)))) (sym same.1)
            (subst (λ (x : List Entry). AreCuts p.options.data_block_size m.target
            (m.tables ++ rest_chunk x)) (sym all) cuts);
      }

  -- the first entry of the next table
  abbrev next_one : Writing
  next_one = gained (next_writing m.ids m.present) e

  next_cuts : (ts : List (List Entry))
      → AreCuts m.present.options.data_block_size m.target (ts ++ rest_chunk (e ∷ []))
      → CutSoFar (record m { ids = drawn m.ids; tables = ts; present = next_one })
  next_cuts ts cuts =
      let q = next_writing m.ids m.present in
      let all : written next_one ≡ e ∷ [] = written_gained q e in
      let same = same_label q e in
      record {
        present = gained_on q e refl;
        begun = λ none. absurd (no_end [] e (sym all ∙ none));
        cuts = subst (λ (o : Options). AreCuts o.data_block_size m.target
            (ts ++ rest_chunk (written next_one))) (sym same.1)
            (subst (λ (x : List Entry). AreCuts m.present.options.data_block_size m.target
            (ts ++ rest_chunk x)) (sym all) cuts);
      }

  due_cuts : is_due m.target m.present e ≡ true
      → AreCuts m.present.options.data_block_size m.target (tables_of m ++ rest_chunk (e ∷ []))
  due_cuts due =
      let p = m.present in
      let size = p.options.data_block_size in
      elim (written p) as (λ es. written p ≡ es
      → AreCuts size m.target ((m.tables ++ rest_chunk es) ++ rest_chunk (e ∷ []))) [
        | [] ↦ λ none. rw (h.begun none) (cuts_first size m.target e)
        | x ∷ xs ↦ λ is.
            let some : written p ≡ [] → ⊥ = λ none. no_first x xs (sym is ∙ none) in
            let long = long_enough m.target p e h.present due some in
            let next : AreCuts size m.target ((m.tables ++ written p ∷ []) ++ rest_chunk (e ∷ [])) =
            cuts_next size m.target m.tables (written p) e some h.cuts long.0 long.1 in
            let chunk : rest_chunk (x ∷ xs) ≡ written p ∷ [] =
            rest_is (x ∷ xs) (some_length (x ∷ xs) (no_first x xs))
            ∙ ap (λ (es : List Entry). es ∷ []) (sym is) in
            subst (λ (c : List (List Entry)). AreCuts size m.target
            ((m.tables ++ c) ++ rest_chunk (e ∷ []))) (sym chunk) next
      ] refl
    where
      no_first : (x : Entry) (xs : List Entry) → x ∷ xs ≡ [] → ⊥
      no_first x xs is = absurd cc

  pub cut_so_more : CutSoFar (took m e)
  cut_so_more = elim (cases_Bool (is_due m.target m.present e)) [
    | inl due ↦ subst CutSoFar (sym (turned due)) (next_cuts (tables_of m) (due_cuts due))
    | inr not ↦ subst CutSoFar (sym (stays not)) (cuts_open not)
  ]
    where
      turned : is_due m.target m.present e ≡ true → took m e
          ≡ record m { ids = drawn m.ids; tables = tables_of m; present = next_one }
      turned due = rw due refl

      stays : is_due m.target m.present e ≡ false → took m e
          ≡ record m { present = gained m.present e }
      stays due = rw due refl

-- where a table was finished for an entry, this begins the next one
module _ (m : TablesWriting) (e : Entry) where
  begins_next : (t : List Entry) → (took m e).tables ≡ m.tables ++ t ∷ []
      → written (took m e).present ≡ e ∷ []
  begins_next t more = elim (cases_Bool (is_due m.target m.present e)) [
    | inl due ↦ rw due (written_gained (next_writing m.ids m.present) e)
    | inr not ↦ absurd (no_longer t (sym (stays not) ∙ more))
  ]
    where
      stays : is_due m.target m.present e ≡ false → (took m e).tables ≡ m.tables
      stays due = rw due refl

      no_longer : (x : List Entry) → m.tables ≡ m.tables ++ x ∷ [] → ⊥
      no_longer x same = omega (
        arith,
        ap (λ (ts : List (List Entry)). length ts) same,
        length-append m.tables (x ∷ []),
      )

  pub begins_alone : (t : List Entry) → (took m e).tables ≡ m.tables ++ t ∷ []
      → tables_of (took m e) ≡ (took m e).tables ++ (e ∷ []) ∷ []
  begins_alone t more =
      ap (λ (es : List Entry). (took m e).tables ++ rest_chunk es) (begins_next t more)

-- so what was written is cut into tables
pub are_cut : (m : TablesWriting) → m.failed ≡ false → CutSoFar m
    → AreTables m.present.options.data_block_size m.target (all_written m) (tables_of m)
are_cut m works h = record {
  whole = joined_all m.tables (written m.present)
      ∙ sym (ap (λ (b : Bool). cond b [] (joined m.tables ++ written m.present)) works);
  each = h.cuts;
}

-- ---- a stream that is written

-- one call more
pub yields_more : {S : Type 0} (next : S → Option R → S → Type 0) (xs : List R) (a b c : S) (x : R)
    → Yields next a xs b → next b (Some x) c → Yields next a (xs ++ x ∷ []) c
yields_more next [] a b c x gave step = (c, subst (λ v. next v (Some x) c) (sym gave) step, refl)
yields_more next (y ∷ xs) a b c x gave step =
    (gave.0, gave.1, yields_more next xs gave.0 b c x gave.2 step)

module _ {S O : Type 0} (next : S → Option R → S → Type 0)
    (says : O → CompactionProgress → Bool → O → Type 0) (w : TablesWriting) (s : S) (o : O) where
  -- these entries are written, and the observer goes on
  pub record Observing (m : TablesWriting) (t : S) (progress : CompactionProgress) (q : O)
      : Type 0 where
    pub since : Since w m
    pub taking : Taking w m
    pub cut : CutSoFar m
    pub counted : IsCounted progress m
    pub returned : GoesOnAt says o (progress_steps m.tables) q
    pub gave : Yields next s (ok_results (all_written m)) t

  module _ (m : TablesWriting) (t u : S) (progress : CompactionProgress) (q : O)
      (h : Observing m t progress q) (e : Entry) where
    pub gave_more : (n : TablesWriting) → all_written n ≡ all_written m ++ e ∷ []
        → next t (Some (Ok e)) u → Yields next s (ok_results (all_written n)) u
    gave_more n listed step =
        subst (λ (xs : List R). Yields next s xs u) (sym (ap ok_results listed
        ∙ map_append (all_written m) (e ∷ [])))
        (yields_more next (ok_results (all_written m)) s t u (Ok e) h.gave step)

    -- the writer fails for it
    pub failed_entry : m ≡ took_each w (all_written m)
        → may_be_written (all_written m) e.user_key e.seqno ≡ true → next t (Some (Ok e)) u
        → (f : Error) → took_fault m e ≡ Some f → FailsAt next w s (all_written m) t f
    failed_entry all may step f is = record {
      last = Ok e;
      comes = may;
      fine = refl;
      then = u;
      one = step;
      fault = ap (λ (x : TablesWriting). results_fault x (Ok e ∷ [])) (sym all)
          ∙ or_first (took_fault m e) (results_fault (took m e) []) f is;
    }

  module _ (m : TablesWriting) (t u : S) (progress : CompactionProgress) (q : O)
      (h : Observing m t progress q) where
    -- the stream refuses
    pub failed_result : (f : Error) → is_memory f ≡ false → next t (Some (Err f)) u
        → FailsAt next w s (all_written m) t f
    failed_result f fine step = record {
      last = Err f;
      comes = tt;
      fine = fine;
      then = u;
      one = step;
      fault = refl;
    }

    module _ (fresh : IsFreshRun w) where
      cut_by : (n : TablesWriting) → Since w n → CutSoFar n
          → AreTables w.present.options.data_block_size w.target (all_written n) (tables_of n)
      cut_by n since cut =
          subst (λ (x : Options). AreTables x.data_block_size w.target (all_written n)
          (tables_of n)) since.options_are
          (subst (λ (k : ℕ). AreTables n.present.options.data_block_size k (all_written n)
          (tables_of n)) since.target_is (are_cut n since.works cut))

      -- the observer was told of all tables but the last
      pub reported_of_part : NotifiedOfPart says w (all_written m) o q
      reported_of_part = record {
        tables = tables_of m;
        cut = cut_by m h.since h.cut;
        returned = subst (λ (ts : List (List Entry)). GoesOnAt says o (progress_steps ts) q)
            (sym (all_but_present m h.cut.begun)) h.returned;
      }

      -- the observer stops it
      pub reported_stopped : (e : Entry) (n : TablesWriting) (r : O) → n ≡ took m e → Since w n
          → CutSoFar n → NotifiesNext says m n q false r → StoppedAt says w (all_written n) o r
      reported_stopped e n r is since cut returned = record {
        tables = n.tables;
        next = e;
        cut = subst (λ (ts : List (List Entry)). AreTables w.present.options.data_block_size
            w.target (all_written n) ts) (stopped_alone e n r is returned) (cut_by n since cut);
        returned = reported_stop says m n o q r h.returned returned;
      }
        where
          stopped_alone : (x : Entry) (k : TablesWriting) (p : O) → k ≡ took m x
              → NotifiesNext says m k q false p → tables_of k ≡ k.tables ++ (x ∷ []) ∷ []
          stopped_alone x k p same (inl none) = let no : false ≡ true = none.1 in absurd cc
          stopped_alone x k p same (inr more) =
              subst (λ (v : TablesWriting). tables_of v ≡ v.tables ++ (x ∷ []) ∷ []) (sym same)
              (begins_alone m x more.0
              (sym (ap (λ (v : TablesWriting). v.tables) same) ∙ more.1))

      -- it was refused
      pub refused_so : (e : Error) → (is_memory e ≡ false
          → FailsAt next w s (all_written m) t e ⊎ FailsToEnd next w s (all_written m) t e)
          → RefusesWritten next w s says o e q
      refused_so e fails = record {
        list = all_written m;
        taken = are_taken w m h.taking;
        led = t;
        gave = h.gave;
        fails = fails;
        returned = reported_of_part;
      }

-- before anything is written
pub observing_none : {S O : Type 0} (next : S → Option R → S → Type 0)
    (says : O → CompactionProgress → Bool → O → Type 0) (w : TablesWriting) (s : S) (o : O)
    → IsFreshRun w → Observing next says w s o w s (record { tables = 0; entries = 0 }) o
observing_none next says w s o fresh =
    let none = nothing_yet w fresh in
    record {
      since = since_now w fresh;
      taking = taking_none w none;
      cut = cut_first w fresh;
      counted = same_counts 0 0 (steps_count (length w.tables)) (steps_count (length (all_written w)))
          (sym (ap (λ (ts : List (List Entry)). steps_count (length ts)) fresh.0))
          (sym (ap (λ (es : List Entry). steps_count (length es)) none));
      returned = subst (λ (ts : List (List Entry)). GoesOnAt says o (progress_steps ts) o) (sym fresh.0) refl;
      gave = subst (λ (es : List Entry). Yields next s (ok_results es) s) (sym none) refl;
    }

-- an entry more, and the observer goes on
pub observing_more : {S O : Type 0} (next : S → Option R → S → Type 0)
    (says : O → CompactionProgress → Bool → O → Type 0) (w : TablesWriting) (s : S) (o : O)
    (m n : TablesWriting) (t u : S) (progress more : CompactionProgress) (q r : O) (e : Entry)
    → IsFreshRun w → Observing next says w s o m t progress q → next t (Some (Ok e)) u
    → n ≡ took m e → took_fault m e ≡ None → all_written n ≡ all_written m ++ e ∷ []
    → may_be_written (all_written m) e.user_key e.seqno ≡ true → IsCounted more n
    → NotifiesNext says m n q true r → Observing next says w s o n u more r
observing_more next says w s o m n t u progress more q r e fresh h step is fine listed may counted
    returned = record {
      since = subst (Since w) (sym is) (since_more w m fresh e h.since fine);
      taking = taking_more w m n e h.taking is fine listed may;
      cut = subst CutSoFar (sym is) (cut_so_more m e h.cut);
      counted = counted;
      returned = reported_on says m n o q r h.returned returned;
      gave = gave_more next says w s o m t u progress q h e n listed step;
    }

-- before anything is written an observer is told nothing
pub reported_nothing : {O : Type 0} (says : O → CompactionProgress → Bool → O → Type 0)
    (w : TablesWriting) (o : O) → NotifiedOfPart says w [] o o
reported_nothing says w o = record {
  tables = [];
  cut = record { whole = refl; each = tt };
  returned = refl;
}
