-- Writers that took entries one after another.
use Rattle.std.proofs.Common.{◌≡◌, refl, sym, ◌∙◌, ap, subst, List, [], ◌∷◌, ◌++◌, append_assoc}
use Rattle.std.proofs.Common.{append-nil, ℕ, ◌+◌, Bool, true, false, length, length-append, ◌<◌}
use Rattle.std.proofs.Common.{get_or, take}
use Rattle.std.specs.Prelude.{Option, Some, None, Result, Ok, Err, IfErr, IfOk, map}
use Rattle.std.specs.Io.KnownBytes.{IsAtEnd}
use Rattle.std.proofs.lemmas.List.{length-map, map-append, take_more}
use Rattle.std.proofs.lemmas.List.Sorted.{length_permutation}
use Rattle.sst_entries.specs.Entry.{Entry}
use Rattle.sst_entries.specs.Strict.{is_before}
use Rattle.lsm_writers.specs.declared.writer.FinishedTable.{FinishedTable}
use Rattle.lsm_writers.specs.Tables.{IsFreshRun, TablesWriting, all_written, took, took_fault}
use Rattle.lsm_writers.specs.Writing.{may_be_written}
use Rattle.lsm_runs.specs.compaction.Compacted.{RunsOn}
use Rattle.lsm_runs.proofs.WrittenBy.{Since, all_finished, nothing_yet, since_more}
use Rattle.lsm_runs.proofs.WrittenBy.{since_now}
use Rattle.sst_tool.specs.declared.lines.entry_line.Format.{Format}
use Rattle.sst_tool.proofs.LineLemmas.{Goes, goes_empty, goes_end, goes_more, goes_none, stops}
use Rattle.sst_tool.specs.declared.files.error.ToolError.{ToolError}
use Rattle.sst_tool.specs.declared.files.error.LineFault.{LineFault}
use Rattle.sst_tool.specs.declared.files.error.ToolError.TheVariants.{Input, Line, Refused}
use Rattle.sst_tool.specs.make.Faults.{StopsAmong, StopsIn, StopsInOrder, StopsReading, TellsEntry}
use Rattle.sst_tool.specs.make.Faults.{TellsLine}
use Rattle.sst_tool.proofs.Steps.{list_at}
use Rattle.std.specs.Result.{IsErrAnd}
use Rattle.std.proofs.Common.{inl, inr, drop}
use Rattle.sst_tool.specs.make.Entries.{HasEntries, HasRows, LosesInputLine, LineSpells, numbered}
use Rattle.sst_tool.specs.make.Entries.{row_entries}
use Rattle.sst_tool.specs.declared.make.entries.Numbered.{Numbered}
use Rattle.sst_tool.specs.declared.make.options.WriteOptions.{WriteOptions}
use Rattle.sst_tool.specs.make.Written.{AreOfLines, AreTablesOf, TookLine, TookLines}
use Rattle.sst_tool.specs.make.Sorting.{IsSortOf, is_row_before}
use Rattle.sst_tool.specs.make.Taken.{TookAll}
use Rattle.sst_tool.specs.make.Written.{TookSorted}
use Rattle.sst_tool.specs.make.Written.{WritesAll, WritesSorted, writer_by}

-- one more entry behind those that were taken
pub took_more : (w m n : TablesWriting) (es : List Entry) (e : Entry) → TookAll w es m
    → took_fault m e ≡ None → all_written n ≡ all_written m ++ e ∷ []
    → may_be_written (all_written m) e.user_key e.seqno ≡ true → n ≡ took m e
    → TookAll w (es ++ e ∷ []) n
took_more w m n [] e same fine listed next is = (
  subst (λ (x : TablesWriting). took_fault x e ≡ None) same fine,
  subst (λ (x : TablesWriting). all_written (took x e) ≡ all_written x ++ e ∷ []) same
      (ap all_written (sym is) ∙ listed),
  subst (λ (x : TablesWriting). may_be_written (all_written x) e.user_key e.seqno ≡ true) same next,
  is ∙ ap (λ (x : TablesWriting). took x e) same,
)
took_more w m n (x ∷ es) e h fine listed next is =
    (h.0, h.1, h.2, took_more (took w x) m n es e h.3 fine listed next is)

-- ---- lines that a writer takes as they are read

-- the lines read so far spell so many entries, which a writer took
pub record Took (format : Format) (input left : Option (List ℕ)) (w m : TablesWriting)
    (count passed : ℕ) : Type 0 where
  pub entries : List Entry
  pub goes : Goes format input left entries passed
  pub counted : count ≡ length entries
  pub taken : TookAll w entries m

pub lines_none : (format : Format) (input : Option (List ℕ)) (w : TablesWriting)
    → Took format input input w w 0 0
lines_none format input w = record {
  entries = [];
  goes = goes_none format input;
  counted = refl;
  taken = refl;
}

pub lines_empty : (format : Format) (input left new : Option (List ℕ)) (line : List ℕ)
    (w m : TablesWriting) (count passed : ℕ) → Took format input left w m count passed
    → LosesInputLine left new line → line ≡ [] → Took format input new w m count (passed + 1)
lines_empty format input left new line w m count passed h loses empty = record {
  entries = h.entries;
  goes = goes_empty format input left new line h.entries passed h.goes loses empty;
  counted = h.counted;
  taken = h.taken;
}

pub lines_more : (format : Format) (input left new : Option (List ℕ)) (line : List ℕ)
    (w m n : TablesWriting) (count passed : ℕ) → Took format input left w m count passed
    → LosesInputLine left new line → (line ≡ [] → ⊥) → TookLine format line m n
    → Took format input new w n (count + 1) (passed + 1)
lines_more format input left new line w m n count passed h loses some t = record {
  entries = h.entries ++ t.entry ∷ [];
  goes = goes_more format input left new line h.entries passed t.entry h.goes loses some t.spelled;
  counted = ap (λ (k : ℕ). k + 1) h.counted ∙ sym (length-append h.entries (t.entry ∷ []));
  taken = took_more w m n h.entries t.entry h.taken t.taken.0
      (ap all_written t.taken.3 ∙ t.taken.1) t.taken.2 t.taken.3;
}

-- a line whose entry a writer took
pub line_taken : (format : Format) (line : List ℕ) (w m : TablesWriting) (e : Entry)
    → LineSpells format line e → took_fault w e ≡ None → all_written m ≡ all_written w ++ e ∷ []
    → may_be_written (all_written w) e.user_key e.seqno ≡ true → m ≡ took w e
    → TookLine format line w m
line_taken format line w m e reads fine listed next is = record {
  entry = e;
  spelled = reads;
  taken = (fine, ap all_written (sym is) ∙ listed, next, is);
}

pub lines_end : (format : Format) (input left : Option (List ℕ)) (w m : TablesWriting)
    (count passed : ℕ) → Took format input left w m count passed → IsAtEnd left
    → (es : List Entry) × HasEntries format input es × (count ≡ length es) × TookAll w es m
lines_end format input left w m count passed h end =
    (h.entries, goes_end format input left h.entries passed h.goes end, h.counted, h.taken)

-- what was written before, and then these
pub took_list : (w m : TablesWriting) (es : List Entry) → TookAll w es m
    → all_written m ≡ all_written w ++ es
took_list w m [] h = ap all_written h ∙ sym (append-nil (all_written w))
took_list w m (e ∷ es) h =
    took_list (took w e) m es h.3
    ∙ ap (λ (xs : List Entry). xs ++ es) h.1
    ∙ append_assoc (all_written w) (e ∷ []) es

-- a line is refused
pub lines_stop : (format : Format) (input left new : Option (List ℕ)) (line : List ℕ)
    (w m : TablesWriting) (count passed : ℕ) (error : ToolError)
    → Took format input left w m count passed → LosesInputLine left new line
    → TellsLine (passed + 1) format m line error → StopsIn format input w error
lines_stop format input left new line w m count passed error h loses returned =
    stops format input left new line w m h.entries passed error h.goes h.taken loses returned

-- ---- rows that a writer takes

-- one more row
pub rows_more : {A : Type 0} (w m n : TablesWriting) (rows : List (Numbered A)) (i : ℕ)
    (row : Numbered A) → i < length rows → row ≡ get_or rows i row
    → TookAll w (row_entries (take i rows)) m → took_fault m row.entry ≡ None
    → all_written n ≡ all_written m ++ row.entry ∷ []
    → may_be_written (all_written m) row.entry.user_key row.entry.seqno ≡ true
    → n ≡ took m row.entry → TookAll w (row_entries (take (i + 1) rows)) n
rows_more {A} w m n rows i row less here h fine listed next is =
    let more : take (i + 1) rows ≡ take i rows ++ row ∷ [] =
    take_more rows i row less
    ∙ ap (λ (r : Numbered A). take i rows ++ r ∷ []) (sym here) in
    subst (λ (es : List Entry). TookAll w es n)
    (sym (ap (λ (rs : List (Numbered A)). row_entries rs) more
    ∙ map-append (λ (r : Numbered A). r.entry) (take i rows) (row ∷ [])))
    (took_more w m n (row_entries (take i rows)) row.entry h fine listed next is)

-- the entries of rows, with their numbers or without
pub entries_of : {A : Type 0} (rows : List (Numbered A))
    → map (λ (r : ℕ × Entry). r.1) (numbered rows) ≡ row_entries rows
entries_of [] = refl
entries_of {A} (row ∷ rows) = ap (λ (es : List Entry). row.entry ∷ es) (entries_of rows)

-- a row is refused
pub stops_among : {A R : Type 0} (returned : Result R ToolError) (rows : List (Numbered A)) (i : ℕ)
    (row : Numbered A) (w m : TablesWriting) (error : ToolError) → i < length rows
    → row ≡ get_or rows i row → TookAll w (row_entries (take i rows)) m
    → TellsEntry row.line true m row.entry error → IsErrAnd returned (λ e. e ≡ error)
    → IfErr returned (StopsAmong (numbered rows) w)
stops_among (Ok r) rows i row w m error less here so_far wrong is = tt
stops_among {A} (Err e) rows i row w m error less here so_far wrong is =
    subst (StopsAmong (numbered rows) w) (sym is) record {
      before = numbered (take i rows);
      row = (row.line, row.entry);
      behind = numbered (drop (i + 1) rows);
      are = ap (λ (rs : List (Numbered A)). numbered rs) (list_at rows i row less here)
          ∙ map-append (λ (r : Numbered A). (r.line, r.entry)) (take i rows)
          (row ∷ drop (i + 1) rows);
      writer = m;
      taken = subst (λ (es : List Entry). TookAll w es m) (sym (entries_of (take i rows))) so_far;
      returned = wrong;
    }

-- ---- lines that are put in order are refused

among_line : (format : Format) (input : Option (List ℕ)) (rows sorted : List (ℕ × Entry))
    (w : TablesWriting) (n : ℕ) (wrong : LineFault) → HasRows format input rows
    → IsSortOf is_row_before rows sorted → StopsAmong sorted w (Line n wrong)
    → StopsInOrder format input w (Line n wrong)
among_line format None rows sorted w n wrong h put stops = tt
among_line format (Some bytes) rows sorted w n wrong h put stops = inr record {
  rows = rows;
  spelled = h;
  sorted = sorted;
  put = put;
  stops = stops;
}

among_sorted : (format : Format) (input : Option (List ℕ)) (rows sorted : List (ℕ × Entry))
    (w : TablesWriting) (error : ToolError) → HasRows format input rows
    → IsSortOf is_row_before rows sorted → StopsAmong sorted w error
    → StopsInOrder format input w error
among_sorted format input rows sorted w (Line n wrong) h put stops =
    among_line format input rows sorted w n wrong h put stops
among_sorted format input rows sorted w (Input error) h put stops = tt
among_sorted format input rows sorted w (Refused error) h put stops = stops.returned
among_sorted format input rows sorted w error h put stops = absurd stops.returned

pub told_among : {R : Type 0} (returned : Result R ToolError) (format : Format)
    (input : Option (List ℕ)) (rows sorted : List (ℕ × Entry)) (w : TablesWriting)
    → HasRows format input rows → IsSortOf is_row_before rows sorted
    → IfErr returned (StopsAmong sorted w) → IfErr returned (StopsInOrder format input w)
told_among (Ok r) format input rows sorted w h put stops = tt
told_among (Err e) format input rows sorted w h put stops =
    among_sorted format input rows sorted w e h put stops

reading_line : (format : Format) (input : Option (List ℕ)) (w : TablesWriting) (n : ℕ)
    (wrong : LineFault) → StopsReading format input (Line n wrong)
    → StopsInOrder format input w (Line n wrong)
reading_line format None w n wrong h = tt
reading_line format (Some bytes) w n wrong h = inl h

-- one of them spells no entry
pub reading_first : (format : Format) (input : Option (List ℕ)) (w : TablesWriting)
    (error : ToolError) → StopsReading format input error → StopsInOrder format input w error
reading_first format input w (Line n wrong) h = reading_line format input w n wrong h
reading_first format input w error h = h

-- rows that were put in order, and then taken
pub sorted_taken : {A E : Type 0} (format : Format) (input : Option (List ℕ))
    (rows sorted : List (Numbered A)) (w m : TablesWriting) (returned : Result ℕ E)
    → HasEntries format input (row_entries rows)
    → IsSortOf is_before (row_entries rows) (row_entries sorted)
    → IfOk returned (λ n. (n ≡ length sorted) × TookAll w (row_entries sorted) m)
    → IfOk returned (λ n. (es : List Entry) × HasEntries format input es × (n ≡ length es)
    × ((order : List Entry) × IsSortOf is_before es order × TookAll w order m))
sorted_taken {A} format input rows sorted w m (Ok n) reads put all = (
  row_entries rows,
  reads,
  all.0 ∙ sym (length-map sorted (λ (r : Numbered A). r.entry))
      ∙ length_permutation (row_entries rows) (row_entries sorted) put.permuted,
  (row_entries sorted, put, all.1),
)
sorted_taken format input rows sorted w m (Err e) reads put all = tt

-- ---- the tables of a writer

took_since : (w m n : TablesWriting) (es : List Entry) → IsFreshRun w → Since w m
    → TookAll m es n → Since w n
took_since w m n [] fresh h same = subst (Since w) (sym same) h
took_since w m n (e ∷ es) fresh h taken =
    took_since w (took m e) n es fresh (since_more w m fresh e h taken.0) taken.3

-- the tables of a writer that took entries are those of these entries
taken_all : {A : Type 0} (w m : TablesWriting) (es : List Entry) (fs : List (FinishedTable A))
    → IsFreshRun w → RunsOn w → TookAll w es m → AreTablesOf m fs → WritesAll w es fs
taken_all w m es fs fresh next taken are =
    let all : all_written m ≡ es =
    took_list w m es taken ∙ ap (λ (xs : List Entry). xs ++ es) (nothing_yet w fresh) in (
      m.ids,
      all_finished w m fresh next (took_since w w m es fresh (since_now w fresh) taken)
          es fs m.ids all refl are.strict are.cut are.order are.finished,
    )

taken_sorted : {A : Type 0} (sort : Bool) (w m : TablesWriting) (es : List Entry)
    (fs : List (FinishedTable A)) → IsFreshRun w → RunsOn w → TookSorted sort w es m
    → AreTablesOf m fs → WritesSorted sort w es fs
taken_sorted false w m es fs fresh next taken are = taken_all w m es fs fresh next taken are
taken_sorted true w m es fs fresh next taken are =
    (taken.0, taken.1, taken_all w m taken.0 fs fresh next taken.2 are)

-- the tables of lines
of_lines : {A : Type 0} (o : WriteOptions) (input : Option (List ℕ)) (w m : TablesWriting)
    (fs : List (FinishedTable A)) (count n : ℕ) → w ≡ writer_by o.tables → TookLines o input w m n
    → n ≡ count → AreTablesOf m fs → AreOfLines o input fs count
of_lines o input w m fs count n is taken same are =
    let by : TookSorted o.sort (writer_by o.tables) taken.entries m =
    subst (λ (x : TablesWriting). TookSorted o.sort x taken.entries m) is taken.taken in
    record {
      entries = taken.entries;
      spelled = taken.spelled;
      counted = sym same ∙ taken.counted;
      written = taken_sorted o.sort (writer_by o.tables) m taken.entries fs
          (refl, (refl, refl, refl), refl) refl by are;
    }

pub told_lines : {A R E : Type 0} (o : WriteOptions) (input : Option (List ℕ))
    (w m : TablesWriting) (n : ℕ) (fs : R → List (FinishedTable A)) (count : R → ℕ)
    (returned : Result R E) → w ≡ writer_by o.tables → TookLines o input w m n
    → IfOk returned (λ r. (count r ≡ n) × AreTablesOf m (fs r))
    → IfOk returned (λ r. AreOfLines o input (fs r) (count r))
told_lines o input w m n fs count (Ok r) is taken made =
    of_lines o input w m (fs r) (count r) n is taken (sym made.0) made.1
told_lines o input w m n fs count (Err e) is taken made = tt
