-- Why no tables come of lines.
use Rattle.std.proofs.Common.{◌≡◌, refl, sym, ◌∙◌, ap, subst, ℕ, Bool, true, false, true≢false}
use Rattle.std.proofs.Common.{List, [], ◌∷◌, inl, inr, length}
use Rattle.std.specs.Prelude.{◌≢◌, None, Option, Result, Some, Ok, Err, IfErr}
use Rattle.std.proofs.lemmas.Bool.{false_from_ne_true}
use Rattle.std.proofs.lemmas.List.{nil_from_length}
use Rattle.std.proofs.lemmas.List.Sorted.{length_permutation}
use Rattle.sst_entries.specs.Entry.{Entry}
use Rattle.sst_entries.specs.Error.{is_memory}
use Rattle.sst_entries.specs.declared.error.Error.{Error}
use Rattle.sst_entries.specs.declared.error.Error.TheVariants.{OutOfMemory}
use Rattle.sst_blocks.specs.declared.table.label.Label.{Label}
use Rattle.sst_blocks.specs.declared.table.options.Options.{Options}
use Rattle.sst_blocks.specs.table.Chunks.{joined}
use Rattle.lsm_writers.specs.declared.writer.FinishedTable.{FinishedTable}
use Rattle.lsm_writers.specs.Tables.{AreFinished, TablesWriting, all_written}
use Rattle.lsm_runs.proofs.WrittenBy.{nothing_yet}
use Rattle.sst_entries.proofs.Refusals.{memory_is}
use Rattle.sst_tool.specs.declared.lines.entry_line.Format.{Format}
use Rattle.sst_tool.specs.declared.files.error.LineFault.{LineFault}
use Rattle.sst_tool.specs.declared.files.error.LineFault.TheVariants as fault
use Rattle.sst_tool.specs.declared.files.error.ToolError.{ToolError}
use Rattle.sst_tool.specs.declared.files.error.ToolError.TheVariants.{Input, Line}
use Rattle.sst_tool.specs.declared.files.error.ToolError.TheVariants.{Refused, SizeTooLarge}
use Rattle.sst_tool.specs.declared.make.options.WriteOptions.{WriteOptions}
use Rattle.sst_tool.specs.make.Entries.{HasEntries, input_lines}
use Rattle.sst_tool.specs.make.Faults.{IsOfInput, StopsLines}
use Rattle.sst_tool.specs.make.Refusing.{RefusesLines, TellsEnd, TellsSizes}
use Rattle.sst_tool.specs.make.Sorting.{TellsLineOrder}
use Rattle.sst_tool.specs.make.Written.{AreOfLines, TookLines, WritesAll, WritesSorted}
use Rattle.sst_tool.specs.make.Written.{writer_by}
use Rattle.sst_tool.proofs.Sorting.{first_out_of_order, first_repeated}

-- what is no want of memory
pub not_memory : (e : Error) → e ≢ OutOfMemory → is_memory e ≡ false
not_memory e other = false_from_ne_true (is_memory e) (λ memory. other (memory_is e memory))

-- want of memory
memory_told : (o : WriteOptions) (input : Option (List ℕ)) (e : Error) → e ≡ OutOfMemory
    → RefusesLines o input (Refused e)
memory_told o input e is = λ not. absurd (true≢false (sym (ap is_memory is) ∙ not))

pub memory_refused : (o : WriteOptions) (input : Option (List ℕ))
    → RefusesLines o input (Refused OutOfMemory)
memory_refused o input = memory_told o input OutOfMemory refl

-- sizes that are too large
pub sizes_refused : (o : WriteOptions) (input : Option (List ℕ)) (error : ToolError)
    → TellsSizes o.tables error → RefusesLines o input error
sizes_refused o input SizeTooLarge h = h
sizes_refused o input (Refused e) h = memory_told o input e h
sizes_refused o input error h = absurd h

-- ---- lines that are not taken

-- a line that is told, or else the input or memory
of_lines : (sort : Bool) (format : Format) (input : Option (List ℕ)) (w : TablesWriting)
    (error : ToolError) → ((n : ℕ) (wrong : LineFault) → error ≡ Line n wrong → ⊥)
    → StopsLines sort format input w error → IsOfInput error
of_lines true format input w (Line n wrong) other h = absurd (other n wrong refl)
of_lines false format input w (Line n wrong) other h = absurd (other n wrong refl)
of_lines true format input w error other h = h
of_lines false format input w error other h = h

pub lines_refused : (o : WriteOptions) (input : Option (List ℕ)) (w : TablesWriting)
    (error : ToolError) → w ≡ writer_by o.tables → StopsLines o.sort o.format input w error
    → RefusesLines o input error
lines_refused o input w (Line n wrong) is h =
    subst (λ (x : TablesWriting). StopsLines o.sort o.format input x (Line n wrong)) is h
lines_refused o input w (Input error) is h =
    subst (λ (x : TablesWriting). StopsLines o.sort o.format input x (Input error)) is h
lines_refused o input w (Refused e) is h = memory_told o input e
    (of_lines o.sort o.format input w (Refused e) (λ n wrong same. cc) h)
lines_refused o input w error is h = absurd
    (of_lines o.sort o.format input w error (λ n wrong same. cc) h)

-- ---- the writer's end

end_refused : (o : WriteOptions) (input : Option (List ℕ)) (w m : TablesWriting) (count : ℕ)
    (error : ToolError) → w ≡ writer_by o.tables → TookLines o input w m count → TellsEnd m error
    → RefusesLines o input error
end_refused o input w m count (Refused e) is taken h = λ not. record {
  writer = m;
  count = count;
  taken = subst (λ (x : TablesWriting). TookLines o input x m count) is taken;
  returned = h not;
}
end_refused o input w m count error is taken h = absurd h

pub told_end : {R : Type 0} (returned : Result R ToolError) (o : WriteOptions)
    (input : Option (List ℕ)) (w m : TablesWriting) (count : ℕ) → w ≡ writer_by o.tables
    → TookLines o input w m count → IfErr returned (TellsEnd m) → IfErr returned (RefusesLines o input)
told_end (Ok r) o input w m count is taken h = tt
told_end (Err e) o input w m count is taken h = end_refused o input w m count e is taken h

-- ---- no tables are those of no entries

none_joined : (A : Type 0) (options : Options) (label : Label) (lists : List (List Entry))
    → AreFinished {A = A} options label lists [] → joined lists ≡ []
none_joined A options label [] h = refl
none_joined A options label (l ∷ lists) h = absurd h

none_all : (A : Type 0) (w : TablesWriting) (es : List Entry) → WritesAll {A = A} w es []
    → es ≡ []
none_all A w es h = sym h.1.cut.whole ∙ none_joined A _ _ h.1.lists h.1.finished

none_sorted : (A : Type 0) (sort : Bool) (w : TablesWriting) (es : List Entry)
    → WritesSorted {A = A} sort w es [] → es ≡ []
none_sorted A false w es h = none_all A w es h
none_sorted A true w es h =
    nil_from_length es (sym (length_permutation es h.0 h.1.permuted)
    ∙ ap (λ (xs : List Entry). length xs) (none_all A w h.0 h.2))

pub none_spelled : {A : Type 0} (o : WriteOptions) (input : Option (List ℕ))
    (fs : List (FinishedTable A)) (count : ℕ) → AreOfLines o input fs count → fs ≡ []
    → HasEntries o.format input []
none_spelled {A} o input fs count h none =
    subst (λ (es : List Entry). HasEntries o.format input es)
    (none_sorted A o.sort (writer_by o.tables) h.entries
    (subst (λ (xs : List (FinishedTable A)). WritesSorted o.sort (writer_by o.tables) h.entries xs) none
    h.written)) h.spelled

-- ---- a line that is told as repeated, or out of order

repeated_line : (sort : Bool) (format : Format) (input : Option (List ℕ)) (w : TablesWriting)
    (n : ℕ) → all_written w ≡ [] → StopsLines sort format input w (Line n fault.Repeated)
    → TellsLineOrder format input (Line n fault.Repeated)
repeated_line true format None w n fresh h = tt
repeated_line false format None w n fresh h = tt
repeated_line true format (Some bytes) w n fresh (inl h) = absurd h.returned.1
repeated_line true format (Some bytes) w n fresh (inr h) =
    first_repeated format (input_lines bytes) w n fresh h
repeated_line false format (Some bytes) w n fresh h =
    absurd (true≢false (sym h.returned.1.2.0))

order_line : (sort : Bool) (format : Format) (input : Option (List ℕ)) (w : TablesWriting)
    (n : ℕ) → all_written w ≡ [] → StopsLines sort format input w (Line n fault.OutOfOrder)
    → TellsLineOrder format input (Line n fault.OutOfOrder)
order_line true format None w n fresh h = tt
order_line false format None w n fresh h = tt
order_line true format (Some bytes) w n fresh (inl h) = absurd h.returned.1
order_line true format (Some bytes) w n fresh (inr h) =
    absurd (true≢false h.stops.returned.1.0)
order_line false format (Some bytes) w n fresh h =
    first_out_of_order format (input_lines bytes) w n fresh h

pub told_order : (o : WriteOptions) (input : Option (List ℕ)) (error : ToolError)
    → RefusesLines o input error → TellsLineOrder o.format input error
told_order o input (Line n fault.Repeated) h =
    repeated_line o.sort o.format input (writer_by o.tables) n
    (nothing_yet (writer_by o.tables) (refl, (refl, refl, refl), refl)) h
told_order o input (Line n (fault.Spelling e)) h = tt
told_order o input (Line n fault.TooHigh) h = tt
told_order o input (Line n fault.OutOfOrder) h =
    order_line o.sort o.format input (writer_by o.tables) n
    (nothing_yet (writer_by o.tables) (refl, (refl, refl, refl), refl)) h
told_order o input (Line n (fault.Refused e)) h = tt
told_order o input error h = tt
