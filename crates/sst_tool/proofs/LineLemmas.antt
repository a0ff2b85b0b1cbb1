-- Entries that were read, line by line.
use Rattle.std.proofs.Common.{◌≡◌, refl, sym, ◌∙◌, ap, subst, ℕ, suc, ◌+◌, ◌-◌, ◌<◌, Bool, true, false}
use Rattle.std.proofs.Common.{List, [], ◌∷◌, ◌++◌, length, take, cond, arith, append_assoc}
use Rattle.std.proofs.Common.{append-nil, lt-ltb}
use Rattle.std.specs.Prelude.{Option, Some, None, ◌==◌, ◌&&◌, nat_lt, slice_index}
use Rattle.std.specs.List.{onto_first}
use Rattle.std.specs.Io.KnownBytes.{IsAtEnd}
use Rattle.std.specs.Io.BufRead.{take_through, drop_through, first_piece, strip_last}
use Rattle.sst_entries.specs.Entry.{Entry}
use Rattle.sst_entries.specs.declared.error.Error.TheVariants.{OutOfMemory}
use Rattle.sst_tool.specs.declared.lines.entry_line.Format.{Format}
use Rattle.std.proofs.lemmas.List.{map-append, nil_from_length}
use Rattle.std.proofs.lemmas.Bool.{eqb-true}
use Rattle.sst_tool.specs.declared.make.entries.Numbered.{Numbered}
use Rattle.sst_tool.specs.declared.files.error.LineFault.{LineFault}
use Rattle.sst_tool.specs.declared.files.error.LineFault.TheVariants as fault
use Rattle.sst_tool.specs.declared.files.error.ToolError.{ToolError}
use Rattle.sst_tool.specs.declared.files.error.ToolError.TheVariants.{Line, Refused}
use Rattle.sst_tool.specs.lines.Faults.{lacks_memory}
use Rattle.sst_tool.specs.lines.ObjectLine.{SpellsObject}
use Rattle.sst_tool.specs.lines.WordLine.{SpellsEntry}
use Rattle.sst_tool.specs.declared.lines.entry_line.Format.TheVariants.{Json, Lines as Words}
use Rattle.sst_tool.specs.declared.lines.entry_line.LineError.{LineError}
use Rattle.sst_tool.specs.declared.lines.entry_line.LineError.TheVariants as spelling
use Rattle.sst_tool.specs.make.Faults.{IsSpeltWrong, IsWrongEntry, IsWrongLine, StopsIn, TellsEntry}
use Rattle.sst_tool.specs.make.Faults.{IsOfInput, StopsReading, TellsLine, TellsSpelling}
use Rattle.sst_tool.specs.make.Taken.{TookAll}
use Rattle.lsm_writers.specs.Tables.{TablesWriting}
use Rattle.std.specs.Prelude.{Result, Ok, Err, IfErr, IfSome}
use Rattle.std.specs.Result.{IsErrAnd}
use Rattle.std.proofs.Common.{length-append}
use Rattle.sst_tool.specs.make.Entries.{HasEntries, HasRows, LosesInputLine, LineSpells, ReadsInputLine}
use Rattle.sst_tool.specs.make.Entries.{Spell, SpellRows, input_lines, numbered, row_entries}

-- ---- the first line of some bytes

-- a line that has a byte before the others
last_cons : (b x : ℕ) (xs : List ℕ)
    → slice_index (b ∷ x ∷ xs) (length (b ∷ x ∷ xs) - 1)
    ≡ slice_index (x ∷ xs) (length (x ∷ xs) - 1)
last_cons b x xs =
    let p : length (b ∷ x ∷ xs) - 1 ≡ length (x ∷ xs) = omega arith in
    let q : length (x ∷ xs) - 1 ≡ length xs = omega arith in
    ap (slice_index (b ∷ x ∷ xs)) p ∙ sym (ap (slice_index (x ∷ xs)) q)

front_cons : (b x : ℕ) (xs : List ℕ)
    → take (length (b ∷ x ∷ xs) - 1) (b ∷ x ∷ xs) ≡ b ∷ take (length (x ∷ xs) - 1) (x ∷ xs)
front_cons b x xs =
    let p : length (b ∷ x ∷ xs) - 1 ≡ length (x ∷ xs) = omega arith in
    let q : length (x ∷ xs) - 1 ≡ length xs = omega arith in
    ap (λ (n : ℕ). take n (b ∷ x ∷ xs)) p ∙ sym (ap (λ (n : ℕ). b ∷ take n (x ∷ xs)) q)

strip_by : (b x : ℕ) (xs : List ℕ) (e : Bool)
    → cond e (take (length (b ∷ x ∷ xs) - 1) (b ∷ x ∷ xs)) (b ∷ x ∷ xs)
    ≡ b ∷ cond e (take (length (x ∷ xs) - 1) (x ∷ xs)) (x ∷ xs)
strip_by b x xs true = front_cons b x xs
strip_by b x xs false = refl

strip_some : (b : ℕ) (bs : List ℕ)
    → strip_last 10 (b ∷ bs)
    ≡ cond (slice_index (b ∷ bs) (length (b ∷ bs) - 1) == 10)
    (take (length (b ∷ bs) - 1) (b ∷ bs)) (b ∷ bs)
strip_some b bs =
    let some : nat_lt 0 (length (b ∷ bs)) ≡ true = lt-ltb 0 (length (b ∷ bs)) (omega arith) in
    ap (λ (t : Bool). cond (t && (slice_index (b ∷ bs) (length (b ∷ bs) - 1) == 10))
    (take (length (b ∷ bs) - 1) (b ∷ bs)) (b ∷ bs)) some

strip_cons : (b : ℕ) (bs : List ℕ) → 0 < length bs → strip_last 10 (b ∷ bs) ≡ b ∷ strip_last 10 bs
strip_cons b [] h = absurd (omega arith)
strip_cons b (x ∷ xs) h =
    strip_some b (x ∷ xs)
    ∙ ap (λ (n : ℕ). cond (n == 10) (take (length (b ∷ x ∷ xs) - 1) (b ∷ x ∷ xs)) (b ∷ x ∷ xs))
    (last_cons b x xs)
    ∙ strip_by b x xs (slice_index (x ∷ xs) (length (x ∷ xs) - 1) == 10)
    ∙ ap (λ (l : List ℕ). b ∷ l) (sym (strip_some x xs))

some_by : (b : ℕ) (bs : List ℕ) (e : Bool) → 0 < length (cond e (b ∷ []) (b ∷ bs))
some_by b bs true = omega arith
some_by b bs false = omega arith

-- the first line, and those behind it
lines_by : (b : ℕ) (bs : List ℕ) (e : Bool) → (b == 10) ≡ e
    → input_lines (b ∷ bs) ≡ first_piece 10 (b ∷ bs) ∷ input_lines (drop_through 10 (b ∷ bs))
lines_by b bs true h =
    let cut : strip_last 10 (b ∷ []) ≡ [] = ap (λ (t : Bool). cond t [] (b ∷ [])) h in
    rw h (ap (λ (l : List ℕ). l ∷ input_lines bs) (sym cut))
lines_by b [] false h =
    let kept : strip_last 10 (b ∷ []) ≡ b ∷ [] = ap (λ (t : Bool). cond t [] (b ∷ [])) h in
    rw h (ap (λ (l : List ℕ). l ∷ []) (sym kept))
lines_by b (c ∷ cs) false h =
    let again : input_lines (c ∷ cs) ≡ first_piece 10 (c ∷ cs) ∷ input_lines (drop_through 10 (c ∷ cs)) =
    lines_by c cs _ refl in
    let first : strip_last 10 (b ∷ take_through 10 (c ∷ cs)) ≡ b ∷ first_piece 10 (c ∷ cs) =
    strip_cons b (take_through 10 (c ∷ cs)) (some_by c (take_through 10 cs) _) in
    rw h (ap (onto_first b) again ∙ ap (λ (l : List ℕ). l ∷ input_lines (drop_through 10 (c ∷ cs)))
    (sym first))

lines_first : (bs : List ℕ) → 0 < length bs
    → input_lines bs ≡ first_piece 10 bs ∷ input_lines (drop_through 10 bs)
lines_first [] h = absurd (omega arith)
lines_first (b ∷ bs) h = lines_by b bs _ refl

-- ---- the lines that were read

-- so many lines of some bytes tell something, and the others are those of the rest
pub record Passed {X : Type 0} (S : List (List ℕ) → X → Type 0) (bytes rest : List ℕ) (x : X)
    (count : ℕ) : Type 0 where
  pub before : List (List ℕ)
  pub are : input_lines bytes ≡ before ++ input_lines rest
  pub spelled : S before x
  pub counted : length before ≡ count

abbrev pub GoesBy : {X : Type 0} → (List (List ℕ) → X → Type 0) → Option (List ℕ)
    → Option (List ℕ) → X → ℕ → Type 0
GoesBy S None left x count = Unit {0}
GoesBy S (Some bytes) None x count = ⊥
GoesBy S (Some bytes) (Some rest) x count = Passed S bytes rest x count

-- the first line that is left
line_first : (rest line : List ℕ) (new : Option (List ℕ)) → LosesInputLine (Some rest) new line
    → input_lines rest ≡ line ∷ input_lines (drop_through 10 rest)
line_first rest line new loses =
    lines_first rest loses.0
    ∙ ap (λ (l : List ℕ). l ∷ input_lines (drop_through 10 rest)) (sym loses.1)

module _ {X : Type 0} (S : List (List ℕ) → X → Type 0) where
  by_none : (input : Option (List ℕ)) (x : X) → S [] x → GoesBy S input input x 0
  by_none None x h = tt
  by_none (Some bytes) x h =
      record { before = []; are = refl; spelled = h; counted = refl }

  -- one more line
  by_more : (input left new : Option (List ℕ)) (line : List ℕ) (x y : X) (count : ℕ)
      → GoesBy S input left x count → LosesInputLine left new line
      → ((before : List (List ℕ)) → length before ≡ count → S before x
      → S (before ++ line ∷ []) y)
      → GoesBy S input new y (count + 1)
  by_more None left new line x y count h loses more = tt
  by_more (Some bytes) None new line x y count h loses more = absurd h
  by_more (Some bytes) (Some rest) new line x y count h loses more =
      let behind : List (List ℕ) = input_lines (drop_through 10 rest) in
      subst (λ (n : Option (List ℕ)). GoesBy S (Some bytes) n y (count + 1)) (sym loses.2)
      (let p : Passed S bytes (drop_through 10 rest) y (count + 1) =
      record {
        before = h.before ++ line ∷ [];
        are = h.are ∙ ap (λ (ls : List (List ℕ)). h.before ++ ls) (line_first rest line new loses)
            ∙ sym (append_assoc h.before (line ∷ []) behind);
        spelled = more h.before h.counted h.spelled;
        counted = length-append h.before (line ∷ []) ∙ ap (λ (n : ℕ). n + 1) h.counted;
      } in p)

  -- nothing is left
  by_end : (input left : Option (List ℕ)) (x : X) (count : ℕ) → GoesBy S input left x count
      → IsAtEnd left → IfSome input (λ bytes. S (input_lines bytes) x)
  by_end None left x count h end = tt
  by_end (Some bytes) None x count h end = absurd h
  by_end (Some bytes) (Some rest) x count h end =
      let all : input_lines bytes ≡ h.before =
      h.are ∙ ap (λ (r : List ℕ). h.before ++ input_lines r) end ∙ append-nil h.before in
      subst (λ (ls : List (List ℕ)). S ls x) (sym all) h.spelled

-- ---- they spell entries

abbrev pub Goes : Format → Option (List ℕ) → Option (List ℕ) → List Entry → ℕ → Type 0
Goes format input left es count = GoesBy (Spell format) input left es count

pub goes_none : (format : Format) (input : Option (List ℕ)) → Goes format input input [] 0
goes_none format input = by_none (Spell format) input [] refl

spell_behind : (format : Format) (before : List (List ℕ)) (line : List ℕ) (es ds : List Entry)
    → Spell format before es → Spell format (line ∷ []) ds
    → Spell format (before ++ line ∷ []) (es ++ ds)
spell_behind format [] line es ds h more =
    subst (λ (xs : List Entry). Spell format (line ∷ []) (xs ++ ds)) (sym h) more
spell_behind format ([] ∷ before) line es ds h more =
    spell_behind format before line es ds h more
spell_behind format ((b ∷ l) ∷ before) line [] ds h more = absurd h
spell_behind format ((b ∷ l) ∷ before) line (e ∷ es) ds h more =
    (h.0, spell_behind format before line es ds h.1 more)

-- an empty line is passed over
pub goes_empty : (format : Format) (input left new : Option (List ℕ)) (line : List ℕ)
    (es : List Entry) (count : ℕ) → Goes format input left es count → LosesInputLine left new line
    → line ≡ [] → Goes format input new es (count + 1)
goes_empty format input left new line es count h loses empty =
    subst (λ (xs : List Entry). Goes format input new xs (count + 1)) (append-nil es)
    (by_more (Spell format) input left new line es (es ++ []) count h loses
    (λ before long so_far. spell_behind format before line es [] so_far
    (subst (λ (l : List ℕ). Spell format (l ∷ []) []) (sym empty) refl)))

spell_one : (format : Format) (line : List ℕ) (e : Entry) → (line ≡ [] → ⊥)
    → LineSpells format line e → Spell format (line ∷ []) (e ∷ [])
spell_one format [] e some reads = absurd (some refl)
spell_one format (b ∷ line) e some reads = (reads, refl)

-- a line spells the next entry
pub goes_more : (format : Format) (input left new : Option (List ℕ)) (line : List ℕ)
    (es : List Entry) (count : ℕ) (e : Entry) → Goes format input left es count
    → LosesInputLine left new line → (line ≡ [] → ⊥) → LineSpells format line e
    → Goes format input new (es ++ e ∷ []) (count + 1)
goes_more format input left new line es count e h loses some reads =
    by_more (Spell format) input left new line es (es ++ e ∷ []) count h loses
    (λ before long so_far. spell_behind format before line es (e ∷ []) so_far
    (spell_one format line e some reads))

pub goes_end : (format : Format) (input left : Option (List ℕ)) (es : List Entry) (count : ℕ)
    → Goes format input left es count → IsAtEnd left → HasEntries format input es
goes_end format input left es count h end = by_end (Spell format) input left es count h end

-- ---- they spell entries with the numbers of their lines

abbrev pub GoesRows : Format → Option (List ℕ) → Option (List ℕ) → List (ℕ × Entry) → ℕ → Type 0
GoesRows format input left rows count = GoesBy (SpellRows format 1) input left rows count

rows_behind : (format : Format) (n : ℕ) (before : List (List ℕ)) (line : List ℕ)
    (rows more : List (ℕ × Entry)) → SpellRows format n before rows
    → SpellRows format (n + length before) (line ∷ []) more
    → SpellRows format n (before ++ line ∷ []) (rows ++ more)
rows_behind format n [] line rows more h last =
    let same : n + 0 ≡ n = omega arith in
    subst (λ (rs : List (ℕ × Entry)). SpellRows format n (line ∷ []) (rs ++ more)) (sym h)
    (subst (λ (k : ℕ). SpellRows format k (line ∷ []) more) same last)
rows_behind format n ([] ∷ before) line rows more h last =
    let next : n + length ([] ∷ before) ≡ suc n + length before = omega arith in
    rows_behind format (suc n) before line rows more h
    (subst (λ (k : ℕ). SpellRows format k (line ∷ []) more) next last)
rows_behind format n ((b ∷ l) ∷ before) line [] more h last = absurd h
rows_behind format n ((b ∷ l) ∷ before) line (r ∷ rows) more h last =
    let next : n + length ((b ∷ l) ∷ before) ≡ suc n + length before = omega arith in (
      h.0,
      h.1,
      rows_behind format (suc n) before line rows more h.2
          (subst (λ (k : ℕ). SpellRows format k (line ∷ []) more) next last),
    )

pub rows_none : (format : Format) (input : Option (List ℕ)) → GoesRows format input input [] 0
rows_none format input = by_none (SpellRows format 1) input [] refl

pub rows_empty : (format : Format) (input left new : Option (List ℕ)) (line : List ℕ)
    (rows : List (ℕ × Entry)) (count : ℕ) → GoesRows format input left rows count
    → LosesInputLine left new line → line ≡ [] → GoesRows format input new rows (count + 1)
rows_empty format input left new line rows count h loses empty =
    subst (λ (rs : List (ℕ × Entry)). GoesRows format input new rs (count + 1)) (append-nil rows)
    (by_more (SpellRows format 1) input left new line rows (rows ++ []) count h loses
    (λ before long so_far. rows_behind format 1 before line rows [] so_far
    (subst (λ (l : List ℕ). SpellRows format (1 + length before) (l ∷ []) []) (sym empty) refl)))

row_one : (format : Format) (number : ℕ) (line : List ℕ) (row : ℕ × Entry) → (line ≡ [] → ⊥)
    → row.0 ≡ number → LineSpells format line row.1
    → SpellRows format number (line ∷ []) (row ∷ [])
row_one format number [] row some is reads = absurd (some refl)
row_one format number (b ∷ line) row some is reads = (is, reads, refl)

-- a row more, by its number
numbered_more : (format : Format) (input left new : Option (List ℕ)) (line : List ℕ)
    (rows : List (ℕ × Entry)) (count : ℕ) (row : ℕ × Entry) → GoesRows format input left rows count
    → LosesInputLine left new line → (line ≡ [] → ⊥) → row.0 ≡ count + 1
    → LineSpells format line row.1 → GoesRows format input new (rows ++ row ∷ []) (count + 1)
numbered_more format input left new line rows count row h loses some is reads =
    by_more (SpellRows format 1) input left new line rows (rows ++ row ∷ []) count h loses
    (λ before long so_far. rows_behind format 1 before line rows (row ∷ []) so_far
    (row_one format (1 + length before) line row some
    (let n : row.0 ≡ 1 + length before = omega (arith, is, long) in n) reads))

pub rows_row : {A : Type 0} (format : Format) (input left new : Option (List ℕ)) (line : List ℕ)
    (rows : List (Numbered A)) (count : ℕ) (row : Numbered A)
    → GoesRows format input left (numbered rows) count → LosesInputLine left new line
    → (line ≡ [] → ⊥) → row.line ≡ count + 1 → LineSpells format line row.entry
    → GoesRows format input new (numbered (rows ++ row ∷ [])) (count + 1)
rows_row {A} format input left new line rows count row h loses some is reads =
    subst (λ (rs : List (ℕ × Entry)). GoesRows format input new rs (count + 1))
    (sym (map-append (λ (r : Numbered A). (r.line, r.entry)) rows (row ∷ [])))
    (numbered_more format input left new line (numbered rows) count (row.line, row.entry) h loses
    some is reads)

pub rows_end : (format : Format) (input left : Option (List ℕ)) (rows : List (ℕ × Entry))
    (count : ℕ) → GoesRows format input left rows count → IsAtEnd left
    → HasRows format input rows
rows_end format input left rows count h end =
    by_end (SpellRows format 1) input left rows count h end

-- ---- a line is refused

goes_stops : (format : Format) (input left new : Option (List ℕ)) (line : List ℕ)
    (w m : TablesWriting) (es : List Entry) (count n : ℕ) (wrong : LineFault)
    → Goes format input left es count → TookAll w es m → LosesInputLine left new line
    → TellsLine (count + 1) format m line (Line n wrong) → StopsIn format input w (Line n wrong)
goes_stops format None left new line w m es count n wrong h taken loses returned = tt
goes_stops format (Some bytes) None new line w m es count n wrong h taken loses returned = absurd h
goes_stops format (Some bytes) (Some rest) new line w m es count n wrong h taken loses returned =
    record {
      before = h.before;
      line = line;
      behind = input_lines (drop_through 10 rest);
      are = h.are ∙ ap (λ (ls : List (List ℕ)). h.before ++ ls) (line_first rest line new loses);
      entries = es;
      spelled = h.spelled;
      writer = m;
      taken = taken;
      returned = (returned.0 ∙ ap (λ (k : ℕ). k + 1) (sym h.counted), returned.1);
    }

pub stops : (format : Format) (input left new : Option (List ℕ)) (line : List ℕ)
    (w m : TablesWriting) (es : List Entry) (count : ℕ) (error : ToolError)
    → Goes format input left es count → TookAll w es m → LosesInputLine left new line
    → TellsLine (count + 1) format m line error → StopsIn format input w error
stops format input left new line w m es count (Line n wrong) h taken loses returned =
    goes_stops format input left new line w m es count n wrong h taken loses returned
stops format input left new line w m es count (Refused error) h taken loses returned = returned
stops format input left new line w m es count error h taken loses returned = absurd returned

goes_reading : (format : Format) (input left new : Option (List ℕ)) (line : List ℕ)
    (es : List Entry) (count n : ℕ) (wrong : LineFault) → Goes format input left es count
    → LosesInputLine left new line → TellsSpelling (count + 1) format line (Line n wrong)
    → StopsReading format input (Line n wrong)
goes_reading format None left new line es count n wrong h loses returned = tt
goes_reading format (Some bytes) None new line es count n wrong h loses returned = absurd h
goes_reading format (Some bytes) (Some rest) new line es count n wrong h loses returned =
    record {
      before = h.before;
      line = line;
      behind = input_lines (drop_through 10 rest);
      are = h.are ∙ ap (λ (ls : List (List ℕ)). h.before ++ ls) (line_first rest line new loses);
      entries = es;
      spelled = h.spelled;
      returned = (returned.0 ∙ ap (λ (k : ℕ). k + 1) (sym h.counted), returned.1);
    }

-- a line that spells no entry is refused
pub stops_reading : (format : Format) (input left new : Option (List ℕ)) (line : List ℕ)
    (es : List Entry) (count : ℕ) (error : ToolError) → Goes format input left es count
    → LosesInputLine left new line → TellsSpelling (count + 1) format line error
    → StopsReading format input error
stops_reading format input left new line es count (Line n wrong) h loses returned =
    goes_reading format input left new line es count n wrong h loses returned
stops_reading format input left new line es count (Refused error) h loses returned = returned
stops_reading format input left new line es count error h loses returned = absurd returned

-- ---- what is wrong with a line

spelt_so : (format : Format) (w : TablesWriting) (line : List ℕ) (wrong : LineFault)
    → IsSpeltWrong format line wrong → IsWrongLine format w line wrong
spelt_so format w line (fault.Spelling error) h = h
spelt_so format w line wrong h = absurd h

pub tells_spelling : (number : ℕ) (format : Format) (w : TablesWriting) (line : List ℕ)
    (error : ToolError) → TellsSpelling number format line error
    → TellsLine number format w line error
tells_spelling number format w line (Line n wrong) h =
    (h.0, spelt_so format w line wrong h.1)
tells_spelling number format w line (Refused error) h = h
tells_spelling number format w line error h = absurd h

wrong_so : (format : Format) (w : TablesWriting) (line : List ℕ) (e : Entry) (wrong : LineFault)
    → LineSpells format line e → IsWrongEntry false w e wrong → IsWrongLine format w line wrong
wrong_so format w line e (fault.Spelling error) reads h = absurd h
wrong_so format w line e wrong reads h = (e, reads, h)

tells_entry : (number : ℕ) (format : Format) (w : TablesWriting) (line : List ℕ) (e : Entry)
    (error : ToolError) → LineSpells format line e → TellsEntry number false w e error
    → TellsLine number format w line error
tells_entry number format w line e (Line n wrong) reads h =
    (h.0, wrong_so format w line e wrong reads h.1)
tells_entry number format w line e (Refused error) reads h = h
tells_entry number format w line e error reads h = absurd h

pub told_entry : {R : Type 0} (number : ℕ) (format : Format) (w : TablesWriting) (line : List ℕ)
    (e : Entry) (returned : Result R ToolError) → LineSpells format line e
    → IfErr returned (λ error. TellsEntry number false w e error)
    → IfErr returned (λ error. TellsLine number format w line error)
told_entry number format w line e (Ok r) reads h = tt
told_entry number format w line e (Err error) reads h =
    tells_entry number format w line e error reads h

-- ---- what reading a line tells

known : (e : LineError) → (e ≡ spelling.OutOfMemory → ⊥) → lacks_memory e ≡ false
known spelling.OutOfMemory other = absurd (other refl)
known e other = refl

-- a line that spells no entry, whichever way
pub spells_none : (format : Format) (e : LineError) (line : List ℕ)
    → (format ≡ Words → lacks_memory e ≡ false → (item : Entry) → ¬ SpellsEntry line item)
    → (format ≡ Json → lacks_memory e ≡ false → (item : Entry) → ¬ SpellsObject line item)
    → (e ≡ spelling.OutOfMemory → ⊥) → (item : Entry) → ¬ LineSpells format line item
spells_none Words e line words object other item h = words refl (known e other) item (h.0 refl)
spells_none Json e line words object other item h = object refl (known e other) item (h.1 refl)

-- the error of a line that does not parse
pub spelling_named : (number : ℕ) (format : Format) (line : List ℕ) (e : LineError)
    (error : ToolError)
    → (format ≡ Words → lacks_memory e ≡ false → (item : Entry) → ¬ SpellsEntry line item)
    → (format ≡ Json → lacks_memory e ≡ false → (item : Entry) → ¬ SpellsObject line item)
    → (e ≡ spelling.OutOfMemory → error ≡ Refused OutOfMemory)
    → ((e ≡ spelling.OutOfMemory → ⊥) → error ≡ Line number (fault.Spelling e))
    → TellsSpelling number format line error
spelling_named number format line spelling.OutOfMemory error words object memory named =
    subst (TellsSpelling number format line) (sym (memory refl)) refl
spelling_named number format line e error words object memory named =
    let other : e ≡ spelling.OutOfMemory → ⊥ = λ same. absurd cc in
    subst (TellsSpelling number format line) (sym (named other))
    (refl, (spells_none format e line words object other, other))

pub at_end : (more : Bool) (old new : Option (List ℕ)) (line : List ℕ)
    → ReadsInputLine old new line more → more ≡ false → IsAtEnd old
at_end more old new line reads over =
    subst (λ (b : Bool). ReadsInputLine old new line b) over reads

pub lost : (more : Bool) (old new : Option (List ℕ)) (line : List ℕ)
    → ReadsInputLine old new line more → more ≡ true → LosesInputLine old new line
lost more old new line reads goes =
    subst (λ (b : Bool). ReadsInputLine old new line b) goes reads

-- what a line spells, by whatever name the line goes
pub reads_at : (format : Format) (line named : List ℕ) (e : Entry) → named ≡ line
    → LineSpells format named e → LineSpells format line e
reads_at format line named e same reads =
    subst (λ (l : List ℕ). LineSpells format l e) same reads

-- a row more
pub goes_row : {A : Type 0} (format : Format) (input left new : Option (List ℕ)) (line : List ℕ)
    (rows : List (Numbered A)) (count : ℕ) (row : Numbered A)
    → Goes format input left (row_entries rows) count → LosesInputLine left new line
    → (line ≡ [] → ⊥) → LineSpells format line row.entry
    → Goes format input new (row_entries (rows ++ row ∷ [])) (count + 1)
goes_row {A} format input left new line rows count row h loses some reads =
    subst (λ (es : List Entry). Goes format input new es (count + 1))
    (sym (map-append (λ (r : Numbered A). r.entry) rows (row ∷ [])))
    (goes_more format input left new line (row_entries rows) count row.entry h loses some reads)

-- a list that is told to be empty
pub no_items : {X : Type 0} (xs : List X) (len : ℕ) (empty : Bool) → len ≡ length xs
    → empty ≡ (len == 0) → empty ≡ true → xs ≡ []
no_items xs len empty long returned is =
    nil_from_length xs (sym long ∙ eqb-true len 0 (sym returned ∙ is))

-- the input or memory is refused, and no line
pub stops_else : (format : Format) (input : Option (List ℕ)) (w : TablesWriting)
    (error : ToolError) → IsOfInput error → StopsIn format input w error
stops_else format input w (Line n wrong) h = absurd h
stops_else format input w error h = h

pub reading_else : (format : Format) (input : Option (List ℕ)) (error : ToolError)
    → IsOfInput error → StopsReading format input error
reading_else format input (Line n wrong) h = absurd h
reading_else format input error h = h

-- a refusal that is handed on
pub handed_on : {R : Type 0} (returned : Result R ToolError) (error : ToolError)
    (P : ToolError → Type 0) → IsErrAnd returned (λ e. e ≡ error) → P error → IfErr returned P
handed_on (Ok r) error P is h = tt
handed_on (Err e) error P is h = subst P (sym is) h
