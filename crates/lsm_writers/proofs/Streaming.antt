-- Tables that are made of what a source yields: what holds from call to call.
use Rattle.std.proofs.Common.{◌≡◌, refl, sym, ◌∙◌, ap, subst, ℕ, ◌+◌, ◌-◌, ◌≤◌, ◌^◌, Bool}
use Rattle.std.proofs.Common.{true, false, List, [], ◌∷◌, ◌++◌, length, append_assoc, arith}
use Rattle.std.proofs.Common.{length-append, IsTrue, inl, inr, ◌<◌, ltb-true}
use Rattle.std.specs.Prelude.{Option, Some, None, Result, Ok, Err, drop, take, is_some, nat_lt}
use Rattle.std.specs.Prelude.{◌⊎◌, ◌&&◌, ◌||◌, if◌then◌else◌}
use Rattle.std.specs.Option.{option_map}
use Rattle.std.proofs.lemmas.List.{length-drop, take-append-drop}
use Rattle.sst_entries.specs.declared.error.Error.{Error}
use Rattle.sst_entries.specs.declared.error.Error.TheVariants.{OutOfMemory}
use Rattle.sst_entries.specs.declared.value_type.ValueType.TheVariants.{Value}
use Rattle.sst_entries.specs.Entry.{Entry, entry}
use Rattle.sst_entries.specs.Error.{is_memory}
use Rattle.sst_entries.specs.Lending.{came}
use Rattle.sst_entries.specs.Stream.{YieldsExactly, answer_stops, nowhere, ok_results}
use Rattle.sst_entries.specs.Strict.{IsStrict, IsStrictAfter, last_of, may_follow}
use Rattle.sst_entries.proofs.Booleans.{and_parts}
use Rattle.sst_entries.proofs.Lists.{all_append}
use Rattle.sst_entries.proofs.StreamLemmas.{yields_front}
use Rattle.sst_blocks.specs.declared.table.label.Label.{Label}
use Rattle.sst_blocks.specs.declared.table.options.Options.{Options}
use Rattle.sst_blocks.specs.table.Chunks.{joined}
use Rattle.lsm_writers.specs.declared.writer.FinishedTable.{FinishedTable}
use Rattle.lsm_writers.specs.Cut.{rest_chunk}
use Rattle.lsm_writers.specs.declared.table_stream.TableStreamError.{TableStreamError}
use Rattle.lsm_writers.specs.declared.table_stream.TableStreamError.TheVariants.{Failed, OutOfOrder}
use Rattle.lsm_writers.specs.Streamed.{AreAll, AreFirst, EndsInError, EndsWithError}
use Rattle.lsm_writers.specs.Streamed.{NoneFails, Took, calls_writer}
use Rattle.lsm_writers.specs.Streamed.{entries_before, may_append, may_replace}
use Rattle.lsm_writers.specs.Streamed.{next_fault, next_ids, next_left, took_each}
use Rattle.lsm_writers.specs.Taken.{AreTakenFrom, IsLeft, IsWriting, taken, tables_left}
use Rattle.lsm_writers.specs.Tables.{AreCuts, AreFinished, AreTables, GoesOn, IsFreshRun}
use Rattle.lsm_writers.specs.Tables.{TablesWriting, all_written, drawn, first_label}
use Rattle.lsm_writers.specs.Tables.{ids_after, ids_fault, is_due, next_writing, rotated}
use Rattle.lsm_writers.specs.Tables.{rotation_fault, run_fault, tables_of, took, took_fault}
use Rattle.lsm_writers.specs.Tables.{turn_fault}
use Rattle.lsm_writers.specs.Writing.{IsFresh, IsWritable, Writing, gained}
use Rattle.lsm_writers.specs.Writing.{may_be_written, written}
use Rattle.lsm_writers.proofs.AllTables.{in_order, joined_all}
use Rattle.lsm_writers.proofs.CutFronts.{first_tables}
use Rattle.lsm_writers.proofs.CutTables.{no_end}
use Rattle.lsm_writers.proofs.ListWriting.{same_label, written_gained}
use Rattle.lsm_writers.proofs.Rotating.{goes_on_next}
use Rattle.lsm_writers.proofs.Taking.{strict_gained}
use Rattle.lsm_writers.proofs.TakenTables.{few_taken, finished_append, finished_law, finished_many}
use Rattle.lsm_writers.proofs.TakenTables.{label_behind, label_left, taken_law}
use Rattle.lsm_writers.proofs.TakenTables.{written_law}
use Rattle.lsm_writers.proofs.Turning.{ids_left}

-- ---- an entry that a writer takes

all_is : (m : TablesWriting) → m.failed ≡ false → all_written m ≡ joined m.tables ++ written m.present
all_is m works = rw works refl

took_works : (m : TablesWriting) (due : Bool) → (if due then rotated m else m).failed ≡ m.failed
took_works m true = refl
took_works m false = refl

module _ (m : TablesWriting) (e : Entry) where
  listed_by : (due : Bool) → joined (if due then rotated m else m).tables
      ++ written (gained (if due then rotated m else m).present e)
      ≡ (joined m.tables ++ written m.present) ++ e ∷ []
  listed_by false = ap (λ (x : List Entry). joined m.tables ++ x) (written_gained m.present e)
      ∙ sym (append_assoc (joined m.tables) (written m.present) (e ∷ []))
  listed_by true = ap (λ (x : List Entry). joined (tables_of m) ++ x)
      (written_gained (rotated m).present e)
      ∙ ap (λ (x : List Entry). x ++ e ∷ []) (joined_all m.tables (written m.present))

  took_listed : m.failed ≡ false → all_written (took m e) ≡ all_written m ++ e ∷ []
  took_listed works =
      let now : (took m e).failed ≡ false = took_works m (is_due m.target m.present e) ∙ works in
      all_is (took m e) now ∙ listed_by (is_due m.target m.present e)
      ∙ ap (λ (x : List Entry). x ++ e ∷ []) (sym (all_is m works))

-- ---- a list that is written, entry by entry

each_snoc : (w : TablesWriting) (es : List Entry) (e : Entry)
    → took_each w (es ++ e ∷ []) ≡ took (took_each w es) e
each_snoc w [] e = refl
each_snoc w (x ∷ es) e = each_snoc (took w x) es e

none_snoc : (w : TablesWriting) (es : List Entry) (e : Entry) → NoneFails w es
    → took_fault (took_each w es) e ≡ None → NoneFails w (es ++ e ∷ [])
none_snoc w [] e h fine = (fine, tt)
none_snoc w (x ∷ es) e h fine = (h.0, none_snoc (took w x) es e h.1 fine)

-- ---- entries that can be written

none_writable : IsWritable []
unfolding IsStrictAfter
none_writable = record { strict = tt; numbered = tt }

writable_snoc : (es : List Entry) (e : Entry) → IsWritable es
    → IsTrue (may_be_written es e.user_key e.seqno) → IsWritable (es ++ e ∷ [])
writable_snoc es e h may =
    let low : nat_lt e.seqno (2 ^ 64 - 1) ≡ true = (and_parts _ _ may).0 in
    record {
      strict = strict_gained es e h.strict may;
      numbered = all_append (λ (x : Entry). x.seqno < 2 ^ 64 - 1) es (e ∷ []) h.numbered
          (ltb-true _ _ low, tt);
    }

-- ---- the entries before the first error

pub entries_front : (es : List Entry) (rs : List (Result Entry Error))
    → entries_before (ok_results es ++ rs) ≡ es ++ entries_before rs
entries_front [] rs = refl
entries_front (e ∷ es) rs = ap (λ (xs : List Entry). e ∷ xs) (entries_front es rs)

pub results_nil : (rs : List (Result Entry Error)) → rs ++ [] ≡ rs
results_nil [] = refl
results_nil (r ∷ rs) = ap (λ (xs : List (Result Entry Error)). r ∷ xs) (results_nil rs)

pub results_assoc : (xs ys zs : List (Result Entry Error)) → (xs ++ ys) ++ zs ≡ xs ++ (ys ++ zs)
results_assoc [] ys zs = refl
results_assoc (x ∷ xs) ys zs =
    ap (λ (rs : List (Result Entry Error)). x ∷ rs) (results_assoc xs ys zs)

-- ---- what the source yields

module _ {S : Type 0} (stops : Error → Bool) (next : S → Option (Result Entry Error) → S → Type 0)
  where
    pub yields_one : (rest : List (Result Entry Error)) (s t : S) (e : Entry)
        → YieldsExactly (answer_stops stops) next nowhere s rest → next s (Some (Ok e)) t
        → (more : List (Result Entry Error)) × (rest ≡ Ok e ∷ more)
        × YieldsExactly (answer_stops stops) next nowhere t more
    yields_one [] s t e d step =
        let h = yields_front (answer_stops stops) next nowhere s [] (Some (Ok e)) t d step refl in
        let no : Some (Ok e) ≡ None = h.0 in absurd cc
    yields_one (r ∷ rest) s t e d step =
        let h = yields_front (answer_stops stops) next nowhere s (r ∷ rest) (Some (Ok e)) t d step refl
        in
        let same : Some (Ok e) ≡ Some r = h.0 in
        let is : r ≡ Ok e = cc in (
          rest,
          ap (λ (x : Result Entry Error). x ∷ rest) is,
          h.1,
        )

    pub yields_none : (rest : List (Result Entry Error)) (s t : S)
        → YieldsExactly (answer_stops stops) next nowhere s rest → next s None t → rest ≡ []
    yields_none [] s t d step = refl
    yields_none (r ∷ rest) s t d step =
        let h = yields_front (answer_stops stops) next nowhere s (r ∷ rest) None t d step refl in
        let no : None ≡ Some r = h.0 in absurd cc

    pub yields_fault : (rest : List (Result Entry Error)) (s t : S) (e : Error)
        → YieldsExactly (answer_stops stops) next nowhere s rest → next s (Some (Err e)) t
        → stops e ≡ false → (more : List (Result Entry Error)) × (rest ≡ Err e ∷ more)
    yields_fault [] s t e d step goes =
        let h = yields_front (answer_stops stops) next nowhere s [] (Some (Err e)) t d step goes in
        let no : Some (Err e) ≡ None = h.0 in absurd cc
    yields_fault (r ∷ rest) s t e d step goes =
        let h = yields_front (answer_stops stops) next nowhere s (r ∷ rest) (Some (Err e)) t d step goes
        in
        let same : Some (Err e) ≡ Some r = h.0 in
        let is : r ≡ Err e = cc in
        (rest, ap (λ (x : Result Entry Error). x ∷ rest) is)

module _ {S : Type 0} (next : S → Option (Result Entry Error) → S → Type 0) where
  pub lent_next : (s t : S) (lent : Option Entry) (more : Bool) (e : Entry) → Some e ≡ lent
      → next s (came (Ok more) lent) t → next s (Some (Ok e)) t
  lent_next s t lent more e is step =
      subst (λ (o : Option Entry). next s (came (Ok more) o) t) (sym is) step

  pub lent_over : (s t : S) (lent : Option Entry) (more : Bool) → more ≡ false
      → more ≡ is_some lent → next s (came (Ok more) lent) t → next s None t
  lent_over s t None more over is step = step
  lent_over s t (Some e) more over is step = let no : true ≡ false = sym is ∙ over in cc

-- ---- a writer whose finished tables were all taken

bound_same : (es fs : List Entry) (key : List ℕ) (n : ℕ) → last_of None es ≡ last_of None fs
    → may_be_written es key n ≡ may_be_written fs key n
bound_same es fs key n is =
    ap (λ (o : Option Entry). nat_lt n (2 ^ 64 - 1) && may_follow o (entry key [] n Value)) is

none_dropped : {X : Type 0} (k : ℕ) (xs : List X) → k ≤ length xs → drop k xs ≡ [] → length xs ≡ k
none_dropped k xs few none = omega (arith, few, length-drop k xs, ap length none)

all_taken : {X : Type 0} (k : ℕ) (xs : List X) → drop k xs ≡ [] → take k xs ≡ xs
all_taken {X} k xs none =
    sym (append_none (take k xs)) ∙ ap (λ (ys : List X). take k xs ++ ys) (sym none)
    ∙ take-append-drop k xs
  where
    append_none : (ys : List X) → ys ++ [] ≡ ys
    append_none [] = refl
    append_none (y ∷ ys) = ap (λ (zs : List X). y ∷ zs) (append_none ys)

-- ---- the tables that an entry leaves that was not written

-- how many they are does not depend on what was taken
left_count : (m : TablesWriting) (k : ℕ) (e : Entry) (spent due : Bool) → length m.tables ≡ k
    → (n : TablesWriting) → n.tables ≡ [] → n.present ≡ m.present
    → length (if spent then m.tables else (if due then rotated m else m).tables)
    ≡ k + length (if spent then n.tables else (if due then rotated n else n).tables)
left_count m k e true due all n none same = omega (arith, all, ap length none)
left_count m k e false false all n none same = omega (arith, all, ap length none)
left_count m k e false true all n none same =
    let last = rest_chunk (written m.present) in
    let here : length (tables_of n) ≡ length last =
    ap (λ (ts : List (List Entry)). length (ts ++ rest_chunk (written n.present))) none
    ∙ ap (λ (w : Writing). length (rest_chunk (written w))) same in
    omega (arith, all, here, length-append m.tables last)

-- nor does the counter
same_ids : (m n : TablesWriting) (due : Bool) → n.ids ≡ m.ids
    → (if due then rotated n else n).ids ≡ (if due then rotated m else m).ids
same_ids m n true is = ap drawn is
same_ids m n false is = is

-- if there is one, it is that of the present writer, which the entry ends
left_some : (n : TablesWriting) (spent due : Bool) (us : List (List Entry)) → n.tables ≡ []
    → us ≡ (if spent then n.tables else (if due then rotated n else n).tables) → (us ≡ [] → ⊥)
    → (spent ≡ false) × (due ≡ true) × (us ≡ rest_chunk (written n.present))
left_some n true due us none is some = absurd (some (is ∙ none))
left_some n false false us none is some = absurd (some (is ∙ none))
left_some n false true us none is some = (
  refl,
  refl,
  is ∙ ap (λ (ts : List (List Entry)). ts ++ rest_chunk (written n.present)) none,
)

if_true : {X : Type 0} (b : Bool) (x y : X) → b ≡ true → (if b then x else y) ≡ x
if_true b x y is = rw is refl

if_false : {X : Type 0} (b : Bool) (x y : X) → b ≡ false → (if b then x else y) ≡ y
if_false b x y is = rw is refl

-- an error that may not replace another one does not stop the source
pub none_stops : (stopped called memory : Bool) → (stopped || (called && memory)) ≡ false
    → stopped ≡ false
none_stops false called memory h = refl
none_stops true called memory h = cc

-- and is not `OutOfMemory` if the writer is called
none_memory : (stopped called memory : Bool) → called ≡ true
    → (stopped || (called && memory)) ≡ false → memory ≡ false
none_memory false true memory is h = h
none_memory true true memory is h = cc
none_memory stopped false memory is h = cc

neither : (a b : Bool) → (a || b) ≡ false → b ≡ false
neither false b h = h
neither true b h = absurd cc

none_at : {X : Type 0} (o : Option X) → is_some o ≡ false → o ≡ None
none_at None h = refl
none_at (Some x) h = absurd cc

no_memory : (e : Error) → is_memory e ≡ false → e ≡ OutOfMemory → ⊥
no_memory e fine is = let no : true ≡ false = sym (ap is_memory is) ∙ fine in cc

finished_none : (A : Type 0) (options : Options) (label : Label) (ts : List (List Entry))
    → AreFinished {A = A} options label (take 1 ts) [] → ts ≡ []
finished_none A options label [] h = refl
finished_none A options label (t ∷ ts) h = absurd h

pub finished_some : {A : Type 0} (options : Options) (label : Label) (ts : List (List Entry))
    (f : FinishedTable A) → AreFinished options label (take 1 ts) (f ∷ []) → ts ≡ [] → ⊥
finished_some options label ts f h none =
    subst (λ (us : List (List Entry)). AreFinished options label (take 1 us) (f ∷ [])) none h

-- a list of at most one table
take_few : (t : List Entry) → take 1 (rest_chunk t) ≡ rest_chunk t
take_few [] = refl
take_few (e ∷ t) = refl

-- ---- a writer that has written nothing

written_none : (v : Writing) → IsFresh v → written v ≡ []
written_none v h = rw (h.0, h.1) refl

pub fresh_took : {A : Type 0} (w : TablesWriting) → IsFreshRun w → IsWriting w
    → Took {A = A} w [] [] w
fresh_took w fresh writing = record {
  writable = none_writable;
  none = tt;
  listed = rw (fresh.2, fresh.0, written_none w.present fresh.1) refl;
  writing = writing;
  taken = record {
    finished = tt;
    left = refl;
    ids = omega (arith, ap length fresh.0);
  };
  left = fresh.0;
}

-- ---- what follows from what was taken

module _ {A : Type 0} (w : TablesWriting) (es : List Entry) (gs : List (FinishedTable A))
    (n : TablesWriting) (h : Took w es gs n) where
  abbrev m : TablesWriting
  m = took_each w es

  abbrev size : ℕ
  size = m.present.options.data_block_size

  abbrev last : List Entry
  last = written m.present

  taken_here : AreTakenFrom m gs (taken (length gs) m)
  taken_here = subst (AreTakenFrom m gs) h.taken.left h.taken

  dropped : drop (length gs) m.tables ≡ []
  dropped = sym (ap (λ (x : TablesWriting). x.tables) h.taken.left) ∙ h.left

  pub count_is : length m.tables ≡ length gs
  count_is = none_dropped (length gs) m.tables (few_taken (length gs) m.tables
      (finished_many m.present.options (first_label m) (take (length gs) m.tables) gs
      h.taken.finished)) dropped

  held : AreFinished m.present.options (first_label m) m.tables gs
  held = subst (λ (ts : List (List Entry)). AreFinished m.present.options (first_label m) ts gs)
      (all_taken (length gs) m.tables dropped) h.taken.finished

  listed : joined m.tables ++ last ≡ es
  listed = sym (all_is m h.writing.works) ∙ h.listed

  -- whether an entry may follow does not depend on what was taken
  pub follows_is : (e : Entry) → may_be_written (all_written n) e.user_key e.seqno ≡ may_append es e
  follows_is e = bound_same (all_written n) es e.user_key e.seqno
      ((written_law A m n gs e h.taken h.writing).0 ∙ ap (last_of None) h.listed)

  fault_is : (e : Entry) → took_fault n e ≡ took_fault m e
  fault_is e = (written_law A m n gs e h.taken h.writing).1

  -- the writer's counter
  pub ids_now : n.ids ≡ m.ids
  ids_now = ap (λ (x : TablesWriting). x.ids) h.taken.left

  ids_next : (e : Entry) → ids_after n e ≡ ids_after m e
  ids_next e = ap (λ (x : TablesWriting). ids_after x e) h.taken.left
      ∙ ap (λ (o : Option ℕ). if m.failed then m.ids else o)
      (same_ids m (taken (length gs) m) (is_due m.target m.present e) refl)

  most_by : (e : Entry) (follows : Bool)
      → length gs ≤ length (if follows then tables_left m e else m.tables)
  most_by e false = omega (arith, count_is)
  most_by e true = omega (
    arith,
    left_count m (length gs) e (m.failed || is_some (turn_fault m.target m.ids m.present e))
        (is_due m.target m.present e) count_is (taken (length gs) m) dropped refl,
  )

  most_now : (rest : List (Result Entry Error)) → length gs ≤ length (next_left es m rest)
  most_now [] = omega (arith, count_is)
  most_now (Ok e ∷ rest) = most_by e (may_append es e)
  most_now (Err f ∷ rest) = omega (arith, count_is)

  first_now : (d : List Entry) → AreFirst m (es ++ d) gs
  first_now d = λ ts all.
      let whole : (joined m.tables ++ last) ++ d ≡ es ++ d = ap (λ (x : List Entry). x ++ d) listed in
      let front : take (length m.tables) ts ≡ m.tables =
      first_tables size m.target m.tables ts last d h.writing.goes_on.begun h.writing.goes_on.cuts
      (subst (λ (x : List Entry). AreTables size m.target x ts) (sym whole) all) in
      let here : take (length gs) ts ≡ m.tables = ap (λ (i : ℕ). take i ts) (sym count_is) ∙ front
      in
      subst (λ (us : List (List Entry)). AreFinished m.present.options (first_label m) us gs)
      (sym here) held

  -- a stream that ends here
  module _ (stops : Error → Bool) (rs rest : List (Result Entry Error))
      (whole : rs ≡ ok_results es ++ rest) where
    entries_are : entries_before rs ≡ es ++ entries_before rest
    entries_are = ap entries_before whole ∙ entries_front es rest

    pub ends_now : (e : TableStreamError) (left : Option ℕ)
        → (may_replace stops (calls_writer es rest) e ≡ false → next_fault es m rest ≡ Some e)
        → (may_replace stops (calls_writer es rest) e ≡ false
        → length gs ≡ length (next_left es m rest))
        → (left ≡ m.ids) ⊎ (left ≡ next_ids es m rest)
        → (may_replace stops (calls_writer es rest) e ≡ false → left ≡ next_ids es m rest)
        → EndsInError stops w rs gs left e
    ends_now e left fault count ids left_is = record {
      front = es;
      rest = rest;
      whole = whole;
      writable = h.writable;
      none = h.none;
      first = subst (λ (xs : List Entry). AreFirst m xs gs) (sym entries_are)
          (first_now (entries_before rest));
      kept = omega (arith, count_is);
      most = most_now rest;
      ids = ids;
      fault = fault;
      count = count;
      left_is = left_is;
    }

  -- an entry that may not follow
  pub took_disorder : (stops : Error → Bool) (rs rest : List (Result Entry Error)) (e : Entry)
      → rs ≡ ok_results es ++ Ok e ∷ rest → may_append es e ≡ false
      → EndsWithError stops w rs gs OutOfOrder n
  took_disorder stops rs rest e whole after = record {
    none = λ none. ends_now stops rs (Ok e ∷ rest) whole OutOfOrder n.ids
        (λ fine. if_false (may_append es e) (option_map (λ f. Failed f) (took_fault m e))
        (Some OutOfOrder) after)
        (λ fine. sym (ap length (if_false (may_append es e) (tables_left m e) m.tables after)
        ∙ count_is))
        (inl ids_now)
        (λ fine. ids_now ∙ sym (if_false (may_append es e) (ids_after m e) m.ids after));
    some = λ f one. absurd (finished_some n.present.options (first_label n) n.tables f one h.left);
  }

  -- an entry that is not written
  module _ (stops : Error → Bool) (rs rest : List (Result Entry Error)) (e : Entry)
      (whole : rs ≡ ok_results es ++ Ok e ∷ rest)
      (next : IsTrue (may_be_written es e.user_key e.seqno)) (f : Error) (v : TablesWriting)
      (refused : is_memory f ≡ false → took_fault n e ≡ Some f) (left : IsLeft n e f v)
      (ids : v.ids ≡ ids_after n e) where
    abbrev spent : Bool
    spent = m.failed || is_some (turn_fault m.target m.ids m.present e)

    counted : length (tables_left m e) ≡ length gs + length (tables_left (taken (length gs) m) e)
    counted = left_count m (length gs) e spent (is_due m.target m.present e) count_is
        (taken (length gs) m) dropped refl

    here_left : v.tables ≡ tables_left n e → v.tables ≡ tables_left (taken (length gs) m) e
    here_left is = subst (λ (x : TablesWriting). v.tables ≡ tables_left x e) h.taken.left is

    fine_is : may_replace stops (may_append es e) (Failed f) ≡ false → is_memory f ≡ false
    fine_is = none_memory (stops f) (may_append es e) (is_memory f) next

    fault_now : may_replace stops (may_append es e) (Failed f) ≡ false
        → next_fault es m (Ok e ∷ rest) ≡ Some (Failed f)
    fault_now fine = if_true (may_append es e) (option_map (λ f. Failed f) (took_fault m e))
        (Some OutOfOrder) next
        ∙ ap (option_map (λ f. Failed f)) (sym (fault_is e) ∙ refused (fine_is fine))

    left_is : next_left es m (Ok e ∷ rest) ≡ tables_left m e
    left_is = if_true (may_append es e) (tables_left m e) m.tables next

    ids_failed : v.ids ≡ next_ids es m (Ok e ∷ rest)
    ids_failed = ids ∙ ids_next e
        ∙ sym (if_true (may_append es e) (ids_after m e) m.ids next)

    none_left : v.tables ≡ [] → EndsInError stops w rs gs v.ids (Failed f)
    none_left none = ends_now stops rs (Ok e ∷ rest) whole (Failed f) v.ids fault_now
        (λ fine. elim left.tables [
          | inl is ↦
              omega (arith, counted, ap length left_is, ap length (here_left is.0), ap length none)
          | inr is ↦ absurd (no_memory f (fine_is fine) is.0)
        ]) (inr ids_failed) (λ fine. ids_failed)

    -- the present table was finished
    module _ (g : FinishedTable A)
        (one : AreFinished v.present.options (first_label v) (take 1 v.tables) (g ∷ []))
        (unspent : spent ≡ false) (due : is_due m.target m.present e ≡ true)
        (is : v.tables ≡ rest_chunk last) where
      one_is : take 1 v.tables ≡ rest_chunk last
      one_is = ap (take 1) is ∙ take_few last

      one_last : length (rest_chunk last) ≡ 1
      one_last = sym (ap length one_is)
          ∙ finished_many v.present.options (first_label v) (take 1 v.tables) (g ∷ []) one

      ids_fine : ids_fault m.ids ≡ None
      ids_fine =
          let fine : turn_fault m.target m.ids m.present e ≡ None =
          none_at (turn_fault m.target m.ids m.present e) (neither m.failed _ unspent) in
          let turned : turn_fault m.target m.ids m.present e ≡ rotation_fault m.ids m.present =
          rw due refl in
          ids_left m.ids m.present (sym turned ∙ fine)

      goes_next : GoesOn m.target (drawn m.ids) (tables_of m)
          (gained (next_writing m.ids m.present) e)
      goes_next = goes_on_next m.target m.ids m.tables m.present e h.writing.goes_on
          (subst (λ (xs : List Entry). IsTrue (may_be_written xs e.user_key e.seqno)) (sym listed)
          next) due ids_fine

      abbrev begins : List Entry
      begins = written (gained (next_writing m.ids m.present) e)

      begins_is : begins ≡ e ∷ []
      begins_is = written_gained (next_writing m.ids m.present) e

      cuts_next : AreCuts size m.target (tables_of m ++ rest_chunk begins)
      cuts_next = subst (λ (o : Options). AreCuts o.data_block_size m.target
          (tables_of m ++ rest_chunk begins)) (same_label (next_writing m.ids m.present) e).1
          goes_next.cuts

      whole_next : (joined (tables_of m) ++ begins) ++ entries_before rest ≡ entries_before rs
      whole_next =
          ap (λ (xs : List Entry). (joined (tables_of m) ++ xs) ++ entries_before rest) begins_is
          ∙ ap (λ (xs : List Entry). (xs ++ e ∷ []) ++ entries_before rest)
          (joined_all m.tables last ∙ listed)
          ∙ append_assoc es (e ∷ []) (entries_before rest)
          ∙ sym (entries_are stops rs (Ok e ∷ rest) whole)

      held_next : AreFinished m.present.options (first_label m) (tables_of m) (gs ++ g ∷ [])
      held_next =
          let some : v.tables ≡ [] → ⊥ =
          finished_some v.present.options (first_label v) v.tables g one in
          let label : first_label v ≡ label_behind (length gs) (first_label m) =
          left.first some ∙ ap first_label h.taken.left ∙ label_left m gs taken_here in
          let options : v.present.options ≡ m.present.options =
          left.options ∙ ap (λ (x : TablesWriting). x.present.options) h.taken.left in
          let by_label : AreFinished v.present.options (label_behind (length gs) (first_label m))
          (take 1 v.tables) (g ∷ []) =
          subst (λ (l : Label). AreFinished v.present.options l (take 1 v.tables) (g ∷ [])) label one
          in
          let by_options : AreFinished m.present.options (label_behind (length gs) (first_label m))
          (take 1 v.tables) (g ∷ []) =
          subst (λ (o : Options). AreFinished o (label_behind (length gs) (first_label m))
          (take 1 v.tables) (g ∷ [])) options by_label in
          finished_append m.present.options (first_label m) m.tables (rest_chunk last) gs (g ∷ [])
          held (subst (λ (ts : List (List Entry)). AreFinished m.present.options
          (label_behind (length gs) (first_label m)) ts (g ∷ [])) one_is by_options)

      first_next : AreFirst m (entries_before rs) (gs ++ g ∷ [])
      first_next = λ ts all.
          let front : take (length (tables_of m)) ts ≡ tables_of m =
          first_tables size m.target (tables_of m) ts begins (entries_before rest)
          (λ none. absurd (no_end [] e (sym begins_is ∙ none))) cuts_next
          (subst (λ (x : List Entry). AreTables size m.target x ts) (sym whole_next) all) in
          let number : length (gs ++ g ∷ []) ≡ length (tables_of m) = omega (
            arith,
            count_is,
            one_last,
            length-append gs (g ∷ []),
            length-append m.tables (rest_chunk last),
          ) in
          subst (λ (us : List (List Entry)). AreFinished m.present.options (first_label m) us
          (gs ++ g ∷ [])) (sym (ap (λ (i : ℕ). take i ts) number ∙ front)) held_next

      count_next : v.tables ≡ tables_left n e
          → length (gs ++ g ∷ []) ≡ length (next_left es m (Ok e ∷ rest))
      count_next tables = omega (
        arith,
        counted,
        ap length left_is,
        ap length (here_left tables),
        ap length is,
        one_last,
        length-append gs (g ∷ []),
      )

      one_left : v.tables ≡ tables_left n e
          → EndsInError stops w rs (gs ++ g ∷ []) v.ids (Failed f)
      one_left tables = record {
        front = es;
        rest = Ok e ∷ rest;
        whole = whole;
        writable = h.writable;
        none = h.none;
        first = first_next;
        kept = omega (arith, count_is, length-append gs (g ∷ []));
        most = omega (arith, count_next tables);
        ids = inr ids_failed;
        fault = fault_now;
        count = λ fine. count_next tables;
        left_is = λ fine. ids_failed;
      }

    pub took_failed : EndsWithError stops w rs gs (Failed f) v
    took_failed = record {
      none = none_left;
      some = λ g one.
          let some : v.tables ≡ [] → ⊥ =
          finished_some v.present.options (first_label v) v.tables g one in
          elim left.tables [
            | inl is ↦
                let p = left_some (taken (length gs) m) spent (is_due m.target m.present e) v.tables
                dropped (here_left is.0) some in
                one_left g one p.0 p.1 p.2 is.0
            | inr is ↦ absurd (some (is.1 ∙ h.left))
          ];
    }

  -- the source is exhausted
  module _ (rs : List (Result Entry Error)) (whole : rs ≡ ok_results es) where
    pub took_all : (fs : List (FinishedTable A))
        → AreFinished n.present.options (first_label n) (tables_of n) fs
        → AreAll w rs (gs ++ fs) n.ids
    took_all fs rest =
        let cut : joined (tables_of m) ≡ es = joined_all m.tables last ∙ listed in
        record {
          list = es;
          whole = whole;
          writable = h.writable;
          none = h.none;
          cut = record { whole = cut; each = h.writing.goes_on.cuts };
          order = in_order size m.target None (tables_of m) h.writing.goes_on.cuts
              (subst IsStrict (sym cut) h.writable.strict);
          finished = finished_law A m n gs fs h.taken rest;
          left_is = ap (λ (x : TablesWriting). x.ids) h.taken.left;
        }

    pub took_ends : (stops : Error → Bool) (e : Error) → (is_memory e ≡ false → run_fault n ≡ Some e)
        → EndsInError stops w rs gs n.ids (Failed e)
    took_ends stops e refused =
        ends_now stops rs [] (whole ∙ sym (results_nil (ok_results es))) (Failed e) n.ids
        (λ fine. ap (option_map (λ f. Failed f)) (sym (ap run_fault h.taken.left)
        ∙ refused (none_memory (stops e) true (is_memory e) refl fine)))
        (λ fine. sym count_is) (inl ids_now) (λ fine. ids_now)

-- ---- an entry is written, and the table that it ended is taken

-- a writer of which one table may be left
pub record Grown {A : Type 0} (w : TablesWriting) (es : List Entry) (gs : List (FinishedTable A))
    (n : TablesWriting) : Type 0 where
  pub writable : IsWritable es
  pub none : NoneFails w es
  pub listed : all_written (took_each w es) ≡ es
  pub writing : IsWriting (took_each w es)
  pub taken : AreTakenFrom (took_each w es) gs n
  pub few : drop 1 n.tables ≡ []

few_by : (n : TablesWriting) (due : Bool) → n.tables ≡ []
    → drop 1 (if due then rotated n else n).tables ≡ []
few_by n false none = ap (drop 1) none
few_by n true none = ap (λ (ts : List (List Entry)). drop 1 (ts ++ rest_chunk (written n.present)))
    none ∙ one (written n.present)
  where
    one : (t : List Entry) → drop 1 (rest_chunk t) ≡ []
    one [] = refl
    one (x ∷ t) = refl

-- after an entry and a table that was taken, no finished table is left
pub few_took : (n v u : TablesWriting) (e : Entry) → n.tables ≡ [] → v ≡ took n e → u ≡ taken 1 v
    → u.tables ≡ []
few_took n v u e none is rest = ap (λ (x : TablesWriting). x.tables) rest
    ∙ ap (λ (x : TablesWriting). drop 1 x.tables) is
    ∙ few_by n (is_due n.target n.present e) none

pub grown : {A : Type 0} (w : TablesWriting) (es : List Entry) (gs : List (FinishedTable A))
    (n v : TablesWriting) (e : Entry) → Took w es gs n
    → IsTrue (may_be_written es e.user_key e.seqno) → took_fault n e ≡ None → v ≡ took n e
    → Grown w (es ++ e ∷ []) gs v
grown {A} w es gs n v e h next fine is =
    let m = took_each w es in
    let law = written_law A m n gs e h.taken h.writing in
    let none : took_fault m e ≡ None = sym law.1 ∙ fine in
    let now : took_each w (es ++ e ∷ []) ≡ took m e = each_snoc w es e in
    record {
      writable = writable_snoc es e h.writable next;
      none = none_snoc w es e h.none none;
      listed = ap all_written now ∙ took_listed m e h.writing.works
          ∙ ap (λ (xs : List Entry). xs ++ e ∷ []) h.listed;
      writing = subst IsWriting (sym now) (law.3 none (follows_is w es gs n h e ∙ next));
      taken = subst (λ (x : TablesWriting). AreTakenFrom x gs v) (sym now)
          (subst (AreTakenFrom (took m e) gs) (sym is) (law.2 none));
      few = ap (λ (x : TablesWriting). drop 1 x.tables) is
          ∙ few_by n (is_due n.target n.present e) h.left;
    }

module _ {A : Type 0} (w : TablesWriting) (es : List Entry) (gs : List (FinishedTable A))
    (n v : TablesWriting) (h : Grown w es gs n) (is : v ≡ taken 1 n) where
  pub grown_some : (f : FinishedTable A)
      → AreFinished n.present.options (first_label n) (take 1 n.tables) (f ∷ [])
      → Took w es (gs ++ f ∷ []) v
  grown_some f one = record {
    writable = h.writable;
    none = h.none;
    listed = h.listed;
    writing = h.writing;
    taken = subst (AreTakenFrom (took_each w es) (gs ++ f ∷ [])) (sym is)
        (taken_law A (took_each w es) n gs (f ∷ []) h.taken one);
    left = ap (λ (x : TablesWriting). x.tables) is ∙ h.few;
  }

  pub grown_none : AreFinished {A = A} n.present.options (first_label n) (take 1 n.tables) []
      → Took w es gs v
  grown_none none =
      let empty : n.tables ≡ [] = finished_none A n.present.options (first_label n) n.tables none in
      let same : v ≡ n = is ∙ ap (λ (ts : List (List Entry)). let x : TablesWriting =
      record n { tables = ts } in x) (h.few ∙ sym empty) in
      record {
        writable = h.writable;
        none = h.none;
        listed = h.listed;
        writing = h.writing;
        taken = subst (AreTakenFrom (took_each w es) gs) (sym same) h.taken;
        left = ap (λ (x : TablesWriting). x.tables) same ∙ empty;
      }
