-- One call of a scanner of a run, and what it deals.
use Rattle.std.proofs.Common.{◌≡◌, ℕ, suc, ◌-◌, ◌<◌, ◌≤◌, false, List, [], ◌∷◌, ◌++◌, drop, length}
use Rattle.std.proofs.Common.{take, refl, sym, ap, subst, ◌∙◌, arith, inr}
use Rattle.std.proofs.lemmas.List.{length-append, length-map, map-append, nil_from_length}
use Rattle.std.specs.Prelude.{Bool, Option, Some, None, Result, Ok, Err, IfErr, IfOk, is_some}
use Rattle.std.specs.Prelude.{true}
use Rattle.std.specs.List.{AllByRecursion, flat_map, slice_get}
use Rattle.std.specs.Result.{IsErrAnd}
use Rattle.sst_blocks.specs.Sections.{body_of}
use Rattle.sst_entries.specs.declared.error.Error.{Error}
use Rattle.sst_entries.specs.declared.error.Error.TheVariants.{OutOfMemory}
use Rattle.sst_entries.specs.Entry.{Entry}
use Rattle.sst_entries.specs.Lending.{came}
use Rattle.sst_entries.specs.Error.{Faults, FaultsFirst, is_memory}
use Rattle.sst_entries.specs.Stream.{but_first, first, front_of, nowhere, ok_results}
use Rattle.sst_blocks.specs.declared.block_type.BlockType.TheVariants.{Data}
use Rattle.sst_blocks.specs.Block.{load_at_result}
use Rattle.lsm_iters.specs.block_index.Yielded.{YieldsEnding}
use Rattle.lsm_iters.proofs.Dealing.{Ending, yields_ending}
use Rattle.sst_blocks.specs.table.Chunks.{joined}
use Rattle.lsm_iters.proofs.AtEnds.{first_split}
use Rattle.lsm_iters.specs.Lift.{lifted}
use Rattle.lsm_iters.proofs.RangeEnds.{front_split}
use Rattle.lsm_readers.specs.Scan.{IsNewScan, Scan, ScansNext, fault_of, scan_left, scan_size}
use Rattle.lsm_readers.specs.Scan.{up_to_error}
use Rattle.lsm_readers.specs.point.Table.{OpenTable}
use Rattle.lsm_readers.proofs.StoredParts.{stored_scan}
use Rattle.lsm_readers.proofs.Scans.{ended_left, fault_left, scan_falls}
use Rattle.lsm_readers.proofs.TableRanges.{yields_values}
use Rattle.lsm_runs.specs.RunLists.{YieldsList, HoldLists, HoldsList}
use Rattle.lsm_runs.specs.RunScan.{BeginsNext, BeginsScan, IsRunScanEnded, IsScanOf, RunScan}
use Rattle.lsm_runs.specs.RunScan.{RunScansNext, ScansItem, left_of_scan, lent_of_run}
use Rattle.lsm_runs.specs.RunScan.{lent_of_scan, over_scan, run_scan_left}
use Rattle.lsm_runs.specs.RunScan.{run_scan_size, size_of_scan, table_scan}
use Rattle.lsm_runs.specs.RunScan.{table_size, tables_between, tables_scan, tables_size}
use Rattle.lsm_run_parts.proofs.Places.{first_between, none_between, table_at}
use Rattle.lsm_runs.proofs.RunSteps.{R}

-- ---- results up to the first error

up_to_first : (xs ys : List R) (e : Error) → first xs ≡ Some (Err e)
    → first (up_to_error (xs ++ ys)) ≡ Some (Err e)
up_to_first [] ys e there = absurd cc
up_to_first (Ok x ∷ xs) ys e there = absurd cc
up_to_first (Err f ∷ xs) ys e there = there

no_longer : (xs : List R) → length (up_to_error xs) ≤ length xs
no_longer [] = omega arith
no_longer (Ok x ∷ xs) = omega (arith, no_longer xs)
no_longer (Err f ∷ xs) = omega arith

-- values have no error
pub all_values : (es : List Entry) → up_to_error (ok_results es) ≡ ok_results es
all_values [] = refl
all_values (e ∷ es) = ap (λ (rs : List R). Ok e ∷ rs) (all_values es)

-- ---- the scan of one table

first_is : (xs : List R) (x : R) → Some x ≡ first xs → xs ≡ x ∷ but_first xs
first_is xs x there = first_split xs x (sym there)

none_is : (xs : List R) → None ≡ first xs → xs ≡ []
none_is [] there = refl
none_is (x ∷ xs) there = absurd cc

pub scan_item : (s t : Scan) (r : Option R) → ScansNext s r t → ScansItem (Some s) r (Some t)
scan_item s t None step =
    let given = (step.answers).gives is_memory (scan_left s) (refl, inr refl) refl in
    record {
      answer = none_is (scan_left s) given.0;
      lowers =
          omega (arith, ap length (ended_left t step.ends), step.ends.1);
    }
scan_item s t (Some (Ok e)) step =
    let given = (step.answers).gives is_memory (scan_left s) (refl, inr refl) refl in
    record {
      answer = first_is (scan_left s) (Ok e) given.0
          ∙ ap (λ (rs : List R). Ok e ∷ rs) given.1.0;
      lowers = scan_falls s t (Ok e) step;
    }
scan_item s t (Some (Err e)) step = record {
  answer = λ fine. sym ((step.answers).gives is_memory (scan_left s) (refl, inr refl) fine).0;
  lowers = scan_falls s t (Err e) step;
}

-- of a table that cannot be scanned the scan tells the fault
pub refused_scan : (t : OpenTable) (e : Error)
    → (is_memory e ≡ false → fault_of (load_at_result (body_of t.bytes) 0 Data) ≡ Some e)
    → BeginsScan t (Err e)
refused_scan t e fault = λ fine. ap first (fault_left
    (body_of t.bytes) t.global_seqno t.parts.facts.data_block_count e (fault fine))

pub begins : (t : OpenTable) (r : Result Scan Error)
    → IfOk r (IsNewScan (body_of t.bytes) t.parts.facts.data_block_count t.global_seqno)
    → Faults r (fault_of (load_at_result (body_of t.bytes) 0 Data)) → BeginsScan t r
begins t (Ok s) new faults = new
begins t (Err e) new faults = refused_scan t e faults

begun_size : (t : OpenTable) (x : Scan) → IsNewScan (body_of t.bytes) t.parts.facts.data_block_count
    t.global_seqno x → scan_size x ≤ table_size t
begun_size t x new = omega (arith, ap length new.left, new.blocks)

-- ---- the tables that are not opened

-- those from one place up to another
abbrev pub scanning : Option Scan → List OpenTable → ℕ → ℕ → RunScan
scanning o ts lo hi = record { scan = o; tables = take (hi - lo) (drop lo ts) }

pub none_scanned : (o : Option Scan) (ts : List OpenTable) (lo hi : ℕ) → lo ≡ hi
    → scanning o ts lo hi ≡ record { scan = o; tables = [] }
none_scanned o ts lo hi same = ap (λ (us : List OpenTable). record { scan = o; tables = us })
    (none_between ts lo hi same)

-- the first of them
pub begins_next : (o : Option Scan) (ts : List OpenTable) (lo hi next : ℕ) (r : Result Scan Error)
    → next ≡ suc lo → lo < hi → hi ≤ length ts
    → ((t : OpenTable) → slice_get ts lo ≡ Some t → BeginsScan t r)
    → BeginsNext (scanning o ts lo hi) (Some r) (scanning o ts next hi)
begins_next o ts lo hi next r is less within each =
    let t = table_at ts lo (omega (arith, less, within)) in
    let split : take (hi - lo) (drop lo ts) ≡ t.0 ∷ take (hi - suc lo) (drop (suc lo) ts) =
    front_split (take (hi - lo) (drop lo ts)) (take (hi - suc lo) (drop (suc lo) ts)) t.0
    (first_between ts lo hi t.0 t.1 less) in (
      t.0,
      subst (λ (n : ℕ). take (hi - lo) (drop lo ts) ≡ t.0 ∷ take (hi - n) (drop n ts))
          (sym is) split,
      refl,
      each t.0 t.1,
    )

-- ---- the tables that a call goes through

used_up : (o : Option Scan) → size_of_scan o ≡ 0 → left_of_scan o ≡ []
used_up None none = refl
used_up (Some s) none = nil_from_length (scan_left s) (omega (arith, none))

-- from s the call has come to u, of which as much is left
pub record Reached (s u : RunScan) : Type 0 where
  pub results : run_scan_left u ≡ run_scan_left s
  pub smaller : run_scan_size u ≤ run_scan_size s

pub starts : (s : RunScan) → Reached s s
starts s = record { results = refl; smaller = omega arith }

abbrev behind : RunScan → List R
behind u = flat_map table_scan u.tables

-- a scan that is used up may be asked again
pub kept : (s u : RunScan) (o : Option Scan) → Reached s u → ScansItem u.scan None o
    → Reached s (record u { scan = o })
kept s u o reached gives =
    let same : left_of_scan o ≡ left_of_scan u.scan = used_up o gives.lowers ∙ sym gives.answer in
    record {
      results = ap (λ (rs : List R). up_to_error (rs ++ behind u)) same ∙ reached.results;
      smaller = omega (arith, gives.lowers, reached.smaller);
    }

-- all results are those of the tables that are not opened
of_tables : (u : RunScan) → size_of_scan u.scan ≡ 0 → run_scan_left u ≡ up_to_error (behind u)
of_tables u none = ap (λ (rs : List R). up_to_error (rs ++ behind u)) (used_up u.scan none)

-- the next table was opened
pub opened : (s u : RunScan) (x : Scan) (w : RunScan) → Reached s u → size_of_scan u.scan ≡ 0
    → BeginsNext u (Some (Ok x)) w → Reached s (record w { scan = Some x })
opened s u x w reached none begins =
    let t = begins.0 in
    let split : u.tables ≡ t ∷ w.tables = begins.1 in
    let new = begins.3 in
    record {
      results =
          ap (λ (rs : List R). up_to_error (rs ++ behind w)) new.left
          ∙ sym (of_tables u none ∙ ap (λ (ts : List OpenTable). up_to_error
          (flat_map table_scan ts)) split)
          ∙ reached.results;
      smaller = omega (arith, begun_size t x new, ap tables_size split, none, reached.smaller);
    }

-- ---- the answers

-- an entry, or an error, which ends the scan
pub item : (s u : RunScan) (e : Entry) (o : Option Scan) → Reached s u
    → ScansItem u.scan (Some (Ok e)) o → RunScansNext s (Some (Ok e)) (record u { scan = o })
item s u e o reached gives = record {
  answer = sym reached.results ∙ ap (λ (rs : List R). up_to_error (rs ++ behind u)) gives.answer;
  ends = tt;
  lowers = omega (arith, gives.lowers, reached.smaller);
}

pub refusal : (s u w : RunScan) (e : Error) (o : Option Scan) → Reached s u
    → ScansItem u.scan (Some (Err e)) o → RunScansNext s (Some (Err e)) (over_scan w)
refusal s u w e o reached gives = record {
  answer = λ fine. ap first (sym reached.results)
      ∙ up_to_first (left_of_scan u.scan) (behind u) e (gives.answer fine);
  ends = refl;
  lowers = omega (arith, gives.lowers, reached.smaller);
}

-- what is lent came, and what is not did not
is_none : (o : Option Entry) → false ≡ is_some o → o ≡ None
is_none None none = refl
is_none (Some e) none = absurd cc

pub none_lent : (o : Option Scan) {more : Bool} → more ≡ false → more ≡ is_some (lent_of_scan o)
    → lent_of_scan o ≡ None
none_lent o none is = is_none (lent_of_scan o) (sym none ∙ is)

pub none_came : (s o : Option Scan) {more : Bool} → more ≡ false
    → more ≡ is_some (lent_of_scan o) → ScansItem s (came (Ok more) (lent_of_scan o)) o
    → ScansItem s None o
none_came s o {more = more} none is gives =
    subst (λ (l : Option Entry). ScansItem s (came (Ok more) l) o) (none_lent o none is) gives

pub lent_item : (s u : RunScan) (o : Option Scan) {more : Bool} → more ≡ true → Reached s u
    → more ≡ is_some (lent_of_scan o) → ScansItem u.scan (came (Ok more) (lent_of_scan o)) o
    → RunScansNext s (came (Ok more) (lent_of_scan o)) (record u { scan = o })
lent_item s u o {more = more} some reached is gives =
    by (lent_of_scan o) (sym some ∙ is) gives
  where
    by : (l : Option Entry) → true ≡ is_some l → ScansItem u.scan (came (Ok more) l) o
        → RunScansNext s (came (Ok more) l) (record u { scan = o })
    by None is gives = absurd cc
    by (Some e) is gives = item s u e o reached gives

-- what was lent is shared, or memory is refused for it
pub shared_item : (s u t : RunScan) (r : R) → RunScansNext s (came (Ok true) (lent_of_run u)) u
    → is_some (lent_of_run u) ≡ true → IfOk r (λ x. (lent_of_run u ≡ Some x) × (t ≡ u))
    → IfErr r (λ e. (e ≡ OutOfMemory) × (t ≡ over_scan u)) → RunScansNext s (Some r) t
shared_item s u t (Ok x) step some ok err = subst (RunScansNext s (Some (Ok x))) (sym ok.1)
    (subst (λ (o : Option Entry). RunScansNext s (came (Ok true) o) u) ok.0 step)
shared_item s u t (Err e) step some ok err = by (lent_of_run u) some step
  where
    refused : (x : Entry) → RunScansNext s (Some (Ok x)) u
        → RunScansNext s (Some (Err OutOfMemory)) (over_scan u)
    refused x step = record {
      answer = λ fine. let wrong : true ≡ false = fine in absurd cc;
      ends = refl;
      lowers = omega (arith, step.lowers);
    }

    by : (o : Option Entry) → is_some o ≡ true → RunScansNext s (came (Ok true) o) u
        → RunScansNext s (Some (Err e)) t
    by None some step = absurd cc
    by (Some x) some step = subst (RunScansNext s (Some (Err e))) (sym err.1)
        (subst (λ (f : Error). RunScansNext s (Some (Err f)) (over_scan u)) (sym err.0)
        (refused x step))

-- nothing came
pub over_item : (s u : RunScan) → RunScansNext s (came (Ok false) (lent_of_run u)) u
    → false ≡ is_some (lent_of_run u) → RunScansNext s None u
over_item s u step none = subst (λ (o : Option Entry). RunScansNext s (came (Ok false) o) u)
    (is_none (lent_of_run u) none) step

-- the next table could not be opened
pub fault : (s u : RunScan) (e : Error) (w : RunScan) → Reached s u → size_of_scan u.scan ≡ 0
    → BeginsNext u (Some (Err e)) w → RunScansNext s (Some (Err e)) (over_scan w)
fault s u e w reached none begins =
    let t = begins.0 in
    let split : u.tables ≡ t ∷ w.tables = begins.1 in
    record {
      answer = λ fine.
          ap first (sym reached.results ∙ of_tables u none
          ∙ ap (λ (ts : List OpenTable). up_to_error (flat_map table_scan ts)) split)
          ∙ up_to_first (table_scan t) (flat_map table_scan w.tables) e (begins.3 fine);
      ends = refl;
      lowers = omega (arith, ap tables_size split, reached.smaller);
    }

-- nothing is left
pub rest : (s u w : RunScan) → Reached s u → size_of_scan u.scan ≡ 0 → BeginsNext u None w
    → RunScansNext s None w
rest s u w reached none begins = record {
  answer = sym reached.results ∙ of_tables u none
      ∙ ap (λ (ts : List OpenTable). up_to_error (flat_map table_scan ts)) begins.0;
  ends = tt;
  lowers = ap run_scan_size begins.1 ∙ (let e : run_scan_size u ≡ 0 =
      omega (arith, none, ap tables_size begins.0) in e);
}

-- ---- what is dealt

tables_within : (ts : List OpenTable) → length (flat_map table_scan ts) ≤ tables_size ts
tables_within [] = omega arith
tables_within (t ∷ ts) = omega (
  arith,
  length-append (table_scan t)
      (flat_map table_scan ts),
  tables_within ts,
)

one_within : (o : Option Scan) → length (left_of_scan o) ≤ size_of_scan o
one_within None = omega arith
one_within (Some s) = omega arith

nothing : (s : RunScan) → IsRunScanEnded s → run_scan_left s ≡ []
nothing s ended =
    nil_from_length (run_scan_left s)
    (omega (
      arith,
      ended,
      no_longer (left_of_scan s.scan ++ behind s),
      length-append
          (left_of_scan s.scan) (behind s),
      one_within s.scan,
      tables_within s.tables,
    ))

ends_by : (s : RunScan) (r : Option R) (t : RunScan) → RunScansNext s r t
    → Ending run_scan_left IsRunScanEnded front_of s r t
ends_by s None t step = record { answer = (step.answer, step.lowers); ends = tt }
ends_by s (Some (Ok e)) t step = record { answer = ap front_of step.answer; ends = tt }
ends_by s (Some (Err e)) t step = record {
  answer =
      (step.answer, λ ended. omega (arith, ended, step.lowers));
  ends = step.ends;
}

-- what is left, up to the first error
pub scan_yields : (s : RunScan) (xs : List R) → run_scan_left s ≡ xs
    → YieldsEnding RunScansNext nowhere (λ _. Unit {0}) (λ _. Unit {0}) s xs
scan_yields s xs same =
    subst (λ (rs : List R). YieldsEnding RunScansNext nowhere (λ _. Unit {0}) (λ _. Unit {0}) s rs)
    same
    (yields_ending run_scan_left IsRunScanEnded nothing RunScansNext nowhere
    (λ u r t step. ends_by u r t step) (λ u r t step. absurd step) s)

-- ---- of a span

-- its first table was opened
pub begun : (ts : List OpenTable) (ends : ℕ × ℕ) (t : OpenTable) (x : Scan) (next past : ℕ) → next
    ≡ suc ends.0 → past ≡ suc ends.1 → ends.0 ≤ ends.1 → slice_get ts ends.0 ≡ Some t
    → BeginsScan t (Ok x)
    → IsScanOf ts ends (record { scan = Some x; tables = take (past - next) (drop next ts) })
begun ts ends t x next past is_next is_past up there new =
    let span : tables_between ts ends ≡ t ∷ take (suc ends.1 - suc ends.0) (drop (suc ends.0) ts) =
    front_split (tables_between ts ends) (take (suc ends.1 - suc ends.0) (drop (suc ends.0) ts)) t
    (first_between ts ends.0 (suc ends.1) t there (omega (arith, up))) in
    let others : take (past - next) (drop next ts)
    ≡ take (suc ends.1 - suc ends.0) (drop (suc ends.0) ts) =
    ap (λ (n : ℕ). take (past - n) (drop n ts)) is_next
    ∙ ap (λ (n : ℕ). take (n - suc ends.0) (drop (suc ends.0) ts)) is_past in
    let whole : t ∷ take (past - next) (drop next ts) ≡ tables_between ts ends =
    ap (λ (us : List OpenTable). t ∷ us) others ∙ sym span in
    record {
      left =
          ap (λ (rs : List R). up_to_error (rs ++ flat_map table_scan
          (take (past - next) (drop next ts)))) new.left
          ∙ ap tables_scan whole;
      size = omega (arith, begun_size t x new, ap tables_size whole);
    }

-- its first table could not be opened
pub span_refused : (ts : List OpenTable) (ends : ℕ × ℕ) (t : OpenTable) (e : Error)
    → ends.0 ≤ ends.1 → slice_get ts ends.0 ≡ Some t → BeginsScan t (Err e) → is_memory e ≡ false
    → first (tables_scan (tables_between ts ends)) ≡ Some (Err e)
span_refused ts ends t e up there begins fine =
    let others = take (suc ends.1 - suc ends.0) (drop (suc ends.0) ts) in
    let span : tables_between ts ends ≡ t ∷ others =
    front_split (tables_between ts ends) others t
    (first_between ts ends.0 (suc ends.1) t there (omega (arith, up))) in
    ap (λ (us : List OpenTable). first (tables_scan us)) span
    ∙ up_to_first (table_scan t) (flat_map table_scan others) e (begins fine)

-- what holds of a refusal holds of it passed on
pub passed_on : {X : Type 0} (P : Error → Type 0) (r : Result X Error) (e : Error)
    → IsErrAnd r (λ y. y ≡ e) → P e → IfErr r P
passed_on P (Ok x) e same holds = absurd same
passed_on P (Err f) e same holds = subst P (sym same) holds

pub fault_passed : {X : Type 0} (r : Result X Error) (e : Error) → IsErrAnd r (λ y. y ≡ e)
    → (returned : Option Error) → (is_memory e ≡ false → returned ≡ Some e) → Faults r returned
fault_passed (Ok x) e same returned faults = absurd same
fault_passed (Err f) e same returned faults = subst (λ (g : Error). is_memory g ≡ false → returned ≡ Some g)
    (sym same) faults

pub first_passed : {X : Type 0} (r : Result X Error) (e : Error) → IsErrAnd r (λ y. y ≡ e)
    → (returned : Option Error) → ((g : Error) → returned ≡ Some g → Some g ≡ Some e) → FaultsFirst r returned
first_passed (Ok x) e same returned early = absurd same
first_passed (Err f) e same returned early = λ g there. early g there
    ∙ ap (λ (h : Error). Some h) (sym same)

-- the tables' lists, where each has an entry
held_scan : (t : OpenTable) (es : List Entry) → HoldsList t es → 0 < length es
    → table_scan t ≡ ok_results es
held_scan t es h some =
    let pins = h.opened.recovered in
    let stored : 0 < length h.stored = omega (
      arith,
      some,
      ap length h.lifted_is,
      length-map
          h.stored (lifted t.global_seqno),
    ) in
    stored_scan t.bytes h.stored h.table t.global_seqno pins.pin_filter pins.pin_index t.parts
    pins.returned stored ∙ ap ok_results (sym h.lifted_is)

pub held_scans : (ts : List OpenTable) (ls : List (List Entry)) → HoldLists ts ls
    → AllByRecursion (λ (es : List Entry). 0 < length es) ls
    → flat_map table_scan ts ≡ ok_results (joined ls)
held_scans [] [] h some = refl
held_scans [] (es ∷ ls) h some = absurd h
held_scans (t ∷ ts) [] h some = absurd h
held_scans (t ∷ ts) (es ∷ ls) h some =
    ap (λ (rs : List R). rs ++ flat_map table_scan ts) (held_scan t es h.0 some.0)
    ∙ ap (λ (rs : List R). ok_results es ++ rs) (held_scans ts ls h.1 some.1)
    ∙ sym (map-append (λ (x : Entry). Ok x) es (joined ls))

pub lists_yield : (ts : List OpenTable) (ls : List (List Entry)) → HoldLists ts ls
    → AllByRecursion (λ (es : List Entry). 0 < length es) ls → (s : RunScan)
    → run_scan_left s ≡ tables_scan ts → YieldsList RunScansNext nowhere (joined ls) s
lists_yield ts ls h some s left stops memory =
    let values : tables_scan ts ≡ ok_results (joined ls) =
    ap (λ (rs : List R). up_to_error rs) (held_scans ts ls h some) ∙ all_values (joined ls) in
    yields_values RunScansNext nowhere (λ _. Unit {0}) (λ _. Unit {0}) s (joined ls)
    (scan_yields s (ok_results (joined ls)) (left ∙ values)) stops memory
