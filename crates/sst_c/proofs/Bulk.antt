-- What bulk reads of a handle come to. Assumes `Logic`.
use Rattle.std.proofs.Common.{◌≡◌, ℕ, ◌<◌, arith, Bool, true, false, List, [], ◌∷◌, refl, sym, ap, ◌∙◌, inl, inr, subst}
use Rattle.std.specs.Prelude.{Option, Some, None, Result, length}
use Rattle.std.specs.Global.{Global}
use Rattle.sst_entries.specs.Entry.{Entry}
use Rattle.sst_entries.specs.declared.error.Error.{Error}
use Rattle.lsm_iters.specs.Range.{Range, RangeGives, back_next, front_next}
use Rattle.lsm_iters.specs.Words.{back_of, front_of}
use Rattle.lsm_readers.specs.Scan.{IsEndedScan, Scan, ScansLent}
use Rattle.sst_c.proofs.Scanning.{ends_by}
use Rattle.sst_c.specs.Newest.{LentNewestAt, NewestAt}
use Rattle.sst_c.specs.Reads.{IsMergedAs, MergedReads, ReadsOn, StepsRange, gives_at}
use Rattle.sst_c.specs.Steps.{StepsAs, StepsBy}
use Rattle.sst_c.specs.Takes.{EndsWith, ReadsMany, Yields}
use Rattle.sst_c.specs.What.{IsRangeWhere, IsRunsScanAs, IsScanWhere, MergedStepsBy, is_scan}
use Rattle.sst_c.specs.declared.entries.EntryReport.{EntryReport}
use Rattle.sst_c.specs.declared.held.What.{What}
use Rattle.sst_c.specs.declared.held.What.TheVariants.{Answers, Compaction, Files, Merged, MultiWriter}
use Rattle.sst_c.specs.declared.held.What.TheVariants.{Packing, Range as RangeOf}
use Rattle.sst_c.specs.declared.held.What.TheVariants.{Runs, RunsScan as RunsScanOf, Scan as ScanOf, Table, Verification}

-- a bulk read of one source is that of another, if each read of the one is one of the other
module _ {S T : Type 0} (A : S → ℕ → Option Entry → S → Type 0) (B : T → ℕ → Option Entry → T → Type 0)
    (Is : S → T → Type 0)
    (same : (s v : S) (t : T) (code : ℕ) (found : Option Entry) → Is s t → A s code found v
    → (u : T) × Is v u × B t code found u) where
  yields_so : (s v : S) (t : T) (es : List Entry) → Is s t → Yields A s es v
      → (u : T) × Is v u × Yields B t es u
  yields_so s v t [] is one = (t, subst (λ (x : S). Is x t) one is, refl)
  yields_so s v t (e ∷ es) is more =
      let step = same s more.0 t 0 (Some e) is more.1 in
      let rest = yields_so more.0 v step.0 es step.1 more.2 in
      (rest.0, rest.1, (step.0, step.2, rest.2))

  ends_so : (s v : S) (t : T) (places room : ℕ) (es : List Entry) (code : ℕ) (found : Option Entry) → Is s t
      → EndsWith A places room es s code found v → (u : T) × Is v u × EndsWith B places room es t code found u
  ends_so s v t places room es code found is ends = elim ends [
    | inl full ↦ (t, subst (λ (x : S). Is x t) full.3 is, inl (full.0, full.1, full.2, refl))
    | inr more ↦ (let step = same s v t code found is more.1 in
        (step.0, step.1, inr (more.0, step.2, more.2)))
  ]

  pub many_so : (s v : S) (t : T) (places returned : List EntryReport) (room copied : List ℕ)
      (count code : ℕ) (found : Option Entry) → Is s t
      → ReadsMany A s places returned room copied count code found v
      → (u : T) × Is v u × ReadsMany B t places returned room copied count code found u
  many_so s v t places returned room copied count code found is many =
      let yields = yields_so s many.last t many.entries is many.yields in
      let ends = ends_so many.last v yields.0 (length places) (length room) many.entries code found yields.1 many.ends in (
        ends.0,
        ends.1,
        record {
          entries = many.entries;
          last = yields.0;
          yields = yields.2;
          ends = ends.2;
          counts = many.counts;
          states = many.states;
          copies = many.copies;
        },
      )

-- a bulk read whose reads are of a part of what is read is one of that part
pub part_many : {S T : Type 0} (part : S → T) (B : T → ℕ → Option Entry → T → Type 0) (s v : S)
    (places returned : List EntryReport) (room copied : List ℕ) (count code : ℕ) (found : Option Entry)
    → ReadsMany (λ (x : S) (c : ℕ) (f : Option Entry) (y : S). B (part x) c f (part y)) s places returned
    room copied count code found v
    → ReadsMany B (part s) places returned room copied count code found (part v)
part_many {S} {T} part B s v places returned room copied count code found many =
    let so = many_so (λ (x : S) (c : ℕ) (f : Option Entry) (y : S). B (part x) c f (part y)) B
    (λ (x : S) (t : T). part x ≡ t)
    (λ x y t c f is step. (part y, refl, subst (λ (z : T). B z c f (part y)) is step))
    s v (part s) places returned room copied count code found refl many in
    subst (λ (z : T). ReadsMany B (part s) places returned room copied count code found z) (sym so.1) so.2

-- a scan or a range of which something holds is one
scan_where : (w : What) (P : Scan → Type 0) → IsScanWhere P w → (s : Scan) × (w ≡ ScanOf s) × P s
scan_where (ScanOf s) P is = (s, refl, is)
scan_where (Table x) P is = absurd is
scan_where (RangeOf x) P is = absurd is
scan_where (Merged x) P is = absurd is
scan_where (Files x) P is = absurd is
scan_where (Runs x) P is = absurd is
scan_where (Answers x) P is = absurd is
scan_where (Verification x) P is = absurd is
scan_where (Packing x) P is = absurd is
scan_where (Compaction x) P is = absurd is
scan_where (MultiWriter x) P is = absurd is
scan_where (RunsScanOf x) P is = absurd is

range_where : (w : What) (P : Range Global → Type 0) → IsRangeWhere P w → (s : Range Global) × (w ≡ RangeOf s) × P s
range_where (RangeOf s) P is = (s, refl, is)
range_where (Table x) P is = absurd is
range_where (ScanOf x) P is = absurd is
range_where (Merged x) P is = absurd is
range_where (Files x) P is = absurd is
range_where (Runs x) P is = absurd is
range_where (Answers x) P is = absurd is
range_where (Verification x) P is = absurd is
range_where (Packing x) P is = absurd is
range_where (Compaction x) P is = absurd is
range_where (MultiWriter x) P is = absurd is
range_where (RunsScanOf x) P is = absurd is

merged_where : (w : What) (P : Option NewestAt → Type 0) → IsMergedAs P w → (m : Option NewestAt) × (w ≡ Merged m) × P m
merged_where (Merged m) P is = (m, refl, is)
merged_where (Table x) P is = absurd is
merged_where (ScanOf x) P is = absurd is
merged_where (RangeOf x) P is = absurd is
merged_where (Files x) P is = absurd is
merged_where (Runs x) P is = absurd is
merged_where (Answers x) P is = absurd is
merged_where (Verification x) P is = absurd is
merged_where (Packing x) P is = absurd is
merged_where (Compaction x) P is = absurd is
merged_where (MultiWriter x) P is = absurd is
merged_where (RunsScanOf x) P is = absurd is

runs_scan_where : (w : What) (P : Option LentNewestAt → Type 0) → IsRunsScanAs P w
    → (m : Option LentNewestAt) × (w ≡ RunsScanOf m) × P m
runs_scan_where (RunsScanOf m) P is = (m, refl, is)
runs_scan_where (Table x) P is = absurd is
runs_scan_where (ScanOf x) P is = absurd is
runs_scan_where (RangeOf x) P is = absurd is
runs_scan_where (Merged x) P is = absurd is
runs_scan_where (Files x) P is = absurd is
runs_scan_where (Runs x) P is = absurd is
runs_scan_where (Answers x) P is = absurd is
runs_scan_where (Verification x) P is = absurd is
runs_scan_where (Packing x) P is = absurd is
runs_scan_where (Compaction x) P is = absurd is
runs_scan_where (MultiWriter x) P is = absurd is

module _ (front back : NewestAt → Option (Result Entry Error) → NewestAt → Type 0)
    (advances : LentNewestAt → Option (Result Entry Error) → LentNewestAt → Type 0) (at_back : Bool) where
  -- what a bulk read of a handle is, by what the handle holds
  pub scan_many : (w v : What) (s : Scan) (places returned : List EntryReport) (room copied : List ℕ)
      (count code : ℕ) (found : Option Entry) → w ≡ ScanOf s
      → ReadsMany (ReadsOn front back advances at_back) w places returned room copied count code found v
      → IsScanWhere (ReadsMany (StepsBy ScansLent) s places returned room copied count code found) v
  scan_many w v s places returned room copied count code found is many =
      let P : Scan → Type 0 = ReadsMany (StepsBy ScansLent) s places returned room copied count code found in
      let so = many_so (ReadsOn front back advances at_back) (StepsBy ScansLent) (λ (x : What) (y : Scan). x ≡ ScanOf y)
      (λ x y t c f same step. scan_where y (StepsBy ScansLent t c f) (step.scan t same))
      w v s places returned room copied count code found is many in
      subst (IsScanWhere P) (sym so.1) so.2

  pub range_many : (w v : What) (s : Range Global) (places returned : List EntryReport) (room copied : List ℕ)
      (count code : ℕ) (found : Option Entry) → w ≡ RangeOf s
      → ReadsMany (ReadsOn front back advances at_back) w places returned room copied count code found v
      → IsRangeWhere (ReadsMany (StepsBy (gives_at (RangeGives front_of front_next)
      (RangeGives back_of back_next) at_back)) s places returned room copied count code found) v
  range_many w v s places returned room copied count code found is many =
      let gives : Range Global → Option (Result Entry Error) → Range Global → Type 0 =
      gives_at (RangeGives front_of front_next) (RangeGives back_of back_next) at_back in
      let P : Range Global → Type 0 = ReadsMany (StepsBy gives) s places returned room copied count code found in
      let so = many_so (ReadsOn front back advances at_back) (StepsBy gives) (λ (x : What) (y : Range Global). x ≡ RangeOf y)
      (λ x y t c f same step. range_where y (StepsBy gives t c f) (step.range t same))
      w v s places returned room copied count code found is many in
      subst (IsRangeWhere P) (sym so.1) so.2

  pub merged_many : (w v : What) (m : Option NewestAt) (places returned : List EntryReport)
      (room copied : List ℕ) (count code : ℕ) (found : Option Entry) → w ≡ Merged m
      → ReadsMany (ReadsOn front back advances at_back) w places returned room copied count code found v
      → IsMergedAs (ReadsMany (MergedReads (gives_at front back at_back)) m places returned room copied
      count code found) v
  merged_many w v m places returned room copied count code found is many =
      let reads : Option NewestAt → ℕ → Option Entry → Option NewestAt → Type 0 = MergedReads (gives_at front back at_back) in
      let P : Option NewestAt → Type 0 = ReadsMany reads m places returned room copied count code found in
      let so = many_so (ReadsOn front back advances at_back) reads (λ (x : What) (y : Option NewestAt). x ≡ Merged y)
      (λ x y t c f same step. merged_where y (reads t c f) (step.merged t same))
      w v m places returned room copied count code found is many in
      subst (IsMergedAs P) (sym so.1) so.2

  pub runs_scan_many : (w v : What) (m : Option LentNewestAt) (places returned : List EntryReport)
      (room copied : List ℕ) (count code : ℕ) (found : Option Entry) → w ≡ RunsScanOf m
      → ReadsMany (ReadsOn front back advances at_back) w places returned room copied count code found v
      → IsRunsScanAs (ReadsMany (MergedReads advances) m places returned room copied count code found) v
  runs_scan_many w v m places returned room copied count code found is many =
      let reads : Option LentNewestAt → ℕ → Option Entry → Option LentNewestAt → Type 0 = MergedReads advances in
      let P : Option LentNewestAt → Type 0 = ReadsMany reads m places returned room copied count code found in
      let so = many_so (ReadsOn front back advances at_back) reads
      (λ (x : What) (y : Option LentNewestAt). x ≡ RunsScanOf y)
      (λ x y t c f same step. runs_scan_where y (reads t c f) (step.runs_scan t same))
      w v m places returned room copied count code found is many in
      subst (IsRunsScanAs P) (sym so.1) so.2

-- a step of a range of several runs, as what it leads to
as_merged : (gives : NewestAt → Option (Result Entry Error) → NewestAt → Type 0) (s : NewestAt) (code : ℕ)
    (found : Option Entry) (v : What) → MergedStepsBy gives s code found v
    → IsMergedAs (MergedReads gives (Some s) code found) v
as_merged gives s code found (Merged m) is = is
as_merged gives s code found (Table x) is = absurd is
as_merged gives s code found (ScanOf x) is = absurd is
as_merged gives s code found (RangeOf x) is = absurd is
as_merged gives s code found (Files x) is = absurd is
as_merged gives s code found (Runs x) is = absurd is
as_merged gives s code found (Answers x) is = absurd is
as_merged gives s code found (Verification x) is = absurd is
as_merged gives s code found (Packing x) is = absurd is
as_merged gives s code found (Compaction x) is = absurd is
as_merged gives s code found (MultiWriter x) is = absurd is
as_merged gives s code found (RunsScanOf x) is = absurd is

module _ (front back : NewestAt → Option (Result Entry Error) → NewestAt → Type 0)
    (advances : LentNewestAt → Option (Result Entry Error) → LentNewestAt → Type 0) where
  merged_read : (at_back : Bool) (w v : What) (code : ℕ) (found : Option Entry)
      → ((s : NewestAt) → w ≡ Merged (Some s) → at_back ≡ false → MergedStepsBy front s code found v)
      → ((s : NewestAt) → w ≡ Merged (Some s) → at_back ≡ true → MergedStepsBy back s code found v)
      → (w ≡ Merged None → (code ≡ 0) × (found ≡ None) × (v ≡ Merged None))
      → (m : Option NewestAt) → w ≡ Merged m
      → IsMergedAs (MergedReads (gives_at front back at_back) m code found) v
  merged_read false w v code found first last over (Some s) is = as_merged front s code found v (first s is refl)
  merged_read true w v code found first last over (Some s) is = as_merged back s code found v (last s is refl)
  merged_read false w v code found first last over None is =
      let no = over is in
      subst (IsMergedAs (MergedReads front None code found)) (sym no.2) (no.0, no.1, refl)
  merged_read true w v code found first last over None is =
      let no = over is in
      subst (IsMergedAs (MergedReads back None code found)) (sym no.2) (no.0, no.1, refl)

  range_read : (at_back : Bool) (w v : What) (code : ℕ) (found : Option Entry)
      → ((s : Range Global) → w ≡ RangeOf s → at_back ≡ false
      → IsRangeWhere (StepsBy (RangeGives front_of front_next) s code found) v)
      → ((s : Range Global) → w ≡ RangeOf s → at_back ≡ true
      → IsRangeWhere (StepsBy (RangeGives back_of back_next) s code found) v)
      → (s : Range Global) → w ≡ RangeOf s → IsRangeWhere
      (StepsBy (gives_at (RangeGives front_of front_next) (RangeGives back_of back_next) at_back) s code found) v
  range_read false w v code found first last s is = first s is refl
  range_read true w v code found first last s is = last s is refl

  runs_scan_read : (w v : What) (code : ℕ) (found : Option Entry)
      → ((s : LentNewestAt) → w ≡ RunsScanOf (Some s) → IsRunsScanAs (StepsAs advances s code found) v)
      → (w ≡ RunsScanOf None → (code ≡ 0) × (found ≡ None) × (v ≡ RunsScanOf None))
      → (m : Option LentNewestAt) → w ≡ RunsScanOf m
      → IsRunsScanAs (MergedReads advances m code found) v
  runs_scan_read w v code found steps over (Some s) is =
      let left = runs_scan_where v (StepsAs advances s code found) (steps s is) in
      subst (IsRunsScanAs (MergedReads advances (Some s) code found)) (sym left.1) left.2
  runs_scan_read w v code found steps over None is =
      let no = over is in
      subst (IsRunsScanAs (MergedReads advances None code found)) (sym no.2) (no.0, no.1, refl)

  -- a read of a scan, and of a range
  pub scan_reads : (at_back : Bool) (w v : What) (code : ℕ) (found : Option Entry) → is_scan w ≡ true
      → ((s : Scan) → w ≡ ScanOf s → IsScanWhere (StepsBy ScansLent s code found) v)
      → ((s : LentNewestAt) → w ≡ RunsScanOf (Some s) → IsRunsScanAs (StepsAs advances s code found) v)
      → (w ≡ RunsScanOf None → (code ≡ 0) × (found ≡ None) × (v ≡ RunsScanOf None))
      → ReadsOn front back advances at_back w code found v
  scan_reads at_back w v code found scan steps runs_steps over = record {
    scan = steps;
    runs_scan = runs_scan_read w v code found runs_steps over;
    range = λ s is. absurd (let no : true ≡ false = sym scan ∙ ap is_scan is in let none : ⊥ = cc in none);
    merged = λ m is. absurd (let no : true ≡ false = sym scan ∙ ap is_scan is in let none : ⊥ = cc in none);
  }

  pub range_reads : (at_back : Bool) (w v : What) (code : ℕ) (found : Option Entry) → is_scan w ≡ false
      → StepsRange front back at_back w code found v → ReadsOn front back advances at_back w code found v
  range_reads at_back w v code found scan steps = record {
    scan = λ s is. absurd (let no : false ≡ true = sym scan ∙ ap is_scan is in let none : ⊥ = cc in none);
    runs_scan = λ m is. absurd (let no : false ≡ true = sym scan ∙ ap is_scan is in let none : ⊥ = cc in none);
    range = range_read at_back w v code found steps.front steps.back;
    merged = merged_read at_back w v code found steps.merged_front steps.merged_back steps.over;
  }

-- a bulk read of a scan that found nothing, with places left, is at the end
pub ended_many : (v : What) (s : Scan) (places returned : List EntryReport) (room copied : List ℕ) (count code : ℕ)
    (found : Option Entry)
    → IsScanWhere (ReadsMany (StepsBy ScansLent) s places returned room copied count code found) v
    → found ≡ None → count < length places → IsScanWhere IsEndedScan v
ended_many v s places returned room copied count code found many none left =
    let scan = scan_where v (ReadsMany (StepsBy ScansLent) s places returned room copied count code found) many in
    subst (IsScanWhere IsEndedScan) (sym scan.1) (ended_at scan.0 scan.2)
  where
    ended_at : (t : Scan) → ReadsMany (StepsBy ScansLent) s places returned room copied count code found t
        → IsEndedScan t
    ended_at t many = elim many.ends [
      | inl full ↦ absurd (let same : count ≡ length places = many.counts ∙ full.0 in let no : ⊥ = omega arith in no)
      | inr more ↦ ends_by many.last t code found more.1 none
    ]

pub ruleset one_read = (scan_reads, range_reads)
