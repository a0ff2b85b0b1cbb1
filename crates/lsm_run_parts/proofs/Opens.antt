-- Opening the next table at an end, as a load of a part of a walk.
use Rattle.std.proofs.Common.{◌≡◌, ℕ, suc, ◌-◌, ◌<◌, ◌≤◌, List, drop, get_or}
use Rattle.std.proofs.Common.{length, take, Bool, true, false, refl, sym, ap, subst, ◌∙◌, arith}
use Rattle.std.specs.Prelude.{Option, Some, None, Result, Ok, Err, IfOk, if◌then◌else◌}
use Rattle.std.specs.declared.ops.Bound.{Bound}
use Rattle.std.specs.declared.ops.Bound.TheVariants.{Unbounded}
use Rattle.std.specs.List.{slice_get}
use Rattle.sst_entries.specs.declared.error.Error.{Error}
use Rattle.sst_entries.specs.declared.error.Error.TheVariants.{OutOfMemory}
use Rattle.sst_entries.specs.declared.stream.Direction.{Direction}
use Rattle.sst_entries.specs.declared.stream.Direction.TheVariants.{Front, Back}
use Rattle.sst_entries.specs.Stream.{back_of}
use Rattle.lsm_iters.specs.walk.Ends.{taken_at}
use Rattle.lsm_iters.specs.walk.Parts.{LoadGives}
use Rattle.lsm_iters.proofs.AtEnds.{map_none, map_taken, none_at, not_memory}
use Rattle.lsm_iters.proofs.Instances.{sum_taken}
use Rattle.lsm_iters.specs.Range.{Range, range_left, range_loads, range_remains}
use Rattle.lsm_iters.proofs.RangeEnds.{if_false}
use Rattle.lsm_readers.specs.Ranges.{IsRangeOf}
use Rattle.lsm_readers.specs.point.Table.{OpenTable}
use Rattle.lsm_readers.proofs.TableRanges.{come, index_come, left_is}
use Rattle.lsm_run_parts.specs.RunParts.{Part, RunSpan, is_edge, part_loads, part_read_results, span_part_at}
use Rattle.lsm_run_parts.specs.RunParts.{span_parts_between, span_parts_from}
use Rattle.lsm_run_parts.specs.Tables.{Unopened}
use Rattle.lsm_run_parts.specs.Tables.{KeepsTables, coming_tables, none_unopened, place_taken}
use Rattle.lsm_run_parts.specs.Tables.{table_named}
use Rattle.lsm_run_parts.proofs.Places.{first_between, last_between, part_there}
use Rattle.lsm_run_parts.proofs.Places.{same_there, table_at}

-- the tables from one place up to another
abbrev pub held : RunSpan → List OpenTable → ℕ → ℕ → ℕ → Unopened
held span ts lo hi opened = record { parts = span_parts_between span ts lo hi; opened = opened }

module _ {A : Type 0} where
  -- ---- the reader of the table at a place

  module _ (span : RunSpan) (ts : List OpenTable) (place : ℕ) (u : OpenTable)
      (less : place < length ts) (is : u ≡ get_or ts place u) (r : Result (Range A) Error) where
    abbrev Reads : Type 0
    Reads = (t : OpenTable) → slice_get ts place ≡ Some t
        → IfOk r (λ (x : Range A). IsRangeOf (span_part_at span place t).table
        (span_part_at span place t).low (span_part_at span place t).high x)

    abbrev part_if : OpenTable → Bool → Part
    part_if t b = if b then record { table = t; low = span.low; high = span.high }
        else record { table = t; low = Unbounded; high = Unbounded }

    abbrev ReadsPart : Part → Type 0
    ReadsPart p = IfOk r (λ (x : Range A). IsRangeOf p.table p.low p.high x)

    pub reads_end : is_edge span place ≡ true → (low high : Bound (List ℕ)) → low ≡ span.low
        → high ≡ span.high → IfOk r (IsRangeOf u low high) → Reads
    reads_end edge low high from to reads t at =
        let lower : IfOk r (IsRangeOf u span.low high) =
        subst (λ (b : Bound (List ℕ)). IfOk r (IsRangeOf u b high)) from reads in
        let both : IfOk r (IsRangeOf u span.low span.high) =
        subst (λ (b : Bound (List ℕ)). IfOk r (IsRangeOf u span.low b)) to lower in
        subst ReadsPart (sym (ap (part_if t) edge))
        (subst (λ (v : OpenTable). IfOk r (IsRangeOf v span.low span.high))
        (same_there ts place u t less is at) both)

    pub reads_whole : is_edge span place ≡ false → IfOk r (IsRangeOf u Unbounded Unbounded) → Reads
    reads_whole edge reads t at =
        subst ReadsPart (sym (ap (part_if t) edge))
        (subst (λ (v : OpenTable). IfOk r (IsRangeOf v Unbounded Unbounded))
        (same_there ts place u t less is at) reads)

-- ---- a reader of a table before its first step

module _ {A : Type 0} (p : Part) (s : Range A) (is : IsRangeOf p.table p.low p.high s) where
  reader_left : range_left s ≡ part_read_results p
  reader_left = left_is p.table p.low p.high s is

  reader_loads : range_loads s ≡ part_loads p
  reader_loads =
      omega (
        arith,
        ap length (come p.table p.low p.high s is),
        index_come p.table p.low p.high s is,
        if_false {X = ℕ} s.handles.sought 0 1 is.unsought,
      )

-- ---- the next table at an end

module _ (span : RunSpan) (ts : List OpenTable) (lo hi : ℕ) (less : lo < hi)
    (within : hi ≤ length ts) where
  -- the table at an end, as its part
  record Taken (at : Direction) (p : ℕ × ℕ × ℕ) : Type 0 where
    pub table : OpenTable
    pub there : slice_get ts p.0 ≡ Some table
    pub takes : taken_at at (span_parts_between span ts lo hi)
        ≡ (Some (span_part_at span p.0 table), span_parts_between span ts p.1 p.2)

  taken : (at : Direction) → Taken at (place_taken at lo hi)
  taken Front =
      let t = table_at ts lo (omega (arith, less, within)) in
      record {
        table = t.0;
        there = t.1;
        takes = first_between (span_parts_from span 0 ts) lo hi (span_part_at span lo t.0)
            (part_there span ts lo t.0 t.1) less;
      }
  taken Back =
      let t = table_at ts (hi - 1) (omega (arith, less, within)) in
      let last : hi ≡ suc (hi - 1) = omega (arith, less) in
      record {
        table = t.0;
        there = t.1;
        takes = ap (λ (n : ℕ). back_of (take (n - lo) (drop lo (span_parts_from span 0 ts)))) last
            ∙ last_between (span_parts_from span 0 ts) lo (hi - 1) (span_part_at span (hi - 1) t.0)
            (part_there span ts (hi - 1) t.0 t.1) (omega (arith, less));
      }

  abbrev ReadsAt : {A : Type 0} → ℕ → Range A → Type 0
  ReadsAt place x = (t : OpenTable) → slice_get ts place ≡ Some t
      → IsRangeOf (span_part_at span place t).table (span_part_at span place t).low
      (span_part_at span place t).high x

  pub opens_at : {A : Type 0} (at : Direction) (opened : ℕ) (p : ℕ × ℕ × ℕ) (x : Range A)
      (count : ℕ) → p ≡ place_taken at lo hi → count ≡ suc opened → ReadsAt p.0 x
      → LoadGives range_remains coming_tables KeepsTables at (held span ts lo hi opened)
      (Some (Ok x)) (held span ts p.1 p.2 count)
  opens_at at opened p x count is more reads =
      let t = subst (Taken at) (sym is) (taken at) in
      let part : Part = span_part_at span p.0 t.table in
      let before : List Part = span_parts_between span ts lo hi in
      let behind : List Part = span_parts_between span ts p.1 p.2 in
      let reader = reads t.table t.there in
      record {
        named = Some (table_named part);
        names = map_taken table_named at before behind part t.takes;
        returned = reader_left part x reader;
        loads = omega (
          arith,
          reader_loads part x reader,
          sum_taken part_loads at before behind part
              t.takes,
        );
        first = λ f early. let wrong : None ≡ Some f = early in absurd cc;
        kept = omega (arith, more);
      }

  -- it could not be opened
  pub refused_at : (A : Type 0) (at : Direction) (opened : ℕ) (e : Error) (v : Unopened)
      → e ≡ OutOfMemory → v ≡ none_unopened (held span ts lo hi opened)
      → LoadGives {T = Range A} range_remains coming_tables KeepsTables at
      (held span ts lo hi opened) (Some (Err e)) v
  refused_at A at opened e v memory is =
      let before : List Part = span_parts_between span ts lo hi in
      let t = taken at in
      subst (λ (u : Unopened). LoadGives {T = Range A} range_remains coming_tables KeepsTables at
      (held span ts lo hi opened) (Some (Err e)) u) (sym is) (record {
        named = Some (Err e);
        names = (
          λ fine. absurd (not_memory e memory fine),
          λ done. none_at at before _ (map_none table_named before done.parts)
              (ap (λ (x : Option Part × List Part). x.0) t.takes),
          record { parts = refl; loads = refl },
        );
        returned = refl;
        loads = omega arith;
        first = λ f early. let wrong : None ≡ Some f = early in absurd cc;
        kept = omega arith;
      })
