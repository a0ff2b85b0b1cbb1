-- A step of the walk over tables, as a call of a reader of a run.
use Rattle.std.proofs.Common.{◌≡◌, ℕ, suc, ◌+◌, ◌≤◌, List, [], ◌∷◌, ◌++◌, length, map}
use Rattle.std.proofs.Common.{reverse, refl, sym, ap, subst, ◌∙◌, arith}
use Rattle.std.proofs.lemmas.List.{length-map}
use Rattle.std.proofs.lemmas.List.Sums.{sum_by-append}
use Rattle.std.specs.Prelude.{Option, Some, None, Result, Ok, Err}
use Rattle.sst_entries.specs.declared.error.Error.{Error}
use Rattle.sst_entries.specs.declared.stream.Direction.{Direction}
use Rattle.sst_entries.specs.declared.stream.Direction.TheVariants.{Front, Back}
use Rattle.sst_entries.specs.Entry.{Entry}
use Rattle.lsm_iters.specs.declared.walk.Walk.{Walk}
use Rattle.lsm_iters.specs.walk.Ends.{IsOver, taken_at}
use Rattle.lsm_iters.specs.walk.Parts.{Loading, Loads, all_results, loads_in, needed, none_behind}
use Rattle.lsm_iters.specs.walk.Walks.{Ended, WalkGives, WalkTakes, needed_at, walk_left}
use Rattle.lsm_iters.proofs.AtEnds.{map_seen, no_items, shortens}
use Rattle.lsm_iters.proofs.Instances.{loads_one, positive}
use Rattle.std.specs.Option.{option_map}
use Rattle.lsm_iters.specs.Range.{LendsOn, Range, range_remains}
use Rattle.lsm_iters.specs.Steps.{without_lent}
use Rattle.lsm_iters.proofs.Ranges.{none_on}
use Rattle.lsm_run_parts.specs.RunParts.{Part, part_loads, part_read_results}
use Rattle.lsm_run_parts.specs.Tables.{Unopened}
use Rattle.lsm_runs.specs.RunRange.{CountsTables, IsRunEnded, RunGives, lent_of_reader}
use Rattle.lsm_run_parts.specs.Tables.{parts_loads}
use Rattle.lsm_runs.specs.RunRange.{left_of_reader, run_left}
use Rattle.lsm_run_parts.specs.Tables.{run_parts_results}
use Rattle.lsm_runs.specs.RunRange.{run_size, tables_at, tables_needed}
use Rattle.lsm_run_parts.specs.Tables.{EndsTables, KeepsTables, coming_tables}
use Rattle.lsm_runs.specs.RunRange.{run_of}
use Rattle.lsm_run_parts.specs.Tables.{table_named}

abbrev pub R : Type 0
R = Result Entry Error

abbrev pub End : Type 0
End = List R → Option R × List R

abbrev Named : Type 0
Named = Option (Result (Loading Entry) Error)

-- ---- tables that are not opened

reported_tables : (ps : List Part) → all_results (map table_named ps) ≡ run_parts_results ps
reported_tables [] = refl
reported_tables (p ∷ ps) = ap (λ (rs : List R). part_read_results p ++ rs) (reported_tables ps)

needed_tables : (ps : List Part) → needed (map table_named ps) ≡ tables_needed ps
needed_tables [] = refl
needed_tables (p ∷ ps) = ap (λ (n : ℕ). suc (none_behind (part_read_results p) n)) (needed_tables ps)

-- each of them may load something
each_loads : (ps : List Part) → length ps ≤ parts_loads ps
each_loads [] = omega arith
each_loads (p ∷ ps) = omega (arith, sum_by-append part_loads (p ∷ []) ps, each_loads ps)

counted : (named : List Named) (s t : Unopened) → Loads KeepsTables s named t
    → t.opened ≡ loads_in named + s.opened
counted [] s t is = omega (arith, ap (λ (u : Unopened). u.opened) is)
counted (x ∷ named) s t loads = omega (
  arith,
  loads_one x named,
  loads.2,
  counted named s loads.0
      loads.1,
)

-- ---- a walk and its reader of a run

abbrev W : Type 0 → Type 0
W A = Walk Unopened (Range A)

module _ {A : Type 0} where
  left_is : (w : W A) → (walk_left range_remains coming_tables w).results ≡ run_left (run_of w)
  left_is w =
      ap (λ (rs : List R). left_of_reader w.front ++ (rs ++ left_of_reader w.back))
      (reported_tables w.parts.parts)

  needs_is : (at : Direction) (w : W A)
      → needed_at range_remains coming_tables at w ≡ tables_at at (run_of w)
  needs_is Front w = ap (none_behind (left_of_reader w.front)) (needed_tables w.parts.parts)
  needs_is Back w =
      ap (λ (ps : List (Result (Loading Entry) Error)). none_behind (left_of_reader w.back)
      (needed ps)) (map_seen table_named Back w.parts.parts)
      ∙ ap (none_behind (left_of_reader w.back)) (needed_tables (reverse w.parts.parts))

  over_is : (w : W A) → IsOver (walk_left range_remains coming_tables w) → IsRunEnded (run_of w)
  over_is w over = omega (arith, ap length (sym (left_is w) ∙ over.results), over.loads)

  over_from : (w : W A) → IsRunEnded (run_of w) → IsOver (walk_left range_remains coming_tables w)
  over_from w ended = record {
    results = left_is w ∙ no_items (run_left (run_of w)) (omega (arith, ended));
    loads = omega (arith, ended, each_loads w.parts.parts, length-map w.parts.parts table_named);
  }

  ended_is : (u v : W A) → Ended coming_tables EndsTables u v → IsRunEnded (run_of v)
  ended_is u v ended =
      ap (λ (o : Option (Range A)). run_size (record (run_of v) { front = o })) ended.front
      ∙ ap (λ (o : Option (Range A)). run_size (record (run_of v) { front = None; back = o }))
      ended.back
      ∙ ap (λ (x : Unopened). run_size {A = A} (record { unopened = x; front = None; back = None }))
      ended.kept

  counts : (at : Direction) (w u : W A) (r : Option R) (t : Unopened)
      → WalkTakes range_remains coming_tables KeepsTables at w r u → t.opened ≡ u.parts.opened
      → length t.parts ≤ length u.parts.parts → CountsTables (tables_at at (run_of w)) w.parts t
  counts at w u r t takes same fewer = record {
    count = loads_in takes.named;
    counts = same ∙ counted takes.named w.parts u.parts takes.loads;
    within = omega (
      arith,
      takes.within,
      fewer,
      length-map w.parts.parts table_named,
      length-map
          u.parts.parts table_named,
    );
    most = omega (arith, takes.most, needs_is at w);
  }

  pub run_gives : (at : Direction) (w v : W A) (r : Option R)
      → WalkGives range_remains coming_tables KeepsTables EndsTables at w r v
      → LendsOn r (lent_of_reader v.front)
      → RunGives (taken_at at) (tables_at at) (run_of w) r (run_of v)
  unfolding counts
  run_gives at w v None gives on =
      let takes = gives.takes in
      let u : W A = gives.taken in
      let here : LendsOn None (lent_of_reader u.front) =
      subst (λ (x : W A). LendsOn None (lent_of_reader x.front)) gives.goes on in
      subst (λ (x : W A). RunGives (taken_at at) (tables_at at) (run_of w) None (run_of x))
      (sym gives.goes) (record {
        answer = sym (left_is w) ∙ takes.answer.0;
        ends = tt;
        lowers = over_is u takes.answer.1;
        tables = counts at w u None u.parts takes refl (omega arith);
        exact = λ fine. takes.exact fine ∙ needs_is at w;
        lent = here;
      })
  run_gives at w v (Some (Ok e)) gives on =
      let takes = gives.takes in
      let u : W A = gives.taken in
      let answer : taken_at at (run_left (run_of w)) ≡ (Some (Ok e), run_left (run_of u)) =
      ap (taken_at at) (sym (left_is w)) ∙ takes.answer
      ∙ ap (λ (rs : List R). (Some (Ok e), rs)) (left_is u) in
      let here : LendsOn (Some (Ok e)) (lent_of_reader u.front) =
      subst (λ (x : W A). LendsOn (Some (Ok e)) (lent_of_reader x.front)) gives.goes on in
      subst (λ (x : W A). RunGives (taken_at at) (tables_at at) (run_of w) (Some (Ok e)) (run_of x))
      (sym gives.goes) (record {
        answer = answer;
        ends = tt;
        lowers = omega (
          arith,
          shortens at (run_left (run_of w)) (run_left (run_of u))
              (Ok e) answer,
          takes.others,
        );
        tables = counts at w u (Some (Ok e)) u.parts takes refl (omega arith);
        exact = λ fine. takes.exact fine ∙ needs_is at w;
        lent = here;
      })
  run_gives at w v (Some (Err e)) gives on =
      let takes = gives.takes in
      let u : W A = gives.taken in
      let ended = ended_is u v gives.goes in
      record {
        answer = λ fine. ap (λ (rs : List R). (taken_at at rs).0) (sym (left_is w))
            ∙ takes.answer.0 fine;
        ends = ended;
        lowers = omega (
          arith,
          ended,
          positive (run_size (run_of w))
              (λ none. takes.answer.1 (over_from w none)),
        );
        tables = counts at w u (Some (Err e)) v.parts takes
            (ap (λ (x : Unopened). x.opened) gives.goes.kept)
            (omega (arith, ap (λ (x : Unopened). length x.parts) gives.goes.kept));
        exact = λ fine. takes.exact fine ∙ needs_is at w;
        lent = on;
      }

-- ---- behind a step by value nothing is lent

module _ {A : Type 0} where
  abbrev pub unlent_walk : W A → W A
  unlent_walk w = record w { front = option_map without_lent w.front }

  takes_unlent : (at : Direction) (w : W A) (r : Option R) (p : Unopened) (f b : Option (Range A))
      → WalkTakes range_remains coming_tables KeepsTables at w r
      (record { parts = p; front = f; back = b })
      → WalkTakes range_remains coming_tables KeepsTables at w r
      (record { parts = p; front = option_map without_lent f; back = b })
  takes_unlent at w r p None b takes = takes
  takes_unlent at w r p (Some s) b takes = record {
    answer = takes.answer;
    others = takes.others;
    named = takes.named;
    loads = takes.loads;
    within = takes.within;
    most = takes.most;
    some = takes.some;
    exact = takes.exact;
    first = takes.first;
  }

  gives_unlent : (at : Direction) (w v : W A) (r : Option R)
      → WalkGives range_remains coming_tables KeepsTables EndsTables at w r v
      → WalkGives range_remains coming_tables KeepsTables EndsTables at w r (unlent_walk v)
  gives_unlent at w v None gives = record {
    taken = unlent_walk gives.taken;
    takes = takes_unlent at w None gives.taken.parts gives.taken.front gives.taken.back gives.takes;
    goes = ap unlent_walk gives.goes;
  }
  gives_unlent at w v (Some (Ok e)) gives = record {
    taken = unlent_walk gives.taken;
    takes = takes_unlent at w (Some (Ok e)) gives.taken.parts gives.taken.front gives.taken.back
        gives.takes;
    goes = ap unlent_walk gives.goes;
  }
  gives_unlent at w v (Some (Err e)) gives = record {
    taken = gives.taken;
    takes = gives.takes;
    goes = record {
      front = ap (option_map without_lent) gives.goes.front;
      back = gives.goes.back;
      done = gives.goes.done;
      kept = gives.goes.kept;
    };
  }

  unlent_on : (r : Option R) (f : Option (Range A))
      → LendsOn r (lent_of_reader (option_map without_lent f))
  unlent_on r None = none_on r
  unlent_on r (Some s) = none_on r

  pub run_gives_unlent : (at : Direction) (w v : W A) (r : Option R)
      → WalkGives range_remains coming_tables KeepsTables EndsTables at w r v
      → RunGives (taken_at at) (tables_at at) (run_of w) r (run_of (unlent_walk v))
  run_gives_unlent at w v r gives =
      run_gives at w (unlent_walk v) r (gives_unlent at w v r gives) (unlent_on r v.front)
