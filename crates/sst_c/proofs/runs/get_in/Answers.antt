use Rattle.std.proofs.Common.{List, None, Ok, ◌∙◌, subst, sym}
use Rattle.std.specs.Prelude.{map}
use Rattle.std.specs.Arc.{arc_value}
use Rattle.lsm_sorted.specs.version.Packing.{AreInOrder}
use Rattle.lsm_readers.specs.Words.{OpenTable, point}
use Rattle.lsm_runs.specs.Words.{range_of, runs_read, runs_result, union_in}
use Rattle.sst_c.specs.PointReads.{GetsFromRuns}
use Rattle.sst_c.specs.Reported.{found_at}
use Rattle.sst_c.specs.declared.held.What.TheVariants.{Runs}
use Rattle.sst_c.proofs.Answering.{first_reports, ok_reports}
use Rattle.sst_c.proofs.Placing.{run_place_answers}
use Rattle.sst_c.proofs.runs.get_in.Goals as goal

-- the position that is kept is that of the entry that the runs have
pub returns : goal.returns
returns c =
    let key = c.args.key.now in
    let seqno = c.args.seqno in
    let runs = map arc_value c.as_slice.result.now in
    let order = subst (AreInOrder range_of) (sym c.as_slice.ensures.runs) c.as_slice.ensures.order in
    let r = c.place_in_runs.result in
    let code = c.keep_place.result in
    let found = c.keep_place.new.found in
    let told = c.keep_place.ensures in
    let P : List (List OpenTable) → Type 0 = λ rs. GetsFromRuns rs key seqno code (found_at found (Runs rs)) in
    let at : P runs = record {
      returned = run_place_answers runs r (runs_result key seqno None runs) code found told.code told.found
          (c.place_in_runs.ensures.returned order);
      -- the first fault of the read is told
      early = λ e is. told.code
          ∙ first_reports r (runs_read key seqno None runs).early (c.place_in_runs.ensures.early order) e is;
      calm = λ none. told.code ∙ ok_reports r (c.place_in_runs.ensures.calm order none);
      list = λ lists holds. run_place_answers runs r (Ok (point (union_in lists) key seqno)) code found told.code
          told.found (c.place_in_runs.ensures.list lists holds);
    } in
    subst P c.as_slice.ensures.runs at
