use Rattle.std.proofs.Common.{false, refl, sym}
use Rattle.sst_entries.specs.Error.{is_memory}
use Rattle.sst_entries.specs.Point.{within}
use Rattle.sst_entries.specs.Stream.{answer_stops}
use Rattle.lsm_sorted.specs.Below.{numbered_below}
use Rattle.lsm_sorted.specs.merge.Union.{newest}
use Rattle.lsm_runs.specs.SeveralRuns.{union_in}
use Rattle.sst_tool.proofs.MergedLemmas.{back_fails, back_printed, from_back, list_fails}
use Rattle.sst_tool.proofs.MergedLemmas.{list_printed}
use Rattle.sst_tool.proofs.show.merged.print_merged.Goals as goal

pub returns-in_ok-newest-clause-list : goal.returns-in_ok-newest-clause-list
returns-in_ok-newest-clause-list g c = λ lists hold.
    let bounds = c.in_ok-bounds.bounds in
    let found = newest (numbered_below c.args.seqno (within bounds.0 bounds.1 (union_in lists))) in
    rw (c.if-options.true, sym c.in_ok-bounds.ensures.lower, sym c.in_ok-bounds.ensures.upper)
    (back_printed c.print_newest_back.result c.args.most found
    (c.print_newest_back.ensures.prints is_memory _
    (from_back _ _ (answer_stops is_memory) _ _
    (c.in_ok-newest.ensures.list lists hold is_memory refl))).0)

pub returns-in_ok-newest-clause-sound : goal.returns-in_ok-newest-clause-sound
returns-in_ok-newest-clause-sound g c = λ lists hold.
    let bounds = c.in_ok-bounds.bounds in
    let found = newest (numbered_below c.args.seqno (within bounds.0 bounds.1 (union_in lists))) in
    back_fails c.print_newest_back.result found
    (c.print_newest_back.ensures.prints is_memory _
    (from_back _ _ (answer_stops is_memory) _ _
    (c.in_ok-newest.ensures.list lists hold is_memory refl))).1

pub returns-in_ok-newest-2-clause-list : goal.returns-in_ok-newest-2-clause-list
returns-in_ok-newest-2-clause-list g c = λ lists hold.
    let bounds = c.in_ok-bounds.bounds in
    let found = newest (numbered_below c.args.seqno (within bounds.0 bounds.1 (union_in lists))) in
    rw (c.if-options.false, sym c.in_ok-bounds.ensures.lower, sym c.in_ok-bounds.ensures.upper)
    (list_printed false c.print_newest.result c.args.most found
    (c.print_newest.ensures.prints is_memory _
    (c.in_ok-newest-2.ensures.list lists hold is_memory refl)).0)

pub returns-in_ok-newest-2-clause-returned : goal.returns-in_ok-newest-2-clause-returned
returns-in_ok-newest-2-clause-returned g c =
    rw (sym c.in_ok-bounds.ensures.lower, sym c.in_ok-bounds.ensures.upper)
    (λ turn order ascends. (c.print_newest.ensures.prints is_memory _
    (c.in_ok-newest-2.ensures.places order ascends is_memory refl)).0)

pub returns-in_ok-newest-2-clause-sound : goal.returns-in_ok-newest-2-clause-sound
returns-in_ok-newest-2-clause-sound g c = λ lists hold.
    let bounds = c.in_ok-bounds.bounds in
    let found = newest (numbered_below c.args.seqno (within bounds.0 bounds.1 (union_in lists))) in
    list_fails c.print_newest.result found
    (c.print_newest.ensures.prints is_memory _
    (c.in_ok-newest-2.ensures.list lists hold is_memory refl)).1
