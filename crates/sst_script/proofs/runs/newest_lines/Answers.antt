use Rattle.std.specs.Prelude.{map}
use Rattle.std.specs.Arc.{arc_value}
use Rattle.sst_entries.specs.Point.{within}
use Rattle.lsm_sorted.specs.merge.Union.{newest}
use Rattle.lsm_sorted.specs.version.KeyRange.{key_bound}
use Rattle.sst_script.specs.Runs.{union}
use Rattle.sst_script.proofs.CompactLemmas.{able_writable}
use Rattle.sst_script.proofs.RunLemmas.{range_yields}
use Rattle.sst_script.proofs.runs.newest_lines.Goals as goal

pub returns : goal.returns
returns g c rs same =
    let a = c.args in
    let ts = map arc_value a.runs.now in
    c.lines_of_newest.ensures (newest (within (key_bound a.low) (key_bound a.high) (union rs)))
    (range_yields rs ts same _ c.in_ok-stream.stream c.in_ok-owned.field-0 c.in_ok-owned-2.field-0 (key_bound a.low) (key_bound a.high) c.in_ok-owned.ensures.ok c.in_ok-owned-2.ensures.ok (able_writable rs ts same c.requires).numbered c.in_ok-stream.ensures.whole)
