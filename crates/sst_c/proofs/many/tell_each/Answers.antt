use Rattle.std.proofs.Common.{◌<◌, arith, length, ap, sym, ◌∙◌}
use Rattle.std.proofs.lemmas.Option.{get_or_from_slice_get}
use Rattle.std.specs.Prelude.{slice_set}
use Rattle.std.specs.Option.{option_map}
use Rattle.sst_entries.specs.Lending.{entry_of_ref}
use Rattle.sst_c.specs.Reported.{entry_facts}
use Rattle.sst_c.proofs.ManyAnswers.{one_more_result}
use Rattle.sst_c.proofs.many.tell_each.Goals as goal

-- one more is told
pub loop-at-preserved : goal.loop-at-preserved
loop-at-preserved c =
    let x = option_map entry_of_ref c.entry.result in
    let inside : c.loop-at.at < length c.args.found.now = omega (arith, c.loop-at-test.true, c.len-at-end.ensures) in
    ap (slice_set c.loop-at.entries c.loop-at.at) c.tell.ensures
    ∙ one_more_result entry_facts c.loop-at.at c.args.found.now c.args.entries.now c.loop-at.entries
    x c.loop-at.invariant inside c.requires
    (sym (get_or_from_slice_get c.args.found.now c.loop-at.at x x c.entry.ensures))
