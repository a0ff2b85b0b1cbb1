use Rattle.std.proofs.Common.{◌≤◌, Some, length, rules, arith, ap, sym, ◌∙◌}
use Rattle.std.proofs.lemmas.List.{take_rest}
use Rattle.std.proofs.lemmas.Option.{none-some, some_pair_parts}
use Rattle.sst_blocks.proofs.Items.{holds}
use Rattle.sst_blocks.proofs.reading.places.item_at.Goals as goal

pub slice_bounds-read-count : goal.slice_bounds-read-count
slice_bounds-read-count g c =
    let h = holds (g.R.ItemRef.format c.args.version) c.is_format.ensures.advances _ _ c.args.index c.at-start.result c.requires.spelled c.requires.within c.at-start.ensures.found in
    omega (arith, h.here.within)

pub slice_bounds-read-start : goal.slice_bounds-read-start
slice_bounds-read-start g c =
    let h = holds (g.R.ItemRef.format c.args.version) c.is_format.ensures.advances _ _ c.args.index c.at-start.result c.requires.spelled c.requires.within c.at-start.ensures.found in
    let le : c.at-start.result ≤ length c.args.payload.now = omega (arith, h.here.within) in
    search rules

pub unreachable-requires : goal.unreachable-requires
unreachable-requires g c =
    let f = g.R.ItemRef.format c.args.version in
    let h = holds f c.is_format.ensures.advances _ _ c.args.index c.at-start.result c.requires.spelled c.requires.within c.at-start.ensures.found in
    none-some _ (c.in-None.ensures ∙ ap f.read (take_rest c.args.payload.now c.at-start.result) ∙ h.here.found)

pub returns : goal.returns
returns g c =
    let f = g.R.ItemRef.format c.args.version in
    let h = holds f c.is_format.ensures.advances _ _ c.args.index c.at-start.result c.requires.spelled c.requires.within c.at-start.ensures.found in
    h.there ∙ ap (λ x. Some x) (some_pair_parts _ _ _ _ (sym h.here.found ∙ sym (ap f.read (take_rest c.args.payload.now c.at-start.result)) ∙ sym c.in-Some.ensures)).0
