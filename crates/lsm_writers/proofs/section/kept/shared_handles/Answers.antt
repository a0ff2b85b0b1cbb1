-- One handle more is shared.
use Rattle.std.proofs.Common.{◌+◌, ◌∙◌, ◌++◌, ◌∷◌, [], ap, sym, take, List, ℕ, arith}
use Rattle.std.proofs.lemmas.List.{take_all, take_more}
use Rattle.sst_blocks.proofs.Faults.{all_here}
use Rattle.lsm_writers.specs.section.Kept.{LiesAmong, handle_with, handles_among}
use Rattle.lsm_writers.specs.declared.section.kept.HandlePlace.{HandlePlace}
use Rattle.lsm_writers.proofs.Keeping.{shared_more}
use Rattle.lsm_writers.proofs.section.kept.shared_handles.Goals as goal

pub slice-requires-clause-ordered : goal.slice-requires-clause-ordered
slice-requires-clause-ordered g c =
    (all_here (LiesAmong c.args.keys.now) c.args.places.now c.loop-place.place-index c.place-item.result c.requires c.loop-place-test.true c.place-item.is).ordered

pub slice-requires-clause-within : goal.slice-requires-clause-within
slice-requires-clause-within g c =
    (all_here (LiesAmong c.args.keys.now) c.args.places.now c.loop-place.place-index c.place-item.result c.requires c.loop-place-test.true c.place-item.is).within

pub loop-place-preserved : goal.loop-place-preserved
loop-place-preserved g c =
    let i = c.loop-place.place-index in
    let ps = c.args.places.now in
    shared_more c.args.keys.now (take i ps) (take (i + 1) ps) c.place-item.result c.loop-place.handles.items c.push.new.self.items c.new.result
    (take_more ps i c.place-item.result c.loop-place-test.true ∙ ap (λ (p : HandlePlace). take i ps ++ p ∷ []) (sym c.place-item.is))
    c.loop-place.invariant
    (c.new.ensures ∙ ap (λ (k : List ℕ). handle_with k c.place-item.result.seqno c.place-item.result.block) c.in_ok-end_key.ensures.ok) c.in_ok-push.ensures.items

pub returns-clause-ok : goal.returns-clause-ok
returns-clause-ok g c =
    c.loop-place.invariant
    ∙ ap (λ (ps : List HandlePlace). handles_among c.args.keys.now ps) (take_all c.loop-place.place-index c.args.places.now (omega (arith, c.loop-place-test.false)))
