-- The handle's key lies at the end.
use Rattle.std.proofs.Common.{◌∙◌, ap, List, [], ◌∷◌, ◌++◌, unwrap_or}
use Rattle.sst_entries.proofs.StreamLemmas.{on_err}
use Rattle.lsm_writers.specs.section.Kept.{Kept, handle_with, handles_among}
use Rattle.lsm_writers.specs.declared.section.kept.HandlePlace.{HandlePlace}
use Rattle.lsm_writers.proofs.Keeping.{among_one_more, among_pushed, among_same}
use Rattle.lsm_writers.proofs.section.kept.KeptHandles.register.Goals as goal

pub returns-in_err-push-clause-unchanged : goal.returns-in_err-push-clause-unchanged
returns-in_err-push-clause-unchanged g c = on_err c.from_residual-in_err-push.result
    (ap (λ (ps : List HandlePlace). handles_among (unwrap_or c.put_key.new.keys []) ps) c.in_err-push.ensures.items
    ∙ among_same (unwrap_or c.self.inside.keys []) (unwrap_or c.put_key.new.keys []) c.args.end_key.now c.self.inside.places.items c.self.invariant c.in_ok-start.ensures.ok
    ∙ ap (λ (k : Kept). k.handles) c.self.view_is)

pub invariant_of-self-2 : goal.invariant_of-self-2
invariant_of-self-2 g c =
    let p : HandlePlace = record { start = c.in_ok-start.start; end = c.in_ok-start.end; seqno = c.args.seqno; block = c.args.block } in
    among_pushed (unwrap_or c.self.inside.keys []) (unwrap_or c.put_key.new.keys []) c.args.end_key.now c.self.inside.places.items c.self.invariant c.in_ok-start.ensures.ok
    c.push.new.self.items p c.in_ok-start.ensures.start c.in_ok-start.ensures.end c.in_ok-push.ensures.items

pub returns-clause-ok : goal.returns-clause-ok
returns-clause-ok g c =
    let p : HandlePlace = record { start = c.in_ok-start.start; end = c.in_ok-start.end; seqno = c.args.seqno; block = c.args.block } in
    among_one_more (unwrap_or c.self.inside.keys []) (unwrap_or c.put_key.new.keys []) c.args.end_key.now c.self.inside.places.items c.self.invariant c.in_ok-start.ensures.ok
    c.push.new.self.items p c.in_ok-start.ensures.start c.in_ok-start.ensures.end c.in_ok-push.ensures.items
    ∙ ap (λ (k : Kept). k.handles ++ handle_with c.args.end_key.now c.args.seqno c.args.block ∷ []) c.self.view_is
