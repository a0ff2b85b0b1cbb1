use Rattle.sst_script.proofs.ScriptLemmas.{shows_kept}
use Rattle.sst_script.proofs.script.pass_on.Goals as goal

pub returns-in-Ok-clause-shown : goal.returns-in-Ok-clause-shown
returns-in-Ok-clause-shown g c before text shows =
    let old = g.W.Write.contents c.args.output.now in
    let new = g.W.Write.contents c.flush.new.self in
    shows_kept before old new text c.map_err.result (rw c.in-Ok.is at shows) c.flush.ensures.bytes

pub returns-in-Err-clause-shown : goal.returns-in-Err-clause-shown
returns-in-Err-clause-shown g c before text shows = rw c.in-Err.is at shows
