use Rattle.std.proofs.Common.{◌∙◌, sym}
use Rattle.sst_c.proofs.Opening.{opens_err, opens_ok}
use Rattle.sst_c.proofs.compaction_open.begin.Goals as goal

pub returns-in-Ok-clause-starts : goal.returns-in-Ok-clause-starts
returns-in-Ok-clause-starts c =
    let usable = sym c.are_usable.ensures ∙ c.if-not-are_usable.false in
    rw c.in-Runs.is
    (opens_ok _ c.args.options.now c.args.rules c.args.target_size _ usable _ c.begin.result _
    c.in-Ok.ensures.starts c.in-Ok.ensures.opens c.begin.ensures.memory c.begin.ensures.begun)

pub returns-in-Err-clause-starts : goal.returns-in-Err-clause-starts
returns-in-Err-clause-starts c =
    let usable = sym c.are_usable.ensures ∙ c.if-not-are_usable.false in
    rw (c.in-Runs.is, c.from.ensures ∙ c.number.ensures)
    (opens_err _ c.args.options.now c.args.rules c.args.target_size _ usable c.in-Err.error _
    c.in-Err.ensures.opens c.in-Err.ensures.err)
