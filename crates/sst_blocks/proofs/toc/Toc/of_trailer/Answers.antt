use Rattle.std.proofs.Common.{ℕ, List, ◌∙◌, arith}
use Rattle.std.proofs.lemmas.List.{take_rest}
use Rattle.sst_blocks.proofs.TrailerLemmas.{fine_trailer, past_trailer, trailer_sections}
use Rattle.sst_blocks.proofs.toc.Toc.of_trailer.Goals as goal

pub returns-then-passes-clause-fault : goal.returns-then-passes-clause-fault
returns-then-passes-clause-fault c bytes is len =
    past_trailer bytes c.args.trailer.now is c.args.body_len len (cc (c.passes.ensures, c.read-toc.ensures, c.if-passes.true))

pub returns-clause-toc : goal.returns-clause-toc
returns-clause-toc c bytes is len = c.read-toc.ensures ∙ trailer_sections bytes c.args.trailer.now is

pub returns-clause-fault : goal.returns-clause-fault
returns-clause-fault c bytes is len =
    let cells : List ℕ = c.args.trailer.now in
    let rest = take_rest cells 112 in
    fine_trailer bytes cells is c.args.body_len len (omega arith) (cc (c.ne.ensures, c.as_slice.ensures, c.if-ne.false)) (cc (c.passes.ensures, c.read-toc.ensures, c.if-passes.false))
