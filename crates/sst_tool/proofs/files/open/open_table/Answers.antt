use Rattle.sst_tool.proofs.Opened.{refused_told}
use Rattle.sst_tool.proofs.files.open.open_table.Goals as goal

pub returns-in-Err-clause-returned : goal.returns-in-Err-clause-returned
returns-in-Err-clause-returned g c =
    refused_told c.args.pinned (g.P.Place.content c.args.place.now c.args.path.now) c.in_ok-bytes.bytes c.in-Err.error c.in_ok-bytes.ensures.bytes c.in-Err.ensures.returned
