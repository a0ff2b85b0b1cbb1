use Rattle.sst_tool.proofs.Opened.{opening_fails, opening_told}
use Rattle.sst_tool.proofs.files.open.open_file_table.Goals as goal

pub returns-in-Ok-clause-recovered : goal.returns-in-Ok-clause-recovered
returns-in-Ok-clause-recovered g c known =
    opening_told g.R.ReadAt.reads c.in-Ok.table (g.R.ReadAt.bytes c.args.file)
    c.in-Ok.ensures.bytes c.in-Ok.ensures.number (c.in-Ok.ensures.returned known)

pub returns-in-Err-clause-returned : goal.returns-in-Err-clause-returned
returns-in-Err-clause-returned g c known =
    opening_fails g.R.ReadAt.reads (g.R.ReadAt.bytes c.args.file) c.in-Err.error c.from.result
    c.from.ensures (c.in-Err.ensures.returned known)
