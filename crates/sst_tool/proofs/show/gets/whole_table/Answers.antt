use Rattle.sst_tool.proofs.Gets.{file_fails, passed}
use Rattle.sst_tool.specs.files.Files.{error_of_file}
use Rattle.sst_tool.specs.files.Opened.{TellsRefused}
use Rattle.sst_tool.specs.show.Gets.{FailsOpen}
use Rattle.std.proofs.Common.{false}
use Rattle.sst_tool.proofs.show.gets.whole_table.Goals as goal

pub returns-in_err-open_table-in-None : goal.returns-in_err-open_table-in-None
returns-in_err-open_table-in-None g c =
    let known = g.P.Place.content c.args.place.now c.args.path.now in
    let error = c.in_err-open_table-in-None.field-0.0 in
    let told = c.in_err-open_table-in-None.ensures in
    passed (FailsOpen known c.args.path) c.from_residual.result (error_of_file error)
    c.from_residual.ensures.1
    (file_fails (TellsRefused false known) c.args.path error told.named told.returned)
