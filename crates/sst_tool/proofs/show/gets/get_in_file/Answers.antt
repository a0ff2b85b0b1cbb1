use Rattle.sst_tool.specs.files.Contents.{bytes_in}
use Rattle.sst_tool.proofs.Gets.{fails_at, same_fails}
use Rattle.sst_tool.proofs.show.gets.get_in_file.Goals as goal

pub returns-in-Err-clause-fault : goal.returns-in-Err-clause-fault
returns-in-Err-clause-fault g c known =
    let reads = g.P.File.ReadAt.reads in
    let o = c.args.options.now in
    let at = g.P.Place.content c.args.place.now c.args.path.now in
    same_fails reads o at c.args.path c.in-Err.error c.located.result
    (fails_at reads o at (bytes_in g.P.File.ReadAt.bytes c.in_ok-contents.contents) c.args.path
    c.in-Err.error c.in_ok-contents.ensures.bytes (c.in-Err.ensures.fault known)) c.located.ensures
