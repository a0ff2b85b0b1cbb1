use Rattle.sst_tool.specs.files.Files.{is_memory_fault}
use Rattle.sst.proofs.Files.{missed}
use Rattle.sst.proofs.show.verify_file.Goals as goal

pub returns-in-Err-clause-faulty : goal.returns-in-Err-clause-faulty
returns-in-Err-clause-faulty g c =
    missed (g.P.Place.content c.args.place.now c.args.name.now) (is_memory_fault c.in-Err.fault)
    c.print_unread.result c.in-Err.ensures.known c.print_unread.ensures.memory
