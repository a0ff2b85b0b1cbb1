use Rattle.sst_tool.proofs.Unread.{all_read, first_named, read_more}
use Rattle.sst_tool.proofs.show.merged.first_unread.Goals as goal

pub loop-file-preserved : goal.loop-file-preserved
loop-file-preserved g c =
    read_more c.args.options.now c.args.files.now c.loop-file.file-index c.file-item.result
    c.loop-file-test.true c.file-item.is c.loop-file.invariant c.in_default.ensures.returned

pub returns-in-Err : goal.returns-in-Err
returns-in-Err g c =
    first_named c.args.options.now c.args.files.now c.loop-file.file-index c.file-item.result
    c.loop-file-test.true c.file-item.is c.loop-file.invariant c.in-Err.unread
    c.in-Err.ensures.named c.in-Err.ensures.sound

pub returns : goal.returns
returns g c = λ other.
    all_read c.args.options.now c.args.files.now c.loop-file.file-index c.loop-file-test.false
    c.loop-file.invariant
