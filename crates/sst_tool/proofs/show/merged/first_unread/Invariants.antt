-- The range of each file so far can be read.
use Rattle.std.proofs.Common.{◌≡◌, take}
use Rattle.std.specs.Prelude.{None}
use Rattle.sst_tool.specs.show.Merged.{unread_file}
use Rattle.sst_tool.proofs.show.merged.first_unread.Given as goal

abbrev pub invariant-loop-file : goal.invariant-loop-file
invariant-loop-file g l = unread_file l.options (take l.file-index l.files) ≡ None
