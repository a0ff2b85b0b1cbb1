-- What is read so far are the bytes of a front of the word.
use Rattle.std.proofs.Common.{length}
use Rattle.sst_tool.proofs.EscapeLemmas.{Reading}
use Rattle.sst_tool.proofs.lines.escapes.parse_codes.Given as goal

abbrev pub invariant-loop-rest : goal.invariant-loop-rest
invariant-loop-rest g l = Reading l.word l.bytes.items l.rest

abbrev pub decreases-loop-rest : goal.decreases-loop-rest
decreases-loop-rest g l = length l.rest
