use Rattle.std.proofs.Common.{◌≡◌, drop}
use Rattle.sst_blocks.specs.Sections.{section_of}
use Rattle.sst_blocks.proofs.section.section_of.Given as goal

abbrev pub invariant-loop-i : goal.invariant-loop-i
invariant-loop-i l =
    section_of l.end l.started l.name ≡ section_of l.end (drop l.i l.started) l.name
