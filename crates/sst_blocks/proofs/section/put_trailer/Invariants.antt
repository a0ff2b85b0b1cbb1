use Rattle.std.proofs.Common.{◌≡◌, ◌++◌, take}
use Rattle.std.specs.List.{flat_map}
use Rattle.sst_blocks.specs.Sections.{section_names, section_of, slot}
use Rattle.sst_blocks.proofs.section.put_trailer.Given as goal

abbrev pub invariant-loop-name : goal.invariant-loop-name
invariant-loop-name g l =
    l.bytes.items
    ≡ l.fn.bytes.items
    ++ flat_map (λ name. slot (section_of l.end l.started name)) (take l.name-index section_names)
