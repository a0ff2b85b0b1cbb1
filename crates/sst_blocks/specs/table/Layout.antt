-- Sections stored one after another.
use Rattle.std.specs.Prelude.{ℕ, ◌+◌, List, [], ◌∷◌, ◌++◌, length}
use Rattle.std.specs.List.{flat_map}
use Rattle.sst_blocks.specs.declared.section.SectionName.{SectionName}
use Rattle.sst_blocks.specs.Sections.{Written}

abbrev pub Sections : Type 0
Sections = List (SectionName × List ℕ)

-- the offset of each section, given the first
abbrev pub starts_from : ℕ → Sections → List (SectionName × ℕ)
starts_from at [] = []
starts_from at (s ∷ ss) = (s.0, at) ∷ starts_from (at + length s.1) ss

-- their bytes in order, without gaps
abbrev pub bytes_in : Sections → List ℕ
bytes_in ss = flat_map (λ (s : SectionName × List ℕ). s.1) ss

-- a table with just these sections
abbrev pub laid : Sections → Written
laid ss = record { bytes = bytes_in ss; started = starts_from 0 ss }

-- the sections appended to earlier ones
abbrev pub appended : Written → Sections → Written
appended w ss = record {
  bytes = w.bytes ++ bytes_in ss;
  started = w.started ++ starts_from (length w.bytes) ss;
}
