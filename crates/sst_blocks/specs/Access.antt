-- How a source of blocks has the bytes that it loads from.

-- Bytes in memory, whose faults are found before allocating; bytes that each load reads into new
-- memory; or bytes of which nothing is known, as those of a file that anyone may change.
pub data Access : Type 0 where
  in_memory : Access
  read_on_load : Access
  unknown : Access

-- The bytes are known, so the results of loads are.
abbrev pub IsKnown : Access → Type 0
IsKnown in_memory = Unit {0}
IsKnown read_on_load = Unit {0}
IsKnown unknown = ⊥

-- A fault that needs no memory to detect is returned before any `OutOfMemory`.
abbrev pub IsInMemory : Access → Type 0
IsInMemory in_memory = Unit {0}
IsInMemory read_on_load = ⊥
IsInMemory unknown = ⊥
