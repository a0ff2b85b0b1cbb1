-- The target size of tables.
use Rattle.std.specs.Prelude.{◌-◌, ◌^◌, ℕ, Option}
use Rattle.std.specs.Option.{unwrap_or}

-- The target size of a table. Without one it is 2^64 - 1, which no table reaches.
abbrev pub largest_table : Option ℕ → ℕ
largest_table target = unwrap_or target (2 ^ 64 - 1)
