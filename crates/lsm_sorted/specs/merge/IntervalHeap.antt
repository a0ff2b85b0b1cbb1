-- An interval heap as a double-ended priority queue.
use Rattle.std.specs.Prelude.{ℕ, List}

-- the items, in unspecified order, and the capacity
pub record Heap (T : Type 0) : Type 0 where
  pub items : List T
  pub room : ℕ
