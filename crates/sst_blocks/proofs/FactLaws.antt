-- What is counted of a list, and of its chunks.
use Rattle.std.proofs.Common.{◌≡◌, ℕ, ◌+◌, ◌≤◌, Bool, true, false, List, [], ◌∷◌, length, refl}
use Rattle.std.proofs.Common.{arith}
use Rattle.std.specs.Prelude.{Option, Some}
use Rattle.sst_blocks.specs.declared.version.TableVersion.{TableVersion}
use Rattle.sst_entries.specs.Entry.{Entry}
use Rattle.sst_blocks.specs.table.Facts.{count_after, one_if}
use Rattle.sst_blocks.specs.table.Index.{block_size, handles_from}

pub one_small : (b : Bool) → one_if b ≤ 1
one_small true = omega arith
one_small false = omega arith

pub after_within : (test : Option Entry → Entry → Bool) (before : Option Entry) (es : List Entry)
    → count_after test before es ≤ length es
unfolding count_after
after_within test before [] = omega arith
after_within test before (e ∷ es) = omega (
  arith,
  one_small (test before e),
  after_within test
      (Some e) es,
)

-- each chunk has a handle
pub length-handles : (v : TableVersion) (at : ℕ) (cs : List (List Entry))
    → length (handles_from v at cs) ≡ length cs
length-handles v at [] = refl
length-handles v at (c ∷ cs) = omega (arith, length-handles v (at + block_size v c) cs)
