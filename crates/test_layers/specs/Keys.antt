-- The keys that a writer of partitions was given.
use Rattle.std.specs.Prelude.{◌≡◌, ℕ, List}
use Rattle.lsm_writers.specs.section.Given.{GivenKeys, all_keys}
use Rattle.lsm_writers.specs.section.Held.{CutParts, HoldsParts}

-- it was given these keys, in order, under any options
pub record WasGiven (w : CutParts) (keys : List (List ℕ)) : Type 0 where
  pub given : GivenKeys
  pub held : HoldsParts w given
  pub are : all_keys given ≡ keys
