-- The entries of a lending source with a seqno below a bound, and its errors.
use Rattle.std.specs.Prelude.{ℕ, Bool, true, nat_lt, Option, Some, None, if◌then◌else◌}
use Rattle.std.specs.Iterator.{at_most}
use Rattle.sst_entries.specs.Entry.{Entry}
use Rattle.sst_entries.specs.Stream.{nowhere}
use Rattle.lsm_sorted.specs.merge.Ends.{R}
use Rattle.lsm_sorted.specs.Below.{GivesBelow, MayAsk}
use Rattle.lsm_sorted.specs.declared.below.Below.{Below}

-- a borrowed entry passes if its seqno is below the bound; `None` passes too
abbrev pub lent_passes : ℕ → Option Entry → Bool
lent_passes bound None = true
lent_passes bound (Some e) = nat_lt e.seqno bound

-- a borrowed entry, if its seqno is below the bound
abbrev pub only_below : ℕ → Option Entry → Option Entry
only_below bound None = None
only_below bound (Some e) = if nat_lt e.seqno bound then Some e else None

-- the borrowed entry: the source's, if its seqno is below the bound
abbrev pub lent_below : {S : Type 0} → (S → Option Entry) → Below S → Option Entry
lent_below lent b = only_below b.seqno (lent b.iter)

module _ {S : Type 0} (advances : S → Option R → S → Type 0) (can : S → Type 0) (left : S → ℕ) where
  -- the source may be called
  abbrev pub MayLendBelow : Below S → Type 0
  MayLendBelow = MayAsk advances nowhere can can (λ s. at_most (left s))

  -- one call: it returns the source's first result that passes
  abbrev pub LendsBelow : Below S → Option R → Below S → Type 0
  LendsBelow = GivesBelow MayLendBelow advances
