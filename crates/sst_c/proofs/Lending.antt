-- A step of what several runs lend, which is given up where it is refused. Assumes `Logic`.
use Rattle.std.proofs.Common.{◌≡◌, Option, Some, None, Ok, true, refl}
use Rattle.sst_entries.specs.Entry.{Entry}
use Rattle.sst_entries.specs.Lending.{came}
use Rattle.sst_c.specs.Steps.{left_behind}
use Rattle.sst_c.specs.Reported.{outcome_of}

-- behind a step that succeeds the source stays
pub stays_behind : {S : Type 0} (t : S) (lent : Option Entry)
    → Some t ≡ left_behind (outcome_of (came (Ok true) lent)) t
stays_behind {S} t None = refl
stays_behind {S} t (Some e) = refl
