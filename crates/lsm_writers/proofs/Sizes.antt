-- What finishing a filter finds to be too large by the number of keys alone.
use Rattle.std.proofs.Common.{◌≡◌, refl, ℕ, ◌^◌, ◌<◌, nat_le, Bool}
use Rattle.std.proofs.Common.{true, false, Option, Some, None, arith}
use Rattle.std.specs.Prelude.{map, Result, Ok, Err, IsErrAnd, if◌then◌else◌}
use Rattle.std.specs.Option.{option_or}
use Rattle.std.proofs.lemmas.Bool.Decides.{nat_tests}
use Rattle.sst_entries.specs.Error.{Faults, FaultsFirst}
use Rattle.sst_entries.specs.declared.error.Error.{Error}
use Rattle.sst_entries.specs.declared.error.Error.TheVariants.{SectionTooLarge}
use Rattle.sst_entries.specs.declared.error.Error.TheVariants.{WriterFailed}
use Rattle.sst_entries.proofs.Refusals.{faults_refusal}
use Rattle.sst_blocks.specs.declared.filter.policy.BloomConstructionPolicy.{BloomConstructionPolicy}
use Rattle.sst_blocks.specs.declared.table.options.FilterKind.TheVariants.{Partitioned}
use Rattle.sst_blocks.specs.table.Failed.{failed_fault, section_fault}
use Rattle.sst_blocks.specs.table.Filters.{last_of_keys}
use Rattle.lsm_writers.specs.section.Given.{GivenKeys, key_parts_of, keys_in, no_keys}
use Rattle.lsm_writers.specs.section.FilterRefusing.{given_fault, key_parts_bound, keys_fault}
use Rattle.lsm_writers.specs.section.FilterRefusing.{size_fault, top_fault}

-- ---- a fault that comes before any want of memory

-- none is told
pub first_none : {X : Type 0} (r : Result X Error) (returned : Option Error) → returned ≡ None
    → FaultsFirst r returned
first_none r returned none = λ e is. absurd cc

-- it is the refusal that is passed on
pub first_passed : {X : Type 0} (r : Result X Error) (e : Error) (returned : Option Error)
    → IsErrAnd r (λ y. y ≡ e) → returned ≡ Some e → FaultsFirst r returned
first_passed (Ok x) e returned is fault = absurd is
first_passed (Err y) e returned is fault = λ first same. cc

-- of a writer that has failed, and of one that works
pub first_failed : (X : Type 0) (failed : Bool) (returned : Option Error) → failed ≡ true
    → FaultsFirst {X = X} (Err WriterFailed) (option_or (failed_fault failed) returned)
first_failed X failed returned is =
    first_passed {X = X} (Err WriterFailed) WriterFailed _ refl (rw is refl)

pub first_works : {X : Type 0} (r : Result X Error) (failed : Bool) (returned : Option Error)
    → failed ≡ false → FaultsFirst r returned → FaultsFirst r (option_or (failed_fault failed) returned)
first_works r failed returned is first = rw is first

-- ---- what is too large

-- without keys nothing is too large
pub sizes_none : (size : ℕ) (policy : BloomConstructionPolicy) (e : Error)
    → size_fault (Partitioned size) policy no_keys ≡ Some e → ⊥
sizes_none size policy e returned = cc

-- what is too large is refused
size_given : (size : ℕ) (policy : BloomConstructionPolicy) (given : GivenKeys) (e : Error)
    → size_fault (Partitioned size) policy given ≡ Some e
    → given_fault (Partitioned size) policy given ≡ Some e
size_given size policy given e returned =
    let parts = key_parts_of policy given in
    of (keys_fault policy given.pending) (section_fault (key_parts_bound parts))
    (top_fault (map last_of_keys (keys_in parts))) returned
  where
    of : (filter section top : Option Error) → option_or filter section ≡ Some e
        → option_or filter (option_or section top) ≡ Some e
    of None None top is = absurd cc
    of None (Some s) top is = is
    of (Some f) section top is = is

pub size_refused : {X : Type 0} (r : Result X Error) (e : Error) (size : ℕ)
    (policy : BloomConstructionPolicy) (given : GivenKeys) (failed : Bool)
    → IsErrAnd r (λ y. y ≡ e) → failed ≡ false
    → size_fault (Partitioned size) policy given ≡ Some e →
    Faults r (option_or (failed_fault failed) (given_fault (Partitioned size) policy given))
size_refused r e size policy given failed is works returned =
    faults_refusal r e _ is (λ m. rw (works, size_given size policy given e returned) refl)

-- where nothing is too large, the section of all parts is short
pub sizes_short : (size : ℕ) (policy : BloomConstructionPolicy) (given : GivenKeys)
    → size_fault (Partitioned size) policy given ≡ None
    → key_parts_bound (key_parts_of policy given) < 2 ^ 32
sizes_short size policy given none =
    short (key_parts_bound (key_parts_of policy given))
    (fits (keys_fault policy given.pending) _ none)
  where
    fits : (filter section : Option Error) → option_or filter section ≡ None → section ≡ None
    fits None section is = is
    fits (Some f) section is = absurd cc

    short : (n : ℕ) → section_fault n ≡ None → n < 2 ^ 32
    short n none = below n (nat_le (2 ^ 32) n) refl none
      where
        below : (n : ℕ) (b : Bool) → nat_le (2 ^ 32) n ≡ b
            → (if b then Some SectionTooLarge else None) ≡ None → n < 2 ^ 32
        below n true is fine = absurd cc
        below n false is fine = grind (arith, nat_tests, is)
