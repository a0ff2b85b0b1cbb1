-- Parts of a small size: their filters are never too large.
use Rattle.std.proofs.Common.{◌≡◌, refl, ap, ℕ, ◌+◌, ◌*◌, ◌^◌, ◌<◌, ◌≤◌, nat_le, Bool, true, false}
use Rattle.std.proofs.Common.{inl, inr, List, [], ◌∷◌, ◌++◌, length, Option, Some, None}
use Rattle.std.proofs.Common.{length-append, arith}
use Rattle.std.specs.Prelude.{if◌then◌else◌}
use Rattle.std.proofs.lemmas.Bool.Decides.{nat_tests}
use Rattle.std.proofs.lemmas.Bool.{lt-leb}
use Rattle.sst_entries.specs.declared.error.Error.{Error}
use Rattle.sst_entries.specs.declared.error.Error.TheVariants.{BlockTooLarge}
use Rattle.sst_blocks.specs.filter.Policy.{bound_for, fault_for, size_for, tenths_of}
use Rattle.sst_blocks.specs.declared.filter.policy.BloomConstructionPolicy.{BloomConstructionPolicy}
use Rattle.sst_blocks.specs.declared.table.options.FilterKind.{FilterKind}
use Rattle.sst_blocks.specs.declared.table.options.FilterKind.TheVariants.{Full, Partitioned}
use Rattle.sst_blocks.specs.table.Filters.{is_full_filter}
use Rattle.lsm_writers.specs.section.Cutting.{waiting_by}
use Rattle.lsm_writers.specs.section.Given.{given_by}
use Rattle.lsm_writers.specs.section.FilterRefusing.{cut_fault, partition_size, register_fault}
use Rattle.lsm_writers.proofs.CutLaws.{Waits, waits_after}

no_fault : (b : ℕ) → b < 2 ^ 32 → (if nat_le (2 ^ 32) b then Some BlockTooLarge else None) ≡ None
no_fault b lt = ap (λ (t : Bool). if t then Some BlockTooLarge else None) (lt-leb (2 ^ 32) b lt)

-- the filter of one key, and that of one key more than do not fill a part
first_bound : (t : ℕ) → t < 2 ^ 32 → bound_for t 1 < 2 ^ 32
first_bound t lt = let one : 1 * t ≡ t = grind arith in omega (arith, lt, one)

more_bound : (t n size : ℕ) → t < 2 ^ 32 → size ≤ 4194304 → size_for t n < size
    → bound_for t (n + 1) < 2 ^ 32
more_bound t n size lt small less = let more : (n + 1) * t ≡ n * t + t = grind arith in
    omega (arith, lt, small, less, more)

either_none : (b : Bool) (f : Option Error) → f ≡ None → (if b then f else None) ≡ None
either_none true f e = e
either_none false f e = refl

fits : (size : ℕ) (policy : BloomConstructionPolicy) (waiting : List (List ℕ)) (key : List ℕ)
    → tenths_of policy < 2 ^ 32 → size ≤ 4194304 →
    Waits (is_full_filter policy size) waiting → cut_fault policy size (waiting ++ key ∷ []) ≡ None
fits size policy waiting key few small waits =
    let part = waiting ++ key ∷ [] in
    either_none (is_full_filter policy size part) (fault_for (tenths_of policy) (length part))
    (no_fault (bound_for (tenths_of policy) (length part)) (bounded waits))
  where
    bounded : Waits (is_full_filter policy size) waiting
        → bound_for (tenths_of policy) (length (waiting ++ key ∷ [])) < 2 ^ 32
    bounded (inl none) = rw none (first_bound (tenths_of policy) few)
    bounded (inr open_) =
        let less : size_for (tenths_of policy) (length waiting) < size =
        grind (arith, nat_tests, open_) in
        let count : length (waiting ++ key ∷ []) ≡ length waiting + 1 =
        length-append waiting (key ∷ []) in
        rw count (more_bound (tenths_of policy) (length waiting) size few small less)

pub small_parts : (kind : FilterKind) (policy : BloomConstructionPolicy) (keys : List (List ℕ))
    (key : List ℕ) → tenths_of policy < 2 ^ 32 → partition_size kind ≤ 4194304 →
    register_fault kind policy (given_by kind policy keys).pending key ≡ None
small_parts Full policy keys key few small = refl
small_parts (Partitioned size) policy keys key few small =
    fits size policy (waiting_by (is_full_filter policy size) keys) key few small
    (waits_after (is_full_filter policy size) [] keys (inl refl))
