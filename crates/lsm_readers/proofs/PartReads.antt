-- The first handle that reaches a key, in a part of some handles or behind it.
use Rattle.std.proofs.Common.{◌≡◌, ℕ, ◌<◌, Bool, true, false, cond, List, [], ◌∷◌, ◌++◌, length}
use Rattle.std.proofs.Common.{map, refl, ap, ◌∙◌}
use Rattle.std.specs.Prelude.{Option, Some, find}
use Rattle.sst_entries.specs.Entry.{Entry}
use Rattle.sst_entries.specs.Strict.{IsStrictAfter, last_of}
use Rattle.sst_blocks.specs.Handle.{Handle}
use Rattle.sst_blocks.specs.Handles.{end_of, reaches}
use Rattle.sst_blocks.proofs.Reaching.{reaches_after}
use Rattle.sst_blocks.specs.table.Index.{last_entry}
use Rattle.sst_blocks.specs.table.Partitions.{last_end}
use Rattle.lsm_readers.proofs.ChunkReads.{after, later, not_before}

passed_one : (p : Handle → Bool) (x : Handle) (o : Option Handle) → p x ≡ false
    → cond (p x) (Some x) o ≡ o
passed_one p x o h = rw h refl

-- no handle of a part reaches whose last one does not
pub part_passed : (key : List ℕ) (bound : ℕ) (last : Option Entry) (x : Handle)
    (xs rest : List Handle)
    → IsStrictAfter last (map end_of (x ∷ xs)) → after key bound (last_end (x ∷ xs)) ≡ false
    → find (reaches key bound) ((x ∷ xs) ++ rest) ≡ find (reaches key bound) rest
unfolding IsStrictAfter last_of
part_passed key bound last x [] rest strict early =
    passed_one (reaches key bound) x (find (reaches key bound) rest)
    (reaches_after key bound x ∙ early)
part_passed key bound last x (y ∷ ys) rest strict early =
    passed_one (reaches key bound) x (find (reaches key bound) ((y ∷ ys) ++ rest))
    (reaches_after key bound x ∙ not_before key bound (end_of x) (last_entry (map end_of (y ∷ ys)))
    (later (end_of x) (end_of y) (map end_of ys) strict.1) early)
    ∙ part_passed key bound (Some (end_of x)) y ys rest strict.1 early

-- a handle of a part reaches whose last one does
pub part_here : (key : List ℕ) (bound : ℕ) (x : Handle) (xs rest : List Handle)
    → after key bound (last_end (x ∷ xs)) ≡ true
    → find (reaches key bound) ((x ∷ xs) ++ rest) ≡ find (reaches key bound) (x ∷ xs)
unfolding last_of
part_here key bound x [] rest late =
    let hit : reaches key bound x ≡ true = reaches_after key bound x ∙ late in
    rw hit refl
part_here key bound x (y ∷ ys) rest late = ap (λ (o : Option Handle). cond (reaches key bound x)
    (Some x) o) (part_here key bound y ys rest late)

-- each part has a handle
abbrev pub AreSomeParts : {A : Type 0} → List (List A) → Type 0
AreSomeParts [] = Unit {0}
AreSomeParts (p ∷ ps) = (0 < length p) × AreSomeParts ps
