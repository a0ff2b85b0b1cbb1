-- A block that is loaded by its place, before memory is taken for the handle that names it.
use Rattle.std.proofs.Common.{◌≡◌, ℕ, zero, suc, ◌<◌, ◌≤◌, true, List, [], ◌∷◌, length, drop, refl}
use Rattle.std.proofs.Common.{sym, ap, ◌∙◌, arith}
use Rattle.std.specs.Prelude.{Some, None, Result, Ok}
use Rattle.std.specs.List.{slice_get}
use Rattle.std.specs.Option.{option_map}
use Rattle.sst_blocks.specs.declared.section.SectionName.TheVariants as section
use Rattle.sst_entries.specs.Entry.{Entry}
use Rattle.sst_blocks.specs.declared.block_type.BlockType.TheVariants.{Data}
use Rattle.sst_blocks.specs.Handle.{Handle}
use Rattle.sst_blocks.specs.Place.{Place, place_of}
use Rattle.lsm_readers.specs.declared.verify.Counts.{Counts}
use Rattle.lsm_readers.specs.declared.verify.Finding.{Finding}
use Rattle.lsm_readers.specs.declared.verify.VerifyError.{VerifyError}
use Rattle.lsm_readers.specs.declared.verify.VerifyError.TheVariants.{Found}
use Rattle.lsm_readers.specs.point.Parts.{Parts}
use Rattle.lsm_readers.specs.Verify.{◌>>=◌, Misses, Unread, block_found, chunk_found}
use Rattle.lsm_readers.specs.Verify.{contents_found, counted_found, early_at, handles_found}
use Rattle.lsm_readers.specs.Verify.{is_found, top_named}
use Rattle.lsm_readers.specs.Verification.{chunk_early, partition_found}
use Rattle.lsm_readers.proofs.VerifyEarly.{or_behind, or_first}
use Rattle.lsm_readers.proofs.VerifyLoops.{misses_here, misses_later}
use Rattle.lsm_readers.proofs.VerifySteps.{answer, then_goes}

-- ---- the first of some handles, by its block and its place there

none_get : {X : Type 0} (xs : List X) (i : ℕ) → slice_get xs i ≡ None → length xs ≤ i
none_get [] i is = omega arith
none_get (x ∷ xs) zero is = absurd cc
none_get (x ∷ xs) (suc i) is = omega (arith, none_get xs i is)

pub next_is : {X : Type 0} (xs ys : List X) (i : ℕ) → i < length xs
    → slice_get xs i ≡ slice_get ys 0
    → (x : X) × (slice_get xs i ≡ Some x) × (ys ≡ x ∷ drop 1 ys)
next_is xs [] i within same = absurd (omega (arith, within, none_get xs i same))
next_is xs (y ∷ ys) i within same = (y, same, refl)

-- its place is that which was read
pub place_is : (hs : List Handle) (i : ℕ) (place : Place) (h : Handle)
    → option_map place_of (slice_get hs i) ≡ Some place → slice_get hs i ≡ Some h
    → place ≡ place_of h
place_is hs i place h read here =
    let both : Some place ≡ Some (place_of h) = sym read ∙ ap (option_map place_of) here in
    cc

-- and it is that which stands there
pub same_found : {X : Type 0} (xs : List X) (i : ℕ) (x y : X) → slice_get xs i ≡ Some x
    → slice_get xs i ≡ Some y → x ≡ y
same_found xs i x y first second =
    let both : Some x ≡ Some y = sym first ∙ second in
    cc

-- ---- what is found of a data block

module _ (body : List ℕ) (parts : Parts) (left : Unread) (h : Handle) where
  abbrev with_counts : Counts → Unread
  with_counts counts = record { last = left.last; counts = counts }

  abbrev behind_chunk : Counts → List Entry → Result Unread Finding
  behind_chunk counts chunk = contents_found body parts (with_counts counts) h chunk

  abbrev behind_counts : Counts → Result Unread Finding
  behind_counts counts = chunk_found body (place_of h) >>= behind_chunk counts

  abbrev counted : Result Counts Finding
  counted = counted_found parts left.counts (place_of h)

  pub counted_misses : (e : VerifyError) → Misses e counted
      → Misses e (block_found body parts left h)
  unfolding block_found
  counted_misses e misses = misses_here e counted behind_counts misses

  pub chunk_misses : (counts : Counts) (e : VerifyError) → counted ≡ Ok counts
      → Misses e (chunk_found body (place_of h)) → Misses e (block_found body parts left h)
  unfolding block_found
  chunk_misses counts e is misses =
      misses_later e counted behind_counts counts is
      (misses_here e (chunk_found body (place_of h)) (behind_chunk counts) misses)

  pub contents_misses : (counts : Counts) (chunk : List Entry) (e : VerifyError)
      → counted ≡ Ok counts → chunk_found body (place_of h) ≡ Ok chunk
      → Misses e (contents_found body parts (with_counts counts) h chunk)
      → Misses e (block_found body parts left h)
  unfolding block_found
  contents_misses counts chunk e is loads misses =
      misses_later e counted behind_counts counts is
      (misses_later e (chunk_found body (place_of h)) (behind_chunk counts) chunk loads misses)

  pub contents_goes : (counts : Counts) (chunk : List Entry) (new : Unread)
      → counted ≡ Ok counts → chunk_found body (place_of h) ≡ Ok chunk
      → contents_found body parts (with_counts counts) h chunk ≡ Ok new
      → block_found body parts left h ≡ Ok new
  unfolding block_found
  contents_goes counts chunk new is loads reads =
      then_goes counted behind_counts counts new is
      (then_goes (chunk_found body (place_of h)) (behind_chunk counts) chunk new loads reads)

-- ---- what is found of it before memory is taken

module _ (body : List ℕ) (parts : Parts) (counts : Counts) (place : Place) where
  pub counted_first : (e : VerifyError) → Misses e (counted_found parts counts place)
      → is_found e ≡ true → (f : Finding) → chunk_early body parts counts place ≡ Some f
      → e ≡ Found f
  counted_first e misses calm =
      or_first (counted_found parts counts place) (early_at body section.Data place Data) e misses
      calm

  pub chunk_first : (spent : Counts) → counted_found parts counts place ≡ Ok spent
      → (P : Finding → Type 0)
      → ((f : Finding) → early_at body section.Data place Data ≡ Some f → P f)
      → (f : Finding) → chunk_early body parts counts place ≡ Some f → P f
  chunk_first spent is P first f h =
      first f (sym (or_behind (counted_found parts counts place)
      (early_at body section.Data place Data) spent is) ∙ h)

-- ---- what is found of a partition

module _ (body : List ℕ) (top : Handle) where
  abbrev returned : Result (List Handle) Finding
  returned = handles_found body section.Index (place_of top)

  abbrev behind_handles : List Handle → Result (List Handle) Finding
  behind_handles hs = top_named top hs >>= λ _. answer hs

  pub handles_misses : (e : VerifyError) → Misses e returned → Misses e (partition_found body top)
  unfolding partition_found
  handles_misses e misses = misses_here e returned behind_handles misses

  pub top_misses : (hs : List Handle) (e : VerifyError) → returned ≡ Ok hs
      → Misses e (top_named top hs) → Misses e (partition_found body top)
  unfolding partition_found
  top_misses hs e is misses =
      misses_later e returned behind_handles hs is
      (misses_here e (top_named top hs) (λ _. answer hs) misses)

  pub top_goes : (hs : List Handle) → returned ≡ Ok hs → top_named top hs ≡ Ok tt
      → partition_found body top ≡ Ok hs
  unfolding partition_found
  top_goes hs is named =
      then_goes returned behind_handles hs hs is
      (then_goes (top_named top hs) (λ _. answer hs) tt hs named refl)
