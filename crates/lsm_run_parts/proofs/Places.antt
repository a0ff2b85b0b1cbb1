-- The tables of a run from one place up to another.
use Rattle.std.proofs.Common.{◌≡◌, ℕ, zero, suc, ◌+◌, ◌-◌, ◌<◌, ◌≤◌, List, [], ◌∷◌, ◌++◌, drop}
use Rattle.std.proofs.Common.{get_or, length, take, refl, sym, ap, ◌∙◌, arith}
use Rattle.std.proofs.lemmas.Option.{slice_get_read, slice_get-get_or}
use Rattle.std.specs.Prelude.{Some}
use Rattle.std.specs.List.{slice_get}
use Rattle.sst_entries.specs.Stream.{front_of, back_of}
use Rattle.lsm_iters.proofs.AtEnds.{back_push}
use Rattle.lsm_readers.specs.point.Table.{OpenTable}
use Rattle.lsm_run_parts.specs.RunParts.{RunSpan, span_part_at, span_parts_from}

module _ {X : Type 0} where
  drop_split : (xs : List X) (i : ℕ) (x : X) → slice_get xs i ≡ Some x
      → drop i xs ≡ x ∷ drop (suc i) xs
  drop_split [] i x e = absurd cc
  drop_split (y ∷ ys) zero x e = let same : y ≡ x = cc in ap (λ (z : X). z ∷ ys) same
  drop_split (y ∷ ys) (suc i) x e = drop_split ys i x e

  pub take_push : (xs : List X) (i : ℕ) (x : X) → slice_get xs i ≡ Some x
      → take (suc i) xs ≡ take i xs ++ x ∷ []
  take_push [] i x e = absurd cc
  take_push (y ∷ ys) zero x e = let same : y ≡ x = cc in ap (λ (z : X). z ∷ []) same
  take_push (y ∷ ys) (suc i) x e = ap (λ (zs : List X). y ∷ zs) (take_push ys i x e)

  get_behind : (xs : List X) (n i : ℕ) → slice_get (drop n xs) i ≡ slice_get xs (n + i)
  get_behind xs zero i = ap (slice_get xs) (let e : i ≡ 0 + i = omega arith in e)
  get_behind [] (suc n) i = refl
  get_behind (x ∷ xs) (suc n) i = get_behind xs n i
      ∙ ap (slice_get (x ∷ xs)) (let e : suc (n + i) ≡ suc n + i = omega arith in e)

  -- the first of what stands between two places, and the last
  pub first_between : (xs : List X) (lo hi : ℕ) (x : X) → slice_get xs lo ≡ Some x → lo < hi
      → front_of (take (hi - lo) (drop lo xs)) ≡ (Some x, take (hi - suc lo) (drop (suc lo) xs))
  first_between xs lo hi x at less =
      let many : hi - lo ≡ suc (hi - suc lo) = omega (arith, less) in
      ap (λ (n : ℕ). front_of (take n (drop lo xs))) many
      ∙ ap (λ (ys : List X). front_of (take (suc (hi - suc lo)) ys)) (drop_split xs lo x at)

  pub last_between : (xs : List X) (lo hi : ℕ) (x : X) → slice_get xs hi ≡ Some x → lo ≤ hi
      → back_of (take (suc hi - lo) (drop lo xs)) ≡ (Some x, take (hi - lo) (drop lo xs))
  last_between xs lo hi x at less =
      let many : suc hi - lo ≡ suc (hi - lo) = omega (arith, less) in
      let there : slice_get (drop lo xs) (hi - lo) ≡ Some x =
      get_behind xs lo (hi - lo) ∙ ap (slice_get xs)
      (let e : lo + (hi - lo) ≡ hi = omega (arith, less) in e) ∙ at in
      ap (λ (n : ℕ). back_of (take n (drop lo xs))) many
      ∙ ap back_of (take_push (drop lo xs) (hi - lo) x there)
      ∙ back_push (take (hi - lo) (drop lo xs)) x

  pub none_between : (xs : List X) (lo hi : ℕ) → lo ≡ hi → take (hi - lo) (drop lo xs) ≡ []
  none_between xs lo hi same = ap (λ (n : ℕ). take n (drop lo xs))
      (let e : hi - lo ≡ 0 = omega (arith, same) in e)

  pub same_there : (xs : List X) (i : ℕ) (x y : X) → i < length xs → x ≡ get_or xs i x
      → slice_get xs i ≡ Some y → x ≡ y
  same_there xs i x y less is at = let e : Some x ≡ Some y =
      sym (slice_get_read xs (length xs) i x refl less is) ∙ at in cc

-- the part at a place is that of the table there
place_of : (s : RunSpan) (k : ℕ) (ts : List OpenTable) (i : ℕ) (t : OpenTable)
    → slice_get ts i ≡ Some t
    → slice_get (span_parts_from s k ts) i ≡ Some (span_part_at s (k + i) t)
place_of s k [] i t e = absurd cc
place_of s k (u ∷ us) zero t e =
    let same : u ≡ t = cc in
    ap (λ (x : OpenTable). Some (span_part_at s k x)) same
    ∙ ap (λ (n : ℕ). Some (span_part_at s n t)) (let e : k ≡ k + 0 = omega arith in e)
place_of s k (u ∷ us) (suc i) t e =
    place_of s (suc k) us i t e ∙ ap (λ (n : ℕ). Some (span_part_at s n t))
    (let e : suc k + i ≡ k + suc i = omega arith in e)

pub part_there : (s : RunSpan) (ts : List OpenTable) (i : ℕ) (t : OpenTable)
    → slice_get ts i ≡ Some t → slice_get (span_parts_from s 0 ts) i ≡ Some (span_part_at s i t)
part_there s ts i t e = place_of s 0 ts i t e
    ∙ ap (λ (n : ℕ). Some (span_part_at s n t)) (let e : 0 + i ≡ i = omega arith in e)

-- there is a table at each place
pub table_at : (ts : List OpenTable) (i : ℕ) → i < length ts → (t : OpenTable)
    × (slice_get ts i ≡ Some t)
table_at [] i less = absurd (omega (arith, less))
table_at (t ∷ ts) i less = (get_or (t ∷ ts) i t, slice_get-get_or (t ∷ ts) i t less)
