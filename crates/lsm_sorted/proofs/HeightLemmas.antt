-- The height of a tournament is the least one with as many leaves as there is room for.
use Rattle.std.proofs.Common.{◌≡◌, ◌≢◌, ℕ, zero, suc, ◌+◌, ◌-◌, ◌*◌, ◌/◌, ◌^◌, ◌<◌, ◌≤◌, max, refl}
use Rattle.std.proofs.Common.{sym, ◌∙◌, ap, ⊎_elim, arith}
use Rattle.std.proofs.lemmas.Bool.{cases_eq}
use Rattle.std.proofs.lemmas.Bool.Decides.{nat_tests}
use Rattle.std.proofs.lemmas.Grind.{pow_more}
use Rattle.std.proofs.Math.Pow.{pow_mono, pow_pos}
use Rattle.std.specs.Int.{IsNextPowerOfTwo}
use Rattle.lsm_sorted.specs.merge.Tournament.{powers_below, height}

below_power : (j : ℕ) → j < 2 ^ j
below_power zero = omega arith
below_power (suc j) = let more : 2 ^ suc j ≡ 2 ^ j * 2 = ap (λ k. 2 ^ k) one_more ∙ pow_more 2 j in
    let h = below_power j in omega arith
  where
    one_more : suc j ≡ j + 1
    one_more = omega arith

module _ (n h : ℕ) (enough : n ≤ 2 ^ h) (least : (j : ℕ) → j < h → 2 ^ j < n) where
  counted_low : (k : ℕ) → k ≤ h → powers_below n k ≡ k
  counted_low zero low = refl
  counted_low (suc k) low = let here = least k (omega arith) in let before =
      counted_low k (omega arith) in grind (arith, nat_tests)

  counted_high : (k : ℕ) → powers_below n (h + k) ≡ h
  counted_high zero = let e : h + 0 ≡ h = omega arith in ap (λ j. powers_below n j) e
      ∙ counted_low h (omega arith)
  counted_high (suc k) =
      let e : h + suc k ≡ suc (h + k) = omega arith in
      let before = counted_high k in
      let past : n ≤ 2 ^ (h + k) = let grows = pow_mono {i = h} {j = h + k} (omega arith) in
      omega arith in
      ap (λ j. powers_below n j) e ∙ not_counted (h + k) past ∙ before
    where
      not_counted : (j : ℕ) → n ≤ 2 ^ j → powers_below n (suc j) ≡ powers_below n j
      not_counted j past = grind (arith, nat_tests)

  -- it is the least h with n at most 2 ^ h
  pub height_is : height n ≡ h
  height_is =
      let e : n ≡ h + (n - h) = omega (arith, reached) in
      ap (λ j. powers_below n j) e ∙ counted_high (n - h)
    where
      reached : h ≤ n
      reached = ⊎_elim (λ (none : h ≡ 0). omega arith)
          (λ (some : h ≢ 0). let last = least (h - 1) (omega arith) in let high =
          below_power (h - 1) in omega arith)
          (cases_eq h 0)

lower_power : (n p h j : ℕ) → p ≡ 2 ^ h → p / 2 < max 1 n → j < h → 2 ^ j < n
lower_power n p h j is half low =
    let e : h ≡ (h - 1) + 1 = omega arith in
    let twice : 2 ^ h ≡ 2 ^ (h - 1) * 2 = ap (λ k. 2 ^ k) e ∙ pow_more 2 (h - 1) in
    let grows = pow_mono {i = j} {j = h - 1} (omega arith) in
    let some = pow_pos j in
    omega arith

-- the least power of two that is n or more
pub next_power_is : (n p : ℕ) → IsNextPowerOfTwo n p → p ≡ 2 ^ height n
next_power_is n p next =
    let h : ℕ = next.0.0 in
    let is : p ≡ 2 ^ h = next.0.1 in
    let same : height n ≡ h = height_is n h (omega (arith, is, next.1))
    (λ j low. lower_power n p h j is next.2 low) in
    is ∙ ap (λ j. 2 ^ j) (sym same)
