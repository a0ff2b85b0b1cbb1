-- The numbers of the first bytes of two keys are in order where they differ, as the keys are.
use Rattle.std.proofs.Common.{◌≡◌, refl, sym, ◌∙◌, ap, subst, ℕ, zero, suc, ◌+◌, ◌*◌, ◌<◌, ◌≤◌}
use Rattle.std.proofs.Common.{List, [], ◌∷◌, ◌++◌, get_or, drop, replicate, arith, inl, inr}
use Rattle.std.specs.declared.cmp.Ordering.{Ordering}
use Rattle.std.specs.declared.cmp.Ordering.TheVariants.{Less, Equal, Greater}
use Rattle.std.specs.Cmp.Lexicographic.{slice_cmp}
use Rattle.std.specs.Int.{w128, from_be_bytes}
use Rattle.std.specs.Ordering.{nat_cmp, ordering_then}
use Rattle.std.proofs.lemmas.Bool.{cases_lt}
use Rattle.std.proofs.lemmas.Cmp.{ranked}
use Rattle.std.proofs.lemmas.List.{get_or-drop, get_or-replicate, get_or_past, length-replicate}
use Rattle.sst_entries.proofs.Bytes.{IsBytes}

-- p followed by the first n bytes, as digits
abbrev number : ℕ → ℕ → List ℕ → ℕ
number p zero xs = p
number p (suc n) xs = number p n xs * 256 + get_or xs n 0

first_digit : (p n x : ℕ) (xs : List ℕ) → number p (suc n) (x ∷ xs) ≡ number (p * 256 + x) n xs
first_digit p zero x xs = refl
first_digit p (suc n) x xs = ap (λ (k : ℕ). k * 256 + get_or xs n 0) (first_digit p n x xs)

-- what comes first decides
stays_below : (p q n : ℕ) (xs ys : List ℕ) → IsBytes xs → p < q → number p n xs < number q n ys
stays_below p q zero xs ys fits lt = lt
stays_below p q (suc n) xs ys fits lt =
    let before = stays_below p q n xs ys fits lt in
    omega (arith, before, fits n)

least : (p n : ℕ) (xs : List ℕ) → number p n [] ≤ number p n xs
least p zero xs = omega arith
least p (suc n) xs = let before = least p n xs in omega (arith, before)

in_order : (p n : ℕ) (xs ys : List ℕ) → IsBytes xs → IsBytes ys → number p n xs < number p n ys
    → slice_cmp nat_cmp xs ys ≡ Less
in_order p n xs [] fx fy lt = let less = least p n xs in absurd (omega (arith, less, lt))
in_order p n [] (y ∷ ys) fx fy lt = refl
in_order p zero (x ∷ xs) (y ∷ ys) fx fy lt = absurd (omega (arith, lt))
in_order p (suc n) (x ∷ xs) (y ∷ ys) fx fy lt = by (nat_cmp x y) refl
    (λ e. in_order (p * 256 + y) n xs ys (λ i. fx (suc i)) (λ i. fy (suc i))
    (subst (λ (k : ℕ). number (p * 256 + k) n xs < number (p * 256 + y) n ys) e below))
  where
    rest : Ordering
    rest = slice_cmp nat_cmp xs ys

    below : number (p * 256 + x) n xs < number (p * 256 + y) n ys
    below = subst (λ (k : ℕ). k < number (p * 256 + y) n ys) (first_digit p n x xs)
        (subst (λ (k : ℕ). number p (suc n) (x ∷ xs) < k) (first_digit p n y ys) lt)

    by : (o : Ordering) → o ≡ nat_cmp x y → (x ≡ y → rest ≡ Less) → ordering_then o rest ≡ Less
    by Less e more = refl
    by Equal e more = more (ranked x y Equal e)
    by Greater e more =
        let over = stays_below (p * 256 + y) (p * 256 + x) n ys xs (λ i. fy (suc i))
        (omega (arith, ranked x y Greater e)) in
        absurd (omega (arith, over, below))

sixteen : (xs : List ℕ) → from_be_bytes w128 xs ≡ number 0 16 xs
sixteen xs = omega arith

-- a smaller number of the first sixteen bytes is that of a smaller key
pub prefix_less : (xs ys : List ℕ) → IsBytes xs → IsBytes ys
    → from_be_bytes w128 xs < from_be_bytes w128 ys → slice_cmp nat_cmp xs ys ≡ Less
prefix_less xs ys fx fy lt = in_order 0 16 xs ys fx fy
    (subst (λ (k : ℕ). k < number 0 16 ys) (sixteen xs)
    (subst (λ (k : ℕ). from_be_bytes w128 xs < k) (sixteen ys) lt))

-- ---- zeros behind a key

same_digits : (p n : ℕ) (xs ys : List ℕ) → ((i : ℕ) → get_or xs i 0 ≡ get_or ys i 0)
    → number p n xs ≡ number p n ys
same_digits p zero xs ys same = refl
same_digits p (suc n) xs ys same =
    let before = same_digits p n xs ys same in
    omega (arith, before, same n)

zeros : (n i : ℕ) → get_or {A = ℕ} (replicate n 0) i 0 ≡ 0
zeros n i = elim (cases_lt i n) [
  | inl lt ↦ get_or-replicate n i 0 0 lt
  | inr le ↦ get_or_past (replicate n 0) i 0 (omega (arith, length-replicate {A = ℕ} n 0, le))
]

followed : (xs zs : List ℕ) → ((i : ℕ) → get_or zs i 0 ≡ 0) → (i : ℕ)
    → get_or (xs ++ zs) i 0 ≡ get_or xs i 0
followed [] zs none i = none i
followed (x ∷ xs) zs none zero = refl
followed (x ∷ xs) zs none (suc i) = followed xs zs none i

-- zeros behind a key leave its number
pub padded : (key : List ℕ) (m n : ℕ)
    → from_be_bytes w128 (key ++ drop m (replicate n 0)) ≡ from_be_bytes w128 key
padded key m n = sixteen (key ++ drop m (replicate n 0))
    ∙ same_digits 0 16 (key ++ drop m (replicate n 0)) key
    (followed key (drop m (replicate n 0)) (λ i. rw get_or-drop (zeros n (m + i))))
    ∙ sym (sixteen key)
