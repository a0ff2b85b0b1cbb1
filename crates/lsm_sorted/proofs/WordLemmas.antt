-- Bytes compared as numbers, of which the first byte is the highest.
use Rattle.std.proofs.Common.{◌≡◌, refl, sym, ◌∙◌, ap, subst, ℕ, suc, ◌+◌, ◌*◌, ◌<◌, ◌≤◌, true}
use Rattle.std.proofs.Common.{false, List, [], ◌∷◌, ◌++◌, length, take, drop, arith}
use Rattle.std.proofs.lemmas.List.{take-append-drop, length-take-le}
use Rattle.std.specs.declared.cmp.Ordering.{Ordering}
use Rattle.std.specs.declared.cmp.Ordering.TheVariants.{Less, Equal, Greater}
use Rattle.std.specs.Cmp.Lexicographic.{slice_cmp}
use Rattle.std.specs.Int.{w64, from_be_bytes}
use Rattle.std.specs.Ordering.{nat_cmp, ordering_then, is_ne}
use Rattle.std.specs.Cmp.{nat_cmp_is}
use Rattle.std.proofs.lemmas.Cmp.{ranked}
use Rattle.sst_entries.proofs.Bytes.{IsBytes, IsBytes-take}

abbrev number : ℕ → List ℕ → ℕ
number p [] = p
number p (x ∷ xs) = number (p * 256 + x) xs

stays_below : (p q : ℕ) (xs ys : List ℕ) → length xs ≡ length ys → IsBytes xs → p < q
    → number p xs < number q ys
stays_below p q [] [] same fits h = h
stays_below p q [] (y ∷ ys) same fits h = cc
stays_below p q (x ∷ xs) [] same fits h = cc
stays_below p q (x ∷ xs) (y ∷ ys) same fits h =
    stays_below (p * 256 + x) (q * 256 + y) xs ys (omega (arith, same)) (λ i. fits (suc i))
    (omega (arith, fits 0, h))

fronts : (p : ℕ) (xs ys : List ℕ) → length xs ≡ length ys → IsBytes xs → IsBytes ys
    → (us vs : List ℕ)
    → slice_cmp nat_cmp (xs ++ us) (ys ++ vs) ≡ ordering_then (nat_cmp (number p xs) (number p ys))
    (slice_cmp nat_cmp us vs)
fronts p [] [] same fx fy us vs = ap (λ o. ordering_then o (slice_cmp nat_cmp us vs))
    (nat_cmp_is p p Equal refl)
fronts p [] (y ∷ ys) same fx fy us vs = cc
fronts p (x ∷ xs) [] same fx fy us vs = cc
fronts p (x ∷ xs) (y ∷ ys) same fx fy us vs =
    by_first (fronts (p * 256 + x) xs ys (omega (arith, same)) (λ i. fx (suc i))
    (λ i. fy (suc i)) us vs) (nat_cmp x y) refl
  where
    rest : Ordering
    rest = slice_cmp nat_cmp (xs ++ us) (ys ++ vs)

    tail : Ordering
    tail = slice_cmp nat_cmp us vs

    shorter : length xs ≡ length ys
    shorter = omega (arith, same)

    by_first : rest ≡ ordering_then (nat_cmp (number (p * 256 + x) xs) (number (p * 256 + x) ys))
        tail
        → (r : Ordering) → r ≡ nat_cmp x y
        → ordering_then r rest ≡ ordering_then (nat_cmp (number (p * 256 + x) xs)
        (number (p * 256 + y) ys)) tail
    by_first more Less e =
        ap (λ o. ordering_then o tail) (nat_cmp_is (number (p * 256 + x) xs)
        (number (p * 256 + y) ys) Less
        (stays_below (p * 256 + x) (p * 256 + y) xs ys shorter (λ i. fx (suc i))
        (omega (arith, ranked x y Less e))))
    by_first more Greater e =
        ap (λ o. ordering_then o tail) (nat_cmp_is (number (p * 256 + x) xs)
        (number (p * 256 + y) ys) Greater
        (stays_below (p * 256 + y) (p * 256 + x) ys xs (sym shorter) (λ i. fy (suc i))
        (omega (arith, ranked x y Greater e))))
    by_first more Equal e =
        subst (λ (n : ℕ). rest ≡ ordering_then (nat_cmp (number (p * 256 + x) xs)
        (number (p * 256 + n) ys)) tail) (ranked x y Equal e) more

big_endian : (xs : List ℕ) → length xs ≡ 8 → from_be_bytes w64 xs ≡ number 0 xs
big_endian [] l = cc
big_endian (a ∷ []) l = omega (arith, l)
big_endian (a ∷ b ∷ []) l = omega (arith, l)
big_endian (a ∷ b ∷ c ∷ []) l = omega (arith, l)
big_endian (a ∷ b ∷ c ∷ d ∷ []) l = omega (arith, l)
big_endian (a ∷ b ∷ c ∷ d ∷ e ∷ []) l = omega (arith, l)
big_endian (a ∷ b ∷ c ∷ d ∷ e ∷ f ∷ []) l = omega (arith, l)
big_endian (a ∷ b ∷ c ∷ d ∷ e ∷ f ∷ g ∷ []) l = omega (arith, l)
big_endian (a ∷ b ∷ c ∷ d ∷ e ∷ f ∷ g ∷ h ∷ []) l = omega arith
big_endian (a ∷ b ∷ c ∷ d ∷ e ∷ f ∷ g ∷ h ∷ i ∷ xs) l = omega (arith, l)

-- eight bytes before the rest decide as their numbers do, unless these are equal
pub words_first : (xs ys us vs : List ℕ) → length xs ≡ 8 → length ys ≡ 8 → IsBytes xs → IsBytes ys
    → slice_cmp nat_cmp (xs ++ us) (ys ++ vs) ≡ ordering_then
    (nat_cmp (from_be_bytes w64 xs) (from_be_bytes w64 ys)) (slice_cmp nat_cmp us vs)
words_first xs ys us vs lx ly fx fy =
    rw (big_endian xs lx, big_endian ys ly) (fronts 0 xs ys (lx ∙ sym ly) fx fy us vs)

-- the numbers of the first eight bytes of each list, and how they compare
module _ (xs ys : List ℕ) (m n : ℕ) (o : Ordering) (lx : 8 ≤ length xs) (ly : 8 ≤ length ys)
    (fx : IsBytes xs) (fy : IsBytes ys)
    (is_m : m ≡ from_be_bytes w64 (take 8 xs)) (is_n : n ≡ from_be_bytes w64 (take 8 ys))
    (is_o : o ≡ nat_cmp m n) where
  word_first : slice_cmp nat_cmp xs ys ≡ ordering_then o (slice_cmp nat_cmp (drop 8 xs) (drop 8 ys))
  word_first =
      let w = words_first (take 8 xs) (take 8 ys) (drop 8 xs) (drop 8 ys) (length-take-le 8 xs lx)
      (length-take-le 8 ys ly) (IsBytes-take 8 xs fx) (IsBytes-take 8 ys fy) in
      let same : o ≡ nat_cmp (from_be_bytes w64 (take 8 xs)) (from_be_bytes w64 (take 8 ys)) = is_o
      ∙ ap (λ k. nat_cmp k n) is_m ∙ ap (nat_cmp (from_be_bytes w64 (take 8 xs))) is_n in
      let whole : slice_cmp nat_cmp xs ys ≡ slice_cmp nat_cmp (take 8 xs ++ drop 8 xs)
      (take 8 ys ++ drop 8 ys) =
      sym (ap (λ zs. slice_cmp nat_cmp zs (take 8 ys ++ drop 8 ys)) (take-append-drop 8 xs)
      ∙ ap (slice_cmp nat_cmp xs) (take-append-drop 8 ys)) in
      whole ∙ w ∙ ap (λ r. ordering_then r (slice_cmp nat_cmp (drop 8 xs) (drop 8 ys))) (sym same)

  decides : (r : Ordering) (tail : Ordering) → is_ne r ≡ true → ordering_then r tail ≡ r
  decides Less tail e = refl
  decides Equal tail e = cc
  decides Greater tail e = refl

  leaves : (r : Ordering) (tail : Ordering) → is_ne r ≡ false → ordering_then r tail ≡ tail
  leaves Less tail e = cc
  leaves Equal tail e = refl
  leaves Greater tail e = cc

  -- where they differ, they decide
  pub words_decide : is_ne o ≡ true → o ≡ slice_cmp nat_cmp xs ys
  words_decide e = sym (word_first ∙ decides o (slice_cmp nat_cmp (drop 8 xs) (drop 8 ys)) e)

  -- else the rest does
  pub words_leave : is_ne o ≡ false → slice_cmp nat_cmp xs ys
      ≡ slice_cmp nat_cmp (drop 8 xs) (drop 8 ys)
  words_leave e = word_first ∙ leaves o (slice_cmp nat_cmp (drop 8 xs) (drop 8 ys)) e
