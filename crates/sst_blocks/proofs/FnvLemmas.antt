-- Hashing in parts.
use Rattle.std.proofs.Common.{ap₂, ◌↔◌, ◌*◌, ◌%◌, ◌^◌, ◌-◌, arith, bit_xor, ◌≡◌, ℕ, ◌+◌, ◌<◌, ◌≤◌}
use Rattle.std.proofs.Common.{List, [], ◌∷◌, ◌++◌, length, get_or, take, drop, refl, sym, ap, ◌∙◌}
use Rattle.std.proofs.lemmas.List.{take_more, take-append-drop, take-append-le}
use Rattle.std.proofs.lemmas.List.{drop_all, drop_more}
use Rattle.std.proofs.lemmas.Nat.{mul-mod_first, xor_mod}
use Rattle.std.proofs.Math.Nat.{mod-eq_of_lt, mod-lt, mul-add-mod_self_right}
use Rattle.std.specs.Int.Bits.{xor_assoc, xor_self, xor_zero_r}
use Rattle.std.proofs.Math.Seq.{take-add}
use Rattle.std.specs.List.{slice_range}
use Rattle.sst_blocks.specs.Fnv.{fnv_back, fnv_from, fnv_inverse, fnv_prime, fnv_step}

-- some bytes, and then more of them
pub fnv_from-append : (h : ℕ) (xs ys : List ℕ) → fnv_from h (xs ++ ys) ≡ fnv_from (fnv_from h xs) ys
unfolding fnv_from
fnv_from-append h [] ys = refl
fnv_from-append h (x ∷ xs) ys = fnv_from-append (fnv_step h x) xs ys

-- one byte more
pub fnv_from-more : (h : ℕ) (xs : List ℕ) (i : ℕ) → i < length xs
    → fnv_from h (take (i + 1) xs) ≡ fnv_step (fnv_from h (take i xs)) (get_or xs i 0)
unfolding fnv_from
fnv_from-more h xs i lt = ap (fnv_from h) (take_more xs i 0 lt)
    ∙ fnv_from-append h (take i xs) (get_or xs i 0 ∷ [])

-- no byte more
pub fnv_from-none : (h : ℕ) → fnv_from h [] ≡ h
unfolding fnv_from
fnv_from-none h = refl

-- the front, and then the rest
pub fnv_from-split : (h n : ℕ) (xs : List ℕ)
    → fnv_from (fnv_from h (take n xs)) (drop n xs) ≡ fnv_from h xs
fnv_from-split h n xs = sym (fnv_from-append h (take n xs) (drop n xs))
    ∙ ap (fnv_from h) (take-append-drop n xs)

-- the rest of a list whose front is hashed, where the list has grown since
pub fnv_from-grown : (h n : ℕ) (xs ys : List ℕ) → n ≤ length xs
    → fnv_from (fnv_from h (take n xs)) (drop n (xs ++ ys)) ≡ fnv_from h (xs ++ ys)
fnv_from-grown h n xs ys le =
    ap (λ (front : List ℕ). fnv_from (fnv_from h front) (drop n (xs ++ ys)))
    (sym (take-append-le n xs ys le)) ∙ fnv_from-split h n (xs ++ ys)

-- the hash of a front stays, where the list has grown since
pub fnv_from-front : (h basis n : ℕ) (xs ys grown : List ℕ) → n ≤ length xs → grown ≡ xs ++ ys
    → h ≡ fnv_from basis (take n xs) → h ≡ fnv_from basis (take n grown)
fnv_from-front h basis n xs ys grown le e hashed = hashed
    ∙ ap (fnv_from basis) (sym (take-append-le n xs ys le) ∙ ap (take n) (sym e))

-- the same number twice is none
xor-xor : (a b : ℕ) → bit_xor (bit_xor a b) b ≡ a
xor-xor a b = xor_assoc a b b ∙ ap (bit_xor a) (xor_self b) ∙ xor_zero_r a

-- the prime and its inverse
times-inverse-prime : (x : ℕ) → (x * fnv_inverse % 2 ^ 64 * fnv_prime) % 2 ^ 64 ≡ x % 2 ^ 64
times-inverse-prime x =
    let whole : x * fnv_inverse * fnv_prime ≡ x * 887285111055 * 2 ^ 64 + x = omega arith in
    mul-mod_first (x * fnv_inverse) fnv_prime (2 ^ 64) ∙ ap (λ (n : ℕ). n % 2 ^ 64) whole
    ∙ mul-add-mod_self_right (x * 887285111055) (2 ^ 64) x

times-prime-inverse : (x : ℕ) → (x * fnv_prime % 2 ^ 64 * fnv_inverse) % 2 ^ 64 ≡ x % 2 ^ 64
times-prime-inverse x =
    let whole : x * fnv_prime * fnv_inverse ≡ x * 887285111055 * 2 ^ 64 + x = omega arith in
    mul-mod_first (x * fnv_prime) fnv_inverse (2 ^ 64) ∙ ap (λ (n : ℕ). n % 2 ^ 64) whole
    ∙ mul-add-mod_self_right (x * 887285111055) (2 ^ 64) x

-- a step undoes a step back
fnv_step-back : (h b : ℕ) → h < 2 ^ 64 → fnv_step (fnv_back h b) b ≡ h
fnv_step-back h b lt =
    ap (λ (n : ℕ). (n * fnv_prime) % 2 ^ 64) (xor-xor ((h * fnv_inverse) % 2 ^ 64) b)
    ∙ times-inverse-prime h ∙ mod-eq_of_lt lt

-- steps with one byte from two values differ
fnv_step-differs : (h g b : ℕ) → h < 2 ^ 64 → g < 2 ^ 64 → fnv_step h b ≡ fnv_step g b → h ≡ g
fnv_step-differs h g b lh lg e =
    let apart : (x : ℕ) → x < 2 ^ 64 → bit_xor ((fnv_step x b * fnv_inverse) % 2 ^ 64) (b % 2 ^ 64)
    ≡ x =
    λ x lx. ap (λ (n : ℕ). bit_xor n (b % 2 ^ 64))
    (times-prime-inverse (bit_xor x b) ∙ xor_mod x b 64) ∙ xor-xor (x % 2 ^ 64) (b % 2 ^ 64)
    ∙ mod-eq_of_lt lx in
    sym (apart h lh) ∙ ap (λ (n : ℕ). bit_xor ((n * fnv_inverse) % 2 ^ 64) (b % 2 ^ 64)) e
    ∙ apart g lg

-- some bytes from two values differ
fnv_from-differs : (bs : List ℕ) (h g : ℕ) → h < 2 ^ 64 → g < 2 ^ 64 → fnv_from h bs ≡ fnv_from g bs
    → h ≡ g
unfolding fnv_from
fnv_from-differs [] h g lh lg e = e
fnv_from-differs (b ∷ bs) h g lh lg e =
    fnv_step-differs h g b lh lg (fnv_from-differs bs (fnv_step h b) (fnv_step g b)
    (mod-lt _ (omega arith)) (mod-lt _ (omega arith)) e)

-- a hash fits
pub fnv_from-fits : (h : ℕ) (bs : List ℕ) → h < 2 ^ 64 → fnv_from h bs < 2 ^ 64
unfolding fnv_from
fnv_from-fits h [] lt = lt
fnv_from-fits h (b ∷ bs) lt = fnv_from-fits (fnv_step h b) bs (mod-lt _ (omega arith))

-- no byte is taken off the back
pub fnv_back-none : (h : ℕ) (xs : List ℕ) → fnv_from h (drop (length xs - 0) xs) ≡ h
fnv_back-none h xs = ap (fnv_from h) (drop_all _ xs (omega arith)) ∙ fnv_from-none h

-- one byte more is
pub fnv_back-more : (h : ℕ) (xs : List ℕ) (i : ℕ) → h < 2 ^ 64 → i < length xs
    → fnv_from (fnv_back h (get_or xs (length xs - 1 - i) 0)) (drop (length xs - (i + 1)) xs)
    ≡ fnv_from h (drop (length xs - i) xs)
unfolding fnv_from
fnv_back-more h xs i lt short =
    let at = length xs - 1 - i in
    let here : length xs - (i + 1) ≡ at = omega arith in
    let next : at + 1 ≡ length xs - i = omega arith in
    ap (λ (n : ℕ). fnv_from (fnv_back h (get_or xs at 0)) (drop n xs)) here
    ∙ ap (fnv_from (fnv_back h (get_or xs at 0))) (drop_more xs at 0 (omega arith))
    ∙ ap (λ (n : ℕ). fnv_from n (drop (at + 1) xs)) (fnv_step-back h (get_or xs at 0) lt)
    ∙ ap (λ (n : ℕ). fnv_from h (drop n xs)) next

-- a front, and then the part behind it
fnv_from-part : (h a b : ℕ) (xs : List ℕ) → a ≤ b
    → fnv_from (fnv_from h (take a xs)) (slice_range xs a b) ≡ fnv_from h (take b xs)
fnv_from-part h a b xs le =
    let end : a + (b - a) ≡ b = omega arith in
    sym (fnv_from-append h (take a xs) (take (b - a) (drop a xs)))
    ∙ ap (fnv_from h) (sym (take-add a (b - a) xs) ∙ ap (λ (n : ℕ). take n xs) end)

-- the front is hashed and the back taken off: what is between leads from one to the other where the
-- whole leads so
pub fnv_from-meets : (from to front back n : ℕ) (xs : List ℕ) → from < 2 ^ 64 → back < 2 ^ 64
    → n + n ≤ length xs
    → front ≡ fnv_from from (take n xs) → fnv_from back (drop (length xs - n) xs) ≡ to
    → (fnv_from front (slice_range xs n (length xs - n)) ≡ back) ↔ (fnv_from from xs ≡ to)
fnv_from-meets from to front back n xs lf lb le hashed taken =
    let end = length xs - n in
    let between = fnv_from front (slice_range xs n end) in
    let upto : between ≡ fnv_from from (take end xs) =
    ap (λ (m : ℕ). fnv_from m (slice_range xs n end)) hashed
    ∙ fnv_from-part from n end xs (omega arith) in
    let fits : between < 2 ^ 64 = omega (arith, upto, fnv_from-fits from (take end xs) lf) in
    let whole : fnv_from between (drop end xs) ≡ fnv_from from xs =
    ap (λ (m : ℕ). fnv_from m (drop end xs)) upto ∙ fnv_from-split from end xs in (
      λ e. sym whole ∙ ap (λ (m : ℕ). fnv_from m (drop end xs)) e ∙ taken,
      λ e. fnv_from-differs (drop end xs) between back fits lb (whole ∙ e ∙ sym taken),
    )

-- two bytes more
pub fnv_from-two : (h : ℕ) (xs : List ℕ) (i : ℕ) → 2 * i + 1 < length xs
    → fnv_from h (take (2 * (i + 1)) xs)
    ≡ fnv_step (fnv_step (fnv_from h (take (2 * i) xs)) (get_or xs (2 * i) 0))
    (get_or xs (2 * i + 1) 0)
fnv_from-two h xs i lt =
    let next : 2 * (i + 1) ≡ 2 * i + 1 + 1 = omega arith in
    ap (λ (n : ℕ). fnv_from h (take n xs)) next
    ∙ fnv_from-more h xs (2 * i + 1) lt
    ∙ ap (λ (n : ℕ). fnv_step n (get_or xs (2 * i + 1) 0))
    (fnv_from-more h xs (2 * i) (omega arith))

-- two bytes more are taken off the back
pub fnv_back-two : (h : ℕ) (xs : List ℕ) (i : ℕ) → h < 2 ^ 64
    → fnv_back h (get_or xs (length xs - 1 - 2 * i) 0) < 2 ^ 64 → 2 * i + 1 < length xs
    → fnv_from
    (fnv_back (fnv_back h (get_or xs (length xs - 1 - 2 * i) 0))
    (get_or xs (length xs - 2 - 2 * i) 0)) (drop (length xs - 2 * (i + 1)) xs)
    ≡ fnv_from h (drop (length xs - 2 * i) xs)
fnv_back-two h xs i fits inner_fits lt =
    let inner = fnv_back h (get_or xs (length xs - 1 - 2 * i) 0) in
    let here : length xs - 2 - 2 * i ≡ length xs - 1 - (2 * i + 1) = omega arith in
    let next : 2 * (i + 1) ≡ 2 * i + 1 + 1 = omega arith in
    ap₂ (λ (m n : ℕ). fnv_from (fnv_back inner (get_or xs m 0)) (drop (length xs - n) xs)) here next
    ∙ fnv_back-more inner xs (2 * i + 1) inner_fits lt
    ∙ fnv_back-more h xs (2 * i) fits (omega arith)
