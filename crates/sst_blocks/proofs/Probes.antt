-- Bits in bytes, and the bits of a hash.
use Rattle.std.proofs.Common.{◌≡◌, refl, sym, ◌∙◌, ap, ℕ, zero, suc, ◌+◌, ◌-◌, ◌*◌, ◌/◌, ◌%◌, ◌^◌}
use Rattle.std.proofs.Common.{◌<◌, ◌≤◌, ◌==◌, ◌||◌, ◌&&◌, Bool, true, false, List, [], ◌∷◌, ◌++◌}
use Rattle.std.proofs.Common.{length, slice_index_or, slice_set, replicate, bit_or, mod-lt, arith}
use Rattle.std.proofs.Common.{w8, ⊎_elim, ◌≢◌, inl, inr}
use Rattle.std.specs.Prelude.{min}
use Rattle.std.specs.Int.{bit_at}
use Rattle.std.specs.List.{list_any, list_all}
use Rattle.std.proofs.lemmas.Bool.{cases_eq, cases_lt, cases_Bool}
use Rattle.std.proofs.lemmas.Bool.Decides.{eqb_tells}
use Rattle.std.proofs.lemmas.List.{get_or-set_same, get_or-set_other, get_or-replicate, get_or_past}
use Rattle.std.proofs.lemmas.List.{length-replicate}
use Rattle.std.proofs.lemmas.List.Folds.{list_any-append, list_all-append}
use Rattle.std.proofs.lemmas.Nat.{mod_below}
use Rattle.std.proofs.Math.Nat.{add-mod, add-mod_left, mod-eq_of_lt}
use Rattle.std.proofs.lemmas.Nat.Bits.{bit_at_set_same, bit_at_set_other, bit_at-zero}
use Rattle.sst_entries.proofs.Booleans.{apart, or_no, or_right}
use Rattle.std.proofs.Math.Numerals.{add-one}
use Rattle.sst_blocks.specs.filter.Filter.{admits, BloomFilter, filter_in, Gains, IsFilterOf, is_in}
use Rattle.sst_blocks.specs.filter.Filter.{is_set, probe, probes, probes_of, stride}

-- ---- one bit

-- the byte with one bit more
abbrev with_bit : ℕ → ℕ → ℕ
with_bit byte i = bit_or byte (1 * 2 ^ i % 256)

module _ (bytes : List ℕ) (q : ℕ) (within : q < 8 * length bytes) where
  abbrev byte : ℕ
  byte = slice_index_or bytes (q / 8) 0

  abbrev changed : List ℕ
  changed = slice_set bytes (q / 8) (with_bit byte (q % 8))

  there : q / 8 < length bytes
  there = omega (arith, within)

  small : q % 8 < 8
  small = omega arith

  -- the bit that is set
  bit_same : is_set changed q ≡ true
  bit_same =
      ap (λ (b : ℕ). bit_at b (q % 8) == 1) (get_or-set_same bytes (q / 8)
      (with_bit byte (q % 8)) 0 there)
      ∙ ap (λ (b : ℕ). b == 1) (bit_at_set_same w8 byte (q % 8) small)

  -- another one
  bit_other : (p : ℕ) → (p ≡ q → ⊥) → is_set changed p ≡ is_set bytes p
  bit_other p ne = ⊎_elim
      (λ (e : p / 8 ≡ q / 8).
      let apart : p % 8 ≢ q % 8 = λ same. ne (omega (arith, e, same)) in
      ap (λ (b : ℕ). bit_at b (p % 8) == 1) (ap (λ (i : ℕ). slice_index_or changed i 0) e
      ∙ get_or-set_same bytes (q / 8) (with_bit byte (q % 8)) 0 there)
      ∙ ap (λ (b : ℕ). b == 1) (bit_at_set_other w8 byte (q % 8) small (p % 8) apart)
      ∙ ap (λ (i : ℕ). bit_at (slice_index_or bytes i 0) (p % 8) == 1) (sym e))
      (λ (other : p / 8 ≢ q / 8). ap (λ (b : ℕ). bit_at b (p % 8) == 1)
      (get_or-set_other bytes (q / 8) (p / 8) (with_bit byte (q % 8)) 0 other))
      (cases_eq (p / 8) (q / 8))

  -- setting a bit sets just that one
  pub bit_gained : (p : ℕ) → is_set changed p ≡ (is_set bytes p || (q == p))
  bit_gained p = ⊎_elim
      (λ (e : p ≡ q). let here : (q == p) ≡ true = yes e in ap (is_set changed) e ∙ bit_same
      ∙ sym (or_right (is_set bytes p) (q == p) here))
      (λ (ne : p ≢ q). let far : (q == p) ≡ false = no_other ne in bit_other p ne
      ∙ sym (or_false (is_set bytes p) (q == p) far))
      (cases_eq p q)
    where
      or_false : (a b : Bool) → b ≡ false → (a || b) ≡ a
      or_false true b h = refl
      or_false false b h = h

      yes : p ≡ q → (q == p) ≡ true
      yes e = ⊎_elim (λ h. h.0) (λ h. absurd (h.1 (sym e))) (eqb_tells q p)

      no_other : (p ≡ q → ⊥) → (q == p) ≡ false
      no_other ne = ⊎_elim (λ h. absurd (ne (sym h.1))) (λ h. h.0) (eqb_tells q p)

-- ---- the bits of a hash

-- one probe more
pub probes_more : (m h i : ℕ) → probes m h (i + 1) ≡ probes m h i ++ probe m h i ∷ []
unfolding probes
probes_more m h i = ap (probes m h) (add-one i)

pub probes_none : (m h : ℕ) → probes m h 0 ≡ []
unfolding probes
probes_none m h = refl

-- the next probe lies a stride behind
pub next_probe : (h i s d n : ℕ) → s ≡ d → n ≡ (h + i * d) % 2 ^ 64
    → (n + s) % 2 ^ 64 ≡ (h + (i + 1) * d) % 2 ^ 64
next_probe h i s d n same e = let more : (i + 1) * d ≡ i * d + d = grind arith in
    omega (arith, same, e, more)

-- so its place is that many bits on, or from the front again
module _ (a s n place step next : ℕ) (some : 0 < n) (here : place ≡ a % n) (far : step ≡ s % n)
    (sum : next ≡ (a + s) % 2 ^ 64) (fits : a + s < 2 ^ 64) where
  place_sum : next % n ≡ (place + step) % n
  place_sum = ap (λ (x : ℕ). x % n) (sum ∙ mod-eq_of_lt fits) ∙ add-mod a s n
      ∙ ap (λ (x : ℕ). (x + s % n) % n) (sym here) ∙ ap (λ (x : ℕ). (place + x) % n) (sym far)

  pub place_on : place + step < n → place + step ≡ next % n
  place_on within = sym (place_sum ∙ mod-eq_of_lt within)

  pub place_round : n ≤ place + step → place + step - n ≡ next % n
  place_round past =
      let first : a % n < n = mod_below a n some in
      let second : s % n < n = mod_below s n some in
      let over : ℕ = place + step - n in
      let whole : place + step ≡ n + over = omega (arith, past) in
      let less : over < n = omega (arith, first, second, here, far, past) in
      sym (place_sum ∙ ap (λ (x : ℕ). x % n) whole ∙ add-mod_left n over ∙ mod-eq_of_lt less)

  -- and the lesser of the sum and a difference that wraps is either
  pub place_least : (w : ℕ) → n < 2 ^ 63 → w ≡ (place + step + (2 ^ 64 - n)) % 2 ^ 64
      → min (place + step) w ≡ next % n
  place_least w short wraps =
      let first : a % n < n = mod_below a n some in
      let second : s % n < n = mod_below s n some in
      elim (cases_lt (place + step) n) [
        | inl within ↦
            let is : min (place + step) w ≡ place + step = omega (arith, wraps, within, short) in
            is ∙ place_on within
        | inr past ↦
            let is : min (place + step) w ≡ place + step - n =
            omega (arith, wraps, first, second, here, far, past, short) in
            is ∙ place_round past
      ]

-- and lies at a bit of the filter
pub probe_is : (h i n len : ℕ) → n ≡ (h + i * stride h) % 2 ^ 64
    → n % (len * 8) ≡ probe (8 * len) h i
probe_is h i n len e =
    let turned : len * 8 ≡ 8 * len = omega arith in
    ap (λ (x : ℕ). x % (len * 8)) e ∙ ap (λ (m : ℕ). ((h + i * stride h) % 2 ^ 64) % m) turned

-- a bit is in a list with one more
pub is_in_more : (p q : ℕ) (ps : List ℕ) → is_in p (ps ++ q ∷ []) ≡ (is_in p ps || (q == p))
is_in_more p q ps = list_any-append (λ (x : ℕ). x == p) ps (q ∷ [])
    ∙ ap (λ (b : Bool). is_in p ps || b) (or_no (q == p))

-- one bit more has to be set
pub all_more : (bytes : List ℕ) (q : ℕ) (ps : List ℕ)
    → list_all (is_set bytes) (ps ++ q ∷ []) ≡ (list_all (is_set bytes) ps && is_set bytes q)
all_more bytes q ps = list_all-append (is_set bytes) ps (q ∷ [])
    ∙ ap (λ (b : Bool). list_all (is_set bytes) ps && b) (and_yes (is_set bytes q))
  where
    and_yes : (b : Bool) → (b && true) ≡ b
    and_yes true = refl
    and_yes false = refl

-- ---- setting the bits of a hash

pub set_none : (bytes : List ℕ) (m h p : ℕ) → is_set bytes p
    ≡ (is_set bytes p || is_in p (probes m h 0))
set_none bytes m h p = sym (ap (λ (ps : List ℕ). is_set bytes p || is_in p ps) (probes_none m h)
    ∙ or_no (is_set bytes p))

-- one probe more is set
pub set_more : (bytes now next : List ℕ) (m q h i p : ℕ) → q ≡ probe m h i →
    is_set next p ≡ (is_set now p || (q == p)) →
    is_set now p ≡ (is_set bytes p || is_in p (probes m h i)) →
    is_set next p ≡ (is_set bytes p || is_in p (probes m h (i + 1)))
set_more bytes now next m q h i p is gained so_far =
    gained ∙ ap (λ (b : Bool). b || (q == p)) so_far
    ∙ or_assoc (is_set bytes p) (is_in p (probes m h i)) (q == p)
    ∙ ap (λ (b : Bool). is_set bytes p || b)
    (ap (λ (r : ℕ). is_in p (probes m h i) || (r == p)) is
    ∙ sym (is_in_more p (probe m h i) (probes m h i)) ∙ ap (is_in p) (sym (probes_more m h i)))
  where
    or_assoc : (a b c : Bool) → ((a || b) || c) ≡ (a || (b || c))
    or_assoc true b c = refl
    or_assoc false b c = refl

-- ---- asking for the bits of a hash

pub asked_none : (bytes : List ℕ) (m h : ℕ) → list_all (is_set bytes) (probes m h 0) ≡ true
asked_none bytes m h = ap (list_all (is_set bytes)) (probes_none m h)

pub asked_more : (bytes : List ℕ) (m h i q : ℕ) → q ≡ probe m h i
    → list_all (is_set bytes) (probes m h i) ≡ true →
    list_all (is_set bytes) (probes m h (i + 1)) ≡ is_set bytes q
asked_more bytes m h i q is so_far =
    ap (list_all (is_set bytes)) (probes_more m h i) ∙ all_more bytes (probe m h i) (probes m h i)
    ∙ ap (λ (b : Bool). b && is_set bytes (probe m h i)) so_far ∙ ap (is_set bytes) (sym is)

-- a probe that is not set decides
pub asked_in_vain : (bytes : List ℕ) (m h i k : ℕ) → i ≤ k
    → list_all (is_set bytes) (probes m h i) ≡ false →
    list_all (is_set bytes) (probes m h k) ≡ false
asked_in_vain bytes m h i k le in_vain = ap (λ (n : ℕ). list_all (is_set bytes) (probes m h n)) k_is
    ∙ from (k - i)
  where
    k_is : k ≡ i + (k - i)
    k_is = omega (arith, le)

    from : (d : ℕ) → list_all (is_set bytes) (probes m h (i + d)) ≡ false
    from zero = let none : i + 0 ≡ i = omega arith in
        ap (λ (n : ℕ). list_all (is_set bytes) (probes m h n)) none ∙ in_vain
    from (suc d) =
        let more : i + suc d ≡ (i + d) + 1 = omega arith in
        ap (λ (n : ℕ). list_all (is_set bytes) (probes m h n)) more
        ∙ ap (list_all (is_set bytes)) (probes_more m h (i + d))
        ∙ all_more bytes (probe m h (i + d)) (probes m h (i + d))
        ∙ ap (λ (b : Bool). b && is_set bytes (probe m h (i + d))) (from d)

-- ---- filters of hashes

-- a probe lies within the bits
pub probe_within : (m h i : ℕ) → 0 < m → probe m h i < m
probe_within m h i some = mod-lt ((h + i * stride h) % 2 ^ 64) some

-- what is so of each of a hash's bits is so of all of them
pub all_probes : (bytes : List ℕ) (m h : ℕ) → 0 < m → (k : ℕ) →
    ((p : ℕ) → p < m → is_in p (probes m h k) ≡ true → is_set bytes p ≡ true)
    → list_all (is_set bytes) (probes m h k) ≡ true
all_probes bytes m h some zero each = asked_none bytes m h
all_probes bytes m h some (suc k) each =
    let more : probes m h (suc k) ≡ probes m h k ++ probe m h k ∷ [] =
    ap (probes m h) (sym (add-one k)) ∙ probes_more m h k in
    let in_more : (p : ℕ) → is_in p (probes m h (suc k))
    ≡ (is_in p (probes m h k) || (probe m h k == p)) =
    λ p. ap (is_in p) more ∙ is_in_more p (probe m h k) (probes m h k) in
    let front : list_all (is_set bytes) (probes m h k) ≡ true =
    all_probes bytes m h some k (λ p lt here. each p lt
    (in_more p ∙ ap (λ (b : Bool). b || (probe m h k == p)) here)) in
    let last : is_set bytes (probe m h k) ≡ true =
    each (probe m h k) (probe_within m h k some)
    (in_more (probe m h k) ∙ or_right (is_in (probe m h k) (probes m h k))
    (probe m h k == probe m h k) (itself (probe m h k))) in
    ap (list_all (is_set bytes)) more ∙ all_more bytes (probe m h k) (probes m h k)
    ∙ ap (λ (b : Bool). b && is_set bytes (probe m h k)) front ∙ last
  where
    itself : (n : ℕ) → (n == n) ≡ true
    itself n = ⊎_elim (λ e. e.0) (λ e. absurd (e.1 refl)) (eqb_tells n n)

-- a hash of the list has all its bits set
pub set_by : (probe_list : ℕ → List ℕ) (h p : ℕ) (hashes : List ℕ) → is_in h hashes ≡ true
    → is_in p (probe_list h) ≡ true →
    list_any (λ x. is_in p (probe_list x)) hashes ≡ true
set_by probe_list h p [] here at = absurd (not_in here)
  where
    not_in : false ≡ true → ⊥
    not_in e = absurd cc
set_by probe_list h p (x ∷ hashes) here at = ⊎_elim
    (λ (e : (x == h) ≡ true).
    let same : x ≡ h = ⊎_elim (λ t. t.1) (λ t. absurd (apart (x == h) e t.0)) (eqb_tells x h) in
    ap (λ (b : Bool). b || list_any (λ y. is_in p (probe_list y)) hashes)
    (ap (λ y. is_in p (probe_list y)) same ∙ at))
    (λ (e : (x == h) ≡ false).
    let later : is_in h hashes ≡ true = sym (ap (λ (b : Bool). b || is_in h hashes) e) ∙ here in
    or_right (is_in p (probe_list x)) (list_any (λ y. is_in p (probe_list y)) hashes)
    (set_by probe_list h p hashes later at))
    (cases_Bool (x == h))

-- so a filter admits each of its hashes
pub admits_its_hashes : (f : BloomFilter) (hashes : List ℕ) (h : ℕ) → 0 < length f.bits
    → IsFilterOf f hashes → is_in h hashes ≡ true → admits f h ≡ true
admits_its_hashes f hashes h some of here =
    all_probes f.bits (8 * length f.bits) h (omega (arith, some)) f.probe_count
    (λ p lt at. of.bits p lt ∙ set_by (probes_of f) h p hashes here at)

-- a filter of some hashes is one of these and the hash that it gains
pub gains_hash : (f g : BloomFilter) (h : ℕ) (hashes : List ℕ) → Gains f h g → IsFilterOf f hashes
    → IsFilterOf g (hashes ++ h ∷ [])
gains_hash f g h hashes gains of = record {
  bits = λ p lt.
      let below : p < 8 * length f.bits = rw (← gains.same_length) lt in
      let same : (x : ℕ) → probes_of g x ≡ probes_of f x =
      λ x. ap (λ (k : ℕ). probes (8 * length g.bits) x k) gains.probe_count_is
      ∙ ap (λ (n : ℕ). probes (8 * n) x f.probe_count) gains.same_length in
      gains.bits p below ∙ ap (λ (b : Bool). b || is_in p (probes_of f h)) (of.bits p below)
      ∙ sym (any_more (λ x. is_in p (probes_of f x)) hashes h)
      ∙ any_same (λ x. is_in p (probes_of f x)) (λ x. is_in p (probes_of g x))
      (λ x. ap (is_in p) (sym (same x))) (hashes ++ h ∷ []);
}
  where
    any_more : (test : ℕ → Bool) (xs : List ℕ) (x : ℕ)
        → list_any test (xs ++ x ∷ []) ≡ (list_any test xs || test x)
    any_more test xs x = list_any-append test xs (x ∷ [])
        ∙ ap (λ (b : Bool). list_any test xs || b) (or_no (test x))

    any_same : (one other : ℕ → Bool) → ((x : ℕ) → one x ≡ other x) → (xs : List ℕ)
        → list_any one xs ≡ list_any other xs
    any_same one other same [] = refl
    any_same one other same (x ∷ xs) = ap (λ (b : Bool). b || list_any one xs) (same x)
        ∙ ap (λ (b : Bool). other x || b) (any_same one other same xs)

abbrev zeroes : ℕ → List ℕ
zeroes n = replicate n 0

-- no bit of zeroes is set
pub none_set : (k n : ℕ) → IsFilterOf (record { probe_count = k; bits = replicate n 0 }) []
none_set k n = record { bits = λ p lt. none p }
  where
    zero_at : (n i : ℕ) → slice_index_or (zeroes n) i 0 ≡ 0
    zero_at n i = ⊎_elim (λ lt. get_or-replicate n i 0 0 lt)
        (λ le. get_or_past (replicate n 0) i 0 (omega (arith, le, length-replicate {A = ℕ} n 0)))
        (cases_lt i n)

    none : (p : ℕ) → is_set (replicate n 0) p ≡ false
    none p = ap (λ (b : ℕ). bit_at b (p % 8) == 1) (zero_at n (p / 8))
        ∙ ap (λ (b : ℕ). b == 1) (bit_at-zero (p % 8))

-- and so does a payload
pub payload_admits : (payload : List ℕ) (h : ℕ) (hashes : List ℕ) (r : Bool) → 1 < length payload
    → r ≡ admits (filter_in payload) h →
    IsFilterOf (filter_in payload) hashes → is_in h hashes ≡ true → r ≡ true
payload_admits [] h hashes r some e of here = absurd (omega (arith, some))
payload_admits (k ∷ bits) h hashes r some e of here = e
    ∙ admits_its_hashes (filter_in (k ∷ bits)) hashes h (omega (arith, some)) of here
