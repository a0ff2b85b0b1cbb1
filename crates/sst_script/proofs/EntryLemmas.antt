-- Whether a sorted list has an entry of a key and a seqno.
use Rattle.std.proofs.Common.{◌≡◌, refl, sym, ◌∙◌, ap, ℕ, ◌+◌, ◌<◌, ◌≤◌, Bool, true, false, cond}
use Rattle.std.proofs.Common.{List, [], ◌∷◌, arith, ltb-true, ltb-false}
use Rattle.std.specs.Prelude.{Option, Some, None, ◌&&◌, ◌||◌, ◌==◌, nat_lt, find}
use Rattle.std.specs.List.{AllByRecursion}
use Rattle.std.specs.declared.cmp.Ordering.{Ordering}
use Rattle.std.specs.declared.cmp.Ordering.TheVariants.{Less, Equal, Greater}
use Rattle.std.specs.Cmp.Lexicographic.{slice_cmp, nat_list_cmp_total}
use Rattle.std.specs.Ordering.{nat_cmp, is_gt, ordering_then}
use Rattle.std.proofs.lemmas.Bool.{eqb-true}
use Rattle.std.proofs.lemmas.Bool.Decides.{nat_tests}
use Rattle.std.proofs.lemmas.Cmp.{tied_itself}
use Rattle.sst_entries.specs.Entry.{Entry}
use Rattle.sst_entries.specs.Key.{same_key}
use Rattle.sst_entries.specs.Kind.{tag_of}
use Rattle.sst_entries.specs.Point.{is_hit, point}
use Rattle.sst_entries.proofs.KeyLemmas.{same_is}
use Rattle.sst_entries.proofs.OrderLemmas.{gt_first}
use Rattle.lsm_sorted.specs.merge.Union.{AtMost, Ascends}
use Rattle.sst_script.specs.Runs.{has_entry}

-- whether an optional entry has a seqno
abbrev pub has_number : ℕ → Option Entry → Bool
has_number n None = false
has_number n (Some e) = e.seqno == n

not_above : (m n : ℕ) (b c : Bool) → nat_lt m n ≡ b → (m == n) ≡ c
    → is_gt (cond b Less (cond c Equal Greater)) ≡ false → m ≤ n
not_above m n true c p q h = omega (arith, ltb-true _ _ p)
not_above m n false true p q h = omega (arith, eqb-true _ _ q)
not_above m n false false p q h = absurd cc

-- of two entries of a key the earlier has no smaller seqno
number_falls : (a b : Entry) → AtMost a b → b.user_key ≡ a.user_key → b.seqno ≤ a.seqno
number_falls a b most same =
    let tie : slice_cmp nat_cmp a.user_key b.user_key ≡ Equal =
    ap (slice_cmp nat_cmp a.user_key) same ∙ tied_itself nat_list_cmp_total a.user_key in
    let tags : Ordering = nat_cmp (tag_of a.kind) (tag_of b.kind) in
    let number : is_gt (ordering_then (nat_cmp b.seqno a.seqno) tags) ≡ false =
    sym (ap (λ (o : Ordering). is_gt (ordering_then o
    (ordering_then (nat_cmp b.seqno a.seqno) tags))) tie) ∙ most in
    not_above b.seqno a.seqno _ _ refl refl (gt_first (nat_cmp b.seqno a.seqno) tags number)

abbrev is_at : List ℕ → ℕ → Entry → Bool
is_at key n e = same_key e.user_key key && (e.seqno == n)

other_number : (key : List ℕ) (n : ℕ) (e : Entry) (b : Bool) → same_key e.user_key key ≡ b
    → (b ≡ true → e.seqno < n) → (b && (e.seqno == n)) ≡ false
other_number key n e true same below = let less : e.seqno < n = below refl in
    grind (less, arith, nat_tests)
other_number key n e false same below = refl

-- after an entry of a key with a smaller seqno, no entry of that key has the seqno
none_behind : (key : List ℕ) (n : ℕ) (x : Entry) (es : List Entry) → x.user_key ≡ key → x.seqno < n
    → AllByRecursion (AtMost x) es → has_entry es key n ≡ false
none_behind key n x [] is low h = refl
none_behind key n x (e ∷ es) is low h =
    let below : same_key e.user_key key ≡ true → e.seqno < n =
    λ same. omega (arith, low, number_falls x e h.0 (same_is e.user_key key same ∙ sym is)) in
    let here : is_at key n e ≡ false = other_number key n e (same_key e.user_key key) refl below in
    rw here (none_behind key n x es is low h.1)

abbrev found_in : List ℕ → ℕ → List Entry → Option Entry
found_in key n es = find (is_hit key (n + 1)) es

found_by : (key : List ℕ) (n : ℕ) (e : Entry) (es : List Entry) (same low is : Bool)
    → same_key e.user_key key ≡ same → nat_lt e.seqno (n + 1) ≡ low → (e.seqno == n) ≡ is
    → (e.user_key ≡ key → e.seqno < n → has_entry es key n ≡ false)
    → has_entry es key n ≡ has_number n (found_in key n es)
    → ((same && is) || has_entry es key n)
    ≡ has_number n (cond (same && low) (Some e) (found_in key n es))
found_by key n e es false low is p q r none rest = rest
found_by key n e es true true true p q r none rest = sym r
found_by key n e es true true false p q r none rest =
    let less : e.seqno < n = grind (ltb-true _ _ q, r, arith, nat_tests) in
    none (same_is e.user_key key p) less ∙ sym r
found_by key n e es true false true p q r none rest =
    absurd (omega (arith, ltb-false _ _ q, eqb-true _ _ r))
found_by key n e es true false false p q r none rest = rest

-- the entry of a key and seqno is the newest version of the key visible at the next seqno
pub has_entry_found : (es : List Entry) (key : List ℕ) (n : ℕ) → Ascends es
    → has_entry es key n ≡ has_number n (point es key (n + 1))
unfolding point
has_entry_found [] key n h = refl
has_entry_found (e ∷ es) key n h =
    found_by key n e es (same_key e.user_key key) (nat_lt e.seqno (n + 1))
    (e.seqno == n) refl refl refl
    (λ is low. none_behind key n e es is low h.0)
    (has_entry_found es key n h.1)
