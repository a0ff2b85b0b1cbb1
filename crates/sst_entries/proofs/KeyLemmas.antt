-- The order of keys.
use Rattle.std.proofs.Common.{◌≡◌, refl, sym, ◌∙◌, ap, subst, ℕ, Bool, true, false, List}
use Rattle.std.specs.Prelude.{not, nat_lt}
use Rattle.std.specs.declared.cmp.Ordering.{Ordering}
use Rattle.std.specs.declared.cmp.Ordering.TheVariants.{Less, Equal, Greater}
use Rattle.std.specs.Ordering.{nat_cmp, is_lt, is_eq, ordering_reverse}
use Rattle.std.specs.Cmp.Lexicographic.{slice_cmp, nat_list_cmp_total, nat_list_eq_equiv, same_text}
use Rattle.std.specs.Cmp.Lexicographic.{texts_ties}
use Rattle.std.proofs.lemmas.Cmp.{tied_itself}
use Rattle.sst_entries.specs.Entry.{Entry}
use Rattle.sst_entries.specs.Key.{same_key, key_lt}
use Rattle.sst_entries.specs.Point.{is_hit}
use Rattle.sst_entries.proofs.Booleans.{and_left, apart, is_false, not_true, not_false}
use Rattle.sst_entries.proofs.OrderLemmas.{lt_trans}

abbrev pub KeyLe : List ℕ → List ℕ → Type 0
KeyLe a b = key_lt b a ≡ false

pub keys_apart : (a b : List ℕ) (r : Bool) → r ≡ not (same_key a b) → r ≡ true
    → same_key a b ≡ false
keys_apart a b r e h = not_true (same_key a b) r e h

pub keys_same : (a b : List ℕ) (r : Bool) → r ≡ not (same_key a b) → r ≡ false → same_key a b ≡ true
keys_same a b r e h = not_false (same_key a b) r e h

pub same_is : (a b : List ℕ) → same_key a b ≡ true → a ≡ b
same_is a b h = same_text a b (sym h)

pub same_itself : (a : List ℕ) → same_key a a ≡ true
same_itself a = nat_list_eq_equiv.refl a

pub le_itself : (a : List ℕ) → KeyLe a a
le_itself a = ap is_lt (tied_itself nat_list_cmp_total a)

-- a key above another is not the same
pub lt_other : (a b : List ℕ) → key_lt a b ≡ true → same_key b a ≡ false
lt_other a b h = is_false (same_key b a) (λ same. apart (key_lt a b) h
    (subst (λ (k : List ℕ). key_lt a k ≡ false) (sym (same_is b a same)) (le_itself a)))

flip_lt : (o : Ordering) → is_lt (ordering_reverse o) ≡ false → (is_eq o ≡ true → ⊥)
    → is_lt o ≡ true
flip_lt Less h other = refl
flip_lt Equal h other = absurd (other refl)
flip_lt Greater h other = absurd cc

-- below or the same
pub le_other : (a b : List ℕ) → KeyLe a b → same_key b a ≡ false → key_lt a b ≡ true
le_other a b h other =
    flip_lt (slice_cmp nat_cmp a b) (ap is_lt (sym (nat_list_cmp_total.antisymm b a)) ∙ h)
    (λ tie. apart (same_key b a) (subst (λ (k : List ℕ). same_key k a ≡ true)
    (same_text a b (sym (texts_ties a b ∙ tie))) (same_itself a)) other)

pub le_same : (a b : List ℕ) → KeyLe a b → key_lt a b ≡ false → same_key b a ≡ true
le_same a b h nay =
    elim (same_key b a) as (λ v. same_key b a ≡ v → v ≡ true) [
      | true ↦ λ e. refl
      | false ↦ λ e. absurd (apart (key_lt a b) (le_other a b h e) nay)
    ] refl

pub lt_le : (a b c : List ℕ) → key_lt a b ≡ true → KeyLe b c → key_lt a c ≡ true
lt_le a b c p q =
    elim (same_key c b) as (λ v. same_key c b ≡ v → key_lt a c ≡ true) [
      | true ↦ λ e. subst (λ (k : List ℕ). key_lt a k ≡ true) (sym (same_is c b e)) p
      | false ↦ λ e. lt_trans a b c p (le_other b c q e)
    ] refl

pub le_lt : (a b c : List ℕ) → KeyLe a b → key_lt b c ≡ true → key_lt a c ≡ true
le_lt a b c p q =
    elim (same_key b a) as (λ v. same_key b a ≡ v → key_lt a c ≡ true) [
      | true ↦ λ e. subst (λ (k : List ℕ). key_lt k c ≡ true) (same_is b a e) q
      | false ↦ λ e. lt_trans a b c (le_other a b p e) q
    ] refl

-- what a point read takes has its key
pub hit_key : (key : List ℕ) (bound : ℕ) (e : Entry) → is_hit key bound e ≡ true → e.user_key ≡ key
hit_key key bound e h = same_is e.user_key key
    (and_left (same_key e.user_key key) (nat_lt e.seqno bound) h)
