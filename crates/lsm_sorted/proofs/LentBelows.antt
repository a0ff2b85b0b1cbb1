-- Of a source that lends the entries below a bound: one step, and what is dealt of a list.
use Rattle.std.proofs.Common.{◌≡◌, ℕ, ◌<◌, ◌≤◌, true, false, refl, subst, arith}
use Rattle.std.specs.Prelude.{Option, Some, None, Ok, Err, MatchOption, is_some}
use Rattle.std.specs.Option.{option_map}
use Rattle.sst_entries.specs.declared.error.Error.{Error}
use Rattle.sst_entries.specs.Entry.{Entry}
use Rattle.sst_entries.specs.Stream.{CanYield, Lowers, nowhere}
use Rattle.sst_entries.proofs.StreamLemmas.{can_by, can_front}
use Rattle.lsm_sorted.specs.merge.Ends.{R}
use Rattle.lsm_sorted.specs.Below.{LetsGo, below_of, passes}
use Rattle.lsm_sorted.specs.declared.below.Below.{Below}
use Rattle.lsm_sorted.proofs.BelowLemmas.{more_gone}
use Rattle.lsm_sorted.specs.LentBelow.{LendsBelow, MayLendBelow, lent_passes}

abbrev given : Option Entry → Option R
given l = option_map (λ e. Ok e) l

-- an entry passes where it is lent below the bound
lent_low : (bound : ℕ) (l : Option Entry) → lent_passes bound l ≡ true
    → MatchOption (given l) (Unit {0}) (λ x. passes bound x ≡ true)
lent_low bound None low = tt
lent_low bound (Some e) low = low

none_low : (bound : ℕ) (l : Option Entry) → is_some l ≡ false
    → MatchOption (given l) (Unit {0}) (λ x. passes bound x ≡ true)
none_low bound None none = tt
none_low bound (Some e) none = let wrong : true ≡ false = none in absurd cc

high_there : (bound : ℕ) (l : Option Entry) → lent_passes bound l ≡ false
    → (e : Entry) × (l ≡ Some e) × (passes bound (Ok e) ≡ false)
high_there bound None high = let wrong : true ≡ false = high in absurd cc
high_there bound (Some e) high = (e, refl, high)

lowers_less : (l : Option Entry) (m n k : ℕ) → Lowers (given l) m n → m ≤ k
    → Lowers (given l) k n
lowers_less None m n k lowers few = lowers
lowers_less (Some e) m n k lowers few = omega (arith, lowers, few)

module _ {S : Type 0} (advances : S → Option R → S → Type 0) (can : S → Type 0) (left : S → ℕ)
    (bound : ℕ) (s u t : S) (asks : CanYield advances nowhere can can u)
    (before : LetsGo bound advances s u) where
  -- an answer that passes
  ends_low : (r : Option R) → advances u r t
      → MatchOption r (Unit {0}) (λ x. passes bound x ≡ true)
      → LendsBelow advances can left (below_of bound s) r (below_of bound t)
  ends_low r step low = record {
    may = record {
      asks = can_front advances nowhere can can u r t asks step;
      ends = tt;
    };
    same = refl;
    led = u;
    before = before;
    gives = step;
    low = low;
  }

  pub below_entry : (l : Option Entry) → advances u (given l) t → lent_passes bound l ≡ true
      → LendsBelow advances can left (below_of bound s) (given l) (below_of bound t)
  below_entry l step low = ends_low (given l) step (lent_low bound l low)

  pub below_none : (l : Option Entry) → advances u (given l) t → is_some l ≡ false
      → LendsBelow advances can left (below_of bound s) (given l) (below_of bound t)
  below_none l step none = ends_low (given l) step (none_low bound l none)

  pub below_error : (e : Error) → advances u (Some (Err e)) t
      → LendsBelow advances can left (below_of bound s) (Some (Err e)) (below_of bound t)
  below_error e step = ends_low (Some (Err e)) step refl

  -- or an entry that does not
  pub passed_over : (l : Option Entry) → advances u (given l) t → lent_passes bound l ≡ false
      → LetsGo bound advances s t
  passed_over l step high =
      let x = high_there bound l high in
      more_gone bound advances s u t (Ok x.0) before
      (subst (λ (k : Option Entry). advances u (given k) t) x.1 step) x.2

pub lowers_fewer : (l : Option Entry) (m n k : ℕ) → Lowers (given l) m n → m ≤ k
    → Lowers (given l) k n
lowers_fewer = lowers_less

pub passed_fewer : (bound : ℕ) (l : Option Entry) (m n : ℕ) → lent_passes bound l ≡ false
    → Lowers (given l) m n → n < m
passed_fewer bound None m n high lowers = let wrong : true ≡ false = high in absurd cc
passed_fewer bound (Some e) m n high lowers = lowers

-- ---- where the source may be asked

module _ {S : Type 0} (advances : S → Option R → S → Type 0) (can : S → Type 0) (left : S → ℕ) where
  pub can_lend_below : (t : Below S) → CanYield advances nowhere can can t.iter
      → CanYield (LendsBelow advances can left) nowhere (MayLendBelow advances can left)
      (MayLendBelow advances can left) t
  can_lend_below t asks =
      can_by (LendsBelow advances can left) nowhere (MayLendBelow advances can left)
      (MayLendBelow advances can left) (MayLendBelow advances can left)
      (λ s h. (h, h)) (λ s r u h step. step.may) (λ s r u h step. absurd step) t
      (record { asks = asks; ends = tt })
