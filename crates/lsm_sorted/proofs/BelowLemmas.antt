-- Of a source the entries numbered below a bound: what is dealt of a list.
use Rattle.std.proofs.Common.{◌≡◌, refl, sym, ◌∙◌, ap, subst, ℕ, Bool, true, false, cond, List, []}
use Rattle.std.proofs.Common.{◌∷◌, ◌++◌, reverse, inl, inr}
use Rattle.std.specs.Prelude.{Option, Some, None, Ok, Err, MatchOption, nat_lt}
use Rattle.std.specs.List.{AllByRecursion}
use Rattle.std.specs.Iterator.{Count, IsFinite, MakesProgress, Yields}
use Rattle.std.proofs.lemmas.Bool.{cases_Bool}
use Rattle.std.proofs.lemmas.List.{append-nil, reverse-append, reverse-reverse}
use Rattle.std.proofs.lemmas.List.Elements.{filter-append}
use Rattle.sst_entries.specs.declared.error.Error.{Error}
use Rattle.sst_entries.specs.Entry.{Entry}
use Rattle.sst_entries.specs.Stream.{CanYield, YieldsExactly, answer_stops, but_first, but_last, first, last}
use Rattle.sst_entries.specs.Stream.{nowhere, ok_results}
use Rattle.sst_entries.proofs.FrontLemmas.{can_in_front}
use Rattle.sst_entries.proofs.StreamLemmas.{can_after_back, can_by, can_front, yields_back, yields_by}
use Rattle.sst_entries.proofs.StreamLemmas.{yields_front}
use Rattle.lsm_sorted.specs.merge.Ends.{R}
use Rattle.lsm_sorted.specs.declared.below.Below.{Below}
use Rattle.lsm_sorted.specs.Below.{YieldsBelow, GivesBelow, LetsGo, MayAsk, below_of, below_results}
use Rattle.lsm_sorted.specs.Below.{numbered_below, passes}
use Rattle.lsm_sorted.specs.Mvcc.{CanStep}
use Rattle.lsm_sorted.proofs.MvccLemmas.{from_first}

-- ---- one more that is let go

pub none_gone : {S : Type 0} (bound : ℕ) (ask : S → Option R → S → Type 0) (s : S)
    → LetsGo bound ask s s
none_gone bound ask s = record { gone = []; gave = refl; high = tt }

more_given : {S : Type 0} (ask : S → Option R → S → Type 0) (xs : List R) (s t u : S) (x : R)
    → Yields ask s xs t → ask t (Some x) u → Yields ask s (xs ++ x ∷ []) u
more_given ask [] s t u x gave step = (u, subst (λ w. ask w (Some x) u) (sym gave) step, refl)
more_given ask (y ∷ xs) s t u x gave step =
    (gave.0, gave.1, more_given ask xs gave.0 t u x gave.2 step)

all_more_high : (bound : ℕ) (xs : List R) (x : R)
    → AllByRecursion (λ (y : R). passes bound y ≡ false) xs → passes bound x ≡ false
    → AllByRecursion (λ (y : R). passes bound y ≡ false) (xs ++ x ∷ [])
all_more_high bound [] x all high = (high, tt)
all_more_high bound (y ∷ xs) x all high = (all.0, all_more_high bound xs x all.1 high)

pub more_gone : {S : Type 0} (bound : ℕ) (ask : S → Option R → S → Type 0) (s t u : S) (x : R)
    → LetsGo bound ask s t → ask t (Some x) u → passes bound x ≡ false → LetsGo bound ask s u
more_gone bound ask s t u x before step high = record {
  gone = before.gone ++ x ∷ [];
  gave = more_given ask before.gone s t u x before.gave step;
  high = all_more_high bound before.gone x before.high high;
}

-- ---- lists

module _ (bound : ℕ) where
  -- an answer is no entry that is let go
  abbrev IsLow : Option R → Type 0
  IsLow r = MatchOption r (Unit {0}) (λ (x : R). passes bound x ≡ true)

  kept : (x : R) (xs : List R) → passes bound x ≡ true
      → below_results bound (x ∷ xs) ≡ x ∷ below_results bound xs
  kept x xs low = ap (λ (b : Bool). cond b (x ∷ below_results bound xs) (below_results bound xs)) low

  left_out : (x : R) (xs : List R) → passes bound x ≡ false
      → below_results bound (x ∷ xs) ≡ below_results bound xs
  left_out x xs high = ap (λ (b : Bool). cond b (x ∷ below_results bound xs) (below_results bound xs))
      high

  reversed_by : (x : R) (xs : List R) (b : Bool)
      → reverse (below_results bound xs) ++ cond b (x ∷ []) []
      ≡ reverse (cond b (x ∷ below_results bound xs) (below_results bound xs))
  reversed_by x xs true = sym (reverse-append (x ∷ []) (below_results bound xs))
  reversed_by x xs false = append-nil (reverse (below_results bound xs))

  below_reverse : (xs : List R)
      → below_results bound (reverse xs) ≡ reverse (below_results bound xs)
  below_reverse [] = refl
  below_reverse (x ∷ xs) =
      ap (below_results bound) (reverse-append (x ∷ []) xs)
      ∙ filter-append (passes bound) (reverse xs) (x ∷ [])
      ∙ ap (λ (ys : List R). ys ++ below_results bound (x ∷ [])) (below_reverse xs)
      ∙ reversed_by x xs (passes bound x)

  -- the first of a list, and the others, where it passes
  low_first : (r : Option R) (xs : List R) → r ≡ first xs → IsLow r
      → (r ≡ first (below_results bound xs))
      × (below_results bound (but_first xs) ≡ but_first (below_results bound xs))
  low_first r [] is low = (is, refl)
  low_first r (x ∷ xs) is low =
      let passing : passes bound x ≡ true = subst IsLow is low in
      (is ∙ sym (ap first (kept x xs passing)), sym (ap but_first (kept x xs passing)))

  high_first : (x : R) (xs : List R) → Some x ≡ first xs → passes bound x ≡ false
      → below_results bound xs ≡ below_results bound (but_first xs)
  high_first x xs is high = ap (below_results bound) (from_first xs x is)
      ∙ left_out x (but_first xs) high

  -- the last of it
  low_last : (r : Option R) (xs : List R) → r ≡ last xs → IsLow r
      → (r ≡ last (below_results bound xs))
      × (below_results bound (but_last xs) ≡ but_last (below_results bound xs))
  low_last r xs is low =
      let turned = below_reverse xs in
      let both = low_first r (reverse xs) is low in (
        both.0 ∙ ap first turned,
        below_reverse (but_first (reverse xs)) ∙ ap reverse both.1
            ∙ ap (λ (ys : List R). reverse (but_first ys)) turned,
      )

  high_last : (x : R) (xs : List R) → Some x ≡ last xs → passes bound x ≡ false
      → below_results bound xs ≡ below_results bound (but_last xs)
  high_last x xs is high =
      sym (reverse-reverse (below_results bound xs))
      ∙ ap reverse (sym (below_reverse xs) ∙ high_first x (reverse xs) is high)
      ∙ sym (below_reverse (but_first (reverse xs)))

  -- of entries
  pub below_entries : (es : List Entry)
      → below_results bound (ok_results es) ≡ ok_results (numbered_below bound es)
  below_entries [] = refl
  below_entries (e ∷ es) = elim (cases_Bool (nat_lt e.seqno bound)) [
    | inl low ↦ rw low (ap (λ (rs : List R). Ok e ∷ rs) (below_entries es))
    | inr high ↦ rw high (below_entries es)
  ]

  -- ---- one call

  module _ {S : Type 0} (stops : Error → Bool) (front back : S → Option R → S → Type 0) where
    abbrev HasLeft : S → List R → Type 0
    HasLeft = YieldsExactly (answer_stops stops) front back

    gone_fine : (x : R) → passes bound x ≡ false → answer_stops stops (Some x) ≡ false
    gone_fine (Ok e) high = refl
    gone_fine (Err e) high = absurd cc

    -- what is left of the source's list, where this is left of what passes
    abbrev Leaves : S → List R → Type 0
    Leaves t zs = (ys : List R) × HasLeft t ys × (zs ≡ below_results bound ys)

    at_front : (gone : List R) (s u t : S) (r : Option R) (xs : List R) → HasLeft s xs
        → Yields front s gone u → AllByRecursion (λ (x : R). passes bound x ≡ false) gone
        → front u r t → IsLow r → answer_stops stops r ≡ false
        → (r ≡ first (below_results bound xs)) × Leaves t (but_first (below_results bound xs))
    at_front [] s u t r xs has gave high step low fine =
        let here = subst (λ (w : S). HasLeft w xs) gave has in
        let one = yields_front (answer_stops stops) front back u xs r t here step fine in
        let both = low_first r xs one.0 low in
        (both.0, (but_first xs, one.1, sym both.1))
    at_front (x ∷ gone) s u t r xs has gave high step low fine =
        let one = yields_front (answer_stops stops) front back s xs (Some x) gave.0 has gave.1
        (gone_fine x high.0) in
        let more = at_front gone gave.0 u t r (but_first xs) one.1 gave.2 high.1 step low fine in
        subst (λ (zs : List R). (r ≡ first zs) × Leaves t (but_first zs))
        (sym (high_first x xs one.0 high.0)) more

    at_back : (gone : List R) (s u t : S) (r : Option R) (xs : List R) → HasLeft s xs
        → Yields back s gone u → AllByRecursion (λ (x : R). passes bound x ≡ false) gone
        → back u r t → IsLow r → answer_stops stops r ≡ false
        → (r ≡ last (below_results bound xs)) × Leaves t (but_last (below_results bound xs))
    at_back [] s u t r xs has gave high step low fine =
        let here = subst (λ (w : S). HasLeft w xs) gave has in
        let one = yields_back (answer_stops stops) front back u xs r t here step fine in
        let both = low_last r xs one.0 low in
        (both.0, (but_last xs, one.1, sym both.1))
    at_back (x ∷ gone) s u t r xs has gave high step low fine =
        let one = yields_back (answer_stops stops) front back s xs (Some x) gave.0 has gave.1
        (gone_fine x high.0) in
        let more = at_back gone gave.0 u t r (but_last xs) one.1 gave.2 high.1 step low fine in
        subst (λ (zs : List R). (r ≡ last zs) × Leaves t (but_last zs))
        (sym (high_last x xs one.0 high.0)) more

-- ---- runs of calls

module _ {S : Type 0} (front back : S → Option R → S → Type 0)
    (May MayBack : Below S → Type 0) (source : S) (bound : ℕ) where
  abbrev In : Below S → Option R → Below S → Type 0
  In = GivesBelow May front

  abbrev InBack : Below S → Option R → Below S → Type 0
  InBack = GivesBelow MayBack back

  -- calls at the back are of the kind that is said, or there are none
  pub yields_below : (next_back : Below S → Option R → Below S → Type 0)
      → ((s : Below S) (r : Option R) (t : Below S) → next_back s r t → InBack s r t)
      → (t : Below S) → t ≡ below_of bound source
      → YieldsBelow front back source bound In next_back t
  yields_below next_back as_back t is = record {
    yields =
        λ stops xs has.
        let Left : Below S → List R → Type 0 = λ s zs. (s.seqno ≡ bound)
        × Leaves bound stops front back s.iter zs in
        let start : Left t (below_results bound xs) =
        subst (λ (s : Below S). Left s (below_results bound xs)) (sym is) (refl, (xs, has, refl)) in
        yields_by (answer_stops stops) In next_back Left
        (λ s zs r u left step fine.
        let one = at_front bound stops front back step.before.gone s.iter step.led u.iter r
        left.1.0 left.1.1 step.before.gave
        (subst (λ (n : ℕ). AllByRecursion (λ (x : R). passes n x ≡ false) step.before.gone)
        left.0 step.before.high) step.gives (subst (λ (n : ℕ). IsLow n r) left.0 step.low) fine in
        subst (λ (ys : List R). (r ≡ first ys) × Left u (but_first ys)) (sym left.1.2)
        (one.0, (step.same ∙ left.0, one.1)))
        (λ s zs r u left called fine.
        let step = as_back s r u called in
        let one = at_back bound stops front back step.before.gone s.iter step.led u.iter r
        left.1.0 left.1.1 step.before.gave
        (subst (λ (n : ℕ). AllByRecursion (λ (x : R). passes n x ≡ false) step.before.gone)
        left.0 step.before.high) step.gives (subst (λ (n : ℕ). IsLow n r) left.0 step.low) fine in
        subst (λ (ys : List R). (r ≡ last ys) × Left u (but_last ys)) (sym left.1.2)
        (one.0, (step.same ∙ left.0, one.1)))
        t (below_results bound xs) start;
  }

-- the same from the front alone
pub yields_in_front : {S : Type 0} (front : S → Option R → S → Type 0) (May : Below S → Type 0)
    (source : S) (bound : ℕ) (t : Below S) → t ≡ below_of bound source
    → YieldsBelow front nowhere source bound (GivesBelow May front) nowhere t
yields_in_front front May source bound t is =
    yields_below front nowhere May May source bound nowhere (λ s r u step. absurd step) t is

-- ---- where the source may be asked

-- a source that ends does so after a call
ends_after : {S : Type 0} (can : S → Type 0) (left : S → Count) (s : S) (r : Option R) (t : S)
    → IsFinite (left s) → MakesProgress can left s r t → IsFinite (left t)
ends_after can left s None t ends goes = goes.rests ends
ends_after can left s (Some x) t ends goes = (goes.on ends).1

module _ {S : Type 0} (front back : S → Option R → S → Type 0) (can can_back : S → Type 0)
    (left : S → Count) where
  along_front : (gone : List R) (s t : S) → CanYield front back can can_back s
      → Yields front s gone t → CanYield front back can can_back t
  along_front [] s t d gave = subst (λ (w : S). CanYield front back can can_back w) gave d
  along_front (x ∷ gone) s t d gave =
      along_front gone gave.0 t (can_front front back can can_back s (Some x) gave.0 d gave.1)
      gave.2

  along_back : (gone : List R) (s t : S) → CanYield front back can can_back s
      → Yields back s gone t → CanYield front back can can_back t
  along_back [] s t d gave = subst (λ (w : S). CanYield front back can can_back w) gave d
  along_back (x ∷ gone) s t d gave =
      along_back gone gave.0 t (can_after_back front back can can_back s (Some x) gave.0 d gave.1)
      gave.2

  abbrev pub MayFront : Below S → Type 0
  MayFront = MayAsk front nowhere can can left

  abbrev pub MayBoth : Below S → Type 0
  MayBoth = MayAsk front back can can_back left

  pub can_below : (t : Below S) → MayBoth t
      → CanYield (GivesBelow MayFront front) (GivesBelow MayBoth back) MayFront MayBoth t
  can_below t may =
      can_by (GivesBelow MayFront front) (GivesBelow MayBoth back) MayFront MayBoth MayBoth
      (λ s h. (
        record { asks = can_in_front front back can can_back s.iter h.asks; ends = h.ends },
        h,
      ))
      (λ s r u h step. record {
        asks = can_front front back can can_back step.led r u.iter
            (along_front step.before.gone s.iter step.led h.asks step.before.gave) step.gives;
        ends = step.may.ends;
      })
      (λ s r u h step. step.may) t may

  pub may_after_back : (s t : Below S) (r : Option R) → MayBoth s → back s.iter r t.iter
      → MakesProgress can_back left s.iter r t.iter → MayBoth t
  may_after_back s t r may step goes = record {
    asks = can_after_back front back can can_back s.iter r t.iter may.asks step;
    ends = ends_after can_back left s.iter r t.iter may.ends goes;
  }

  pub can_step_both : (source : S) (bound : ℕ) (t : Below S) → t ≡ below_of bound source
      → CanStep front back source (GivesBelow MayFront front) (GivesBelow MayBoth back) t can
      can_back left MayFront MayBoth
  can_step_both source bound t is = record {
    asks = λ may ends. can_below t
        (subst MayBoth (sym is) (record { asks = may; ends = ends }));
  }

module _ {S : Type 0} (front : S → Option R → S → Type 0) (can : S → Type 0)
    (left : S → Count) where
  abbrev MayAlone : Below S → Type 0
  MayAlone = MayAsk front nowhere can can left

  pub may_after : (s t : Below S) (r : Option R) → MayAlone s → front s.iter r t.iter
      → MakesProgress can left s.iter r t.iter → MayAlone t
  may_after s t r may step goes = record {
    asks = can_front front nowhere can can s.iter r t.iter may.asks step;
    ends = ends_after can left s.iter r t.iter may.ends goes;
  }

  pub can_step_front : (source : S) (bound : ℕ) (t : Below S) → t ≡ below_of bound source
      → CanStep front nowhere source (GivesBelow MayAlone front) nowhere t can can left MayAlone
      MayAlone
  can_step_front source bound t is = record {
    asks = λ may ends. can_by (GivesBelow MayAlone front) nowhere MayAlone MayAlone MayAlone
        (λ s h. (h, h)) (λ s r u h step. step.may) (λ s r u h step. absurd step) t
        (subst MayAlone (sym is) (record { asks = may; ends = ends }));
  }
