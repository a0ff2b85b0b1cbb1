-- The loops of `MvccStream`, on lists.
use Rattle.std.proofs.Common.{◌≡◌, sym, ◌∙◌, ap, true, false, cond, Bool, List, []}
use Rattle.std.proofs.Common.{◌∷◌, ◌++◌, reverse}
use Rattle.std.specs.Prelude.{Option, Some, None, Ok, Err}
use Rattle.std.proofs.lemmas.List.{reverse-reverse, reverse-append}
use Rattle.sst_entries.specs.Entry.{Entry}
use Rattle.sst_entries.specs.declared.error.Error.{Error}
use Rattle.sst_entries.specs.Stream.{first, but_first, front_of, back_of}
use Rattle.sst_entries.specs.Key.{same_key, key_lt}
use Rattle.lsm_sorted.specs.merge.Ends.{R}
use Rattle.lsm_sorted.specs.Outlook.{IsStep}
use Rattle.lsm_sorted.specs.Newest.{after_key, settle, front_step, climb, step_in_reverse}
use Rattle.lsm_sorted.specs.Newest.{back_step}
use Rattle.lsm_sorted.proofs.EndsLemmas.{none_first}

pub from_first : {A : Type 0} (xs : List A) (r : A) → Some r ≡ first xs → xs ≡ r ∷ but_first xs
from_first [] r e = cc
from_first (x ∷ xs) r e = cc

-- where one was taken from the front, the list before and after it
pub before_first : (r : R) (xs ys : List R) → IsStep front_of (Some r) xs ys → xs ≡ r ∷ ys
before_first r xs ys h = from_first xs r h.0 ∙ ap (λ (zs : List R). r ∷ zs) (sym h.1)

pub none_before : (xs ys : List R) → IsStep front_of None xs ys → (xs ≡ []) × (ys ≡ [])
none_before xs ys h = let e = none_first xs h.0 in (e, h.1 ∙ ap but_first e)

-- the same at the back, in reverse
pub before_last : (r : R) (xs ys : List R) → IsStep back_of (Some r) xs ys
    → reverse xs ≡ r ∷ reverse ys
before_last r xs ys h =
    from_first (reverse xs) r h.0 ∙ ap (λ (zs : List R). r ∷ zs)
    (sym (reverse-reverse (but_first (reverse xs))) ∙ ap reverse (sym h.1))

pub none_before_last : (xs ys : List R) → IsStep back_of None xs ys → (reverse xs ≡ []) × (ys ≡ [])
none_before_last xs ys h = let e = none_first (reverse xs) h.0 in
    (e, h.1 ∙ ap (λ (zs : List R). reverse (but_first zs)) e)

-- what a step is
step_is : (r : Option R) (xs ys : List R) → front_step xs ≡ (r, ys) → IsStep front_step r xs ys
step_is r xs ys e = (
  sym (ap (λ (p : Option R × List R). p.0) e),
  sym
      (ap (λ (p : Option R × List R). p.1) e),
)

back_is : (r : Option R) (xs ys zs : List R) → step_in_reverse (reverse xs) ≡ (r, zs)
    → ys ≡ reverse zs → IsStep back_step r xs ys
back_is r xs ys zs e same = (
  sym (ap (λ (p : Option R × List R). p.0) e),
  same
      ∙ sym (ap (λ (p : Option R × List R). reverse p.1) e),
)

-- from the front of xs the head was taken, then entries of its key, and that left ys
abbrev pub Drawn : Entry → List R → List R → Type 0
Drawn head xs ys = front_step xs ≡ settle head (after_key head.user_key ys)

pub drawn_first : (xs ys : List R) (head : Entry) → IsStep front_of (Some (Ok head)) xs ys
    → Drawn head xs ys
drawn_first xs ys head h = ap front_step (before_first (Ok head) xs ys h)

module _ (xs ys zs : List R) (head : Entry) (was : Drawn head xs ys) where
  pub drawn_more : (x : Entry) → IsStep front_of (Some (Ok x)) ys zs
      → same_key x.user_key head.user_key ≡ true → Drawn head xs zs
  drawn_more x h same =
      was ∙ ap (λ (ws : List R). settle head (after_key head.user_key ws))
      (before_first (Ok x) ys zs h)
      ∙ ap (λ (b : Bool). settle head (cond b (after_key head.user_key zs) (Ok x ∷ zs))) same

  pub drawn_other : (x : Entry) → IsStep front_of (Some (Ok x)) ys zs
      → same_key x.user_key head.user_key ≡ false
      → IsStep front_step (Some (Ok head)) xs (Ok x ∷ zs)
  drawn_other x h other = step_is (Some (Ok head)) xs (Ok x ∷ zs)
      (was ∙ ap (λ (ws : List R). settle head (after_key head.user_key ws))
      (before_first (Ok x) ys zs h)
      ∙ ap (λ (b : Bool). settle head (cond b (after_key head.user_key zs) (Ok x ∷ zs))) other)

  pub drawn_error : (e : Error) → IsStep front_of (Some (Err e)) ys zs
      → IsStep front_step (Some (Err e)) xs zs
  drawn_error e h = step_is (Some (Err e)) xs zs
      (was ∙ ap (λ (ws : List R). settle head (after_key head.user_key ws))
      (before_first (Err e) ys zs h))

  pub drawn_end : IsStep front_of None ys zs → IsStep front_step (Some (Ok head)) xs zs
  drawn_end h =
      let none = none_before ys zs h in
      step_is (Some (Ok head)) xs zs (was ∙ ap (λ (ws : List R). settle head
      (after_key head.user_key ws)) none.0 ∙ ap (λ (ws : List R). (Some (Ok head), ws))
      (sym none.1))

pub front_error : (xs ys : List R) (e : Error) → IsStep front_of (Some (Err e)) xs ys
    → IsStep front_step (Some (Err e)) xs ys
front_error xs ys e h = step_is (Some (Err e)) xs ys (ap front_step (before_first (Err e) xs ys h))

pub front_none : (xs ys : List R) → IsStep front_of None xs ys → IsStep front_step None xs ys
front_none xs ys h = let none = none_before xs ys h in
    step_is None xs ys (ap front_step none.0 ∙ ap (λ (ws : List R). (None, ws)) (sym none.1))

-- ---- the back

-- from x, the step at the back, over what stands before it in reverse
abbrev pub climbs : Entry → List R → Option R × List R
climbs x zs = settle (climb x zs).0 (climb x zs).1

climbs_over : (x y : Entry) (zs : List R) → key_lt y.user_key x.user_key ≡ false
    → climbs x (Ok y ∷ zs) ≡ climbs y zs
climbs_over x y zs e = ap (λ (b : Bool). settle (cond b (x, Ok y ∷ zs) (climb y zs)).0
    (cond b (x, Ok y ∷ zs) (climb y zs)).1) e

climbs_to : (x y : Entry) (zs : List R) → key_lt y.user_key x.user_key ≡ true
    → climbs x (Ok y ∷ zs) ≡ (Some (Ok x), Ok y ∷ zs)
climbs_to x y zs e = ap (λ (b : Bool). settle (cond b (x, Ok y ∷ zs) (climb y zs)).0
    (cond b (x, Ok y ∷ zs) (climb y zs)).1) e

-- from the back of xs entries of one stretch were taken, up to tail, and that left ys
abbrev pub Scaled : Entry → List R → List R → Type 0
Scaled tail xs ys = step_in_reverse (reverse xs) ≡ climbs tail (reverse ys)

pub scaled_first : (xs ys : List R) (tail : Entry) → IsStep back_of (Some (Ok tail)) xs ys
    → Scaled tail xs ys
scaled_first xs ys tail h = ap step_in_reverse (before_last (Ok tail) xs ys h)

module _ (xs ys zs : List R) (tail : Entry) (was : Scaled tail xs ys) where
  pub scaled_more : (x : Entry) → IsStep back_of (Some (Ok x)) ys zs
      → key_lt x.user_key tail.user_key ≡ false → Scaled x xs zs
  scaled_more x h over = was ∙ ap (climbs tail) (before_last (Ok x) ys zs h)
      ∙ climbs_over tail x (reverse zs) over

  pub scaled_lower : (x : Entry) → IsStep back_of (Some (Ok x)) ys zs
      → key_lt x.user_key tail.user_key ≡ true → IsStep back_step (Some (Ok tail)) xs
      (zs ++ Ok x ∷ [])
  scaled_lower x h under =
      let whole : zs ++ Ok x ∷ [] ≡ reverse (Ok x ∷ reverse zs) =
      sym (reverse-append (Ok x ∷ []) (reverse zs)
      ∙ ap (λ (ws : List R). ws ++ Ok x ∷ []) (reverse-reverse zs)) in
      back_is (Some (Ok tail)) xs (zs ++ Ok x ∷ []) (Ok x ∷ reverse zs)
      (was ∙ ap (climbs tail) (before_last (Ok x) ys zs h)
      ∙ climbs_to tail x (reverse zs) under) whole

  pub scaled_error : (e : Error) → IsStep back_of (Some (Err e)) ys zs
      → IsStep back_step (Some (Err e)) xs zs
  scaled_error e h = back_is (Some (Err e)) xs zs (reverse zs)
      (was ∙ ap (climbs tail) (before_last (Err e) ys zs h)) (sym (reverse-reverse zs))

  pub scaled_end : IsStep back_of None ys zs → IsStep back_step (Some (Ok tail)) xs zs
  scaled_end h = let none = none_before_last ys zs h in
      back_is (Some (Ok tail)) xs zs [] (was ∙ ap (climbs tail) none.0) none.1

pub back_error : (xs ys : List R) (e : Error) → IsStep back_of (Some (Err e)) xs ys
    → IsStep back_step (Some (Err e)) xs ys
back_error xs ys e h = back_is (Some (Err e)) xs ys (reverse ys)
    (ap step_in_reverse (before_last (Err e) xs ys h)) (sym (reverse-reverse ys))

pub back_none : (xs ys : List R) → IsStep back_of None xs ys → IsStep back_step None xs ys
back_none xs ys h = let none = none_before_last xs ys h in
    back_is None xs ys [] (ap step_in_reverse none.0) none.1
