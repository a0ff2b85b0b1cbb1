-- What is merged of lists comes in order, whatever errors are among it.
use Rattle.std.proofs.Common.{◌≡◌, refl, sym, ap, subst, ◌∙◌, Bool, true, false, cond, List, []}
use Rattle.std.proofs.Common.{◌∷◌, ◌++◌, map}
use Rattle.std.specs.Prelude.{Option, Some, None, Ok, Err}
use Rattle.std.specs.List.{AllByRecursion}
use Rattle.std.specs.Ordering.{is_gt}
use Rattle.sst_entries.specs.Entry.{Entry}
use Rattle.sst_entries.proofs.Lists.{all_append, all_more}
use Rattle.lsm_sorted.specs.merge.Ends.{R}
use Rattle.lsm_sorted.specs.merge.InPlace.{Placed, all_placed, is_after, merge_of, places_of}
use Rattle.lsm_sorted.specs.merge.InPlace.{put_in_place, sort_places, up_to_error}
use Rattle.lsm_sorted.specs.merge.Union.{Ascends, AtMost, entries_among, item_cmp}
use Rattle.lsm_sorted.proofs.MergedLemmas.{above_at_most, at_most_chain}

-- ---- places in order

-- a place is not before another
abbrev NotBefore : Option Entry → Placed → Type 0
NotBefore at q = is_after at q.at ≡ false

abbrev PlacesUp : List Placed → Type 0
PlacesUp [] = Unit {0}
PlacesUp (p ∷ ps) = AllByRecursion (NotBefore p.at) ps × PlacesUp ps

after_not : (x y : Option Entry) → is_after x y ≡ true → is_after y x ≡ false
after_not None y e = let wrong : false ≡ true = e in absurd cc
after_not (Some x) None e = refl
after_not (Some x) (Some y) e = above_at_most x y e

chained : (x y z : Option Entry) → is_after x y ≡ false → is_after y z ≡ false
    → is_after x z ≡ false
chained None y z e f = refl
chained (Some x) None z e f = let wrong : true ≡ false = e in absurd cc
chained (Some x) (Some y) None e f = let wrong : true ≡ false = f in absurd cc
chained (Some x) (Some y) (Some z) e f = at_most_chain x y z e f

all_put : (P : Placed → Type 0) (p : Placed) (qs : List Placed) → P p → AllByRecursion P qs
    → AllByRecursion P (put_in_place p qs)
all_put P p [] one all = (one, tt)
all_put P p (q ∷ qs) one all = elim (is_after p.at q.at) as
    (λ b. AllByRecursion P (cond b (q ∷ put_in_place p qs) (p ∷ q ∷ qs)))
    [ true ↦ (all.0, all_put P p qs one all.1) | false ↦ (one, all) ]

all_sorted : (P : Placed → Type 0) (ps : List Placed) → AllByRecursion P ps
    → AllByRecursion P (sort_places ps)
all_sorted P [] h = tt
all_sorted P (p ∷ ps) h = all_put P p (sort_places ps) h.0 (all_sorted P ps h.1)

put_up : (p : Placed) (qs : List Placed) → PlacesUp qs → PlacesUp (put_in_place p qs)
put_up p [] h = (tt, tt)
put_up p (q ∷ qs) h =
    elim (is_after p.at q.at) as (λ b. is_after p.at q.at ≡ b
    → PlacesUp (cond b (q ∷ put_in_place p qs) (p ∷ q ∷ qs))) [
      | true ↦ λ e. (
        all_put (NotBefore q.at) p qs (after_not p.at q.at e) h.0,
        put_up p qs h.1,
      )
      | false ↦ λ e. (
        (
          e,
          all_more (NotBefore q.at) (NotBefore p.at) (λ z f. chained p.at q.at z.at e f) qs h.0,
        ),
        h,
      )
    ] refl

sorted_up : (ps : List Placed) → PlacesUp (sort_places ps)
sorted_up [] = tt
sorted_up (p ∷ ps) = put_up p (sort_places ps) (sorted_up ps)

-- ---- the entries among them

-- an entry stands at its own place
abbrev StandsAt : Option Entry → R → Type 0
StandsAt at (Ok x) = at ≡ Some x
StandsAt at (Err e) = Unit {0}

abbrev IsPlaced : Placed → Type 0
IsPlaced p = StandsAt p.at p.is

places_placed : (before : Option Entry) (rs : List R)
    → AllByRecursion IsPlaced (places_of before rs)
places_placed before [] = tt
places_placed before (Ok x ∷ rs) = (refl, places_placed (Some x) rs)
places_placed before (Err e ∷ rs) = (tt, places_placed before rs)

all_are_placed : (lists : List (List R)) → AllByRecursion IsPlaced (all_placed lists)
all_are_placed [] = tt
all_are_placed (rs ∷ lists) = all_append IsPlaced (places_of None rs) (all_placed lists)
    (places_placed None rs) (all_are_placed lists)

abbrev results : List Placed → List R
results ps = map (λ (p : Placed). p.is) ps

-- an entry of which no place is before
one_behind : (x : Entry) (at b : Option Entry) → at ≡ Some x → is_after at b ≡ false → (r : R)
    → StandsAt b r → (rs : List R) → AllByRecursion (AtMost x) (entries_among rs)
    → AllByRecursion (AtMost x) (entries_among (r ∷ rs))
one_behind x at b is up (Ok y) placed rs more = (
  subst (λ (o : Option Entry). is_after o (Some y) ≡ false) is
      (subst (λ (o : Option Entry). is_after at o ≡ false) placed up),
  more,
)
one_behind x at b is up (Err e) placed rs more = more

entries_behind : (x : Entry) (at : Option Entry) → at ≡ Some x → (ps : List Placed)
    → AllByRecursion (NotBefore at) ps → AllByRecursion IsPlaced ps
    → AllByRecursion (AtMost x) (entries_among (results ps))
entries_behind x at is [] up placed = tt
entries_behind x at is (p ∷ ps) up placed =
    one_behind x at p.at is up.0 p.is placed.0 (results ps)
    (entries_behind x at is ps up.1 placed.1)

one_up : (at : Option Entry) (r : R) → StandsAt at r → (ps : List Placed)
    → AllByRecursion (NotBefore at) ps → AllByRecursion IsPlaced ps
    → Ascends (entries_among (results ps)) → Ascends (entries_among (r ∷ results ps))
one_up at (Ok x) placed ps up all more = (entries_behind x at placed ps up all, more)
one_up at (Err e) placed ps up all more = more

entries_up : (ps : List Placed) → PlacesUp ps → AllByRecursion IsPlaced ps
    → Ascends (entries_among (results ps))
entries_up [] up placed = tt
entries_up (p ∷ ps) up placed =
    one_up p.at p.is placed.0 ps up.0 placed.1 (entries_up ps up.1 placed.1)

-- ---- up to the first error

all_up_to : (P : Entry → Type 0) (rs : List R) → AllByRecursion P (entries_among rs)
    → AllByRecursion P (entries_among (up_to_error rs))
all_up_to P [] h = tt
all_up_to P (Ok x ∷ rs) h = (h.0, all_up_to P rs h.1)
all_up_to P (Err e ∷ rs) h = tt

ascends_up_to : (rs : List R) → Ascends (entries_among rs)
    → Ascends (entries_among (up_to_error rs))
ascends_up_to [] h = tt
ascends_up_to (Ok x ∷ rs) h = (all_up_to (AtMost x) rs h.0, ascends_up_to rs h.1)
ascends_up_to (Err e ∷ rs) h = tt

pub merged_ascends : (lists : List (List R)) → Ascends (entries_among (merge_of lists))
merged_ascends lists =
    let ps = sort_places (all_placed lists) in
    ascends_up_to (results ps) (entries_up ps (sorted_up (all_placed lists))
    (all_sorted IsPlaced (all_placed lists) (all_are_placed lists)))
