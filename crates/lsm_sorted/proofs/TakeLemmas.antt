-- One taken from an end of a source of a merger.
use Rattle.std.proofs.Common.{◌≡◌, inl, inr, refl, sym, ◌∙◌, ap, subst, ℕ, zero, suc, ◌+◌, ◌<◌, ◌≤◌}
use Rattle.std.proofs.Common.{Bool, false, List, [], ◌∷◌, ◌++◌, reverse, map, length, arith}
use Rattle.std.proofs.Common.{slice_index_or, slice_set}
use Rattle.std.specs.Prelude.{Option, Some, None, Ok, Err, Contains, IsPermutation, sum_by}
use Rattle.std.specs.List.{AllZip, AllByRecursion}
use Rattle.std.proofs.lemmas.Bool.{cases_eq}
use Rattle.std.proofs.lemmas.List.{get_or-set_same, set-get_or, reverse-reverse, reverse-append}
use Rattle.std.proofs.lemmas.List.{append-nil}
use Rattle.std.proofs.Math.ListN.{get_or-map}
use Rattle.std.proofs.Math.Seq.{map-set_same}
use Rattle.std.proofs.lemmas.List.Elements.{Contains-append_left, Contains-append_right}
use Rattle.std.proofs.lemmas.List.Sorted.{Contains-permutation, IsPermutation-reverse}
use Rattle.std.proofs.lemmas.List.Sorted.{IsPermutation-sym, length_permutation}
use Rattle.std.proofs.lemmas.List.Sums.{sum_by-set}
use Rattle.sst_entries.specs.Entry.{Entry}
use Rattle.sst_entries.specs.declared.stream.Direction.{Direction}
use Rattle.sst_entries.specs.declared.stream.Direction.TheVariants.{Front, Back}
use Rattle.sst_entries.specs.Stream.{first, but_first, last, but_last, YieldsFirst, YieldsLast}
use Rattle.sst_entries.specs.declared.error.Error.{Error}
use Rattle.lsm_sorted.specs.declared.heap.ends.Ends.{Ends}
use Rattle.lsm_sorted.specs.declared.merge.HeapItem.{HeapItem}
use Rattle.lsm_sorted.specs.declared.merge.Merger.{Merger}
use Rattle.lsm_sorted.specs.merge.Ends.{R, Left}
use Rattle.lsm_sorted.specs.merge.Union.{Ascends, entries_among, errors_among, all_errors}
use Rattle.lsm_sorted.specs.merge.Merge.{entry_of}
use Rattle.lsm_sorted.proofs.Kept.{Kept, one, whole, taken_at, kept_at, taken, HeapHolds, Stands}
use Rattle.lsm_sorted.proofs.Kept.{Took, opposite}
use Rattle.lsm_sorted.proofs.EndsLemmas.{none_first}
use Rattle.lsm_sorted.proofs.HeldLemmas.{Elsewhere, held_push, taken_set_same, kept_set_other}

-- ---- two lists side by side

pub zip_length : {A B : Type 0} (P : A → B → Type 0) (xs : List A) (ys : List B) → AllZip P xs ys
    → length ys ≡ length xs
zip_length P [] [] z = refl
zip_length P [] (y ∷ ys) z = absurd z
zip_length P (x ∷ xs) [] z = absurd z
zip_length P (x ∷ xs) (y ∷ ys) z = let more = zip_length P xs ys z.1 in omega (arith, more)

pub zip_at : {A B : Type 0} (P : A → B → Type 0) (xs : List A) (ys : List B) (i : ℕ) (d : A) (e : B)
    → i < length xs → AllZip P xs ys → P (slice_index_or xs i d) (slice_index_or ys i e)
zip_at P [] ys i d e h z = absurd (omega arith)
zip_at P (x ∷ xs) [] i d e h z = absurd z
zip_at P (x ∷ xs) (y ∷ ys) zero d e h z = z.0
zip_at P (x ∷ xs) (y ∷ ys) (suc i) d e h z = zip_at P xs ys i d e (omega arith) z.1

pub zip_set : {A B : Type 0} (P : A → B → Type 0) (xs : List A) (ys : List B) (i : ℕ) (x : A)
    (y : B) → AllZip P xs ys → P x y → AllZip P (slice_set xs i x) (slice_set ys i y)
zip_set P [] [] i x y z p = z
zip_set P [] (b ∷ ys) i x y z p = absurd z
zip_set P (a ∷ xs) [] i x y z p = absurd z
zip_set P (a ∷ xs) (b ∷ ys) zero x y z p = (p, z.1)
zip_set P (a ∷ xs) (b ∷ ys) (suc i) x y z p = (z.0, zip_set P xs ys i x y z.1 p)

pub all_at : {A : Type 0} (P : A → Type 0) (xs : List A) (i : ℕ) (d : A) → i < length xs
    → AllByRecursion P xs → P (slice_index_or xs i d)
all_at P [] i d h all = absurd (omega arith)
all_at P (x ∷ xs) zero d h all = all.0
all_at P (x ∷ xs) (suc i) d h all = all_at P xs i d (omega arith) all.1

pub all_set : {A : Type 0} (P : A → Type 0) (xs : List A) (i : ℕ) (y : A) → AllByRecursion P xs
    → P y → AllByRecursion P (slice_set xs i y)
all_set P [] i y all p = tt
all_set P (x ∷ xs) zero y all p = (p, all.1)
all_set P (x ∷ xs) (suc i) y all p = (all.0, all_set P xs i y all.1 p)

-- ---- errors among what is to come

error_of : (rs : List R) (e : Error) → Contains rs (Err e) → Contains (errors_among rs) e
error_of rs e c = go rs c.0 c.1 c.2
  where
    go : (rs : List R) (k : ℕ) → k < length rs → slice_index_or rs k (Err e) ≡ Err e
        → Contains (errors_among rs) e
    go [] k lt is = absurd (omega arith)
    go (Ok x ∷ rs) zero lt is = absurd cc
    go (Err f ∷ rs) zero lt is = (zero, omega arith, cc)
    go (Ok x ∷ rs) (suc k) lt is = go rs k (omega arith) is
    go (Err f ∷ rs) (suc k) lt is = let more = go rs k (omega arith) is in
        (suc more.0, omega arith, more.2)

error_among : (lists : List (List R)) (i : ℕ) (e : Error) → i < length lists
    → Contains (slice_index_or lists i []) (Err e) → Contains (all_errors lists) e
error_among [] i e lt c = absurd (omega arith)
error_among (rs ∷ lists) zero e lt c = Contains-append_left (errors_among rs) (all_errors lists) e
    (error_of rs e c)
error_among (rs ∷ lists) (suc i) e lt c = Contains-append_right (errors_among rs)
    (all_errors lists) e (error_among lists i e (omega arith) c)

first_contained : (rs : List R) (r : R) → Some r ≡ first rs → Contains rs r
first_contained [] r is = absurd cc
first_contained (q ∷ rs) r is = (zero, omega arith, cc)

last_contained : (rs : List R) (r : R) → Some r ≡ last rs → Contains rs r
last_contained rs r is = Contains-permutation (reverse rs) rs r
    (IsPermutation-sym rs (reverse rs) (IsPermutation-reverse rs))
    (first_contained (reverse rs) r is)

-- ---- all of a source stays

whole_at_front : (f b : Option Entry) (rs : List R) (x : Entry) → f ≡ None → Some (Ok x) ≡ first rs
    → whole (record { front = Some x; rest = but_first rs; back = b })
    ≡ whole (record { front = f; rest = rs; back = b })
whole_at_front (Some y) b rs x free is = absurd cc
whole_at_front None b [] x free is = absurd cc
whole_at_front None b (r ∷ rs) x free is = let e : Ok x ≡ r = cc in
    ap (λ (q : R). q ∷ (rs ++ one b)) e

pub last_of : {A : Type 0} (xs : List A) (x : A) → Some x ≡ last xs → xs ≡ but_last xs ++ x ∷ []
last_of {A} xs x is = go (reverse xs) refl
  where
    go : (zs : List A) → reverse xs ≡ zs → xs ≡ but_last xs ++ x ∷ []
    go [] e = let none : Some x ≡ None = is ∙ ap first e in absurd cc
    go (z ∷ zs) e =
        let same : Some x ≡ Some z = is ∙ ap first e in
        let x_is : x ≡ z = cc in
        sym (reverse-reverse xs) ∙ ap reverse e ∙ reverse-append (z ∷ []) zs
        ∙ ap (λ (ys : List A). reverse ys ++ z ∷ []) (sym (ap but_first e))
        ∙ ap (λ (y : A). but_last xs ++ y ∷ []) (sym x_is)

whole_at_back : (f b : Option Entry) (rs : List R) (x : Entry) → b ≡ None → Some (Ok x) ≡ last rs
    → whole (record { front = f; rest = but_last rs; back = Some x })
    ≡ whole (record { front = f; rest = rs; back = b })
whole_at_back f (Some y) rs x free is = absurd cc
whole_at_back f None rs x free is = ap (λ (qs : List R). one f ++ qs)
    (sym (last_of rs (Ok x) is) ∙ sym (append-nil rs))

pub none_last : {A : Type 0} (xs : List A) → None ≡ last xs → xs ≡ []
none_last xs e = sym (reverse-reverse xs) ∙ ap reverse (none_first (reverse xs) e)

either_end : (b c : Direction) → (c ≡ b → ⊥) → c ≡ opposite b
either_end Front Front ne = absurd (ne refl)
either_end Front Back ne = refl
either_end Back Front ne = refl
either_end Back Back ne = absurd (ne refl)

-- ---- the take

module _ {S A : Type 0} (stops : Error → Bool) (front back : S → Option R → S → Type 0)
    (s : Merger S A) (i : ℕ) (at : i < length s.sources.items) (was is : Ends S)
    (found : was ≡ slice_index_or s.sources.items i was) where
  abbrev Side : Ends S → Kept → Type 0
  Side t k = Left stops front back t k.rest

  abbrev Sorted : Kept → Type 0
  Sorted k = Ascends (entries_among (whole k))

  module _ (ks : List Kept) (stands : Stands stops front back s ks) where
    left : Left stops front back was (kept_at ks i).rest
    left = subst (λ (u : Ends S). Left stops front back u (kept_at ks i).rest) (sym found)
        (zip_at Side s.sources.items ks i was _ at stands.sources)

    within : i < length ks
    within = let n = zip_length Side s.sources.items ks stands.sources in omega (arith, n)

    -- an entry moves into the heap
    moves : (m : Merger S A) → m.sources.items ≡ slice_set s.sources.items i is
        → (b : Direction) (x : Entry) (h : HeapItem A) (after : Kept)
        → IsPermutation (h ∷ s.heap.items) m.heap.items → entry_of h ≡ x → h.source ≡ i → h.end ≡ b
        → taken ks i b ≡ None
        → Left stops front back is after.rest → whole after ≡ whole (kept_at ks i)
        → taken_at b after ≡ Some x → taken_at (opposite b) after ≡ taken ks i (opposite b)
        → ((kept_at ks i).rest ≡ [] → after.rest ≡ []) → Took stops front back b i ks m
    moves m written b x h after perm entry source end free leaves same there other less =
        let new : List Kept = slice_set ks i after in
        let elsewhere : Elsewhere i b ks new = λ k c ne. elim (cases_eq k i) [
          | inl e ↦ subst (λ (j : ℕ). taken new j c ≡ taken ks j c) (sym e)
              (taken_set_same ks i after c within ∙ subst
              (λ (d : Direction). taken_at d after ≡ taken ks i d)
              (sym (either_end b c (ne e))) other)
          | inr off ↦ ap (taken_at c) (kept_set_other ks i k after off)
        ] in
        let put : taken new i b ≡ Some (entry_of h) = taken_set_same ks i after b within ∙ there
        ∙ ap (λ (y : Entry). Some y) (sym entry) in
        record {
          kept = new;
          stands = record {
            sources = subst (λ (us : List (Ends S)). AllZip Side us new) (sym written)
                (zip_set Side s.sources.items ks i is after stands.sources leaves);
            sorted = all_set Sorted ks i after stands.sorted
                (subst (λ (rs : List R). Ascends (entries_among rs)) (sym same)
                (all_at Sorted ks i _ within stands.sorted));
            heap = held_push s.heap.items m.heap.items h ks new stands.heap perm
                (subst (λ (k : ℕ). taken ks k h.end ≡ None) (sym source)
                (subst (λ (c : Direction). taken ks i c ≡ None) (sym end) free))
                (subst (λ (k : ℕ). taken new k h.end ≡ Some (entry_of h)) (sym source)
                (subst (λ (c : Direction). taken new i c ≡ Some (entry_of h)) (sym end) put))
                (λ k c ne. elsewhere k c (λ e f. ne (e ∙ sym source) (f ∙ sym end)));
          };
          wholes = map-set_same whole ks i after _ same;
          ready = λ none. let no : Some (entry_of h) ≡ None = sym put ∙ none in absurd cc;
          elsewhere = elsewhere;
          shrinks = λ k. elim (cases_eq k i) [
            | inl e ↦ λ none. subst (λ (j : ℕ). (kept_at new j).rest ≡ []) (sym e)
                (ap (λ (q : Kept). q.rest) (get_or-set_same ks i after _ within)
                ∙ less (subst (λ (j : ℕ). (kept_at ks j).rest ≡ []) e none))
            | inr off ↦ λ none. ap (λ (q : Kept). q.rest) (kept_set_other ks i k after off) ∙ none
          ];
        }

    -- nothing was left to take
    stays : (m : Merger S A) → m.sources.items ≡ slice_set s.sources.items i is → (b : Direction)
        → m.heap.items ≡ s.heap.items → (kept_at ks i).rest ≡ []
        → Left stops front back is (kept_at ks i).rest → Took stops front back b i ks m
    stays m written b heap none leaves = record {
      kept = ks;
      stands = record {
        sources = subst (λ (us : List (Ends S)). AllZip Side us ks) (sym written)
            (subst (λ (qs : List Kept). AllZip Side (slice_set s.sources.items i is) qs)
            (set-get_or ks i _) (zip_set Side s.sources.items ks i is
            (kept_at ks i) stands.sources leaves));
        sorted = stands.sorted;
        heap = subst (λ (hs : List (HeapItem A)). HeapHolds hs ks) (sym heap) stands.heap;
      };
      wholes = refl;
      ready = λ e. none;
      elsewhere = λ k c ne. refl;
      shrinks = λ k e. e;
    }

    among : (e : Error) → Contains (kept_at ks i).rest (Err e)
        → Contains (all_errors (map whole ks)) e
    among e c =
        let whole_has : Contains (whole (kept_at ks i)) (Err e) =
        Contains-append_right (one (kept_at ks i).front)
        ((kept_at ks i).rest ++ one (kept_at ks i).back) (Err e)
        (Contains-append_left (kept_at ks i).rest (one (kept_at ks i).back) (Err e) c) in
        error_among (map whole ks) i e (omega (arith, length_map ks, within))
        (subst (λ (rs : List R). Contains rs (Err e)) (sym (get_or-map whole ks i _)) whole_has)
      where
        length_map : (qs : List Kept) → length (map whole qs) ≡ length qs
        length_map [] = refl
        length_map (q ∷ qs) = let more = length_map qs in omega (arith, more)

    pub front_ok : (m : Merger S A) → m.sources.items ≡ slice_set s.sources.items i is
        → (x : Entry) (h : HeapItem A) → YieldsFirst stops (Left stops front back) was
        (Some (Ok x)) is → IsPermutation (h ∷ s.heap.items) m.heap.items
        → entry_of h ≡ x → h.source ≡ i → h.end ≡ Front → taken ks i Front ≡ None
        → Took stops front back Front i ks m
    front_ok m written x h yields perm entry source end free =
        let one = yields (kept_at ks i).rest left refl in
        moves m written Front x h (record {
          front = Some x;
          rest =
              but_first (kept_at ks i).rest;
          back = (kept_at ks i).back;
        }) perm entry source end free
        one.1
        (whole_at_front (kept_at ks i).front (kept_at ks i).back (kept_at ks i).rest x free one.0)
        refl refl (λ none. ap but_first none)

    pub front_none : (m : Merger S A) → m.sources.items ≡ slice_set s.sources.items i is
        → YieldsFirst stops (Left stops front back) was None is → m.heap.items ≡ s.heap.items
        → Took stops front back Front i ks m
    front_none m written yields heap =
        let one = yields (kept_at ks i).rest left refl in
        let none = none_first (kept_at ks i).rest one.0 in
        stays m written Front heap none (subst (Left stops front back is)
        (ap but_first none ∙ sym none) one.1)

    pub front_err : (e : Error) → YieldsFirst stops (Left stops front back) was (Some (Err e)) is
        → stops e ≡ false → Contains (all_errors (map whole ks)) e
    front_err e yields fine = among e (first_contained (kept_at ks i).rest (Err e)
        (yields (kept_at ks i).rest left fine).0)

    -- an error is the first of what its source still deals
    pub front_err_first : (e : Error) → YieldsFirst stops (Left stops front back) was
        (Some (Err e)) is → stops e ≡ false → Some (Err e) ≡ first (kept_at ks i).rest
    front_err_first e yields fine = (yields (kept_at ks i).rest left fine).0

    pub back_ok : (m : Merger S A) → m.sources.items ≡ slice_set s.sources.items i is
        → (x : Entry) (h : HeapItem A) → YieldsLast stops (Left stops front back) was
        (Some (Ok x)) is → IsPermutation (h ∷ s.heap.items) m.heap.items
        → entry_of h ≡ x → h.source ≡ i → h.end ≡ Back → taken ks i Back ≡ None
        → Took stops front back Back i ks m
    back_ok m written x h yields perm entry source end free =
        let one = yields (kept_at ks i).rest left refl in
        moves m written Back x h (record {
          front = (kept_at ks i).front;
          rest =
              but_last (kept_at ks i).rest;
          back = Some x;
        }) perm entry source end free one.1
        (whole_at_back (kept_at ks i).front (kept_at ks i).back (kept_at ks i).rest x free one.0)
        refl refl (λ none. ap (λ (rs : List R). reverse (but_first (reverse rs))) none)

    pub back_none : (m : Merger S A) → m.sources.items ≡ slice_set s.sources.items i is
        → YieldsLast stops (Left stops front back) was None is → m.heap.items ≡ s.heap.items
        → Took stops front back Back i ks m
    back_none m written yields heap =
        let one = yields (kept_at ks i).rest left refl in
        let none = none_last (kept_at ks i).rest one.0 in
        stays m written Back heap none (subst (Left stops front back is)
        (ap (λ (rs : List R). reverse (but_first (reverse rs))) none ∙ sym none) one.1)

    pub back_err : (e : Error) → YieldsLast stops (Left stops front back) was (Some (Err e)) is
        → stops e ≡ false → Contains (all_errors (map whole ks)) e
    back_err e yields fine = among e (last_contained (kept_at ks i).rest (Err e)
        (yields (kept_at ks i).rest left fine).0)

    -- an error is the last of what its source still deals
    pub back_err_last : (e : Error) → YieldsLast stops (Left stops front back) was (Some (Err e)) is
        → stops e ≡ false → Some (Err e) ≡ last (kept_at ks i).rest
    back_err_last e yields fine = (yields (kept_at ks i).rest left fine).0

-- ---- room

-- an item of a source that is counted less now moves into the heap
pub moved_total : {E H : Type 0} (size : E → ℕ) (xs : List E) (i : ℕ) (was is : E)
    (old new : List H) (h : H) → i < length xs → was ≡ slice_index_or xs i was → size is < size was
    → IsPermutation (h ∷ old) new
    → sum_by size (slice_set xs i is) + length new ≤ sum_by size xs + length old
moved_total size xs i was is old new h at found less perm =
    let total = sum_by-set size xs i is was at in
    let size_was : size was ≡ size (slice_index_or xs i was) = ap size found in
    omega (arith, total, size_was, length_permutation (h ∷ old) new perm)

pub lowered_total : {E : Type 0} (size : E → ℕ) (xs : List E) (i : ℕ) (was is : E) (others : ℕ)
    → i < length xs → was ≡ slice_index_or xs i was → size is < size was
    → sum_by size (slice_set xs i is) + others < sum_by size xs + others
lowered_total size xs i was is others at found less =
    let total = sum_by-set size xs i is was at in
    let size_was : size was ≡ size (slice_index_or xs i was) = ap size found in
    omega (arith, total, size_was, less)

pub ended_total : {E : Type 0} (size : E → ℕ) (xs : List E) (i : ℕ) (was is : E) (others : ℕ)
    → i < length xs → size is ≡ 0 → sum_by size (slice_set xs i is) + others ≤ sum_by size xs
    + others
ended_total size xs i was is others at none = let total = sum_by-set size xs i is was at in
    omega (arith, total, none)
