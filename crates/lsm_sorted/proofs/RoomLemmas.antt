-- How many entries a merger holds.
use Rattle.std.proofs.Common.{◌≡◌, inl, inr, refl, sym, ◌∙◌, ap, subst, ℕ, suc, ◌+◌, ◌<◌, ◌≤◌, Bool}
use Rattle.std.proofs.Common.{true, false, cond, nat_lt, List, ◌∷◌, length, arith}
use Rattle.std.specs.Prelude.{◌==◌, Option, All, IsPermutation, count_by, sum_by}
use Rattle.std.specs.Iterator.{Count}
use Rattle.std.proofs.lemmas.Bool.{eqb-true}
use Rattle.std.proofs.lemmas.Bool.Decides.{nat_tests}
use Rattle.std.proofs.lemmas.List.Elements.{recursion_from_All, All-from_recursion}
use Rattle.std.proofs.lemmas.List.Sorted.{All-permutation, sum_by-IsPermutation, length_permutation}
use Rattle.sst_entries.specs.declared.stream.Direction.{Direction}
use Rattle.sst_entries.specs.declared.stream.Direction.TheVariants.{Front, Back}
use Rattle.lsm_sorted.specs.declared.merge.HeapItem.{HeapItem}
use Rattle.lsm_sorted.specs.declared.merge.Merger.{Merger}
use Rattle.lsm_sorted.specs.merge.Tournament.{Contest}
use Rattle.lsm_sorted.specs.merge.Ends.{R, Goes, ends_size}
use Rattle.lsm_sorted.specs.merge.Merge.{held_of, is_ready, Adds, SameRoom, Bounded, HasPlaces}
use Rattle.lsm_sorted.specs.merge.Merge.{HasPlacesIf, MayMerge, merge_total, merge_size}
use Rattle.lsm_sorted.proofs.Kept.{opposite}
use Rattle.lsm_sorted.specs.merge.Asks.{Pops, made_ready}
use Rattle.lsm_sorted.proofs.ReadyLemmas.{ready_same, made_sources, made_heap, made_now, made_other}
use Rattle.lsm_sorted.proofs.HeldLemmas.{weight, count_cons, count_yes, count_no}

-- an item of source k
abbrev pub of_source : {A : Type 0} → ℕ → HeapItem A → Bool
of_source k h = h.source == k

-- of one of n sources
abbrev Known : {A : Type 0} → ℕ → HeapItem A → Type 0
Known n h = h.source < n

pub count_perm : {A : Type 0} (k : ℕ) (xs ys : List (HeapItem A)) → IsPermutation xs ys
    → count_by (of_source k) ys ≡ count_by (of_source k) xs
count_perm k xs ys perm = sum_by-IsPermutation (λ h. cond (of_source k h) 1 0) xs ys perm

-- 1 where it is so
abbrev pub one_if : Bool → ℕ
one_if b = cond b 1 0

limit_more : (i k : ℕ) (other : Bool) → cond (nat_lt k i) 1 0 + cond other 1 0
    ≤ cond (nat_lt k (i + 1)) 1 0 + cond other 1 0
limit_more i k other = grind (arith, nat_tests)

limit_here : (i : ℕ) (other : Bool) → cond (nat_lt i i) 1 0 + cond other 1 0
    < cond (nat_lt i (i + 1)) 1 0 + cond other 1 0
limit_here i other = grind (arith, nat_tests)

pub limit_ready : (b other : Bool) → cond b 1 0 + cond other 1 0 ≤ 1 + cond other 1 0
limit_ready true other = omega arith
limit_ready false other = omega arith

module _ {S A : Type 0} (front back : S → Option R → S → Type 0) (can can_back : S → Type 0)
    (left : S → Count) where
  -- one more may be held, of source i
  pub bounded_adds : (limit more : ℕ → ℕ) (most i : ℕ) (end : Direction) (s t : Merger S A)
      → Bounded front back can can_back left limit most s → Adds end i s.heap.items t.heap.items
      → All (Goes front back can can_back left) t.sources.items → SameRoom s t
      → i < length s.sources.items → ((k : ℕ) → limit k ≤ more k) → limit i < more i
      → Bounded front back can can_back left more (most + 1) t
  bounded_adds limit more most i end s t was adds goes same within wider room_i =
      let n : length t.sources.items ≡ length s.sources.items = same.count in
      let space : length t.sources.items + length t.sources.items ≤ t.heap.room =
      omega (arith, was.space, same.count, same.room) in
      let old_known : All (λ h. h.source < length t.sources.items) s.heap.items =
      subst (λ (l : ℕ). All (λ (h : HeapItem A). h.source < l) s.heap.items)
      (sym n) was.known in
      elim adds [
        | inl e ↦ record {
          sources = goes;
          known = subst (All (λ h. h.source < length t.sources.items)) e old_known;
          space = space;
          few = let l : length t.heap.items ≡ length s.heap.items = ap length (sym e) in
              omega (arith, was.few);
          each = λ k. let c : held_of k t ≡ held_of k s = ap (count_by (of_source k)) (sym e) in
              omega (arith, was.each k, wider k);
        }
        | inr new ↦
            let h : HeapItem A = new.0 in
            let source : h.source ≡ i = new.1 in
            record {
              sources = goes;
              known = All-permutation (Known (length t.sources.items))
                  (h ∷ s.heap.items) t.heap.items new.3
                  (All-from_recursion (λ h. h.source < length t.sources.items) (h ∷ s.heap.items) (
                    omega arith,
                    recursion_from_All (Known (length t.sources.items)) s.heap.items
                        old_known,
                  ));
              space = space;
              few = omega (
                arith,
                was.few,
                length_permutation
                    (h ∷ s.heap.items) t.heap.items new.3,
              );
              each = λ k.
                  let c : held_of k t ≡ count_by (of_source k) (h ∷ s.heap.items) =
                  count_perm k (h ∷ s.heap.items) t.heap.items new.3 in
                  elim (h.source == k) as (λ b. (h.source == k) ≡ b → held_of k t ≤ more k) [
                    | true ↦ λ e.
                        let at : k ≡ i = sym (eqb-true h.source k e) ∙ source in
                        let here : held_of k s ≤ limit i = subst
                        (λ (j : ℕ). held_of k s ≤ limit j) at (was.each k) in
                        let there : limit i < more k = subst (λ (j : ℕ). limit i < more j)
                        (sym at) room_i in
                        omega (arith, c, here, there, count_yes (of_source k) h s.heap.items e)
                    | false ↦ λ e. omega (
                      arith,
                      c,
                      was.each k,
                      wider k,
                      count_no
                          (of_source k) h s.heap.items e,
                    )
                  ] refl;
            }
      ]

  -- one was taken out, and one of its source may have been added
  pub bounded_turn : (limit : ℕ → ℕ) (most : ℕ) (end : Direction) (s t : Merger S A)
      (h : HeapItem A) (mid : List (HeapItem A)) → Bounded front back can can_back left limit most s
      → IsPermutation s.heap.items (h ∷ mid) → Adds end h.source mid t.heap.items
      → All (Goes front back can can_back left) t.sources.items → SameRoom s t
      → Bounded front back can can_back left limit most t
  bounded_turn limit most end s t h mid was pops adds goes same =
      let n : length t.sources.items ≡ length s.sources.items = same.count in
      let space : length t.sources.items + length t.sources.items ≤ t.heap.room =
      omega (arith, was.space, same.count, same.room) in
      let few : length mid < suc most = omega (
        arith,
        was.few,
        length_permutation s.heap.items
            (h ∷ mid) pops,
      ) in
      let fewer : suc (length mid) ≤ most = omega
      (arith, was.few, length_permutation s.heap.items (h ∷ mid) pops) in
      let known = recursion_from_All (Known (length t.sources.items)) (h ∷ mid)
      (All-permutation (Known (length t.sources.items)) s.heap.items (h ∷ mid) pops
      (subst (λ (l : ℕ). All (λ (x : HeapItem A). x.source < l) s.heap.items)
      (sym n) was.known)) in
      let counts : (k : ℕ) → count_by (of_source k) (h ∷ mid) ≤ limit k =
      λ k. omega (arith, was.each k, count_perm k s.heap.items (h ∷ mid) pops) in
      elim adds [
        | inl e ↦ record {
          sources = goes;
          known = subst (All (λ x. x.source < length t.sources.items)) e
              (All-from_recursion (λ x. x.source < length t.sources.items) mid known.1);
          space = space;
          few = let l : length t.heap.items ≡ length mid = ap length (sym e) in omega arith;
          each = λ k. let c : held_of k t ≡ count_by (of_source k) mid =
              ap (count_by (of_source k)) (sym e) in omega
              (arith, counts k, count_cons (of_source k) h mid);
        }
        | inr new ↦
            let x : HeapItem A = new.0 in
            let source : x.source ≡ h.source = new.1 in
            record {
              sources = goes;
              known = All-permutation (Known (length t.sources.items)) (x ∷ mid) t.heap.items new.3
                  (All-from_recursion (λ y. y.source < length t.sources.items) (x ∷ mid)
                  (let low : h.source < length t.sources.items = known.0 in omega arith, known.1));
              space = space;
              few = omega (arith, length_permutation (x ∷ mid) t.heap.items new.3);
              each = λ k.
                  let c : held_of k t ≡ count_by (of_source k) (x ∷ mid) =
                  count_perm k (x ∷ mid) t.heap.items new.3 in
                  let same_weight : weight (of_source k x) ≡ weight (of_source k h) =
                  ap (λ (j : ℕ). weight (j == k)) source in
                  omega (
                    arith,
                    c,
                    counts k,
                    same_weight,
                    count_cons (of_source k) x mid,
                    count_cons
                        (of_source k) h mid,
                  );
            }
      ]

  -- a merger with the same sources and the same heap, within wider bounds
  pub bounded_same : (limit more : ℕ → ℕ) (few most : ℕ) (s t : Merger S A)
      → Bounded front back can can_back left limit few s → t.sources ≡ s.sources → t.heap ≡ s.heap
      → ((k : ℕ) → limit k ≤ more k) → few ≤ most → Bounded front back can can_back left more most t
  bounded_same limit more few most s t was sources heap wider fewer =
      let n : length t.sources.items ≡ length s.sources.items = ap (λ v. length v.items) sources in
      let r : t.heap.room ≡ s.heap.room = ap (λ (h : Contest (HeapItem A)). h.room) heap in
      let l : length t.heap.items ≡ length s.heap.items = ap (λ h. length h.items) heap in
      record {
        sources = subst (λ v. All (Goes front back can can_back left) v.items)
            (sym sources) was.sources;
        known = subst (λ (j : ℕ). All (Known {A = A} j) t.heap.items) (sym n)
            (subst (λ h. All (Known (length s.sources.items)) h.items) (sym heap) was.known);
        space = omega (arith, was.space);
        few = omega (arith, was.few);
        each = λ k. let c : held_of k t ≡ held_of k s =
            ap (λ h. count_by (of_source k) h.items) heap in omega (arith, was.each k, wider k);
      }

  abbrev Within : (ℕ → ℕ) → ℕ → Merger S A → Type 0
  Within limit most m = Bounded front back can can_back left limit most m

  -- what HasPlaces says, seen from an end
  abbrev pub limit_at : Direction → Merger S A → ℕ → ℕ
  limit_at end m k = one_if (is_ready end m) + one_if (is_ready (opposite end) m)

  abbrev pub most_at : Direction → Merger S A → ℕ
  most_at end m = cond (is_ready end m) (length m.sources.items) 0
      + cond (is_ready (opposite end) m) (length m.sources.items) 0

  places_at : (end : Direction) (m : Merger S A) → HasPlaces front back can can_back left m
      → Within (limit_at end m) (most_at end m) m
  places_at Front m h = h
  places_at Back m h = bounded_same (limit_at Front m) (limit_at Back m) (most_at Front m)
      (most_at Back m) m m h refl refl (λ k. omega arith) (omega arith)

  at_places : (end : Direction) (m : Merger S A) → Within (limit_at end m) (most_at end m) m
      → HasPlaces front back can can_back left m
  at_places Front m h = h
  at_places Back m h = bounded_same (limit_at Back m) (limit_at Front m) (most_at Back m)
      (most_at Front m) m m h refl refl (λ k. omega arith) (omega arith)

  -- after the first i sources were asked at an end
  abbrev pub FilledTo : Direction → Merger S A → ℕ → Merger S A → Type 0
  FilledTo end s i m = Within (λ k. one_if (nat_lt k i) + one_if (is_ready (opposite end) s))
      (i + cond (is_ready (opposite end) s) (length s.sources.items) 0) m

  pub fill_first : (end : Direction) (s : Merger S A) → HasPlaces front back can can_back left s
      → is_ready end s ≡ false → FilledTo end s 0 s
  fill_first end s was e =
      let none : one_if (is_ready end s) ≡ 0 = ap one_if e in
      let no_more : cond (is_ready end s) (length s.sources.items) 0 ≡ 0 =
      ap (λ (b : Bool). cond b (length s.sources.items) 0) e in
      bounded_same (limit_at end s) (λ k. one_if (nat_lt k 0) + one_if (is_ready (opposite end) s))
      (most_at end s) (0 + cond (is_ready (opposite end) s) (length s.sources.items) 0) s s
      (places_at end s was) refl refl
      (λ k. omega (arith, none)) (omega (arith, no_more))

  pub fill_next : (end : Direction) (i : ℕ) (s m t : Merger S A) → FilledTo end s i m
      → Adds end i m.heap.items t.heap.items → All
      (Goes front back can can_back left) t.sources.items → SameRoom m t
      → i < length m.sources.items → FilledTo end s (i + 1) t
  fill_next end i s m t was adds goes same within =
      let other : Bool = is_ready (opposite end) s in
      let most : ℕ = cond other (length s.sources.items) 0 in
      bounded_same (λ k. one_if (nat_lt k (i + 1)) + one_if other)
      (λ k. one_if (nat_lt k (i + 1)) + one_if other) ((i + most) + 1) ((i + 1) + most) t t
      (bounded_adds (λ k. one_if (nat_lt k i) + one_if other)
      (λ k. one_if (nat_lt k (i + 1)) + one_if other)
      (i + most) i end m t was adds goes same within (λ k. limit_more i k other)
      (limit_here i other))
      refl refl (λ k. omega arith) (omega arith)

  pub fill_last : (end : Direction) (i : ℕ) (s m : Merger S A) → FilledTo end s i m
      → i ≤ length s.sources.items → SameRoom s m
      → HasPlaces front back can can_back left (made_ready end m)
  fill_last end i s m was all same =
      let t : Merger S A = made_ready end m in
      let other : Bool = is_ready (opposite end) s in
      let count : length t.sources.items ≡ length s.sources.items =
      ap (λ v. length v.items) (made_sources end m) ∙ same.count in
      let still : is_ready (opposite end) t ≡ other = made_other end m
      ∙ ready_same (opposite end) s m same in
      let here : one_if (is_ready end t) ≡ 1 = ap one_if (made_now end m) in
      let there : one_if (is_ready (opposite end) t) ≡ one_if other = ap one_if still in
      let all_here : cond (is_ready end t) (length t.sources.items) 0 ≡ length s.sources.items =
      ap (λ (b : Bool). cond b (length t.sources.items) 0) (made_now end m) ∙ count in
      let all_there : cond (is_ready (opposite end) t) (length t.sources.items) 0
      ≡ cond other (length s.sources.items) 0 =
      ap (λ (b : Bool). cond b (length t.sources.items) 0) still
      ∙ ap (λ (n : ℕ). cond other n 0) count in
      at_places end t (bounded_same (λ k. one_if (nat_lt k i) + one_if other) (limit_at end t)
      (i + cond other (length s.sources.items) 0) (most_at end t) m t was (made_sources end m)
      (made_heap end m)
      (λ k. omega (arith, limit_ready (nat_lt k i) other, here, there))
      (omega (arith, all, all_here, all_there)))

  module _ (end : Direction) (s m : Merger S A) (h : HeapItem A)
      (was : HasPlaces front back can can_back left s) (pops : Pops end s h m) where
    same_count : length m.sources.items ≡ length s.sources.items
    same_count = ap (λ v. length v.items) pops.same.sources

    -- the source of a popped item
    pub popped_known : h.source < length m.sources.items
    popped_known =
        let known : h.source < length s.sources.items =
        (recursion_from_All (Known (length s.sources.items)) (h ∷ m.heap.items)
        (All-permutation (Known (length s.sources.items)) s.heap.items
        (h ∷ m.heap.items) pops.left was.known)).0 in
        omega (arith, known, same_count)

    -- there is room for the next of its source
    pub popped_space : length m.heap.items < m.heap.room
    popped_space =
        omega (
          arith,
          was.few,
          was.space,
          pops.same.room,
          length_permutation s.heap.items
              (h ∷ m.heap.items) pops.left,
          at_most_all s.front_ready
              (length s.sources.items),
          at_most_all s.back_ready (length s.sources.items),
        )
      where
        at_most_all : (b : Bool) (n : ℕ) → cond b n 0 ≤ n
        at_most_all true n = omega arith
        at_most_all false n = omega arith

    pub popped_total : suc (merge_total left m) ≡ merge_total left s
    popped_total =
        let sizes : sum_by (ends_size left) m.sources.items
        ≡ sum_by (ends_size left) s.sources.items =
        ap (λ v. sum_by (ends_size left) v.items) pops.same.sources in
        omega (arith, sizes, length_permutation s.heap.items (h ∷ m.heap.items) pops.left)

  -- a pop, and the take after it
  pub same_popped : (end : Direction) (s m t : Merger S A) (h : HeapItem A) → Pops end s h m
      → SameRoom m t → SameRoom s t
  same_popped end s m t h pops same = record {
    count = same.count ∙ ap (λ v. length v.items) pops.same.sources;
    room = same.room ∙ pops.same.room;
    front_ready = same.front_ready ∙ pops.same.front_ready;
    back_ready = same.back_ready ∙ pops.same.back_ready;
    failed = same.failed ∙ pops.same.failed;
  }

  pub fits_turn : (end : Direction) (s t : Merger S A) (h : HeapItem A) (mid : List (HeapItem A))
      → HasPlaces front back can can_back left s → IsPermutation s.heap.items (h ∷ mid)
      → Adds end h.source mid t.heap.items
      → All (Goes front back can can_back left) t.sources.items → SameRoom s t
      → HasPlaces front back can can_back left t
  fits_turn end s t h mid was pops adds goes same =
      let first : one_if t.front_ready ≡ one_if s.front_ready = ap one_if same.front_ready in
      let second : one_if t.back_ready ≡ one_if s.back_ready = ap one_if same.back_ready in
      let many_first : cond t.front_ready (length t.sources.items) 0
      ≡ cond s.front_ready (length s.sources.items) 0 =
      ap (λ (b : Bool). cond b (length t.sources.items) 0) same.front_ready
      ∙ ap (λ (n : ℕ). cond s.front_ready n 0) same.count in
      let many_second : cond t.back_ready (length t.sources.items) 0
      ≡ cond s.back_ready (length s.sources.items) 0 =
      ap (λ (b : Bool). cond b (length t.sources.items) 0) same.back_ready
      ∙ ap (λ (n : ℕ). cond s.back_ready n 0) same.count in
      bounded_same (λ k. cond s.front_ready 1 0 + cond s.back_ready 1 0)
      (λ k. cond t.front_ready 1 0 + cond t.back_ready 1 0)
      (cond s.front_ready (length s.sources.items) 0 + cond s.back_ready (length s.sources.items) 0)
      (cond t.front_ready (length t.sources.items) 0
      + cond t.back_ready (length t.sources.items) 0) t t
      (bounded_turn (λ k. cond s.front_ready 1 0 + cond s.back_ready 1 0)
      (cond s.front_ready (length s.sources.items) 0
      + cond s.back_ready (length s.sources.items) 0) end s t h mid was pops adds goes same)
      refl refl (λ k. omega (arith, first, second)) (omega (arith, many_first, many_second))

  -- while no source failed
  pub may_merge : (m : Merger S A) → m.failed ≡ false → HasPlaces front back can can_back left m
      → MayMerge front back can can_back left m
  may_merge m fine fits = record {
    fits = subst (λ (b : Bool). HasPlacesIf front back can can_back left b m) (sym fine) fits;
  }

  pub size_of : (m : Merger S A) → m.failed ≡ false → merge_size left m ≡ merge_total left m
  size_of m fine = ap (λ (b : Bool). cond b 0 (merge_total left m)) fine
