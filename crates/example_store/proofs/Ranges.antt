-- A range of a store shows what its history says.
use Rattle.std.proofs.Common.{◌≡◌, refl, sym, ◌∙◌, ap, subst, ℕ, ◌<◌, ◌≤◌, inl, inr, Bool, true}
use Rattle.std.proofs.Common.{false, cond, List, [], ◌∷◌, ◌++◌, append-nil, filter, arith}
use Rattle.std.specs.Prelude.{Option, Some, None, nat_lt, ◌&&◌, map, All, IfOk, Result, Ok, Err}
use Rattle.std.specs.List.{AllByRecursion}
use Rattle.std.specs.Result.{IsOkAnd}
use Rattle.std.proofs.lemmas.List.Elements.{All-from_recursion}
use Rattle.std.specs.declared.ops.Bound.{Bound}
use Rattle.std.proofs.lemmas.Bool.{cases_Bool, lt-ltb, ltb-true}
use Rattle.lsm_tables.specs.Words.{YieldWithin, YieldsList, Entry, Error, IsStrict, all_shown}
use Rattle.lsm_tables.specs.Words.{is_from, is_hit, is_to, leading_of, newest, numbered_below}
use Rattle.lsm_tables.specs.Words.{point, same_key, seen, shown, single, sort_entries, union_in}
use Rattle.lsm_tables.specs.Words.{within}
use Rattle.lsm_tables.proofs.TableLaws.{and_false, as_pairs, ascends_in_order}
use Rattle.lsm_tables.proofs.TableLaws.{ascends_of, filter_ascends, hit_key, leading_sorted}
use Rattle.lsm_tables.proofs.TableLaws.{leads_older, ranges_by_points, union_up}
use Rattle.example_store.specs.Story.{Holding, IsStore, IsStory, IsReported}
use Rattle.example_store.proofs.Own.{all_in_order}
use Rattle.example_store.proofs.Places.{hit_first, hit_later}
use Rattle.example_store.proofs.Stories.{low_lists, read_more, story_later}

-- ---- entries with a seqno below a bound

module _ (below : ℕ) where
  -- a read of them at the bound or above is a read of all at the bound
  read_below : (key : List ℕ) (bound : ℕ) → below ≤ bound → (es : List Entry)
      → point (numbered_below below es) key bound ≡ point es key below
  unfolding point
  read_below key bound le [] = refl
  read_below key bound le (e ∷ es) =
      let rest = read_below key bound le es in
      elim (cases_Bool (nat_lt e.seqno below)) [
        | inl low ↦
            let less : e.seqno < below = ltb-true e.seqno below low in
            let high : nat_lt e.seqno bound ≡ true = lt-ltb e.seqno bound (omega (arith, less, le))
            in
            rw (low, high) (ap (λ (o : Option Entry).
            cond (same_key e.user_key key && true) (Some e) o) rest)
        | inr high ↦
            let miss : (same_key e.user_key key && false) ≡ false =
            and_false (same_key e.user_key key) false refl in
            rw (high, miss) rest
      ]

  -- two filters may be exchanged
  exchanged : (p q : Entry → Bool) (es : List Entry)
      → filter p (filter q es) ≡ filter q (filter p es)
  exchanged p q [] = refl
  exchanged p q (e ∷ es) =
      let rest = exchanged p q es in
      elim (cases_Bool (p e)) [
        | inl first ↦ elim (cases_Bool (q e)) [
          | inl second ↦ rw (second, first, second) (ap (λ (xs : List Entry). e ∷ xs) rest)
          | inr other ↦ rw (other, first, other) rest
        ]
        | inr none ↦ elim (cases_Bool (q e)) [
          | inl second ↦ rw (second, none) rest
          | inr other ↦ rw (other, none) rest
        ]
      ]

  module _ (low high : Bound (List ℕ)) where
    below_within : (es : List Entry)
        → numbered_below below (within low high es) ≡ within low high (numbered_below below es)
    below_within es = exchanged (λ (e : Entry). nat_lt e.seqno below)
        (λ (e : Entry). is_from low e.user_key && is_to high e.user_key) es

    -- lists that read alike show the same in ranges
    pub shown_alike : (oldest : ℕ) → oldest ≤ below → (lists : List (List (List Entry)))
        (ws : List Entry)
        → ((key : List ℕ) (bound : ℕ) → oldest ≤ bound
        → seen (union_in lists) key bound ≡ seen (sort_entries ws) key bound)
        → all_shown (newest (numbered_below below (within low high (union_in lists))))
        ≡ all_shown (newest (numbered_below below (within low high (sort_entries ws))))
    shown_alike oldest kept lists ws same =
        let xs = union_in lists in
        let ys = sort_entries ws in
        let p = λ (e : Entry). nat_lt e.seqno below in
        ap (λ (es : List Entry). all_shown (newest es)) (below_within xs)
        ∙ ranges_by_points low high (numbered_below below xs) (numbered_below below ys)
        (filter_ascends p xs (union_up lists)) (filter_ascends p ys (ascends_in_order ws)) below
        (λ key bound le. ap shown (read_below key bound le xs) ∙ same key below kept
        ∙ sym (ap shown (read_below key bound le ys)))
        ∙ sym (ap (λ (es : List Entry). all_shown (newest es)) (below_within ys))

-- ---- a history, sorted

pub story_below : (n : ℕ) (ws : List Entry) → IsStory n ws
    → AllByRecursion (λ (e : Entry). e.seqno < n) ws
story_below n [] h = tt
story_below n (e ∷ ws) h =
    let less = h.0 in
    (less, story_below n ws (story_later e.seqno n ws (omega (arith, less)) h.1))

module _ (key : List ℕ) (bound : ℕ) where
  nothing : point [] key bound ≡ None
  unfolding point
  nothing = refl

  -- sorting it does not change reads
  pub sorted_story : (n : ℕ) (ws : List Entry) → IsStory n ws
      → point (sort_entries ws) key bound ≡ point ws key bound
  sorted_story n [] h = refl
  sorted_story n (e ∷ ws) h =
      let rest = point (sort_entries ws) key bound in
      let more = sorted_story e.seqno ws h.1 in
      let older = all_in_order (λ (x : Entry). x.seqno < e.seqno) ws
      (story_below e.seqno ws h.1) in
      leading_sorted key bound (e ∷ []) ws (tt, tt)
      ∙ elim (cases_Bool (is_hit key bound e)) [
        | inl hit ↦
            ap (λ (o : Option Entry). leading_of o rest) (hit_first e key bound [] hit)
            ∙ leads_older key bound e (sort_entries ws) (hit_key key bound e hit) older
            ∙ sym (hit_first e key bound ws hit)
        | inr miss ↦
            ap (λ (o : Option Entry). leading_of o rest)
            (hit_later e key bound [] miss ∙ nothing)
            ∙ more ∙ sym (hit_later e key bound ws miss)
      ]

-- ---- ranges of a store

pub range_results : (s : Holding) (ws : List Entry) (low high : Bound (List ℕ)) (below : ℕ)
    → IsStore s → IsStrict s.recent → (returned : IsReported s ws) → s.oldest ≤ below
    → all_shown (newest (numbered_below below (within low high
    (union_in (map single (s.recent ∷ []) ++ returned.lists)))))
    ≡ all_shown (newest (numbered_below below (within low high (sort_entries ws))))
range_results s ws low high below sound strict returned kept =
    shown_alike below low high s.oldest kept ((s.recent ∷ []) ∷ returned.lists) ws (λ key bound reads.
    ap shown (read_more s.recent (s.recent ∷ []) (append-nil s.recent) returned.lists s.flushed s.next
    sound.recent (low_lists s ws sound returned) strict key bound)
    ∙ returned.same key bound reads
    ∙ sym (ap shown (sorted_story key bound s.next ws returned.story)))

-- an iterator that yields a list for which a fact holds
pub yielded_result : {S : Type 0} (front back : S → Option (Result Entry Error) → S → Type 0)
    (Q : List Entry → Type 0) (r : Result S Error) (es : List Entry)
    → IfOk r (YieldsList front back es) → Q es
    → IfOk r (λ s. (xs : List Entry) × YieldsList front back xs s × Q xs)
yielded_result front back Q (Ok s) es yields holds = (es, yields, holds)
yielded_result front back Q (Err e) es yields holds = tt

-- the same for an equal list
pub yielded_as : {S : Type 0} (front back : S → Option (Result Entry Error) → S → Type 0)
    (r : Result S Error) (f : List Entry → List Entry) (xs ys : List Entry) → xs ≡ ys
    → IfOk r (YieldsList front back (f xs)) → IfOk r (YieldsList front back (f ys))
yielded_as front back r f xs ys same = subst (λ (es : List Entry).
    IfOk r (YieldsList front back (f es))) same

-- one source, which yields a list in order
pub one_source : {S : Type 0} (front back : S → Option (Result Entry Error) → S → Type 0)
    (low high : Bound (List ℕ)) (source : Result S Error) (sources : List S) (es : List Entry)
    → IsOkAnd source (λ s. sources ≡ s ∷ []) → IsStrict es
    → IfOk source (YieldsList front back (within low high es))
    → YieldWithin front back low high sources (es ∷ [])
one_source {S} front back low high (Ok s) sources es is strict yields =
    subst (λ (ss : List S). YieldWithin front back low high ss (es ∷ [])) (sym is)
    (record { ascend = (ascends_of es (as_pairs es strict), tt); yield_each = (yields, tt) })
one_source front back low high (Err e) sources es is strict yields = absurd is

-- a fact about a source holds for the one in a list
pub one_of : {S : Type 0} (P : S → Type 0) (source : Result S Error) (sources : List S)
    → IsOkAnd source (λ s. sources ≡ s ∷ []) → IfOk source P → All P sources
one_of {S} P (Ok s) sources is holds =
    subst (All P) (sym is) (All-from_recursion P (s ∷ []) (holds, tt))
one_of P (Err e) sources is holds = absurd is
