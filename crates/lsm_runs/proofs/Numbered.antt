-- Readers of several runs below a bound of numbers: what they deal together, and the newest of it.
use Rattle.std.proofs.Common.{◌≡◌, refl, sym, ◌∙◌, ap, subst, ℕ, List, [], ◌∷◌}
use Rattle.std.specs.Prelude.{All, Option, map, nat_lt, ◌&&◌, ◌<◌}
use Rattle.std.specs.Iterator.{Count}
use Rattle.std.specs.List.{AllByRecursion, AllZip}
use Rattle.std.specs.declared.ops.Bound.{Bound}
use Rattle.std.proofs.lemmas.Bool.{lt-ltb}
use Rattle.std.proofs.lemmas.List.Elements.{All-filter, All-head, All-tail}
use Rattle.sst_entries.specs.Entry.{Entry}
use Rattle.sst_entries.specs.Point.{is_from, is_to, within}
use Rattle.sst_entries.specs.Stream.{YieldsExactly, answer_stops, ok_results}
use Rattle.sst_blocks.specs.table.Chunks.{joined}
use Rattle.lsm_sorted.specs.merge.Ends.{R}
use Rattle.lsm_sorted.specs.merge.Union.{Ascends, newest, sort_entries}
use Rattle.lsm_sorted.specs.Below.{GivesBelow, below_of, numbered_below}
use Rattle.lsm_sorted.specs.NewestLaws.{AnswersNewest, CanAskNewest, YieldsNewest, IsNewestOf}
use Rattle.lsm_sorted.specs.declared.below.Below.{Below}
use Rattle.lsm_sorted.specs.declared.mvcc_stream.MvccStream.{MvccStream}
use Rattle.lsm_sorted.specs.declared.merge.Merger.{Merger}
use Rattle.lsm_sorted.proofs.BelowLemmas.{MayBoth, MayFront, below_entries, yields_below}
use Rattle.lsm_runs.specs.RunLists.{YieldTogether, YieldsList}
use Rattle.lsm_runs.specs.SeveralRuns.{union_in}
use Rattle.lsm_runs.proofs.Together.{newest_yielded}
use Rattle.lsm_runs.proofs.Unions.{filter_ascends, filter_joined, filter_sorted}

-- where all are numbered below the bound, all stay
all_numbered : (bound : ℕ) (es : List Entry) → All (λ (e : Entry). e.seqno < bound) es
    → numbered_below bound es ≡ es
all_numbered bound [] all = refl
all_numbered bound (e ∷ es) all =
    rw (lt-ltb e.seqno bound (All-head (λ (u : Entry). u.seqno < bound) e es all))
    (ap (λ (us : List Entry). e ∷ us)
    (all_numbered bound es (All-tail (λ (u : Entry). u.seqno < bound) e es all)))

pub none_cut : (bound : ℕ) (low high : Bound (List ℕ)) (lists : List (List (List Entry)))
    → All (λ (e : Entry). e.seqno < bound) (union_in lists)
    → newest (numbered_below bound (within low high (union_in lists)))
    ≡ newest (within low high (union_in lists))
none_cut bound low high lists all =
    ap newest (all_numbered bound (within low high (union_in lists)) (All-filter
    (λ (e : Entry). is_from low e.user_key && is_to high e.user_key)
    (λ (e : Entry). e.seqno < bound) (union_in lists) all))

module _ (bound : ℕ) where
  pub numbered_joined : (ls : List (List Entry))
      → numbered_below bound (joined ls) ≡ joined (map (numbered_below bound) ls)
  numbered_joined ls = filter_joined (λ (e : Entry). nat_lt e.seqno bound) ls

  pub each_ascends : (ls : List (List Entry)) → AllByRecursion Ascends ls
      → AllByRecursion Ascends (map (numbered_below bound) ls)
  each_ascends [] up = tt
  each_ascends (es ∷ ls) up =
      (filter_ascends (λ (e : Entry). nat_lt e.seqno bound) es up.0, each_ascends ls up.1)

  module _ {S : Type 0} (front back : S → Option R → S → Type 0) (can can_back : S → Type 0)
      (left : S → Count) where
    abbrev pub InFront : Below S → Option R → Below S → Type 0
    InFront = GivesBelow (MayFront front back can can_back left) front

    abbrev pub Behind : Below S → Option R → Below S → Type 0
    Behind = GivesBelow (MayBoth front back can can_back left) back

    one_below : (s : S) (es : List Entry) → YieldsList front back es s
        → YieldsList InFront Behind (numbered_below bound es) (below_of bound s)
    one_below s es yields stops memory =
        subst (λ (rs : List R). YieldsExactly (answer_stops stops) InFront Behind (below_of bound s) rs)
        (below_entries bound es)
        ((yields_below front back (MayFront front back can can_back left)
        (MayBoth front back can can_back left) s bound Behind (λ t r u step. step)
        (below_of bound s) refl).yields stops (ok_results es) (yields stops memory))

    each_below : (sources : List S) (yielded : List (List Entry))
        → AllZip (λ (s : S) (es : List Entry). YieldsList front back es s) sources yielded
        → AllZip (λ (s : Below S) (es : List Entry). YieldsList InFront Behind es s)
        (map (below_of bound) sources) (map (numbered_below bound) yielded)
    each_below [] [] all = tt
    each_below [] (es ∷ yielded) all = absurd all
    each_below (s ∷ sources) [] all = absurd all
    each_below (s ∷ sources) (es ∷ yielded) all =
        (one_below s es all.0, each_below sources yielded all.1)

    pub together_below : (sources : List S) (found : List (List Entry))
        → YieldTogether front back sources found
        → YieldTogether InFront Behind (map (below_of bound) sources)
        (map (numbered_below bound) found)
    together_below sources found d = record {
      yielded = map (numbered_below bound) d.yielded;
      same = sym (numbered_joined d.yielded) ∙ ap (numbered_below bound) d.same
          ∙ numbered_joined found;
      ascend = each_ascends d.yielded d.ascend;
      yield_each = each_below sources d.yielded d.yield_each;
    }

    -- what is newest of the entries below the bound that they have together, sorted
    pub newest_numbered : {T : Type 0} (next next_back : T → Option R → T → Type 0) (t : T)
        (sources : List S) (found : List (List Entry)) (es : List Entry)
        → sort_entries (joined found) ≡ es → YieldTogether front back sources found
        → YieldsNewest InFront Behind (map (below_of bound) sources) next next_back t
        → YieldsList next next_back (newest (numbered_below bound es)) t
    newest_numbered next next_back t sources found es is d law =
        subst (λ (us : List Entry). YieldsList next next_back (newest us) t)
        (ap sort_entries (sym (numbered_joined found))
        ∙ sym (filter_sorted (λ (e : Entry). nat_lt e.seqno bound) (joined found))
        ∙ ap (numbered_below bound) is)
        (newest_yielded InFront Behind next next_back t (map (below_of bound) sources)
        (map (numbered_below bound) found) (together_below sources found d) law)

    -- of sources that are these below the bound
    pub newest_numbered_of : {T : Type 0} (next next_back : T → Option R → T → Type 0) (t : T)
        (bs : List (Below S)) (sources : List S) (found : List (List Entry)) (es : List Entry)
        → bs ≡ map (below_of bound) sources → sort_entries (joined found) ≡ es
        → YieldTogether front back sources found
        → YieldsNewest InFront Behind bs next next_back t
        → YieldsList next next_back (newest (numbered_below bound es)) t
    newest_numbered_of next next_back t bs sources found es are is d law =
        newest_numbered next next_back t sources found es is d
        (subst (λ (xs : List (Below S)). YieldsNewest InFront Behind xs next next_back t) are law)

-- ---- of equal lists

pub yielded_as : {T : Type 0} (next next_back : T → Option R → T → Type 0) (t : T)
    (xs ys : List Entry) → xs ≡ ys → YieldsList next next_back xs t → YieldsList next next_back ys t
yielded_as next next_back t xs ys is h =
    subst (λ (es : List Entry). YieldsList next next_back es t) is h

pub starts_as : {X A : Type 0} (s : MvccStream (Merger X A) R) (bs cs : List X) → bs ≡ cs
    → IsNewestOf bs s → IsNewestOf cs s
starts_as {X} s bs cs are h = subst (λ (xs : List X). IsNewestOf xs s) are h

module _ {X T : Type 0} (front back : X → Option R → X → Type 0)
    (next next_back : T → Option R → T → Type 0) (t : T) (bs cs : List X) (are : bs ≡ cs) where
  pub past_as : AnswersNewest front back bs next next_back t
      → AnswersNewest front back cs next next_back t
  past_as h = subst (λ (xs : List X). AnswersNewest front back xs next next_back t) are h

  pub can_as : (can can_back : X → Type 0) (left : X → Count) (can_next can_next_back : T → Type 0)
      → CanAskNewest front back can can_back left bs next next_back can_next can_next_back t
      → CanAskNewest front back can can_back left cs next next_back can_next can_next_back t
  can_as can can_back left can_next can_next_back h =
      subst (λ (xs : List X). CanAskNewest front back can can_back left xs next next_back can_next
      can_next_back t) are h
