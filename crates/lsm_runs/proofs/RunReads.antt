-- Point reads of several runs: what the runs up to a place did, what those behind it will, and how
-- many blocks are loaded.
use Rattle.std.proofs.Common.{◌≡◌, refl, sym, ◌∙◌, ap, subst, ℕ, ◌+◌, ◌-◌, ◌^◌, ◌<◌, ◌≤◌, List, []}
use Rattle.std.proofs.Common.{◌∷◌, drop, get_or, length, take, arith}
use Rattle.std.specs.Prelude.{Option, Some, None, Result, Ok, Err, map, min}
use Rattle.std.specs.List.{AllByRecursion}
use Rattle.std.proofs.lemmas.List.{drop_all, drop_more}
use Rattle.sst_entries.specs.declared.error.Error.{Error}
use Rattle.sst_entries.specs.Entry.{Entry}
use Rattle.sst_blocks.specs.declared.block_type.BlockType.{BlockType}
use Rattle.sst_blocks.specs.declared.block_type.BlockType.TheVariants.{Data, Index, Filter, Meta}
use Rattle.sst_blocks.specs.declared.opened.Opened.{Opened}
use Rattle.sst_blocks.specs.Handle.{Handle}
use Rattle.sst_blocks.specs.Opened.{none_opened, one_more, with_load}
use Rattle.sst_blocks.specs.Place.{Place}
use Rattle.lsm_sorted.specs.version.Run.{IsInOrder}
use Rattle.lsm_readers.specs.point.Answer.{LoadsFew, most_filter_loads}
use Rattle.lsm_readers.specs.point.Parts.{Parts}
use Rattle.sst_blocks.specs.Access.{in_memory}
use Rattle.lsm_readers.specs.point.Read.{DoesRead, Read, opened_by}
use Rattle.lsm_readers.specs.point.Table.{OpenTable}
use Rattle.lsm_readers.specs.Words.{BloomFilter}
use Rattle.lsm_readers.proofs.IndexKinds.{index_one}
use Rattle.lsm_readers.proofs.ReadLaws.{does_known, then_fails, then_goes}
use Rattle.lsm_run_parts.specs.RunParts.{range_of}
use Rattle.lsm_runs.specs.SeveralRuns.{LoadsEach, loads_together, run_read}
use Rattle.lsm_sorted.specs.Leading.{leading_of}
use Rattle.lsm_runs.specs.SeveralRuns.{runs_read_by, sum_within}

-- ---- counts together

-- each count is a number of 64 bits
pub record AreSmall (o : Opened) : Type 0 where
  pub data_small : o.data_loads ≤ 2 ^ 64 - 1
  pub index_small : o.index_loads ≤ 2 ^ 64 - 1
  pub filter_small : o.filter_loads ≤ 2 ^ 64 - 1
  pub meta_small : o.meta_loads ≤ 2 ^ 64 - 1

pub none_small : AreSmall none_opened
none_small = record {
  data_small = omega arith;
  index_small = omega arith;
  filter_small =
      omega arith;
  meta_small = omega arith;
}

pub together_small : (a b : Opened) → AreSmall (loads_together a b)
together_small a b = record {
  data_small = omega arith;
  index_small = omega arith;
  filter_small =
      omega arith;
  meta_small = omega arith;
}

same_counts : (a b : Opened) → a.data_loads ≡ b.data_loads → a.index_loads ≡ b.index_loads
    → a.filter_loads ≡ b.filter_loads → a.meta_loads ≡ b.meta_loads → a ≡ b
same_counts a b d i f m =
    ap (λ (n : ℕ). let x : Opened = record {
      data_loads = n;
      index_loads =
          a.index_loads;
      filter_loads = a.filter_loads;
      meta_loads = a.meta_loads;
    } in x) d
    ∙ ap (λ (n : ℕ). let x : Opened = record {
      data_loads = b.data_loads;
      index_loads =
          n;
      filter_loads = a.filter_loads;
      meta_loads = a.meta_loads;
    } in x) i
    ∙ ap (λ (n : ℕ). let x : Opened = record {
      data_loads = b.data_loads;
      index_loads =
          b.index_loads;
      filter_loads = n;
      meta_loads = a.meta_loads;
    } in x) f
    ∙ ap (λ (n : ℕ). let x : Opened = record {
      data_loads = b.data_loads;
      index_loads =
          b.index_loads;
      filter_loads = b.filter_loads;
      meta_loads = n;
    } in x) m

together_none : (a : Opened) → AreSmall a → loads_together a none_opened ≡ a
together_none a small = same_counts (loads_together a none_opened) a
    (omega (arith, small.data_small)) (omega (arith, small.index_small))
    (omega (arith, small.filter_small)) (omega (arith, small.meta_small))

sum_more : (m n : ℕ) → sum_within m (one_more n) ≡ one_more (sum_within m n)
sum_more m n = omega arith

together_load : (k : BlockType) (a b : Opened)
    → loads_together a (with_load k b) ≡ with_load k (loads_together a b)
together_load Data a b = same_counts _ _ (sum_more a.data_loads b.data_loads) refl refl refl
together_load Index a b = same_counts _ _ refl (sum_more a.index_loads b.index_loads) refl refl
together_load Filter a b = same_counts _ _ refl refl (sum_more a.filter_loads b.filter_loads) refl
together_load Meta a b = same_counts _ _ refl refl refl (sum_more a.meta_loads b.meta_loads)

together_loads : (ks : List BlockType) (a b : Opened)
    → loads_together a (opened_by ks b) ≡ opened_by ks (loads_together a b)
together_loads [] a b = refl
together_loads (k ∷ ks) a b = together_loads ks a (with_load k b)
    ∙ ap (opened_by ks) (together_load k a b)

-- a read that was counted alone, behind other loads
counted_on : {X : Type 0} (r : Result X Error) (read : Read X) (old own : Opened) → AreSmall old
    → DoesRead in_memory r read none_opened own → DoesRead in_memory r read old (loads_together old own)
counted_on r read old own small d =
    let made = take d.opens.made read.loads in
    record {
      returned = d.returned;
      early = d.early;
      opens = record {
        made = d.opens.made;
        counts = ap (loads_together old) d.opens.counts ∙ together_loads made old none_opened
            ∙ ap (opened_by made) (together_none old small);
        within = d.opens.within;
        whole = d.opens.whole;
        some = d.opens.some;
      };
      calm = d.calm;
    }

-- ---- few loads

filter_one : (tops : Option (List Handle)) (filter : Option BloomFilter) (place : Option Place)
    → most_filter_loads tops filter place ≤ 1
filter_one (Some tops) filter place = omega arith
filter_one None (Some filter) place = omega arith
filter_one None None (Some place) = omega arith
filter_one None None None = omega arith

pub none_each : (most : ℕ) → LoadsEach most none_opened
none_each most = record {
  data_few = omega arith;
  index_few = omega arith;
  filter_few =
      omega arith;
  no_meta = refl;
}

pub few_each : (parts : Parts) (o : Opened) → LoadsFew parts none_opened o → LoadsEach 1 o
few_each parts o few =
    let filters = filter_one parts.pinned.filter_tops parts.pinned.filter parts.regions.filter in
    record {
      data_few = omega (arith, few.data_few);
      index_few = omega (arith, few.index_few, index_one parts.pinned.index);
      filter_few = omega (arith, few.filter_few, filters);
      no_meta = few.no_meta;
    }

-- those of one more run
pub more_each : (i many : ℕ) (a b : Opened) → i < many → LoadsEach (min i many) a → LoadsEach 1 b
    → LoadsEach (min (i + 1) many) (loads_together a b)
more_each i many a b less h own = record {
  data_few = omega (arith, less, h.data_few, own.data_few);
  index_few = omega (arith, less, h.index_few, own.index_few);
  filter_few = omega (arith, less, h.filter_few, own.filter_few);
  no_meta = omega (arith, h.no_meta, own.no_meta);
}

pub all_each : (i many : ℕ) (o : Opened) → LoadsEach (min i many) o → LoadsEach many o
all_each i many o h = record {
  data_few = omega (arith, h.data_few);
  index_few =
      omega (arith, h.index_few);
  filter_few = omega (arith, h.filter_few);
  no_meta = h.no_meta;
}

-- ---- one run behind another

abbrev pub found_is : Option Entry → Result (Option Entry) Error
found_is found = Ok found

abbrev pub refused_by : Error → Result (Option Entry) Error
refused_by e = Err e

-- each run is asked, whatever was found
abbrev pub every_run : List ℕ → ℕ → Option Entry → List OpenTable → Read (Option Entry)
every_run key bound found tables = run_read key bound tables

module _ {X : Type 0} (f : X → List OpenTable)
    (read : Option Entry → List OpenTable → Read (Option Entry)) (xs : List X) (i : ℕ) where
  -- what the runs from a place on do behind what was found and counted, that do all runs
  abbrev pub GoesOn : Option Entry → Opened → Type 0
  GoesOn found opened = (r : Result (Option Entry) Error) (new : Opened)
      → DoesRead in_memory r (runs_read_by read found (map f (drop i xs))) opened new
      → DoesRead in_memory r (runs_read_by read None (map f xs)) none_opened new

  abbrev pub ReadsOn : Option Entry → Opened → Type 0
  ReadsOn found opened = AllByRecursion (IsInOrder range_of) (map f xs) → GoesOn found opened

  module _ (x : X) (less : i < length xs) (is : x ≡ get_or xs i x) (found : Option Entry)
      (opened own : Opened) (small : AreSmall opened) (on : GoesOn found opened) where
    abbrev behind : Option Entry → Read (Option Entry)
    behind next = runs_read_by read (leading_of found next) (map f (drop (i + 1) xs))

    split : drop i xs ≡ x ∷ drop (i + 1) xs
    split = drop_more xs i x less ∙ ap (λ (y : X). y ∷ drop (i + 1) xs) (sym is)

    pub reads_next : (next : Option Entry) → DoesRead in_memory (found_is next)
        (read found (f x)) none_opened own
        → (r : Result (Option Entry) Error) (new : Opened)
        → DoesRead in_memory r (behind next) (loads_together opened own) new
        → DoesRead in_memory r (runs_read_by read None (map f xs)) none_opened new
    reads_next next here r new d =
        let both = then_goes in_memory (read found (f x)) behind next r opened
        (loads_together opened own) new (counted_on (found_is next)
        (read found (f x)) opened own small here) d in
        on r new (subst (λ (ys : List X). DoesRead in_memory r
        (runs_read_by read found (map f ys)) opened new) (sym split) both)

    pub reads_fault : (e : Error) → DoesRead in_memory (refused_by e)
        (read found (f x)) none_opened own
        → DoesRead in_memory (refused_by e) (runs_read_by read None (map f xs)) none_opened
        (loads_together opened own)
    reads_fault e here =
        let ends = then_fails in_memory (read found (f x)) behind e (refused_by e) opened
        (loads_together opened own) (counted_on (refused_by e)
        (read found (f x)) opened own small here) refl in
        on (refused_by e) (loads_together opened own)
        (subst (λ (ys : List X). DoesRead in_memory (refused_by e)
        (runs_read_by read found (map f ys)) opened (loads_together opened own))
        (sym split) ends)

  pub reads_all : (found : Option Entry) (opened : Opened) → GoesOn found opened → length xs ≤ i
      → DoesRead in_memory (found_is found) (runs_read_by read None (map f xs)) none_opened opened
  reads_all found opened on past =
      on (found_is found) opened
      (subst (λ (ys : List X). DoesRead in_memory (found_is found)
      (runs_read_by read found (map f ys)) opened opened) (sym (drop_all i xs past))
      (does_known in_memory found opened))
