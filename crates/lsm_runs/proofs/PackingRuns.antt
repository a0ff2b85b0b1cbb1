-- The runs that have a table, and into how few runs their tables can go.
use Rattle.std.proofs.Common.{◌≡◌, refl, sym, ◌∙◌, ap, ℕ, zero, suc, ◌+◌, ◌<◌, Bool, true, false}
use Rattle.std.proofs.Common.{List, [], ◌∷◌, ◌++◌, filter, get_or, length, take, arith}
use Rattle.std.specs.Prelude.{◌≢◌, ◌&&◌, Some, map, not, ◌||◌}
use Rattle.std.specs.List.{AllByRecursion, list_all, list_any}
use Rattle.std.proofs.lemmas.Bool.{and_from}
use Rattle.std.proofs.lemmas.List.{append-nil, map-append, take_more}
use Rattle.std.proofs.lemmas.List.Elements.{filter-append}
use Rattle.sst_entries.proofs.Lists.{all_append}
use Rattle.sst_entries.proofs.Booleans.{and_parts}
use Rattle.sst_entries.specs.Key.{key_lt}
use Rattle.lsm_sorted.specs.version.KeyRange.{Interval, are_disjoint, key_le, overlaps}
use Rattle.lsm_sorted.specs.version.Packing.{AreDisjointRuns, AreInOrder, AreTablesWellFormed}
use Rattle.lsm_sorted.specs.version.Packing.{AreWellFormed, IsLeastSize, IsPlacement, table_at}
use Rattle.lsm_sorted.specs.version.Packing.{tables_in}
use Rattle.lsm_sorted.specs.version.Run.{are_in_order}
use Rattle.lsm_sorted.proofs.RunLemmas.{parts}
use Rattle.lsm_readers.specs.point.Table.{OpenTable}
use Rattle.lsm_runs.specs.compaction.Packed.{has_table}
use Rattle.lsm_run_parts.specs.RunParts.{range_of, ranges_of}

abbrev pub kept : List (List OpenTable) → List (List OpenTable)
kept runs = filter has_table runs

-- ---- a loop over runs, of which those up to a place were shared where they have a table

module _ {X : Type 0} (f : X → List OpenTable) (xs : List X) (i : ℕ) (x : X) (less : i < length xs)
    (is : x ≡ get_or xs i x) (shared : List (List OpenTable))
    (so_far : shared ≡ kept (map f (take i xs))) where
  next : kept (map f (take (i + 1) xs)) ≡ shared ++ kept (f x ∷ [])
  next =
      ap (λ (ys : List X). kept (map f ys)) (take_more xs i x less)
      ∙ ap kept (map-append f (take i xs) (get_or xs i x ∷ []))
      ∙ filter-append has_table (map f (take i xs)) (f (get_or xs i x) ∷ [])
      ∙ ap (λ (rs : List (List OpenTable)). rs ++ kept (f (get_or xs i x) ∷ [])) (sym so_far)
      ∙ ap (λ (y : X). shared ++ kept (f y ∷ [])) (sym is)

  some_kept : (run : List OpenTable) → run ≢ [] → kept (run ∷ []) ≡ run ∷ []
  some_kept [] some = absurd (some refl)
  some_kept (t ∷ ts) some = refl

  pub share_more : (run : List OpenTable) → run ≡ f x → run ≢ []
      → shared ++ run ∷ [] ≡ kept (map f (take (i + 1) xs))
  share_more run same some = ap (λ (rs : List (List OpenTable)). shared ++ rs)
      (sym (some_kept run some) ∙ ap (λ (r : List OpenTable). kept (r ∷ [])) same) ∙ sym next

  pub share_none : (run : List OpenTable) → run ≡ f x → run ≡ []
      → shared ≡ kept (map f (take (i + 1) xs))
  share_none run same none = sym (next ∙ ap (λ (r : List OpenTable). shared ++ kept (r ∷ []))
      (sym same ∙ none) ∙ append-nil shared)

-- ---- they have the same tables

pub kept_tables : (runs : List (List OpenTable)) → tables_in (kept runs) ≡ tables_in runs
kept_tables [] = refl
kept_tables ([] ∷ runs) = kept_tables runs
kept_tables ((t ∷ ts) ∷ runs) = ap (λ (us : List OpenTable). (t ∷ ts) ++ us) (kept_tables runs)

pub kept_order : (runs : List (List OpenTable)) → AreInOrder range_of runs
    → AreInOrder range_of (kept runs)
kept_order [] order = tt
kept_order ([] ∷ runs) order = kept_order runs order.1
kept_order ((t ∷ ts) ∷ runs) order = (order.0, kept_order runs order.1)

pub kept_some : (runs : List (List OpenTable))
    → AllByRecursion (λ (run : List OpenTable). run ≢ []) (kept runs)
kept_some [] = tt
kept_some ([] ∷ runs) = kept_some runs
kept_some ((t ∷ ts) ∷ runs) = ((λ e. absurd cc), kept_some runs)

-- ---- tables in order

tables_formed : (ts : List OpenTable) → are_in_order (ranges_of ts) ≡ true
    → AreTablesWellFormed range_of ts
tables_formed [] order = tt
tables_formed (t ∷ ts) order = let p = parts (range_of t) (ranges_of ts) order in
    (p.formed, tables_formed ts p.rest)

pub formed : (runs : List (List OpenTable)) → AreInOrder range_of runs → AreWellFormed range_of runs
formed [] order = tt
formed (run ∷ runs) order = all_append _ run (tables_in runs) (tables_formed run order.0)
    (formed runs order.1)

apart_one : (a b : Interval) → key_lt a.max b.min ≡ true → overlaps a b ≡ false
apart_one a b less = ap (λ (c : Bool). not c && key_le a.min b.max) less

apart_from : (r : Interval) (rs : List Interval)
    → list_all (λ (later : Interval). key_lt r.max later.min) rs ≡ true
    → list_any (overlaps r) rs ≡ false
apart_from r [] before = refl
apart_from r (s ∷ rs) before =
    let p = and_parts (key_lt r.max s.min) (list_all
    (λ (later : Interval). key_lt r.max later.min) rs) before in
    ap (λ (b : Bool). b || list_any (overlaps r) rs) (apart_one r s p.0) ∙ apart_from r rs p.1

apart : (rs : List Interval) → are_in_order rs ≡ true → are_disjoint rs ≡ true
apart [] order = refl
apart (r ∷ rs) order = let p = parts r rs order in
    and_from (not (list_any (overlaps r) rs)) (are_disjoint rs) (ap not (apart_from r rs p.before))
    (apart rs p.rest)

all_apart : (runs : List (List OpenTable)) → AreInOrder range_of runs
    → AllByRecursion (λ (run : List OpenTable). are_disjoint (ranges_of run) ≡ true) runs
all_apart [] order = tt
all_apart (run ∷ runs) order = (apart (ranges_of run) order.0, all_apart runs order.1)

pub kept_disjoint : (runs : List (List OpenTable)) → AreInOrder range_of runs
    → AreDisjointRuns range_of (kept runs)
kept_disjoint runs order =
    let own = kept_order runs order in
    record {
      some = kept_some runs;
      apart = all_apart (kept runs) own;
      formed =
          formed (kept runs) own;
    }

-- ---- a run with no table needs no number

-- the place of a kept run, and how many kept runs there are before a place
abbrev up : List (List OpenTable) → ℕ → ℕ
up [] i = i
up ([] ∷ runs) i = suc (up runs i)
up ((t ∷ ts) ∷ runs) zero = zero
up ((t ∷ ts) ∷ runs) (suc i) = suc (up runs i)

abbrev down : List (List OpenTable) → ℕ → ℕ
down [] i = zero
down (run ∷ runs) zero = zero
down ([] ∷ runs) (suc i) = down runs i
down ((t ∷ ts) ∷ runs) (suc i) = suc (down runs i)

up_at : (runs : List (List OpenTable)) (i j : ℕ) (t : OpenTable) → table_at (kept runs) i j ≡ Some t
    → table_at runs (up runs i) j ≡ Some t
up_at [] i j t at = at
up_at ([] ∷ runs) i j t at = up_at runs i j t at
up_at ((u ∷ us) ∷ runs) zero j t at = at
up_at ((u ∷ us) ∷ runs) (suc i) j t at = up_at runs i j t at

up_rises : (runs : List (List OpenTable)) (i k : ℕ) → i < k → up runs i < up runs k
up_rises [] i k less = less
up_rises ([] ∷ runs) i k less = let more = up_rises runs i k less in omega (arith, more)
up_rises ((u ∷ us) ∷ runs) i zero less = absurd (omega (arith, less))
up_rises ((u ∷ us) ∷ runs) zero (suc k) less = omega arith
up_rises ((u ∷ us) ∷ runs) (suc i) (suc k) less = let more =
    up_rises runs i k (omega (arith, less)) in omega (arith, more)

down_at : (runs : List (List OpenTable)) (i j : ℕ) (t : OpenTable) → table_at runs i j ≡ Some t
    → table_at (kept runs) (down runs i) j ≡ Some t
down_at [] i j t at = at
down_at ([] ∷ runs) zero j t at = absurd cc
down_at ((u ∷ us) ∷ runs) zero j t at = at
down_at ([] ∷ runs) (suc i) j t at = down_at runs i j t at
down_at ((u ∷ us) ∷ runs) (suc i) j t at = down_at runs i j t at

down_rises : (runs : List (List OpenTable)) (i k j : ℕ) (t : OpenTable) → table_at runs i j ≡ Some t
    → i < k → down runs i < down runs k
down_rises [] i k j t at less = absurd cc
down_rises (run ∷ runs) i zero j t at less = absurd (omega (arith, less))
down_rises ([] ∷ runs) zero (suc k) j t at less = absurd cc
down_rises ((u ∷ us) ∷ runs) zero (suc k) j t at less = omega arith
down_rises ([] ∷ runs) (suc i) (suc k) j t at less =
    down_rises runs i k j t at (omega (arith, less))
down_rises ((u ∷ us) ∷ runs) (suc i) (suc k) j t at less = let more =
    down_rises runs i k j t at (omega (arith, less)) in omega (arith, more)

pub least_kept : (runs : List (List OpenTable)) (n : ℕ) → IsLeastSize range_of (kept runs) n
    → IsLeastSize range_of runs n
least_kept runs n least =
    let number = least.reached.0 in
    let placed : IsPlacement range_of (kept runs) number = least.reached.1 in record {
      at_least = λ number ns placement holds.
          least.at_least (λ i j. number (up runs i) j) ns
          (record {
            keeps = λ i j k l t u less a b o.
                placement.keeps (up runs i) j (up runs k) l t u (up_rises runs i k less)
                (up_at runs i j t a) (up_at runs k l u b) o;
          })
          (λ i j t a. holds (up runs i) j t (up_at runs i j t a));
      reached = (
        (λ i j. number (down runs i) j),
        record {
          keeps = λ i j k l t u less a b o.
              placed.keeps (down runs i) j (down runs k) l t u (down_rises runs i k j t a less)
              (down_at runs i j t a) (down_at runs k l u b) o;
        },
        (λ i j t a. least.reached.2 (down runs i) j t (down_at runs i j t a)),
      );
    }
