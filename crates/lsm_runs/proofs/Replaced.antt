-- Point reads of runs of which a part is compacted.
use Rattle.std.proofs.Common.{◌≡◌, sym, ◌∙◌, ap, ℕ, ◌+◌, ◌≤◌, inl, inr, Bool, List}
use Rattle.std.proofs.Common.{◌++◌, count_by, arith}
use Rattle.std.specs.Prelude.{map}
use Rattle.std.proofs.lemmas.List.{map-append}
use Rattle.std.proofs.lemmas.List.Concat.{flat_map-append}
use Rattle.std.proofs.lemmas.Simd.{map-map}
use Rattle.sst_entries.specs.Entry.{Entry}
use Rattle.sst_entries.specs.Stream.{ok_results}
use Rattle.sst_entries.specs.Strict.{IsStrict}
use Rattle.sst_blocks.specs.table.Chunks.{joined}
use Rattle.lsm_sorted.specs.merge.Union.{Ascends, all_entries}
use Rattle.lsm_sorted.proofs.Pairs.{Strict, as_pairs, from_pairs}
use Rattle.lsm_sorted.proofs.UnionLemmas.{merged_union}
use Rattle.lsm_sorted.specs.declared.compaction.Rules.{Rules}
use Rattle.lsm_sorted.specs.Point.{seen}
use Rattle.lsm_sorted.specs.ReadLaw.{Distinct, IsMerged, PartLaw}
use Rattle.lsm_sorted.proofs.KeptLemmas.{pairs_stay}
use Rattle.lsm_sorted.proofs.PartLemmas.{kept_distinct, kept_newer, newer_distinct}
use Rattle.lsm_runs.specs.compaction.Compacted.{kept_in}
use Rattle.lsm_runs.specs.compaction.ReadsCompacted.{AreReplaced, SideBySide, joined_in}
use Rattle.lsm_runs.specs.SeveralRuns.{union_in}
use Rattle.lsm_runs.proofs.Unions.{entries_joined}
use Rattle.lsm_runs.proofs.Versions.{OnceIn, at, count_join, distinct_once, once_distinct}
use Rattle.lsm_runs.proofs.Versions.{once_strict, strict_once}

-- ---- the sorted entries are the entries

all_in : (lists : List (List (List Entry)))
    → all_entries (map (λ (run : List (List Entry)). ok_results (joined run)) lists)
    ≡ joined_in lists
all_in lists = ap all_entries (sym (map-map (λ (es : List Entry). ok_results es) joined lists))
    ∙ entries_joined (map joined lists)

pub union_up : (lists : List (List (List Entry))) → Ascends (union_in lists)
union_up lists = (merged_union (map (λ (run : List (List Entry)). ok_results (joined run))
    lists)).ascends

pub union_count : (lists : List (List (List Entry))) (p : Entry → Bool)
    → count_by p (union_in lists) ≡ count_by p (joined_in lists)
union_count lists p = (merged_union (map (λ (run : List (List Entry)). ok_results (joined run))
    lists)).same.count p ∙ ap (count_by p) (all_in lists)

-- ---- a part is compacted

module _ (rules : Rules) (part rest before after : List (List (List Entry)))
    (h : AreReplaced rules part rest before after) where
  pub count_had : (p : Entry → Bool)
      → count_by p (union_in before) ≡ count_by p (union_in part) + count_by p (union_in rest)
  count_had p = omega (
    arith,
    union_count before p,
    h.had.count p,
    count_join p (joined_in part)
        (joined_in rest),
    union_count part p,
    union_count rest p,
  )

  pub count_has : (p : Entry → Bool)
      → count_by p (union_in after) ≡ count_by p (kept_in rules part) + count_by p (union_in rest)
  count_has p = omega (
    arith,
    union_count after p,
    h.has.count p,
    count_join p (kept_in rules part)
        (joined_in rest),
    union_count rest p,
  )

  once_had : OnceIn (union_in part) (union_in rest)
  once_had key number = omega (
    arith,
    count_had (at key number),
    strict_once (union_in before)
        (as_pairs (union_in before) h.strict) key number,
  )

  strict_part : Strict (union_in part)
  strict_part = once_strict (union_in part) (union_up part)
      (λ key number. omega (arith, once_had key number))

  strict_rest : Strict (union_in rest)
  strict_rest = once_strict (union_in rest) (union_up rest)
      (λ key number. omega (arith, once_had key number))

  apart_had : Distinct (union_in part) (union_in rest)
  apart_had = once_distinct (union_in part) (union_in rest) once_had

  merged_had : IsMerged (union_in part) (union_in rest) (union_in before)
  merged_had = record {
    ascends = union_up before;
    same =
        record {
          count = λ p. omega (arith, count_had p, count_join p (union_in part) (union_in rest));
        };
  }

  merged_has : IsMerged (kept_in rules part) (union_in rest) (union_in after)
  merged_has = record {
    ascends = union_up after;
    same =
        record {
          count = λ p. omega (
            arith,
            count_has p,
            count_join p (kept_in rules part)
                (union_in rest),
          );
        };
  }

  pub points : PartLaw → (key : List ℕ) (bound : ℕ) → rules.watermark ≤ bound
      → seen (union_in after) key bound ≡ seen (union_in before) key bound
  points law key bound reads =
      law rules (union_in part) (union_in rest) (union_in before) (union_in after)
      (from_pairs (union_in part) strict_part) (from_pairs (union_in rest) strict_rest) apart_had
      merged_had merged_has h.safe key bound reads

  apart_has : Distinct (kept_in rules part) (union_in rest)
  apart_has = elim h.safe [
    | inl plain ↦ kept_distinct rules plain.1 (union_in part) (union_in rest) apart_had
    | inr newer ↦ newer_distinct (kept_in rules part) (union_in rest)
        (kept_newer rules (union_in part) (union_in rest) newer)
  ]

  pub strict_after : IsStrict (union_in after)
  strict_after =
      let once = distinct_once (kept_in rules part) (union_in rest)
      (pairs_stay rules (union_in part) strict_part) strict_rest apart_has in
      from_pairs (union_in after) (once_strict (union_in after) (union_up after)
      (λ key number. omega (arith, count_has (at key number), once key number)))

-- ---- runs that stand side by side

join : (xs ys : List (List (List Entry))) → joined_in (xs ++ ys) ≡ joined_in xs ++ joined_in ys
join xs ys = ap joined (map-append joined xs ys)
    ∙ flat_map-append (λ (es : List Entry). es) (map joined xs) (map joined ys)

module _ (front part behind : List (List (List Entry))) (p : Entry → Bool) where
  count_three : count_by p (joined_in (front ++ (part ++ behind))) ≡ count_by p (joined_in front) +
      (count_by p (joined_in part) + count_by p (joined_in behind))
  count_three =
      ap (count_by p) (join front (part ++ behind)
      ∙ ap (λ (es : List Entry). joined_in front ++ es) (join part behind))
      ∙ count_join p (joined_in front) (joined_in part ++ joined_in behind)
      ∙ ap (λ (n : ℕ). count_by p (joined_in front) + n)
      (count_join p (joined_in part) (joined_in behind))

  count_two : count_by p (joined_in (front ++ behind)) ≡ count_by p (joined_in front) + count_by p
      (joined_in behind)
  count_two = ap (count_by p) (join front behind)
      ∙ count_join p (joined_in front) (joined_in behind)

pub side_by_side : SideBySide
side_by_side rules front part made behind same strict safe = record {
  strict = strict;
  had = record {
    count = λ p. omega (
      arith,
      count_three front part behind p,
      count_join p
          (joined_in part) (joined_in (front ++ behind)),
      count_two front part behind p,
    );
  };
  has = record {
    count = λ p.
        let is : count_by p (joined_in made) ≡ count_by p (kept_in rules part) =
        ap (count_by p) same in
        omega (
          arith,
          count_three front made behind p,
          count_join p (kept_in rules part)
              (joined_in (front ++ behind)),
          count_two front part behind p,
          is,
        );
  };
  safe = safe;
}
