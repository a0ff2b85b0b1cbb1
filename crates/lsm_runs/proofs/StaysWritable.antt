-- What several runs have can be written again once a part of them is compacted.
use Rattle.std.proofs.Common.{◌≡◌, refl, ◌∙◌, ap, ◌-◌, ◌^◌, ◌<◌, Bool, false, List}
use Rattle.std.proofs.Common.{[], ◌∷◌, count_by, arith}
use Rattle.std.specs.Prelude.{nat_lt, not}
use Rattle.std.specs.List.{AllByRecursion}
use Rattle.std.proofs.lemmas.Bool.{lt-ltb, ltb-true}
use Rattle.sst_entries.specs.Entry.{Entry}
use Rattle.sst_entries.proofs.Lists.{all_more}
use Rattle.sst_entries.proofs.Booleans.{not_not}
use Rattle.lsm_sorted.proofs.HeldLemmas.{count_no, none_counted}
use Rattle.lsm_sorted.specs.declared.compaction.Rules.{Rules}
use Rattle.lsm_writers.specs.Writing.{IsWritable}
use Rattle.lsm_runs.specs.compaction.Compacted.{kept_in}
use Rattle.lsm_runs.specs.compaction.ReadsCompacted.{AreReplaced}
use Rattle.lsm_runs.specs.SeveralRuns.{union_in}
use Rattle.lsm_runs.proofs.Keeping.{kept_numbered}
use Rattle.lsm_runs.proofs.Replaced.{count_had, count_has, strict_after}

-- ---- entries under the largest number

is_last : Entry → Bool
is_last e = not (nat_lt e.seqno (2 ^ 64 - 1))

abbrev AreLow : List Entry → Type 0
AreLow es = AllByRecursion (λ (e : Entry). e.seqno < 2 ^ 64 - 1) es

no_last : (es : List Entry) → AreLow es → count_by is_last es ≡ 0
unfolding is_last
no_last [] low = refl
no_last (e ∷ es) low = count_no is_last e es (ap not (lt-ltb e.seqno (2 ^ 64 - 1) low.0))
    ∙ no_last es low.1

all_low : (es : List Entry) → count_by is_last es ≡ 0 → AreLow es
unfolding is_last
all_low es none =
    all_more (λ e. is_last e ≡ false) (λ e. e.seqno < 2 ^ 64 - 1)
    (λ e h. ltb-true e.seqno (2 ^ 64 - 1) (not_not (nat_lt e.seqno (2 ^ 64 - 1)) h)) es
    (none_counted is_last es none)

-- ---- a part is compacted

pub writable_after : (rules : Rules) (part rest before after : List (List (List Entry)))
    → AreReplaced rules part rest before after → IsWritable (union_in before)
    → IsWritable (union_in after)
writable_after rules part rest before after h w =
    let had = no_last (union_in before) w.numbered in
    let each = count_had rules part rest before after h is_last in
    let kept = no_last (kept_in rules part) (kept_numbered rules (union_in part)
    (all_low (union_in part) (omega (arith, had, each)))) in
    let has = count_has rules part rest before after h is_last in
    record {
      strict = strict_after rules part rest before after h;
      numbered = all_low (union_in after) (omega (arith, had, each, kept, has));
    }
