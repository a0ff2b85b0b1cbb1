-- What every index iterator keeps, for each of the three kinds.
use Rattle.std.proofs.Common.{ℕ, List, ◌++◌, length, refl, ap, ◌∙◌, arith}
use Rattle.std.proofs.lemmas.List.{append-nil}
use Rattle.std.specs.Prelude.{Option, Some, None, Ok, Err}
use Rattle.sst_entries.specs.Stream.{front_of, back_of, ok_results}
use Rattle.sst_entries.specs.Span.{Span, SpanGives, SpanAnswer, rest_in}
use Rattle.sst_blocks.specs.Handle.{Handle}
use Rattle.sst_blocks.specs.Handles.{window}
use Rattle.lsm_iters.specs.block_index.Yielded.{YieldsEnding}
use Rattle.lsm_iters.specs.block_index.Index.{full, block_between, parts_between}
use Rattle.lsm_iters.specs.block_index.Left.{LeftGives, IsBetween, IsEnded, IsSpanSought}
use Rattle.lsm_iters.specs.block_index.Left.{StaysEnded}
use Rattle.lsm_iters.specs.block_index.Left.{IsDemandSought, IsTwoLevelSought, TwoLevelGives}
use Rattle.lsm_iters.specs.block_index.Left.{back_early, back_needs, front_early, front_needs}
use Rattle.lsm_iters.specs.block_index.Left.{OnDemand}
use Rattle.lsm_iters.specs.block_index.Left.{OnDemandGives, TwoLevel, demanded, demands}
use Rattle.lsm_iters.specs.block_index.Left.{on_demand_left}
use Rattle.lsm_iters.specs.block_index.Left.{span_left, two_level_left}
use Rattle.lsm_iters.specs.block_index.Seen.{PartGives}
use Rattle.lsm_iters.proofs.IndexAtEnds.{R, End, Carries, at_part, part_ends, carries_front}
use Rattle.lsm_iters.proofs.IndexAtEnds.{carries_back}
use Rattle.lsm_iters.proofs.Dealing.{yields_left, stays_ended}

-- ---- one of a block that stays loaded

span_part : (end : List Handle → Option Handle × List Handle) (s : Span Handle) (r : Option R)
    (t : Span Handle) → SpanAnswer end s r t → PartGives end (rest_in s) r (rest_in t)
span_part end s None t a = a
span_part end s (Some (Ok h)) t a = a
span_part end s (Some (Err e)) t a = a

span_gives : (of : End) (end : List Handle → Option Handle × List Handle) → Carries end of
    → (s : Span Handle) (r : Option R) (t : Span Handle) → SpanGives end s r t
    → LeftGives of (span_left s) r (span_left t)
span_gives of end carries s r t step =
    let part = span_part end s r t step.answer in
    record {
      answer = at_part of end carries (span_left s) (span_left t) (rest_in s)
          (rest_in t) r refl refl refl part;
      ends = part_ends end (span_left t) (rest_in s) (rest_in t) r refl refl part;
      index = ap full step.list;
      loads = record { count = 0; counts = refl; within = omega arith };
    }

pub span_front : (s : Span Handle) (r : Option R) (t : Span Handle) → SpanGives front_of s r t
    → LeftGives front_of (span_left s) r (span_left t)
span_front s r t step = span_gives front_of front_of carries_front s r t step

pub span_back : (s : Span Handle) (r : Option R) (t : Span Handle) → SpanGives back_of s r t
    → LeftGives back_of (span_left s) r (span_left t)
span_back s r t step = span_gives back_of back_of carries_back s r t step

pub span_yields : (s : Span Handle) → YieldsEnding (SpanGives front_of) (SpanGives back_of)
    (λ _. Unit {0}) (λ _. Unit {0}) s (span_left s).results
span_yields s = yields_left span_left (SpanGives front_of) (SpanGives back_of) span_front span_back s

pub span_between : (s : Span Handle) (lo : Option (List ℕ × ℕ)) (hi : Option (List ℕ))
    → IsSpanSought s lo hi → IsBetween (span_left s) lo hi
span_between s lo hi sought = record { results = ap ok_results sought; loads = refl }

-- ---- one on demand

pub demand_front : (s : OnDemand) (r : Option R) (t : OnDemand) → OnDemandGives front_of s r t
    → LeftGives front_of (on_demand_left s) r (on_demand_left t)
demand_front s r t step = step.gives

pub demand_back : (s : OnDemand) (r : Option R) (t : OnDemand) → OnDemandGives back_of s r t
    → LeftGives back_of (on_demand_left s) r (on_demand_left t)
demand_back s r t step = step.gives

pub demand_yields : (s : OnDemand) → YieldsEnding (OnDemandGives front_of) (OnDemandGives back_of)
    (λ _. Unit {0}) (λ _. Unit {0}) s (on_demand_left s).results
demand_yields s = yields_left on_demand_left (OnDemandGives front_of)
    (OnDemandGives back_of) demand_front demand_back s

pub demand_stays : (s : OnDemand) → IsEnded (on_demand_left s)
    → StaysEnded (OnDemandGives front_of) (OnDemandGives back_of) on_demand_left s
demand_stays s ended = stays_ended on_demand_left (OnDemandGives front_of)
    (OnDemandGives back_of) demand_front demand_back s ended

pub demand_between : (s : OnDemand) (lo : Option (List ℕ × ℕ)) (hi : Option (List ℕ))
    → IsDemandSought s lo hi → IsBetween (on_demand_left s) lo hi
demand_between s lo hi sought = record {
  results = ap (demanded s) sought.part
      ∙ ap (λ (low : Option (List ℕ × ℕ)). block_between s.body low s.upper s.place) sought.lower
      ∙ ap (λ (high : Option (List ℕ)). block_between s.body lo high s.place) sought.upper;
  loads = ap demands sought.part;
}

-- ---- one of two levels

pub levels_front : (s : TwoLevel) (r : Option R) (t : TwoLevel)
    → TwoLevelGives front_of front_needs front_early s r t
    → LeftGives front_of (two_level_left s) r (two_level_left t)
levels_front s r t step = step.gives

pub levels_back : (s : TwoLevel) (r : Option R) (t : TwoLevel)
    → TwoLevelGives back_of back_needs back_early s r t
    → LeftGives back_of (two_level_left s) r (two_level_left t)
levels_back s r t step = step.gives

pub levels_yields : (s : TwoLevel) → YieldsEnding (TwoLevelGives front_of front_needs front_early)
    (TwoLevelGives back_of back_needs back_early) (λ _. Unit {0}) (λ _. Unit {0}) s
    (two_level_left s).results
levels_yields s = yields_left two_level_left (TwoLevelGives front_of front_needs front_early)
    (TwoLevelGives back_of back_needs back_early) levels_front levels_back s

pub levels_stays : (s : TwoLevel) → IsEnded (two_level_left s)
    → StaysEnded (TwoLevelGives front_of front_needs front_early)
    (TwoLevelGives back_of back_needs back_early) two_level_left s
levels_stays s ended = stays_ended two_level_left (TwoLevelGives front_of front_needs front_early)
    (TwoLevelGives back_of back_needs back_early) levels_front levels_back s ended

pub levels_between : (s : TwoLevel) (lo : Option (List ℕ × ℕ)) (hi : Option (List ℕ))
    → IsTwoLevelSought s lo hi → IsBetween (two_level_left s) lo hi
levels_between s lo hi sought = record {
  results = ap (λ (hs : List Handle). ok_results hs
      ++ (parts_between s.body s.lower s.upper s.tops ++ ok_results s.back)) sought.front
      ∙ ap (λ (hs : List Handle). parts_between s.body s.lower s.upper s.tops ++ ok_results hs)
      sought.back
      ∙ append-nil (parts_between s.body s.lower s.upper s.tops)
      ∙ ap (parts_between s.body s.lower s.upper) sought.tops
      ∙ ap (λ (low : Option (List ℕ × ℕ)). parts_between s.body low s.upper (window s.whole lo hi))
      sought.lower
      ∙ ap (λ (high : Option (List ℕ)). parts_between s.body lo high (window s.whole lo hi))
      sought.upper;
  loads = ap length sought.tops;
}
