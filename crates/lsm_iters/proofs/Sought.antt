-- What the seek of an edge leaves of an iterator that keeps its edges.
use Rattle.std.proofs.Common.{◌≡◌, ℕ, zero, suc, ◌-◌, ◌≤◌, List, [], ◌∷◌, ◌++◌, length, min, take}
use Rattle.std.proofs.Common.{drop, refl, sym, ap, ◌∙◌, arith}
use Rattle.std.specs.Prelude.{Option, Some, None}
use Rattle.sst_entries.specs.Span.{Span, rest_in}
use Rattle.sst_entries.specs.Stream.{ok_results}
use Rattle.sst_blocks.specs.Handle.{Handle}
use Rattle.sst_blocks.specs.Handles.{window}
use Rattle.sst_blocks.specs.Seeking.{span_to}
use Rattle.lsm_iters.specs.block_index.Index.{parts_between}
use Rattle.lsm_iters.specs.block_index.Left.{IsDemandSought, IsEnded, IsTwoLevelSought, OnDemand}
use Rattle.lsm_iters.specs.block_index.Left.{TwoLevel, demanded, demands, on_demand_left}
use Rattle.lsm_iters.specs.block_index.Left.{two_level_left}

-- ---- on demand

module _ (s : OnDemand) (edges : Option (List ℕ × ℕ) × Option (List ℕ)) where
  pub demand_lower : (edge : List ℕ × ℕ) (hi : Option (List ℕ)) → edges ≡ (Some edge, s.upper)
      → IsDemandSought s None hi → IsDemandSought (record s { lower = edges.0; upper = edges.1 })
      (Some edge) hi
  demand_lower edge hi is was = record {
    part = was.part;
    lower = ap (λ x. x.0) is;
    upper =
        ap (λ x. x.1) is ∙ was.upper;
  }

  pub demand_upper : (key : List ℕ) (lo : Option (List ℕ × ℕ)) → edges ≡ (s.lower, Some key)
      → IsDemandSought s lo None → IsDemandSought (record s { lower = edges.0; upper = edges.1 }) lo
      (Some key)
  demand_upper key lo is was = record {
    part = was.part;
    lower = ap (λ x. x.0) is
        ∙ was.lower;
    upper = ap (λ x. x.1) is;
  }

  still_over : (part : Option (List Handle)) → demanded s part ≡ [] → demands part ≡ 0
      → demanded (record s { lower = edges.0; upper = edges.1 }) part ≡ []
  still_over None over none = absurd (omega arith)
  still_over (Some hs) over none = over

  pub demand_over : IsEnded (on_demand_left s) → IsEnded
      (on_demand_left (record s { lower = edges.0; upper = edges.1 }))
  demand_over over = record {
    results = still_over s.part over.results over.loads;
    loads =
        over.loads;
  }

-- ---- of two levels

no_tops : (hs : List Handle) → length hs ≡ 0 → hs ≡ []
no_tops [] none = refl
no_tops (h ∷ hs) none = absurd (omega arith)

take_fewer : (m n : ℕ) (hs : List Handle) → m ≤ n → take n hs ≡ [] → take m hs ≡ []
take_fewer zero n hs le none = refl
take_fewer (suc m) n [] le none = refl
take_fewer (suc m) zero (h ∷ hs) le none = absurd (omega arith)
take_fewer (suc m) (suc n) (h ∷ hs) le none = absurd cc

-- where nothing is left, a nearer end leaves nothing
pub none_nearer : (n : ℕ) (s t : Span Handle) → t ≡ span_to n s → rest_in s ≡ [] → rest_in t ≡ []
none_nearer n s t is none =
    ap (λ (x : Span Handle). rest_in x) is
    ∙ take_fewer (min s.to n - s.from) (s.to - s.from) (drop s.from s.list) (omega arith) none

module _ (s : TwoLevel) (tops : Span Handle) (edges : Option (List ℕ × ℕ) × Option (List ℕ)) where
  pub levels_lower : (edge : List ℕ × ℕ) (hi : Option (List ℕ)) → edges ≡ (Some edge, s.upper)
      → tops.list ≡ s.whole → rest_in tops ≡ window s.whole (Some edge) hi
      → IsTwoLevelSought s None hi → IsTwoLevelSought
      (record s { whole = tops.list; tops = rest_in tops; lower = edges.0; upper = edges.1 })
      (Some edge) hi
  levels_lower edge hi is same rest was = record {
    tops = rest ∙ ap (λ (hs : List Handle). window hs (Some edge) hi) (sym same);
    lower = ap (λ x. x.0) is;
    upper = ap (λ x. x.1) is ∙ was.upper;
    front = was.front;
    back = was.back;
  }

  pub levels_upper : (key : List ℕ) (lo : Option (List ℕ × ℕ)) → edges ≡ (s.lower, Some key)
      → tops.list ≡ s.whole → rest_in tops ≡ window s.whole lo (Some key)
      → IsTwoLevelSought s lo None → IsTwoLevelSought
      (record s { whole = tops.list; tops = rest_in tops; lower = edges.0; upper = edges.1 }) lo
      (Some key)
  levels_upper key lo is same rest was = record {
    tops = rest ∙ ap (λ (hs : List Handle). window hs lo (Some key)) (sym same);
    lower = ap (λ x. x.0) is ∙ was.lower;
    upper = ap (λ x. x.1) is;
    front = was.front;
    back = was.back;
  }

  pub levels_over : (s.tops ≡ [] → rest_in tops ≡ []) → IsEnded (two_level_left s)
      → IsEnded (two_level_left (record s {
        whole = tops.list;
        tops = rest_in tops;
        lower =
            edges.0;
        upper = edges.1;
      }))
  levels_over stays over =
      let before : s.tops ≡ [] = no_tops s.tops over.loads in
      let now : rest_in tops ≡ [] = stays before in
      record {
        results = ap (λ (hs : List Handle). ok_results s.front
            ++ (parts_between s.body edges.0 edges.1 hs ++ ok_results s.back)) now
            ∙ sym (ap (λ (hs : List Handle). ok_results s.front
            ++ (parts_between s.body s.lower s.upper hs ++ ok_results s.back)) before)
            ∙ over.results;
        loads = ap length now;
      }
