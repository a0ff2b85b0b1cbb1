-- A range of a table: its bounds, and a step, after which it lends its entry. Assumes `Logic`.
use Rattle.std.proofs.Common.{◌≡◌, ℕ, Bool, List, refl, subst}
use Rattle.std.specs.Prelude.{IfOk, IsSomeAnd, Option, Some, None, Result, Ok, Err}
use Rattle.std.specs.Global.{Global}
use Rattle.std.specs.declared.ops.Bound.{Bound}
use Rattle.sst_entries.specs.Entry.{Entry}
use Rattle.sst_entries.specs.Error.{number_of}
use Rattle.sst_entries.specs.Lending.{came}
use Rattle.sst_entries.specs.declared.error.Error.{Error}
use Rattle.sst_entries.specs.declared.stream.Direction.TheVariants.{Back}
use Rattle.lsm_iters.specs.Range.{Range, RangeGives, back_next, front_next}
use Rattle.lsm_iters.specs.Words.{RangeLends, RangeLendsAt, back_of, front_of}
use Rattle.lsm_readers.specs.Ranges.{IsRangeOf, YieldsWithin}
use Rattle.lsm_readers.specs.Words.{OpenTable, StoresList}
use Rattle.sst_c.proofs.Scanning.{lent_comes}
use Rattle.sst_c.specs.Steps.{StepsBy}
use Rattle.sst_c.specs.What.{IsRangeWhere, RangesHeld, RangesTable, YieldsTable, decode_bound}
use Rattle.sst_c.specs.declared.held.Held.{Held}
use Rattle.sst_c.specs.declared.held.What.{What}
use Rattle.sst_c.specs.declared.held.What.TheVariants.{Table}
use Rattle.sst_c.proofs.Verifying.{same_table}

module _ (t : OpenTable) where
  one_range : (low high : Bound (List ℕ)) (r : Result (Range Global) Error)
      → IfOk r (IsRangeOf t low high)
      → ((es : List Entry) → StoresList t.bytes es → IfOk r
      (YieldsWithin (RangeGives front_of front_next) (RangeGives back_of back_next) low high es t.global_seqno))
      → IfOk r (RangesTable low high t)
  unfolding YieldsTable
  one_range low high (Ok s) is list = record { range = is; list = list }
  one_range low high (Err e) is list = tt

  -- a range within equal bounds
  pub all_ranges : (from to low high : Bound (List ℕ)) (r : Result (Range Global) Error)
      → from ≡ low → to ≡ high → IfOk r (IsRangeOf t from to)
      → ((es : List Entry) → StoresList t.bytes es → IfOk r
      (YieldsWithin (RangeGives front_of front_next) (RangeGives back_of back_next) from to es t.global_seqno))
      → IfOk r (RangesTable low high t)
  all_ranges from to low high r lower upper is list =
      subst (λ (a : Bound (List ℕ)). IfOk r (RangesTable a high t)) lower
      (subst (λ (b : Bound (List ℕ)). IfOk r (RangesTable from b t)) upper (one_range from to r is list))

-- a range of the table that a handle holds
pub range_held : (lower_kind : ℕ) (lower : List ℕ) (upper_kind : ℕ) (upper : List ℕ) (o : Option Held)
    (w : What) (u : OpenTable) → w ≡ Table u → IsSomeAnd o (λ r. IsRangeWhere
    (RangesTable (decode_bound lower_kind lower) (decode_bound upper_kind upper) u) r.what)
    → IsSomeAnd o (λ r. RangesHeld lower_kind lower upper_kind upper w r.what)
range_held lower_kind lower upper_kind upper (Some r) w u is ranges = record {
  range = λ t same. subst (λ (x : OpenTable). IsRangeWhere
      (RangesTable (decode_bound lower_kind lower) (decode_bound upper_kind upper) x) r.what)
      (same_table w u t is same) ranges;
}
range_held lower_kind lower upper_kind upper None w u is ranges = absurd ranges

-- what is lent after a step is what the step found
pub range_lent : (s t : Range Global) (more : Bool) (lent : Option Entry)
    → RangeLends s (came (Ok more) lent) t → StepsBy (RangeGives front_of front_next) s 0 lent t
range_lent s t more lent step =
    let comes = lent_comes lent more in
    (came (Ok more) lent, step.gives, comes.0, comes.1)

pub range_refused : (s t : Range Global) (e : Error) (lent : Option Entry)
    → RangeLends s (came (Err e) lent) t → lent ≡ None
    → StepsBy (RangeGives front_of front_next) s (number_of e) lent t
range_refused s t e lent step none = (Some (Err e), step.gives, refl, none)

pub ruleset range_steps = (range_lent, range_refused)

-- from the back
pub back_lent : (s t : Range Global) (more : Bool) (lent : Option Entry)
    → RangeLendsAt Back s (came (Ok more) lent) t
    → StepsBy (RangeGives back_of back_next) s 0 lent t
back_lent s t more lent step =
    let comes = lent_comes lent more in
    (came (Ok more) lent, step.gives, comes.0, comes.1)

pub back_refused : (s t : Range Global) (e : Error) (lent : Option Entry)
    → RangeLendsAt Back s (came (Err e) lent) t → lent ≡ None
    → StepsBy (RangeGives back_of back_next) s (number_of e) lent t
back_refused s t e lent step none = (Some (Err e), step.gives, refl, none)

pub ruleset range_steps_back = (back_lent, back_refused)
