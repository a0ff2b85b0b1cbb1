-- Whatever ends are asked, the blocks that are counted stay within a bound.
use Rattle.std.proofs.Common.{ℕ, ◌+◌, List, [], ◌∷◌, ap, subst, ◌∙◌, arith}
use Rattle.std.specs.Prelude.{Option}
use Rattle.sst_entries.specs.declared.stream.Direction.{Direction}
use Rattle.sst_entries.specs.declared.stream.Direction.TheVariants.{Front, Back}
use Rattle.sst_entries.specs.Stream.{front_of, back_of, Runs}
use Rattle.sst_blocks.specs.Opened.{none_opened}
use Rattle.lsm_iters.specs.block_index.Left.{CountsLoads, CountsUpTo, Left, LeftGives}
use Rattle.lsm_iters.specs.block_index.Left.{with_index_loads}
use Rattle.lsm_iters.proofs.IndexAtEnds.{R}
use Rattle.lsm_iters.proofs.TwoLevels.{loaded_more}

one_more : (most : ℕ) (s t : Left) → CountsUpTo most s → CountsLoads s t → CountsUpTo most t
one_more most s t so_far step = record {
  count = step.count + so_far.count;
  counts = step.counts ∙ ap (with_index_loads step.count) so_far.counts
      ∙ loaded_more step.count so_far.count none_opened;
  within = omega (arith, so_far.within, step.within);
}

module _ {S : Type 0} (view : S → Left) (front back : S → Option R → S → Type 0)
    (to_front : (s : S) (r : Option R) (t : S) → front s r t
    → LeftGives front_of (view s) r (view t))
    (to_back : (s : S) (r : Option R) (t : S) → back s r t → LeftGives back_of (view s) r (view t))
    (most : ℕ) where
  pub counts_along : (ends : List Direction) (rs : List (Option R)) (s t : S)
      → CountsUpTo most (view s) → Runs front back s ends rs t → CountsUpTo most (view t)
  counts_along [] [] s t so_far runs = subst (λ (u : S). CountsUpTo most (view u)) runs so_far
  counts_along [] (r ∷ rs) s t so_far runs = absurd runs
  counts_along (e ∷ ends) [] s t so_far runs = absurd runs
  counts_along (Front ∷ ends) (r ∷ rs) s t so_far runs =
      counts_along ends rs runs.0 t (one_more most (view s) (view runs.0) so_far
      (to_front s r runs.0 runs.1).loads) runs.2
  counts_along (Back ∷ ends) (r ∷ rs) s t so_far runs =
      counts_along ends rs runs.0 t (one_more most (view s) (view runs.0) so_far
      (to_back s r runs.0 runs.1).loads) runs.2
