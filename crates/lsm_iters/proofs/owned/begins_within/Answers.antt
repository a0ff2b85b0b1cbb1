use Rattle.std.proofs.Common.{◌≡◌, true, not, is_lt, ap, sym, ◌∙◌, List, ℕ}
use Rattle.std.specs.declared.ops.Bound.TheVariants.{Included, Excluded}
use Rattle.sst_entries.specs.Key.{key_lt}
use Rattle.lsm_iters.proofs.Reach.{none_before}
use Rattle.lsm_iters.proofs.owned.begins_within.Goals as goal

pub returns-in-Included-clause-place : goal.returns-in-Included-clause-place
returns-in-Included-clause-place g c within =
    let key = c.key_at.result.0.now in
    let from : not (key_lt key c.in-Included.low) ≡ true =
    ap (λ (low : List ℕ). not (key_lt key low)) (sym c.as_slice.ensures) ∙ ap not (sym (c.is_lt.ensures ∙ ap is_lt c.cmp.ensures)) ∙ within in
    rw c.in-Included.is (none_before (Included c.in-Included.low) c.args.block.now key c.key_at.result.1 c.key_at.ensures from)

pub returns-in-Excluded-clause-place : goal.returns-in-Excluded-clause-place
returns-in-Excluded-clause-place g c within =
    let key = c.key_at.result.0.now in
    let from : key_lt c.in-Excluded.low key ≡ true =
    ap (λ (low : List ℕ). key_lt low key) (sym c.as_slice-in-Excluded.ensures) ∙ sym (c.is_lt-in-Excluded.ensures ∙ ap is_lt c.cmp-in-Excluded.ensures) ∙ within in
    rw c.in-Excluded.is (none_before (Excluded c.in-Excluded.low) c.args.block.now key c.key_at.result.1 c.key_at.ensures from)
