use Rattle.std.proofs.Common.{◌≡◌, true, not, is_lt, ap, sym, ◌∙◌, List, ℕ, ◌-◌, suc, length, arith}
use Rattle.std.specs.declared.ops.Bound.TheVariants.{Included, Excluded}
use Rattle.sst_entries.specs.Key.{key_lt}
use Rattle.lsm_iters.proofs.Reach.{none_past}
use Rattle.lsm_iters.proofs.owned.ends_within.Goals as goal

pub returns-in-Included-clause-place : goal.returns-in-Included-clause-place
returns-in-Included-clause-place g c within =
    let key = c.key_at.result.0.now in
    let last : length c.args.block.now ≡ suc (c.len-len.result - 1) = omega (arith, c.len-len.ensures.value, c.if-len-eq0.false) in
    let to : not (key_lt c.in-Included.high key) ≡ true =
    ap (λ (high : List ℕ). not (key_lt high key)) (sym c.as_slice.ensures) ∙ ap not (sym (c.is_lt.ensures ∙ ap is_lt c.cmp.ensures)) ∙ within in
    rw c.in-Included.is (none_past (Included c.in-Included.high) c.args.block.now (c.len-len.result - 1) key c.key_at.result.1 c.len-len.ensures.strict last c.key_at.ensures to)

pub returns-in-Excluded-clause-place : goal.returns-in-Excluded-clause-place
returns-in-Excluded-clause-place g c within =
    let key = c.key_at.result.0.now in
    let last : length c.args.block.now ≡ suc (c.len-len.result - 1) = omega (arith, c.len-len.ensures.value, c.if-len-eq0.false) in
    let to : key_lt key c.in-Excluded.high ≡ true =
    ap (λ (high : List ℕ). key_lt key high) (sym c.as_slice-in-Excluded.ensures) ∙ sym (c.is_lt-in-Excluded.ensures ∙ ap is_lt c.cmp-in-Excluded.ensures) ∙ within in
    rw c.in-Excluded.is (none_past (Excluded c.in-Excluded.high) c.args.block.now (c.len-len.result - 1) key c.key_at.result.1 c.len-len.ensures.strict last c.key_at.ensures to)
