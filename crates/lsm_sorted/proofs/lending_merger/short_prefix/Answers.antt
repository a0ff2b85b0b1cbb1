-- A key below sixteen bytes, with zeros behind it.
use Rattle.std.proofs.Common.{List, ℕ, ap, ◌∙◌, ◌++◌, drop, length, replicate, arith}
use Rattle.std.specs.Int.{w128, from_be_bytes}
use Rattle.lsm_sorted.proofs.PrefixLemmas.{padded}
use Rattle.lsm_sorted.proofs.lending_merger.short_prefix.Goals as goal

pub returns : goal.returns
returns c =
    let key = c.args.key.now in
    record {
      bytes = λ i. omega (arith, c.type_inv.key i);
      number = c.from_be_bytes.ensures
          ∙ ap (λ (xs : List ℕ). from_be_bytes w128 (xs ++ drop (length key) (replicate 16 0))) c.copy_from_slice.ensures.after
          ∙ padded key (length key) 16;
    }
