use Rattle.std.specs.Option.{option_map}
use Rattle.sst_blocks.proofs.Items.{Walk}
use Rattle.sst_blocks.proofs.reading.starts_in.Given as goal

abbrev pub invariant-loop : goal.invariant-loop
invariant-loop g l =
    let f = g.R.ItemRef.format l.version in
    Walk f l.payload l.rest l.starts.items (option_map (λ x. f.key (g.R.ItemRef.returned x)) l.last)
    l.counter
