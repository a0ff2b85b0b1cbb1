-- The options leave the keys as they are, and the key comes behind them.
use Rattle.sst_blocks.specs.declared.table.options.FilterKind.TheVariants.{Partitioned}
use Rattle.test_layers.proofs.KeyLemmas.{given_again, given_more}
use Rattle.test_layers.proofs.filter_options.add.Goals as goal

pub returns : goal.returns
returns c = λ keys was.
    let sized = c.use_partition_size-sized in
    let set = c.set_filter_policy-set in
    given_more set.result c.register_key.new.self (Partitioned set.result.size) set.result.policy keys c.args.key.now
    (given_again sized.result set.result keys (given_again c.args.writer sized.result keys was sized.ensures.holds) set.ensures.holds) c.in_ok-register_key.ensures.ok
