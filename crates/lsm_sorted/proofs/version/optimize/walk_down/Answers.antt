-- One step down, or the end.
use Rattle.std.specs.Option.{option_copied}
use Rattle.std.proofs.lemmas.Bool.{false≢true}
use Rattle.lsm_sorted.proofs.WalkLemmas.{walk_start, walk_on, stopped_some, stopped_whole}
use Rattle.lsm_sorted.proofs.version.optimize.walk_down.Goals as goal

pub loop-level-init : goal.loop-level-init
loop-level-init g c = walk_start g.T.Ranged.range c.args.packed.now c.args.chain.now.items c.requires

pub loop-level-preserved : goal.loop-level-preserved
loop-level-preserved g c =
    walk_on g.T.Ranged.range c.args.packed.now (option_copied c.loop-level.above) c.loop-level.chain.items c.push.new.self.items c.loop-level.level
    c.index-packed-level.result c.in-Some.link.now c.loop-level.invariant c.loop-level-test.true c.loop-level.auto.level c.index-packed-level.is
    c.in-Some.ensures.found.0 c.in-Some.ensures.found.1 c.in_ok-push.ensures.items

pub returns-in_default-clause-whole : goal.returns-in_default-clause-whole
returns-in_default-clause-whole g c =
    stopped_whole g.T.Ranged.range c.args.packed.now (option_copied c.loop-level.above) c.loop-level.chain.items c.loop-level.level c.index-packed-level.result c.loop-level.invariant c.loop-level-test.true c.loop-level.auto.level c.index-packed-level.is (λ e some. false≢true (c.in_default.ensures.first e some))
    (λ a e ordered later some. false≢true (c.in_default.ensures.next a e ordered later some))

pub returns-in_default-clause-some : goal.returns-in_default-clause-some
returns-in_default-clause-some g c =
    stopped_some g.T.Ranged.range c.args.packed.now (option_copied c.loop-level.above) c.loop-level.chain.items c.loop-level.level c.index-packed-level.result c.loop-level.invariant c.loop-level-test.true c.loop-level.auto.level c.index-packed-level.is (λ e some. false≢true (c.in_default.ensures.first e some))
