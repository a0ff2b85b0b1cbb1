-- One hash more is set.
use Rattle.std.proofs.Common.{◌+◌, length, refl, take, arith}
use Rattle.std.proofs.lemmas.List.{take_all, take_more}
use Rattle.lsm_writers.proofs.Building.{building_start, building_more, built}
use Rattle.lsm_writers.proofs.section.build.build_filter.Goals as goal

pub loop-hash-init : goal.loop-hash-init
loop-hash-init g c = building_start c.args.policy.now (length c.args.hashes.now) c.in_ok-filter.filter c.in_ok-filter.ensures.empty c.in_ok-filter.ensures.hashes

pub loop-hash-preserved : goal.loop-hash-preserved
loop-hash-preserved g c =
    building_more c.args.policy.now (length c.args.hashes.now) _ (take c.loop-hash.hash-index c.args.hashes.now) (take (c.loop-hash.hash-index + 1) c.args.hashes.now)
    c.loop-hash.filter c.set_with_hash.new.self c.loop-hash.invariant c.set_with_hash.ensures.gains (c.set_with_hash.ensures.hashes _)
    (take_more c.args.hashes.now c.loop-hash.hash-index 0 c.loop-hash-test.true)

pub returns-clause-filter : goal.returns-clause-filter
returns-clause-filter g c =
    built c.args.policy.now (length c.args.hashes.now) (take c.loop-hash.hash-index c.args.hashes.now) c.args.hashes.now c.loop-hash.filter c.loop-hash.invariant
    (take_all c.loop-hash.hash-index c.args.hashes.now (omega arith)) refl
