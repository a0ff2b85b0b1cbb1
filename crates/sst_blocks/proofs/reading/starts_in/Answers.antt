use Rattle.std.proofs.Common.{◌≡◌, ◌<◌, length, refl, rules, arith, true, false, Some, None}
use Rattle.std.specs.Option.{option_map}
use Rattle.std.proofs.lemmas.List.{take_rest}
use Rattle.sst_blocks.specs.Number.{num4}
use Rattle.sst_entries.specs.Strict.{may_follow}
use Rattle.sst_blocks.proofs.Items.{walk_begins, walk_on, walk_ends, walk_missing, walk_tested, walk_unordered, walk_over}
use Rattle.sst_blocks.proofs.reading.starts_in.Goals as goal
use Rattle.sst_blocks.proofs.reading.starts_in.Goals.{else-not-is_tested-via-then-not-is_tested+else-not-may_follow, else-not-is_tested-via-else-not-is_tested}

pub loop-init : goal.loop-init
loop-init g c =
    rw (c.in_ok-starts.ensures.items, take_rest c.args.payload.now 4) (walk_begins (g.R.ItemRef.format c.args.version) c.args.payload.now c.requires.long (λ i. omega (arith, c.type_inv.payload i)))

pub overflow_sub-start : goal.overflow_sub-start
overflow_sub-start g c = omega (arith, c.loop.invariant.place)

pub returns-in_default-clause-fault : goal.returns-in_default-clause-fault
returns-in_default-clause-fault g c _ =
    let none : (g.R.ItemRef.format c.args.version).read c.loop.rest.now ≡ None = search rules in
    let lt : c.loop.counter < num4 c.args.payload.now = omega (arith, c.loop-test.true, c.u32_at-count.ensures) in
    (refl, walk_missing (g.R.ItemRef.format c.args.version) _ _ _ _ _ c.loop.invariant lt none)

pub returns-then-not-may_follow-clause-fault : goal.returns-then-not-may_follow-clause-fault
returns-then-not-may_follow-clause-fault g c _ =
    let f = g.R.ItemRef.format c.args.version in
    let returned = g.R.ItemRef.returned in
    let some : f.read c.loop.rest.now ≡ Some (returned c.in-Some.read.0, c.in-Some.read.1.now) = search rules in
    let early : may_follow (option_map (λ x. f.key (returned x)) c.loop.last) (f.key (returned c.in-Some.read.0)) ≡ false = search rules in
    let lt : c.loop.counter < num4 c.args.payload.now = omega (arith, c.loop-test.true, c.u32_at-count.ensures) in
    (refl, walk_unordered f _ _ _ _ _ _ _ c.loop.invariant lt some early)

pub loop-preserved : goal.loop-preserved
loop-preserved g c =
    let f = g.R.ItemRef.format c.args.version in
    let returned = g.R.ItemRef.returned in
    let some : f.read c.loop.rest.now ≡ Some (returned c.in-Some.read.0, c.in-Some.read.1.now) = search rules in
    let follows : may_follow (option_map (λ x. f.key (returned x)) c.loop.last) (f.key (returned c.in-Some.read.0)) ≡ true = elim c.else-not-is_tested.branch [
      | else-not-is_tested-via-then-not-is_tested+else-not-may_follow w ↦ search rules
      | else-not-is_tested-via-else-not-is_tested w ↦
          let lt : c.loop.counter < num4 c.args.payload.now = omega (arith, c.loop-test.true, c.u32_at-count.ensures) in
          walk_tested f _ _ _ _ _ _ _ c.loop.invariant lt some (c.requires.tested (search rules))
    ] in
    rw c.in_ok-push.ensures.items (walk_on f (g.R.ItemRef.Fits c.args.version) c.is_format.ensures.law _ _ _ _ _ _ _ c.loop.invariant some follows)

pub returns-then-not-is_empty-clause-fault : goal.returns-then-not-is_empty-clause-fault
returns-then-not-is_empty-clause-fault g c _ =
    let all : c.loop.counter ≡ num4 c.args.payload.now = omega (arith, c.loop-test.false, c.loop.auto.counter-end, c.u32_at-count.ensures) in
    let more : 0 < length c.loop.rest.now = search rules in
    (refl, walk_over (g.R.ItemRef.format c.args.version) _ _ _ _ _ c.loop.invariant all more)

pub returns-clause-found : goal.returns-clause-found
returns-clause-found g c =
    let all : c.loop.counter ≡ num4 c.args.payload.now = omega (arith, c.loop-test.false, c.loop.auto.counter-end, c.u32_at-count.ensures) in
    let none : length c.loop.rest.now ≡ 0 = search rules in
    walk_ends (g.R.ItemRef.format c.args.version) _ _ _ _ _ c.requires.short c.loop.invariant all none
