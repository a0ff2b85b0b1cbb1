use Rattle.std.proofs.Common.{◌≡◌, ◌-◌, ◌<◌, length, drop, refl, rules, arith, true, false, Some, None}
use Rattle.std.specs.Prelude.{is_some}
use Rattle.std.specs.Option.{option_map}
use Rattle.std.proofs.lemmas.List.{take_rest}
use Rattle.sst_entries.specs.Point.{read_place}
use Rattle.sst_entries.specs.Strict.{is_before, may_follow}
use Rattle.sst_entries.proofs.Bytes.{IsBytes}
use Rattle.sst_blocks.proofs.Items.{walk_missing, walk_unordered, walk_over}
use Rattle.sst_blocks.proofs.Searches.{keeps_next, map_next, search_begins, search_ends, search_on, search_place, search_stops, some_map}
use Rattle.sst_blocks.proofs.reading.find.find_and_test.Goals as goal

pub loop-init : goal.loop-init
loop-init g c =
    let f = g.R.ItemRef.format c.args.version in
    let fits : IsBytes c.args.payload.now = λ i. omega (arith, c.type_inv.payload i) in
    record {
      search = rw (take_rest c.args.payload.now 4) (search_begins f (λ x. is_before (read_place c.args.key.now c.args.seqno) (f.key x)) c.args.payload.now c.requires.long fits);
      place = tt;
    }

pub overflow_sub-start : goal.overflow_sub-start
overflow_sub-start g c = omega (arith, c.loop.invariant.search.walk.place)

pub returns-in_default-clause-fault : goal.returns-in_default-clause-fault
returns-in_default-clause-fault g c =
    let f = g.R.ItemRef.format c.args.version in
    let none : f.read c.loop.rest.now ≡ None = search rules in
    (refl, walk_missing f _ _ _ _ _ c.loop.invariant.search.walk (omega arith) none)

pub returns-then-not-may_follow-clause-fault : goal.returns-then-not-may_follow-clause-fault
returns-then-not-may_follow-clause-fault g c =
    let f = g.R.ItemRef.format c.args.version in
    let returned = g.R.ItemRef.returned in
    let some : f.read c.loop.rest.now ≡ Some (returned c.in-Some.read.0, c.in-Some.read.1.now) = search rules in
    let early : may_follow (option_map (λ x. f.key (returned x)) c.loop.last) (f.key (returned c.in-Some.read.0)) ≡ false = search rules in
    (refl, walk_unordered f _ _ _ _ _ _ _ c.loop.invariant.search.walk (omega arith) some early)

pub loop-preserved : goal.loop-preserved
loop-preserved g c =
    let f = g.R.ItemRef.format c.args.version in
    let returned = g.R.ItemRef.returned in
    let p = λ (x : g.R.ItemRef.Reported). is_before (read_place c.args.key.now c.args.seqno) (f.key x) in
    let some : f.read c.loop.rest.now ≡ Some (returned c.in-Some.read.0, c.in-Some.read.1.now) = search rules in
    let follows : may_follow (option_map (λ x. f.key (returned x)) c.loop.last) (f.key (returned c.in-Some.read.0)) ≡ true = search rules in
    let start = length c.args.payload.now - length c.loop.rest.now in
    let next = map_next (λ x. returned x.1) c.loop.found c.put_first.new.found (p (returned c.in-Some.read.0)) (start, c.in-Some.read.0) (c.put_first.ensures c.args.version) in
    let here = search_place f p _ _ _ _ _ _ _ c.loop.invariant.search some in
    record {
      search = search_on f p (g.R.ItemRef.Fits c.args.version) c.is_format.ensures.law c.is_format.ensures.advances _ _ _ _ _ _ _ _ c.loop.invariant.search some follows next;
      place = keeps_next (λ x. option_map (λ y. y.0) (f.read (drop x.0 c.args.payload.now)) ≡ Some (returned x.1)) c.loop.found c.put_first.new.found _ (start, c.in-Some.read.0) (c.put_first.ensures c.args.version) c.loop.invariant.place here;
    }

pub returns-then-not-is_empty-clause-fault : goal.returns-then-not-is_empty-clause-fault
returns-then-not-is_empty-clause-fault g c =
    let more : 0 < length c.loop.rest.now = search rules in
    (refl, walk_over (g.R.ItemRef.format c.args.version) _ _ _ _ _ c.loop.invariant.search.walk (omega arith) more)

pub returns-clause-whole : goal.returns-clause-whole
returns-clause-whole g c =
    let f = g.R.ItemRef.format c.args.version in
    let none : length c.loop.rest.now ≡ 0 = search rules in
    (search_ends f (λ x. is_before (read_place c.args.key.now c.args.seqno) (f.key x)) _ _ _ _ _ c.loop.invariant.search (omega arith) none).0

pub returns-clause-found : goal.returns-clause-found
returns-clause-found g c =
    let f = g.R.ItemRef.format c.args.version in
    let none : length c.loop.rest.now ≡ 0 = search rules in
    (search_ends f (λ x. is_before (read_place c.args.key.now c.args.seqno) (f.key x)) _ _ _ _ _ c.loop.invariant.search (omega arith) none).1
