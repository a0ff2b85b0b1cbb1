use Rattle.std.proofs.Common.{◌≡◌, ◌-◌, ◌<◌, length, refl, rules, arith, true, None, Some}
use Rattle.std.proofs.lemmas.List.{take_rest}
use Rattle.sst_entries.specs.Point.{read_place}
use Rattle.sst_entries.specs.Strict.{is_before}
use Rattle.sst_entries.proofs.Bytes.{IsBytes}
use Rattle.sst_blocks.proofs.Items.{walk_missing, walk_tested}
use Rattle.sst_blocks.proofs.Searches.{is_next, is_none_and_some, is_not_next, search_begins}
use Rattle.sst_blocks.proofs.Searches.{search_on, search_place, search_stops, search_whole}
use Rattle.sst_blocks.proofs.reading.find.find_tested.Goals as goal

pub loop-init : goal.loop-init
loop-init g c =
    let f = g.R.ItemRef.format c.args.version in
    let fits : IsBytes c.args.payload.now = λ i. omega (arith, c.type_inv.payload i) in
    (None, rw (take_rest c.args.payload.now 4) (search_begins f (λ x. is_before (read_place c.args.key.now c.args.seqno) (f.key x)) c.args.payload.now c.requires.long fits))

pub returns-in_default-clause-found : goal.returns-in_default-clause-found
returns-in_default-clause-found g c =
    let f = g.R.ItemRef.format c.args.version in
    let none : f.read c.loop.rest.now ≡ None = search rules in
    absurd (is_none_and_some _ (walk_missing f _ _ _ _ _ c.loop.invariant.1.walk (omega arith) none) c.requires.tested)

pub returns-then-is_past-clause-found : goal.returns-then-is_past-clause-found
returns-then-is_past-clause-found g c =
    let f = g.R.ItemRef.format c.args.version in
    let returned = g.R.ItemRef.returned in
    let p = λ (x : g.R.ItemRef.Reported). is_before (read_place c.args.key.now c.args.seqno) (f.key x) in
    let some : f.read c.loop.rest.now ≡ Some (returned c.in-Some.read.0, c.in-Some.read.1.now) = search rules in
    let follows = walk_tested f _ _ _ _ _ _ _ c.loop.invariant.1.walk (omega arith) some c.requires.tested in
    let next = is_next None (p (returned c.in-Some.read.0)) c.is_past.result (returned c.in-Some.read.0) refl (c.is_past.ensures c.args.version) c.if-is_past.true in
    let s = search_on f p (g.R.ItemRef.Fits c.args.version) c.is_format.ensures.law c.is_format.ensures.advances _ _ _ _ _ _ _ _ c.loop.invariant.1 some follows next in
    search_stops f p c.is_format.ensures.advances _ _ _ _ _ s (omega arith) c.requires.tested refl

pub returns-then-is_past-clause-place : goal.returns-then-is_past-clause-place
returns-then-is_past-clause-place g c =
    let f = g.R.ItemRef.format c.args.version in
    let returned = g.R.ItemRef.returned in
    let p = λ (x : g.R.ItemRef.Reported). is_before (read_place c.args.key.now c.args.seqno) (f.key x) in
    let some : f.read c.loop.rest.now ≡ Some (returned c.in-Some.read.0, c.in-Some.read.1.now) = search rules in
    search_place f p _ _ _ _ _ _ _ c.loop.invariant.1 some

pub loop-preserved : goal.loop-preserved
loop-preserved g c =
    let f = g.R.ItemRef.format c.args.version in
    let returned = g.R.ItemRef.returned in
    let p = λ (x : g.R.ItemRef.Reported). is_before (read_place c.args.key.now c.args.seqno) (f.key x) in
    let some : f.read c.loop.rest.now ≡ Some (returned c.in-Some.read.0, c.in-Some.read.1.now) = search rules in
    let follows = walk_tested f _ _ _ _ _ _ _ c.loop.invariant.1.walk (omega arith) some c.requires.tested in
    let next = is_not_next None (p (returned c.in-Some.read.0)) c.is_past.result (returned c.in-Some.read.0) refl (c.is_past.ensures c.args.version) c.if-is_past.false in
    (Some (f.key (returned c.in-Some.read.0)), search_on f p (g.R.ItemRef.Fits c.args.version) c.is_format.ensures.law c.is_format.ensures.advances _ _ _ _ _ _ _ _ c.loop.invariant.1 some follows next)

pub returns-clause-found : goal.returns-clause-found
returns-clause-found g c =
    let f = g.R.ItemRef.format c.args.version in
    search_whole f (λ x. is_before (read_place c.args.key.now c.args.seqno) (f.key x)) _ _ _ _ _ c.loop.invariant.1 (omega arith) c.requires.tested
