use Rattle.std.proofs.Common.{Option, subst, sym}
use Rattle.std.specs.Option.{option_map}
use Rattle.sst_blocks.specs.Access.{in_memory}
use Rattle.sst_blocks.specs.Block.{load_result}
use Rattle.sst_blocks.specs.EntryPlace.{entry_placed}
use Rattle.sst_blocks.specs.declared.block_type.BlockType.TheVariants.{Data}
use Rattle.sst_entries.specs.Entry.{Entry}
use Rattle.sst_blocks.specs.Sections.{body_of}
use Rattle.lsm_readers.specs.point.Answer.{match_at}
use Rattle.lsm_readers.specs.point.Read.{DoesRead}
use Rattle.lsm_readers.proofs.AskedReads.{lift_fits, match_fails, match_goes}
use Rattle.lsm_readers.proofs.ReadLaws.{result}
use Rattle.lsm_readers.proofs.ReadViews.{err_not_ok, err_seen, some_seen}
use Rattle.lsm_readers.proofs.point.place_at.Goals as goal

pub lifted_place-requires : goal.lifted_place-requires
lifted_place-requires g c =
    let bytes = c.args.source.now in
    let place = c.args.handle.now in
    let returned = load_result (body_of bytes) place.offset place.size Data in
    let found = c.in_ok-found.found in
    some_seen (entry_placed bytes) _ found (lift_fits returned c.args.key.now c.args.seqno c.args.global_seqno (option_map (entry_placed bytes) found) c.requires (sym c.in_ok-found.ensures.returned))

pub returns-in_err-found-clause-read : goal.returns-in_err-found-clause-read
returns-in_err-found-clause-read g c =
    let bytes = c.args.source.now in
    let e = c.in_err-found.field-0.0 in
    match_fails in_memory (body_of bytes) c.args.global_seqno c.args.key.now c.args.seqno c.args.handle.now _ _ c.in_err-found.ensures.counted
    e _ (err_seen (option_map (entry_placed bytes)) c.from_residual.result e c.from_residual.ensures.1) (λ memory. sym c.in_err-found.ensures.returned) (λ _. c.in_err-found.ensures.first)

pub returns-in_err-found-clause-placed : goal.returns-in_err-found-clause-placed
returns-in_err-found-clause-placed g c = err_not_ok c.from_residual.result c.in_err-found.field-0.0 _ c.from_residual.ensures.1

pub returns-clause-read : goal.returns-clause-read
returns-clause-read g c =
    let bytes = c.args.source.now in
    let body = body_of bytes in
    let key = c.args.key.now in
    let n = c.args.seqno in
    let add = c.args.global_seqno in
    let place = c.args.handle.now in
    let found = option_map (entry_placed bytes) c.in_ok-found.found in
    let goes = match_goes in_memory body add key n place _ _ c.in_ok-found.ensures.counted found (sym c.in_ok-found.ensures.returned) (λ _. c.in_ok-found.ensures.first) in
    subst (λ (o : Option Entry). DoesRead in_memory (result o) (match_at body add key n place) c.args.opened.now c.point_place.new.opened) (sym (c.lifted_place.ensures.entry bytes)) goes

pub returns-clause-placed : goal.returns-clause-placed
returns-clause-placed g c = c.lifted_place.ensures.placed c.args.source.now c.in_ok-found.ensures.placed
