use Rattle.std.proofs.Common.{Option, subst, sym}
use Rattle.sst_entries.specs.Entry.{Entry}
use Rattle.lsm_readers.specs.point.Answer.{match_at}
use Rattle.lsm_readers.specs.point.Read.{DoesRead}
use Rattle.lsm_readers.proofs.AskedReads.{match_fails, match_goes, visible_fits}
use Rattle.lsm_readers.proofs.ReadLaws.{result}
use Rattle.lsm_readers.proofs.point.read_in.Goals as goal

pub lifted_found-requires : goal.lifted_found-requires
lifted_found-requires g c = visible_fits c.in_ok-found.found c.args.seqno c.args.global_seqno c.requires c.in_ok-found.ensures.visible

pub returns-in_err-found-clause-read : goal.returns-in_err-found-clause-read
returns-in_err-found-clause-read g c known =
    match_fails g.S.LoadBlocks.access (g.S.LoadBlocks.body c.args.source.now) c.args.global_seqno c.args.key.now c.args.seqno c.args.handle _ _ c.in_err-found.ensures.counted
    c.in_err-found.field-0.0 c.from_residual.result c.from_residual.ensures.1 (c.in_err-found.ensures.returned known) c.in_err-found.ensures.first

pub returns-clause-read : goal.returns-clause-read
returns-clause-read g c known =
    let access = g.S.LoadBlocks.access in
    let body = g.S.LoadBlocks.body c.args.source.now in
    let key = c.args.key.now in
    let n = c.args.seqno in
    let add = c.args.global_seqno in
    let o = g.S.LoadBlocks.opened c.args.source.now in
    let o' = g.S.LoadBlocks.opened c.point_read.new.self in
    let goes = match_goes access body add key n c.args.handle o o' c.in_ok-found.ensures.counted c.in_ok-found.found (c.in_ok-found.ensures.returned known) c.in_ok-found.ensures.first in
    subst (λ (found : Option Entry). DoesRead access (result found) (match_at body add key n c.args.handle) o o') (sym c.lifted_found.ensures) goes
