use Rattle.std.proofs.Common.{◌-◌, ap, sym, ◌∙◌, inr}
use Rattle.std.specs.Option.{option_map}
use Rattle.sst_blocks.specs.Sections.{body_of}
use Rattle.sst_blocks.specs.Cursor.{Cursor}
use Rattle.lsm_readers.specs.point.Answer.{lifted}
use Rattle.lsm_readers.specs.Scan.{scan_results}
use Rattle.lsm_readers.proofs.Scans.{first_left, lends_end, same_left, scan_yields, scan_ends, scan_lends}
use Rattle.lsm_readers.proofs.Steps.{beside_first, beside_is}
use Rattle.lsm_readers.proofs.scanner.Scanner.new.Goals as goal

pub returns-in_err-block-clause-ends : goal.returns-in_err-block-clause-ends
returns-in_err-block-clause-ends g c stops s t e step = scan_ends stops s t e step

pub returns-in_err-block-2-clause-ends : goal.returns-in_err-block-2-clause-ends
returns-in_err-block-2-clause-ends g c stops s t e step = scan_ends stops s t e step

pub returns-clause-ends : goal.returns-clause-ends
returns-clause-ends g c stops s t e step = scan_ends stops s t e step

pub returns-in_err-block-clause-lends_end : goal.returns-in_err-block-clause-lends_end
returns-in_err-block-clause-lends_end g c stops s t e step = lends_end stops s t e step

pub returns-in_err-block-2-clause-lends_end : goal.returns-in_err-block-2-clause-lends_end
returns-in_err-block-2-clause-lends_end g c stops s t e step = lends_end stops s t e step

pub returns-clause-lends_end : goal.returns-clause-lends_end
returns-clause-lends_end g c stops s t e step = lends_end stops s t e step

pub returns-clause-left : goal.returns-clause-left
returns-clause-left g c =
    let body = body_of c.args.source.now in
    let first = first_left body c.args.global_seqno c.args.block_count c.in_ok-block.block c.in_ok-block.position c.in_ok-block.ensures.returned in
    let kept = c.in_ok-block-2.ensures.both in
    let rest = same_left body (body_of c.in_ok-block-2.source) c.args.global_seqno c.in_ok-block.block c.into_cursor.result.behind c.in_ok-block.position (c.args.block_count - 1) c.saturating_sub.result
    (ap body_of (sym (beside_is _ _ c.in_ok-block.block c.clone.result c.in_ok-block-2.block c.in_ok-block-2.source c.clone.ensures.cases kept))) (sym (ap (λ (k : Cursor). k.behind) c.into_cursor.ensures ∙ beside_first c.in_ok-block.block c.clone.result c.in_ok-block-2.block c.in_ok-block-2.source kept)) (sym c.saturating_sub.ensures) in
    record { lent = ap (λ (k : Cursor). option_map (lifted c.args.global_seqno) k.lent) c.into_cursor.ensures; left = sym (first ∙ rest); blocks = c.saturating_sub.ensures }

pub returns-clause-yields : goal.returns-clause-yields
returns-clause-yields g c stops memory =
    let body = body_of c.args.source.now in
    let left = first_left body c.args.global_seqno c.args.block_count c.in_ok-block.block c.in_ok-block.position c.in_ok-block.ensures.returned in
    let kept = c.in_ok-block-2.ensures.both in
    let rest = same_left body (body_of c.in_ok-block-2.source) c.args.global_seqno c.in_ok-block.block c.into_cursor.result.behind c.in_ok-block.position (c.args.block_count - 1) c.saturating_sub.result
    (ap body_of (sym (beside_is _ _ c.in_ok-block.block c.clone.result c.in_ok-block-2.block c.in_ok-block-2.source c.clone.ensures.cases kept))) (sym (ap (λ (k : Cursor). k.behind) c.into_cursor.ensures ∙ beside_first c.in_ok-block.block c.clone.result c.in_ok-block-2.block c.in_ok-block-2.source kept)) (sym c.saturating_sub.ensures) in
    scan_yields stops _ (scan_results body c.args.block_count c.args.global_seqno) (left ∙ rest, inr memory)

pub returns-clause-lends : goal.returns-clause-lends
returns-clause-lends g c stops memory =
    let body = body_of c.args.source.now in
    let left = first_left body c.args.global_seqno c.args.block_count c.in_ok-block.block c.in_ok-block.position c.in_ok-block.ensures.returned in
    let kept = c.in_ok-block-2.ensures.both in
    let rest = same_left body (body_of c.in_ok-block-2.source) c.args.global_seqno c.in_ok-block.block c.into_cursor.result.behind c.in_ok-block.position (c.args.block_count - 1) c.saturating_sub.result
    (ap body_of (sym (beside_is _ _ c.in_ok-block.block c.clone.result c.in_ok-block-2.block c.in_ok-block-2.source c.clone.ensures.cases kept))) (sym (ap (λ (k : Cursor). k.behind) c.into_cursor.ensures ∙ beside_first c.in_ok-block.block c.clone.result c.in_ok-block-2.block c.in_ok-block-2.source kept)) (sym c.saturating_sub.ensures) in
    scan_lends stops _ (scan_results body c.args.block_count c.args.global_seqno) (left ∙ rest, inr memory)
