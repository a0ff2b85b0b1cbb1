use Rattle.std.proofs.Common.{◌≡◌, ◌+◌, ◌<◌, arith, length, rules, get_or, false, true, set, take, subst, sym, ◌∙◌}
use Rattle.std.proofs.lemmas.List.{get_or_read}
use Rattle.std.specs.Prelude.{Ok}
use Rattle.std.specs.Option.{option_map}
use Rattle.sst_blocks.specs.Sections.{body_of}
use Rattle.lsm_readers.specs.point.Table.{parts_of}
use Rattle.lsm_readers.specs.point.Batch.{AreFound, entries_by, query_result}
use Rattle.lsm_readers.specs.point.Many.{answers_to}
use Rattle.lsm_readers.proofs.BatchReads.{found_at, one_known, one_read}
use Rattle.lsm_readers.proofs.ManyReads.{refused_at}
use Rattle.lsm_readers.proofs.Steps.{passes_fault}
use Rattle.lsm_readers.proofs.batch.read_rest.Goals as goal
use Rattle.lsm_readers.proofs.batch.read_rest.Goals.{then-not-index+in_ok-read_one, else-not-index}

pub returns-in_err-read_one-clause-returned : goal.returns-in_err-read_one-clause-returned
returns-in_err-read_one-clause-returned g c =
    let bytes = c.args.blocks.now in
    let entry = g.F.Finder.entry bytes in
    let returned = query_result (body_of bytes) c.args.inner.now.global_seqno (parts_of c.args.inner.now) in
    passes_fault (λ found. entries_by entry found.items) c.from_residual.result (answers_to returned c.args.queries.now) c.in_err-read_one.field-0.0 c.from_residual.ensures.1
    (λ small. refused_at returned c.args.queries.now c.loop-at.at c.index-queries-at.result (entries_by entry (take c.loop-at.at c.loop-at.found.items)) c.in_err-read_one.field-0.0 c.loop-at-test.true c.index-queries-at.is c.loop-at.invariant.so_far (c.in_err-read_one.ensures.returned small))

pub loop-at-preserved : goal.loop-at-preserved
loop-at-preserved g c =
    let bytes = c.args.blocks.now in
    let entry = g.F.Finder.entry bytes in
    let is_within = g.F.Finder.is_within bytes in
    let returned = query_result (body_of bytes) c.args.inner.now.global_seqno (parts_of c.args.inner.now) in
    let queries = c.args.queries.now in
    let at = c.loop-at.at in
    let found = c.loop-at.found.items in
    let done = c.args.batch.done.items in
    let are : AreFound entry is_within returned queries found done = c.loop-at.invariant.are_found in
    let query = c.index-queries-at.result in
    elim c.if-not-index.branch [
      | then-not-index+in_ok-read_one w ↦
          let one = w.in_ok-read_one.field-0 in
          let put : c.if-not-index.found.items ≡ set found at one = search rules in
          let is : returned query ≡ Ok (option_map entry one) = w.in_ok-read_one.ensures.returned in
          let put_found = found_at entry is_within returned queries found done are at query c.loop-at-test.true c.index-queries-at.is one is w.in_ok-read_one.ensures.within in
          let put_far = one_read entry is_within returned queries found done are at query c.loop-at-test.true c.index-queries-at.is one is c.loop-at.invariant.so_far in
          record {
            over = search rules;
            are_found = subst (λ xs. AreFound entry is_within returned queries xs done) (sym put) put_found;
            so_far = subst (λ xs. answers_to returned (take (at + 1) queries) ≡ Ok (entries_by entry (take (at + 1) xs))) (sym put) put_far;
          }
      | else-not-index w ↦
          let kept : c.if-not-index.found.items ≡ found = search rules in
          let inside : at < length done = omega (arith, c.loop-at-test.true, c.requires.found.done_len) in
          let marked : get_or done at false ≡ true = sym (get_or_read done at c.index.result.now inside c.index.ensures false) ∙ w.if-not-index.false in
          let far = one_known entry is_within returned queries found done are at query c.loop-at-test.true c.index-queries-at.is marked c.loop-at.invariant.so_far in
          record {
            over = search rules;
            are_found = subst (λ xs. AreFound entry is_within returned queries xs done) (sym kept) are;
            so_far = subst (λ xs. answers_to returned (take (at + 1) queries) ≡ Ok (entries_by entry (take (at + 1) xs))) (sym kept) far;
          }
    ]
