use Rattle.lsm_readers.specs.Words.{lift, point, table_answer}
use Rattle.std.proofs.Common.{Ok, ◌∙◌}
use Rattle.sst_c.proofs.Answering.{first_reports, ok_reports}
use Rattle.sst_c.proofs.Placing.{place_answers}
use Rattle.sst_c.proofs.tables.get_in.Goals as goal

-- the position that is kept is that of the entry that the table finds
pub returns : goal.returns
returns c =
    let t = c.args.table.now in
    let answer = table_answer t c.args.key.now c.args.seqno in
    let r = c.get_place.result.0 in
    let told = c.keep_place.ensures in
    record {
      returned = place_answers t r answer.returned c.keep_place.result c.keep_place.new.found told.code told.found
          c.get_place.ensures.returned c.get_place.ensures.placed;
      -- the first fault of the read is told
      early = λ e is. told.code ∙ first_reports r answer.early c.get_place.ensures.early e is;
      calm = λ none. told.code ∙ ok_reports r (c.get_place.ensures.calm none);
      list = λ es stores. place_answers t r (Ok (point (lift es t.global_seqno) c.args.key.now c.args.seqno))
          c.keep_place.result c.keep_place.new.found told.code told.found
          (c.get_place.ensures.list es stores) c.get_place.ensures.placed;
    }
