use Rattle.std.proofs.Common.{ap, ◌∙◌}
use Rattle.std.specs.Prelude.{map}
use Rattle.std.specs.Option.{option_and_then}
use Rattle.sst_blocks.specs.EntryPlace.{placed_in}
use Rattle.lsm_readers.specs.Words.{OpenTable}
use Rattle.sst_c.proofs.AnswerLists.{all_there}
use Rattle.sst_c.proofs.answer_list.AnswerList.placed.Goals as goal

-- the reference is to the table that has the entries
pub returns-clause-ok : goal.returns-clause-ok
returns-clause-ok c =
    let places = c.args.places.items in
    ap (λ (t : OpenTable). map (option_and_then (placed_in t.bytes)) places) c.in_ok-share.ensures.cases
    ∙ all_there c.args.table.now.bytes places c.requires
