use Rattle.std.proofs.Common.{◌≡◌, ◌≤◌, ◌∙◌, sym, ap, length, arith}
use Rattle.std.specs.Prelude.{None, find}
use Rattle.std.specs.List.{slice_get}
use Rattle.std.specs.Option.{option_map}
use Rattle.std.proofs.lemmas.Option.{slice_get_past}
use Rattle.sst_blocks.specs.Handles.{reaches}
use Rattle.sst_blocks.specs.Place.{place_of}
use Rattle.sst_blocks.proofs.SpanLemmas.{find_at_front}
use Rattle.sst_blocks.proofs.index_block.IndexBlock.find.Goals as goal

pub returns-then-index-len : goal.returns-then-index-len
returns-then-index-len g c =
    let hs = c.args.self.now in
    let past : length hs ≤ c.first_reaching-index.result = omega arith in
    let none : find (reaches c.args.key.now c.args.seqno) hs ≡ None = find_at_front (reaches c.args.key.now c.args.seqno) hs ∙ ap (slice_get hs) (sym c.first_reaching-index.ensures.place) ∙ slice_get_past hs c.first_reaching-index.result past in
    sym (ap (option_map place_of) none)

pub returns : goal.returns
returns g c =
    let hs = c.args.self.now in
    let at : find (reaches c.args.key.now c.args.seqno) hs ≡ slice_get hs c.first_reaching-index.result = find_at_front (reaches c.args.key.now c.args.seqno) hs ∙ ap (slice_get hs) (sym c.first_reaching-index.ensures.place) in
    sym (ap (option_map place_of) at ∙ c.place_at.ensures)
