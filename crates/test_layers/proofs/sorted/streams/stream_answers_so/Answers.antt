use Rattle.test_layers.proofs.sorted.streams.stream_answers_so.Goals as goal

pub answers_so-requires : goal.answers_so-requires
answers_so-requires g c =
    (c.from_both_ends.ensures.can c.args.source c.new-stream.ensures.starts).asks c.requires.can c.requires.finite
