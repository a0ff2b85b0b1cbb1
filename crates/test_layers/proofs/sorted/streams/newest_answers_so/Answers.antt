use Rattle.test_layers.proofs.sorted.streams.newest_answers_so.Goals as goal

pub answers_so-requires : goal.answers_so-requires
answers_so-requires g c =
    (c.newest_from_both_ends.ensures.can c.args.sources.items c.in_ok-stream.ensures.starts).asks c.requires.can c.requires.finite
