use Rattle.tool_options.proofs.words.complete.Goals as goal

pub returns-in-None : goal.returns-in-None
returns-in-None c = c.mistake.ensures
