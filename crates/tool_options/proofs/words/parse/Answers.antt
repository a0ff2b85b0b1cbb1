use Rattle.std.proofs.Common.{◌≡◌, List, ap, true}
use Rattle.std.proofs.lemmas.Result.{IfOk-weaker}
use Rattle.clap.specs.Words.{is_simple}
use Rattle.tool_options.specs.Commands.{commands, commands_in}
use Rattle.tool_options.specs.Program.{program_of}
use Rattle.tool_options.specs.declared.texts.CommandText.{CommandText}
use Rattle.tool_options.proofs.words.parse.Goals as goal

pub returns : goal.returns
unfolding commands
returns g c =
    let texts = c.as_slice.result.now in
    let simple : is_simple (program_of texts) ≡ true =
    ap (λ (ts : List CommandText). is_simple (program_of ts)) c.as_slice.ensures in
    let same : commands_in (program_of texts) ≡ commands =
    ap (λ (ts : List CommandText). commands_in (program_of ts)) c.as_slice.ensures in
    IfOk-weaker c.parse_by.result _ _ (λ p asks. (texts, same, asks)) (c.parse_by.ensures simple)
