use Rattle.std.proofs.Common.{◌≡◌, ◌∷◌, false, rules}
use Rattle.std.specs.Prelude.{codes, nat_eq}
use Rattle.std.specs.Cmp.Lexicographic.{pointwise}
use Rattle.sst_script.specs.Command.{words_of}
use Rattle.sst_script.proofs.CommandLemmas.{no_command}
use Rattle.sst_script.proofs.command.parse_command.Goals as goal

pub returns-in-Some-5-clause-none : goal.returns-in-Some-5-clause-none
returns-in-Some-5-clause-none c =
    let line = c.args.line.now in
    let name = (c.split_word.result).0.now in
    let rest = c.in-Some.words.now in
    let words : words_of line ≡ name ∷ words_of rest = search rules in
    let no_entry : pointwise nat_eq name (codes "entry") ≡ false = search rules in
    let no_get : pointwise nat_eq name (codes "get") ≡ false = search rules in
    let no_range : pointwise nat_eq name (codes "range") ≡ false = search rules in
    let no_compact : pointwise nat_eq name (codes "compact") ≡ false = search rules in
    no_command line name rest words (λ e. let h = rw e at no_entry in absurd cc) (λ e. let h = rw e at no_get in absurd cc) (λ e. let h = rw e at no_range in absurd cc) (λ e. let h = rw e at no_compact in absurd cc)
