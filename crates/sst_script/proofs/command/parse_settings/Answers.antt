use Rattle.std.proofs.Common.{◌≡◌, ◌∙◌, false, rules}
use Rattle.std.specs.Prelude.{codes, nat_eq}
use Rattle.std.specs.Cmp.Lexicographic.{pointwise}
use Rattle.std.specs.Option.{option_copied}
use Rattle.sst_script.specs.Command.{words_of, words_behind}
use Rattle.sst_script.proofs.CommandLemmas.{both_settings, no_settings}
use Rattle.sst_script.proofs.command.parse_settings.Goals as goal

pub returns-in-Some-3-clause-words : goal.returns-in-Some-3-clause-words
returns-in-Some-3-clause-words c =
    let rest = c.in-Some.words.now in
    let is : rest ≡ codes "evict zero" = search rules in
    let words : words_behind (option_copied c.args.settings) ≡ words_of rest = search rules in
    words ∙ both_settings rest is

pub returns-in-Some-4-clause-none : goal.returns-in-Some-4-clause-none
returns-in-Some-4-clause-none c =
    let rest = c.in-Some.words.now in
    let words : words_of rest ≡ words_behind (option_copied c.args.settings) = search rules in
    let no_evict : pointwise nat_eq rest (codes "evict") ≡ false = search rules in
    let no_zero : pointwise nat_eq rest (codes "zero") ≡ false = search rules in
    let no_both : pointwise nat_eq rest (codes "evict zero") ≡ false = search rules in
    λ evict zero returned.
    no_settings rest (λ e. let h = rw e at no_evict in absurd cc) (λ e. let h = rw e at no_zero in absurd cc) (λ e. let h = rw e at no_both in absurd cc) evict zero (words ∙ returned)
