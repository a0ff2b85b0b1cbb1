use Rattle.std.proofs.Common.{◌≡◌, ◌∙◌, ap, sym, subst, refl, List, ℕ, ◌∷◌, rules}
use Rattle.std.specs.Prelude.{codes, None}
use Rattle.std.specs.Option.{option_copied}
use Rattle.sst_script.specs.Command.{words_behind, words_of, setting_words}
use Rattle.sst_script.specs.Text.{IsNumber}
use Rattle.sst_script.proofs.CommandLemmas.{parts}
use Rattle.sst_script.proofs.command.parse_compact.Goals as goal

pub returns-clause-form : goal.returns-clause-form
returns-clause-form c =
    let number = (c.split_word.result).0.now in
    let rest = (c.split_word.result).1 in
    let first : words_of c.args.words.now ≡ number ∷ words_behind (option_copied rest) = search rules in
    record {
      number_word = number;
      words_are = ap (λ (ws : List (List ℕ)). codes "compact" ∷ ws) (first ∙ ap (λ (ws : List (List ℕ)). number ∷ ws) c.in_ok-evict.ensures.words);
      watermark_is = search rules;
    }

pub returns-in_err-watermark-clause-none : goal.returns-in_err-watermark-clause-none
returns-in_err-watermark-clause-none c =
    let line = c.args.words.now in
    let number = (c.split_word.result).0.now in
    let rest = (c.split_word.result).1 in
    let first : words_of line ≡ number ∷ words_behind (option_copied rest) = search rules in
    let none : c.from_residual.result ≡ None = search rules in
    rw none (λ watermark evict zero compacts.
    let all = (parts (codes "compact") (codes "compact") (codes "compact" ∷ words_of line) (words_of line) (compacts.number_word ∷ setting_words evict zero) refl compacts.words_are).1 in
    let same = (parts number compacts.number_word (words_of line) (words_behind (option_copied rest)) (setting_words evict zero) first all).0 in
    c.in_err-watermark.ensures (subst IsNumber (sym same) compacts.watermark_is.number))

pub returns-in_err-evict-clause-none : goal.returns-in_err-evict-clause-none
returns-in_err-evict-clause-none c =
    let line = c.args.words.now in
    let number = (c.split_word.result).0.now in
    let rest = (c.split_word.result).1 in
    let first : words_of line ≡ number ∷ words_behind (option_copied rest) = search rules in
    let none : c.from_residual-in_err-evict.result ≡ None = search rules in
    rw none (λ watermark evict zero compacts.
    let all = (parts (codes "compact") (codes "compact") (codes "compact" ∷ words_of line) (words_of line) (compacts.number_word ∷ setting_words evict zero) refl compacts.words_are).1 in
    let same = (parts number compacts.number_word (words_of line) (words_behind (option_copied rest)) (setting_words evict zero) first all).1 in
    c.in_err-evict.ensures.none evict zero same)
