use Rattle.std.proofs.Common.{◌≡◌, ◌∙◌, ap, sym, subst, refl, List, ℕ, [], ◌∷◌, rules}
use Rattle.std.specs.Prelude.{codes, None}
use Rattle.sst_script.specs.Command.{words_of, Counts}
use Rattle.sst_script.specs.Text.{IsNumber}
use Rattle.sst_script.proofs.CommandLemmas.{digits_word, parts, one_word}
use Rattle.sst_script.proofs.command.parse_get.Goals as goal

pub returns-clause-form : goal.returns-clause-form
returns-clause-form c =
    let key = (c.split_word.result).0.now in
    let number = c.in_ok-bound.field-0.now in
    let first : words_of c.args.words.now ≡ key ∷ words_of number = search rules in
    let counts : Counts number c.in_ok-parse_number.field-0 = search rules in
    record {
      key_word = key;
      number_word = number;
      words_are = ap (λ (ws : List (List ℕ)). codes "get" ∷ ws) (first ∙ ap (λ (ws : List (List ℕ)). key ∷ ws) (digits_word number counts.number.digits));
      key_is = c.in_ok-parse_text.ensures.text;
      bound_is = counts;
    }

pub returns-in_err-parse_number-clause-none : goal.returns-in_err-parse_number-clause-none
returns-in_err-parse_number-clause-none c =
    let line = c.args.words.now in
    let key = (c.split_word.result).0.now in
    let number = c.in_ok-bound.field-0.now in
    let first : words_of line ≡ key ∷ words_of number = search rules in
    let none : c.from_residual-in_err-parse_number.result ≡ None = search rules in
    rw none (λ text bound reads.
    let all = (parts (codes "get") (codes "get") (codes "get" ∷ words_of line) (words_of line) (reads.key_word ∷ reads.number_word ∷ []) refl reads.words_are).1 in
    let behind_key = (parts key reads.key_word (words_of line) (words_of number) (reads.number_word ∷ []) first all).1 in
    let same = one_word number reads.number_word behind_key in
    c.in_err-parse_number.ensures (subst IsNumber (sym same) reads.bound_is.number))
