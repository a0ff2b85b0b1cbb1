use Rattle.std.proofs.Common.{◌≡◌, ◌∙◌, ap, sym, subst, refl, List, ℕ, [], ◌∷◌, rules}
use Rattle.std.specs.Prelude.{codes, None}
use Rattle.sst_script.specs.Command.{words_of, StandsFor}
use Rattle.sst_script.specs.Text.{letter_of}
use Rattle.sst_script.proofs.CommandLemmas.{visible_word, parts, one_word}
use Rattle.sst_script.proofs.command.parse_entry.Goals as goal

pub returns-clause-form : goal.returns-clause-form
returns-clause-form c =
    let key = (c.split_word.result).0.now in
    let number = (c.split_word-2.result).0.now in
    let letter = (c.split_word-3.result).0.now in
    let value = c.in_ok-value.field-0.now in
    let kind = c.in_ok-parse_kind.field-0 in
    let first : words_of c.args.words.now ≡ key ∷ words_of c.in_ok-rest.field-0.now = search rules in
    let second : words_of c.in_ok-rest.field-0.now ≡ number ∷ words_of c.in_ok-rest-2.field-0.now = search rules in
    let third : words_of c.in_ok-rest-2.field-0.now ≡ letter ∷ words_of value = search rules in
    let fourth : words_of value ≡ value ∷ [] = visible_word value c.in_ok-parse_text-2.ensures.text.visible in
    let is : letter ≡ letter_of kind ∷ [] = c.in_ok-parse_kind.ensures.letter in
    record {
      key_word = key;
      number_word = number;
      value_word = value;
      words_are = ap (λ (ws : List (List ℕ)). codes "entry" ∷ ws) (first ∙ ap (λ (ws : List (List ℕ)). key ∷ ws) (second ∙ ap (λ (ws : List (List ℕ)). number ∷ ws) (third ∙ ap (λ (w : List ℕ). w ∷ words_of value) is ∙ ap (λ (ws : List (List ℕ)). (letter_of kind ∷ []) ∷ ws) fourth)));
      key_is = c.in_ok-parse_text.ensures.text;
      seqno_is = search rules;
      value_is = c.in_ok-parse_text-2.ensures.text;
    }

pub returns-in_err-parse_text-2-clause-none : goal.returns-in_err-parse_text-2-clause-none
returns-in_err-parse_text-2-clause-none c =
    let line = c.args.words.now in
    let number = (c.split_word-2.result).0.now in
    let letter = (c.split_word-3.result).0.now in
    let after_key = c.in_ok-rest.field-0.now in
    let after_number = c.in_ok-rest-2.field-0.now in
    let value = c.in_ok-value.field-0.now in
    let first : words_of line ≡ (c.split_word.result).0.now ∷ words_of after_key = search rules in
    let second : words_of after_key ≡ number ∷ words_of after_number = search rules in
    let third : words_of after_number ≡ letter ∷ words_of value = search rules in
    let none : c.from_residual-in_err-parse_text-2.result ≡ None = search rules in
    rw none (λ key seqno kind text adds.
    let all = (parts (codes "entry") (codes "entry") (codes "entry" ∷ words_of line) (words_of line) (adds.key_word ∷ adds.number_word ∷ (letter_of kind ∷ []) ∷ adds.value_word ∷ []) refl adds.words_are).1 in
    let behind_key = (parts (c.split_word.result).0.now adds.key_word (words_of line) (words_of after_key) (adds.number_word ∷ (letter_of kind ∷ []) ∷ adds.value_word ∷ []) first all).1 in
    let behind_number = (parts number adds.number_word (words_of after_key) (words_of after_number) ((letter_of kind ∷ []) ∷ adds.value_word ∷ []) second behind_key).1 in
    let behind_letter = (parts letter (letter_of kind ∷ []) (words_of after_number) (words_of value) (adds.value_word ∷ []) third behind_number).1 in
    let same = one_word value adds.value_word behind_letter in
    c.in_err-parse_text-2.ensures.none text (subst (λ (word : List ℕ). StandsFor word text) (sym same) adds.value_is))
