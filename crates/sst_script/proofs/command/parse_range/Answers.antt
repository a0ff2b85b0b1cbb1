use Rattle.std.proofs.Common.{◌≡◌, ◌∙◌, ap, sym, subst, refl, List, ℕ, [], ◌∷◌, rules}
use Rattle.std.specs.Prelude.{codes, None}
use Rattle.lsm_sorted.specs.version.KeyRange.{key_bound}
use Rattle.sst_script.specs.Command.{words_of, Limits}
use Rattle.sst_script.proofs.CommandLemmas.{limit_word, parts, one_word}
use Rattle.sst_script.proofs.command.parse_range.Goals as goal

pub returns-clause-form : goal.returns-clause-form
returns-clause-form c =
    let low = (c.split_word.result).0.now in
    let high = c.in_ok-high.field-0.now in
    let first : words_of c.args.words.now ≡ low ∷ words_of high = search rules in
    let high_is : Limits high (key_bound c.in_ok-parse_bound-2.field-0) = c.in_ok-parse_bound-2.ensures.bound in
    record {
      low_word = low;
      high_word = high;
      words_are = ap (λ (ws : List (List ℕ)). codes "range" ∷ ws) (first ∙ ap (λ (ws : List (List ℕ)). low ∷ ws) (limit_word high (key_bound c.in_ok-parse_bound-2.field-0) high_is));
      low_is = c.in_ok-parse_bound.ensures.bound;
      high_is = high_is;
    }

pub returns-in_err-parse_bound-2-clause-none : goal.returns-in_err-parse_bound-2-clause-none
returns-in_err-parse_bound-2-clause-none c =
    let line = c.args.words.now in
    let low = (c.split_word.result).0.now in
    let high = c.in_ok-high.field-0.now in
    let first : words_of line ≡ low ∷ words_of high = search rules in
    let none : c.from_residual-in_err-parse_bound-2.result ≡ None = search rules in
    rw none (λ from to reads.
    let all = (parts (codes "range") (codes "range") (codes "range" ∷ words_of line) (words_of line) (reads.low_word ∷ reads.high_word ∷ []) refl reads.words_are).1 in
    let behind_low = (parts low reads.low_word (words_of line) (words_of high) (reads.high_word ∷ []) first all).1 in
    let same = one_word high reads.high_word behind_low in
    c.in_err-parse_bound-2.ensures.none to (subst (λ (word : List ℕ). Limits word to) (sym same) reads.high_is))
