use Rattle.std.proofs.Common.{ℕ, List, ◌∙◌, subst, sym}
use Rattle.std.specs.Prelude.{Option}
use Rattle.sst_entries.specs.Entry.{Entry}
use Rattle.sst_c.specs.Many.{AnswersMany, many_kept}
use Rattle.sst_c.proofs.ManyAnswers.{gives_err, gives_ok, kept_many, many_err, many_ok}
use Rattle.sst_c.proofs.many.keep_found.Goals as goal

pub returns-in-Ok-clause-returned : goal.returns-in-Ok-clause-returned
returns-in-Ok-clause-returned c returned gives =
    let answers = c.keep_each.new.answers.boxed.value in
    many_ok c.keep_each.result (many_kept answers) c.args.entries.now c.keep_each.new.entries c.in-Ok.each returned
    (gives_ok (λ (each : List (Option Entry)). each) c.args.found c.in-Ok.each returned c.in-Ok.is gives)
    c.keep_each.ensures.memory
    (λ zero. kept_many answers c.in-Ok.each (c.keep_each.ensures.many zero))
    c.keep_each.ensures.returned

pub returns-in-Err-clause-returned : goal.returns-in-Err-clause-returned
returns-in-Err-clause-returned c returned gives =
    let kept = many_kept c.args.answers.now.boxed.value in
    let old = c.args.entries.now in
    subst (λ (n : ℕ). AnswersMany n kept old old returned) (sym (c.from.ensures ∙ c.number.ensures))
    (many_err c.in-Err.error kept old old returned
    (gives_err (λ (each : List (Option Entry)). each) c.args.found c.in-Err.error returned c.in-Err.is gives))
