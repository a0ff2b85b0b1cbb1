use Rattle.std.proofs.Common.{◌≡◌, ◌∙◌, ap, refl, rules, sym, subst, [], ℕ, Bool, true, List}
use Rattle.std.specs.Prelude.{Option, Err, map}
use Rattle.std.specs.Arc.{arc_value}
use Rattle.sst_script.specs.declared.stop.Stop.{Stop}
use Rattle.std.specs.Io.Buffered.{reader_remaining}
use Rattle.sst_script.specs.declared.stop.Stop.TheVariants.{Input}
use Rattle.sst_script.specs.Lines.{LosesLine, ReadsLine}
use Rattle.sst_script.proofs.CompactLemmas.{able_none}
use Rattle.sst_script.proofs.RefusalLemmas.{passed}
use Rattle.sst_script.proofs.ScriptLemmas.{at_start, at_more, at_failure, at_stop}
use Rattle.sst_script.proofs.script.answer_script.Goals as goal

-- a line was read
line_read : (more : Bool) (old new : Option (List ℕ)) (found line : List ℕ) → ReadsLine old new found more → more ≡ true → line ≡ found → LosesLine old new line
line_read more old new found line reads holds is =
    let loses : LosesLine old new found = subst (λ (y : Bool). ReadsLine old new found y) holds reads in
    subst (λ (l : List ℕ). LosesLine old new l) (sym is) loses

pub returns-in_err-clone : goal.returns-in_err-clone
returns-in_err-clone g c = at_failure c.from_residual.result (passed c.from_residual.result Input c.from_residual.ensures.1) (at_start g.row.A.Denot _ _)

pub returns-in_err-script : goal.returns-in_err-script
returns-in_err-script g c = at_failure c.from_residual-in_err-script.result (passed c.from_residual-in_err-script.result Input c.from_residual-in_err-script.ensures.1) (at_start g.row.A.Denot _ _)

pub returns-in_err-clone-2 : goal.returns-in_err-clone-2
returns-in_err-clone-2 g c = at_failure c.from_residual-in_err-clone-2.result (passed c.from_residual-in_err-clone-2.result Input c.from_residual-in_err-clone-2.ensures.1) (at_start g.row.A.Denot _ _)

pub returns-in_err-input : goal.returns-in_err-input
returns-in_err-input g c = at_failure c.from_residual-in_err-input.result (search rules) (at_start g.row.A.Denot _ _)

pub loop-before-init : goal.loop-before-init
loop-before-init g c =
    let new = c.in_ok-script.ensures in
    let left : reader_remaining g.R.Read.remaining c.in_ok-input.input ≡ g.R.Read.remaining c.args.input = search rules in
    (rw new.1 able_none, ([], ap (map arc_value) (sym new.1), rw (new.0, new.2, left) (at_start g.row.A.Denot _ _)))

pub returns-in_err-read_line : goal.returns-in_err-read_line
returns-in_err-read_line g c =
    let r = c.from_residual-in_err-read_line.result in
    let e = c.in_err-read_line.field-0.0 in
    at_failure r (passed r e c.from_residual-in_err-read_line.ensures.1 ∙ ap (λ (stop : Stop). Err stop) c.in_err-read_line.ensures.failed) c.loop-before.invariant.1.2

pub returns-in_err-answer_line : goal.returns-in_err-answer_line
returns-in_err-answer_line g c =
    let here = c.loop-before.invariant.1 in
    let line = c.deref.result.now in
    let stop = c.in_err-answer_line.field-0.0 in
    let left = reader_remaining g.R.Read.remaining c.read_line.new.input in
    let loses : LosesLine (reader_remaining g.R.Read.remaining c.loop-before.input) left line = search rules in
    at_stop c.from_residual-in_err-answer_line.result left _ _ line stop c.answer_line.result (passed c.from_residual-in_err-answer_line.result stop c.from_residual-in_err-answer_line.ensures.1) c.in_err-answer_line.was here.2 loses (c.answer_line.ensures.ended here.0 here.1).2

pub loop-before-preserved : goal.loop-before-preserved
loop-before-preserved g c =
    let here = c.loop-before.invariant.1 in
    let line = c.deref.result.now in
    let loses : LosesLine (reader_remaining g.R.Read.remaining c.loop-before.input) (reader_remaining g.R.Read.remaining c.read_line.new.input) line =
    line_read c.in_ok-read_line.field-0 _ _ c.read_line.new.line.items line c.in_ok-read_line.ensures.read c.if-not-branch.false c.deref.ensures.value in
    let done = c.in_ok-answer_line.ensures.ended here.0 here.1 in
    (c.in_ok-answer_line.ensures.able, (done.0, done.1, at_more line c.in_ok-answer_line.field-0 here.2 loses done.2))

pub returns : goal.returns
returns g c = at_failure {X = Unit {0}} (Err Input) refl c.loop-before.invariant.1.2
