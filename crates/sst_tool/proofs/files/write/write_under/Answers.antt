use Rattle.std.proofs.Common.{◌∙◌, arith, rules}
use Rattle.std.specs.Fs.{permissions_mode}
use Rattle.std.specs.Option.{option_copied, option_map}
use Rattle.std.specs.Prelude.{string_bytes}
use Rattle.sst_tool.proofs.Steps.{passed_over, wrote_new}
use Rattle.sst_tool.proofs.There.{not_free, same_from, taken_more}
use Rattle.sst_tool.proofs.files.write.write_under.Goals as goal

pub returns-then-branch-clause-written : goal.returns-then-branch-clause-written
returns-then-branch-clause-written g c =
    wrote_new (g.P.Place.done c.args.place.now) (g.P.Place.done c.loop-number.place) (g.P.Place.done c.write_new.new.self) c.in_ok-write_new.field-0 c.as_str.result.now (string_bytes c.in_ok-temporary.temporary) c.args.bytes.now (option_map permissions_mode (option_copied c.args.permissions)) c.loop-number.invariant.done c.if-branch.true c.as_str.ensures.value c.in_ok-write_new.ensures.written

pub returns-then-branch-clause-elsewhere : goal.returns-then-branch-clause-elsewhere
returns-then-branch-clause-elsewhere g c =
    same_from c.as_str.result.now (string_bytes c.in_ok-temporary.temporary) (g.P.Place.there c.args.place.now) (g.P.Place.there c.loop-number.place) (g.P.Place.there c.write_new.new.self) c.as_str.ensures.value c.loop-number.invariant.same c.write_new.ensures.elsewhere

pub returns-then-branch-clause-same : goal.returns-then-branch-clause-same
returns-then-branch-clause-same g c =
    same_from c.as_str.result.now (string_bytes c.in_ok-temporary.temporary) (g.P.Place.modes c.args.place.now) (g.P.Place.modes c.loop-number.place) (g.P.Place.modes c.write_new.new.self) c.as_str.ensures.value c.loop-number.invariant.modes c.write_new.ensures.beside

pub returns-clause-taken : goal.returns-clause-taken
returns-clause-taken g c = λ n above below. c.loop-number.invariant.taken n (omega arith) above

pub loop-number-preserved : goal.loop-number-preserved
loop-number-preserved g c = record {
  done = passed_over (g.P.Place.done c.args.place.now) (g.P.Place.done c.loop-number.place) (g.P.Place.done c.write_new.new.self) c.in_ok-write_new.field-0 c.as_str.result.now c.args.bytes.now (option_map permissions_mode (option_copied c.args.permissions)) c.loop-number.invariant.done c.if-branch.false c.in_ok-write_new.ensures.written;
  same = c.in_ok-write_new.ensures.kept c.if-branch.false ∙ c.loop-number.invariant.same;
  modes = c.in_ok-write_new.ensures.same c.if-branch.false ∙ c.loop-number.invariant.modes;
  taken = taken_more (g.P.Place.there c.args.place.now) (g.P.Place.there c.loop-number.place) c.args.path.now c.as_str.result.now c.loop-number.number-counter c.loop-number.invariant.same (search rules) c.loop-number.invariant.taken
      (not_free (g.P.Place.there c.loop-number.place c.as_str.result.now) c.in_ok-write_new.field-0 c.if-branch.false c.in_ok-write_new.ensures.free);
}
