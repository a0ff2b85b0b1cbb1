use Rattle.std.proofs.Common.{◌∙◌, arith, rules}
use Rattle.std.specs.Prelude.{string_bytes}
use Rattle.sst_tool.proofs.There.{same_from, taken_more}
use Rattle.sst_tool.proofs.files.new_folder.make_beside.Goals as goal

pub returns-in-Ok-clause-elsewhere : goal.returns-in-Ok-clause-elsewhere
returns-in-Ok-clause-elsewhere g c =
    same_from c.as_str.result.now (string_bytes c.in_ok-beside.beside) (g.P.Place.there c.args.place.now) (g.P.Place.there c.loop-number.place) (g.P.Place.there c.make_folder.new.self) c.as_str.ensures.value c.loop-number.invariant.same c.make_folder.ensures.elsewhere

pub returns-clause-taken : goal.returns-clause-taken
returns-clause-taken g c = (
  c.without_slashes-stem.result.now,
  c.without_slashes-stem.ensures,
  λ n above below. c.loop-number.invariant.taken n (omega arith) above,
)

pub loop-number-preserved : goal.loop-number-preserved
loop-number-preserved g c = record {
  done = c.in-Err.ensures.refused ∙ c.loop-number.invariant.done;
  same = c.in-Err.ensures.kept ∙ c.loop-number.invariant.same;
  taken = taken_more (g.P.Place.there c.args.place.now) (g.P.Place.there c.loop-number.place) c.without_slashes-stem.result.now c.as_str.result.now c.loop-number.number-counter c.loop-number.invariant.same (search rules) c.loop-number.invariant.taken (c.in-Err.ensures.taken (search rules));
}
