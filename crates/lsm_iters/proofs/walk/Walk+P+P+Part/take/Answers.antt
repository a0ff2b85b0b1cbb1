use Rattle.lsm_iters.proofs.Reaching.{entered, fault, item, kept, parts_far, parts_near, rest}
use Rattle.lsm_iters.proofs.walk.Walk+P+P+Part.take.Goals as goal

pub returns-in-Some : goal.returns-in-Some
returns-in-Some g c =
    item g.P.Part.Ends.left g.P.Parts.coming g.P.Parts.keeps c.args.at c.args.self.now c.loop-item.self c.step_near.new.self c.in-Some.item c.loop-item.invariant c.in-Some.ensures.gives c.in-Some.ensures.is

pub loop-item-preserved : goal.loop-item-preserved
loop-item-preserved g c =
    let none = c.in_default.ensures in
    let there = kept g.P.Part.Ends.left g.P.Parts.coming g.P.Parts.keeps c.args.at c.args.self.now c.loop-item.self c.step_near.new.self c.loop-item.invariant.reached none.gives none.is in
    entered g.P.Part.Ends.left g.P.Parts.coming g.P.Parts.keeps c.args.at c.args.self.now c.step_near.new.self c.put.new.self c.load.new.self c.in-Some-Ok.part there none.gives.answer.1.results (rw c.in-Some-Ok.field-0-is at c.in-Some-Ok.ensures) c.put.ensures

pub returns-in-Some-Err : goal.returns-in-Some-Err
returns-in-Some-Err g c =
    let none = c.in_default.ensures in
    let there = kept g.P.Part.Ends.left g.P.Parts.coming g.P.Parts.keeps c.args.at c.args.self.now c.loop-item.self c.step_near.new.self c.loop-item.invariant.reached none.gives none.is in
    fault g.P.Part.Ends.left g.P.Parts.coming g.P.Parts.keeps c.args.at c.args.self.now c.step_near.new.self (record c.step_near.new.self { parts = c.load.new.self }) c.in-Some-Err.error there none.gives.answer.1.results (rw c.in-Some-Err.field-0-is at c.in-Some-Err.ensures) (parts_near g.P.Part.Ends.left g.P.Parts.coming c.args.at c.step_near.new.self c.load.new.self) (parts_far g.P.Part.Ends.left g.P.Parts.coming c.args.at c.step_near.new.self c.load.new.self)

pub returns-in-None : goal.returns-in-None
returns-in-None g c =
    let none = c.in_default.ensures in
    let there = kept g.P.Part.Ends.left g.P.Parts.coming g.P.Parts.keeps c.args.at c.args.self.now c.loop-item.self c.step_near.new.self c.loop-item.invariant.reached none.gives none.is in
    rest g.P.Part.Ends.left g.P.Parts.coming g.P.Parts.keeps c.args.at c.args.self.now c.step_near.new.self (record c.step_near.new.self { parts = c.load.new.self }) c.step_far.new.self c.step_far.result there none.gives.answer.1 c.in-None.ensures (parts_near g.P.Part.Ends.left g.P.Parts.coming c.args.at c.step_near.new.self c.load.new.self) (parts_far g.P.Part.Ends.left g.P.Parts.coming c.args.at c.step_near.new.self c.load.new.self) c.step_far.ensures.gives c.step_far.ensures.is
