use Rattle.std.specs.Prelude.{Some, None, ◌-◌, ◌^◌}
use Rattle.std.proofs.Common.{ap, ◌∙◌}
use Rattle.lsm_iters.specs.Range.{Handles}
use Rattle.lsm_iters.proofs.Edges.{high_is, low_is, seeks_once}
use Rattle.lsm_iters.proofs.handles.Handles.seek_edges.Goals.{in-Some+in_ok-keep_lower, in_default}
use Rattle.lsm_iters.proofs.handles.Handles.seek_edges.Goals as goal

pub returns-in_ok-keep_upper-clause-ok : goal.returns-in_ok-keep_upper-clause-ok
returns-in_ok-keep_upper-clause-ok g c =
    let unsought = ap (λ (h : Handles _). h.sought) c.self.view_is ∙ c.requires in
    let before = c.self.invariant unsought in
    let high = high_is c.args.upper.now c.in-Some-upper.bound c.key-in-Some-upper.result.now c.in-Some-upper.is c.key-in-Some-upper.ensures in
    elim c.match-lower.branch [
      | in-Some+in_ok-keep_lower w ↦
          let low = low_is c.args.lower.now w.in-Some.bound w.key.result.now w.in-Some.is w.key.ensures in
          let first = w.in_ok-keep_lower.ensures.sought before.0 in
          rw (← c.self.view_is, ← low, ← high, w.self-inside-is) (seeks_once _ _ _ _ unsought before.1 before.1 (c.in_ok-keep_upper.ensures.sought (Some (w.key.result.now, 2 ^ 64 - 1)) (rw w.self-inside-is first)) (rw w.self-inside-is at c.keep_upper.ensures.none.index ∙ w.keep_lower.ensures.none.index))
      | in_default w ↦
          rw (← c.self.view_is, w.in_default.is, ← high, w.self-inside-is) (seeks_once _ _ _ _ unsought before.1 before.1 (c.in_ok-keep_upper.ensures.sought None (rw w.self-inside-is before.0)) (rw w.self-inside-is at c.keep_upper.ensures.none.index))
    ]
