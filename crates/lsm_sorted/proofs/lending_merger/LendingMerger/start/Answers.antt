-- Each source is asked for its first entry.
use Rattle.std.proofs.Common.{◌≡◌, ◌<◌, ◌+◌, refl, sym, ◌∙◌, ap, subst, [], length, map, arith}
use Rattle.std.specs.Prelude.{All, nat_lt, not}
use Rattle.std.proofs.lemmas.List.Elements.{All-nil, recursion_from_All}
use Rattle.std.proofs.lemmas.Result.{err_from_is_err_and}
use Rattle.lsm_sorted.specs.lending.Lent.{queued, source_of}
use Rattle.lsm_sorted.proofs.LentLemmas.{below_not_among}
use Rattle.lsm_sorted.proofs.LentSteps.{starts_none, starts_more, starts_all, starts_fault}
use Rattle.lsm_sorted.proofs.LentSteps.{waits_itself, known_more}
use Rattle.lsm_sorted.proofs.lending_merger.LendingMerger.start.Goals as goal

pub loop-source-init : goal.loop-source-init
loop-source-init g c =
    let m = c.args.self.now in
    let none : length m.queue.items ≡ 0 = ap length c.requires.fresh in
    let sources : queued m ≡ [] = ap (map source_of) c.requires.fresh in
    record {
      ready = c.requires.ready;
      count = refl;
      same = refl;
      known = subst (All (λ q. q < 0)) (sym sources) (All-nil (λ q. q < 0));
      few = omega (arith, none);
      lowers = omega arith;
      rests = λ stops lists h. starts_none stops g.L.Lending.advances g.L.Lending.lent m.sources.items (queued m) lists sources h;
    }

pub go_on-requires-clause-apart : goal.go_on-requires-clause-apart
go_on-requires-clause-apart g c =
    let m = c.loop-source.self in
    below_not_among c.loop-source.source (queued m) (recursion_from_All (λ q. q < c.loop-source.source) (queued m) c.loop-source.invariant.known)

pub go_on-requires-clause-space : goal.go_on-requires-clause-space
go_on-requires-clause-space g c =
    let before = c.loop-source.invariant in
    omega (arith, before.few, before.ready.room, before.count, c.loop-source-test.true, c.len-source-end.ensures)

pub loop-source-preserved : goal.loop-source-preserved
loop-source-preserved g c =
    let before = c.loop-source.invariant in
    let i = c.loop-source.source in
    let n = c.go_on.new.self in
    record {
      ready = c.in_ok-go_on.ensures.ready;
      count = c.in_ok-go_on.ensures.count ∙ before.count;
      same = c.in_ok-go_on.ensures.same ∙ before.same;
      known = c.in_ok-go_on.ensures.known (i + 1) (omega arith) (known_more i (queued c.loop-source.self) before.known);
      few = omega (arith, c.in_ok-go_on.ensures.few, before.few);
      lowers = omega (arith, c.in_ok-go_on.ensures.lowers, before.lowers);
      rests = λ stops lists h. starts_more stops g.L.Lending.advances g.L.Lending.lent n.sources.items (queued n) lists i
          (c.in_ok-go_on.ensures.goes stops (λ j. not (nat_lt j i)) lists (before.rests stops lists h) (waits_itself i));
    }

pub returns-clause-starts : goal.returns-clause-starts
returns-clause-starts g c stops lists h =
    let before = c.loop-source.invariant in
    let n = c.loop-source.self in
    starts_all stops g.L.Lending.advances g.L.Lending.lent n.sources.items (queued n) lists c.loop-source.source
    (omega (arith, before.count, c.loop-source-test.false, c.len-source-end.ensures)) (before.rests stops lists h)

pub returns-in_err-go_on-clause-starts : goal.returns-in_err-go_on-clause-starts
returns-in_err-go_on-clause-starts g c stops lists h =
    let p = err_from_is_err_and c.from_residual.result c.from_residual.ensures.1 in
    let before = c.loop-source.invariant in
    let m = c.loop-source.self in
    let i = c.loop-source.source in
    rw (p.1, p.2) (λ fine. starts_fault stops g.L.Lending.advances g.L.Lending.lent m.sources.items (queued m) lists i c.in_err-go_on.field-0.0 (before.rests stops lists h)
    (omega (arith, before.count, c.loop-source-test.true, c.len-source-end.ensures))
    (c.in_err-go_on.ensures.goes stops (λ j. not (nat_lt j i)) lists (before.rests stops lists h) (waits_itself i) fine))
