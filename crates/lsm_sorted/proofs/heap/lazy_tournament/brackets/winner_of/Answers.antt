use Rattle.std.proofs.Common.{sym, Some, None}
use Rattle.std.proofs.lemmas.List.{get_or_read}
use Rattle.lsm_sorted.specs.merge.Order.{toward}
use Rattle.lsm_sorted.proofs.OrderLemmas.{toward_total}
use Rattle.lsm_sorted.proofs.BracketLemmas.{is_beaten_self, is_beaten_back}
use Rattle.lsm_sorted.proofs.heap.lazy_tournament.brackets.winner_of.Goals as goal

pub returns-then-beats-clause-first : goal.returns-then-beats-clause-first
returns-then-beats-clause-first g c =
    let first = get_or_read c.args.slots.now c.args.first _ c.requires.first c.index-slots-first.is None in
    let second = get_or_read c.args.slots.now c.args.second _ c.requires.second c.index-slots-second.is None in
    rw (← first, ← second, c.in-Some-Some.is-0, c.in-Some-Some.is-1)
    (is_beaten_back (toward c.args.end g.T.Ord.cmp) (toward_total c.args.end g.met.T.Ord.total) (Some c.in-Some-Some.x) (Some c.in-Some-Some.y) (sym c.if-beats.ensures.value))

pub returns-then-beats-clause-second : goal.returns-then-beats-clause-second
returns-then-beats-clause-second g c = is_beaten_self _ (toward_total c.args.end g.met.T.Ord.total) _

pub returns-else-beats-clause-first : goal.returns-else-beats-clause-first
returns-else-beats-clause-first g c = is_beaten_self _ (toward_total c.args.end g.met.T.Ord.total) _

pub returns-in-None-Some-clause-second : goal.returns-in-None-Some-clause-second
returns-in-None-Some-clause-second g c = is_beaten_self _ (toward_total c.args.end g.met.T.Ord.total) _

pub returns-in_default-clause-first : goal.returns-in_default-clause-first
returns-in_default-clause-first g c = is_beaten_self _ (toward_total c.args.end g.met.T.Ord.total) _
