use Rattle.std.proofs.Common.{refl, inl, inr, ◌∙◌}
use Rattle.std.specs.Prelude.{Some, None, Ok, Err}
use Rattle.std.proofs.lemmas.List.{length-set}
use Rattle.std.proofs.lemmas.List.Elements.{All-set}
use Rattle.lsm_sorted.specs.merge.Ends.{Goes, ends_size}
use Rattle.lsm_sorted.proofs.TakeLemmas.{moved_total, lowered_total, ended_total}
use Rattle.lsm_sorted.proofs.merge.Merger.take.Goals as goal

pub returns-in-Some-Ok-clause-lowers : goal.returns-in-Some-Ok-clause-lowers
returns-in-Some-Ok-clause-lowers g c =
    moved_total (ends_size g.I.Iterator.remaining) c.args.self.now.sources.items c.args.i c.index_mut-source.result.now c.ask.new.self _ _ c.new.result c.requires.place c.index_mut-source.ensures.value c.in-Some-Ok.ensures.lowers c.push.ensures.items

pub returns-in-Some-Ok-clause-goes : goal.returns-in-Some-Ok-clause-goes
returns-in-Some-Ok-clause-goes g c =
    All-set (Goes g.I.Iterator.next_gives g.E.End.back_gives g.I.Iterator.can_next g.E.End.can_back g.I.Iterator.remaining) c.args.self.now.sources.items c.args.i c.ask.new.self c.in-Some-Ok.ensures.goes c.requires.goes

pub returns-in-Some-Err-clause-goes : goal.returns-in-Some-Err-clause-goes
returns-in-Some-Err-clause-goes g c =
    All-set (Goes g.I.Iterator.next_gives g.E.End.back_gives g.I.Iterator.can_next g.E.End.can_back g.I.Iterator.remaining) c.args.self.now.sources.items c.args.i c.ask.new.self c.in-Some-Err.ensures.goes c.requires.goes

pub returns-in-None-clause-goes : goal.returns-in-None-clause-goes
returns-in-None-clause-goes g c =
    All-set (Goes g.I.Iterator.next_gives g.E.End.back_gives g.I.Iterator.can_next g.E.End.can_back g.I.Iterator.remaining) c.args.self.now.sources.items c.args.i c.ask.new.self c.in-None.ensures.goes c.requires.goes

pub returns-in-Some-Err-clause-lowers : goal.returns-in-Some-Err-clause-lowers
returns-in-Some-Err-clause-lowers g c =
    lowered_total (ends_size g.I.Iterator.remaining) c.args.self.now.sources.items c.args.i c.index_mut-source.result.now c.ask.new.self _ c.requires.place c.index_mut-source.ensures.value c.in-Some-Err.ensures.lowers

pub returns-in-None-clause-lowers : goal.returns-in-None-clause-lowers
returns-in-None-clause-lowers g c =
    ended_total (ends_size g.I.Iterator.remaining) c.args.self.now.sources.items c.args.i c.index_mut-source.result.now c.ask.new.self _ c.requires.place c.in-None.ensures.lowers

pub returns-in-Some-Ok-clause-adds : goal.returns-in-Some-Ok-clause-adds
returns-in-Some-Ok-clause-adds g c =
    inr (c.new.result, c.new.ensures.source, c.new.ensures.end ∙ c.end.ensures, c.push.ensures.items)

pub returns-in-None-clause-adds : goal.returns-in-None-clause-adds
returns-in-None-clause-adds g c =
    inl refl

pub returns-in-Some-Ok-clause-same : goal.returns-in-Some-Ok-clause-same
returns-in-Some-Ok-clause-same g c =
    record { count = length-set c.args.self.now.sources.items c.args.i c.ask.new.self; room = c.push.ensures.room; front_ready = refl; back_ready = refl; failed = refl }

pub returns-in-None-clause-same : goal.returns-in-None-clause-same
returns-in-None-clause-same g c =
    record { count = length-set c.args.self.now.sources.items c.args.i c.ask.new.self; room = refl; front_ready = refl; back_ready = refl; failed = refl }

pub returns-in-Some-Ok-clause-asks : goal.returns-in-Some-Ok-clause-asks
returns-in-Some-Ok-clause-asks g c = record {
  within = c.requires.place;
  was = c.index_mut-source.result.now;
  is = c.ask.new.self;
  answer = Some (Ok c.in-Some-Ok.item);
  found = c.index_mut-source.ensures.value;
  asked = rw c.in-Some-Ok.field-0-is at c.in-Some-Ok.ensures.asked;
  written = refl;
  puts = (c.new.result, c.new.ensures.entry, c.new.ensures.source, c.new.ensures.end ∙ c.end.ensures, c.push.ensures.items);
  returned = refl;
  same = returns-in-Some-Ok-clause-same g c;
}

pub returns-in-Some-Err-clause-asks : goal.returns-in-Some-Err-clause-asks
returns-in-Some-Err-clause-asks g c = record {
  within = c.requires.place;
  was = c.index_mut-source.result.now;
  is = c.ask.new.self;
  answer = Some (Err c.in-Some-Err.error);
  found = c.index_mut-source.ensures.value;
  asked = rw c.in-Some-Err.field-0-is at c.in-Some-Err.ensures.asked;
  written = refl;
  puts = refl;
  returned = refl;
  same = record { count = length-set c.args.self.now.sources.items c.args.i c.ask.new.self; room = refl; front_ready = refl; back_ready = refl; failed = refl };
}

pub returns-in-None-clause-asks : goal.returns-in-None-clause-asks
returns-in-None-clause-asks g c = record {
  within = c.requires.place;
  was = c.index_mut-source.result.now;
  is = c.ask.new.self;
  answer = None;
  found = c.index_mut-source.ensures.value;
  asked = c.in-None.ensures.asked;
  written = refl;
  puts = refl;
  returned = refl;
  same = returns-in-None-clause-same g c;
}
