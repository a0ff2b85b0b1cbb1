use Rattle.std.proofs.Common.{false, subst, sym, true}
use Rattle.std.specs.Prelude.{Option, Result}
use Rattle.sst_entries.specs.Entry.{Entry}
use Rattle.sst_entries.specs.declared.error.Error.{Error}
use Rattle.lsm_files.specs.Results.{FileGives}
use Rattle.sst_tool.proofs.Gets.{has_by, read_inside, read_outside, sound_read}
use Rattle.sst_tool.proofs.show.gets.find_in.Goals as goal

pub returns-then-not-contains_key-clause-found : goal.returns-then-not-contains_key-clause-found
returns-then-not-contains_key-clause-found g c known =
    read_outside c.args.key.now c.args.seqno c.args.table.now
    (has_by c.args.table.now c.deref.result.now c.args.key.now c.contains_key.result false
    (c.requires known) c.deref.ensures c.contains_key.ensures c.if-not-contains_key.true)

pub returns-clause-found : goal.returns-clause-found
returns-clause-found g c known =
    subst (λ (r : Result (Option Entry) Error).
    FileGives g.R.ReadAt.reads (λ (x : Option Entry). x) c.get.result r)
    (sym (read_inside c.args.key.now c.args.seqno c.args.table.now
    (has_by c.args.table.now c.deref.result.now c.args.key.now c.contains_key.result true
    (c.requires known) c.deref.ensures c.contains_key.ensures c.if-not-contains_key.false)))
    (c.get.ensures.returned known)

pub returns-clause-sound : goal.returns-clause-sound
returns-clause-sound g c known sound =
    sound_read g.R.ReadAt.reads c.get.result _ (c.get.ensures.list known sound.0 sound.1)
