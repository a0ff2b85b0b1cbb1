use Rattle.std.proofs.Common.{◌≡◌, ◌∙◌, refl, sym, subst, arith, IsTrue, List, [], ◌∷◌, ◌++◌, ◌+◌, ℕ}
use Rattle.std.specs.Prelude.{None, Option}
use Rattle.sst_entries.specs.Entry.{Entry}
use Rattle.sst_entries.specs.Lending.{entry_of_ref}
use Rattle.sst_entries.specs.Strict.{last_of}
use Rattle.lsm_writers.specs.Counts.{added, tally_of}
use Rattle.lsm_writers.specs.Writing.{Writing, written, may_be_written}
use Rattle.sst_blocks.specs.table.Chunks.{entry_size, is_full, joined}
use Rattle.sst_blocks.specs.table.Facts.{starts_key}
use Rattle.lsm_writers.specs.Filtering.{MayHaveKeys, registered_key}
use Rattle.lsm_writers.proofs.Filtered.{may_register, registered_now}
use Rattle.sst_entries.proofs.Refusals.{faults_refusal, faults_memory}
use Rattle.sst_entries.proofs.StreamLemmas.{on_err}
use Rattle.lsm_writers.proofs.Gaining.{filter_taken, gained_is, left_is, parts_left, parts_taken, room_taken, write_fault_is, write_fault_none}
use Rattle.lsm_writers.proofs.Refused.{none_some}
use Rattle.lsm_writers.proofs.Taking.{taken_counted, held_fits, has_room, short_entry}
use Rattle.lsm_writers.proofs.Turning.{refuses_passed}
use Rattle.lsm_writers.proofs.writer.Writer.write_ref.Goals as goal

pub admit-requires-clause-rising : goal.admit-requires-clause-rising
admit-requires-clause-rising g c =
    let i = c.self.inside in
    let e = entry_of_ref c.args.entry.now in
    let next = subst (λ (w : Writing). IsTrue (may_be_written (written w) e.user_key e.seqno)) (sym c.self.view_is) c.requires in
    let before = c.last_written.ensures.last in
    rw before (may_register i.failed _ _ _ i.blocks.chunks i.chunk e (last_of None (joined i.blocks.chunks)) i.meta.first_key (tally_of (last_of (last_of None (joined i.blocks.chunks)) i.chunk) e i.meta.first_key) e.user_key c.self.invariant.3 c.if-self.false c.self.invariant.0.strict next refl refl refl)

pub take_entry-requires-clause-strict : goal.take_entry-requires-clause-strict
take_entry-requires-clause-strict g c =
    let i = c.self.inside in
    let e = entry_of_ref c.args.entry.now in
    let next = subst (λ (w : Writing). IsTrue (may_be_written (written w) e.user_key e.seqno)) (sym c.self.view_is) c.requires in
    let before = c.last_written.ensures.last in
    let tally = subst (λ (x : Option Entry). c.in_ok-tally.tally ≡ tally_of x e i.meta.first_key) before c.in_ok-tally.ensures.tally in
    let held = taken_counted i.options.data_block_size i.blocks.chunks i.chunk i.chunk_size i.meta e (last_of None (joined i.blocks.chunks)) (i.chunk ++ e ∷ []) (i.chunk_size + entry_size e) c.in_ok-tally.tally (added c.in_ok-tally.tally i.meta) c.self.invariant.0 (c.self.invariant.1.room c.if-self.false) next c.in_ok-tally.ensures.refused refl refl refl tally refl in
    held.strict

pub take_entry-requires-clause-fit : goal.take_entry-requires-clause-fit
take_entry-requires-clause-fit g c =
    let i = c.self.inside in
    let e = entry_of_ref c.args.entry.now in
    let next = subst (λ (w : Writing). IsTrue (may_be_written (written w) e.user_key e.seqno)) (sym c.self.view_is) c.requires in
    let before = c.last_written.ensures.last in
    let tally = subst (λ (x : Option Entry). c.in_ok-tally.tally ≡ tally_of x e i.meta.first_key) before c.in_ok-tally.ensures.tally in
    let held = taken_counted i.options.data_block_size i.blocks.chunks i.chunk i.chunk_size i.meta e (last_of None (joined i.blocks.chunks)) (i.chunk ++ e ∷ []) (i.chunk_size + entry_size e) c.in_ok-tally.tally (added c.in_ok-tally.tally i.meta) c.self.invariant.0 (c.self.invariant.1.room c.if-self.false) next c.in_ok-tally.ensures.refused refl refl refl tally refl in
    held_fits _ _ _ _ _ held

pub count-requires : goal.count-requires
count-requires g c =
    let i = c.self.inside in
    let held = c.self.invariant.0 in
    let room = has_room i.blocks.chunks i.chunk i.meta held.counted c.last_written.ensures.few (omega (arith, held.small)) in
    room_taken _ _ _ _ _ _ _ _ room c.in_ok-take_entry.ensures.taken

pub invariant_of-self-2 : goal.invariant_of-self-2
invariant_of-self-2 g c =
    let i = c.self.inside in
    let e = entry_of_ref c.args.entry.now in
    let next = subst (λ (w : Writing). IsTrue (may_be_written (written w) e.user_key e.seqno)) (sym c.self.view_is) c.requires in
    let before = c.last_written.ensures.last in
    let tally = subst (λ (x : Option Entry). c.in_ok-tally.tally ≡ tally_of x e i.meta.first_key) before c.in_ok-tally.ensures.tally in
    let held = taken_counted i.options.data_block_size i.blocks.chunks i.chunk i.chunk_size i.meta e (last_of None (joined i.blocks.chunks)) (i.chunk ++ e ∷ []) (i.chunk_size + entry_size e) c.in_ok-tally.tally (added c.in_ok-tally.tally i.meta) c.self.invariant.0 (c.self.invariant.1.room c.if-self.false) next c.in_ok-tally.ensures.refused refl refl refl tally refl in
    let size = i.options.data_block_size in
    let kind = i.options.filter_kind in
    let policy = i.options.bloom_policy in
    let t = c.take_entry.new in
    let taken = c.in_ok-take_entry.ensures.taken in
    let done = parts_taken (is_full size (i.chunk ++ e ∷ [])) size i.blocks t.blocks i.chunk e (i.chunk_size + entry_size e) t.chunk t.chunk_size c.in_ok-tally.tally i.meta t.meta c.count.new.self refl held (c.self.invariant.1.works c.if-self.false) taken c.count.ensures in
    let more = subst (λ (x : Option Entry). (keys : List (List ℕ)) → MayHaveKeys kind policy i.filter_writer keys → MayHaveKeys kind policy c.admit.new.filter_writer (keys ++ registered_key policy (starts_key x e) e.user_key)) before c.in_ok-tally.ensures.registered in
    let filtered = registered_now i.failed kind policy i.filter_writer c.admit.new.filter_writer i.blocks.chunks i.chunk (i.chunk ++ e ∷ []) e (last_of None (joined i.blocks.chunks)) i.meta.first_key (tally_of (last_of (last_of None (joined i.blocks.chunks)) i.chunk) e i.meta.first_key) e.user_key c.self.invariant.3 c.if-self.false refl refl refl refl more in
    (done.0, done.1, c.self.invariant.2, filter_taken (is_full size (i.chunk ++ e ∷ [])) kind policy c.admit.new.filter_writer i.blocks t.blocks i.chunk e t.chunk t.chunk_size i.meta t.meta filtered taken)

pub returns-clause-ok : goal.returns-clause-ok
returns-clause-ok g c =
    let i = c.self.inside in
    let t = c.take_entry.new in
    rw (← c.self.view_is) (gained_is i.label i.options i.blocks t.blocks i.chunk t.chunk i.failed (entry_of_ref c.args.entry.now) t.chunk_size i.meta t.meta c.if-self.false c.in_ok-take_entry.ensures.taken)

-- ---- an entry that is refused is given up

pub invariant_of-self : goal.invariant_of-self
invariant_of-self g c =
    let i = c.self.inside in
    parts_left i.options.data_block_size i.blocks i.blocks i.chunk i.chunk i.chunk_size i.chunk_size i.meta i.meta i.label i.failed i.options.filter_kind i.options.bloom_policy i.filter_writer c.admit.new.filter_writer _ refl refl refl refl c.self.invariant.0 c.self.invariant.2 c.self.invariant.3

pub returns-in_err-tally-clause-refused : goal.returns-in_err-tally-clause-refused
returns-in_err-tally-clause-refused g c =
    let i = c.self.inside in
    rw (← c.self.view_is) (faults_refusal c.from_residual.result c.in_err-tally.field-0.0 _ c.from_residual.ensures.1
    (λ memory. write_fault_is i.label i.options i.blocks i.chunk i.failed (entry_of_ref c.args.entry.now) c.if-self.false ∙ c.in_err-tally.ensures.refused memory))

pub returns-in_err-tally-clause-first : goal.returns-in_err-tally-clause-first
returns-in_err-tally-clause-first g c =
    let i = c.self.inside in
    rw (← c.self.view_is) (λ x early. refuses_passed c.from_residual.result c.in_err-tally.field-0.0 x c.from_residual.ensures.1
    (c.in_err-tally.ensures.first x (sym (write_fault_is i.label i.options i.blocks i.chunk i.failed (entry_of_ref c.args.entry.now) c.if-self.false) ∙ early)))

pub invariant_of-self-in_err-take_entry : goal.invariant_of-self-in_err-take_entry
invariant_of-self-in_err-take_entry g c =
    let i = c.self.inside in
    let t = c.take_entry.new in
    let r = c.in_err-take_entry.ensures in
    parts_left i.options.data_block_size i.blocks t.blocks i.chunk t.chunk i.chunk_size t.chunk_size i.meta t.meta i.label i.failed i.options.filter_kind i.options.bloom_policy i.filter_writer c.admit.new.filter_writer _ r.left r.same_size r.uncut r.uncounted c.self.invariant.0 c.self.invariant.2 c.self.invariant.3

pub returns-in_err-take_entry-clause-refused : goal.returns-in_err-take_entry-clause-refused
returns-in_err-take_entry-clause-refused g c = faults_memory c.from_residual-in_err-take_entry.result c.in_err-take_entry.field-0.0 _ c.from_residual-in_err-take_entry.ensures.1 c.in_err-take_entry.ensures.err

pub returns-in_err-take_entry-clause-first : goal.returns-in_err-take_entry-clause-first
returns-in_err-take_entry-clause-first g c =
    let i = c.self.inside in
    rw (← c.self.view_is) (λ x returned. absurd (none_some x (sym (write_fault_none i.label i.options i.blocks i.chunk i.failed (entry_of_ref c.args.entry.now) c.if-self.false c.in_ok-tally.ensures.refused) ∙ returned)))

pub returns-in_err-take_entry-clause-failed : goal.returns-in_err-take_entry-clause-failed
returns-in_err-take_entry-clause-failed g c =
    let i = c.self.inside in
    let t = c.take_entry.new in
    let r = c.in_err-take_entry.ensures in
    rw (← c.self.view_is) (on_err c.from_residual-in_err-take_entry.result (left_is i.label i.options i.blocks t.blocks i.chunk t.chunk i.failed r.left r.uncut))

-- ---- and nothing is refused of one that is taken

pub returns-clause-refused : goal.returns-clause-refused
returns-clause-refused g c =
    let i = c.self.inside in
    rw (← c.self.view_is) (write_fault_none i.label i.options i.blocks i.chunk i.failed (entry_of_ref c.args.entry.now) c.if-self.false c.in_ok-tally.ensures.refused)

pub returns-clause-first : goal.returns-clause-first
returns-clause-first g c =
    let i = c.self.inside in
    rw (← c.self.view_is) (λ x returned. absurd (none_some x (sym (write_fault_none i.label i.options i.blocks i.chunk i.failed (entry_of_ref c.args.entry.now) c.if-self.false c.in_ok-tally.ensures.refused) ∙ returned)))

pub take_entry-requires-clause-short : goal.take_entry-requires-clause-short
take_entry-requires-clause-short g c = short_entry c.self.inside.chunk (entry_of_ref c.args.entry.now) c.in_ok-tally.ensures.refused
