use Rattle.std.proofs.Common.{◌≡◌, ◌∙◌, None, ap, true}
use Rattle.sst_entries.proofs.Refusals.{faults_refusal}
use Rattle.sst_entries.specs.Lending.{entry_of_ref}
use Rattle.lsm_writers.specs.Tables.{took_fault, turn_fault}
use Rattle.lsm_writers.specs.Tables.{HasRoomFor}
use Rattle.lsm_writers.specs.Writing.{Writing}
use Rattle.lsm_writers.proofs.Fitting.{room_fault, room_turn}
use Rattle.lsm_writers.proofs.ListWriting.{same_label}
use Rattle.lsm_writers.proofs.Refused.{if_err, memory_alone}
use Rattle.lsm_writers.proofs.Turning.{early_due, early_is, fault_is, fault_turned, held_standing, ids_are, left_standing, left_still, listed_is, next_follows, refuses_passed, spent_fault, spent_first, spent_ids, spent_left, spent_memory, still_goes_on, took_is}
use Rattle.lsm_writers.proofs.multi_writer.MultiWriter.write_ref.Goals as goal

pub returns-in_err-make_ready-clause-first : goal.returns-in_err-make_ready-clause-first
returns-in_err-make_ready-clause-first g c =
    let i = c.self.inside in
    rw (← c.self.view_is) (λ x early. refuses_passed c.from_residual.result c.in_err-make_ready.field-0.0 x c.from_residual.ensures.1 (c.in_err-make_ready.ensures.first x (early_due i.target_size i.ids i.finished.items i.writer (entry_of_ref c.args.entry.now) i.failed x c.if-self.false c.in_err-make_ready.ensures.idle early)))

pub write_ref-requires : goal.write_ref-requires
write_ref-requires g c =
    let i = c.self.inside in
    let n = c.make_ready.new in
    let next = rw (← c.self.view_is) at c.requires in
    next_follows i.target_size i.ids n.ids i.finished.items n.finished.items i.writer n.writer (entry_of_ref c.args.entry.now) i.failed c.if-self.false c.in_ok-make_ready.ensures.ok (c.self.invariant.1 c.if-self.false) next

pub returns-in_err-write_ref-clause-refused : goal.returns-in_err-write_ref-clause-refused
returns-in_err-write_ref-clause-refused g c =
    let i = c.self.inside in
    let n = c.make_ready.new in
    rw (← c.self.view_is) (faults_refusal c.from_residual-in_err-write_ref.result c.in_err-write_ref.field-0.0 _ c.from_residual-in_err-write_ref.ensures.1
    (λ memory. fault_is i.target_size i.ids n.ids i.finished.items n.finished.items i.writer n.writer (entry_of_ref c.args.entry.now) i.failed c.if-self.false c.in_ok-make_ready.ensures.ok c.in_ok-make_ready.ensures.refused ∙ c.in_err-write_ref.ensures.refused memory))

pub returns-in_err-write_ref-clause-first : goal.returns-in_err-write_ref-clause-first
returns-in_err-write_ref-clause-first g c =
    let i = c.self.inside in
    let n = c.make_ready.new in
    rw (← c.self.view_is) (λ x early. refuses_passed c.from_residual-in_err-write_ref.result c.in_err-write_ref.field-0.0 x c.from_residual-in_err-write_ref.ensures.1
    (c.in_err-write_ref.ensures.first x (early_is i.target_size i.ids n.ids i.finished.items n.finished.items i.writer n.writer (entry_of_ref c.args.entry.now) i.failed c.if-self.false c.in_ok-make_ready.ensures.ok c.in_ok-make_ready.ensures.refused x early)))

pub returns-in_err-write_ref-clause-memory : goal.returns-in_err-write_ref-clause-memory
returns-in_err-write_ref-clause-memory g c =
    λ none. memory_alone c.from_residual-in_err-write_ref.result _ none (returns-in_err-write_ref-clause-refused g c)

pub invariant_of-self-2 : goal.invariant_of-self-2
invariant_of-self-2 g c =
    let i = c.self.inside in
    let n = c.make_ready.new in
    let v = c.write_ref.new.self in
    let taken = c.in_ok-write_ref.ensures.ok in
    let same = same_label n.writer (entry_of_ref c.args.entry.now) in
    let next = rw (← c.self.view_is) at c.requires in
    let goes = c.self.invariant.1 c.if-self.false in (
      held_standing i.target_size i.ids n.ids i.finished.items n.finished.items i.writer n.writer (entry_of_ref c.args.entry.now) i.failed c.if-self.false c.in_ok-make_ready.ensures.ok c.in_ok-make_ready.ensures.refused c.self.invariant.0 goes v (ap (λ (w : Writing). w.label) taken ∙ same.0) (ap (λ (w : Writing). w.options) taken ∙ same.1),
      λ works. still_goes_on i.target_size i.ids n.ids i.finished.items n.finished.items i.writer n.writer (entry_of_ref c.args.entry.now) i.failed c.if-self.false c.in_ok-make_ready.ensures.ok c.in_ok-make_ready.ensures.refused v taken goes next,
    )

-- after an error

pub invariant_of-self-in_err-write_ref : goal.invariant_of-self-in_err-write_ref
invariant_of-self-in_err-write_ref g c =
    let i = c.self.inside in
    let n = c.make_ready.new in
    let v = c.write_ref.new.self in
    let spent = c.in_err-write_ref.ensures.failed in (
      held_standing i.target_size i.ids n.ids i.finished.items n.finished.items i.writer n.writer (entry_of_ref c.args.entry.now) i.failed c.if-self.false c.in_ok-make_ready.ensures.ok c.in_ok-make_ready.ensures.refused c.self.invariant.0 (c.self.invariant.1 c.if-self.false) v (ap (λ (w : Writing). w.label) spent) (ap (λ (w : Writing). w.options) spent),
      λ works. absurd cc,
    )

pub returns-in_err-make_ready-clause-left : goal.returns-in_err-make_ready-clause-left
returns-in_err-make_ready-clause-left g c =
    let i = c.self.inside in
    let n = c.make_ready.new in
    let x = c.in_err-make_ready.field-0.0 in
    rw (← c.self.view_is) (if_err c.from_residual.result x _ c.from_residual.ensures.1 (left_still i.target_size i.ids n.ids i.finished.items n.finished.items i.writer n.writer (entry_of_ref c.args.entry.now) i.failed true c.if-self.false c.in_err-make_ready.ensures.left x c.in_err-make_ready.ensures.refused))

pub returns-in_err-write_ref-clause-left : goal.returns-in_err-write_ref-clause-left
returns-in_err-write_ref-clause-left g c =
    let i = c.self.inside in
    let n = c.make_ready.new in
    let v = c.write_ref.new.self in
    let x = c.in_err-write_ref.field-0.0 in
    let spent = c.in_err-write_ref.ensures.failed in
    rw (← c.self.view_is) (if_err c.from_residual-in_err-write_ref.result x _ c.from_residual-in_err-write_ref.ensures.1 (left_standing i.target_size i.ids n.ids i.finished.items n.finished.items i.writer n.writer (entry_of_ref c.args.entry.now) i.failed true c.if-self.false x c.in_ok-make_ready.ensures.ok c.in_ok-make_ready.ensures.refused c.self.invariant.0 (c.self.invariant.1 c.if-self.false) v (ap (λ (w : Writing). w.label) spent) (ap (λ (w : Writing). w.options) spent)))

pub returns-clause-ok : goal.returns-clause-ok
returns-clause-ok g c =
    let i = c.self.inside in
    let n = c.make_ready.new in
    rw (← c.self.view_is) (took_is i.target_size i.ids n.ids i.finished.items n.finished.items i.writer n.writer (entry_of_ref c.args.entry.now) i.failed c.if-self.false c.in_ok-make_ready.ensures.ok c.write_ref.new.self c.in_ok-write_ref.ensures.ok)

pub returns-clause-listed : goal.returns-clause-listed
returns-clause-listed g c =
    let i = c.self.inside in
    let n = c.make_ready.new in
    rw (← c.self.view_is) (listed_is i.target_size i.ids n.ids i.finished.items n.finished.items i.writer n.writer (entry_of_ref c.args.entry.now) i.failed c.if-self.false c.in_ok-make_ready.ensures.ok c.write_ref.new.self c.in_ok-write_ref.ensures.ok)

pub returns-in_err-write_ref-clause-taken : goal.returns-in_err-write_ref-clause-taken
returns-in_err-write_ref-clause-taken g c =
    let i = c.self.inside in
    let fine : HasRoomFor c.args.self.now (entry_of_ref c.args.entry.now) → took_fault c.args.self.now (entry_of_ref c.args.entry.now) ≡ None = rw (← c.self.view_is) (room_fault i.target_size i.ids i.finished.items i.writer i.failed (entry_of_ref c.args.entry.now) c.self.invariant.1) in
    λ room. returns-in_err-write_ref-clause-memory g c (fine room)

pub returns-in_err-make_ready-clause-taken : goal.returns-in_err-make_ready-clause-taken
returns-in_err-make_ready-clause-taken g c =
    let i = c.self.inside in
    let fine : HasRoomFor c.args.self.now (entry_of_ref c.args.entry.now) → turn_fault i.target_size i.ids i.writer (entry_of_ref c.args.entry.now) ≡ None = rw (← c.self.view_is) (room_turn i.target_size i.ids i.finished.items i.writer i.failed (entry_of_ref c.args.entry.now) c.self.invariant.1) in
    λ room. memory_alone c.from_residual.result (turn_fault i.target_size i.ids i.writer (entry_of_ref c.args.entry.now)) (fine room) (faults_refusal c.from_residual.result c.in_err-make_ready.field-0.0 (turn_fault i.target_size i.ids i.writer (entry_of_ref c.args.entry.now)) c.from_residual.ensures.1 c.in_err-make_ready.ensures.refused)

pub returns-in_err-make_ready-clause-refused : goal.returns-in_err-make_ready-clause-refused
returns-in_err-make_ready-clause-refused g c =
    let i = c.self.inside in
    rw (← c.self.view_is) (faults_refusal c.from_residual.result c.in_err-make_ready.field-0.0 _ c.from_residual.ensures.1
    (λ memory. fault_turned i.target_size i.ids i.finished.items i.writer (entry_of_ref c.args.entry.now) i.failed c.if-self.false _ (c.in_err-make_ready.ensures.refused memory)))

pub returns-in_err-make_ready-clause-memory : goal.returns-in_err-make_ready-clause-memory
returns-in_err-make_ready-clause-memory g c =
    λ none. memory_alone c.from_residual.result _ none (returns-in_err-make_ready-clause-refused g c)

pub returns-in_err-make_ready-clause-ids : goal.returns-in_err-make_ready-clause-ids
returns-in_err-make_ready-clause-ids g c =
    let i = c.self.inside in
    rw (← c.self.view_is) (ids_are i.target_size i.ids i.finished.items i.writer (entry_of_ref c.args.entry.now) i.failed c.if-self.false _ c.make_ready.ensures.ids)

pub returns-in_err-write_ref-clause-ids : goal.returns-in_err-write_ref-clause-ids
returns-in_err-write_ref-clause-ids g c =
    let i = c.self.inside in
    rw (← c.self.view_is) (ids_are i.target_size i.ids i.finished.items i.writer (entry_of_ref c.args.entry.now) i.failed c.if-self.false _ c.make_ready.ensures.ids)

pub returns-clause-ids : goal.returns-clause-ids
returns-clause-ids g c =
    let i = c.self.inside in
    rw (← c.self.view_is) (ids_are i.target_size i.ids i.finished.items i.writer (entry_of_ref c.args.entry.now) i.failed c.if-self.false _ c.make_ready.ensures.ids)

-- a writer that has refused
pub returns-then-self-clause-refused : goal.returns-then-self-clause-refused
returns-then-self-clause-refused g c =
    let i = c.self.inside in
    rw (← c.self.view_is) (λ memory. spent_fault i.target_size i.ids i.finished.items i.writer (entry_of_ref c.args.entry.now) i.failed c.if-self.true)

pub returns-then-self-clause-first : goal.returns-then-self-clause-first
returns-then-self-clause-first g c =
    let i = c.self.inside in
    rw (← c.self.view_is) (spent_first i.target_size i.ids i.finished.items i.writer (entry_of_ref c.args.entry.now) i.failed c.if-self.true)

pub returns-then-self-clause-memory : goal.returns-then-self-clause-memory
returns-then-self-clause-memory g c =
    let i = c.self.inside in
    rw (← c.self.view_is) (spent_memory i.target_size i.ids i.finished.items i.writer (entry_of_ref c.args.entry.now) i.failed c.if-self.true)

pub returns-then-self-clause-taken : goal.returns-then-self-clause-taken
returns-then-self-clause-taken g c =
    let i = c.self.inside in
    let fine : HasRoomFor c.args.self.now (entry_of_ref c.args.entry.now) → took_fault c.args.self.now (entry_of_ref c.args.entry.now) ≡ None = rw (← c.self.view_is) (room_fault i.target_size i.ids i.finished.items i.writer i.failed (entry_of_ref c.args.entry.now) c.self.invariant.1) in
    λ room. returns-then-self-clause-memory g c (fine room)

pub returns-then-self-clause-ids : goal.returns-then-self-clause-ids
returns-then-self-clause-ids g c =
    let i = c.self.inside in
    rw (← c.self.view_is) (spent_ids i.target_size i.ids i.finished.items i.writer (entry_of_ref c.args.entry.now) i.failed c.if-self.true)

pub returns-then-self-clause-left : goal.returns-then-self-clause-left
returns-then-self-clause-left g c =
    let i = c.self.inside in
    rw (← c.self.view_is) (spent_left i.target_size i.ids i.finished.items i.writer (entry_of_ref c.args.entry.now) i.failed c.if-self.true _)
