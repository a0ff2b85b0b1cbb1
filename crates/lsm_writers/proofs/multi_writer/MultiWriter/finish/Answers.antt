use Rattle.std.proofs.Common.{◌≡◌, ◌∙◌, [], true}
use Rattle.sst_entries.proofs.StreamLemmas.{on_err}
use Rattle.lsm_writers.specs.Tables.{all_written}
use Rattle.lsm_writers.specs.Writing.{finish_fault}
use Rattle.lsm_writers.proofs.Fitting.{finish_fault_is}
use Rattle.lsm_writers.proofs.Refused.{memory_alone}
use Rattle.sst_entries.proofs.Refusals.{faults_refusal}
use Rattle.lsm_writers.proofs.AllTables.{all_strict, are_finished, are_in_order, are_tables, none_answered, run_spent, run_spent_memory, run_works, works_first, works_still}
use Rattle.lsm_writers.proofs.multi_writer.MultiWriter.finish.Goals as goal

pub returns-in_err-add_table-clause-idle : goal.returns-in_err-add_table-clause-idle
returns-in_err-add_table-clause-idle g c =
    let i = c.self.inside in
    let idle : all_written c.args.self ≡ [] → c.args.self.failed ≡ true = rw (← c.self.view_is) (works_still i.target_size i.ids i.finished.items i.finished.items i.writer c.self.invariant.0 (c.self.invariant.1 c.if-self.false) i.failed c.if-self.false c.in_err-add_table.ensures.idle) in
    on_err c.from_residual.result idle

pub returns-clause-tables : goal.returns-clause-tables
returns-clause-tables g c =
    let i = c.self.inside in
    rw (← c.self.view_is) (are_tables i.target_size i.ids i.finished.items i.finished.items i.writer c.self.invariant.0 (c.self.invariant.1 c.if-self.false) i.failed c.if-self.false)

pub returns-clause-finished : goal.returns-clause-finished
returns-clause-finished g c =
    let i = c.self.inside in
    rw (c.into_vec.ensures.items, ← c.self.view_is) (are_finished i.target_size i.ids i.finished.items c.add_table.new.finished.items i.writer c.self.invariant.0 (c.self.invariant.1 c.if-self.false) i.failed c.if-self.false c.in_ok-add_table.ensures.ok)

pub returns-clause-order : goal.returns-clause-order
returns-clause-order g c =
    let i = c.self.inside in
    rw (← c.self.view_is) (are_in_order i.target_size i.ids i.finished.items i.finished.items i.writer c.self.invariant.0 (c.self.invariant.1 c.if-self.false) i.failed c.if-self.false)

pub returns-clause-none : goal.returns-clause-none
returns-clause-none g c =
    let i = c.self.inside in
    rw (c.into_vec.ensures.items, ← c.self.view_is) (none_answered i.target_size i.ids i.finished.items c.add_table.new.finished.items i.writer c.self.invariant.0 (c.self.invariant.1 c.if-self.false) i.failed c.if-self.false c.in_ok-add_table.ensures.ok)

pub returns-in_err-add_table-clause-taken : goal.returns-in_err-add_table-clause-taken
returns-in_err-add_table-clause-taken g c =
    let i = c.self.inside in
    rw (← c.self.view_is) (λ works fits. memory_alone c.from_residual.result (finish_fault i.writer) (finish_fault_is i.writer (c.self.invariant.1 c.if-self.false).present ∙ fits)
    (faults_refusal c.from_residual.result c.in_err-add_table.field-0.0 (finish_fault i.writer) c.from_residual.ensures.1 c.in_err-add_table.ensures.refused))

pub returns-clause-strict : goal.returns-clause-strict
returns-clause-strict g c =
    let i = c.self.inside in
    rw (← c.self.view_is) (all_strict i.target_size i.ids i.finished.items i.finished.items i.writer c.self.invariant.0 (c.self.invariant.1 c.if-self.false) i.failed c.if-self.false)

pub returns-clause-refused : goal.returns-clause-refused
returns-clause-refused g c =
    let i = c.self.inside in
    rw (← c.self.view_is) (run_works i.target_size i.ids i.finished.items i.writer i.failed c.if-self.false ∙ c.in_ok-add_table.ensures.refused)

pub returns-in_err-add_table-clause-refused : goal.returns-in_err-add_table-clause-refused
returns-in_err-add_table-clause-refused g c =
    let i = c.self.inside in
    rw (← c.self.view_is) (faults_refusal c.from_residual.result c.in_err-add_table.field-0.0 _ c.from_residual.ensures.1
    (λ memory. run_works i.target_size i.ids i.finished.items i.writer i.failed c.if-self.false ∙ c.in_err-add_table.ensures.refused memory))

pub returns-in_err-add_table-clause-first : goal.returns-in_err-add_table-clause-first
returns-in_err-add_table-clause-first g c =
    let i = c.self.inside in
    rw (← c.self.view_is) (λ x returned. absurd (works_first i.target_size i.ids i.finished.items i.writer i.failed c.if-self.false x returned))

pub returns-in_err-add_table-clause-memory : goal.returns-in_err-add_table-clause-memory
returns-in_err-add_table-clause-memory g c =
    λ none. memory_alone c.from_residual.result _ none (returns-in_err-add_table-clause-refused g c)

-- a writer that has refused
pub returns-then-self-clause-refused : goal.returns-then-self-clause-refused
returns-then-self-clause-refused g c =
    let i = c.self.inside in
    rw (← c.self.view_is) (λ memory. run_spent i.target_size i.ids i.finished.items i.writer i.failed c.if-self.true)

pub returns-then-self-clause-memory : goal.returns-then-self-clause-memory
returns-then-self-clause-memory g c =
    let i = c.self.inside in
    rw (← c.self.view_is) (run_spent_memory i.target_size i.ids i.finished.items i.writer i.failed c.if-self.true)
