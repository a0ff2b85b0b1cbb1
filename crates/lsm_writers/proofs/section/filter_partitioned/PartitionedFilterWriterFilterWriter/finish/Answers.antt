-- All parts are written, or nothing where there are none.
use Rattle.std.proofs.Common.{◌≡◌, ℕ, true, ap, refl, sym, ◌∙◌}
use Rattle.std.specs.Prelude.{Ok}
use Rattle.sst_entries.proofs.StreamLemmas.{on_err}
use Rattle.lsm_writers.specs.section.Given.{no_keys}
use Rattle.lsm_writers.specs.section.Held.{as_list, CutParts, end_keys, HoldsParts}
use Rattle.lsm_writers.proofs.Emptiness.{vec_is_empty}
use Rattle.lsm_writers.proofs.Holding.{none_cut, none_waits}
use Rattle.lsm_writers.proofs.RisingLaws.{rising_front}
use Rattle.lsm_writers.proofs.Sections.{faults_same, finish_result, finish_none, finish_none_fault}
use Rattle.lsm_writers.proofs.Sections.{finish_writes, rest_refused, spent_first, spent_result}
use Rattle.lsm_writers.proofs.Sections.{written_blocks}
use Rattle.lsm_writers.proofs.Sizes.{first_failed, first_none, first_passed, first_works}
use Rattle.lsm_writers.proofs.Sizes.{size_refused, sizes_none}
use Rattle.lsm_writers.proofs.SectionFinishing.{works_first}
use Rattle.lsm_writers.proofs.Behind.{bytes_stay}
use Rattle.lsm_writers.proofs.section.filter_partitioned.PartitionedFilterWriterFilterWriter.finish.Goals as goal
use Rattle.lsm_writers.proofs.Empty.{vec_is_some}

pub write_sections-requires-clause-rising : goal.write_sections-requires-clause-rising
write_sections-requires-clause-rising g c = rising_front (end_keys c.self-2.inside.partitions.items) (as_list c.self-2.inside.last_key) c.self-2.invariant

pub returns-clause-ok : goal.returns-clause-ok
returns-clause-ok g c =
    written_blocks c.write_sections.result _ _ _ _ c.write_sections.ensures.ok c.write_sections.ensures.short c.write_sections.ensures.count
    (λ n ok short count keys h.
    finish_writes c.spill_rest.new.self c.args.self.size c.args.self.policy c.self-2.inside.partitions.items keys c.args.writer.now c.write_sections.new.writer n
    (c.in_ok-spill_rest.ensures.ok keys h) c.spill_rest.ensures.policy c.spill_rest.ensures.size
    (ap (λ (w : CutParts). w.parts) c.self-2.view_is)
    (vec_is_some c.self-2.inside.partitions c.self-2.inside.partitions.items c.is_empty.result refl c.is_empty.ensures c.if-is_empty.false)
    (c.in_ok-check_sizes.ensures keys h) ok short count)

pub returns-clause-refused : goal.returns-clause-refused
returns-clause-refused g c = λ keys h.
    faults_same c.write_sections.result _ _
    (finish_result c.spill_rest.new.self c.args.self.size c.args.self.policy c.self-2.inside.partitions.items keys c.args.self.failed
    (sym (ap (λ (w : CutParts). w.failed) c.self.view_is) ∙ c.if-self.false) (c.in_ok-spill_rest.ensures.refused keys h)
    (c.in_ok-spill_rest.ensures.ok keys h) c.spill_rest.ensures.policy c.spill_rest.ensures.size
    (ap (λ (w : CutParts). w.parts) c.self-2.view_is) (c.in_ok-check_sizes.ensures keys h))
    c.write_sections.ensures.refused

pub returns-then-is_empty-clause-ok : goal.returns-then-is_empty-clause-ok
returns-then-is_empty-clause-ok g c = λ keys h.
    finish_none c.spill_rest.new.self c.args.self.size c.args.self.policy c.self-2.inside.partitions.items keys c.args.writer.now
    (c.in_ok-spill_rest.ensures.ok keys h) c.spill_rest.ensures.policy c.spill_rest.ensures.size (ap (λ (w : CutParts). w.parts) c.self-2.view_is)
    (vec_is_empty c.self-2.inside.partitions c.self-2.inside.partitions.items c.is_empty.result refl c.is_empty.ensures c.if-is_empty.true)

pub returns-then-is_empty-clause-refused : goal.returns-then-is_empty-clause-refused
returns-then-is_empty-clause-refused g c = λ keys h.
    finish_none_fault c.spill_rest.new.self c.args.self.size c.args.self.policy c.self-2.inside.partitions.items keys c.args.self.failed
    (sym (ap (λ (w : CutParts). w.failed) c.self.view_is) ∙ c.if-self.false) (c.in_ok-spill_rest.ensures.refused keys h)
    (c.in_ok-spill_rest.ensures.ok keys h) c.spill_rest.ensures.policy c.spill_rest.ensures.size (ap (λ (w : CutParts). w.parts) c.self-2.view_is)
    (vec_is_empty c.self-2.inside.partitions c.self-2.inside.partitions.items c.is_empty.result refl c.is_empty.ensures c.if-is_empty.true)

-- what is too large
pub returns-in_err-check_sizes-clause-refused : goal.returns-in_err-check_sizes-clause-refused
returns-in_err-check_sizes-clause-refused g c = λ keys h.
    size_refused c.from_residual.result c.in_err-check_sizes.field-0.0 c.args.self.size c.args.self.policy keys c.args.self.failed c.from_residual.ensures.1
    (sym (ap (λ (w : CutParts). w.failed) c.self.view_is) ∙ c.if-self.false) (c.in_err-check_sizes.ensures keys h)

pub returns-in_err-check_sizes-clause-first : goal.returns-in_err-check_sizes-clause-first
returns-in_err-check_sizes-clause-first g c = works_first c.from_residual.result c.self.inside.failed c.args.self.failed (ap (λ (w : CutParts). w.failed) c.self.view_is) c.if-self.false

pub returns-in_err-check_sizes-clause-sized : goal.returns-in_err-check_sizes-clause-sized
returns-in_err-check_sizes-clause-sized g c = λ keys h.
    first_works c.from_residual.result c.args.self.failed _ (sym (ap (λ (w : CutParts). w.failed) c.self.view_is) ∙ c.if-self.false)
    (first_passed c.from_residual.result c.in_err-check_sizes.field-0.0 _ c.from_residual.ensures.1 (c.in_err-check_sizes.ensures keys h))

pub returns-in_err-check_sizes-clause-idle : goal.returns-in_err-check_sizes-clause-idle
returns-in_err-check_sizes-clause-idle g c =
    let none : HoldsParts c.args.self no_keys → c.args.self.failed ≡ true = λ h.
    absurd (sizes_none c.args.self.size c.args.self.policy c.in_err-check_sizes.field-0.0 (c.in_err-check_sizes.ensures no_keys h)) in
    on_err c.from_residual.result none

pub returns-in_err-check_sizes-clause-before : goal.returns-in_err-check_sizes-clause-before
returns-in_err-check_sizes-clause-before g c = bytes_stay c.args.writer.now

pub returns-in_err-spill_rest-clause-sized : goal.returns-in_err-spill_rest-clause-sized
returns-in_err-spill_rest-clause-sized g c = λ keys h.
    first_works c.from_residual-in_err-spill_rest.result c.args.self.failed _ (sym (ap (λ (w : CutParts). w.failed) c.self.view_is) ∙ c.if-self.false)
    (first_none c.from_residual-in_err-spill_rest.result _ (c.in_ok-check_sizes.ensures keys h))

pub returns-then-is_empty-clause-sized : goal.returns-then-is_empty-clause-sized
returns-then-is_empty-clause-sized g c = λ keys h.
    first_works {X = ℕ} (Ok 0) c.args.self.failed _ (sym (ap (λ (w : CutParts). w.failed) c.self.view_is) ∙ c.if-self.false)
    (first_none {X = ℕ} (Ok 0) _ (c.in_ok-check_sizes.ensures keys h))

pub returns-clause-sized : goal.returns-clause-sized
returns-clause-sized g c = λ keys h.
    first_works c.write_sections.result c.args.self.failed _ (sym (ap (λ (w : CutParts). w.failed) c.self.view_is) ∙ c.if-self.false)
    (first_none c.write_sections.result _ (c.in_ok-check_sizes.ensures keys h))

-- without keys nothing waits, and there are no parts
pub returns-in_err-spill_rest-clause-idle : goal.returns-in_err-spill_rest-clause-idle
returns-in_err-spill_rest-clause-idle g c =
    let none : HoldsParts c.args.self no_keys → c.args.self.failed ≡ true = λ h. absurd (c.in_err-spill_rest.ensures.idle (none_waits c.args.self h)) in
    on_err c.from_residual-in_err-spill_rest.result none

pub returns-clause-idle : goal.returns-clause-idle
returns-clause-idle g c =
    let none : HoldsParts c.args.self no_keys → c.args.self.failed ≡ true = λ h.
    absurd (vec_is_some c.self-2.inside.partitions c.self-2.inside.partitions.items c.is_empty.result refl c.is_empty.ensures c.if-is_empty.false
    (ap (λ (w : CutParts). w.parts) c.self-2.view_is ∙ none_cut c.spill_rest.new.self (c.in_ok-spill_rest.ensures.ok no_keys h))) in
    on_err c.write_sections.result none

pub returns-in_err-spill_rest-clause-refused : goal.returns-in_err-spill_rest-clause-refused
returns-in_err-spill_rest-clause-refused g c = λ keys h.
    rest_refused c.from_residual-in_err-spill_rest.result c.in_err-spill_rest.field-0.0 c.args.self.size c.args.self.policy keys c.args.self.failed c.from_residual-in_err-spill_rest.ensures.1
    (sym (ap (λ (w : CutParts). w.failed) c.self.view_is) ∙ c.if-self.false) (c.in_err-spill_rest.ensures.refused keys h)

pub returns-in_err-spill_rest-clause-first : goal.returns-in_err-spill_rest-clause-first
returns-in_err-spill_rest-clause-first g c = works_first c.from_residual-in_err-spill_rest.result c.self.inside.failed c.args.self.failed (ap (λ (w : CutParts). w.failed) c.self.view_is) c.if-self.false

pub returns-then-is_empty-clause-first : goal.returns-then-is_empty-clause-first
returns-then-is_empty-clause-first g c = works_first {X = ℕ} (Ok 0) c.self.inside.failed c.args.self.failed (ap (λ (w : CutParts). w.failed) c.self.view_is) c.if-self.false

pub returns-clause-first : goal.returns-clause-first
returns-clause-first g c = works_first c.write_sections.result c.self.inside.failed c.args.self.failed (ap (λ (w : CutParts). w.failed) c.self.view_is) c.if-self.false

pub returns-in_err-spill_rest-clause-before : goal.returns-in_err-spill_rest-clause-before
returns-in_err-spill_rest-clause-before g c = bytes_stay c.args.writer.now

pub returns-then-is_empty-clause-before : goal.returns-then-is_empty-clause-before
returns-then-is_empty-clause-before g c = bytes_stay c.args.writer.now

pub returns-clause-before : goal.returns-clause-before
returns-clause-before g c = c.write_sections.ensures.before

-- a writer that has failed
pub returns-then-self-clause-sized : goal.returns-then-self-clause-sized
returns-then-self-clause-sized g c = λ keys h. first_failed ℕ c.args.self.failed _ (sym (ap (λ (w : CutParts). w.failed) c.self.view_is) ∙ c.if-self.true)

pub returns-then-self-clause-before : goal.returns-then-self-clause-before
returns-then-self-clause-before g c = bytes_stay c.args.writer.now

pub returns-then-self-clause-refused : goal.returns-then-self-clause-refused
returns-then-self-clause-refused g c = λ keys h memory. spent_result c.self.inside.failed c.args.self.failed _ (ap (λ (w : CutParts). w.failed) c.self.view_is) c.if-self.true

pub returns-then-self-clause-first : goal.returns-then-self-clause-first
returns-then-self-clause-first g c = λ e returned. spent_first c.self.inside.failed c.args.self.failed e (ap (λ (w : CutParts). w.failed) c.self.view_is) c.if-self.true returned

pub returns-then-self-clause-idle : goal.returns-then-self-clause-idle
returns-then-self-clause-idle g c = λ h. sym (ap (λ (w : CutParts). w.failed) c.self.view_is) ∙ c.if-self.true
