-- The section has the filter's block.
use Rattle.std.proofs.Common.{◌∙◌}
use Rattle.lsm_writers.proofs.Sections.{front_of_block, front_same, full_one, no_filter_yet}
use Rattle.lsm_writers.proofs.Behind.{bytes_stay, front_begun}
use Rattle.lsm_writers.proofs.section.filter_full.write_filter.Goals as goal

pub returns-in_err-start-clause-before : goal.returns-in_err-start-clause-before
returns-in_err-start-clause-before g c = front_begun c.args.writer.now c.start.new.self c.args.writer.now.started c.in_err-start.ensures.unchanged

pub returns-clause-ok : goal.returns-clause-ok
returns-clause-ok g c = λ keys e.
    full_one c.args.policy.now keys c.args.writer.now c.start.new.self c.write_into.new.writer
    c.in_ok-filter.filter c.deref.result.now (λ none. c.requires.some (e ∙ none)) (c.in_ok-filter.ensures.filter keys e)
    c.build-payload.ensures.built (c.deref.ensures.value ∙ c.build-payload.ensures.payload) c.in_ok-start.ensures.ok c.in_ok-write_into.ensures.ok

pub returns-clause-before : goal.returns-clause-before
returns-clause-before g c = front_of_block c.args.writer.now c.start.new.self c.write_into.new.writer _ _ c.in_ok-start.ensures.ok c.in_ok-write_into.ensures.ok

pub returns-in_err-filter-clause-before : goal.returns-in_err-filter-clause-before
returns-in_err-filter-clause-before g c = bytes_stay c.args.writer.now

pub start-requires : goal.start-requires
start-requires g c = no_filter_yet c.args.writer.now c.requires.unwritten

pub returns-in_err-write_into-clause-before : goal.returns-in_err-write_into-clause-before
returns-in_err-write_into-clause-before g c = front_same c.args.writer.now c.start.new.self c.write_into.new.writer _ c.in_ok-start.ensures.ok c.in_err-write_into.ensures.unchanged
