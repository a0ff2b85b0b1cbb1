use Rattle.std.proofs.Common.{◌∙◌, ap, refl, subst, List, ℕ}
use Rattle.lsm_writers.specs.section.FilterRefusing.{filter_fault}
use Rattle.std.specs.Prelude.{Option}
use Rattle.lsm_writers.specs.declared.section.filter_either.FilterWriterImpl.{FilterWriterImpl}
use Rattle.lsm_writers.specs.Filtering.{MayHaveKeys}
use Rattle.lsm_writers.proofs.Filtered.{finish_in, finish_refuses, none_kept, nothing_written, no_filter_fault}
use Rattle.lsm_writers.proofs.writer.filter.finish_filter.Goals as goal

pub returns-in-Partitioned-clause-ok : goal.returns-in-Partitioned-clause-ok
returns-in-Partitioned-clause-ok g c = λ keys has.
    nothing_written _ _ keys _ 0 (none_kept _ _ _ keys c.in-None.is has) (rw c.in-Partitioned.is refl)

pub returns-in-Partitioned-clause-refused : goal.returns-in-Partitioned-clause-refused
returns-in-Partitioned-clause-refused g c = λ keys has.
    let policy = c.args.options.now.bloom_policy in
    let kind = c.args.options.now.filter_kind in
    ap (λ (ks : List (List ℕ)). filter_fault kind policy ks) (none_kept _ _ _ keys c.in-None.is has) ∙ no_filter_fault kind policy

pub returns-in-Some-clause-ok : goal.returns-in-Some-clause-ok
returns-in-Some-clause-ok g c = finish_in c.finish.result _ _ c.args.filter_writer c.in-Some.writer _ _ c.in-Some.is c.finish.ensures.ok

pub returns-in-Some-clause-refused : goal.returns-in-Some-clause-refused
returns-in-Some-clause-refused g c = λ keys has.
    let policy = c.args.options.now.bloom_policy in
    let kind = c.args.options.now.filter_kind in
    let had = subst (λ (o : Option (FilterWriterImpl g.row.A.Denot)). MayHaveKeys kind policy o keys) c.in-Some.is has in
    finish_refuses c.finish.result kind policy c.in-Some.writer keys had.1 c.finish.ensures.refused
