use Rattle.std.proofs.Common.{[], subst}
use Rattle.std.specs.Prelude.{Option}
use Rattle.sst_entries.proofs.Lists.{none_of}
use Rattle.lsm_writers.specs.declared.section.filter_either.FilterWriterImpl.{FilterWriterImpl}
use Rattle.lsm_writers.specs.section.Given.{given_by}
use Rattle.lsm_writers.specs.Filtering.{MayHaveKeys}
use Rattle.lsm_writers.proofs.Filtered.{first_rises, has_given, no_register_fault, none_kept, registered_first, registered_in, rises_given, rising_now}
use Rattle.lsm_writers.proofs.Refused.{memory_alone, refused_alone}
use Rattle.lsm_writers.proofs.writer.filter.register_key.Goals as goal

pub returns-in-Some-clause-err : goal.returns-in-Some-clause-err
returns-in-Some-clause-err g c =
    let kind = c.args.options.now.filter_kind in
    let policy = c.args.options.now.bloom_policy in
    let wide = c.is_registered.ensures.few in
    let has = subst (λ (o : Option (FilterWriterImpl g.row.A.Denot)). MayHaveKeys kind policy o c.requires.keys) c.in-Some.is c.requires.has in
    let fits = c.small_partitions_fit.ensures kind policy c.requires.keys c.args.key.now wide c.requires.small in
    memory_alone c.register_key_bytes.result _ (no_register_fault kind policy c.in-Some.writer c.requires.keys c.args.key.now has.1 fits) (c.register_key_bytes.ensures.refused (given_by kind policy c.requires.keys) has.1.holds)

pub returns-in-Err-clause-err : goal.returns-in-Err-clause-err
returns-in-Err-clause-err g c =
    let kind = c.args.options.now.filter_kind in
    let policy = c.args.options.now.bloom_policy in
    let wide = c.is_registered.ensures.few in
    let has = c.in_ok-writer.ensures.ok in
    let fits = c.small_partitions_fit.ensures kind policy _ c.args.key.now wide c.requires.small in
    let returned = memory_alone c.register_key_bytes-2.result _ (no_register_fault kind policy c.in_ok-writer.writer _ c.args.key.now has fits) (c.register_key_bytes-2.ensures.refused _ has.holds) in
    refused_alone c.register_key_bytes-2.result c.in-Err.error c.in-Err.is returned

pub returns-in-Some-clause-ok : goal.returns-in-Some-clause-ok
returns-in-Some-clause-ok g c =
    registered_in c.register_key_bytes.result _ _ _ c.in-Some.writer c.register_key_bytes.new.self _ c.is_registered.result c.args.key.now c.in-Some.is c.is_registered.ensures.is c.if-not-is_registered.false
    c.register_key_bytes.ensures.kind c.register_key_bytes.ensures.policy c.register_key_bytes.ensures.works c.register_key_bytes.ensures.ok

pub register_key_bytes-requires : goal.register_key_bytes-requires
register_key_bytes-requires g c = λ works.
    let kind = c.args.options.now.filter_kind in
    let policy = c.args.options.now.bloom_policy in
    let has = subst (λ (o : Option (FilterWriterImpl g.row.A.Denot)). MayHaveKeys kind policy o c.requires.keys) c.in-Some.is c.requires.has in
    rises_given kind policy c.in-Some.writer c.requires.keys c.args.key.now has.1
    (rising_now policy c.args.starts_key c.is_registered.result c.requires.keys c.args.key.now c.is_registered.ensures.is c.if-not-is_registered.false c.requires.rising)

pub register_key_bytes-requires-2 : goal.register_key_bytes-requires-2
register_key_bytes-requires-2 g c = λ works.
    let kind = c.args.options.now.filter_kind in
    let policy = c.args.options.now.bloom_policy in
    let none = none_kept kind policy c.args.filter_writer.now c.requires.keys (none_of c.args.filter_writer.now c.in_default.not-Some) c.requires.has in
    first_rises kind policy c.in_ok-writer.writer c.requires.keys c.args.key.now c.in_ok-writer.ensures.ok none
    (rising_now policy c.args.starts_key c.is_registered.result c.requires.keys c.args.key.now c.is_registered.ensures.is c.if-not-is_registered.false c.requires.rising)

pub returns-clause-ok : goal.returns-clause-ok
returns-clause-ok g c = λ keys has.
    let kind = c.args.options.now.filter_kind in
    let policy = c.args.options.now.bloom_policy in
    let none = none_kept kind policy c.args.filter_writer.now keys (none_of c.args.filter_writer.now c.in_default.not-Some) has in
    let e = c.in_default-register_key_bytes.ensures in
    registered_first kind policy c.replace.new.self c.register_key_bytes-2.new.self c.args.starts_key c.is_registered.result keys c.args.key.now c.replace.ensures.after none
    c.is_registered.ensures.is c.if-not-is_registered.false
    (has_given kind policy c.in_ok-writer.writer c.register_key_bytes-2.new.self [] c.args.key.now c.in_ok-writer.ensures.ok e.kind e.policy e.works (e.ok (given_by kind policy [])))
