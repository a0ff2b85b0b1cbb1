-- The top level has the last handle's key and number.
use Rattle.std.proofs.Common.{◌++◌, ◌-◌, ap, ◌∙◌, length, arith, List}
use Rattle.sst_blocks.specs.Handle.{Handle}
use Rattle.lsm_writers.proofs.Behind.{front_longer}
use Rattle.lsm_writers.proofs.SectionFinishing.{part_fits, part_large, part_refused}
use Rattle.lsm_writers.proofs.Tops.{top_is}
use Rattle.lsm_writers.proofs.section.index_partitioned.write_partition.Goals as goal

pub returns-clause-top : goal.returns-clause-top
returns-clause-top g c =
    c.in_ok-push.ensures.items
    ∙ ap (λ (hs : List Handle). c.args.tops.now.items ++ hs)
    (top_is (length c.args.writer.now.bytes) c.args.part.now (length c.args.part.now - 1) c.index-part-part.result c.new.result c.in_ok-end_key.end_key c.seqno.result c.in_ok-block.block
    (omega (arith, c.requires.some)) c.index-part-part.is (c.in_ok-end_key.ensures.cases ∙ c.end_key.ensures) c.seqno.ensures c.in_ok-block.ensures.place c.new.ensures)

pub returns-then-position-base-clause-before : goal.returns-then-position-base-clause-before
returns-then-position-base-clause-before g c = front_longer c.args.writer.now c.write_block.new.writer _ c.in_ok-block.ensures.ok

pub returns-in_err-end_key-clause-before : goal.returns-in_err-end_key-clause-before
returns-in_err-end_key-clause-before g c = front_longer c.args.writer.now c.write_block.new.writer _ c.in_ok-block.ensures.ok

pub returns-in_err-push-clause-before : goal.returns-in_err-push-clause-before
returns-in_err-push-clause-before g c = front_longer c.args.writer.now c.write_block.new.writer _ c.in_ok-block.ensures.ok

pub returns-clause-before : goal.returns-clause-before
returns-clause-before g c = front_longer c.args.writer.now c.write_block.new.writer _ c.in_ok-block.ensures.ok

pub returns-in_err-block-clause-refused : goal.returns-in_err-block-clause-refused
returns-in_err-block-clause-refused g c =
    part_refused c.from_residual.result c.in_err-block.field-0.0 _ c.args.part.now c.from_residual.ensures.1 c.in_err-block.ensures.refused

pub returns-then-position-base-clause-refused : goal.returns-then-position-base-clause-refused
returns-then-position-base-clause-refused g c = λ m.
    part_large c.args.writer.now c.write_block.new.writer c.args.base c.args.part.now _ c.in_ok-block.ensures.ok c.in_ok-block.ensures.bound
    c.requires.behind c.in_ok-block.ensures.refused
    (omega (arith, c.from.ensures, c.position.ensures, c.if-position-base.true))

pub returns-clause-short : goal.returns-clause-short
returns-clause-short g c = omega (arith, c.from.ensures, c.position.ensures, c.if-position-base.false)

pub returns-clause-refused : goal.returns-clause-refused
returns-clause-refused g c =
    part_fits c.args.writer.now c.write_block.new.writer c.args.base c.args.part.now _ c.in_ok-block.ensures.ok c.in_ok-block.ensures.bound
    c.requires.behind c.in_ok-block.ensures.refused
    (omega (arith, c.from.ensures, c.position.ensures, c.if-position-base.false))
