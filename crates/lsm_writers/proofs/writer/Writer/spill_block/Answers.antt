use Rattle.std.proofs.Common.{refl, arith}
use Rattle.sst_blocks.specs.declared.version.TableVersion.TheVariants.{V4}
use Rattle.sst_blocks.specs.table.Fits.{EntryFits}
use Rattle.sst_blocks.specs.table.Chunks.{joined}
use Rattle.sst_entries.proofs.Lists.{all_behind}
use Rattle.sst_entries.proofs.StreamLemmas.{on_err}
use Rattle.lsm_writers.proofs.Gaining.{left_is, parts_left, parts_spilled, spilled_now}
use Rattle.lsm_writers.proofs.Taking.{no_fault}
use Rattle.lsm_writers.proofs.writer.Writer.spill_block.Goals as goal

pub cut-requires-clause-fit : goal.cut-requires-clause-fit
cut-requires-clause-fit g c =
    let held = c.self.invariant.0 in
    no_fault c.self.inside.chunk (all_behind (EntryFits V4) (joined c.self.inside.blocks.chunks) c.self.inside.chunk held.fits) (omega (arith, held.sized, held.small))

pub invariant_of-self : goal.invariant_of-self
invariant_of-self g c =
    let i = c.self.inside in
    let t = c.cut.new in
    let r = c.in_err-cut.ensures in
    parts_left i.options.data_block_size i.blocks t.self i.chunk t.chunk i.chunk_size i.chunk_size i.meta t.meta i.label i.failed i.options.filter_kind i.options.bloom_policy i.filter_writer i.filter_writer _ r.left refl r.unchanged r.uncounted c.self.invariant.0 c.self.invariant.2 c.self.invariant.3

pub returns-in_err-cut-clause-failed : goal.returns-in_err-cut-clause-failed
returns-in_err-cut-clause-failed g c =
    let i = c.self.inside in
    let t = c.cut.new in
    let r = c.in_err-cut.ensures in
    rw (← c.self.view_is) (on_err c.from_residual.result (left_is i.label i.options i.blocks t.self i.chunk t.chunk i.failed r.left r.unchanged))

pub invariant_of-self-2 : goal.invariant_of-self-2
invariant_of-self-2 g c =
    let i = c.self.inside in
    let t = c.cut.new in
    let r = c.in_ok-cut.ensures in
    parts_spilled i.options.data_block_size i.blocks t.self i.chunk t.chunk i.chunk_size i.meta t.meta i.label i.failed i.options.filter_kind i.options.bloom_policy i.filter_writer c.if-self.false r.ok r.works r.taken r.counted c.self.invariant.0 c.self.invariant.2 c.self.invariant.3

pub returns-clause-ok : goal.returns-clause-ok
returns-clause-ok g c =
    let i = c.self.inside in
    let t = c.cut.new in
    let r = c.in_ok-cut.ensures in
    rw (← c.self.view_is) (spilled_now i.label i.options i.blocks t.self i.chunk t.chunk i.failed c.if-self.false r.ok r.taken)
