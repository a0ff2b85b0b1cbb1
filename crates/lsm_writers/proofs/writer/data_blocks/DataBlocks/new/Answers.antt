use Rattle.std.proofs.Common.{◌≡◌, ◌∙◌, ap, refl, [], ◌∷◌, lit<}
use Rattle.std.specs.Prelude.{None}
use Rattle.sst_entries.specs.Strict.{last_of}
use Rattle.sst_blocks.specs.declared.section.SectionName.TheVariants.{Data}
use Rattle.lsm_writers.specs.Cut.{chunks_in}
use Rattle.lsm_writers.specs.section.Registered.{Registered}
use Rattle.lsm_writers.proofs.Cutting.{nothing_cut}
use Rattle.lsm_writers.proofs.Orders.{nothing_last}
use Rattle.lsm_writers.proofs.writer.data_blocks.DataBlocks.new.Goals as goal

pub invariant_of-result : goal.invariant_of-result
unfolding chunks_in
invariant_of-result g c =
    let started : c.start.new.self ≡ record { bytes = []; started = (Data, 0) ∷ [] } = rw (c.in_ok-start.ensures.ok, c.in_ok-file_writer.ensures.ok) refl in
    let none = ap (λ (x : Registered). x.handles) c.new-index_writer.ensures in
    let last : last_of None c.in_ok-last_block.last_block ≡ None = ap (last_of None) c.in_ok-last_block.ensures.ok ∙ nothing_last in
    (rw last (nothing_cut _ _ _ started none), rw none (lit< tt))

pub returns-clause-ok : goal.returns-clause-ok
unfolding chunks_in
returns-clause-ok g c = rw c.new-index_writer.ensures refl
