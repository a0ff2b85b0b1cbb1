-- The section has the block of all handles.
use Rattle.std.proofs.Common.{◌∙◌, ◌∷◌, [], ap, List, subst, sym}
use Rattle.sst_entries.proofs.Refusals.{faults_refusal}
use Rattle.sst_blocks.specs.declared.section.SectionName.TheVariants.{Tli}
use Rattle.sst_blocks.specs.declared.version.TableVersion.TheVariants.{V4}
use Rattle.sst_blocks.specs.Encoding.{handles_fault}
use Rattle.sst_blocks.specs.Handle.{Handle}
use Rattle.sst_blocks.specs.Handles.{AreStrictHandles}
use Rattle.sst_blocks.specs.table.Fits.{SectionFits}
use Rattle.sst_blocks.specs.table.Layout.{appended}
use Rattle.sst_blocks.specs.table.Partitions.{handles_block}
use Rattle.lsm_writers.proofs.Behind.{bytes_stay, no_top_level_first}
use Rattle.lsm_writers.proofs.section.index_full.write_section.Goals as goal

pub returns-in_err-clone-clause-before : goal.returns-in_err-clone-clause-before
returns-in_err-clone-clause-before g c = bytes_stay c.args.writer.now

pub returns-in_err-handles-clause-before : goal.returns-in_err-handles-clause-before
returns-in_err-handles-clause-before g c = bytes_stay c.args.writer.now

pub write_top_level-requires-clause-unwritten : goal.write_top_level-requires-clause-unwritten
write_top_level-requires-clause-unwritten g c = no_top_level_first c.args.writer.now c.requires.unwritten

pub write_top_level-requires-clause-strict : goal.write_top_level-requires-clause-strict
write_top_level-requires-clause-strict g c = subst (λ (hs : List Handle). AreStrictHandles hs) (sym (c.deref.ensures.value ∙ c.in_ok-handles.ensures.ok)) c.requires.strict

pub returns-in_err-write_top_level-clause-refused : goal.returns-in_err-write_top_level-clause-refused
returns-in_err-write_top_level-clause-refused g c =
    faults_refusal c.from_residual-in_err-write_top_level.result c.in_err-write_top_level.field-0.0 _ c.from_residual-in_err-write_top_level.ensures.1
    (λ m. ap (λ (hs : List Handle). handles_fault hs) (sym (c.deref.ensures.value ∙ c.in_ok-handles.ensures.ok)) ∙ c.in_err-write_top_level.ensures.refused m)

pub returns-clause-ok : goal.returns-clause-ok
returns-clause-ok g c =
    c.in_ok-write_top_level.ensures.ok ∙ ap (λ (hs : List Handle). appended c.args.writer.now ((Tli, handles_block V4 hs) ∷ [])) (c.deref.ensures.value ∙ c.in_ok-handles.ensures.ok)

pub returns-clause-fits : goal.returns-clause-fits
returns-clause-fits g c = subst (λ (hs : List Handle). SectionFits (Tli, handles_block V4 hs)) (c.deref.ensures.value ∙ c.in_ok-handles.ensures.ok) c.in_ok-write_top_level.ensures.short

pub returns-clause-refused : goal.returns-clause-refused
returns-clause-refused g c = ap (λ (hs : List Handle). handles_fault hs) (sym (c.deref.ensures.value ∙ c.in_ok-handles.ensures.ok)) ∙ c.in_ok-write_top_level.ensures.refused
