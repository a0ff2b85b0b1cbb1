use Rattle.std.proofs.Common.{◌≡◌, length, sym, subst, ◌∙◌}
use Rattle.std.specs.Prelude.{Result, Err}
use Rattle.std.proofs.lemmas.Result.{err_from_is_err_and}
use Rattle.sst_entries.specs.declared.error.Error.{Error}
use Rattle.sst_entries.specs.Error.{Gives}
use Rattle.sst_blocks.specs.Block.{Loaded, decode_block, load_result}
use Rattle.sst_blocks.proofs.LoadLemmas.{decode_part}
use Rattle.sst_blocks.proofs.block.Block.decode.Goals as goal

pub returns-in_err-range-clause-placed : goal.returns-in_err-range-clause-placed
returns-in_err-range-clause-placed g c body offset within is =
    let p = err_from_is_err_and c.from_residual.result c.from_residual.ensures.1 in
    let there : decode_block c.args.kind c.args.bytes ≡ Err c.in_err-range.field-0.0 = rw (c.as_slice.ensures, c.len.ensures.value) at c.in_err-range.ensures.returned in
    let same : load_result body offset (length c.args.bytes) c.args.kind ≡ Err c.in_err-range.field-0.0 = sym (decode_part body offset c.args.kind c.args.bytes within is) ∙ there in
    rw (p.1, p.2) (λ memory. same)

pub returns-clause-placed : goal.returns-clause-placed
returns-clause-placed g c body offset within is =
    let there = rw (c.as_slice.ensures, c.len.ensures.value) at c.in_ok-range.ensures.returned in
    let returned = subst (λ (r : Result Loaded Error). Gives {X = Loaded} {Y = Loaded} (λ b. b) c.open_range.result r) (sym there) c.open_range.ensures.returned in
    subst (λ (r : Result Loaded Error). Gives {X = Loaded} {Y = Loaded} (λ b. b) c.open_range.result r) (decode_part body offset c.args.kind c.args.bytes within is) returned
