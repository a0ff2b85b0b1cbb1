use Rattle.std.proofs.Common.{◌≡◌, ℕ, List, slice_range, sym, ap, subst, ◌∙◌}
use Rattle.std.specs.Prelude.{Result, Ok}
use Rattle.sst_entries.specs.declared.error.Error.{Error}
use Rattle.sst_entries.specs.Error.{Gives, unless}
use Rattle.sst_blocks.specs.Block.{Loaded, grammar_fault, loaded}
use Rattle.sst_blocks.specs.Fnv.{fnv1a}
use Rattle.sst_blocks.proofs.LoadLemmas.{checksum_right}
use Rattle.sst_blocks.proofs.block.decode.open_range.Goals as goal

pub returns-clause-returned : goal.returns-clause-returned
returns-clause-returned g c =
    let range = c.args.range.now in
    let header = range.header in
    let payload : List ℕ = slice_range c.args.bytes.now range.start range.end in
    let sum : fnv1a payload ≡ header.checksum = rw c.as_slice.ensures at c.in_ok-check_payload.ensures.sum in
    let returned = ap (λ (p : List ℕ). unless (grammar_fault header.version c.args.kind p) (Ok (loaded header.version c.args.kind p))) c.in_ok-payload.ensures.ok ∙ sym (checksum_right header.version header.checksum c.args.kind payload sum) in
    subst (λ (r : Result Loaded Error). Gives {X = Loaded} {Y = Loaded} (λ b. b) c.open.result r) returned c.open.ensures
