use Rattle.std.proofs.Common.{ℕ, List, length, ap, subst}
use Rattle.std.specs.Prelude.{Bool}
use Rattle.sst_entries.specs.Error.{Gives}
use Rattle.sst_blocks.specs.Block.{Loaded, load_result}
use Rattle.sst_blocks.specs.Sections.{body_of}
use Rattle.sst_blocks.specs.declared.opened.Opened.{Opened}
use Rattle.sst_blocks.proofs.LoadLemmas.{kind_given}
use Rattle.lsm_files.proofs.Loads.{known_to, not_at_hand, passes_fault, past_loads}
use Rattle.lsm_files.proofs.blocks.FileBlocksLoadBlocks.load.Goals as goal

pub returns-in_err-bytes-clause-returned : goal.returns-in_err-bytes-clause-returned
returns-in_err-bytes-clause-returned g c known =
    let place = c.args.handle.now in
    let bytes = g.R.ReadAt.bytes c.self.inside.file.now in
    let e = c.in_err-bytes.field-0.0 in
    let r = c.from_residual.result in
    subst (λ (b : List ℕ). Gives {X = Loaded} {Y = Loaded} (λ x. x) r (load_result (body_of b) place.offset place.size c.args.kind)) (ap (λ (s : List ℕ × Opened × Bool). s.0) c.self.view_is)
    (passes_fault {X = Loaded} {Y = Loaded} (λ x. x) r (load_result (body_of bytes) place.offset place.size c.args.kind) e c.from_residual.ensures.1
    (past_loads (body_of bytes) place.offset place.size c.args.kind e (λ memory. let f = c.in_err-bytes.ensures.fault memory in (f.0, f.1 (known_to g.R.ReadAt.reads known)))))

pub returns-in_err-bytes-clause-first : goal.returns-in_err-bytes-clause-first
returns-in_err-bytes-clause-first g c at = absurd (not_at_hand g.R.ReadAt.reads at)

pub returns-clause-returned : goal.returns-clause-returned
returns-clause-returned g c known =
    let place = c.args.handle.now in
    let bytes = g.R.ReadAt.bytes c.self.inside.file.now in
    let part = c.in_ok-bytes.ensures.part (known_to g.R.ReadAt.reads known) in
    let at = part.0 in
    let r = c.decode.result in
    subst (λ (b : List ℕ). Gives {X = Loaded} {Y = Loaded} (λ x. x) r (load_result (body_of b) place.offset place.size c.args.kind)) (ap (λ (s : List ℕ × Opened × Bool). s.0) c.self.view_is)
    (subst (λ (n : ℕ). Gives {X = Loaded} {Y = Loaded} (λ x. x) r (load_result (body_of bytes) place.offset n c.args.kind)) part.1
    (c.decode.ensures.placed (body_of bytes) place.offset at.within at.is))

pub returns-clause-first : goal.returns-clause-first
returns-clause-first g c at = absurd (not_at_hand g.R.ReadAt.reads at)

pub returns-clause-kind : goal.returns-clause-kind
returns-clause-kind g c = kind_given c.in_ok-bytes.bytes 0 (length c.in_ok-bytes.bytes) c.args.kind c.decode.result c.decode.ensures.returned
