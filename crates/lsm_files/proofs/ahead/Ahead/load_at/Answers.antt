use Rattle.std.proofs.Common.{ℕ, ◌+◌, List, length, arith, subst, sym, ◌∙◌}
use Rattle.std.proofs.lemmas.Result.{err_from_is_err_and}
use Rattle.sst_blocks.specs.Sections.{body_of}
use Rattle.sst_blocks.specs.Block.{Loaded, load_at_result}
use Rattle.sst_blocks.proofs.LoadLemmas.{load_at_truncated}
use Rattle.lsm_files.specs.Reads.{IsPartAt}
use Rattle.lsm_files.specs.Tail.{IsPartError}
use Rattle.lsm_files.proofs.Aheads.{head_fails, head_loads, head_passes, part_refuses, passed_whole}
use Rattle.lsm_files.proofs.ahead.Ahead.load_at.Goals as goal

pub returns-in_err-head-clause-returned : goal.returns-in_err-head-clause-returned
returns-in_err-head-clause-returned g c known =
    let body = body_of c.args.self.now in
    part_refuses g.R.ReadAt.reads (λ (b : Loaded × ℕ). b.0) (length body) (c.args.position + c.serialized_len.result) (load_at_result body c.args.position c.args.kind)
    (λ past. load_at_truncated body c.args.position c.args.kind (λ within. omega (arith, past, within, c.serialized_len.ensures)))
    c.from_residual.result c.in_err-head.field-0.0 c.from_residual.ensures.1 (c.in_err-head.ensures.fault known)

pub returns-in_err-size-clause-returned : goal.returns-in_err-size-clause-returned
returns-in_err-size-clause-returned g c known =
    let body = body_of c.args.self.now in
    let head = c.in_ok-head.head in
    let p = err_from_is_err_and c.from_residual-in_err-size.result c.from_residual-in_err-size.ensures.1 in
    rw (p.1, p.2) (λ memory. head_fails body c.args.position c.args.kind head c.as_slice.result.now (omega (arith, c.in_ok-head.ensures.len, c.serialized_len.ensures)) (c.in_ok-head.ensures.part known) c.as_slice.ensures c.in_err-size.field-0.0 c.in_err-size.ensures)

pub returns-in_err-bytes-clause-returned : goal.returns-in_err-bytes-clause-returned
returns-in_err-bytes-clause-returned g c known =
    let body = body_of c.args.self.now in
    let head = c.in_ok-head.head in
    let size = c.in_ok-size.size in
    let e = c.in_err-bytes.field-0.0 in
    let fault = subst (λ (b : List ℕ). IsPartError g.R.ReadAt.reads (length (body_of b)) (c.args.position + size) e) c.part.ensures.bytes (c.in_err-bytes.ensures.fault known) in
    part_refuses g.R.ReadAt.reads (λ (b : Loaded × ℕ). b.0) (length body) (c.args.position + size) (load_at_result body c.args.position c.args.kind)
    (λ past. head_passes body c.args.position c.args.kind head c.as_slice.result.now (omega (arith, c.in_ok-head.ensures.len, c.serialized_len.ensures)) (c.in_ok-head.ensures.part known) c.as_slice.ensures size c.in_ok-size.ensures past)
    c.from_residual-in_err-bytes.result e c.from_residual-in_err-bytes.ensures.1 fault

pub returns-in_err-block-clause-returned : goal.returns-in_err-block-clause-returned
returns-in_err-block-clause-returned g c known =
    let body = body_of c.args.self.now in
    let e = c.in_err-block.field-0.0 in
    let read = subst (λ (b : List ℕ). IsPartAt (body_of b) c.args.position c.in_ok-bytes.bytes) c.part.ensures.bytes (c.in_ok-bytes.ensures.part known) in
    let same = head_loads body c.args.position c.args.kind c.in_ok-head.head c.as_slice.result.now (omega (arith, c.in_ok-head.ensures.len, c.serialized_len.ensures)) (c.in_ok-head.ensures.part known) c.as_slice.ensures c.in_ok-bytes.bytes c.in_ok-size.size c.in_ok-size.ensures c.in_ok-bytes.ensures.len read in
    passed_whole {X = Loaded × ℕ} {Y = Loaded} g.R.ReadAt.reads (λ b. b.0) (λ b. b) c.from_residual-in_err-block.result e (load_at_result body c.args.position c.args.kind) c.from_residual-in_err-block.ensures.1
    (rw same at c.in_err-block.ensures.returned)

pub returns-clause-returned : goal.returns-clause-returned
returns-clause-returned g c known =
    let body = body_of c.args.self.now in
    let read = subst (λ (b : List ℕ). IsPartAt (body_of b) c.args.position c.in_ok-bytes.bytes) c.part.ensures.bytes (c.in_ok-bytes.ensures.part known) in
    let same = head_loads body c.args.position c.args.kind c.in_ok-head.head c.as_slice.result.now (omega (arith, c.in_ok-head.ensures.len, c.serialized_len.ensures)) (c.in_ok-head.ensures.part known) c.as_slice.ensures c.in_ok-bytes.bytes c.in_ok-size.size c.in_ok-size.ensures c.in_ok-bytes.ensures.len read in
    sym same ∙ c.in_ok-block.ensures.returned
