use Rattle.std.proofs.Common.{◌≡◌, ◌∙◌, ap, refl, sym, subst, ◌<◌, ◌^◌, List, [], ◌∷◌, ◌++◌, length, arith}
use Rattle.std.specs.Prelude.{Some, None, Option}
use Rattle.sst_blocks.specs.declared.version.TableVersion.TheVariants.{V4}
use Rattle.sst_entries.specs.Entry.{Entry}
use Rattle.sst_blocks.specs.Payload.{payload}
use Rattle.sst_entries.specs.Strict.{IsStrict, last_of}
use Rattle.sst_entries.proofs.StreamLemmas.{on_err}
use Rattle.sst_blocks.specs.table.Chunks.{joined}
use Rattle.sst_blocks.specs.table.Index.{last_entry}
use Rattle.lsm_writers.specs.Cut.{AreCut, chunks_in, Cut, with_cut}
use Rattle.lsm_writers.proofs.Cutting.{added_is, held_again, held_by_bytes, counted_more, rest_is, room_for, at_least_blocks, exact_blocks, last_is_some, sizes}
use Rattle.std.proofs.lemmas.List.{append-nil}
use Rattle.lsm_writers.proofs.Orders.{is_not_empty, nothing_is_last, some_last, the_last}
use Rattle.lsm_writers.proofs.writer.data_blocks.DataBlocks.cut.Goals as goal

pub add_block-requires-clause-some : goal.add_block-requires-clause-some
add_block-requires-clause-some g c = some_last _ _ (sym c.in-Some.ensures)

pub add_block-requires-clause-cut : goal.add_block-requires-clause-cut
add_block-requires-clause-cut g c =
    let i = c.self.inside in
    let old = chunks_in V4 (length i.index_writer.handles) i.file_writer.bytes in
    let cs : old ≡ c.args.self.now.chunks = ap (λ (x : Cut). x.chunks) c.self.view_is in
    let strict : IsStrict (joined old ++ c.args.chunk.now) = rw cs c.requires.strict in
    record { chunks = old; last = last_of None i.last_block; are = c.self.invariant.0; works = ap (λ (x : Cut). x.failed) c.self.view_is ∙ c.requires.works; strict = strict }

pub invariant_of-self-in_err-add_block : goal.invariant_of-self-in_err-add_block
invariant_of-self-in_err-add_block g c =
    let i = c.self.inside in
    let old = chunks_in V4 (length i.index_writer.handles) i.file_writer.bytes in
    let cs : old ≡ c.args.self.now.chunks = ap (λ (x : Cut). x.chunks) c.self.view_is in
    let t = c.add_block.new in
    let left = c.in_err-add_block.ensures.left old (last_of None i.last_block) c.self.invariant.0 in
    (held_by_bytes old t.file_writer t.index_writer.handles (last_of None i.last_block) t.index_writer.failed left, rw (held_again old t.file_writer t.index_writer.handles (last_of None i.last_block) t.index_writer.failed left) c.self.invariant.1)

pub returns-in_err-add_block-clause-unchanged : goal.returns-in_err-add_block-clause-unchanged
returns-in_err-add_block-clause-unchanged g c =
    let i = c.self.inside in
    let old = chunks_in V4 (length i.index_writer.handles) i.file_writer.bytes in
    let cs : old ≡ c.args.self.now.chunks = ap (λ (x : Cut). x.chunks) c.self.view_is in
    let t = c.add_block.new in
    let left = c.in_err-add_block.ensures.left old (last_of None i.last_block) c.self.invariant.0 in
    let same : chunks_in V4 (length t.index_writer.handles) t.file_writer.bytes ≡ c.args.self.now.chunks = held_again old t.file_writer t.index_writer.handles (last_of None i.last_block) t.index_writer.failed left ∙ cs in
    on_err c.from_residual-in_err-add_block.result same

pub count_block-requires : goal.count_block-requires
count_block-requires g c =
    let i = c.self.inside in
    let old = chunks_in V4 (length i.index_writer.handles) i.file_writer.bytes in
    let cs : old ≡ c.args.self.now.chunks = ap (λ (x : Cut). x.chunks) c.self.view_is in
    let t = c.add_block.new in
    let es = c.args.chunk.now in
    let more = added_is old c.args.self.now.chunks es es i.file_writer t.file_writer i.index_writer.handles t.index_writer.handles (last_of None i.last_block) (Some (last_entry es)) i.index_writer.failed t.index_writer.failed c.self.invariant.0 cs refl c.requires.strict c.in_ok-add_block.ensures.added in
    let are = subst (λ (x : List (List Entry)). c.args.meta.now ≡ with_cut x c.args.meta.now) (sym cs) c.requires.counts.are in
    let le = at_least_blocks (old ++ es ∷ []) t.file_writer t.index_writer.handles (Some (last_entry es)) t.index_writer.failed more in
    let lt : length t.file_writer.bytes < 2 ^ 64 = omega arith in
    let room = room_for c.args.meta.now old es (length t.file_writer.bytes) are more.readable le lt in
    let n : c.len.result ≡ length es = c.len.ensures ∙ ap length c.in_ok-add_block.ensures.same in
    let m : c.payload_len.result ≡ length (payload V4 es) = c.payload_len.ensures ∙ ap (λ (x : List Entry). length (payload V4 x)) c.in_ok-add_block.ensures.same in
    (room.0, omega (arith, n, room.1), omega (arith, m, room.2))

pub invariant_of-self-2 : goal.invariant_of-self-2
invariant_of-self-2 g c =
    let i = c.self.inside in
    let old = chunks_in V4 (length i.index_writer.handles) i.file_writer.bytes in
    let cs : old ≡ c.args.self.now.chunks = ap (λ (x : Cut). x.chunks) c.self.view_is in
    let t = c.add_block.new in
    let es = c.args.chunk.now in
    let more = added_is old c.args.self.now.chunks es es i.file_writer t.file_writer i.index_writer.handles t.index_writer.handles (last_of None i.last_block) (Some (last_entry es)) i.index_writer.failed t.index_writer.failed c.self.invariant.0 cs refl c.requires.strict c.in_ok-add_block.ensures.added in
    let some = some_last es _ (sym c.in-Some.ensures) in
    let swapped : last_of None c.swap.new.x ≡ Some (last_entry es) = ap (last_of None) (c.swap.ensures.x_after ∙ c.in_ok-add_block.ensures.same) ∙ last_is_some None es some in
    let stands = subst (λ (o : Option Entry). AreCut (old ++ es ∷ []) t.file_writer t.index_writer.handles o t.index_writer.failed) (sym swapped) more in
    let le = at_least_blocks (old ++ es ∷ []) t.file_writer t.index_writer.handles (Some (last_entry es)) t.index_writer.failed more in
    let lt : length t.file_writer.bytes < 2 ^ 64 = omega arith in
    let again = held_again (old ++ es ∷ []) t.file_writer t.index_writer.handles (Some (last_entry es)) t.index_writer.failed more in
    (held_by_bytes _ _ _ _ _ stands, rw again (omega (arith, (sizes (old ++ es ∷ []) more.readable).items, le, lt)))

pub returns-clause-ok : goal.returns-clause-ok
returns-clause-ok g c =
    let i = c.self.inside in
    let old = chunks_in V4 (length i.index_writer.handles) i.file_writer.bytes in
    let cs : old ≡ c.args.self.now.chunks = ap (λ (x : Cut). x.chunks) c.self.view_is in
    let t = c.add_block.new in
    let es = c.args.chunk.now in
    let more = added_is old c.args.self.now.chunks es es i.file_writer t.file_writer i.index_writer.handles t.index_writer.handles (last_of None i.last_block) (Some (last_entry es)) i.index_writer.failed t.index_writer.failed c.self.invariant.0 cs refl c.requires.strict c.in_ok-add_block.ensures.added in
    let some = some_last es _ (sym c.in-Some.ensures) in
    held_again (old ++ es ∷ []) t.file_writer t.index_writer.handles (Some (last_entry es)) t.index_writer.failed more ∙ ap (λ (x : List (List Entry)). x ++ es ∷ []) cs ∙ ap (λ (x : List (List Entry)). c.args.self.now.chunks ++ x) (sym (rest_is es some))

pub returns-clause-counted : goal.returns-clause-counted
returns-clause-counted g c =
    let i = c.self.inside in
    let old = chunks_in V4 (length i.index_writer.handles) i.file_writer.bytes in
    let cs : old ≡ c.args.self.now.chunks = ap (λ (x : Cut). x.chunks) c.self.view_is in
    let t = c.add_block.new in
    let es = c.args.chunk.now in
    let more = added_is old c.args.self.now.chunks es es i.file_writer t.file_writer i.index_writer.handles t.index_writer.handles (last_of None i.last_block) (Some (last_entry es)) i.index_writer.failed t.index_writer.failed c.self.invariant.0 cs refl c.requires.strict c.in_ok-add_block.ensures.added in
    let are = subst (λ (x : List (List Entry)). c.args.meta.now ≡ with_cut x c.args.meta.now) (sym cs) c.requires.counts.are in
    let le = at_least_blocks (old ++ es ∷ []) t.file_writer t.index_writer.handles (Some (last_entry es)) t.index_writer.failed more in
    let lt : length t.file_writer.bytes < 2 ^ 64 = omega arith in
    let some = some_last es _ (sym c.in-Some.ensures) in
    let n : c.len.result ≡ length es = c.len.ensures ∙ ap length c.in_ok-add_block.ensures.same in
    let m : c.payload_len.result ≡ length (payload V4 es) = c.payload_len.ensures ∙ ap (λ (x : List Entry). length (payload V4 x)) c.in_ok-add_block.ensures.same in
    let key : c.keep.new.kept ≡ Some (last_entry es).user_key = c.in_ok-keep.ensures.ok ∙ ap (λ (e : Entry). Some e.user_key) (the_last es _ (sym c.in-Some.ensures)) in
    let at = c.position.ensures ∙ exact_blocks (old ++ es ∷ []) t.file_writer t.index_writer.handles (Some (last_entry es)) t.index_writer.failed more c.in_ok-add_block.ensures.works in
    let again = held_again (old ++ es ∷ []) t.file_writer t.index_writer.handles (Some (last_entry es)) t.index_writer.failed more in
    c.count_block.ensures ∙ rw (n, m, key, again) (counted_more c.args.meta.now old es _ are some at)

pub returns-clause-works : goal.returns-clause-works
returns-clause-works g c = c.in_ok-add_block.ensures.works

-- where nothing is to be cut
pub returns-in_default-clause-taken : goal.returns-in_default-clause-taken
returns-in_default-clause-taken g c = nothing_is_last _ (sym c.in_default.ensures)

pub returns-in_default-clause-ok : goal.returns-in_default-clause-ok
returns-in_default-clause-ok g c =
    let none : c.args.chunk.now ≡ [] = nothing_is_last _ (sym c.in_default.ensures) in
    rw none (sym (append-nil c.args.self.now.chunks))

pub returns-in_default-clause-counted : goal.returns-in_default-clause-counted
returns-in_default-clause-counted g c = c.requires.counts.are

pub returns-in_err-keep-clause-some : goal.returns-in_err-keep-clause-some
returns-in_err-keep-clause-some g c = on_err c.from_residual.result (λ none. is_not_empty _ _ c.in-Some.ensures none)

pub returns-in_err-add_block-clause-some : goal.returns-in_err-add_block-clause-some
returns-in_err-add_block-clause-some g c = on_err c.from_residual-in_err-add_block.result (λ none. is_not_empty _ _ c.in-Some.ensures none)
