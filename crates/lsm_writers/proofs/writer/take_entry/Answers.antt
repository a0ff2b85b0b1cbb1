use Rattle.std.proofs.Common.{◌≡◌, ◌∙◌, sym, subst, List, [], ◌∷◌, ◌++◌, ◌+◌, arith, length}
use Rattle.std.specs.Prelude.{None}
use Rattle.sst_blocks.specs.Encoding.{entries_fault}
use Rattle.sst_entries.specs.Entry.{Entry}
use Rattle.sst_entries.specs.Lending.{entry_of_ref}
use Rattle.sst_entries.specs.Strict.{IsStrict}
use Rattle.sst_blocks.specs.table.Chunks.{joined}
use Rattle.lsm_writers.proofs.Taking.{given_up, taken_full, taken_unfilled}
use Rattle.lsm_writers.proofs.writer.take_entry.Goals as goal

pub returns-then-size-options-clause-taken : goal.returns-then-size-options-clause-taken
returns-then-size-options-clause-taken g c =
    let e = entry_of_ref c.args.entry.now in
    let n = c.args.chunk_size.now + length e.user_key + length e.value in
    taken_unfilled c.args.options.now.data_block_size c.args.blocks.now c.args.chunk.now c.push.new.self (entry_of_ref c.args.entry.now) c.args.chunk_size.now n c.args.meta.now c.in_ok-push.ensures.pushed (omega arith) c.requires.sized (omega arith)

pub cut-requires-clause-strict : goal.cut-requires-clause-strict
cut-requires-clause-strict g c = subst (λ (es : List Entry). IsStrict (joined c.args.blocks.now.chunks ++ es)) (sym c.in_ok-push.ensures.pushed) c.requires.strict

pub cut-requires-clause-fit : goal.cut-requires-clause-fit
cut-requires-clause-fit g c = subst (λ (es : List Entry). entries_fault es ≡ None) (sym c.in_ok-push.ensures.pushed) c.requires.fit

pub rewind-requires : goal.rewind-requires
rewind-requires g c = record {
  front = c.args.chunk.now;
  rest = entry_of_ref c.args.entry.now ∷ [];
  are = c.in-Err.ensures.left ∙ c.in_ok-push.ensures.pushed;
  mark = c.mark-before.ensures;
}

pub returns-in-Err-clause-left : goal.returns-in-Err-clause-left
returns-in-Err-clause-left g c =
    c.rewind.ensures ∙ given_up c.args.chunk.now _ (entry_of_ref c.args.entry.now) c.mark-before.result.len (c.in-Err.ensures.left ∙ c.in_ok-push.ensures.pushed) c.mark-before.ensures.count

pub returns-clause-taken : goal.returns-clause-taken
returns-clause-taken g c =
    let r = c.in_default.ensures in
    let e = entry_of_ref c.args.entry.now in
    let n = c.args.chunk_size.now + length e.user_key + length e.value in
    taken_full c.args.options.now.data_block_size c.args.blocks.now c.cut.new.self c.args.chunk.now c.push.new.self c.cut.new.chunk (entry_of_ref c.args.entry.now) c.args.chunk_size.now n c.args.meta.now c.cut.new.meta c.in_ok-push.ensures.pushed (omega arith) c.requires.sized (omega arith) r.ok r.works r.taken r.counted
