use Rattle.std.proofs.Common.{◌+◌, arith}
use Rattle.std.proofs.lemmas.Option.{slice_get_within}
use Rattle.sst_entries.specs.Lending.{entry_of_ref}
use Rattle.sst_blocks.proofs.Entries.{block_holds, block_len}
use Rattle.sst_blocks.proofs.EntryPlaces.{lies_within, placed_is}
use Rattle.sst_blocks.proofs.data_block.DataBlock.share.Goals as goal

pub at-requires : goal.at-requires
at-requires g c = omega (arith, slice_get_within c.args.self.now c.args.index (entry_of_ref c.args.entry.now) c.requires, block_len _ _ _ _ c.self.invariant c.self.view_is)

pub overflow_add-key_at : goal.overflow_add-key_at
overflow_add-key_at g c =
    let s = block_holds _ _ _ c.args.self.now c.args.index c.at.result (entry_of_ref c.args.entry.now) c.self.invariant c.self.view_is c.requires c.at.ensures.found in
    omega (arith, s.within, c.head_len.ensures, c.self.invariant.short)

pub of-requires : goal.of-requires
of-requires g c =
    let s = block_holds _ _ _ c.args.self.now c.args.index c.at.result (entry_of_ref c.args.entry.now) c.self.invariant c.self.view_is c.requires c.at.ensures.found in
    omega (arith, s.within, c.head_len.ensures, c.self.invariant.short)

pub share-requires : goal.share-requires
share-requires g c =
    let e = entry_of_ref c.args.entry.now in
    let s = block_holds _ _ _ c.args.self.now c.args.index c.at.result e c.self.invariant c.self.view_is c.requires c.at.ensures.found in
    lies_within c.self.inside.payload (c.at.result + c.head_len.result) e c.of.result c.of.ensures (omega (arith, s.within, c.head_len.ensures))

pub returns-clause-found : goal.returns-clause-found
returns-clause-found g c =
    let e = entry_of_ref c.args.entry.now in
    let s = block_holds _ _ _ c.args.self.now c.args.index c.at.result e c.self.invariant c.self.view_is c.requires c.at.ensures.found in
    rw (← placed_is c.self.inside.payload (c.at.result + c.head_len.result) e c.of.result c.of.ensures (rw c.head_len.ensures s.key) (rw c.head_len.ensures s.value)) c.share.ensures.found
