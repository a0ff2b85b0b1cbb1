use Rattle.std.proofs.Common.{◌+◌, [], arith, length, refl, unwrap_or, ap, ◌∙◌, sym}
use Rattle.sst_entries.specs.Entry.{Entry}
use Rattle.sst_entries.specs.Lending.{entry_of_ref}
use Rattle.std.specs.Prelude.{Some}
use Rattle.sst_blocks.specs.Reading.{entries_in}
use Rattle.sst_blocks.proofs.Entries.{block_holds}
use Rattle.sst_blocks.proofs.EntryPlaces.{lies_within, placed_is}
use Rattle.sst_blocks.proofs.data_block.cursor.place_at.Goals as goal

pub overflow_add-at : goal.overflow_add-at
unfolding entries_in
overflow_add-at g c =
    let es = unwrap_or (entries_in c.args.version c.args.payload.now) [] in
    let stands = block_holds c.args.version c.args.payload.now c.args.starts.now es c.args.index c.at.result (entry_of_ref c.item_at-entry.result) c.requires.spelled refl (rw c.as_slice.ensures at c.item_at-entry.ensures) c.at.ensures.found in
    omega (arith, stands.within, c.head_len.ensures, c.requires.spelled.short)

pub of-requires : goal.of-requires
unfolding entries_in
of-requires g c =
    let es = unwrap_or (entries_in c.args.version c.args.payload.now) [] in
    let stands = block_holds c.args.version c.args.payload.now c.args.starts.now es c.args.index c.at.result (entry_of_ref c.item_at-entry.result) c.requires.spelled refl (rw c.as_slice.ensures at c.item_at-entry.ensures) c.at.ensures.found in
    omega (arith, stands.within, c.head_len.ensures, c.requires.spelled.short)

pub returns-clause-found : goal.returns-clause-found
unfolding entries_in
returns-clause-found g c =
    let e = entry_of_ref c.item_at-entry.result in
    let es = unwrap_or (entries_in c.args.version c.args.payload.now) [] in
    let here = rw c.as_slice.ensures at c.item_at-entry.ensures in
    let stands = block_holds c.args.version c.args.payload.now c.args.starts.now es c.args.index c.at.result e c.requires.spelled refl here c.at.ensures.found in
    here ∙ ap (λ (x : Entry). Some x) (sym (placed_is c.args.payload.now (c.at.result + c.head_len.result) e c.of.result c.of.ensures (rw c.head_len.ensures stands.key) (rw c.head_len.ensures stands.value)))

pub returns-clause-placed : goal.returns-clause-placed
unfolding entries_in
returns-clause-placed g c =
    let e = entry_of_ref c.item_at-entry.result in
    let es = unwrap_or (entries_in c.args.version c.args.payload.now) [] in
    let stands = block_holds c.args.version c.args.payload.now c.args.starts.now es c.args.index c.at.result e c.requires.spelled refl (rw c.as_slice.ensures at c.item_at-entry.ensures) c.at.ensures.found in
    lies_within c.args.payload.now (c.at.result + c.head_len.result) e c.of.result c.of.ensures (omega (arith, stands.within, c.head_len.ensures))
