-- The index of an opened table names the data blocks of the list that its bytes store. Tables of
-- one list that are cut alike have the same data blocks, so their indexes tell the same.
use Rattle.std.proofs.Common.{◌≡◌, ℕ, List, ap, subst, sym, ◌∙◌}
use Rattle.sst_blocks.specs.declared.version.TableVersion.{TableVersion}
use Rattle.sst_entries.specs.Entry.{Entry}
use Rattle.sst_entries.specs.Stream.{ok_results}
use Rattle.sst_blocks.specs.Handle.{Handle}
use Rattle.sst_blocks.specs.Handles.{window}
use Rattle.sst_blocks.specs.table.Chunks.{AreChunks}
use Rattle.sst_blocks.specs.table.Index.{handles}
use Rattle.sst_blocks.specs.table.Table.{IsTable}
use Rattle.sst_blocks.proofs.OneCut.{one_cut}
use Rattle.lsm_readers.specs.BlockIndexes.{AreCutAlike, NamesBlocksOf, ReadAlike, table_index}
use Rattle.lsm_readers.specs.Stored.{StoresList}
use Rattle.lsm_readers.specs.point.Table.{IsOpen, OpenTable}
use Rattle.lsm_readers.proofs.FileStored.{open_stores}
use Rattle.lsm_readers.proofs.StoredParts.{stored_index}

-- the index of an open table
pub names_blocks : (t : OpenTable) → IsOpen t → (es : List Entry) (s : StoresList t.bytes es)
    → NamesBlocksOf s (table_index t)
names_blocks t held es s lower upper =
    stored_index t.bytes es s t.global_seqno held.recovered.pin_filter held.recovered.pin_index
    t.parts held.recovered.returned lower upper

same_blocks : (a b : List ℕ) (es : List Entry) (t : IsTable a es) (u : IsTable b es)
    → AreCutAlike t u → (t.file).content.blocks ≡ (u.file).content.blocks
same_blocks a b es t u alike =
    let cs = (t.file).content.blocks in
    let ds = (u.file).content.blocks in
    let size = (t.options).data_block_size in
    let of_its_spills : AreChunks (u.options).data_block_size t.spills es ds =
    subst (λ (spills : List ℕ). AreChunks (u.options).data_block_size spills es ds)
    (sym alike.spills) (u.file).is.chunks in
    let of_its_size : AreChunks size t.spills es ds =
    subst (λ (n : ℕ). AreChunks n t.spills es ds) (sym alike.size) of_its_spills in
    one_cut size t.spills es cs ds (t.file).is.chunks of_its_size

same_handles : (a b : List ℕ) (es : List Entry) (t : IsTable a es) (u : IsTable b es)
    → AreCutAlike t u → handles t.version (t.file).content.blocks
    ≡ handles u.version (u.file).content.blocks
same_handles a b es t u alike =
    ap (handles t.version) (same_blocks a b es t u alike)
    ∙ ap (λ (v : TableVersion). handles v (u.file).content.blocks) alike.version

pub report_alike : (one other : OpenTable) → IsOpen one → IsOpen other
    → (es : List Entry) (t : IsTable one.bytes es) (u : IsTable other.bytes es) → AreCutAlike t u
    → ReadAlike (table_index one) (table_index other)
report_alike one other held also es t u alike lower upper =
    let s = open_stores one held es t in
    let r = open_stores other also es u in
    let same = s.1 ∙ same_handles one.bytes other.bytes es t u alike ∙ sym r.1 in
    names_blocks one held es s.0 lower upper
    ∙ ap (λ (hs : List Handle). ok_results (window hs lower upper)) same
    ∙ sym (names_blocks other also es r.0 lower upper)
