-- The data blocks of a table as it was written: each handle names its chunk, and the blocks lie one
-- behind another; a table without entries has none.
use Rattle.std.proofs.Common.{◌≡◌, ℕ, ◌+◌, ◌^◌, ◌<◌, ◌≤◌, List, [], ◌∷◌, ◌++◌, length, slice_range}
use Rattle.std.proofs.Common.{take, refl, sym, ap, subst, ◌∙◌, append_assoc, length-append, arith}
use Rattle.std.specs.Prelude.{Option, Some, Ok, Err, is_some, unwrap_or, sum_by}
use Rattle.std.specs.List.{AllByRecursion, AllZip}
use Rattle.std.proofs.lemmas.List.{take_at}
use Rattle.sst_blocks.specs.declared.block_type.BlockType.TheVariants.{Data, Index}
use Rattle.sst_entries.specs.declared.error.Error.TheVariants.{InvalidTag}
use Rattle.sst_entries.specs.declared.error.TagName.TheVariants.{BlockType as BlockTypeTag}
use Rattle.sst_blocks.specs.declared.version.TableVersion.TheVariants.{V3, V4}
use Rattle.sst_blocks.specs.declared.version.TableVersion.{TableVersion}
use Rattle.sst_blocks.specs.Block.{Loaded, block_bytes, header, header_fault, load_at_result}
use Rattle.sst_blocks.specs.Block.{load_result}
use Rattle.sst_entries.specs.Entry.{Entry}
use Rattle.sst_blocks.specs.Handles.{handles_payload}
use Rattle.sst_blocks.specs.Payload.{payload}
use Rattle.sst_blocks.specs.Reading.{entries_in}
use Rattle.sst_blocks.specs.Sections.{body_of, finished}
use Rattle.sst_entries.specs.Strict.{IsStrictAfter, last_of}
use Rattle.sst_blocks.proofs.BlockLaws.{written_loads}
use Rattle.sst_blocks.proofs.LoadLemmas.{load_at_fault}
use Rattle.sst_blocks.specs.table.Chunks.{joined}
use Rattle.sst_blocks.specs.table.File.{IsContent}
use Rattle.sst_blocks.specs.table.Index.{handles, data_block, data_section, block_size, handle_of}
use Rattle.sst_blocks.specs.table.Index.{handles_from}
use Rattle.sst_blocks.specs.table.Content.{Content}
use Rattle.sst_blocks.specs.table.Kinds.{AreIndexParts, index_sections}
use Rattle.sst_blocks.specs.table.Layout.{bytes_in}
use Rattle.sst_blocks.specs.table.Partitions.{handles_block}
use Rattle.sst_blocks.specs.declared.table.options.Options.{Options}
use Rattle.sst_blocks.specs.declared.table.label.Label.{Label}
use Rattle.sst_blocks.specs.table.Fits.{EntryFits, BlockFits}
use Rattle.lsm_readers.proofs.ChunkReads.{AreSome}
use Rattle.sst_blocks.proofs.BlockLengths.{length-block}
use Rattle.lsm_readers.proofs.FileLengths.{chunk_reads}
use Rattle.sst_entries.proofs.Lists.{all_front, all_behind}
use Rattle.sst_entries.proofs.Strictness.{strict_alone, strict_front, strict_back}
use Rattle.lsm_readers.proofs.FileContent.{some_chunks}
use Rattle.lsm_readers.proofs.FileIndexKinds.{index_alone}
use Rattle.lsm_readers.proofs.FileSections.{body_is, the_end, the_filter, written}
use Rattle.std.proofs.lemmas.List.Sums.{sum_by-cons}
use Rattle.sst_blocks.specs.Handle.{Handle}
use Rattle.lsm_readers.specs.Stored.{AreLaid, HasNoBlock, NamesChunk}

-- ---- chunks

-- the block of a chunk
abbrev pub loaded_of : TableVersion → List Entry → Loaded
loaded_of v c = record { version = v; kind = Data; payload = payload v c }

abbrev pub Reads : TableVersion → List Entry → Type 0
Reads v c = (entries_in v (payload v c) ≡ Some c) × (length (payload v c) < 2 ^ 32)

pub all_read : (v : TableVersion) (last : Option Entry) (cs : List (List Entry))
    → IsStrictAfter last (joined cs) → AllByRecursion (EntryFits v) (joined cs)
    → AllByRecursion (BlockFits v) cs → AllByRecursion (Reads v) cs
all_read v last [] strict fits blocks = tt
all_read v last (c ∷ cs) strict fits blocks =
    let block : BlockFits v c = blocks.0 in
    let fit = all_front (EntryFits v) c (joined cs) fits in
    let here : Reads v c = (
      chunk_reads v c fit (strict_alone last c
          (strict_front last c (joined cs) strict)) block,
      omega (arith, block.short),
    ) in (
      here,
      all_read v (last_of last c) cs (strict_back last c (joined cs) strict)
          (all_behind (EntryFits v) c (joined cs) fits) blocks.1,
    )

-- ---- their blocks

-- each handle names its chunk
pub chunks_named : (v : TableVersion) (cs : List (List Entry)) (pre post body : List ℕ) (at : ℕ)
    → AreSome cs → AllByRecursion (Reads v) cs → at ≡ length pre
    → body ≡ pre ++ (data_section v cs ++ post)
    → AllZip (NamesChunk body) (handles_from v at cs) cs
chunks_named v [] pre post body at some reads from lies = tt
chunks_named v (c ∷ cs) pre post body at some reads from lies =
    let here : Reads v c = reads.0 in
    let first : body ≡ pre ++ (data_block v c ++ (data_section v cs ++ post)) = lies
    ∙ ap (λ (xs : List ℕ). pre ++ xs) (append_assoc (data_block v c)
    (data_section v cs) post) in
    let others : body ≡ (pre ++ data_block v c) ++ (data_section v cs ++ post) = first
    ∙ sym (append_assoc pre (data_block v c) (data_section v cs ++ post)) in
    let next : at + block_size v c ≡ length (pre ++ data_block v c) =
    omega (
      arith,
      from,
      length-append pre (data_block v c),
      length-block v Data
          (payload v c),
    ) in
    let loads : load_result body at (24 + length (payload v c)) Data ≡ Ok (loaded_of v c) =
    written_loads v Data pre (payload v c) (data_section v cs ++ post) body at here.1
    (ap is_some here.0) from others in (
      record {
        block = loaded_of v c;
        loads = loads;
        entries = ap (λ (o : Option (List Entry)). unwrap_or o []) here.0;
        some = some.0;
        end_key = refl;
        seqno = refl;
      },
      chunks_named v cs (pre ++ data_block v c) post body (at + block_size v c) some.1 reads.1 next
          others,
    )

pub chunks_laid : (v : TableVersion) (at : ℕ) (cs : List (List Entry))
    → AreLaid at (handles_from v at cs)
chunks_laid v at [] = tt
chunks_laid v at (c ∷ cs) = (refl, chunks_laid v (at + block_size v c) cs)

-- together they are as long as the data section
pub chunk_sizes : (v : TableVersion) (at : ℕ) (cs : List (List Entry))
    → length (data_section v cs) ≡ sum_by (λ (h : Handle). h.size) (handles_from v at cs)
chunk_sizes v at [] = refl
chunk_sizes v at (c ∷ cs) =
    let hs = handles_from v (at + block_size v c) cs in
    omega (
      arith,
      chunk_sizes v (at + block_size v c) cs,
      sum_by-cons (λ (h : Handle). h.size) (handle_of v at c) hs,
      length-block v Data (payload v c),
      length-append (data_block v c) (data_section v cs),
    )

-- ---- a table without entries

-- an index block is not loaded as a data block
index_head : (v : TableVersion) (bytes : List ℕ)
    → header_fault Data (header v Index bytes) ≡ Some (InvalidTag BlockTypeTag 1)
index_head V3 bytes = refl
index_head V4 bytes = refl

length-header : (v : TableVersion) (bytes : List ℕ) → length (header v Index bytes) ≡ 24
length-header v bytes = omega (
  arith,
  length-block v Index bytes,
  length-append
      (header v Index bytes) bytes,
)

index_refused : (v : TableVersion) (bytes rest body : List ℕ)
    → body ≡ block_bytes v Index bytes ++ rest → load_at_result body 0 Data
    ≡ Err (InvalidTag BlockTypeTag 1)
index_refused v bytes rest body e =
    let head = header v Index bytes in
    let whole : body ≡ head ++ (bytes ++ rest) = e ∙ append_assoc head bytes rest in
    let long : 0 + 24 ≤ length body = omega (
      arith,
      ap length whole,
      length-append head
          (bytes ++ rest),
      length-header v bytes,
    ) in
    let front : slice_range body 0 (0 + 24) ≡ head = ap (λ (xs : List ℕ). take 24 xs) whole
    ∙ take_at head (bytes ++ rest) 24 (length-header v bytes) in
    load_at_fault body 0 Data (InvalidTag BlockTypeTag 1) long
    (ap (header_fault Data) front ∙ index_head v bytes)

no_chunks : (cs : List (List Entry)) → AreSome cs → length (joined cs) ≡ 0 → cs ≡ []
no_chunks [] some none = refl
no_chunks (c ∷ cs) some none = absurd (omega (arith, some.0, none, length-append c (joined cs)))

-- so the first block of a table without entries is the index
pub empty_refused : (v : TableVersion) (label : Label) (options : Options) (spills : List ℕ)
    (es : List Entry) (c : Content) → IsContent v options spills es c → length es ≡ 0
    → HasNoBlock (body_of (finished (written v label options c)))
empty_refused v label options spills es c is none =
    let body = body_of (finished (written v label options c)) in
    let empty : c.blocks ≡ [] = no_chunks c.blocks
    (some_chunks options.data_block_size spills 0 c.blocks (is.chunks).each)
    (ap length (is.chunks).whole ∙ none) in
    let parts : AreIndexParts options.index_kind [] c.index =
    subst (λ (cs : List (List Entry)). AreIndexParts options.index_kind (handles v cs) c.index)
    empty is.index in
    let behind = (λ (cs : List (List Entry)). data_section v cs
    ++ (bytes_in (index_sections options.index_kind v (length (data_section v cs))
    (handles v cs) c.index) ++ rest v label options c)) in
    let front : body ≡ behind [] = body_is v label options c ∙ ap behind empty in
    let whole : body ≡ (handles_block v [] ++ []) ++ rest v label options c = front
    ∙ ap (λ (bs : List ℕ). bs ++ rest v label options c)
    (index_alone options.index_kind v 0 c.index parts) in
    record {
      fault = InvalidTag BlockTypeTag 1;
      refused = index_refused v (handles_payload v []) ([] ++ rest v label options c) body
          (whole ∙ append_assoc (handles_block v []) [] (rest v label options c));
    }
  where
    rest : TableVersion → Label → Options → Content → List ℕ
    rest v label options c = bytes_in (the_filter v label options c)
        ++ bytes_in (the_end v label options c)
