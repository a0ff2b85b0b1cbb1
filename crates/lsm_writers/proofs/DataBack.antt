-- The list of a finished table is read back from its bytes.
use Rattle.std.proofs.Common.{◌≡◌, refl, sym, ◌∙◌, ap, subst, ℕ, zero, suc, ◌+◌, ◌<◌, ◌≤◌, ◌^◌}
use Rattle.std.proofs.Common.{false, List, [], ◌∷◌, ◌++◌, length, take, drop, append_assoc, arith}
use Rattle.std.proofs.Common.{length-append}
use Rattle.std.specs.Prelude.{Some, None, unwrap_or, slice_index, ◌==◌}
use Rattle.std.specs.List.{AllByRecursion, flat_map}
use Rattle.std.proofs.lemmas.List.{take_at, drop_at}
use Rattle.sst_blocks.specs.declared.version.TableVersion.TheVariants.{V4}
use Rattle.sst_blocks.specs.Sections.{trailer}
use Rattle.sst_blocks.specs.Number.{le4}
use Rattle.sst_blocks.proofs.Numbers.{wide4}
use Rattle.sst_blocks.specs.Block.{data_len}
use Rattle.sst_blocks.specs.Handle.{Handle}
use Rattle.sst_blocks.specs.Payload.{payload, spelled}
use Rattle.sst_blocks.specs.Payload as written
use Rattle.sst_blocks.specs.Reading.{entries_in}
use Rattle.sst_blocks.proofs.Entries.{entries_read, length-spelled}
use Rattle.sst_entries.specs.Entry.{Entry}
use Rattle.sst_entries.specs.Strict.{IsStrict}
use Rattle.sst_entries.proofs.Lists.{all_front, all_behind}
use Rattle.sst_entries.proofs.Strictness.{strict_alone, strict_front, strict_back}
use Rattle.sst_blocks.specs.table.Chunks.{joined}
use Rattle.sst_blocks.specs.table.File.{index_part, filter_part, closing_sections, sections_of}
use Rattle.sst_blocks.specs.table.Fits.{BlockFits, EntryFits}
use Rattle.sst_blocks.specs.table.Index.{data_block, data_section}
use Rattle.sst_blocks.specs.table.Kinds.{index_sections}
use Rattle.sst_blocks.specs.table.Layout.{Sections, bytes_in, laid}
use Rattle.sst_blocks.specs.declared.table.options.IndexKind.{IndexKind}
use Rattle.sst_blocks.specs.declared.table.options.IndexKind.TheVariants.{Full as FullIndex}
use Rattle.sst_blocks.specs.declared.table.options.IndexKind.TheVariants.{
  Partitioned as PartitionedIndex,
}
use Rattle.lsm_writers.specs.Tables.{leading_chunks, list_in}
use Rattle.lsm_writers.specs.Writing.{IsFinished, Writing, written}
use Rattle.lsm_writers.proofs.Cutting.{block_len, len_again, past_header}

-- a chunk whose block gives it back
pub record GivesBack (c : List Entry) : Type 0 where
  pub reads : entries_in V4 (payload V4 c) ≡ Some c
  pub short : length (payload V4 c) < 2 ^ 32

spellable : (es : List Entry) → AllByRecursion (EntryFits V4) es
    → AllByRecursion (written.IsSpellable V4) es
spellable [] fits = tt
spellable (e ∷ es) fits = (
  record {
    number = omega (arith, (fits.0).number);
    key_len =
        omega (arith, (fits.0).key);
    value_len = (fits.0).value;
  },
  spellable es fits.1,
)

wide : (es : List Entry) → length es ≤ length (flat_map (spelled V4) es)
wide [] = omega arith
wide (e ∷ es) = omega (
  arith,
  wide es,
  length-spelled V4 e,
  length-append (spelled V4 e)
      (flat_map (spelled V4) es),
)

payload_wide : (es : List Entry) → length es + 4 ≤ length (payload V4 es)
unfolding payload
payload_wide es = omega (
  arith,
  wide es,
  wide4.len (length es),
  length-append (le4 (length es))
      (flat_map (spelled V4) es),
)

gives_back : (c : List Entry) → AllByRecursion (EntryFits V4) c → IsStrict c → BlockFits V4 c
    → GivesBack c
gives_back c fits strict short = record {
  reads = entries_read V4 c (omega (arith, short.short, payload_wide c), spellable c fits) strict;
  short = omega (arith, short.short);
}

give_back : (cs : List (List Entry)) → AllByRecursion (EntryFits V4) (joined cs)
    → IsStrict (joined cs) → AllByRecursion (BlockFits V4) cs → AllByRecursion GivesBack cs
give_back [] fits strict short = tt
give_back (c ∷ cs) fits strict short = (
  gives_back c (all_front (EntryFits V4) c (joined cs) fits)
      (strict_front None c (joined cs) strict) short.0,
  give_back cs (all_behind (EntryFits V4) c (joined cs) fits)
      (strict_alone _ (joined cs) (strict_back None c (joined cs) strict)) short.1,
)

-- the data blocks at the front of some bytes, behind which another kind begins
leading : (cs : List (List Entry)) (n : ℕ) (rest : List ℕ) → AllByRecursion GivesBack cs
    → length cs ≤ n → (slice_index rest 4 == 0) ≡ false
    → leading_chunks n (data_section V4 cs ++ rest) ≡ cs
unfolding leading_chunks
leading [] zero rest h le other = refl
leading [] (suc n) rest h le other = rw other refl
leading (c ∷ cs) zero rest h le other = absurd (omega (arith, le))
leading (c ∷ cs) (suc n) rest h le other =
    let p = payload V4 c in
    let more = data_section V4 cs ++ rest in
    let bytes = data_block V4 c ++ more in
    let at : data_section V4 (c ∷ cs) ++ rest ≡ bytes =
    append_assoc (data_block V4 c) (data_section V4 cs) rest in
    let k : data_len bytes ≡ length p = len_again p more h.0.short in
    let head : unwrap_or (entries_in V4 (take (data_len bytes) (drop 24 bytes))) [] ≡ c =
    rw (k, past_header p more, take_at p more (length p) refl, h.0.reads) refl in
    let tail : drop (24 + data_len bytes) bytes ≡ more =
    rw k (drop_at (data_block V4 c) more (24 + length p) (block_len c)) in
    ap (leading_chunks (suc n)) at ∙ (ap (λ (x : List Entry). x
    ∷ leading_chunks n (drop (24 + data_len bytes) bytes)) head
    ∙ ap (λ (x : List ℕ). c ∷ leading_chunks n x) tail
    ∙ ap (λ (x : List (List Entry)). c ∷ x) (leading cs n rest h.1 (omega (arith, le)) other))

-- an index begins with a block of its own kind
index_begins : (kind : IndexKind) (at : ℕ) (hs : List Handle) (parts : List (List Handle))
    (F G : Sections) (T : List ℕ) → (slice_index
    (bytes_in ((index_sections kind V4 at hs parts ++ F) ++ G) ++ T) 4 == 0) ≡ false
index_begins FullIndex at hs parts F G T = refl
index_begins (PartitionedIndex size) at hs [] F G T = refl
index_begins (PartitionedIndex size) at hs (p ∷ ps) F G T = refl

many : (cs : List (List Entry)) → length cs ≤ length (data_section V4 cs)
many [] = omega arith
many (c ∷ cs) = omega (
  arith,
  many cs,
  block_len c,
  length-append (data_block V4 c)
      (data_section V4 cs),
)

-- the list of a writer's finished table
pub list_back : (w : Writing) (id checksum : ℕ) (bytes : List ℕ) → IsFinished w id checksum bytes
    → list_in bytes ≡ written w
list_back w id checksum bytes f =
    let content = f.file_is.content in
    let cs = content.blocks in
    let whole : joined cs ≡ written w = f.file_is.is.chunks.whole in
    let strict : IsStrict (joined cs) = subst IsStrict (sym whole) f.strict in
    let F = filter_part V4 w.options content in
    let G = closing_sections V4 w.label w.options content in
    let I = index_part V4 w.options content in
    let T = trailer (laid (sections_of V4 w.label w.options content)) in
    let rest = bytes_in ((I ++ F) ++ G) ++ T in
    let is : bytes ≡ data_section V4 cs ++ rest = f.file_is.are
    ∙ append_assoc (data_section V4 cs) (bytes_in ((I ++ F) ++ G)) T in
    let few : length cs ≤ length bytes = omega (
      arith,
      many cs,
      ap length is,
      length-append
          (data_section V4 cs) rest,
    ) in
    let other = index_begins w.options.index_kind _ _ content.index F G T in
    let back : leading_chunks (length bytes) bytes ≡ cs = ap (leading_chunks (length bytes)) is
    ∙ leading cs (length bytes) rest (give_back cs f.fits.entries strict f.fits.blocks) few
    other in
    ap joined back ∙ whole
