-- A table that was stored in version 3.
use Rattle.std.proofs.Common.{◌≡◌, refl, sym, ◌∙◌, ap, subst, ℕ, ◌<◌, ◌^◌, Bool}
use Rattle.std.proofs.Common.{List, [], ◌∷◌, ◌+◌, ◌-◌, arith, ◌++◌}
use Rattle.std.specs.List.{AllByRecursion}
use Rattle.sst_entries.specs.Entry.{Entry, entry}
use Rattle.sst_entries.specs.Strict.{IsStrict, IsStrictAfter, last_of}
use Rattle.sst_blocks.specs.Number.{le2, le4, le8}
use Rattle.sst_blocks.specs.declared.version.TableVersion.TheVariants.{V3}
use Rattle.sst_blocks.specs.declared.filter.policy.BloomConstructionPolicy.TheVariants.{BitsPerKey}
use Rattle.sst_blocks.specs.Handles.{handle_spelled, handles_payload}
use Rattle.sst_blocks.specs.Handle.{Handle}
use Rattle.sst_blocks.specs.Payload.{spelled, payload}
use Rattle.sst_blocks.specs.table.Filters.{keys_after}
use Rattle.sst_blocks.specs.table.Content.{Content}
use Rattle.sst_blocks.specs.table.Chunks.{AreChunks, IsChunk}
use Rattle.sst_blocks.specs.table.Parts.{ArePartsOf, IsPart}
use Rattle.sst_blocks.specs.table.Partitions.{is_full_index}
use Rattle.sst_entries.specs.declared.value_type.ValueType.TheVariants.{Value}
use Rattle.sst_blocks.specs.table.Index.{handles}
use Rattle.sst_blocks.specs.table.File.{file, index_part}
use Rattle.sst_blocks.specs.table.Fits.{Fits, EntryFits, BlockFits, SectionFits}
use Rattle.sst_blocks.specs.table.Table.{IsTable}
use Rattle.lsm_readers.specs.point.Answer.{lift, lifted}
use Rattle.lsm_sorted.specs.version.Run.{IsInOrder}
use Rattle.lsm_readers.specs.point.Table.{IsOpen, OpenTable}
use Rattle.lsm_readers.proofs.FileStored.{open_stores}
use Rattle.lsm_writers.specs.Writing.{IsWritable}
use Rattle.lsm_runs.specs.compaction.Compacted.{AreCompactable}
use Rattle.lsm_runs.specs.RunLists.{HoldLists, HoldsList}
use Rattle.lsm_run_parts.specs.RunParts.{range_of}
use Rattle.lsm_runs.specs.SeveralRuns.{union_in}
use Rattle.sst_blocks.specs.table.Options.{label_of}
use Rattle.sst_blocks.specs.declared.table.options.Options.{Options}
use Rattle.sst_blocks.specs.declared.table.options.FilterKind.TheVariants.{Full as FullFilter}
use Rattle.sst_blocks.specs.declared.table.options.IndexKind.TheVariants.{
  Partitioned as PartitionedIndex,
}
use Rattle.test_reads.specs.Stored.{new_entries, stored_entries}

-- a block for each entry, and a partition for each block
abbrev pub options : Options
options = record {
  data_block_restart_interval = 16;
  index_block_restart_interval =
      1;
  data_block_hash_ratio = 0;
  data_block_size = 0;
  index_kind =
      PartitionedIndex 1;
  filter_kind = FullFilter;
  bloom_policy = BitsPerKey 0;
}

-- each alone
abbrev pub alone : {A : Type 0} → List A → List (List A)
alone [] = []
alone (x ∷ xs) = (x ∷ []) ∷ alone xs

abbrev pub content : Content
content = record {
  blocks = alone stored_entries;
  index =
      alone (handles V3 (alone stored_entries));
  keys = [];
  filters = [];
}

small : (n k : ℕ) → n ≡ k → k < 2 ^ 32 → n < 2 ^ 32
small n k e h = omega (arith, e, h)

-- each list of one is as it is cut
one_chunk : (at : ℕ) (e : Entry) → IsChunk 0 [] at (e ∷ [])
one_chunk at e = record {
  some = omega arith;
  shortest =
      λ n some short. absurd (omega (arith, some, short));
}

one_part : (full : List Handle → Bool) (h : Handle) → IsPart full (h ∷ [])
one_part full h = record {
  some = omega arith;
  shortest =
      λ n some short. absurd (omega (arith, some, short));
}

chunks : AreChunks 0 [] stored_entries content.blocks
chunks = record {
  whole = refl;
  each = (
    one_chunk _ _,
    refl,
    (one_chunk _ _, refl, (one_chunk _ _, refl, (one_chunk _ _, tt, tt))),
  );
}

parts : ArePartsOf (is_full_index 1) (handles V3 content.blocks) content.index
unfolding last_of
parts = record {
  whole = refl;
  each = (
    one_part _ _,
    refl,
    (one_part _ _, refl, (one_part _ _, refl, (one_part _ _, tt, tt))),
  );
}

entry_fits : (seqno b : ℕ) → seqno < 2 ^ 64 - 1 → EntryFits V3 (entry (b ∷ []) [] seqno Value)
entry_fits seqno b h = record { key = omega arith; value = omega arith; number = h }

block_fits : (seqno b : ℕ) → BlockFits V3 (entry (b ∷ []) [] seqno Value ∷ [])
unfolding le2 le4 le8 spelled payload
block_fits seqno b = record { short = small _ 44 refl (omega arith) }

index_fits : AllByRecursion SectionFits (index_part V3 options content)
unfolding le2 le4 le8 handle_spelled handles_payload spelled payload last_of
index_fits = (
  record { short = small _ 204 refl (omega arith) },
  (record { short = small _ 120 refl (omega arith) }, tt),
)

fits : Fits V3 (label_of 1 0 0) options content
fits = record {
  entries = (
    entry_fits 9 97 (omega arith),
    (
      entry_fits 7 97 (omega arith),
      (entry_fits 5 97 (omega arith), (entry_fits 1 98 (omega arith), tt)),
    ),
  );
  blocks = (block_fits 9 97, (block_fits 7 97, (block_fits 5 97, (block_fits 1 98, tt))));
  index = index_fits;
  filter = tt;
  label_fits = record { id = omega arith; created_at = omega arith };
}

abbrev pub stored_file : List ℕ
stored_file = file V3 (label_of 1 0 0) options content

-- whatever bytes are this file are a table of the entries
pub stored_table : (bytes : List ℕ) → bytes ≡ stored_file → IsTable bytes stored_entries
unfolding IsStrictAfter last_of keys_after
stored_table bytes are = record {
  label = label_of 1 0 0;
  options = options;
  version = V3;
  spills = [];
  file = record {
    content = content;
    is = record
        { chunks = chunks; index = parts; keys = refl; filters = tt };
    are = are;
  };
  strict = (refl, (refl, (refl, (refl, tt))));
  fits = fits;
}

-- ---- the run of both

and_none : (n : ℕ) → n ≡ n + 0
and_none n = omega arith

-- no global number changes nothing
lift_none : (es : List Entry) → es ≡ lift es 0
lift_none [] = refl
lift_none (e ∷ es) =
    ap (λ (n : ℕ). let x : Entry = record {
      user_key = e.user_key;
      seqno = n;
      kind = e.kind;
      value =
          e.value;
    } in x ∷ es) (and_none e.seqno)
    ∙ ap (λ (us : List Entry). lifted 0 e ∷ us) (lift_none es)

pub holds : (t : OpenTable) (bytes : List ℕ) (es : List Entry) → IsOpen t → t.bytes ≡ bytes
    → t.global_seqno ≡ 0 → IsTable bytes es → HoldsList t es
holds t bytes es recovered same none is = record {
  stored = es;
  opened = recovered;
  table = (open_stores t recovered es (subst (λ b. IsTable b es) (sym same) is)).0;
  lifted_is =
      lift_none es ∙ ap (lift es) (sym none);
}

pub new_writable : IsWritable new_entries
unfolding IsStrictAfter
new_writable = record { strict = (refl, tt); numbered = (omega arith, tt) }

both_strict : IsStrict (stored_entries ++ new_entries)
unfolding IsStrictAfter
both_strict = (refl, (refl, (refl, (refl, (refl, tt)))))

both_writable : IsWritable (stored_entries ++ new_entries)
both_writable = record {
  strict = both_strict;
  numbered =
      (omega arith, (omega arith, (omega arith, (omega arith, (omega arith, tt)))));
}

abbrev lists : List (List (List Entry))
lists = (stored_entries ∷ new_entries ∷ []) ∷ []

sorted : union_in lists ≡ stored_entries ++ new_entries
sorted = refl

pub both_compactable : (run : List OpenTable) (s n : OpenTable) → run ≡ s ∷ n ∷ []
    → HoldsList s stored_entries → HoldsList n new_entries → IsInOrder range_of run
    → AreCompactable (run ∷ [])
both_compactable run s n is hs hn order = record {
  lists = lists;
  hold = (
    (
      order,
      subst (λ ts. HoldLists ts (stored_entries ∷ new_entries ∷ [])) (sym is)
          (hs, (hn, tt)),
    ),
    tt,
  );
  some = ((omega arith, (omega arith, (omega arith, tt))), tt);
  writable = subst IsWritable (sym sorted) both_writable;
}

-- the one entry behind none
pub new_alone : (all before : List Entry) (e : Entry) (k v : List ℕ) → all ≡ before ++ e ∷ []
    → before ≡ [] → e ≡ entry k v 2 Value → k ≡ 99 ∷ [] → v ≡ [] → all ≡ new_entries
new_alone all before e k v all_is none e_is k_is v_is =
    all_is ∙ ap (λ (es : List Entry). es ++ e ∷ []) none
    ∙ ap (λ (x : Entry). x ∷ []) (e_is ∙ ap (λ (b : List ℕ). entry b v 2 Value) k_is
    ∙ ap (λ (b : List ℕ). entry (99 ∷ []) b 2 Value) v_is)
