-- What a written meta block tells.
use Rattle.std.proofs.Common.{◌≡◌, ℕ, ◌^◌, ◌<◌, cond, List, [], ◌∷◌, ◌++◌, length, refl, sym, ap}
use Rattle.std.proofs.Common.{◌∙◌, arith, inl, inr}
use Rattle.std.specs.Prelude.{None, Ok, Err}
use Rattle.std.proofs.lemmas.List.{append-nil}
use Rattle.std.proofs.lemmas.List.Sums.{count_by-le-length}
use Rattle.std.proofs.lemmas.Bool.{cases_Bool, eqb-true, le-ltb}
use Rattle.sst_blocks.specs.declared.version.TableVersion.{TableVersion}
use Rattle.sst_blocks.specs.declared.version.TableVersion.TheVariants.{V3, V4}
use Rattle.sst_entries.specs.Entry.{Entry}
use Rattle.sst_blocks.specs.Number.{le8, le16, num8, num16}
use Rattle.sst_entries.specs.Point.{point}
use Rattle.sst_blocks.proofs.Numbers.{wide8}
use Rattle.sst_blocks.specs.table.Chunks.{joined}
use Rattle.sst_blocks.specs.table.Facts.{ListFacts, facts, is_reclaimable, is_tombstone, is_weak}
use Rattle.sst_blocks.proofs.FactLaws.{after_within}
use Rattle.sst_blocks.specs.table.Index.{data_section}
use Rattle.sst_blocks.specs.table.MetaBlock.{BlockCounts, meta_entries, name_of, version_number}
use Rattle.sst_blocks.specs.declared.table.options.Options.{Options}
use Rattle.sst_blocks.specs.declared.table.label.Label.{Label}
use Rattle.sst_blocks.specs.declared.table.item_name.ItemName.{ItemName}
use Rattle.sst_blocks.specs.declared.table.item_name.ItemName.TheVariants as item
use Rattle.std.specs.Prelude.{nat_eq, ◌||◌, ◌==◌, false}
use Rattle.std.specs.Cmp.Lexicographic.{pointwise}
use Rattle.byteorder.specs.Numbers.{little_number-reads_back}
use Rattle.sst_entries.specs.declared.error.Error.TheVariants.{UnsupportedTableVersion}
use Rattle.sst_entries.specs.declared.error.Error.TheVariants.{UnsupportedIndexInterval}
use Rattle.lsm_sorted.specs.version.KeyRange.{interval}
use Rattle.lsm_readers.specs.point.Meta.{Facts, facts_said, item_result, u64_result, version_result}
use Rattle.lsm_readers.specs.point.Meta.{kinds_result}
use Rattle.lsm_readers.specs.point.Meta.{byte_result, first_result, compressions_result, created_result}
use Rattle.lsm_readers.specs.point.Meta.{keys_result, seqnos_result, numbers_said, numbers_result}
use Rattle.lsm_readers.specs.point.Meta.{rest_result}
use Rattle.lsm_readers.specs.point.Meta.{facts_result}

-- a number that was written is read
pub u64_read : (es : List Entry) (name : ItemName) (n : ℕ) → item_result es name ≡ Ok (le8 n)
    → n < 2 ^ 64 → u64_result es name ≡ Ok n
unfolding u64_result
u64_read es name n e fits =
    let whole : num8 (le8 n) ≡ n = ap num8 (sym (append-nil (le8 n))) ∙ wide8.again n [] fits in
    let long = le-ltb (length (le8 n)) 8 (omega (arith, wide8.len n)) in
    rw (e, long, whole) refl

known_version : (v : TableVersion) → cond (pointwise nat_eq (version_number v ∷ []) (3 ∷ [])
    || pointwise nat_eq (version_number v ∷ []) (4 ∷ [])) (Ok (version_number v))
    (Err UnsupportedTableVersion) ≡ Ok (version_number v)
known_version V3 = refl
known_version V4 = refl

wide16-len : (n : ℕ) → length (le16 n) ≡ 16
unfolding le16
wide16-len n = refl

wide16-again : (n : ℕ) (rest : List ℕ) → n < 2 ^ 128 → num16 (le16 n ++ rest) ≡ n
unfolding le16 num16
wide16-again n rest lt = little_number-reads_back 16 n rest lt

-- what the table of a written list says of itself
abbrev pub written_facts : TableVersion → Label → List (List Entry) → BlockCounts → Facts
written_facts v label cs blocks = facts_said v label (joined cs) (length cs) blocks.index
    (length (data_section v cs))

-- what a written table says fits its fields
pub record FactsFit (label : Label) (options : Options) (cs : List (List Entry)) (v : TableVersion)
    (blocks : BlockCounts) : Type 0 where
  pub id : label.table_id < 2 ^ 64
  pub created_at : label.created_at < 2 ^ 128
  pub interval : options.index_block_restart_interval ≡ 1
  pub items : length (joined cs) < 2 ^ 64
  pub lowest : (facts (joined cs)).lowest < 2 ^ 64
  pub highest : (facts (joined cs)).highest < 2 ^ 64
  pub data_blocks : length cs < 2 ^ 64
  pub index_blocks : blocks.index < 2 ^ 64
  pub filter_blocks : blocks.filter < 2 ^ 64
  pub file_size : length (data_section v cs) < 2 ^ 64

module _ (v : TableVersion) (label : Label) (options : Options) (cs : List (List Entry))
    (blocks : BlockCounts) where
  abbrev es : List Entry
  es = meta_entries v label options cs blocks

  abbrev f : ListFacts
  f = facts (joined cs)

  version_read : version_result es ≡ Ok (version_number v)
  unfolding version_result item_result point name_of
  version_read = known_version v

  kinds_read : options.index_block_restart_interval ≡ 1 → kinds_result es ≡ Ok tt
  unfolding kinds_result byte_result first_result item_result point name_of
  kinds_read one = rw one refl

  kinds_refused : (options.index_block_restart_interval == 1) ≡ false
      → kinds_result es ≡ Err UnsupportedIndexInterval
  unfolding kinds_result byte_result first_result item_result point name_of
  kinds_refused other = rw other refl

  -- where the items are read, the interval is 1
  pub interval_read : (said : Facts) → facts_result es ≡ Ok said
      → options.index_block_restart_interval ≡ 1
  unfolding facts_result
  interval_read said returned = elim (cases_Bool (options.index_block_restart_interval == 1)) [
    | inl one ↦ eqb-true _ _ one
    | inr other ↦
        let refused : facts_result es ≡ Err UnsupportedIndexInterval =
        rw (version_read, kinds_refused other) refl in
        let no : Err UnsupportedIndexInterval ≡ Ok said = sym refused ∙ returned in
        absurd cc
  ]

  compressions_read : compressions_result es ≡ Ok tt
  unfolding compressions_result first_result item_result point name_of
  compressions_read = refl

  created_at : item_result es item.CreatedAt ≡ Ok (le16 label.created_at)
  unfolding item_result point name_of
  created_at = refl

  created_read : label.created_at < 2 ^ 128 → created_result es ≡ Ok label.created_at
  unfolding created_result
  created_read fits =
      let n = label.created_at in
      let whole : num16 (le16 n) ≡ n = ap num16 (sym (append-nil (le16 n)))
      ∙ wide16-again n [] fits in
      let long = le-ltb (length (le16 n)) 16 (omega (arith, wide16-len n)) in
      rw (created_at, long, whole) refl

  keys_read : keys_result es ≡ Ok (interval f.min_key f.max_key)
  unfolding keys_result item_result point name_of
  keys_read = refl

  seqnos_read : FactsFit label options cs v blocks → seqnos_result es ≡ Ok (f.lowest, f.highest)
  unfolding seqnos_result item_result point name_of
  seqnos_read fit = rw (
    u64_read es item.SeqnoMin f.lowest refl fit.lowest,
    u64_read es
        item.SeqnoMax f.highest refl fit.highest,
  ) refl

  numbers_read : FactsFit label options cs v blocks
      → numbers_result es ≡ Ok (numbers_said label f (length cs) blocks.index
      (length (data_section v cs)))
  unfolding numbers_result item_result point name_of
  numbers_read fit =
      let few = fit.items in
      rw (
        u64_read es item.TableId label.table_id refl fit.id,
        u64_read es item.ItemCount f.item_count refl few,
        u64_read es item.TombstoneCount f.tombstone_count refl
            (omega (arith, few, count_by-le-length is_tombstone (joined cs))),
        u64_read es item.BlockCountData (length cs) refl fit.data_blocks,
        u64_read es item.BlockCountIndex blocks.index refl fit.index_blocks,
        u64_read es item.BlockCountFilter blocks.filter refl fit.filter_blocks,
        u64_read es item.FileSize (length (data_section v cs)) refl fit.file_size,
        u64_read es item.WeakTombstoneCount f.weak_tombstone_count refl
            (omega (arith, few, count_by-le-length is_weak (joined cs))),
        u64_read es item.WeakTombstoneReclaimable f.weak_tombstone_reclaimable refl
            (omega (arith, few, after_within is_reclaimable None (joined cs))),
      ) refl

  -- the facts of the written list
  pub facts_read : FactsFit label options cs v blocks
      → facts_result es ≡ Ok (written_facts v label cs blocks)
  unfolding facts_result rest_result
  facts_read fit = rw (
    version_read,
    kinds_read fit.interval,
    numbers_read fit,
    created_read
        fit.created_at,
    keys_read,
    seqnos_read fit,
    compressions_read,
  ) refl
