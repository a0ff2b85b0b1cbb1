-- A written meta block reads back.
use Rattle.std.proofs.Common.{◌≡◌, ℕ, ◌+◌, ◌^◌, ◌<◌, ◌≤◌, List, [], ◌∷◌, length, refl, arith}
use Rattle.std.proofs.Common.{length-append}
use Rattle.std.specs.Prelude.{Some, sum_by}
use Rattle.std.specs.List.{flat_map, AllByRecursion}
use Rattle.sst_blocks.specs.declared.version.TableVersion.{TableVersion}
use Rattle.sst_blocks.specs.declared.version.TableVersion.TheVariants.{V3, V4}
use Rattle.sst_entries.specs.Entry.{Entry}
use Rattle.sst_blocks.specs.Number.{le4}
use Rattle.sst_blocks.specs.Payload.{payload, spelled}
use Rattle.sst_blocks.specs.Payload as written
use Rattle.sst_blocks.specs.Reading.{entries_in}
use Rattle.sst_entries.specs.Strict.{IsStrict}
use Rattle.sst_blocks.specs.Version.{key_width, key_limit}
use Rattle.sst_blocks.proofs.Entries.{entries_read, length-spelled}
use Rattle.sst_blocks.proofs.Numbers.{wide4}
use Rattle.sst_blocks.specs.table.Chunks.{joined}
use Rattle.sst_blocks.specs.table.Facts.{ListFacts, facts}
use Rattle.sst_blocks.specs.table.Index.{data_section}
use Rattle.sst_blocks.specs.table.MetaBlock.{BlockCounts, meta_entries, meta_entry, name_of}
use Rattle.sst_blocks.specs.declared.table.item_name.ItemName.{ItemName}
use Rattle.sst_blocks.specs.declared.table.item_name.ItemName.TheVariants as item
use Rattle.sst_blocks.proofs.MetaItems.{IsShort, items_each, items_strict, items_sum}
use Rattle.std.proofs.lemmas.List.Sums.{sum_by-cons}
use Rattle.sst_blocks.specs.declared.table.options.Options.{Options}
use Rattle.sst_blocks.specs.declared.table.label.Label.{Label}

key_narrow : (v : TableVersion) → key_width v ≤ 4
key_narrow V3 = omega arith
key_narrow V4 = omega arith

key_wide_enough : (v : TableVersion) → 30 < key_limit v
key_wide_enough V3 = omega arith
key_wide_enough V4 = omega arith

-- how many bytes an entry takes
abbrev taken : TableVersion → Entry → ℕ
taken v e = 13 + key_width v + length e.user_key + length e.value

length-flat : (v : TableVersion) (es : List Entry)
    → length (flat_map (spelled v) es) ≡ sum_by (taken v) es
length-flat v [] = refl
length-flat v (e ∷ es) = omega (
  arith,
  length-flat v es,
  length-spelled v e,
  length-append
      (spelled v e) (flat_map (spelled v) es),
  sum_by-cons (taken v) e es,
)

length-payload : (v : TableVersion) (es : List Entry)
    → length (payload v es) ≡ 4 + sum_by (taken v) es
unfolding payload
length-payload v es = omega (
  arith,
  length-flat v es,
  wide4.len (length es),
  length-append
      (le4 (length es)) (flat_map (spelled v) es),
)

-- an item with a short name, of a value that fits
item_fits : (v : TableVersion) (name : ItemName) (value : List ℕ) → length (name_of name) ≤ 30
    → length value < 2 ^ 32 → written.IsSpellable v (meta_entry name value)
item_fits v name value short fits = record {
  number = omega arith;
  key_len =
      omega (arith, short, key_wide_enough v);
  value_len = fits;
}

short_fits : (v : TableVersion) (e : Entry) → IsShort e → written.IsSpellable v e
short_fits v e h = record {
  number = omega (arith, h.number);
  key_len =
      omega (arith, h.name, key_wide_enough v);
  value_len = omega (arith, h.value);
}

short_taken : (v : TableVersion) (e : Entry) → IsShort e → taken v e ≤ 63
short_taken v e h = omega (arith, h.name, h.value, key_narrow v)

module _ (v : TableVersion) (label : Label) (options : Options) (cs : List (List Entry))
    (blocks : BlockCounts) where
  abbrev f : ListFacts
  f = facts (joined cs)

  abbrev data_bytes : ℕ
  data_bytes = length (data_section v cs)

  abbrev payload_bytes : ℕ
  payload_bytes = sum_by (λ c. length (payload v c)) cs

  abbrev es : List Entry
  es = meta_entries v label options cs blocks

  pub meta_strict : IsStrict es
  meta_strict = items_strict v label options blocks f (length cs) data_bytes payload_bytes

  -- what the two keys leave is fixed
  pub meta_length : length (payload v es) ≤ 7000 + length (facts (joined cs)).min_key
      + length (facts (joined cs)).max_key
  unfolding name_of
  meta_length = omega (
    arith,
    key_narrow v,
    items_sum v label options blocks f
        (length cs) data_bytes payload_bytes (taken v) 63 (short_taken v),
    length-payload v es,
  )

  meta_fits : length (facts (joined cs)).min_key < 2 ^ 32
      → length (facts (joined cs)).max_key < 2 ^ 32 → AllByRecursion (written.IsSpellable v) es
  unfolding name_of
  meta_fits min max =
      items_each v label options blocks f (length cs) data_bytes payload_bytes
      (written.IsSpellable v) (short_fits v) (item_fits v item.KeyMax f.max_key
      (omega arith) max) (item_fits v item.KeyMin f.min_key (omega arith) min)

  pub meta_reads : length (facts (joined cs)).min_key < 2 ^ 32
      → length (facts (joined cs)).max_key < 2 ^ 32 → entries_in v (payload v es) ≡ Some es
  meta_reads min max = entries_read v es (omega arith, meta_fits min max) meta_strict
