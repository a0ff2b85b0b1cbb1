-- A table whose index has a restart interval other than 1 is not opened.
use Rattle.std.proofs.Common.{◌≡◌, refl, sym, ◌∙◌, ap, subst, ℕ, ◌^◌, ◌<◌, Bool, true, false, cond}
use Rattle.std.proofs.Common.{List, [], ◌∷◌, ◌++◌, length, arith}
use Rattle.std.specs.Prelude.{Some, None, Ok, Err, ◌==◌, ◌||◌, nat_eq, not}
use Rattle.std.specs.Cmp.Lexicographic.{pointwise}
use Rattle.std.specs.Option.{option_or}
use Rattle.std.proofs.lemmas.Bool.{eqb-true}
use Rattle.sst_blocks.specs.declared.version.TableVersion.{TableVersion}
use Rattle.sst_blocks.specs.declared.version.TableVersion.TheVariants.{V3, V4}
use Rattle.sst_blocks.specs.Sections.{body_of, finished}
use Rattle.sst_entries.specs.declared.error.Error.{Error}
use Rattle.sst_entries.specs.declared.error.Error.TheVariants.{UnsupportedIndexInterval}
use Rattle.sst_entries.specs.declared.error.Error.TheVariants.{UnsupportedTableVersion}
use Rattle.sst_entries.specs.Entry.{Entry}
use Rattle.sst_entries.specs.Point.{point}
use Rattle.sst_entries.specs.Strict.{IsStrict}
use Rattle.sst_blocks.specs.table.Chunks.{joined}
use Rattle.sst_blocks.specs.table.Content.{Content}
use Rattle.sst_blocks.specs.table.File.{IsContent, counted_blocks}
use Rattle.sst_blocks.specs.table.Fits.{Fits}
use Rattle.sst_blocks.specs.table.MetaBlock.{BlockCounts, meta_entries, name_of, version_number}
use Rattle.sst_blocks.specs.table.Table.{IsTable}
use Rattle.sst_blocks.specs.declared.table.label.Label.{Label}
use Rattle.sst_blocks.specs.declared.table.options.Options.{Options}
use Rattle.lsm_readers.specs.point.Meta.{byte_result, facts_result, first_result, item_result, kinds_result}
use Rattle.lsm_readers.specs.point.Meta.{meta_result, version_result}
use Rattle.lsm_readers.specs.point.Parts.{Parts, parts_result, recovered_result}
use Rattle.lsm_readers.proofs.FileContent.{first_short, last_short, longest_below, meta_short}
use Rattle.lsm_readers.proofs.FileParts.{regions_here, short_file, trailer_here}
use Rattle.lsm_readers.proofs.FileSections.{meta_items_read, the_items, the_regions, written}
use Rattle.lsm_readers.proofs.MetaBlocks.{meta_reads}
use Rattle.lsm_writers.specs.Writing.{IsTableWith}
use Rattle.lsm_runs.specs.compaction.Written.{is_nonempty, number_fault, opens_fault}
use Rattle.lsm_runs.proofs.RunWriting.{number_joined}

known_version : (v : TableVersion) → cond (pointwise nat_eq (version_number v ∷ []) (3 ∷ [])
    || pointwise nat_eq (version_number v ∷ []) (4 ∷ [])) (Ok (version_number v))
    (Err UnsupportedTableVersion) ≡ Ok (version_number v)
known_version V3 = refl
known_version V4 = refl

module _ (v : TableVersion) (label : Label) (options : Options) (cs : List (List Entry))
    (blocks : BlockCounts) (other : (options.index_block_restart_interval == 1) ≡ false) where
  abbrev es : List Entry
  es = meta_entries v label options cs blocks

  version_read : version_result es ≡ Ok (version_number v)
  unfolding version_result item_result point name_of
  version_read = known_version v

  kinds_refused : kinds_result es ≡ Err UnsupportedIndexInterval
  unfolding kinds_result byte_result first_result item_result point name_of
  kinds_refused = rw other refl

  items_refused : facts_result es ≡ Err UnsupportedIndexInterval
  unfolding facts_result
  items_refused = rw (version_read, kinds_refused) refl

module _ (v : TableVersion) (label : Label) (options : Options) (spills : List ℕ) (es : List Entry)
    (c : Content) (is : IsContent v options spills es c) (fits : Fits v label options c)
    (strict : IsStrict es)
    (short : length (finished (written v label options c)) < 2 ^ 63) where
  items_here : meta_result (body_of (finished (written v label options c)))
      (the_regions v label options c).metadata ≡ facts_result (the_items v label options c)
  items_here =
      let key = longest_below v in
      let small = meta_short v label options spills es c is fits strict short in
      let first = first_short v (joined c.blocks) fits.entries in
      let last = last_short v (joined c.blocks) fits.entries in
      meta_items_read v label options c (omega (arith, small))
      (meta_reads v label options c.blocks (counted_blocks options c)
      (omega (arith, first, key)) (omega (arith, last, key)))

  written_refused : (g : ℕ) (pin_filter pin_index : Bool)
      → (options.index_block_restart_interval == 1) ≡ false
      → recovered_result (finished (written v label options c)) g pin_filter pin_index
      ≡ Err UnsupportedIndexInterval
  unfolding parts_result
  written_refused g pin_filter pin_index other =
      let refused = items_here
      ∙ items_refused v label options c.blocks (counted_blocks options c) other in
      rw (
        trailer_here v label options spills es c is fits strict short,
        regions_here v label options spills es c is fits strict short,
        refused,
      ) refl

pub interval_result : (stored : List ℕ) (es : List Entry) (t : IsTable stored es)
    → length stored < 2 ^ 63 → (g : ℕ) (pin_filter pin_index : Bool)
    → (t.options.index_block_restart_interval == 1) ≡ false
    → recovered_result stored g pin_filter pin_index ≡ Err UnsupportedIndexInterval
interval_result stored es t short g pin_filter pin_index other =
    ap (λ (b : List ℕ). recovered_result b g pin_filter pin_index) t.file.are
    ∙ written_refused t.version t.label t.options t.spills es t.file.content t.file.is t.fits
    t.strict (short_file stored es t short) g pin_filter pin_index other

-- ---- by the interval

-- where it is 1
pub opens_one : (options : Options) (es : List Entry) (g : ℕ)
    → options.index_block_restart_interval ≡ 1 → opens_fault options es g ≡ number_fault es g
opens_one options es g one =
    ap (λ (n : ℕ). option_or (cond (n == 1 || not (is_nonempty es)) None
    (Some UnsupportedIndexInterval)) (number_fault es g)) one

-- where it is not, and there is a table
pub opens_other : (options : Options) (es : List Entry) (g : ℕ) → (es ≡ [] → ⊥)
    → (options.index_block_restart_interval == 1) ≡ false
    → opens_fault options es g ≡ Some UnsupportedIndexInterval
opens_other options [] g some other = absurd (some refl)
opens_other options (e ∷ es) g some other =
    ap (λ (b : Bool). option_or (cond (b || false) None (Some UnsupportedIndexInterval))
    (number_fault (e ∷ es) g)) other

pub opens_nothing : (options : Options) (g : ℕ) → opens_fault options [] g ≡ number_fault [] g
opens_nothing options g = elim (options.index_block_restart_interval == 1) as
    (λ b. option_or (cond (b || true) None (Some UnsupportedIndexInterval)) (number_fault [] g)
    ≡ number_fault [] g) [ true ↦ refl | false ↦ refl ]

-- of two lists one behind the other
pub opens_joined : (options : Options) (xs ys : List Entry) (g : ℕ) → (xs ≡ [] → ⊥)
    → opens_fault options (xs ++ ys) g
    ≡ option_or (opens_fault options xs g) (opens_fault options ys g)
opens_joined options [] ys g some = absurd (some refl)
opens_joined options (x ∷ xs) ys g some = elim (options.index_block_restart_interval == 1) as
    (λ b. option_or (cond (b || false) None (Some UnsupportedIndexInterval))
    (number_fault (x ∷ xs ++ ys) g)
    ≡ option_or (option_or (cond (b || false) None (Some UnsupportedIndexInterval))
    (number_fault (x ∷ xs) g))
    (option_or (cond (b || not (is_nonempty ys)) None (Some UnsupportedIndexInterval))
    (number_fault ys g))) [
      | true ↦ number_joined (x ∷ xs) ys g
      | false ↦ refl
    ]

-- ---- a call that opens a table

by_interval : {P : Type 0} (n : ℕ) → (n ≡ 1 → P) → ((n == 1) ≡ false → P) → P
by_interval {P} n one other = elim (n == 1) as (λ b. (n == 1) ≡ b → P) [
  | true ↦ λ e. one (eqb-true n 1 e)
  | false ↦ λ e. other e
] refl

module _ (label : Label) (options : Options) (es : List Entry) (id sum : ℕ) (bytes own : List ℕ)
    (same : bytes ≡ own) (f : IsTableWith label options es id sum bytes)
    (short : length own < 2 ^ 63) (g : ℕ) (pin_filter pin_index : Bool) where
  other_result : (options.index_block_restart_interval == 1) ≡ false
      → recovered_result own g pin_filter pin_index ≡ Err UnsupportedIndexInterval
  other_result other =
      let t = subst (λ (b : List ℕ). (t : IsTable b es)
      × ((t.options.index_block_restart_interval == 1) ≡ false)) same (
        f.table,
        ap (λ (x : Options). x.index_block_restart_interval == 1) f.options_are ∙ other,
      ) in
      interval_result own es t.0 short g pin_filter pin_index t.1

  -- it was opened
  pub opened_fits : (parts : Parts) → recovered_result own g pin_filter pin_index ≡ Ok parts
      → (options.index_block_restart_interval ≡ 1 → number_fault es g ≡ None)
      → opens_fault options es g ≡ None
  opened_fits parts returned fits = by_interval options.index_block_restart_interval
      (λ one. opens_one options es g one ∙ fits one)
      (λ other. let no : Ok parts ≡ Err UnsupportedIndexInterval = sym returned ∙ other_result other in
      absurd cc)

  -- it was refused
  pub refused_so : (e : Error) → recovered_result own g pin_filter pin_index ≡ Err e
      → (options.index_block_restart_interval ≡ 1 → number_fault es g ≡ Some e)
      → opens_fault options es g ≡ Some e
  refused_so e returned passes = by_interval options.index_block_restart_interval
      (λ one. opens_one options es g one ∙ passes one)
      (λ other. let both : Err e ≡ Err UnsupportedIndexInterval = sym returned ∙ other_result other in
      let is : e ≡ UnsupportedIndexInterval = cc in
      opens_other options es g f.some other ∙ sym (ap (λ (x : Error). Some x) is))
