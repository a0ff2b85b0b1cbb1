-- The items of a meta block: they are strict, and all but the two keys are short.
use Rattle.std.proofs.Common.{◌≡◌, refl, ℕ, ◌+◌, ◌*◌, ◌≤◌, Bool, true, List, [], ◌∷◌, ◌++◌, length}
use Rattle.std.proofs.Common.{arith}
use Rattle.std.specs.Prelude.{None, nat_le, ◌&&◌, ◌==◌, sum_by}
use Rattle.std.specs.List.{AllByRecursion, list_all}
use Rattle.std.proofs.lemmas.Bool.{eqb-true, leb-true}
use Rattle.std.proofs.lemmas.List.Sums.{sum_by-append, sum_by-cons}
use Rattle.sst_blocks.specs.declared.version.TableVersion.{TableVersion}
use Rattle.sst_blocks.specs.Number.{le4, le8, le16}
use Rattle.sst_entries.specs.Entry.{Entry}
use Rattle.sst_entries.specs.Strict.{IsStrict, is_strict_after}
use Rattle.sst_entries.proofs.Booleans.{and_parts}
use Rattle.sst_entries.proofs.Lists.{all_append}
use Rattle.sst_entries.proofs.Strictness.{strict_from_test}
use Rattle.sst_blocks.specs.table.Facts.{ListFacts}
use Rattle.sst_blocks.specs.table.MetaBlock.{BlockCounts, block_items, count_items, level_items}
use Rattle.sst_blocks.specs.table.MetaBlock.{meta_entry}
use Rattle.sst_blocks.specs.table.MetaBlock.{meta_items, name_of, option_items}
use Rattle.sst_blocks.specs.declared.table.item_name.ItemName.TheVariants as item
use Rattle.sst_blocks.specs.declared.table.label.Label.{Label}
use Rattle.sst_blocks.specs.declared.table.options.Options.{Options}

-- an item that is no key: its name has 30 bytes at most, its value 16, and its number is 0
pub record IsShort (e : Entry) : Type 0 where
  pub name : length e.user_key ≤ 30
  pub value : length e.value ≤ 16
  pub number : e.seqno ≡ 0

abbrev is_short : Entry → Bool
is_short e = nat_le (length e.user_key) 30 && (nat_le (length e.value) 16 && (e.seqno == 0))

short_from_test : (e : Entry) → is_short e ≡ true → IsShort e
short_from_test e h =
    let name = and_parts (nat_le (length e.user_key) 30) _ h in
    let rest = and_parts (nat_le (length e.value) 16) _ name.1 in
    record { name = leb-true _ _ name.0; value = leb-true _ _ rest.0; number = eqb-true _ _ rest.1 }

abbrev AreShort : List Entry → Type 0
AreShort es = AllByRecursion IsShort es

shorts : (es : List Entry) → list_all is_short es ≡ true → AreShort es
shorts [] h = tt
shorts (e ∷ es) h =
    let both = and_parts (is_short e) (list_all is_short es) h in
    (short_from_test e both.0, shorts es both.1)

-- what holds of all short items holds of each of some
each : (P : Entry → Type 0) (es : List Entry) → AreShort es → ((e : Entry) → IsShort e → P e)
    → AllByRecursion P es
each P [] h holds = tt
each P (e ∷ es) h holds = (holds e h.0, each P es h.1 holds)

-- and a bound of all bounds their sum
bounded : (size : Entry → ℕ) (most : ℕ) (es : List Entry) → AreShort es
    → ((e : Entry) → IsShort e → size e ≤ most) → sum_by size es ≤ most * length es
bounded size most [] h small = omega arith
bounded size most (e ∷ es) h small = omega (
  arith,
  bounded size most es h.1 small,
  small e h.0,
  sum_by-cons size e es,
)

module _ (v : TableVersion) (label : Label) (options : Options) (counted : BlockCounts)
    (f : ListFacts)
    (blocks size user : ℕ) where
  abbrev es : List Entry
  es = meta_items v label options counted f blocks size user

  abbrev first_items : List Entry
  first_items = block_items label options counted blocks size ++ level_items label f

  abbrev last_items : List Entry
  last_items = option_items v label options f ++ count_items f user

  strict_test : is_strict_after None es ≡ true
  unfolding is_strict_after name_of
  strict_test = refl

  pub items_strict : IsStrict es
  items_strict = strict_from_test None es strict_test

  few_test : nat_le (length es) 99 ≡ true
  few_test = refl

  pub items_few : length es ≤ 99
  items_few = leb-true (length es) 99 few_test

  first_test : list_all is_short first_items ≡ true
  unfolding name_of le4 le8 le16
  first_test = refl

  first_short : AreShort first_items
  first_short = shorts first_items first_test

  last_test : list_all is_short last_items ≡ true
  unfolding name_of le8
  last_test = refl

  last_short : AreShort last_items
  last_short = shorts last_items last_test

  abbrev top : Entry
  top = meta_entry item.KeyMax f.max_key

  abbrev low : Entry
  low = meta_entry item.KeyMin f.min_key

  -- what holds of short items and of those of the keys holds of all
  pub items_each : (P : Entry → Type 0) → ((e : Entry) → IsShort e → P e) → P top → P low
      → AllByRecursion P es
  items_each P holds at_top at_low =
      all_append P first_items (top ∷ (low ∷ last_items)) (each P first_items first_short holds)
      (at_top, (at_low, each P last_items last_short holds))

  -- and what bounds short items bounds the sum of all, but for the keys
  pub items_sum : (cost : Entry → ℕ) (most : ℕ) → ((e : Entry) → IsShort e → cost e ≤ most)
      → sum_by cost es ≤ most * 99 + cost top + cost low
  items_sum cost most small =
      omega (
        arith,
        bounded cost most first_items first_short small,
        bounded cost most last_items last_short small,
        sum_by-append cost first_items (top ∷ (low ∷ last_items)),
        sum_by-cons cost top (low ∷ last_items),
        sum_by-cons cost low last_items,
      )
