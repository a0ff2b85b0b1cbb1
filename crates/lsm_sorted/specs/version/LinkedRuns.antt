-- Links: references to tables of an input, which are packed with their positions.
use Rattle.std.specs.Prelude.{◌≡◌, ◌<◌, true, List, [], ◌++◌, map, Contains, IsPermutation}
use Rattle.std.specs.Prelude.{IsSome, Option, Some}
use Rattle.std.specs.List.{AllByRecursion}
use Rattle.lsm_sorted.specs.version.KeyRange.{Interval, overlaps}
use Rattle.lsm_sorted.specs.version.Packing.{tables_in, table_at, put_all, AreTablesWellFormed}
use Rattle.lsm_sorted.specs.version.Packing.{AreNotEmpty, touches}
use Rattle.lsm_sorted.specs.version.Run.{IsInOrder}
use Rattle.lsm_sorted.specs.version.Links.{TableWithPlace, table_with_place}
use Rattle.lsm_sorted.specs.declared.version.optimize.Link.{Link}

module _ {T : Type 0} where
  -- the table of a link, with its position
  abbrev pub table_of_link : Link T → TableWithPlace T
  table_of_link link = table_with_place link.table.now link.run link.index

  -- each link's table is at its position in the input
  abbrev pub AreAtPlaces : List (List T) → List (Link T) → Type 0
  AreAtPlaces runs links =
      AllByRecursion (λ link. table_at runs link.run link.index ≡ Some link.table.now) links

  -- runs of links to some tables, packed one after another
  pub record ArePackedLinks (range : T → Interval) (ts : List (TableWithPlace T))
      (packed : List (List (Link T))) : Type 0 where
    pub links : List (Link T)
    pub tables_are : map table_of_link links ≡ ts
    pub same : IsPermutation links (tables_in packed)
    pub put : AreTablesWellFormed (λ x. range x.table) ts →
        packed ≡ put_all (λ link. range link.table.now) links []
    pub some : AreNotEmpty packed

  -- links to these tables are packed after those of any others
  abbrev pub AddsLinks : (T → Interval) → List (TableWithPlace T) → List (List (Link T))
      → List (List (Link T)) → Type 0
  AddsLinks range more old new = (ts : List (TableWithPlace T)) →
      ArePackedLinks range ts old → ArePackedLinks range (ts ++ more) new

  -- the range of a link's table
  abbrev pub link_range : (T → Interval) → Link T → Interval
  link_range range link = range link.table.now

  -- all links that overlap this one are from earlier runs
  abbrev pub AreEarlier : (T → Interval) → List (Link T) → Link T → Type 0
  AreEarlier range links above =
      (x : Link T) → Contains links x →
      overlaps (link_range range x) (link_range range above) ≡ true → x.run < above.run

  -- a link is from an earlier run than another, and overlaps it
  abbrev pub IsBelow : (T → Interval) → Link T → Link T → Type 0
  IsBelow range link above =
      (link.run < above.run) × (overlaps (range link.table.now) (range above.table.now) ≡ true)

  -- among ordered links of earlier runs, one that overlaps this link is found if there is one
  abbrev pub FindsLinkTo : {X : Type 0} → (T → Interval) → List (Link T) → Link T → Option X
      → Type 0
  FindsLinkTo range links above found = IsInOrder (link_range range) links →
      AreEarlier range links above →
      touches (link_range range) (link_range range above) links ≡ true → IsSome found
