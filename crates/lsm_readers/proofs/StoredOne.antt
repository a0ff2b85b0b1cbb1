-- Some bytes store one list: each part of it is told by them.
use Rattle.std.proofs.Common.{◌≡◌, ℕ, List, [], ◌∷◌, refl, sym, ap, subst, ◌∙◌}
use Rattle.std.specs.Prelude.{Option, Some, None}
use Rattle.std.specs.List.{AllZip}
use Rattle.sst_blocks.specs.Sections.{body_of}
use Rattle.sst_entries.specs.Entry.{Entry}
use Rattle.sst_blocks.specs.declared.block_type.BlockType.TheVariants.{Data}
use Rattle.sst_blocks.specs.Block.{entries_of, load_result}
use Rattle.sst_blocks.specs.Handle.{Handle}
use Rattle.sst_blocks.specs.Place.{Place, place_of}
use Rattle.sst_blocks.specs.table.Chunks.{joined}
use Rattle.sst_blocks.specs.table.Parts.{joined_parts}
use Rattle.lsm_readers.specs.declared.regions.ParsedRegions.{ParsedRegions}
use Rattle.lsm_readers.specs.point.IndexKinds.{handles_result}
use Rattle.lsm_readers.specs.point.Parts.{places_result}
use Rattle.lsm_readers.specs.Stored.{IndexHas, NamesChunk, NamesPart, StoresList}
use Rattle.lsm_readers.proofs.Recovered.{ok_same}

-- of each of some items there is one
zip_one : {X Y : Type 0} (P : X → Y → Type 0)
    → ((x : X) (y z : Y) → P x y → P x z → y ≡ z)
    → (xs : List X) (ys zs : List Y) → AllZip P xs ys → AllZip P xs zs → ys ≡ zs
zip_one P one [] [] [] a b = refl
zip_one P one [] [] (z ∷ zs) a b = absurd b
zip_one P one [] (y ∷ ys) zs a b = absurd a
zip_one P one (x ∷ xs) [] zs a b = absurd a
zip_one P one (x ∷ xs) (y ∷ ys) [] a b = absurd b
zip_one {X} {Y} P one (x ∷ xs) (y ∷ ys) (z ∷ zs) a b =
    ap (λ (w : Y). w ∷ ys) (one x y z a.0 b.0)
    ∙ ap (λ (ws : List Y). z ∷ ws) (zip_one P one xs ys zs a.1 b.1)

module _ (body : List ℕ) where
  chunk_one : (h : Handle) (c d : List Entry) → NamesChunk body h c → NamesChunk body h d → c ≡ d
  chunk_one h c d a b =
      sym a.entries
      ∙ ap entries_of
      (ok_same (load_result body h.offset h.size Data) a.block b.block a.loads b.loads)
      ∙ b.entries

  part_one : (top : Handle) (p q : List Handle) → NamesPart body top p → NamesPart body top q
      → p ≡ q
  part_one top p q a b = ok_same (handles_result body (place_of top)) p q a.handles b.handles

  index_one : (section : Option Place) (tli : Place) (hs ks : List Handle)
      → IndexHas body section tli hs → IndexHas body section tli ks → hs ≡ ks
  index_one None tli hs ks a b = ok_same (handles_result body tli) hs ks a b
  index_one (Some section) tli hs ks a b =
      let tops = ok_same (handles_result body tli) a.tops b.tops a.returned b.returned in
      let named = subst (λ (ts : List Handle). AllZip (NamesPart body) ts a.parts) tops a.named in
      sym a.whole
      ∙ ap joined_parts (zip_one (NamesPart body) part_one b.tops a.parts b.parts named b.named)
      ∙ b.whole

pub stored_one : (bytes : List ℕ) (xs ys : List Entry) → StoresList bytes xs → StoresList bytes ys
    → xs ≡ ys
stored_one bytes xs ys s t =
    let body = body_of bytes in
    let regions = ok_same (places_result bytes) s.regions t.regions s.places t.places in
    let index = subst (λ (r : ParsedRegions). IndexHas body r.index r.tli s.handles) regions
    s.index in
    let handles = index_one body (t.regions).index (t.regions).tli s.handles t.handles index
    t.index in
    let named = subst (λ (hs : List Handle). AllZip (NamesChunk body) hs s.blocks) handles
    s.named in
    let blocks = zip_one (NamesChunk body) (chunk_one body) t.handles s.blocks t.blocks named
    t.named in
    sym s.whole ∙ ap joined blocks ∙ t.whole
