-- Data blocks that are read without a finding: what is so of them and of their handles.
use Rattle.std.proofs.Common.{◌≡◌, ℕ, ◌+◌, ◌-◌, ◌^◌, ◌<◌, ◌≤◌, List, [], ◌∷◌, ◌++◌, length, map}
use Rattle.std.proofs.Common.{refl, sym, ap, subst, ◌∙◌, append-nil, append_assoc, arith}
use Rattle.std.proofs.Common.{inl, inr}
use Rattle.std.specs.Prelude.{sum_by, Option, Some, None, Ok, Err, Result}
use Rattle.std.specs.List.{AllZip}
use Rattle.std.proofs.lemmas.List.Sums.{sum_by-cons}
use Rattle.sst_blocks.specs.declared.section.SectionName.{SectionName}
use Rattle.sst_blocks.specs.declared.section.SectionName.TheVariants as section
use Rattle.sst_entries.specs.Entry.{Entry}
use Rattle.sst_entries.specs.Strict.{last_of}
use Rattle.sst_blocks.specs.declared.block_type.BlockType.TheVariants.{Data}
use Rattle.sst_blocks.specs.Block.{Loaded, entries_of, load_result}
use Rattle.sst_blocks.specs.Handle.{Handle}
use Rattle.sst_blocks.specs.Handles.{end_of}
use Rattle.sst_blocks.specs.Place.{Place, place_of}
use Rattle.sst_blocks.specs.table.Chunks.{joined}
use Rattle.sst_blocks.specs.table.Index.{last_entry}
use Rattle.sst_blocks.specs.table.Parts.{joined_parts}
use Rattle.lsm_readers.specs.declared.verify.Counts.{Counts}
use Rattle.lsm_readers.specs.Findings.{BlockComes, ComesBehindParts, ComesWithin, IsFirstFinding}
use Rattle.lsm_readers.specs.Findings.{PartComes, Reads, ReadsBlocks, in_block, in_index, in_part}
use Rattle.lsm_readers.specs.point.IndexKinds.{handles_result}
use Rattle.lsm_readers.specs.point.Parts.{Parts}
use Rattle.lsm_readers.specs.Stored.{AreLaid, IndexHas, NamesChunk, NamesPart}
use Rattle.lsm_readers.specs.declared.verify.Finding.{Finding}
use Rattle.lsm_readers.specs.Verify.{◌>>=◌, Unread, block_found, block_spent, blocks_found}
use Rattle.lsm_readers.specs.Verify.{chunk_found, contents_found, counted_found, entries_found}
use Rattle.lsm_readers.specs.Verify.{filters_found, handles_found}
use Rattle.lsm_readers.specs.Verify.{index_found, last_named, named_found, part_found}
use Rattle.lsm_readers.specs.Verify.{parts_found, place_found, top_named, unread_of}
use Rattle.lsm_readers.proofs.FileLengths.{last_some}
use Rattle.lsm_readers.proofs.VerifyEntries.{entries_go, entries_low, entries_read, size_stays}
use Rattle.lsm_readers.proofs.VerifyEntries.{reads_none}
use Rattle.lsm_readers.proofs.VerifySteps.{end_goes, end_ok, located_goes, located_ok, place_goes}
use Rattle.lsm_readers.proofs.VerifySteps.{place_ok, some_goes, some_ok, spent_goes, spent_ok}
use Rattle.lsm_readers.proofs.VerifySteps.{answer, then_err, then_goes, then_ok, reported_is}

-- ---- the end of a block

-- a handle names the last of some entries
pub record NamesLast (h : Handle) (es : List Entry) : Type 0 where
  pub some : 0 < length es
  pub end_key : h.end_key ≡ (last_entry es).user_key
  pub seqno : h.seqno ≡ (last_entry es).seqno

module _ (section : SectionName) (h : Handle) where
  last_goes : (before : Option Entry) (es : List Entry) → NamesLast h es
      → last_named section h (last_of before es) ≡ Ok tt
  unfolding last_of
  last_goes before [] n = absurd (omega (arith, n.some))
  last_goes before (e ∷ es) n =
      ap (last_named section h) (last_some e es)
      ∙ end_goes section h (last_entry (e ∷ es)) n.end_key n.seqno

  last_ok : (before : Option Entry) (es : List Entry) (u : Unit {0}) → 0 < length es
      → last_named section h (last_of before es) ≡ Ok u → NamesLast h es
  unfolding last_of
  last_ok before [] u some returned = absurd (omega arith)
  last_ok before (e ∷ es) u some returned =
      let is = end_ok section h (last_entry (e ∷ es)) u
      (ap (last_named section h) (sym (last_some e es)) ∙ returned) in
      record { some = some; end_key = is.0; seqno = is.1 }

-- nothing stands before a block that has no entry
last_none : (section : SectionName) (h : Handle) (es : List Entry) (u : Unit {0})
    → last_named section h (last_of None es) ≡ Ok u → 0 < length es
unfolding last_of
last_none section h [] u returned = absurd cc
last_none section h (e ∷ es) u returned = omega arith

-- ---- a data block

module _ (body : List ℕ) (h : Handle) where
  chunk_ok : (c : List Entry) → chunk_found body (place_of h) ≡ Ok c
      → (block : Loaded) × (load_result body h.offset h.size Data ≡ Ok block)
      × (entries_of block ≡ c) × (0 < length c)
  chunk_ok c returned =
      let b = then_ok _ _ c returned in
      let s = some_ok h.offset (entries_of b.0) c b.2 in (
        b.0,
        located_ok _ h.offset _ b.0 b.1,
        s.0,
        subst (λ (es : List Entry). 0 < length es) s.0 s.1,
      )

  chunk_goes : (c : List Entry) → NamesChunk body h c → chunk_found body (place_of h) ≡ Ok c
  chunk_goes c n =
      then_goes _ _ n.block c (located_goes _ h.offset _ n.block n.loads)
      (some_goes h.offset (entries_of n.block)
      (subst (λ (es : List Entry). 0 < length es) (sym n.entries) n.some)
      ∙ ap (λ (es : List Entry). Ok es) n.entries)

module _ (meta size : ℕ) (old : Counts) where
  abbrev less : ℕ → ℕ → Counts
  less blocks rest = record old { blocks = blocks; size = rest }

  count_ok : (new : Counts) → block_spent meta size old ≡ Ok new → (blocks : ℕ) × (rest : ℕ)
      × (new ≡ less blocks rest) × (old.blocks ≡ 1 + blocks) × (old.size ≡ size + rest)
  unfolding block_spent
  count_ok new returned =
      let b = then_ok _ _ new returned in
      let s = then_ok _ _ new b.2 in
      let same : less b.0 s.0 ≡ new = cc in
      let fewer = spent_ok meta _ old.blocks 1 b.0 b.1 in
      (b.0, s.0, sym same, fewer, spent_ok meta _ old.size size s.0 s.1)

  count_goes : (blocks rest : ℕ) → old.blocks ≡ 1 + blocks → old.size ≡ size + rest
      → block_spent meta size old ≡ Ok (less blocks rest)
  unfolding block_spent
  count_goes blocks rest b s =
      then_goes _ _ blocks _ (spent_goes meta _ old.blocks 1 blocks b)
      (then_goes _ _ rest _ (spent_goes meta _ old.size size rest s) refl)

module _ (body : List ℕ) (parts : Parts) where
  -- what is left can be so much
  pub record IsPart (left : Unread) : Type 0 where
    pub lowest : left.counts.lowest ≤ 2 ^ 64 - 1
    pub size : left.counts.size ≤ parts.facts.file_size

  abbrev pub position : Unread → ℕ
  position left = parts.facts.file_size - left.counts.size

  -- the data blocks of some handles were read
  abbrev Blocks : Unread → List Handle → Unread → Type 0
  Blocks = ReadsBlocks body parts

  pub blocks_none : (left : Unread) → IsPart left → Blocks left [] left
  blocks_none left fits = record {
    chunks = [];
    named = tt;
    laid = tt;
    reads = reads_none body parts left fits.lowest;
    blocks = omega arith;
    sizes = omega arith;
  }

  abbrev with_counts : Unread → Counts → Unread
  with_counts left counts = record { last = left.last; counts = counts }

  abbrev with_size : Unread → ℕ → ℕ → Unread
  with_size left blocks size =
      with_counts left (record left.counts { blocks = blocks; size = size })

  same_reads : (old : Unread) (blocks size : ℕ) (es : List Entry) (new : Unread)
      → Reads body parts (with_size old blocks size) es new → Reads body parts old es new
  same_reads old blocks size es new r =
      let s = r.spends in
      record {
        strict = r.strict;
        numbers = r.numbers;
        admits = r.admits;
        first = r.first;
        last = r.last;
        spends = record {
          items = s.items;
          tombstones = s.tombstones;
          weak = s.weak;
          reclaimable = s.reclaimable;
          lowest = s.lowest;
          highest = s.highest;
        };
      }

  reads_same : (old : Unread) (blocks size : ℕ) (es : List Entry) (new : Unread)
      → Reads body parts old es new
      → Reads body parts (with_size old blocks size) es new
  reads_same old blocks size es new r =
      let s = r.spends in
      record {
        strict = r.strict;
        numbers = r.numbers;
        admits = r.admits;
        first = r.first;
        last = r.last;
        spends = record {
          items = s.items;
          tombstones = s.tombstones;
          weak = s.weak;
          reclaimable = s.reclaimable;
          lowest = s.lowest;
          highest = s.highest;
        };
      }

  -- what is so of a data block that was read
  pub record ReadsBlock (old : Unread) (h : Handle) (new : Unread) : Type 0 where
    pub chunk : List Entry
    pub named : NamesChunk body h chunk
    pub lies : h.offset ≡ position old
    pub reads : (rest : List Entry) (end : Unread) → Reads body parts new rest end
        → Reads body parts old (chunk ++ rest) end
    pub blocks : old.counts.blocks ≡ 1 + new.counts.blocks
    pub size : old.counts.size ≡ h.size + new.counts.size
    pub lowest : new.counts.lowest ≤ 2 ^ 64 - 1

  block_ok : (old : Unread) (h : Handle) (new : Unread) → IsPart old
      → block_found body parts old h ≡ Ok new → ReadsBlock old h new
  unfolding block_found counted_found contents_found
  block_ok old h new fits returned =
      let meta = parts.regions.metadata.offset in
      let n = then_ok _ _ new returned in
      let p = then_ok _ _ n.0 n.1 in
      let c = then_ok _ _ new n.2 in
      let e = then_ok _ _ new c.2 in
      let l = then_ok _ _ new e.2 in
      let same : e.0 ≡ new = reported_is e.0 new l.2 in
      let count = count_ok meta h.size old.counts n.0 p.2 in
      let chunk = chunk_ok body h c.0 c.1 in
      let begun = with_counts old (less meta h.size old.counts count.0 count.1) in
      let read = subst (λ (k : Counts). entries_found body parts h.offset (with_counts old k) c.0
      ≡ Ok e.0) count.2 e.1 in
      let low = entries_low body parts h.offset begun c.0 e.0 read fits.lowest in
      let ends = last_ok _ h old.last c.0 l.0 chunk.3
      (ap (last_named _ h) (sym low.3) ∙ l.1) in
      subst (ReadsBlock old h) same (record {
        chunk = c.0;
        named = record {
          block = chunk.0;
          loads = chunk.1;
          entries = chunk.2;
          some = chunk.3;
          end_key = ends.end_key;
          seqno = ends.seqno;
        };
        lies = place_ok (position old) h.offset p.0 p.1;
        reads = λ rest end more. same_reads old count.0 count.1 (c.0 ++ rest) end
            (entries_read body parts h.offset begun c.0 rest e.0 end read more);
        blocks = omega (arith, count.3, low.1);
        size = omega (arith, count.4, low.2);
        lowest = low.0;
      })

  -- what is tested of a data block behind each of its parts
  abbrev behind_entries : Handle → Unread → Result Unread Finding
  behind_entries h left = last_named section.Data h left.last >>= λ _. answer left

  abbrev behind_chunk : Unread → Handle → Counts → List Entry → Result Unread Finding
  behind_chunk old h counts chunk =
      entries_found body parts h.offset (with_counts old counts) chunk >>= behind_entries h

  abbrev behind_counts : Unread → Handle → Counts → Result Unread Finding
  behind_counts old h counts = chunk_found body (place_of h) >>= behind_chunk old h counts

  -- the sizes of data blocks go down by that of the block
  pub size_less : (old : Unread) (h : Handle) (new : Unread)
      → block_found body parts old h ≡ Ok new → old.counts.size ≡ h.size + new.counts.size
  unfolding block_found counted_found contents_found
  size_less old h new returned =
      let meta = parts.regions.metadata.offset in
      let n = then_ok (counted_found parts old.counts (place_of h)) (behind_counts old h) new returned
      in
      let p = then_ok (place_found (position old) h.offset)
      (λ _. block_spent meta h.size old.counts) n.0 n.1 in
      let c = then_ok (chunk_found body (place_of h)) (behind_chunk old h n.0) new n.2 in
      let e = then_ok (entries_found body parts h.offset (with_counts old n.0) c.0)
      (behind_entries h) new c.2 in
      let l = then_ok (last_named section.Data h (e.0).last) (λ _. answer e.0) new e.2 in
      let count = count_ok meta h.size old.counts n.0 p.2 in
      let stays : (e.0).counts.size ≡ (n.0).size =
      size_stays body parts h.offset (with_counts old n.0) c.0 e.0 e.1 in
      let rest : (n.0).size ≡ count.1 = ap (λ (k : Counts). k.size) count.2 in
      let last : (e.0).counts.size ≡ new.counts.size =
      ap (λ (l : Unread). l.counts.size) (reported_is e.0 new l.2) in
      omega (arith, count.4, stays, rest, last)

  left_part : (old : Unread) (h : Handle) (new : Unread) → IsPart old → ReadsBlock old h new
      → IsPart new
  left_part old h new fits r = record {
    lowest = r.lowest;
    size = omega (arith, fits.size, r.size);
  }

  -- one more in front of what was read
  blocks_more : (old : Unread) (h : Handle) (hs : List Handle) (mid new : Unread) → IsPart old
      → ReadsBlock old h mid → Blocks mid hs new → Blocks old (h ∷ hs) new
  blocks_more old h hs mid new fits one more = record {
    chunks = one.chunk ∷ more.chunks;
    named = (one.named, more.named);
    laid = (
      one.lies,
      subst (λ (at : ℕ). AreLaid at hs) (behind (position mid) (omega (arith, fits.size, one.size)))
          more.laid,
    );
    reads = one.reads (joined more.chunks) new more.reads;
    blocks = omega (arith, one.blocks, more.blocks);
    sizes = omega (arith, one.size, more.sizes, sum_by-cons (λ (x : Handle). x.size) h hs);
  }
    where
      behind : (at : ℕ) → at ≡ position old + h.size → at ≡ position old + h.size
      behind at is = is

  -- the first of what is read
  blocks_first : (old : Unread) (h : Handle) (hs : List Handle) (new : Unread) → IsPart old
      → Blocks old (h ∷ hs) new → (mid : Unread) × (block_found body parts old h ≡ Ok mid)
      × Blocks mid hs new
  unfolding block_found counted_found contents_found
  blocks_first old h hs new fits r = go r.chunks r.named r.reads
    where
      go : (cs : List (List Entry)) → AllZip (NamesChunk body) (h ∷ hs) cs
          → Reads body parts old (joined cs) new → (mid : Unread)
          × (block_found body parts old h ≡ Ok mid) × Blocks mid hs new
      go [] named reads = absurd named
      go (c ∷ cs) named reads =
          let meta = parts.regions.metadata.offset in
          let blocks = length hs + new.counts.blocks in
          let sum = sum_by-cons (λ (x : Handle). x.size) h hs in
          let size = sum_by (λ (x : Handle). x.size) hs + new.counts.size in
          let counts = less meta h.size old.counts blocks size in
          let begun = with_counts old counts in
          let e = entries_go body parts h.offset begun c (joined cs) new
          (reads_same old blocks size (joined (c ∷ cs)) new reads) in
          let low = entries_low body parts h.offset begun c e.0 e.1 fits.lowest in
          let names : NamesLast h c = record {
            some = (named.0).some;
            end_key = (named.0).end_key;
            seqno = (named.0).seqno;
          } in
          let size_is : old.counts.size ≡ h.size + size = omega (arith, r.sizes, sum) in (
            e.0,
            then_goes _ _ counts _
                (then_goes _ _ tt _ (place_goes (position old) h.offset r.laid.0)
                (count_goes meta h.size old.counts blocks size (omega (arith, r.blocks)) size_is))
                (then_goes _ _ c _ (chunk_goes body h c named.0)
                (then_goes _ _ e.0 _ e.1
                (then_goes _ _ tt _ (ap (last_named _ h) low.3 ∙ last_goes _ h old.last c names)
                refl))),
            record {
              chunks = cs;
              named = named.1;
              laid = subst (λ (at : ℕ). AreLaid at hs)
                  (omega (arith, fits.size, size_is, low.2)) r.laid.1;
              reads = e.2;
              blocks = omega (arith, low.1);
              sizes = omega (arith, low.2);
            },
          )

  -- ---- the data blocks of some handles, in front of others

  pub blocks_read : (old : Unread) (hs rest : List Handle) (mid new : Unread) → IsPart old
      → blocks_found body parts old hs ≡ Ok mid
      → (IsPart mid → Blocks mid rest new) → Blocks old (hs ++ rest) new
  unfolding blocks_found
  blocks_read old [] rest mid new fits returned more =
      let same : old ≡ mid = cc in
      subst (λ (l : Unread). Blocks l rest new) (sym same)
      (more (subst IsPart same fits))
  blocks_read old (h ∷ hs) rest mid new fits returned more =
      let one = then_ok _ _ mid returned in
      let is = block_ok old h one.0 fits one.1 in
      blocks_more old h (hs ++ rest) one.0 new fits is
      (blocks_read one.0 hs rest mid new (left_part old h one.0 fits is) one.2 more)

  pub blocks_go : (old : Unread) (hs rest : List Handle) (new : Unread) → IsPart old
      → Blocks old (hs ++ rest) new → (mid : Unread)
      × (blocks_found body parts old hs ≡ Ok mid) × IsPart mid × Blocks mid rest new
  unfolding blocks_found
  blocks_go old [] rest new fits r = (old, refl, fits, r)
  blocks_go old (h ∷ hs) rest new fits r =
      let one = blocks_first old h (hs ++ rest) new fits r in
      let is = block_ok old h one.0 fits one.1 in
      let more = blocks_go one.0 hs rest new (left_part old h one.0 fits is) one.2 in
      (more.0, then_goes _ _ one.0 _ one.1 more.1, more.2, more.3)

  -- ---- the index

  part_named : (top : Handle) (hs : List Handle) (u : Unit {0})
      → handles_found body section.Index (place_of top) ≡ Ok hs → top_named top hs ≡ Ok u
      → NamesPart body top hs
  part_named top hs u returned named =
      let some = last_none _ top (map end_of hs) u named in
      let is = last_ok _ top None (map end_of hs) u some named in
      record {
        handles = located_ok _ top.offset _ hs returned;
        some = mapped hs some;
        end_key = is.end_key;
        seqno = is.seqno;
      }
    where
      mapped : (hs : List Handle) → 0 < length (map end_of hs) → 0 < length hs
      mapped [] some = some
      mapped (h ∷ hs) some = omega arith

  part_ok : (old : Unread) (top : Handle) (mid : Unread) → part_found body parts old top ≡ Ok mid
      → (hs : List Handle) × NamesPart body top hs × (blocks_found body parts old hs ≡ Ok mid)
  unfolding part_found
  part_ok old top mid returned =
      let l = then_ok _ _ mid returned in
      let t = then_ok _ _ mid l.2 in
      (l.0, part_named top l.0 t.0 l.1 t.1, t.2)

  part_goes : (old : Unread) (top : Handle) (hs : List Handle) (mid : Unread) → NamesPart body top
      hs
      → blocks_found body parts old hs ≡ Ok mid → part_found body parts old top ≡ Ok mid
  unfolding part_found
  part_goes old top hs mid n returned =
      then_goes _ _ hs mid (located_goes _ top.offset _ hs n.handles)
      (then_goes _ _ tt mid (last_goes _ top None (map end_of hs)
      (record { some = mapped hs n.some; end_key = n.end_key; seqno = n.seqno })) returned)
    where
      mapped : (hs : List Handle) → 0 < length hs → 0 < length (map end_of hs)
      mapped [] some = some
      mapped (h ∷ hs) some = omega arith

  left_fits : (old : Unread) (hs : List Handle) (mid : Unread) → IsPart old
      → blocks_found body parts old hs ≡ Ok mid → IsPart mid
  unfolding blocks_found
  left_fits old [] mid fits returned = let same : old ≡ mid = cc in subst IsPart same fits
  left_fits old (h ∷ hs) mid fits returned =
      let one = then_ok _ _ mid returned in
      left_fits one.0 hs mid (left_part old h one.0 fits (block_ok old h one.0 fits one.1)) one.2

  -- the partitions of some handles of a top level
  pub record ReadsParts (old : Unread) (tops : List Handle) (new : Unread) : Type 0 where
    pub pieces : List (List Handle)
    pub named : AllZip (NamesPart body) tops pieces
    pub reads : Blocks old (joined_parts pieces) new

  parts_ok : (old : Unread) (tops : List Handle) (new : Unread) → IsPart old
      → parts_found body parts old tops ≡ Ok new → ReadsParts old tops new
  unfolding parts_found
  parts_ok old [] new fits returned =
      let same : old ≡ new = cc in
      record {
        pieces = [];
        named = tt;
        reads = subst (Blocks old []) same (blocks_none old fits);
      }
  parts_ok old (top ∷ tops) new fits returned =
      let one = then_ok _ _ new returned in
      let is = part_ok old top one.0 one.1 in
      let rest = parts_ok one.0 tops new (left_fits old is.0 one.0 fits is.2) one.2 in
      record {
        pieces = is.0 ∷ rest.pieces;
        named = (is.1, rest.named);
        reads = blocks_read old is.0 (joined_parts rest.pieces) one.0 new fits is.2
            (λ (again : IsPart one.0). rest.reads);
      }

  pub parts_go : (old : Unread) (tops : List Handle) (ps : List (List Handle)) (new : Unread)
      → IsPart old → AllZip (NamesPart body) tops ps → Blocks old (joined_parts ps) new
      → (mid : Unread) × (parts_found body parts old tops ≡ Ok mid) × IsPart mid
      × Blocks mid [] new
  unfolding parts_found
  parts_go old [] [] new fits named reads = (old, refl, fits, reads)
  parts_go old [] (p ∷ ps) new fits named reads = absurd named
  parts_go old (top ∷ tops) [] new fits named reads = absurd named
  parts_go old (top ∷ tops) (p ∷ ps) new fits named reads =
      let one = blocks_go old p (joined_parts ps) new fits reads in
      let more = parts_go one.0 tops ps new one.2 named.1 one.3 in (
        more.0,
        then_goes _ _ one.0 _ (part_goes old top p one.0 named.0 one.1) more.1,
        more.2,
        more.3,
      )

  -- the index and the data blocks were read
  pub record ReadsIndex (old new : Unread) : Type 0 where
    pub handles : List Handle
    pub index : IndexHas body parts.regions.index parts.regions.tli handles
    pub reads : Blocks old handles new

  named_ok : (section : Option Place) (old : Unread) (hs : List Handle) (new : Unread) → IsPart old
      → handles_result body parts.regions.tli ≡ Ok hs
      → named_found body parts old section hs ≡ Ok new
      → (handles : List Handle) × IndexHas body section parts.regions.tli handles
      × Blocks old handles new
  named_ok None old hs new fits returned found = (
    hs,
    returned,
    subst (λ (xs : List Handle). Blocks old xs new) (append-nil hs)
        (blocks_read old hs [] new new fits found (blocks_none new)),
  )
  named_ok (Some place) old hs new fits returned found =
      let p = parts_ok old hs new fits found in (
        joined_parts p.pieces,
        record { tops = hs; parts = p.pieces; returned = returned; named = p.named; whole = refl },
        p.reads,
      )

  pub index_ok : (old new : Unread) → IsPart old → index_found body parts old ≡ Ok new
      → ReadsIndex old new
  unfolding index_found
  index_ok old new fits found =
      let hs = then_ok _ _ new found in
      let returned = located_ok _ _ (handles_result body parts.regions.tli) hs.0 hs.1 in
      let is = named_ok parts.regions.index old hs.0 new fits returned hs.2 in
      record { handles = is.0; index = is.1; reads = is.2 }

  named_go : (section : Option Place) (old : Unread) (handles : List Handle) (new : Unread)
      → IsPart old → IndexHas body section parts.regions.tli handles
      → Blocks old handles new → (hs : List Handle)
      × (handles_result body parts.regions.tli ≡ Ok hs) × (mid : Unread)
      × (named_found body parts old section hs ≡ Ok mid) × IsPart mid × Blocks mid [] new
  named_go None old handles new fits has reads =
      let one = blocks_go old handles [] new fits
      (subst (λ (xs : List Handle). Blocks old xs new) (sym (append-nil handles)) reads) in
      (handles, has, one.0, one.1, one.2, one.3)
  named_go (Some place) old handles new fits has reads =
      let all = parts_go old has.tops has.parts new fits has.named
      (subst (λ (xs : List Handle). Blocks old xs new) (sym has.whole) reads) in
      (has.tops, has.returned, all.0, all.1, all.2, all.3)

  pub index_go : (old : Unread) (handles : List Handle) (new : Unread) → IsPart old
      → IndexHas body parts.regions.index parts.regions.tli handles
      → Blocks old handles new → (mid : Unread)
      × (index_found body parts old ≡ Ok mid) × IsPart mid × Blocks mid [] new
  unfolding index_found
  index_go old handles new fits has reads =
      let is = named_go parts.regions.index old handles new fits has reads in (
        is.2,
        then_goes _ _ is.0 _
            (located_goes _ _ (handles_result body parts.regions.tli) is.0 is.1) is.3,
        is.4,
        is.5,
      )

  -- ---- what is found first

  abbrev start : Unread
  start = unread_of parts.facts

  -- all that was read before some handles of data blocks is known, and each of them comes next in
  -- the index once those before it are read
  abbrev Leads : Unread → List Handle → Type 0
  Leads old hs = (mid : List Handle) (h : Handle) (others : List Handle) (end : Unread)
      → hs ≡ mid ++ h ∷ others → Blocks old mid end
      → (front : List Handle) × BlockComes body parts.regions.index parts.regions.tli front h
      × Blocks start front end

  -- so it is before a partition
  abbrev LeadsPart : Unread → Handle → Type 0
  LeadsPart old top = (front : List Handle) × ComesBehindParts body parts.regions.tli front top
      × ((rest : List Handle) (end : Unread) → Blocks old rest end
      → Blocks start (front ++ rest) end)

  -- and so before some partitions
  abbrev LeadsParts : Unread → List Handle → Type 0
  LeadsParts old tops = (mid : List Handle) (ps : List (List Handle)) (top : Handle)
      (others : List Handle) → tops ≡ mid ++ top ∷ others → AllZip (NamesPart body) mid ps
      → (front : List Handle) × ComesBehindParts body parts.regions.tli front top
      × ((rest : List Handle) (end : Unread) → Blocks old (joined_parts ps ++ rest) end
      → Blocks start (front ++ rest) end)

  module _ (f : Finding) (filters : filters_found body parts ≡ Ok tt) where
    blocks_err : (old : Unread) (hs : List Handle) → IsPart old → Leads old hs
        → blocks_found body parts old hs ≡ Err f → IsFirstFinding body parts f
    unfolding blocks_found
    blocks_err old [] fits leads returned = absurd cc
    blocks_err old (h ∷ hs) fits leads returned =
        elim (then_err (block_found body parts old h) (λ l. blocks_found body parts l hs) f returned) [
          | inl here ↦ (let front = leads [] h hs old refl (blocks_none old fits) in
              in_block filters front.0 old h front.1 front.2 here)
          | inr more ↦ (let is = block_ok old h more.0 fits more.1 in
              blocks_err more.0 hs (left_part old h more.0 fits is)
              (λ mid x others end at r. leads (h ∷ mid) x others end
              (ap (λ (xs : List Handle). h ∷ xs) at)
              (blocks_more old h mid more.0 end fits is r))
              more.2)
        ]

    module _ (section_is : (section : Place) × (parts.regions.index ≡ Some section)) where
      comes_part : (front : List Handle) (top : Handle)
          → ComesBehindParts body parts.regions.tli front top
          → PartComes body parts.regions.index parts.regions.tli front top
      comes_part front top is =
          subst (λ (s : Option Place). PartComes body s parts.regions.tli front top)
          (sym section_is.1) is

      comes_within : (front : List Handle) (h : Handle)
          → ComesWithin body parts.regions.tli front h
          → BlockComes body parts.regions.index parts.regions.tli front h
      comes_within front h is =
          subst (λ (s : Option Place). BlockComes body s parts.regions.tli front h)
          (sym section_is.1) is

      part_err : (old : Unread) (top : Handle) → IsPart old → LeadsPart old top
          → part_found body parts old top ≡ Err f → IsFirstFinding body parts f
      unfolding part_found
      part_err old top fits leads returned =
          let front = leads.0 in
          let comes = comes_part front top leads.1 in
          let read = subst (λ (xs : List Handle). Blocks start xs old) (append-nil front)
          (leads.2 [] old (blocks_none old fits)) in
          elim (then_err (handles_found body section.Index (place_of top))
          (λ hs. top_named top hs >>= λ _. blocks_found body parts old hs) f returned) [
            | inl here ↦ in_part filters front old top comes read
                (ap (λ (r : Result (List Handle) Finding). r >>= top_named top) here)
            | inr more ↦ elim (then_err (top_named top more.0)
                (λ _. blocks_found body parts old more.0) f more.2) [
                  | inl here ↦ in_part filters front old top comes read
                      (ap (λ (r : Result (List Handle) Finding). r >>= top_named top) more.1
                      ∙ here)
                  | inr behind ↦ (let named = part_named top more.0 behind.0 more.1 behind.1 in
                      blocks_err old more.0 fits (λ mid h others end at r. (
                        front ++ mid,
                        comes_within (front ++ mid) h (record {
                          before = front;
                          within = mid;
                          others = others;
                          top = top;
                          part = leads.1;
                          named = subst (NamesPart body top) at named;
                          whole = refl;
                        }),
                        leads.2 mid end r,
                      )) behind.2)
                ]
          ]

      parts_err : (old : Unread) (tops : List Handle) → IsPart old → LeadsParts old tops
          → parts_found body parts old tops ≡ Err f → IsFirstFinding body parts f
      unfolding parts_found
      parts_err old [] fits leads returned = absurd cc
      parts_err old (top ∷ tops) fits leads returned =
          let more_parts : Unread → Result Unread Finding = λ l. parts_found body parts l tops in
          elim (then_err (part_found body parts old top) more_parts f returned) [
            | inl here ↦ part_err old top fits (leads [] [] top tops refl tt) here
            | inr more ↦ (let is = part_ok old top more.0 more.1 in
                parts_err more.0 tops (left_fits old is.0 more.0 fits is.2)
                (λ mid ps next others at named.
                (let led = leads (top ∷ mid) (is.0 ∷ ps) next others
                (ap (λ (xs : List Handle). top ∷ xs) at) (is.1, named) in (
                  led.0,
                  led.1,
                  λ rest end r. led.2 rest end
                      (subst (λ (xs : List Handle). Blocks old xs end)
                      (sym (append_assoc is.0 (joined_parts ps) rest))
                      (blocks_read old is.0 (joined_parts ps ++ rest) more.0 end fits is.2
                      (λ fit. r))),
                ))) more.2)
          ]

    named_err : (section : Option Place) (hs : List Handle) → parts.regions.index ≡ section
        → handles_result body parts.regions.tli ≡ Ok hs → IsPart start
        → named_found body parts start section hs ≡ Err f → IsFirstFinding body parts f
    named_err None hs kind index fits returned = blocks_err start hs fits (λ mid h others end at r. (
      mid,
      subst (λ (s : Option Place). BlockComes body s parts.regions.tli mid h) (sym kind)
          (others, index ∙ ap (λ (xs : List Handle). Ok xs) at),
      r,
    )) returned
    named_err (Some place) hs kind index fits returned =
        parts_err (place, kind) start hs fits (λ mid ps top others at named. (
          joined_parts ps,
          record {
            tops = mid;
            others = others;
            parts = ps;
            returned = index ∙ ap (λ (xs : List Handle). Ok xs) at;
            named = named;
            whole = refl;
          },
          λ rest end r. r,
        )) returned

    pub index_err : IsPart start → index_found body parts start ≡ Err f
        → IsFirstFinding body parts f
    unfolding index_found
    index_err fits returned =
        elim (then_err (handles_found body section.Tli parts.regions.tli)
        (named_found body parts start parts.regions.index) f returned) [
          | inl here ↦ in_index filters here
          | inr more ↦ named_err parts.regions.index more.0 refl
              (located_ok _ _ (handles_result body parts.regions.tli) more.0 more.1) fits more.2
        ]
