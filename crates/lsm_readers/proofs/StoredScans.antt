-- A scan over handles that name chunks, one behind another, gives the list.
use Rattle.std.proofs.Common.{◌≡◌, ℕ, ◌+◌, ◌^◌, ◌<◌, List, [], ◌∷◌, ◌++◌, length, map, max, refl}
use Rattle.std.proofs.Common.{sym, ap, subst, ◌∙◌, arith, Bool, true, false}
use Rattle.std.specs.Prelude.{Some, None, Result, Ok, Err, IfOk}
use Rattle.std.specs.List.{AllZip, flat_map}
use Rattle.std.proofs.lemmas.List.{map-append}
use Rattle.sst_entries.specs.declared.error.Error.{Error}
use Rattle.sst_entries.specs.declared.error.Error.TheVariants.{OutOfMemory}
use Rattle.sst_entries.specs.Entry.{Entry}
use Rattle.sst_entries.specs.Error.{Faults, is_memory}
use Rattle.sst_entries.specs.Stream.{ok_results, YieldsExactly, nowhere, answer_stops}
use Rattle.sst_entries.proofs.Refusals.{memory_is}
use Rattle.sst_blocks.specs.declared.block_type.BlockType.TheVariants.{Data}
use Rattle.sst_blocks.specs.Block.{Loaded, entries_of, load_at_result, load_result}
use Rattle.sst_blocks.specs.Handle.{Handle}
use Rattle.sst_blocks.specs.table.Chunks.{joined}
use Rattle.sst_blocks.specs.table.Facts.{highest_seqno}
use Rattle.lsm_readers.specs.point.Answer.{lifted, lift}
use Rattle.lsm_readers.specs.Scan.{lifted_result, behind, blocks_results, then_blocks, entries_results}
use Rattle.lsm_readers.specs.Scan.{up_to_error, entries_from, scan_results, fault_of, Scan, ScansList}
use Rattle.lsm_readers.specs.Scan.{LendsList, ScansLent, ScansNext}
use Rattle.lsm_readers.specs.Stored.{AreLaid, HasNoBlock, NamesChunk}
use Rattle.lsm_readers.proofs.LoadSizes.{at_position, block_end}
use Rattle.lsm_readers.proofs.Scans.{lifted_ok}

-- ---- entries

cut_nowhere : {X : Type 0} (xs : List X) → up_to_error (ok_results xs) ≡ ok_results xs
cut_nowhere [] = refl
cut_nowhere {X = X} (x ∷ xs) = ap (λ (rs : List (Result X Error)). Ok x ∷ rs) (cut_nowhere xs)

two : (x y : Result Entry Error) (xs ys : List (Result Entry Error)) → x ≡ y → xs ≡ ys
    → x ∷ xs ≡ y ∷ ys
two x y xs ys e f = rw (e, f) refl

-- where the highest number fits, every one does
all_lifted : (g : ℕ) (es : List Entry) → highest_seqno es + g < 2 ^ 64
    → map (lifted_result g) es ≡ ok_results (lift es g)
unfolding highest_seqno
all_lifted g [] fits = refl
all_lifted g (e ∷ es) fits =
    let here : e.seqno + g < 2 ^ 64 = omega (arith, fits) in
    let more : highest_seqno es + g < 2 ^ 64 = omega (arith, fits) in
    two (lifted_result g e) (Ok (lifted g e)) (map (lifted_result g) es) (ok_results (lift es g))
    (lifted_ok g e here) (all_lifted g es more)

-- ---- blocks

module _ (body : List ℕ) (g : ℕ) where
  -- the entries of the blocks from where the first of them begins are those of the chunks
  laid_entries : (at : ℕ) (hs : List Handle) (cs : List (List Entry))
      → AllZip (NamesChunk body) hs cs → AreLaid at hs
      → flat_map (entries_results g) (blocks_results body at (length hs))
      ≡ map (lifted_result g) (joined cs)
  unfolding blocks_results
  laid_entries at [] [] named laid = refl
  laid_entries at [] (c ∷ cs) named laid = absurd named
  laid_entries at (h ∷ hs) [] named laid = absurd named
  laid_entries at (h ∷ hs) (c ∷ cs) named laid =
      let n = named.0 in
      let loads : load_result body at h.size Data ≡ Ok n.block =
      ap (λ (p : ℕ). load_result body p h.size Data) (sym laid.0) ∙ n.loads in
      let here : load_at_result body at Data ≡ Ok n.block = at_position body at h.size Data n.block
      loads in
      let next : behind at n.block ≡ at + h.size = block_end body at h.size Data n.block loads in
      let more = laid_entries (at + h.size) hs cs named.1 laid.1 in
      ap (λ (r : Result Loaded Error). flat_map (entries_results g) (then_blocks r
      (λ b. blocks_results body (behind at b) (length hs)))) here
      ∙ ap (λ (p : ℕ). map (lifted_result g) (entries_of n.block)
      ++ flat_map (entries_results g) (blocks_results body p (length hs))) next
      ∙ ap (λ (es : List Entry). map (lifted_result g) es
      ++ flat_map (entries_results g) (blocks_results body (at + h.size) (length hs))) n.entries
      ∙ ap (λ (rs : List (Result Entry Error)). map (lifted_result g) c ++ rs) more
      ∙ sym (map-append (lifted_result g) c (joined cs))

-- a scan gives these, and its first block is loaded
pub record Scans (body : List ℕ) (count g : ℕ) (xs : List (Result Entry Error)) : Type 0 where
  pub all : scan_results body count g ≡ xs
  pub first : Loaded
  pub loads : load_at_result body 0 Data ≡ Ok first

pub chunks_scan : (body : List ℕ) (g : ℕ) (hs : List Handle) (cs : List (List Entry))
    → AllZip (NamesChunk body) hs cs → AreLaid 0 hs → 0 < length (joined cs)
    → highest_seqno (joined cs) + g < 2 ^ 64
    → Scans body (length hs) g (ok_results (lift (joined cs) g))
unfolding entries_from
chunks_scan body g [] [] named laid some fits = absurd (omega (arith, some))
chunks_scan body g [] (c ∷ cs) named laid some fits = absurd named
chunks_scan body g (h ∷ hs) [] named laid some fits = absurd named
chunks_scan body g (h ∷ hs) (c ∷ cs) named laid some fits =
    let n = named.0 in
    let count : max 1 (length (h ∷ hs)) ≡ length (h ∷ hs) = omega arith in
    let loads : load_result body 0 h.size Data ≡ Ok n.block =
    ap (λ (p : ℕ). load_result body p h.size Data) (sym laid.0) ∙ n.loads in
    record {
      all = ap (λ (m : ℕ). up_to_error (flat_map (entries_results g) (blocks_results body 0 m))) count
          ∙ ap (λ (rs : List (Result Entry Error)). up_to_error rs)
          (laid_entries body g 0 (h ∷ hs) (c ∷ cs) named laid
          ∙ all_lifted g (joined (c ∷ cs)) fits)
          ∙ cut_nowhere (lift (joined (c ∷ cs)) g);
      first = n.block;
      loads = at_position body 0 h.size Data n.block loads;
    }

-- ---- a scan that has a first block is refused for want of memory alone

memory_or : (e : Error) (b : Bool) → is_memory e ≡ b → (is_memory e ≡ false → None ≡ Some e)
    → e ≡ OutOfMemory
memory_or e true m h = memory_is e m
memory_or e false m h = absurd (let no = h m in cc)

memory_alone : (returned : Result Loaded Error) (b : Loaded) (e : Error) → returned ≡ Ok b
    → (is_memory e ≡ false → fault_of returned ≡ Some e) → e ≡ OutOfMemory
memory_alone returned b e ok h = memory_or e (is_memory e) refl (λ m. sym (ap fault_of ok) ∙ h m)

-- ---- what a scan of a list answers

pub scan_opens : (r : Result Scan Error) (body : List ℕ) (count g : ℕ) (es : List Entry)
    → (length es ≡ 0 → HasNoBlock body)
    → (0 < length es → Scans body count g (ok_results (lift es g)))
    → ((stops : Error → Bool) → stops OutOfMemory ≡ true
    → IfOk r (λ s. YieldsExactly (answer_stops stops) ScansNext nowhere s (scan_results body count g)))
    → Faults r (fault_of (load_at_result body 0 Data)) → ScansList r es g
scan_opens (Ok s) body count g [] none some yields faults =
    let no = none refl in
    absurd (let wrong : None ≡ Some no.fault = sym faults ∙ ap fault_of no.refused in cc)
scan_opens (Err e) body count g [] none some yields faults = λ more. absurd (omega (arith, more))
scan_opens (Ok s) body count g (x ∷ xs) none some yields faults =
    λ stops memory. subst (λ (ys : List (Result Entry Error)). YieldsExactly
    (answer_stops stops) ScansNext nowhere s ys) (some (omega arith)).all (yields stops memory)
scan_opens (Err e) body count g (x ∷ xs) none some yields faults =
    λ more. memory_alone (load_at_result body 0 Data) (some more).first e (some more).loads faults

-- and what it lends
pub lends_list : (r : Result Scan Error) (body : List ℕ) (count g : ℕ) (es : List Entry)
    → (length es ≡ 0 → HasNoBlock body)
    → (0 < length es → Scans body count g (ok_results (lift es g)))
    → ((stops : Error → Bool) → stops OutOfMemory ≡ true
    → IfOk r (λ s. YieldsExactly (answer_stops stops) ScansLent nowhere s (scan_results body count g)))
    → Faults r (fault_of (load_at_result body 0 Data)) → LendsList r es g
lends_list (Err e) body count g es none some lends faults = tt
lends_list (Ok s) body count g [] none some lends faults =
    let no = none refl in
    absurd (let wrong : None ≡ Some no.fault = sym faults ∙ ap fault_of no.refused in cc)
lends_list (Ok s) body count g (x ∷ xs) none some lends faults =
    λ stops memory. subst (λ (ys : List (Result Entry Error)). YieldsExactly
    (answer_stops stops) ScansLent nowhere s ys) (some (omega arith)).all (lends stops memory)
