-- A scan of a table: its consecutive data blocks and their entries.
use Rattle.std.specs.Prelude.{◌≡◌, ℕ, zero, suc, ◌+◌, ◌-◌, ◌<◌, ◌≤◌, max, Bool, true, false, List}
use Rattle.std.specs.Prelude.{[], ◌∷◌, ◌++◌, length, map, Option, Some, None, MatchOption, Result}
use Rattle.std.specs.Prelude.{Ok, Err, IfErr, IfOk, MatchResult, ◌⊎◌}
use Rattle.std.specs.List.{flat_map}
use Rattle.sst_blocks.specs.declared.block_type.BlockType.TheVariants.{Data}
use Rattle.sst_entries.specs.declared.error.Error.{Error}
use Rattle.sst_entries.specs.declared.error.Error.TheVariants.{OutOfMemory}
use Rattle.sst_blocks.specs.declared.opened.Opened.{Opened}
use Rattle.sst_blocks.specs.Block.{Loaded, load_at_result, position_fault, entries_of, header_len}
use Rattle.sst_blocks.specs.Sections.{body_of}
use Rattle.sst_entries.specs.Entry.{Entry}
use Rattle.sst_entries.specs.Error.{is_memory}
use Rattle.sst_blocks.specs.Opened.{with_load}
use Rattle.sst_entries.specs.Stream.{Answers, YieldsExactly, ok_results, front_of, nowhere, answer_stops}
pub use Rattle.sst_entries.specs.Stream.{up_to_error}
pub use Rattle.lsm_iters.specs.Lift.{lifted_result}
use Rattle.lsm_iters.specs.Lift.{lift}
use Rattle.lsm_readers.specs.point.Table.{OpenTable}
use Rattle.lsm_readers.specs.point.Read.{◌>>=◌}

-- A block followed by the next blocks, or an error that ends the list.
abbrev pub then_blocks : Result Loaded Error → (Loaded → List (Result Loaded Error))
    → List (Result Loaded Error)
then_blocks (Ok b) more = Ok b ∷ more b
then_blocks (Err e) more = Err e ∷ []

-- The offset of the next block.
abbrev pub behind : ℕ → Loaded → ℕ
behind position b = position + header_len + length b.payload

-- A number of consecutive data blocks from an offset on, up to the first load error.
unfoldable pub blocks_results : List ℕ → ℕ → ℕ → List (Result Loaded Error)
blocks_results body position zero = []
blocks_results body position (suc n) =
    then_blocks (load_at_result body position Data) (λ b. blocks_results body (behind position b) n)

-- The entries of a block, global seqno applied, or its load error.
abbrev pub entries_results : ℕ → Result Loaded Error → List (Result Entry Error)
entries_results g (Ok b) = map (lifted_result g) (entries_of b)
entries_results g (Err e) = Err e ∷ []

-- The entries left of a block and those of a number of blocks from an offset on, up to the first
-- error.
unfoldable pub entries_from : List ℕ → ℕ → List Entry → ℕ → ℕ → List (Result Entry Error)
entries_from body g es position count =
    up_to_error
    (map (lifted_result g) es ++ flat_map (entries_results g) (blocks_results body position count))

-- The results of a scan of a number of blocks; the first block is always read.
abbrev pub scan_results : List ℕ → ℕ → ℕ → List (Result Entry Error)
scan_results body count g = entries_from body g [] 0 (max 1 count)

-- The results of a scan of a table, by the block count of its meta block.
abbrev pub table_scan : OpenTable → List (Result Entry Error)
table_scan t = scan_results (body_of t.bytes) t.parts.facts.data_block_count t.global_seqno

-- Except for `OutOfMemory`, a call returned a source that yields these results.
abbrev pub ScanYields : {S : Type 0} (next : S → Option (Result Entry Error) → S → Type 0)
    → List (Result Entry Error) → Result S Error → Type 0
ScanYields next rs r = (stops : Error → Bool) → stops OutOfMemory ≡ true →
    IfOk r (λ s. YieldsExactly (answer_stops stops) next nowhere s rs)

-- After any error, a source yields nothing more.
abbrev pub EndsAtErrors : {S : Type 0} (next : S → Option (Result Entry Error) → S → Type 0)
    → Type 0
EndsAtErrors {S} next = (stops : Error → Bool) (s t : S) (e : Error) → next s (Some (Err e)) t →
    YieldsExactly (answer_stops stops) next nowhere t []

-- The error of a result.
abbrev pub fault_of : {X : Type 0} → Result X Error → Option Error
fault_of (Ok x) = None
fault_of (Err e) = Some e

-- The entries of the data block at an offset, and the offset of the next block.
abbrev pub block_result : List ℕ → ℕ → Result (List Entry × ℕ) Error
block_result body position =
    load_at_result body position Data >>= λ b. Ok (entries_of b, behind position b)

-- A scan: the bytes before the trailer, the entry lent, the entries left of the current block, and
-- the next block's offset. Also the number of blocks left, the global seqno, and the load counts.
pub record Scan : Type 0 where
  pub body : List ℕ
  pub lent : Option Entry
  pub entries : List Entry
  pub position : ℕ
  pub blocks : ℕ
  pub global_seqno : ℕ
  pub opened : Opened

-- The next block was loaded, and its entries come next.
abbrev pub OpensNextBlock : Scan → Scan → Type 0
OpensNextBlock s t = (es : List Entry) × (next : ℕ) × (block_result s.body s.position ≡ Ok (es, next))
    × (t ≡ record s {
      lent = None;
      entries = es;
      position = next;
      blocks = s.blocks - 1;
      opened = with_load Data s.opened;
    })

-- The results left of a scan.
abbrev pub scan_left : Scan → List (Result Entry Error)
scan_left s = entries_from s.body s.global_seqno s.entries s.position s.blocks

-- Nothing is lent.
abbrev pub unlend : Scan → Scan
unlend s = record s { lent = None }

-- Nothing is lent, and nothing is left to read.
abbrev pub ended : Scan → Scan
ended s = record s { lent = None; entries = []; blocks = 0 }

abbrev pub IsEndedScan : Scan → Type 0
IsEndedScan s = (s.entries ≡ []) × (s.blocks ≡ 0)

-- These are the results left, if the scan has ended or its reader stops at `OutOfMemory`.
abbrev pub ScanHas : (Error → Bool) → Scan → List (Result Entry Error) → Type 0
ScanHas stops s xs = (xs ≡ scan_left s) × (IsEndedScan s ⊎ (stops OutOfMemory ≡ true))

-- The block's first entry is lent, global seqno applied, or its overflow error ends the scan.
abbrev pub lend_first : Scan → List Entry → Result Entry Error → Result Bool Error × Scan
lend_first s others (Ok e) = (Ok true, record s { lent = Some e; entries = others })
lend_first s others (Err e) = (Err e, ended s)

-- The same for the entries left of the current block, if any.
abbrev pub lend_next : Scan → List Entry → Result Bool Error × Scan
lend_next s [] = (Ok false, unlend s)
lend_next s (e ∷ es) = lend_first s es (lifted_result s.global_seqno e)

-- The counts after a number of data block loads.
abbrev pub loads : ℕ → Opened → Opened
loads zero o = o
loads (suc n) o = with_load Data (loads n o)

-- Zero if an entry is left, otherwise this number.
abbrev pub unless_left : List Entry → ℕ → ℕ
unless_left [] n = n
unless_left (e ∷ es) n = 0

-- The number of blocks loaded after one: none if it has an entry or fails to load.
abbrev pub scan_loads_behind : Result (List Entry × ℕ) Error → (ℕ → ℕ) → ℕ
scan_loads_behind (Ok block) more = unless_left block.0 (more block.1)
scan_loads_behind (Err e) more = 0

-- The number of blocks from an offset on, up to the first that has an entry or fails to load.
unfoldable pub loads_from : List ℕ → ℕ → ℕ → ℕ
loads_from body position zero = 0
loads_from body position (suc n) =
    suc (scan_loads_behind (block_result body position) (λ next. loads_from body next n))

-- The number of blocks loaded for the next entry.
abbrev pub loads_of : Scan → ℕ
loads_of s = unless_left s.entries (loads_from s.body s.position s.blocks)

-- If the next block must be loaded, its errors that precede allocation are always returned.
abbrev pub FaultsAtBlock : Scan → Option (Result Entry Error) → Type 0
FaultsAtBlock s r =
    s.entries ≡ [] → 0 < s.blocks → (e : Error) → position_fault s.body s.position Data ≡ Some e →
    r ≡ Some (Err e)

-- If the next entry's seqno overflows, that error is always returned.
abbrev pub FaultsAtEntry : Scan → Option (Result Entry Error) → Type 0
FaultsAtEntry s r =
    (e : Entry) (es : List Entry) → s.entries ≡ e ∷ es → (f : Error) →
    lifted_result s.global_seqno e ≡ Err f → r ≡ Some (Err f)

-- One step yields the next result, and an error ends the scan for good. It counts each load and
-- makes exactly those needed, or fewer, but at least one of them, on an allocation failure.
pub record ScansNext (s : Scan) (r : Option (Result Entry Error)) (t : Scan) : Type 0 where
  pub answers : Answers (λ _. Unit {0}) ScanHas front_of s r t
  pub ends : MatchOption r (IsEndedScan t) (λ x. IfErr x (λ _. IsEndedScan t))
  pub early : FaultsAtBlock s r
  pub lifts : FaultsAtEntry s r
  pub count : ℕ
  pub counts : t.opened ≡ loads count s.opened
  pub within : count ≤ s.blocks
  pub exact : answer_stops is_memory r ≡ false → count ≡ loads_of s
  pub most : count ≤ loads_of s
  pub some : 0 < loads_of s → 0 < count
  pub falls : MatchOption r (Unit {0})
      (λ x. MatchResult x (λ _. count + t.blocks ≡ s.blocks) (λ _. Unit {0}))

-- One lending step has the result of an iterator step. An entry left of the current block always
-- comes, global seqno applied, or its overflow error.
pub record ScansLent (s : Scan) (r : Option (Result Entry Error)) (t : Scan) : Type 0 where
  pub next : ScansNext s r t
  pub there : (e : Entry) (es : List Entry) → s.entries ≡ e ∷ es
      → r ≡ Some (lifted_result s.global_seqno e)

-- A scan before its first step: only its first block was taken from the number of blocks.
pub record IsNewScan (body : List ℕ) (count g : ℕ) (s : Scan) : Type 0 where
  pub lent : s.lent ≡ None
  pub left : scan_left s ≡ scan_results body count g
  pub blocks : s.blocks ≡ count - 1

-- A bound on the number of items left.
abbrev pub scan_size : Scan → ℕ
scan_size s = length (scan_left s) + s.blocks

-- The scan of a list's table yields the list, global seqno applied. If the list has an entry,
-- opening the scan fails with `OutOfMemory` only.
abbrev pub ScansList : Result Scan Error → List Entry → ℕ → Type 0
ScansList r es g = MatchResult r
    (λ s. (stops : Error → Bool) → stops OutOfMemory ≡ true →
    YieldsExactly (answer_stops stops) ScansNext nowhere s (ok_results (lift es g)))
    (λ e. 0 < length es → e ≡ OutOfMemory)

-- The scan lends the list.
abbrev pub LendsList : Result Scan Error → List Entry → ℕ → Type 0
LendsList r es g = IfOk r (λ s. (stops : Error → Bool) → stops OutOfMemory ≡ true →
    YieldsExactly (answer_stops stops) ScansLent nowhere s (ok_results (lift es g)))
