-- The results of commands that show entries.
use denote.Ref.{Bor}
use Rattle.std.specs.Prelude.{◌≡◌, ◌⊎◌, ◌-◌, ◌^◌, ℕ, Bool, List, [], ◌∷◌, Option, None}
use Rattle.std.specs.Prelude.{Some, false, length, map, true}
use Rattle.std.specs.Option.{option_map, option_map_or}
use Rattle.std.specs.List.{AllByRecursion}
use Rattle.std.specs.Global.{Global}
use Rattle.sst_entries.specs.Stream.{ok_results}
use Rattle.lsm_sorted.specs.merge.Union.{Ascends, entries_among}
use Rattle.lsm_sorted.specs.version.Run.{IsInOrder}
use Rattle.lsm_runs.specs.RunLists.{RunsHoldLists}
use Rattle.lsm_run_parts.specs.RunParts.{range_of}
use Rattle.lsm_readers.specs.point.Table.{OpenTable}
use Rattle.sst_entries.specs.Entry.{Entry}
use Rattle.sst_tool.specs.files.Opened.{AreOpenedFrom, HasContent, IsToldByBytes}
use Rattle.sst_tool.specs.lines.Escapes.{WordMeans}
use Rattle.tool_options.specs.declared.tasks.DumpTask.{DumpTask}
use Rattle.tool_options.specs.declared.tasks.GetTask.{GetTask}
use Rattle.lsm_files.specs.Reads.{AreKnown, ByteAccess}
use Rattle.sst_tool.specs.show.Files.{runs_in}
use Rattle.sst_tool.specs.show.Gets.{GetsFrom}
use Rattle.sst_tool.specs.show.Merged.{PrintsMerged, merged_entries, newest_found, newest_in}
use Rattle.sst_tool.specs.show.Merged.{ranges_in}
use Rattle.sst_tool.specs.show.Read.{dumped, readable}
use Rattle.sst_tool.specs.declared.show.dumps.DumpOptions.{DumpOptions}
use Rattle.sst_tool.specs.declared.show.gets.GetOptions.{GetOptions}
use Rattle.sst_tool.specs.declared.show.named.NamedTable.{NamedTable}
use Rattle.sst.specs.Options.{format_of}

-- Each file was opened as the table of its own bytes, with its name.
pub record AreNamed (content : List ℕ → Option (List ℕ)) (names : List (Bor (List ℕ)))
    (files : List (NamedTable Global)) : Type 0 where
  pub named : map (λ f. f.name) files ≡ names
  pub opened : AreOpenedFrom false content names (map (λ f. f.table) files)

-- These are the options of the task.
pub record AsksGet (task : GetTask) (o : GetOptions) : Type 0 where
  pub key : WordMeans task.key.now o.key.now
  pub at : o.at ≡ task.at
  pub loads : o.loads ≡ task.loads
  pub format : o.format ≡ format_of task.json

-- The task's files are read together, and the result is whether the key has a visible version. Of
-- files whose bytes are unknown, nothing more is said.
pub record DoesGet (reads : ByteAccess) (task : GetTask) (content : List ℕ → Option (List ℕ))
    (there : Bool) : Type 0 where
  pub options : GetOptions
  pub asked : AsksGet task options
  pub returned : AreKnown reads → GetsFrom options content task.files.items there

-- The optional key is what the optional word means.
abbrev pub MeansKey : Option (Bor (List ℕ)) → Option (List ℕ) → Type 0
MeansKey None None = Unit {0}
MeansKey (Some word) (Some key) = WordMeans word.now key
MeansKey None (Some key) = ⊥
MeansKey (Some word) None = ⊥

-- The bytes of an optional borrowed key.
abbrev pub lent_key : Option (Bor (List ℕ)) → Option (List ℕ)
lent_key key = option_map (λ k. k.now) key

-- These are the options of the task.
pub record AsksDump (task : DumpTask) (o : DumpOptions) : Type 0 where
  pub from : MeansKey task.from (lent_key o.from)
  pub to : MeansKey task.to (lent_key o.to)
  pub reverse : o.reverse ≡ task.reverse
  pub format : o.format ≡ format_of task.json

-- The entries of the files in the range are read, up to this number in all; no error is skipped,
-- and the rest is what remains of the number.
abbrev pub DumpsEach : DumpOptions → (List ℕ → Option (List ℕ)) → List (Bor (List ℕ))
    → (left rest : ℕ) → Type 0
DumpsEach o content [] left rest = rest ≡ left
DumpsEach o content (name ∷ names) left rest = ((left ≡ 0) × (rest ≡ 0))
    ⊎ ((t : OpenTable) × IsToldByBytes false t × HasContent (content name.now) t
    × ((es : List Entry) × (dumped o.reverse left (readable o t) ≡ ok_results es))
    × DumpsEach o content names (left - length (dumped o.reverse left (readable o t))) rest)

-- The most entries of the task, or no limit.
abbrev pub most_of : DumpTask → ℕ
most_of task = option_map_or (λ n. n) task.limit (2 ^ 64 - 1)

-- The snapshot of the task, or all sequence numbers.
abbrev pub snapshot_of : DumpTask → ℕ
snapshot_of task = option_map_or (λ n. n) task.at (2 ^ 64 - 1)

-- The files are read together. Whatever their bytes, what is read from the front are entries; if
-- they store lists, the newest visible versions of all lists in the range are printed.
pub record DumpsMerged (o : DumpOptions) (seqno most : ℕ) (content : List ℕ → Option (List ℕ))
    (names : List (Bor (List ℕ))) : Type 0 where
  pub files : List (NamedTable Global)
  pub named : AreNamed content names files
  pub count : ℕ
  pub list : (lists : List (List (List Entry))) → RunsHoldLists (runs_in files) lists
      → count ≡ length (merged_entries o.reverse most (newest_in o seqno lists))
  pub returned : o.reverse ≡ false → AllByRecursion (IsInOrder range_of) (runs_in files)
      → AllByRecursion (λ rs. Ascends (entries_among rs)) (ranges_in o (runs_in files))
      → PrintsMerged most (newest_found o seqno (runs_in files)) count

-- The entries of the task's files are read, one file after another or all together.
pub record DoesDump (task : DumpTask) (content : List ℕ → Option (List ℕ)) : Type 0 where
  pub options : DumpOptions
  pub asked : AsksDump task options
  pub each : task.merged ≡ false
      → (rest : ℕ) × DumpsEach options content task.files.items (most_of task) rest
  pub merged : task.merged ≡ true
      → DumpsMerged options (snapshot_of task) (most_of task) content task.files.items
