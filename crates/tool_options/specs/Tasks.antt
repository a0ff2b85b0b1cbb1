-- The tasks of a command's arguments.
use Rattle.std.specs.Prelude.{◌≡◌, ◌⊎◌, ◌↔◌, ◌<◌, ◌≤◌, ◌^◌, ◌++◌, ◌∷◌, ℕ, List, [], Option, Some, None}
use Rattle.std.specs.Prelude.{IsTrue, codes, false, length, map, option_map, unwrap_or}
use Rattle.std.specs.Borrow.{Bor}
use Rattle.std.specs.Option.{SomeIff}
use Rattle.std.specs.Str.Parse.{IsNumeral, digits_value, without_leading_plus}
use Rattle.clap.specs.Words.{Row, Text, all_of, first_of, one_of}
use Rattle.tool_options.specs.declared.tasks.Task.{Task}
use Rattle.tool_options.specs.declared.tasks.Task.TheVariants as task
use Rattle.tool_options.specs.declared.tasks.WriteTask.{WriteTask}
use Rattle.tool_options.specs.declared.tasks.DumpTask.{DumpTask}
use Rattle.tool_options.specs.declared.tasks.GetTask.{GetTask}
use Rattle.tool_options.specs.declared.tasks.StatTask.{StatTask}
use Rattle.tool_options.specs.declared.tasks.CompactTask.{CompactTask}
use Rattle.tool_options.specs.declared.tasks.PackTask.{PackTask}
use Rattle.tool_options.specs.declared.tasks.TableArguments.{TableArguments}
use Rattle.tool_options.specs.declared.tasks.VerifyTask.{VerifyTask}

-- The texts of references.
abbrev pub texts_of : List (Bor Text) → List Text
texts_of = map (λ s. s.now)

-- The text of an optional reference.
abbrev pub text_in : Option (Bor Text) → Option Text
text_in = option_map (λ s. s.now)

-- The optional text spells the optional number, of so many bits.
abbrev pub Spells : ℕ → Option Text → Option ℕ → Type 0
Spells bits None number = number ≡ None
Spells bits (Some text) number = SomeIff number
    (IsNumeral 10 (without_leading_plus text)
    × (digits_value 10 (without_leading_plus text) < 2 ^ bits))
    (digits_value 10 (without_leading_plus text))

-- The text spells the filter's bits: none, or a number from 1 to 100.
abbrev pub SpellsBits : Text → ℕ → Type 0
SpellsBits text bits = ((text ≡ codes "none") × (bits ≡ 0))
    ⊎ (Spells 32 (Some text) (Some bits) × (1 ≤ bits) × (bits ≤ 100))

-- The positional words.
abbrev pub named_files : List Row → List Text
named_files rows = unwrap_or (all_of (codes "files") rows) []

-- The flag is set.
abbrev pub Has : List Row → Text → Type 0
Has rows name = first_of name rows ≡ Some (codes "true")

-- The options of new tables.
pub record AsksForTables (rows : List Row) (t : TableArguments) : Type 0 where
  pub partitioned : IsTrue t.partitioned ↔ (first_of (codes "index") rows ≡ Some (codes "partitioned"))
  pub filter : (text : Text) × (first_of (codes "filter") rows ≡ Some text) × SpellsBits text t.filter_bits
  pub block_size : Spells 32 (one_of (codes "block-size") rows) (Some t.block_size)
  pub partition_size : Spells 32 (one_of (codes "partition-size") rows) (Some t.partition_size)
  pub level : Spells 8 (one_of (codes "level") rows) (Some t.level)
  pub target : Spells 64 (one_of (codes "target") rows) t.target

pub record AsksToWrite (rows : List Row) (t : WriteTask) : Type 0 where
  pub file : first_of (codes "file") rows ≡ Some t.file.now
  pub tables : AsksForTables rows t.tables
  pub sort : IsTrue t.sort ↔ Has rows (codes "sort")
  pub json : IsTrue t.json ↔ Has rows (codes "json")

-- A snapshot is given only for files that are read together.
pub record AsksToDump (rows : List Row) (t : DumpTask) : Type 0 where
  pub files : texts_of t.files.items ≡ named_files rows
  pub from : text_in t.from ≡ first_of (codes "from") rows
  pub to : text_in t.to ≡ first_of (codes "to") rows
  pub reverse : IsTrue t.reverse ↔ Has rows (codes "reverse")
  pub limit : Spells 64 (one_of (codes "limit") rows) t.limit
  pub merged : IsTrue t.merged ↔ Has rows (codes "merged")
  pub at : Spells 64 (one_of (codes "at") rows) t.at
  pub together : t.merged ≡ false → t.at ≡ None
  pub json : IsTrue t.json ↔ Has rows (codes "json")

-- The key is the last word, and the files are those before it, one or more.
pub record AsksToGet (rows : List Row) (t : GetTask) : Type 0 where
  pub files : texts_of t.files.items ++ t.key.now ∷ [] ≡ named_files rows
  pub some : 1 ≤ length t.files.items
  pub at : Spells 64 (one_of (codes "at") rows) t.at
  pub loads : IsTrue t.loads ↔ Has rows (codes "loads")
  pub json : IsTrue t.json ↔ Has rows (codes "json")

pub record AsksForStat (rows : List Row) (t : StatTask) : Type 0 where
  pub files : texts_of t.files.items ≡ named_files rows
  pub json : IsTrue t.json ↔ Has rows (codes "json")

pub record AsksToVerify (rows : List Row) (t : VerifyTask) : Type 0 where
  pub files : texts_of t.files.items ≡ named_files rows
  pub json : IsTrue t.json ↔ Has rows (codes "json")

pub record AsksToCompact (rows : List Row) (t : CompactTask) : Type 0 where
  pub files : texts_of t.files.items ≡ named_files rows
  pub folder : first_of (codes "to") rows ≡ Some t.folder.now
  pub watermark : Spells 64 (one_of (codes "watermark") rows) (Some t.watermark)
  pub evict : IsTrue t.evict ↔ Has rows (codes "evict")
  pub zero : IsTrue t.zero ↔ Has rows (codes "zero")
  pub tables : AsksForTables rows t.tables
  pub json : IsTrue t.json ↔ Has rows (codes "json")

pub record AsksToPack (rows : List Row) (t : PackTask) : Type 0 where
  pub files : texts_of t.files.items ≡ named_files rows
  pub json : IsTrue t.json ↔ Has rows (codes "json")

-- The command of this name with these arguments asks for the task.
abbrev pub AsksFor : Text → List Row → Task → Type 0
AsksFor name rows (task.Write t) = (name ≡ codes "write") × AsksToWrite rows t
AsksFor name rows (task.Dump t) = (name ≡ codes "dump") × AsksToDump rows t
AsksFor name rows (task.Get t) = (name ≡ codes "get") × AsksToGet rows t
AsksFor name rows (task.Stat t) = (name ≡ codes "stat") × AsksForStat rows t
AsksFor name rows (task.Verify t) = (name ≡ codes "verify") × AsksToVerify rows t
AsksFor name rows (task.Compact t) = (name ≡ codes "compact") × AsksToCompact rows t
AsksFor name rows (task.Pack t) = (name ≡ codes "pack") × AsksToPack rows t
