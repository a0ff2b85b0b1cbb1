-- A table that stores a list.
use Rattle.std.specs.Prelude.{ℕ, List}
use Rattle.sst_blocks.specs.declared.version.TableVersion.{TableVersion}
use Rattle.sst_entries.specs.Entry.{Entry}
use Rattle.sst_entries.specs.Strict.{IsStrict}
use Rattle.sst_blocks.specs.table.File.{IsFile}
use Rattle.sst_blocks.specs.table.Fits.{Fits}
use Rattle.sst_blocks.specs.declared.table.options.Options.{Options}
use Rattle.sst_blocks.specs.declared.table.label.Label.{Label}

-- the bytes are a table of a list, with any table info, options and version; the list is strictly
-- sorted, and all values fit
pub record IsTable (bytes : List ℕ) (es : List Entry) : Type 0 where
  pub label : Label
  pub options : Options
  pub version : TableVersion
  pub spills : List ℕ
  pub file : IsFile version bytes label options spills es
  pub strict : IsStrict es
  pub fits : Fits version label options file.content
