use Rattle.std.proofs.Common.{◌∙◌}
use Rattle.sst_tool.specs.files.Numbered.{numbered_path}
use Rattle.sst_tool.proofs.FilesMore.{same_files}
use Rattle.sst_tool.specs.make.TableFiles.{table_file_name}
use Rattle.sst_tool.proofs.make.write.files_of.Goals as goal

pub returns-clause-files : goal.returns-clause-files
returns-clause-files g c =
    c.in_ok-table_files.ensures ∙ same_files (numbered_path c.name_of.result) (table_file_name c.args.path.now c.args.target) c.name_of.ensures.paths 1 _
