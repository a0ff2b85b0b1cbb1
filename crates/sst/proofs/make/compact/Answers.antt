use denote.Ref.{Bor}
use Rattle.std.proofs.Common.{ℕ, List, inl, subst}
use Rattle.sst_tool.specs.make.NotCompacted.{RefusesToCompact}
use Rattle.std.specs.Global.{Global}
use Rattle.sst.specs.Making.{RefusesCompact}
use Rattle.sst_tool.specs.declared.files.error.ToolError.{ToolError}
use Rattle.sst.proofs.Failures.{passed_failure}
use Rattle.sst.proofs.make.compact.Goals as goal

pub returns-in_err-made-clause-refused : goal.returns-in_err-made-clause-refused
returns-in_err-made-clause-refused g c =
    let task = c.args.task.now in
    let content = g.P.Place.content c.args.place.now in
    let there = g.P.Place.there c.args.place.now in
    let known = g.P.Place.done c.args.place.now in
    let new = g.P.Place.done c.compact_files.new.place in
    let options = c.compact_options-options.result in
    let e = c.in_err-made.field-0.0 in
    passed_failure (λ (f : ToolError). RefusesCompact task content there known f new)
    c.from_residual.result e c.from_residual.ensures.1 (inl (
      options,
      c.compact_options-options.ensures,
      subst (λ (files : List (Bor (List ℕ))). RefusesToCompact Global options content files
          task.folder.now (there task.folder.now) known e new) c.as_slice-files.ensures.value
          c.in_err-made.ensures.refused,
    ))
