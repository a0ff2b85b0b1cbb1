use Rattle.std.proofs.Common.{◌≡◌}
use Rattle.std.specs.Prelude.{string_bytes}
use Rattle.sst_tool.specs.files.NewFolders.{Clears}
use Rattle.sst_tool.specs.files.Steps.{Removes}
use Rattle.sst_tool.proofs.Left.{clears_table, does_more}
use Rattle.sst_tool.proofs.files.left.remove_tables.Goals as goal

pub returns-then-number-ge-NAMES : goal.returns-then-number-ge-NAMES
returns-then-number-ge-NAMES g c =
    does_more (Clears (λ p. p ≡ c.args.folder.now)) (Removes (λ p. p ≡ c.as_str.result.now)) (g.P.Place.done c.args.place.now) (g.P.Place.done c.loop-number.place) (g.P.Place.done c.remove_file.new.place)
    (clears_table c.args.folder.now c.as_str.result.now (string_bytes c.in-Ok.path) c.loop-number.number c.as_str.ensures.value c.in-Ok.ensures) c.loop-number.invariant c.remove_file.ensures

pub loop-number-preserved : goal.loop-number-preserved
loop-number-preserved g c =
    does_more (Clears (λ p. p ≡ c.args.folder.now)) (Removes (λ p. p ≡ c.as_str.result.now)) (g.P.Place.done c.args.place.now) (g.P.Place.done c.loop-number.place) (g.P.Place.done c.remove_file.new.place)
    (clears_table c.args.folder.now c.as_str.result.now (string_bytes c.in-Ok.path) c.loop-number.number c.as_str.ensures.value c.in-Ok.ensures) c.loop-number.invariant c.remove_file.ensures

pub returns-else-not-remove_file : goal.returns-else-not-remove_file
returns-else-not-remove_file g c =
    does_more (Clears (λ p. p ≡ c.args.folder.now)) (Removes (λ p. p ≡ c.as_str.result.now)) (g.P.Place.done c.args.place.now) (g.P.Place.done c.loop-number.place) (g.P.Place.done c.remove_file.new.place)
    (clears_table c.args.folder.now c.as_str.result.now (string_bytes c.in-Ok.path) c.loop-number.number c.as_str.ensures.value c.in-Ok.ensures) c.loop-number.invariant c.remove_file.ensures
